-- What the code has written so far, for the contracts of private functions.
use Rattle.std.specs.Prelude.{ℕ, List, map, Vec}
use Rattle.std.specs.declared.alloc.Global.{Global}
use Rattle.htmd_document.specs.declared.document.Block.{Block}
use Rattle.htmd_document.specs.Documents as value
use Rattle.htmd_document.specs.DocumentViews.{blocks_of, inlines_of}
use Rattle.htmd_document.specs.declared.document.Inline.{Inline}
use Rattle.htmd_commonmark.specs.declared.blocks.BlockWriter.{BlockWriter}
use Rattle.htmd_commonmark.specs.Pages as page
use Rattle.htmd_commonmark.specs.Pages.{Page}
use Rattle.htmd_commonmark.specs.WrittenText.{Written, written_of}

-- the lines, and the definitions of links
pub record Output : Type 0 where
  pub page : Page
  pub definitions : List (List ℕ)

abbrev pub output_of : BlockWriter → Output
output_of w = record { page = w.lines; definitions = (written_of w.inlines).definitions }

-- with this text behind, and these definitions of links
abbrev pub put_text : Output → List ℕ → List (List ℕ) → Output
put_text o s definitions = record { page = page.wrote o.page s; definitions = definitions }

abbrev pub put : Output → Written → Output
put o w = put_text o w.text w.definitions

-- the items of a list, and the cells of a row and of rows
abbrev pub all_items_of : List (Vec Block Global) → value.Items
all_items_of items = value.items_of (map (λ bs. blocks_of bs.items) items)

abbrev pub cells_of : List (Vec Inline Global) → List value.Inlines
cells_of cells = map (λ cell. inlines_of cell.items) cells

abbrev pub rows_of : List (Vec (Vec Inline Global) Global) → List (List value.Inlines)
rows_of rows = map (λ row. cells_of row.items) rows
