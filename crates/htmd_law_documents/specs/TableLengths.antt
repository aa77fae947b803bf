-- How long the header of a table is.
use Rattle.std.specs.Prelude.{Bool, true, ◌==◌, ◌&&◌, ◌||◌, List, length}
use Rattle.std.specs.List.{list_any}
use Rattle.htmd_document.specs.Documents.{Inlines, Block, quote, list, table, element, Blocks, no_blocks, block}
use Rattle.htmd_document.specs.Documents.{Items, no_items, item}
use Rattle.htmd_document.specs.NormalDocuments.{ends_filled}

-- the header is as long as the longest of the rows and of itself without empty cells at its end
abbrev pub has_right_length : List Inlines → List (List Inlines) → Bool
has_right_length header rows = ends_filled header || list_any (λ cells. length cells == length header) rows

-- so it is in each table
abbrev mutual
  pub has_right_tables : Block → Bool
  has_right_tables (quote content) = have_right_tables content
  has_right_tables (list start is_tight items) = items_have_right_tables items
  has_right_tables (table alignments header rows) = has_right_length header rows
  has_right_tables (element name attributes content) = have_right_tables content
  has_right_tables b = true

  pub have_right_tables : Blocks → Bool
  have_right_tables no_blocks = true
  have_right_tables (block first rest) = has_right_tables first && have_right_tables rest

  pub items_have_right_tables : Items → Bool
  items_have_right_tables no_items = true
  items_have_right_tables (item first rest) = have_right_tables first && items_have_right_tables rest
