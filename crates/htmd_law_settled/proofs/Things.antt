-- What is in the blocks of a title, in order: things to see, and anchors.
use Rattle.std.specs.Prelude.{ℕ, Bool, true, not, ◌&&◌, List, [], ◌∷◌, ◌++◌, map}
use Rattle.std.specs.List.{flat_map}
use Rattle.htmd_document.specs.Documents.{Inline, text, code, formatted, link, image, anchor, line_break, task}
use Rattle.htmd_document.specs.Documents.{Inlines, no_inlines, inline, Block, paragraph, heading, code_block, quote}
use Rattle.htmd_document.specs.Documents.{thematic_break, list, table, element, tags, Blocks, no_blocks, block}
use Rattle.htmd_document.specs.Documents.{Items, no_items, item}
use Rattle.htmd_law_documents.specs.DocumentTexts.{visible}

pub data Thing : Type 0 where
  a_thing : Thing
  an_anchor : Thing

-- no anchor comes behind a thing; whether one came before these
abbrev pub in_order : Bool → List Thing → Bool
in_order is_behind [] = true
in_order is_behind (a_thing ∷ things) = in_order true things
in_order is_behind (an_anchor ∷ things) = not is_behind && in_order is_behind things

-- each visible character is one
abbrev pub things_in : List ℕ → List Thing
things_in s = map (λ c. a_thing) (visible s)

abbrev mutual
  -- an image is one itself
  pub things_of_inline : Inline → List Thing
  things_of_inline (text s) = things_in s
  things_of_inline (code s) = things_in s
  things_of_inline (formatted format content) = things_of_line content
  things_of_inline (link address title content) = things_of_line content
  things_of_inline (image address title description) = a_thing ∷ things_in description
  things_of_inline (anchor id) = an_anchor ∷ []
  things_of_inline line_break = []
  things_of_inline (task is_checked) = []

  pub things_of_line : Inlines → List Thing
  things_of_line no_inlines = []
  things_of_line (inline x xs) = things_of_inline x ++ things_of_line xs

abbrev pub things_of_cells : List Inlines → List Thing
things_of_cells cells = flat_map things_of_line cells

abbrev mutual
  pub things_of_block : Block → List Thing
  things_of_block (paragraph content) = things_of_line content
  things_of_block (heading level content) = things_of_line content
  things_of_block (code_block language s) = things_in s
  things_of_block (quote content) = things_of content
  things_of_block thematic_break = []
  things_of_block (element name attributes content) = things_of content
  things_of_block (tags s) = []
  things_of_block (list start is_tight items) = things_of_items items
  things_of_block (table alignments header rows) = things_of_cells header ++ flat_map things_of_cells rows

  pub things_of : Blocks → List Thing
  things_of no_blocks = []
  things_of (block b bs) = things_of_block b ++ things_of bs

  pub things_of_items : Items → List Thing
  things_of_items no_items = []
  things_of_items (item bs items) = things_of bs ++ things_of_items items
