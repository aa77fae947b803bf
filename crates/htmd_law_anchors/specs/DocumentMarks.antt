-- What is seen of a document, in order: its visible characters, and its anchors.
use Rattle.std.specs.Prelude.{ℕ, List, [], ◌∷◌, ◌++◌, map}
use Rattle.std.specs.List.{flat_map}
use Rattle.htmd_document.specs.Documents.{Inline, text, code, formatted, link, image, anchor, line_break, task}
use Rattle.htmd_document.specs.Documents.{Inlines, no_inlines, inline, Block, paragraph, heading, code_block, quote}
use Rattle.htmd_document.specs.Documents.{element, tags}
use Rattle.htmd_document.specs.Documents.{thematic_break, list, table, Blocks, no_blocks, block, Items, no_items, item}
use Rattle.htmd_law_documents.specs.DocumentTexts.{visible}

-- a visible character, or an anchor
pub data Mark : Type 0 where
  letter : (c : ℕ) → Mark
  place : (id : List ℕ) → Mark

-- the visible characters of a text
abbrev pub letters : List ℕ → List Mark
letters s = map letter (visible s)

abbrev mutual
  pub marks_of_inline : Inline → List Mark
  marks_of_inline (text s) = letters s
  marks_of_inline (code s) = letters s
  marks_of_inline (formatted format content) = marks_of_line content
  marks_of_inline (link address title content) = marks_of_line content
  marks_of_inline (image address title description) = letters description
  marks_of_inline (anchor id) = place id ∷ []
  marks_of_inline line_break = []
  marks_of_inline (task is_checked) = []

  pub marks_of_line : Inlines → List Mark
  marks_of_line no_inlines = []
  marks_of_line (inline x xs) = marks_of_inline x ++ marks_of_line xs

-- the cells of a row
abbrev pub marks_of_cells : List Inlines → List Mark
marks_of_cells cells = flat_map marks_of_line cells

abbrev mutual
  pub marks_of_block : Block → List Mark
  marks_of_block (paragraph content) = marks_of_line content
  marks_of_block (heading level content) = marks_of_line content
  marks_of_block (code_block language s) = letters s
  marks_of_block (quote content) = marks_of_blocks content
  marks_of_block thematic_break = []
  marks_of_block (element name attributes content) = marks_of_blocks content
  marks_of_block (tags s) = []
  marks_of_block (list start is_tight items) = marks_of_items items
  marks_of_block (table alignments header rows) = marks_of_cells header ++ flat_map marks_of_cells rows

  pub marks_of_blocks : Blocks → List Mark
  marks_of_blocks no_blocks = []
  marks_of_blocks (block b bs) = marks_of_block b ++ marks_of_blocks bs

  pub marks_of_items : Items → List Mark
  marks_of_items no_items = []
  marks_of_items (item bs items) = marks_of_blocks bs ++ marks_of_items items
