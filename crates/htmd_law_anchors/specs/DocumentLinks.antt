-- The links of a document, each with its address.
use Rattle.std.specs.Prelude.{ℕ, List, [], ◌∷◌}
use Rattle.htmd_document.specs.Documents.{Inline, text, code, formatted, link, image, anchor, line_break, task}
use Rattle.htmd_document.specs.Documents.{Inlines, no_inlines, inline, Block, paragraph, heading, code_block, quote}
use Rattle.htmd_document.specs.Documents.{element, tags}
use Rattle.htmd_document.specs.Documents.{thematic_break, list, table, Blocks, no_blocks, block, Items, no_items, item}

abbrev mutual
  -- each link in it has such an address
  pub LinksOf : (List ℕ → Type 0) → Inline → Type 0
  LinksOf Is (text s) = Unit {0}
  LinksOf Is (code s) = Unit {0}
  LinksOf Is (formatted format content) = LinksInLine Is content
  LinksOf Is (link address title content) = Is address × LinksInLine Is content
  LinksOf Is (image address title description) = Unit {0}
  LinksOf Is (anchor id) = Unit {0}
  LinksOf Is line_break = Unit {0}
  LinksOf Is (task is_checked) = Unit {0}

  pub LinksInLine : (List ℕ → Type 0) → Inlines → Type 0
  LinksInLine Is no_inlines = Unit {0}
  LinksInLine Is (inline x xs) = LinksOf Is x × LinksInLine Is xs

abbrev pub LinksInCells : (List ℕ → Type 0) → List Inlines → Type 0
LinksInCells Is [] = Unit {0}
LinksInCells Is (cell ∷ cells) = LinksInLine Is cell × LinksInCells Is cells

abbrev pub LinksInRows : (List ℕ → Type 0) → List (List Inlines) → Type 0
LinksInRows Is [] = Unit {0}
LinksInRows Is (row ∷ rows) = LinksInCells Is row × LinksInRows Is rows

abbrev mutual
  pub LinksInBlock : (List ℕ → Type 0) → Block → Type 0
  LinksInBlock Is (paragraph content) = LinksInLine Is content
  LinksInBlock Is (heading level content) = LinksInLine Is content
  LinksInBlock Is (code_block language s) = Unit {0}
  LinksInBlock Is (quote content) = LinksInBlocks Is content
  LinksInBlock Is thematic_break = Unit {0}
  LinksInBlock Is (element name attributes content) = LinksInBlocks Is content
  LinksInBlock Is (tags s) = Unit {0}
  LinksInBlock Is (list start is_tight items) = LinksInItems Is items
  LinksInBlock Is (table alignments header rows) = LinksInCells Is header × LinksInRows Is rows

  pub LinksInBlocks : (List ℕ → Type 0) → Blocks → Type 0
  LinksInBlocks Is no_blocks = Unit {0}
  LinksInBlocks Is (block b bs) = LinksInBlock Is b × LinksInBlocks Is bs

  pub LinksInItems : (List ℕ → Type 0) → Items → Type 0
  LinksInItems Is no_items = Unit {0}
  LinksInItems Is (item bs items) = LinksInBlocks Is bs × LinksInItems Is items
