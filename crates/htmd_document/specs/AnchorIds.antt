-- The ids of a document's anchors: each is a place of its own.
use Rattle.std.specs.Prelude.{ℕ, Bool, List, [], ◌∷◌, ◌++◌}
use Rattle.std.specs.List.{flat_map}
use Rattle.htmd_lexical.specs.CharacterClasses.{are_distinct}
use Rattle.htmd_document.specs.Documents.{Inline, formatted, link, anchor}
use Rattle.htmd_document.specs.Documents.{Inlines, no_inlines, inline, Block, paragraph, heading, quote, element}
use Rattle.htmd_document.specs.Documents.{list, table, Blocks, no_blocks, block, Items, no_items, item}

-- in order
abbrev mutual
  pub ids_of_inline : Inline → List (List ℕ)
  ids_of_inline (anchor id) = id ∷ []
  ids_of_inline (formatted f content) = ids_of_line content
  ids_of_inline (link address title content) = ids_of_line content
  ids_of_inline x = []

  pub ids_of_line : Inlines → List (List ℕ)
  ids_of_line no_inlines = []
  ids_of_line (inline x rest) = ids_of_inline x ++ ids_of_line rest

abbrev pub ids_of_cells : List Inlines → List (List ℕ)
ids_of_cells cells = flat_map ids_of_line cells

abbrev mutual
  pub ids_of_block : Block → List (List ℕ)
  ids_of_block (paragraph content) = ids_of_line content
  ids_of_block (heading level content) = ids_of_line content
  ids_of_block (quote content) = ids_of_blocks content
  ids_of_block (list start is_tight items) = ids_of_items items
  ids_of_block (table alignments header rows) = ids_of_cells header ++ flat_map ids_of_cells rows
  ids_of_block (element name attributes content) = ids_of_blocks content
  ids_of_block b = []

  pub ids_of_blocks : Blocks → List (List ℕ)
  ids_of_blocks no_blocks = []
  ids_of_blocks (block first rest) = ids_of_block first ++ ids_of_blocks rest

  pub ids_of_items : Items → List (List ℕ)
  ids_of_items no_items = []
  ids_of_items (item first rest) = ids_of_blocks first ++ ids_of_items rest

-- no two anchors have the same id
abbrev pub has_unique_ids : Blocks → Bool
has_unique_ids document = are_distinct (ids_of_blocks document)
