-- Pieces joined in order.
use Rattle.std.specs.Prelude.{true, false, List, [], ◌∷◌, ◌++◌}
use Rattle.htmd_lexical.specs.Characters.{line_feed}
use Rattle.htmd_document.specs.Documents.{Inline, Inlines, no_inlines, inline, inlines_of, Block, paragraph}
use Rattle.htmd_document.specs.Documents.{code_block}
use Rattle.htmd_document.specs.Documents.{quote, list, table, Blocks, no_blocks, block, Items, no_items, item}
use Rattle.htmd_chunks.specs.Pieces.{Piece}
use Rattle.htmd_chunks.specs.Words.{with_word}
use Rattle.htmd_chunks.specs.declared.joint.Joint.{Joint}
use Rattle.htmd_chunks.specs.declared.joint.Joint.TheVariants as joint

abbrev pub listed_inlines : Inlines → List Inline
listed_inlines no_inlines = []
listed_inlines (inline x rest) = x ∷ listed_inlines rest

-- one after the other

abbrev pub blocks_behind : Blocks → Blocks → Blocks
blocks_behind no_blocks bs = bs
blocks_behind (block b rest) bs = block b (blocks_behind rest bs)

abbrev pub items_behind : Items → Items → Items
items_behind no_items is = is
items_behind (item bs rest) is = item bs (items_behind rest is)

-- Two runs of blocks where the last of the first and the first of the second are one, in the way that the names say;
-- without names they stand one after the other.
abbrev mutual
  pub join : List Joint → Blocks → Blocks → Blocks
  join [] a b = blocks_behind a b
  join (name ∷ within) no_blocks b = b
  join (name ∷ within) (block last no_blocks) no_blocks = block last no_blocks
  join (name ∷ within) (block last no_blocks) (block first rest) = block (join_block name within last first) rest
  join (name ∷ within) (block first (block next others)) b =
      block first (join (name ∷ within) (block next others) b)

  pub join_block : Joint → List Joint → Block → Block → Block
  join_block joint.Quote within (quote a) (quote b) = quote (join within a b)
  join_block joint.Table within (table alignments header a) (table alignments' header' b) =
      table alignments header (a ++ b)
  join_block joint.Code within (code_block language a) (code_block language' b) =
      code_block language (a ++ line_feed ∷ b)
  join_block joint.Paragraph within (paragraph a) (paragraph b) =
      paragraph (inlines_of (with_word (listed_inlines a) (listed_inlines b)))
  join_block joint.List within (list start is_tight a) (list start' is_tight' b) =
      list start true (join_items within a b)
  join_block joint.LooseList within (list start is_tight a) (list start' is_tight' b) =
      list start false (join_items within a b)
  join_block name within a b = a

  -- the items one after the other, or the last and the first of them one
  pub join_items : List Joint → Items → Items → Items
  join_items (joint.Item ∷ within) no_items b = b
  join_items (joint.Item ∷ within) (item last no_items) no_items = item last no_items
  join_items (joint.Item ∷ within) (item last no_items) (item first rest) = item (join within last first) rest
  join_items (joint.Item ∷ within) (item a (item next others)) b =
      item a (join_items (joint.Item ∷ within) (item next others) b)
  join_items within a b = items_behind a b

abbrev pub joined_behind : Blocks → List Piece → Blocks
joined_behind document [] = document
joined_behind document (p ∷ pieces) = joined_behind (join p.continues document p.blocks) pieces

-- all pieces
abbrev pub joined : List Piece → Blocks
joined pieces = joined_behind no_blocks pieces
