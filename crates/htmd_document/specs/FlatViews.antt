-- What the source keeps of flat documents.
use Rattle.std.specs.Prelude.{ℕ, List, [], ◌∷◌, ◌++◌, map, string_bytes}
use Rattle.htmd_lexical.specs.Characters.{line_feed}
use Rattle.htmd_document.specs.Documents as value
use Rattle.htmd_document.specs.Documents.{Blocks, block}
use Rattle.htmd_document.specs.DocumentViews.{block_of}
use Rattle.htmd_document.specs.FlatDocuments.{line_before, flat_block}
use Rattle.htmd_document.specs.declared.flat.FlatBlock.{FlatBlock}
use Rattle.htmd_document.specs.declared.flat.FlatBlock.TheVariants as flat
use Rattle.htmd_document.specs.declared.flat.Flattener.{Flattener}

abbrev pub flat_of : FlatBlock → value.Block
flat_of (flat.Tags s) = value.tags (string_bytes s)
flat_of (flat.Block b) = flat_block (block_of b.now)

abbrev pub flat_blocks_of : List FlatBlock → Blocks
flat_blocks_of bs = value.blocks_of (map flat_of bs)

-- flat blocks so far, and the lines of tags behind them
pub record Flat : Type 0 where
  pub done : List value.Block
  pub lines : List ℕ

abbrev pub flat_in : Flattener → Flat
flat_in f = record { done = map flat_of f.blocks.items; lines = string_bytes f.lines }

abbrev pub lines_before : List ℕ → Blocks → Blocks
lines_before [] rest = rest
lines_before (b ∷ s) rest = line_before (b ∷ s) rest

abbrev pub blocks_before : List value.Block → Blocks → Blocks
blocks_before [] rest = rest
blocks_before (b ∷ bs) rest = block b (blocks_before bs rest)

-- all of it before other flat blocks
abbrev pub before : Flat → Blocks → Blocks
before f rest = blocks_before f.done (lines_before f.lines rest)

-- what stands before a line of tags
abbrev pub line_begun : List ℕ → List ℕ
line_begun [] = []
line_begun (b ∷ s) = b ∷ s ++ line_feed ∷ []

abbrev pub with_line : Flat → List ℕ → Flat
with_line f line = record { done = f.done; lines = line_begun f.lines ++ line }

-- the lines as a block
abbrev pub tags_of : List ℕ → List value.Block
tags_of [] = []
tags_of (b ∷ s) = value.tags (b ∷ s) ∷ []

abbrev pub with_lines_ended : Flat → Flat
with_lines_ended f = record { done = f.done ++ tags_of f.lines; lines = [] }

abbrev pub with_block : Flat → value.Block → Flat
with_block f b = record { done = (f.done ++ tags_of f.lines) ++ b ∷ []; lines = [] }
