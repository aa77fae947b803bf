-- Short words for the blocks and inlines of worked rows.
use Rattle.std.proofs.Common.{ℕ, List}
use Rattle.htmd_commonmark_reading.specs.Markup.{Inlines, no_inlines, Block, paragraph, Blocks, no_blocks, block, Items}
use Rattle.htmd_commonmark_reading.specs.Markup.{no_items, item, letters}

abbrev pub plain : List ℕ → Inlines
plain s = letters s no_inlines

abbrev pub text : List ℕ → Block
text s = paragraph (plain s)

abbrev pub one : Block → Blocks
one b = block b no_blocks

abbrev pub two : Block → Block → Blocks
two b c = block b (one c)

-- an item of one block
abbrev pub and_item : Block → Items → Items
and_item b rest = item (one b) rest

abbrev pub one_item : Blocks → Items
one_item bs = item bs no_items
