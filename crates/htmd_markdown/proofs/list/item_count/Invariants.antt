-- The items among the children so far.
use Rattle.std.proofs.Common.{◌≡◌, take, map}
use Rattle.htmd_markdown.specs.Lists.{item_count, block_of}
use Rattle.htmd_markdown.proofs.list.item_count.Given as goal

abbrev pub invariant-loop-block : goal.invariant-loop-block
invariant-loop-block l = l.count ≡ item_count (map block_of (take l.block-index l.blocks))
