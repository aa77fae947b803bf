-- What the loop of `join_blocks` keeps.
use Rattle.std.proofs.Common.{◌≡◌, map, take}
use Rattle.std.specs.String.{string_bytes}
use Rattle.htmd_text.specs.Joins.{joined_blocks}
use Rattle.htmd_text.proofs.join.join_blocks.Given as goal

abbrev pub invariant-loop-block : goal.invariant-loop-block
invariant-loop-block l = string_bytes l.joined ≡ joined_blocks
    (map (λ block. string_bytes block) (take l.block-index l.blocks))
