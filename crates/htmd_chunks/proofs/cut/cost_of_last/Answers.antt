use Rattle.std.proofs.Common.{◌≡◌, ◌+◌, ◌-◌, length, sym, map, arith}
use Rattle.htmd_chunks.specs.ChunkViews.{block_part_of}
use Rattle.htmd_chunks.specs.Cuts as spec
use Rattle.htmd_chunks.proofs.LeastLemmas.{if_ok}
use Rattle.htmd_chunks.proofs.PartsLemmas.{last-cost}
use Rattle.htmd_chunks.proofs.cut.cost_of_last.Goals as goal

pub returns-in-len1-up : goal.returns-in-len1-up
returns-in-len1-up c =
    let parts = c.args.parts.now in
    let last : (length parts - 1) + 1 ≡ length parts = omega (arith, c.in-len1-up.len_at_least) in
    if_ok c.block_cost.result _ (spec.cost_of_last c.args.bounds.now c.args.margin (map block_part_of parts))
    c.block_cost.ensures
    (sym (last-cost c.args.bounds.now c.args.margin parts (length parts - 1) c.part-item.result last c.part-item.is))
