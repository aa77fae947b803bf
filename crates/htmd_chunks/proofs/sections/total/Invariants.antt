use Rattle.std.proofs.Common.{◌≡◌, ◌+◌, take}
use Rattle.std.specs.List.{sum_by}
use Rattle.htmd_chunks.proofs.sections.total.Given as goal

abbrev pub invariant-loop-cost : goal.invariant-loop-cost
invariant-loop-cost l = l.bytes ≡ sum_by (λ n. n + 2) (take l.cost-index l.costs)
