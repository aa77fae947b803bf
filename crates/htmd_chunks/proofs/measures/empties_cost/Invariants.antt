-- With the items to come, the bytes so far are all of them.
use Rattle.std.proofs.Common.{◌≡◌, ◌+◌, ◌-◌}
use Rattle.htmd_chunks.specs.Measures.{empties_cost}
use Rattle.htmd_chunks.proofs.measures.empties_cost.Given as goal

abbrev pub invariant-loop-i : goal.invariant-loop-i
invariant-loop-i l =
    l.bytes + empties_cost l.margin l.list (l.place + l.i) (l.count - l.i)
    ≡ empties_cost l.margin l.list l.place l.count
