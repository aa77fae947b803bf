use Rattle.std.proofs.Common.{◌≡◌, ◌+◌, drop}
use Rattle.htmd_commonmark.specs.BlockViews.{all_items_of}
use Rattle.htmd_chunks.specs.Least as spec
use Rattle.htmd_chunks.proofs.least.empties_before.Given as goal

abbrev pub invariant-loop-i : goal.invariant-loop-i
invariant-loop-i l =
    spec.empties_before (all_items_of l.items) ≡ l.i + spec.empties_before (all_items_of (drop l.i l.items))
