-- The rows so far, and those that are left.
use Rattle.std.proofs.Common.{◌≡◌, drop, take}
use Rattle.std.specs.Vec.Iter.{into_iter_items}
use Rattle.htmd_chunks.proofs.rows.next_rows.Given as goal

abbrev pub invariant-loop-i : goal.invariant-loop-i
invariant-loop-i l = record {
  part : l.part.items ≡ take l._i (into_iter_items l.initial.rows);
  rows : into_iter_items l.rows ≡ drop l._i (into_iter_items l.initial.rows);
}
