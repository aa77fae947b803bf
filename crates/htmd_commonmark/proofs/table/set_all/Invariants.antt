-- The columns so far have this width.
use Rattle.std.proofs.Common.{◌≡◌, length, take}
use Rattle.std.specs.Prelude.{replicate}
use Rattle.htmd_commonmark.proofs.table.set_all.Given as goal

abbrev pub invariant-loop-i : goal.invariant-loop-i
invariant-loop-i l = record {
  length : length l.widths ≡ length l.initial.widths;
  narrow : take l.i l.widths ≡ replicate l.i l.width;
}
