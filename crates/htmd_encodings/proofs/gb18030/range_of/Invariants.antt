-- No range so far begins after the pointer.
use Rattle.std.proofs.Common.{◌≡◌, drop}
use Rattle.htmd_encodings.specs.Gb18030 as spec
use Rattle.htmd_encodings.proofs.gb18030.range_of.Given as goal

abbrev pub invariant-loop-range : goal.invariant-loop-range
invariant-loop-range l =
    spec.range_of l.found (drop l.range-index l.ranges) l.pointer ≡ spec.range_of (0, 0x80) l.ranges l.pointer
