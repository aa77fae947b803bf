-- The loop of `beginnings_and_lacks` ends.
use Rattle.std.proofs.Common.{length}
use Rattle.std.specs.Str.Iter.{chars_rest}
use Rattle.htmd_test_readers.proofs.reader.beginnings_and_lacks.Given as goal

abbrev pub decreases-loop-c : goal.decreases-loop-c
decreases-loop-c l = length (chars_rest l.rest)
