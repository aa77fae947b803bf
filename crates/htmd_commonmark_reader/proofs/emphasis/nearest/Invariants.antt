-- The openers that were passed don't fit.
use Rattle.std.proofs.Common.{◌≤◌, length}
use Rattle.std.specs.List.{AllWithin}
use Rattle.htmd_commonmark_reader.specs.Runs.{run_of}
use Rattle.htmd_commonmark_reader.specs.Openers.{IsUnfit}
use Rattle.htmd_commonmark_reader.proofs.emphasis.nearest.Given as goal

abbrev pub invariant-loop-count : goal.invariant-loop-count
invariant-loop-count l = record {
  within : l.count ≤ length l.openers;
  passed : AllWithin (IsUnfit (run_of l.closing)) l.openers l.count (length l.openers);
}

abbrev pub decreases-loop-count : goal.decreases-loop-count
decreases-loop-count l = l.count
