-- What the source gave so far is in the input, and no read has failed. Each read that isn't the last makes the input
-- longer.
use Rattle.std.proofs.Common.{◌≡◌, ◌-◌, ◌^◌, false, vec_items, vec_len}
use Rattle.std.specs.Io.KnownBytes.{Consumes}
use Rattle.htmd_cli.proofs.pipeline.read_all.Given as goal

abbrev pub invariant-loop-count : goal.invariant-loop-count
invariant-loop-count g l = record {
  gathered : Consumes (g.R.Source.remaining l.initial.source) (g.R.Source.remaining l.source) (vec_items l.input);
  unfailed : g.R.Source.has_failed l.source ≡ false;
}

abbrev pub decreases-loop-count : goal.decreases-loop-count
decreases-loop-count g l = 2 ^ 64 - vec_len l.input
