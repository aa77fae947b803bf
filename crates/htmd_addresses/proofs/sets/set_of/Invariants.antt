-- The candidates so far, and those that follow.
use Rattle.std.proofs.Common.{◌≡◌, ◌++◌, length, string_bytes}
use Rattle.htmd_addresses.specs.AddressSets.{set_with}
use Rattle.htmd_addresses.proofs.sets.set_of.Given as goal
use denote.Shadow.{shadow}
use denote.Text.{Utf8}

abbrev pub decreases-loop-candidate : goal.decreases-loop-candidate
decreases-loop-candidate g l = length l.rest

abbrev pub invariant-loop-candidate : goal.invariant-loop-candidate
invariant-loop-candidate g l = record {
  is_text : shadow (Utf8 l.rest);
  candidates_left : string_bytes l.copy ++ set_with (g.R.Resolve.to l.resolve) l.rest
      ≡ set_with (g.R.Resolve.to l.resolve) l.set;
}
