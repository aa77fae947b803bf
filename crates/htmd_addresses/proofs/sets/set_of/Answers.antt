-- One candidate more.
use Rattle.std.proofs.Common.{rules, string_bytes, sym}
use Rattle.htmd_addresses.specs.AddressSets.{set_with}
use Rattle.htmd_addresses.specs.SetViews.{candidate_of}
use Rattle.htmd_addresses.proofs.SetsLemmas.{candidate_more}
use Rattle.htmd_addresses.proofs.sets.set_of.Goals as goal

pub loop-candidate-preserved : goal.loop-candidate-preserved
loop-candidate-preserved g c =
    let to = g.R.Resolve.to c.args.resolve.now in
    record {
      is_text = search rules;
      candidates_left = candidate_more to c.loop-candidate.rest.now (string_bytes c.loop-candidate.copy)
          (string_bytes c.push_candidate.new.set) (set_with to c.args.set.now) (candidate_of c.in-Some.candidate)
          (sym c.in-Some.ensures.value) c.in_ok-push_candidate.ensures c.loop-candidate.invariant.candidates_left;
    }
