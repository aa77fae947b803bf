-- What a candidate of a set is.
use Rattle.htmd_addresses.specs.AddressSets.{Candidate}
use Rattle.htmd_addresses.specs.declared.sets.Candidate as held

abbrev pub candidate_of : held.Candidate → Candidate
candidate_of c =
    record {
      before = c.before.now;
      address = c.address.now;
      description = c.description.now;
      after = c.after.now;
    }
