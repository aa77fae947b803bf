-- What is known goes on behind white space.
use Rattle.std.proofs.Common.{◌∙◌}
use Rattle.htmd_commonmark_reader.proofs.DestinationsLemmas.{known_past_white}
use Rattle.htmd_commonmark_reader.proofs.targets.resource.Goals as goal

pub lacks_destination-requires : goal.lacks_destination-requires
lacks_destination-requires c =
    known_past_white c.args.known.now c.args.text.now _ (c.as_bytes-2.ensures.value ∙ c.past_white-inside.ensures)
    c.requires
