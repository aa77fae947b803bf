-- None is known to end.
use Rattle.std.proofs.Common.{◌≡◌, ◌<◌, false, None, length, get_or, sym, rules}
use Rattle.htmd_lexical.specs.CharacterClasses.{first_is}
use Rattle.htmd_commonmark_reader.proofs.DestinationsLemmas.{known_missing, no_destination}
use Rattle.htmd_commonmark_reader.proofs.destinations.lacks_destination.Goals as goal

pub returns-in-None : goal.returns-in-None
returns-in-None c = λ e.
    let s = c.args.text.now in
    let no_angle : first_is 60 s ≡ false = search rules in
    let within : length s < length c.args.known.now = search rules in
    let none : get_or c.args.known.now (length s) None ≡ None = search rules in
    sym (no_destination s no_angle (known_missing c.args.known.now s None c.requires within none))
