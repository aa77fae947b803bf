-- What is in lower case stays.
use Rattle.std.proofs.Common.{◌∙◌, ap, sym, string_bytes}
use Rattle.htmd_html5_state.specs.ForeignPlaces.{lower}
use Rattle.htmd_html5_state.proofs.ForeignPlacesLemmas.{lower-lower}
use Rattle.htmd_html5_state.proofs.foreign_places.ForeignPlaces.number.Goals as goal

pub add-requires-clause-lower : goal.add-requires-clause-lower
add-requires-clause-lower c =
    ap lower c.make_ascii_lowercase.ensures.bytes
    ∙ (lower-lower (string_bytes c.in_ok-lower.lower) ∙ sym c.make_ascii_lowercase.ensures.bytes)
