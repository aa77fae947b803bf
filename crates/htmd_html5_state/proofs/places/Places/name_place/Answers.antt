-- The place that is held.
use Rattle.std.proofs.Common.{◌∙◌}
use Rattle.htmd_html5_state.specs.Names.{name_of}
use Rattle.htmd_html5_state.proofs.places.Places.name_place.Goals as goal

pub returns : goal.returns
returns c = λ stack at. c.name_place.ensures ∙ at.names (name_of c.args.name.now)
