-- That of the last element.
use Rattle.std.proofs.Common.{◌∙◌}
use Rattle.htmd_html5_state.proofs.places.Places.bound.Goals as goal

pub returns : goal.returns
returns c = λ stack len at. c.of.ensures ∙ c.bounds.ensures stack len at.linked c.args.scope
