-- The rounds that are left go on from what was made.
use Rattle.std.proofs.Common.{◌≡◌}
use Rattle.htmd_html5_state.specs.Adoption.{rounds}
use Rattle.htmd_html5_state.proofs.state.HtmlState.adoption_agency.Given as goal

abbrev pub invariant-loop-left : goal.invariant-loop-left
invariant-loop-left l = rounds l.left l.tag l.self ≡ rounds 8 l.tag l.fn.self

abbrev pub decreases-loop-left : goal.decreases-loop-left
decreases-loop-left l = l.left
