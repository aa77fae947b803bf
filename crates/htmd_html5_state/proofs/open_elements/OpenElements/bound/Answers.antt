-- That of the last element.
use Rattle.std.proofs.Common.{◌≡◌, length, ap, ◌∙◌, arith, rules}
use Rattle.htmd_html5_state.specs.OpenViews.{stack_of}
use Rattle.htmd_html5_state.specs.Places.{innermost, bounds_in}
use Rattle.htmd_html5_state.proofs.StackLemmas.{length-stack_of}
use Rattle.htmd_html5_state.proofs.open_elements.OpenElements.bound.Goals as goal

pub returns : goal.returns
returns c =
    let all = c.self.inside.elements.items in
    let len : length all ≡ c.len.result = first_of (omega (arith, c.len.ensures), search rules) in
    c.bound.ensures (stack_of all) (length-stack_of all ∙ len) c.self.invariant
    ∙ ap (innermost (bounds_in c.args.scope)) c.self.view_is
