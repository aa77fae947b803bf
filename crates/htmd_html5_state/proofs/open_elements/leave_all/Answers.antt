-- One element less.
use Rattle.std.proofs.Common.{◌≡◌, ◌∙◌, ◌+◌, ◌-◌, ◌<◌, ℕ, List, length, take, ap, subst, arith}
use Rattle.htmd_html5_state.specs.OpenElements.{OpenValue}
use Rattle.htmd_html5_state.specs.OpenViews.{stack_of}
use Rattle.htmd_html5_state.specs.Places.{IsPlaced}
use Rattle.htmd_html5_state.specs.declared.open_elements.OpenElement.{OpenElement}
use Rattle.htmd_html5_state.proofs.PlacesLemmas.{all_room-kept}
use Rattle.htmd_html5_state.proofs.StackLemmas.{stack-more, length-stack-take}
use Rattle.htmd_html5_state.proofs.open_elements.leave_all.Goals as goal

pub loop-left-preserved : goal.loop-left-preserved
loop-left-preserved c =
    let xs : List OpenElement = c.args.elements.now in
    let i : ℕ = c.loop-left.left - 1 in
    let before = c.loop-left.invariant in
    let above = c.loop-left-test.true in
    let bounds = before.4 in
    let least = before.3 in
    let next : c.loop-left.left ≡ i + 1 = omega (arith, above) in
    let within : i < length xs = omega (arith, above, bounds) in (
      c.leave.ensures.placed (stack_of (take i xs)) (length-stack-take xs i (omega (arith, within)))
          (subst (λ (es : List OpenValue). IsPlaced c.loop-left.places es)
          (ap (λ (k : ℕ). stack_of (take k xs)) next
          ∙ stack-more xs i c.index-elements-left.result within c.index-elements-left.is) before.0),
      all_room-kept c.loop-left.places c.leave.new.self c.leave.ensures.room (stack_of xs) before.1,
      c.leave.ensures.len ∙ before.2,
      omega (arith, above, least),
      omega (arith, above, bounds),
    )
