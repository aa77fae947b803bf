-- One element more.
use Rattle.std.proofs.Common.{◌∙◌, ℕ, List, take, sym, subst, arith}
use Rattle.htmd_html5_state.specs.OpenElements.{OpenValue}
use Rattle.htmd_html5_state.specs.OpenViews.{stack_of}
use Rattle.htmd_html5_state.specs.Places.{IsPlaced}
use Rattle.htmd_html5_state.specs.declared.open_elements.OpenElement.{OpenElement}
use Rattle.htmd_html5_state.proofs.PlacesLemmas.{all_room-kept, room-at}
use Rattle.htmd_html5_state.proofs.StackLemmas.{stack-more, length-stack-take}
use Rattle.htmd_html5_state.proofs.open_elements.enter_all.Goals as goal

pub enter-requires-clause-room : goal.enter-requires-clause-room
enter-requires-clause-room c =
    room-at c.loop-i.places c.args.elements.now c.loop-i.i c.index-elements-i.result c.loop-i-test.true
    c.index-elements-i.is c.loop-i.invariant.1

pub loop-i-preserved : goal.loop-i-preserved
loop-i-preserved c =
    let xs : List OpenElement = c.args.elements.now in
    let i : ℕ = c.loop-i.i in
    let before = c.loop-i.invariant in
    let within = c.loop-i-test.true in (
      subst (λ (es : List OpenValue). IsPlaced c.enter.new.self es)
          (sym (stack-more xs i c.index-elements-i.result within c.index-elements-i.is))
          (c.enter.ensures.placed (stack_of (take i xs)) (length-stack-take xs i (omega (arith, within))) before.0),
      all_room-kept c.loop-i.places c.enter.new.self c.enter.ensures.room (stack_of xs) before.1,
      c.enter.ensures.len ∙ before.2,
    )
