-- Those that are left have room.
use Rattle.std.proofs.Common.{◌∙◌, List, sym, subst}
use Rattle.htmd_html5_state.specs.OpenViews.{stack_of}
use Rattle.htmd_html5_state.specs.Places.{AllHaveRoom}
use Rattle.htmd_html5_state.specs.declared.open_elements.OpenElement.{OpenElement}
use Rattle.htmd_html5_state.proofs.PlacesLemmas.{room-removed}
use Rattle.htmd_html5_state.proofs.open_elements.take_out.Goals as goal

pub enter_all-requires-clause-room : goal.enter_all-requires-clause-room
enter_all-requires-clause-room c =
    let xs : List OpenElement = c.args.elements.now.items in
    subst (λ (ys : List OpenElement). AllHaveRoom c.leave_all.new.places (stack_of ys))
    (sym (c.deref-2.ensures.value ∙ c.remove.ensures.items))
    (room-removed c.leave_all.new.places xs c.args.index c.remove.result c.requires.within c.remove.ensures.value
    (subst (λ (ys : List OpenElement). AllHaveRoom c.leave_all.new.places (stack_of ys)) c.deref.ensures.value
    c.leave_all.ensures.room))
