-- One more follows.
use Rattle.std.proofs.Common.{List, sym, subst, arith}
use Rattle.htmd_html5_state.specs.Places.{IsLinked}
use Rattle.htmd_html5_state.specs.declared.places.Around.{Around}
use Rattle.htmd_html5_state.proofs.PlacesLemmas.{linked-longer}
use Rattle.htmd_html5_state.proofs.places.make_room_around.Goals as goal

pub loop-around-preserved : goal.loop-around-preserved
loop-around-preserved c =
    let before = c.loop-around.invariant in
    let long = before.1 in (
      (λ es h. subst (λ (xs : List Around). IsLinked xs es) (sym c.in_ok-push.ensures.items)
          (linked-longer c.loop-around.around.items _ es (before.0 es h))),
      omega (arith, long, c.in_ok-push.ensures.len),
    )
