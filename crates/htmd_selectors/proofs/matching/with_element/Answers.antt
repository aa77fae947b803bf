use Rattle.std.proofs.Common.{rules, ◌≡◌, ◌+◌, ◌<◌, ◌||◌, ℕ, Bool, false, List, [], ◌∷◌, ◌++◌, length, get_or, drop}
use Rattle.std.proofs.Common.{refl, sym, ap, ◌∙◌, append_assoc}
use Rattle.std.proofs.lemmas.List.{drop_more}
use Rattle.htmd_selectors.specs.declared.matching.StepState.{StepState}
use Rattle.htmd_selectors.specs.SelectorStates.{no_state, with_element}
use Rattle.htmd_selectors.proofs.matching.with_element.Goals.{then-here, else-here}
use Rattle.htmd_selectors.proofs.matching.with_element.Goals as goal

with_element-more : (named : List Bool) (states : List StepState) (i : ℕ) → i < length named → i < length states
    → with_element (drop i named) (drop i states)
    ≡ (record { here = get_or named i false; within = get_or named i false || (get_or states i no_state).within })
    ∷ with_element (drop (i + 1) named) (drop (i + 1) states)
with_element-more named states i m l = rw (drop_more named i false m, drop_more states i no_state l) refl

pub loop-i-preserved : goal.loop-i-preserved
loop-i-preserved c =
    let here : Bool = get_or c.args.named.now c.loop-i.i false in
    let within : c.if-here.within ≡ (here || (get_or c.args.states.now c.loop-i.i no_state).within) =
    elim c.if-here.branch [
      | then-here w ↦ (rw w.if-here.true (w.within-is ∙ w.if-here.true))
      | else-here w ↦ (rw w.if-here.false w.within-is)
    ] in
    let rest : List StepState =
    with_element (drop (c.loop-i.i + 1) c.args.named.now) (drop (c.loop-i.i + 1) c.args.states.now) in
    record {
      count = search rules;
      rest = ap (λ x. x ++ rest) c.in_ok-push.ensures.items
          ∙ (append_assoc c.loop-i.more.items ((record { here = here; within = c.if-here.within }) ∷ []) rest
          ∙ (ap (λ x. c.loop-i.more.items ++ x)
          (ap (λ b. (record { here = here; within = b }) ∷ rest) within
          ∙ sym (with_element-more c.args.named.now c.args.states.now c.loop-i.i (search rules) (search rules)))
          ∙ c.loop-i.invariant.rest));
    }
