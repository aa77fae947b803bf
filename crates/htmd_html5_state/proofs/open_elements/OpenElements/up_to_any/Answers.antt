-- As many as the place of the innermost says.
use Rattle.std.proofs.Common.{◌≡◌, ◌≤◌, ◌-◌, ◌∙◌, ℕ, Bool, List, length, drop, take, sym, ap, subst, arith}
use Rattle.std.proofs.lemmas.List.{length-take-le}
use Rattle.htmd_html5_state.specs.OpenElements.{OpenValue}
use Rattle.htmd_html5_state.specs.OpenViews.{stack_of}
use Rattle.htmd_html5_state.specs.Places.{back_to, has_one, innermost}
use Rattle.htmd_html5_state.specs.declared.open_elements.OpenElement.{OpenElement}
use Rattle.htmd_html5_state.proofs.PlacesLemmas.{back-place, innermost-within}
use Rattle.htmd_html5_state.proofs.StackLemmas.{length-stack_of, stack-take}
use Rattle.htmd_html5_state.proofs.open_elements.OpenElements.up_to_any.Goals as goal

within : (xs : List OpenElement) (p : OpenValue → Bool) (place : ℕ) → place ≡ innermost p (stack_of xs)
    → place ≤ length xs
within xs p place is = omega (arith, is, innermost-within p (stack_of xs), length-stack_of xs)

taken : (xs : List OpenElement) (p : OpenValue → Bool) (place : ℕ) → place ≡ innermost p (stack_of xs)
    → stack_of (take place xs) ≡ back_to p (stack_of xs)
taken xs p place is =
    sym (stack-take xs place (within xs p place is))
    ∙ (ap (λ (k : ℕ). drop (length (stack_of xs) - k) (stack_of xs)) is ∙ back-place p (stack_of xs))

pub slice_bounds-result-end : goal.slice_bounds-result-end
slice_bounds-result-end c =
    let xs : List OpenElement = c.deref.result.now in
    let at : c.place_of_any.result ≡ innermost (has_one c.args.tags.now) (stack_of xs) =
    subst (λ (ys : List OpenElement). c.place_of_any.result ≡ innermost (has_one c.args.tags.now) (stack_of ys))
    (sym c.deref.ensures.value)
    (c.place_of_any.ensures (stack_of c.self.inside.elements.items) c.self.invariant) in
    sym (length-take-le c.place_of_any.result xs (within xs (has_one c.args.tags.now) c.place_of_any.result at))

pub returns : goal.returns
returns c =
    let xs : List OpenElement = c.deref.result.now in
    let at : c.place_of_any.result ≡ innermost (has_one c.args.tags.now) (stack_of xs) =
    subst (λ (ys : List OpenElement). c.place_of_any.result ≡ innermost (has_one c.args.tags.now) (stack_of ys))
    (sym c.deref.ensures.value)
    (c.place_of_any.ensures (stack_of c.self.inside.elements.items) c.self.invariant) in
    taken xs (has_one c.args.tags.now) c.place_of_any.result at
    ∙ ap (back_to (has_one c.args.tags.now)) (ap stack_of c.deref.ensures.value ∙ c.self.view_is)
