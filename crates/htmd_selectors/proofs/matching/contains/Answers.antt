-- A text is at a place or at a later one.
use Rattle.std.proofs.Common.{◌≡◌, ℕ, ◌+◌, ◌<◌, Bool, false, ◌||◌, List, ◌∷◌, length, get_or, drop, sym, ap, ◌∙◌}
use Rattle.std.proofs.lemmas.List.{drop_more, take_rest}
use Rattle.htmd_selectors.specs.Matching.{begins_with, contains}
use Rattle.htmd_selectors.proofs.matching.contains.Goals as goal

contains-next : (caseless : Bool) (wanted s : List ℕ) (place : ℕ) → place < length s
    → begins_with caseless wanted (drop place s) ≡ false
    → contains caseless wanted (drop (place + 1) s) ≡ contains caseless wanted (drop place s)
contains-next caseless wanted s place l off =
    let more : drop place s ≡ get_or s place 0 ∷ drop (place + 1) s = drop_more s place 0 l in
    sym (ap (contains caseless wanted) more
    ∙ ap (λ b. b || contains caseless wanted (drop (place + 1) s))
    (sym (ap (begins_with caseless wanted) more) ∙ off))

pub loop-place-preserved : goal.loop-place-preserved
loop-place-preserved c =
    contains-next c.args.caseless c.args.wanted.now c.args.value.now c.loop-place.place c.loop-place-test.true
    (sym (ap (begins_with c.args.caseless c.args.wanted.now) (take_rest c.args.value.now c.loop-place.place))
    ∙ (sym c.begins_with.ensures ∙ c.if-begins_with.false))
    ∙ c.loop-place.invariant
