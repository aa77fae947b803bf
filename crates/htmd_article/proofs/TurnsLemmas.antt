-- One part more of a list that is made.
use Rattle.std.proofs.Common.{◌≡◌, ◌<◌, ◌+◌, ℕ, List, [], ◌∷◌, ◌++◌, length, map, drop, take}
use Rattle.std.proofs.Common.{get_or, ◌-◌, ◌≤◌, arith, sym, ap, ◌∙◌}
use Rattle.std.proofs.lemmas.List.{append-nil, drop_more, at_drop_all, take_all, length-drop}

-- the rest of a list begins with its next element
pub rest-next : {X : Type 0} (xs : List X) (i : ℕ) (x : X) → i < length xs → x ≡ get_or xs i x
    → drop i xs ≡ x ∷ drop (i + 1) xs
rest-next xs i x l is = drop_more xs i x l ∙ ap (λ y. y ∷ drop (i + 1) xs) (sym is)

-- a list that is made is all of it at the end
pub whole-made : {X Y Z : Type 0} (g : X → Y) (h : List Z → List Y) (xs : List X) (zs : List Z) (i : ℕ)
    → h [] ≡ []
    → length zs ≤ i → map g xs ++ h (drop i zs) ≡ h zs → map g xs ≡ h zs
whole-made g h xs zs i none l e =
    sym (append-nil (map g xs)) ∙ (ap (λ ys. map g xs ++ ys) (sym (at_drop_all h zs i l ∙ none)) ∙ e)

-- a slice to the end
pub slice-rest : {X : Type 0} (xs : List X) (i : ℕ) → take (length xs - i) (drop i xs) ≡ drop i xs
slice-rest xs i = take_all (length xs - i) (drop i xs) (omega (arith, length-drop i xs))
