-- What a loop has written of a list in order, and what is to come.
use Rattle.std.proofs.Common.{◌≡◌, ℕ, ◌+◌, ◌<◌, ◌≤◌, List, [], ◌∷◌, ◌++◌, length, drop, get_or, sym, ap, ◌∙◌}
use Rattle.std.proofs.lemmas.List.{append_assoc, append-nil, drop_more, drop_all}

-- A list is written by `f`, and its first element by `g`. One more element:
pub turn : {A : Type 0} (f : List A → List ℕ) (g : A → List ℕ)
    (first : (x : A) (xs : List A) → f (x ∷ xs) ≡ g x ++ f xs) (xs : List A) (i : ℕ) (d : A)
    (out new total : List ℕ) → i < length xs → new ≡ out ++ g (get_or xs i d)
    → out ++ f (drop i xs) ≡ total → new ++ f (drop (i + 1) xs) ≡ total
turn f g first xs i d out new total within e h =
    let x = get_or xs i d in
    let rest = drop (i + 1) xs in
    ap (λ s. s ++ f rest) e ∙ append_assoc out (g x) (f rest) ∙ ap (λ s. out ++ s) (sym (first x rest))
    ∙ ap (λ ys. out ++ f ys) (sym (drop_more xs i d within)) ∙ h

-- the end of the list
pub end : {A : Type 0} (f : List A → List ℕ) (none : f [] ≡ []) (xs : List A) (i : ℕ) (out total : List ℕ)
    → length xs ≤ i → out ++ f (drop i xs) ≡ total → out ≡ total
end f none xs i out total past h =
    sym (append-nil out) ∙ ap (λ s. out ++ s) (sym none) ∙ ap (λ ys. out ++ f ys) (sym (drop_all i xs past)) ∙ h
