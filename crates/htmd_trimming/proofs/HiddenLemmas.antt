-- Declarations of a style, one after another.
use Rattle.std.proofs.Common.{◌≡◌, ◌∙◌, ◌+◌, ◌<◌, ◌≤◌, ℕ, Bool, true, false, List, ◌∷◌, length, get_or, drop, sym, ap}
use Rattle.std.specs.Prelude.{◌||◌}
use Rattle.std.specs.List.{list_any}
use Rattle.std.proofs.lemmas.List.{drop_more, drop_all}

module _ (p : List ℕ → Bool) (parts : List (List ℕ)) (n : ℕ) (whole : Bool)
    (so_far : list_any p (drop n parts) ≡ whole) where
  one_more : (x : List ℕ) → (n < length parts) × (x ≡ get_or parts n x)
      → (p x || list_any p (drop (n + 1) parts)) ≡ whole
  one_more x h =
      sym (ap (list_any p) (drop_more parts n x h.0 ∙ ap (λ y. y ∷ drop (n + 1) parts) (sym h.1))) ∙ so_far

  -- this one decides
  pub any_here : (x : List ℕ) → (n < length parts) × (x ≡ get_or parts n x) → p x ≡ true → true ≡ whole
  any_here x h e = sym (ap (λ b. b || list_any p (drop (n + 1) parts)) e) ∙ one_more x h

  -- those after it decide
  pub any_after : (x : List ℕ) → (n < length parts) × (x ≡ get_or parts n x) → p x ≡ false
      → list_any p (drop (n + 1) parts) ≡ whole
  any_after x h e = sym (ap (λ b. b || list_any p (drop (n + 1) parts)) e) ∙ one_more x h

  pub any_nowhere : length parts ≤ n → false ≡ whole
  any_nowhere l = sym (ap (list_any p) (drop_all n parts l)) ∙ so_far
