-- Whether one of a list is of a kind, as far as a loop has come; and signs of a text so far.
use Rattle.std.proofs.Common.{◌≡◌, ℕ, zero, suc, ◌+◌, ◌<◌, Bool, true, false, not, ◌||◌, ◌&&◌, List, [], ◌∷◌, ◌++◌}
use Rattle.std.proofs.Common.{length, get_or, take, drop, filter, refl, ap, ◌∙◌, sym}
use Rattle.std.specs.List.{list_any}
use Rattle.std.proofs.lemmas.List.{drop_more, take_more}
use Rattle.std.proofs.lemmas.List.Elements.{filter-append}
use Rattle.htmd_shown.specs.declared.sign.Sign.TheVariants.{More}
use Rattle.htmd_shown.specs.Belows.{is_nothing, sign_of}
use Rattle.htmd_shown.specs.Marks.{is_seen}
use Rattle.htmd_shown.specs.ShownTexts.{is_blank_character, is_shown}
use Rattle.htmd_shown.specs.Spaces.{is_white}

split_at : (n : ℕ) (xs : List ℕ) → xs ≡ take n xs ++ drop n xs
split_at zero xs = refl
split_at (suc n) [] = refl
split_at (suc n) (x ∷ xs) = ap (λ ys. x ∷ ys) (split_at n xs)

parts_at : (n : ℕ) (xs : List (List ℕ)) → xs ≡ take n xs ++ drop n xs
parts_at zero xs = refl
parts_at (suc n) [] = refl
parts_at (suc n) (x ∷ xs) = ap (λ ys. x ∷ ys) (parts_at n xs)

or_true : (a b : Bool) → (a || (true || b)) ≡ true
or_true true b = refl
or_true false b = refl

or_assoc : (a b c : Bool) → (a || (b || c)) ≡ ((a || b) || c)
or_assoc true b c = refl
or_assoc false b c = refl

module _ (p : List ℕ → Bool) where
  any_append : (xs ys : List (List ℕ)) → list_any p (xs ++ ys) ≡ (list_any p xs || list_any p ys)
  any_append [] ys = refl
  any_append (x ∷ xs) ys = ap (λ b. p x || b) (any_append xs ys) ∙ or_assoc (p x) (list_any p xs) (list_any p ys)

  pub any_more : (xs : List (List ℕ)) (n : ℕ) (x : List ℕ) → (n < length xs) × (x ≡ get_or xs n x)
      → list_any p (take n xs) ≡ false → p x ≡ false → list_any p (take (n + 1) xs) ≡ false
  any_more xs n x h e f =
      ap (list_any p) (take_more xs n x h.0)
      ∙ any_append (take n xs) (get_or xs n x ∷ [])
      ∙ ap (λ b. b || (p (get_or xs n x) || false)) e
      ∙ ap (λ y. p y || false) (sym h.1)
      ∙ ap (λ b. b || false) f

  pub any_found : (xs : List (List ℕ)) (n : ℕ) (x : List ℕ) → (n < length xs) × (x ≡ get_or xs n x)
      → p x ≡ true → list_any p xs ≡ true
  any_found xs n x h f =
      ap (list_any p) (parts_at n xs ∙ ap (λ ys. take n xs ++ ys) (drop_more xs n x h.0))
      ∙ any_append (take n xs) (get_or xs n x ∷ drop (n + 1) xs)
      ∙ ap (λ y. list_any p (take n xs) || (p y || list_any p (drop (n + 1) xs))) (sym h.1)
      ∙ ap (λ b. list_any p (take n xs) || (b || list_any p (drop (n + 1) xs))) f
      ∙ or_true (list_any p (take n xs)) (list_any p (drop (n + 1) xs))

-- ---- signs

pub seen_if : (c : ℕ) → is_blank_character c ≡ false → is_seen c ≡ true
seen_if c = by_kind (is_white c) (is_shown c)
  where
    by_kind : (w s : Bool) → (w || not s) ≡ false → (s && not w) ≡ true
    by_kind true s e = cc
    by_kind false true e = refl
    by_kind false false e = cc

more_signs : (ys zs : List ℕ) (z : ℕ) → is_nothing (sign_of ys) ≡ false → More ≡ sign_of (ys ++ z ∷ zs)
more_signs [] zs z e = cc
more_signs (y ∷ []) zs z e = refl
more_signs (y ∷ x ∷ ys) zs z e = refl

-- a character that is seen, after another
pub two_seen : (all xs : List ℕ) (c : ℕ) → xs ≡ take (length xs) all
    → (length xs < length all) × (c ≡ get_or all (length xs) c)
    → is_nothing (sign_of (filter is_seen xs)) ≡ false → is_seen c ≡ true
    → More ≡ sign_of (filter is_seen all)
two_seen all xs c e h f g =
    let n = length xs in
    let rest = drop (n + 1) all in
    let whole : all ≡ xs ++ c ∷ rest =
    split_at n all ∙ ap (λ ys. take n all ++ ys) (drop_more all n c h.0)
    ∙ ap (λ x. take n all ++ x ∷ rest) (sym h.1) ∙ ap (λ ys. ys ++ c ∷ rest) (sym e) in
    let seen : filter is_seen (c ∷ rest) ≡ c ∷ filter is_seen rest = rw g refl in
    more_signs (filter is_seen xs) (filter is_seen rest) c f
    ∙ ap (λ ys. sign_of (filter is_seen xs ++ ys)) (sym seen)
    ∙ ap sign_of (sym (filter-append is_seen xs (c ∷ rest)))
    ∙ ap (λ ys. sign_of (filter is_seen ys)) (sym whole)
