-- Spellings that are alike in any case share a number, and so a place.
use Rattle.std.proofs.Common.{◌≡◌, ℕ, zero, suc, ◌<◌, ◌≤◌, Bool, true, false, cond, List, [], ◌∷◌, ◌++◌, get_or, set}
use Rattle.std.proofs.Common.{length, Option, Some, None, refl, sym, ap, ◌∙◌, arith}
use Rattle.std.proofs.lemmas.Bool.{true≢false, eqb-true}
use Rattle.std.proofs.lemmas.Bool.Decides.{nat_tests}
use Rattle.std.proofs.lemmas.List.{get_or-set_same, get_or-set_other}
use Rattle.std.proofs.lemmas.Str.Ascii.{lowercase-lowercase}
use Rattle.std.specs.Char.{to_ascii_lowercase}
use Rattle.std.specs.List.{list_all}
use Rattle.std.specs.Map.{update}
use Rattle.std.specs.Prelude.{◌==◌, ◌&&◌, option_map, unwrap_or, is_some}
use Rattle.std.specs.Str.{bytes_eq}
use Rattle.htmd_lexical.proofs.BytesLemmas.{same_bytes, bytes_same}
use Rattle.htmd_lexical.proofs.Cases.{test}
use Rattle.htmd_html5_state.specs.Foreign.{is_in_any_case}
use Rattle.htmd_html5_state.specs.ForeignPlaces.{lower, place_by, IsNumbered}

pub lower-lower : (s : List ℕ) → lower (lower s) ≡ lower s
lower-lower [] = refl
lower-lower (b ∷ s) = rw (lowercase-lowercase b, lower-lower s) refl

-- a name that is in lower case
pub in_lower_case : (s : List ℕ) → list_all (λ b. to_ascii_lowercase b == b) s ≡ true → lower s ≡ s
in_lower_case [] all = refl
in_lower_case (b ∷ s) all =
    test (to_ascii_lowercase b == b)
    (λ t. rw (eqb-true (to_ascii_lowercase b) b t, in_lower_case s (rw t at all)) refl)
    (λ t. absurd (true≢false (sym all ∙ ap (λ (r : Bool). r && list_all (λ c. to_ascii_lowercase c == c) s) t)))

some-same : (n m : ℕ) → Some n ≡ Some m → n ≡ m
some-same n m e = ap (λ (o : Option ℕ). unwrap_or o n) e

none-some : {P : Type 0} (o : Option ℕ) (n : ℕ) → o ≡ None → o ≡ Some n → P
none-some o n none some = absurd (true≢false (ap is_some (sym some ∙ none)))

-- a place more that is nowhere
pub padded : (xs : List ℕ) (n : ℕ) → get_or (xs ++ 0 ∷ []) n 0 ≡ get_or xs n 0
padded [] zero = refl
padded [] (suc n) = refl
padded (x ∷ xs) zero = refl
padded (x ∷ xs) (suc n) = padded xs n

pub place_by-padded : (xs : List ℕ) (o : Option ℕ) → place_by (xs ++ 0 ∷ []) o ≡ place_by xs o
place_by-padded xs None = refl
place_by-padded xs (Some n) = padded xs n

beyond : (xs : List ℕ) (n : ℕ) → length xs ≤ n → get_or xs n 0 ≡ 0
beyond [] n l = refl
beyond (x ∷ xs) zero l = absurd (omega (arith, l))
beyond (x ∷ xs) (suc n) l = beyond xs n (omega (arith, l))

-- ---- a spelling gets a number

module _ (g h : List ℕ → Option ℕ) (text : List ℕ) (n : ℕ)
    (updates : (s : List ℕ) → h s ≡ update bytes_eq g text (Some n) s) where
  here : h text ≡ Some n
  here = updates text ∙ ap (λ (r : Bool). cond r (Some n) (g text)) (bytes_same text)

  there : (s : List ℕ) → bytes_eq text s ≡ false → h s ≡ g s
  there s t = updates s ∙ ap (λ (r : Bool). cond r (Some n) (g s)) t

  number_here : (s : List ℕ) (m : ℕ) → bytes_eq text s ≡ true → h s ≡ Some m → m ≡ n
  number_here s m t e =
      some-same m n (sym e ∙ (updates s ∙ ap (λ (r : Bool). cond r (Some n) (g s)) t))

  pub kept_by : (s : List ℕ) → is_some (g s) ≡ true → is_some (h s) ≡ true
  kept_by s held =
      test (bytes_eq text s)
      (λ t. ap is_some (updates s ∙ ap (λ (r : Bool). cond r (Some n) (g s)) t))
      (λ t. ap is_some (there s t) ∙ held)

  pub numbered : (len more : ℕ) → IsNumbered g len → len ≤ more → n < more → h (lower text) ≡ Some n
      → ((m : ℕ) → g text ≡ Some m → m ≡ n)
      → ((s : List ℕ) → g s ≡ Some n → lower s ≡ lower text) → IsNumbered h more
  numbered len more old longer within low same only = record {
    lowered = λ s m e. test (bytes_eq text s)
        (λ t. ap (λ (x : List ℕ). h (lower x)) (sym (same_bytes text s t))
        ∙ (low ∙ ap Some (sym (number_here s m t e))))
        (λ t.
        let e' : g s ≡ Some m = sym (there s t) ∙ e in
        test (bytes_eq text (lower s))
        (λ u. updates (lower s) ∙ (ap (λ (r : Bool). cond r (Some n) (g (lower s))) u
        ∙ ap Some (sym (same m (ap g (same_bytes text (lower s) u) ∙ old.lowered s m e')))))
        (λ u. there (lower s) u ∙ old.lowered s m e'));
    within = λ s m e. test (bytes_eq text s)
        (λ t. omega (arith, number_here s m t e, within))
        (λ t. omega (arith, old.within s m (sym (there s t) ∙ e), longer));
    alike = λ s u m e f. test (bytes_eq text s)
        (λ t. test (bytes_eq text u)
        (λ v. ap lower (sym (same_bytes text s t) ∙ same_bytes text u v))
        (λ v. ap lower (sym (same_bytes text s t))
        ∙ sym (only u (sym (there u v) ∙ (f ∙ ap Some (number_here s m t e))))))
        (λ t. test (bytes_eq text u)
        (λ v. only s (sym (there s t) ∙ (e ∙ ap Some (number_here u m v f))) ∙ ap lower (same_bytes text u v))
        (λ v. old.alike s u m (sym (there s t) ∙ e) (sym (there u v) ∙ f)));
  }

  -- a spelling in lower case that is new
  pub new_numbered : (len more : ℕ) → IsNumbered g len → n ≡ len → len < more → lower text ≡ text
      → g text ≡ None
      → IsNumbered h more
  new_numbered len more old is longer low none =
      numbered len more old (omega (arith, longer)) (omega (arith, is, longer)) (ap h low ∙ here)
      (λ m e. none-some (g text) m none e)
      (λ s e. let w = old.within s n e in absurd (omega (arith, w, is)))

  pub new_place : (places : List ℕ) → n ≡ length places → lower text ≡ text → g text ≡ None
      → (s : List ℕ)
      → place_by (places ++ 0 ∷ []) (h (lower s)) ≡ place_by places (g (lower s))
  new_place places is low none s =
      place_by-padded places (h (lower s))
      ∙ test (bytes_eq text (lower s))
      (λ t. ap (place_by places) (updates (lower s) ∙ ap (λ (r : Bool). cond r (Some n) (g (lower s))) t)
      ∙ (beyond places n (omega (arith, is))
      ∙ sym (ap (place_by places) (ap g (sym (same_bytes text (lower s) t)) ∙ none))))
      (λ t. ap (place_by places) (there (lower s) t))

  -- a spelling whose lower case is held
  pub also_numbered : (len : ℕ) → IsNumbered g len → g (lower text) ≡ Some n → IsNumbered h len
  also_numbered len old low =
      numbered len len old (omega arith) (old.within (lower text) n low)
      (test (bytes_eq text (lower text)) (λ t. ap h (sym (same_bytes text (lower text) t)) ∙ here)
      (λ t. there (lower text) t ∙ low))
      (λ m e. some-same m n (sym (old.lowered text m e) ∙ low))
      (λ s e. old.alike s (lower text) n e low ∙ lower-lower text)

  pub also_same : g (lower text) ≡ Some n → (s : List ℕ) → h (lower s) ≡ g (lower s)
  also_same low s =
      test (bytes_eq text (lower s))
      (λ t.
      let is : text ≡ lower s = same_bytes text (lower s) t in
      updates (lower s) ∙ (ap (λ (r : Bool). cond r (Some n) (g (lower s))) t
      ∙ (sym low ∙ ap g (ap lower is ∙ lower-lower s))))
      (λ t. there (lower s) t)

-- ---- a place is written

pub set_at : (xs : List ℕ) (n place m : ℕ) → n < length xs
    → get_or (set xs n place) m 0 ≡ cond (n == m) place (get_or xs m 0)
set_at xs n place m l =
    test (n == m)
    (λ t. rw t (ap (λ (k : ℕ). get_or (set xs n place) k 0) (sym (eqb-true n m t))
    ∙ get_or-set_same xs n place 0 l))
    (λ t. rw t (get_or-set_other xs n m place 0 (λ e. absurd (grind (arith, nat_tests, t, e)))))

module _ (g : List ℕ → Option ℕ) (len : ℕ) (old : IsNumbered g len) (text : List ℕ) (n : ℕ)
    (is : g text ≡ Some n)
    (ps qs : List ℕ) (place : ℕ) (put : (m : ℕ) → get_or qs m 0 ≡ cond (n == m) place (get_or ps m 0)) where
  alike-number : (s : List ℕ) (m : ℕ) → g s ≡ Some m → is_in_any_case text s ≡ false → (n == m) ≡ false
  alike-number s m e f =
      test (n == m)
      (λ t. absurd (true≢false (sym (ap (λ (x : List ℕ). bytes_eq (lower text) x)
      (sym (old.alike text s n is (e ∙ ap Some (sym (eqb-true n m t))))) ∙ bytes_same (lower text)) ∙ f)))
      (λ t. t)

  other_place : (o : Option ℕ) → ((m : ℕ) → o ≡ Some m → (n == m) ≡ false)
      → place_by qs o ≡ place_by ps o
  other_place None other = refl
  other_place (Some m) other = put m ∙ ap (λ (r : Bool). cond r place (get_or ps m 0)) (other m refl)

  pub place_by-put : (s : List ℕ)
      → place_by qs (g (lower s)) ≡ cond (is_in_any_case text s) place (place_by ps (g (lower s)))
  place_by-put s =
      test (is_in_any_case text s)
      (λ t.
      let low : g (lower s) ≡ Some n = ap g (sym (same_bytes (lower text) (lower s) t)) ∙ old.lowered text n is in
      ap (place_by qs) low ∙ (put n ∙ rw t (grind (arith, nat_tests))))
      (λ t. other_place (g (lower s)) (λ m e. alike-number (lower s) m e (rw (lower-lower s) t))
      ∙ sym (ap (λ (r : Bool). cond r place (place_by ps (g (lower s)))) t))

pub not_held : (f : ℕ → ℕ) (ps : List ℕ) (o : Option ℕ) → option_map f o ≡ None → place_by ps o ≡ 0
not_held f ps None e = refl
not_held f ps (Some n) e = absurd (true≢false (ap is_some e))
