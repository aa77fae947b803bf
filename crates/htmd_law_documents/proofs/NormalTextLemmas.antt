-- Texts of normal documents: plain UTF-8 without double spaces.
use Rattle.std.proofs.Common.{◌≡◌, ℕ, suc, ◌<◌, ◌≤◌, Bool, true, false, not, ◌&&◌, ◌||◌}
use Rattle.std.proofs.Common.{List, [], ◌∷◌, ◌++◌, length, get_or, reverse, refl, sym, ap, ◌∙◌, arith, subst}
use Rattle.std.specs.Prelude.{encode_utf8, ◌==◌, nat_lt}
use Rattle.std.specs.List.{list_all}
use Rattle.std.specs.Str.{is_utf8}
use Rattle.std.proofs.lemmas.Bool.Decides.{nat_tests}
use Rattle.std.proofs.lemmas.List.{append-nil, reverse-append}
use Rattle.std.proofs.lemmas.Str.{IsUtf8-append, IsUtf8-from_is_utf8, is_utf8-from_IsUtf8, inside_one}
use Rattle.htmd_lexical.specs.Characters.{space}
use Rattle.htmd_lexical.specs.CharacterClasses.{first_is, is_empty}
use Rattle.htmd_lexical.proofs.Cases.{test}
use Rattle.htmd_shown.specs.Spaces.{ends_with_space}
use Rattle.htmd_document.specs.NormalInlines.{is_line_byte, is_line, has_double_space, is_text, ends_in_space}
use Rattle.htmd_document.specs.NormalInlines.{is_trimmed}
use Rattle.htmd_law_documents.proofs.VisibleLemmas.{both-true}

-- ---- tests

pub and-true : {a b : Bool} → a ≡ true → b ≡ true → (a && b) ≡ true
and-true {a} {b} g h = ap (λ x. x && b) g ∙ h

pub and-false : (a : Bool) {b : Bool} → b ≡ false → (a && b) ≡ false
and-false true h = h
and-false false h = refl

pub or-false : {a b : Bool} → a ≡ false → b ≡ false → (a || b) ≡ false
or-false {a} {b} g h = ap (λ x. x || b) g ∙ h

pub neither : (a b : Bool) → (a || b) ≡ false → (a ≡ false) × (b ≡ false)
neither true b e = absurd (clash e)
  where
    clash : true ≡ false → ⊥
    clash p = (cc)
neither false b e = (refl, e)

pub not-false : {a : Bool} → a ≡ false → not a ≡ true
not-false e = ap not e

pub from-not : (a : Bool) → not a ≡ true → a ≡ false
from-not true e = absurd (clash e)
  where
    clash : false ≡ true → ⊥
    clash p = (cc)
from-not false e = refl

pub true-false : {A : Type 0} → true ≡ false → A
true-false e = absurd (clash e)
  where
    clash : true ≡ false → ⊥
    clash p = (cc)

pub false-true : {A : Type 0} → false ≡ true → A
false-true e = absurd (clash e)
  where
    clash : false ≡ true → ⊥
    clash p = (cc)

-- ---- ends

first-more : (b : ℕ) (r : List ℕ) (c : ℕ) (t : List ℕ) → first_is b ((r ++ c ∷ []) ++ t)
    ≡ first_is b (r ++ c ∷ [])
first-more b [] c t = refl
first-more b (d ∷ r) c t = refl

pub ends-same : (s : List ℕ) → ends_in_space s ≡ ends_with_space s
ends-same [] = refl
ends-same (b ∷ []) = refl
ends-same (b ∷ c ∷ s) =
    let whole : reverse (b ∷ c ∷ s) ≡ (reverse s ++ c ∷ []) ++ b ∷ [] =
    reverse-append (b ∷ []) (c ∷ s) ∙ ap (λ t. t ++ b ∷ []) (reverse-append (c ∷ []) s) in
    ap (first_is space) whole
    ∙ (first-more space (reverse s) c (b ∷ [])
    ∙ (ap (first_is space) (sym (reverse-append (c ∷ []) s)) ∙ ends-same (c ∷ s)))

pub ends-append : (s : List ℕ) (b : ℕ) (t : List ℕ) → ends_with_space (s ++ b ∷ t)
    ≡ ends_with_space (b ∷ t)
ends-append [] b t = refl
ends-append (c ∷ []) b t = refl
ends-append (c ∷ d ∷ s) b t = ends-append (d ∷ s) b t

pub ends-more : (s t : List ℕ) → is_empty t ≡ false → ends_with_space (s ++ t) ≡ ends_with_space t
ends-more s [] e = true-false e
ends-more s (b ∷ t) e = ends-append s b t

pub first-append : (s t : List ℕ) → is_empty s ≡ false → first_is space (s ++ t) ≡ first_is space s
first-append [] t e = true-false e
first-append (b ∷ s) t e = refl

pub filled-append : (s t : List ℕ) → is_empty s ≡ false → is_empty (s ++ t) ≡ false
filled-append [] t e = true-false e
filled-append (b ∷ s) t e = refl

-- ---- spaces

pub double-append : (s t : List ℕ) → has_double_space s ≡ false → has_double_space t ≡ false
    → (ends_with_space s && first_is space t) ≡ false → has_double_space (s ++ t) ≡ false
double-append [] t g h e = h
double-append (b ∷ []) t g h e = or-false e h
double-append (b ∷ c ∷ s) t g h e =
    let parts = neither ((b == space) && (c == space)) (has_double_space (c ∷ s)) g in
    or-false parts.0 (double-append (c ∷ s) t parts.1 h e)

-- ---- bytes

pub all-append : (p : ℕ → Bool) (s t : List ℕ) → list_all p s ≡ true → list_all p t ≡ true
    → list_all p (s ++ t) ≡ true
all-append p [] t g h = h
all-append p (b ∷ s) t g h =
    let parts = both-true (p b) (list_all p s) g in and-true parts.0 (all-append p s t parts.1 h)

all-from : (p : ℕ → Bool) (s : List ℕ) → ((k : ℕ) → k < length s → p (get_or s k 0) ≡ true)
    → list_all p s ≡ true
all-from p [] h = refl
all-from p (b ∷ s) h = and-true (h 0 (omega arith)) (all-from p s (λ k l. h (suc k) (omega arith)))

-- no test of ASCII fails past ASCII
abbrev pub PassesWide : (ℕ → Bool) → Type 0
PassesWide p = (b : ℕ) → 128 ≤ b → p b ≡ true

pub encode-passes : (p : ℕ → Bool) → PassesWide p → (c : ℕ) → p c ≡ true → list_all p (encode_utf8 c)
    ≡ true
encode-passes p wide c h = all-from p (encode_utf8 c) at
  where
    at : (k : ℕ) → k < length (encode_utf8 c) → p (get_or (encode_utf8 c) k 0) ≡ true
    at k l = test (nat_lt (get_or (encode_utf8 c) k 0) 128)
        (λ e. subst (λ (x : ℕ). p x ≡ true)
        (inside_one c [] (encode_utf8 c) k (sym (append-nil (encode_utf8 c))) l (grind (arith, nat_tests))) h)
        (λ e. wide (get_or (encode_utf8 c) k 0) (grind (arith, nat_tests)))

-- ---- lines and texts

pub line-append : (s t : List ℕ) → is_line s ≡ true → is_line t ≡ true → is_line (s ++ t) ≡ true
line-append s t g h =
    let a = both-true (is_utf8 s) (list_all is_line_byte s) g in
    let b = both-true (is_utf8 t) (list_all is_line_byte t) h in
    and-true
    (is_utf8-from_IsUtf8 (s ++ t) (IsUtf8-append s t (IsUtf8-from_is_utf8 s a.0) (IsUtf8-from_is_utf8 t b.0)))
    (all-append is_line_byte s t a.1 b.1)

-- what a text is like
pub record IsText (s : List ℕ) : Type 0 where
  pub line : is_line s ≡ true
  pub some : is_empty s ≡ false
  pub single : has_double_space s ≡ false

pub to-text : (s : List ℕ) → IsText s → is_text s ≡ true
to-text s h = and-true (and-true h.line (not-false h.some)) (not-false h.single)

pub from-text : (s : List ℕ) → is_text s ≡ true → IsText s
from-text s h =
    let parts = both-true (is_line s && not (is_empty s)) (not (has_double_space s)) h in
    let first = both-true (is_line s) (not (is_empty s)) parts.0 in
    record {
      line = first.0;
      some = from-not (is_empty s) first.1;
      single = from-not (has_double_space s) parts.1;
    }

pub text-append : (s t : List ℕ) → is_text s ≡ true → is_text t ≡ true
    → (ends_with_space s && first_is space t) ≡ false
    → is_text (s ++ t) ≡ true
text-append s t g h e =
    let a : IsText s = from-text s g in
    let b : IsText t = from-text t h in
    to-text (s ++ t) (record {
      line = line-append s t a.line b.line;
      some = filled-append s t a.some;
      single = double-append s t a.single b.single e;
    })

pub trimmed-text : (s : List ℕ) → first_is space s ≡ false → ends_with_space s ≡ false → is_trimmed s
    ≡ true
trimmed-text s f e = and-true (not-false f) (not-false (ends-same s ∙ e))

pub from-trimmed : (s : List ℕ) → is_trimmed s ≡ true
    → (first_is space s ≡ false) × (ends_with_space s ≡ false)
from-trimmed s h =
    let parts = both-true (not (first_is space s)) (not (ends_in_space s)) h in
    (from-not (first_is space s) parts.0, sym (ends-same s) ∙ from-not (ends_in_space s) parts.1)
