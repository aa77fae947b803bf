-- The characters at the ends of a text, by their bytes.
use Rattle.std.proofs.Common.{◌≡◌, ◌∙◌, refl, ap, sym, subst, ℕ, ◌+◌, ◌<◌, ◌≤◌, true, false, List, [], ◌∷◌, ◌++◌}
use Rattle.std.proofs.Common.{length, Option, Some, None, arith}
use Rattle.std.specs.Prelude.{nat_lt, nat_le, slice_get, reverse, ◌/◌, encode_utf8, IfSome, MatchOption}
use Rattle.std.specs.List.{list_all}
use Rattle.std.specs.Char.{IsScalar}
use Rattle.std.specs.Str.{chars, IsUtf8}
use Rattle.std.proofs.lemmas.Bool.{and_parts, and_from, and_right, ltb-true, le-leb, lt-leb}
use Rattle.std.proofs.lemmas.List.{append-nil, reverse-append, reverse-reverse}
use Rattle.std.proofs.lemmas.Str.{chars-encodes, chars-nil}
use Rattle.htmd_lexical.specs.CharacterClasses.{leading_run}
use Rattle.htmd_lexical.proofs.Cases.{test}
use Rattle.htmd_commonmark_reading.specs.Characters.{goes_on, first_character, last_character, last_bytes}
use lib.Utf8.{encode, encodes, scalar, scalars, next}

-- ---- the bytes of a character

record Shape (bytes : List ℕ) : Type 0 where
  lead : ℕ
  rest : List ℕ
  is : bytes ≡ lead ∷ rest
  begins : goes_on lead ≡ false
  goes : list_all goes_on rest ≡ true

next_goes : (n : ℕ) → goes_on (next n) ≡ true
next_goes n = and_from (nat_le 128 (next n)) (nat_le (next n) 191) (le-leb 128 (next n) (omega arith))
    (le-leb (next n) 191 (omega arith))

low_begins : (n : ℕ) → n < 128 → goes_on n ≡ false
low_begins n h = rw (lt-leb 128 n h) refl

high_begins : (n : ℕ) → 192 ≤ n → goes_on n ≡ false
high_begins n h = and_right (nat_le 128 n) (nat_le n 191) (lt-leb n 191 (omega arith))

shape : (c : ℕ) → Shape (encode c)
unfolding encode
shape c =
    test (nat_lt c 128)
    (λ e. record { lead = c; rest = []; is = rw e refl; begins = low_begins c (ltb-true c 128 e); goes = refl })
    (λ e. test (nat_lt c 2048)
    (λ f. record {
      lead = 192 + c / 64;
      rest = next c ∷ [];
      is = rw (e, f) refl;
      begins = high_begins (192 + c / 64) (omega arith);
      goes = rw (next_goes c) refl;
    })
    (λ f. test (nat_lt c 65536)
    (λ g. record {
      lead = 224 + c / 4096;
      rest = next (c / 64) ∷ next c ∷ [];
      is = rw (e, f, g) refl;
      begins = high_begins (224 + c / 4096) (omega arith);
      goes = rw (next_goes (c / 64), next_goes c) refl;
    })
    (λ g. record {
      lead = 240 + c / 262144;
      rest = next (c / 4096) ∷ next (c / 64) ∷ next c ∷ [];
      is = rw (e, f, g) refl;
      begins = high_begins (240 + c / 262144) (omega arith);
      goes = rw (next_goes (c / 4096), next_goes (c / 64), next_goes c) refl;
    })))

-- ---- the first character

goes_run : (s r : List ℕ) → list_all goes_on s ≡ true → leading_run goes_on r ≡ []
    → leading_run goes_on (s ++ r) ≡ s
goes_run [] r h k = k
goes_run (b ∷ s) r h k =
    let p = and_parts (goes_on b) (list_all goes_on s) h in rw p.0 (ap (λ l. b ∷ l) (goes_run s r p.1 k))

chars_one : (c : ℕ) → scalar c ≡ true → chars (encode c) ≡ c ∷ []
chars_one c h = ap chars (sym (append-nil (encode c))) ∙ chars-encodes (c ∷ []) (rw h refl)

first_is_character : (c : ℕ) (r : List ℕ) → scalar c ≡ true → leading_run goes_on r ≡ []
    → first_character (encode c ++ r) ≡ Some c
first_is_character c r h k =
    let s = shape c in
    ap (λ l. first_character (l ++ r)) s.is
    ∙ ap (λ l. slice_get (chars (s.lead ∷ l)) 0) (goes_run s.rest r s.goes k)
    ∙ ap (λ l. slice_get (chars l) 0) (sym s.is) ∙ ap (λ l. slice_get l 0) (chars_one c h)

no_rest : (cs : List ℕ) → leading_run goes_on (encodes cs) ≡ []
no_rest [] = refl
no_rest (c ∷ cs) = let s = shape c in ap (λ l. leading_run goes_on (l ++ encodes cs)) s.is ∙ rw s.begins refl

pub first_told : (s : List ℕ) → IsUtf8 s → slice_get (chars s) 0 ≡ first_character s
first_told s ([], (sc, e)) =
    subst (λ l. slice_get (chars l) 0 ≡ first_character l) e (ap (λ l. slice_get l 0) chars-nil)
first_told s (c ∷ cs, (sc, e)) =
    subst (λ l. slice_get (chars l) 0 ≡ first_character l) e
    (ap (λ l. slice_get l 0) (chars-encodes (c ∷ cs) sc)
    ∙ sym (first_is_character c (encodes cs) (and_parts (scalar c) (scalars cs) sc).0 (no_rest cs)))

-- ---- the last character

-- a text, from its end, before another one
abbrev pushed : List ℕ → List ℕ → List ℕ
pushed [] x = x
pushed (c ∷ s) x = pushed s (c ∷ x)

pushed_onto : (s y x : List ℕ) → pushed s (y ++ x) ≡ pushed s y ++ x
pushed_onto [] y x = refl
pushed_onto (c ∷ s) y x = pushed_onto s (c ∷ y) x

pushed_reverse : (s x : List ℕ) → pushed s x ≡ reverse s ++ x
pushed_reverse s x = pushed_onto s [] x

bytes_pushed : (s x : List ℕ) → list_all goes_on s ≡ true → last_bytes (pushed s x) ≡ pushed s (last_bytes x)
bytes_pushed [] x h = refl
bytes_pushed (b ∷ s) x h =
    let p = and_parts (goes_on b) (list_all goes_on s) h in
    bytes_pushed s (b ∷ x) p.1 ∙ ap (pushed s) (rw p.0 refl)

last_is_character : (c : ℕ) (before : List ℕ) → scalar c ≡ true
    → last_character (pushed (encode c) before) ≡ Some c
last_is_character c before h =
    let s = shape c in
    ap (λ l. last_character (pushed l before)) s.is
    ∙ ap (λ l. first_character (reverse l))
    (bytes_pushed s.rest (s.lead ∷ before) s.goes ∙ ap (pushed s.rest) (rw s.begins refl)
    ∙ pushed_reverse s.rest (s.lead ∷ []))
    ∙ ap first_character (reverse-append (reverse s.rest) (s.lead ∷ [])
    ∙ ap (λ l. s.lead ∷ l) (reverse-reverse s.rest) ∙ sym s.is
    ∙ sym (append-nil (encode c)))
    ∙ first_is_character c [] h refl

none_in : (s : List ℕ) → length s ≡ 0 → None ≡ last_character (reverse s)
none_in [] none = refl
none_in (b ∷ s) none = absurd (omega arith)

-- what `next_back` gives
pub last_told : (X : Type 0) (s whole rest : List ℕ) (r : Option ℕ) → whole ≡ s
    → IfSome r (λ c. IsScalar c)
    → MatchOption r ((length whole ≡ 0) × X) (λ c. whole ≡ rest ++ encode_utf8 c)
    → r ≡ last_character (reverse s)
last_told X s whole rest None same scalar told = none_in s (sym (ap length same) ∙ told.0)
last_told X s whole rest (Some c) same scalar told =
    sym (ap (λ l. last_character (reverse l)) (sym same ∙ told)
    ∙ ap last_character (reverse-append rest (encode_utf8 c) ∙ sym (pushed_reverse (encode_utf8 c) (reverse rest)))
    ∙ last_is_character c (reverse rest) scalar)
