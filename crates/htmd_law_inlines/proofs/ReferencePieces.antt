-- What is no character reference in a text is none when the text has its backslashes.
use Rattle.std.proofs.Common.{◌≡◌, ◌∙◌, refl, ap, ℕ, suc, Bool, true, false, List, [], ◌∷◌, ◌++◌, None, codes, arith}
use Rattle.std.proofs.Common.{◌⊎◌, inl, inr, ◌<◌}
use Rattle.std.specs.Prelude.{not, ◌&&◌, ◌==◌, if◌then◌else◌, length, find}
use Rattle.std.specs.List.{list_all}
use Rattle.std.specs.Char.{is_ascii_punctuation, is_ascii_alphanumeric, is_ascii_alphabetic, is_ascii_hexdigit}
use Rattle.std.specs.Char.{is_ascii_digit, is_ascii_uppercase}
use Rattle.std.proofs.lemmas.Bool.{eqb-true, and_parts, not-true, not-false, or_parts, and_cases, agree_below}
use Rattle.std.proofs.lemmas.Bool.{agree_below_at}
use Rattle.htmd_lexical.specs.Characters.{is_one_of}
use Rattle.htmd_lexical.specs.CharacterClasses.{first_is, leading_run, behind_run}
use Rattle.htmd_html5_tokens.specs.NamedReferences.{named, small_names}
use Rattle.htmd_text.specs.EscapedPlaces.{with_backslashes}
use Rattle.htmd_commonmark.specs.References.{is_semicolon, is_run, is_number, is_reference, ends_behind}
use Rattle.htmd_commonmark_reading.specs.Characters.{reference, numbered, number_reference, name_reference}
use Rattle.htmd_commonmark_reading.specs.Characters.{name_meaning}
use Rattle.htmd_law_inlines.proofs.TextPieces.{test, differs, is_no_reference}

-- ---- what is beside a text

-- a character that may follow a text
abbrev pub ends_text : ℕ → Bool
ends_text d = is_one_of (codes "`*_~<[]!\n \\") d

abbrev pub follows_text : List ℕ → Bool
follows_text [] = true
follows_text (d ∷ ks) = ends_text d

-- what all of these have, each has
pub one_of : (p : ℕ → Bool) (l : List ℕ) (d : ℕ) → is_one_of l d ≡ true → list_all p l ≡ true → p d
    ≡ true
one_of p [] d h k = absurd (cc)
one_of p (c ∷ l) d h k =
    let a = and_parts (p c) (list_all p l) k in
    test (d == c) (λ e. ap p (eqb-true d c e) ∙ a.0)
    (λ e. one_of p l d (rw e at h) a.1)

-- ---- backslashes stand before punctuation alone

abbrev pub AreEscapes : (ℕ → Bool) → ℕ → List ℕ → Type 0
AreEscapes marked k [] = Unit {0}
AreEscapes marked k (c ∷ s) = (marked k ≡ true → is_ascii_punctuation c ≡ true) × AreEscapes marked (suc k) s

-- a class without punctuation and without what follows a text
pub record IsOfWords (p : ℕ → Bool) : Type 0 where
  pub escapes : (c : ℕ) → is_ascii_punctuation c ≡ true → p c ≡ false
  pub ends : (c : ℕ) → ends_text c ≡ true → p c ≡ false

pub is_small : (c : ℕ) → is_ascii_punctuation c ≡ true → c < 128
is_small c h = grind arith

-- a class that has no punctuation has none at any character
pub no_escape : (p : ℕ → Bool) → agree_below (λ c. is_ascii_punctuation c && p c) (λ c. false) 128 ≡ true
    → (c : ℕ) → is_ascii_punctuation c ≡ true → p c ≡ false
no_escape p t c h =
    let e = agree_below_at (λ x. is_ascii_punctuation x && p x) (λ x. false) 128 c t (is_small c h) in rw h at e

pub alphanumeric : IsOfWords is_ascii_alphanumeric
alphanumeric = record {
  escapes = no_escape is_ascii_alphanumeric refl;
  ends = λ c h. not-true (is_ascii_alphanumeric c)
      (one_of (λ d. not (is_ascii_alphanumeric d)) (codes "`*_~<[]!\n \\") c h refl);
}

pub hexdigit : IsOfWords is_ascii_hexdigit
hexdigit = record {
  escapes = no_escape is_ascii_hexdigit refl;
  ends = λ c h. not-true (is_ascii_hexdigit c) (one_of (λ d. not (is_ascii_hexdigit d)) (codes "`*_~<[]!\n \\") c h
      refl);
}

pub digit : IsOfWords is_ascii_digit
digit = record {
  escapes = no_escape is_ascii_digit refl;
  ends = λ c h. not-true (is_ascii_digit c) (one_of (λ d. not (is_ascii_digit d)) (codes "`*_~<[]!\n \\") c h refl);
}

-- ---- what is written of a text, as far as its words

-- Each character as it is, or punctuation by what begins with a backslash or an ampersand; then what follows the text.
abbrev pub Writes : List ℕ → List ℕ → Type 0
Writes [] u = follows_text u ≡ true
Writes (c ∷ t) [] = ⊥
Writes (c ∷ t) (h ∷ u) =
    ((h ≡ c) × Writes t u) ⊎ ((is_ascii_punctuation c ≡ true) × (is_one_of (codes "\\&") h ≡ true))

pub writes_marks : (marked : ℕ → Bool) (k : ℕ) (t ks : List ℕ) → AreEscapes marked k t → follows_text ks
    ≡ true
    → Writes t (with_backslashes marked k t ++ ks)
writes_marks marked k [] ks a f = f
writes_marks marked k (c ∷ t) ks a f =
    test (marked k) (λ m. rw m (inr (a.0 m, refl))) (λ m. rw m (inl (refl, writes_marks marked (suc k) t ks a.1 f)))

others : (p : ℕ → Bool) → IsOfWords p → (h : ℕ) → is_one_of (codes "\\&") h ≡ true → p h ≡ false
others p w h o = w.escapes h (one_of is_ascii_punctuation (codes "\\&") h o refl)

-- no semicolon follows the run
behind_read : (p : ℕ → Bool) → IsOfWords p → (t u : List ℕ) → Writes t u
    → is_semicolon (find (λ b. not (p b)) t) ≡ false → first_is 59 (behind_run p u) ≡ false
behind_read p w [] [] x h = refl
behind_read p w [] (d ∷ ks) x h = rw (w.ends d x) (differs ends_text d 59 x refl)
behind_read p w (c ∷ t) [] x h = absurd x
behind_read p w (c ∷ t) (d ∷ u) (inl x) h =
    test (p c) (λ e. rw (x.0, e) (behind_read p w t u x.1 (rw e at h))) (λ e. rw (x.0, e) (rw e at h))
behind_read p w (c ∷ t) (d ∷ u) (inr x) h =
    rw (others p w d x.1) (differs (is_one_of (codes "\\&")) d 59 x.1 refl)

-- nothing is before a semicolon
nothing_before : (p : ℕ → Bool) → IsOfWords p → (t u : List ℕ) → Writes t u → first_is 59 t ≡ true
    → leading_run p u ≡ []
nothing_before p w [] u x h = absurd (cc)
nothing_before p w (c ∷ t) [] x h = absurd x
nothing_before p w (c ∷ t) (d ∷ u) (inl x) h = rw (x.0, eqb-true c 59 h, w.escapes 59 refl) refl
nothing_before p w (c ∷ t) (d ∷ u) (inr x) h = rw (others p w d x.1) refl

numbered_none : (base before most : ℕ) (digits rest : List ℕ) → (first_is 59 rest ≡ false) ⊎ (digits ≡ [])
    → numbered base before most digits rest ≡ None
numbered_none base before most digits rest (inl h) = rw h refl
numbered_none base before most digits rest (inr h) =
    test (first_is 59 rest) (λ e. rw (e, h) refl) (λ e. rw e refl)

-- no such digits and a semicolon
run_none : (p : ℕ → Bool) → IsOfWords p → (base before most : ℕ) (t u : List ℕ) → Writes t u
    → is_run p t ≡ false
    → numbered base before most (leading_run p u) (behind_run p u) ≡ None
run_none p w base before most t u x h =
    elim (and_cases (not (first_is 59 t)) (ends_behind p t) h) as (λ y.
    numbered base before most (leading_run p u) (behind_run p u) ≡ None) [
      | inl e ↦ numbered_none base before most (leading_run p u) (behind_run p u)
          (inr (nothing_before p w t u x (not-false (first_is 59 t) e)))
      | inr e ↦ numbered_none base before most (leading_run p u) (behind_run p u) (inl (behind_read p w t u x e))
    ]

no_x : (c : ℕ) (p : ℕ → Bool) → p c ≡ true → p 120 ≡ false → p 88 ≡ false
    → is_one_of (codes "xX") c ≡ false
no_x c p h i j = rw (differs p c 120 h i, differs p c 88 h j) refl

number_none : (t u : List ℕ) → Writes t u → is_number t ≡ false → number_reference u ≡ None
number_none [] [] x h = refl
number_none [] (d ∷ ks) x h =
    rw (no_x d ends_text x refl refl)
    (numbered_none 10 1 7 (leading_run is_ascii_digit (d ∷ ks)) (behind_run is_ascii_digit (d ∷ ks))
    (inr (rw (digit.ends d x) refl)))
number_none (c ∷ t) [] x h = absurd x
number_none (c ∷ t) (d ∷ u) (inl x) h =
    test (is_one_of (codes "xX") c)
    (λ e. rw (x.0, e) (run_none is_ascii_hexdigit hexdigit 16 2 6 t u x.1 (rw e at h)))
    (λ e. rw (x.0, e) (run_none is_ascii_digit digit 10 1 7 (c ∷ t) (c ∷ u) (inl (refl, x.1)) (rw e at h)))
number_none (c ∷ t) (d ∷ u) (inr x) h =
    rw (no_x d (is_one_of (codes "\\&")) x.1 refl refl)
    (numbered_none 10 1 7 (leading_run is_ascii_digit (d ∷ u)) (behind_run is_ascii_digit (d ∷ u))
    (inr (rw (others is_ascii_digit digit d x.1) refl)))

not_capital : (d : ℕ) → is_ascii_alphabetic d ≡ false → is_ascii_uppercase d ≡ false
not_capital d h = (or_parts _ _ h).0

other_letter : (d c : ℕ) → is_ascii_alphabetic d ≡ false → is_ascii_alphabetic c ≡ true → (d == c) ≡ false
other_letter d c h k = test (d == c) (λ e. let a = ap is_ascii_alphabetic (eqb-true d c e) in absurd (cc)) (λ e. e)

no_small_name : (d : ℕ) → is_ascii_alphabetic d ≡ false → small_names d ≡ []
unfolding small_names
no_small_name d h =
    rw (
      other_letter d 0x61 h refl,
      other_letter d 0x62 h refl,
      other_letter d 0x63 h refl,
      other_letter d 0x64 h refl,
      other_letter d 0x65 h refl,
      other_letter d 0x66 h refl,
      other_letter d 0x67 h refl,
      other_letter d 0x68 h refl,
      other_letter d 0x69 h refl,
      other_letter d 0x6a h refl,
      other_letter d 0x6b h refl,
      other_letter d 0x6c h refl,
      other_letter d 0x6d h refl,
      other_letter d 0x6e h refl,
      other_letter d 0x6f h refl,
      other_letter d 0x70 h refl,
      other_letter d 0x71 h refl,
      other_letter d 0x72 h refl,
      other_letter d 0x73 h refl,
      other_letter d 0x74 h refl,
      other_letter d 0x75 h refl,
      other_letter d 0x76 h refl,
      other_letter d 0x77 h refl,
      other_letter d 0x78 h refl,
      other_letter d 0x79 h refl,
      other_letter d 0x7a h refl,
    ) refl

-- no name begins with a digit
pub no_name : (d : ℕ) (n : List ℕ) → is_ascii_alphabetic d ≡ false → named (d ∷ n) ≡ None
no_name d n h = rw (not_capital d h, no_small_name d h) refl

name_none_if : (b : Bool) (n : ℕ) → (if b then name_meaning n None else None) ≡ None
name_none_if true n = refl
name_none_if false n = refl

no_first_letter : (d : ℕ) (u : List ℕ) → is_ascii_alphanumeric d ≡ false → name_reference (d ∷ u) ≡ None
no_first_letter d u h = rw h (name_none_if (d == 59) 1)

name_none : (t u : List ℕ) → Writes t u → first_is 35 t ≡ false → is_reference t ≡ false
    → name_reference u ≡ None
name_none [] [] x n h = refl
name_none [] (d ∷ ks) x n h = no_first_letter d ks (alphanumeric.ends d x)
name_none (c ∷ t) [] x n h = absurd x
name_none (c ∷ t) (d ∷ u) (inr x) n h = no_first_letter d u (others is_ascii_alphanumeric alphanumeric d x.1)
name_none (c ∷ t) (d ∷ u) (inl x) n h =
    rw x.0 (test (is_ascii_alphanumeric c)
    (λ e. elim (and_cases (is_ascii_alphabetic c) (ends_behind is_ascii_alphanumeric t) (rw n at h)) as (λ y.
    name_reference (c ∷ u) ≡ None) [
      | inl y ↦ rw (e, no_name c (leading_run is_ascii_alphanumeric u) y)
          (name_none_if (first_is 59 (behind_run is_ascii_alphanumeric u))
          (suc (length (leading_run is_ascii_alphanumeric u))))
      | inr y ↦ rw (e, behind_read is_ascii_alphanumeric alphanumeric t u x.1 y) refl
    ])
    (λ e. no_first_letter c u e))

-- what is no reference is none then
pub written_none : (t u : List ℕ) → Writes t u → is_reference t ≡ false → is_no_reference (reference u)
    ≡ true
written_none [] [] x h = refl
written_none [] (d ∷ ks) x h =
    rw (differs ends_text d 35 x refl, name_none [] (d ∷ ks) x refl refl) refl
written_none (c ∷ t) [] x h = absurd x
written_none (c ∷ t) (d ∷ u) (inr x) h =
    rw (
      differs (is_one_of (codes "\\&")) d 35 x.1 refl,
      no_first_letter d u (others is_ascii_alphanumeric alphanumeric d x.1),
    ) refl
written_none (c ∷ t) (d ∷ u) (inl x) h =
    rw x.0 (test (c == 35)
    (λ e. rw (e, number_none t u x.1 (rw e at h)) refl)
    (λ e. rw (e, name_none (c ∷ t) (c ∷ u) (inl (refl, x.1)) e h) refl))

pub reference_none : (marked : ℕ → Bool) (k : ℕ) (t ks : List ℕ) → AreEscapes marked k t → follows_text ks
    ≡ true
    → is_reference t ≡ false → is_no_reference (reference (with_backslashes marked k t ++ ks)) ≡ true
reference_none marked k t ks a f h =
    written_none t (with_backslashes marked k t ++ ks) (writes_marks marked k t ks a f) h
