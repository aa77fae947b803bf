-- Which tests a letter fails, and texts in which it doesn't stand.
use Rattle.std.proofs.Common.{◌≡◌, ◌∙◌, ℕ, zero, suc, ◌<◌, Bool, true, false, List, [], ◌∷◌, refl, sym, ap, arith, cond}
use Rattle.std.specs.Prelude.{◌==◌, ◌||◌, not, count_by}
use Rattle.std.specs.List.{list_all}
use Rattle.std.specs.Str.{IsAscii}
use Rattle.std.proofs.lemmas.Bool.{true≢false, and_parts, eqb-true}
use Rattle.std.proofs.lemmas.List.Sums.{sum_by-cons}
use Rattle.std.proofs.lemmas.Str.{chars-IsAscii}
use Rattle.htmd_lexical.proofs.Cases.{test}
use Rattle.htmd_lexical.specs.Characters.{null}
use Rattle.htmd_lexical.specs.WhiteSpace.{is_ascii_white_space}
use Rattle.htmd_html5_tokens.specs.References.{replacement_character}
use Rattle.htmd_law_html5.specs.PageLetters.{is_letter, is_character, occurrences}

-- a character that is neither U+0000, nor what comes for that
pub record CharacterTests (c : ℕ) : Type 0 where
  pub null_is_none : (c == null) ≡ false
  pub other : (c == replacement_character) ≡ false

-- nor white space: a letter
pub record LetterTests (c : ℕ) : Type 0 where
  pub white : is_ascii_white_space c ≡ false
  pub character : CharacterTests c

pub letter_tests : (c : ℕ) → is_letter c ≡ true → LetterTests c
letter_tests c e =
    let tests = apart (is_ascii_white_space c) (c == null) (c == replacement_character) e in
    record { white = tests.0; character = record { null_is_none = tests.1.0; other = tests.1.1 } }
  where
    apart : (white none other : Bool) → not (white || none || other) ≡ true
        → (white ≡ false) × ((none ≡ false) × (other ≡ false))
    apart false false false e = (refl, (refl, refl))
    apart false false true e = absurd (true≢false (sym e))
    apart false true other e = absurd (true≢false (sym e))
    apart true none other e = absurd (true≢false (sym e))

-- ---- texts of ASCII characters that pass a test that it fails

pub all_ascii : (p : ℕ → Bool) (t : List ℕ) → ((b : ℕ) → p b ≡ true → b < 128) → list_all p t ≡ true
    → IsAscii t
all_ascii p [] low e i = omega arith
all_ascii p (b ∷ t) low e zero = low b (and_parts (p b) (list_all p t) e).0
all_ascii p (b ∷ t) low e (suc i) = all_ascii p t low (and_parts (p b) (list_all p t) e).1 i

not_counted : (c : ℕ) (p : ℕ → Bool) (t : List ℕ) → p c ≡ false → list_all p t ≡ true
    → count_by (is_character c) t ≡ 0
not_counted c p [] off e = refl
not_counted c p (b ∷ t) off e =
    let parts = and_parts (p b) (list_all p t) e in
    let more = not_counted c p t off parts.1 in
    let sum = sum_by-cons (λ x. cond (is_character c x) 1 0) b t in
    test (b == c) (λ f. absurd (true≢false (sym parts.0 ∙ ap p (eqb-true b c f) ∙ off)))
    (λ f. let none : ◌≡◌ {A = ℕ} (cond (is_character c b) 1 0) 0 = rw f refl in omega arith)

pub none_of_class : (c : ℕ) (p : ℕ → Bool) (t : List ℕ) → ((b : ℕ) → p b ≡ true → b < 128) → p c
    ≡ false → list_all p t ≡ true → occurrences c t ≡ 0
unfolding occurrences
none_of_class c p t low off e =
    ap (count_by (is_character c)) (chars-IsAscii t (all_ascii p t low e)) ∙ not_counted c p t off e
