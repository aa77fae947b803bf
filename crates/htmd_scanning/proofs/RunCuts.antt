-- Where a text may be cut after a run of characters of one class.
use Rattle.std.proofs.Common.{◌≡◌, ℕ, ◌<◌, Bool, true, false, List, length, get_or, refl, arith, inl, inr}
use Rattle.std.proofs.lemmas.Bool.Decides.{nat_tests}
use Rattle.std.specs.Prelude.{nat_lt}
use Rattle.std.specs.Str.{IsUtf8, IsCharBoundary}
use Rattle.htmd_lexical.specs.CharacterClasses.{leading_run}
use Rattle.htmd_lexical.specs.TagReading.{is_other}
use Rattle.htmd_lexical.proofs.CharacterClassesLemmas.{behind_leading_run}
use Rattle.htmd_lexical.proofs.RunsLemmas.{run_within, behind_last}
pub use Rattle.htmd_scanning.specs.Runs.{IsUniform}

pub outside_other : (other b : ℕ) → nat_lt other 128 ≡ true → is_other other b ≡ false → b < 128
outside_other other b l e = grind (arith, nat_tests)

pub outside_byte : (other b : ℕ) → other < 128 → is_other other b ≡ false → b < 128
outside_byte other b l e = grind (arith, nat_tests)

-- before an ASCII character that ends a run
pub cut_before_ascii : (p : ℕ → Bool) (s : List ℕ) → ((b : ℕ) → p b ≡ false → b < 128)
    → IsCharBoundary s (length (leading_run p s))
cut_before_ascii p s h =
    let w = run_within p s in (
      omega arith,
      λ l high. let a = h (get_or s (length (leading_run p s)) 0) (behind_leading_run p s l) in absurd (omega arith),
    )

-- after a run of such a class
pub cut_at : (p : ℕ → Bool) (s : List ℕ) → IsUtf8 s → IsUniform p
    → IsCharBoundary s (length (leading_run p s))
cut_at p s u (inl h) = cut_before_ascii p s h
cut_at p s u (inr h) = behind_last p s (length (leading_run p s)) u h refl
