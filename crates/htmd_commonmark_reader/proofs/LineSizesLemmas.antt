-- How long lines are.
use Rattle.std.proofs.Common.{◌≡◌, ℕ, ◌≤◌, ◌==◌, Bool, true, List, [], ◌∷◌, length, refl, arith}
use Rattle.std.proofs.lemmas.Bool.{eqb-true}
use Rattle.htmd_lexical.proofs.Cases.{test}
use Rattle.htmd_lexical.specs.CharacterClasses.{leading_run}
use Rattle.htmd_commonmark_reading.specs.Lines.{split_lines}

pub run_within : (p : ℕ → Bool) (s : List ℕ) → length (leading_run p s) ≤ length s
run_within p [] = omega arith
run_within p (c ∷ s) = test (p c) (λ e. rw e (omega (arith, run_within p s))) (λ e. rw e (omega arith))

pub no_lines : (s : List ℕ) → (length s == 0) ≡ true → split_lines s ≡ []
no_lines [] e = refl
no_lines (c ∷ s) e = let size : length (c ∷ s) ≡ 0 = eqb-true (length (c ∷ s)) 0 e in
    absurd (omega (arith, size))
