-- How long the runs at the beginning of a text are, and where they end.
use Rattle.std.proofs.Common.{◌≡◌, ℕ, ◌+◌, ◌-◌, ◌<◌, ◌≤◌, Bool, true, false, List, []}
use Rattle.std.proofs.Common.{◌∷◌, length, take, drop, get_or, refl, ap, sym, ◌∙◌, arith}
use Rattle.std.proofs.lemmas.Bool.Decides.{nat_tests}
use Rattle.std.proofs.lemmas.List.{drop_more}
use Rattle.std.proofs.lemmas.Slice.{between_to_end}
use Rattle.htmd_lexical.proofs.Cases.{test}
use Rattle.htmd_lexical.specs.CharacterClasses.{leading_run, behind_run, up_to, onward, begins_in_any_case}
use Rattle.htmd_lexical.specs.EndTags.{goes_on_with_name}
use Rattle.htmd_lexical.specs.WhiteSpace.{is_ascii_white_space}

-- ---- white space

pub white_is_ascii : (b : ℕ) → is_ascii_white_space b ≡ true → b < 128
white_is_ascii b white = grind (arith, nat_tests)

-- ---- runs of characters that pass a test

module _ (p : ℕ → Bool) where
  pub take_leading_run : (s : List ℕ) → take (length (leading_run p s)) s ≡ leading_run p s
  take_leading_run [] = refl
  take_leading_run (b ∷ s) = test (p b) (λ q. rw (q, take_leading_run s) refl) (λ q. rw q refl)

  pub drop_leading_run : (s : List ℕ) → drop (length (leading_run p s)) s ≡ behind_run p s
  drop_leading_run [] = refl
  drop_leading_run (b ∷ s) = test (p b) (λ q. rw (q, drop_leading_run s) refl) (λ q. rw q refl)

  -- what follows a run does not pass
  pub behind_leading_run : (s : List ℕ) → length (leading_run p s) < length s
      → p (get_or s (length (leading_run p s)) 0) ≡ false
  behind_leading_run [] l = absurd (omega arith)
  behind_leading_run (b ∷ s) l =
      test (p b) (λ q. let m = rw q at l in rw q (behind_leading_run s (omega arith))) (λ q. rw q q)

-- ---- beginnings up to where a test holds for the rest

module _ (stop : List ℕ → Bool) where
  pub take_up_to : (s : List ℕ) → take (length (up_to stop s)) s ≡ up_to stop s
  take_up_to [] = refl
  take_up_to (b ∷ s) = test (stop (b ∷ s)) (λ q. rw q refl) (λ q. rw (q, take_up_to s) refl)

  pub drop_up_to : (s : List ℕ) → drop (length (up_to stop s)) s ≡ onward stop s
  drop_up_to [] = refl
  drop_up_to (b ∷ s) = test (stop (b ∷ s)) (λ q. rw q refl) (λ q. rw (q, drop_up_to s) refl)

  pub up_to-le-length : (s : List ℕ) → length (up_to stop s) ≤ length s
  up_to-le-length [] = omega arith
  up_to-le-length (b ∷ s) =
      let more = up_to-le-length s in
      test (stop (b ∷ s)) (λ q. rw q (omega arith)) (λ q. rw q (omega arith))

  -- it holds for what is there
  pub stops_at : (s : List ℕ) → length (up_to stop s) < length s → stop (drop (length (up_to stop s)) s) ≡ true
  stops_at [] l = absurd (omega arith)
  stops_at (b ∷ s) l =
      test (stop (b ∷ s)) (λ q. rw q q) (λ q. let m = rw q at l in rw q (stops_at s (omega arith)))

  step : (s : List ℕ) (i : ℕ) → i < length s → stop (drop i s) ≡ false
      → length (up_to stop (drop i s)) ≡ length (up_to stop (drop (i + 1) s)) + 1
  step s i l q =
      let d = drop_more s i 0 l in
      let r : stop (get_or s i 0 ∷ drop (i + 1) s) ≡ false = rw d at q in
      rw d (rw r (omega arith))

  -- one more byte before it
  pub up_to_more : (s : List ℕ) (i : ℕ) (r : Bool) → i < length s → r ≡ stop (take (length s - i) (drop i s))
      → r ≡ false → length (up_to stop (drop i s)) ≡ length (up_to stop (drop (i + 1) s)) + 1
  up_to_more s i r l e q =
      step s i l (ap stop (sym (between_to_end s i (length s) (omega arith))) ∙ sym e ∙ q)

-- ---- how a text begins

pub begins_no_further : (cs s : List ℕ) → 0 < length cs → length s < 1 → begins_in_any_case cs s ≡ false
begins_no_further [] s l m = absurd (omega arith)
begins_no_further (c ∷ cs) [] l m = refl
begins_no_further (c ∷ cs) (b ∷ s) l m = absurd (omega arith)

pub goes_on_no_further : (cs s : List ℕ) → 0 < length cs → length s < 1 → goes_on_with_name cs s ≡ false
goes_on_no_further [] s l m = absurd (omega arith)
goes_on_no_further (c ∷ cs) [] l m = refl
goes_on_no_further (c ∷ cs) (b ∷ s) l m = absurd (omega arith)
