-- The longest beginning of characters that pass a test, and where it ends.
use Rattle.std.proofs.Common.{Bool, List, [], ap, false, not, refl, true, ℕ, ◌++◌, ◌∷◌, ◌≡◌, ◌≢◌}
use Rattle.std.specs.List.{list_all}
use Rattle.std.proofs.lemmas.Bool.{not-true, and_parts}
use Rattle.htmd_lexical.proofs.Cases.{test}
use Rattle.htmd_lexical.specs.CharacterClasses.{behind_run, is_empty, leading_run}

-- nothing follows that passes the test
abbrev pub halts : (ℕ → Bool) → List ℕ → Bool
halts p [] = true
halts p (b ∷ s) = not (p b)

pub front_cut : (p : ℕ → Bool) (w r : List ℕ) → list_all p w ≡ true → halts p r ≡ true
    → (leading_run p (w ++ r) ≡ w) × (behind_run p (w ++ r) ≡ r)
front_cut p [] [] l h = (refl, refl)
front_cut p [] (b ∷ r) l h = let q = not-true (p b) h in (rw q refl, rw q refl)
front_cut p (b ∷ w) r l h =
    let k = and_parts (p b) (list_all p w) l in
    let i = front_cut p w r k.1 h in
    (rw (k.0, i.0) refl, rw (k.0, i.1) refl)

pub back_split : (p : ℕ → Bool) (s : List ℕ) → s ≡ leading_run p s ++ behind_run p s
back_split p [] = refl
back_split p (b ∷ s) = test (p b) (λ q. rw q (ap (λ (y : List ℕ). b ∷ y) (back_split p s))) (λ q. rw q refl)

pub front_all : (p : ℕ → Bool) (s : List ℕ) → list_all p (leading_run p s) ≡ true
front_all p [] = refl
front_all p (b ∷ s) = test (p b) (λ q. rw q (rw q (front_all p s))) (λ q. rw q refl)

pub back_halts : (p : ℕ → Bool) (s : List ℕ) → halts p (behind_run p s) ≡ true
back_halts p [] = refl
back_halts p (b ∷ s) = test (p b) (λ q. rw q (back_halts p s)) (λ q. rw q (rw q refl))

-- a run that is whole
pub front_whole : (p : ℕ → Bool) (w r : List ℕ) → leading_run p (w ++ r) ≡ w
    → (list_all p w ≡ true) × (halts p r ≡ true)
front_whole p [] [] e = (refl, refl)
front_whole p [] (b ∷ r) e = test (p b) (λ q. let z = rw q at e in absurd (cc)) (λ q. (refl, rw q refl))
front_whole p (b ∷ w) r e = test (p b)
    (λ q. let z = rw q at e in let i = front_whole p w r (cc) in (rw (q, i.0) refl, i.1))
    (λ q. let z = rw q at e in absurd (cc))

pub halts_append : (p : ℕ → Bool) (r x : List ℕ) → r ≢ [] → halts p r ≡ true → halts p (r ++ x) ≡ true
halts_append p [] x n h = absurd (n refl)
halts_append p (b ∷ r) x n h = h

pub halts_cut : (p : ℕ → Bool) (r x : List ℕ) → halts p (r ++ x) ≡ true → halts p r ≡ true
halts_cut p [] x h = refl
halts_cut p (b ∷ r) x h = h

pub filled : (s : List ℕ) → s ≢ [] → is_empty s ≡ false
filled [] n = absurd (n refl)
filled (b ∷ s) n = refl
