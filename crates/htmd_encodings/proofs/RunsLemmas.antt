-- What follows the first of some bytes.
use Rattle.std.proofs.Common.{◌≡◌, ℕ, ◌<◌, ◌≤◌, List, [], ◌∷◌, length, drop, refl, arith}
use Rattle.std.proofs.Common.{length-drop}
use Rattle.htmd_lexical.specs.CharacterClasses.{begins_with, onward}
use Rattle.htmd_lexical.proofs.Cases.{test}
use Rattle.htmd_encodings.specs.Declarations.{after_first}

onward_within : (p s : List ℕ) → length (onward (begins_with p) s) ≤ length s
onward_within p [] = omega arith
onward_within p (b ∷ s) =
    let h = onward_within p s in
    test (begins_with p (b ∷ s)) (λ e. rw e (omega arith)) (λ e. rw e (omega arith))

pub after_first_within : (p s : List ℕ) → length (after_first p s) ≤ length s
after_first_within p s =
    let h = onward_within p s in
    let d = length-drop (length p) (onward (begins_with p) s) in
    omega arith

-- nothing follows nothing
pub nothing_dropped : (s : List ℕ) → length s < 1 → [] ≡ drop 1 s
nothing_dropped [] l = refl
nothing_dropped (b ∷ s) l = absurd (omega arith)
