-- Tests and lists.
use Rattle.std.proofs.Common.{Bool, List, [], cond, false, inl, inr, not, refl, true, ℕ, ◌&&◌, ◌++◌, ◌∷◌}
use Rattle.std.proofs.Common.{◌≡◌, ◌⊎◌}
use Rattle.std.specs.List.{list_all}
use Rattle.std.specs.Prelude.{◌==◌}
use Rattle.std.proofs.lemmas.Bool.{and_parts}
use Rattle.std.proofs.Math.Bool.{and-false}
use Rattle.htmd_lexical.specs.CharacterClasses.{lacks}

-- by a name that a tactic's list can hold
pub and_false : (x : Bool) → (x && false) ≡ false
and_false = and-false

pub if_then : {A : Type 0} (b : Bool) (x y z : A) → cond b x y ≡ z
    → ((b ≡ true) × (x ≡ z)) ⊎ ((b ≡ false) × (y ≡ z))
if_then true x y z e = inl (refl, e)
if_then false x y z e = inr (refl, e)

pub lacks-append : (b : ℕ) (s t : List ℕ) → lacks b s ≡ true → lacks b t ≡ true
    → lacks b (s ++ t) ≡ true
lacks-append b [] t e f = f
lacks-append b (c ∷ s) t e f = let p =
    and_parts (not (c == b)) (lacks b s) e in rw (p.0, lacks-append b s t p.1 f) refl

-- what passes one test passes another
pub all_pass : (p q : ℕ → Bool) (s : List ℕ) → ((b : ℕ) → p b ≡ true → q b ≡ true)
    → list_all p s ≡ true
    → list_all q s ≡ true
all_pass p q [] h e = refl
all_pass p q (b ∷ s) h e = let k = and_parts (p b) (list_all p s) e in rw (h b k.0, all_pass p q s h k.1) refl
