-- A name is compared only with the block names of its own length.
use Rattle.std.proofs.Common.{◌≡◌, ℕ, Bool, true, false, cond, List, [], ◌∷◌, length, refl, sym, ap, ◌∙◌, ⊎_elim}
use Rattle.std.proofs.Common.{eq-eqb}
use Rattle.std.specs.Prelude.{◌==◌, ◌||◌, not}
use Rattle.std.specs.List.{list_any, list_all}
use Rattle.std.specs.Str.{bytes_eq}
use Rattle.std.proofs.lemmas.Bool.{or_parts, or_from, cases_Bool, false_from_ne_true, false≢true}
use Rattle.std.proofs.lemmas.Slice.Eq.{bytes_eq-Decides}
use Rattle.htmd_text.specs.Blocks.{block_names, is_block}

-- no element has the empty name
pub block-nil : is_block [] ≡ false
unfolding is_block
block-nil = refl

-- the name is one of these
abbrev pub is_among : List (List ℕ) → List ℕ → Bool
is_among names name = list_any (λ other. bytes_eq other name) names

-- the names of this length
abbrev pub of_length : ℕ → List (List ℕ) → List (List ℕ)
of_length n [] = []
of_length n (name ∷ names) = cond (length name == n) (name ∷ of_length n names) (of_length n names)

-- names whose lengths differ in some way are not the same
differ : (f : ℕ → Bool) (other name : List ℕ) → f (length other) ≡ false → f (length name) ≡ true
    → bytes_eq other name ≡ false
differ f other name here there =
    false_from_ne_true _ (λ same. absurd
    (false≢true (sym here ∙ ap (λ l. f (length l)) ((bytes_eq-Decides other name).0 same) ∙ there)))

among_length : (names : List (List ℕ)) (name : List ℕ)
    → is_among names name ≡ is_among (of_length (length name) names) name
among_length [] name = refl
among_length (other ∷ names) name =
    ⊎_elim
    (λ same. rw same (ap (λ b. bytes_eq other name || b) (among_length names name)))
    (λ apart.
    let no = differ (λ n. n == length name) other name apart (eq-eqb (length name) (length name) refl) in
    rw (no, apart) (among_length names name))
    (cases_Bool (length other == length name))

pub block_of_length : (name : List ℕ) (n : ℕ) → length name ≡ n
    → is_block name ≡ is_among (of_length n block_names) name
unfolding is_block
block_of_length name n e = among_length block_names name ∙ ap (λ k. is_among (of_length k block_names) name) e

-- a block name has no other length
abbrev pub is_other_length : ℕ → Bool
is_other_length n = list_all (λ m. not (m == n)) (1 ∷ 2 ∷ 3 ∷ 4 ∷ 5 ∷ 6 ∷ 7 ∷ 8 ∷ 10 ∷ [])

other_among : (names : List (List ℕ)) (name : List ℕ)
    → list_any (λ other. is_other_length (length other)) names ≡ false
    → is_other_length (length name) ≡ true → is_among names name ≡ false
other_among [] name none long = refl
other_among (other ∷ names) name none long =
    let parts = or_parts (is_other_length (length other)) (list_any (λ x. is_other_length (length x)) names) none in
    or_from _ _ (differ is_other_length other name parts.0 long) (other_among names name parts.1 long)

pub block_of_other_length : (name : List ℕ) → is_other_length (length name) ≡ true → is_block name ≡ false
unfolding is_block
block_of_other_length name long = other_among block_names name refl long
