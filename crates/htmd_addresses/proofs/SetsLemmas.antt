-- Where what is in a set may be cut, and what is left of a set after a candidate.
use Rattle.std.proofs.Common.{◌≡◌, ℕ, zero, suc, ◌+◌, ◌-◌, ◌<◌, ◌≤◌, Bool, true, false, cond, List, [], ◌∷◌, ◌++◌}
use Rattle.std.proofs.Common.{length, get_or, take, drop, Option, Some, None, refl, sym, ap, ◌∙◌, arith, subst}
use Rattle.std.proofs.Common.{append_assoc}
use Rattle.std.specs.Prelude.{nat_lt, reverse}
use Rattle.std.specs.List.{suffix_len}
use Rattle.std.specs.Str.{IsCharBoundary}
use Rattle.std.proofs.lemmas.Bool.Decides.{nat_tests}
use Rattle.std.proofs.lemmas.List.{get_or-reverse, get_or-take, length-drop, length-take, length-take-le}
use Rattle.std.proofs.lemmas.List.Sums.{prefix_len_passes, suffix_len-le-length}
use Rattle.std.proofs.lemmas.Str.{IsCharBoundary-before_ascii}
use Rattle.htmd_text.proofs.TrimsLemmas.{OfAscii}
use Rattle.htmd_addresses.specs.AddressSets.{Candidate, Resolution, address_len, before_len, described}
use Rattle.htmd_addresses.specs.AddressSets.{description_len, first_candidate, is_before, is_comma, set_by, set_from}
use Rattle.htmd_addresses.specs.AddressSets.{set_with, word_len}

pub before_of_ascii : OfAscii is_before
before_of_ascii b e = grind (arith, nat_tests)

comma_of_ascii : OfAscii is_comma
comma_of_ascii b e = grind (arith, nat_tests)

-- a set may be cut where a word ends, and in front of the commas at its end
pub address_boundary : (s : List ℕ) (n : ℕ) → IsCharBoundary s (word_len s)
    → n ≡ suffix_len is_comma (take (word_len s) s) → IsCharBoundary s (word_len s - n)
address_boundary s zero here e =
    let all : word_len s ≡ word_len s - 0 = omega arith in
    subst (λ (k : ℕ). IsCharBoundary s k) all here
address_boundary s (suc n) here e =
    let word : List ℕ = take (word_len s) s in
    let place : ℕ = word_len s - suc n in
    let within = suffix_len-le-length is_comma word in
    let size : length word ≡ word_len s = length-take-le (word_len s) s here.0 in
    let passed = prefix_len_passes is_comma (reverse word) n 0 (omega arith) in
    let same : get_or (reverse word) n 0 ≡ get_or s place 0 = get_or-reverse word n 0 (omega arith)
    ∙ (ap (λ k. get_or word k 0) (omega (arith, size))
    ∙ get_or-take (word_len s) s place 0 (omega (arith, size, within))) in
    IsCharBoundary-before_ascii s place (omega (arith, size, within, here.0))
    (comma_of_ascii (get_or s place 0) (ap is_comma (sym same) ∙ passed))

cut : (b : Bool) (before address rest : List ℕ) (c : Candidate) → b ≡ nat_lt 0 (length address)
    → cond b (Some (described before address rest)) None ≡ Some c
    → length c.after < length address + length rest
cut true before address rest c e h =
    let same : described before address rest ≡ c = cc in
    let filled : 0 < length address = grind (arith, nat_tests) in
    omega (arith, filled, ap (λ (x : Candidate). length x.after) same, length-drop (description_len false rest) rest)
cut false before address rest c e h = absurd (cc)

-- what follows a candidate is shorter
pub shorter : (s : List ℕ) (c : Candidate) → first_candidate s ≡ Some c → length c.after < length s
shorter s c h =
    let rest : List ℕ = drop (before_len s) s in
    let n : ℕ = address_len rest in
    omega (
      arith,
      cut (nat_lt 0 (length (take n rest))) (take (before_len s) s) (take n rest) (drop n rest) c refl h,
      length-take n rest,
      length-drop n rest,
      length-drop (before_len s) s,
    )

set_from-same : (to : Resolution) (f g : List ℕ → List ℕ) (s : List ℕ) (found : Option Candidate)
    → ((c : Candidate) → found ≡ Some c → f c.after ≡ g c.after)
    → set_from to f s found ≡ set_from to g s found
set_from-same to f g s None h = refl
set_from-same to f g s (Some c) h = ap (λ x. c.before ++ (to c.address ++ (c.description ++ x))) (h c refl)

nothing : (to : Resolution) (n : ℕ) (s : List ℕ) → length s ≤ 0 → set_by (suc n) to s ≡ s
nothing to n [] l = refl
nothing to n (b ∷ s) l = absurd (omega arith)

-- as many candidates as bytes are all
enough : (to : Resolution) (n m : ℕ) (s : List ℕ) → length s ≤ n → length s ≤ m
    → set_by n to s ≡ set_by m to s
enough to zero zero s l k = refl
enough to zero (suc m) s l k = sym (nothing to m s l)
enough to (suc n) zero s l k = nothing to n s k
enough to (suc n) (suc m) s l k =
    set_from-same to (set_by n to) (set_by m to) s (first_candidate s)
    (λ c e. enough to n m c.after (omega (arith, shorter s c e)) (omega (arith, shorter s c e)))

one_more : (to : Resolution) (s : List ℕ) → set_with to s ≡ set_by (suc (length s)) to s
one_more to s = enough to (length s) (suc (length s)) s (omega arith) (omega arith)

-- a set without a candidate stays
pub set_end : (to : Resolution) (s : List ℕ) → first_candidate s ≡ None → set_with to s ≡ s
set_end to s e = one_more to s ∙ ap (set_from to (set_by (length s) to) s) e

set_more : (to : Resolution) (s : List ℕ) (c : Candidate) → first_candidate s ≡ Some c
    → set_with to s ≡ c.before ++ (to c.address ++ (c.description ++ set_with to c.after))
set_more to s c e =
    one_more to s
    ∙ (ap (set_from to (set_by (length s) to) s) e
    ∙ ap (λ x. c.before ++ (to c.address ++ (c.description ++ x)))
    (enough to (length s) (length c.after) c.after (omega (arith, shorter s c e)) (omega arith)))

-- one candidate more
pub candidate_more : (to : Resolution) (s old new whole : List ℕ) (c : Candidate) → first_candidate s ≡ Some c
    → new ≡ old ++ (c.before ++ (to c.address ++ c.description)) → old ++ set_with to s ≡ whole
    → new ++ set_with to c.after ≡ whole
candidate_more to s old new whole c found e h =
    let rest : List ℕ = set_with to c.after in
    let pair : List ℕ = to c.address ++ c.description in
    ap (λ x. x ++ rest) e
    ∙ (append_assoc old (c.before ++ pair) rest
    ∙ (ap (λ x. old ++ x)
    (append_assoc c.before pair rest
    ∙ (ap (λ x. c.before ++ x) (append_assoc (to c.address) c.description rest) ∙ sym (set_more to s c found)))
    ∙ h))
