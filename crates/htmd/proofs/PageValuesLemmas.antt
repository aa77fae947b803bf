-- Names between commas.
use Rattle.std.proofs.Common.{◌≡◌, ℕ, suc, ◌+◌, ◌<◌, Bool, true, false, ◌&&◌, ◌||◌, List, [], ◌∷◌, ◌++◌}
use Rattle.std.proofs.Common.{length, map, eqb, refl, sym, ◌∙◌, ap, arith, append_assoc}
use Rattle.std.specs.Borrow.{Bor}
use Rattle.std.specs.List.{list_all, position_or_len, before_first, after_first}
use Rattle.std.proofs.lemmas.List.{map_push}
use Rattle.htmd.specs.PageValues.{parts, is_filled}

-- either way, with what the test says
test : {P : Type 0} (b : Bool) → (b ≡ true → P) → (b ≡ false → P) → P
test true f g = f refl
test false f g = g refl

-- ---- names

-- with what comes before the first part, if it is filled
abbrev pub are_filled : Bool → List (List ℕ) → Bool
are_filled filled [] = true
are_filled filled (part ∷ others) = (filled || is_filled part) && list_all is_filled others

some_part : (s : List ℕ) → (part : List ℕ) × (others : List (List ℕ)) × (parts s ≡ part ∷ others)
some_part [] = ([], [], refl)
some_part (b ∷ s) =
    let i = some_part s in
    test (eqb b 44) (λ e. ([], parts s, rw e refl)) (λ e. (b ∷ i.0, i.1, rw (e, i.2) refl))

pub one_part : (s : List ℕ) → position_or_len (λ b. eqb b 44) s ≡ length s → parts s ≡ s ∷ []
one_part [] e = refl
one_part (b ∷ s) e =
    test (eqb b 44) (λ q. let z = rw q at e in absurd (omega arith))
    (λ q. let z = rw q at e in rw (q, one_part s (omega arith)) refl)

pub first_part : (s : List ℕ) → position_or_len (λ b. eqb b 44) s < length s
    → parts s ≡ before_first (λ b. eqb b 44) s ∷ parts (after_first (λ b. eqb b 44) s)
first_part [] l = absurd (omega arith)
first_part (b ∷ s) l =
    test (eqb b 44) (λ q. rw q refl)
    (λ q.
    let z = rw q at l in
    let n : ℕ = position_or_len (λ b. eqb b 44) s in
    let k : 1 + n ≡ suc n = omega arith in
    let m : (1 + n) + 1 ≡ suc (n + 1) = omega arith in
    rw q (rw (m, k, first_part s (omega arith)) refl))

-- ---- names that are added

abbrev texts : List (Bor (List ℕ)) → List (List ℕ)
texts names = map (λ name. name.now) names

-- one name more
pub one_more_name : (names now : List (Bor (List ℕ))) (name : Bor (List ℕ)) (s behind : List ℕ)
    → now ≡ names ++ (name ∷ [])
    → (position_or_len (λ b. eqb b 44) s < length s) × (name.now ≡ before_first (λ b. eqb b 44) s)
    × (behind ≡ after_first (λ b. eqb b 44) s)
    → texts now ++ parts behind ≡ texts names ++ parts s
one_more_name names now name s behind e f =
    let p : parts s ≡ name.now ∷ parts behind =
    first_part s f.0 ∙ (ap (λ x. x ∷ parts (after_first (λ b. eqb b 44) s)) (sym f.1)
    ∙ ap (λ x. name.now ∷ parts x) (sym f.2)) in
    ap (λ x. texts x ++ parts behind) e ∙ (ap (λ x. x ++ parts behind) (map_push (λ n. n.now) names name)
    ∙ (append_assoc (texts names) (name.now ∷ []) (parts behind) ∙ ap (λ x. texts names ++ x) (sym p)))

pub last_name : (names now : List (Bor (List ℕ))) (name : Bor (List ℕ)) (s : List ℕ)
    → now ≡ names ++ (name ∷ [])
    → name.now ≡ s → position_or_len (λ b. eqb b 44) s ≡ length s → texts now ≡ texts names ++ parts s
last_name names now name s e n f =
    ap texts e ∙ (map_push (λ n. n.now) names name
    ∙ (ap (λ x. texts names ++ (x ∷ [])) n ∙ ap (λ x. texts names ++ x) (sym (one_part s f))))
