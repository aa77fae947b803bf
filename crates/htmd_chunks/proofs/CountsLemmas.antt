-- Runs of what is measured, and the counts of what stands in them.
use Rattle.std.proofs.Common.{◌≡◌, ℕ, ◌+◌, ◌-◌, ◌<◌, ◌≤◌, Bool, true, false, cond, List, []}
use Rattle.std.proofs.Common.{◌∷◌, ◌++◌, length}
use Rattle.std.proofs.Common.{map, take, drop, get_or, refl, sym, ap, ◌∙◌, arith}
use Rattle.std.specs.Prelude.{◌||◌, nat_le}
use Rattle.std.proofs.lemmas.List.{drop_all, drop_at, drop_more, length-append, length-drop, map-append}
use Rattle.std.proofs.lemmas.List.{take_all, take_at, take_more}
use Rattle.htmd_chunks.specs.Runs.{is_none, runs_from, together}
use Rattle.htmd_chunks.proofs.RunsLemmas.{HaveItems, no_units, unit_of, have-append, IsSomething, something}

-- ---- a step

pub run-joined : {X : Type 0} (taken : List X → ℕ) (most free : ℕ) (begun : List X) (x : X) (xs : List X)
    → (is_none begun || nat_le (taken (begun ++ x ∷ [])) free) ≡ true
    → runs_from taken most free begun (x ∷ xs) ≡ runs_from taken most free (begun ++ x ∷ []) xs
run-joined taken most free begun x xs fits = rw fits refl

pub run-ended : {X : Type 0} (taken : List X → ℕ) (most free : ℕ) (begun : List X) (x : X) (xs : List X)
    → (is_none begun || nat_le (taken (begun ++ x ∷ [])) free) ≡ false
    → runs_from taken most free begun (x ∷ xs) ≡ begun ∷ runs_from taken most most (x ∷ []) xs
run-ended taken most free begun x xs full = rw full refl

-- ---- runs of what is measured

none-map : {X Y : Type 0} (f : X → Y) (xs : List X) → is_none (map f xs) ≡ is_none xs
none-map f [] = refl
none-map f (x ∷ xs) = refl

pub runs_from-map : {X Y : Type 0} (f : X → Y) (taken : List Y → ℕ) (most free : ℕ) (begun xs : List X)
    → runs_from taken most free (map f begun) (map f xs)
    ≡ map (map f) (runs_from (λ run. taken (map f run)) most free begun xs)
runs_from-map f taken most free begun [] = refl
runs_from-map f taken most free begun (x ∷ xs) =
    let more : map f begun ++ f x ∷ [] ≡ map f (begun ++ x ∷ []) = sym (map-append f begun (x ∷ [])) in
    let test : (is_none (map f begun) || nat_le (taken (map f begun ++ f x ∷ [])) free)
    ≡ (is_none begun || nat_le (taken (map f (begun ++ x ∷ []))) free) =
    ap (λ b. b || nat_le (taken (map f begun ++ f x ∷ [])) free) (none-map f begun)
    ∙ ap (λ l. is_none begun || nat_le (taken l) free) more in
    let on : runs_from taken most free (map f begun ++ f x ∷ []) (map f xs)
    ≡ map (map f) (runs_from (λ run. taken (map f run)) most free (begun ++ x ∷ []) xs) =
    ap (λ l. runs_from taken most free l (map f xs)) more ∙ runs_from-map f taken most free (begun ++ x ∷ []) xs in
    let apart = runs_from-map f taken most most (x ∷ []) xs in
    ap (λ b. cond b (runs_from taken most free (map f begun ++ f x ∷ []) (map f xs))
    (map f begun ∷ runs_from taken most most (f x ∷ []) (map f xs))) test
    ∙ either (is_none begun || nat_le (taken (map f (begun ++ x ∷ []))) free) on apart
  where
    either : (b : Bool) → runs_from taken most free (map f begun ++ f x ∷ []) (map f xs)
        ≡ map (map f) (runs_from (λ run. taken (map f run)) most free (begun ++ x ∷ []) xs)
        → runs_from taken most most (f x ∷ []) (map f xs)
        ≡ map (map f) (runs_from (λ run. taken (map f run)) most most (x ∷ []) xs)
        → cond b (runs_from taken most free (map f begun ++ f x ∷ []) (map f xs))
        (map f begun ∷ runs_from taken most most (f x ∷ []) (map f xs))
        ≡ map (map f) (cond b (runs_from (λ run. taken (map f run)) most free (begun ++ x ∷ []) xs)
        (begun ∷ runs_from (λ run. taken (map f run)) most most (x ∷ []) xs))
    either true on apart = on
    either false on apart = ap (λ l. map f begun ∷ l) apart

-- ---- runs of units that aren't empty, by two measures that agree

pub append-is-something : {X : Type 0} (xs : List X) (x : X) → IsSomething (xs ++ x ∷ [])
append-is-something [] x = something x []
append-is-something (y ∷ ys) x = something y (ys ++ x ∷ [])

pub runs_from-agree : {X : Type 0} (taken other : List (List X) → ℕ) (most free : ℕ) (begun units : List (List X))
    → ((run : List (List X)) → HaveItems run → IsSomething run → taken run ≡ other run)
    → HaveItems begun → HaveItems units
    → runs_from taken most free begun units ≡ runs_from other most free begun units
runs_from-agree taken other most free begun _ same filled no_units = refl
runs_from-agree taken other most free begun _ same filled (unit_of x xs units have) =
    let one : HaveItems ((x ∷ xs) ∷ []) = unit_of x xs [] no_units in
    let longer = have-append begun ((x ∷ xs) ∷ []) filled one in
    let test : taken (begun ++ (x ∷ xs) ∷ []) ≡ other (begun ++ (x ∷ xs) ∷ []) =
    same (begun ++ (x ∷ xs) ∷ []) longer (append-is-something begun (x ∷ xs)) in
    let on = runs_from-agree taken other most free (begun ++ (x ∷ xs) ∷ []) units same longer have in
    let apart = runs_from-agree taken other most most ((x ∷ xs) ∷ []) units same one have in
    ap (λ n. cond (is_none begun || nat_le n free) (runs_from taken most free (begun ++ (x ∷ xs) ∷ []) units)
    (begun ∷ runs_from taken most most ((x ∷ xs) ∷ []) units)) test
    ∙ ap (λ l. cond (is_none begun || nat_le (other (begun ++ (x ∷ xs) ∷ [])) free) l
    (begun ∷ runs_from taken most most ((x ∷ xs) ∷ []) units)) on
    ∙ ap (λ l. cond (is_none begun || nat_le (other (begun ++ (x ∷ xs) ∷ [])) free)
    (runs_from other most free (begun ++ (x ∷ xs) ∷ []) units) (begun ∷ l)) apart

-- ---- parts by their counts

-- the next part is taken off what is left of all
pub part_next : {X : Type 0} (xss : List (List X)) (i : ℕ) (rest : List X) → i < length xss
    → rest ≡ together (drop i xss)
    → (take (length (get_or xss i [])) rest ≡ get_or xss i [])
    × (drop (length (get_or xss i [])) rest ≡ together (drop (i + 1) xss))
part_next xss i rest within is =
    let x = get_or xss i [] in
    let later = together (drop (i + 1) xss) in
    let split : rest ≡ x ++ later = is ∙ ap together (drop_more xss i [] within) in (
      ap (take (length x)) split ∙ take_at x later (length x) refl,
      ap (drop (length x)) split ∙ drop_at x later (length x) refl,
    )

pub part_fits : {X : Type 0} (xss : List (List X)) (i : ℕ) (rest : List X) → i < length xss
    → rest ≡ together (drop i xss) → length (get_or xss i []) ≤ length rest
part_fits xss i rest within is =
    let x = get_or xss i [] in
    let later = together (drop (i + 1) xss) in
    let split : rest ≡ x ++ later = is ∙ ap together (drop_more xss i [] within) in
    omega (arith, ap (λ l. length l) split, length-append x later)

-- ---- what an iterator gives one after the other

pub next-taken : {X : Type 0} (all part old new : List X) (k : ℕ) (x : X) → part ≡ take k all
    → old ≡ drop k all
    → old ≡ x ∷ new → (part ++ x ∷ [] ≡ take (k + 1) all) × (new ≡ drop (k + 1) all)
next-taken all part old new k x taken left next =
    let within : k < length all = omega (arith, length-drop k all, ap (λ l. length l) (sym left ∙ next)) in
    let split : x ∷ new ≡ get_or all k x ∷ drop (k + 1) all = sym next ∙ left ∙ drop_more all k x within in
    let first : x ≡ get_or all k x = cc in (
      ap (λ l. l ++ x ∷ []) taken ∙ ap (λ y. take k all ++ y ∷ []) first ∙ sym (take_more all k x within),
      cc,
    )

pub none-taken : {X : Type 0} (all part old new : List X) (k : ℕ) → part ≡ take k all → old ≡ drop k all
    → length old ≡ 0 → old ≡ new → (part ≡ take (k + 1) all) × (new ≡ drop (k + 1) all)
none-taken all part old new k taken left none same =
    let past : length all ≤ k = omega (arith, length-drop k all, ap (λ l. length l) left) in (
      taken ∙ take_all k all past ∙ sym (take_all (k + 1) all (omega arith)),
      sym same ∙ left ∙ drop_all k all past ∙ sym (drop_all (k + 1) all (omega arith)),
    )
