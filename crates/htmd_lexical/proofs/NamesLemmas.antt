-- Names in a set.
use Rattle.std.proofs.Common.{◌≡◌, ℕ, ◌+◌, ◌-◌, ◌≤◌, Bool, true, false, ◌||◌, cond, List, [], ◌∷◌, ◌++◌, map, length}
use Rattle.std.proofs.Common.{take, get_or, refl, sym, ◌∙◌, ap, subst, eqb, arith, append_assoc, string_bytes}
use Rattle.std.proofs.lemmas.List.{map-append, take_more, take_all}
use Rattle.std.specs.BTreeSet.{BTreeSet, contains, Updates}
use Rattle.std.specs.Cmp.Lexicographic.{slice_cmp}
use Rattle.std.specs.Ordering.{nat_cmp}
use Rattle.std.specs.Str.{bytes_eq}
use Rattle.std.proofs.lemmas.Bool.Decides.{nat_tests}
use Rattle.std.proofs.lemmas.Map.Text.{is_eq-slice_cmp}
use Rattle.htmd_lexical.proofs.Cases.{test}
use Rattle.htmd_lexical.specs.CharacterClasses.{is_among, are_distinct}
use Rattle.htmd_lexical.specs.Attributes.{attribute_names}
use Rattle.htmd_lexical.specs.declared.attribute.Attribute.{Attribute}
use Rattle.htmd_lexical.specs.Attributes.{pair_of, pairs_of}
use denote.Ref.{Bor}

-- the set has these names
abbrev pub HasNames : BTreeSet (Bor (List ℕ)) → List (List ℕ) → Type 0
HasNames set names = (q : Bor (List ℕ))
    → contains (λ x y. slice_cmp nat_cmp x.now y.now) set q ≡ is_among names q.now

bytes_eq-swapped : (n m : List ℕ) → bytes_eq n m ≡ bytes_eq m n
bytes_eq-swapped [] [] = refl
bytes_eq-swapped [] (b ∷ m) = refl
bytes_eq-swapped (b ∷ n) [] = refl
bytes_eq-swapped (b ∷ n) (c ∷ m) = rw (byte_swapped b c, bytes_eq-swapped n m) refl
  where
    byte_swapped : (b c : ℕ) → eqb b c ≡ eqb c b
    byte_swapped b c = grind (arith, nat_tests)

-- one more name
pub name_added : (set new : BTreeSet (Bor (List ℕ))) (name : Bor (List ℕ)) (names : List (List ℕ))
    → Updates (λ x y. slice_cmp nat_cmp x.now y.now) set new name true → HasNames set names
    → HasNames new (name.now ∷ names)
name_added set new name names u h q =
    u.0 q ∙ (rw (is_eq-slice_cmp name.now q.now, bytes_eq-swapped name.now q.now, h q)
    (either (bytes_eq q.now name.now) (is_among names q.now)))
  where
    either : (x y : Bool) → cond x true y ≡ (x || y)
    either true y = refl
    either false y = refl

-- what has a name twice at its end, has it twice
pub twice_behind : (before behind : List (List ℕ)) → are_distinct behind ≡ false
    → are_distinct (before ++ behind) ≡ false
twice_behind [] behind e = e
twice_behind (n ∷ before) behind e =
    test (is_among (before ++ behind) n) (λ f. rw f refl) (λ f. rw (f, twice_behind before behind e) refl)

-- ---- attributes from the back

abbrev names_of : List Attribute → List (List ℕ)
names_of attributes = attribute_names (pairs_of attributes)

names_of-append : (xs ys : List Attribute) → names_of (xs ++ ys) ≡ names_of xs ++ names_of ys
names_of-append xs ys =
    ap attribute_names (map-append pair_of xs ys) ∙ map-append (λ a. a.name) (map pair_of xs) (map pair_of ys)

-- the last attribute and those after it
last_split : (attributes rest behind : List Attribute) (x : Attribute) → attributes ≡ rest ++ behind
    → 1 ≤ length rest
    → x ≡ get_or rest (length rest - 1) x → attributes ≡ take (length rest - 1) rest ++ (x ∷ behind)
last_split attributes rest behind x e l g =
    let k : length rest - 1 + 1 ≡ length rest = omega arith in
    let t : take (length rest - 1 + 1) rest ≡ take (length rest - 1) rest ++ get_or rest (length rest - 1) x ∷ [] =
    take_more rest (length rest - 1) x (omega arith) in
    let w : rest ≡ take (length rest - 1) rest ++ (x ∷ []) =
    sym (take_all (length rest - 1 + 1) rest (omega arith))
    ∙ (t ∙ ap (λ (y : Attribute). take (length rest - 1) rest ++ y ∷ []) (sym g)) in
    e ∙ (ap (λ (y : List Attribute). y ++ behind) w ∙ append_assoc (take (length rest - 1) rest) (x ∷ []) behind)

pub met_again : (attributes rest behind : List Attribute) (x : Attribute) (set : BTreeSet (Bor (List ℕ)))
    (key : Bor (List ℕ)) → attributes ≡ rest ++ behind → 1 ≤ length rest
    → x ≡ get_or rest (length rest - 1) x
    → key.now ≡ string_bytes x.name → HasNames set (names_of behind)
    → contains (λ x y. slice_cmp nat_cmp x.now y.now) set key ≡ true
    → false ≡ are_distinct (names_of attributes)
met_again attributes rest behind x set key e l g n h m =
    let s = last_split attributes rest behind x e l g in
    let a : is_among (names_of behind) (string_bytes x.name) ≡ true =
    ap (is_among (names_of behind)) (sym n) ∙ (sym (h key) ∙ m) in
    let d : are_distinct (names_of (x ∷ behind)) ≡ false = rw a refl in
    sym (ap (λ (y : List Attribute). are_distinct (names_of y)) s
    ∙ (ap are_distinct (names_of-append (take (length rest - 1) rest) (x ∷ behind))
    ∙ twice_behind (names_of (take (length rest - 1) rest)) (names_of (x ∷ behind)) d))

pub met_first : (attributes rest behind : List Attribute) (x : Attribute) (set new : BTreeSet (Bor (List ℕ)))
    (key : Bor (List ℕ)) → attributes ≡ rest ++ behind → 1 ≤ length rest
    → x ≡ get_or rest (length rest - 1) x
    → key.now ≡ string_bytes x.name → are_distinct (names_of behind) ≡ true → HasNames set (names_of behind)
    → contains (λ x y. slice_cmp nat_cmp x.now y.now) set key ≡ false
    → Updates (λ x y. slice_cmp nat_cmp x.now y.now) set new key true
    → (more : List Attribute) × (attributes ≡ take (length rest - 1) rest ++ more)
    × (are_distinct (names_of more) ≡ true) × HasNames new (names_of more)
met_first attributes rest behind x set new key e l g n d h m u =
    let a : is_among (names_of behind) (string_bytes x.name) ≡ false =
    ap (is_among (names_of behind)) (sym n) ∙ (sym (h key) ∙ m) in
    let b : are_distinct (names_of (x ∷ behind)) ≡ true = rw (a, d) refl in
    let k : HasNames new (string_bytes x.name ∷ names_of behind) =
    subst (λ (y : List ℕ). HasNames new (y ∷ names_of behind)) n (name_added set new key (names_of behind) u h) in
    (x ∷ behind, last_split attributes rest behind x e l g, b, k)
