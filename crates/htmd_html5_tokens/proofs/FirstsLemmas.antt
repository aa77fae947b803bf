-- Attributes that are the first of their name.
use Rattle.std.proofs.Common.{◌≡◌, ℕ, ◌+◌, ◌<◌, Bool, true, false, not, List, [], ◌∷◌, ◌++◌, length, drop, get_or}
use Rattle.std.proofs.Common.{refl, sym, ◌∙◌, ap, append_assoc, string_bytes, arith}
use Rattle.std.proofs.lemmas.Bool.{and_parts}
use Rattle.std.proofs.lemmas.Bool.Decides.{nat_tests}
use Rattle.std.proofs.lemmas.List.{drop_more}
use Rattle.std.specs.BTreeSet.{BTreeSet, contains, Updates}
use Rattle.std.specs.Cmp.Lexicographic.{slice_cmp}
use Rattle.std.specs.List.{list_all}
use Rattle.std.specs.Ordering.{nat_cmp}
use Rattle.std.specs.Prelude.{◌==◌}
use Rattle.std.specs.Str.{bytes_eq}
use Rattle.htmd_lexical.proofs.Cases.{test}
use Rattle.htmd_lexical.specs.AttributePairs.{AttributePair}
use Rattle.htmd_lexical.specs.CharacterClasses.{is_among, are_distinct}
use Rattle.htmd_lexical.specs.Attributes.{attribute_names}
use Rattle.htmd_lexical.specs.declared.attribute.Attribute.{Attribute}
use Rattle.htmd_lexical.specs.Attributes.{pairs_of}
use Rattle.htmd_lexical.proofs.NamesLemmas.{HasNames, name_added}
use Rattle.htmd_html5_tokens.specs.Tags.{firsts}
use Rattle.htmd_html5_tokens.specs.Firsts.{are_first, those_marked}
use denote.Ref.{Bor}

pub marked_firsts : (before : List (List ℕ)) (xs : List AttributePair)
    → those_marked xs (are_first before xs) ≡ firsts before xs
marked_firsts before [] = refl
marked_firsts before (a ∷ xs) =
    test (is_among before a.name) (λ e. rw (e, marked_firsts (a.name ∷ before) xs) refl)
    (λ e. rw (e, marked_firsts (a.name ∷ before) xs) refl)

-- ---- distinct names

bytes_eq-swapped : (n m : List ℕ) → bytes_eq n m ≡ bytes_eq m n
bytes_eq-swapped [] [] = refl
bytes_eq-swapped [] (b ∷ m) = refl
bytes_eq-swapped (b ∷ n) [] = refl
bytes_eq-swapped (b ∷ n) (c ∷ m) = rw (byte_swapped b c, bytes_eq-swapped n m) refl
  where
    byte_swapped : (b c : ℕ) → (b == c) ≡ (c == b)
    byte_swapped b c = grind (arith, nat_tests)

-- none has one of these names
abbrev are_apart : List (List ℕ) → List AttributePair → Bool
are_apart before xs = list_all (λ a. not (is_among before a.name)) xs

apart_nil : (xs : List AttributePair) → are_apart [] xs ≡ true
apart_nil [] = refl
apart_nil (a ∷ xs) = apart_nil xs

no : (x : Bool) → not x ≡ true → x ≡ false
no true e = cc
no false e = refl

apart_more : (n : List ℕ) (before : List (List ℕ)) (xs : List AttributePair) → are_apart before xs ≡ true
    → is_among (attribute_names xs) n ≡ false → are_apart (n ∷ before) xs ≡ true
apart_more n before [] e f = refl
apart_more n before (a ∷ xs) e f =
    let h = and_parts (not (is_among before a.name)) (are_apart before xs) e in
    test (bytes_eq n a.name) (λ g. absurd (let x : true ≡ false = rw g at f in cc))
    (λ g. let x = rw g at f in
    let y : bytes_eq a.name n ≡ false = bytes_eq-swapped a.name n ∙ g in
    rw (y, no _ h.0, apart_more n before xs h.1 x) refl)

apart_firsts : (before : List (List ℕ)) (xs : List AttributePair) → are_apart before xs ≡ true
    → are_distinct (attribute_names xs) ≡ true → firsts before xs ≡ xs
apart_firsts before [] e d = refl
apart_firsts before (a ∷ xs) e d =
    let h = and_parts (not (is_among before a.name)) (are_apart before xs) e in
    let k = and_parts (not (is_among (attribute_names xs) a.name)) (are_distinct (attribute_names xs)) d in
    let rest = apart_firsts (a.name ∷ before) xs (apart_more a.name before xs h.1 (no _ k.0)) k.1 in
    rw (no _ h.0, rest) refl

-- all of them count
pub distinct_firsts : (xs : List AttributePair) → are_distinct (attribute_names xs) ≡ true → xs ≡ firsts [] xs
distinct_firsts xs d = sym (apart_firsts [] xs (apart_nil xs) d)

-- ---- the marks

pub marks_more : (xs : List Attribute) (i : ℕ) (x d : Attribute) (marks : List Bool) (is_new : Bool)
    (seen : List (List ℕ)) (set new : BTreeSet (Bor (List ℕ))) (key : Bor (List ℕ))
    → i < length xs → x ≡ get_or xs i d → key.now ≡ string_bytes x.name
    → is_new ≡ not (contains (λ x y. slice_cmp nat_cmp x.now y.now) set key)
    → Updates (λ x y. slice_cmp nat_cmp x.now y.now) set new key true
    → HasNames set seen → marks ++ are_first seen (pairs_of (drop i xs)) ≡ are_first [] (pairs_of xs)
    → (seen : List (List ℕ)) × HasNames new seen
    × ((marks ++ is_new ∷ []) ++ are_first seen (pairs_of (drop (i + 1) xs)) ≡ are_first [] (pairs_of xs))
marks_more xs i x d marks is_new seen set new key l e k n u h w =
    let m : is_new ≡ not (is_among seen (string_bytes (get_or xs i d).name)) =
    n ∙ ap not (h key) ∙ ap (λ y. not (is_among seen y)) k
    ∙ ap (λ (y : Attribute). not (is_among seen (string_bytes y.name))) e in
    let q : key.now ≡ string_bytes (get_or xs i d).name = k ∙ ap (λ (y : Attribute). string_bytes y.name) e in
    let step : are_first seen (pairs_of (drop i xs))
    ≡ is_new ∷ are_first (key.now ∷ seen) (pairs_of (drop (i + 1) xs)) =
    rw (drop_more xs i d l, m, q) refl in (
      key.now ∷ seen,
      name_added set new key seen u h,
      append_assoc marks (is_new ∷ []) _ ∙ ap (λ y. marks ++ y) (sym step) ∙ w,
    )
