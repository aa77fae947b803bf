-- The attributes of a link or an image, one after another.
use Rattle.std.proofs.Common.{◌≡◌, ℕ, ◌+◌, ◌<◌, Bool, true, false, cond, ◌||◌, List, [], ◌∷◌, ◌++◌, length, get_or}
use Rattle.std.proofs.Common.{take, map, Some, None, refl, sym, ap, ◌∙◌, string_bytes, Bor}
use Rattle.std.proofs.lemmas.List.{take_more, map-append}
use Rattle.std.specs.List.{list_any}
use Rattle.std.specs.Option.{option_or}
use Rattle.std.specs.Str.{bytes_eq}
use Rattle.htmd_lexical.specs.AttributePairs.{AttributePair}
use Rattle.htmd_lexical.specs.declared.attribute.Attribute.{Attribute}
use Rattle.htmd_lexical.specs.Attributes.{pair_of, pairs_of}
use Rattle.htmd_walk.specs.LinkAttributes.{is_among, last_value}

pub among_names : (names : List (Bor (List ℕ))) (name : List ℕ)
    → list_any (λ n. bytes_eq n.now name) names ≡ is_among (map (λ n. n.now) names) name
among_names [] name = refl
among_names (n ∷ names) name = ap (λ b. bytes_eq n.now name || b) (among_names names name)

last-here : (names : List (List ℕ)) (pairs : List AttributePair) (a : AttributePair)
    → is_among names a.name ≡ true
    → last_value names (pairs ++ a ∷ []) ≡ Some a.value
last-here names [] a h = ap (λ (b : Bool). option_or None (cond b (Some a.value) None)) h
last-here names (p ∷ pairs) a h =
    ap (λ o. option_or o (cond (is_among names p.name) (Some p.value) None)) (last-here names pairs a h)

last-other : (names : List (List ℕ)) (pairs : List AttributePair) (a : AttributePair)
    → is_among names a.name ≡ false
    → last_value names (pairs ++ a ∷ []) ≡ last_value names pairs
last-other names [] a h = ap (λ (b : Bool). option_or None (cond b (Some a.value) None)) h
last-other names (p ∷ pairs) a h =
    ap (λ o. option_or o (cond (is_among names p.name) (Some p.value) None)) (last-other names pairs a h)

pairs-more : (attrs : List Attribute) (i : ℕ) (a : Attribute) → i < length attrs → a ≡ get_or attrs i a
    → pairs_of (take (i + 1) attrs) ≡ pairs_of (take i attrs) ++ pair_of a ∷ []
pairs-more attrs i a l here =
    ap pairs_of (take_more attrs i a l ∙ ap (λ x. take i attrs ++ x ∷ []) (sym here))
    ∙ map-append pair_of (take i attrs) (a ∷ [])

pub value-here : (names : List (List ℕ)) (attrs : List Attribute) (i : ℕ) (a : Attribute) → i < length attrs
    → a ≡ get_or attrs i a → is_among names (string_bytes a.name) ≡ true
    → last_value names (pairs_of (take (i + 1) attrs)) ≡ Some (string_bytes a.value)
value-here names attrs i a l here is =
    ap (last_value names) (pairs-more attrs i a l here) ∙ last-here names (pairs_of (take i attrs)) (pair_of a) is

pub value-other : (names : List (List ℕ)) (attrs : List Attribute) (i : ℕ) (a : Attribute) → i < length attrs
    → a ≡ get_or attrs i a → is_among names (string_bytes a.name) ≡ false
    → last_value names (pairs_of (take (i + 1) attrs)) ≡ last_value names (pairs_of (take i attrs))
value-other names attrs i a l here is =
    ap (last_value names) (pairs-more attrs i a l here) ∙ last-other names (pairs_of (take i attrs)) (pair_of a) is
