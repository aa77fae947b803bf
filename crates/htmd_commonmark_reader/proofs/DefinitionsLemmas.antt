-- Definitions, with their labels or without, and what follows them.
use Rattle.std.proofs.Common.{◌≡◌, ℕ, zero, suc, ◌+◌, ◌-◌, ◌<◌, Bool, true, false, List, [], ◌∷◌, length, drop}
use Rattle.std.proofs.Common.{◌++◌, append_assoc, refl, ap, sym, ◌∙◌, arith, Option, Some, None}
use Rattle.std.proofs.lemmas.Bool.Decides.{nat_tests}
use Rattle.std.proofs.lemmas.List.{length-append}
use Rattle.std.proofs.lemmas.Str.{len_utf8_bounds, length-encode}
use Rattle.std.specs.Char.{encode_utf8}
use Rattle.std.specs.Prelude.{◌==◌, encode_utf8_all}
use Rattle.htmd_lexical.proofs.Cases.{test}
use Rattle.htmd_lexical.specs.CharacterClasses.{is_empty, first_is}
use Rattle.htmd_commonmark_reading.specs.Characters.{Front}
use Rattle.htmd_commonmark_reading.specs.LinkDefinitions.{Definition, Defined, until_sign, label, label_key}
use Rattle.htmd_commonmark_reading.specs.LinkDefinitions.{title_after}
use Rattle.htmd_commonmark_reading.specs.LinkDefinitions.{destination, past_white, past_line, defined_with, with_title}
use Rattle.htmd_commonmark_reading.specs.LinkDefinitions.{after_destination}
use Rattle.htmd_commonmark_reading.specs.LinkDefinitions.{after_label, definition, definitions, definitions_behind}
use Rattle.htmd_commonmark_reading.specs.LinkDefinitions.{no_more, and_then}
use Rattle.htmd_commonmark_reader.specs.Definitions.{unkeyed}
use Rattle.htmd_commonmark_reader.proofs.RestsLemmas.{IsRest, then, until_end, after_white, rest_by_length}

-- ---- keys

some_defined : (d e : Defined) → ◌≡◌ {A = Option Defined} (Some d) (Some e) → d ≡ e
some_defined d e q = cc

with_key : (key address : List ℕ) (title r : Option (List ℕ)) (d : Defined)
    → defined_with key address title r ≡ Some d → d.definition.key ≡ key
with_key key address title None d e = absurd (cc)
with_key key address title (Some rest) d e =
    sym (ap (λ (x : Defined). x.definition.key) (some_defined _ d e))

title_key : (key address : List ℕ) (t : Option Front) (d : Defined) → with_title key address t ≡ Some d
    → d.definition.key ≡ key
title_key key address None d e = absurd (cc)
title_key key address (Some t) d e = with_key key address _ (past_line t.rest) d e

destination_key : (key : List ℕ) (a : Option Front) (d : Defined) → after_destination key a ≡ Some d
    → d.definition.key ≡ key
destination_key key None d e = absurd (cc)
destination_key key (Some a) d e = go (with_title key a.front (title_after a.rest)) refl
  where
    go : (t : Option Defined) → with_title key a.front (title_after a.rest) ≡ t → d.definition.key ≡ key
    go None f = let g = rw f at e in with_key key a.front None (past_line a.rest) d g
    go (Some x) f = let g = rw f at e in title_key key a.front (title_after a.rest) d (f ∙ g)

-- a definition needs a label that has a key
pub no_definition : (l : Option Front) → None ≡ unkeyed l → after_label l ≡ None
no_definition None e = refl
no_definition (Some l) e =
    test (first_is 58 l.rest)
    (λ q. let f = rw q at e in
    test (is_empty (label_key l.front)) (λ k. rw (q, k) refl) (λ k. rw (q, k) (sym f)))
    (λ q. rw q refl)

pub unlabelled : (l : Option Front) (d : Defined) → Some d ≡ unkeyed l → is_empty d.definition.key ≡ true
    → after_label l ≡ None
unlabelled None d e k = absurd (cc)
unlabelled (Some l) d e k =
    test (first_is 58 l.rest)
    (λ q. let f = rw q at e in
    let key = destination_key (label_key l.front) (destination (past_white (drop 1 l.rest))) d (sym f) in
    let none : is_empty (label_key l.front) ≡ true = ap is_empty (sym key) ∙ k in
    rw (q, none) refl)
    (λ q. let f = rw q at e in absurd (cc))

pub labelled : (l : Option Front) (d : Defined) → Some d ≡ unkeyed l → is_empty d.definition.key ≡ false
    → after_label l ≡ Some d
labelled None d e k = absurd (cc)
labelled (Some l) d e k =
    test (first_is 58 l.rest)
    (λ q. let f = rw q at e in
    let key = destination_key (label_key l.front) (destination (past_white (drop 1 l.rest))) d (sym f) in
    let some : is_empty (label_key l.front) ≡ false = ap is_empty (sym key) ∙ k in
    rw (q, some) (sym f))
    (λ q. let f = rw q at e in absurd (cc))

-- ---- all definitions of a text

pub key_length : (keys text : List ℕ) → text ≡ encode_utf8_all keys → (length text == 0) ≡ is_empty keys
key_length [] text e = rw e refl
key_length (k ∷ keys) text e =
    let size : length text ≡ length (encode_utf8 k) + length (encode_utf8_all keys) =
    ap length e ∙ length-append (encode_utf8 k) (encode_utf8_all keys) in
    let some = (len_utf8_bounds k).0 in
    let long : 0 < length text = omega (arith, size, length-encode k, some) in
    grind (arith, nat_tests, long)

definitions_skip : (n : ℕ) (s : List ℕ) → definitions_behind n s ≡ definitions_behind 0 (drop n s)
definitions_skip zero [] = refl
definitions_skip (suc n) [] = refl
definitions_skip zero (c ∷ s) = refl
definitions_skip (suc n) (c ∷ s) = definitions_skip n s

no_definitions : (s : List ℕ) → definition s ≡ None → definitions s ≡ no_more s
no_definitions [] e = refl
no_definitions (c ∷ s) e = rw (e, definitions_behind) refl

one_definition : (s : List ℕ) (d : Defined) → definition s ≡ Some d → length d.rest < length s
    → d.rest ≡ drop (length s - length d.rest) s
    → definitions s ≡ and_then d.definition (definitions d.rest)
one_definition [] d e l r = absurd (cc)
one_definition (c ∷ s) d e l r =
    let here : definitions (c ∷ s) ≡ and_then d.definition (definitions_behind (length s - length d.rest) s) =
    rw (e, definitions_behind) refl in
    let k : length (c ∷ s) - length d.rest ≡ suc (length s - length d.rest) = omega arith in
    let rest : drop (length s - length d.rest) s ≡ d.rest = ap (λ n. drop n (c ∷ s)) (sym k) ∙ sym r in
    here ∙ ap (and_then d.definition)
    (definitions_skip (length s - length d.rest) s ∙ ap (definitions_behind 0) rest)

-- a definition is shorter than its text, whose end follows it
unkeyed_rest : (s : List ℕ) (d : Defined) → Some d ≡ unkeyed (label s)
    → (length d.rest < length s) × (d.rest ≡ drop (length s - length d.rest) s)
unkeyed_rest [] d e = absurd (cc)
unkeyed_rest (c ∷ s) d e =
    test (c == 91) (λ q. let f = rw q at e in inside (until_sign 93 91 false s) refl f)
    (λ q. let f = rw q at e in absurd (cc))
  where
    inside : (o : Option Front) → until_sign 93 91 false s ≡ o → Some d ≡ unkeyed o
        → (length d.rest < length (c ∷ s)) × (d.rest ≡ drop (length (c ∷ s) - length d.rest) (c ∷ s))
    inside None q f = absurd (cc)
    inside (Some l) q f =
        test (first_is 58 l.rest)
        (λ k. let g = rw k at f in
        let label_rest = until_end 93 91 false s l q in
        let colon_rest : IsRest l.rest (drop 1 l.rest) = (1, refl) in
        let tail = after_white (drop 1 l.rest) (label_key l.front) d (sym g) in
        let all = then s (drop 1 l.rest) d.rest (then s l.rest (drop 1 l.rest) label_rest colon_rest) tail in
        let size = rest_by_length s d.rest all in
        let m : suc (length s - length d.rest) ≡ length (c ∷ s) - length d.rest = omega (arith, size.0) in
        (omega (arith, size.0), size.1 ∙ ap (λ n. drop n (c ∷ s)) m))
        (λ k. let g = rw k at f in absurd (cc))

-- no definition, or one whose label has no key
pub none_left : (s : List ℕ) → None ≡ unkeyed (label s) → definitions s ≡ no_more s
none_left s e = no_definitions s (no_definition (label s) e)

pub none_labelled : (s key : List ℕ) (d : Defined) (b : Bool) → Some d ≡ unkeyed (label s)
    → key ≡ encode_utf8_all d.definition.key → b ≡ (length key == 0) → b ≡ true
    → definitions s ≡ no_more s
none_labelled s key d b e k f t =
    no_definitions s (unlabelled (label s) d e (sym (key_length d.definition.key key k) ∙ sym f ∙ t))

pub one_labelled : (s key : List ℕ) (d : Defined) (b : Bool) → Some d ≡ unkeyed (label s)
    → key ≡ encode_utf8_all d.definition.key → b ≡ (length key == 0) → b ≡ false
    → definitions s ≡ and_then d.definition (definitions d.rest)
one_labelled s key d b e k f t =
    let rest = unkeyed_rest s d e in
    one_definition s d
    (labelled (label s) d e (sym (key_length d.definition.key key k) ∙ sym f ∙ t)) rest.0 rest.1

pub shorter : (s : List ℕ) (d : Defined) → Some d ≡ unkeyed (label s) → length d.rest < length s
shorter s d e = (unkeyed_rest s d e).0

-- ---- definitions as the reader holds them

-- one more that was found
pub found_more : (before text held d : List Definition) (h x : Definition) → before ++ (x ∷ d) ≡ text → h ≡ x
    → held ≡ before ++ h ∷ [] → held ++ d ≡ text
found_more before text held d h x e f g =
    ap (λ t. t ++ d) g ∙ append_assoc before (h ∷ []) d ∙ ap (λ (y : Definition). before ++ y ∷ d) f ∙ e

pub same_definition : (k l a b : List ℕ) (t u : Option (List ℕ)) → k ≡ l → a ≡ b → t ≡ u
    → ◌≡◌ {A = Definition} (record { key = k; address = a; title = t })
    (record { key = l; address = b; title = u })
same_definition k l a b t u e f g = rw (e, f, g) refl
