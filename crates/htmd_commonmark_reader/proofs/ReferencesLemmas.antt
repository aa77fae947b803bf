-- Definitions by their keys.
use Rattle.std.proofs.Common.{◌≡◌, ℕ, ◌+◌, ◌<◌, List, [], ◌∷◌, length, drop, get_or, refl, sym, ap, ◌∙◌, subst}
use Rattle.std.proofs.Common.{Option, Some, None, Bool, true, false, cond, Vec, Global, Ordering}
use Rattle.std.proofs.Common.{⊎_elim, slice_get, string_bytes}
use Rattle.std.specs.BTreeMap.{BTreeMap, UpdatesBy, get_by}
use Rattle.std.specs.Cmp.{eq_by_cmp_equiv}
use Rattle.std.specs.Cmp.Lexicographic.{slice_cmp, bytes_decides, nat_list_cmp_total, nat_list_eq_equiv, texts_ties}
use Rattle.std.specs.Map.{AreApart, IsKeyTest, KeepsOthers, lookup}
use Rattle.std.specs.Option.{option_and_then, option_map}
use Rattle.std.specs.Ordering.{eq_by_cmp, is_eq, nat_cmp}
use Rattle.std.specs.Prelude.{map, encode_utf8_all}
use Rattle.std.specs.Str.{IsUtf8, bytes_eq, chars}
use Rattle.std.proofs.lemmas.Bool.{cases_Bool, cond-true, cond-false}
use Rattle.std.proofs.lemmas.List.{drop_more}
use Rattle.std.proofs.lemmas.Option.{slice_get-get_or}
use Rattle.std.proofs.lemmas.Str.{IsUtf8-string_bytes, chars_from_encodes, encodes-chars}
use Rattle.htmd_lexical.proofs.Cases.{test}
use Rattle.htmd_lexical.specs.CharacterClasses.{is_empty}
use Rattle.htmd_commonmark_reading.specs.Brackets as spec
use Rattle.htmd_commonmark_reading.specs.Brackets.{target_of, reference_target}
use Rattle.htmd_commonmark_reading.specs.Characters.{Front}
use Rattle.htmd_commonmark_reading.specs.LinkDefinitions.{label, label_key}
use Rattle.htmd_commonmark_reading.specs.LinkDefinitions as links
use Rattle.htmd_commonmark_reader.specs.Definitions.{held_of}
use Rattle.htmd_commonmark_reader.specs.Keys.{definition_of, held_with, with_key}
use Rattle.htmd_commonmark_reader.specs.declared.definitions.Definition.{Definition}

-- ---- keys as bytes are compared

abbrev key_cmp : Vec ℕ Global → Vec ℕ Global → Ordering
key_cmp a b = slice_cmp nat_cmp a.items b.items

abbrev is_at : List ℕ → Vec ℕ Global → Bool
is_at path key = is_eq (slice_cmp nat_cmp path key.items)

kept-others : {X : Type 0} (test : Vec ℕ Global → Bool) (old new : List (Vec ℕ Global × X))
    → KeepsOthers (eq_by_cmp key_cmp) test old new → (other : Vec ℕ Global → Bool)
    → IsKeyTest (eq_by_cmp key_cmp) other → AreApart test other → lookup other new ≡ lookup other old
unfolding KeepsOthers
kept-others test old new h = h

-- no key is at two texts
at-one : (a b : List ℕ) (key : Vec ℕ Global) → bytes_eq a b ≡ false → is_at a key ≡ true
    → is_at b key ≡ false
at-one a b key differ here =
    sym (texts_ties b key.items)
    ∙ (nat_list_eq_equiv.symm b key.items
    ∙ (sym (nat_list_eq_equiv.congr a key.items b (texts_ties a key.items ∙ here)) ∙ differ))

-- what is kept at a text after a value was put at a key
put-at : {X : Type 0} (old new : BTreeMap (Vec ℕ Global) X) (key : Vec ℕ Global) (w : Option X)
    → UpdatesBy key_cmp (key_cmp key) old new w → (text : List ℕ)
    → get_by (λ k. slice_cmp nat_cmp text k.items) new
    ≡ cond (bytes_eq key.items text) w (get_by (λ k. slice_cmp nat_cmp text k.items) old)
put-at old new key w h text =
    ⊎_elim
    (λ same. subst (λ l. get_by (λ k. slice_cmp nat_cmp l k.items) new ≡ w)
    ((bytes_decides key.items text).0 same) h.1
    ∙ sym (cond-true _ _ _ same))
    (λ differ. kept-others (is_at key.items) old.entries new.entries h.3 (is_at text)
    (λ x y. (eq_by_cmp_equiv nat_list_cmp_total).congr text x.items y.items)
    (λ k. at-one key.items text k differ)
    ∙ sym (cond-false _ _ _ differ))
    (cases_Bool (bytes_eq key.items text))

option-cond : {X : Type 0} (b : Bool) (there : ℕ → Option X) (place : ℕ) (other : Option ℕ)
    → option_and_then there (cond b (Some place) other) ≡ cond b (there place) (option_and_then there other)
option-cond true there place other = refl
option-cond false there place other = refl

-- one definition more in front of those that are kept
pub definition_more : (ds : List Definition) (left : ℕ) (d : Definition) (old new : BTreeMap (Vec ℕ Global) ℕ)
    (key : Vec ℕ Global) → left < length ds → d ≡ get_or ds left d
    → key.items ≡ string_bytes d.key → UpdatesBy key_cmp (key_cmp key) old new (Some left)
    → ((text : List ℕ) → held_with ds old text ≡ with_key (map held_of (drop (left + 1) ds)) text)
    → (text : List ℕ) → held_with ds new text ≡ with_key (map held_of (drop left ds)) text
definition_more ds left d old new key l is at h kept text =
    let rest : List Definition = drop (left + 1) ds in
    let there : ℕ → Option links.Definition = λ place. option_map held_of (slice_get ds place) in
    let here : there left ≡ Some (held_of d) =
    ap (option_map held_of) (slice_get-get_or ds left d l) ∙ ap (λ x. Some (held_of x)) (sym is) in
    ap (option_and_then there) (put-at old new key (Some left) h text)
    ∙ (option-cond (bytes_eq key.items text) there left (get_by (λ k. slice_cmp nat_cmp text k.items) old)
    ∙ (ap (λ o. cond (bytes_eq key.items text) o (held_with ds old text)) here
    ∙ (ap (λ b. cond b (Some (held_of d)) (held_with ds old text)) (ap (λ x. bytes_eq x text) at)
    ∙ (ap (cond (bytes_eq (string_bytes d.key) text) (Some (held_of d))) (kept text)
    ∙ ap (λ (x : List Definition). with_key (map held_of x) text)
    (ap (λ p. p ∷ rest) is ∙ sym (drop_more ds left d l))))))

-- ---- keys as characters

same_test : (a b : Bool) → (a ≡ true → b ≡ true) → (b ≡ true → a ≡ true) → a ≡ b
same_test true b f g = sym (f refl)
same_test false true f g = g refl
same_test false false f g = refl

-- texts are the same if their characters are
chars_eq : (a b : List ℕ) → IsUtf8 a → IsUtf8 b → bytes_eq a b ≡ bytes_eq (chars a) (chars b)
chars_eq a b u v =
    same_test (bytes_eq a b) (bytes_eq (chars a) (chars b))
    (λ e. (bytes_decides (chars a) (chars b)).1 (ap chars ((bytes_decides a b).0 e)))
    (λ e. (bytes_decides a b).1
    (sym (encodes-chars a u) ∙ ap encode_utf8_all ((bytes_decides (chars a) (chars b)).0 e) ∙ encodes-chars b v))

abbrev pub targeted : List ℕ → links.Definition → spec.Target
targeted rest d = record { address = d.address; title = d.title; rest = rest }

pub target_with : (ds : List Definition) (key rest : List ℕ) → IsUtf8 key
    → option_map (targeted rest) (with_key (map held_of ds) key)
    ≡ target_of (map definition_of ds) (chars key) rest
target_with [] key rest u = refl
target_with (d ∷ ds) key rest u =
    let same = chars_eq (string_bytes d.key) key (IsUtf8-string_bytes d.key) u in
    test (bytes_eq (string_bytes d.key) key)
    (λ e. rw (sym same ∙ e) (rw e refl))
    (λ e. rw (sym same ∙ e) (rw e (target_with ds key rest u)))

-- ---- labels

pub key_chars : (text k : List ℕ) → IsUtf8 text → text ≡ encode_utf8_all k → chars text ≡ k
key_chars text k u e = sym (chars_from_encodes k text u (sym e))

pub no_label : (refs : spec.References) (content s : List ℕ) → ◌≡◌ {A = Option Front} None (label s)
    → target_of refs (label_key content) s ≡ reference_target refs content s (label s)
no_label refs content s e = ap (reference_target refs content s) e

pub own_label : (refs : spec.References) (content s : List ℕ) (l : Front) → Some l ≡ label s
    → is_empty (label_key l.front) ≡ false
    → target_of refs (label_key l.front) l.rest ≡ reference_target refs content s (label s)
own_label refs content s l e f = inside ∙ ap (reference_target refs content s) e
  where
    inside : target_of refs (label_key l.front) l.rest ≡ reference_target refs content s (Some l)
    inside = rw f refl

pub empty_label : (refs : spec.References) (content s : List ℕ) (l : Front) → Some l ≡ label s
    → is_empty (label_key l.front) ≡ true → is_empty l.front ≡ true
    → target_of refs (label_key content) l.rest ≡ reference_target refs content s (label s)
empty_label refs content s l e f g = inside ∙ ap (reference_target refs content s) e
  where
    inside : target_of refs (label_key content) l.rest ≡ reference_target refs content s (Some l)
    inside = rw (f, g) refl

pub blank_label : (refs : spec.References) (content s : List ℕ) (l : Front) → Some l ≡ label s
    → is_empty (label_key l.front) ≡ true → is_empty l.front ≡ false
    → target_of refs (label_key content) s ≡ reference_target refs content s (label s)
blank_label refs content s l e f g = inside ∙ ap (reference_target refs content s) e
  where
    inside : target_of refs (label_key content) s ≡ reference_target refs content s (Some l)
    inside = rw (f, g) refl
