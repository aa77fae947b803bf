-- Attributes whose values are decoded one after another.
use Rattle.std.proofs.Common.{◌≡◌, ℕ, ◌+◌, ◌<◌, List, [], ◌∷◌, ◌++◌, length, get_or, drop, map, refl, sym, ◌∙◌, ap}
use Rattle.std.proofs.Common.{append_assoc}
use Rattle.std.proofs.lemmas.List.{at_drop_more, map-append}
use Rattle.std.specs.Prelude.{String, string_bytes}
use Rattle.std.specs.Global.{Global}
use Rattle.std.specs.Char.{to_ascii_lowercase}
use Rattle.std.proofs.Common.{Option, Some, None, Bool, false, cond, Ok, Err}
use Rattle.std.specs.List.{list_any}
use Rattle.htmd_lexical.specs.CharacterClasses.{are_distinct}
use Rattle.htmd_grammar.specs.OpenElements.{has_unknown_reference}
use Rattle.htmd_lexical.specs.AttributePairs.{AttributePair}
use Rattle.htmd_grammar.specs.References.{decode}
use Rattle.htmd_grammar.specs.Rules.{named_characters}
use Rattle.htmd_lexical.specs.Attributes.{attribute_names}
use Rattle.htmd_grammar.specs.Tags.{with_value, decode_values}
use Rattle.htmd_grammar.specs.declared.fault.FaultKind.TheVariants.{DuplicateAttribute}
use Rattle.htmd_tree.specs.TagParts.{read_attributes, all_spelled_of}
use Rattle.htmd_lexical.specs.Attributes.{pair_of, pairs_of}
use Rattle.htmd_lexical.specs.declared.attribute.Attribute.{Attribute}
use Rattle.htmd_scanning.specs.declared.tag_parts.SpelledAttribute.{SpelledAttribute}

-- attributes, and then those of an answer
abbrev pub behind_attributes : List AttributePair → Option (List AttributePair) → Option (List AttributePair)
behind_attributes before None = None
behind_attributes before (Some more) = Some (before ++ more)

pub nothing_behind : (o : Option (List AttributePair)) → behind_attributes [] o ≡ o
nothing_behind None = refl
nothing_behind (Some more) = refl

attribute_more : (before : List AttributePair) (n v : List ℕ) (more : Option (List AttributePair))
    → behind_attributes (before ++ record { name = n; value = v } ∷ []) more
    ≡ behind_attributes before (with_value n (Some v) more)
attribute_more before n v None = refl
attribute_more before n v (Some more) = ap Some (append_assoc before (record { name = n; value = v } ∷ []) more)

-- one more attribute is decoded
pub decoded_more : (spelled : List SpelledAttribute) (i : ℕ) (d : SpelledAttribute) (attributes : List Attribute)
    (name value : String Global) → i < length spelled
    → Some (string_bytes value) ≡ decode named_characters 0 (get_or spelled i d).value.now
    → string_bytes name ≡ map to_ascii_lowercase (get_or spelled i d).name.now
    → behind_attributes (pairs_of (attributes ++ record { name = name; value = value } ∷ []))
    (decode_values named_characters (all_spelled_of (drop (i + 1) spelled)))
    ≡ behind_attributes (pairs_of attributes) (decode_values named_characters (all_spelled_of (drop i spelled)))
decoded_more spelled i d attributes name value l v n =
    let decoded = λ (s : List SpelledAttribute). decode_values named_characters (all_spelled_of s) in
    let rest = decoded (drop (i + 1) spelled) in
    ap (λ before. behind_attributes before rest)
    (map-append pair_of attributes (record { name = name; value = value } ∷ []))
    ∙ attribute_more (pairs_of attributes) (string_bytes name) (string_bytes value) rest
    ∙ ap (λ o. behind_attributes (pairs_of attributes) (with_value (string_bytes name) o rest)) v
    ∙ ap (λ s. behind_attributes (pairs_of attributes)
    (with_value s (decode named_characters 0 (get_or spelled i d).value.now) rest)) n
    ∙ ap (behind_attributes (pairs_of attributes)) (sym (at_drop_more decoded spelled i d l))

-- ---- attributes whose values have been decoded

first_value : (n : List ℕ) (o : Option (List ℕ)) (more : Option (List AttributePair))
    (attributes : List AttributePair)
    → with_value n o more ≡ Some attributes
    → (rest : List AttributePair) × (more ≡ Some rest)
    × (attribute_names attributes ≡ n ∷ attribute_names rest)
first_value n None more attributes e = absurd (cc)
first_value n (Some v) None attributes e = absurd (cc)
first_value n (Some v) (Some rest) attributes e =
    let k : (record { name = n; value = v } ∷ rest) ≡ attributes = cc in (rest, refl, ap attribute_names (sym k))

-- their names are those that are spelled
names_kept : (spelled attributes : List AttributePair) → decode_values named_characters spelled ≡ Some attributes
    → attribute_names attributes ≡ attribute_names spelled
names_kept [] attributes e = let k : [] ≡ attributes = cc in ap attribute_names (sym k)
names_kept (a ∷ spelled) attributes e =
    let f =
    first_value a.name (decode named_characters 0 a.value) (decode_values named_characters spelled) attributes e in
    f.2 ∙ ap (λ (x : List (List ℕ)). a.name ∷ x) (names_kept spelled f.0 f.1)

pub attributes_distinct : (spelled attributes : List AttributePair) (answer : Bool)
    → list_any (λ a. has_unknown_reference named_characters a.value) spelled ≡ false
    → decode_values named_characters spelled ≡ Some attributes
    → are_distinct (attribute_names attributes) ≡ answer
    → read_attributes spelled ≡ cond answer (Ok attributes) (Err DuplicateAttribute)
attributes_distinct spelled attributes answer e d a =
    let k : are_distinct (attribute_names spelled) ≡ answer = ap are_distinct (sym (names_kept spelled attributes d))
    ∙ a in
    rw (e, d, k) refl
