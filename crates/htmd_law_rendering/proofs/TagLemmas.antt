-- The tags of trees are tags of the strict grammar.
use Rattle.std.proofs.Common.{◌≡◌, ℕ, true, List, [], ◌∷◌, ◌++◌, refl, ap, ◌∙◌, codes, Some, inl}
use Rattle.std.proofs.Common.{Bool, false, inr, map}
use Rattle.std.specs.Char.{to_ascii_lowercase}
use Rattle.std.specs.List.{flat_map}
use Rattle.std.specs.Prelude.{⊤, ◌&&◌}
use Rattle.std.proofs.lemmas.Bool.{and_parts}
use Rattle.std.proofs.lemmas.List.{append_assoc}
use Rattle.htmd_lexical.proofs.Cases.{test}
use Rattle.htmd_lexical.specs.AttributePairs.{AttributePair}
use Rattle.htmd_lexical.specs.Attributes.{attribute_names}
use Rattle.htmd_lexical.specs.CharacterClasses.{are_distinct, is_attribute_name, is_tag_name, lacks}
use Rattle.htmd_values.specs.Serialisation.{is_void, end_tag}
use Rattle.htmd_grammar.specs.Rules.{named_characters}
use Rattle.htmd_grammar.specs.Tags.{IsEndTag, IsStartTag, IsTagRest, decode_values}
use Rattle.htmd_law_rendering.specs.RenderedTrees.{pair}
use Rattle.htmd_law_rendering.specs.SpelledTrees.{TagForm, spaced, slashed, short, end_of_void, value_in, attribute_in, tag_end, tag}
use Rattle.htmd_law_rendering.proofs.DecodeLemmas.{lacks-parts, value-lacks, value-denotes}

-- a name as it stands in a tree
abbrev pub IsTreeName : List ℕ → Type 0
IsTreeName n = (is_tag_name n ≡ true) × (map to_ascii_lowercase n ≡ n)

-- attributes as they stand in a tree, without ampersands in their names
abbrev pub AreTreeKeys : List AttributePair → Type 0
AreTreeKeys [] = ⊤
AreTreeKeys (a ∷ attributes) =
    (is_attribute_name a.name ≡ true) × (map to_ascii_lowercase a.name ≡ a.name) × (lacks 38 a.name ≡ true)
    × AreTreeKeys attributes

-- and without carriage returns
abbrev pub AreTreePairs : List AttributePair → Type 0
AreTreePairs [] = ⊤
AreTreePairs (a ∷ attributes) =
    (is_attribute_name a.name ≡ true) × (map to_ascii_lowercase a.name ≡ a.name) × (lacks 38 a.name ≡ true)
    × (lacks 13 a.value ≡ true) × AreTreePairs attributes

-- where none is in the tag, none is in a value
pub with-values : (n : List ℕ) (attributes : List AttributePair) → AreTreeKeys attributes
    → lacks 13 (flat_map (attribute_in n) attributes) ≡ true → AreTreePairs attributes
with-values n [] k l = tt
with-values n (a ∷ attributes) k l =
    let p = lacks-parts 13 (attribute_in n a) (flat_map (attribute_in n) attributes) l in
    let q = lacks-parts 13 (codes " " ++ a.name ++ codes "=\"" ++ value_in n a.name a.value) (codes "\"") p.0 in
    let r = lacks-parts 13 (codes " " ++ a.name ++ codes "=\"") (value_in n a.name a.value) q.0 in
    (k.0, k.1, k.2, value-lacks n a.name a.value r.1, with-values n attributes k.3 p.1)

-- attributes with their values as they are spelled
abbrev spelled_pairs : List ℕ → List AttributePair → List AttributePair
spelled_pairs n [] = []
spelled_pairs n (a ∷ attributes) = pair a.name (value_in n a.name a.value) ∷ spelled_pairs n attributes

same-names : (n : List ℕ) (attributes : List AttributePair)
    → attribute_names (spelled_pairs n attributes) ≡ attribute_names attributes
same-names n [] = refl
same-names n (a ∷ attributes) = ap (λ ks. a.name ∷ ks) (same-names n attributes)

around : (k v r e : List ℕ)
    → ((32 ∷ (k ++ (61 ∷ 34 ∷ []) ++ v ++ (34 ∷ []))) ++ r) ++ e
    ≡ (32 ∷ []) ++ (k ++ ((61 ∷ (34 ∷ (v ++ 34 ∷ []))) ++ (r ++ e)))
around k v r e = simp append_assoc

abbrev has_slash : TagForm → Bool
has_slash spaced = true
has_slash slashed = true
has_slash short = false

-- whether a tag of this name in this form has one
abbrev is_slashed : TagForm → List ℕ → Bool
is_slashed form n = is_void n && has_slash form

void-ends : (form : TagForm) → IsTagRest [] (has_slash form) (end_of_void form)
void-ends spaced = (codes " ", refl, refl)
void-ends slashed = ([], refl, refl)
void-ends short = ([], refl, refl)

tag-ends : (form : TagForm) (n : List ℕ) → IsTagRest [] (is_slashed form n) (tag_end form n)
tag-ends form n = test (is_void n) (λ e. rw e (void-ends form)) (λ e. rw e ([], refl, refl))

rest : (s : TagForm) (n : List ℕ) (attributes : List AttributePair) → AreTreePairs attributes
    → IsTagRest (spelled_pairs n attributes) (is_slashed s n) (flat_map (attribute_in n) attributes ++ tag_end s n)
rest s n [] k = tag-ends s n
rest s n (a ∷ attributes) k =
    let v = value_in n a.name a.value in
    let behind = flat_map (attribute_in n) attributes in (
      32 ∷ [],
      a.name,
      61 ∷ (34 ∷ (v ++ 34 ∷ [])),
      behind ++ tag_end s n,
      around a.name v behind (tag_end s n),
      (λ z. let w = z in cc),
      refl,
      k.0,
      k.1,
      inr (inl (61 ∷ [], 34, refl, ([], [], refl, refl, refl), inl refl, (value-denotes n a.name a.value k.3).2)),
      rest s n attributes k.4,
    )

values : (n : List ℕ) (attributes : List AttributePair) → AreTreePairs attributes
    → decode_values named_characters (spelled_pairs n attributes) ≡ Some attributes
values n [] k = refl
values n (a ∷ attributes) k =
    let d = (value-denotes n a.name a.value k.3).0 in rw (d, values n attributes k.4) refl

slash-is-void : (s : TagForm) (n : List ℕ) → is_slashed s n ≡ true → is_void n ≡ true
slash-is-void s n e = (and_parts (is_void n) _ e).0

pub start-tag : (s : TagForm) (n : List ℕ) (attributes : List AttributePair) → IsTreeName n
    → AreTreePairs attributes → are_distinct (attribute_names attributes) ≡ true
    → IsStartTag named_characters (tag s n attributes) n attributes
start-tag s n attributes t k d = (
  spelled_pairs n attributes,
  is_slashed s n,
  (
    n,
    flat_map (attribute_in n) attributes ++ tag_end s n,
    append_assoc (60 ∷ n) (flat_map (attribute_in n) attributes) (tag_end s n),
    t.0,
    t.1,
    rest s n attributes k,
  ),
  values n attributes k,
  ap are_distinct (same-names n attributes) ∙ d,
  slash-is-void s n,
)

pub end-tag : (n : List ℕ) → IsTreeName n → IsEndTag (end_tag n) n
end-tag n t = (n, [], refl, t.0, refl, t.1)
