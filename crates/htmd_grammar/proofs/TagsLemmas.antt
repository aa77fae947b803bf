-- The tags that the serialiser writes.
use Rattle.std.proofs.Common.{Bool, List, None, Option, Some, [], ap, append_assoc, codes, false, inl, inr, map, refl}
use Rattle.std.proofs.Common.{subst, sym, true, ℕ, ◌++◌, ◌∙◌, ◌∷◌, ◌≡◌}
use Rattle.std.specs.Char.{to_ascii_lowercase}
use Rattle.std.specs.List.{flat_map, list_all}
use Rattle.std.specs.Prelude.{⊤}
use Rattle.std.proofs.lemmas.Bool.{and_parts}
use Rattle.htmd_lexical.specs.CharacterClasses.{are_distinct, is_attribute_name, is_tag_name, lacks}
use Rattle.htmd_values.specs.RawBlocks.{RefersToLineFeeds}
use Rattle.htmd_grammar.specs.ReadBack.{attribute_reads_alone}
use Rattle.htmd_grammar.specs.References.{Names, decode}
use Rattle.htmd_values.specs.Serialisation.{attribute_text, end_tag, escaped_html, start_tag, value_byte}
use Rattle.htmd_grammar.specs.Tags.{IsEndTag, IsStartTag, IsTagForm, IsTagRest, decode_values}
use Rattle.htmd_lexical.specs.Attributes.{attribute_names}
use Rattle.htmd_grammar.specs.Tags.{with_value}
use Rattle.htmd_lexical.specs.AttributePairs.{AttributePair}
use Rattle.htmd_lexical.proofs.BooleanLemmas.{lacks-append}
use Rattle.htmd_grammar.proofs.EscapeLemmas.{HasEscapes, value_back}
use Rattle.htmd_grammar.proofs.ReferencedLineFeeds.{refers_plain, refers_split}
use Rattle.htmd_grammar.proofs.TagNamesLemmas.{is_key-lower, is_name-lower, key_lacks, lower_name, name_lacks}

-- a name as it stands in a tree
abbrev pub IsTreeName : List ℕ → Type 0
IsTreeName n = (is_tag_name n ≡ true) × (map to_ascii_lowercase n ≡ n)

-- the names of attributes as they stand in a tree
abbrev pub AreTreeKeys : List (List ℕ) → Type 0
AreTreeKeys [] = ⊤
AreTreeKeys (k ∷ ks) = (is_attribute_name k ≡ true) × (map to_ascii_lowercase k ≡ k) × AreTreeKeys ks

pub tree_name : (name n : List ℕ) → is_tag_name name ≡ true → map to_ascii_lowercase name ≡ n → IsTreeName n
tree_name name n e d = subst IsTreeName d (is_name-lower name e, lower_name name)

around : (k v r : List ℕ) → (32 ∷ (k ++ (61 ∷ 34 ∷ []))) ++ (v ++ (34 ∷ r)) ≡ (32 ∷ [])
    ++ (k ++ ((61 ∷ (34 ∷ (v ++ 34 ∷ []))) ++ r))
around k v r = simp append_assoc

-- however a tag was written
pub tree_keys : (spelled : List AttributePair) (present : Bool) (s : List ℕ) → IsTagRest spelled present s
    → AreTreeKeys (attribute_names spelled)
tree_keys [] present s h = tt
tree_keys (a ∷ spelled) present s h = (
  subst (λ (k : List ℕ). is_attribute_name k ≡ true) h.8 (is_key-lower h.1 h.7),
  ap (map to_ascii_lowercase)
      (sym h.8) ∙ (lower_name h.1 ∙ h.8),
  tree_keys spelled present h.3 h.10,
)

-- the value of the first attribute, and the others
pub values_parts : (n : List ℕ) (v : Option (List ℕ)) (o : Option (List AttributePair))
    (attributes : List AttributePair) → with_value n v o ≡ Some attributes
    → (u : List ℕ) × (others : List AttributePair) × (v ≡ Some u) × (o ≡ Some others)
    × (attributes ≡ record { name = n; value = u } ∷ others)
values_parts n None o attributes e = absurd (cc)
values_parts n (Some u) None attributes e = absurd (cc)
values_parts n (Some u) (Some others) attributes e = (u, others, refl, refl, sym (same e))
  where
    same : {a b : List AttributePair} → ◌≡◌ {A = Option (List AttributePair)} (Some a) (Some b) → a ≡ b
    same q = cc

module _ (names : Names) where
  pub decoded_names : (spelled attributes : List AttributePair) → decode_values names spelled ≡ Some attributes
      → attribute_names spelled ≡ attribute_names attributes
  decoded_names [] attributes e = nothing e
    where
      nothing : ◌≡◌ {A = Option (List AttributePair)} (Some []) (Some attributes)
          → attribute_names [] ≡ attribute_names attributes
      nothing q = let w : [] ≡ attributes = cc in ap attribute_names w
  decoded_names (a ∷ spelled) attributes e =
      let w = values_parts a.name (decode names 0 a.value) (decode_values names spelled) attributes e in
      ap (λ (y : List (List ℕ)). a.name ∷ y) (decoded_names spelled w.1 w.3) ∙ ap attribute_names (sym w.4)

  -- attributes, spelled like this
  abbrev Spells : List AttributePair → List ℕ → Type 0
  Spells attributes x = (spelled : List AttributePair) × IsTagRest spelled false x
      × (decode_values names spelled ≡ Some attributes)

  -- the attributes as the serialiser writes them
  pub attributes_back : HasEscapes names → (attributes : List AttributePair) (x : List ℕ)
      → AreTreeKeys (attribute_names attributes) → list_all attribute_reads_alone attributes ≡ true
      → RefersToLineFeeds (flat_map attribute_text attributes ++ codes ">") x → Spells attributes x
  attributes_back has [] x k p r = ([], ([], refers_plain (codes ">") x refl r, refl), refl)
  attributes_back has (a ∷ attributes) x k p r =
      let q = and_parts (attribute_reads_alone a) (list_all attribute_reads_alone attributes) p in
      let before : List ℕ = 32 ∷ (a.name ++ (61 ∷ 34 ∷ [])) in
      let value : List ℕ = escaped_html value_byte a.value in
      let others : List ℕ = flat_map attribute_text attributes ++ codes ">" in
      let e : (attribute_text a ++ flat_map attribute_text attributes) ++ codes ">" ≡ before
      ++ (value ++ (34 ∷ others)) = simp append_assoc in
      let i = refers_split before (value ++ (34 ∷ others)) x (subst (λ (y : List ℕ). RefersToLineFeeds y x) e r) in
      let j = refers_split value (34 ∷ others) i.1 i.4 in
      let l = refers_split (34 ∷ []) others j.1 j.4 in
      let b : i.0 ≡ before =
      refers_plain before i.0 (lacks-append 10 a.name (61 ∷ 34 ∷ []) (key_lacks a.name k.0) refl)
      i.3 in
      let c : l.0 ≡ 34 ∷ [] = refers_plain (34 ∷ []) l.0 refl l.3 in
      let v = value_back names has a.value j.0 q.0 j.3 in
      put_together i.0 i.1 j.0 j.1 l.0 l.1 i.2 j.2 l.2 b c v.0 v.1 (attributes_back has attributes l.1 k.2 q.1 l.4)
    where
      put_together : (i0 i1 j0 j1 l0 l1 : List ℕ) → x ≡ i0 ++ i1 → i1 ≡ j0 ++ j1 → j1 ≡ l0 ++ l1
          → i0 ≡ 32 ∷ (a.name ++ (61 ∷ 34 ∷ [])) → l0 ≡ 34 ∷ []
          → decode names 0 j0 ≡ Some a.value → lacks 34 j0 ≡ true → Spells attributes l1
          → Spells (a ∷ attributes) x
      put_together i0 i1 j0 j1 l0 l1 e1 e2 e3 b c d n rest =
          let spelled : x ≡ (32 ∷ []) ++ (a.name ++ ((61 ∷ (34 ∷ (j0 ++ 34 ∷ []))) ++ l1)) =
          e1 ∙ (ap (λ (y : List ℕ). i0 ++ y)
          (e2 ∙ ap (λ (y : List ℕ). j0 ++ y) (e3 ∙ ap (λ (y : List ℕ). y ++ l1) c))
          ∙ (ap (λ (y : List ℕ). y ++ (j0 ++ (34 ∷ l1))) b ∙ around a.name j0 l1)) in (
            record { name = a.name; value = j0 } ∷ rest.0,
            (
              32 ∷ [],
              a.name,
              61 ∷ (34 ∷ (j0 ++ 34 ∷ [])),
              l1,
              spelled,
              (λ z. let w = z in cc),
              refl,
              k.0,
              k.1,
              inr (inl (61 ∷ [], 34, refl, ([], [], refl, refl, refl), inl refl, n)),
              rest.1,
            ),
            rw (d, rest.2) refl,
          )

  pub start_tag_back : HasEscapes names → (n : List ℕ) (attributes : List AttributePair) (tag x : List ℕ)
      → IsStartTag names tag n attributes → list_all attribute_reads_alone attributes ≡ true
      → RefersToLineFeeds (start_tag n attributes) x → IsStartTag names x n attributes
  start_tag_back has n attributes tag x h p r =
      let f : IsTagForm tag n h.0 h.1 = h.2 in
      let t = tree_name f.0 n f.3 f.4 in
      let s = decoded_names h.0 attributes h.3 in
      let i = refers_split (60 ∷ n) (flat_map attribute_text attributes ++ codes ">") x
      (subst (λ (y : List ℕ). RefersToLineFeeds y x) (append_assoc (60 ∷ n) (flat_map attribute_text attributes)
      (codes ">")) r) in
      let e : i.0 ≡ 60 ∷ n = refers_plain (60 ∷ n) i.0 (name_lacks n t.0) i.3 in
      let a = attributes_back has attributes i.1 (subst AreTreeKeys s (tree_keys h.0 h.1 f.1 f.5)) p i.4 in (
        a.0,
        false,
        (n, i.1, i.2 ∙ ap (λ (y : List ℕ). y ++ i.1) e, t.0, t.1, a.1),
        a.2,
        ap are_distinct (decoded_names a.0 attributes a.2 ∙ sym s) ∙ h.4,
        λ z. absurd (cc),
      )

pub end_tag_back : (n x : List ℕ) → IsTreeName n → RefersToLineFeeds (end_tag n) x → IsEndTag x n
end_tag_back n x t r = (
  n,
  [],
  refers_plain (end_tag n) x (lacks-append 10 n (62 ∷ []) (name_lacks n t.0) refl) r,
  t.0,
  refl,
  t.1,
)
