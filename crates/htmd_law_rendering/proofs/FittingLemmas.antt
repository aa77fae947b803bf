-- Trees that stand where the strict grammar allows them are read in what they are spelled as.
use Rattle.std.proofs.Common.{◌≡◌, ◌≢◌, ℕ, ◌≤◌, Bool, true, false, List, [], ◌∷◌, refl, sym, ap, ◌∙◌, codes, inl}
use Rattle.std.proofs.Common.{inr}
use Rattle.std.proofs.Common.{length, subst, ◌+◌, max, ◌++◌, arith}
use Rattle.std.specs.Bool.{MatchBool}
use Rattle.std.specs.List.{list_all, flat_map}
use Rattle.std.proofs.Math.Nat.{le-max_left, le-max_right}
use Rattle.std.specs.Prelude.{⊤}
use Rattle.std.proofs.lemmas.Bool.{or_parts}
use Rattle.std.proofs.lemmas.List.{append_assoc, append-nil}
use Rattle.htmd_lexical.proofs.Cases.{test}
use Rattle.htmd_lexical.specs.AttributePairs.{AttributePair}
use Rattle.htmd_lexical.specs.Attributes.{attribute_names}
use Rattle.htmd_lexical.specs.CharacterClasses.{are_distinct, lacks, is_among}
use Rattle.htmd_lexical.specs.WhiteSpace.{is_ascii_white_space}
use Rattle.htmd_values.specs.Serialisation.{is_void, end_tag}
use Rattle.htmd_grammar.specs.Grammar.{Apart, ReadsForest, ReadsTree, begins_with_row, may_end_rows}
use Rattle.htmd_grammar.specs.Grammar.{tag_name_at}
use Rattle.htmd_grammar.specs.Nesting.{Context, parent_name, holds_parts, is_allowed, is_table_part}
use Rattle.htmd_grammar.specs.RawContent.{content_of, holds_raw_text, holds_text_alone}
use Rattle.htmd_grammar.specs.Rules.{project}
use Rattle.htmd_grammar.proofs.ReadBackLemmas.{lacking_run}
use Rattle.htmd_commonmark_reading.specs.Rendering.{escaped}
use Rattle.htmd_document.specs.Tags.{escaped_text}
use Rattle.htmd_law_rendering.specs.SpelledTrees.{TagForm, spaced, Spelled, SpelledForest, text, element, lone, none}
use Rattle.htmd_law_rendering.specs.SpelledTrees.{section}
use Rattle.htmd_law_rendering.specs.SpelledTrees.{more, value_tree, value_forest, lone_text, attribute_in, tag_end}
use Rattle.htmd_law_rendering.specs.SpelledTrees.{tag}
use Rattle.htmd_law_rendering.specs.SpelledTrees.{spelled, all_spelled}
use Rattle.htmd_law_rendering.specs.SpelledTrees.{levels_of, levels}
use Rattle.htmd_law_rendering.proofs.DecodeLemmas.{lacks-parts, text-lacks, text-denotes, written-lacks}
use Rattle.htmd_law_rendering.proofs.DecodeLemmas.{written-denotes}
use Rattle.htmd_law_rendering.proofs.SpellingLemmas.{element-spelled, void-spelled}
use Rattle.htmd_law_rendering.proofs.TagLemmas.{IsTreeName, AreTreeKeys, AreTreePairs, with-values, start-tag}
use Rattle.htmd_law_rendering.proofs.TagLemmas.{end-tag}

-- attributes that a tag may have
abbrev pub FitPairs : List AttributePair → Type 0
FitPairs attributes = AreTreeKeys attributes × (are_distinct (attribute_names attributes) ≡ true)

-- no two texts are neighbours, and behind a section stands nothing but a caption
abbrev pub AreApart : Spelled → SpelledForest → Type 0
AreApart (text u) (more (text v) ts) = ⊥
AreApart (section rows) none = ⊤
AreApart (section rows) (more (element k n attributes ks) ts) = n ≡ codes "caption"
AreApart (section rows) (more (lone n attributes s) ts) = n ≡ codes "caption"
AreApart (section rows) (more t ts) = ⊥
AreApart t ts = ⊤

same-apart : (t : Spelled) (ts : SpelledForest) → AreApart t ts → Apart (value_tree t) (value_forest ts)
same-apart (text u) none a = tt
same-apart (text u) (more (text v) ts) a = a
same-apart (text u) (more (element k n attributes ks) ts) a = tt
same-apart (text u) (more (lone n attributes s) ts) a = tt
same-apart (text u) (more (section rows) ts) a = tt
same-apart (section rows) none a = tt
same-apart (section rows) (more (element k n attributes ks) ts) a = tt
same-apart (section rows) (more (lone n attributes s) ts) a = tt
same-apart (section rows) (more (text u) ts) a = absurd a
same-apart (section rows) (more (section other) ts) a = absurd a
same-apart (element k n attributes ks) ts a = tt
same-apart (lone n attributes s) ts a = tt

-- no more than both are
pub first : (a b d n : ℕ) → d + max a b ≤ n → d + a ≤ n
first a b d n l = let x = le-max_left a b in omega arith

pub second : (a b d n : ℕ) → d + max a b ≤ n → d + b ≤ n
second a b d n l = let x = le-max_right a b in omega arith

-- a caption begins with its tag
tag-begins : (k : TagForm) (attributes : List AttributePair) (s : List ℕ)
    → is_table_part (tag_name_at (tag k (codes "caption") attributes ++ s)) ≡ true
unfolding is_void
tag-begins k [] s = refl
tag-begins k (a ∷ attributes) s = refl

caption-begins : (k : TagForm) (n : List ℕ) (attributes : List AttributePair) (ks ts : SpelledForest)
    → n ≡ codes "caption" → is_table_part (tag_name_at (all_spelled (more (element k n attributes ks) ts)))
    ≡ true
unfolding is_void
caption-begins k n attributes ks ts e =
    let s : List ℕ = all_spelled ks ++ end_tag (codes "caption") in
    subst (λ m. is_table_part (tag_name_at (all_spelled (more (element k m attributes ks) ts))) ≡ true) (sym e)
    (ap (λ y. is_table_part (tag_name_at y))
    (ap (λ y. y ++ all_spelled ts) (append_assoc (tag k (codes "caption") attributes) (all_spelled ks)
    (end_tag (codes "caption")))
    ∙ append_assoc (tag k (codes "caption") attributes) s (all_spelled ts))
    ∙ tag-begins k attributes (s ++ all_spelled ts))

lone-begins : (n : List ℕ) (attributes : List AttributePair) (s : List ℕ) (ts : SpelledForest)
    → n ≡ codes "caption" → is_table_part (tag_name_at (all_spelled (more (lone n attributes s) ts))) ≡ true
lone-begins n attributes s ts e =
    let x : List ℕ = escaped_text s ++ end_tag (codes "caption") in
    subst (λ m. is_table_part (tag_name_at (all_spelled (more (lone m attributes s) ts))) ≡ true) (sym e)
    (ap (λ y. is_table_part (tag_name_at y))
    (ap (λ y. y ++ all_spelled ts) (append_assoc (tag spaced (codes "caption") attributes) (escaped_text s)
    (end_tag (codes "caption")))
    ∙ append_assoc (tag spaced (codes "caption") attributes) x (all_spelled ts))
    ∙ tag-begins spaced attributes (x ++ all_spelled ts))

module _ (scripting : Bool) where
  -- where a text may stand
  abbrev pub FitsText : Context → List ℕ → Type 0
  FitsText c u =
      (holds_text_alone scripting (parent_name c) ≡ false)
      × (holds_parts (parent_name c) ≡ true → list_all is_ascii_white_space u ≡ true)

  abbrev mutual
    -- trees that may stand below elements of these names
    pub FitsTree : Context → Spelled → Type 0
    FitsTree c (text u) = (u ≢ []) × FitsText c u
    FitsTree c (element k n attributes ks) =
        (is_allowed scripting c n ≡ true) × IsTreeName n × FitPairs attributes
        × MatchBool (is_void n) (ks ≡ none)
        ((content_of n (all_spelled ks) ≡ all_spelled ks) × Fits (n ∷ c) ks)
    FitsTree c (lone n attributes s) =
        (is_allowed scripting c n ≡ true) × IsTreeName n × FitPairs attributes × (is_void n ≡ false)
        × (content_of n (escaped_text s) ≡ escaped_text s) × FitsText (n ∷ c) s
    FitsTree c (section rows) =
        (is_allowed scripting c (codes "tbody") ≡ true) × (begins_with_row (value_forest rows) ≡ true)
        × Fits (codes "tbody" ∷ c) rows

    pub Fits : Context → SpelledForest → Type 0
    Fits c none = ⊤
    Fits c (more t ts) = FitsTree c t × AreApart t ts × Fits c ts

  tag-pairs : (k : TagForm) (n : List ℕ) (attributes : List AttributePair) → AreTreeKeys attributes
      → lacks 13 (tag k n attributes) ≡ true → AreTreePairs attributes
  tag-pairs k n attributes h l =
      let p = lacks-parts 13 (codes "<" ++ n ++ flat_map (attribute_in n) attributes) (tag_end k n) l in
      with-values n attributes h (lacks-parts 13 (codes "<" ++ n) (flat_map (attribute_in n) attributes) p.0).1

  -- a text that is alone in its element
  lone-read : (s : List ℕ) (c : Context) → FitsText c s → lacks 13 s ≡ true → length c + 1 ≤ 1025
      → ReadsForest (project scripting) c true (lone_text s) (escaped_text s)
  lone-read [] c h l m = refl
  lone-read (b ∷ s) c h l m =
      let u = b ∷ s in
      let d = written-denotes u l in
      let raw : holds_raw_text scripting (parent_name c) ≡ false =
      (or_parts (is_among (codes "title" ∷ codes "textarea" ∷ []) (parent_name c))
      (holds_raw_text scripting (parent_name c)) h.0).1 in (
        escaped_text u,
        [],
        sym (append-nil (escaped_text u)),
        tt,
        (
          (λ e. let w = e in cc),
          lacking_run scripting (parent_name c) (escaped_text u) d.1,
          rw raw d.0,
          h.1,
          omega arith,
        ),
        refl,
      )

  -- what stands last, where that matters
  abbrev IsLast : Spelled → Bool → Type 0
  IsLast (section rows) last = last ≡ true
  IsLast t last = ⊤

  is-last : (t : Spelled) (ts : SpelledForest) → AreApart t ts
      → IsLast t (may_end_rows true (value_forest ts) (all_spelled ts))
  is-last (text u) ts a = tt
  is-last (element k n attributes ks) ts a = tt
  is-last (lone n attributes s) ts a = tt
  is-last (section rows) none a = refl
  is-last (section rows) (more (element k n attributes ks) ts) a = caption-begins k n attributes ks ts a
  is-last (section rows) (more (lone n attributes s) ts) a = lone-begins n attributes s ts a
  is-last (section rows) (more (text u) ts) a = absurd a
  is-last (section rows) (more (section other) ts) a = absurd a

  mutual
    tree-read : (t : Spelled) (c : Context) (last : Bool) → FitsTree c t → lacks 13 (spelled t) ≡ true
        → length c + levels_of t ≤ 1025 → IsLast t last
        → ReadsTree (project scripting) c last (value_tree t) (spelled t)
    tree-read (section rows) c last h l m e = (
      h.0,
      omega arith,
      inr (
        all_spelled rows,
        [],
        sym (append-nil (all_spelled rows)),
        refl,
        refl,
        h.1,
        trees-read rows (codes "tbody" ∷ c) h.2 l (omega arith),
        inr (refl, e),
      ),
    )
    tree-read (text u) c last h l m e =
        let d = text-denotes u (text-lacks u l) in
        let raw : holds_raw_text scripting (parent_name c) ≡ false =
        (or_parts (is_among (codes "title" ∷ codes "textarea" ∷ []) (parent_name c))
        (holds_raw_text scripting (parent_name c)) h.1.0).1 in
        (h.0, lacking_run scripting (parent_name c) (escaped u) d.1, rw raw d.0, h.1.1, omega arith)
    tree-read (element k n attributes ks) c last h l m z = (
      h.0,
      omega arith,
      inl (test (is_void n)
          (λ v. let e : ks ≡ none = rw v at h.3 in
          let r : lacks 13 (tag k n attributes) ≡ true =
          subst (λ s. lacks 13 s ≡ true) (void-spelled k n attributes ks v) l in (
            tag k n attributes,
            [],
            [],
            void-spelled k n attributes ks v ∙ sym (append-nil (tag k n attributes)),
            start-tag k n attributes h.1 (tag-pairs k n attributes h.2.0 r) h.2.1,
            rw v (refl, refl, ap value_forest e),
          ))
          (λ v. let e : (content_of n (all_spelled ks) ≡ all_spelled ks) × Fits (n ∷ c) ks = rw v at h.3 in
          let r : lacks 13 (tag k n attributes ++ all_spelled ks ++ end_tag n) ≡ true =
          subst (λ s. lacks 13 s ≡ true) (element-spelled k n attributes ks v) l in
          let q = lacks-parts 13 (tag k n attributes ++ all_spelled ks) (end_tag n) r in
          let p = lacks-parts 13 (tag k n attributes) (all_spelled ks) q.0 in (
            tag k n attributes,
            all_spelled ks,
            end_tag n,
            element-spelled k n attributes ks v ∙ append_assoc (tag k n attributes) (all_spelled ks) (end_tag n),
            start-tag k n attributes h.1 (tag-pairs k n attributes h.2.0 p.0) h.2.1,
            rw v (
              subst (λ s. ReadsForest (project scripting) (n ∷ c) true (value_forest ks) s) (sym e.0)
                  (trees-read ks (n ∷ c) e.1 p.1 (omega arith)),
              end-tag n h.1,
            ),
          ))),
    )
    tree-read (lone n attributes s) c last h l m e =
        let q = lacks-parts 13 (tag spaced n attributes ++ escaped_text s) (end_tag n) l in
        let p = lacks-parts 13 (tag spaced n attributes) (escaped_text s) q.0 in
        let v = h.3 in (
          h.0,
          omega arith,
          inl (
            tag spaced n attributes,
            escaped_text s,
            end_tag n,
            append_assoc (tag spaced n attributes) (escaped_text s) (end_tag n),
            start-tag spaced n attributes h.1 (tag-pairs spaced n attributes h.2.0 p.0) h.2.1,
            rw v (
              subst (λ x. ReadsForest (project scripting) (n ∷ c) true (lone_text s) x) (sym h.4)
                  (lone-read s (n ∷ c) h.5 (written-lacks s p.1) (omega arith)),
              end-tag n h.1,
            ),
          ),
        )

    -- what is spelled denotes the trees
    pub trees-read : (ts : SpelledForest) (c : Context) → Fits c ts
        → lacks 13 (all_spelled ts) ≡ true → length c + levels ts ≤ 1025
        → ReadsForest (project scripting) c true (value_forest ts) (all_spelled ts)
    trees-read none c h l m = refl
    trees-read (more t ts) c h l m =
        let p = lacks-parts 13 (spelled t) (all_spelled ts) l in (
          spelled t,
          all_spelled ts,
          refl,
          same-apart t ts h.1,
          tree-read t c (may_end_rows true (value_forest ts) (all_spelled ts)) h.0 p.0
              (first (levels_of t) (levels ts) (length c) 1025 m) (is-last t ts h.1),
          trees-read ts c h.2 p.1 (second (levels_of t) (levels ts) (length c) 1025 m),
        )
