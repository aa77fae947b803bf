-- What the serialiser writes of a tree that was read, is read as that tree.
use Rattle.std.proofs.Common.{Bool, List, [], ap, append_assoc, codes, false, inl, inr, not, refl, subst, sym, true, ℕ}
use Rattle.std.proofs.Common.{◌&&◌, ◌++◌, ◌∙◌, ◌∷◌, ◌≡◌, ◌⊎◌}
use Rattle.std.proofs.lemmas.List.{append-nil}
use Rattle.std.specs.Bool.{MatchBool}
use Rattle.std.specs.List.{list_all}
use Rattle.std.specs.Prelude.{◌==◌}
use Rattle.std.specs.Str.{bytes_eq}
use Rattle.std.proofs.lemmas.Bool.{not-true, and_parts, or_parts}
use Rattle.htmd_lexical.specs.CharacterClasses.{lacks, up_to}
use Rattle.htmd_grammar.specs.Grammar.{ReadsForest, ReadsTree, begins_with_row, may_end_rows}
use Rattle.htmd_grammar.specs.Nesting.{Context, is_tbody, parent_name}
use Rattle.htmd_values.specs.RawBlocks.{RefersToLineFeeds}
use Rattle.htmd_grammar.specs.RawContent.{begins_markup, content_of, drops_line_feed, ends_text}
use Rattle.htmd_lexical.specs.EndTags.{begins_own_end}
use Rattle.htmd_grammar.specs.RawContent.{holds_raw_text, holds_text_alone}
use Rattle.htmd_grammar.specs.ReadBack.{all_read_alone, reads_alone, attribute_reads_alone, is_special}
use Rattle.htmd_grammar.specs.References.{Names}
use Rattle.htmd_grammar.specs.Rules.{Rules}
use Rattle.htmd_values.specs.Serialisation.{all_markup_of, end_tag, is_raw_text, is_void, markup_of, start_tag}
use Rattle.htmd_grammar.specs.Tags.{IsEndTag, IsStartTag}
use Rattle.htmd_lexical.specs.AttributePairs.{AttributePair}
use Rattle.htmd_values.specs.ValueTrees.{ValueForest, ValueTree, comment, doctype, document, element}
use Rattle.htmd_values.specs.ValueTrees.{more, none, text}
use Rattle.htmd_lexical.proofs.BooleanLemmas.{and_false}
use Rattle.htmd_grammar.proofs.EscapeLemmas.{HasEscapes, text_back}
use Rattle.htmd_grammar.proofs.NestingLemmas.{one_name, tbody_not_void}
use Rattle.htmd_grammar.proofs.ReferencedLineFeeds.{refers_nothing, refers_split}
use Rattle.htmd_grammar.proofs.TagsLemmas.{IsTreeName, end_tag_back, start_tag_back, tree_name}
use Rattle.htmd_lexical.proofs.Cases.{test}

-- without `<` there is no markup
pub no_markup : (b : ℕ) (s : List ℕ) → (b == 60) ≡ false → begins_markup (b ∷ s) ≡ false
no_markup b [] e = refl
no_markup b (c ∷ s) e = rw e refl

pub no_end : (n : List ℕ) (b : ℕ) (s : List ℕ) → (b == 60) ≡ false → begins_own_end n (b ∷ s) ≡ false
no_end n b [] e = refl
no_end n b (c ∷ s) e = rw e refl

-- without `<` a text goes to the end
pub lacking_run : (z : Bool) (n s : List ℕ) → lacks 60 s ≡ true → up_to (ends_text z n) s ≡ s
lacking_run z n [] l = refl
lacking_run z n (b ∷ s) l =
    let p = and_parts (not (b == 60)) (lacks 60 s) l in
    let q = not-true (b == 60) p.0 in
    let f : ends_text z n (b ∷ s) ≡ false = test (holds_text_alone z n) (λ t. rw (t, no_end n b s q) refl)
    (λ t. rw (t, no_markup b s q) refl) in
    rw (f, lacking_run z n s p.1) refl

not_raw : (n : List ℕ) → not (is_special n) ≡ true → is_raw_text n ≡ false
unfolding is_special
not_raw n e = (or_parts (is_raw_text n) _ (not-true (is_special n) e)).0

-- what drops a line feed is special
no_drop : (n : List ℕ) → not (is_special n) ≡ true → drops_line_feed n ≡ false
unfolding is_special
no_drop n e = (or_parts (is_raw_text n) (drops_line_feed n) (not-true (is_special n) e)).1

raw_is_raw : (z : Bool) (n : List ℕ) → is_raw_text n ≡ false → holds_raw_text z n ≡ false
unfolding is_raw_text
raw_is_raw z n e =
    let a = or_parts (bytes_eq n (codes "style")) _ e in
    let b = or_parts (bytes_eq n (codes "script")) _ a.1 in
    let c = or_parts (bytes_eq n (codes "xmp")) _ b.1 in
    let d = or_parts (bytes_eq n (codes "iframe")) _ c.1 in
    let f = or_parts (bytes_eq n (codes "noembed")) _ d.1 in
    let g = or_parts (bytes_eq n (codes "noframes")) _ f.1 in
    let h = or_parts (bytes_eq n (codes "plaintext")) _ g.1 in
    let i = or_parts (bytes_eq n (codes "noscript")) false h.1 in
    rw (a.0, b.0, c.0, d.0, f.0, g.0, i.0) (and_false z)

-- what is raw here is raw to the serialiser
no_raw : (z : Bool) (n : List ℕ) → not (is_special n) ≡ true → holds_raw_text z n ≡ false
no_raw z n e = raw_is_raw z n (not_raw n e)

abbrev IsTextTree : ValueTree → Bool
IsTextTree (document ks) = false
IsTextTree doctype = false
IsTextTree (text u) = true
IsTextTree (comment u) = false
IsTextTree (element n attributes ks) = false

tbody_tag : (names : Names) → IsStartTag names (codes "<tbody>") (codes "tbody") []
unfolding is_void
tbody_tag names = (
  [],
  false,
  (codes "tbody", codes ">", refl, refl, refl, ([], refl, refl)),
  refl,
  refl,
  λ z. absurd (cc),
)

module _ (rules : Rules) (has : HasEscapes rules.names) where
  abbrev pub NodeBack : ValueTree → Type 0
  NodeBack t = (c : Context) (l m : Bool) (s x : List ℕ)
      → (IsTextTree t ≡ true → holds_raw_text rules.scripting (parent_name c) ≡ false)
      → ReadsTree rules c l t s
      → reads_alone t ≡ true → RefersToLineFeeds (markup_of false t) x → ReadsTree rules c m t x

  abbrev pub NodesBack : ValueForest → Type 0
  NodesBack ts = (c : Context) (l m : Bool) (s x : List ℕ)
      → holds_raw_text rules.scripting (parent_name c) ≡ false
      → ReadsForest rules c l ts s → all_read_alone ts ≡ true → RefersToLineFeeds (all_markup_of false ts) x
      → ReadsForest rules c m ts x

  -- an element with its end tag
  explicit_back : (n : List ℕ) (attributes : List AttributePair) (ks : ValueForest) (c : Context) (x : List ℕ)
      → is_void n ≡ false → drops_line_feed n ≡ false → IsTreeName n
      → ((y : List ℕ) → RefersToLineFeeds (start_tag n attributes) y → IsStartTag rules.names y n attributes)
      → ((y : List ℕ) → RefersToLineFeeds (all_markup_of false ks) y → ReadsForest rules (n ∷ c) true ks y)
      → RefersToLineFeeds (start_tag n attributes ++ (all_markup_of false ks ++ end_tag n)) x
      → (tag inner end : List ℕ) × (x ≡ tag ++ (inner ++ end)) × IsStartTag rules.names tag n attributes
      × MatchBool (is_void n) ((inner ≡ []) × (end ≡ []) × (ks ≡ none))
      (ReadsForest rules (n ∷ c) true ks (content_of n inner) × IsEndTag end n)
  explicit_back n attributes ks c x v dr t starts inside r =
      let i = refers_split (start_tag n attributes) (all_markup_of false ks ++ end_tag n) x r in
      let j = refers_split (all_markup_of false ks) (end_tag n) i.1 i.4 in (
        i.0,
        j.0,
        j.1,
        i.2 ∙ ap (λ (y : List ℕ). i.0 ++ y) j.2,
        starts i.0 i.3,
        rw (v, dr) (inside j.0 j.3, end_tag_back n j.1 t j.4),
      )

  -- either way it was read, it reads back by its tags
  element_back : (n : List ℕ) (attributes : List AttributePair) (ks : ValueForest) → NodesBack ks
      → NodeBack (element n attributes ks)
  element_back n attributes ks ih c l m s x _ h p r = (h.0, h.1, inl (go h.2))
    where
      q : (not (is_special n) ≡ true) × (list_all attribute_reads_alone attributes ≡ true)
          × (all_read_alone ks ≡ true)
      q =
          let a = and_parts (not (is_special n) && list_all attribute_reads_alone attributes) (all_read_alone ks) p in
          let b = and_parts (not (is_special n)) (list_all attribute_reads_alone attributes) a.0 in (b.0, b.1, a.1)

      raw : holds_raw_text rules.scripting n ≡ false
      raw = no_raw rules.scripting n q.0

      dropped : drops_line_feed n ≡ false
      dropped = no_drop n q.0

      Out : Type 0
      Out = (tag inner end : List ℕ) × (x ≡ tag ++ (inner ++ end)) × IsStartTag rules.names tag n attributes
          × MatchBool (is_void n) ((inner ≡ []) × (end ≡ []) × (ks ≡ none))
          (ReadsForest rules (n ∷ c) true ks (content_of n inner) × IsEndTag end n)

      paired : is_void n ≡ false
          → RefersToLineFeeds (start_tag n attributes ++ (all_markup_of false ks ++ end_tag n)) x
      paired v =
          let w = not_raw n q.0 in
          let z = rw (v, w) at r in subst (λ (y : List ℕ). RefersToLineFeeds y x)
          (append_assoc (start_tag n attributes) (all_markup_of false ks) (end_tag n)) z

      written_tag : (tag inner end : List ℕ) → IsStartTag rules.names tag n attributes
          → MatchBool (is_void n) ((inner ≡ []) × (end ≡ []) × (ks ≡ none))
          (ReadsForest rules (n ∷ c) true ks (content_of n inner) × IsEndTag end n) → Out
      written_tag tag inner end st k =
          let t : IsTreeName n = tree_name (st.2).0 n (st.2).3 (st.2).4 in
          test (is_void n)
          (λ v. let e = rw v at k in (
            x,
            [],
            [],
            sym (Rattle.std.proofs.lemmas.List.append-nil x),
            start_tag_back rules.names has n attributes tag x st q.1 (rw v at r),
            rw v (refl, refl, e.2),
          ))
          (λ v. explicit_back n attributes ks c x v dropped t
          (λ y z. start_tag_back rules.names has n attributes tag y st q.1 z)
          (λ y z. let e = rw v at k in ih (n ∷ c) true true (content_of n inner) y raw e.0 q.2 z)
          (paired v))

      go : ((tag inner end : List ℕ) × (s ≡ tag ++ (inner ++ end)) × IsStartTag rules.names tag n attributes
          × MatchBool (is_void n) ((inner ≡ []) × (end ≡ []) × (ks ≡ none))
          (ReadsForest rules (n ∷ c) true ks (content_of n inner) × IsEndTag end n))
          ⊎ ((inner end : List ℕ) × (s ≡ inner ++ end) × (is_tbody n ≡ true) × (attributes ≡ [])
          × (begins_with_row ks ≡ true)
          × ReadsForest rules (n ∷ c) true ks inner × (IsEndTag end n ⊎ ((end ≡ []) × (l ≡ true)))) → Out
      go (inl w) = written_tag w.0 w.1 w.2 w.4 w.5
      go (inr w) =
          let e = one_name (codes "tbody") n w.3 in
          let v : is_void n ≡ false = ap is_void e ∙ tbody_not_void in
          let tag : IsStartTag rules.names (codes "<tbody>") n attributes = rw (e, w.4) (tbody_tag rules.names) in
          explicit_back n attributes ks c x v dropped (rw e (refl, refl))
          (λ y z. start_tag_back rules.names has n attributes (codes "<tbody>") y tag q.1 z)
          (λ y z. ih (n ∷ c) true true w.0 y raw w.6 q.2 z) (paired v)

  mutual
    pub node_back : (t : ValueTree) → NodeBack t
    node_back (document ks) c l m s x w h p r = absurd h
    node_back doctype c l m s x w h p r = absurd h
    node_back (text u) c l m s x w h p r =
        let b = text_back rules.names has u x p r in
        (h.0, lacking_run rules.scripting (parent_name c) x b.1, rw (w refl) b.0, h.3, h.4)
    node_back (comment u) c l m s x w h p r = absurd (cc)
    node_back (element n attributes ks) c l m s x w h p r =
        element_back n attributes ks (nodes_back ks) c l m s x w h p r

    pub nodes_back : (ts : ValueForest) → NodesBack ts
    nodes_back none c l m s x w h p r = refers_nothing x r
    nodes_back (more t ts) c l m s x w h p r =
        let q = and_parts (reads_alone t) (all_read_alone ts) p in
        let i = refers_split (markup_of false t) (all_markup_of false ts) x r in (
          i.0,
          i.1,
          i.2,
          h.3,
          node_back t c (may_end_rows l ts h.1) (may_end_rows m ts i.1) h.0 i.0 (λ _. w) h.4 q.0 i.3,
          nodes_back ts c l m h.1 i.1 w h.5 q.1 i.4,
        )
