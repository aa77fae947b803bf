-- How the text of a tree begins, and what may follow it.
use Rattle.std.proofs.Common.{Bool, List, [], ap, append_assoc, codes, false, inl, inr, refl, subst, true, ℕ, ◌++◌, ◌∙◌}
use Rattle.std.proofs.Common.{◌∷◌, ◌≡◌, ◌⊎◌}
use Rattle.std.specs.Bool.{MatchBool}
use Rattle.htmd_grammar.specs.Grammar.{Apart, ReadsForest, ReadsTree, begins_with_row, may_end_rows}
use Rattle.htmd_grammar.specs.Nesting.{Context, is_tbody}
use Rattle.htmd_grammar.specs.RawContent.{begins_markup, content_of, holds_text_alone}
use Rattle.htmd_grammar.specs.Rules.{Rules}
use Rattle.htmd_values.specs.Serialisation.{is_void}
use Rattle.htmd_grammar.specs.ReaderSteps.{ends_rows}
use Rattle.htmd_grammar.specs.Tags.{IsEndTag, IsStartTag}
use Rattle.htmd_lexical.specs.AttributePairs.{AttributePair}
use Rattle.htmd_values.specs.ValueTrees.{ValueForest, ValueTree, comment, doctype, document, element}
use Rattle.htmd_values.specs.ValueTrees.{more, none, text}
use Rattle.htmd_grammar.proofs.NestingLemmas.{no_text_alone, one_name, row_is_no_tbody}
use Rattle.htmd_grammar.proofs.TextLemmas.{Stops, front_stops, markup-append, name_head}

abbrev pub IsTextTree : ValueTree → Bool
IsTextTree (document ks) = false
IsTextTree doctype = false
IsTextTree (text u) = true
IsTextTree (comment u) = false
IsTextTree (element n attributes ks) = false

module _ (rules : Rules) where
  -- the text of an element, without what follows it
  abbrev pub Inside : Context → Bool → List ℕ → List AttributePair → ValueForest → List ℕ → Type 0
  Inside c last n attributes ks s =
      ((tag inner end : List ℕ) × (s ≡ tag ++ (inner ++ end)) × IsStartTag rules.names tag n attributes
      × MatchBool (is_void n) ((inner ≡ []) × (end ≡ []) × (ks ≡ none))
      (ReadsForest rules (n ∷ c) true ks (content_of n inner) × IsEndTag end n))
      ⊎ ((inner end : List ℕ) × (s ≡ inner ++ end) × (is_tbody n ≡ true) × (attributes ≡ [])
      × (begins_with_row ks ≡ true)
      × ReadsForest rules (n ∷ c) true ks inner × (IsEndTag end n ⊎ ((end ≡ []) × (last ≡ true))))

  -- the tag that the content of an implied `tbody` begins with
  abbrev pub RowTag : List ℕ → Type 0
  RowTag s = (tag x : List ℕ) × (attributes : List AttributePair) × (s ≡ tag ++ x) × IsStartTag rules.names tag
      (codes "tr") attributes

  pub row_start : (ks : ValueForest) (c : Context) (last : Bool) (s : List ℕ) → ReadsForest rules c last ks s
      → begins_with_row ks ≡ true → RowTag s
  row_start none c last s h b = absurd (cc)
  row_start (more (document kk) us) c last s h b = absurd (cc)
  row_start (more doctype us) c last s h b = absurd (cc)
  row_start (more (text u) us) c last s h b = absurd (cc)
  row_start (more (comment u) us) c last s h b = absurd (cc)
  row_start (more (element n attributes kk) us) c last s h b = go (h.4).2
    where
      go : Inside c (may_end_rows last us h.1) n attributes kk h.0 → RowTag s
      go (inl w) = (
        w.0,
        (w.1 ++ w.2) ++ h.1,
        attributes,
        h.2
            ∙ (ap (λ (y : List ℕ). y ++ h.1) w.3 ∙ append_assoc w.0 (w.1 ++ w.2) h.1),
        subst (λ (m : List ℕ). IsStartTag rules.names w.0 m attributes) (one_name (codes "tr") n b) w.4,
      )
      go (inr w) = let q = row_is_no_tbody n b in absurd (cc)

  pub start_tag_begins : (tag n : List ℕ) (attributes : List AttributePair)
      → IsStartTag rules.names tag n attributes
      → begins_markup tag ≡ true
  start_tag_begins tag n attributes t =
      let k = name_head (t.2).0 (t.2).3 in
      ap begins_markup ((t.2).2 ∙ ap (λ (y : List ℕ). 60 ∷ (y ++ (t.2).1)) k.2) ∙ rw k.3 refl

  -- a node that isn't text begins with markup
  pub node_stops : (t : ValueTree) (c : Context) (last : Bool) (s : List ℕ) → IsTextTree t ≡ false
      → ReadsTree rules c last t s → begins_markup s ≡ true
  node_stops (document ks) c last s e h = absurd h
  node_stops doctype c last s e h = absurd h
  node_stops (text u) c last s e h = absurd (cc)
  node_stops (comment u) c last s e h = rw (h.0).2 refl
  node_stops (element n attributes ks) c last s e h = go h.2
    where
      go : Inside c last n attributes ks s → begins_markup s ≡ true
      go (inl w) = rw w.3 (markup-append w.0 (w.1 ++ w.2) (start_tag_begins w.0 n attributes w.4))
      go (inr w) = let r = row_start ks (n ∷ c) true w.0 w.6 w.5 in
          rw w.2 (markup-append w.0 w.1 (rw r.3 (markup-append r.0 r.1 (start_tag_begins r.0 (codes "tr") r.2 r.4))))

  -- and doesn't stand in a `title`
  pub node_no_title : (p : List ℕ) (t : ValueTree) (c : Context) (last : Bool) (s : List ℕ)
      → IsTextTree t ≡ false
      → ReadsTree rules (p ∷ c) last t s → holds_text_alone rules.scripting p ≡ false
  node_no_title p (document ks) c last s e h = absurd h
  node_no_title p doctype c last s e h = absurd h
  node_no_title p (text u) c last s e h = absurd (cc)
  node_no_title p (comment u) c last s e h = h.1
  node_no_title p (element n attributes ks) c last s e h = no_text_alone rules.scripting p c n h.0

  pub stops_after : (p : List ℕ) (t : ValueTree) (ts : ValueForest) (c : Context) (last : Bool) (s after : List ℕ)
      → Apart t ts → ReadsForest rules (p ∷ c) last ts s → (ts ≡ none → Stops rules.scripting p after)
      → IsTextTree t ≡ true
      → Stops rules.scripting p (s ++ after)
  stops_after p t none c last s after a h st e = rw h (st refl)
  stops_after p (document ks) (more (text v) ts) c last s after a h st e = absurd (cc)
  stops_after p doctype (more (text v) ts) c last s after a h st e = absurd (cc)
  stops_after p t (more (document ks) ts) c last s after a h st e = absurd (h.4)
  stops_after p t (more doctype ts) c last s after a h st e = absurd (h.4)
  stops_after p (text u) (more (text v) ts) c last s after a h st e = absurd a
  stops_after p (comment u) (more (text v) ts) c last s after a h st e = absurd (cc)
  stops_after p (element n attributes ks) (more (text v) ts) c last s after a h st e = absurd (cc)
  stops_after p t (more (comment v) ts) c last s after a h st e =
      inr (rw (h.2, append_assoc h.0 h.1 after, node_no_title p (comment v) c (may_end_rows last ts h.1) h.0 refl h.4)
      (markup-append h.0 (h.1 ++ after) (node_stops (comment v) (p ∷ c) (may_end_rows last ts h.1) h.0 refl h.4)))
  stops_after p t (more (element n attributes ks) ts) c last s after a h st e =
      inr (rw (
        h.2,
        append_assoc h.0 h.1 after,
        node_no_title p (element n attributes ks) c (may_end_rows last ts h.1)
            h.0 refl h.4,
      ) (markup-append h.0 (h.1 ++ after)
      (node_stops (element n attributes ks) (p ∷ c) (may_end_rows last ts h.1) h.0 refl h.4)))

  pub rows_follow : (p : List ℕ) (ts : ValueForest) (c : Context) (last : Bool) (s after : List ℕ)
      → ReadsForest rules (p ∷ c) last ts s → may_end_rows last ts s ≡ true → Stops rules.scripting p after
      → (last ≡ true → ends_rows after ≡ true) → ends_rows (s ++ after) ≡ true
  rows_follow p none c last s after h m st re = rw h (re m)
  rows_follow p (more t ts) c last [] after h m st re = absurd (cc)
  rows_follow p (more t ts) c last (b ∷ []) after h m st re = absurd (cc)
  rows_follow p (more t ts) c last (b ∷ d ∷ s) after h m st re =
      rw (front_stops rules.scripting p (d ∷ s) after st, m) refl
