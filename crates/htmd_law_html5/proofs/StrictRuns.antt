-- The tokens of a text of the strict grammar are those of its trees.
use Rattle.std.proofs.Common.{◌≡◌, ◌≢◌, ℕ, Bool, true, false, not, List, [], ◌∷◌, ◌++◌, length, drop, Some, refl}
use Rattle.std.proofs.Common.{sym, ap, ◌∙◌, arith, inl, inr, codes, subst, append_assoc}
use Rattle.std.specs.Bool.{MatchBool}
use Rattle.std.specs.Prelude.{◌==◌, ◌⊎◌, ◌||◌, if◌then◌else◌}
use Rattle.std.proofs.lemmas.Bool.{and_parts, not-true, eqb-true}
use Rattle.std.proofs.lemmas.List.{append-nil}
use Rattle.htmd_lexical.proofs.Cases.{test}
use Rattle.htmd_lexical.specs.AttributePairs.{AttributePair}
use Rattle.htmd_values.specs.ValueTrees.{ValueTree, ValueForest, none, more, document, doctype, text}
use Rattle.htmd_values.specs.ValueTrees.{comment, element}
use Rattle.htmd_lexical.specs.CharacterClasses.{first_is, lacks, up_to}
use Rattle.htmd_grammar.specs.Grammar.{ReadsForest, ReadsTree, begins_with_row, may_end_rows, reads}
use Rattle.htmd_grammar.specs.Grammar.{tag_name_at}
use Rattle.htmd_grammar.specs.Nesting.{Context, is_outside, is_table, is_tbody, is_table_part}
use Rattle.htmd_grammar.specs.RawContent.{holds_text_alone, ends_text, begins_markup, drops_line_feed, content_of}
use Rattle.htmd_grammar.specs.Rules.{named_characters, project}
use Rattle.htmd_grammar.specs.References.{decode, after_line_feed}
use Rattle.htmd_values.specs.Serialisation.{is_void}
use Rattle.htmd_grammar.specs.Tags.{IsStartTag, IsEndTag}
use Rattle.htmd_grammar.specs.HtmlDocuments.{above_body, below_body}
use Rattle.htmd_grammar.proofs.NestingLemmas.{allowed_parts, one_name}
use Rattle.htmd_grammar.proofs.Completeness.{end_tag_stops, decoded_full}
use Rattle.htmd_grammar.proofs.TextLemmas.{Stops, no_tag, run_not_stop}
use Rattle.htmd_grammar.proofs.TreeTexts.{Inside, IsTextTree, row_start, stops_after}
use Rattle.htmd_html5_tokens.specs.Tokens.{TagValue, TokenValue, start_tag, end_tag, Read}
use Rattle.htmd_html5_tokens.specs.NextToken.{next_token}
use Rattle.htmd_lexical.specs.declared.content_model.ContentModel.{ContentModel}
use Rattle.htmd_lexical.specs.declared.content_model.ContentModel.TheVariants.{Normal, Raw}
use Rattle.htmd_lexical.specs.declared.content_model.RawElement.{RawElement}
use Rattle.htmd_grammar.proofs.FrontsLemmas.{content_plain, tag_starts}
use Rattle.htmd_law_html5.specs.StrictReferences.{outside, in_tag, IsUnambiguousAt, IsUnambiguous}
use Rattle.htmd_law_html5.specs.StrictTokens.{content_in, tag_named, SpellsTree, SpellsForest, with_text_token}
use Rattle.htmd_law_html5.specs.StrictTokens.{after_feed, content_tokens, is_set_aside, is_simple_tree, is_simple}
use Rattle.htmd_law_html5.specs.StrictTokens.{SpellsTable, SpellsRows, may_be_implied, is_simple_table}
use Rattle.htmd_law_html5.specs.StrictTokens.{is_simple_body, end_rows}
use Rattle.htmd_law_html5.specs.StrictTokens.{TokensAgree}
use Rattle.htmd_law_html5.proofs.StrictCuts.{unambiguous_back, unambiguous_in_tag, unambiguous_past}
use Rattle.htmd_law_html5.proofs.StrictCuts.{unambiguous_inside, unambiguous_outside, content_place}
use Rattle.htmd_law_html5.proofs.StrictReferencesLemmas.{Ending}
use Rattle.htmd_law_html5.proofs.StrictTokenCuts.{read, start_read, end_read, raw_end_read, text_token_read}
use Rattle.htmd_law_html5.proofs.StrictTokenCuts.{unambiguous_before}
use Rattle.htmd_law_html5.proofs.StrictRawTexts.{normal_content, void_content, IsRaw, raw_content, pre_plain}
use Rattle.htmd_law_html5.proofs.StrictRawTexts.{raw_keeps, raw_children, stop_same, raw_text_next, raw_end_next}
use Rattle.htmd_law_html5.proofs.StrictLineFeeds.{kept_begins, feed_case, dropped_feed, Feed, feed_text}
use Rattle.htmd_law_html5.proofs.StrictSteps.{Run, here, onward, joined, from_content, from_text, all_read, Made}
use Rattle.htmd_law_html5.proofs.StrictSteps.{shorter, one_token, TreeRun, ForestRun, TableRun, tag_filled}
use Rattle.htmd_law_html5.proofs.StrictSteps.{end_filled}
use Rattle.htmd_law_html5.proofs.StrictSteps.{plain_text, text_run, comment_run, simple_parts, text_ending}
use Rattle.htmd_law_html5.proofs.StrictSteps.{not_implied, unambiguous_after, unambiguous_part, section_plain}
use Rattle.htmd_law_html5.proofs.StrictSteps.{part_markup}
use Rattle.htmd_html5_tokens.specs.Tokens as tokens
use Rattle.htmd_html5_tokens.specs.NextToken as next

table_plain : (z : Bool) → holds_text_alone z (codes "table") ≡ false
table_plain true = refl
table_plain false = refl

-- a tree in a table, which may be rows without the start tag of their `tbody`
abbrev SpellsPart : Bool → ValueTree → List TokenValue → Type 0
SpellsPart ends t xs = SpellsTree t xs ⊎ SpellsRows ends t xs

-- the first token is the start tag of a part of a table
abbrev BeginsPart : List ℕ → Type 0
BeginsPart s = (tag : TagValue) × (rest : List ℕ) × (next_token Normal false s ≡ read (start_tag tag) rest)
    × (is_table_part tag.name ≡ true)

module _ (z : Bool) where
  abbrev PartRun : ValueTree → Type 0
  PartRun t = (p : List ℕ) (c : Context) (last : Bool) (s rest : List ℕ)
      → ReadsTree (project z) (p ∷ c) last t s → holds_text_alone z p ≡ false
      → (is_simple_tree t || is_simple_body t) ≡ true → IsUnambiguous (s ++ rest)
      → (IsTextTree t ≡ true → Ending rest) → (last ≡ true → Ending rest)
      → Made z (SpellsPart last t) s rest

  -- ---- elements

  -- the tokens of its content
  abbrev Held : List ℕ → ValueForest → List TokenValue → Type 0
  Held n ks xs = MatchBool (is_table n) (SpellsTable ks xs) (SpellsForest ks (content_tokens n xs))

  nothing_content : (n : List ℕ) → content_tokens n [] ≡ []
  nothing_content n = test (drops_line_feed n) (λ t. rw t refl) (λ t. rw t refl)

  nothing_held : (n : List ℕ) → Held n none []
  nothing_held n = test (is_table n) (λ t. rw t refl) (λ t. rw t (nothing_content n))

  void_run : (n tag rest : List ℕ) (attributes : List AttributePair) → IsStartTag named_characters tag n attributes
      → is_void n ≡ true → is_outside n ≡ false → IsUnambiguous (tag ++ rest)
      → Made z (SpellsTree (element n attributes none)) tag rest
  void_run n tag rest attributes h v o k =
      let r = start_read tag n rest attributes h (unambiguous_in_tag (tag ++ rest) k) in
      let now = normal_content z n (void_content z n v) o in (
        start_tag (tag_named n attributes r.0) ∷ [],
        (r.0, [], [], refl, nothing_held n, rw v (refl, refl)),
        one_token z (start_tag (tag_named n attributes r.0)) tag rest (tag_filled z tag n attributes h) r.1 refl now,
      )

  -- the tokens of the content and of the end tag
  abbrev Closed : List ℕ → ValueForest → List ℕ → List ℕ → Type 0
  Closed n ks s rest = (xs : List TokenValue) × SpellsForest ks (content_tokens n xs)
      × Run z (content_in z n) s (xs ++ (end_tag (tag_named n [] false) ∷ [])) Normal rest

  abbrev HeldRun : List ℕ → ValueForest → List ℕ → List ℕ → Type 0
  HeldRun n ks s rest = (xs : List TokenValue) × Held n ks xs
      × Run z (content_in z n) s (xs ++ (end_tag (tag_named n [] false) ∷ [])) Normal rest

  -- that of no table
  held_run : (n : List ℕ) (ks : ValueForest) (s rest : List ℕ) → is_table n ≡ false → Closed n ks s rest
      → HeldRun n ks s rest
  held_run n ks s rest t r = (r.0, rw t r.1, r.2)

  normal_closed : (n : List ℕ) (ks : ValueForest) → ForestRun z ks → (c : Context) (inner end rest : List ℕ)
      → ReadsForest (project z) (n ∷ c) true ks inner → IsEndTag end n → drops_line_feed n ≡ false
      → holds_text_alone z n ≡ false → is_outside n ≡ false → is_simple ks ≡ true
      → IsUnambiguous (inner ++ (end ++ rest)) → Closed n ks (inner ++ (end ++ rest)) rest
  normal_closed n ks ih c inner end rest h g d e o i k =
      let m = unambiguous_back inner (end ++ rest) k in
      let r = end_read end n rest g m in
      let inside = ih n c true inner (end ++ rest) h e i k (inr r.1) in
      let last = one_token z (end_tag (tag_named n [] false)) end rest (end_filled z end n g) r.0 refl refl in (
        inside.0,
        rw d inside.1,
        from_content z (normal_content z n e o) (joined z inside.2 last),
      )

  raw_closed : (n : List ℕ) (ks : ValueForest) (c : Context) (inner end rest : List ℕ)
      → ReadsForest (project z) (n ∷ c) true ks inner → IsEndTag end n → holds_text_alone z n ≡ true
      → is_set_aside n ≡ false → IsUnambiguousAt (content_place n) (inner ++ (end ++ rest))
      → Closed n ks (inner ++ (end ++ rest)) rest
  raw_closed n ks c inner end rest h g e a k =
      elim (raw_children z n c true ks inner h e) [
        | inl w ↦ rw (w.0, w.1) ([], nothing_content n, from_content z (found.1).content last)
        | inr w ↦
            let m = unambiguous_before (content_place n) inner (end ++ rest)
            (inr (end_read end n rest g (unambiguous_back inner (end ++ rest) k)).1) k in
            rw w.1 (
              tokens.text w.0 ∷ [],
              rw (raw_keeps z n e a) (tokens.text w.0 ∷ [], [], refl, refl, refl),
              from_content z (found.1).content (onward (tokens.text w.0) (end ++ rest)
                  (raw_text_next z n found.0 inner w.0 (end ++ rest) found.1 e w.2 w.3 stops w.4 m) refl
                  (shorter z inner (end ++ rest) w.2) last),
            )
      ]
    where
      found : (element : RawElement) × IsRaw z n element
      found = raw_content z n e a

      stops : ends_text z n (end ++ rest) ≡ true
      stops = end_tag_stops (project z) [] end n rest g

      last : Run z (Raw found.0) (end ++ rest) (end_tag (tag_named n [] false) ∷ []) Normal rest
      last =
          let r = raw_end_read end n rest g (unambiguous_back inner (end ++ rest) k) in
          onward (end_tag (tag_named n [] false)) rest
          (raw_end_next z n found.0 (end ++ rest) r.0 found.1 e stops r.1 ∙ r.2) refl
          (shorter z end rest (end_filled z end n g)) here

  -- ---- elements that drop a line feed

  after_piece : (b : ℕ) (w r x : List ℕ) → IsUnambiguous ((b ∷ (w ++ r)) ++ x)
      → IsUnambiguousAt in_tag (r ++ x)
  after_piece b w r x k =
      unambiguous_back (b ∷ w) (r ++ x) (subst IsUnambiguous (ap (λ (y : List ℕ). b ∷ y) (append_assoc w r x)) k)

  abbrev Tail : ValueForest → Type 0
  Tail none = Unit {0}
  Tail (more t ts) = ForestRun z ts

  abbrev begins_feed : ValueForest → Bool
  begins_feed (more (text u) ts) = first_is 10 u
  begins_feed _ = false

  -- tokens that begin with no line feed are as they are
  feed_kept : (ts : ValueForest) (xs : List TokenValue) → SpellsForest ts xs → begins_feed ts ≡ false →
      after_feed xs ≡ xs
  feed_kept none xs h e = rw h refl
  feed_kept (more (text []) ts) xs h e = rw (h.2, h.3) refl
  feed_kept (more (text (b ∷ u)) ts) xs h e = rw (h.2, h.3) (rw e refl)
  feed_kept (more (comment u) ts) xs h e = rw (h.2, h.3) refl
  feed_kept (more (element n attributes ks) ts) xs h e = rw (h.2, (h.3).3) refl
  feed_kept (more _ ts) xs h e = absurd (h.3)

  no_feed_there : (s rest : List ℕ) → Ending (s ++ rest) → first_is 10 s ≡ false
  no_feed_there [] rest e = refl
  no_feed_there (b ∷ s) rest (inl e) = absurd (cc)
  no_feed_there (b ∷ s) rest (inr e) =
      rw (eqb-true b 60 (and_parts (b == 60) (next.is_markup (s ++ rest)) e).0) refl

  begins_no_feed : (ts : ValueForest) (p : List ℕ) (c : Context) (last : Bool) (s rest : List ℕ)
      → ReadsForest (project z) (p ∷ c) last ts s → holds_text_alone z p ≡ false → is_simple ts ≡ true
      → IsUnambiguous (s ++ rest) → Ending rest → after_line_feed [] s ≡ s → begins_feed ts ≡ false
  begins_no_feed (more (text u) ts) p c last s rest h e o k st a =
      let q = ap (λ (y : List ℕ). y ++ rest) h.2 ∙ append_assoc h.0 h.1 rest in
      let i = subst IsUnambiguous q k in
      let follows = text_ending z (text u) ts p c last h.1 rest refl h.3 h.5 (unambiguous_back h.0 (h.1 ++ rest) i) st
      in
      let this = unambiguous_before outside h.0 (h.1 ++ rest) follows i in
      let d : decode named_characters 0 h.0 ≡ Some u = rw (plain_text z p e) at (h.4).2 in
      kept_begins h.0 u h.1 this.line_feeds d (no_feed_there h.1 rest follows)
      (ap (after_line_feed []) (sym h.2) ∙ a ∙ h.2)
  begins_no_feed _ p c last s rest h e o k st a = refl

  -- what comes after such a start tag, with the end tag
  abbrev Fed : List ℕ → ValueForest → List ℕ → List ℕ → List ℕ → Type 0
  Fed n ks s x rest = (xs : List TokenValue) × SpellsForest ks (after_feed xs) × Run z Normal (s ++ x) xs Normal x

  no_line_dropped : (n : List ℕ) (ks : ValueForest) → ForestRun z ks → (c : Context) (s x rest : List ℕ)
      → ReadsForest (project z) (n ∷ c) true ks s → after_line_feed [] s ≡ s → holds_text_alone z n ≡ false
      → is_simple ks ≡ true → IsUnambiguous (s ++ x) → Ending x → Fed n ks s x rest
  no_line_dropped n ks ih c s x rest h a e o k st =
      let r = ih n c true s x h e o k st in
      let same = feed_kept ks r.0 r.1 (begins_no_feed ks n c true s x h e o k st a) in
      (r.0, subst (SpellsForest ks) (sym same) r.1, r.2)

  line_alone : (n : List ℕ) (ks : ValueForest) → ForestRun z ks → (c : Context) (b : ℕ) (w r x rest : List ℕ)
      → Feed b w r → ReadsForest (project z) (n ∷ c) true ks r → holds_text_alone z n ≡ false
      → is_simple ks ≡ true → IsUnambiguous ((b ∷ (w ++ r)) ++ x) → Ending (r ++ x) → Ending x
      → Fed n ks (b ∷ (w ++ r)) x rest
  line_alone n ks ih c b w r x rest f h e o k begins st =
      let front : List ℕ = b ∷ (w ++ []) in
      let q : (b ∷ (w ++ r)) ++ x ≡ front ++ (r ++ x) =
      ap (λ (y : List ℕ). b ∷ y) (append_assoc w r x ∙ ap (λ (y : List ℕ). y ++ (r ++ x))
      (sym (append-nil w))) in
      let i = subst IsUnambiguous q k in
      let t = feed_text b w r [] r [] f refl refl refl in
      let token = text_token_read front (10 ∷ []) (r ++ x) (λ y. (let z = y in cc)) t.0 t.1 begins i in
      let inside = ih n c true r x h e o (unambiguous_past front (r ++ x) t.1 begins i) st in (
        tokens.text (10 ∷ []) ∷ inside.0,
        inside.1,
        from_text z q (onward (tokens.text (10 ∷ [])) (r ++ x) token refl
            (shorter z front (r ++ x) (λ y. (let z = y in cc))) inside.2),
      )

  line_dropped : (n : List ℕ) (ks : ValueForest) → ForestRun z ks → Tail ks → (c : Context) (b : ℕ)
      (w r x rest : List ℕ) → Feed b w r → ReadsForest (project z) (n ∷ c) true ks r
      → holds_text_alone z n ≡ false → is_simple ks ≡ true → IsUnambiguous ((b ∷ (w ++ r)) ++ x)
      → Ending x → Fed n ks (b ∷ (w ++ r)) x rest
  line_dropped n none ih tail c b w r x rest f h e o k st = line_alone n none ih c b w r x rest f h e o k (rw h st) st
  line_dropped n (more (document ks) ts) ih tail c b w r x rest f h e o k st = absurd (h.4)
  line_dropped n (more doctype ts) ih tail c b w r x rest f h e o k st = absurd (h.4)
  line_dropped n (more (text u) ts) ih tail c b w r x rest f h e o k st =
      let front : List ℕ = b ∷ (w ++ h.0) in
      let q : (b ∷ (w ++ r)) ++ x ≡ front ++ (h.1 ++ x) =
      ap (λ (y : List ℕ). b ∷ y) (ap (λ (y : List ℕ). (w ++ y) ++ x) h.2
      ∙ ap (λ (y : List ℕ). y ++ x) (sym (append_assoc w h.0 h.1)) ∙ append_assoc (w ++ h.0) h.1 x) in
      let i = subst IsUnambiguous q k in
      let follows = text_ending z (text u) ts n c true h.1 x refl h.3 h.5 (unambiguous_back front (h.1 ++ x) i) st in
      let d : decode named_characters 0 h.0 ≡ Some u = rw (plain_text z n e) at (h.4).2 in
      let same : (y : List ℕ) → begins_markup y ≡ ends_text z n y = λ y. rw e refl in
      let l : up_to begins_markup h.0 ≡ h.0 = stop_same begins_markup (ends_text z n) same h.0 ∙ (h.4).1 in
      let t = feed_text b w r h.0 h.1 u f h.2 d l in
      let token = text_token_read front (10 ∷ u) (h.1 ++ x) (λ y. (let z = y in cc)) t.0 t.1 follows i in
      let others = tail n c true h.1 x h.5 e o (unambiguous_past front (h.1 ++ x) t.1 follows i) st in (
        tokens.text (10 ∷ u) ∷ others.0,
        with_first u ts others.0 (h.4).0 others.1,
        from_text z q (onward (tokens.text (10 ∷ u)) (h.1 ++ x) token refl
            (shorter z front (h.1 ++ x) (λ y. (let z = y in cc))) others.2),
      )
    where
      with_first : (u : List ℕ) (ts : ValueForest) (xs : List TokenValue) → u ≢ [] → SpellsForest ts xs
          → SpellsForest (more (text u) ts) (with_text_token u xs)
      with_first [] ts xs f h = absurd (f refl)
      with_first (b ∷ u) ts xs f h = (tokens.text (b ∷ u) ∷ [], xs, refl, refl, h)
  line_dropped n (more t ts) ih tail c b w r x rest f h e o k st =
      line_alone n (more t ts) ih c b w r x rest f h e o k
      (text_ending z (text []) (more t ts) n c true r x refl tt h (after_piece b w r x k) st) st

  feed_closed : (n : List ℕ) (ks : ValueForest) → ForestRun z ks → Tail ks → (c : Context)
      (inner end rest : List ℕ) → ReadsForest (project z) (n ∷ c) true ks (after_line_feed [] inner)
      → IsEndTag end n → drops_line_feed n ≡ true → holds_text_alone z n ≡ false → is_outside n ≡ false
      → is_simple ks ≡ true → IsUnambiguous (inner ++ (end ++ rest)) → Closed n ks (inner ++ (end ++ rest)) rest
  feed_closed n ks ih tail c inner end rest h g d e o i k =
      let f = fed inner h k in (
        f.0,
        rw d f.1,
        from_content z (normal_content z n e o) (joined z f.2
            (one_token z (end_tag (tag_named n [] false)) end rest (end_filled z end n g) r.0 refl refl)),
      )
    where
      r : (next_token Normal false (end ++ rest) ≡ read (end_tag (tag_named n [] false)) rest)
          × (next.begins_markup (end ++ rest) ≡ true) × ((t : List ℕ) × (end ++ rest ≡ 60 ∷ t))
      r = end_read end n rest g (unambiguous_back inner (end ++ rest) k)

      fed : (inner : List ℕ) → ReadsForest (project z) (n ∷ c) true ks (after_line_feed [] inner)
          → IsUnambiguous (inner ++ (end ++ rest)) → Fed n ks inner (end ++ rest) rest
      fed [] h k = no_line_dropped n ks ih c [] (end ++ rest) rest h refl e i k (inr r.1)
      fed (b ∷ s) h k = elim (feed_case b s) [
        | inl a ↦ no_line_dropped n ks ih c (b ∷ s) (end ++ rest) rest
            (subst (ReadsForest (project z) (n ∷ c) true ks) a h) a e i k (inr r.1)
        | inr a ↦
            let cr = not-true (b == 13) (and_parts (not (b == 13)) (lacks 13 (s ++ (end ++ rest))) k.line_feeds).0 in
            let f = dropped_feed b a.0 s cr a.1 in
            let whole_ : b ∷ s ≡ b ∷ (f.0 ++ drop a.0 s) = ap (λ (y : List ℕ). b ∷ y) f.1 in
            subst (λ y. Fed n ks y (end ++ rest) rest) (sym whole_)
            (line_dropped n ks ih tail c b f.0 (drop a.0 s) (end ++ rest) rest f.2
            (subst (ReadsForest (project z) (n ∷ c) true ks) a.2 h) e i
            (subst (λ y. IsUnambiguous (y ++ (end ++ rest))) whole_ k) (inr r.1))
      ]

  closed_run : (n tag inner end rest : List ℕ) (attributes : List AttributePair) (ks : ValueForest)
      → IsStartTag named_characters tag n attributes → is_void n ≡ false
      → IsUnambiguous (tag ++ (inner ++ (end ++ rest))) → HeldRun n ks (inner ++ (end ++ rest)) rest
      → Made z (SpellsTree (element n attributes ks)) (tag ++ (inner ++ end)) rest
  closed_run n tag inner end rest attributes ks h v k w =
      let r = start_read tag n (inner ++ (end ++ rest)) attributes h
      (unambiguous_in_tag (tag ++ (inner ++ (end ++ rest))) k) in
      let no_slash : r.0 ≡ false = test r.0 (λ t. absurd (let f = sym (r.2 t) ∙ v in cc)) (λ t. t) in
      let q : (tag ++ (inner ++ end)) ++ rest ≡ tag ++ (inner ++ (end ++ rest)) =
      append_assoc tag (inner ++ end) rest ∙ ap (λ (y : List ℕ). tag ++ y) (append_assoc inner end rest) in (
        start_tag (tag_named n attributes r.0) ∷ (w.0 ++ (end_tag (tag_named n [] false) ∷ [])),
        (r.0, w.0, end_tag (tag_named n [] false) ∷ [], refl, w.1, rw v (no_slash, refl)),
        from_text z q (onward (start_tag (tag_named n attributes r.0)) (inner ++ (end ++ rest)) r.1 refl
            (shorter z tag (inner ++ (end ++ rest)) (tag_filled z tag n attributes h)) w.2),
      )

  -- what a table holds, and its end tag
  table_closed : (n : List ℕ) (ks : ValueForest) → TableRun z ks → (c : Context) (inner end rest : List ℕ)
      → is_table n ≡ true → ReadsForest (project z) (n ∷ c) true ks (content_of n inner) → IsEndTag end n
      → is_outside n ≡ false → is_simple_table ks ≡ true → IsUnambiguous (inner ++ (end ++ rest))
      → HeldRun n ks (inner ++ (end ++ rest)) rest
  table_closed n ks tables c inner end rest t h g o i k =
      let name : n ≡ codes "table" = one_name (codes "table") n t in
      let kept : drops_line_feed n ≡ false = ap drops_line_feed name in
      let alone : holds_text_alone z n ≡ false = ap (holds_text_alone z) name ∙ table_plain z in
      let m = unambiguous_back inner (end ++ rest) k in
      let r = end_read end n rest g m in
      let inside = tables n c true inner (end ++ rest)
      (subst (ReadsForest (project z) (n ∷ c) true ks) (content_plain n inner kept) h) alone i k (inr r.1) in
      let last = one_token z (end_tag (tag_named n [] false)) end rest (end_filled z end n g) r.0 refl refl in (
        inside.0,
        rw t inside.1,
        from_content z (normal_content z n alone o) (joined z inside.2 last),
      )

  -- an element with its tags, by what runs through its content
  tagged_run : (n : List ℕ) (attributes : List AttributePair) (ks : ValueForest) → ForestRun z ks → Tail ks
      → TableRun z ks → (p : List ℕ) (c : Context) (tag inner end rest : List ℕ)
      → IsStartTag named_characters tag n attributes → is_void n ≡ false → is_set_aside n ≡ false
      → is_outside n ≡ false → (if is_table n then is_simple_table ks else is_simple ks) ≡ true
      → ReadsForest (project z) (n ∷ (p ∷ c)) true ks (content_of n inner) → IsEndTag end n
      → IsUnambiguous ((tag ++ (inner ++ end)) ++ rest)
      → Made z (SpellsTree (element n attributes ks)) (tag ++ (inner ++ end)) rest
  tagged_run n attributes ks ih tail tables p c tag inner end rest start v aside within simple h g k =
      let q : (tag ++ (inner ++ end)) ++ rest ≡ tag ++ (inner ++ (end ++ rest)) =
      append_assoc tag (inner ++ end) rest ∙ ap (λ (y : List ℕ). tag ++ y) (append_assoc inner end rest) in
      let i : IsUnambiguous (tag ++ (inner ++ (end ++ rest))) = subst IsUnambiguous q k in
      let content = unambiguous_inside tag n (inner ++ (end ++ rest)) attributes start i in
      let j = unambiguous_outside n (inner ++ (end ++ rest)) content in
      closed_run n tag inner end rest attributes ks start v i (test (is_table n)
      (λ t. table_closed n ks tables (p ∷ c) inner end rest t h g within (rw t at simple) j)
      (λ t. let o = rw t at simple in
      held_run n ks (inner ++ (end ++ rest)) rest t (test (drops_line_feed n)
      (λ d. feed_closed n ks ih tail (p ∷ c) inner end rest (rw d at h) g d (pre_plain z n d aside) within o j)
      (λ d. let inside = subst (ReadsForest (project z) (n ∷ (p ∷ c)) true ks) (content_plain n inner d) h in
      test (holds_text_alone z n) (λ x. raw_closed n ks (p ∷ c) inner end rest inside g x aside content)
      (λ x. normal_closed n ks ih (p ∷ c) inner end rest inside g d x within o j)))))

  element_run : (n : List ℕ) (attributes : List AttributePair) (ks : ValueForest) → ForestRun z ks → Tail ks
      → TableRun z ks → TreeRun z (element n attributes ks)
  element_run n attributes ks ih tail tables p c last s rest h e o k st =
      let parts = simple_parts z n attributes ks o in
      let aside = parts.0 in
      let outside = (allowed_parts z (p ∷ c) n h.0).0 in
      elim h.2 [
        | inl w ↦
            test (is_void n)
            (λ v. let m = rw v at w.5 in
            let q : s ≡ w.0 =
            w.3 ∙ ap (λ (y : List ℕ). w.0 ++ (y ++ w.2)) m.0 ∙ ap (λ (y : List ℕ). w.0 ++ y) m.1
            ∙ append-nil w.0 in
            let i : IsUnambiguous (w.0 ++ rest) = subst (λ (y : List ℕ). IsUnambiguous (y ++ rest)) q k in
            rw (q, m.2) (void_run n w.0 rest attributes w.4 v outside i))
            (λ v. let m = rw v at w.5 in
            rw w.3 (tagged_run n attributes ks ih tail tables p c w.0 w.1 w.2 rest w.4 v aside outside parts.2 m.0 m.1
            (subst (λ (y : List ℕ). IsUnambiguous (y ++ rest)) w.3 k)))
        | inr w ↦ absurd (not_implied z n ks parts.1 w.3 w.5)
      ]

  -- rows in a table, with the tags of their `tbody` or without
  body_run : (attributes : List AttributePair) (ks : ValueForest) → ForestRun z ks → Tail ks → TableRun z ks
      → (p : List ℕ) (c : Context) (last : Bool) (s rest : List ℕ)
      → ReadsTree (project z) (p ∷ c) last (element (codes "tbody") attributes ks) s → is_simple ks ≡ true
      → IsUnambiguous (s ++ rest) → (last ≡ true → Ending rest)
      → Made z (SpellsPart last (element (codes "tbody") attributes ks)) s rest
  unfolding is_void
  body_run attributes ks ih tail tables p c last s rest h o k st =
      elim h.2 [
        | inl w ↦
            let m = w.5 in
            let r = tagged_run (codes "tbody") attributes ks ih tail tables p c w.0 w.1 w.2 rest w.4 refl refl refl o
            m.0 m.1 (subst (λ (y : List ℕ). IsUnambiguous (y ++ rest)) w.3 k) in
            rw w.3 (r.0, inl r.1, r.2)
        | inr w ↦
            let q : s ++ rest ≡ w.0 ++ (w.1 ++ rest) =
            ap (λ (y : List ℕ). y ++ rest) w.2 ∙ append_assoc w.0 w.1 rest in
            let i : IsUnambiguous (w.0 ++ (w.1 ++ rest)) = subst IsUnambiguous q k in
            elim w.7 [
              | inl g ↦
                  let r = end_read w.1 (codes "tbody") rest g (unambiguous_back w.0 (w.1 ++ rest) i) in
                  let inside = ih (codes "tbody") (p ∷ c) true w.0 (w.1 ++ rest) w.6 (section_plain z) o i
                  (inr r.1) in
                  let end : List TokenValue = end_tag (tag_named (codes "tbody") [] false) ∷ [] in
                  let last = one_token z (end_tag (tag_named (codes "tbody") [] false)) w.1 rest
                  (end_filled z w.1 (codes "tbody") g) r.0 refl refl in (
                    inside.0 ++ end,
                    inr (inside.0, end, refl, refl, w.4, w.5, inside.1, inr refl),
                    from_text z q (joined z inside.2 last),
                  )
              | inr g ↦
                  let i2 : IsUnambiguous (w.0 ++ rest) =
                  subst (λ (y : List ℕ). IsUnambiguous (w.0 ++ (y ++ rest))) g.0 i in
                  let inside = ih (codes "tbody") (p ∷ c) true w.0 rest w.6 (section_plain z) o i2 (st g.1) in (
                    inside.0,
                    inr (inside.0, [], sym (append-nil inside.0), refl, w.4, w.5, inside.1, inl (refl, g.1)),
                    from_text z (q ∙ ap (λ (y : List ℕ). w.0 ++ (y ++ rest)) g.0) inside.2,
                  )
            ]
      ]

  -- ---- one tree after another

  next_run : (t : ValueTree) (ts : ValueForest) → TreeRun z t → ForestRun z ts → ForestRun z (more t ts)
  next_run t ts one all p c last s rest h e o k st =
      let b = and_parts (is_simple_tree t) (is_simple ts) o in
      let q = ap (λ (y : List ℕ). y ++ rest) h.2 ∙ append_assoc h.0 h.1 rest in
      let i = subst IsUnambiguous q k in
      let follows : IsTextTree t ≡ true → Ending (h.1 ++ rest) =
      λ f. text_ending z t ts p c last h.1 rest f h.3 h.5 (unambiguous_back h.0 (h.1 ++ rest) i) st in
      let j = unambiguous_after z t p c _ h.0 (h.1 ++ rest) h.4 e b.0 follows i in
      let first = one p c _ h.0 (h.1 ++ rest) h.4 e b.0 i follows in
      let others = all p c last h.1 rest h.5 e b.1 j st in (
        first.0 ++ others.0,
        (first.0, others.0, refl, first.1, others.1),
        from_text z q (joined z first.2 others.2),
      )

  -- ---- what a table holds

  element_part : (n : List ℕ) (attributes : List AttributePair) (ks : ValueForest) → ForestRun z ks → Tail ks
      → TableRun z ks → PartRun (element n attributes ks)
  element_part n attributes ks ih tail tables p c last s rest h e o k st ends =
      test (is_simple_tree (element n attributes ks))
      (λ t. let r = element_run n attributes ks ih tail tables p c last s rest h e t k st in (r.0, inl r.1, r.2))
      (λ t. let b = and_parts (may_be_implied n ks) (is_simple ks) (rw t at o) in
      let name : n ≡ codes "tbody" =
      one_name (codes "tbody") n (and_parts (is_tbody n) (begins_with_row ks) b.0).0 in
      subst (λ (m : List ℕ). Made z (SpellsPart last (element m attributes ks)) s rest) (sym name)
      (body_run attributes ks ih tail tables p c last s rest
      (subst (λ (m : List ℕ). ReadsTree (project z) (p ∷ c) last (element m attributes ks) s) name h) b.1 k ends))

  -- a text or a comment
  leaf_part : (t : ValueTree) (last : Bool) (s rest : List ℕ) → Made z (SpellsTree t) s rest
      → Made z (SpellsPart last t) s rest
  leaf_part t last s rest r = (r.0, inl r.1, r.2)

  -- the tag of a part of the table is a token
  part_token : (u : ValueTree) (us : ValueForest) (p : List ℕ) (c : Context) (l : Bool) (s rest : List ℕ)
      → ReadsForest (project z) (p ∷ c) l (more u us) s → holds_text_alone z p ≡ false
      → is_table_part (tag_name_at s) ≡ true → IsUnambiguousAt in_tag (s ++ rest) → BeginsPart (s ++ rest)
  part_token (text u) us p c l s rest h e q k =
      let st : Stops z p h.1 = subst (Stops z p) (append-nil h.1)
      (stops_after (project z) p (text u) us c l h.1 [] h.3 h.5 (λ _. inl refl) refl) in
      let m = run_not_stop z p h.0 h.1 (decoded_full (project z) [] p h.0 u (h.4).2 (h.4).0) (h.4).1 st in
      let none_there : begins_markup (h.0 ++ h.1) ≡ false = rw e at m in
      let there : is_table_part (tag_name_at (h.0 ++ h.1)) ≡ true =
      ap (λ (y : List ℕ). is_table_part (tag_name_at y)) (sym h.2) ∙ q in
      absurd (let w = rw ((no_tag (h.0 ++ h.1) none_there).0) at there in cc)
  part_token (comment u) us p c l s rest h e q k =
      let there : is_table_part (tag_name_at (h.0 ++ h.1)) ≡ true =
      ap (λ (y : List ℕ). is_table_part (tag_name_at y)) (sym h.2) ∙ q in
      absurd (let w = rw ((h.4).0).2 at there in cc)
  part_token (element n attributes ks) us p c l s rest h e q k = go (h.4).2
    where
      named : (tag x m : List ℕ) (other : List AttributePair) → IsStartTag named_characters tag m other
          → s ≡ tag ++ x
          → is_table_part m ≡ true
      named tag x m other start f =
          ap is_table_part (sym (ap tag_name_at f ∙ tag_starts (project z) [] tag m x other start)) ∙ q

      go : Inside (project z) (p ∷ c) (may_end_rows l us h.1) n attributes ks h.0 → BeginsPart (s ++ rest)
      go (inl w) =
          let x : List ℕ = (w.1 ++ w.2) ++ h.1 in
          let f : s ≡ w.0 ++ x =
          h.2 ∙ (ap (λ (y : List ℕ). y ++ h.1) w.3 ∙ append_assoc w.0 (w.1 ++ w.2) h.1) in
          let whole_ : s ++ rest ≡ w.0 ++ (x ++ rest) =
          ap (λ (y : List ℕ). y ++ rest) f ∙ append_assoc w.0 x rest in
          let r = start_read w.0 n (x ++ rest) attributes w.4 (subst (IsUnambiguousAt in_tag) whole_ k) in (
            tag_named n attributes r.0,
            x ++ rest,
            ap (next_token Normal false) whole_ ∙ r.1,
            named w.0 x n attributes
                w.4 f,
          )
      go (inr w) =
          let r = row_start (project z) ks (n ∷ p ∷ c) true w.0 w.6 w.5 in
          let f : s ≡ r.0 ++ ((r.1 ++ w.1) ++ h.1) =
          h.2 ∙ (ap (λ (y : List ℕ). y ++ h.1)
          (w.2 ∙ (ap (λ (y : List ℕ). y ++ w.1) r.3 ∙ append_assoc r.0 r.1 w.1))
          ∙ append_assoc r.0 (r.1 ++ w.1) h.1) in
          absurd (let w = named r.0 ((r.1 ++ w.1) ++ h.1) (codes "tr") r.2 r.4 f in cc)
  part_token _ us p c l s rest h e q k = absurd (h.4)

  token_first : {s left : List ℕ} {after : ContentModel} {xs : List TokenValue} → Run z Normal s xs after left
      → BeginsPart s → end_rows xs ≡ true
  token_first here b = refl
  token_first (onward token rest e f l r) b =
      let same : token ≡ start_tag b.0 = ap (λ (r : Read). r.token) (sym e ∙ b.2) in rw (same, b.3) refl

  -- where a section may end without its end tag, so do its tokens
  rows_end : (ts : ValueForest) (p : List ℕ) (c : Context) (last : Bool) (s rest : List ℕ) (xs : List TokenValue)
      → ReadsForest (project z) (p ∷ c) last ts s → holds_text_alone z p ≡ false → IsUnambiguous (s ++ rest)
      → SpellsTable ts xs → Run z Normal (s ++ rest) xs Normal rest → may_end_rows last ts s ≡ true
      → end_rows xs ≡ true
  rows_end none p c last s rest xs h e k spelled run q = rw spelled refl
  rows_end (more u us) p c last s rest xs h e k spelled run q =
      token_first run (part_token u us p c last s rest h e q (unambiguous_in_tag (s ++ rest) k))

  rows_ending : (ts : ValueForest) (p : List ℕ) (c : Context) (last : Bool) (s rest : List ℕ)
      → ReadsForest (project z) (p ∷ c) last ts s → Ending rest → may_end_rows last ts s ≡ true
      → Ending (s ++ rest)
  rows_ending none p c last s rest h st q = rw h st
  rows_ending (more u us) p c last s rest h st q = inr (part_markup s rest q)

  -- a section that ends so
  part_kept : (t : ValueTree) (a b : Bool) (xs : List TokenValue) → (a ≡ true → b ≡ true) → SpellsPart a t xs
      → SpellsPart b t xs
  part_kept t a b xs i (inl k) = inl k
  part_kept (element n attributes ks) a b xs i (inr k) =
      inr (k.0, k.1, k.2, k.3, k.4, k.5, k.6, elim k.7 [ inl e ↦ inl (e.0, i e.1) | inr e ↦ inr e ])
  part_kept _ a b xs i (inr k) = absurd k

  part_next : (t : ValueTree) (ts : ValueForest) → PartRun t → TableRun z ts → TableRun z (more t ts)
  part_next t ts one all p c last s rest h e o k st =
      let b = and_parts (is_simple_tree t || is_simple_body t) (is_simple_table ts) o in
      let q = ap (λ (y : List ℕ). y ++ rest) h.2 ∙ append_assoc h.0 h.1 rest in
      let i = subst IsUnambiguous q k in
      let may : Bool = may_end_rows last ts h.1 in
      let follows : IsTextTree t ≡ true → Ending (h.1 ++ rest) =
      λ f. text_ending z t ts p c last h.1 rest f h.3 h.5 (unambiguous_back h.0 (h.1 ++ rest) i) st in
      let ends : may ≡ true → Ending (h.1 ++ rest) = rows_ending ts p c last h.1 rest h.5 st in
      let j = unambiguous_part z t p c may h.0 (h.1 ++ rest) h.4 e b.0 follows ends i in
      let first = one p c may h.0 (h.1 ++ rest) h.4 e b.0 i follows ends in
      let others = all p c last h.1 rest h.5 e b.1 j st in (
        first.0 ++ others.0,
        (
          first.0,
          others.0,
          refl,
          part_kept t may (end_rows others.0) first.0
              (rows_end ts p c last h.1 rest others.0 h.5 e j others.1 others.2) first.1,
          others.1,
        ),
        from_text z q (joined z first.2 others.2),
      )

  mutual
    tree_run : (t : ValueTree) → TreeRun z t
    tree_run (text u) p c last s rest h e o k st = text_run z u p c last s rest h e o k st
    tree_run (comment u) p c last s rest h e o k st = comment_run z u p c last s rest h e o k st
    tree_run (element n attributes ks) p c last s rest h e o k st =
        element_run n attributes ks (forest_run ks) (tail_run ks) (table_run ks) p c last s rest h e o k st
    tree_run _ p c last s rest h e o k st = absurd h

    tail_run : (ts : ValueForest) → Tail ts
    tail_run none = tt
    tail_run (more t ts) = forest_run ts

    forest_run : (ts : ValueForest) → ForestRun z ts
    forest_run none p c last s rest h e o k st = ([], refl, rw h here)
    forest_run (more t ts) p c last s rest h e o k st =
        next_run t ts (tree_run t) (forest_run ts) p c last s rest h e o k st

    part_run : (t : ValueTree) → PartRun t
    part_run (text u) p c last s rest h e o k st ends =
        leaf_part (text u) last s rest (text_run z u p c last s rest h e refl k st)
    part_run (comment u) p c last s rest h e o k st ends =
        leaf_part (comment u) last s rest (comment_run z u p c last s rest h e refl k st)
    part_run (element n attributes ks) p c last s rest h e o k st ends =
        element_part n attributes ks (forest_run ks) (tail_run ks) (table_run ks) p c last s rest h e o k st ends
    part_run _ p c last s rest h e o k st ends = absurd h

    table_run : (ts : ValueForest) → TableRun z ts
    table_run none p c last s rest h e o k st = ([], refl, rw h here)
    table_run (more t ts) p c last s rest h e o k st =
        part_next t ts (part_run t) (table_run ts) p c last s rest h e o k st

body_plain : (z : Bool) → holds_text_alone z (codes "body") ≡ false
body_plain true = refl
body_plain false = refl

-- the tokens that are read of a text
pub content_read : (z : Bool) (s : List ℕ) (content : ValueForest) → IsUnambiguous s → is_simple content ≡ true
    → reads (project z) below_body s content
    → (xs : List TokenValue) × SpellsForest content xs × Run z Normal s xs Normal []
content_read z s content k o h =
    let e = append-nil s in
    let r = forest_run z content (codes "body") above_body true s [] h (body_plain z) o
    (subst IsUnambiguous (sym e) k) (inl refl) in
    (r.0, r.1, from_text z (sym e) r.2)

pub tokens_same : TokensAgree
tokens_same z s content k o h =
    let r = content_read z s content k o h in
    subst (SpellsForest content) (sym (all_read z (length s) r.2 refl refl (omega arith))) r.1
