-- What shows of a line with blocks behind it: what shows of the line, its end, and what shows of the blocks.
use Rattle.std.proofs.Common.{◌≡◌, ℕ, suc, ◌+◌, Bool, true, false, ◌&&◌, ◌||◌, List, [], ◌∷◌}
use Rattle.std.proofs.Common.{◌++◌, refl, sym, ap, ◌∙◌, arith, codes, subst, Option, Some, None}
use Rattle.std.proofs.Common.{encode_utf8_all, filter, ◌⊎◌, inl, inr, ⊎_elim}
use Rattle.std.proofs.Common.{◌≤◌, length}
use Rattle.std.specs.Prelude.{fold, nat_le}
use Rattle.std.specs.List.{list_any}
use Rattle.std.specs.Str.{chars, IsUtf8}
use Rattle.std.proofs.lemmas.Bool.{and_parts, and_from}
use Rattle.std.proofs.lemmas.List.Sums.{fold-append}
use Rattle.std.proofs.lemmas.List.Elements.{filter-append}
use Rattle.std.proofs.lemmas.List.{length-append}
use Rattle.std.proofs.lemmas.Str.{chars-append, encodes-append, IsUtf8-append, IsUtf8-from_is_utf8}
use Rattle.htmd_lexical.specs.CharacterClasses.{is_empty}
use Rattle.htmd_lexical.specs.Characters.{line_feed}
use Rattle.htmd_lexical.specs.AttributePairs.{AttributePair}
use Rattle.htmd_values.specs.ValueTrees as value
use Rattle.htmd_nodes.specs.NumberedTrees.{NumberedTree, NumberedForest, value_forest}
use Rattle.htmd_nodes.specs.NumberedTrees as page
use Rattle.htmd_document.specs.Documents.{text, code, formatted, link, image, anchor, line_break, task}
use Rattle.htmd_document.specs.Documents.{Inlines, no_inlines, inline}
use Rattle.htmd_document.specs.Formats.{Format}
use Rattle.htmd_document.specs.NormalInlines.{are_normal}
use Rattle.htmd_document_of_tree.specs.Limits.{characters, left_after, left_after_all}
use Rattle.htmd_document_of_tree.specs.Limits.{Written, written, written_all, with_text}
use Rattle.htmd_flow.specs.Flows.{node_of}
use Rattle.htmd_flow.specs.Levels.{list_of}
use Rattle.htmd_flow.specs.Paragraphs.{Writing, fed, fed_all, after_character}
use Rattle.htmd_flow.specs.Parts.{Part, run}
use Rattle.htmd_flow.specs.Parts as part
use Rattle.htmd_shown.specs.declared.role.Role.TheVariants as role
use Rattle.htmd_shown.specs.Facts.{made}
use Rattle.htmd_shown.specs.Kinds.{has}
use Rattle.htmd_shown.specs.Roles.{is_paragraph, is_item}
use Rattle.htmd_shown.specs.ShownTexts.{is_shown, shown_text}
use Rattle.htmd_shown.specs.SimpleTrees.{Simple, Simples, none, more}
use Rattle.htmd_shown.specs.SimpleTrees as simple
use Rattle.htmd_law_rendering.specs.SpelledTrees as spelled
use Rattle.htmd_law_rendering.specs.SpelledTrees.{SpelledForest, value_forest as forest_of}
use Rattle.htmd_law_rendering.specs.RenderedTrees.{line_end, format_name, encoded_address, pairs_of_image}
use Rattle.htmd_law_rendering.specs.RenderedTrees.{pairs_of_link, pairs_of_format}
use Rattle.htmd_law_returning.specs.PageFormats.{format_shows, line_shows}
use Rattle.htmd_law_returning.proofs.CostLemmas.{AllSpend, IsLess, all-less}
use Rattle.htmd_law_returning.proofs.ReadyLemmas.{here, parts_of, text-parts, none-parts}
use Rattle.htmd_law_returning.proofs.HeldLemmas.{are_held}
use Rattle.htmd_law_returning.proofs.FormatLemmas.{format_role, format-inline, format-unbroken}
use Rattle.htmd_law_returning.proofs.InlineLemmas.{line-end-utf8, line-end-text}
use Rattle.htmd_law_returning.proofs.InlineLemmas.{line-end-characters, line-end-bytes, line-end-shown}
use Rattle.htmd_law_returning.proofs.LineEndLemmas.{ended_before, letter-ended}
use Rattle.htmd_law_returning.proofs.LineFormLemmas.{normal-one, settled-one}
use Rattle.htmd_law_returning.proofs.OrderLemmas.{is_ordered, ordered-next, ordered-less}
use Rattle.htmd_law_returning.proofs.PageLemmas.{IsElement, from-text, from-element, IsFresh, fresh-next, shown_of}
use Rattle.htmd_law_returning.proofs.PageLemmas.{line-shown, none-shown}
use Rattle.htmd_law_returning.proofs.FarLinks.{are_far, is_far}
use Rattle.htmd_law_returning.proofs.ShownInlines.{text-at, code-at, break-at, image-at, link-plain, format-at}
use Rattle.htmd_law_returning.proofs.BreakLemmas.{some-text}
use Rattle.htmd_law_returning.proofs.StandLemmas.{is_break, Stands, Lacks, beside, stands-behind, begins_filled}
use Rattle.htmd_law_returning.proofs.StandLemmas.{lacks-end, end-lacks}
use Rattle.htmd_law_returning.proofs.StartLemmas.{false-true, true-false}
use Rattle.htmd_law_returning.proofs.TextLemmas.{text-line}
use Rattle.htmd_law_returning.proofs.TreesLemmas.{spelled_line}
use Rattle.std.specs.List.{list_all}
use Rattle.std.specs.Prelude.{if◌then◌else◌}
use Rattle.htmd_shown.specs.Spaces.{is_blank_text, is_white}
use Rattle.htmd_law_returning.proofs.LocalAnchors.{local, local_all, pending, pending_all, put_if, waits}
use Rattle.htmd_law_returning.proofs.KindLemmas.{kind-local, item-inner}
use Rattle.htmd_law_returning.proofs.FlowAnchors.{text-flow}
use Rattle.htmd_law_returning.proofs.SoundNodes.{IsEnded, at_end, at_text, behind_node}
use Rattle.htmd_law_returning.proofs.ShownInlines.{place-at}
use Rattle.htmd_law_returning.proofs.TreesLemmas.{pairs_of_anchor}
use lib.Utf8.{encode}
use Rattle.std.proofs.Common.{map, not}

-- ---- a text with a line's end

line-end-whole : IsUtf8 (line_feed ∷ [])
line-end-whole = IsUtf8-from_is_utf8 (line_feed ∷ []) line-end-utf8

characters-before : (s : List ℕ) → IsUtf8 s → chars (s ++ line_feed ∷ []) ≡ chars s ++ line_feed ∷ []
characters-before s u = chars-append s (line_feed ∷ []) u ∙ ap (λ cs. chars s ++ cs) line-end-characters

text-ended : (s : List ℕ) → IsUtf8 s → shown_text s ≡ s → shown_text (s ++ line_feed ∷ [])
    ≡ s ++ line_feed ∷ []
text-ended s u h =
    let seen : List ℕ = filter is_shown (chars s) in
    ap (λ cs. encode_utf8_all (filter is_shown cs)) (characters-before s u)
    ∙ (ap encode_utf8_all (filter-append is_shown (chars s) (line_feed ∷ []))
    ∙ (encodes-append seen (line_feed ∷ [])
    ∙ (ap (λ x. encode_utf8_all seen ++ (x ++ [])) line-end-bytes ∙ ap (λ x. x ++ line_feed ∷ []) h)))

text-fed : (w : Writing) (s : List ℕ) → IsUtf8 s
    → fed w (run (s ++ line_feed ∷ []) [] false)
    ≡ fed (fed w (run s [] false)) (run (line_feed ∷ []) [] false)
text-fed w s u =
    ap (λ cs. fold (λ v c. after_character v [] false c) w cs) (characters-before s u)
    ∙ (fold-append (λ v c. after_character v [] false c) w (chars s) (line_feed ∷ [])
    ∙ ap (λ cs. fold (λ v c. after_character v [] false c)
    (fold (λ v c. after_character v [] false c) w (chars s)) cs) (sym line-end-characters))

-- white space at its end makes no text blank, nor another
blank-ended : (s : List ℕ) → IsUtf8 s → is_blank_text (s ++ line_feed ∷ []) ≡ is_blank_text s
blank-ended s u = ap (list_all is_white) (characters-before s u) ∙ last (chars s)
  where
    last : (cs : List ℕ) → list_all is_white (cs ++ line_feed ∷ []) ≡ list_all is_white cs
    last [] = refl
    last (c ∷ cs) = ap (λ b. is_white c && b) (last cs)

or-assoc : (a b c : Bool) → (a || (b || c)) ≡ ((a || b) || c)
or-assoc true b c = refl
or-assoc false b c = refl

-- a text is no longer than with more behind it
longer : (s : List ℕ) → IsUtf8 s → characters s ≤ characters (s ++ line_feed ∷ [])
longer s u =
    let e : length (chars (s ++ line_feed ∷ [])) ≡ length (chars s) + length (chars (line_feed ∷ [])) =
    ap length (chars-append s (line_feed ∷ []) u) ∙ length-append (chars s) (chars (line_feed ∷ [])) in
    omega (arith, e)

-- ---- nodes behind nodes

module _ (is_rich : Bool) (n : ℕ) where
  -- the nodes of a line, its end, and those behind it
  pub record IsExtended (us vs ts : Simples) : Type 0 where
    pub shape : IsEnded us vs ts
    pub spends : (l : Option ℕ) → left_after_all l us ≡ left_after_all (left_after_all l vs) ts
    pub said : (w : Written) → IsLess (written_all (written_all w vs) ts) (written_all w us)
    pub kinds : list_any (has is_paragraph) (list_of us)
        ≡ (list_any (has is_paragraph) (list_of vs) || list_any (has is_paragraph) (list_of ts))
    pub waits : (ids : List (List ℕ)) → pending_all ids us ≡ pending_all (pending_all ids vs) ts
    pub gives : (ids : List (List ℕ)) (w : Writing) → fed_all w (parts_of is_rich n (local_all ids us))
        ≡ fed_all (fed (fed_all w (parts_of is_rich n (local_all ids vs))) (run (line_feed ∷ []) [] false))
        (parts_of is_rich n (local_all (pending_all ids vs) ts))

  from-shown : {us vs : Simples} (xs ys ts : Simples) → xs ≡ us → ys ≡ vs → IsExtended us vs ts
      → IsExtended xs ys ts
  from-shown {us} {vs} xs ys ts e f h =
      subst (λ (zs : Simples). IsExtended zs ys ts) (sym e) (subst (λ (zs : Simples). IsExtended us zs ts) (sym f) h)

  end-extended : (ts : Simples) → IsExtended (more (simple.text (line_feed ∷ [])) ts) none ts
  unfolding chars encode
  end-extended ts = record {
    shape = at_end ts;
    spends = λ l. refl;
    said = λ w. all-less w (with_text w (line_feed ∷ [])) ts (refl, omega arith);
    kinds = refl;
    waits = λ ids. refl;
    gives = λ ids w. ap (fed_all w) (text-parts is_rich n 0 (line_feed ∷ []) (local_all ids ts))
        ∙ ap (λ ps. fed_all (fed (fed_all w ps) (run (line_feed ∷ []) [] false))
        (parts_of is_rich n (local_all ids ts)))
        (sym (none-parts is_rich n 0));
  }

  -- a text with anchors before it or not
  text-gives : (ids : List (List ℕ)) (b : Bool) (s : List ℕ) (us : Simples)
      → parts_of is_rich n (more (put_if b ids (simple.text s)) us)
      ≡ (if b then map part.place ids else []) ++ run s [] false ∷ parts_of is_rich n us
  text-gives ids false s us = text-parts is_rich n 0 s us
  text-gives ids true s us =
      text-flow ids s us (here is_rich n) ∙ ap (λ ps. map part.place ids ++ ps) (text-parts is_rich n 0 s us)

  text-extended : (s : List ℕ) (ts : Simples) → IsUtf8 s
      → IsExtended (more (simple.text (s ++ line_feed ∷ [])) ts) (more (simple.text s) none) ts
  text-extended s ts u =
      let same : is_blank_text (s ++ line_feed ∷ []) ≡ is_blank_text s = blank-ended s u in
      let shows : Bool = not (is_blank_text s) in
      record {
        shape = at_text s ts same;
        spends = λ l. refl;
        said = λ w. let more_said = longer s u in
            all-less (with_text w s) (with_text w (s ++ line_feed ∷ [])) ts (refl, omega (arith, more_said));
        kinds = refl;
        waits = λ ids. ap (λ b. pending_all (waits (not b) ids) ts) same;
        gives = λ ids w.
            let ps : List Part = if shows then map part.place ids else [] in
            let others : Simples = local_all (waits shows ids) ts in
            ap (λ b. fed_all w (parts_of is_rich n (more (put_if (not b) ids (simple.text (s ++ line_feed ∷ [])))
            (local_all (waits (not b) ids) ts)))) same
            ∙ (ap (fed_all w) (text-gives ids shows (s ++ line_feed ∷ []) others)
            ∙ (fold-append fed w ps (run (s ++ line_feed ∷ []) [] false ∷ parts_of is_rich n others)
            ∙ (ap (λ v. fed_all v (parts_of is_rich n others)) (text-fed (fed_all w ps) s u)
            ∙ ap (λ v. fed_all (fed v (run (line_feed ∷ []) [] false)) (parts_of is_rich n others))
            (sym (ap (fed_all w) (text-gives ids shows s none
            ∙ ap (λ qs. ps ++ run s [] false ∷ qs) (none-parts is_rich n 0))
            ∙ fold-append fed w ps (run s [] false ∷ []))))));
      }

  parts-more : (t : Simple) (us : Simples) → has is_item t ≡ false
      → parts_of is_rich n (more t us) ≡ (node_of t).whole (here is_rich n) ++ parts_of is_rich n us
  unfolding node_of
  parts-more (simple.text s) us h = refl
  parts-more (simple.image address attributes) us h = refl
  parts-more (simple.formula tex is_alone attributes) us h = refl
  parts-more (simple.embedded id address title attributes anchors) us h = refl
  parts-more (simple.anchor id) us h = refl
  parts-more (simple.element id r facts attributes content) us h = rw h refl

  more-extended : (t : Simple) (us vs ts : Simples) → has is_item t ≡ false → IsExtended us vs ts
      → IsExtended (more t us) (more t vs) ts
  more-extended t us vs ts h own = record {
    shape = behind_node t us vs ts own.shape;
    spends = λ l. own.spends (left_after l t);
    said = λ w. own.said (written w t);
    kinds = ap (λ x. has is_paragraph t || x) own.kinds
        ∙ or-assoc (has is_paragraph t) (list_any (has is_paragraph) (list_of vs))
        (list_any (has is_paragraph) (list_of ts));
    waits = λ ids. own.waits (pending ids t);
    gives = λ ids w.
        let one : Simple = local ids t in
        let free : has is_item one ≡ false = kind-local is_item item-inner ids t ∙ h in
        let whole : List Part = (node_of one).whole (here is_rich n) in
        let js : List (List ℕ) = pending ids t in
        ap (fed_all w) (parts-more one (local_all js us) free)
        ∙ (fold-append fed w whole (parts_of is_rich n (local_all js us))
        ∙ (own.gives js (fed_all w whole)
        ∙ ap (λ v. fed_all (fed v (run (line_feed ∷ []) [] false))
        (parts_of is_rich n (local_all (pending_all js vs) ts)))
        (sym (ap (fed_all w) (parts-more one (local_all js vs) free)
        ∙ fold-append fed w whole (parts_of is_rich n (local_all js vs))))));
  }

less-twice : {u v w : Written} → IsLess u v → IsLess v w → IsLess u w
less-twice h e = (h.0 ∙ e.0, omega (arith, h.1, e.1))

-- what both cost
pub both-spent : {f g : Written → Written} → (is_rich : Bool) (n j k : ℕ) (us vs ts : Simples)
    → IsExtended is_rich n us vs ts
    → AllSpend j f vs → AllSpend k g ts → AllSpend (j + k) (λ w. g (f w)) us
both-spent {f} {g} is_rich n j k us vs ts own first later = (
  λ a h.
      let (m, line) = first.0 a (omega (arith, h)) in
      let (i, rest) = later.0 m (omega (arith, h, line.1)) in (
        i,
        (
          own.spends (Some a) ∙ (ap (λ l. left_after_all l ts) line.0 ∙ rest.0),
          omega (arith, line.1, rest.1),
        ),
      ),
  λ v w l. less-twice (later.1 (f v) (written_all w vs) (first.1 v w l)) (own.said w),
)

-- ---- the trees of a line

module _ (scripting is_rich : Bool) where
  -- an element that shows the same whatever follows it
  pub record IsSteady (name : List ℕ) (attributes : List AttributePair) : Type 0 where
    pub tree : ℕ → NumberedForest → Simple
    pub is : (before : Option (List AttributePair)) (id : ℕ) (inside f : NumberedForest) → IsFresh before
        → shown_of scripting is_rich before (page.more (page.element id name attributes inside) f)
        ≡ more (tree id inside) (shown_of scripting is_rich (Some attributes) f)
    pub no_item : (id : ℕ) (inside : NumberedForest) → has is_item (tree id inside) ≡ false

  pub data AreSteady : SpelledForest → Type 0 where
    no_trees : AreSteady spelled.none
    text_first : (s : List ℕ) (ts : SpelledForest) → IsUtf8 s → shown_text s ≡ s → is_empty s ≡ false
        → AreSteady ts → AreSteady (spelled.more (spelled.text s) ts)
    element_first : (form : spelled.TagForm) (name : List ℕ) (attributes : List AttributePair)
        (content ts : SpelledForest) → IsSteady name attributes → is_break name ≡ false → AreSteady ts
        → AreSteady (spelled.more (spelled.element form name attributes content) ts)
    break_first : (ts : SpelledForest) → AreSteady ts → AreSteady (line_end ts)
        → AreSteady (spelled.more (spelled.element spelled.spaced (codes "br") [] spelled.none) (line_end ts))

  steady-end : (ts : SpelledForest) → AreSteady ts → AreSteady (line_end ts)
  steady-end ts no_trees =
      text_first (line_feed ∷ []) spelled.none line-end-whole line-end-text refl no_trees
  steady-end us (text_first s ts u shown some rest) =
      text_first (line_feed ∷ s) ts (IsUtf8-append (line_feed ∷ []) s line-end-whole u) (line-end-shown s shown)
      refl rest
  steady-end us (element_first form name attributes content ts own unbroken rest) =
      text_first (line_feed ∷ []) (spelled.more (spelled.element form name attributes content) ts) line-end-whole
      line-end-text refl (element_first form name attributes content ts own unbroken rest)
  steady-end us (break_first ts rest ended) =
      text_first (line_feed ∷ [])
      (spelled.more (spelled.element spelled.spaced (codes "br") [] spelled.none) (line_end ts)) line-end-whole
      line-end-text refl (break_first ts rest ended)

  code-steady : IsSteady (codes "code") []
  code-steady = record {
    tree = λ id inside. made id role.Code [] (shown_of scripting is_rich None inside);
    is = λ before id inside f fresh. code-at scripting is_rich false before id inside f fresh;
    no_item = λ id inside. refl;
  }

  format-steady : (m : Format) → format_shows is_rich m ≡ true → IsSteady (format_name m) (pairs_of_format m)
  format-steady m shows = record {
    tree = λ id inside. made id (format_role m) (pairs_of_format m) (shown_of scripting is_rich None inside);
    is = λ before id inside f fresh. format-at scripting is_rich false before id inside f m shows fresh;
    no_item = λ id inside. (format-inline m).no_item;
  }

  link-steady : (a : List ℕ) (t : Option (List ℕ)) → IsSteady (codes "a") (pairs_of_link a t)
  link-steady a t = record {
    tree = λ id inside. made id role.Link (pairs_of_link a t) (shown_of scripting is_rich None inside);
    is = λ before id inside f fresh. link-plain scripting is_rich before id inside f a t;
    no_item = λ id inside. refl;
  }

  image-steady : (a : List ℕ) (t : Option (List ℕ)) (d : List ℕ) → IsSteady (codes "img") (pairs_of_image a t d)
  image-steady a t d = record {
    tree = λ id inside. simple.image (Some (encoded_address a)) (pairs_of_image a t d);
    is = λ before id inside f fresh. image-at scripting is_rich false before id inside f a t d;
    no_item = λ id inside. refl;
  }

  place-steady : (s : List ℕ) → IsSteady (codes "a") (pairs_of_anchor s)
  place-steady s = record {
    tree = λ id inside. made id role.Target (pairs_of_anchor s) (shown_of scripting is_rich None inside);
    is = λ before id inside f fresh. place-at scripting is_rich false before id s inside f;
    no_item = λ id inside. refl;
  }

  pub steady-line : (xs : Inlines) (b : Bool) (fs : List Format) → are_normal b fs xs ≡ true
      → are_held xs ≡ true → line_shows is_rich xs ≡ true
      → AreSteady (spelled_line xs)
  steady-line no_inlines b fs normal h formats = no_trees
  steady-line (inline (text s) xs) b fs normal h formats =
      let good = normal-one b fs (text s) xs normal in
      let own = settled-one (text s) xs h in
      let l = text-line s own.own good.own in
      text_first s (spelled_line xs) l.utf8 l.shown (some-text s good.own)
      (steady-line xs b fs good.rest own.rest formats)
  steady-line (inline (code s) xs) b fs normal h formats =
      element_first spelled.spaced (codes "code") [] _ (spelled_line xs) code-steady refl
      (steady-line xs b fs (normal-one b fs (code s) xs normal).rest (settled-one (code s) xs h).rest formats)
  steady-line (inline (formatted m c) xs) b fs normal h formats =
      let shows = and_parts (format_shows is_rich m && line_shows is_rich c) (line_shows is_rich xs) formats in
      element_first spelled.spaced (format_name m) (pairs_of_format m) (spelled_line c) (spelled_line xs)
      (format-steady m (and_parts (format_shows is_rich m) (line_shows is_rich c) shows.0).0) (format-unbroken m)
      (steady-line xs b fs (normal-one b fs (formatted m c) xs normal).rest (settled-one (formatted m c) xs h).rest
      shows.1)
  steady-line (inline (link a t c) xs) b fs normal h formats =
      element_first spelled.spaced (codes "a") (pairs_of_link a t) (spelled_line c) (spelled_line xs) (link-steady a t)
      refl
      (steady-line xs b fs (normal-one b fs (link a t c) xs normal).rest (settled-one (link a t c) xs h).rest
      (and_parts (line_shows is_rich c) (line_shows is_rich xs) formats).1)
  steady-line (inline (image a t d) xs) b fs normal h formats =
      element_first spelled.spaced (codes "img") (pairs_of_image a t d) spelled.none (spelled_line xs)
      (image-steady a t d) refl
      (steady-line xs b fs (normal-one b fs (image a t d) xs normal).rest (settled-one (image a t d) xs h).rest formats)
  steady-line (inline (anchor id) xs) b fs normal h formats =
      element_first spelled.spaced (codes "a") (pairs_of_anchor id) spelled.none (spelled_line xs) (place-steady id)
      refl
      (steady-line xs b fs (normal-one b fs (anchor id) xs normal).rest (settled-one (anchor id) xs h).rest formats)
  steady-line (inline line_break xs) b fs normal h formats =
      let rest = steady-line xs b fs (normal-one b fs line_break xs normal).rest (settled-one line_break xs h).rest
      formats in
      break_first (spelled_line xs) rest (steady-end (spelled_line xs) rest)
  steady-line (inline (task d) xs) b fs normal h formats = false-true (settled-one (task d) xs h).own

  -- ---- both parts

  -- the nodes of trees, and those of the rest behind them
  pub record IsSplit (n k : ℕ) (before : Option (List AttributePair)) (f : NumberedForest) (ts rest : SpelledForest)
      : Type 0 where
    pub front : NumberedForest
    pub back : NumberedForest
    pub last : Option (List AttributePair)
    pub fresh : IsFresh last
    pub line : Stands (value_forest front) (forest_of ts)
    pub others : Stands (value_forest back) (forest_of rest)
    pub first_ordered : is_ordered k front ≡ true
    pub ordered : is_ordered 0 back ≡ true
    pub far : are_far scripting is_rich false front ≡ true → are_far scripting is_rich false back ≡ true
        → are_far scripting is_rich false f ≡ true
    pub extended : IsExtended is_rich n (shown_of scripting is_rich before f)
        (shown_of scripting is_rich before front) (shown_of scripting is_rich last back)

  -- one more node before both
  far-behind : (t : NumberedTree) (f rest front back : NumberedForest) → f ≡ page.more t rest
      → (are_far scripting is_rich false front ≡ true → are_far scripting is_rich false back ≡ true
      → are_far scripting is_rich false rest ≡ true)
      → are_far scripting is_rich false (page.more t front) ≡ true → are_far scripting is_rich false back ≡ true
      → are_far scripting is_rich false f ≡ true
  far-behind t f rest front back is inner h e =
      let p = and_parts (is_far scripting is_rich false t) (are_far scripting is_rich false front) h in
      ap (are_far scripting is_rich false) is
      ∙ and_from (is_far scripting is_rich false t) (are_far scripting is_rich false rest) p.0 (inner p.1 e)

  steady-filled : (ts : SpelledForest) → AreSteady ts → begins_filled ts ≡ true
  steady-filled ts no_trees = refl
  steady-filled us (text_first [] ts u shown some rest) = true-false some
  steady-filled us (text_first (b ∷ s) ts u shown some rest) = refl
  steady-filled us (element_first form name attributes content ts own unbroken rest) = refl
  steady-filled us (break_first ts rest ended) = refl

  ended-filled : (rest ts : SpelledForest) → AreSteady ts → begins_filled (ended_before rest ts) ≡ true
  ended-filled rest ts no_trees = refl
  ended-filled rest us (text_first [] ts u shown some steady) = true-false some
  ended-filled rest us (text_first (b ∷ s) spelled.none u shown some steady) = refl
  ended-filled rest us (text_first (b ∷ s) (spelled.more t ts) u shown some steady) = refl
  ended-filled rest us (element_first form name attributes content ts own unbroken steady) = refl
  ended-filled rest us (break_first ts steady ended) = refl

  -- a break before nodes that are split
  break-split : (us rest : SpelledForest) (n k : ℕ) (before : Option (List AttributePair)) (f : NumberedForest)
      → IsFresh before
      → (found : IsElement f (codes "br") [] value.none (forest_of (ended_before rest (line_end us))))
      → nat_le k found.id ≡ true → is_ordered 0 found.inside ≡ true → (ts : SpelledForest)
      → (inner : IsSplit n (suc found.id) (Some []) found.rest ts rest)
      → (Stands (value_forest inner.front) (forest_of (line_end us))
      ⊎ Lacks (value_forest inner.front) (forest_of (line_end us)))
      → IsSplit n k before f
      (spelled.more (spelled.element spelled.spaced (codes "br") [] spelled.none) (line_end us)) rest
  break-split us rest n k before f fresh found least inside ts inner line =
      let front : NumberedForest = page.more (page.element found.id (codes "br") [] found.inside) inner.front in
      record {
        front = front;
        back = inner.back;
        last = inner.last;
        fresh = inner.fresh;
        line = (value_forest found.inside, value_forest inner.front, refl, found.within, line);
        others = inner.others;
        first_ordered = ap (λ b. (b && is_ordered 0 found.inside) && is_ordered (suc found.id) inner.front) least
            ∙ (ap (λ b. b && is_ordered (suc found.id) inner.front) inside ∙ inner.first_ordered);
        ordered = inner.ordered;
        far = far-behind (page.element found.id (codes "br") [] found.inside) f found.rest inner.front inner.back
            found.is inner.far;
        extended = from-shown is_rich n (shown_of scripting is_rich before f)
            (shown_of scripting is_rich before front) (shown_of scripting is_rich inner.last inner.back)
            (ap (shown_of scripting is_rich before) found.is
            ∙ break-at scripting is_rich false before found.id found.inside found.rest fresh)
            (break-at scripting is_rich false before found.id found.inside inner.front fresh)
            (more-extended is_rich n (made found.id role.LineBreak [] none)
            (shown_of scripting is_rich (Some []) found.rest)
            (shown_of scripting is_rich (Some []) inner.front)
            (shown_of scripting is_rich inner.last inner.back) refl inner.extended);
      }

  pub split : (ts rest : SpelledForest) (n k : ℕ) (before : Option (List AttributePair)) (f : NumberedForest)
      → AreSteady ts → IsFresh before → Stands (value_forest f) (forest_of (ended_before rest ts))
      → is_ordered k f ≡ true → IsSplit n k before f ts rest
  split ts rest n k before f no_trees fresh e o =
      let found = from-text f (line_feed ∷ []) (forest_of rest) e in
      let order = ordered-next k f (page.text found.id (line_feed ∷ [])) found.rest found.is o in
      let ts : Simples = shown_of scripting is_rich before found.rest in
      record {
        front = page.none;
        back = found.rest;
        last = before;
        fresh = fresh;
        line = refl;
        others = found.others;
        first_ordered = refl;
        ordered = ordered-less 0 (suc found.id) found.rest (omega arith) order.rest;
        far = λ h e. ap (are_far scripting is_rich false) found.is ∙ e;
        extended = from-shown is_rich n (shown_of scripting is_rich before f)
            (shown_of scripting is_rich before page.none) ts
            (ap (shown_of scripting is_rich before) found.is
            ∙ line-shown scripting is_rich before found.id found.rest)
            (none-shown scripting is_rich before) (end-extended is_rich n ts);
      }
  split trees rest n k before f (text_first s spelled.none u shown some steady) fresh e o =
      let found = from-text f (s ++ line_feed ∷ []) (forest_of rest) e in
      let order = ordered-next k f (page.text found.id (s ++ line_feed ∷ [])) found.rest found.is o in
      let ts : Simples = shown_of scripting is_rich before found.rest in
      record {
        front = page.more (page.text found.id s) page.none;
        back = found.rest;
        last = before;
        fresh = fresh;
        line = (value.none, refl, refl);
        others = found.others;
        first_ordered = ap (λ b. (b && true) && true) order.least;
        ordered = ordered-less 0 (suc found.id) found.rest (omega arith) order.rest;
        far = λ h e. ap (are_far scripting is_rich false) found.is ∙ e;
        extended = from-shown is_rich n (shown_of scripting is_rich before f)
            (shown_of scripting is_rich before (page.more (page.text found.id s) page.none)) ts
            (ap (shown_of scripting is_rich before) found.is
            ∙ (text-at scripting is_rich false before found.id (s ++ line_feed ∷ []) found.rest
            ∙ ap (λ t. more (simple.text t) ts) (text-ended s u shown)))
            (text-at scripting is_rich false before found.id s page.none
            ∙ (ap (λ t. more (simple.text t) (shown_of scripting is_rich before page.none)) shown
            ∙ ap (more (simple.text s)) (none-shown scripting is_rich before)))
            (text-extended is_rich n s ts u);
      }
  split trees rest n k before f (text_first s (spelled.more t us) u shown some steady) fresh e o =
      let found = from-text f s (forest_of (ended_before rest (spelled.more t us))) e in
      let order = ordered-next k f (page.text found.id s) found.rest found.is o in
      let inner = split (spelled.more t us) rest n (suc found.id) before found.rest steady fresh found.others
      order.rest in
      let tree : Simple = simple.text (shown_text s) in
      record {
        front = page.more (page.text found.id s) inner.front;
        back = inner.back;
        last = inner.last;
        fresh = inner.fresh;
        line = (value_forest inner.front, refl, inner.line);
        others = inner.others;
        first_ordered = ap (λ b. (b && true) && is_ordered (suc found.id) inner.front) order.least
            ∙ inner.first_ordered;
        ordered = inner.ordered;
        far = far-behind (page.text found.id s) f found.rest inner.front inner.back found.is inner.far;
        extended = from-shown is_rich n (shown_of scripting is_rich before f)
            (shown_of scripting is_rich before (page.more (page.text found.id s) inner.front))
            (shown_of scripting is_rich inner.last inner.back)
            (ap (shown_of scripting is_rich before) found.is
            ∙ text-at scripting is_rich false before found.id s found.rest)
            (text-at scripting is_rich false before found.id s inner.front)
            (more-extended is_rich n tree (shown_of scripting is_rich before found.rest)
            (shown_of scripting is_rich before inner.front) (shown_of scripting is_rich inner.last inner.back) refl
            inner.extended);
      }
  split trees rest n k before f (element_first form name attributes content us own unbroken steady) fresh e o =
      let found = from-element f name attributes (forest_of content) (forest_of (ended_before rest us)) e in
      let order = ordered-next k f (page.element found.id name attributes found.inside) found.rest found.is o in
      let inner = split us rest n (suc found.id) (Some attributes) found.rest steady (fresh-next attributes)
      (beside (is_break name) (value_forest found.rest) (forest_of (ended_before rest us)) unbroken found.others)
      order.rest in
      let front : NumberedForest = page.more (page.element found.id name attributes found.inside) inner.front in
      record {
        front = front;
        back = inner.back;
        last = inner.last;
        fresh = inner.fresh;
        line = (
          value_forest found.inside,
          value_forest inner.front,
          refl,
          found.within,
          stands-behind (is_break name) (value_forest inner.front) (forest_of us) inner.line,
        );
        others = inner.others;
        first_ordered = ap (λ b. (b && is_ordered 0 found.inside) && is_ordered (suc found.id) inner.front) order.least
            ∙ (ap (λ b. b && is_ordered (suc found.id) inner.front) order.inside ∙ inner.first_ordered);
        ordered = inner.ordered;
        far = far-behind (page.element found.id name attributes found.inside) f found.rest inner.front inner.back
            found.is inner.far;
        extended = from-shown is_rich n (shown_of scripting is_rich before f)
            (shown_of scripting is_rich before front) (shown_of scripting is_rich inner.last inner.back)
            (ap (shown_of scripting is_rich before) found.is ∙ own.is before found.id found.inside found.rest fresh)
            (own.is before found.id found.inside inner.front fresh)
            (more-extended is_rich n (own.tree found.id found.inside)
            (shown_of scripting is_rich (Some attributes) found.rest)
            (shown_of scripting is_rich (Some attributes) inner.front)
            (shown_of scripting is_rich inner.last inner.back) (own.no_item found.id found.inside) inner.extended);
      }
  split trees rest n k before f (break_first us steady ended) fresh e o =
      let found = from-element f (codes "br") [] value.none (forest_of (ended_before rest (line_end us))) e in
      let order = ordered-next k f (page.element found.id (codes "br") [] found.inside) found.rest found.is o in
      ⊎_elim
      (λ s.
      let inner = split (line_end us) rest n (suc found.id) (Some []) found.rest ended (fresh-next []) s order.rest in
      break-split us rest n k before f fresh found order.least order.inside (line_end us) inner (inl inner.line))
      (λ s.
      let inner = split us rest n (suc found.id) (Some []) found.rest steady (fresh-next [])
      (lacks-end (value_forest found.rest) (ended_before rest us) (ended-filled rest us steady)
      (subst (λ ts. Lacks (value_forest found.rest) (forest_of ts)) (sym (letter-ended line_feed rest us)) s))
      order.rest in
      break-split us rest n k before f fresh found order.least order.inside us inner
      (inr (end-lacks (value_forest inner.front) us (steady-filled us steady) inner.line)))
      found.others
