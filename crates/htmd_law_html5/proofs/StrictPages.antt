-- A page of the strict grammar with plain trees: the lenient reader gives the same tree.
use Rattle.std.proofs.Common.{◌≡◌, ℕ, zero, suc, ◌+◌, ◌≤◌, Bool, true, false, not, ◌&&◌, ◌||◌, List, [], ◌∷◌, ◌++◌}
use Rattle.std.proofs.Common.{length}
use Rattle.std.proofs.Common.{map, None, refl, sym, ap, ◌∙◌, arith, inl, inr, codes, subst}
use Rattle.std.proofs.lemmas.Bool.{and_parts, and_from, not-true, or_right}
use Rattle.std.specs.Prelude.{if◌then◌else◌}
use Rattle.std.proofs.lemmas.List.{append-nil}
use Rattle.htmd_lexical.proofs.Cases.{test}
use Rattle.htmd_lexical.specs.AttributePairs.{AttributePair}
use Rattle.htmd_values.specs.ValueTrees.{ValueTree, ValueForest, none, more, document, text}
use Rattle.htmd_values.specs.ValueTrees.{comment, element}
use Rattle.htmd_lexical.specs.CharacterClasses.{is_among, lacks}
use Rattle.htmd_values.specs.Serialisation.{is_void}
use Rattle.htmd_grammar.specs.Rules.{Rules, project}
use Rattle.htmd_grammar.specs.Grammar.{ReadsTree, ReadsForest, begins_with_row}
use Rattle.htmd_grammar.specs.Nesting.{Context, parent_name, is_allowed, is_outside, fits_table, fits_select}
use Rattle.htmd_grammar.specs.Nesting.{fits_open_elements, fits_lists, closes_paragraph, excludes_itself, is_optgroup}
use Rattle.htmd_grammar.specs.Nesting.{is_heading, is_open, is_met_before, is_table, is_tbody}
use Rattle.htmd_grammar.specs.RawContent.{holds_text_alone, content_of}
use Rattle.htmd_grammar.specs.HtmlDocuments.{below_body, skeleton}
use Rattle.htmd_grammar.proofs.NestingLemmas.{allowed_parts, one_name}
use Rattle.htmd_grammar.proofs.TreeTexts.{Inside}
use Rattle.htmd_nodes.specs.Items.{document_item, greatest_depth}
use Rattle.htmd_nodes.specs.Layout.{sizes, document_items}
use Rattle.htmd_html5_tokens.specs.Tokens.{TokenValue, start_tag}
use Rattle.htmd_html5_tokens.specs.NextToken.{next_token}
use Rattle.htmd_lexical.specs.declared.content_model.ContentModel.{ContentModel}
use Rattle.htmd_lexical.specs.declared.content_model.ContentModel.TheVariants.{Normal}
use Rattle.htmd_html5_state.specs.Names.{html, name_of_text}
use Rattle.htmd_html5_state.specs.Nodes.{NodeValue}
use Rattle.htmd_html5_state.specs.Foreign.{current_is_html}
use Rattle.htmd_html5_state.specs.State.{StateValue, initial_state}
use Rattle.htmd_html5.specs.Feeding.{feed}
use Rattle.htmd_html5.specs.Html5Documents.{next_read, after_token, read_within, state_after, html5_document}
use Rattle.htmd_html5.specs.Layout.{coming, Layout, document_of, layout_within}
use Rattle.htmd_law_html5.specs.StrictReferences.{IsUnambiguous}
use Rattle.htmd_law_html5.specs.StrictTokens.{content_after, tag_named, is_simple_tree, is_simple}
use Rattle.htmd_law_html5.specs.StrictTokens.{is_simple_table, is_simple_body, may_be_implied}
use Rattle.htmd_law_html5.specs.StrictTrees.{is_plain_element, is_plain_body, is_plain_tree, are_plain, text_names}
use Rattle.htmd_law_html5.specs.StrictTrees.{are_plain_table, are_plain_rows, PlainPagesAgree}
use Rattle.htmd_law_html5.proofs.StrictCuts.{lacks_cut}
use Rattle.htmd_law_html5.proofs.StrictPlainTexts.{plain_text, content_lacks}
use Rattle.htmd_law_html5.proofs.StrictTokenCuts.{read, lines_same}
use Rattle.htmd_law_html5.proofs.StrictRawTexts.{raw_children}
use Rattle.htmd_law_html5.proofs.StrictSteps.{Run, here, onward}
use Rattle.htmd_law_html5.proofs.StrictRuns.{content_read}
use Rattle.htmd_law_html5.proofs.StrictNodes.{numbers, node, forest_nodes, forest_count, with_forest}
use Rattle.htmd_law_html5.proofs.StrictOpen.{the_document, open_met}
use Rattle.htmd_law_html5.proofs.StrictLaid.{ApartTree, ApartForest, levels, most_levels, layout, are_content}
use Rattle.htmd_law_html5.proofs.StrictLaid.{plain_is_content, forest_laid}
use Rattle.htmd_law_html5.proofs.StrictSets.{plain_aside, text_alone}
use Rattle.htmd_law_html5.proofs.StrictRules.{InContext, Flows, Fits, end_of_file_fed}
use Rattle.htmd_law_html5.proofs.StrictModes.{in_flow}
use Rattle.htmd_law_html5.proofs.StrictOnlyText.{IsOneText}
use Rattle.htmd_law_html5.proofs.StrictHeld.{FitsTree, FitsForest}
use Rattle.htmd_law_html5.proofs.StrictBuilt.{forest_built}
use Rattle.htmd_law_html5.proofs.StrictThrough.{Parts, parts}
use Rattle.htmd_html5_state.specs.Nodes as documents

-- ---- plain trees are simple

mutual
  plain_tree_is_simple : (t : ValueTree) → is_plain_tree t ≡ true → is_simple_tree t ≡ true
  plain_tree_is_simple (element n attributes children) e =
      let inner = if is_table n then are_plain_table children else are_plain children in
      let g = and_parts (is_plain_element n || is_plain_body n children) inner e in
      let a = plain_aside n children g.0 in
      test (is_table n)
      (λ t. rw (a.0, a.1, t, plain_table_is_simple children (rw t at g.1)) refl)
      (λ t. rw (a.0, a.1, t, plain_is_simple children (rw t at g.1)) refl)
  plain_tree_is_simple _ e = refl

  plain_part_is_simple : (t : ValueTree) → (is_plain_tree t || are_plain_rows t) ≡ true
      → (is_simple_tree t || is_simple_body t) ≡ true
  plain_part_is_simple (element n attributes children) e =
      test (is_plain_tree (element n attributes children))
      (λ t. let inner = if is_table n then are_plain_table children else are_plain children in
      let g = and_parts (is_plain_element n || is_plain_body n children) inner t in
      let a = plain_aside n children g.0 in
      test (is_table n)
      (λ q. rw (a.0, a.1, q, plain_table_is_simple children (rw q at g.1)) refl)
      (λ q. rw (a.0, a.1, q, plain_is_simple children (rw q at g.1)) refl))
      (λ t. let r = rw t at e in
      let g = and_parts (is_tbody n && begins_with_row children) (are_plain children) r in
      or_right (is_simple_tree (element n attributes children))
      (may_be_implied n children && is_simple children)
      (and_from (may_be_implied n children) (is_simple children) g.0 (plain_is_simple children g.1)))
  plain_part_is_simple _ e = refl

  plain_table_is_simple : (ts : ValueForest) → are_plain_table ts ≡ true → is_simple_table ts ≡ true
  plain_table_is_simple none e = refl
  plain_table_is_simple (more t ts) e =
      let k = and_parts (is_plain_tree t || are_plain_rows t) (are_plain_table ts) e in
      and_from (is_simple_tree t || is_simple_body t) (is_simple_table ts) (plain_part_is_simple t k.0)
      (plain_table_is_simple ts k.1)

  pub plain_is_simple : (ts : ValueForest) → are_plain ts ≡ true → is_simple ts ≡ true
  plain_is_simple none e = refl
  plain_is_simple (more t ts) e =
      let k = and_parts (is_plain_tree t) (are_plain ts) e in
      rw (plain_tree_is_simple t k.0, plain_is_simple ts k.1) refl

-- ---- what the grammar allows

not_both : (x y : Bool) → not (x && y) ≡ true → x ≡ true → y ≡ false
not_both true y e f = not-true y e
not_both false y e f = absurd (cc)

element_fits : (z : Bool) (c : List (List ℕ)) (n : List ℕ) → is_allowed z (c ++ the_document) n ≡ true → Fits
    c n
unfolding is_allowed
element_fits z c n a =
    let d : List (List ℕ) = c ++ the_document in
    let places : Bool = not (is_outside n) && not (holds_text_alone z (parent_name d))
    && fits_table (parent_name d) n && fits_select (parent_name d) n in
    let lists_ = and_parts (places && fits_open_elements d n) (fits_lists d n) a in
    let open_ = (and_parts places (fits_open_elements d n) lists_.0).1 in
    let paragraph : Bool = not (closes_paragraph n && is_open (codes "p" ∷ []) d) in
    let itself : Bool = not (excludes_itself n && is_open (n ∷ []) d) in
    let groups : Bool = not (is_optgroup n && is_open (codes "optgroup" ∷ codes "option" ∷ []) d) in
    let heads =
    and_parts (paragraph && itself && groups) (not (is_heading n && is_heading (parent_name d))) open_ in
    let both = and_parts paragraph itself (and_parts (paragraph && itself) groups heads.0).0 in
    let items = and_parts (not (is_among (codes "li" ∷ []) n
    && is_met_before (codes "li" ∷ []) (codes "ul" ∷ codes "ol" ∷ codes "menu" ∷ codes "dir" ∷ []) d))
    (not (is_among (codes "dd" ∷ codes "dt" ∷ []) n
    && is_met_before (codes "dd" ∷ codes "dt" ∷ []) (codes "dl" ∷ []) d)) lists_.1 in
    record {
      paragraph = λ e. open_met (codes "p" ∷ []) d
          (not_both (closes_paragraph n) (is_open (codes "p" ∷ []) d) both.0 e);
      itself = λ e. open_met (n ∷ []) d (not_both (excludes_itself n) (is_open (n ∷ []) d) both.1 e);
      inside = (allowed_parts z d n a).0;
      table = (allowed_parts z d n a).2;
      heading = λ e. not_both (is_heading n) (is_heading (parent_name d)) heads.1 e;
      item = λ e. not_both (is_among (codes "li" ∷ []) n) _ items.0 (rw e refl);
      part = λ e. not_both (is_among (codes "dd" ∷ codes "dt" ∷ []) n) _ items.1 e;
    }

-- ---- trees of the grammar fit

module _ (z : Bool) where
  content_fits : (n : List ℕ) (children : ValueForest)
      → ((c : List (List ℕ)) (last : Bool) (s : List ℕ) → lacks 0 s ≡ true
      → ReadsForest (project z) (c ++ the_document) last children s → FitsForest c children)
      → (attributes : List AttributePair) (c : List (List ℕ)) (last : Bool) (s : List ℕ) → lacks 0 s ≡ true
      → Inside (project z) (c ++ the_document) last n attributes children s → FitsForest (n ∷ c) children
  content_fits n children ih attributes c last s l (inl w) =
      let a = lacks_cut 0 w.0 (w.1 ++ w.2) (subst (λ y. lacks 0 y ≡ true) w.3 l) in
      let b = lacks_cut 0 w.1 w.2 a.1 in
      test (is_void n)
      (λ v. let m = rw v at w.5 in rw m.2 tt)
      (λ v. let m = rw v at w.5 in ih (n ∷ c) true (content_of n w.1) (content_lacks n w.1 b.0) m.0)
  content_fits n children ih attributes c last s l (inr w) =
      ih (n ∷ c) true w.0 (lacks_cut 0 w.0 w.1 (subst (λ y. lacks 0 y ≡ true) w.2 l)).0 w.6

  -- an element that holds only text holds one at most
  text_fits : (n : List ℕ) (attributes : List AttributePair) (children : ValueForest) (c : List (List ℕ))
      (last : Bool) (s : List ℕ) → is_among text_names n ≡ true
      → Inside (project z) (c ++ the_document) last n attributes children s → IsOneText children
  text_fits n attributes children c last s e (inl w) =
      test (is_void n)
      (λ v. let m = rw v at w.5 in rw m.2 tt)
      (λ v. let m = rw v at w.5 in
      let k = raw_children z n (c ++ the_document) true children (content_of n w.1) m.0 (text_alone z n e) in
      elim k [ inl a ↦ rw a.0 tt | inr a ↦ rw a.1 tt ])
  text_fits n attributes children c last s e (inr w) =
      absurd (let u = rw (one_name (codes "tbody") n w.3) at e in cc)

  mutual
    tree_fits : (t : ValueTree) (c : List (List ℕ)) (last : Bool) (s : List ℕ) → lacks 0 s ≡ true
        → ReadsTree (project z) (c ++ the_document) last t s → FitsTree c t
    tree_fits (text u) c last s l h = (plain_text z (parent_name (c ++ the_document)) s u l h.2 h.0, h.3)
    tree_fits (element n attributes children) c last s l h = (
      element_fits z c n h.0,
      content_fits n children (λ d i r m k. forest_fits children d i r m k) attributes c last s l h.2,
      λ e. text_fits n attributes children c last s e h.2,
    )
    tree_fits _ c last s l h = tt

    pub forest_fits : (ts : ValueForest) (c : List (List ℕ)) (last : Bool) (s : List ℕ) → lacks 0 s ≡ true
        → ReadsForest (project z) (c ++ the_document) last ts s → FitsForest c ts
    forest_fits none c last s l h = tt
    forest_fits (more t ts) c last s l h =
        let a = lacks_cut 0 h.0 h.1 (subst (λ y. lacks 0 y ≡ true) h.2 l) in
        (h.3, tree_fits t c _ h.0 a.0 h.4, forest_fits ts c last h.1 a.1 h.5)

-- ---- reading and feeding in step

nothing_left : (k : ℕ) (p : List ℕ) (c : List (List ℕ)) (s : StateValue) → InContext (p ∷ c) s → Flows p s
    → read_within k [] s ≡ s
nothing_left zero p c s h w = end_of_file_fed p c s h w
nothing_left (suc k) p c s h w =
    ap (λ m. after_token (read_within k) (next_token m (not (current_is_html s.stack)) []) s) h.content
    ∙ end_of_file_fed p c s h w

pub in_step : (z : Bool) (k : ℕ) (now after : ContentModel) (page left : List ℕ) (xs : List TokenValue)
    (s new : StateValue)
    (p : List ℕ) (c : List (List ℕ)) → Run z now page xs after left → s.content ≡ now → left ≡ []
    → Parts z s xs new → InContext (p ∷ c) new → Flows p new → length page ≤ k
    → read_within k page s ≡ new
in_step z k now after page left xs s new p c here n e r h w l = rw (e, r) (nothing_left k p c new h w)
in_step z zero now after page left xs s new p c (onward token rest f g m q) n e r h w l = absurd (omega arith)
in_step z (suc k) now after page left xs s new p c (onward token rest f g m q) n e r h w l =
    let token_read : next_read page s ≡ read token rest =
    ap (λ c. next_token c (not (current_is_html s.stack)) page) n
    ∙ ap (λ b. next_token now (not b) page) r.0 ∙ f in
    let told : (feed token s).content ≡ content_after z now token = r.1 ∙ ap (λ c. content_after z c token) n in
    ap (λ x. after_token (read_within k) x s) token_read
    ∙ rw g (in_step z k _ after rest left _ (feed token s) new p c q told e (parts z r.2) h w (omega (arith, m, l)))

-- ---- the page

-- after `<body>`
abbrev pub body_state : Bool → StateValue
body_state z = feed (start_tag (tag_named (codes "body") [] false)) (initial_state z)

body_state_is : (z : Bool) → InContext (codes "body" ∷ codes "html" ∷ []) (body_state z)
body_state_is z = record {
  mode = in_flow refl (inl refl);
  resets = λ e y. refl;
  content = refl;
  no_skip = refl;
  no_foster = refl;
  no_template = refl;
  listed = inl (inl (inl (inl refl)));
  stands = (
    refl,
    ([], refl),
    omega arith,
    (omega arith, tt),
    (refl, ([], refl), omega arith, tt, tt),
  );
}

body_tag_read : (z : Bool) (s : List ℕ)
    → next_read (codes "<body>" ++ s) (initial_state z) ≡ read (start_tag (tag_named (codes "body") [] false)) s
body_tag_read z s = refl

page_read : (z : Bool) (s : List ℕ) → IsUnambiguous s
    → state_after z (codes "<body>" ++ s) ≡ read_within (length (codes "body>" ++ s)) s (body_state z)
page_read z s k =
    ap (λ (t : List ℕ). read_within (length (codes "<body>" ++ t)) (codes "<body>" ++ t) (initial_state z))
    (lines_same s k.line_feeds)
    ∙ ap (λ r. after_token (read_within (length (codes "body>" ++ s))) r (initial_state z)) (body_tag_read z s)

-- the Document, which holds `html`
abbrev pub root : NodeValue
root = record { kind = documents.document; parent = None; children = 1 ∷ [] }

-- the nodes of a page with this content
page_nodes : (z : Bool) (content : ValueForest)
    → with_forest 3 content (body_state z).nodes ≡ root ∷ forest_nodes 0 1 (skeleton content)
page_nodes z content =
    let held : List NodeValue = forest_nodes 3 4 content in
    ap (λ (ns : List NodeValue). root ∷ node (documents.element (html (name_of_text (codes "html"))) []) 0
    (2 ∷ 3 ∷ []) ∷ node (documents.element (html (name_of_text (codes "head"))) []) 1 []
    ∷ node (documents.element (html (name_of_text (codes "body"))) []) 1 (numbers 4 content) ∷ ns)
    (sym (append-nil (held ++ []) ∙ append-nil held))

-- and their layout
pub page_laid : (content : ValueForest) → are_content content ≡ true → ApartForest content
    → most_levels content ≤ 1022
    → document_of greatest_depth (root ∷ forest_nodes 0 1 (skeleton content)) ≡ document_items (skeleton content)
page_laid content c a l =
    let nodes : List NodeValue = forest_nodes 0 1 (skeleton content) in
    let count : length (root ∷ nodes) ≡ sizes (skeleton content) + 1 =
    omega (arith, forest_count 0 1 (skeleton content)) in
    ap (λ ns. (layout_within greatest_depth (length (root ∷ nodes))
    (layout (root ∷ ns) (document_item ∷ []) (map (coming 0) (1 ∷ []) ++ []))).items) (sym (append-nil nodes))
    ∙ ap (λ (x : Layout). x.items)
    (forest_laid (skeleton content) greatest_depth 1 (length (root ∷ nodes)) 0 0 1 (root ∷ []) []
    (document_item ∷ []) [] (rw c refl) (tt, (tt, tt, (tt, a, tt)), tt) tt refl (omega arith)
    (omega (arith, l)) count)

-- ---- depth

levels_within : (rules : Rules) (n : List ℕ) (attributes : List AttributePair) (children : ValueForest)
    → ((c : Context) (last : Bool) (s : List ℕ) → ReadsForest rules c last children s → length c ≤ suc
    rules.depth → length c + most_levels children ≤ suc rules.depth)
    → (c : Context) (last : Bool) (s : List ℕ) → Inside rules c last n attributes children s → length c ≤
    rules.depth → suc (length c) + most_levels children ≤ suc rules.depth
levels_within rules n attributes children ih c last s (inl w) l =
    test (is_void n)
    (λ v. let m = rw v at w.5 in rw m.2 (omega (arith, l)))
    (λ v. let m = rw v at w.5 in ih (n ∷ c) true (content_of n w.1) m.0 (omega (arith, l)))
levels_within rules n attributes children ih c last s (inr w) l = ih (n ∷ c) true w.0 w.6 (omega (arith, l))

mutual
  tree_depth : (rules : Rules) (t : ValueTree) (c : Context) (last : Bool) (s : List ℕ) → ReadsTree rules c last t s
      → length c + levels t ≤ suc rules.depth
  tree_depth rules (text u) c last s h = let l = h.4 in omega (arith, l)
  tree_depth rules (comment u) c last s h = let l = h.2 in omega (arith, l)
  tree_depth rules (element n attributes children) c last s h =
      let k = levels_within rules n attributes children (λ d i r m. forest_depth rules children d i r m) c last s h.2
      h.1 in
      omega (arith, k)
  tree_depth rules _ c last s h = absurd h

  pub forest_depth : (rules : Rules) (ts : ValueForest) (c : Context) (last : Bool) (s : List ℕ)
      → ReadsForest rules c last ts s → length c ≤ suc rules.depth → length c + most_levels ts ≤ suc
      rules.depth
  forest_depth rules none c last s h l = omega (arith, l)
  forest_depth rules (more t ts) c last s h l =
      let a = tree_depth rules t c _ h.0 h.4 in
      let b = forest_depth rules ts c last h.1 h.5 l in
      omega (arith, a, b)

mutual
  tree_apart : (c : List (List ℕ)) (t : ValueTree) → FitsTree c t → ApartTree t
  tree_apart c (element n attributes children) f = fits_apart (n ∷ c) children f.1
  tree_apart c _ f = tt

  pub fits_apart : (c : List (List ℕ)) (ts : ValueForest) → FitsForest c ts → ApartForest ts
  fits_apart c none f = tt
  fits_apart c (more t ts) f = (f.0, tree_apart c t f.1, fits_apart c ts f.2)

pub pages_agree : PlainPagesAgree
unfolding html5_document
pages_agree z s content k e h =
    let r = content_read z s content k (plain_is_simple content e) h in
    let f = forest_fits z content (codes "body" ∷ codes "html" ∷ []) true s k.no_null h in
    let b = forest_built z content (codes "body") (codes "html" ∷ []) r.0 (body_state z) r.1 e f (body_state_is z)
    (λ t. refl) in
    let whole : state_after z (codes "<body>" ++ s) ≡ b.0 =
    page_read z s k ∙ in_step z (length (codes "body>" ++ s)) Normal Normal s [] r.0 (body_state z) b.0 (codes "body")
    (codes "html" ∷ [])
    r.2 refl refl (parts z b.1.through) b.1.in_context (refl, inl b.1.mode) (omega arith) in
    ap (λ st. document_of greatest_depth st.nodes) whole
    ∙ ap (document_of greatest_depth) (b.1.nodes_are ∙ page_nodes z content)
    ∙ page_laid content (plain_is_content content e) (fits_apart (codes "body" ∷ codes "html" ∷ []) content f)
    (omega (arith, forest_depth (project z) content below_body true s h (omega arith)))
