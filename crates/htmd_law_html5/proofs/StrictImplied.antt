-- A page of the strict grammar without `<body>`: its first token implies `html`, `head` and `body`.
use Rattle.std.proofs.Common.{◌≡◌, ℕ, suc, Bool, true, false, not, ◌&&◌, ◌||◌, List, [], ◌∷◌, ◌++◌, length, refl, sym}
use Rattle.std.proofs.Common.{ap, ◌∙◌, arith, subst, inl, codes}
use Rattle.std.specs.List.{list_all}
use Rattle.std.proofs.lemmas.Bool.{and_parts, not-true, or_right}
use Rattle.std.proofs.lemmas.List.{append-nil}
use Rattle.htmd_lexical.specs.WhiteSpace.{is_ascii_white_space}
use Rattle.htmd_values.specs.ValueTrees.{ValueForest, more, text, element}
use Rattle.htmd_lexical.specs.CharacterClasses.{is_among}
use Rattle.htmd_lexical.specs.LineEnds.{normalized}
use Rattle.htmd_grammar.specs.HtmlDocuments.{skeleton, below_body}
use Rattle.htmd_nodes.specs.Items.{greatest_depth}
use Rattle.htmd_html5_tokens.specs.Tokens.{TagValue, TokenValue, start_tag}
use Rattle.htmd_lexical.specs.declared.content_model.ContentModel.TheVariants.{Normal}
use Rattle.htmd_html5_state.specs.Names.{NameValue, known, html, name_of_text, text_of_name}
use Rattle.htmd_html5_state.specs.Nodes.{NodeValue}
use Rattle.htmd_html5_state.specs.Foreign.{current_is_html, is_math_text_point, is_annotation, is_html_point}
use Rattle.htmd_html5_state.specs.Insertion.{current}
use Rattle.htmd_html5_state.specs.State.{StateValue, initial_state}
use Rattle.htmd_html5_state.specs.declared.modes.InsertionMode.TheVariants.{BeforeHtml}
use Rattle.htmd_html5.specs.Outcomes.{Outcome, again, done}
use Rattle.htmd_html5.specs.BeforeHtml.{with_root, start_before_html, imply_root}
use Rattle.htmd_html5.specs.BeforeHead.{with_head, start_before_head, imply_head}
use Rattle.htmd_html5.specs.InHead.{close_head, start_in_head}
use Rattle.htmd_html5.specs.AfterHead.{with_body, start_after_head, imply_body}
use Rattle.htmd_html5.specs.BodyStarts.{start_in_body}
use Rattle.htmd_html5.specs.AtOnce.{is_not_null}
use Rattle.htmd_html5.specs.Tokens.{StartTagValue}
use Rattle.htmd_html5.specs.Runs.{is_null}
use Rattle.htmd_html5.specs.ForeignContent.{goes_to_html, is_for_math_text, is_for_annotation, is_for_html_point}
use Rattle.htmd_html5.specs.Processing.{by_rules, after_outcome, process_within}
use Rattle.htmd_html5.specs.Texts.{Taken, take_part, put_within}
use Rattle.htmd_html5.specs.Feeding.{named, feed}
use Rattle.htmd_html5.specs.Html5Documents.{read_within, state_after, html5_document}
use Rattle.htmd_html5.specs.Layout.{document_of}
use Rattle.htmd_html5.proofs.ProcessingLemmas.{by_html}
use Rattle.htmd_law_html5.specs.StrictTokens.{tag_named, SpellsForest}
use Rattle.htmd_law_html5.specs.StrictTrees.{head_names, begins_body, PlainTextsAgree}
use Rattle.htmd_law_html5.proofs.StrictTokenCuts.{lines_same}
use Rattle.htmd_law_html5.proofs.StrictRuns.{content_read}
use Rattle.htmd_law_html5.proofs.StrictNodes.{numbers, node, forest_nodes, with_forest}
use Rattle.htmd_law_html5.proofs.StrictOpen.{name_kept}
use Rattle.htmd_law_html5.proofs.StrictLaid.{plain_is_content}
use Rattle.htmd_law_html5.proofs.StrictRules.{InContext}
use Rattle.htmd_law_html5.proofs.StrictModes.{in_flow}
use Rattle.htmd_law_html5.proofs.StrictThrough.{Through, Parts, parts}
use Rattle.htmd_law_html5.proofs.StrictHeld.{FitsForest}
use Rattle.htmd_law_html5.proofs.StrictBuilt.{forest_built}
use Rattle.htmd_law_html5.proofs.StrictPages.{fits_apart, forest_depth, plain_is_simple, forest_fits, in_step, root}
use Rattle.htmd_law_html5.proofs.StrictPages.{page_laid}
use Rattle.htmd_grammar.specs.Rules.{project}
use Rattle.htmd_html5_state.specs.declared.names.TagName.TheVariants as tags
use Rattle.htmd_html5.specs.Tokens as construction
use Rattle.htmd_html5_tokens.specs.Tokens as tokens
use Rattle.htmd_html5_state.specs.Nodes as documents

-- ---- the states up to the body

abbrev first_state : Bool → StateValue
first_state z = record (initial_state z) { mode = BeforeHtml; quirks = true }

abbrev root_state : Bool → StateValue
root_state z = with_root (known tags.Html) [] (first_state z)

abbrev head_state : Bool → StateValue
head_state z = with_head (known tags.Head) [] (root_state z)

abbrev closed_state : Bool → StateValue
closed_state z = close_head (head_state z)

abbrev implied_state : Bool → StateValue
implied_state z = with_body (known tags.Body) [] (closed_state z)

implied_state_is : (z : Bool) → InContext (codes "body" ∷ codes "html" ∷ []) (implied_state z)
implied_state_is z = record {
  mode = in_flow refl (inl refl);
  resets = λ e y. refl;
  content = refl;
  no_skip = refl;
  no_foster = refl;
  no_template = refl;
  listed = inl (inl (inl (inl refl)));
  stands = (
    refl,
    ([], refl),
    omega arith,
    (omega arith, tt),
    (refl, ([], refl), omega arith, tt, tt),
  );
}

-- ---- a start tag that is none of the head

abbrev Passes : NameValue → Type 0
Passes name = is_among head_names (text_of_name name) ≡ false

name_passes : (n : List ℕ) → is_among head_names n ≡ false → Passes (name_of_text n)
name_passes n e = ap (is_among head_names) (name_kept n) ∙ e

root_implied : (name : NameValue) (tag : StartTagValue) (s : StateValue) → Passes name
    → start_before_html name tag s ≡ imply_root s
root_implied (known tags.Html) tag s e = absurd (cc)
root_implied _ tag s e = refl

head_implied : (name : NameValue) (tag : StartTagValue) (s : StateValue) → Passes name
    → start_before_head name tag s ≡ imply_head s
head_implied (known tags.Html) tag s e = absurd (cc)
head_implied _ tag s e = cc

head_closed : (name : NameValue) (tag : StartTagValue) (s : StateValue) → Passes name
    → start_in_head name tag s ≡ again (close_head s)
head_closed (known tags.Html) tag s e = absurd (cc)
head_closed _ tag s e = cc

body_implied : (name : NameValue) (tag : StartTagValue) (s : StateValue) → Passes name
    → start_after_head name tag s ≡ imply_body s
body_implied (known tags.Html) tag s e = absurd (cc)
body_implied _ tag s e = cc

goes_html : (token : construction.TokenValue) (s : StateValue) → current_is_html s.stack ≡ true
    → goes_to_html token s ≡ true
goes_html token s h =
    or_right ((is_for_math_text token && is_math_text_point (current s.stack))
    || (is_for_annotation token && is_annotation (current s.stack))
    || (is_for_html_point token && is_html_point s.nodes (current s.stack))) (current_is_html s.stack) h

-- one turn
turn : (k : ℕ) (token : construction.TokenValue) (s : StateValue) (a : Outcome) → by_rules token s ≡ a
    → process_within (suc k) token s ≡ after_outcome (process_within k token) a
turn k token s a e = ap (after_outcome (process_within k token)) e

start_implied : (z : Bool) (tag : TagValue) → Passes (name_of_text tag.name)
    → feed (start_tag tag) (initial_state z) ≡ feed (start_tag tag) (implied_state z)
start_implied z tag e =
    let x : StartTagValue = named tag in
    let token : construction.TokenValue = construction.start_tag x in
    let html_ = λ (s : StateValue) (h : current_is_html s.stack ≡ true). by_html token s
    (ap not (goes_html token s h)) in
    let new : StateValue = start_in_body x (implied_state z) in
    turn 22 token (initial_state z) _ (html_ (initial_state z) refl)
    ∙ turn 21 token (first_state z) _ (html_ (first_state z) refl ∙ root_implied x.name x (first_state z) e)
    ∙ turn 20 token (root_state z) _ (html_ (root_state z) refl ∙ head_implied x.name x (root_state z) e)
    ∙ turn 19 token (head_state z) _ (html_ (head_state z) refl ∙ head_closed x.name x (head_state z) e)
    ∙ turn 18 token (closed_state z) _ (html_ (closed_state z) refl ∙ body_implied x.name x (closed_state z) e)
    ∙ turn 17 token (implied_state z) (done new) (html_ (implied_state z) refl)
    ∙ sym (turn 24 token (implied_state z) (done new) (html_ (implied_state z) refl))

-- ---- a text that begins with no white space

text_taken : (z : Bool) (b : ℕ) (s : List ℕ) → is_ascii_white_space b ≡ false → is_null b ≡ false
    → take_part (b ∷ s) (initial_state z) ≡ take_part (b ∷ s) (implied_state z)
text_taken z b s e f = rw (e, f) refl

text_implied : (z : Bool) (b : ℕ) (s : List ℕ) → is_ascii_white_space b ≡ false → is_null b ≡ false
    → feed (tokens.text (b ∷ s)) (initial_state z) ≡ feed (tokens.text (b ∷ s)) (implied_state z)
text_implied z b s e f = ap (λ (t : Taken). put_within (length s) t.rest t.state) (text_taken z b s e f)

-- ---- the first token

abbrev First : Bool → List TokenValue → Type 0
First z xs = (x : TokenValue) × (ys : List TokenValue) × (xs ≡ x ∷ ys)
    × (feed x (initial_state z) ≡ feed x (implied_state z))

first_token : (z : Bool) (c : List (List ℕ)) (content : ValueForest) (xs : List TokenValue) → SpellsForest content
    xs → FitsForest c content → begins_body content ≡ true → First z xs
first_token z c (more (text (b ∷ u)) ts) xs k f e =
    let plain = and_parts (is_not_null b) (list_all is_not_null u) (f.1).0 in (
      tokens.text (b ∷ u),
      k.1,
      k.2 ∙ ap (λ (ys : List TokenValue). ys ++ k.1) k.3,
      text_implied z b u (not-true (is_ascii_white_space b) e) (not-true (is_null b) plain.0),
    )
first_token z c (more (element n attributes children) ts) xs k f e =
    let q = k.3 in (
      start_tag (tag_named n attributes q.0),
      (q.1 ++ q.2) ++ k.1,
      k.2 ∙ ap (λ (ys : List TokenValue). ys ++ k.1) q.3,
      start_implied z (tag_named n attributes q.0) (name_passes n (not-true (is_among head_names n) e)),
    )
first_token z c _ xs k f e = absurd (cc)

-- ---- the page

implied_nodes : (z : Bool) (content : ValueForest)
    → with_forest 3 content (implied_state z).nodes ≡ root ∷ forest_nodes 0 1 (skeleton content)
implied_nodes z content =
    let held : List NodeValue = forest_nodes 3 4 content in
    ap (λ (ns : List NodeValue). root ∷ node (documents.element (html (name_of_text (codes "html"))) []) 0
    (2 ∷ 3 ∷ []) ∷ node (documents.element (html (name_of_text (codes "head"))) []) 1 []
    ∷ node (documents.element (html (name_of_text (codes "body"))) []) 1 (numbers 4 content) ∷ ns)
    (sym (append-nil (held ++ []) ∙ append-nil held))

pub texts_agree : PlainTextsAgree
unfolding html5_document
texts_agree z s content k mark e begins h =
    let r = content_read z s content k (plain_is_simple content e) h in
    let f = forest_fits z content (codes "body" ∷ codes "html" ∷ []) true s k.no_null h in
    let b = forest_built z content (codes "body") (codes "html" ∷ []) r.0 (implied_state z) r.1 e f
    (implied_state_is z)
    (λ t. refl) in
    let first = first_token z (codes "body" ∷ codes "html" ∷ []) content r.0 r.1 f begins in
    let run : Parts z (implied_state z) (first.0 ∷ first.1) b.0 =
    subst (λ xs. Parts z (implied_state z) xs b.0) first.2 (parts z b.1.through) in
    let from_start : Parts z (initial_state z) (first.0 ∷ first.1) b.0 = (
      refl,
      ap (λ (y : StateValue). y.content) first.3 ∙ run.1,
      subst (λ y. Through z y first.1 b.0) (sym first.3) run.2,
    ) in
    let read : read_within (length s) s (initial_state z) ≡ b.0 =
    in_step z (length s) Normal Normal s [] r.0 (initial_state z) b.0 (codes "body") (codes "html" ∷ []) r.2 refl refl
    (subst (λ xs. Parts z (initial_state z) xs b.0) (sym first.2) from_start) b.1.in_context (refl, inl b.1.mode)
    (omega arith) in
    let whole : state_after z s ≡ b.0 =
    ap (λ (t : List ℕ). read_within (length t) t (initial_state z))
    (ap normalized mark ∙ lines_same s k.line_feeds) ∙ read in
    ap (λ st. document_of greatest_depth st.nodes) whole
    ∙ ap (document_of greatest_depth) (b.1.nodes_are ∙ implied_nodes z content)
    ∙ page_laid content (plain_is_content content e) (fits_apart (codes "body" ∷ codes "html" ∷ []) content f)
    (omega (arith, forest_depth (project z) content below_body true s h (omega arith)))
