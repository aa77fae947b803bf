-- An element that holds only text, by the rules of the body: its tags and its text put it and its text.
use Rattle.std.proofs.Common.{◌≡◌, ℕ, ◌<◌, Bool, true, false, List, [], ◌∷◌, ◌++◌, length, None, refl, sym, ap, ◌∙◌}
use Rattle.std.proofs.Common.{arith, subst, codes, length-append}
use Rattle.htmd_lexical.specs.AttributePairs.{AttributePair}
use Rattle.htmd_values.specs.ValueTrees.{ValueTree, ValueForest, none, more, text, element}
use Rattle.htmd_lexical.specs.CharacterClasses.{is_among, is_empty}
use Rattle.htmd_html5_tokens.specs.Tokens.{TokenValue, start_tag, end_tag}
use Rattle.htmd_lexical.specs.declared.content_model.ContentModel.TheVariants.{Normal, Raw}
use Rattle.htmd_lexical.specs.declared.content_model.RawElement.{RawElement}
use Rattle.htmd_html5_state.specs.Names.{known, html, name_of_text}
use Rattle.htmd_html5_state.specs.Nodes.{NodeValue, append_children, add, add_text, last_in}
use Rattle.htmd_html5_state.specs.Foreign.{current_is_html}
use Rattle.htmd_html5_state.specs.OpenElements.{OpenValue}
use Rattle.htmd_html5_state.specs.Insertion.{current, place, place_in, opened, insert_raw}
use Rattle.htmd_html5_state.specs.Formatting.{reconstruct}
use Rattle.htmd_html5_state.specs.State.{StateValue}
use Rattle.htmd_html5.specs.AtOnce.{is_without_null}
use Rattle.htmd_html5.specs.BodyStarts.{block_rule, formatting_rule, phrasing_rule}
use Rattle.htmd_html5.specs.Feeding.{feed, feed_text, is_text_mode, without_line_feed}
use Rattle.htmd_html5.specs.SharedRules.{no_frameset}
use Rattle.htmd_law_html5.specs.StrictTokens.{content_in, tag_named}
use Rattle.htmd_law_html5.specs.StrictTrees.{text_names}
use Rattle.htmd_law_html5.proofs.StrictNodes.{node, append_length, added, last_text, text_added, new_last_text}
use Rattle.htmd_law_html5.proofs.StrictNodes.{with_tree, with_forest, filled}
use Rattle.htmd_law_html5.proofs.StrictNames.{Each, among_each}
use Rattle.htmd_law_html5.proofs.StrictOpen.{stands_html}
use Rattle.htmd_law_html5.proofs.StrictThrough.{Through, nothing, with_fed}
use Rattle.htmd_law_html5.proofs.StrictRules.{InContext, Flows, Fits, within, fed_start, nothing_again, no_p_closed}
use Rattle.htmd_html5_tokens.specs.Tokens as tokens
use Rattle.htmd_lexical.specs.declared.content_model.RawElement.TheVariants as raw
use Rattle.htmd_html5_state.specs.declared.names.TagName.TheVariants as tags
use Rattle.htmd_html5_state.specs.Nodes as documents

-- ---- where it stands, and the element

abbrev pub at : StateValue → ℕ
at s = (current s.stack).node

pub at_end : (p : List ℕ) (c : List (List ℕ)) (s : StateValue) → InContext (p ∷ c) s
    → place s ≡ last_in (at s)
at_end p c s h = rw h.no_foster refl

-- the nodes of an element without its content
pub element_added : (p : List ℕ) (c : List (List ℕ)) (n : List ℕ) (attributes : List AttributePair)
    (s : StateValue) → InContext (p ∷ c) s
    → add (documents.element (html (name_of_text n)) attributes) (place s) s.nodes
    ≡ append_children (at s) (length s.nodes ∷ []) s.nodes
    ++ node (documents.element (html (name_of_text n)) attributes) (at s) [] ∷ []
element_added p c n attributes s h =
    ap (λ there. add (documents.element (html (name_of_text n)) attributes) there s.nodes) (at_end p c s h)
    ∙ added (documents.element (html (name_of_text n)) attributes) (at s) s.nodes (within p c s h)

-- an element starts with nothing in it
pub starts_empty : (p n : List ℕ) (c : List (List ℕ)) (attributes : List AttributePair) (s : StateValue)
    → InContext (p ∷ c) s
    → last_text (add (documents.element (html (name_of_text n)) attributes) (place s) s.nodes)
    (length s.nodes) ≡ None
starts_empty p n c attributes s h =
    ap (λ ns. last_text ns (length s.nodes)) (element_added p c n attributes s h)
    ∙ new_last_text (append_children (at s) (length s.nodes ∷ []) s.nodes)
    (documents.element (html (name_of_text n)) attributes) (at s) (length s.nodes)
    (append_length (at s) (length s.nodes ∷ []) s.nodes)

-- ---- what it holds

abbrev pub IsOneText : ValueForest → Type 0
IsOneText none = Unit {0}
IsOneText (more (text u) none) = Unit {0}
IsOneText _ = ⊥

module _ (z : Bool) where
  -- these tokens put a tree, and the state is as before
  pub record Put (s : StateValue) (t : ValueTree) (xs : List TokenValue) : Type 0 where
    pub nodes : List NodeValue
    pub ok : Bool
    pub nodes_are : nodes ≡ with_tree (at s) t s.nodes
    pub through : Through z s xs (record s { nodes = nodes; frameset_ok = ok })

  module _ (p : List ℕ) (c : List (List ℕ)) (s : StateValue) (h : InContext (p ∷ c) s) (w : Flows p s) where
    -- the element is open, and the tokenizer told
    abbrev held : OpenValue → List NodeValue → Bool → RawElement → StateValue
    held e nodes ok kind = record s { nodes = nodes; stack = e ∷ s.stack; frameset_ok = ok; content = Raw kind }

    abbrev one : List ℕ → OpenValue
    one n = opened (length s.nodes) (html (name_of_text n))

    abbrev put : List ℕ → List AttributePair → List NodeValue
    put n attributes = add (documents.element (html (name_of_text n)) attributes) (place s) s.nodes

    -- ---- the start tag

    abbrev Starts : List ℕ → Type 0
    Starts n =
        Fits (p ∷ c) n → (attributes : List AttributePair) (slash : Bool)
        → (kind : RawElement) × (ok : Bool) × (content_in z n ≡ Raw kind) × (is_text_mode (Raw kind) ≡ true)
        × (feed (start_tag (tag_named n attributes slash)) s ≡ held (one n) (put n attributes) ok kind)

    all_start : Each Starts text_names
    unfolding block_rule formatting_rule phrasing_rule
    all_start = (
      λ f a b. (raw.Iframe, false, refl, refl, fed_start p c s h w (codes "iframe") f a b),
      (
        λ f a b. (raw.Noembed, s.frameset_ok, refl, refl, fed_start p c s h w (codes "noembed") f a b),
        (
          λ f a b. (raw.Noframes, s.frameset_ok, refl, refl, fed_start p c s h w (codes "noframes") f a b),
          (
            λ f a b. (raw.Style, s.frameset_ok, refl, refl, fed_start p c s h w (codes "style") f a b),
            (
              λ f a b. (raw.Title, s.frameset_ok, refl, refl, fed_start p c s h w (codes "title") f a b),
              (
                λ f a b. (
                  raw.Xmp,
                  false,
                  refl,
                  refl,
                  fed_start p c s h w (codes "xmp") f a b
                      ∙ ap (λ stack. no_frameset (insert_raw (known tags.Xmp) raw.Xmp a
                      (reconstruct (record s { stack = stack })))) (no_p_closed p c s h (f.paragraph refl))
                      ∙ ap (λ (y : StateValue). no_frameset (insert_raw (known tags.Xmp) raw.Xmp a y))
                      (nothing_again p c s h),
                ),
                tt,
              ),
            ),
          ),
        ),
      ),
    )

    starts : (n : List ℕ) → is_among text_names n ≡ true → Starts n
    starts n e = among_each Starts text_names n e all_start

    -- ---- the text

    there : (e : OpenValue) (y : StateValue) → y.foster_parenting ≡ false → place_in e y ≡ last_in e.node
    there e y f = rw f refl

    abbrev skipping : OpenValue → List NodeValue → Bool → RawElement → Bool → StateValue
    skipping e nodes ok kind b = record (held e nodes ok kind) { skips_line_feed = b }

    filled_text : (u : List ℕ) → is_without_null u ≡ true → is_empty u ≡ false
    filled_text [] e = absurd (cc)
    filled_text (b ∷ u) e = refl

    text_held : (e : OpenValue) (nodes : List NodeValue) (ok : Bool) (kind : RawElement) (u : List ℕ)
        → is_text_mode (Raw kind) ≡ true → is_without_null u ≡ true
        → feed (tokens.text u) (held e nodes ok kind) ≡ held e (add_text u (last_in e.node) nodes) ok kind
    text_held e nodes ok kind u m f =
        let now : StateValue = skipping e nodes ok kind false in
        let raw_text : feed_text u now ≡ skipping e (add_text u (place_in e now) nodes) ok kind false =
        rw (m, filled_text u f) refl in
        ap (λ (b : Bool). feed_text (without_line_feed b u) now) h.no_skip ∙ raw_text
        ∙ ap (λ at_. skipping e (add_text u at_ nodes) ok kind false) (there e now h.no_foster)
        ∙ ap (skipping e (add_text u (last_in e.node) nodes) ok kind) (sym h.no_skip)

    -- ---- the end tag

    end_held : (e : OpenValue) (nodes : List NodeValue) (ok : Bool) (kind : RawElement) (n : List ℕ)
        → is_text_mode (Raw kind) ≡ true → feed (end_tag (tag_named n [] false)) (held e nodes ok kind)
        ≡ record s { nodes = nodes; frameset_ok = ok }
    end_held e nodes ok kind n m =
        let closed : feed (end_tag (tag_named n [] false)) (held e nodes ok kind)
        ≡ record s { nodes = nodes; frameset_ok = ok; skips_line_feed = false; content = Normal } =
        rw m refl in
        closed ∙ ap (λ now. record s { nodes = nodes; frameset_ok = ok; skips_line_feed = false; content = now })
        (sym h.content)
        ∙ ap (λ (b : Bool). record s { nodes = nodes; frameset_ok = ok; skips_line_feed = b }) (sym h.no_skip)

    -- ---- the element

    module _ (n : List ℕ) (e : is_among text_names n ≡ true) (f : Fits (p ∷ c) n)
        (attributes : List AttributePair) (slash : Bool) where
      open_there : current_is_html s.stack ≡ true
      open_there = stands_html s.nodes (p ∷ c) s.stack h.stands

      -- the end tag, with these nodes
      to_end : (nodes : List NodeValue) (ok : Bool) (kind : RawElement) → is_text_mode (Raw kind) ≡ true
          → Through z (held (one n) nodes ok kind) (end_tag (tag_named n [] false) ∷ [])
          (record s { nodes = nodes; frameset_ok = ok })
      to_end nodes ok kind m =
          with_fed z (end_tag (tag_named n [] false)) (held (one n) nodes ok kind) _ [] _ refl h.content
          (end_held (one n) nodes ok kind n m) nothing

      pub none_put : Put s (element n attributes none)
          (start_tag (tag_named n attributes slash) ∷ end_tag (tag_named n [] false) ∷ [])
      none_put =
          let r = starts n e f attributes slash in
          record {
            nodes = put n attributes;
            ok = r.1;
            nodes_are = element_added p c n attributes s h;
            through = with_fed z (start_tag (tag_named n attributes slash)) s _ _ _ open_there (sym r.2) r.4
                (to_end (put n attributes) r.1 r.0 r.3);
          }

      longer : length s.nodes < length (put n attributes)
      longer =
          let front : List NodeValue = append_children (at s) (length s.nodes ∷ []) s.nodes in
          let new : NodeValue = node (documents.element (html (name_of_text n)) attributes) (at s) [] in
          let l : length s.nodes < length (front ++ new ∷ []) =
          omega (arith, append_length (at s) (length s.nodes ∷ []) s.nodes, length-append front (new ∷ [])) in
          subst (λ ns. length s.nodes < length ns) (sym (element_added p c n attributes s h)) l

      pub text_put : (u : List ℕ) → is_without_null u ≡ true → Put s (element n attributes (more (text u) none))
          (start_tag (tag_named n attributes slash) ∷ tokens.text u ∷ end_tag (tag_named n [] false) ∷ [])
      text_put u i =
          let r = starts n e f attributes slash in
          let nodes : List NodeValue = add_text u (last_in (length s.nodes)) (put n attributes) in
          let texted = with_fed z (tokens.text u) (held (one n) (put n attributes) r.1 r.0) _ _ _ refl refl
          (text_held (one n) (put n attributes) r.1 r.0 u r.3 i) (to_end nodes r.1 r.0 r.3) in
          record {
            nodes = nodes;
            ok = r.1;
            nodes_are = text_added u (length s.nodes) (put n attributes) longer (starts_empty p n c attributes s h)
                ∙ ap (with_forest (length s.nodes) (more (text u) none)) (element_added p c n attributes s h)
                ∙ filled (at s) n attributes (more (text u) none) s.nodes;
            through = with_fed z (start_tag (tag_named n attributes slash)) s _ _ _ open_there (sym r.2) r.4 texted;
          }
