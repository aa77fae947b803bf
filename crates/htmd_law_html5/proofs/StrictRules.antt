-- What a tag of a plain element does by the rules of the mode "in body", where the strict grammar allows it.
use Rattle.std.proofs.Common.{◌≡◌, ℕ, ◌<◌, Bool, true, false, not, ◌&&◌, ◌||◌, List, [], ◌∷◌, ◌++◌, length, Option}
use Rattle.std.proofs.Common.{Some, None, refl, sym, ap, ◌∙◌, inl, inr, subst, codes}
use Rattle.std.specs.Prelude.{nat_lt}
use Rattle.std.proofs.lemmas.Bool.{or_right, lt-ltb}
use Rattle.htmd_lexical.proofs.Cases.{test}
use Rattle.htmd_lexical.specs.AttributePairs.{AttributePair}
use Rattle.htmd_lexical.specs.CharacterClasses.{is_among}
use Rattle.htmd_grammar.specs.Nesting.{parent_name, closes_paragraph, excludes_itself, is_outside, is_met_before}
use Rattle.htmd_grammar.specs.Nesting.{holds_parts, fits_table}
use Rattle.htmd_html5_tokens.specs.Tokens.{start_tag, comment, text, end_of_file}
use Rattle.htmd_lexical.specs.declared.content_model.ContentModel.TheVariants.{Normal}
use Rattle.htmd_html5_state.specs.Names.{NameValue, known, other, html, name_of_text}
use Rattle.htmd_html5_state.specs.Nodes.{NodeValue, element, add, kind_at}
use Rattle.htmd_html5_state.specs.OpenElements.{OpenValue, is_in_scope, current_is, close}
use Rattle.htmd_html5_state.specs.Foreign.{current_is_html, is_math_text_point, is_annotation, is_html_point}
use Rattle.htmd_html5_state.specs.Insertion.{opened, current, place, insert_comment, insert_element, insert_void}
use Rattle.htmd_html5_state.specs.Sets.{bounds}
use Rattle.htmd_html5_state.specs.Formatting.{reconstruct, insert_formatting, with_room, with_room_for}
use Rattle.htmd_html5_state.specs.Adoption.{formatting_element}
use Rattle.htmd_html5_state.specs.State.{StateValue}
use Rattle.htmd_html5_state.specs.declared.names.TagName.{TagName}
use Rattle.htmd_html5_state.specs.declared.sets.NameSet.{NameSet}
use Rattle.htmd_html5_state.specs.declared.sets.Scope.{Scope}
use Rattle.htmd_html5_state.specs.declared.modes.InsertionMode.{InsertionMode}
use Rattle.htmd_html5_state.specs.Resetting.{mode_of}
use Rattle.htmd_html5_state.specs.declared.sets.NameSet.TheVariants.{Only, Headings, DescriptionParts}
use Rattle.htmd_html5_state.specs.declared.sets.Scope.TheVariants.{Default, Button, Items}
use Rattle.htmd_html5_state.proofs.AppendedTextsLemmas.{AppendsText, appends-reconstruct}
use Rattle.htmd_html5.specs.AtOnce.{is_body_mode, is_without_null, takes_at_once, put_at_once}
use Rattle.htmd_html5.specs.Outcomes.{Outcome, done}
use Rattle.htmd_html5.specs.SharedRules.{no_frameset}
use Rattle.htmd_html5.specs.BodyStarts.{start_rule, block_rule, formatting_rule, phrasing_rule, start_by}
use Rattle.htmd_html5.specs.BodyStarts.{start_in_body}
use Rattle.htmd_html5.specs.BodyStarts.{close_heading, forget, close_no_break, is_hidden}
use Rattle.htmd_html5.specs.InBody.{end_of_file_in_body, in_body}
use Rattle.htmd_html5.specs.InCell.{in_cell}
use Rattle.htmd_html5.specs.Modes.{in_mode}
use Rattle.htmd_html5.specs.ForeignContent.{goes_to_html, is_foreign, is_for_math_text, is_for_annotation}
use Rattle.htmd_html5.specs.ForeignContent.{is_for_html_point}
use Rattle.htmd_html5.specs.Processing.{process}
use Rattle.htmd_html5.specs.Feeding.{is_text_mode, with_nothing_skipped, out_of_text_mode, named, feed, feed_text}
use Rattle.htmd_html5.specs.Feeding.{without_line_feed}
use Rattle.htmd_html5.proofs.ProcessingLemmas.{by_html, process_once}
use Rattle.htmd_html5.proofs.AtOnceLemmas.{put_as_parts}
use Rattle.htmd_law_html5.specs.StrictTokens.{tag_named}
use Rattle.htmd_law_html5.specs.StrictTrees.{heading_names}
use Rattle.htmd_law_html5.proofs.StrictOpen.{HasNames, Fewer, fewer_with_room, entries, none_closed, Stands}
use Rattle.htmd_law_html5.proofs.StrictOpen.{stands_html, stands_within, the_document, scope_none, none_listed}
use Rattle.htmd_law_html5.proofs.StrictNames.{Each, among_each, PlainCase, is_formatting_case, VoidCase, in_text}
use Rattle.htmd_law_html5.proofs.StrictNames.{of_another}
use Rattle.htmd_law_html5.proofs.StrictNames.{input, separator, in_head, no_break, button, unknown, ordinary}
use Rattle.htmd_law_html5.proofs.StrictNames.{formatting, anchor, paragraph, block, heading, list_item, part}
use Rattle.htmd_law_html5.proofs.StrictSets.{one_spelled, part_names, heading_has}
use Rattle.htmd_law_html5.proofs.StrictModes.{IsFlow, ModeIn, in_table, in_section, in_row, in_flow, flow_fits}
use Rattle.htmd_law_html5.proofs.StrictModes.{starts_in_cell, starts_in_caption}
use Rattle.htmd_html5.specs.InCaption.{in_caption}
use Rattle.htmd_grammar.specs.Nesting as nesting
use Rattle.htmd_html5_state.specs.declared.names.TagName.TheVariants as tags
use Rattle.htmd_html5.specs.Tokens as construction

-- ---- what the grammar asks

abbrev lists : List (List ℕ)
lists = codes "ul" ∷ codes "ol" ∷ codes "menu" ∷ codes "dir" ∷ []

abbrev met : List (List ℕ) → List (List ℕ) → List (List ℕ) → Bool
met names ends c = is_met_before names ends (c ++ the_document)

-- the element may stand in the context
pub record Fits (c : List (List ℕ)) (n : List ℕ) : Type 0 where
  pub paragraph : closes_paragraph n ≡ true → met (codes "p" ∷ []) [] c ≡ false
  pub itself : excludes_itself n ≡ true → met (n ∷ []) [] c ≡ false
  pub inside : is_outside n ≡ false
  pub heading : nesting.is_heading n ≡ true → nesting.is_heading (parent_name (c ++ the_document)) ≡ false
  pub item : n ≡ codes "li" → met (codes "li" ∷ []) lists c ≡ false
  pub part : is_among (codes "dd" ∷ codes "dt" ∷ []) n ≡ true → met (codes "dd" ∷ codes "dt" ∷ [])
      (codes "dl" ∷ []) c ≡ false
  pub table : fits_table (parent_name (c ++ the_document)) n ≡ true

-- ---- the state

-- these elements are open in the mode in which their content is read, and no formatting elements are listed but among
-- them
pub record InContext (c : List (List ℕ)) (s : StateValue) : Type 0 where
  pub mode : ModeIn (parent_name c) s.mode
  pub resets : holds_parts (parent_name c) ≡ false → (y : StateValue) → mode_of s.stack y ≡ s.mode
  pub content : s.content ≡ Normal
  pub no_skip : s.skips_line_feed ≡ false
  pub no_foster : s.foster_parenting ≡ false
  pub no_template : s.template_modes ≡ []
  pub listed : Fewer s.formatting (entries s.stack)
  pub stands : Stands s.nodes c s.stack

-- the rules of the body are followed
abbrev pub Flows : List ℕ → StateValue → Type 0
Flows p s = (holds_parts p ≡ false) × IsFlow s.mode

module _ (p : List ℕ) (c : List (List ℕ)) (s : StateValue) (h : InContext (p ∷ c) s) where
  -- ---- what is as it was

  pub unskipped : with_nothing_skipped s ≡ s
  unskipped = ap (λ (b : Bool). record s { skips_line_feed = b }) (sym h.no_skip)

  pub no_raw : is_text_mode s.content ≡ false
  no_raw = rw h.content refl

  is_html_there : current_is_html s.stack ≡ true
  is_html_there = stands_html s.nodes (p ∷ c) s.stack h.stands

  pub within : (current s.stack).node < length s.nodes
  within = stands_within s.nodes p c s.stack h.stands

  at_end : AppendsText s
  at_end =
      record { fosters = h.no_foster; listed = rw (none_closed s.formatting s.stack h.listed) refl; within = within }

  pub nothing_again : reconstruct s ≡ s
  nothing_again = appends-reconstruct s at_end

  pub goes : (token : construction.TokenValue) → goes_to_html token s ≡ true
  goes token =
      or_right ((is_for_math_text token && is_math_text_point (current s.stack))
      || (is_for_annotation token && is_annotation (current s.stack))
      || (is_for_html_point token && is_html_point s.nodes (current s.stack))) (current_is_html s.stack) is_html_there

  pub processed : (token : construction.TokenValue) (new : StateValue) → is_foreign token s ≡ false
      → in_mode s.mode token s ≡ done new → process token s ≡ new
  processed token new f e = sym (process_once token s new (sym (by_html token s f ∙ e)))

  -- a token that is no text, with what is done with it in the mode
  pub fed : (token : construction.TokenValue) (new : StateValue) → is_foreign token s ≡ false
      → in_mode s.mode token s ≡ done new → process token (out_of_text_mode (with_nothing_skipped s)) ≡ new
  fed token new f e =
      ap (λ (x : StateValue). process token (out_of_text_mode x)) unskipped ∙ rw no_raw (processed token new f e)

  pub by_mode : (token : construction.TokenValue) {m : InsertionMode} → s.mode ≡ m
      → in_mode s.mode token s ≡ in_mode m token s
  by_mode token e = ap (λ m. in_mode m token s) e

  pub by_flow : (token : construction.TokenValue) {o : Outcome} → IsFlow s.mode → in_body token s ≡ o
      → in_cell token s ≡ o → in_caption token s ≡ o → in_mode s.mode token s ≡ o
  by_flow token (inl e) b k l = by_mode token e ∙ b
  by_flow token (inr (inl e)) b k l = by_mode token e ∙ k
  by_flow token (inr (inr e)) b k l = by_mode token e ∙ l

  pub comment_fed : (u : List ℕ) → feed (comment u) s ≡ insert_comment u s
  comment_fed u =
      fed (construction.comment u) (insert_comment u s) (ap not (goes (construction.comment u))) (by_case h.mode)
    where
      by_case : ModeIn p s.mode → in_mode s.mode (construction.comment u) s ≡ done (insert_comment u s)
      by_case (in_table q e) = by_mode (construction.comment u) e
      by_case (in_section q e) = by_mode (construction.comment u) e
      by_case (in_row q e) = by_mode (construction.comment u) e
      by_case (in_flow q e) = by_flow (construction.comment u) e refl refl refl

  -- ---- start tags

  -- what isn't met closes nothing
  none_closed_of : (set : NameSet) (scope : Scope) (names ends : List (List ℕ)) → HasNames set names
      → Each (λ m. bounds scope (html (name_of_text m)) ≡ true) ends → met names ends (p ∷ c) ≡ false
      → close set scope s.stack ≡ s.stack
  none_closed_of set scope names ends k b e =
      let none_ : is_in_scope set scope s.stack ≡ false =
      scope_none set scope names ends k (λ n f. among_each _ ends n f b) s.nodes (p ∷ c) s.stack h.stands e in
      rw none_ refl

  pub no_p_closed : met (codes "p" ∷ []) [] (p ∷ c) ≡ false → close (Only tags.P) Button s.stack ≡ s.stack
  no_p_closed e = none_closed_of (Only tags.P) Button (codes "p" ∷ []) [] (one_spelled tags.P) tt e

  no_li_closed : met (codes "li" ∷ []) lists (p ∷ c) ≡ false → close (Only tags.Li) Items s.stack ≡ s.stack
  no_li_closed e =
      none_closed_of (Only tags.Li) Items (codes "li" ∷ []) lists (one_spelled tags.Li)
      (refl, (refl, (refl, (refl, tt)))) e

  no_part_closed : met (codes "dd" ∷ codes "dt" ∷ []) (codes "dl" ∷ []) (p ∷ c) ≡ false
      → close DescriptionParts Items s.stack ≡ s.stack
  no_part_closed e =
      none_closed_of DescriptionParts Items (codes "dd" ∷ codes "dt" ∷ []) (codes "dl" ∷ []) part_names
      (refl, tt) e

  no_heading_closed : is_among heading_names p ≡ false → close_heading s.stack ≡ s.stack
  no_heading_closed e =
      let none_ : current_is Headings s.stack ≡ false = by_stack s.stack h.stands in
      rw none_ refl
    where
      by_stack : (stack : List OpenValue) → Stands s.nodes (p ∷ c) stack → current_is Headings stack ≡ false
      by_stack [] k = absurd k
      by_stack (x ∷ stack) k = rw k.0 (heading_has p e)

  no_anchor : met (codes "a" ∷ []) [] (p ∷ c) ≡ false → formatting_element tags.A s ≡ None
  no_anchor e = none_listed tags.A (codes "a" ∷ []) (one_spelled tags.A) s.nodes (p
      ∷ c) s.stack s.formatting h.stands h.listed e

  itself_met : (n m : List ℕ) → n ≡ m → Fits (p ∷ c) n → excludes_itself n ≡ true → met (m ∷ []) []
      (p ∷ c) ≡ false
  itself_met n m x f e = subst (λ k. met (k ∷ []) [] (p ∷ c) ≡ false) x (f.itself e)

  abbrev value : NameValue → List AttributePair → Bool → construction.StartTagValue
  value name attributes slash = record { name = name; attributes = attributes; self_closing = slash }

  -- the element is put, with this list of formatting elements
  abbrev pub opened_with : List ℕ → List AttributePair → List (Option ℕ) → Bool → StateValue
  opened_with n attributes list ok = record s {
    nodes = add (element (html (name_of_text n)) attributes) (place s) s.nodes;
    stack = opened (length s.nodes) (html (name_of_text n)) ∷ s.stack;
    formatting = list;
    frameset_ok = ok;
  }

  abbrev put_in : TagName → List AttributePair → List OpenValue → StateValue
  put_in tag attributes stack = insert_element (known tag) attributes (record s { stack = stack })

  abbrev put_item : TagName → List AttributePair → List OpenValue → StateValue
  put_item tag attributes stack =
      insert_element (known tag) attributes (record s { stack = stack; frameset_ok = false })

  module _ (w : Flows p s) where
    pub end_of_file_fed : feed end_of_file s ≡ s
    end_of_file_fed =
        fed construction.end_of_file s refl
        (by_flow construction.end_of_file w.1 nothing_ended nothing_ended nothing_ended)
      where
        nothing_ended : end_of_file_in_body s ≡ done s
        nothing_ended = rw h.no_template refl

    takes : takes_at_once s ≡ true
    takes =
        let l : nat_lt (current s.stack).node (length s.nodes) ≡ true = lt-ltb _ _ within in
        rw (body_mode w.1, is_html_there, h.no_foster, none_closed s.formatting s.stack h.listed, l) refl
      where
        body_mode : IsFlow s.mode → is_body_mode s.mode ≡ true
        body_mode (inl e) = rw e refl
        body_mode (inr (inl e)) = rw e refl
        body_mode (inr (inr e)) = rw e refl

    pub text_fed : (u : List ℕ) → is_without_null u ≡ true → feed (text u) s ≡ put_at_once u s
    text_fed u e =
        ap (λ (x : StateValue). feed_text (without_line_feed s.skips_line_feed u) x) unskipped
        ∙ ap (λ (b : Bool). feed_text (without_line_feed b u) s) h.no_skip
        ∙ rw no_raw (sym (put_as_parts u s takes e))

    pub fed_start : (n : List ℕ) → Fits (p ∷ c) n → (attributes : List AttributePair) (slash : Bool)
        → feed (start_tag (tag_named n attributes slash)) s ≡ start_in_body (named (tag_named n attributes slash)) s
    fed_start n f attributes slash =
        let tag : construction.StartTagValue = named (tag_named n attributes slash) in
        let token : construction.TokenValue = construction.start_tag tag in
        fed token (start_in_body tag s) (ap not (goes token))
        (by_flow token w.1 refl (starts_in_cell n (flow_fits p n w.0 f.table) tag s)
        (starts_in_caption n (flow_fits p n w.0 f.table) tag s))

    -- a tag with the rules of another one
    by_rule : {rule : _} (n : List ℕ) → Fits (p ∷ c) n → (tag : TagName) → name_of_text n ≡ known tag
        → start_rule tag ≡ rule → (attributes : List AttributePair) (slash : Bool)
        → feed (start_tag (tag_named n attributes slash)) s ≡ start_by rule (value (known tag) attributes slash) s
    by_rule n f tag name rule attributes slash =
        fed_start n f attributes slash
        ∙ rw name (ap (λ r. start_by r (value (known tag) attributes slash) s) rule)

    pub plain_start : (n : List ℕ) (k : PlainCase n) → Fits (p ∷ c) n → is_formatting_case k ≡ false →
        (attributes : List AttributePair) (slash : Bool) →
        (ok : Bool) × (feed (start_tag (tag_named n attributes slash)) s ≡ opened_with n attributes s.formatting ok)
    unfolding block_rule formatting_rule phrasing_rule
    plain_start n (unknown t q) f e attributes slash = (
      s.frameset_ok,
      fed_start n f attributes slash ∙ rw q (ap (insert_element (other t) attributes) nothing_again),
    )
    plain_start n (ordinary x) f e attributes slash = (
      s.frameset_ok,
      by_rule n f x.0 x.1 x.2 attributes slash
          ∙ rw x.1 (ap (insert_element (known x.0) attributes) nothing_again),
    )
    plain_start n (formatting x) f e attributes slash = absurd (cc)
    plain_start n (anchor x) f e attributes slash = absurd (cc)
    plain_start n (paragraph x) f e attributes slash =
        let closed = no_p_closed (f.paragraph (rw x refl)) in (
          s.frameset_ok,
          fed_start n f attributes slash ∙ rw x (ap (put_in tags.P attributes) closed),
        )
    plain_start n (block x) f e attributes slash = (
      s.frameset_ok,
      by_rule n f (x.0).0 (x.0).1 (x.0).2 attributes slash
          ∙ rw (x.0).1 (ap (put_in (x.0).0 attributes) (no_p_closed (f.paragraph x.1))),
    )
    plain_start n (heading x) f e attributes slash = (
      s.frameset_ok,
      by_rule n f (x.0).0 (x.0).1 (x.0).2 attributes slash
          ∙ rw (x.0).1 (ap (λ stack. put_in (x.0).0 attributes (close_heading stack)) (no_p_closed (f.paragraph x.1))
          ∙ ap (put_in (x.0).0 attributes) (no_heading_closed (f.heading x.2))),
    )
    plain_start n (no_break x) f e attributes slash = absurd (cc)
    plain_start n (button x) f e attributes slash =
        let closed = none_closed_of (Only tags.Button) Default (codes "button" ∷ []) [] (one_spelled tags.Button) tt
        (itself_met n (codes "button") x f (rw x refl)) in (
          false,
          fed_start n f attributes slash
              ∙ rw x (ap (λ stack. no_frameset (insert_element (known tags.Button) attributes
              (reconstruct (record s { stack = stack })))) closed
              ∙ ap (λ (y : StateValue). no_frameset (insert_element (known tags.Button) attributes y))
              nothing_again),
        )
    plain_start n (list_item x) f e attributes slash =
        let li = no_li_closed (f.item x) in
        let closed = no_p_closed (f.paragraph (rw x refl)) in (
          false,
          fed_start n f attributes slash
              ∙ rw x (ap (λ stack. put_item tags.Li attributes (close (Only tags.P) Button stack)) li
              ∙ ap (put_item tags.Li attributes) closed),
        )
    plain_start n (part x) f e attributes slash = (
      false,
      by_rule n f (x.0).0 (x.0).1 (x.0).2 attributes slash
          ∙ rw (x.0).1 (ap (λ stack. put_item (x.0).0 attributes (close (Only tags.P) Button stack))
          (no_part_closed (f.part x.2))
          ∙ ap (put_item (x.0).0 attributes) (no_p_closed (f.paragraph x.1))),
    )

    -- a formatting element is listed
    listed_room : List ℕ → List AttributePair → List (Option ℕ)
    listed_room n attributes =
        let nodes : List NodeValue = add (element (html (name_of_text n)) attributes) (place s) s.nodes in
        with_room (with_room_for nodes (kind_at nodes (length s.nodes)) s.formatting)

    pub formatting_start : (n : List ℕ) (k : PlainCase n) → Fits (p ∷ c) n → is_formatting_case k ≡ true
        → (attributes : List AttributePair) (slash : Bool) → (room : List (Option ℕ)) × Fewer room s.formatting
        × (feed (start_tag (tag_named n attributes slash)) s
        ≡ opened_with n attributes (Some (length s.nodes) ∷ room) s.frameset_ok)
    unfolding block_rule formatting_rule phrasing_rule listed_room
    formatting_start n (unknown t q) f e attributes slash = absurd (cc)
    formatting_start n (ordinary x) f e attributes slash = absurd (cc)
    formatting_start n (formatting x) f e attributes slash = (
      listed_room n attributes,
      fewer_with_room _ _ s.formatting,
      by_rule n f x.0 x.1 x.2 attributes slash
          ∙ rw x.1 (ap (insert_formatting (known x.0) attributes) nothing_again),
    )
    formatting_start n (anchor x) f e attributes slash =
        let none_ = no_anchor (itself_met n (codes "a") x f (rw x refl)) in (
          listed_room n attributes,
          fewer_with_room _ _ s.formatting,
          fed_start n f attributes slash
              ∙ rw x (ap (λ o. insert_formatting (known tags.A) attributes (reconstruct (forget o s))) none_
              ∙ ap (insert_formatting (known tags.A) attributes) nothing_again),
        )
    formatting_start n (no_break x) f e attributes slash =
        let none_ : is_in_scope (Only tags.NoBr) Default s.stack ≡ false =
        scope_none (Only tags.NoBr) Default (codes "nobr" ∷ []) [] (one_spelled tags.NoBr) (λ m f. absurd (cc))
        s.nodes
        (p ∷ c) s.stack h.stands (itself_met n (codes "nobr") x f (rw x refl)) in
        let closed : close_no_break s ≡ s = rw none_ refl in (
          listed_room n attributes,
          fewer_with_room _ _ s.formatting,
          fed_start n f attributes slash
              ∙ rw x (ap (λ (y : StateValue). insert_formatting (known tags.NoBr) attributes
              (reconstruct (close_no_break y))) nothing_again
              ∙ ap (λ (y : StateValue). insert_formatting (known tags.NoBr) attributes (reconstruct y)) closed
              ∙ ap (insert_formatting (known tags.NoBr) attributes) nothing_again),
        )
    formatting_start n _ f e attributes slash = absurd (cc)

    -- a void element
    abbrev pub put_with : List ℕ → List AttributePair → Bool → StateValue
    put_with n attributes ok =
        record s { nodes = add (element (html (name_of_text n)) attributes) (place s) s.nodes; frameset_ok = ok }

    abbrev put_void : TagName → List AttributePair → StateValue → StateValue
    put_void tag attributes y = no_frameset (insert_void (known tag) attributes y)

    pub void_fed : (n : List ℕ) (k : VoidCase n) → Fits (p ∷ c) n → (attributes : List AttributePair)
        (slash : Bool) → (ok : Bool) × (feed (start_tag (tag_named n attributes slash)) s
        ≡ put_with n attributes ok)
    unfolding block_rule formatting_rule phrasing_rule
    void_fed n (in_text x) f attributes slash = (
      false,
      by_rule n f x.0 x.1 x.2 attributes slash ∙ rw x.1 (ap (put_void x.0 attributes) nothing_again),
    )
    void_fed n (of_another x) f attributes slash = (
      s.frameset_ok,
      by_rule n f x.0 x.1 x.2 attributes slash ∙ rw x.1 refl,
    )
    void_fed n (input x) f attributes slash =
        test (is_hidden (value (known tags.Input) attributes slash))
        (λ t. (
          s.frameset_ok,
          fed_start n f attributes slash
              ∙ rw (x, t) (ap (insert_void (known tags.Input) attributes) nothing_again),
        ))
        (λ t. (
          false,
          fed_start n f attributes slash ∙ rw (x, t) (ap (put_void tags.Input attributes) nothing_again),
        ))
    void_fed n (separator x) f attributes slash =
        let closed = no_p_closed (f.paragraph (rw x refl)) in (
          false,
          fed_start n f attributes slash
              ∙ rw x (ap (λ stack. put_void tags.Hr attributes (record s { stack = stack })) closed),
        )
    void_fed n (in_head x) f attributes slash = (
      s.frameset_ok,
      by_rule n f x.0 x.1 x.2 attributes slash ∙ rw x.1 (x.3 (value (known x.0) attributes slash) s),
    )

    -- a `pre`, after which a line feed is dropped
    pub pre_start : Fits (p ∷ c) (codes "pre") → (attributes : List AttributePair) (slash : Bool)
        → feed (start_tag (tag_named (codes "pre") attributes slash)) s
        ≡ record (opened_with (codes "pre") attributes s.formatting false) { skips_line_feed = true }
    unfolding block_rule
    pre_start f attributes slash =
        fed_start (codes "pre") f attributes slash
        ∙ ap (λ stack. record (insert_element (known tags.Pre) attributes (record s { stack = stack })) {
          skips_line_feed = true;
          frameset_ok = false;
        }) (no_p_closed (f.paragraph refl))
