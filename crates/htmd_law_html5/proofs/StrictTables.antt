-- What tags and texts do in a table, where the strict grammar allows them.
use Rattle.std.proofs.Common.{◌≡◌, ℕ, ◌<◌, Bool, true, false, not, ◌&&◌, ◌||◌, if◌then◌else◌, List, [], ◌∷◌, length}
use Rattle.std.proofs.Common.{Option}
use Rattle.std.proofs.Common.{None, refl, sym, ap, ◌∙◌, arith, subst, codes}
use Rattle.std.specs.List.{list_all}
use Rattle.std.proofs.lemmas.Bool.{and_parts, or_right}
use Rattle.htmd_lexical.specs.AttributePairs.{AttributePair}
use Rattle.htmd_lexical.specs.CharacterClasses.{is_among, is_empty}
use Rattle.htmd_lexical.specs.WhiteSpace.{is_ascii_white_space}
use Rattle.htmd_grammar.specs.Nesting.{holds_rows, is_table_part}
use Rattle.htmd_grammar.proofs.NestingLemmas.{among_passes}
use Rattle.htmd_html5_tokens.specs.Tokens.{start_tag, end_tag, text}
use Rattle.htmd_html5_state.specs.Names.{known, html, name_of_text}
use Rattle.htmd_html5_state.specs.OpenElements.{OpenValue, current_is, clear_to}
use Rattle.htmd_html5_state.specs.Insertion.{current, opened, insert_text, insert_element}
use Rattle.htmd_html5_state.specs.Formatting.{after_marker, push_marker}
use Rattle.htmd_html5_state.specs.Resetting.{mode_of}
use Rattle.htmd_html5_state.specs.Sets.{is_of}
use Rattle.htmd_html5_state.specs.State.{StateValue}
use Rattle.htmd_html5_state.specs.declared.modes.InsertionMode.{InsertionMode}
use Rattle.htmd_html5_state.specs.declared.modes.InsertionMode.TheVariants.{InTable, InTableBody, InRow, InCell}
use Rattle.htmd_html5_state.specs.declared.modes.InsertionMode.TheVariants.{InCaption}
use Rattle.htmd_html5_state.specs.declared.sets.NameSet.{NameSet}
use Rattle.htmd_html5_state.specs.declared.sets.NameSet.TheVariants.{Fostering, TableContext, TableBodyContext}
use Rattle.htmd_html5_state.specs.declared.sets.NameSet.TheVariants.{TableRowContext}
use Rattle.htmd_html5.specs.AtOnce.{is_without_null, is_not_null}
use Rattle.htmd_html5.specs.BodyStarts.{block_rule, formatting_rule, phrasing_rule}
use Rattle.htmd_html5.specs.Feeding.{feed, feed_text, feed_end_tag, named, without_line_feed, out_of_text_mode}
use Rattle.htmd_html5.specs.Feeding.{with_nothing_skipped}
use Rattle.htmd_html5.specs.InTable.{without_nulls, put_table_text}
use Rattle.htmd_html5.specs.Modes.{in_mode}
use Rattle.htmd_html5.specs.ForeignContent.{is_foreign, goes_to_html, is_for_math_text, is_for_annotation}
use Rattle.htmd_html5.specs.ForeignContent.{is_for_html_point}
use Rattle.htmd_html5.specs.InTableBody.{start_row}
use Rattle.htmd_html5.specs.Outcomes.{done, again}
use Rattle.htmd_html5.specs.SharedRules.{with_mode, no_frameset, close_paragraph}
use Rattle.htmd_html5.specs.Texts.{Taken, is_table_mode, takes_all, put_text}
use Rattle.htmd_html5.specs.Processing.{turns, process}
use Rattle.htmd_html5.proofs.ProcessingLemmas.{by_html, rests_first, rests_again, rests_done}
use Rattle.htmd_html5_state.specs.Foreign.{current_is_html, is_math_text_point, is_annotation, is_html_point}
use Rattle.htmd_html5.proofs.TextsLemmas.{put_part, takes_text, takes_first}
use Rattle.htmd_law_html5.specs.StrictTokens.{tag_named}
use Rattle.htmd_law_html5.proofs.StrictOpen.{Stands}
use Rattle.htmd_law_html5.proofs.StrictNames.{among_each}
use Rattle.htmd_law_html5.proofs.StrictModes.{section_names, cell_names}
use Rattle.htmd_law_html5.proofs.StrictRules.{InContext, Flows, Fits, unskipped, no_raw, goes, fed, fed_start}
use Rattle.htmd_law_html5.proofs.StrictRules.{by_mode}
use Rattle.htmd_law_html5.proofs.StrictRules.{no_p_closed, opened_with}
use Rattle.htmd_law_html5.proofs.StrictEnds.{fed_end}
use Rattle.htmd_html5.specs.Tokens as construction
use Rattle.htmd_html5_state.specs.declared.names.TagName.TheVariants as tags

no_nulls : (u : List ℕ) → list_all is_not_null u ≡ true → without_nulls u ≡ u
no_nulls [] e = refl
no_nulls (b ∷ u) e =
    let k = and_parts (is_not_null b) (list_all is_not_null u) e in
    rw k.0 (ap (λ (y : List ℕ). b ∷ y) (no_nulls u k.1))

filled : (u : List ℕ) → not (is_empty u) ≡ true → (is_empty u ≡ false) × (0 < length u)
filled [] e = absurd (cc)
filled (b ∷ u) e = (refl, omega arith)

-- where the innermost element is of HTML, no token is of foreign content
of_html : (token : construction.TokenValue) (s : StateValue) → current_is_html s.stack ≡ true
    → goes_to_html token s ≡ true
of_html token s h =
    or_right ((is_for_math_text token && is_math_text_point (current s.stack))
    || (is_for_annotation token && is_annotation (current s.stack))
    || (is_for_html_point token && is_html_point s.nodes (current s.stack))) (current_is_html s.stack) h

-- what the rules of one mode leave to those of another
twice : (token : construction.TokenValue) (s t new : StateValue) → is_foreign token s ≡ false
    → in_mode s.mode token s ≡ again t → is_foreign token t ≡ false → in_mode t.mode token t ≡ done new
    → process token s ≡ new
twice token s t new f e g k =
    sym (rests_done token s t new 1 (turns s)
    (rests_again token s s t 0 (turns s) (rests_first token s (turns s)) (sym (by_html token s f ∙ e)))
    (omega arith) (sym (by_html token t g ∙ k)))

module _ (p : List ℕ) (c : List (List ℕ)) (s : StateValue) (h : InContext (p ∷ c) s) where
  -- ---- white space between the parts

  top_is : (set : NameSet) → is_of set (html (name_of_text p)) ≡ true → current_is set s.stack ≡ true
  top_is set e = by_stack s.stack h.stands
    where
      by_stack : (stack : List OpenValue) → Stands s.nodes (p ∷ c) stack → current_is set stack ≡ true
      by_stack [] k = absurd k
      by_stack (x ∷ stack) k = rw (k.0, e) refl

  white_put : (u : List ℕ) → takes_all s ≡ true → is_without_null u ≡ true
      → list_all is_ascii_white_space u ≡ true
      → put_text u s ≡ insert_text u s
  white_put u t e w =
      let k = and_parts (not (is_empty u)) (list_all is_not_null u) e in
      let f = filled u k.0 in
      put_part u s f.1
      ∙ ap (λ (y : Taken). put_text y.rest y.state)
      (sym (takes_text u s s 0 (turns s) (takes_first u s (turns s)) (omega arith) t))
      ∙ ap (λ y. put_table_text y s) (no_nulls u k.1) ∙ rw (f.0, w) refl

  pub white_fed : is_table_mode s.mode ≡ true → is_of Fostering (html (name_of_text p)) ≡ true → (u : List ℕ)
      → is_without_null u ≡ true → list_all is_ascii_white_space u ≡ true
      → feed (text u) s ≡ insert_text u s
  white_fed m f u e w =
      let all : takes_all s ≡ true = rw (m, top_is Fostering f) refl in
      ap (λ (x : StateValue). feed_text (without_line_feed s.skips_line_feed u) x) (unskipped p c s h)
      ∙ ap (λ (b : Bool). feed_text (without_line_feed b u) s) h.no_skip
      ∙ rw (no_raw p c s h) (white_put u all e w)

  -- ---- start tags

  -- the element is put, with this list of formatting elements, and its content comes in this mode
  abbrev pub opened_as : List ℕ → List AttributePair → List (Option ℕ) → Bool → InsertionMode → StateValue
  opened_as n attributes list ok m = record (opened_with p c s h n attributes list ok) { mode = m }

  stays_there : (set : NameSet) → is_of set (html (name_of_text p)) ≡ true → clear_to set s.stack ≡ s.stack
  stays_there set e = by_stack s.stack h.stands
    where
      by_stack : (stack : List OpenValue) → Stands s.nodes (p ∷ c) stack → clear_to set stack ≡ stack
      by_stack [] k = absurd k
      by_stack (x ∷ stack) k = rw (k.0, e) refl

  abbrev tag_token : List ℕ → List AttributePair → Bool → construction.TokenValue
  tag_token n attributes slash = construction.start_tag (named (tag_named n attributes slash))

  fed_by : (n : List ℕ) (attributes : List AttributePair) (slash : Bool) (new : StateValue) (m : InsertionMode)
      → s.mode ≡ m → in_mode m (tag_token n attributes slash) s ≡ done new
      → feed (start_tag (tag_named n attributes slash)) s ≡ new
  fed_by n attributes slash new m e f =
      let token : construction.TokenValue = tag_token n attributes slash in
      fed p c s h token new (ap not (goes p c s h token)) (by_mode p c s h token e ∙ f)

  pub table_start : Flows p s → Fits (p ∷ c) (codes "table") → (attributes : List AttributePair) (slash : Bool)
      → feed (start_tag (tag_named (codes "table") attributes slash)) s
      ≡ opened_as (codes "table") attributes s.formatting false InTable
  unfolding block_rule formatting_rule phrasing_rule
  table_start w f attributes slash = fed_start p c s h w (codes "table") f attributes slash ∙ no_paragraph s.quirks
    where
      put : StateValue → StateValue
      put y = with_mode InTable (no_frameset (insert_element (known tags.Table) attributes y))

      no_paragraph : (quirks : Bool) → put (if quirks then s else close_paragraph s)
          ≡ opened_as (codes "table") attributes s.formatting false InTable
      no_paragraph true = refl
      no_paragraph false = ap (λ stack. put (record s { stack = stack })) (no_p_closed p c s h (f.paragraph refl))

  abbrev Starts : List (Option ℕ) → InsertionMode → List ℕ → Type 0
  Starts list m n =
      (attributes : List AttributePair) (slash : Bool) → feed (start_tag (tag_named n attributes slash)) s
      ≡ opened_as n attributes list s.frameset_ok m

  -- what is put after a way back to what is open anyway
  abbrev put_on : List ℕ → List AttributePair → InsertionMode → List OpenValue → StateValue
  put_on n attributes m stack = with_mode m (insert_element (name_of_text n) attributes (record s { stack = stack }))

  pub section_start : p ≡ codes "table" → s.mode ≡ InTable → (n : List ℕ) → holds_rows n ≡ true
      → Starts s.formatting InTableBody n
  section_start q m n r = among_each (Starts s.formatting InTableBody) section_names n r (
    λ a b. start (codes "thead") a b refl,
    (λ a b. start (codes "tbody") a b refl, (λ a b. start (codes "tfoot") a b refl, tt)),
  )
    where
      start : (n : List ℕ) (attributes : List AttributePair) (slash : Bool)
          → in_mode InTable (tag_token n attributes slash) s
          ≡ done (put_on n attributes InTableBody (clear_to TableContext s.stack))
          → feed (start_tag (tag_named n attributes slash)) s
          ≡ opened_as n attributes s.formatting s.frameset_ok InTableBody
      start n attributes slash e =
          fed_by n attributes slash _ InTable m (e ∙ ap (λ stack. done (put_on n attributes InTableBody stack))
          (stays_there TableContext (rw q refl)))

  pub row_start : holds_rows p ≡ true → s.mode ≡ InTableBody → (n : List ℕ) → n ≡ codes "tr"
      → Starts s.formatting InRow n
  row_start r m n q =
      subst (Starts s.formatting InRow) (sym q)
      (λ attributes slash. fed_by (codes "tr") attributes slash _ InTableBody m
      (ap (λ stack. done (put_on (codes "tr") attributes InRow stack)) (stays_there TableBodyContext
      (among_passes (λ k. is_of TableBodyContext (html (name_of_text k))) section_names p r refl))))

  pub cell_start : p ≡ codes "tr" → s.mode ≡ InRow → (n : List ℕ) → is_among cell_names n ≡ true
      → Starts (None ∷ s.formatting) InCell n
  cell_start q m n r = among_each (Starts (None ∷ s.formatting) InCell) cell_names n r
      (λ a b. start (codes "td") a b refl, (λ a b. start (codes "th") a b refl, tt))
    where
      start : (n : List ℕ) (attributes : List AttributePair) (slash : Bool)
          → in_mode InRow (tag_token n attributes slash) s
          ≡ done (push_marker (put_on n attributes InCell (clear_to TableRowContext s.stack)))
          → feed (start_tag (tag_named n attributes slash)) s
          ≡ opened_as n attributes (None ∷ s.formatting) s.frameset_ok InCell
      start n attributes slash e =
          fed_by n attributes slash _ InRow m
          (e ∙ ap (λ stack. done (push_marker (put_on n attributes InCell stack)))
          (stays_there TableRowContext (rw q refl)))

  pub caption_start : p ≡ codes "table" → s.mode ≡ InTable
      → Starts (None ∷ s.formatting) InCaption (codes "caption")
  caption_start q m attributes slash =
      fed_by (codes "caption") attributes slash _ InTable m
      (ap (λ stack. done (with_mode InCaption (insert_element (known tags.Caption) attributes
      (push_marker (record s { stack = stack }))))) (stays_there TableContext (rw q refl)))

  -- a caption is not the outermost element
  pub caption_resets : (b : ℕ) (y : StateValue)
      → mode_of (opened b (html (name_of_text (codes "caption"))) ∷ s.stack) y ≡ InCaption
  caption_resets b y = by_stack s.stack h.stands
    where
      by_stack : (stack : List OpenValue) → Stands s.nodes (p ∷ c) stack
          → mode_of (opened b (html (name_of_text (codes "caption"))) ∷ stack) y ≡ InCaption
      by_stack [] k = absurd k
      by_stack (x ∷ stack) k = refl

  -- a row in a table implies the section around it
  abbrev pub implied_body : StateValue
  implied_body = opened_as (codes "tbody") [] s.formatting s.frameset_ok InTableBody

  pub implied_row : p ≡ codes "table" → s.mode ≡ InTable → InContext (codes "tbody" ∷ (p ∷ c)) implied_body
      → (attributes : List AttributePair) (slash : Bool)
      → feed (start_tag (tag_named (codes "tr") attributes slash)) s
      ≡ feed (start_tag (tag_named (codes "tr") attributes slash)) implied_body
  implied_row q m i attributes slash =
      let token : construction.TokenValue = tag_token (codes "tr") attributes slash in
      let new : StateValue = start_row (known tags.Tr) attributes implied_body in
      let implied : in_mode s.mode token s ≡ again implied_body =
      by_mode p c s h token m ∙ ap (λ stack. again (put_on (codes "tbody") [] InTableBody stack))
      (stays_there TableContext (rw q refl)) in
      let whole : process token (out_of_text_mode (with_nothing_skipped s)) ≡ new =
      ap (λ (x : StateValue). process token (out_of_text_mode x)) (unskipped p c s h)
      ∙ rw (no_raw p c s h) (twice token s implied_body new (ap not (goes p c s h token)) implied
      (ap not (goes (codes "tbody") (p ∷ c) implied_body i token)) refl) in
      whole
      ∙ sym (fed (codes "tbody") (p ∷ c) implied_body i token new
      (ap not (goes (codes "tbody") (p ∷ c) implied_body i token)) refl)

  -- a cell is not the outermost element
  pub cell_resets : (n : List ℕ) → is_among cell_names n ≡ true → (b : ℕ) (y : StateValue)
      → mode_of (opened b (html (name_of_text n)) ∷ s.stack) y ≡ InCell
  cell_resets n r b y = by_stack s.stack h.stands
    where
      by_stack : (stack : List OpenValue) → Stands s.nodes (p ∷ c) stack
          → mode_of (opened b (html (name_of_text n)) ∷ stack) y ≡ InCell
      by_stack [] k = absurd k
      by_stack (x ∷ stack) k =
          among_each (λ m. mode_of (opened b (html (name_of_text m)) ∷ x ∷ stack) y ≡ InCell) cell_names n r
          (refl, (refl, tt))

  -- ---- end tags

  module _ (node : ℕ) (es : List OpenValue) where
    abbrev Top : List ℕ → Type 0
    Top n = s.stack ≡ opened node (html (name_of_text n)) ∷ es

    end_by : (n : List ℕ) (new : StateValue) (m : InsertionMode) → Top n → s.mode ≡ m
        → in_mode m (construction.end_tag (name_of_text n))
        (record s { stack = opened node (html (name_of_text n)) ∷ es }) ≡ done new
        → feed (end_tag (tag_named n [] false)) s ≡ new
    end_by n new m k e f =
        let token : construction.TokenValue = construction.end_tag (name_of_text n) in
        fed_end p c s h n new (by_mode p c s h token e
        ∙ ap (λ (stack : List OpenValue). in_mode m token (record s { stack = stack })) k ∙ f)

    abbrev Ends : StateValue → List ℕ → Type 0
    Ends new n = Top n → feed (end_tag (tag_named n [] false)) s ≡ new

    pub table_end : (n : List ℕ) → n ≡ codes "table" → (m : InsertionMode) → Top n → s.mode ≡ InTable
        → ((y : StateValue) → mode_of es y ≡ m)
        → feed (end_tag (tag_named n [] false)) s ≡ record s { stack = es; mode = m }
    table_end n q m k e r =
        subst (Ends (record s { stack = es; mode = m })) (sym q) (λ k. end_by (codes "table") _ InTable k e
        (ap (λ (i : InsertionMode). done (record s { stack = es; mode = i })) (r (record s { stack = es })))) k

    pub section_end : (n : List ℕ) → holds_rows n ≡ true → Top n → s.mode ≡ InTableBody
        → feed (end_tag (tag_named n [] false)) s ≡ record s { stack = es; mode = InTable }
    section_end n r k e =
        among_each (Ends (record s { stack = es; mode = InTable })) section_names n r (
          λ k. end_by (codes "thead") _ InTableBody k e refl,
          (
            λ k. end_by (codes "tbody") _ InTableBody k e refl,
            (λ k. end_by (codes "tfoot") _ InTableBody k e refl, tt),
          ),
        ) k

    pub row_end : (n : List ℕ) → n ≡ codes "tr" → Top n → s.mode ≡ InRow
        → feed (end_tag (tag_named n [] false)) s ≡ record s { stack = es; mode = InTableBody }
    row_end n q k e =
        subst (Ends (record s { stack = es; mode = InTableBody })) (sym q)
        (λ k. end_by (codes "tr") _ InRow k e refl) k

    pub cell_end : (n : List ℕ) → is_among cell_names n ≡ true → Top n → s.mode ≡ InCell
        → feed (end_tag (tag_named n [] false)) s
        ≡ record s { stack = es; formatting = after_marker s.formatting; mode = InRow }
    cell_end n r k e =
        among_each (Ends (record s { stack = es; formatting = after_marker s.formatting; mode = InRow }))
        cell_names n r (
          λ k. end_by (codes "td") _ InCell k e refl,
          (λ k. end_by (codes "th") _ InCell k e refl, tt),
        ) k

    pub caption_end : Top (codes "caption") → s.mode ≡ InCaption
        → feed (end_tag (tag_named (codes "caption") [] false)) s
        ≡ record s { stack = es; formatting = after_marker s.formatting; mode = InTable }
    caption_end k e = end_by (codes "caption") _ InCaption k e refl

  -- a part of the table leaves the section whose end tag is absent
  pub part_leaves : (b : ℕ) (es : List OpenValue)
      → s.stack ≡ opened b (html (name_of_text (codes "tbody"))) ∷ es
      → s.mode ≡ InTableBody → (o : List ℕ) (d : List (List ℕ))
      → InContext (o ∷ d) (record s { stack = es; mode = InTable })
      → (n : List ℕ) → is_table_part n ≡ true → (attributes : List AttributePair) (slash : Bool)
      → feed (start_tag (tag_named n attributes slash)) s
      ≡ feed (start_tag (tag_named n attributes slash)) (record s { stack = es; mode = InTable })
  part_leaves b es k e o d i n r =
      among_each (λ m. (attributes : List AttributePair) (slash : Bool)
      → feed (start_tag (tag_named m attributes slash)) s
      ≡ feed (start_tag (tag_named m attributes slash)) (record s { stack = es; mode = InTable }))
      (codes "caption" ∷ codes "colgroup" ∷ codes "thead" ∷ codes "tbody" ∷ codes "tfoot" ∷ []) n r (
        λ a f. leaves (codes "caption") a f _ refl refl,
        (
          λ a f. leaves (codes "colgroup") a f _ refl refl,
          (
            λ a f. leaves (codes "thead") a f _ refl refl,
            (λ a f. leaves (codes "tbody") a f _ refl refl, (λ a f. leaves (codes "tfoot") a f _ refl refl, tt)),
          ),
        ),
      )
    where
      left : StateValue
      left = record s { stack = es; mode = InTable }

      leaves : (m : List ℕ) (attributes : List AttributePair) (slash : Bool) (new : StateValue)
          → in_mode InTableBody (tag_token m attributes slash)
          (record s { stack = opened b (html (name_of_text (codes "tbody"))) ∷ es }) ≡ again left
          → in_mode InTable (tag_token m attributes slash) left ≡ done new
          → feed (start_tag (tag_named m attributes slash)) s ≡ feed (start_tag (tag_named m attributes slash)) left
      leaves m attributes slash new away f =
          let token : construction.TokenValue = tag_token m attributes slash in
          let leaving : in_mode s.mode token s ≡ again left =
          by_mode p c s h token e
          ∙ ap (λ (stack : List OpenValue). in_mode InTableBody token (record s { stack = stack })) k ∙ away in
          let whole : process token (out_of_text_mode (with_nothing_skipped s)) ≡ new =
          ap (λ (x : StateValue). process token (out_of_text_mode x)) (unskipped p c s h)
          ∙ rw (no_raw p c s h) (twice token s left new (ap not (goes p c s h token)) leaving
          (ap not (goes o d left i token)) f) in
          whole ∙ sym (fed o d left i token new (ap not (goes o d left i token)) f)

  -- the end of a table ends the section in it
  pub body_table_end : (b a : ℕ) (es : List OpenValue) (m : InsertionMode)
      → s.stack ≡ opened b (html (name_of_text (codes "tbody"))) ∷ opened a (html (name_of_text (codes "table")))
      ∷ es
      → s.mode ≡ InTableBody → ((y : StateValue) → mode_of es y ≡ m)
      → feed (end_tag (tag_named (codes "table") [] false)) s ≡ record s { stack = es; mode = m }
  body_table_end b a es m k e r =
      let token : construction.TokenValue = construction.end_tag (known tags.Table) in
      let inner : List OpenValue = opened a (html (name_of_text (codes "table"))) ∷ es in
      let t : StateValue = record s { stack = inner; mode = InTable } in
      let left : in_mode s.mode token s ≡ again t =
      by_mode p c s h token e
      ∙ ap (λ (stack : List OpenValue). in_mode InTableBody token (record s { stack = stack })) k in
      ap (feed_end_tag (known tags.Table)) (unskipped p c s h)
      ∙ rw (no_raw p c s h) (twice token s t (record s { stack = es; mode = m }) (ap not (goes p c s h token)) left
      (ap not (of_html token t refl))
      (ap (λ (i : InsertionMode). done (record s { stack = es; mode = i })) (r (record t { stack = es }))))
