-- The tokens of plain trees build the nodes of these trees below the current node.
use Rattle.std.proofs.Common.{◌≡◌, ℕ, ◌<◌, Bool, true, false, not, ◌||◌, List, [], ◌∷◌, ◌++◌, length, Option, Some}
use Rattle.std.proofs.Common.{None, refl, sym, ap, ◌∙◌, arith, inl, inr, subst, codes}
use Rattle.std.specs.Prelude.{◌⊎◌, ◌&&◌, if◌then◌else◌}
use Rattle.std.proofs.lemmas.Bool.{and_parts, not-true, true≢false}
use Rattle.std.proofs.lemmas.List.{append-nil}
use Rattle.htmd_lexical.proofs.Cases.{test}
use Rattle.htmd_lexical.specs.AttributePairs.{AttributePair}
use Rattle.htmd_values.specs.ValueTrees.{ValueTree, ValueForest, none, more, text}
use Rattle.htmd_values.specs.ValueTrees.{comment, element}
use Rattle.htmd_lexical.specs.CharacterClasses.{is_among}
use Rattle.htmd_grammar.specs.Grammar.{Apart, begins_with_row}
use Rattle.htmd_grammar.specs.Nesting.{holds_rows, holds_parts, fits_table, is_table, is_tbody}
use Rattle.htmd_grammar.specs.Nesting.{is_table_part}
use Rattle.htmd_values.specs.Serialisation.{is_void}
use Rattle.htmd_html5_tokens.specs.Tokens.{TagValue, TokenValue, start_tag, end_tag}
use Rattle.htmd_lexical.specs.declared.content_model.ContentModel.TheVariants.{Normal}
use Rattle.htmd_html5_state.specs.Formatting.{after_marker}
use Rattle.htmd_html5_state.specs.Resetting.{mode_of}
use Rattle.htmd_html5_state.specs.declared.modes.InsertionMode.{InsertionMode}
use Rattle.htmd_html5_state.specs.declared.modes.InsertionMode.TheVariants.{InTable, InTableBody, InRow, InCell}
use Rattle.htmd_html5_state.specs.declared.modes.InsertionMode.TheVariants.{InCaption}
use Rattle.htmd_html5_state.specs.Names.{html, name_of_text}
use Rattle.htmd_html5_state.specs.Nodes.{NodeValue, append_children}
use Rattle.htmd_html5_state.specs.OpenElements.{OpenValue}
use Rattle.htmd_html5_state.specs.Insertion.{current, opened}
use Rattle.htmd_html5_state.specs.State.{StateValue}
use Rattle.htmd_html5.specs.Feeding.{feed}
use Rattle.htmd_law_html5.specs.StrictTokens.{content_in, tag_named, SpellsTree, SpellsForest}
use Rattle.htmd_law_html5.specs.StrictTokens.{SpellsTable, SpellsRows, end_rows}
use Rattle.htmd_law_html5.specs.StrictTokens.{content_tokens}
use Rattle.htmd_law_html5.specs.StrictTrees.{is_plain_name, is_plain_element, is_plain_body, is_plain_tree, are_plain}
use Rattle.htmd_law_html5.specs.StrictTrees.{text_names, are_plain_table, are_plain_rows}
use Rattle.htmd_law_html5.proofs.StrictNodes.{node, last_text}
use Rattle.htmd_law_html5.proofs.StrictNodes.{with_tree, with_forest, forest_joined, filled}
use Rattle.htmd_law_html5.proofs.StrictNodes.{tree_last, is_text, begins_text, no_text_next, with_tree_longer}
use Rattle.htmd_law_html5.proofs.StrictNodes.{append_none}
use Rattle.htmd_law_html5.proofs.StrictOpen.{Fewer, fewer_same, fewer_trans, fewer_cleared, entries, Stands}
use Rattle.htmd_law_html5.proofs.StrictOpen.{stands_html}
use Rattle.htmd_law_html5.proofs.StrictSets.{void_keeps, keeps_name, text_keeps}
use Rattle.htmd_law_html5.proofs.StrictOnlyText.{at, element_added, starts_empty}
use Rattle.htmd_law_html5.proofs.StrictThrough.{Through, nothing, followed, from_state, with_fed, one_fed, parts}
use Rattle.htmd_grammar.proofs.NestingLemmas.{one_name, among_passes}
use Rattle.htmd_law_html5.proofs.StrictRules.{InContext, Flows, Fits, within}
use Rattle.htmd_law_html5.proofs.StrictModes.{ModeIn, in_table, in_section, in_row, in_flow, flow_fits}
use Rattle.htmd_law_html5.proofs.StrictModes.{table_fits, section_fits, row_fits, section_names, cell_names}
use Rattle.htmd_law_html5.proofs.StrictModes.{table_part_names, part_tags, section_plain, plain_in_flow, table_alone}
use Rattle.htmd_law_html5.proofs.StrictTables.{opened_as, table_start, section_start, row_start, cell_start}
use Rattle.htmd_law_html5.proofs.StrictTables.{table_end, section_end, row_end, cell_end, cell_resets}
use Rattle.htmd_law_html5.proofs.StrictTables.{implied_body, implied_row}
use Rattle.htmd_law_html5.proofs.StrictTables.{body_table_end, caption_start, caption_resets, caption_end, part_leaves}
use Rattle.htmd_law_html5.proofs.StrictHeld.{FitsTree, FitsForest, Built, ElementBuilt, ForestBuilt, Rows}
use Rattle.htmd_law_html5.proofs.StrictHeld.{TableBuilt, TreeBuilt, comment_built, entered, fresh, full_built}
use Rattle.htmd_law_html5.proofs.StrictHeld.{held_built, moded, pre_built, text_alone_built, text_built}
use Rattle.htmd_law_html5.proofs.StrictHeld.{void_built}

module _ (z : Bool) where
  -- ---- tables and their parts

  part_built : (n : List ℕ) (attributes : List AttributePair) (children : ValueForest) → ForestBuilt z children
      → (slash : Bool) (content : List TokenValue) (p : List ℕ) (c : List (List ℕ)) (s : StateValue)
      (list : List (Option ℕ)) (ok : Bool) (m : InsertionMode) → are_plain children ≡ true
      → SpellsForest children content → FitsForest (n ∷ (p ∷ c)) children → (h : InContext (p ∷ c) s)
      → content_in z n ≡ Normal → ModeIn n m
      → (holds_parts n ≡ false → (y : StateValue) → mode_of (fresh z n s ∷ s.stack) y ≡ m)
      → Fewer list (Some (length s.nodes) ∷ None ∷ s.formatting)
      → feed (start_tag (tag_named n attributes slash)) s ≡ opened_as p c s h n attributes list ok m
      → ((held : StateValue) → held.stack ≡ fresh z n s ∷ s.stack → held.mode ≡ m
      → InContext (n ∷ (p ∷ c)) held
      → Fewer held.formatting list → (left : List (Option ℕ)) × Fewer left s.formatting
      × (feed (end_tag (tag_named n [] false)) held
      ≡ record held { stack = s.stack; formatting = left; mode = s.mode }))
      → ElementBuilt z p c n attributes slash content children s
  part_built n attributes children ih slash content p c s list ok m g k ff h v i r f started ends =
      held_built z p n c attributes children ih slash content content s list ok m h k g ff
      (entered z p n c attributes s list ok m h i r f)
      (ap (λ (y : StateValue). y.content) started ∙ h.content ∙ sym v) ends (λ new run. from_state z started run)

  module _ (n : List ℕ) (attributes : List AttributePair) (children : ValueForest) (ih : ForestBuilt z children)
      (slash : Bool) (content : List TokenValue) (p : List ℕ) (c : List (List ℕ)) (s : StateValue)
      (g : are_plain children ≡ true) (k : SpellsForest children content) (ff : FitsForest (n ∷ (p ∷ c)) children)
      (h : InContext (p ∷ c) s) where
    section_built : holds_rows n ≡ true → p ≡ codes "table" → s.mode ≡ InTable
        → ElementBuilt z p c n attributes slash content children s
    section_built r q m =
        part_built n attributes children ih slash content p c s s.formatting s.frameset_ok InTableBody g k ff h
        ((part_tags n (among_passes (is_among table_part_names) section_names n r refl)).2 z) (in_section r refl)
        (λ e. absurd (true≢false (sym (among_passes holds_parts section_names n r refl) ∙ e)))
        (inl (inl (fewer_same s.formatting))) (section_start p c s h q m n r attributes slash)
        (λ held stack mode there fewer. (
          held.formatting,
          fewer,
          section_end n (p ∷ c) held there (length s.nodes) s.stack n r stack mode
              ∙ moded z held s.stack held.formatting (sym m),
        ))

    row_built : n ≡ codes "tr" → holds_rows p ≡ true → s.mode ≡ InTableBody
        → ElementBuilt z p c n attributes slash content children s
    row_built q r m =
        part_built n attributes children ih slash content p c s s.formatting s.frameset_ok InRow g k ff h (rw q refl)
        (in_row q refl) (λ e. absurd (let u = rw q at e in cc)) (inl (inl (fewer_same s.formatting)))
        (row_start p c s h r m n q attributes slash)
        (λ held stack mode there fewer. (
          held.formatting,
          fewer,
          row_end n (p ∷ c) held there (length s.nodes) s.stack n q stack mode
              ∙ moded z held s.stack held.formatting (sym m),
        ))

    cell_built : is_among cell_names n ≡ true → p ≡ codes "tr" → s.mode ≡ InRow
        → ElementBuilt z p c n attributes slash content children s
    cell_built r q m =
        part_built n attributes children ih slash content p c s (None ∷ s.formatting) s.frameset_ok InCell g k ff h
        ((part_tags n (among_passes (is_among table_part_names) cell_names n r refl)).2 z)
        (in_flow (not-true (holds_parts n) (among_passes (λ m. not (holds_parts m)) cell_names n r refl))
        (inr (inl refl)))
        (λ e y. cell_resets p c s h n r (length s.nodes) y) (inl (inr (s.formatting, refl, fewer_same s.formatting)))
        (cell_start p c s h q m n r attributes slash)
        (λ held stack mode there fewer. (
          after_marker held.formatting,
          fewer_cleared held.formatting s.formatting fewer,
          cell_end n (p ∷ c) held there (length s.nodes) s.stack n r stack mode
              ∙ moded z held s.stack (after_marker held.formatting) (sym m),
        ))

    caption_built : n ≡ codes "caption" → p ≡ codes "table" → s.mode ≡ InTable
        → ElementBuilt z p c n attributes slash content children s
    caption_built q o m =
        part_built n attributes children ih slash content p c s (None ∷ s.formatting) s.frameset_ok InCaption g k ff h
        ((part_tags n (rw q refl)).2 z) (in_flow (rw q refl) (inr (inr refl)))
        (λ e y. subst (λ (m : List ℕ). mode_of (fresh z m s ∷ s.stack) y ≡ InCaption) (sym q)
        (caption_resets p c s h (length s.nodes) y)) (inl (inr (s.formatting, refl, fewer_same s.formatting)))
        (subst (λ (m : List ℕ). feed (start_tag (tag_named m attributes slash)) s
        ≡ opened_as p c s h m attributes (None ∷ s.formatting) s.frameset_ok InCaption) (sym q)
        (caption_start p c s h o m attributes slash))
        (λ held stack mode there fewer. (
          after_marker held.formatting,
          fewer_cleared held.formatting s.formatting fewer,
          subst (λ (m : List ℕ). feed (end_tag (tag_named m [] false)) held
              ≡ record held { stack = s.stack; formatting = after_marker held.formatting; mode = InTable }) (sym q)
              (caption_end n (p ∷ c) held there (length s.nodes) s.stack
              (subst (λ (m : List ℕ). held.stack ≡ fresh z m s ∷ s.stack) q stack) mode)
              ∙ moded z held s.stack (after_marker held.formatting) (sym m),
        ))

  -- a table: its end tag ends what is open in it too
  table_built : (attributes : List AttributePair) (children : ValueForest) → TableBuilt z children
      → (slash : Bool) (content : List TokenValue) (p : List ℕ) (c : List (List ℕ)) (s : StateValue)
      → are_plain_table children ≡ true → SpellsTable children content
      → FitsForest (codes "table" ∷ (p ∷ c)) children → InContext (p ∷ c) s → Fits (p ∷ c) (codes "table")
      → Flows p s → ElementBuilt z p c (codes "table") attributes slash content children s
  table_built attributes children tables slash content p c s g k ff h f w =
      let n : List ℕ = codes "table" in
      let first : StateValue = opened_as p c s h n attributes s.formatting false InTable in
      let started = table_start p c s h w f attributes slash in
      let i : InContext (n ∷ (p ∷ c)) first =
      entered z p n c attributes s s.formatting false InTable h (in_table refl refl) (λ e. absurd (cc))
      (inl (inl (fewer_same s.formatting))) in
      let r = tables (p ∷ c) content first k g ff i (λ _. starts_empty p n c attributes s h) in
      elim r.1 [
        | inl b ↦
            let new : StateValue = record (r.0) { stack = s.stack; mode = s.mode } in
            let st = subst (λ stack. Stands (r.0).nodes (n ∷ (p ∷ c)) stack) b.stack b.in_context.stands in
            let end = one_fed z n (p ∷ c) (end_tag (tag_named n [] false)) r.0 new [] new b.in_context
            b.in_context.content (table_end n (p ∷ c) r.0 b.in_context (length s.nodes) s.stack n refl s.mode b.stack
            b.mode (h.resets w.0)) nothing in
            ended r.0 b.in_context.content b.in_context.no_skip b.in_context.no_foster b.in_context.no_template
            started (followed z b.through end) b.nodes_are st.4 b.fewer
        | inr b ↦
            let new : StateValue = record (r.0) { stack = s.stack; mode = s.mode } in
            let st = subst (λ stack. Stands (r.0).nodes (codes "tbody" ∷ (n ∷ (p ∷ c))) stack) b.stack
            b.in_context.stands in
            let end = one_fed z (codes "tbody") (n ∷ (p ∷ c)) (end_tag (tag_named n [] false)) r.0 new [] new
            b.in_context b.in_context.content
            (body_table_end (codes "tbody") (n ∷ (p ∷ c)) r.0 b.in_context b.section
            (length s.nodes) s.stack s.mode b.stack b.mode (h.resets w.0)) nothing in
            ended r.0 b.in_context.content b.in_context.no_skip b.in_context.no_foster b.in_context.no_template
            started (followed z b.through end) b.nodes_are (st.4).4 b.fewer
      ]
    where
      ended : (held : StateValue) → held.content ≡ Normal → held.skips_line_feed ≡ false
          → held.foster_parenting ≡ false → held.template_modes ≡ []
          → feed (start_tag (tag_named (codes "table") attributes slash)) s
          ≡ opened_as p c s h (codes "table") attributes s.formatting false InTable
          → Through z (opened_as p c s h (codes "table") attributes s.formatting false InTable)
          (content ++ (end_tag (tag_named (codes "table") [] false) ∷ []))
          (record held { stack = s.stack; mode = s.mode })
          → held.nodes ≡ with_forest (length s.nodes) children
          (opened_as p c s h (codes "table") attributes s.formatting false InTable).nodes
          → Stands held.nodes (p ∷ c) s.stack → Fewer held.formatting s.formatting
          → ElementBuilt z p c (codes "table") attributes slash content children s
      ended held normal skip foster template started through nodes st fewer = (
        record held { stack = s.stack; mode = s.mode },
        record {
          through = one_fed z p c (start_tag (tag_named (codes "table") attributes slash)) s _ _ _ h
              (ap (λ (y : StateValue). y.content) started ∙ h.content) refl (from_state z started through);
          nodes_are = nodes ∙ ap (with_forest (length s.nodes) children)
              (element_added p c (codes "table") attributes s h)
              ∙ filled (at s) (codes "table") attributes children s.nodes;
          in_context = record {
            mode = h.mode;
            resets = h.resets;
            content = normal;
            no_skip = skip;
            no_foster = foster;
            no_template = template;
            listed = fewer_trans held.formatting s.formatting (entries s.stack) fewer h.listed;
            stands = st;
          };
          stack = refl;
          mode = refl;
          fewer = fewer;
        },
      )

  -- ---- elements

  not_table : (n : List ℕ) → (n ≡ codes "table" → ⊥) → is_table n ≡ false
  not_table n a = test (is_table n) (λ t. absurd (a (one_name (codes "table") n t))) (λ t. t)

  module _ (n : List ℕ) (attributes : List AttributePair) (children : ValueForest)
      (p : List ℕ) (c : List (List ℕ)) (xs : List TokenValue) (s : StateValue)
      (k : SpellsTree (element n attributes children) xs) where
    abbrev Whole : Type 0
    Whole = (new : StateValue) × Built z (p ∷ c) xs (with_tree (at s) (element n attributes children) s.nodes) s new

    -- its tags stand around its content
    with_content : is_void n ≡ false → is_table n ≡ false → ((slash : Bool) (content : List TokenValue)
        → SpellsForest children (content_tokens n content)
        → ElementBuilt z p c n attributes slash content children s)
        → Whole
    with_content v o built =
        let m = rw v at k.5 in
        let q : xs ≡ start_tag (tag_named n attributes k.0) ∷ (k.1 ++ (end_tag (tag_named n [] false) ∷ [])) =
        k.3 ∙ ap (λ (ys : List TokenValue). start_tag (tag_named n attributes k.0) ∷ (k.1 ++ ys)) m.1 in
        rw q (built k.0 k.1 (rw o at k.4))

    part_whole : is_among table_part_names n ≡ true → is_table n ≡ false → ((slash : Bool)
        (content : List TokenValue) → SpellsForest children content
        → ElementBuilt z p c n attributes slash content children s) → Whole
    part_whole r o built =
        let t = part_tags n r in
        with_content t.0 o (λ slash content spelled. built slash content (rw t.1 at spelled))

  -- the rows at the end of a table, with the tags of their section
  tagged_rows : (n : List ℕ) (attributes : List AttributePair) (children : ValueForest) → ForestBuilt z children
      → (c : List (List ℕ)) (xs : List TokenValue) (s : StateValue)
      → SpellsTree (element n attributes children) xs
      → is_tbody n ≡ true → are_plain children ≡ true → FitsForest (n ∷ (codes "table" ∷ c)) children
      → InContext (codes "table" ∷ c) s → s.mode ≡ InTable
      → (new : StateValue) × Built z (codes "table" ∷ c) xs
      (with_tree (at s) (element n attributes children) s.nodes) s
      new
  tagged_rows n attributes children ih c xs s k b g ff h m =
      let name : n ≡ codes "tbody" = one_name (codes "tbody") n b in
      part_whole n attributes children (codes "table") c xs s k (rw name refl)
      (not_table n (λ t. let w = sym name ∙ t in cc))
      (λ slash content spelled. section_built n attributes children ih slash content (codes "table") c s g spelled ff h
      (rw name refl) refl m)

  module _ (n : List ℕ) (attributes : List AttributePair) (children : ValueForest) (ih : ForestBuilt z children)
      (tables : TableBuilt z children) (p : List ℕ) (c : List (List ℕ)) (xs : List TokenValue) (s : StateValue)
      (k : SpellsTree (element n attributes children) xs)
      (e : (is_plain_element n || is_plain_body n children) ≡ true)
      (inner : (if is_table n then are_plain_table children else are_plain children) ≡ true)
      (f : FitsTree (p ∷ c) (element n attributes children)) (h : InContext (p ∷ c) s) where
    abbrev Made : Type 0
    Made = (new : StateValue) × Built z (p ∷ c) xs (with_tree (at s) (element n attributes children) s.nodes) s new

    plain_in : is_table n ≡ false → are_plain children ≡ true
    plain_in o = rw o at inner

    void_whole : is_void n ≡ true → is_plain_element n ≡ true → is_table n ≡ false → Flows p s → Made
    void_whole v a o w =
        let m = rw v at k.5 in
        let u = rw v at a in
        let spelled : SpellsForest children (content_tokens n k.1) = rw o at k.4 in
        let held : SpellsForest children k.1 = rw (void_keeps n v) at spelled in
        let none_held : k.1 ≡ [] = subst (λ ts. SpellsForest ts k.1) m.0 held in
        let q : xs ≡ start_tag (tag_named n attributes k.0) ∷ [] =
        k.3 ∙ ap (λ (ys : List TokenValue). start_tag (tag_named n attributes k.0) ∷ (ys ++ k.2)) none_held
        ∙ ap (λ (ys : List TokenValue). start_tag (tag_named n attributes k.0) ∷ ys) m.1 in
        rw (q, m.0) (void_built z n attributes k.0 p c s v u f.0 h w)

    pre_whole : n ≡ codes "pre" → is_void n ≡ false → is_table n ≡ false → Flows p s → Made
    pre_whole q v o w =
        let g = plain_in o in
        with_content n attributes children p c xs s k v o
        (λ slash content spelled. subst (λ m. SpellsForest children (content_tokens m content)
        → Fits (p ∷ c) m → FitsForest (m ∷ (p ∷ c)) children
        → ElementBuilt z p c m attributes slash content children s)
        (sym q) (λ spelled there below. pre_built z attributes children ih slash content p c s g spelled there below h
        w)
        spelled f.0 f.1)

    table_whole : n ≡ codes "table" → is_table n ≡ true → Flows p s → Made
    table_whole q t w =
        let v : is_void n ≡ false = (part_tags n (rw q refl)).0 in
        let m = rw v at k.5 in
        let g : xs ≡ start_tag (tag_named n attributes k.0) ∷ (k.1 ++ (end_tag (tag_named n [] false) ∷ [])) =
        k.3 ∙ ap (λ (ys : List TokenValue). start_tag (tag_named n attributes k.0) ∷ (k.1 ++ ys)) m.1 in
        rw g (subst (λ m. Fits (p ∷ c) m → FitsForest (m ∷ (p ∷ c)) children
        → ElementBuilt z p c m attributes k.0 k.1 children s) (sym q)
        (λ there below. table_built attributes children tables k.0 k.1 p c s (rw t at inner) (rw t at k.4) below h
        there
        w) f.0 f.1)

    in_flow_whole : Flows p s → Made
    in_flow_whole w =
        let part = flow_fits p n w.0 (f.0).table in
        let a = plain_in_flow n children part e in
        test (is_table n) (λ o. table_whole (one_name (codes "table") n o) o w)
        (λ o. let g = plain_in o in
        test (is_void n) (λ v. void_whole v a o w)
        (λ v. test (is_plain_name n)
        (λ t. with_content n attributes children p c xs s k v o (λ slash content spelled. full_built z n attributes
        children ih slash content p c s t g (rw (keeps_name n t) at spelled) f.0 f.1 h w))
        (λ t. test (is_among (codes "pre" ∷ []) n) (λ y. pre_whole (one_name (codes "pre") n y) v o w)
        (λ y. test (is_among text_names n)
        (λ x. with_content n attributes children p c xs s k v o (λ slash content spelled. text_alone_built z n
        attributes children slash content p c s x (rw (text_keeps n x) at spelled) f.0 f.1 (f.2 x) h w))
        (λ x. let q = table_alone n (rw (v, t, y, x) at a) part in
        absurd (let u = rw q at o in cc))))))

    element_built : Made
    element_built = by_case h.mode
      where
        by_case : ModeIn p s.mode → Made
        by_case (in_flow o w) = in_flow_whole (o, w)
        by_case (in_table q m) =
            elim (section_plain n children (table_fits n (subst (λ y. fits_table y n ≡ true) q (f.0).table)) e) [
              | inl r ↦
                  let o = not-true (is_table n) (among_passes (λ m. not (is_table m)) section_names n r refl) in
                  part_whole n attributes children p c xs s k
                  (among_passes (is_among table_part_names) section_names n r refl) o
                  (λ slash content spelled. section_built n attributes children ih slash content p c s (plain_in o)
                  spelled f.1 h r q m)
              | inr r ↦
                  let o = not_table n (λ t. let w = sym r ∙ t in cc) in
                  part_whole n attributes children p c xs s k (rw r refl) o
                  (λ slash content spelled. caption_built n attributes children ih slash content p c s (plain_in o)
                  spelled f.1 h r q m)
            ]
        by_case (in_section r m) =
            let q = one_name (codes "tr") n (section_fits p n r (f.0).table) in
            let o = not_table n (λ t. let w = sym q ∙ t in cc) in
            part_whole n attributes children p c xs s k (rw q refl) o
            (λ slash content spelled. row_built n attributes children ih slash content p c s (plain_in o) spelled f.1 h
            q r m)
        by_case (in_row q m) =
            let r = row_fits n (subst (λ y. fits_table y n ≡ true) q (f.0).table) in
            let o = not-true (is_table n) (among_passes (λ m. not (is_table m)) cell_names n r refl) in
            part_whole n attributes children p c xs s k
            (among_passes (is_among table_part_names) cell_names n r refl) o
            (λ slash content spelled. cell_built n attributes children ih slash content p c s (plain_in o) spelled f.1
            h
            r q m)

  -- ---- one tree after another

  -- the nodes of both
  both_nodes : (p : List ℕ) (c : List (List ℕ)) (t : ValueTree) (ts : ValueForest) (s first new : StateValue)
      → InContext (p ∷ c) s → first.stack ≡ s.stack → first.nodes ≡ with_tree (at s) t s.nodes
      → new.nodes ≡ with_forest (at first) ts first.nodes
      → new.nodes ≡ with_forest (at s) (more t ts) s.nodes
  both_nodes p c t ts s first new h stack nodes others =
      let there : at first ≡ at s = ap (λ (stack : List OpenValue). (current stack).node) stack in
      others ∙ ap (λ m. with_forest m ts first.nodes) there
      ∙ ap (with_forest (at s) ts) nodes ∙ forest_joined (at s) t ts s.nodes (within p c s h)

  -- what is behind a tree doesn't begin in its text
  text_apart : (p : List ℕ) (c : List (List ℕ)) (t : ValueTree) (ts : ValueForest) (s first : StateValue)
      → InContext (p ∷ c) s → first.stack ≡ s.stack → first.nodes ≡ with_tree (at s) t s.nodes
      → Apart t ts
      → begins_text ts ≡ true → last_text first.nodes (at first) ≡ None
  text_apart p c t ts s first h stack nodes a i =
      let there : at first ≡ at s = ap (λ (stack : List OpenValue). (current stack).node) stack in
      ap (last_text first.nodes) there ∙ ap (λ (ns : List NodeValue). last_text ns (at s)) nodes
      ∙ tree_last t (at s) s.nodes (within p c s h) ∙ no_text_next t ts a i

  both_built : (p : List ℕ) (c : List (List ℕ)) (t : ValueTree) (ts : ValueForest) (xs ys zs : List TokenValue)
      (s : StateValue) → InContext (p ∷ c) s → xs ≡ ys ++ zs
      → (first : (m : StateValue) × Built z (p ∷ c) ys (with_tree (at s) t s.nodes) s m)
      → ((new : StateValue) × Built z (p ∷ c) zs (with_forest (at first.0) ts (first.0).nodes) first.0 new)
      → (new : StateValue) × Built z (p ∷ c) xs (with_forest (at s) (more t ts) s.nodes) s new
  both_built p c t ts xs ys zs s h e first others = (
    others.0,
    record {
      through = subst (λ ws. Through z s ws others.0) (sym e) (followed z first.1.through others.1.through);
      nodes_are = both_nodes p c t ts s first.0 others.0 h first.1.stack first.1.nodes_are others.1.nodes_are;
      in_context = others.1.in_context;
      stack = others.1.stack ∙ first.1.stack;
      mode = others.1.mode ∙ first.1.mode;
      fewer = fewer_trans (others.0).formatting (first.0).formatting s.formatting others.1.fewer first.1.fewer;
    },
  )

  next_built : (t : ValueTree) (ts : ValueForest) → TreeBuilt z t → ForestBuilt z ts → ForestBuilt z (more t ts)
  next_built t ts this all p c xs s k e f h st =
      let g = and_parts (is_plain_tree t) (are_plain ts) e in
      let first = this p c k.0 s k.3 g.0 f.1 h st in
      both_built p c t ts xs k.0 k.1 s h k.2 first
      (all p c k.1 first.0 k.4 g.1 f.2 first.1.in_context
      (text_apart p c t ts s first.0 h first.1.stack first.1.nodes_are f.0))

  nothing_built : ForestBuilt z none
  nothing_built p c xs s k e f h st = (
    s,
    record {
      through = rw k nothing;
      nodes_are = sym (append-nil (append_children (at s) [] s.nodes) ∙ append_none (at s) s.nodes
          (within p c s h));
      in_context = h;
      stack = refl;
      mode = refl;
      fewer = fewer_same s.formatting;
    },
  )

  -- ---- what a table holds

  table_mode : (m : InsertionMode) → ModeIn (codes "table") m → m ≡ InTable
  table_mode m (in_table q e) = e
  table_mode m (in_section r e) = absurd (cc)
  table_mode m (in_row q e) = absurd (cc)
  table_mode m (in_flow o w) = absurd (cc)

  -- rows begin with the tag of one
  row_token : (ks : ValueForest) (xs : List TokenValue) → SpellsForest ks xs → begins_with_row ks ≡ true
      → (attributes : List AttributePair) × (slash : Bool) × (ys : List TokenValue)
      × (xs ≡ start_tag (tag_named (codes "tr") attributes slash) ∷ ys)
  row_token none xs k b = absurd (cc)
  row_token (more (element n attributes kk) us) xs k b =
      let q = k.3 in
      let name : n ≡ codes "tr" = one_name (codes "tr") n b in (
        attributes,
        q.0,
        (q.1 ++ q.2) ++ k.1,
        k.2 ∙ ap (λ (ys : List TokenValue). ys ++ k.1) q.3
            ∙ ap (λ (m : List ℕ). start_tag (tag_named m attributes q.0) ∷ ((q.1 ++ q.2) ++ k.1)) name,
      )
  row_token (more _ us) xs k b = absurd (cc)

  -- rows without the start tag of their section
  bare_rows : (children : ValueForest) → ForestBuilt z children → (c : List (List ℕ)) (content : List TokenValue)
      (s : StateValue) → SpellsForest children content → begins_with_row children ≡ true
      → are_plain children ≡ true → FitsForest (codes "tbody" ∷ (codes "table" ∷ c)) children
      → InContext (codes "table" ∷ c) s → s.mode ≡ InTable
      → (new : StateValue) × Rows z (codes "table" ∷ c) content
      (with_tree (at s) (element (codes "tbody") [] children) s.nodes) s new
  bare_rows children ih c content s k b g ff h m =
      let p : List ℕ = codes "table" in
      let n : List ℕ = codes "tbody" in
      let first : StateValue = implied_body p c s h in
      let i : InContext (n ∷ (p ∷ c)) first =
      entered z p n c [] s s.formatting s.frameset_ok InTableBody h (in_section refl refl) (λ e. absurd (cc))
      (inl (inl (fewer_same s.formatting))) in
      let r = ih n (p ∷ c) content first k g ff i (λ _. starts_empty p n c [] s h) in
      let row = row_token children content k b in
      let x : TokenValue = start_tag (tag_named (codes "tr") row.0 row.1) in
      let same : feed x s ≡ feed x first = implied_row p c s h refl m i row.0 row.1 in
      let run = parts z (subst (λ ws. Through z first ws r.0) row.3 r.1.through) in
      let through : Through z s (x ∷ row.2) r.0 =
      with_fed z x s (feed x first) row.2 r.0 (stands_html s.nodes (p ∷ c) s.stack h.stands)
      run.1 same run.2 in (
        r.0,
        record {
          through = subst (λ ws. Through z s ws r.0) (sym row.3) through;
          nodes_are = r.1.nodes_are ∙ ap (with_forest (length s.nodes) children) (element_added p c n [] s h)
              ∙ filled (at s) n [] children s.nodes;
          in_context = r.1.in_context;
          section = length s.nodes;
          stack = r.1.stack;
          mode = r.1.mode;
          fewer = r.1.fewer;
        },
      )

  -- and with its end tag
  ended_rows : (children : ValueForest) (c : List (List ℕ)) (content : List TokenValue) (s : StateValue)
      → InContext (codes "table" ∷ c) s → s.mode ≡ InTable
      → ((held : StateValue) × Rows z (codes "table" ∷ c) content
      (with_tree (at s) (element (codes "tbody") [] children) s.nodes) s held)
      → (new : StateValue) × Built z (codes "table" ∷ c)
      (content ++ (end_tag (tag_named (codes "tbody") [] false) ∷ []))
      (with_tree (at s) (element (codes "tbody") [] children) s.nodes) s new
  ended_rows children c content s h m r =
      let p : List ℕ = codes "table" in
      let n : List ℕ = codes "tbody" in
      let b = r.1 in
      let new : StateValue = record (r.0) { stack = s.stack; mode = s.mode } in
      let st = subst (λ stack. Stands (r.0).nodes (n ∷ (p ∷ c)) stack) b.stack b.in_context.stands in
      let closed = section_end n (p ∷ c) r.0 b.in_context b.section s.stack n refl b.stack b.mode
      ∙ ap (λ (i : InsertionMode). record (r.0) { stack = s.stack; mode = i }) (sym m) in
      let end = one_fed z n (p ∷ c) (end_tag (tag_named n [] false)) r.0 new [] new b.in_context b.in_context.content
      closed nothing in (
        new,
        record {
          through = followed z b.through end;
          nodes_are = b.nodes_are;
          in_context = record {
            mode = h.mode;
            resets = h.resets;
            content = b.in_context.content;
            no_skip = b.in_context.no_skip;
            no_foster = b.in_context.no_foster;
            no_template = b.in_context.no_template;
            listed = fewer_trans (r.0).formatting s.formatting (entries s.stack) b.fewer h.listed;
            stands = st.4;
          };
          stack = refl;
          mode = refl;
          fewer = b.fewer;
        },
      )

  -- no trees behind nodes
  nothing_joined : (nodes : List NodeValue) (n : ℕ) → n < length nodes → with_forest n none nodes ≡ nodes
  nothing_joined nodes n l = append-nil (append_children n [] nodes) ∙ append_none n nodes l

  open_within : (c : List (List ℕ)) (t : ValueTree) (s : StateValue) → InContext (codes "table" ∷ c) s
      → at s < length (with_tree (at s) t s.nodes)
  open_within c t s h =
      let l = within (codes "table") c s h in
      let m = with_tree_longer (at s) t s.nodes in omega (arith, l, m)

  -- open rows alone
  open_alone : (c : List (List ℕ)) (t : ValueTree) (xs : List TokenValue) (s : StateValue)
      → InContext (codes "table" ∷ c) s
      → ((m : StateValue) × Rows z (codes "table" ∷ c) xs (with_tree (at s) t s.nodes) s m)
      → (new : StateValue) × (Built z (codes "table" ∷ c) xs (with_forest (at s) (more t none) s.nodes) s new
      ⊎ Rows z (codes "table" ∷ c) xs (with_forest (at s) (more t none) s.nodes) s new)
  open_alone c t xs s h r =
      let b = r.1 in (
        r.0,
        inr (record {
          through = b.through;
          nodes_are = b.nodes_are ∙ sym (nothing_joined (with_tree (at s) t s.nodes) (at s) (open_within c t s h))
              ∙ forest_joined (at s) t none s.nodes (within (codes "table") c s h);
          in_context = b.in_context;
          section = b.section;
          stack = b.stack;
          mode = b.mode;
          fewer = b.fewer;
        }),
      )

  plain_of_part : (t : ValueTree) → (is_plain_tree t || are_plain_rows t) ≡ true → is_plain_tree t ≡ false
      → are_plain_rows t ≡ true
  plain_of_part t e f = rw f at e

  rows_not_plain : (n : List ℕ) (attributes : List AttributePair) (children : ValueForest) → is_tbody n ≡ true
      → begins_with_row children ≡ true → is_plain_tree (element n attributes children) ≡ true → ⊥
  unfolding is_void
  rows_not_plain n attributes children t b e =
      let inner = if is_table n then are_plain_table children else are_plain children in
      let g = (and_parts (is_plain_element n || is_plain_body n children) inner e).0 in
      let name : n ≡ codes "tbody" = one_name (codes "tbody") n t in
      let w = rw (name, b) at g in cc

  -- what a table holds makes of a state
  abbrev TableMade : List (List ℕ) → List TokenValue → List NodeValue → StateValue → StateValue → Type 0
  TableMade c xs nodes s new = Built z (codes "table" ∷ c) xs nodes s new ⊎ Rows z (codes "table" ∷ c) xs nodes s
      new

  -- a tree, and what is behind it in a table
  both_made : (c : List (List ℕ)) (t : ValueTree) (ts : ValueForest) (xs zs : List TokenValue)
      (s first : StateValue) → InContext (codes "table" ∷ c) s → first.stack ≡ s.stack → first.mode ≡ s.mode
      → first.nodes ≡ with_tree (at s) t s.nodes → Fewer first.formatting s.formatting
      → (others : (new : StateValue) × TableMade c zs (with_forest (at first) ts first.nodes) first new)
      → Through z s xs others.0
      → (new : StateValue) × TableMade c xs (with_forest (at s) (more t ts) s.nodes) s new
  both_made c t ts xs zs s first h stack mode nodes fewer others through = (others.0, by_others others.1)
    where
      p : List ℕ
      p = codes "table"

      by_others : TableMade c zs (with_forest (at first) ts first.nodes) first others.0
          → TableMade c xs (with_forest (at s) (more t ts) s.nodes) s others.0
      by_others (inl b) = inl (record {
        through = through;
        nodes_are = both_nodes p c t ts s first others.0 h stack nodes b.nodes_are;
        in_context = b.in_context;
        stack = b.stack ∙ stack;
        mode = b.mode ∙ mode;
        fewer = fewer_trans (others.0).formatting first.formatting s.formatting b.fewer fewer;
      })
      by_others (inr b) = inr (record {
        through = through;
        nodes_are = both_nodes p c t ts s first others.0 h stack nodes b.nodes_are;
        in_context = b.in_context;
        section = b.section;
        stack = b.stack ∙ ap (λ (stack : List OpenValue).
            opened b.section (html (name_of_text (codes "tbody"))) ∷ stack) stack;
        mode = b.mode;
        fewer = fewer_trans (others.0).formatting first.formatting s.formatting b.fewer fewer;
      })

  more_built : (c : List (List ℕ)) (t : ValueTree) (ts : ValueForest) (xs ys zs : List TokenValue)
      (s : StateValue) → InContext (codes "table" ∷ c) s → xs ≡ ys ++ zs
      → (first : (m : StateValue) × Built z (codes "table" ∷ c) ys (with_tree (at s) t s.nodes) s m)
      → ((new : StateValue) × TableMade c zs (with_forest (at first.0) ts (first.0).nodes) first.0 new)
      → (new : StateValue) × TableMade c xs (with_forest (at s) (more t ts) s.nodes) s new
  more_built c t ts xs ys zs s h e first others =
      let b = first.1 in
      let behind : Through z first.0 zs others.0 = elim others.1 [ inl o ↦ o.through | inr o ↦ o.through ] in
      both_made c t ts xs zs s first.0 h b.stack b.mode b.nodes_are b.fewer others
      (subst (λ ws. Through z s ws others.0) (sym e) (followed z b.through behind))

  -- ---- rows before a part of the table

  first_nothing : (xs ys : List TokenValue) → [] ≡ xs ++ ys → xs ≡ []
  first_nothing [] ys e = refl
  first_nothing (x ∷ xs) ys e = absurd (cc)

  tree_some : (t : ValueTree) → SpellsTree t [] → ⊥
  tree_some (text u) k = cc
  tree_some (comment u) k = cc
  tree_some (element n attributes children) k = let e = k.3 in cc
  tree_some _ k = k

  rows_some : (ends : Bool) (t : ValueTree) → SpellsRows ends t [] → ⊥
  rows_some ends (element n attributes children) k =
      let row = row_token children k.0 k.6 k.5 in
      let e : k.0 ≡ [] = first_nothing k.0 k.1 k.2 in
      let f = sym row.3 ∙ e in cc
  rows_some ends _ k = k

  part_some : (ends : Bool) (t : ValueTree) (xs : List TokenValue) → xs ≡ []
      → (SpellsTree t xs ⊎ SpellsRows ends t xs) → ⊥
  part_some ends t xs e (inl k) = tree_some t (subst (SpellsTree t) e k)
  part_some ends t xs e (inr k) = rows_some ends t (subst (SpellsRows ends t) e k)

  -- trees have tokens
  table_some : (t : ValueTree) (ts : ValueForest) → SpellsTable (more t ts) [] → ⊥
  table_some t ts k = part_some (end_rows k.1) t k.0 (first_nothing k.0 k.1 k.2) k.3

  -- the first is the tag of a part
  part_tag : (t : ValueTree) (ts : ValueForest) (xs : List TokenValue) → SpellsTable (more t ts) xs
      → end_rows xs ≡ true
      → (tag : TagValue) × (ys : List TokenValue) × (xs ≡ start_tag tag ∷ ys)
      × (is_table_part tag.name ≡ true)
  part_tag t ts [] k e = absurd (table_some t ts k)
  part_tag t ts (start_tag tag ∷ ys) k e = (tag, ys, refl, e)
  part_tag t ts (_ ∷ ys) k e = absurd (cc)

  -- it leaves the section of the rows before it
  rows_left : (c : List (List ℕ)) (t : ValueTree) (ts : ValueForest) (xs ys zs : List TokenValue)
      (s : StateValue) → InContext (codes "table" ∷ c) s → s.mode ≡ InTable → xs ≡ ys ++ zs → Apart t ts
      → (first : (m : StateValue) × Rows z (codes "table" ∷ c) ys (with_tree (at s) t s.nodes) s m)
      → TableBuilt z ts → SpellsTable ts zs → end_rows zs ≡ true → are_plain_table ts ≡ true
      → FitsForest (codes "table" ∷ c) ts
      → (new : StateValue) × TableMade c xs (with_forest (at s) (more t ts) s.nodes) s new
  rows_left c t none xs ys zs s h m e a first tables k ends g f =
      open_alone c t xs s h (subst (λ ws. (held : StateValue) × Rows z (codes "table" ∷ c) ws
      (with_tree (at s) t s.nodes) s held) (sym (e ∙ ap (λ ws. ys ++ ws) k ∙ append-nil ys)) first)
  rows_left c t (more u us) xs ys zs s h m e a first tables k ends g f =
      let p : List ℕ = codes "table" in
      let n : List ℕ = codes "tbody" in
      let held : StateValue = first.0 in
      let b = first.1 in
      let left : StateValue = record held { stack = s.stack; mode = InTable } in
      let st = subst (λ stack. Stands held.nodes (n ∷ (p ∷ c)) stack) b.stack b.in_context.stands in
      let i : InContext (p ∷ c) left = record {
        mode = in_table refl refl;
        resets = λ q. absurd (cc);
        content = b.in_context.content;
        no_skip = b.in_context.no_skip;
        no_foster = b.in_context.no_foster;
        no_template = b.in_context.no_template;
        listed = fewer_trans held.formatting s.formatting (entries s.stack) b.fewer h.listed;
        stands = st.4;
      } in
      let others = tables c zs left k g f i (text_apart p c t (more u us) s left h refl b.nodes_are a) in
      let tag = part_tag u us zs k ends in
      let x : TokenValue = start_tag tag.0 in
      let behind : Through z left zs others.0 = elim others.1 [ inl o ↦ o.through | inr o ↦ o.through ] in
      let run = parts z (subst (λ ws. Through z left ws others.0) tag.2 behind) in
      let same : feed x held ≡ feed x left =
      part_leaves n (p ∷ c) held b.in_context b.section s.stack b.stack b.mode p c i (tag.0).name tag.3
      (tag.0).attributes (tag.0).self_closing in
      let through : Through z held zs others.0 =
      subst (λ ws. Through z held ws others.0) (sym tag.2) (with_fed z x held (feed x left) tag.1 others.0
      (stands_html held.nodes (n ∷ (p ∷ c)) held.stack b.in_context.stands) run.1 same run.2) in
      both_made c t (more u us) xs zs s left h refl (sym m) b.nodes_are b.fewer others
      (subst (λ ws. Through z s ws others.0) (sym e) (followed z b.through through))

  -- a tree of a table is there, or its section is still open
  abbrev PartMade : List (List ℕ) → List TokenValue → Bool → ValueTree → StateValue → StateValue → Type 0
  PartMade c xs ends t s m =
      Built z (codes "table" ∷ c) xs (with_tree (at s) t s.nodes) s m
      ⊎ (Rows z (codes "table" ∷ c) xs (with_tree (at s) t s.nodes) s m × (ends ≡ true))

  rows_made : (n : List ℕ) (attributes : List AttributePair) (children : ValueForest) → ForestBuilt z children
      → (c : List (List ℕ)) (xs : List TokenValue) (ends : Bool) (s : StateValue)
      → SpellsRows ends (element n attributes children) xs
      → are_plain children ≡ true → FitsForest (n ∷ (codes "table" ∷ c)) children
      → InContext (codes "table" ∷ c) s
      → (m : StateValue) × PartMade c xs ends (element n attributes children) s m
  rows_made n attributes children ih c xs ends s k g ff h =
      let p : List ℕ = codes "table" in
      let name : n ≡ codes "tbody" = one_name (codes "tbody") n k.3 in
      let m = table_mode s.mode h.mode in
      let open_ = bare_rows children ih c k.0 s k.6 k.5 g
      (subst (λ (y : List ℕ). FitsForest (y ∷ (p ∷ c)) children) name ff) h m in
      rw (name, k.4, k.2) (elim k.7 [
        | inl e ↦ rw e.0 (let r = subst (λ (ys : List TokenValue). (held : StateValue) × Rows z (p ∷ c) ys
            (with_tree (at s) (element (codes "tbody") [] children) s.nodes) s held) (sym (append-nil k.0)) open_ in
            (r.0, inr (r.1, e.1)))
        | inr e ↦ rw e (let r = ended_rows children c k.0 s h m open_ in (r.0, inl r.1))
      ])

  element_part : (n : List ℕ) (attributes : List AttributePair) (children : ValueForest) → ForestBuilt z children
      → TableBuilt z children → (c : List (List ℕ)) (xs : List TokenValue) (ends : Bool) (s : StateValue)
      → (SpellsTree (element n attributes children) xs ⊎ SpellsRows ends (element n attributes children) xs)
      → (is_plain_tree (element n attributes children) || are_plain_rows (element n attributes children)) ≡ true
      → FitsTree (codes "table" ∷ c) (element n attributes children) → InContext (codes "table" ∷ c) s
      → (m : StateValue) × PartMade c xs ends (element n attributes children) s m
  element_part n attributes children ih tables c xs ends s (inl k) e f h =
      test (is_plain_tree (element n attributes children))
      (λ w. let inner = if is_table n then are_plain_table children else are_plain children in
      let g = and_parts (is_plain_element n || is_plain_body n children) inner w in
      let r = element_built n attributes children ih tables (codes "table") c xs s k g.0 g.1 f h in (r.0, inl r.1))
      (λ w. let g = and_parts (is_tbody n && begins_with_row children) (are_plain children)
      (plain_of_part (element n attributes children) e w) in
      let r = tagged_rows n attributes children ih c xs s k (and_parts (is_tbody n) (begins_with_row children) g.0).0
      g.1 f.1 h (table_mode s.mode h.mode) in (r.0, inl r.1))
  element_part n attributes children ih tables c xs ends s (inr k) e f h =
      test (is_plain_tree (element n attributes children))
      (λ w. absurd (rows_not_plain n attributes children k.3 k.5 w))
      (λ w. let g = and_parts (is_tbody n && begins_with_row children) (are_plain children)
      (plain_of_part (element n attributes children) e w) in
      rows_made n attributes children ih c xs ends s k g.1 f.1 h)

  -- a text or a comment
  leaf_part : (t : ValueTree) → TreeBuilt z t → (c : List (List ℕ)) (xs : List TokenValue) (ends : Bool)
      (s : StateValue) → SpellsTree t xs → is_plain_tree t ≡ true → FitsTree (codes "table" ∷ c) t
      → InContext (codes "table" ∷ c) s → (is_text t ≡ true → last_text s.nodes (at s) ≡ None)
      → (m : StateValue) × PartMade c xs ends t s m
  leaf_part t this c xs ends s k e f h st =
      let r = this (codes "table") c xs s k e f h st in (r.0, inl r.1)

  table_next : (t : ValueTree) (ts : ValueForest) (c : List (List ℕ)) (xs : List TokenValue) (s : StateValue)
      (k : SpellsTable (more t ts) xs) → TableBuilt z ts → are_plain_table ts ≡ true
      → FitsForest (codes "table" ∷ c) (more t ts) → InContext (codes "table" ∷ c) s
      → ((m : StateValue) × PartMade c k.0 (end_rows k.1) t s m)
      → (new : StateValue) × TableMade c xs (with_forest (at s) (more t ts) s.nodes) s new
  table_next t ts c xs s k tables g f h first =
      elim first.1 [
        | inl b ↦ more_built c t ts xs k.0 k.1 s h k.2 (first.0, b)
            (tables c k.1 first.0 k.4 g f.2 b.in_context
            (text_apart (codes "table") c t ts s first.0 h b.stack b.nodes_are f.0))
        | inr b ↦ rows_left c t ts xs k.0 k.1 s h (table_mode s.mode h.mode) k.2 f.0 (first.0, b.0) tables k.4 b.1 g
            f.2
      ]

  mutual
    tree_built : (t : ValueTree) → TreeBuilt z t
    tree_built (text u) p c xs s k e f h st = text_built z u p c xs s k e f h st
    tree_built (comment u) p c xs s k e f h st = comment_built z u p c xs s k e f h st
    tree_built (element n attributes children) p c xs s k e f h st =
        let inner = if is_table n then are_plain_table children else are_plain children in
        let g = and_parts (is_plain_element n || is_plain_body n children) inner e in
        element_built n attributes children (forest_built children) (table_forest_built children) p c xs s k g.0 g.1 f h
    tree_built _ p c xs s k e f h st = absurd k

    part_made : (t : ValueTree) (c : List (List ℕ)) (xs : List TokenValue) (ends : Bool) (s : StateValue)
        → (SpellsTree t xs ⊎ SpellsRows ends t xs) → (is_plain_tree t || are_plain_rows t) ≡ true
        → FitsTree (codes "table" ∷ c) t → InContext (codes "table" ∷ c) s
        → (is_text t ≡ true → last_text s.nodes (at s) ≡ None) → (m : StateValue) × PartMade c xs ends t s m
    part_made (text u) c xs ends s (inl k) e f h st = leaf_part (text u) (text_built z u) c xs ends s k refl f h st
    part_made (comment u) c xs ends s (inl k) e f h st =
        leaf_part (comment u) (comment_built z u) c xs ends s k refl f h st
    part_made (text u) c xs ends s (inr k) e f h st = absurd k
    part_made (comment u) c xs ends s (inr k) e f h st = absurd k
    part_made (element n attributes children) c xs ends s k e f h st =
        element_part n attributes children (forest_built children) (table_forest_built children) c xs ends s k e f h
    part_made _ c xs ends s k e f h st = absurd (elim k [ inl x ↦ x | inr x ↦ x ])

    table_forest_built : (ts : ValueForest) → TableBuilt z ts
    table_forest_built none c xs s k e f h st =
        let r = nothing_built (codes "table") c xs s k refl tt h st in (r.0, inl r.1)
    table_forest_built (more t ts) c xs s k e f h st =
        let g = and_parts (is_plain_tree t || are_plain_rows t) (are_plain_table ts) e in
        table_next t ts c xs s k (table_forest_built ts) g.1 f h
        (part_made t c k.0 (end_rows k.1) s k.3 g.0 f.1 h st)

    pub forest_built : (ts : ValueForest) → ForestBuilt z ts
    forest_built none p c xs s k e f h st = nothing_built p c xs s k e f h st
    forest_built (more t ts) p c xs s k e f h st = next_built t ts (tree_built t) (forest_built ts) p c xs s k e f h st
