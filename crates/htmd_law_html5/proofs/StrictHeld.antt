-- Trees that fit, and what the tokens of elements with content build, where the content is read as the body is.
use Rattle.std.proofs.Common.{◌≡◌, ℕ, ◌<◌, Bool, true, false, not, List, [], ◌∷◌, ◌++◌, length, Option, Some}
use Rattle.std.proofs.Common.{None, refl, sym, ap, ◌∙◌, arith, inl, inr, subst, length-append, codes}
use Rattle.std.specs.List.{list_all}
use Rattle.std.specs.Prelude.{◌⊎◌}
use Rattle.htmd_lexical.specs.WhiteSpace.{is_ascii_white_space}
use Rattle.htmd_lexical.proofs.Cases.{test}
use Rattle.htmd_lexical.specs.AttributePairs.{AttributePair}
use Rattle.htmd_values.specs.ValueTrees.{ValueTree, ValueForest, none, more, text}
use Rattle.htmd_values.specs.ValueTrees.{comment, element}
use Rattle.htmd_lexical.specs.CharacterClasses.{is_among}
use Rattle.htmd_grammar.specs.Grammar.{Apart}
use Rattle.htmd_grammar.specs.Nesting.{parent_name, holds_parts}
use Rattle.htmd_values.specs.Serialisation.{is_void}
use Rattle.htmd_html5_tokens.specs.Tokens.{TokenValue, start_tag, end_tag}
use Rattle.htmd_lexical.specs.declared.content_model.ContentModel.TheVariants.{Normal}
use Rattle.htmd_html5.specs.Texts.{is_table_mode}
use Rattle.htmd_html5_state.specs.Resetting.{mode_of}
use Rattle.htmd_html5_state.specs.Sets.{is_of}
use Rattle.htmd_html5_state.specs.declared.modes.InsertionMode.{InsertionMode}
use Rattle.htmd_html5_state.specs.declared.modes.InsertionMode.TheVariants.{InTableBody}
use Rattle.htmd_html5_state.specs.declared.sets.NameSet.TheVariants.{Fostering}
use Rattle.htmd_html5_state.specs.Names.{html, name_of_text}
use Rattle.htmd_html5_state.specs.Nodes.{NodeValue, kind_at, append_children, add, add_text, last_in}
use Rattle.htmd_html5_state.specs.OpenElements.{OpenValue}
use Rattle.htmd_html5_state.specs.Insertion.{opened, place}
use Rattle.htmd_html5_state.specs.State.{StateValue}
use Rattle.htmd_html5.specs.AtOnce.{is_without_null}
use Rattle.htmd_html5.specs.Feeding.{feed}
use Rattle.htmd_law_html5.specs.StrictTokens.{content_after, tag_named, SpellsTree, SpellsForest}
use Rattle.htmd_law_html5.specs.StrictTokens.{SpellsTable}
use Rattle.htmd_law_html5.specs.StrictTokens.{after_feed}
use Rattle.htmd_law_html5.specs.StrictTrees.{is_plain_name, is_plain_tree, are_plain}
use Rattle.htmd_law_html5.specs.StrictTrees.{text_names, are_plain_table}
use Rattle.htmd_law_html5.proofs.StrictNodes.{node, tree_nodes, append_length, added, last_text, text_added}
use Rattle.htmd_law_html5.proofs.StrictNodes.{kind_after, kinds_kept, with_tree, with_forest, filled}
use Rattle.htmd_law_html5.proofs.StrictNodes.{is_text, begins_text, with_tree_longer}
use Rattle.htmd_law_html5.proofs.StrictOpen.{Fewer, fewer_same, fewer_trans, entries, Stands}
use Rattle.htmd_law_html5.proofs.StrictOpen.{stands_longer}
use Rattle.htmd_law_html5.proofs.StrictOpen.{the_document, stands_below}
use Rattle.htmd_law_html5.proofs.StrictNames.{plain_case, is_formatting_case, void_case}
use Rattle.htmd_law_html5.proofs.StrictSets.{plain_content}
use Rattle.htmd_law_html5.proofs.StrictOnlyText.{at, at_end, element_added, starts_empty, IsOneText, Put, none_put}
use Rattle.htmd_law_html5.proofs.StrictOnlyText.{text_put}
use Rattle.htmd_law_html5.proofs.StrictThrough.{Through, nothing, followed, from_state, one_fed, skip_run}
use Rattle.htmd_grammar.proofs.NestingLemmas.{among_passes}
use Rattle.htmd_law_html5.proofs.StrictRawTexts.{normal_content, void_content}
use Rattle.htmd_law_html5.proofs.StrictRules.{InContext, Flows, Fits, within, comment_fed, text_fed, plain_start}
use Rattle.htmd_law_html5.proofs.StrictRules.{formatting_start, void_fed, opened_with, pre_start}
use Rattle.htmd_law_html5.proofs.StrictEnds.{plain_end, formatting_end, pre_end}
use Rattle.htmd_law_html5.proofs.StrictModes.{IsFlow, ModeIn, in_table, in_section, in_row, in_flow}
use Rattle.htmd_law_html5.proofs.StrictModes.{section_names}
use Rattle.htmd_law_html5.proofs.StrictModes.{flows, flows_hold, plain_flows, reset_past}
use Rattle.htmd_law_html5.proofs.StrictTables.{white_fed, opened_as}
use Rattle.htmd_html5_tokens.specs.Tokens as tokens
use Rattle.htmd_html5_state.specs.Nodes as documents

-- ---- trees that fit

abbrev mutual
  pub FitsTree : List (List ℕ) → ValueTree → Type 0
  FitsTree c (text u) =
      (is_without_null u ≡ true)
      × (holds_parts (parent_name (c ++ the_document)) ≡ true → list_all is_ascii_white_space u ≡ true)
  FitsTree c (element n attributes children) =
      Fits c n × FitsForest (n ∷ c) children × (is_among text_names n ≡ true → IsOneText children)
  FitsTree c _ = Unit {0}

  -- no two texts are neighbours, and each element may stand in its context
  pub FitsForest : List (List ℕ) → ValueForest → Type 0
  FitsForest c none = Unit {0}
  FitsForest c (more t ts) = Apart t ts × FitsTree c t × FitsForest c ts

module _ (z : Bool) where
  -- what has been built from a state on
  pub record Built (c : List (List ℕ)) (xs : List TokenValue) (nodes : List NodeValue) (s new : StateValue) : Type 0
    where
      pub through : Through z s xs new
      pub nodes_are : new.nodes ≡ nodes
      pub in_context : InContext c new
      pub stack : new.stack ≡ s.stack
      pub mode : new.mode ≡ s.mode
      pub fewer : Fewer new.formatting s.formatting

  abbrev pub TreeBuilt : ValueTree → Type 0
  TreeBuilt t = (p : List ℕ) (c : List (List ℕ)) (xs : List TokenValue) (s : StateValue) → SpellsTree t xs
      → is_plain_tree t ≡ true → FitsTree (p ∷ c) t → InContext (p ∷ c) s
      → (is_text t ≡ true → last_text s.nodes (at s) ≡ None)
      → (new : StateValue) × Built (p ∷ c) xs (with_tree (at s) t s.nodes) s new

  abbrev pub ForestBuilt : ValueForest → Type 0
  ForestBuilt ts = (p : List ℕ) (c : List (List ℕ)) (xs : List TokenValue) (s : StateValue) → SpellsForest ts xs
      → are_plain ts ≡ true → FitsForest (p ∷ c) ts → InContext (p ∷ c) s
      → (begins_text ts ≡ true → last_text s.nodes (at s) ≡ None)
      → (new : StateValue) × Built (p ∷ c) xs (with_forest (at s) ts s.nodes) s new

  -- the same where a table ends with rows whose section is still open
  pub record Rows (c : List (List ℕ)) (xs : List TokenValue) (nodes : List NodeValue) (s new : StateValue) : Type 0
    where
      pub through : Through z s xs new
      pub nodes_are : new.nodes ≡ nodes
      pub in_context : InContext (codes "tbody" ∷ c) new
      pub section : ℕ
      pub stack : new.stack ≡ opened section (html (name_of_text (codes "tbody"))) ∷ s.stack
      pub mode : new.mode ≡ InTableBody
      pub fewer : Fewer new.formatting s.formatting

  abbrev pub TableBuilt : ValueForest → Type 0
  TableBuilt ts = (c : List (List ℕ)) (xs : List TokenValue) (s : StateValue) → SpellsTable ts xs
      → are_plain_table ts ≡ true → FitsForest (codes "table" ∷ c) ts → InContext (codes "table" ∷ c) s
      → (begins_text ts ≡ true → last_text s.nodes (at s) ≡ None)
      → (new : StateValue) × (Built (codes "table" ∷ c) xs (with_forest (at s) ts s.nodes) s new
      ⊎ Rows (codes "table" ∷ c) xs (with_forest (at s) ts s.nodes) s new)

  -- and what the tokens of an element with content build
  abbrev pub ElementBuilt : List ℕ → List (List ℕ) → List ℕ → List AttributePair → Bool
      → List TokenValue
      → ValueForest → StateValue → Type 0
  ElementBuilt p c n attributes slash content children s =
      (new : StateValue) × Built (p ∷ c)
      (start_tag (tag_named n attributes slash) ∷ (content ++ (end_tag (tag_named n [] false) ∷ [])))
      (with_tree (at s) (element n attributes children) s.nodes) s new

  -- ---- a tree that opens nothing

  -- with these nodes in place of those before
  grown : (p : List ℕ) (c : List (List ℕ)) (t : ValueTree) (s : StateValue) (nodes : List NodeValue) (ok : Bool)
      → InContext (p ∷ c) s → nodes ≡ with_tree (at s) t s.nodes
      → InContext (p ∷ c) (record s { nodes = nodes; frameset_ok = ok })
  grown p c t s nodes ok h e = record {
    mode = h.mode;
    resets = h.resets;
    content = h.content;
    no_skip = h.no_skip;
    no_foster = h.no_foster;
    no_template = h.no_template;
    listed = h.listed;
    stands = subst (λ ns. Stands ns (p ∷ c) s.stack) (sym e)
        (stands_longer s.nodes (with_tree (at s) t s.nodes) (p ∷ c) s.stack (with_tree_longer (at s) t s.nodes)
        (λ n l. kinds_kept (at s) n (length s.nodes ∷ []) s.nodes (tree_nodes (at s) (length s.nodes) t) l)
        h.stands);
  }

  put_built : (p : List ℕ) (c : List (List ℕ)) (t : ValueTree) (s : StateValue) (xs : List TokenValue)
      → InContext (p ∷ c) s → Put z s t xs
      → (new : StateValue) × Built (p ∷ c) xs (with_tree (at s) t s.nodes) s new
  put_built p c t s xs h r = (
    record s { nodes = r.nodes; frameset_ok = r.ok },
    record {
      through = r.through;
      nodes_are = r.nodes_are;
      in_context = grown p c t s r.nodes r.ok h r.nodes_are;
      stack = refl;
      mode = refl;
      fewer = fewer_same s.formatting;
    },
  )

  leaf_built : (p : List ℕ) (c : List (List ℕ)) (t : ValueTree) (x : TokenValue) (s : StateValue)
      (nodes : List NodeValue) (ok : Bool) → InContext (p ∷ c) s → content_after z Normal x ≡ Normal
      → feed x s ≡ record s { nodes = nodes; frameset_ok = ok } → nodes ≡ with_tree (at s) t s.nodes
      → (new : StateValue) × Built (p ∷ c) (x ∷ []) (with_tree (at s) t s.nodes) s new
  leaf_built p c t x s nodes ok h k f e =
      put_built p c t s (x ∷ []) h (record {
        nodes = nodes;
        ok = ok;
        nodes_are = e;
        through = one_fed z p c x s _ [] _ h (h.content ∙ sym k) f nothing;
      })

  pub text_built : (u : List ℕ) → TreeBuilt (text u)
  text_built u p c xs s k e f h st = rw k (by_case h.mode)
    where
      nodes : add_text u (place s) s.nodes ≡ with_tree (at s) (text u) s.nodes
      nodes =
          ap (λ there. add_text u there s.nodes) (at_end p c s h)
          ∙ text_added u (at s) s.nodes (within p c s h) (st refl)

      in_body : Flows p s → (new : StateValue)
          × Built (p ∷ c) (tokens.text u ∷ []) (with_tree (at s) (text u) s.nodes)
          s new
      in_body w =
          let fed = text_fed p c s h w u f.0 in
          test (list_all is_ascii_white_space u)
          (λ t. leaf_built p c (text u) (tokens.text u) s _ s.frameset_ok h refl (fed ∙ rw t refl) nodes)
          (λ t. leaf_built p c (text u) (tokens.text u) s _ false h refl (fed ∙ rw t refl) nodes)

      in_parts : is_table_mode s.mode ≡ true → is_of Fostering (html (name_of_text p)) ≡ true
          → holds_parts p ≡ true
          → (new : StateValue) × Built (p ∷ c) (tokens.text u ∷ []) (with_tree (at s) (text u) s.nodes) s new
      in_parts m b o =
          leaf_built p c (text u) (tokens.text u) s _ s.frameset_ok h refl (white_fed p c s h m b u f.0 (f.1 o)) nodes

      by_case : ModeIn p s.mode
          → (new : StateValue) × Built (p ∷ c) (tokens.text u ∷ []) (with_tree (at s) (text u) s.nodes) s new
      by_case (in_table q m) = in_parts (rw m refl) (rw q refl) (rw q refl)
      by_case (in_section q m) = in_parts (rw m refl)
          (among_passes (λ n. is_of Fostering (html (name_of_text n))) section_names p q refl)
          (among_passes holds_parts section_names p q refl)
      by_case (in_row q m) = in_parts (rw m refl) (rw q refl) (rw q refl)
      by_case (in_flow o w) = in_body (o, w)

  pub comment_built : (u : List ℕ) → TreeBuilt (comment u)
  comment_built u p c xs s k e f h st =
      rw k (leaf_built p c (comment u) (tokens.comment u) s (add (documents.comment u) (last_in (at s)) s.nodes)
      s.frameset_ok h refl (comment_fed p c s h u) (added (documents.comment u) (at s) s.nodes (within p c s h)))

  pub void_built : (n : List ℕ) (attributes : List AttributePair) (slash : Bool) (p : List ℕ) (c : List (List ℕ))
      (s : StateValue) → is_void n ≡ true → not (is_among (codes "col" ∷ []) n) ≡ true → Fits (p ∷ c) n
      → InContext (p ∷ c) s → Flows p s
      → (new : StateValue) × Built (p ∷ c) (start_tag (tag_named n attributes slash) ∷ [])
      (with_tree (at s) (element n attributes none) s.nodes) s new
  void_built n attributes slash p c s v e f h w =
      let fed = void_fed p c s h w n (void_case n v e f.inside) f attributes slash in
      leaf_built p c (element n attributes none) (start_tag (tag_named n attributes slash)) s
      (add (documents.element (html (name_of_text n)) attributes) (place s) s.nodes) fed.0 h
      (normal_content z n (void_content z n v) f.inside) fed.1 (element_added p c n attributes s h)

  -- ---- an element with content

  abbrev pub fresh : List ℕ → StateValue → OpenValue
  fresh n s = opened (length s.nodes) (html (name_of_text n))

  -- the state in which the content comes
  pub entered : (p n : List ℕ) (c : List (List ℕ)) (attributes : List AttributePair) (s : StateValue)
      (list : List (Option ℕ)) (ok : Bool) (m : InsertionMode) (h : InContext (p ∷ c) s) → ModeIn n m
      → (holds_parts n ≡ false → (y : StateValue) → mode_of (fresh n s ∷ s.stack) y ≡ m)
      → Fewer list (Some (length s.nodes) ∷ None ∷ s.formatting)
      → InContext (n ∷ (p ∷ c)) (opened_as p c s h n attributes list ok m)
  entered p n c attributes s list ok m h i r f =
      let kind = documents.element (html (name_of_text n)) attributes in
      let front : List NodeValue = append_children (at s) (length s.nodes ∷ []) s.nodes in
      let new : NodeValue = node kind (at s) [] in
      let added_ = element_added p c n attributes s h in
      let long = append_length (at s) (length s.nodes ∷ []) s.nodes in
      let l : length s.nodes < length (front ++ new ∷ []) = omega (arith, long, length-append front (new ∷ [])) in
      let g = grown p c (element n attributes none) s (add kind (place s) s.nodes) ok h added_ in
      record {
        mode = i;
        resets = r;
        content = h.content;
        no_skip = h.no_skip;
        no_foster = h.no_foster;
        no_template = h.no_template;
        listed = fewer_trans list (Some (length s.nodes) ∷ None ∷ s.formatting) (entries (fresh n s ∷ s.stack)) f
            (inr (None ∷ s.formatting, refl, inr (s.formatting, refl, h.listed)));
        stands = (
          refl,
          (
            attributes,
            ap (λ ns. kind_at ns (length s.nodes)) added_ ∙ kind_after front new [] (length s.nodes) long,
          ),
          subst (λ ns. length s.nodes < length ns) (sym added_) l,
          stands_below s.nodes (p ∷ c) s.stack h.stands,
          g.stands,
        );
      }

  -- the content between a start tag and an end tag that do this, after which no more is listed than before
  pub held_built : (p n : List ℕ) (c : List (List ℕ)) (attributes : List AttributePair) (children : ValueForest)
      → ForestBuilt children → (slash : Bool) (whole content : List TokenValue) (s : StateValue)
      (list : List (Option ℕ)) (ok : Bool) (m : InsertionMode) (h : InContext (p ∷ c) s)
      → SpellsForest children content → are_plain children ≡ true → FitsForest (n ∷ (p ∷ c)) children
      → InContext (n ∷ (p ∷ c)) (opened_as p c s h n attributes list ok m)
      → (feed (start_tag (tag_named n attributes slash)) s).content
      ≡ content_after z Normal (start_tag (tag_named n attributes slash))
      → ((held : StateValue) → held.stack ≡ fresh n s ∷ s.stack → held.mode ≡ m
      → InContext (n ∷ (p ∷ c)) held → Fewer held.formatting list
      → (left : List (Option ℕ)) × Fewer left s.formatting
      × (feed (end_tag (tag_named n [] false)) held
      ≡ record held { stack = s.stack; formatting = left; mode = s.mode }))
      → ((new : StateValue) → Through z (opened_as p c s h n attributes list ok m)
      (content ++ (end_tag (tag_named n [] false) ∷ [])) new
      → Through z (feed (start_tag (tag_named n attributes slash)) s)
      (whole ++ (end_tag (tag_named n [] false) ∷ [])) new)
      → ElementBuilt p c n attributes slash whole children s
  held_built p n c attributes children ih slash whole content s list ok m h k g ff i e ends run =
      let first : StateValue = opened_as p c s h n attributes list ok m in
      let r = ih n (p ∷ c) content first k g ff i (λ _. starts_empty p n c attributes s h) in
      let b = r.1 in
      let last = ends r.0 b.stack b.mode b.in_context b.fewer in
      let new : StateValue = record (r.0) { stack = s.stack; formatting = last.0; mode = s.mode } in
      let st = subst (λ stack. Stands (r.0).nodes (n ∷ (p ∷ c)) stack) b.stack b.in_context.stands in
      let through : Through z first (content ++ (end_tag (tag_named n [] false) ∷ [])) new =
      followed z b.through (one_fed z n (p ∷ c) (end_tag (tag_named n [] false)) r.0 new [] new b.in_context
      b.in_context.content last.2 nothing) in (
        new,
        record {
          through = one_fed z p c (start_tag (tag_named n attributes slash)) s _ _ new h e refl (run new through);
          nodes_are = b.nodes_are ∙ ap (with_forest (length s.nodes) children) (element_added p c n attributes s h)
              ∙ filled (at s) n attributes children s.nodes;
          in_context = record {
            mode = h.mode;
            resets = h.resets;
            content = b.in_context.content;
            no_skip = b.in_context.no_skip;
            no_foster = b.in_context.no_foster;
            no_template = b.in_context.no_template;
            listed = fewer_trans last.0 s.formatting (entries s.stack) last.1 h.listed;
            stands = st.4;
          };
          stack = refl;
          mode = refl;
          fewer = last.1;
        },
      )

  -- ---- an element whose content is read as the body is

  flow_entered : (p n : List ℕ) (c : List (List ℕ)) (attributes : List AttributePair) (s : StateValue)
      (list : List (Option ℕ)) (ok : Bool) (h : InContext (p ∷ c) s) → Flows p s → flows n ≡ true
      → Fewer list (Some (length s.nodes) ∷ None ∷ s.formatting)
      → InContext (n ∷ (p ∷ c)) (opened_with p c s h n attributes list ok)
  flow_entered p n c attributes s list ok h w o f =
      entered p n c attributes s list ok s.mode h (in_flow (flows_hold n o) w.1)
      (λ e y. rw (reset_past n o s.stack y) (h.resets w.0 y)) f

  -- a mode that is the same
  pub moded : (held : StateValue) (stack : List OpenValue) (left : List (Option ℕ)) {i m : InsertionMode} → i ≡ m
      → record held { stack = stack; formatting = left; mode = i }
      ≡ record held { stack = stack; formatting = left; mode = m }
  moded held stack left e =
      ap (λ (i : InsertionMode). record held { stack = stack; formatting = left; mode = i }) e

  flows_in : (p : List ℕ) (s held : StateValue) → Flows p s → held.mode ≡ s.mode → IsFlow held.mode
  flows_in p s held w e = subst IsFlow (sym e) w.1

  pub full_built : (n : List ℕ) (attributes : List AttributePair) (children : ValueForest) → ForestBuilt children
      → (slash : Bool) (content : List TokenValue) (p : List ℕ) (c : List (List ℕ)) (s : StateValue)
      → is_plain_name n ≡ true → are_plain children ≡ true → SpellsForest children content
      → Fits (p ∷ c) n → FitsForest (n ∷ (p ∷ c)) children → InContext (p ∷ c) s → Flows p s
      → ElementBuilt p c n attributes slash content children s
  full_built n attributes children ih slash content p c s e g k f ff h w =
      test (is_formatting_case (plain_case n e)) formatted unformatted
    where
      formatted : is_formatting_case (plain_case n e) ≡ true
          → ElementBuilt p c n attributes slash content children s
      formatted t =
          let started = formatting_start p c s h w n (plain_case n e) f t attributes slash in
          held_built p n c attributes children ih slash content content s (Some (length s.nodes) ∷ started.0)
          s.frameset_ok s.mode h k g ff
          (flow_entered p n c attributes s _ s.frameset_ok h w (plain_flows n e)
          (inr (started.0, refl, inl started.1)))
          (ap (λ (y : StateValue). y.content) started.2 ∙ h.content ∙ sym (plain_content z n e))
          (λ held stack mode there fewer.
          let st = subst (Stands held.nodes (n ∷ (p ∷ c))) stack there.stands in
          let ends = formatting_end n (p ∷ c) held there (flows_in p s held w mode) n (plain_flows n e)
          (plain_case n e)
          t (length s.nodes) s.stack (st.1).0 started.0 stack (st.1).1 st.3 fewer
          (fewer_trans started.0 s.formatting (entries s.stack) started.1 h.listed) in (
            ends.0,
            fewer_trans ends.0 started.0 s.formatting ends.1 started.1,
            ends.2 ∙ moded held s.stack ends.0 mode,
          ))
          (λ new run. from_state z started.2 run)

      unformatted : is_formatting_case (plain_case n e) ≡ false
          → ElementBuilt p c n attributes slash content children s
      unformatted t =
          let started = plain_start p c s h w n (plain_case n e) f t attributes slash in
          held_built p n c attributes children ih slash content content s s.formatting started.0 s.mode h k g ff
          (flow_entered p n c attributes s _ started.0 h w (plain_flows n e) (inl (inl (fewer_same s.formatting))))
          (ap (λ (y : StateValue). y.content) started.1 ∙ h.content ∙ sym (plain_content z n e))
          (λ held stack mode there fewer.
          let ends = plain_end n (p ∷ c) held there (flows_in p s held w mode) n (plain_flows n e) (plain_case n e) t
          (length s.nodes) s.stack stack in
          (held.formatting, fewer, ends ∙ moded held s.stack held.formatting mode))
          (λ new run. from_state z started.1 run)

  pub pre_built : (attributes : List AttributePair) (children : ValueForest) → ForestBuilt children
      → (slash : Bool) (content : List TokenValue) (p : List ℕ) (c : List (List ℕ)) (s : StateValue)
      → are_plain children ≡ true → SpellsForest children (after_feed content)
      → Fits (p ∷ c) (codes "pre") → FitsForest (codes "pre" ∷ (p ∷ c)) children → InContext (p ∷ c) s
      → Flows p s → ElementBuilt p c (codes "pre") attributes slash content children s
  pre_built attributes children ih slash content p c s g k f ff h w =
      let n : List ℕ = codes "pre" in
      let started = pre_start p c s h w f attributes slash in
      let there =
      flow_entered p n c attributes s s.formatting false h w refl (inl (inl (fewer_same s.formatting))) in
      held_built p n c attributes children ih slash content (after_feed content) s s.formatting false s.mode h k g ff
      there (ap (λ (y : StateValue). y.content) started ∙ h.content)
      (λ held stack mode there fewer.
      let ends = pre_end n (p ∷ c) held there (flows_in p s held w mode) (length s.nodes) s.stack stack in
      (held.formatting, fewer, ends ∙ moded held s.stack held.formatting mode))
      (λ new run. from_state z started (skip_run z n (p ∷ c) (opened_with p c s h n attributes s.formatting false)
      there content (tag_named n [] false) new run))

  -- an element that holds only text
  pub text_alone_built : (n : List ℕ) (attributes : List AttributePair) (children : ValueForest) (slash : Bool)
      (content : List TokenValue) (p : List ℕ) (c : List (List ℕ)) (s : StateValue)
      → is_among text_names n ≡ true → SpellsForest children content → Fits (p ∷ c) n
      → FitsForest (n ∷ (p ∷ c)) children → IsOneText children → InContext (p ∷ c) s → Flows p s
      → ElementBuilt p c n attributes slash content children s
  text_alone_built n attributes none slash content p c s e k f ff o h w =
      rw k (put_built p c (element n attributes none) s _ h (none_put z p c s h w n e f attributes slash))
  text_alone_built n attributes (more (text u) none) slash content p c s e k f ff o h w =
      let q : content ≡ tokens.text u ∷ [] =
      k.2 ∙ ap (λ (ys : List TokenValue). ys ++ k.1) k.3
      ∙ ap (λ (ys : List TokenValue). tokens.text u ∷ ys) k.4 in
      rw q (put_built p c (element n attributes (more (text u) none)) s _ h
      (text_put z p c s h w n e f attributes slash u (ff.1).0))
  text_alone_built n attributes _ slash content p c s e k f ff o h w = absurd o
