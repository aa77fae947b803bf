-- The rules of the modes leave open what must stay so: what each act does.
use Rattle.std.proofs.Common.{Bool, List, None, Option, Some, ap, false, inl, inr, length, refl, subst, sym, true, ℕ}
use Rattle.std.proofs.Common.{[], ◌∙◌, ◌∷◌, ◌≡◌}
use Rattle.std.proofs.lemmas.Bool.{and_parts, cond_both, eq-eqb, true≢false}
use Rattle.std.specs.Prelude.{◌&&◌, ◌==◌}
use Rattle.htmd_lexical.proofs.Cases.{test}
use Rattle.htmd_lexical.specs.AttributePairs.{AttributePair}
use Rattle.htmd_lexical.specs.declared.content_model.RawElement.{RawElement}
use Rattle.htmd_html5.specs.AfterBody.{comment_in}
use Rattle.htmd_html5.specs.BeforeHead.{with_head}
use Rattle.htmd_html5.specs.BodyEnds.{close_form}
use Rattle.htmd_html5.specs.BodyStarts.{add_to_body, add_to_this_body, forget, is_in_template, mode_of_select}
use Rattle.htmd_html5.specs.BodyStarts.{open_body, replace_body, replace_this_body, start_ordinary, start_select}
use Rattle.htmd_html5.specs.BodyStarts.{with_form}
use Rattle.htmd_html5.specs.Feeding.{is_text_mode}
use Rattle.htmd_html5.specs.InBody.{end_of_file_in_template}
use Rattle.htmd_html5.specs.InCaption.{end_caption, has_caption}
use Rattle.htmd_html5.specs.InCell.{end_cell}
use Rattle.htmd_html5.specs.InColumnGroup.{end_columns, has_columns}
use Rattle.htmd_html5.specs.InFrameset.{end_frameset}
use Rattle.htmd_html5.specs.InHead.{close_head}
use Rattle.htmd_html5.specs.InHeadNoscript.{close_noscript}
use Rattle.htmd_html5.specs.InRow.{end_row, has_row}
use Rattle.htmd_html5.specs.InSelect.{end_select, has_select}
use Rattle.htmd_html5.specs.InTable.{end_table, fostered, has_table, with_empty_form}
use Rattle.htmd_html5.specs.InTableBody.{end_section}
use Rattle.htmd_html5.specs.InTemplate.{with_template_mode}
use Rattle.htmd_html5.specs.SharedRules.{add_missing_to, add_to_root, end_template, insert_foreign_tag}
use Rattle.htmd_html5.specs.SharedRules.{insert_head_element, insert_raw_tag, insert_tag, leave_template, no_frameset}
use Rattle.htmd_html5.specs.SharedRules.{open_template, with_mode}
use Rattle.htmd_html5.specs.Tokens.{StartTagValue}
use Rattle.htmd_law_html5.proofs.EndedAdoption.{AgencyLeft, agency_left}
use Rattle.htmd_law_html5.proofs.EndedStacks.{Anchor, Has, at_head, at_noscript, at_root, at_select, both_firm}
use Rattle.htmd_law_html5.proofs.EndedStacks.{cleared_popped, has_open, is_any, is_common, is_common_name, is_firm}
use Rattle.htmd_law_html5.proofs.EndedStacks.{is_root, noscript_popped, only_root, open_root, outermost_root}
use Rattle.htmd_law_html5.proofs.EndedStacks.{pop_while_has, popped_has, popped_open, second_popped, spares, until_has}
use Rattle.htmd_law_html5.proofs.EndedStacks.{without_has}
use Rattle.htmd_law_html5.proofs.EndedStates.{CommonAt, Ends, Whole, add_missing_ends, apart, clear_to_marker_ends}
use Rattle.htmd_law_html5.proofs.EndedStates.{common_added, detach_ends, ends_by_state, ends_by_test, ends_still}
use Rattle.htmd_law_html5.proofs.EndedStates.{insert_comment_in_ends, insert_doctype_ends, insert_element_ends}
use Rattle.htmd_law_html5.proofs.EndedStates.{insert_foreign_ends, insert_void_ends, on_stack_ends, push_marker_ends}
use Rattle.htmd_law_html5.proofs.EndedStates.{reconstruct_ends, stack_kept, then_ends, whole_fewer, whole_form}
use Rattle.htmd_law_html5.proofs.EndedStates.{whole_head, whole_stack, without_entry_ends}
use Rattle.htmd_law_html5.proofs.EndedSteps.{Answered, FreeModes, HasSome, ModeEnds, Onward, Ready, Tagged, Tags}
use Rattle.htmd_law_html5.proofs.EndedSteps.{Turned, anchor_of, any_step, any_turn, calm, fact_at, onward_either}
use Rattle.htmd_law_html5.proofs.EndedSteps.{onward_where, popped_reset, raw_tag_tags, reset_ready, some_free}
use Rattle.htmd_law_html5.proofs.EndedSteps.{some_more, to_free, turned}
use Rattle.htmd_law_html5.proofs.NamedKinds.{grows_same}
use Rattle.htmd_law_html5.proofs.NodeTexts.{kinds}
use Rattle.htmd_law_html5.proofs.OpenNodes.{Fewer, clear_to_fewer, fewer_then, outermost_fewer, pop_fewer}
use Rattle.htmd_law_html5.proofs.OpenNodes.{pop_until_fewer, pop_while_fewer, without_fewer}
use Rattle.htmd_law_html5.proofs.PlainAdoption.{found_listed}
use Rattle.htmd_html5_state.proofs.TagLemmas.{same_tag-true}
use Rattle.htmd_html5_state.specs.Adoption.{adoption_agency, formatting_element, node_is}
use Rattle.htmd_html5_state.specs.Formatting.{clear_to_marker}
use Rattle.htmd_html5_state.specs.Insertion.{insert_doctype, insert_element, open_again, opened}
use Rattle.htmd_html5_state.specs.Names.{ElementNameValue, NameValue, html, known, text_of_name}
use Rattle.htmd_html5_state.specs.OpenElements.{OpenValue, clear_to, current_is, first_open, has_second, is_in_scope}
use Rattle.htmd_html5_state.specs.OpenElements.{is_node_in_scope, is_open, outermost, pop, pop_until, pop_while}
use Rattle.htmd_html5_state.specs.OpenElements.{without}
use Rattle.htmd_html5_state.specs.Resetting.{pop_modes, pop_template_mode}
use Rattle.htmd_html5_state.specs.Sets.{has, is_of}
use Rattle.htmd_html5_state.specs.State.{StateValue, on_stack}
use Rattle.htmd_html5_state.specs.declared.modes.InsertionMode.{InsertionMode}
use Rattle.htmd_html5_state.specs.declared.modes.InsertionMode.TheVariants.{AfterFrameset, BeforeHtml, InCaption}
use Rattle.htmd_html5_state.specs.declared.modes.InsertionMode.TheVariants.{InCell, InFrameset, InHead, InHeadNoscript}
use Rattle.htmd_html5_state.specs.declared.modes.InsertionMode.TheVariants.{InRow, InTable, InTableBody}
use Rattle.htmd_html5_state.specs.declared.names.Namespace.{Namespace}
use Rattle.htmd_html5_state.specs.declared.names.TagName.{TagName}
use Rattle.htmd_html5_state.specs.declared.sets.NameSet.{NameSet}
use Rattle.htmd_html5_state.specs.declared.sets.NameSet.TheVariants.{ImpliedEnd, Only, TableBodyContext}
use Rattle.htmd_html5_state.specs.declared.sets.NameSet.TheVariants.{TableRowContext, TableSections}
use Rattle.htmd_html5_state.specs.declared.sets.Scope.TheVariants.{Select as SelectScope, Table as TableScope}
use Rattle.htmd_lexical.specs.declared.content_model.RawElement.TheVariants as raw
use Rattle.htmd_html5_state.specs.declared.names.TagName.TheVariants as tags

-- ---- rules that many modes share

pub insert_tag_ends : {p : Anchor → Bool} (tag : StartTagValue) → Ends p (insert_tag tag)
insert_tag_ends tag = insert_element_ends tag.name tag.attributes

pub no_frameset_ends : {p : Anchor → Bool} → Ends p no_frameset
no_frameset_ends = stack_kept (λ s h. h) (λ s. refl) (λ s. refl)

pub insert_foreign_tag_ends : {p : Anchor → Bool} (space : Namespace) (tag : StartTagValue)
    → Ends p (insert_foreign_tag space tag)
insert_foreign_tag_ends space tag = insert_foreign_ends space (text_of_name tag.name) tag.attributes tag.self_closing

add_missing_to_ends : {p : Anchor → Bool} (n : Option ℕ) (attributes : List AttributePair)
    → Ends p (add_missing_to n attributes)
add_missing_to_ends None attributes = ends_still
add_missing_to_ends (Some n) attributes = add_missing_ends n attributes

pub add_to_root_ends : {p : Anchor → Bool} (tag : StartTagValue) → Ends p (add_to_root tag)
add_to_root_ends tag =
    ends_by_test (λ s. is_open (Only tags.Template) s.stack) ends_still
    (ends_by_state (λ s. first_open s.stack) (λ n. add_missing_to_ends n tag.attributes))

-- ---- templates

open_template_turns : {mode : InsertionMode} (tag : StartTagValue) → Onward mode (open_template tag)
open_template_turns tag = record {
  turns = λ s e h. turned ((then_ends {p = is_any} push_marker_ends (insert_tag_ends tag)).whole s h.whole)
      (refl, h.modes) (inr h.root) tt refl;
}

free_popped : (modes : List InsertionMode) → FreeModes modes → FreeModes (pop_modes modes)
free_popped [] h = h
free_popped (mode ∷ modes) h = h.1

template_turned : (s : StateValue) → is_open (Only tags.Template) s.stack ≡ true → Ready s
    → Turned s (leave_template s)
template_turned s t h = record {
  ready = reset_ready (pop_template_mode (clear_to_marker (on_stack (pop_until (Only tags.Template)) s)))
      ((clear_to_marker_ends {p = is_any}).whole (on_stack (pop_until (Only tags.Template)) s)
      (whole_fewer (pop_until (Only tags.Template) s.stack) (pop_until_fewer (Only tags.Template) s.stack) h.whole))
      (free_popped s.template_modes h.modes) (open_root (Only tags.Template) refl s.stack h.root t);
  content = refl;
}

pub end_template_turns : {mode : InsertionMode} → Onward mode end_template
end_template_turns = onward_where (λ s. is_open (Only tags.Template) s.stack) template_turned

-- ---- elements of the head

pub head_element_tags : {mode : InsertionMode} (name : NameValue) (tag : StartTagValue)
    → Tags mode (insert_head_element name tag)
head_element_tags (known tags.Title) tag = raw_tag_tags raw.Title tag
head_element_tags (known tags.NoFrames) tag = raw_tag_tags raw.Noframes tag
head_element_tags (known tags.Style) tag = raw_tag_tags raw.Style tag
head_element_tags (known tags.Script) tag = raw_tag_tags raw.Script tag
head_element_tags (known tags.Template) tag = calm (open_template_turns tag)
head_element_tags name tag = calm (any_turn (insert_void_ends tag.name tag.attributes))

-- ---- the structure of the page

add_to_this_body_ends : (body : Option ℕ) (tag : StartTagValue) → Ends is_any (add_to_this_body body tag)
add_to_this_body_ends None tag = ends_still
add_to_this_body_ends (Some body) tag =
    ends_by_test is_in_template ends_still (then_ends no_frameset_ends (add_missing_ends body tag.attributes))

pub add_to_body_ends : (tag : StartTagValue) → Ends is_any (add_to_body tag)
add_to_body_ends tag = ends_by_state open_body (λ body. add_to_this_body_ends body tag)

outermost_ends : Ends is_root (on_stack outermost)
outermost_ends =
    on_stack_ends outermost outermost_fewer
    (λ a k stack l. only_root stack (outermost stack) (outermost_root stack) a k l)

replace_this_body_turns : {mode : InsertionMode} (body : Option ℕ) (tag : StartTagValue)
    → Onward mode (replace_this_body body tag)
replace_this_body_turns None tag = any_turn ends_still
replace_this_body_turns (Some body) tag =
    onward_either (λ s. s.frameset_ok) (to_free {p = is_root} InFrameset refl refl
    (then_ends (insert_tag_ends tag) (then_ends outermost_ends (detach_ends body)))) (any_turn ends_still)

pub replace_body_turns : {mode : InsertionMode} (tag : StartTagValue) → Onward mode (replace_body tag)
replace_body_turns tag =
    record { turns = λ s e h. (replace_this_body_turns (open_body s) tag).turns s e h }

-- ---- the body

-- what is noted as the new element has a common name
new_common : (name : NameValue) (attributes : List AttributePair) → is_common_name name ≡ true → (s : StateValue)
    → (n : ℕ) → Some (length s.nodes) ≡ Some n → CommonAt (kinds (insert_element name attributes s).nodes) n
new_common name attributes c s n e =
    let same : length s.nodes ≡ n = cc in
    subst (λ (m : ℕ). CommonAt (kinds (insert_element name attributes s).nodes) m) same
    (common_added name attributes c s)

-- the form is neither the root nor a cell
form_whole : (tag : StartTagValue) → is_common_name tag.name ≡ true → (s : StateValue) → Whole s
    → Whole (with_form (insert_tag tag s))
form_whole tag c s h =
    whole_form (new_common tag.name tag.attributes c s) ((insert_tag_ends {p = is_any} tag).whole s h)

pub noted_element_ends : {p : Anchor → Bool} (tag : StartTagValue) → is_common_name tag.name ≡ true
    → Ends p (λ s. with_form (insert_tag tag s))
noted_element_ends tag c =
    record { whole = form_whole tag c; keeps = λ a k s h l. inr l; same = λ s h. refl }

-- a form that is closed at once
pub empty_form_ends : {p : Anchor → Bool} (tag : StartTagValue) → is_common_name tag.name ≡ true
    → Ends p (with_empty_form tag)
empty_form_ends tag c = record {
  whole = λ s h. whole_fewer s.stack (pop_fewer (insert_tag tag s).stack) (form_whole tag c s h);
  keeps = λ a k s h l. l;
  same = λ s h. refl;
}

forgotten : (s : StateValue) → Whole s → (n : Option ℕ) → formatting_element tags.A s ≡ n
    → AgencyLeft s (forget n s)
forgotten s h None e = record { whole = h; keeps = λ a k l. l; same = refl; grows = grows_same refl }
forgotten s h (Some n) e =
    let x = agency_left tags.A refl s h in
    let at = x.grows.names is_common n (h.entries_at n (found_listed (node_is s.nodes tags.A) s.formatting n e)) in
    record {
      whole = whole_fewer (without n (adoption_agency tags.A s).stack)
          (without_fewer n (adoption_agency tags.A s).stack)
          ((without_entry_ends {p = is_any} n).whole (adoption_agency tags.A s) x.whole);
      keeps = λ a k l. without_has a k n (adoption_agency tags.A s).stack
          (apart (kinds (adoption_agency tags.A s).nodes) n at (adoption_agency tags.A s).stack x.whole.guarded)
          (x.keeps a k l);
      same = x.same;
      grows = x.grows;
    }

pub forget_ends : Ends is_firm (λ s. forget (formatting_element tags.A s) s)
forget_ends = record {
  whole = λ s h. (forgotten s h (formatting_element tags.A s) refl).whole;
  keeps = λ a k s h l. (forgotten s h (formatting_element tags.A s) refl).keeps a k l;
  same = λ s h. (forgotten s h (formatting_element tags.A s) refl).same;
}

select_fact : (mode : InsertionMode) (stack : List OpenValue) → Has at_select stack
    → HasSome (anchor_of (mode_of_select mode)) stack
select_fact InTable stack h = h
select_fact InCaption stack h = h
select_fact InTableBody stack h = h
select_fact InRow stack h = h
select_fact InCell stack h = h
select_fact _ stack h = tt

pub start_select_turns : {mode : InsertionMode} (tag : StartTagValue)
    → is_of (Only tags.Select) (html tag.name) ≡ true → Onward mode (start_select tag)
start_select_turns tag k = record {
  turns = λ s e h.
      let x = (any_step (then_ends (insert_tag_ends tag) reconstruct_ends)).turns s e h in
      turned x.ready.whole x.ready.modes x.ready.root
      (select_fact s.mode (start_ordinary tag s).stack (inl (k, tt))) x.content;
}

close_form_left : (s : StateValue) (form : Option ℕ)
    → ((n : ℕ) → form ≡ Some n → CommonAt (kinds s.nodes) n) → Whole s → AgencyLeft s (close_form form s)
close_form_left s None f h = record { whole = h; keeps = λ a k l. l; same = refl; grows = grows_same refl }
close_form_left s (Some n) f h =
    let left = pop_while ImpliedEnd s.stack in
    let popped = whole_fewer left (pop_while_fewer ImpliedEnd s.stack) h in
    cond_both (is_node_in_scope n s.stack) _ _ (λ x. AgencyLeft s x)
    (λ t. record {
      whole = whole_fewer (without n left) (without_fewer n left) popped;
      keeps = λ a k l. without_has a k n left (apart (kinds s.nodes) n (f n refl) left popped.guarded)
          (pop_while_has ImpliedEnd a (both_firm (spares ImpliedEnd) refl a k) s.stack l);
      same = refl;
      grows = grows_same refl;
    }) (λ t. record { whole = h; keeps = λ a k l. l; same = refl; grows = grows_same refl })

form_left : (s : StateValue) → Whole s
    → AgencyLeft (record s { form = None }) (close_form s.form (record s { form = None }))
form_left s h = close_form_left (record s { form = None }) s.form h.form_at (whole_form (λ n e. absurd (cc)) h)

pub noted_form_ends : Ends is_firm (λ s. close_form s.form (record s { form = None }))
noted_form_ends = record {
  whole = λ s h. (form_left s h).whole;
  keeps = λ a k s h l. (form_left s h).keeps a k l;
  same = λ s h. (form_left s h).same;
}

-- ---- before the body

pub initial_left : {mode : InsertionMode} → Onward mode (λ s. record s { mode = BeforeHtml; quirks = true })
initial_left = record { turns = λ s e h. turned h.whole h.modes h.root tt refl }

pub doctype_turns : {mode : InsertionMode} (quirks : Bool)
    → Onward mode (λ s. record (insert_doctype s) { mode = BeforeHtml; quirks = quirks })
doctype_turns quirks = record {
  turns = λ s e h. turned ((insert_doctype_ends {p = is_any}).whole s h.whole) h.modes h.root tt refl;
}

pub with_head_turns : {mode : InsertionMode} (name : NameValue) (attributes : List AttributePair)
    → is_of (Only tags.Head) (html name) ≡ true → is_common_name name ≡ true
    → Onward mode (with_head name attributes)
with_head_turns name attributes k c = record {
  turns = λ s e h. turned
      (whole_head (new_common name attributes c s) ((insert_element_ends {p = is_any} name attributes).whole s h.whole))
      h.modes (inr h.root) (inl (k, tt)) refl;
}

pub head_closed : (s : StateValue) → s.mode ≡ InHead → Ready s → Turned s (close_head s)
head_closed s e h =
    turned (whole_fewer (pop s.stack) (pop_fewer s.stack) h.whole) h.modes
    (popped_open (Only tags.Head) refl s.stack h.root (has_open at_head s.stack (fact_at InHead e h))) tt refl

pub noscript_opened : (tag : StartTagValue) → is_of (Only tags.NoScript) (html tag.name) ≡ true
    → (s : StateValue) → s.mode ≡ InHead → Ready s → Turned s (with_mode InHeadNoscript (insert_tag tag s))
noscript_opened tag n s e h =
    turned ((insert_tag_ends {p = is_any} tag).whole s h.whole) h.modes (inr h.root)
    (inl (n, has_open at_head s.stack (fact_at InHead e h))) refl

pub noscript_closed : (s : StateValue) → s.mode ≡ InHeadNoscript → Ready s → Turned s (close_noscript s)
noscript_closed s e h =
    turned (whole_fewer (pop s.stack) (pop_fewer s.stack) h.whole) h.modes
    (popped_open (Only tags.NoScript) refl s.stack h.root (has_open at_noscript s.stack (fact_at InHeadNoscript e h)))
    (noscript_popped s.stack (fact_at InHeadNoscript e h)) refl

-- ---- elements of the head that come late

-- the head is open again only for one element
again_ready : (first : ℕ) (s : StateValue) → Ready s → Ready (open_again first (known tags.Head) s)
again_ready first s h = record {
  whole = whole_stack (opened first (html (known tags.Head)) ∷ s.stack) (refl, h.whole.guarded) h.whole;
  modes = h.modes;
  root = inr h.root;
  fact = some_more (anchor_of s.mode) (opened first (html (known tags.Head))) s.stack h.fact;
}

late_ready : (first : ℕ) (s : StateValue) → CommonAt (kinds s.nodes) first → anchor_of s.mode ≡ None → Ready s
    → Ready (on_stack (without first) s)
late_ready first s at e h = record {
  whole = whole_fewer (without first s.stack) (without_fewer first s.stack) h.whole;
  modes = h.modes;
  root = without_has at_root refl first s.stack (apart (kinds s.nodes) first at s.stack h.whole.guarded) h.root;
  fact = some_free (anchor_of s.mode) (without first s.stack) e;
}

late_by : {f : StateValue → StateValue} (first : ℕ) (s : StateValue) → Onward s.mode f
    → CommonAt (kinds (f (open_again first (known tags.Head) s)).nodes) first
    → anchor_of (f (open_again first (known tags.Head) s)).mode ≡ None → Ready s
    → Tagged s (on_stack (without first) (f (open_again first (known tags.Head) s)))
late_by {f} first s g at e h =
    let x = g.turns (open_again first (known tags.Head) s) refl (again_ready first s h) in
    record {
      ready = late_ready first (f (open_again first (known tags.Head) s)) at e x.ready;
      rest = λ k. inl (ap is_text_mode x.content ∙ k);
    }

late_raw : (kind : RawElement) (tag : StartTagValue) (first : ℕ) (s : StateValue) → s.head ≡ Some first
    → anchor_of s.mode ≡ None → Ready s
    → Tagged s (on_stack (without first) (insert_raw_tag kind tag (open_again first (known tags.Head) s)))
late_raw kind tag first s k e h =
    let x = (raw_tag_tags kind tag).leaves (open_again first (known tags.Head) s) refl (again_ready first s h) in
    record {
      ready = late_ready first (insert_raw_tag kind tag (open_again first (known tags.Head) s))
          (x.ready.whole.head_at first k) e x.ready;
      rest = λ c. inr (
        subst (λ (es : List OpenValue). Has at_root es) (sym left) h.root,
        subst (λ (es : List OpenValue). HasSome (anchor_of s.mode) es) (sym left) h.fact,
      );
    }
  where
    left : pop (without first (opened (length s.nodes) (html tag.name) ∷ opened first (html (known tags.Head))
        ∷ s.stack)) ≡ s.stack
    left = test (length s.nodes == first) (λ t. rw t refl) (λ t. rw t (rw (eq-eqb first first refl) refl))

pub late_left : (name : NameValue) (tag : StartTagValue) (first : ℕ) (s : StateValue) → s.head ≡ Some first
    → anchor_of s.mode ≡ None → Ready s
    → Tagged s (on_stack (without first) (insert_head_element name tag (open_again first (known tags.Head) s)))
late_left (known tags.Title) tag first s k e h = late_raw raw.Title tag first s k e h
late_left (known tags.NoFrames) tag first s k e h = late_raw raw.Noframes tag first s k e h
late_left (known tags.Style) tag first s k e h = late_raw raw.Style tag first s k e h
late_left (known tags.Script) tag first s k e h = late_raw raw.Script tag first s k e h
late_left (known tags.Template) tag first s k e h =
    late_by first s (open_template_turns tag)
    (((open_template_turns tag).turns (open_again first (known tags.Head) s) refl
    (again_ready first s h)).ready.whole.head_at first k) refl h
late_left name tag first s k e h =
    late_by first s (any_turn (insert_void_ends tag.name tag.attributes))
    (((insert_void_ends {p = is_any} tag.name tag.attributes).whole (open_again first (known tags.Head) s)
    (again_ready first s h).whole).head_at first k) e h

-- ---- the end of the file

pub end_in_template_answers : {mode : InsertionMode} → ModeEnds mode end_of_file_in_template
end_in_template_answers = record {
  answers = λ s e h. cond_both (is_open (Only tags.Template) s.stack) _ _ (λ x. Answered s x)
      (λ t. let x = template_turned s t h in
      record { ready = x.ready; rest = λ k. inl (ap is_text_mode x.content ∙ k) })
      (λ t. record { ready = h; rest = λ k. inl k });
}

-- ---- select

pub end_select_turns : {mode : InsertionMode} → Onward mode end_select
end_select_turns =
    onward_where (λ s. has_select s)
    (λ s t h. popped_reset (Only tags.Select) s h (until_has (Only tags.Select) SelectScope at_root refl refl s.stack
    h.root t))

-- ---- after the body, frames and templates

pub comment_in_ends : (text : List ℕ) (n : Option ℕ) → Ends is_any (comment_in n text)
comment_in_ends text None = ends_still
comment_in_ends text (Some n) = insert_comment_in_ends n text

-- where the mode asks for nothing
pub second_turns : {mode : InsertionMode} → anchor_of mode ≡ None → Onward mode end_frameset
second_turns {mode} free = record {
  turns = λ s e h. cond_both (has_second s.stack) _ _ (λ x. Turned s x)
      (λ t. let x = (onward_either (λ x. current_is (Only tags.FrameSet) x.stack) (any_turn ends_still)
      (to_free {p = is_any} AfterFrameset refl refl ends_still)).turns (on_stack pop s) e (record {
        whole = whole_fewer (pop s.stack) (pop_fewer s.stack) h.whole;
        modes = h.modes;
        root = second_popped s.stack t h.root;
        fact = some_free (anchor_of s.mode) (pop s.stack) (ap anchor_of e ∙ free);
      }) in
      record { ready = x.ready; content = x.content }) (λ t. record { ready = h; content = refl });
}

pub template_mode_turns : {mode : InsertionMode} (next : InsertionMode) → anchor_of next ≡ None
    → Onward mode (with_template_mode next)
template_mode_turns next e = record {
  turns = λ s i h. turned h.whole (e, free_popped s.template_modes h.modes) h.root
      (some_free (anchor_of next) s.stack e) refl;
}

-- ---- tables

pub fostered_ends : {p : Anchor → Bool} {step : StateValue → StateValue} → Ends p step → Ends p (fostered step)
fostered_ends h = record {
  whole = λ s w. h.whole (record s { foster_parenting = true }) w;
  keeps = λ a k s w l. h.keeps a k (record s { foster_parenting = true }) w l;
  same = λ s w. h.same (record s { foster_parenting = true }) w;
}

-- a part of the table is closed, and the list of active formatting elements cleared
pub part_closed : (set : NameSet) (mode : InsertionMode) → anchor_of mode ≡ None → (s : StateValue) → Ready s
    → Has at_root (pop_until set s.stack) → Turned s (with_mode mode (clear_to_marker (on_stack (pop_until set) s)))
part_closed set mode e s h r =
    turned ((clear_to_marker_ends {p = is_any}).whole (on_stack (pop_until set) s)
    (whole_fewer (pop_until set s.stack) (pop_until_fewer set s.stack) h.whole)) h.modes r
    (some_free (anchor_of mode) (pop_until set s.stack) e) refl

-- the current node is popped
pop_closed : (mode : InsertionMode) → anchor_of mode ≡ None → (s : StateValue) → Ready s
    → (es : List OpenValue) → Fewer es s.stack
    → Has at_root es → Turned s (with_mode mode (record s { stack = es }))
pop_closed mode e s h es f r = turned (whole_fewer es f h.whole) h.modes r (some_free (anchor_of mode) es e) refl

pub end_table_turns : {mode : InsertionMode} → Onward mode end_table
end_table_turns =
    onward_where (λ s. has_table s)
    (λ s t h. popped_reset (Only tags.Table) s h (until_has (Only tags.Table) TableScope at_root refl refl s.stack
    h.root t))

pub end_caption_turns : {mode : InsertionMode} → Onward mode end_caption
end_caption_turns =
    onward_where (λ s. has_caption s) (λ s t h. part_closed (Only tags.Caption) InTable refl s h
    (until_has (Only tags.Caption) TableScope at_root refl refl s.stack h.root t))

pub end_columns_turns : {mode : InsertionMode} → Onward mode end_columns
end_columns_turns =
    onward_where (λ s. has_columns s) (λ s t h. pop_closed InTable refl s h (pop s.stack) (pop_fewer s.stack)
    (popped_has (Only tags.ColGroup) at_root refl s.stack h.root t))

-- a set of one of the context's names
one_of_names : (tag : TagName) (set : NameSet) → has set tag ≡ true → (name : ElementNameValue)
    → is_of (Only tag) name ≡ true → is_of set name ≡ true
one_of_names tag set e (html (known u)) k = ap (has set) (sym (same_tag-true tag u k)) ∙ e
one_of_names tag set e name k = absurd (true≢false (sym k))

section_of : (name : ElementNameValue) → is_of TableSections name ≡ true → is_of TableBodyContext name ≡ true
section_of (html (known tags.TBody)) k = refl
section_of (html (known tags.TFoot)) k = refl
section_of (html (known tags.THead)) k = refl
section_of name k = absurd (true≢false (sym k))

-- the sections of a table
abbrev pub is_section : NameSet → Bool
is_section (Only tag) = has TableBodyContext tag && spares (Only tag) at_root
is_section TableSections = true
is_section set = false

section_named : (set : NameSet) → is_section set ≡ true → (spares set at_root ≡ true)
    × ((name : ElementNameValue) → is_of set name ≡ true → is_of TableBodyContext name ≡ true)
section_named (Only tag) e = let x = and_parts _ _ e in (x.1, one_of_names tag TableBodyContext x.0)
section_named TableSections e = (refl, section_of)
section_named set e = absurd (true≢false (sym e))

pub end_section_turns : {mode : InsertionMode} (set : NameSet) → is_section set ≡ true
    → Onward mode (end_section set)
end_section_turns set e =
    onward_where (λ s. is_in_scope set TableScope s.stack)
    (λ s t h. pop_closed InTable refl s h (pop (clear_to TableBodyContext s.stack))
    (fewer_then (pop_fewer (clear_to TableBodyContext s.stack)) (clear_to_fewer TableBodyContext s.stack))
    (cleared_popped set TableBodyContext TableScope (section_named set e).0 refl (section_named set e).1 s.stack h.root
    t))

pub end_row_turns : {mode : InsertionMode} → Onward mode end_row
end_row_turns =
    onward_where (λ s. has_row s) (λ s t h. pop_closed InTableBody refl s h (pop (clear_to TableRowContext s.stack))
    (fewer_then (pop_fewer (clear_to TableRowContext s.stack)) (clear_to_fewer TableRowContext s.stack))
    (cleared_popped (Only tags.Tr) TableRowContext TableScope refl refl
    (one_of_names tags.Tr TableRowContext refl) s.stack h.root t))

pub end_cell_turns : {mode : InsertionMode} (tag : TagName) → spares (Only tag) at_root ≡ true
    → Onward mode (end_cell tag)
end_cell_turns tag f =
    onward_where (λ s. is_in_scope (Only tag) TableScope s.stack)
    (λ s t h. part_closed (Only tag) InRow refl s h (until_has (Only tag) TableScope at_root f refl s.stack h.root t))
