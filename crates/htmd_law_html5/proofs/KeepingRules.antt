-- The rules of the modes leave the texts as they are, where a token is no text: what each act does.
use Rattle.std.proofs.Common.{◌≡◌, ◌∙◌, ℕ, Bool, List, length, Option, Some, None, refl, sym, ap, inl, inr, ◌⊎◌}
use Rattle.std.specs.Prelude.{if◌then◌else◌}
use Rattle.std.proofs.lemmas.Bool.{eqb-true, eq-eqb, cond_both}
use Rattle.htmd_lexical.specs.AttributePairs.{AttributePair}
use Rattle.htmd_html5_state.specs.Names.{NameValue, html, text_of_name, known}
use Rattle.htmd_html5_state.specs.Nodes.{element}
use Rattle.htmd_html5_state.specs.OpenElements.{OpenValue, first_open, pop, pop_until, clear_to, without, outermost}
use Rattle.htmd_html5_state.specs.OpenElements.{pop_while, is_in_scope, is_node_in_scope, current_is, has_second}
use Rattle.htmd_html5_state.specs.State.{StateValue, on_stack}
use Rattle.htmd_html5_state.specs.Insertion.{current, place, open_again}
use Rattle.htmd_html5_state.specs.Formatting.{is_entry, clear_to_marker}
use Rattle.htmd_html5_state.specs.Foreign.{namespace_of}
use Rattle.htmd_html5_state.specs.Adoption.{formatting_element}
use Rattle.htmd_html5_state.specs.declared.modes.InsertionMode.{InsertionMode}
use Rattle.htmd_html5_state.specs.declared.modes.InsertionMode.TheVariants.{InTable, InTableBody, InRow, InFrameset}
use Rattle.htmd_html5_state.specs.declared.modes.InsertionMode.TheVariants.{AfterFrameset, InHead, InHeadNoscript}
use Rattle.htmd_html5_state.specs.declared.modes.InsertionMode.TheVariants.{AfterHead, InCell, BeforeHead, InBody}
use Rattle.htmd_html5_state.specs.declared.sets.NameSet.{NameSet}
use Rattle.htmd_html5_state.specs.declared.sets.NameSet.TheVariants.{Only, ImpliedEnd, TableBodyContext}
use Rattle.htmd_html5_state.specs.declared.sets.NameSet.TheVariants.{TableRowContext}
use Rattle.htmd_html5_state.specs.declared.sets.Scope.TheVariants.{Table as TableScope}
use Rattle.htmd_html5_state.specs.declared.names.Namespace.{Namespace}
use Rattle.htmd_html5.specs.Tokens.{StartTagValue}
use Rattle.htmd_html5.specs.Outcomes.{Outcome, outcome}
use Rattle.htmd_html5.specs.SharedRules.{with_mode, no_frameset, add_missing_to, leave_template}
use Rattle.htmd_html5.specs.SharedRules.{insert_head_element, insert_tag}
use Rattle.htmd_html5.specs.BodyStarts.{is_in_template, open_body, add_to_this_body, replace_this_body, with_form}
use Rattle.htmd_html5.specs.BodyStarts.{forget}
use Rattle.htmd_html5.specs.BodyEnds.{close_form}
use Rattle.htmd_html5.specs.BeforeHead.{with_head}
use Rattle.htmd_html5.specs.AfterHead.{insert_in_head, insert_late}
use Rattle.htmd_html5.specs.InTable.{has_table}
use Rattle.htmd_html5.specs.InCaption.{has_caption}
use Rattle.htmd_html5.specs.InColumnGroup.{has_columns}
use Rattle.htmd_html5.specs.InRow.{has_row}
use Rattle.htmd_html5.specs.InSelect.{has_select, close_select}
use Rattle.htmd_html5.specs.AfterBody.{comment_in}
use Rattle.htmd_html5.specs.InFrameset.{with_frameset_closed}
use Rattle.htmd_html5.specs.ForeignContent.{insert_alike}
use Rattle.htmd_law_html5.proofs.NodeTexts.{kinds, kinds_add}
use Rattle.htmd_law_html5.proofs.Forests.{forest_add}
use Rattle.htmd_law_html5.proofs.OpenNodes.{fewer_then, pop_fewer, pop_until_fewer, clear_to_fewer, without_fewer}
use Rattle.htmd_law_html5.proofs.OpenNodes.{outermost_fewer, pop_while_fewer}
use Rattle.htmd_law_html5.proofs.Keeping.{ElementAt, Held, as_head, as_entry, as_open, Keeps, Kept, Sound, held_opened}
use Rattle.htmd_law_html5.proofs.Keeping.{kept_same, kept_then, after, nothing, by_test, by_state, untouched}
use Rattle.htmd_law_html5.proofs.Keeping.{on_stack_keeps, kept_new}
use Rattle.htmd_law_html5.proofs.KeepingInsertion.{opened_new, insert_element_keeps, insert_void_keeps}
use Rattle.htmd_law_html5.proofs.KeepingInsertion.{insert_root_keeps, insert_raw_keeps, insert_foreign_keeps}
use Rattle.htmd_law_html5.proofs.KeepingInsertion.{insert_formatting_keeps, insert_comment_keeps}
use Rattle.htmd_law_html5.proofs.KeepingInsertion.{insert_comment_in_keeps, insert_doctype_keeps, detach_keeps}
use Rattle.htmd_law_html5.proofs.KeepingInsertion.{add_missing_keeps, without_entry_keeps, push_marker_keeps}
use Rattle.htmd_law_html5.proofs.KeepingInsertion.{clear_to_marker_keeps, reconstruct_keeps, open_again_kept}
use Rattle.htmd_law_html5.proofs.KeepingInsertion.{push_template_mode_keeps, pop_template_mode_keeps}
use Rattle.htmd_law_html5.proofs.KeepingInsertion.{reset_insertion_mode_keeps}
use Rattle.htmd_law_html5.proofs.KeepingAdoption.{adoption_agency_keeps}
use Rattle.htmd_law_html5.proofs.Rules.{given_name, given_attributes, left_open, Act, act_on, element as put, void}
use Rattle.htmd_law_html5.proofs.Rules.{root, head, raw_text, of_head, late_of_head, foreign, foreign_alike}
use Rattle.htmd_law_html5.proofs.Rules.{formatting, select, comment, comment_in_root, comment_in_document, started}
use Rattle.htmd_law_html5.proofs.Rules.{cut, agency, forget_anchor, noted_form, table_closed, caption_closed}
use Rattle.htmd_law_html5.proofs.Rules.{columns_closed, section_closed, row_closed, cell_closed, cell_left}
use Rattle.htmd_law_html5.proofs.Rules.{select_closed, select_left, frameset_closed, template_closed, root_attributes}
use Rattle.htmd_law_html5.proofs.Rules.{body_attributes, body_replaced, marked, to_marker, reconstructed, to_mode}
use Rattle.htmd_law_html5.proofs.Rules.{to_quirks, to_content, frames_refused, line_feed_skipped, noted_element}
use Rattle.htmd_law_html5.proofs.Rules.{fostering, empty_form, noscript_put, cell_put, head_left, noscript_left}
use Rattle.htmd_law_html5.proofs.Rules.{body_put}
use Rattle.htmd_law_html5.proofs.RuleWalk.{left_fewer}
use Rattle.htmd_html5_state.specs.declared.names.TagName.TheVariants as tags
use Rattle.htmd_lexical.specs.declared.content_model.RawElement.TheVariants as raw

-- ---- outcomes in a mode

-- an outcome whose state has the same texts
pub record KeepsAnswer (f : StateValue → Outcome) : Type 0 where
  pub keeps : (s : StateValue) → Sound s → Kept s (f s).state

pub says : {f : StateValue → StateValue} {more : StateValue → Bool} → Keeps f
    → KeepsAnswer (λ s. outcome (f s) (more s))
says h = record { keeps = λ s sound. h.keeps s sound }

pub answers_by_test : {f g : StateValue → Outcome} (b : StateValue → Bool) → KeepsAnswer f → KeepsAnswer g
    → KeepsAnswer (λ s. if b s then f s else g s)
answers_by_test b first second = record {
  keeps = λ s h. cond_both (b s) _ _ (λ (a : Outcome). Kept s a.state) (λ t. first.keeps s h)
      (λ t. second.keeps s h);
}

-- ---- what is inserted

with_mode_keeps : (mode : InsertionMode) → Keeps (with_mode mode)
with_mode_keeps mode = untouched (λ s. refl) (λ s n l. l)

pub no_frameset_keeps : Keeps no_frameset
no_frameset_keeps = untouched (λ s. refl) (λ s n l. l)

-- the new element is the head
head_or_held : {n m : ℕ} {entries : List (Option ℕ)} {stack : List OpenValue} (first : Option ℕ)
    → (n ≡ m) ⊎ Held n (Some m) entries stack → (n ≡ m) ⊎ Held n first entries stack
head_or_held {n} {m} first (inl p) = inl p
head_or_held {n} {m} first (inr (as_head e)) = inl (sym (eqb-true m n e))
head_or_held {n} {m} first (inr (as_entry e)) = inr (as_entry e)
head_or_held {n} {m} first (inr (as_open e)) = inr (as_open e)

with_head_keeps : (name : NameValue) (attributes : List AttributePair) → Keeps (with_head name attributes)
with_head_keeps name attributes = record {
  keeps = λ s h. kept_new (element (html name) attributes)
      (kinds_add (element (html name) attributes) (place s) s.nodes) refl
      (forest_add (element (html name) attributes) (place s) s.nodes h.forest) h
      (λ n l. opened_new (element (html name) attributes) n refl h
      (head_or_held s.head (held_opened (length s.nodes) (html name) s.stack l)));
}

of_head_keeps : (name : NameValue) (tag : StartTagValue) → Keeps (insert_head_element name tag)
of_head_keeps (known tags.Title) tag = insert_raw_keeps tag.name raw.Title tag.attributes
of_head_keeps (known tags.NoFrames) tag = insert_raw_keeps tag.name raw.Noframes tag.attributes
of_head_keeps (known tags.Style) tag = insert_raw_keeps tag.name raw.Style tag.attributes
of_head_keeps (known tags.Script) tag = insert_raw_keeps tag.name raw.Script tag.attributes
of_head_keeps (known tags.Template) tag =
    record { keeps = λ s h. (after push_marker_keeps (insert_element_keeps tag.name tag.attributes)).keeps s h }
of_head_keeps _ tag = insert_void_keeps tag.name tag.attributes

insert_in_head_kept : (head : Option ℕ) (tag : StartTagValue) (s : StateValue)
    → ((n : ℕ) → head ≡ Some n → ElementAt (kinds s.nodes) n) → Sound s
    → Kept s (insert_in_head head tag s)
insert_in_head_kept None tag s at h = (of_head_keeps tag.name tag).keeps s h
insert_in_head_kept (Some n) tag s at h =
    let opened : Kept s (open_again n (known tags.Head) s) =
    open_again_kept n (known tags.Head) s (at n refl) h in
    kept_then opened ((after (on_stack_keeps (without n) (without_fewer n)) (of_head_keeps tag.name tag)).keeps
    (open_again n (known tags.Head) s) opened.sound)

late_keeps : (tag : StartTagValue) → Keeps (insert_late tag)
late_keeps tag = record {
  keeps = λ s h. insert_in_head_kept s.head tag s
      (λ n e. h.held n (as_head (ap (is_entry n) e ∙ eq-eqb n n refl))) h;
}

alike_keeps : (space : Option Namespace) (tag : StartTagValue) → Keeps (insert_alike space tag)
alike_keeps None tag = nothing
alike_keeps (Some space) tag = insert_foreign_keeps space (text_of_name tag.name) tag.attributes tag.self_closing

comment_in_keeps : (text : List ℕ) (n : Option ℕ) → Keeps (comment_in n text)
comment_in_keeps text None = nothing
comment_in_keeps text (Some n) = insert_comment_in_keeps n text

noted_keeps : (tag : StartTagValue) → Keeps (λ s. with_form (insert_tag tag s))
noted_keeps tag =
    after (untouched {f = with_form} (λ s. refl) (λ s n l. l)) (insert_element_keeps tag.name tag.attributes)

-- ---- what is closed

popped_keeps : (set : NameSet) → Keeps (on_stack (pop_until set))
popped_keeps set = on_stack_keeps (pop_until set) (pop_until_fewer set)

forget_keeps : (n : Option ℕ) → Keeps (forget n)
forget_keeps None = nothing
forget_keeps (Some n) =
    after (on_stack_keeps (without n) (without_fewer n)) (after (without_entry_keeps n) (adoption_agency_keeps tags.A))

close_form_keeps : (form : Option ℕ) → Keeps (close_form form)
close_form_keeps None = nothing
close_form_keeps (Some n) =
    by_test (λ s. is_node_in_scope n s.stack) (on_stack_keeps (λ stack. without n (pop_while ImpliedEnd stack))
    (λ stack. fewer_then (without_fewer n (pop_while ImpliedEnd stack)) (pop_while_fewer ImpliedEnd stack))) nothing

noted_form_keeps : Keeps (λ s. close_form s.form (record s { form = None }))
noted_form_keeps =
    record { keeps = λ s h. (close_form_keeps s.form).keeps (record s { form = None }) h }

-- back to the context, whose innermost element goes
context_keeps : (set : NameSet) (mode : InsertionMode)
    → Keeps (λ s. with_mode mode (on_stack (λ stack. pop (clear_to set stack)) s))
context_keeps set mode =
    after (with_mode_keeps mode) (on_stack_keeps (λ stack. pop (clear_to set stack))
    (λ stack. fewer_then (pop_fewer (clear_to set stack)) (clear_to_fewer set stack)))

part_keeps : (set : NameSet) (mode : InsertionMode)
    → Keeps (λ s. with_mode mode (clear_to_marker (on_stack (pop_until set) s)))
part_keeps set mode = after (with_mode_keeps mode) (after clear_to_marker_keeps (popped_keeps set))

close_select_keeps : Keeps close_select
close_select_keeps = after reset_insertion_mode_keeps (popped_keeps (Only tags.Select))

pub leave_template_keeps : Keeps leave_template
leave_template_keeps =
    after reset_insertion_mode_keeps
    (after pop_template_mode_keeps (after clear_to_marker_keeps (popped_keeps (Only tags.Template))))

frameset_closed_keeps : Keeps with_frameset_closed
frameset_closed_keeps = by_test (λ s. current_is (Only tags.FrameSet) s.stack) nothing (with_mode_keeps AfterFrameset)

-- ---- attributes

add_missing_to_keeps : (attributes : List AttributePair) (n : Option ℕ) → Keeps (add_missing_to n attributes)
add_missing_to_keeps attributes None = nothing
add_missing_to_keeps attributes (Some n) = add_missing_keeps n attributes

add_to_body_keeps : (tag : StartTagValue) (body : Option ℕ) → Keeps (add_to_this_body body tag)
add_to_body_keeps tag None = nothing
add_to_body_keeps tag (Some body) =
    by_test is_in_template nothing (after no_frameset_keeps (add_missing_keeps body tag.attributes))

replace_body_keeps : (tag : StartTagValue) (body : Option ℕ) → Keeps (replace_this_body body tag)
replace_body_keeps tag None = nothing
replace_body_keeps tag (Some body) =
    by_test (λ s. s.frameset_ok) (after (with_mode_keeps InFrameset)
    (after (insert_element_keeps tag.name tag.attributes)
    (after (on_stack_keeps outermost outermost_fewer) (detach_keeps body)))) nothing

-- ---- acts

pub act_keeps : (tag : StartTagValue) (a : Act) → Keeps (act_on a tag)
act_keeps tag (put given) = insert_element_keeps (given_name given tag) (given_attributes given tag)
act_keeps tag (void given) = insert_void_keeps (given_name given tag) (given_attributes given tag)
act_keeps tag (root given) =
    after (with_mode_keeps BeforeHead) (insert_root_keeps (given_name given tag) (given_attributes given tag))
act_keeps tag (head given) = with_head_keeps (given_name given tag) (given_attributes given tag)
act_keeps tag (body_put given) =
    after (with_mode_keeps InBody) (insert_element_keeps (given_name given tag) (given_attributes given tag))
act_keeps tag (raw_text raw) = insert_raw_keeps tag.name raw tag.attributes
act_keeps tag of_head = of_head_keeps tag.name tag
act_keeps tag late_of_head = late_keeps tag
act_keeps tag (foreign space) = insert_foreign_keeps space (text_of_name tag.name) tag.attributes tag.self_closing
act_keeps tag foreign_alike = by_state (λ s. namespace_of (current s.stack).name) (λ space. alike_keeps space tag)
act_keeps tag formatting = insert_formatting_keeps tag.name tag.attributes
act_keeps tag select =
    record { keeps = λ s h. (after (insert_element_keeps tag.name tag.attributes) reconstruct_keeps).keeps s h }
act_keeps tag (comment text) = insert_comment_keeps text
act_keeps tag (comment_in_root text) = by_state (λ s. first_open s.stack) (comment_in_keeps text)
act_keeps tag (comment_in_document text) = insert_comment_in_keeps 0 text
act_keeps tag (started quirks) = record { keeps = λ s h. insert_doctype_keeps.keeps s h }
act_keeps tag (cut what) = on_stack_keeps (left_open what) (left_fewer what)
act_keeps tag (agency name) = adoption_agency_keeps name
act_keeps tag forget_anchor = by_state (formatting_element tags.A) forget_keeps
act_keeps tag noted_form = noted_form_keeps
act_keeps tag table_closed =
    by_test (λ s. has_table s) (after reset_insertion_mode_keeps (popped_keeps (Only tags.Table))) nothing
act_keeps tag caption_closed = by_test (λ s. has_caption s) (part_keeps (Only tags.Caption) InTable) nothing
act_keeps tag columns_closed =
    by_test (λ s. has_columns s) (after (with_mode_keeps InTable) (on_stack_keeps pop pop_fewer)) nothing
act_keeps tag (section_closed set) =
    by_test (λ s. is_in_scope set TableScope s.stack) (context_keeps TableBodyContext InTable) nothing
act_keeps tag row_closed = by_test (λ s. has_row s) (context_keeps TableRowContext InTableBody) nothing
act_keeps tag (cell_closed name) =
    by_test (λ s. is_in_scope (Only name) TableScope s.stack) (part_keeps (Only name) InRow) nothing
act_keeps tag (cell_left set) = part_keeps set InRow
act_keeps tag select_closed = by_test (λ s. has_select s) close_select_keeps nothing
act_keeps tag select_left = close_select_keeps
act_keeps tag frameset_closed =
    by_test (λ s. has_second s.stack) (after frameset_closed_keeps (on_stack_keeps pop pop_fewer)) nothing
act_keeps tag template_closed = by_test is_in_template leave_template_keeps nothing
act_keeps tag root_attributes =
    by_test is_in_template nothing (by_state (λ s. first_open s.stack) (add_missing_to_keeps tag.attributes))
act_keeps tag body_attributes = by_state open_body (add_to_body_keeps tag)
act_keeps tag body_replaced = by_state open_body (replace_body_keeps tag)
act_keeps tag marked = push_marker_keeps
act_keeps tag to_marker = clear_to_marker_keeps
act_keeps tag reconstructed = reconstruct_keeps
act_keeps tag (to_mode mode) = with_mode_keeps mode
act_keeps tag to_quirks = record { keeps = λ s h. kept_same h }
act_keeps tag (to_content mode) =
    after (push_template_mode_keeps mode) (after pop_template_mode_keeps (with_mode_keeps mode))
act_keeps tag frames_refused = no_frameset_keeps
act_keeps tag line_feed_skipped = untouched (λ s. refl) (λ s n l. l)
act_keeps tag noted_element = noted_keeps tag
act_keeps tag empty_form = after (on_stack_keeps pop pop_fewer) (noted_keeps tag)
act_keeps tag noscript_put = after (with_mode_keeps InHeadNoscript) (insert_element_keeps tag.name tag.attributes)
act_keeps tag cell_put =
    after push_marker_keeps (after (with_mode_keeps InCell) (insert_element_keeps tag.name tag.attributes))
act_keeps tag head_left = after (with_mode_keeps AfterHead) (on_stack_keeps pop pop_fewer)
act_keeps tag noscript_left = after (with_mode_keeps InHead) (on_stack_keeps pop pop_fewer)
act_keeps tag fostering = untouched (λ s. refl) (λ s n l. l)
