-- The rules of the modes leave open what must stay so: each act, and which are right in which mode.
use Rattle.std.proofs.Common.{Bool, List, None, Option, Some, ap, false, inl, inr, refl, sym, true, ℕ, ◌∙◌, ◌≡◌}
use Rattle.std.proofs.lemmas.Bool.{and_parts, true≢false}
use Rattle.std.specs.Prelude.{◌&&◌}
use Rattle.htmd_html5.specs.AfterHead.{insert_in_head}
use Rattle.htmd_html5.specs.BodyStarts.{close_option}
use Rattle.htmd_html5.specs.ForeignContent.{insert_alike}
use Rattle.htmd_html5.specs.InSelect.{close_option_in_group}
use Rattle.htmd_html5.specs.SharedRules.{insert_tag}
use Rattle.htmd_html5.specs.Tokens.{StartTagValue}
use Rattle.htmd_law_html5.proofs.EndedAdoption.{adoption_agency_ends}
use Rattle.htmd_law_html5.proofs.EndedRules.{add_to_body_ends, add_to_root_ends, comment_in_ends, doctype_turns}
use Rattle.htmd_law_html5.proofs.EndedRules.{empty_form_ends, end_caption_turns, end_cell_turns, end_columns_turns}
use Rattle.htmd_law_html5.proofs.EndedRules.{end_row_turns, end_section_turns, end_select_turns, end_table_turns}
use Rattle.htmd_law_html5.proofs.EndedRules.{end_template_turns, forget_ends, head_closed, head_element_tags}
use Rattle.htmd_law_html5.proofs.EndedRules.{initial_left, insert_foreign_tag_ends, insert_tag_ends, is_section}
use Rattle.htmd_law_html5.proofs.EndedRules.{late_left, no_frameset_ends, noscript_closed, noscript_opened}
use Rattle.htmd_law_html5.proofs.EndedRules.{noted_element_ends, noted_form_ends, part_closed, replace_body_turns}
use Rattle.htmd_law_html5.proofs.EndedRules.{second_turns, start_select_turns, template_mode_turns, with_head_turns}
use Rattle.htmd_law_html5.proofs.EndedStacks.{Anchor, Has, at_cell, at_root, at_select, cleared_has, close_has}
use Rattle.htmd_law_html5.proofs.EndedStacks.{close_name_has, has_open, is_any, is_bound, is_common_name}
use Rattle.htmd_law_html5.proofs.EndedStacks.{is_common_tag, is_firm, is_root, open_root, option_in_group_has}
use Rattle.htmd_law_html5.proofs.EndedStacks.{pop_where_has, pop_while_has, spares, spares_name}
use Rattle.htmd_law_html5.proofs.EndedStates.{Ends, clear_to_marker_ends, ends_by_state, ends_still}
use Rattle.htmd_law_html5.proofs.EndedStates.{insert_comment_ends, insert_comment_in_ends, insert_element_ends}
use Rattle.htmd_law_html5.proofs.EndedStates.{insert_formatting_ends, insert_root_ends, insert_void_ends}
use Rattle.htmd_law_html5.proofs.EndedStates.{on_stack_ends, push_marker_ends, reconstruct_ends, stack_kept}
use Rattle.htmd_law_html5.proofs.EndedSteps.{Onward, Ready, Steady, Tagged, Tags, anchor_of, any_step, calm, covers}
use Rattle.htmd_law_html5.proofs.EndedSteps.{fact_at, onward, popped_reset, raw_tag_tags, steady, to_free, turned}
use Rattle.htmd_law_html5.proofs.RuleWalk.{left_fewer}
use Rattle.htmd_law_html5.proofs.Rules.{Act, Cut, act_on, agency, back_to, body_attributes, body_put, body_replaced}
use Rattle.htmd_law_html5.proofs.Rules.{caption_closed, cell_closed, cell_left, cell_put, columns_closed, comment}
use Rattle.htmd_law_html5.proofs.Rules.{comment_in_document, comment_in_root, cut, each_of, element as put, empty_form}
use Rattle.htmd_law_html5.proofs.Rules.{foreign, foreign_alike, forget_anchor, formatting, fostering, frames_refused}
use Rattle.htmd_law_html5.proofs.Rules.{frameset_closed, given_attributes, given_name, group, head, head_left, heading}
use Rattle.htmd_law_html5.proofs.Rules.{in_scope, late_of_head, left_open, line_feed_skipped, marked, name_given}
use Rattle.htmd_law_html5.proofs.Rules.{named, noscript_left, noscript_put, noted_element, noted_form, of_head, one_of}
use Rattle.htmd_law_html5.proofs.Rules.{option, option_and_group, raw_text, reconstructed, root, root_attributes}
use Rattle.htmd_law_html5.proofs.Rules.{row_closed, section_closed, select, select_closed, select_left, started}
use Rattle.htmd_law_html5.proofs.Rules.{table_closed, template_closed, to_content, to_marker, to_mode, to_quirks, void}
use Rattle.htmd_html5_state.specs.Foreign.{namespace_of}
use Rattle.htmd_html5_state.specs.Insertion.{current}
use Rattle.htmd_html5_state.specs.Names.{NameValue, html}
use Rattle.htmd_html5_state.specs.OpenElements.{OpenValue, first_open}
use Rattle.htmd_html5_state.specs.Sets.{has, is_of}
use Rattle.htmd_html5_state.specs.State.{StateValue}
use Rattle.htmd_html5_state.specs.declared.modes.InsertionMode.{InsertionMode}
use Rattle.htmd_html5_state.specs.declared.modes.InsertionMode.TheVariants.{InCell, InHead, InHeadNoscript, InRow}
use Rattle.htmd_html5_state.specs.declared.modes.InsertionMode.TheVariants.{InSelectInTable, BeforeHead, InBody}
use Rattle.htmd_html5_state.specs.declared.names.Namespace.{Namespace}
use Rattle.htmd_html5_state.specs.declared.sets.NameSet.TheVariants.{Cells, Headings, Only}
use Rattle.htmd_html5_state.specs.declared.names.TagName.TheVariants as tags

-- ---- which acts leave open what must stay so in a mode

abbrev kept_in : (Anchor → Bool) → InsertionMode → Bool
kept_in p mode = p at_root && covers p (anchor_of mode)

abbrev is_free : Option Anchor → Bool
is_free None = true
is_free (Some a) = false

free_from : (a : Option Anchor) → is_free a ≡ true → a ≡ None
free_from None e = refl
free_from (Some a) e = absurd (true≢false (sym e))

-- what stays open where elements are closed
abbrev cut_keeps : Cut → Anchor → Bool
cut_keeps (in_scope set scope) a = spares set a && is_bound scope a
cut_keeps (each_of set) a = spares set a
cut_keeps (back_to set) a = is_root a && has set tags.Html
cut_keeps (one_of set) a = false
cut_keeps (named name) a = spares_name name a
cut_keeps heading a = spares Headings a
cut_keeps option a = spares (Only tags.OptionTag) a
cut_keeps what a = spares (Only tags.OptionTag) a && spares (Only tags.OptGroup) a

cut_has : (what : Cut) (a : Anchor) → cut_keeps what a ≡ true → (stack : List OpenValue) → Has a stack
    → Has a (left_open what stack)
cut_has (in_scope set scope) a e stack h = close_has set scope a e stack h
cut_has (each_of set) a e stack h = pop_while_has set a e stack h
cut_has (back_to set) a e stack h = cleared_has set a e stack h
cut_has (one_of set) a e stack h = absurd (true≢false (sym e))
cut_has (named name) a e stack h = close_name_has name a e stack h
cut_has heading a e stack h = pop_where_has Headings a e stack h
cut_has option a e stack h = pop_where_has (Only tags.OptionTag) a e stack h
cut_has option_and_group a e stack h =
    let b = and_parts _ _ e in
    pop_where_has (Only tags.OptGroup) a b.1 (close_option stack) (pop_where_has (Only tags.OptionTag) a b.0 stack h)
cut_has group a e stack h =
    let b = and_parts _ _ e in
    pop_where_has (Only tags.OptGroup) a b.1 (close_option_in_group stack) (option_in_group_has a b.0 stack h)

-- acts for a tag of that name that leave the mode as it is
abbrev pub ended_act : InsertionMode → NameValue → Act → Bool
ended_act mode name (put given) = true
ended_act mode name (void given) = true
ended_act mode name (foreign space) = true
ended_act mode name foreign_alike = true
ended_act mode name formatting = is_common_name name
ended_act mode name noted_element = is_common_name name
ended_act mode name empty_form = is_common_name name
ended_act mode name (comment text) = true
ended_act mode name (comment_in_root text) = true
ended_act mode name (comment_in_document text) = true
ended_act mode name (cut what) = kept_in (cut_keeps what) mode
ended_act mode name (agency tag) = kept_in is_firm mode && is_common_tag tag
ended_act mode name forget_anchor = kept_in is_firm mode
ended_act mode name noted_form = kept_in is_firm mode
ended_act mode name root_attributes = true
ended_act mode name body_attributes = true
ended_act mode name marked = true
ended_act mode name to_marker = true
ended_act mode name reconstructed = true
ended_act mode name frames_refused = true
ended_act mode name line_feed_skipped = true
ended_act mode name fostering = true
ended_act mode name a = false

-- what a mode itself asks for
abbrev by_anchor : InsertionMode → NameValue → Act → Bool
by_anchor InHead name head_left = true
by_anchor InHead name noscript_put = is_of (Only tags.NoScript) (html name)
by_anchor InHeadNoscript name noscript_left = true
by_anchor InCell name (cell_left Cells) = true
by_anchor InSelectInTable name select_left = true
by_anchor mode name a = false

-- acts that lead to another mode
abbrev pub ended_turn : InsertionMode → NameValue → Act → Bool
ended_turn mode name (to_mode next) = is_free (anchor_of next)
ended_turn mode name (to_content next) = is_free (anchor_of next)
ended_turn mode name to_quirks = true
ended_turn mode name (started quirks) = true
ended_turn mode name (root given) = true
ended_turn mode name (body_put given) = true
ended_turn mode name (head given) =
    is_of (Only tags.Head) (html (name_given given name)) && is_common_name (name_given given name)
ended_turn mode name head_left = by_anchor mode name head_left
ended_turn mode name noscript_put = by_anchor mode name noscript_put
ended_turn mode name noscript_left = by_anchor mode name noscript_left
ended_turn mode name (cell_left set) = by_anchor mode name (cell_left set)
ended_turn mode name select_left = by_anchor mode name select_left
ended_turn mode name cell_put = is_of Cells (html name)
ended_turn mode name select = is_of (Only tags.Select) (html name)
ended_turn mode name body_replaced = true
ended_turn mode name table_closed = true
ended_turn mode name caption_closed = true
ended_turn mode name columns_closed = true
ended_turn mode name row_closed = true
ended_turn mode name (section_closed set) = is_section set
ended_turn mode name (cell_closed tag) = spares (Only tag) at_root
ended_turn mode name select_closed = true
ended_turn mode name template_closed = true
ended_turn mode name frameset_closed = is_free (anchor_of mode)
ended_turn mode name a = ended_act mode name a

-- and acts that open an element of only text
abbrev pub ended_last : InsertionMode → NameValue → Act → Bool
ended_last mode name (raw_text raw) = true
ended_last mode name of_head = true
ended_last mode name late_of_head = is_free (anchor_of mode)
ended_last mode name a = ended_turn mode name a

-- ---- acts

alike_ends : (tag : StartTagValue) (space : Option Namespace) → Ends is_any (insert_alike space tag)
alike_ends tag None = ends_still
alike_ends tag (Some space) = insert_foreign_tag_ends space tag

pub act_ends : (mode : InsertionMode) (tag : StartTagValue) (a : Act) → ended_act mode tag.name a ≡ true
    → Steady mode (act_on a tag)
act_ends mode tag (put given) e = any_step (insert_element_ends (given_name given tag) (given_attributes given tag))
act_ends mode tag (void given) e = any_step (insert_void_ends (given_name given tag) (given_attributes given tag))
act_ends mode tag (foreign space) e = any_step (insert_foreign_tag_ends space tag)
act_ends mode tag foreign_alike e =
    any_step (ends_by_state (λ s. namespace_of (current s.stack).name) (alike_ends tag))
act_ends mode tag formatting e = any_step (insert_formatting_ends tag.name tag.attributes e)
act_ends mode tag noted_element e = any_step (noted_element_ends tag e)
act_ends mode tag empty_form e = any_step (empty_form_ends tag e)
act_ends mode tag (comment text) e = any_step (insert_comment_ends text)
act_ends mode tag (comment_in_root text) e = any_step (ends_by_state (λ s. first_open s.stack) (comment_in_ends text))
act_ends mode tag (comment_in_document text) e = any_step (insert_comment_in_ends 0 text)
act_ends mode tag (cut what) e =
    steady {p = cut_keeps what} e (on_stack_ends (left_open what) (left_fewer what) (cut_has what))
act_ends mode tag (agency name) e =
    let a = and_parts (kept_in is_firm mode) (is_common_tag name) e in
    steady {p = is_firm} a.0 (adoption_agency_ends name a.1)
act_ends mode tag forget_anchor e = steady {p = is_firm} e forget_ends
act_ends mode tag noted_form e = steady {p = is_firm} e noted_form_ends
act_ends mode tag root_attributes e = any_step (add_to_root_ends tag)
act_ends mode tag body_attributes e = any_step (add_to_body_ends tag)
act_ends mode tag marked e = any_step push_marker_ends
act_ends mode tag to_marker e = any_step clear_to_marker_ends
act_ends mode tag reconstructed e = any_step reconstruct_ends
act_ends mode tag frames_refused e = any_step no_frameset_ends
act_ends mode tag line_feed_skipped e = any_step (stack_kept (λ s h. h) (λ s. refl) (λ s. refl))
act_ends mode tag fostering e = any_step (stack_kept (λ s h. h) (λ s. refl) (λ s. refl))
act_ends mode tag a e = absurd (true≢false (sym e))

-- what a mode keeps open
anchored : (mode : InsertionMode) (tag : StartTagValue) (a : Act) → by_anchor mode tag.name a ≡ true
    → Onward mode (act_on a tag)
anchored InHead tag head_left e = record { turns = head_closed }
anchored InHead tag noscript_put e = record { turns = noscript_opened tag e }
anchored InHeadNoscript tag noscript_left e = record { turns = noscript_closed }
anchored InCell tag (cell_left Cells) e = record {
  turns = λ s m h. part_closed Cells InRow refl s h
      (open_root Cells refl s.stack h.root (has_open at_cell s.stack (fact_at InCell m h)));
}
anchored InSelectInTable tag select_left e = record {
  turns = λ s m h. popped_reset (Only tags.Select) s h
      (open_root (Only tags.Select) refl s.stack h.root (has_open at_select s.stack (fact_at InSelectInTable m h)));
}
anchored mode tag a e = absurd (true≢false (sym e))

pub turn_ends : (mode : InsertionMode) (tag : StartTagValue) (a : Act) → ended_turn mode tag.name a ≡ true
    → Onward mode (act_on a tag)
turn_ends mode tag (to_mode next) e = to_free {p = is_any} next (free_from (anchor_of next) e) refl ends_still
turn_ends mode tag (to_content next) e = template_mode_turns next (free_from (anchor_of next) e)
turn_ends mode tag to_quirks e = initial_left
turn_ends mode tag (started quirks) e = doctype_turns quirks
turn_ends mode tag (root given) e =
    to_free {p = is_any} BeforeHead refl refl (insert_root_ends (given_name given tag) (given_attributes given tag))
turn_ends mode tag (body_put given) e =
    to_free {p = is_any} InBody refl refl (insert_element_ends (given_name given tag) (given_attributes given tag))
turn_ends mode tag (head given) e =
    let a = and_parts (is_of (Only tags.Head) (html (name_given given tag.name))) _ e in
    with_head_turns (given_name given tag) (given_attributes given tag) a.0 a.1
turn_ends mode tag head_left e = anchored mode tag head_left e
turn_ends mode tag noscript_put e = anchored mode tag noscript_put e
turn_ends mode tag noscript_left e = anchored mode tag noscript_left e
turn_ends mode tag (cell_left set) e = anchored mode tag (cell_left set) e
turn_ends mode tag select_left e = anchored mode tag select_left e
turn_ends mode tag cell_put e = record {
  turns = λ s m h. turned ((push_marker_ends {p = is_any}).whole (insert_tag tag s)
      ((insert_tag_ends {p = is_any} tag).whole s h.whole)) h.modes (inr h.root) (inl (e, tt)) refl;
}
turn_ends mode tag select e = start_select_turns tag e
turn_ends mode tag body_replaced e = replace_body_turns tag
turn_ends mode tag table_closed e = end_table_turns
turn_ends mode tag caption_closed e = end_caption_turns
turn_ends mode tag columns_closed e = end_columns_turns
turn_ends mode tag row_closed e = end_row_turns
turn_ends mode tag (section_closed set) e = end_section_turns set e
turn_ends mode tag (cell_closed name) e = end_cell_turns name e
turn_ends mode tag select_closed e = end_select_turns
turn_ends mode tag template_closed e = end_template_turns
turn_ends mode tag frameset_closed e = second_turns (free_from (anchor_of mode) e)
turn_ends mode tag a e = onward (act_ends mode tag a e)

pub last_ends : (mode : InsertionMode) (tag : StartTagValue) (a : Act) → ended_last mode tag.name a ≡ true
    → Tags mode (act_on a tag)
last_ends mode tag (raw_text raw) e = raw_tag_tags raw tag
last_ends mode tag of_head e = head_element_tags tag.name tag
last_ends mode tag late_of_head e = record { leaves = λ s m h. either s m h s.head refl }
  where
    either : (s : StateValue) → s.mode ≡ mode → Ready s → (first : Option ℕ) → s.head ≡ first
        → Tagged s (insert_in_head first tag s)
    either s m h None k = (head_element_tags tag.name tag).leaves s m h
    either s m h (Some n) k = late_left tag.name tag n s k (ap anchor_of m ∙ free_from (anchor_of mode) e) h
last_ends mode tag a e = calm (turn_ends mode tag a e)
