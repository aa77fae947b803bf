-- The rules of the modes leave a plain state plain, where the tag's name is plain: what each act does.
use Rattle.std.proofs.Common.{◌≡◌, ℕ, Bool, true, false, List, ◌∷◌, length, Option, Some, None, refl, sym}
use Rattle.std.proofs.Common.{ap}
use Rattle.std.specs.Prelude.{if◌then◌else◌}
use Rattle.std.proofs.lemmas.Bool.{true≢false, cond_both}
use Rattle.htmd_lexical.specs.AttributePairs.{AttributePair}
use Rattle.htmd_html5_state.specs.Names.{NameValue, html, known, text_of_name}
use Rattle.htmd_html5_state.specs.OpenElements.{first_open, pop, pop_until, clear_to, pop_while, without}
use Rattle.htmd_html5_state.specs.OpenElements.{is_in_scope, is_node_in_scope}
use Rattle.htmd_html5_state.specs.State.{StateValue, on_stack}
use Rattle.htmd_html5_state.specs.Insertion.{current, opened, open_again}
use Rattle.htmd_html5_state.specs.Formatting.{clear_to_marker}
use Rattle.htmd_html5_state.specs.Adoption.{formatting_element}
use Rattle.htmd_html5_state.specs.Resetting.{pop_modes, pop_template_mode}
use Rattle.htmd_html5_state.specs.Foreign.{namespace_of}
use Rattle.htmd_html5_state.specs.declared.modes.InsertionMode.{InsertionMode}
use Rattle.htmd_html5_state.specs.declared.modes.InsertionMode.TheVariants.{BeforeHtml, InHead, InTable, InTableBody}
use Rattle.htmd_html5_state.specs.declared.modes.InsertionMode.TheVariants.{InRow, InCell, InHeadNoscript, AfterHead}
use Rattle.htmd_html5_state.specs.declared.names.Namespace.{Namespace}
use Rattle.htmd_html5_state.specs.declared.sets.NameSet.{NameSet}
use Rattle.htmd_html5_state.specs.declared.sets.NameSet.TheVariants.{Only, ImpliedEnd, TableBodyContext}
use Rattle.htmd_html5_state.specs.declared.sets.NameSet.TheVariants.{TableRowContext}
use Rattle.htmd_html5_state.specs.declared.sets.Scope.TheVariants.{Table as TableScope}
use Rattle.htmd_html5.specs.Tokens.{StartTagValue}
use Rattle.htmd_html5.specs.Outcomes.{Outcome, outcome}
use Rattle.htmd_html5.specs.SharedRules.{with_mode, no_frameset, add_missing_to, leave_template, end_template}
use Rattle.htmd_html5.specs.SharedRules.{insert_head_element, insert_tag, insert_raw_tag, insert_void_tag}
use Rattle.htmd_html5.specs.BodyStarts.{is_in_template, open_body, add_to_this_body, skip_line_feed, with_form, forget}
use Rattle.htmd_html5.specs.BodyStarts.{mode_of_select, start_ordinary, start_select}
use Rattle.htmd_html5.specs.BodyEnds.{close_form}
use Rattle.htmd_html5.specs.BeforeHead.{with_head}
use Rattle.htmd_html5.specs.AfterHead.{insert_in_head, insert_late}
use Rattle.htmd_html5.specs.InTable.{fostered, has_table}
use Rattle.htmd_html5.specs.InCaption.{has_caption}
use Rattle.htmd_html5.specs.InColumnGroup.{has_columns}
use Rattle.htmd_html5.specs.InRow.{has_row}
use Rattle.htmd_html5.specs.InSelect.{has_select, close_select}
use Rattle.htmd_html5.specs.AfterBody.{comment_in}
use Rattle.htmd_html5.specs.ForeignContent.{insert_alike, start_foreign_element}
use Rattle.htmd_law_html5.proofs.OpenNodes.{fewer_then, pop_fewer, pop_until_fewer, clear_to_fewer}
use Rattle.htmd_law_html5.proofs.OpenNodes.{without_fewer, pop_while_fewer}
use Rattle.htmd_law_html5.proofs.PlainNames.{is_plain, is_plain_name, no_template_open}
use Rattle.htmd_law_html5.proofs.HungStates.{Hung, hung_named, hung_headed, hung_late_open, hung_late_void}
use Rattle.htmd_law_html5.proofs.PlainStates.{is_plain_mode, Plain, Stays, then_stays, still, stays_by_test}
use Rattle.htmd_law_html5.proofs.PlainStates.{stays_by_state, plain_stack, in_plain_mode, on_stack_stays}
use Rattle.htmd_law_html5.proofs.PlainStates.{insert_element_stays, insert_root_stays, insert_void_stays}
use Rattle.htmd_law_html5.proofs.PlainStates.{insert_raw_stays, insert_foreign_stays, insert_comment_in_stays}
use Rattle.htmd_law_html5.proofs.PlainStates.{insert_comment_stays, insert_doctype_stays, add_missing_stays}
use Rattle.htmd_law_html5.proofs.PlainStates.{without_entry_stays, push_marker_stays, clear_to_marker_stays}
use Rattle.htmd_law_html5.proofs.PlainStates.{insert_formatting_stays, reconstruct_stays, reset_insertion_mode_stays}
use Rattle.htmd_law_html5.proofs.PlainAdoption.{adoption_agency_stays}
use Rattle.htmd_law_html5.proofs.Rules.{name_given, Given, given_name, given_attributes, left_open, Act, act_on}
use Rattle.htmd_law_html5.proofs.Rules.{element, void, root, head, raw_text, of_head, late_of_head, foreign}
use Rattle.htmd_law_html5.proofs.Rules.{foreign_alike, formatting, select, comment, comment_in_root}
use Rattle.htmd_law_html5.proofs.Rules.{comment_in_document, started, cut, agency, forget_anchor, noted_form}
use Rattle.htmd_law_html5.proofs.Rules.{table_closed, caption_closed, columns_closed, section_closed, row_closed}
use Rattle.htmd_law_html5.proofs.Rules.{cell_closed, cell_left, select_closed, select_left, frameset_closed}
use Rattle.htmd_law_html5.proofs.Rules.{template_closed, root_attributes, body_attributes, body_replaced, marked}
use Rattle.htmd_law_html5.proofs.Rules.{to_marker, reconstructed, to_mode, to_quirks, to_content, frames_refused}
use Rattle.htmd_law_html5.proofs.Rules.{line_feed_skipped, noted_element, fostering, empty_form, noscript_put}
use Rattle.htmd_law_html5.proofs.Rules.{cell_put, head_left, noscript_left, body_put}
use Rattle.htmd_law_html5.proofs.RuleWalk.{left_fewer}
use Rattle.htmd_html5_state.specs.declared.modes.InsertionMode.TheVariants.{BeforeHead, InBody}
use Rattle.htmd_lexical.specs.declared.content_model.RawElement.{RawElement}
use Rattle.htmd_lexical.specs.declared.content_model.ContentModel.TheVariants.{Raw}
use Rattle.htmd_html5.specs.Feeding.{is_text_mode}
use Rattle.htmd_law_html5.proofs.RootedStacks.{is_outer_name}
use Rattle.htmd_html5_state.specs.declared.names.TagName.TheVariants as tags
use Rattle.htmd_lexical.specs.declared.content_model.RawElement.TheVariants as raw

-- ---- outcomes in a mode

-- an outcome whose state is plain, and in which what hung under the Document does so
pub record StaysAnswer (f : StateValue → Outcome) : Type 0 where
  pub stays : (s : StateValue) → Plain s → Plain (f s).state
  pub hangs : (s : StateValue) → Plain s → Hung s → Hung (f s).state

pub says_plain : {f : StateValue → StateValue} {more : StateValue → Bool} → Stays f
    → StaysAnswer (λ s. outcome (f s) (more s))
says_plain h = record { stays = λ s plain. h.stays s plain; hangs = λ s plain x. h.hangs s plain x }

pub answers_either : {f g : StateValue → Outcome} (b : StateValue → Bool) → StaysAnswer f → StaysAnswer g
    → StaysAnswer (λ s. if b s then f s else g s)
answers_either b first second = record {
  stays = λ s h. cond_both (b s) _ _ (λ (a : Outcome). Plain a.state) (λ t. first.stays s h)
      (λ t. second.stays s h);
  hangs = λ s h x. cond_both (b s) _ _ (λ (a : Outcome). Hung a.state) (λ t. first.hangs s h x)
      (λ t. second.hangs s h x);
}

pub fostered_stays : {step : StateValue → StateValue} → Stays step → Stays (fostered step)
fostered_stays h = record {
  stays = λ s plain. h.stays (record s { foster_parenting = true }) plain;
  hangs = λ s plain x. h.hangs (record s { foster_parenting = true }) plain x;
}

-- ---- acts that leave it so

-- an element gets a plain name
abbrev pub plain_given : NameValue → Given → Bool
plain_given name given = is_plain_name (name_given given name)

-- acts for a tag of that name, but those that lead to frames, columns and templates
abbrev pub plain_act : NameValue → Act → Bool
plain_act name (element given) = plain_given name given
plain_act name (void given) = plain_given name given
plain_act name (root given) = plain_given name given
plain_act name (head given) = plain_given name given
plain_act name (body_put given) = plain_given name given
plain_act name (raw_text raw) = is_plain_name name
plain_act name of_head = is_plain_name name
plain_act name late_of_head = is_plain_name name
plain_act name formatting = is_plain_name name
plain_act name select = is_plain_name name
plain_act name noted_element = is_plain_name name
plain_act name empty_form = is_plain_name name
plain_act name noscript_put = is_plain_name name
plain_act name cell_put = is_plain_name name
plain_act name (agency other) = is_plain other
plain_act name (to_mode mode) = is_plain_mode mode
plain_act name (to_content mode) = false
plain_act name body_replaced = false
plain_act name frameset_closed = false
plain_act name a = true

-- ---- what each does

pub with_mode_stays : (mode : InsertionMode) → is_plain_mode mode ≡ true → Stays (with_mode mode)
with_mode_stays mode p = record { stays = λ s h. in_plain_mode mode p h; hangs = λ s h x. x }

pub no_frameset_stays : Stays no_frameset
no_frameset_stays = record { stays = λ s h. h; hangs = λ s h x. x }

add_missing_to_stays : (attributes : List AttributePair) (n : Option ℕ) → Stays (add_missing_to n attributes)
add_missing_to_stays attributes None = still
add_missing_to_stays attributes (Some n) = add_missing_stays n attributes

-- no template is open
pub end_template_stays : Stays end_template
end_template_stays = record {
  stays = λ s h. rw (no_template_open s.stack h.names) h;
  hangs = λ s h x. rw (no_template_open s.stack h.names) x;
}

no_template_mode : Stays pop_template_mode
no_template_mode = record {
  stays = λ s h. record {
    names = h.names;
    entries_at = h.entries_at;
    plain_mode = h.plain_mode;
    no_modes = ap pop_modes h.no_modes;
  };
  hangs = λ s h x. x;
}

popped_stays : (set : NameSet) → Stays (on_stack (pop_until set))
popped_stays set = on_stack_stays (pop_until set) (pop_until_fewer set)

pub leave_template_stays : Stays leave_template
leave_template_stays =
    then_stays reset_insertion_mode_stays
    (then_stays no_template_mode (then_stays clear_to_marker_stays (popped_stays (Only tags.Template))))

pub skip_line_feed_stays : Stays skip_line_feed
skip_line_feed_stays = record { stays = λ s h. h; hangs = λ s h x. x }

pub with_form_stays : Stays with_form
with_form_stays = record { stays = λ s h. h; hangs = λ s h x. x }

forget_stays : (n : Option ℕ) → Stays (forget n)
forget_stays None = still
forget_stays (Some n) =
    then_stays (on_stack_stays (without n) (without_fewer n))
    (then_stays (without_entry_stays n) (adoption_agency_stays tags.A refl))

select_mode_is_plain : (mode : InsertionMode) → is_plain_mode (mode_of_select mode) ≡ true
select_mode_is_plain InTable = refl
select_mode_is_plain _ = refl

close_form_stays : (form : Option ℕ) → Stays (close_form form)
close_form_stays None = still
close_form_stays (Some n) =
    stays_by_test (λ s. is_node_in_scope n s.stack) (on_stack_stays (λ stack. without n (pop_while ImpliedEnd stack))
    (λ stack. fewer_then (without_fewer n (pop_while ImpliedEnd stack)) (pop_while_fewer ImpliedEnd stack))) still

-- the form that is noted
pub close_noted_form_stays : Stays (λ s. close_form s.form (record s { form = None }))
close_noted_form_stays = record {
  stays = λ s h. (close_form_stays s.form).stays (record s { form = None }) h;
  hangs = λ s h x. (close_form_stays s.form).hangs (record s { form = None }) h x;
}

pub comment_in_stays : (s : List ℕ) (n : Option ℕ) → Stays (comment_in n s)
comment_in_stays s None = still
comment_in_stays s (Some n) = insert_comment_in_stays n s

with_head_stays : (name : NameValue) (attributes : List AttributePair) → is_plain_name name ≡ true
    → Stays (with_head name attributes)
with_head_stays name attributes p = record {
  stays = λ s h. in_plain_mode InHead refl ((insert_element_stays name attributes p).stays s h);
  hangs = λ s h x.
      let y = hung_named (html name) attributes s x in hung_headed (length s.nodes) y.opened_at.0 y;
}

-- back to the context, whose innermost element goes
context_stays : (set : NameSet) (mode : InsertionMode) → is_plain_mode mode ≡ true
    → Stays (λ s. with_mode mode (on_stack (λ stack. pop (clear_to set stack)) s))
context_stays set mode p =
    then_stays (with_mode_stays mode p) (on_stack_stays (λ stack. pop (clear_to set stack))
    (λ stack. fewer_then (pop_fewer (clear_to set stack)) (clear_to_fewer set stack)))

pub part_stays : (set : NameSet) (mode : InsertionMode) → is_plain_mode mode ≡ true
    → Stays (λ s. with_mode mode (clear_to_marker (on_stack (pop_until set) s)))
part_stays set mode p = then_stays (with_mode_stays mode p) (then_stays clear_to_marker_stays (popped_stays set))

pub close_select_stays : Stays close_select
close_select_stays = then_stays reset_insertion_mode_stays (popped_stays (Only tags.Select))

alike_stays : (tag : StartTagValue) (space : Option Namespace) → Stays (insert_alike space tag)
alike_stays tag None = still
alike_stays tag (Some space) = insert_foreign_stays space (text_of_name tag.name) tag.attributes tag.self_closing

pub start_foreign_stays : (tag : StartTagValue) → Stays (start_foreign_element tag)
start_foreign_stays tag = stays_by_state (λ s. namespace_of (current s.stack).name) (alike_stays tag)

-- an element of the head is one of only text or void
pub by_head_element : (P : (StateValue → StateValue) → Type 0) (tag : StartTagValue) → is_plain_name tag.name
    ≡ true → ((element : RawElement) → is_text_mode (Raw element) ≡ true → is_outer_name tag.name ≡ true
    → P (insert_raw_tag element tag)) → P (insert_void_tag tag) → P (insert_head_element tag.name tag)
by_head_element P tag p only_text empty = by_name tag.name refl p
  where
    by_name : (name : NameValue) → tag.name ≡ name → is_plain_name name ≡ true
        → P (insert_head_element name tag)
    by_name (known tags.Title) n q = only_text raw.Title refl (ap is_outer_name n)
    by_name (known tags.NoFrames) n q = only_text raw.Noframes refl (ap is_outer_name n)
    by_name (known tags.Style) n q = only_text raw.Style refl (ap is_outer_name n)
    by_name (known tags.Script) n q = only_text raw.Script refl (ap is_outer_name n)
    by_name (known tags.Template) n q = absurd (true≢false (sym q))
    by_name _ n q = empty

module _ (tag : StartTagValue) (p : is_plain_name tag.name ≡ true) where
  of_head_stays : Stays (insert_head_element tag.name tag)
  of_head_stays =
      by_head_element Stays tag p (λ element r o. insert_raw_stays tag.name element tag.attributes p)
      (insert_void_stays tag.name tag.attributes p)

  start_ordinary_stays : Stays (start_ordinary tag)
  start_ordinary_stays = then_stays (insert_element_stays tag.name tag.attributes p) reconstruct_stays

  pub start_select_stays : Stays (start_select tag)
  start_select_stays = record {
    stays = λ s h. in_plain_mode (mode_of_select s.mode) (select_mode_is_plain s.mode)
        ((then_stays no_frameset_stays start_ordinary_stays).stays s h);
    hangs = λ s h x. (then_stays no_frameset_stays start_ordinary_stays).hangs s h x;
  }

  late_plain : (head : Option ℕ) (s : StateValue) → Plain s → Plain (insert_in_head head tag s)
  late_plain None s h = of_head_stays.stays s h
  late_plain (Some n) s h =
      (then_stays (on_stack_stays (without n) (without_fewer n)) of_head_stays).stays
      (open_again n (known tags.Head) s)
      (plain_stack (opened n (html (known tags.Head)) ∷ s.stack) (refl, h.names) h)

  -- the head is open only while an element is put into it
  late_hung : (head : Option ℕ) (s : StateValue) → s.head ≡ head → Plain s → Hung s
      → Hung (insert_in_head head tag s)
  late_hung None s e h x = of_head_stays.hangs s h x
  late_hung (Some n) s e h x =
      by_head_element (λ put. Hung (on_stack (without n) (put (open_again n (known tags.Head) s)))) tag p
      (λ element r o. hung_late_open (html tag.name) tag.attributes n s (x.head_at n e) x)
      (hung_late_void (html tag.name) tag.attributes n s (x.head_at n e) x)

  late_stays : Stays (insert_late tag)
  late_stays = record { stays = λ s h. late_plain s.head s h; hangs = λ s h x. late_hung s.head s refl h x }

noted_stays : (tag : StartTagValue) → is_plain_name tag.name ≡ true → Stays (λ s. with_form (insert_tag tag s))
noted_stays tag p = then_stays with_form_stays (insert_element_stays tag.name tag.attributes p)

-- ---- acts

module _ (tag : StartTagValue) where
  add_to_body_stays : (body : Option ℕ) → Stays (add_to_this_body body tag)
  add_to_body_stays None = still
  add_to_body_stays (Some body) =
      stays_by_test is_in_template still (then_stays no_frameset_stays (add_missing_stays body tag.attributes))

  pub act_stays : (a : Act) → plain_act tag.name a ≡ true → Stays (act_on a tag)
  act_stays (element given) e = insert_element_stays (given_name given tag) (given_attributes given tag) e
  act_stays (void given) e = insert_void_stays (given_name given tag) (given_attributes given tag) e
  act_stays (root given) e =
      then_stays (with_mode_stays BeforeHead refl)
      (insert_root_stays (given_name given tag) (given_attributes given tag) e)
  act_stays (head given) e = with_head_stays (given_name given tag) (given_attributes given tag) e
  act_stays (body_put given) e =
      then_stays (with_mode_stays InBody refl)
      (insert_element_stays (given_name given tag) (given_attributes given tag) e)
  act_stays (raw_text raw) e = insert_raw_stays tag.name raw tag.attributes e
  act_stays of_head e = of_head_stays tag e
  act_stays late_of_head e = late_stays tag e
  act_stays (foreign space) e = insert_foreign_stays space (text_of_name tag.name) tag.attributes tag.self_closing
  act_stays foreign_alike e = start_foreign_stays tag
  act_stays formatting e = insert_formatting_stays tag.name tag.attributes e
  act_stays select e = start_select_stays tag e
  act_stays (comment text) e = insert_comment_stays text
  act_stays (comment_in_root text) e = stays_by_state (λ s. first_open s.stack) (comment_in_stays text)
  act_stays (comment_in_document text) e = insert_comment_in_stays 0 text
  act_stays (started quirks) e = record {
    stays = λ s h. in_plain_mode BeforeHtml refl (insert_doctype_stays.stays s h);
    hangs = λ s h x. insert_doctype_stays.hangs s h x;
  }
  act_stays (cut what) e = on_stack_stays (left_open what) (left_fewer what)
  act_stays (agency name) e = adoption_agency_stays name e
  act_stays forget_anchor e = stays_by_state (formatting_element tags.A) forget_stays
  act_stays noted_form e = close_noted_form_stays
  act_stays table_closed e =
      stays_by_test (λ s. has_table s) (then_stays reset_insertion_mode_stays (popped_stays (Only tags.Table))) still
  act_stays caption_closed e = stays_by_test (λ s. has_caption s) (part_stays (Only tags.Caption) InTable refl) still
  act_stays columns_closed e =
      stays_by_test (λ s. has_columns s) (then_stays (with_mode_stays InTable refl) (on_stack_stays pop pop_fewer))
      still
  act_stays (section_closed set) e =
      stays_by_test (λ s. is_in_scope set TableScope s.stack) (context_stays TableBodyContext InTable refl) still
  act_stays row_closed e = stays_by_test (λ s. has_row s) (context_stays TableRowContext InTableBody refl) still
  act_stays (cell_closed name) e =
      stays_by_test (λ s. is_in_scope (Only name) TableScope s.stack) (part_stays (Only name) InRow refl) still
  act_stays (cell_left set) e = part_stays set InRow refl
  act_stays select_closed e = stays_by_test (λ s. has_select s) close_select_stays still
  act_stays select_left e = close_select_stays
  act_stays template_closed e = end_template_stays
  act_stays root_attributes e =
      stays_by_test is_in_template still
      (stays_by_state (λ s. first_open s.stack) (add_missing_to_stays tag.attributes))
  act_stays body_attributes e = stays_by_state open_body add_to_body_stays
  act_stays marked e = push_marker_stays
  act_stays to_marker e = clear_to_marker_stays
  act_stays reconstructed e = reconstruct_stays
  act_stays (to_mode mode) e = with_mode_stays mode e
  act_stays to_quirks e = record { stays = λ s h. in_plain_mode BeforeHtml refl h; hangs = λ s h x. x }
  act_stays frames_refused e = no_frameset_stays
  act_stays line_feed_skipped e = skip_line_feed_stays
  act_stays noted_element e = noted_stays tag e
  act_stays empty_form e = then_stays (on_stack_stays pop pop_fewer) (noted_stays tag e)
  act_stays noscript_put e =
      then_stays (with_mode_stays InHeadNoscript refl) (insert_element_stays tag.name tag.attributes e)
  act_stays cell_put e =
      then_stays push_marker_stays
      (then_stays (with_mode_stays InCell refl) (insert_element_stays tag.name tag.attributes e))
  act_stays head_left e = then_stays (with_mode_stays AfterHead refl) (on_stack_stays pop pop_fewer)
  act_stays noscript_left e = then_stays (with_mode_stays InHead refl) (on_stack_stays pop pop_fewer)
  act_stays fostering e = record { stays = λ s h. h; hangs = λ s h x. x }
  act_stays a e = absurd (true≢false (sym e))
