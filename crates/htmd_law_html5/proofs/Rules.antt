-- What the rules of the modes do to a state, as data: a rule is made of acts, one after another.
use Rattle.std.specs.Prelude.{ℕ, Bool, true, false, ◌&&◌, if◌then◌else◌, List, [], None}
use Rattle.htmd_lexical.specs.AttributePairs.{AttributePair}
use Rattle.htmd_lexical.specs.declared.content_model.RawElement.{RawElement}
use Rattle.htmd_html5_state.specs.Names.{NameValue, known}
use Rattle.htmd_html5_state.specs.OpenElements.{OpenValue, pop_while, pop_until, clear_to, close, close_name}
use Rattle.htmd_html5_state.specs.OpenElements.{is_in_scope}
use Rattle.htmd_html5_state.specs.State.{StateValue, on_stack}
use Rattle.htmd_html5_state.specs.Insertion.{insert_element, insert_void, insert_comment_in, insert_comment}
use Rattle.htmd_html5_state.specs.Insertion.{insert_doctype}
use Rattle.htmd_html5_state.specs.Formatting.{push_marker, clear_to_marker, insert_formatting, reconstruct}
use Rattle.htmd_html5_state.specs.Adoption.{adoption_agency, formatting_element}
use Rattle.htmd_html5_state.specs.declared.modes.InsertionMode.{InsertionMode}
use Rattle.htmd_html5_state.specs.declared.modes.InsertionMode.TheVariants.{AfterBody, BeforeHtml, InHeadNoscript}
use Rattle.htmd_html5_state.specs.declared.modes.InsertionMode.TheVariants.{InCell}
use Rattle.htmd_html5_state.specs.declared.names.Namespace.{Namespace}
use Rattle.htmd_html5_state.specs.declared.names.TagName.{TagName}
use Rattle.htmd_html5_state.specs.declared.sets.NameSet.{NameSet}
use Rattle.htmd_html5_state.specs.declared.sets.Scope.{Scope}
use Rattle.htmd_html5_state.specs.declared.sets.Scope.TheVariants.{Table as TableScope}
use Rattle.htmd_html5.specs.Tokens.{StartTagValue}
use Rattle.htmd_html5.specs.Outcomes.{Outcome, outcome}
use Rattle.htmd_html5.specs.SharedRules.{with_mode, insert_tag, insert_raw_tag, insert_foreign_tag, no_frameset}
use Rattle.htmd_html5.specs.SharedRules.{add_to_root, end_template, insert_head_element}
use Rattle.htmd_html5.specs.BodyStarts.{add_to_body, replace_body, close_heading, skip_line_feed, with_form, forget}
use Rattle.htmd_html5.specs.BodyStarts.{start_select, close_option}
use Rattle.htmd_html5.specs.BodyEnds.{close_form, end_body, has_body}
use Rattle.htmd_html5.specs.InBody.{end_of_file_in_template}
use Rattle.htmd_html5.specs.BeforeHtml.{with_root}
use Rattle.htmd_html5.specs.BeforeHead.{with_head}
use Rattle.htmd_html5.specs.AfterHead.{with_body, insert_late}
use Rattle.htmd_html5.specs.InHead.{close_head}
use Rattle.htmd_html5.specs.InHeadNoscript.{close_noscript}
use Rattle.htmd_html5.specs.InTable.{fostered, with_empty_form, end_table, has_table}
use Rattle.htmd_html5.specs.InCaption.{end_caption, has_caption}
use Rattle.htmd_html5.specs.InColumnGroup.{end_columns, has_columns}
use Rattle.htmd_html5.specs.InTableBody.{end_section}
use Rattle.htmd_html5.specs.InRow.{end_row, has_row}
use Rattle.htmd_html5.specs.InCell.{close_cell, end_cell}
use Rattle.htmd_html5.specs.InSelect.{close_group, close_option_in_group, close_select, end_select, has_select}
use Rattle.htmd_html5.specs.InTemplate.{with_template_mode}
use Rattle.htmd_html5.specs.InFrameset.{end_frameset}
use Rattle.htmd_html5.specs.ForeignContent.{start_foreign_element}
use Rattle.htmd_html5_state.specs.declared.names.TagName.TheVariants as tags
use Rattle.htmd_html5.specs.AfterBody as after_body

infixr 20 ◌⨾◌
-- ---- acts

-- whose name and attributes an element gets: the tag's; those of a tag that is implied; a name and the tag's attributes
pub data Given : Type 0 where
  own : Given
  implied : TagName → Given
  renamed : TagName → Given

abbrev pub name_given : Given → NameValue → NameValue
name_given own name = name
name_given (implied tag) name = known tag
name_given (renamed tag) name = known tag

abbrev pub given_name : Given → StartTagValue → NameValue
given_name given tag = name_given given tag.name

abbrev pub given_attributes : Given → StartTagValue → List AttributePair
given_attributes own tag = tag.attributes
given_attributes (implied name) tag = []
given_attributes (renamed name) tag = tag.attributes

-- which open elements are closed: up to one of these, if it is in scope; while it is one of these; to
-- one of these, which stays open; up to one of these; up to one of that name; and those that must be the current node
pub data Cut : Type 0 where
  in_scope : NameSet → Scope → Cut
  each_of : NameSet → Cut
  back_to : NameSet → Cut
  one_of : NameSet → Cut
  named : NameValue → Cut
  heading : Cut
  option : Cut
  option_and_group : Cut
  group : Cut

abbrev pub left_open : Cut → List OpenValue → List OpenValue
left_open (in_scope set scope) stack = close set scope stack
left_open (each_of set) stack = pop_while set stack
left_open (back_to set) stack = clear_to set stack
left_open (one_of set) stack = pop_until set stack
left_open (named name) stack = close_name name stack
left_open heading stack = close_heading stack
left_open option stack = close_option stack
left_open option_and_group stack = close_group (close_option stack)
left_open group stack = close_group (close_option_in_group stack)

pub data Act : Type 0 where
  -- an element is inserted
  element : Given → Act
  void : Given → Act
  root : Given → Act
  head : Given → Act
  body_put : Given → Act
  raw_text : RawElement → Act
  of_head : Act
  late_of_head : Act
  foreign : Namespace → Act
  foreign_alike : Act
  formatting : Act
  select : Act
  noted_element : Act
  empty_form : Act
  noscript_put : Act
  cell_put : Act
  -- or something else
  comment : List ℕ → Act
  comment_in_root : List ℕ → Act
  comment_in_document : List ℕ → Act
  started : Bool → Act
  -- elements are closed
  cut : Cut → Act
  agency : TagName → Act
  forget_anchor : Act
  noted_form : Act
  table_closed : Act
  caption_closed : Act
  columns_closed : Act
  section_closed : NameSet → Act
  row_closed : Act
  cell_closed : TagName → Act
  cell_left : NameSet → Act
  select_closed : Act
  select_left : Act
  frameset_closed : Act
  template_closed : Act
  head_left : Act
  noscript_left : Act
  -- elements get attributes or give way
  root_attributes : Act
  body_attributes : Act
  body_replaced : Act
  -- the list of active formatting elements
  marked : Act
  to_marker : Act
  reconstructed : Act
  -- what else a state notes
  to_mode : InsertionMode → Act
  to_quirks : Act
  to_content : InsertionMode → Act
  frames_refused : Act
  line_feed_skipped : Act
  fostering : Act

abbrev pub act_on : Act → StartTagValue → StateValue → StateValue
act_on (element given) tag s = insert_element (given_name given tag) (given_attributes given tag) s
act_on (void given) tag s = insert_void (given_name given tag) (given_attributes given tag) s
act_on (root given) tag s = with_root (given_name given tag) (given_attributes given tag) s
act_on (head given) tag s = with_head (given_name given tag) (given_attributes given tag) s
act_on (body_put given) tag s = with_body (given_name given tag) (given_attributes given tag) s
act_on (raw_text raw) tag s = insert_raw_tag raw tag s
act_on of_head tag s = insert_head_element tag.name tag s
act_on late_of_head tag s = insert_late tag s
act_on (foreign space) tag s = insert_foreign_tag space tag s
act_on foreign_alike tag s = start_foreign_element tag s
act_on formatting tag s = insert_formatting tag.name tag.attributes s
act_on select tag s = start_select tag s
act_on noted_element tag s = with_form (insert_tag tag s)
act_on empty_form tag s = with_empty_form tag s
act_on noscript_put tag s = with_mode InHeadNoscript (insert_tag tag s)
act_on cell_put tag s = push_marker (with_mode InCell (insert_tag tag s))
act_on (comment text) tag s = insert_comment text s
act_on (comment_in_root text) tag s = after_body.comment_in_root text s
act_on (comment_in_document text) tag s = insert_comment_in 0 text s
act_on (started quirks) tag s = record (insert_doctype s) { mode = BeforeHtml; quirks = quirks }
act_on (cut what) tag s = on_stack (left_open what) s
act_on (agency name) tag s = adoption_agency name s
act_on forget_anchor tag s = forget (formatting_element tags.A s) s
act_on noted_form tag s = close_form s.form (record s { form = None })
act_on table_closed tag s = end_table s
act_on caption_closed tag s = end_caption s
act_on columns_closed tag s = end_columns s
act_on (section_closed set) tag s = end_section set s
act_on row_closed tag s = end_row s
act_on (cell_closed name) tag s = end_cell name s
act_on (cell_left set) tag s = close_cell set s
act_on select_closed tag s = end_select s
act_on select_left tag s = close_select s
act_on frameset_closed tag s = end_frameset s
act_on template_closed tag s = end_template s
act_on head_left tag s = close_head s
act_on noscript_left tag s = close_noscript s
act_on root_attributes tag s = add_to_root tag s
act_on body_attributes tag s = add_to_body tag s
act_on body_replaced tag s = replace_body tag s
act_on marked tag s = push_marker s
act_on to_marker tag s = clear_to_marker s
act_on reconstructed tag s = reconstruct s
act_on (to_mode mode) tag s = with_mode mode s
act_on to_quirks tag s = record s { mode = BeforeHtml; quirks = true }
act_on (to_content mode) tag s = with_template_mode mode s
act_on frames_refused tag s = no_frameset s
act_on line_feed_skipped tag s = skip_line_feed s
act_on fostering tag s = record s { foster_parenting = true }

-- ---- rules

-- one act after another, the first first; by what holds of the tag and the state; and with foster parenting (13.2.6.1)
pub data Rule : Type 0 where
  nothing : Rule
  act : Act → Rule
  ◌⨾◌ : Rule → Rule → Rule
  when : (StartTagValue → StateValue → Bool) → Rule → Rule → Rule
  foster : Rule → Rule

abbrev pub run : Rule → StartTagValue → StateValue → StateValue
run nothing tag s = s
run (act a) tag s = act_on a tag s
run (first ⨾ more) tag s = run more tag (run first tag s)
run (when test first other) tag s = if test tag s then run first tag s else run other tag s
run (foster r) tag s = fostered (run r tag) s

-- whether an act closes an element that must be there
abbrev pub closes : Act → StateValue → Bool
closes table_closed s = has_table s
closes caption_closed s = has_caption s
closes columns_closed s = has_columns s
closes (section_closed set) s = is_in_scope set TableScope s.stack
closes row_closed s = has_row s
closes select_closed s = has_select s
closes a s = true

-- outcomes in a mode: it is done; the token is processed again, always or if the act closes something; one of two, by
-- what holds of the state; and what ends the body and, at the end of the file, a template
pub data Reply : Type 0 where
  ends : Rule → Reply
  again : Rule → Reply
  again_after : Act → Reply
  either : (StateValue → Bool) → Reply → Reply → Reply
  body_ended : Reply
  template_ended : Reply

abbrev pub reply_of : Reply → StartTagValue → StateValue → Outcome
reply_of (ends r) tag s = outcome (run r tag s) false
reply_of (again r) tag s = outcome (run r tag s) true
reply_of (again_after a) tag s = outcome (act_on a tag s) (closes a s)
reply_of (either test first other) tag s = if test s then reply_of first tag s else reply_of other tag s
reply_of body_ended tag s = outcome (end_body s) (has_body s)
reply_of template_ended tag s = end_of_file_in_template s

-- ---- rules of which each act is allowed

abbrev pub fits : (Act → Bool) → Rule → Bool
fits may nothing = true
fits may (act a) = may a
fits may (first ⨾ more) = fits may first && fits may more
fits may (when test first other) = fits may first && fits may other
fits may (foster r) = may fostering && fits may r

-- and the last act is one of these
abbrev pub last_fits : (Act → Bool) → (Act → Bool) → Rule → Bool
last_fits may last nothing = true
last_fits may last (act a) = last a
last_fits may last (first ⨾ more) = fits may first && last_fits may last more
last_fits may last (when test first other) = last_fits may last first && last_fits may last other
last_fits may last (foster r) = may fostering && last_fits may last r

-- where the token is processed again, the last act is one of others
abbrev pub turn_fits : (Act → Bool) → (Act → Bool) → Rule → Bool
turn_fits may turn nothing = true
turn_fits may turn (act a) = turn a
turn_fits may turn (first ⨾ more) = fits may first && turn_fits may turn more
turn_fits may turn (when test first other) = turn_fits may turn first && turn_fits may turn other
turn_fits may turn (foster r) = may fostering && fits may r

abbrev pub reply_fits : (Act → Bool) → (Act → Bool) → (Act → Bool) → Reply → Bool
reply_fits may turn last (ends r) = last_fits may last r
reply_fits may turn last (again r) = turn_fits may turn r
reply_fits may turn last (again_after a) = turn a
reply_fits may turn last (either test first other) = reply_fits may turn last first && reply_fits may turn last other
reply_fits may turn last body_ended = turn (to_mode AfterBody)
reply_fits may turn last template_ended = true

abbrev pub any_act : Act → Bool
any_act a = true
