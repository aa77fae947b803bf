-- The modes "in table" and "in table text" (HTML Standard, 13.2.6.4.9 and 13.2.6.4.10).
use Rattle.std.specs.Prelude.{ℕ, Bool, true, false, not, ◌||◌, if◌then◌else◌, List, [], length, suc, zero, filter}
use Rattle.std.specs.Prelude.{is_some}
use Rattle.std.specs.List.{list_all}
use Rattle.htmd_lexical.specs.CharacterClasses.{is_empty}
use Rattle.htmd_lexical.specs.AttributePairs.{AttributePair}
use Rattle.htmd_lexical.specs.WhiteSpace.{is_ascii_white_space}
use Rattle.htmd_html5_state.specs.Names.{NameValue, known}
use Rattle.htmd_html5.specs.Tokens.{doctype, comment, StartTagValue, TokenValue, start_tag, end_tag, run, end_of_file}
use Rattle.htmd_html5_state.specs.OpenElements.{is_in_scope, pop, pop_until, clear_to}
use Rattle.htmd_html5_state.specs.State.{StateValue, on_stack}
use Rattle.htmd_html5_state.specs.Insertion.{insert_text, insert_comment, insert_element}
use Rattle.htmd_html5_state.specs.Formatting.{push_marker}
use Rattle.htmd_html5_state.specs.Resetting.{reset_insertion_mode}
use Rattle.htmd_html5_state.specs.declared.modes.InsertionMode.TheVariants.{InCaption, InColumnGroup, InTableBody}
use Rattle.htmd_html5_state.specs.declared.sets.NameSet.TheVariants.{Only, TableContext}
use Rattle.htmd_html5_state.specs.declared.sets.Scope.TheVariants.{Table as TableScope}
use Rattle.htmd_html5.specs.declared.tokens.RunKind.{RunKind}
use Rattle.htmd_html5.specs.declared.tokens.RunKind.TheVariants.{Nulls}
use Rattle.htmd_html5.specs.Runs.{is_null, first_kind, first_run, after_first_run}
use Rattle.htmd_html5.specs.Outcomes.{Outcome, outcome, done, again}
use Rattle.htmd_html5.specs.SharedRules.{with_mode, insert_tag, insert_void_tag, end_template, insert_head_element}
use Rattle.htmd_html5.specs.BodyStarts.{is_in_template, with_form, is_hidden, start_in_body}
use Rattle.htmd_html5.specs.BodyEnds.{end_in_body}
use Rattle.htmd_html5.specs.InBody.{end_of_file_in_body, run_in_body}
use Rattle.htmd_html5_state.specs.declared.names.TagName.{TagName}
use Rattle.htmd_html5_state.specs.declared.names.TagName.TheVariants as tags

-- ---- text, which is taken all at once

abbrev pub without_nulls : List ℕ → List ℕ
without_nulls text = filter (λ b. not (is_null b)) text

-- what is kept of a run
abbrev pub kept_of : RunKind → List ℕ → List ℕ
kept_of Nulls text = []
kept_of _ text = text

abbrev pub fostered : (StateValue → StateValue) → StateValue → StateValue
fostered step s = record (step (record s { foster_parenting = true })) { foster_parenting = false }

-- text that isn't all white space goes before the table, run by run
abbrev pub foster_runs : ℕ → List ℕ → StateValue → StateValue
foster_runs zero text s = s
foster_runs (suc k) text s =
    if is_empty text then s
    else foster_runs k (after_first_run text) (fostered (run_in_body (first_kind text) (first_run text)) s)

abbrev pub put_table_text : List ℕ → StateValue → StateValue
put_table_text text s =
    if is_empty text then s
    else if list_all is_ascii_white_space text then insert_text text s
    else foster_runs (length text) text s

abbrev pub table_text : List ℕ → StateValue → StateValue
table_text text s = put_table_text (without_nulls text) s

-- ---- parts of the table

-- back to the table
abbrev pub to_table : StateValue → StateValue
to_table s = on_stack (clear_to TableContext) s

abbrev pub start_caption : StartTagValue → StateValue → StateValue
start_caption tag s = with_mode InCaption (insert_tag tag (push_marker (to_table s)))

abbrev pub start_columns : NameValue → List AttributePair → StateValue → StateValue
start_columns name attributes s = with_mode InColumnGroup (insert_element name attributes (to_table s))

abbrev pub start_section : NameValue → List AttributePair → StateValue → StateValue
start_section name attributes s = with_mode InTableBody (insert_element name attributes (to_table s))

abbrev pub imply_columns : StateValue → StateValue
imply_columns s = start_columns (known tags.ColGroup) [] s

abbrev pub imply_section : StateValue → StateValue
imply_section s = start_section (known tags.TBody) [] s

abbrev pub close_table : StateValue → StateValue
close_table s = reset_insertion_mode (on_stack (pop_until (Only tags.Table)) s)

abbrev pub has_table : StateValue → Bool
has_table s = is_in_scope (Only tags.Table) TableScope s.stack

abbrev pub end_table : StateValue → StateValue
end_table s = if has_table s then close_table s else s

-- a table in a table ends that first
abbrev pub start_another_table : StateValue → Outcome
start_another_table s = outcome (end_table s) (has_table s)

-- ---- what else comes there

abbrev pub start_table_input : StartTagValue → StateValue → StateValue
start_table_input tag s = if is_hidden tag then insert_void_tag tag s else fostered (start_in_body tag) s

abbrev pub with_empty_form : StartTagValue → StateValue → StateValue
with_empty_form tag s = on_stack pop (with_form (insert_tag tag s))

abbrev pub start_table_form : StartTagValue → StateValue → StateValue
start_table_form tag s = if is_some s.form || is_in_template s then s else with_empty_form tag s

abbrev pub foster_end : NameValue → StateValue → StateValue
foster_end name s = fostered (λ inner. (end_in_body name inner).state) s

-- ---- the mode

-- what is processed once
abbrev pub start_part : NameValue → StartTagValue → StateValue → StateValue
start_part (known tags.Caption) tag s = start_caption tag s
start_part (known tags.ColGroup) tag s = start_columns tag.name tag.attributes s
start_part (known tags.TBody) tag s = start_section tag.name tag.attributes s
start_part (known tags.TFoot) tag s = start_section tag.name tag.attributes s
start_part (known tags.THead) tag s = start_section tag.name tag.attributes s
start_part (known tags.Style) tag s = insert_head_element tag.name tag s
start_part (known tags.Script) tag s = insert_head_element tag.name tag s
start_part (known tags.Template) tag s = insert_head_element tag.name tag s
start_part (known tags.Input) tag s = start_table_input tag s
start_part (known tags.Form) tag s = start_table_form tag s
start_part _ tag s = fostered (start_in_body tag) s

abbrev pub start_in_table : NameValue → StartTagValue → StateValue → Outcome
start_in_table (known tags.Col) tag s = again (imply_columns s)
start_in_table (known tags.Td) tag s = again (imply_section s)
start_in_table (known tags.Th) tag s = again (imply_section s)
start_in_table (known tags.Tr) tag s = again (imply_section s)
start_in_table (known tags.Table) tag s = start_another_table s
start_in_table name tag s = done (start_part name tag s)

-- the end tags that do nothing in a table
abbrev pub ends_nothing : TagName → Bool
ends_nothing tags.Body = true
ends_nothing tags.Caption = true
ends_nothing tags.Col = true
ends_nothing tags.ColGroup = true
ends_nothing tags.Html = true
ends_nothing tags.TBody = true
ends_nothing tags.Td = true
ends_nothing tags.TFoot = true
ends_nothing tags.Th = true
ends_nothing tags.THead = true
ends_nothing tags.Tr = true
ends_nothing tag = false

abbrev pub end_in_table : NameValue → StateValue → StateValue
end_in_table (known tags.Table) s = end_table s
end_in_table (known tags.Body) s = s
end_in_table (known tags.Caption) s = s
end_in_table (known tags.Col) s = s
end_in_table (known tags.ColGroup) s = s
end_in_table (known tags.Html) s = s
end_in_table (known tags.TBody) s = s
end_in_table (known tags.Td) s = s
end_in_table (known tags.TFoot) s = s
end_in_table (known tags.Th) s = s
end_in_table (known tags.THead) s = s
end_in_table (known tags.Tr) s = s
end_in_table (known tags.Template) s = end_template s
end_in_table name s = foster_end name s

-- text in the table itself doesn't come here
abbrev pub in_table : TokenValue → StateValue → Outcome
in_table (run kind text) s = done (fostered (run_in_body kind text) s)
in_table (comment text) s = done (insert_comment text s)
in_table (doctype quirks) s = done s
in_table (start_tag tag) s = start_in_table tag.name tag s
in_table (end_tag name) s = done (end_in_table name s)
in_table end_of_file s = end_of_file_in_body s
