-- The modes "in select" and "in select in table", as the HTML Standard had them until 2025 (13.2.6.4.16 and
-- 13.2.6.4.17 then).
use Rattle.std.specs.Prelude.{ℕ, Bool, true, false, ◌&&◌, if◌then◌else◌, List}
use Rattle.htmd_html5_state.specs.Names.{NameValue, known}
use Rattle.htmd_html5.specs.Tokens.{doctype, comment, StartTagValue, TokenValue, start_tag, end_tag, run, end_of_file}
use Rattle.htmd_html5_state.specs.OpenElements.{OpenValue, current_is, is_in_scope, pop, pop_until}
use Rattle.htmd_html5_state.specs.State.{StateValue, on_stack}
use Rattle.htmd_html5_state.specs.Insertion.{insert_text, insert_comment}
use Rattle.htmd_html5_state.specs.Resetting.{reset_insertion_mode}
use Rattle.htmd_html5_state.specs.declared.names.TagName.{TagName}
use Rattle.htmd_html5_state.specs.declared.sets.NameSet.TheVariants.{Only}
use Rattle.htmd_html5_state.specs.declared.sets.Scope.TheVariants.{Table as TableScope, Select as SelectScope}
use Rattle.htmd_html5.specs.declared.tokens.RunKind.{RunKind}
use Rattle.htmd_html5.specs.declared.tokens.RunKind.TheVariants.{Nulls}
use Rattle.htmd_html5.specs.Outcomes.{Outcome, outcome, done, again}
use Rattle.htmd_html5.specs.SharedRules.{insert_tag, insert_void_tag, add_to_root, end_template, insert_head_element}
use Rattle.htmd_html5.specs.BodyStarts.{close_option}
use Rattle.htmd_html5.specs.InBody.{end_of_file_in_body}
use Rattle.htmd_html5_state.specs.declared.names.TagName.TheVariants as tags

abbrev pub close_group : List OpenValue → List OpenValue
close_group stack = if current_is (Only tags.OptGroup) stack then pop stack else stack

abbrev pub start_option : StartTagValue → StateValue → StateValue
start_option tag s = insert_tag tag (on_stack close_option s)

abbrev pub start_group : StartTagValue → StateValue → StateValue
start_group tag s = insert_tag tag (on_stack (λ stack. close_group (close_option stack)) s)

-- an `hr` separates options, as in browsers since 2023
abbrev pub start_separator : StartTagValue → StateValue → StateValue
start_separator tag s = insert_void_tag tag (on_stack (λ stack. close_group (close_option stack)) s)

abbrev pub close_option_in_group : List OpenValue → List OpenValue
close_option_in_group stack =
    if current_is (Only tags.OptionTag) stack && current_is (Only tags.OptGroup) (pop stack) then pop stack else stack

abbrev pub end_group : StateValue → StateValue
end_group s = on_stack (λ stack. close_group (close_option_in_group stack)) s

abbrev pub close_select : StateValue → StateValue
close_select s = reset_insertion_mode (on_stack (pop_until (Only tags.Select)) s)

abbrev pub has_select : StateValue → Bool
has_select s = is_in_scope (Only tags.Select) SelectScope s.stack

abbrev pub end_select : StateValue → StateValue
end_select s = if has_select s then close_select s else s

-- what can't stand in a `select` ends it first
abbrev pub leave_select : StateValue → Outcome
leave_select s = outcome (end_select s) (has_select s)

abbrev pub start_in_select : NameValue → StartTagValue → StateValue → Outcome
start_in_select (known tags.Html) tag s = done (add_to_root tag s)
start_in_select (known tags.OptionTag) tag s = done (start_option tag s)
start_in_select (known tags.OptGroup) tag s = done (start_group tag s)
start_in_select (known tags.Hr) tag s = done (start_separator tag s)
start_in_select (known tags.Select) tag s = done (end_select s)
start_in_select (known tags.Input) tag s = leave_select s
start_in_select (known tags.KeyGen) tag s = leave_select s
start_in_select (known tags.TextArea) tag s = leave_select s
start_in_select (known tags.Script) tag s = done (insert_head_element tag.name tag s)
start_in_select (known tags.Template) tag s = done (insert_head_element tag.name tag s)
start_in_select _ tag s = done s

abbrev pub end_in_select : NameValue → StateValue → StateValue
end_in_select (known tags.OptGroup) s = end_group s
end_in_select (known tags.OptionTag) s = on_stack close_option s
end_in_select (known tags.Select) s = end_select s
end_in_select (known tags.Template) s = end_template s
end_in_select _ s = s

abbrev pub run_in_select : RunKind → List ℕ → StateValue → StateValue
run_in_select Nulls text s = s
run_in_select kind text s = insert_text text s

abbrev pub in_select : TokenValue → StateValue → Outcome
in_select (run kind text) s = done (run_in_select kind text s)
in_select (comment text) s = done (insert_comment text s)
in_select (doctype quirks) s = done s
in_select (start_tag tag) s = start_in_select tag.name tag s
in_select (end_tag name) s = done (end_in_select name s)
in_select end_of_file s = end_of_file_in_body s

-- ---- in a table, whose parts end a `select`

-- a part of a table, whose tags leave a `select`
abbrev pub is_table_part : TagName → Bool
is_table_part tags.Caption = true
is_table_part tags.Table = true
is_table_part tags.TBody = true
is_table_part tags.Td = true
is_table_part tags.TFoot = true
is_table_part tags.Th = true
is_table_part tags.THead = true
is_table_part tags.Tr = true
is_table_part tag = false

abbrev pub start_in_select_in_table : NameValue → StartTagValue → StateValue → Outcome
start_in_select_in_table (known tags.Caption) tag s = again (close_select s)
start_in_select_in_table (known tags.Table) tag s = again (close_select s)
start_in_select_in_table (known tags.TBody) tag s = again (close_select s)
start_in_select_in_table (known tags.Td) tag s = again (close_select s)
start_in_select_in_table (known tags.TFoot) tag s = again (close_select s)
start_in_select_in_table (known tags.Th) tag s = again (close_select s)
start_in_select_in_table (known tags.THead) tag s = again (close_select s)
start_in_select_in_table (known tags.Tr) tag s = again (close_select s)
start_in_select_in_table name tag s = start_in_select name tag s

abbrev pub leave_select_in : TagName → StateValue → Outcome
leave_select_in tag s = if is_in_scope (Only tag) TableScope s.stack then again (close_select s) else done s

abbrev pub end_in_select_in_table : NameValue → StateValue → Outcome
end_in_select_in_table (known tags.Caption) s = leave_select_in tags.Caption s
end_in_select_in_table (known tags.Table) s = leave_select_in tags.Table s
end_in_select_in_table (known tags.TBody) s = leave_select_in tags.TBody s
end_in_select_in_table (known tags.Td) s = leave_select_in tags.Td s
end_in_select_in_table (known tags.TFoot) s = leave_select_in tags.TFoot s
end_in_select_in_table (known tags.Th) s = leave_select_in tags.Th s
end_in_select_in_table (known tags.THead) s = leave_select_in tags.THead s
end_in_select_in_table (known tags.Tr) s = leave_select_in tags.Tr s
end_in_select_in_table name s = done (end_in_select name s)

abbrev pub in_select_in_table : TokenValue → StateValue → Outcome
in_select_in_table (start_tag tag) s = start_in_select_in_table tag.name tag s
in_select_in_table (end_tag name) s = end_in_select_in_table name s
in_select_in_table token s = in_select token s
