-- The mode "in column group" (HTML Standard, 13.2.6.4.12).
use Rattle.std.specs.Prelude.{Bool, if◌then◌else◌}
use Rattle.htmd_html5_state.specs.Names.{NameValue, known}
use Rattle.htmd_html5.specs.Tokens.{doctype, comment, StartTagValue, TokenValue, start_tag, end_tag, run, end_of_file}
use Rattle.htmd_html5_state.specs.OpenElements.{current_is, pop}
use Rattle.htmd_html5_state.specs.State.{StateValue, on_stack}
use Rattle.htmd_html5_state.specs.Insertion.{insert_text, insert_comment}
use Rattle.htmd_html5_state.specs.declared.modes.InsertionMode.TheVariants.{InTable}
use Rattle.htmd_html5_state.specs.declared.sets.NameSet.TheVariants.{Only}
use Rattle.htmd_html5.specs.declared.tokens.RunKind.TheVariants.{White}
use Rattle.htmd_html5.specs.Outcomes.{Outcome, outcome, done}
use Rattle.htmd_html5.specs.SharedRules.{with_mode, insert_void_tag, add_to_root, end_template, insert_head_element}
use Rattle.htmd_html5.specs.InBody.{end_of_file_in_body}
use Rattle.htmd_html5_state.specs.declared.names.TagName.TheVariants as tags

abbrev pub has_columns : StateValue → Bool
has_columns s = current_is (Only tags.ColGroup) s.stack

abbrev pub close_columns : StateValue → StateValue
close_columns s = with_mode InTable (on_stack pop s)

abbrev pub end_columns : StateValue → StateValue
end_columns s = if has_columns s then close_columns s else s

-- what can't stand in a column group ends it first
abbrev pub leave_columns : StateValue → Outcome
leave_columns s = outcome (end_columns s) (has_columns s)

abbrev pub start_in_columns : NameValue → StartTagValue → StateValue → Outcome
start_in_columns (known tags.Html) tag s = done (add_to_root tag s)
start_in_columns (known tags.Col) tag s = done (insert_void_tag tag s)
start_in_columns (known tags.Template) tag s = done (insert_head_element tag.name tag s)
start_in_columns _ tag s = leave_columns s

abbrev pub end_in_columns : NameValue → StateValue → Outcome
end_in_columns (known tags.ColGroup) s = done (end_columns s)
end_in_columns (known tags.Col) s = done s
end_in_columns (known tags.Template) s = done (end_template s)
end_in_columns _ s = leave_columns s

abbrev pub in_column_group : TokenValue → StateValue → Outcome
in_column_group (run White text) s = done (insert_text text s)
in_column_group (run kind text) s = leave_columns s
in_column_group (comment text) s = done (insert_comment text s)
in_column_group (doctype quirks) s = done s
in_column_group (start_tag tag) s = start_in_columns tag.name tag s
in_column_group (end_tag name) s = end_in_columns name s
in_column_group end_of_file s = end_of_file_in_body s
