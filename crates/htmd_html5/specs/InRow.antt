-- The mode "in row" (HTML Standard, 13.2.6.4.14).
use Rattle.std.specs.Prelude.{true, false, Bool, if◌then◌else◌}
use Rattle.htmd_html5_state.specs.Names.{NameValue, known}
use Rattle.htmd_html5.specs.Tokens.{StartTagValue, TokenValue, start_tag, end_tag}
use Rattle.htmd_html5_state.specs.OpenElements.{is_in_scope, pop, clear_to}
use Rattle.htmd_html5_state.specs.State.{StateValue, on_stack}
use Rattle.htmd_html5_state.specs.Formatting.{push_marker}
use Rattle.htmd_html5_state.specs.declared.modes.InsertionMode.TheVariants.{InTableBody, InCell}
use Rattle.htmd_html5_state.specs.declared.names.TagName.{TagName}
use Rattle.htmd_html5_state.specs.declared.sets.NameSet.TheVariants.{Only, TableRowContext}
use Rattle.htmd_html5_state.specs.declared.sets.Scope.TheVariants.{Table as TableScope}
use Rattle.htmd_html5.specs.Outcomes.{Outcome, outcome, done}
use Rattle.htmd_html5.specs.SharedRules.{with_mode, insert_tag}
use Rattle.htmd_html5.specs.InTable.{start_in_table, end_in_table, in_table}
use Rattle.htmd_html5_state.specs.declared.names.TagName.TheVariants as tags

-- back to the row
abbrev pub to_row : StateValue → StateValue
to_row s = on_stack (clear_to TableRowContext) s

abbrev pub start_cell : StartTagValue → StateValue → StateValue
start_cell tag s = push_marker (with_mode InCell (insert_tag tag (to_row s)))

abbrev pub has_row : StateValue → Bool
has_row s = is_in_scope (Only tags.Tr) TableScope s.stack

abbrev pub close_row : StateValue → StateValue
close_row s = with_mode InTableBody (on_stack pop (to_row s))

abbrev pub end_row : StateValue → StateValue
end_row s = if has_row s then close_row s else s

-- what can't stand in a row ends it first
abbrev pub leave_row : StateValue → Outcome
leave_row s = outcome (end_row s) (has_row s)

abbrev pub leave_row_of : TagName → StateValue → Outcome
leave_row_of tag s = if is_in_scope (Only tag) TableScope s.stack then leave_row s else done s

abbrev pub start_in_row : NameValue → StartTagValue → StateValue → Outcome
start_in_row (known tags.Td) tag s = done (start_cell tag s)
start_in_row (known tags.Th) tag s = done (start_cell tag s)
start_in_row (known tags.Caption) tag s = leave_row s
start_in_row (known tags.Col) tag s = leave_row s
start_in_row (known tags.ColGroup) tag s = leave_row s
start_in_row (known tags.TBody) tag s = leave_row s
start_in_row (known tags.TFoot) tag s = leave_row s
start_in_row (known tags.THead) tag s = leave_row s
start_in_row (known tags.Tr) tag s = leave_row s
start_in_row name tag s = start_in_table name tag s

-- the end tags that do nothing
abbrev pub ends_nothing : TagName → Bool
ends_nothing tags.Body = true
ends_nothing tags.Caption = true
ends_nothing tags.Col = true
ends_nothing tags.ColGroup = true
ends_nothing tags.Html = true
ends_nothing tags.Td = true
ends_nothing tags.Th = true
ends_nothing tag = false

abbrev pub end_in_row : NameValue → StateValue → Outcome
end_in_row (known tags.Tr) s = done (end_row s)
end_in_row (known tags.Table) s = leave_row s
end_in_row (known tags.TBody) s = leave_row_of tags.TBody s
end_in_row (known tags.TFoot) s = leave_row_of tags.TFoot s
end_in_row (known tags.THead) s = leave_row_of tags.THead s
end_in_row (known tags.Body) s = done s
end_in_row (known tags.Caption) s = done s
end_in_row (known tags.Col) s = done s
end_in_row (known tags.ColGroup) s = done s
end_in_row (known tags.Html) s = done s
end_in_row (known tags.Td) s = done s
end_in_row (known tags.Th) s = done s
end_in_row name s = done (end_in_table name s)

abbrev pub in_row : TokenValue → StateValue → Outcome
in_row (start_tag tag) s = start_in_row tag.name tag s
in_row (end_tag name) s = end_in_row name s
in_row token s = in_table token s
