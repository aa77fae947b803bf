-- The mode "in table body" (HTML Standard, 13.2.6.4.13).
use Rattle.std.specs.Prelude.{Bool, true, false, if◌then◌else◌, List, []}
use Rattle.htmd_lexical.specs.AttributePairs.{AttributePair}
use Rattle.htmd_html5_state.specs.Names.{NameValue, known}
use Rattle.htmd_html5.specs.Tokens.{StartTagValue, TokenValue, start_tag, end_tag}
use Rattle.htmd_html5_state.specs.OpenElements.{is_in_scope, pop, clear_to}
use Rattle.htmd_html5_state.specs.State.{StateValue, on_stack}
use Rattle.htmd_html5_state.specs.Insertion.{insert_element}
use Rattle.htmd_html5_state.specs.declared.modes.InsertionMode.TheVariants.{InTable, InRow}
use Rattle.htmd_html5_state.specs.declared.sets.NameSet.TheVariants.{Only, TableSections, TableBodyContext}
use Rattle.htmd_html5_state.specs.declared.sets.NameSet.{NameSet}
use Rattle.htmd_html5_state.specs.declared.sets.Scope.TheVariants.{Table as TableScope}
use Rattle.htmd_html5.specs.Outcomes.{Outcome, outcome, done, again}
use Rattle.htmd_html5.specs.SharedRules.{with_mode}
use Rattle.htmd_html5.specs.InTable.{start_in_table, end_in_table, in_table}
use Rattle.htmd_html5_state.specs.declared.names.TagName.{TagName}
use Rattle.htmd_html5_state.specs.declared.names.TagName.TheVariants as tags

-- back to the section of the table
abbrev pub to_section : StateValue → StateValue
to_section s = on_stack (clear_to TableBodyContext) s

abbrev pub start_row : NameValue → List AttributePair → StateValue → StateValue
start_row name attributes s = with_mode InRow (insert_element name attributes (to_section s))

abbrev pub close_section : StateValue → StateValue
close_section s = with_mode InTable (on_stack pop (to_section s))

abbrev pub imply_row : StateValue → StateValue
imply_row s = start_row (known tags.Tr) [] s

-- if one of these is in scope
abbrev pub end_section : NameSet → StateValue → StateValue
end_section wanted s = if is_in_scope wanted TableScope s.stack then close_section s else s

-- what can't stand in a section ends it first
abbrev pub leave_section : StateValue → Outcome
leave_section s = outcome (end_section TableSections s) (is_in_scope TableSections TableScope s.stack)

abbrev pub start_in_section : NameValue → StartTagValue → StateValue → Outcome
start_in_section (known tags.Tr) tag s = done (start_row tag.name tag.attributes s)
start_in_section (known tags.Td) tag s = again (imply_row s)
start_in_section (known tags.Th) tag s = again (imply_row s)
start_in_section (known tags.Caption) tag s = leave_section s
start_in_section (known tags.Col) tag s = leave_section s
start_in_section (known tags.ColGroup) tag s = leave_section s
start_in_section (known tags.TBody) tag s = leave_section s
start_in_section (known tags.TFoot) tag s = leave_section s
start_in_section (known tags.THead) tag s = leave_section s
start_in_section name tag s = start_in_table name tag s

-- the end tags that do nothing
abbrev pub ends_nothing : TagName → Bool
ends_nothing tags.Body = true
ends_nothing tags.Caption = true
ends_nothing tags.Col = true
ends_nothing tags.ColGroup = true
ends_nothing tags.Html = true
ends_nothing tags.Td = true
ends_nothing tags.Th = true
ends_nothing tags.Tr = true
ends_nothing tag = false

abbrev pub end_in_section : NameValue → StateValue → Outcome
end_in_section (known tags.TBody) s = done (end_section (Only tags.TBody) s)
end_in_section (known tags.TFoot) s = done (end_section (Only tags.TFoot) s)
end_in_section (known tags.THead) s = done (end_section (Only tags.THead) s)
end_in_section (known tags.Table) s = leave_section s
end_in_section (known tags.Body) s = done s
end_in_section (known tags.Caption) s = done s
end_in_section (known tags.Col) s = done s
end_in_section (known tags.ColGroup) s = done s
end_in_section (known tags.Html) s = done s
end_in_section (known tags.Td) s = done s
end_in_section (known tags.Th) s = done s
end_in_section (known tags.Tr) s = done s
end_in_section name s = done (end_in_table name s)

abbrev pub in_table_body : TokenValue → StateValue → Outcome
in_table_body (start_tag tag) s = start_in_section tag.name tag s
in_table_body (end_tag name) s = end_in_section name s
in_table_body token s = in_table token s
