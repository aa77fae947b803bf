-- The mode "in cell" (HTML Standard, 13.2.6.4.15).
use Rattle.std.specs.Prelude.{Bool, true, false, if◌then◌else◌}
use Rattle.htmd_html5_state.specs.Names.{NameValue, known}
use Rattle.htmd_html5.specs.Tokens.{StartTagValue, TokenValue, start_tag, end_tag}
use Rattle.htmd_html5_state.specs.OpenElements.{is_in_scope, pop_until}
use Rattle.htmd_html5_state.specs.State.{StateValue, on_stack}
use Rattle.htmd_html5_state.specs.Formatting.{clear_to_marker}
use Rattle.htmd_html5_state.specs.declared.modes.InsertionMode.TheVariants.{InRow}
use Rattle.htmd_html5_state.specs.declared.names.TagName.{TagName}
use Rattle.htmd_html5_state.specs.declared.sets.NameSet.TheVariants.{Only, Cells}
use Rattle.htmd_html5_state.specs.declared.sets.NameSet.{NameSet}
use Rattle.htmd_html5_state.specs.declared.sets.Scope.TheVariants.{Table as TableScope}
use Rattle.htmd_html5.specs.Outcomes.{Outcome, done, again}
use Rattle.htmd_html5.specs.SharedRules.{with_mode}
use Rattle.htmd_html5.specs.BodyStarts.{start_in_body}
use Rattle.htmd_html5.specs.BodyEnds.{end_in_body}
use Rattle.htmd_html5.specs.InBody.{in_body}
use Rattle.htmd_html5_state.specs.declared.names.TagName.TheVariants as tags

abbrev pub close_cell : NameSet → StateValue → StateValue
close_cell cells s = with_mode InRow (clear_to_marker (on_stack (pop_until cells) s))

abbrev pub end_cell : TagName → StateValue → StateValue
end_cell tag s = if is_in_scope (Only tag) TableScope s.stack then close_cell (Only tag) s else s

-- what can't stand in a cell ends it first, if these are in scope
abbrev pub leave_cell : NameSet → StateValue → Outcome
leave_cell wanted s = if is_in_scope wanted TableScope s.stack then again (close_cell Cells s) else done s

-- what can't stand in a cell or a caption
abbrev pub leaves_cell : TagName → Bool
leaves_cell tags.Caption = true
leaves_cell tags.Col = true
leaves_cell tags.ColGroup = true
leaves_cell tags.TBody = true
leaves_cell tags.Td = true
leaves_cell tags.TFoot = true
leaves_cell tags.Th = true
leaves_cell tags.THead = true
leaves_cell tags.Tr = true
leaves_cell tag = false

abbrev pub start_in_cell : NameValue → StartTagValue → StateValue → Outcome
start_in_cell (known tags.Caption) tag s = leave_cell Cells s
start_in_cell (known tags.Col) tag s = leave_cell Cells s
start_in_cell (known tags.ColGroup) tag s = leave_cell Cells s
start_in_cell (known tags.TBody) tag s = leave_cell Cells s
start_in_cell (known tags.Td) tag s = leave_cell Cells s
start_in_cell (known tags.TFoot) tag s = leave_cell Cells s
start_in_cell (known tags.Th) tag s = leave_cell Cells s
start_in_cell (known tags.THead) tag s = leave_cell Cells s
start_in_cell (known tags.Tr) tag s = leave_cell Cells s
start_in_cell _ tag s = done (start_in_body tag s)

abbrev pub end_in_cell : NameValue → StateValue → Outcome
end_in_cell (known tags.Td) s = done (end_cell tags.Td s)
end_in_cell (known tags.Th) s = done (end_cell tags.Th s)
end_in_cell (known tags.Table) s = leave_cell (Only tags.Table) s
end_in_cell (known tags.TBody) s = leave_cell (Only tags.TBody) s
end_in_cell (known tags.TFoot) s = leave_cell (Only tags.TFoot) s
end_in_cell (known tags.THead) s = leave_cell (Only tags.THead) s
end_in_cell (known tags.Tr) s = leave_cell (Only tags.Tr) s
end_in_cell (known tags.Body) s = done s
end_in_cell (known tags.Caption) s = done s
end_in_cell (known tags.Col) s = done s
end_in_cell (known tags.ColGroup) s = done s
end_in_cell (known tags.Html) s = done s
end_in_cell name s = end_in_body name s

abbrev pub in_cell : TokenValue → StateValue → Outcome
in_cell (start_tag tag) s = start_in_cell tag.name tag s
in_cell (end_tag name) s = end_in_cell name s
in_cell token s = in_body token s
