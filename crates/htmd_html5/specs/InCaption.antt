-- The mode "in caption" (HTML Standard, 13.2.6.4.11).
use Rattle.std.specs.Prelude.{true, false, Bool, if◌then◌else◌}
use Rattle.htmd_html5_state.specs.Names.{NameValue, known}
use Rattle.htmd_html5.specs.Tokens.{StartTagValue, TokenValue, start_tag, end_tag}
use Rattle.htmd_html5_state.specs.OpenElements.{is_in_scope, pop_until}
use Rattle.htmd_html5_state.specs.State.{StateValue, on_stack}
use Rattle.htmd_html5_state.specs.Formatting.{clear_to_marker}
use Rattle.htmd_html5_state.specs.declared.modes.InsertionMode.TheVariants.{InTable}
use Rattle.htmd_html5_state.specs.declared.sets.NameSet.TheVariants.{Only}
use Rattle.htmd_html5_state.specs.declared.sets.Scope.TheVariants.{Table as TableScope}
use Rattle.htmd_html5.specs.Outcomes.{Outcome, outcome, done}
use Rattle.htmd_html5.specs.SharedRules.{with_mode}
use Rattle.htmd_html5.specs.BodyStarts.{start_in_body}
use Rattle.htmd_html5.specs.BodyEnds.{end_in_body}
use Rattle.htmd_html5.specs.InBody.{in_body}
use Rattle.htmd_html5_state.specs.declared.names.TagName.{TagName}
use Rattle.htmd_html5_state.specs.declared.names.TagName.TheVariants as tags

abbrev pub has_caption : StateValue → Bool
has_caption s = is_in_scope (Only tags.Caption) TableScope s.stack

abbrev pub close_caption : StateValue → StateValue
close_caption s = with_mode InTable (clear_to_marker (on_stack (pop_until (Only tags.Caption)) s))

abbrev pub end_caption : StateValue → StateValue
end_caption s = if has_caption s then close_caption s else s

-- what can't stand in a caption ends it first
abbrev pub leave_caption : StateValue → Outcome
leave_caption s = outcome (end_caption s) (has_caption s)

abbrev pub start_in_caption : NameValue → StartTagValue → StateValue → Outcome
start_in_caption (known tags.Caption) tag s = leave_caption s
start_in_caption (known tags.Col) tag s = leave_caption s
start_in_caption (known tags.ColGroup) tag s = leave_caption s
start_in_caption (known tags.TBody) tag s = leave_caption s
start_in_caption (known tags.Td) tag s = leave_caption s
start_in_caption (known tags.TFoot) tag s = leave_caption s
start_in_caption (known tags.Th) tag s = leave_caption s
start_in_caption (known tags.THead) tag s = leave_caption s
start_in_caption (known tags.Tr) tag s = leave_caption s
start_in_caption _ tag s = done (start_in_body tag s)

-- the end tags that do nothing
abbrev pub ends_nothing : TagName → Bool
ends_nothing tags.Body = true
ends_nothing tags.Col = true
ends_nothing tags.ColGroup = true
ends_nothing tags.Html = true
ends_nothing tags.TBody = true
ends_nothing tags.Td = true
ends_nothing tags.TFoot = true
ends_nothing tags.Th = true
ends_nothing tags.THead = true
ends_nothing tags.Tr = true
ends_nothing tag = false

abbrev pub end_in_caption : NameValue → StateValue → Outcome
end_in_caption (known tags.Caption) s = done (end_caption s)
end_in_caption (known tags.Table) s = leave_caption s
end_in_caption (known tags.Body) s = done s
end_in_caption (known tags.Col) s = done s
end_in_caption (known tags.ColGroup) s = done s
end_in_caption (known tags.Html) s = done s
end_in_caption (known tags.TBody) s = done s
end_in_caption (known tags.Td) s = done s
end_in_caption (known tags.TFoot) s = done s
end_in_caption (known tags.Th) s = done s
end_in_caption (known tags.THead) s = done s
end_in_caption (known tags.Tr) s = done s
end_in_caption name s = end_in_body name s

abbrev pub in_caption : TokenValue → StateValue → Outcome
in_caption (start_tag tag) s = start_in_caption tag.name tag s
in_caption (end_tag name) s = end_in_caption name s
in_caption token s = in_body token s
