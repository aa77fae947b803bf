-- The mode "in template" (HTML Standard, 13.2.6.4.18).
use Rattle.htmd_html5_state.specs.Names.{NameValue, known}
use Rattle.htmd_html5.specs.Tokens.{StartTagValue, TokenValue, start_tag, end_tag, end_of_file}
use Rattle.htmd_html5_state.specs.State.{StateValue}
use Rattle.htmd_html5_state.specs.Resetting.{push_template_mode, pop_template_mode}
use Rattle.htmd_html5_state.specs.declared.modes.InsertionMode.TheVariants.{InBody, InTable, InColumnGroup}
use Rattle.htmd_html5_state.specs.declared.modes.InsertionMode.TheVariants.{InTableBody, InRow}
use Rattle.htmd_html5_state.specs.declared.modes.InsertionMode.{InsertionMode}
use Rattle.htmd_html5.specs.Outcomes.{Outcome, done, again}
use Rattle.htmd_html5.specs.SharedRules.{with_mode, end_template, insert_head_element}
use Rattle.htmd_html5.specs.InBody.{end_of_file_in_template, in_body}
use Rattle.htmd_html5_state.specs.declared.names.TagName.TheVariants as tags

-- the mode for what is in the template
abbrev pub with_template_mode : InsertionMode → StateValue → StateValue
with_template_mode mode s = push_template_mode mode (pop_template_mode (with_mode mode s))

abbrev pub mode_of_content : NameValue → InsertionMode
mode_of_content (known tags.Caption) = InTable
mode_of_content (known tags.ColGroup) = InTable
mode_of_content (known tags.TBody) = InTable
mode_of_content (known tags.TFoot) = InTable
mode_of_content (known tags.THead) = InTable
mode_of_content (known tags.Col) = InColumnGroup
mode_of_content (known tags.Tr) = InTableBody
mode_of_content (known tags.Td) = InRow
mode_of_content (known tags.Th) = InRow
mode_of_content _ = InBody

abbrev pub start_in_template : NameValue → StartTagValue → StateValue → Outcome
start_in_template (known tags.Base) tag s = done (insert_head_element tag.name tag s)
start_in_template (known tags.BaseFont) tag s = done (insert_head_element tag.name tag s)
start_in_template (known tags.BgSound) tag s = done (insert_head_element tag.name tag s)
start_in_template (known tags.Link) tag s = done (insert_head_element tag.name tag s)
start_in_template (known tags.Meta) tag s = done (insert_head_element tag.name tag s)
start_in_template (known tags.NoFrames) tag s = done (insert_head_element tag.name tag s)
start_in_template (known tags.Script) tag s = done (insert_head_element tag.name tag s)
start_in_template (known tags.Style) tag s = done (insert_head_element tag.name tag s)
start_in_template (known tags.Template) tag s = done (insert_head_element tag.name tag s)
start_in_template (known tags.Title) tag s = done (insert_head_element tag.name tag s)
start_in_template name tag s = again (with_template_mode (mode_of_content name) s)

abbrev pub end_in_template : NameValue → StateValue → StateValue
end_in_template (known tags.Template) s = end_template s
end_in_template _ s = s

abbrev pub in_template : TokenValue → StateValue → Outcome
in_template (start_tag tag) s = start_in_template tag.name tag s
in_template (end_tag name) s = done (end_in_template name s)
in_template end_of_file s = end_of_file_in_template s
in_template token s = in_body token s
