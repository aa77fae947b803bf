-- A token by the rules of a mode (HTML Standard, 13.2.6.4).
use Rattle.std.specs.Prelude.{ℕ, List}
use Rattle.htmd_html5_state.specs.Names.{NameValue}
use Rattle.htmd_html5.specs.Tokens.{StartTagValue, TokenValue}
use Rattle.htmd_html5_state.specs.State.{StateValue}
use Rattle.htmd_html5_state.specs.Insertion.{insert_text}
use Rattle.htmd_html5_state.specs.declared.modes.InsertionMode.TheVariants.{Initial, BeforeHtml, BeforeHead, InHead}
use Rattle.htmd_html5_state.specs.declared.modes.InsertionMode.TheVariants.{InHeadNoscript, AfterHead, InBody}
use Rattle.htmd_html5_state.specs.declared.modes.InsertionMode.TheVariants.{InTable, InCaption, InColumnGroup}
use Rattle.htmd_html5_state.specs.declared.modes.InsertionMode.TheVariants.{InTableBody, InRow, InCell, InSelect}
use Rattle.htmd_html5_state.specs.declared.modes.InsertionMode.TheVariants.{InSelectInTable, InTemplate, AfterBody}
use Rattle.htmd_html5_state.specs.declared.modes.InsertionMode.TheVariants.{InFrameset, AfterFrameset, AfterAfterBody}
use Rattle.htmd_html5_state.specs.declared.modes.InsertionMode.TheVariants.{AfterAfterFrameset}
use Rattle.htmd_html5_state.specs.declared.modes.InsertionMode.{InsertionMode}
use Rattle.htmd_html5.specs.declared.tokens.RunKind.TheVariants.{White}
use Rattle.htmd_html5.specs.Outcomes.{Outcome, again}
use Rattle.htmd_html5.specs.Initial.{leave_initial, initial}
use Rattle.htmd_html5.specs.BeforeHtml.{imply_root, before_html}
use Rattle.htmd_html5.specs.BeforeHead.{imply_head, before_head}
use Rattle.htmd_html5.specs.InHead.{close_head, in_head}
use Rattle.htmd_html5.specs.InHeadNoscript.{close_noscript, in_head_noscript}
use Rattle.htmd_html5.specs.AfterHead.{imply_body, after_head}
use Rattle.htmd_html5.specs.BodyStarts.{start_in_body}
use Rattle.htmd_html5.specs.InSelect.{end_in_select, in_select, in_select_in_table}
use Rattle.htmd_html5.specs.InBody.{run_in_body, in_body}
use Rattle.htmd_html5.specs.InTable.{end_in_table, in_table}
use Rattle.htmd_html5.specs.InCaption.{in_caption}
use Rattle.htmd_html5.specs.InColumnGroup.{leave_columns, in_column_group}
use Rattle.htmd_html5.specs.InTableBody.{in_table_body}
use Rattle.htmd_html5.specs.InRow.{in_row}
use Rattle.htmd_html5.specs.InCell.{in_cell}
use Rattle.htmd_html5.specs.InTemplate.{end_in_template, in_template}
use Rattle.htmd_html5.specs.AfterBody.{back_to_body, after_body, after_after_body}
use Rattle.htmd_html5.specs.InFrameset.{start_in_frameset, end_in_frameset, in_frameset, start_after_frameset}
use Rattle.htmd_html5.specs.InFrameset.{end_after_frameset, after_frameset, after_after_frameset}

-- ---- what tokens do in several modes

-- start tags, in modes that process each once
abbrev pub start_once : InsertionMode → StartTagValue → StateValue → StateValue
start_once InFrameset tag s = start_in_frameset tag.name tag s
start_once AfterFrameset tag s = start_after_frameset tag.name tag s
start_once AfterAfterFrameset tag s = start_after_frameset tag.name tag s
start_once _ tag s = start_in_body tag s

-- end tags, in modes that process each once
abbrev pub end_once : InsertionMode → NameValue → StateValue → StateValue
end_once InTable name s = end_in_table name s
end_once InSelect name s = end_in_select name s
end_once InTemplate name s = end_in_template name s
end_once InFrameset name s = end_in_frameset name s
end_once AfterFrameset name s = end_after_frameset name s
end_once _ name s = s

-- white space before the body and after it
abbrev pub put_white_space : InsertionMode → List ℕ → StateValue → StateValue
put_white_space Initial text s = s
put_white_space BeforeHtml text s = s
put_white_space BeforeHead text s = s
put_white_space AfterBody text s = run_in_body White text s
put_white_space AfterAfterBody text s = run_in_body White text s
put_white_space _ text s = insert_text text s

-- what ends a mode and is processed again
abbrev pub leave_mode : InsertionMode → StateValue → Outcome
leave_mode Initial s = leave_initial s
leave_mode BeforeHtml s = imply_root s
leave_mode BeforeHead s = imply_head s
leave_mode InHead s = again (close_head s)
leave_mode InHeadNoscript s = again (close_noscript s)
leave_mode AfterHead s = imply_body s
leave_mode InColumnGroup s = leave_columns s
leave_mode _ s = back_to_body s

-- ---- the modes

abbrev pub in_mode : InsertionMode → TokenValue → StateValue → Outcome
in_mode Initial = initial
in_mode BeforeHtml = before_html
in_mode BeforeHead = before_head
in_mode InHead = in_head
in_mode InHeadNoscript = in_head_noscript
in_mode AfterHead = after_head
in_mode InBody = in_body
in_mode InTable = in_table
in_mode InCaption = in_caption
in_mode InColumnGroup = in_column_group
in_mode InTableBody = in_table_body
in_mode InRow = in_row
in_mode InCell = in_cell
in_mode InSelect = in_select
in_mode InSelectInTable = in_select_in_table
in_mode InTemplate = in_template
in_mode AfterBody = after_body
in_mode InFrameset = in_frameset
in_mode AfterFrameset = after_frameset
in_mode AfterAfterBody = after_after_body
in_mode AfterAfterFrameset = after_after_frameset

-- by those of the mode that it is in
abbrev pub by_mode_rules : TokenValue → StateValue → Outcome
by_mode_rules token s = in_mode s.mode token s
