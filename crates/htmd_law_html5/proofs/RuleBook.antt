-- The rules of the modes for tags, comments, doctypes and the end of the file, as data.
use Rattle.std.specs.Prelude.{ℕ, Bool, ◌||◌, if◌then◌else◌, List, [], ◌∷◌, is_some}
use Rattle.std.specs.List.{list_any}
use Rattle.htmd_html5_state.specs.Names.{NameValue, known, same_tag}
use Rattle.htmd_html5_state.specs.OpenElements.{is_in_scope}
use Rattle.htmd_html5_state.specs.Resetting.{has_modes}
use Rattle.htmd_html5_state.specs.declared.modes.InsertionMode.{InsertionMode}
use Rattle.htmd_html5_state.specs.declared.modes.InsertionMode.TheVariants.{Initial, BeforeHtml, BeforeHead, InHead}
use Rattle.htmd_html5_state.specs.declared.modes.InsertionMode.TheVariants.{InHeadNoscript, AfterHead, InBody, InTable}
use Rattle.htmd_html5_state.specs.declared.modes.InsertionMode.TheVariants.{InCaption, InColumnGroup, InTableBody}
use Rattle.htmd_html5_state.specs.declared.modes.InsertionMode.TheVariants.{InRow, InCell, InSelect, InSelectInTable}
use Rattle.htmd_html5_state.specs.declared.modes.InsertionMode.TheVariants.{InTemplate, AfterBody, InFrameset}
use Rattle.htmd_html5_state.specs.declared.modes.InsertionMode.TheVariants.{AfterFrameset, AfterAfterBody}
use Rattle.htmd_html5_state.specs.declared.modes.InsertionMode.TheVariants.{AfterAfterFrameset}
use Rattle.htmd_html5_state.specs.declared.names.Namespace.TheVariants.{Svg, MathMl}
use Rattle.htmd_html5_state.specs.declared.names.TagName.{TagName}
use Rattle.htmd_html5_state.specs.declared.sets.NameSet.{NameSet}
use Rattle.htmd_html5_state.specs.declared.sets.NameSet.TheVariants.{Only, Headings, DescriptionParts, ImpliedEnd}
use Rattle.htmd_html5_state.specs.declared.sets.NameSet.TheVariants.{ImpliedEndInRuby, TableContext, TableBodyContext}
use Rattle.htmd_html5_state.specs.declared.sets.NameSet.TheVariants.{TableRowContext, TableSections, Cells}
use Rattle.htmd_html5_state.specs.declared.sets.Scope.TheVariants.{Default, Items, ListItem, Button as ButtonScope}
use Rattle.htmd_html5_state.specs.declared.sets.Scope.TheVariants.{Table as TableScope}
use Rattle.htmd_html5.specs.Tokens.{TokenValue, start_tag, end_tag, run, comment, doctype, end_of_file}
use Rattle.htmd_html5.specs.SharedRules.{is_head_tag}
use Rattle.htmd_html5.specs.BodyStarts.{is_in_template, is_hidden}
use Rattle.htmd_html5.specs.BodyEnds.{has_body}
use Rattle.htmd_html5.specs.InCell.{leaves_cell}
use Rattle.htmd_html5.specs.InSelect.{is_table_part}
use Rattle.htmd_html5.specs.InTemplate.{mode_of_content}
use Rattle.htmd_law_html5.proofs.Rules.{Given, own, implied, renamed, in_scope, each_of, back_to, named, heading}
use Rattle.htmd_law_html5.proofs.Rules.{option, option_and_group, group, element, void, root, head, body_put, raw_text}
use Rattle.htmd_law_html5.proofs.Rules.{of_head, late_of_head, foreign, formatting, select, comment_in_root}
use Rattle.htmd_law_html5.proofs.Rules.{comment_in_document, started, cut, agency, forget_anchor, noted_form}
use Rattle.htmd_law_html5.proofs.Rules.{table_closed, caption_closed, columns_closed, section_closed, row_closed}
use Rattle.htmd_law_html5.proofs.Rules.{cell_closed, cell_left, select_closed, select_left, frameset_closed}
use Rattle.htmd_law_html5.proofs.Rules.{template_closed, root_attributes, body_attributes, body_replaced, marked}
use Rattle.htmd_law_html5.proofs.Rules.{to_marker, reconstructed, to_mode, to_quirks, to_content, frames_refused}
use Rattle.htmd_law_html5.proofs.Rules.{line_feed_skipped, noted_element, Rule, nothing, act, ◌⨾◌, when, foster, Reply}
use Rattle.htmd_law_html5.proofs.Rules.{ends, again, again_after, either, body_ended, template_ended, head_left}
use Rattle.htmd_law_html5.proofs.Rules.{noscript_put, noscript_left, cell_put, empty_form}
use Rattle.htmd_html5_state.specs.Sets.{has}
use Rattle.htmd_html5_state.specs.declared.names.TagName.TheVariants as tags
use Rattle.htmd_lexical.specs.declared.content_model.RawElement.TheVariants as raw
use Rattle.htmd_law_html5.proofs.Rules as rules
use Rattle.htmd_html5.specs.InTable as table
use Rattle.htmd_html5.specs.InCaption as caption
use Rattle.htmd_html5.specs.InTableBody as table_body
use Rattle.htmd_html5.specs.InRow as table_row

-- ---- what rules share

abbrev pub insert : Rule
insert = act (element own)

abbrev pub close_paragraph : Rule
close_paragraph = act (cut (in_scope (Only tags.P) ButtonScope))

abbrev pub ignore : Reply
ignore = ends nothing

abbrev pub put_in_head : Reply
put_in_head = ends (act of_head)

-- ---- names that one rule is for

abbrev is_among : List TagName → TagName → Bool
is_among names tag = list_any (λ name. same_tag name tag) names

-- blocks and formatting elements, where no row of its own says more of one's start tag or end tag
abbrev blocks : List TagName
blocks =
    tags.Address ∷ tags.Article ∷ tags.Aside ∷ tags.BlockQuote ∷ tags.Button ∷ tags.Center ∷ tags.Dd ∷
    tags.Details ∷ tags.Dialog ∷ tags.Dir ∷ tags.Div ∷ tags.Dl ∷ tags.Dt ∷ tags.FieldSet ∷
    tags.FigCaption ∷ tags.Figure ∷ tags.Footer ∷ tags.Header ∷ tags.HGroup ∷ tags.Listing ∷ tags.Main ∷
    tags.Menu ∷ tags.Nav ∷ tags.Ol ∷ tags.P ∷ tags.Pre ∷ tags.Search ∷ tags.Section ∷ tags.Summary ∷
    tags.Ul ∷ []

abbrev formats : List TagName
formats =
    tags.A ∷ tags.B ∷ tags.Big ∷ tags.Code ∷ tags.Em ∷ tags.Font ∷ tags.I ∷ tags.NoBr ∷ tags.S ∷
    tags.Small ∷ tags.Strike ∷ tags.Strong ∷ tags.Tt ∷ tags.U ∷ []

-- ---- start tags in the body

abbrev pub block : Rule
block = close_paragraph ⨾ insert

abbrev pub insert_in_text : Rule
insert_in_text = act reconstructed ⨾ insert

abbrev pub insert_void_in_text : Rule
insert_void_in_text = act reconstructed ⨾ act (void own)

abbrev pub start_preformatted : Rule
start_preformatted = block ⨾ act line_feed_skipped ⨾ act frames_refused

abbrev pub start_item : NameSet → Rule
start_item alike = act frames_refused ⨾ act (cut (in_scope alike Items)) ⨾ block

abbrev pub start_formatting : Rule
start_formatting = act reconstructed ⨾ act formatting

abbrev pub start_embedded : Rule
start_embedded = insert_in_text ⨾ act marked ⨾ act frames_refused

abbrev pub start_void : Rule
start_void = insert_void_in_text ⨾ act frames_refused

abbrev pub start_option : Rule
start_option = act (cut option) ⨾ insert_in_text

abbrev pub start_ruby : NameSet → Rule
start_ruby closed =
    when (λ tag s. is_in_scope (Only tags.Ruby) Default s.stack) (act (cut (each_of closed))) nothing ⨾ insert

abbrev pub start_of : NameValue → Rule
start_of (known tags.Html) = act root_attributes
start_of (known tags.Body) = act body_attributes
start_of (known tags.FrameSet) = act body_replaced
start_of (known tags.Frame) = nothing
start_of (known tags.Head) = nothing
start_of (known tags.Pre) = start_preformatted
start_of (known tags.Listing) = start_preformatted
start_of (known tags.Form) =
    when (λ tag s. is_in_template s) block
    (when (λ tag s. is_some s.form) nothing (close_paragraph ⨾ act noted_element))
start_of (known tags.Li) = start_item (Only tags.Li)
start_of (known tags.Dd) = start_item DescriptionParts
start_of (known tags.Dt) = start_item DescriptionParts
start_of (known tags.PlainText) = close_paragraph ⨾ act (raw_text raw.Plaintext)
start_of (known tags.Table) =
    when (λ tag s. s.quirks) nothing close_paragraph ⨾ insert ⨾ act frames_refused ⨾ act (to_mode InTable)
start_of (known tags.Hr) = close_paragraph ⨾ act (void own) ⨾ act frames_refused
start_of (known tags.Button) =
    act (cut (in_scope (Only tags.Button) Default)) ⨾ insert_in_text ⨾ act frames_refused
start_of (known tags.A) = act forget_anchor ⨾ start_formatting
start_of (known tags.NoBr) =
    act reconstructed ⨾ when (λ tag s. is_in_scope (Only tags.NoBr) Default s.stack) (act (agency tags.NoBr)) nothing
    ⨾ start_formatting
start_of (known tags.Applet) = start_embedded
start_of (known tags.Marquee) = start_embedded
start_of (known tags.Object) = start_embedded
start_of (known tags.Area) = start_void
start_of (known tags.Br) = start_void
start_of (known tags.Embed) = start_void
start_of (known tags.Img) = start_void
start_of (known tags.KeyGen) = start_void
start_of (known tags.Wbr) = start_void
start_of (known tags.Input) = when (λ tag s. is_hidden tag) insert_void_in_text start_void
start_of (known tags.Param) = act (void own)
start_of (known tags.Source) = act (void own)
start_of (known tags.Track) = act (void own)
start_of (known tags.Image) = act reconstructed ⨾ act (void (renamed tags.Img)) ⨾ act frames_refused
start_of (known tags.TextArea) = act line_feed_skipped ⨾ act frames_refused ⨾ act (raw_text raw.Textarea)
start_of (known tags.Xmp) = close_paragraph ⨾ act reconstructed ⨾ act frames_refused ⨾ act (raw_text raw.Xmp)
start_of (known tags.Iframe) = act frames_refused ⨾ act (raw_text raw.Iframe)
start_of (known tags.NoEmbed) = act (raw_text raw.Noembed)
start_of (known tags.NoScript) = when (λ tag s. s.scripting) (act (raw_text raw.Noscript)) insert_in_text
start_of (known tags.Select) = act select
start_of (known tags.OptGroup) = start_option
start_of (known tags.OptionTag) = start_option
start_of (known tags.Rb) = start_ruby ImpliedEnd
start_of (known tags.Rtc) = start_ruby ImpliedEnd
start_of (known tags.Rp) = start_ruby ImpliedEndInRuby
start_of (known tags.Rt) = start_ruby ImpliedEndInRuby
start_of (known tags.Math) = act reconstructed ⨾ act (foreign MathMl)
start_of (known tags.Svg) = act reconstructed ⨾ act (foreign Svg)
start_of (known tag) =
    if is_head_tag tag then act of_head else if leaves_cell tag then nothing
    else if has Headings tag then close_paragraph ⨾ act (cut heading) ⨾ insert
    else if is_among blocks tag then block
    else if is_among formats tag then start_formatting else insert_in_text
start_of name = insert_in_text

-- ---- end tags in the body

abbrev pub end_body : Rule
end_body = when (λ tag s. has_body s) (act (to_mode AfterBody)) nothing

abbrev pub end_block : TagName → Rule
end_block name = act (cut (in_scope (Only name) Default))

abbrev pub end_embedded : TagName → Rule
end_embedded name = when (λ tag s. is_in_scope (Only name) Default s.stack) (end_block name ⨾ act to_marker) nothing

abbrev pub end_of : NameValue → Rule
end_of (known tags.Body) = end_body
end_of (known tags.Html) = end_body
end_of (known tags.Template) = act template_closed
end_of (known tags.Form) =
    when (λ tag s. is_in_template s) (act (cut (in_scope (Only tags.Form) Default))) (act noted_form)
end_of (known tags.P) =
    when (λ tag s. is_in_scope (Only tags.P) ButtonScope s.stack) close_paragraph (act (void (implied tags.P)))
end_of (known tags.Li) = act (cut (in_scope (Only tags.Li) ListItem))
end_of (known tags.Applet) = end_embedded tags.Applet
end_of (known tags.Marquee) = end_embedded tags.Marquee
end_of (known tags.Object) = end_embedded tags.Object
end_of (known tags.Br) = act reconstructed ⨾ act (void (implied tags.Br)) ⨾ act frames_refused
end_of (known tag) =
    if has Headings tag then act (cut (in_scope Headings Default)) else if is_among blocks tag then end_block tag
    else if is_among formats tag then act (agency tag) else act (cut (named (known tag)))
end_of name = act (cut (named name))

abbrev pub end_in_body : NameValue → Reply
end_in_body (known tags.Html) = body_ended
end_in_body name = ends (end_of name)

-- ---- before the body

abbrev pub imply_root : Reply
imply_root = again (act (root (implied tags.Html)))

abbrev pub start_before_html : NameValue → Reply
start_before_html (known tags.Html) = ends (act (root own))
start_before_html _ = imply_root

-- end tags that are processed again before the body
abbrev late_ends : Reply → NameValue → Reply
late_ends reply (known tags.Body) = reply
late_ends reply (known tags.Html) = reply
late_ends reply (known tags.Br) = reply
late_ends reply _ = ignore

abbrev pub end_before_html : NameValue → Reply
end_before_html (known tags.Head) = imply_root
end_before_html name = late_ends imply_root name

abbrev pub imply_head : Reply
imply_head = again (act (head (implied tags.Head)))

abbrev pub start_before_head : NameValue → Reply
start_before_head (known tags.Html) = ends (act root_attributes)
start_before_head (known tags.Head) = ends (act (head own))
start_before_head _ = imply_head

abbrev pub end_before_head : NameValue → Reply
end_before_head (known tags.Head) = imply_head
end_before_head name = late_ends imply_head name

abbrev pub close_head : Rule
close_head = act head_left

abbrev pub start_in_head : NameValue → Reply
start_in_head (known tags.Html) = ends (act root_attributes)
start_in_head (known tags.NoScript) =
    ends (when (λ tag s. s.scripting) (act (raw_text raw.Noscript)) (act noscript_put))
start_in_head (known tags.Head) = ignore
start_in_head (known tag) = if is_head_tag tag then put_in_head else again close_head
start_in_head _ = again close_head

abbrev pub end_in_head : NameValue → Reply
end_in_head (known tags.Head) = ends close_head
end_in_head (known tags.Template) = ends (act template_closed)
end_in_head name = late_ends (again close_head) name

abbrev pub close_noscript : Rule
close_noscript = act noscript_left

abbrev pub start_in_noscript : NameValue → Reply
start_in_noscript (known tags.Html) = ends (act root_attributes)
start_in_noscript (known tags.BaseFont) = put_in_head
start_in_noscript (known tags.BgSound) = put_in_head
start_in_noscript (known tags.Link) = put_in_head
start_in_noscript (known tags.Meta) = put_in_head
start_in_noscript (known tags.NoFrames) = put_in_head
start_in_noscript (known tags.Style) = put_in_head
start_in_noscript (known tags.Head) = ignore
start_in_noscript (known tags.NoScript) = ignore
start_in_noscript _ = again close_noscript

abbrev pub end_in_noscript : NameValue → Reply
end_in_noscript (known tags.NoScript) = ends close_noscript
end_in_noscript (known tags.Br) = again close_noscript
end_in_noscript _ = ignore

abbrev pub imply_body : Reply
imply_body = again (act (body_put (implied tags.Body)))

abbrev pub start_after_head : NameValue → Reply
start_after_head (known tags.Html) = ends (act root_attributes)
start_after_head (known tags.Body) = ends (act frames_refused ⨾ act (body_put own))
start_after_head (known tags.FrameSet) = ends (insert ⨾ act (to_mode InFrameset))
start_after_head (known tags.Head) = ignore
start_after_head (known tag) = if is_head_tag tag then ends (act late_of_head) else imply_body
start_after_head _ = imply_body

abbrev pub end_after_head : NameValue → Reply
end_after_head (known tags.Template) = ends (act template_closed)
end_after_head name = late_ends imply_body name

-- ---- tables

abbrev pub columns : Given → Rule
columns given = act (cut (back_to TableContext)) ⨾ act (element given) ⨾ act (to_mode InColumnGroup)

abbrev pub section : Given → Rule
section given = act (cut (back_to TableContext)) ⨾ act (element given) ⨾ act (to_mode InTableBody)

abbrev pub part : NameValue → Rule
part (known tags.Caption) = act (cut (back_to TableContext)) ⨾ act marked ⨾ insert ⨾ act (to_mode InCaption)
part (known tags.ColGroup) = columns own
part (known tags.TBody) = section own
part (known tags.TFoot) = section own
part (known tags.THead) = section own
part (known tags.Style) = act of_head
part (known tags.Script) = act of_head
part (known tags.Template) = act of_head
part (known tags.Input) = when (λ tag s. is_hidden tag) (act (void own)) (foster (start_of (known tags.Input)))
part (known tags.Form) = when (λ tag s. is_some s.form || is_in_template s) nothing (act empty_form)
part name = foster (start_of name)

abbrev pub start_in_table : NameValue → Reply
start_in_table (known tags.Col) = again (columns (implied tags.ColGroup))
start_in_table (known tags.Td) = again (section (implied tags.TBody))
start_in_table (known tags.Th) = again (section (implied tags.TBody))
start_in_table (known tags.Tr) = again (section (implied tags.TBody))
start_in_table (known tags.Table) = again_after table_closed
start_in_table name = ends (part name)

abbrev pub end_in_table : NameValue → Rule
end_in_table (known tags.Table) = act table_closed
end_in_table (known tags.Template) = act template_closed
end_in_table (known tag) = if table.ends_nothing tag then nothing else foster (end_of (known tag))
end_in_table name = foster (end_of name)

abbrev pub start_in_caption : NameValue → Reply
start_in_caption (known tag) = if leaves_cell tag then again_after caption_closed else ends (start_of (known tag))
start_in_caption name = ends (start_of name)

abbrev pub end_in_caption : NameValue → Reply
end_in_caption (known tags.Caption) = ends (act caption_closed)
end_in_caption (known tags.Table) = again_after caption_closed
end_in_caption (known tag) = if caption.ends_nothing tag then ignore else end_in_body (known tag)
end_in_caption name = end_in_body name

abbrev pub leave_columns : Reply
leave_columns = again_after columns_closed

abbrev pub start_in_columns : NameValue → Reply
start_in_columns (known tags.Html) = ends (act root_attributes)
start_in_columns (known tags.Col) = ends (act (void own))
start_in_columns (known tags.Template) = put_in_head
start_in_columns _ = leave_columns

abbrev pub end_in_columns : NameValue → Reply
end_in_columns (known tags.ColGroup) = ends (act columns_closed)
end_in_columns (known tags.Col) = ignore
end_in_columns (known tags.Template) = ends (act template_closed)
end_in_columns _ = leave_columns

abbrev pub row : Given → Rule
row given = act (cut (back_to TableBodyContext)) ⨾ act (element given) ⨾ act (to_mode InRow)

abbrev pub leave_section : Reply
leave_section = again_after (section_closed TableSections)

abbrev pub start_in_section : NameValue → Reply
start_in_section (known tags.Tr) = ends (row own)
start_in_section (known tags.Td) = again (row (implied tags.Tr))
start_in_section (known tags.Th) = again (row (implied tags.Tr))
start_in_section (known tag) = if leaves_cell tag then leave_section else start_in_table (known tag)
start_in_section name = start_in_table name

abbrev pub end_in_section : NameValue → Reply
end_in_section (known tags.Table) = leave_section
end_in_section (known tag) =
    if has TableSections tag then ends (act (section_closed (Only tag)))
    else if table_body.ends_nothing tag then ignore else ends (end_in_table (known tag))
end_in_section name = ends (end_in_table name)

abbrev pub cell : Reply
cell = ends (act (cut (back_to TableRowContext)) ⨾ act cell_put)

abbrev pub leave_row : Reply
leave_row = again_after row_closed

abbrev pub start_in_row : NameValue → Reply
start_in_row (known tags.Td) = cell
start_in_row (known tags.Th) = cell
start_in_row (known tag) = if leaves_cell tag then leave_row else start_in_table (known tag)
start_in_row name = start_in_table name

abbrev pub end_in_row : NameValue → Reply
end_in_row (known tags.Tr) = ends (act row_closed)
end_in_row (known tags.Table) = leave_row
end_in_row (known tag) =
    if has TableSections tag then either (λ s. is_in_scope (Only tag) TableScope s.stack) leave_row ignore
    else if table_row.ends_nothing tag then ignore else ends (end_in_table (known tag))
end_in_row name = ends (end_in_table name)

abbrev pub leave_cell : NameSet → Reply
leave_cell wanted = either (λ s. is_in_scope wanted TableScope s.stack) (again (act (cell_left Cells))) ignore

abbrev pub start_in_cell : NameValue → Reply
start_in_cell (known tag) = if leaves_cell tag then leave_cell Cells else ends (start_of (known tag))
start_in_cell name = ends (start_of name)

abbrev pub end_in_cell : NameValue → Reply
end_in_cell (known tags.Td) = ends (act (cell_closed tags.Td))
end_in_cell (known tags.Th) = ends (act (cell_closed tags.Th))
end_in_cell (known tags.Table) = leave_cell (Only tags.Table)
end_in_cell (known tags.Tr) = leave_cell (Only tags.Tr)
end_in_cell (known tag) =
    if has TableSections tag then leave_cell (Only tag)
    else if table.ends_nothing tag then ignore else end_in_body (known tag)
end_in_cell name = end_in_body name

-- ---- select

abbrev pub leave_select : Reply
leave_select = again_after select_closed

abbrev pub start_in_select : NameValue → Reply
start_in_select (known tags.Html) = ends (act root_attributes)
start_in_select (known tags.OptionTag) = ends (act (cut option) ⨾ insert)
start_in_select (known tags.OptGroup) = ends (act (cut option_and_group) ⨾ insert)
start_in_select (known tags.Hr) = ends (act (cut option_and_group) ⨾ act (void own))
start_in_select (known tags.Select) = ends (act select_closed)
start_in_select (known tags.Input) = leave_select
start_in_select (known tags.KeyGen) = leave_select
start_in_select (known tags.TextArea) = leave_select
start_in_select (known tags.Script) = put_in_head
start_in_select (known tags.Template) = put_in_head
start_in_select _ = ignore

abbrev pub end_in_select : NameValue → Rule
end_in_select (known tags.OptGroup) = act (cut group)
end_in_select (known tags.OptionTag) = act (cut option)
end_in_select (known tags.Select) = act select_closed
end_in_select (known tags.Template) = act template_closed
end_in_select _ = nothing

abbrev pub start_in_select_in_table : NameValue → Reply
start_in_select_in_table (known tag) =
    if is_table_part tag then again (act select_left) else start_in_select (known tag)
start_in_select_in_table name = start_in_select name

abbrev pub end_in_select_in_table : NameValue → Reply
end_in_select_in_table (known tag) =
    if is_table_part tag then either (λ s. is_in_scope (Only tag) TableScope s.stack) (again (act select_left)) ignore
    else ends (end_in_select (known tag))
end_in_select_in_table name = ends (end_in_select name)

-- ---- templates, and what comes after the body

abbrev pub start_in_template : NameValue → Reply
start_in_template (known tag) =
    if is_head_tag tag then put_in_head else again (act (to_content (mode_of_content (known tag))))
start_in_template name = again (act (to_content (mode_of_content name)))

abbrev pub back_to_body : Reply
back_to_body = again (act (to_mode InBody))

abbrev pub start_after_body : NameValue → Reply
start_after_body (known tags.Html) = ends (act root_attributes)
start_after_body _ = back_to_body

-- ---- frames

abbrev pub start_after_frameset : NameValue → Rule
start_after_frameset (known tags.Html) = act root_attributes
start_after_frameset (known tags.NoFrames) = act of_head
start_after_frameset _ = nothing

abbrev pub start_in_frameset : NameValue → Rule
start_in_frameset (known tags.FrameSet) = insert
start_in_frameset (known tags.Frame) = act (void own)
start_in_frameset name = start_after_frameset name

-- ---- the modes

-- start tags
abbrev pub start_in : InsertionMode → NameValue → Reply
start_in Initial name = again (act to_quirks)
start_in BeforeHtml name = start_before_html name
start_in BeforeHead name = start_before_head name
start_in InHead name = start_in_head name
start_in InHeadNoscript name = start_in_noscript name
start_in AfterHead name = start_after_head name
start_in InBody name = ends (start_of name)
start_in InTable name = start_in_table name
start_in InCaption name = start_in_caption name
start_in InColumnGroup name = start_in_columns name
start_in InTableBody name = start_in_section name
start_in InRow name = start_in_row name
start_in InCell name = start_in_cell name
start_in InSelect name = start_in_select name
start_in InSelectInTable name = start_in_select_in_table name
start_in InTemplate name = start_in_template name
start_in AfterBody name = start_after_body name
start_in InFrameset name = ends (start_in_frameset name)
start_in AfterFrameset name = ends (start_after_frameset name)
start_in AfterAfterBody name = start_after_body name
start_in AfterAfterFrameset name = ends (start_after_frameset name)

-- end tags
abbrev pub end_in : InsertionMode → NameValue → Reply
end_in Initial name = again (act to_quirks)
end_in BeforeHtml name = end_before_html name
end_in BeforeHead name = end_before_head name
end_in InHead name = end_in_head name
end_in InHeadNoscript name = end_in_noscript name
end_in AfterHead name = end_after_head name
end_in InBody name = end_in_body name
end_in InTable name = ends (end_in_table name)
end_in InCaption name = end_in_caption name
end_in InColumnGroup name = end_in_columns name
end_in InTableBody name = end_in_section name
end_in InRow name = end_in_row name
end_in InCell name = end_in_cell name
end_in InSelect name = ends (end_in_select name)
end_in InSelectInTable name = end_in_select_in_table name
end_in InTemplate (known tags.Template) = ends (act template_closed)
end_in InTemplate name = ignore
end_in AfterBody (known tags.Html) = ends (act (to_mode AfterAfterBody))
end_in AfterBody name = back_to_body
end_in InFrameset (known tags.FrameSet) = ends (act frameset_closed)
end_in InFrameset name = ignore
end_in AfterFrameset (known tags.Html) = ends (act (to_mode AfterAfterFrameset))
end_in AfterFrameset name = ignore
end_in AfterAfterBody name = back_to_body
end_in AfterAfterFrameset name = ignore

-- comments
abbrev pub comment_in : InsertionMode → List ℕ → Reply
comment_in Initial text = ends (act (comment_in_document text))
comment_in BeforeHtml text = ends (act (comment_in_document text))
comment_in AfterBody text = ends (act (comment_in_root text))
comment_in AfterAfterBody text = ends (act (comment_in_document text))
comment_in AfterAfterFrameset text = ends (act (comment_in_document text))
comment_in _ text = ends (act (rules.comment text))

abbrev pub doctype_in : InsertionMode → Bool → Reply
doctype_in Initial quirks = ends (act (started quirks))
doctype_in _ quirks = ignore

-- the end of the file, which closes the templates that are open
abbrev pub end_of_file_in : InsertionMode → Reply
end_of_file_in Initial = again (act to_quirks)
end_of_file_in BeforeHtml = imply_root
end_of_file_in BeforeHead = imply_head
end_of_file_in InHead = again close_head
end_of_file_in InHeadNoscript = again close_noscript
end_of_file_in AfterHead = imply_body
end_of_file_in InTemplate = template_ended
end_of_file_in AfterBody = ignore
end_of_file_in InFrameset = ignore
end_of_file_in AfterFrameset = ignore
end_of_file_in AfterAfterBody = ignore
end_of_file_in AfterAfterFrameset = ignore
end_of_file_in _ = either (λ s. has_modes s.template_modes) template_ended ignore

-- a text has rules of its own
abbrev pub rule_in : InsertionMode → TokenValue → Reply
rule_in mode (start_tag tag) = start_in mode tag.name
rule_in mode (end_tag name) = end_in mode name
rule_in mode (comment text) = comment_in mode text
rule_in mode (doctype quirks) = doctype_in mode quirks
rule_in mode end_of_file = end_of_file_in mode
rule_in mode (run kind text) = ignore
