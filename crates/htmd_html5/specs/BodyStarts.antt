-- Start tags in the mode "in body" (HTML Standard, 13.2.6.4.7): a rule for each name, and what the rules do.
use Rattle.std.specs.Prelude.{ℕ, Bool, true, false, if◌then◌else◌, List, Option, Some, None, codes, is_some, map}
use Rattle.std.specs.Str.{bytes_eq}
use Rattle.std.specs.Char.{to_ascii_lowercase}
use Rattle.htmd_lexical.specs.AttributePairs.{AttributePair}
use Rattle.htmd_nodes.specs.AttributeValues.{value_of}
use Rattle.htmd_html5_state.specs.Names.{NameValue, known, other}
use Rattle.htmd_html5_state.specs.Nodes.{detach, add_missing}
use Rattle.htmd_html5.specs.Tokens.{StartTagValue}
use Rattle.htmd_html5_state.specs.OpenElements.{OpenValue, current_is, is_open, is_in_scope, second_open, pop}
use Rattle.htmd_html5_state.specs.OpenElements.{pop_while, close, outermost, without}
use Rattle.htmd_html5_state.specs.State.{StateValue, on_nodes, on_stack, on_formatting}
use Rattle.htmd_html5_state.specs.Insertion.{current}
use Rattle.htmd_html5_state.specs.Formatting.{push_marker, without_entry, insert_formatting, reconstruct}
use Rattle.htmd_html5_state.specs.Adoption.{formatting_element, adoption_agency}
use Rattle.htmd_html5_state.specs.declared.modes.InsertionMode.TheVariants.{InTable, InCaption, InTableBody, InRow}
use Rattle.htmd_html5_state.specs.declared.modes.InsertionMode.TheVariants.{InCell, InSelect, InSelectInTable}
use Rattle.htmd_html5_state.specs.declared.modes.InsertionMode.TheVariants.{InFrameset}
use Rattle.htmd_html5_state.specs.declared.modes.InsertionMode.{InsertionMode}
use Rattle.htmd_html5_state.specs.declared.names.TagName.{TagName}
use Rattle.htmd_html5_state.specs.declared.names.Namespace.{Namespace}
use Rattle.htmd_html5_state.specs.declared.names.Namespace.TheVariants.{Svg, MathMl}
use Rattle.htmd_html5_state.specs.declared.sets.NameSet.TheVariants.{Only, Headings, DescriptionParts, ImpliedEnd}
use Rattle.htmd_html5_state.specs.declared.sets.NameSet.TheVariants.{ImpliedEndInRuby}
use Rattle.htmd_html5_state.specs.declared.sets.NameSet.{NameSet}
use Rattle.htmd_html5_state.specs.declared.sets.Scope.TheVariants.{Default, Items}
use Rattle.htmd_html5.specs.declared.body_starts.StartRule.{StartRule}
use Rattle.htmd_html5.specs.SharedRules.{with_mode, insert_tag, insert_void_tag, insert_raw_tag, insert_foreign_tag}
use Rattle.htmd_html5.specs.SharedRules.{no_frameset, close_paragraph, add_to_root, insert_head_element}
use Rattle.htmd_html5_state.specs.declared.names.TagName.TheVariants as tags
use Rattle.htmd_html5.specs.declared.body_starts.StartRule.TheVariants as rule
use Rattle.htmd_lexical.specs.declared.content_model.RawElement.TheVariants as raw

-- ---- which rule a name has

-- what else is in text
unfoldable pub phrasing_rule : TagName → StartRule
phrasing_rule tags.TextArea = rule.TextArea
phrasing_rule tags.Xmp = rule.Example
phrasing_rule tags.Iframe = rule.InlineFrame
phrasing_rule tags.NoEmbed = rule.NoEmbed
phrasing_rule tags.NoScript = rule.NoScript
phrasing_rule tags.Select = rule.Select
phrasing_rule tags.OptGroup = rule.Option
phrasing_rule tags.OptionTag = rule.Option
phrasing_rule tags.Rb = rule.Ruby ImpliedEnd
phrasing_rule tags.Rtc = rule.Ruby ImpliedEnd
phrasing_rule tags.Rp = rule.Ruby ImpliedEndInRuby
phrasing_rule tags.Rt = rule.Ruby ImpliedEndInRuby
phrasing_rule tags.Math = rule.Foreign MathMl
phrasing_rule tags.Svg = rule.Foreign Svg
phrasing_rule _ = rule.Ordinary

-- formatting and its kin
unfoldable pub formatting_rule : TagName → StartRule
formatting_rule tags.Button = rule.Button
formatting_rule tags.A = rule.Anchor
formatting_rule tags.B = rule.Formatting
formatting_rule tags.Big = rule.Formatting
formatting_rule tags.Code = rule.Formatting
formatting_rule tags.Em = rule.Formatting
formatting_rule tags.Font = rule.Formatting
formatting_rule tags.I = rule.Formatting
formatting_rule tags.S = rule.Formatting
formatting_rule tags.Small = rule.Formatting
formatting_rule tags.Strike = rule.Formatting
formatting_rule tags.Strong = rule.Formatting
formatting_rule tags.Tt = rule.Formatting
formatting_rule tags.U = rule.Formatting
formatting_rule tags.NoBr = rule.NoBreak
formatting_rule tags.Applet = rule.Embedded
formatting_rule tags.Marquee = rule.Embedded
formatting_rule tags.Object = rule.Embedded
formatting_rule tags.Area = rule.Void
formatting_rule tags.Br = rule.Void
formatting_rule tags.Embed = rule.Void
formatting_rule tags.Img = rule.Void
formatting_rule tags.KeyGen = rule.Void
formatting_rule tags.Wbr = rule.Void
formatting_rule tags.Input = rule.Input
formatting_rule tags.Param = rule.Part
formatting_rule tags.Source = rule.Part
formatting_rule tags.Track = rule.Part
formatting_rule tags.Image = rule.Image
formatting_rule tag = phrasing_rule tag

-- blocks
unfoldable pub block_rule : TagName → StartRule
block_rule tags.Address = rule.Block
block_rule tags.Article = rule.Block
block_rule tags.Aside = rule.Block
block_rule tags.BlockQuote = rule.Block
block_rule tags.Center = rule.Block
block_rule tags.Details = rule.Block
block_rule tags.Dialog = rule.Block
block_rule tags.Dir = rule.Block
block_rule tags.Div = rule.Block
block_rule tags.Dl = rule.Block
block_rule tags.FieldSet = rule.Block
block_rule tags.FigCaption = rule.Block
block_rule tags.Figure = rule.Block
block_rule tags.Footer = rule.Block
block_rule tags.Header = rule.Block
block_rule tags.HGroup = rule.Block
block_rule tags.Main = rule.Block
block_rule tags.Menu = rule.Block
block_rule tags.Nav = rule.Block
block_rule tags.Ol = rule.Block
block_rule tags.P = rule.Block
block_rule tags.Search = rule.Block
block_rule tags.Section = rule.Block
block_rule tags.Summary = rule.Block
block_rule tags.Ul = rule.Block
block_rule tags.H1 = rule.Heading
block_rule tags.H2 = rule.Heading
block_rule tags.H3 = rule.Heading
block_rule tags.H4 = rule.Heading
block_rule tags.H5 = rule.Heading
block_rule tags.H6 = rule.Heading
block_rule tags.Pre = rule.Preformatted
block_rule tags.Listing = rule.Preformatted
block_rule tags.Form = rule.Form
block_rule tags.Li = rule.Item (Only tags.Li)
block_rule tags.Dd = rule.Item DescriptionParts
block_rule tags.Dt = rule.Item DescriptionParts
block_rule tags.PlainText = rule.PlainText
block_rule tags.Table = rule.Table
block_rule tags.Hr = rule.Separator
block_rule tag = formatting_rule tag

-- the structure of the page first
abbrev pub start_rule : TagName → StartRule
start_rule tags.Html = rule.Root
start_rule tags.Base = rule.InHead
start_rule tags.BaseFont = rule.InHead
start_rule tags.BgSound = rule.InHead
start_rule tags.Link = rule.InHead
start_rule tags.Meta = rule.InHead
start_rule tags.NoFrames = rule.InHead
start_rule tags.Script = rule.InHead
start_rule tags.Style = rule.InHead
start_rule tags.Template = rule.InHead
start_rule tags.Title = rule.InHead
start_rule tags.Body = rule.Body
start_rule tags.FrameSet = rule.FrameSet
start_rule tags.Caption = rule.Ignored
start_rule tags.Col = rule.Ignored
start_rule tags.ColGroup = rule.Ignored
start_rule tags.Frame = rule.Ignored
start_rule tags.Head = rule.Ignored
start_rule tags.TBody = rule.Ignored
start_rule tags.Td = rule.Ignored
start_rule tags.TFoot = rule.Ignored
start_rule tags.Th = rule.Ignored
start_rule tags.THead = rule.Ignored
start_rule tags.Tr = rule.Ignored
start_rule tag = block_rule tag

-- ---- the structure of the page

abbrev pub is_in_template : StateValue → Bool
is_in_template s = is_open (Only tags.Template) s.stack

-- `body`, if it is the second open element
abbrev pub open_body : StateValue → Option ℕ
open_body s = second_open (Only tags.Body) s.stack

abbrev pub add_to_this_body : Option ℕ → StartTagValue → StateValue → StateValue
add_to_this_body None tag s = s
add_to_this_body (Some body) tag s =
    if is_in_template s then s else no_frameset (on_nodes (add_missing body tag.attributes) s)

abbrev pub add_to_body : StartTagValue → StateValue → StateValue
add_to_body tag s = add_to_this_body (open_body s) tag s

-- a `frameset` in place of the body
abbrev pub replace_this_body : Option ℕ → StartTagValue → StateValue → StateValue
replace_this_body None tag s = s
replace_this_body (Some body) tag s =
    if s.frameset_ok
    then with_mode InFrameset (insert_tag tag (on_stack outermost (on_nodes (detach body) s))) else s

abbrev pub replace_body : StartTagValue → StateValue → StateValue
replace_body tag s = replace_this_body (open_body s) tag s

-- ---- blocks

abbrev pub start_block : StartTagValue → StateValue → StateValue
start_block tag s = insert_tag tag (close_paragraph s)

abbrev pub close_heading : List OpenValue → List OpenValue
close_heading stack = if current_is Headings stack then pop stack else stack

abbrev pub start_heading : StartTagValue → StateValue → StateValue
start_heading tag s = insert_tag tag (on_stack close_heading (close_paragraph s))

-- a line feed that comes next is dropped
abbrev pub skip_line_feed : StateValue → StateValue
skip_line_feed s = record s { skips_line_feed = true }

abbrev pub start_preformatted : StartTagValue → StateValue → StateValue
start_preformatted tag s = no_frameset (skip_line_feed (start_block tag s))

abbrev pub with_form : StateValue → StateValue
with_form s = record s { form = Some (current s.stack).node }

-- no `form` in a `form`, but in a template
abbrev pub start_form : StartTagValue → StateValue → StateValue
start_form tag s =
    if is_in_template s then start_block tag s
    else if is_some s.form then s
    else with_form (start_block tag s)

-- `li`, and `dd` and `dt`, end what is alike
abbrev pub start_item : NameSet → StartTagValue → StateValue → StateValue
start_item alike tag s = start_block tag (on_stack (close alike Items) (no_frameset s))

abbrev pub start_plain_text : StartTagValue → StateValue → StateValue
start_plain_text tag s = insert_raw_tag raw.Plaintext tag (close_paragraph s)

-- in quirks mode a `p` holds tables
abbrev pub start_table : StartTagValue → StateValue → StateValue
start_table tag s =
    with_mode InTable (no_frameset (insert_tag tag (if s.quirks then s else close_paragraph s)))

abbrev pub start_separator : StartTagValue → StateValue → StateValue
start_separator tag s = no_frameset (insert_void_tag tag (close_paragraph s))

-- ---- formatting

abbrev pub start_formatting : StartTagValue → StateValue → StateValue
start_formatting tag s = insert_formatting tag.name tag.attributes (reconstruct s)

-- an element goes from the list of active formatting elements and from the stack
abbrev pub forget : Option ℕ → StateValue → StateValue
forget None s = s
forget (Some n) s = on_stack (without n) (on_formatting (without_entry n) (adoption_agency tags.A s))

-- an `a` ends another
abbrev pub start_anchor : StartTagValue → StateValue → StateValue
start_anchor tag s = start_formatting tag (forget (formatting_element tags.A s) s)

abbrev pub close_no_break : StateValue → StateValue
close_no_break s = if is_in_scope (Only tags.NoBr) Default s.stack then adoption_agency tags.NoBr s else s

abbrev pub start_no_break : StartTagValue → StateValue → StateValue
start_no_break tag s = start_formatting tag (close_no_break (reconstruct s))

-- ---- what is in text

abbrev pub start_ordinary : StartTagValue → StateValue → StateValue
start_ordinary tag s = insert_tag tag (reconstruct s)

abbrev pub start_button : StartTagValue → StateValue → StateValue
start_button tag s = no_frameset (start_ordinary tag (on_stack (close (Only tags.Button) Default) s))

abbrev pub start_embedded : StartTagValue → StateValue → StateValue
start_embedded tag s = no_frameset (push_marker (start_ordinary tag s))

abbrev pub start_void : StartTagValue → StateValue → StateValue
start_void tag s = no_frameset (insert_void_tag tag (reconstruct s))

abbrev pub is_hidden_value : List ℕ → Bool
is_hidden_value value = bytes_eq (map to_ascii_lowercase value) (codes "hidden")

abbrev pub has_hidden_value : Option (List ℕ) → Bool
has_hidden_value None = false
has_hidden_value (Some value) = is_hidden_value value

abbrev pub has_hidden_type : List AttributePair → Bool
has_hidden_type attributes = has_hidden_value (value_of (codes "type") attributes)

abbrev pub is_hidden : StartTagValue → Bool
is_hidden tag = has_hidden_type tag.attributes

-- only a hidden `input` leaves frameset-ok as it is
abbrev pub start_input : StartTagValue → StateValue → StateValue
start_input tag s =
    if is_hidden tag then insert_void_tag tag (reconstruct s) else start_void tag s

-- `image` means `img`
abbrev pub start_image : StartTagValue → StateValue → StateValue
start_image tag s = start_void (record tag { name = known tags.Img }) s

abbrev pub mode_of_select : InsertionMode → InsertionMode
mode_of_select InTable = InSelectInTable
mode_of_select InCaption = InSelectInTable
mode_of_select InTableBody = InSelectInTable
mode_of_select InRow = InSelectInTable
mode_of_select InCell = InSelectInTable
mode_of_select _ = InSelect

abbrev pub start_select : StartTagValue → StateValue → StateValue
start_select tag s = with_mode (mode_of_select s.mode) (no_frameset (start_ordinary tag s))

abbrev pub close_option : List OpenValue → List OpenValue
close_option stack = if current_is (Only tags.OptionTag) stack then pop stack else stack

abbrev pub start_option : StartTagValue → StateValue → StateValue
start_option tag s = start_ordinary tag (on_stack close_option s)

abbrev pub start_ruby : NameSet → StartTagValue → StateValue → StateValue
start_ruby implied tag s =
    insert_tag tag (if is_in_scope (Only tags.Ruby) Default s.stack then on_stack (pop_while implied) s else s)

abbrev pub start_foreign : Namespace → StartTagValue → StateValue → StateValue
start_foreign space tag s = insert_foreign_tag space tag (reconstruct s)

-- ---- only text

abbrev pub start_text_area : StartTagValue → StateValue → StateValue
start_text_area tag s = no_frameset (skip_line_feed (insert_raw_tag raw.Textarea tag s))

abbrev pub start_example : StartTagValue → StateValue → StateValue
start_example tag s = no_frameset (insert_raw_tag raw.Xmp tag (reconstruct (close_paragraph s)))

abbrev pub start_inline_frame : StartTagValue → StateValue → StateValue
start_inline_frame tag s = insert_raw_tag raw.Iframe tag (no_frameset s)

-- with scripting on, `noscript` holds only text
abbrev pub start_no_script : StartTagValue → StateValue → StateValue
start_no_script tag s = if s.scripting then insert_raw_tag raw.Noscript tag s else start_ordinary tag s

-- ---- the rules

-- what is in text
abbrev pub start_in_text : StartRule → StartTagValue → StateValue → StateValue
start_in_text rule.Button tag s = start_button tag s
start_in_text rule.Anchor tag s = start_anchor tag s
start_in_text rule.Formatting tag s = start_formatting tag s
start_in_text rule.NoBreak tag s = start_no_break tag s
start_in_text rule.Embedded tag s = start_embedded tag s
start_in_text rule.Void tag s = start_void tag s
start_in_text rule.Input tag s = start_input tag s
start_in_text rule.Part tag s = insert_void_tag tag s
start_in_text rule.Image tag s = start_image tag s
start_in_text rule.TextArea tag s = start_text_area tag s
start_in_text rule.Example tag s = start_example tag s
start_in_text rule.InlineFrame tag s = start_inline_frame tag s
start_in_text rule.NoEmbed tag s = insert_raw_tag raw.Noembed tag s
start_in_text rule.NoScript tag s = start_no_script tag s
start_in_text rule.Select tag s = start_select tag s
start_in_text rule.Option tag s = start_option tag s
start_in_text (rule.Ruby implied) tag s = start_ruby implied tag s
start_in_text (rule.Foreign space) tag s = start_foreign space tag s
start_in_text _ tag s = start_ordinary tag s

-- the structure of the page, and blocks
abbrev pub start_by : StartRule → StartTagValue → StateValue → StateValue
start_by rule.Root tag s = add_to_root tag s
start_by rule.InHead tag s = insert_head_element tag.name tag s
start_by rule.Body tag s = add_to_body tag s
start_by rule.FrameSet tag s = replace_body tag s
start_by rule.Ignored tag s = s
start_by rule.Block tag s = start_block tag s
start_by rule.Heading tag s = start_heading tag s
start_by rule.Preformatted tag s = start_preformatted tag s
start_by rule.Form tag s = start_form tag s
start_by (rule.Item alike) tag s = start_item alike tag s
start_by rule.PlainText tag s = start_plain_text tag s
start_by rule.Table tag s = start_table tag s
start_by rule.Separator tag s = start_separator tag s
start_by rule tag s = start_in_text rule tag s

abbrev pub rule_of_start : NameValue → StartRule
rule_of_start (known tag) = start_rule tag
rule_of_start (other s) = rule.Ordinary

abbrev pub start_in_body : StartTagValue → StateValue → StateValue
start_in_body tag s = start_by (rule_of_start tag.name) tag s
