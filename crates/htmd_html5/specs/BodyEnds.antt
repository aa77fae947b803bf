-- End tags in the mode "in body" (HTML Standard, 13.2.6.4.7): a rule for each name, and what the rules do.
use Rattle.std.specs.Prelude.{ℕ, Bool, if◌then◌else◌, [], Option, Some, None}
use Rattle.htmd_html5_state.specs.Names.{NameValue, known, other}
use Rattle.htmd_html5_state.specs.OpenElements.{is_open, is_in_scope, is_node_in_scope, pop_while, close, close_name}
use Rattle.htmd_html5_state.specs.OpenElements.{without}
use Rattle.htmd_html5_state.specs.State.{StateValue, on_stack}
use Rattle.htmd_html5_state.specs.Insertion.{insert_void}
use Rattle.htmd_html5_state.specs.Formatting.{clear_to_marker, reconstruct}
use Rattle.htmd_html5_state.specs.Adoption.{adoption_agency}
use Rattle.htmd_html5_state.specs.declared.modes.InsertionMode.TheVariants.{AfterBody}
use Rattle.htmd_html5_state.specs.declared.names.TagName.{TagName}
use Rattle.htmd_html5_state.specs.declared.sets.NameSet.TheVariants.{Only, Headings, ImpliedEnd}
use Rattle.htmd_html5_state.specs.declared.sets.Scope.TheVariants.{Default, ListItem, Button as ButtonScope}
use Rattle.htmd_html5.specs.declared.body_ends.EndRule.{EndRule}
use Rattle.htmd_html5.specs.Outcomes.{Outcome, outcome, done}
use Rattle.htmd_html5.specs.SharedRules.{with_mode, no_frameset, close_paragraph, end_template}
use Rattle.htmd_html5_state.specs.declared.names.TagName.TheVariants as tags
use Rattle.htmd_html5.specs.declared.body_ends.EndRule.TheVariants as rule

-- ---- which rule a name has

-- what else is in text
unfoldable pub text_end_rule : TagName → EndRule
text_end_rule tags.Button = rule.Block
text_end_rule tags.Dd = rule.Block
text_end_rule tags.Dt = rule.Block
text_end_rule tags.Listing = rule.Block
text_end_rule tags.Pre = rule.Block
text_end_rule tags.Form = rule.Form
text_end_rule tags.P = rule.Paragraph
text_end_rule tags.Li = rule.ListItem
text_end_rule tags.H1 = rule.Heading
text_end_rule tags.H2 = rule.Heading
text_end_rule tags.H3 = rule.Heading
text_end_rule tags.H4 = rule.Heading
text_end_rule tags.H5 = rule.Heading
text_end_rule tags.H6 = rule.Heading
text_end_rule tags.A = rule.Formatting
text_end_rule tags.B = rule.Formatting
text_end_rule tags.Big = rule.Formatting
text_end_rule tags.Code = rule.Formatting
text_end_rule tags.Em = rule.Formatting
text_end_rule tags.Font = rule.Formatting
text_end_rule tags.I = rule.Formatting
text_end_rule tags.NoBr = rule.Formatting
text_end_rule tags.S = rule.Formatting
text_end_rule tags.Small = rule.Formatting
text_end_rule tags.Strike = rule.Formatting
text_end_rule tags.Strong = rule.Formatting
text_end_rule tags.Tt = rule.Formatting
text_end_rule tags.U = rule.Formatting
text_end_rule tags.Applet = rule.Embedded
text_end_rule tags.Marquee = rule.Embedded
text_end_rule tags.Object = rule.Embedded
text_end_rule tags.Br = rule.LineBreak
text_end_rule _ = rule.Ordinary

-- the structure of the page, and blocks
abbrev pub end_rule : TagName → EndRule
end_rule tags.Body = rule.Body
end_rule tags.Html = rule.Root
end_rule tags.Template = rule.Template
end_rule tags.Address = rule.Block
end_rule tags.Article = rule.Block
end_rule tags.Aside = rule.Block
end_rule tags.BlockQuote = rule.Block
end_rule tags.Center = rule.Block
end_rule tags.Details = rule.Block
end_rule tags.Dialog = rule.Block
end_rule tags.Dir = rule.Block
end_rule tags.Div = rule.Block
end_rule tags.Dl = rule.Block
end_rule tags.FieldSet = rule.Block
end_rule tags.FigCaption = rule.Block
end_rule tags.Figure = rule.Block
end_rule tags.Footer = rule.Block
end_rule tags.Header = rule.Block
end_rule tags.HGroup = rule.Block
end_rule tags.Main = rule.Block
end_rule tags.Menu = rule.Block
end_rule tags.Nav = rule.Block
end_rule tags.Ol = rule.Block
end_rule tags.Search = rule.Block
end_rule tags.Section = rule.Block
end_rule tags.Summary = rule.Block
end_rule tags.Ul = rule.Block
end_rule tag = text_end_rule tag

-- ---- what the rules do

abbrev pub has_body : StateValue → Bool
has_body s = is_in_scope (Only tags.Body) Default s.stack

-- the body stays open, since more may follow
abbrev pub end_body : StateValue → StateValue
end_body s = if has_body s then with_mode AfterBody s else s

abbrev pub end_root : StateValue → Outcome
end_root s = outcome (end_body s) (has_body s)

abbrev pub end_block : TagName → StateValue → StateValue
end_block tag s = on_stack (close (Only tag) Default) s

abbrev pub close_form : Option ℕ → StateValue → StateValue
close_form None s = s
close_form (Some n) s =
    if is_node_in_scope n s.stack then on_stack (λ stack. without n (pop_while ImpliedEnd stack)) s else s

abbrev pub end_form : StateValue → StateValue
end_form s =
    if is_open (Only tags.Template) s.stack then on_stack (close (Only tags.Form) Default) s
    else close_form s.form (record s { form = None })

-- an end tag of `p` that closes none makes one
abbrev pub end_paragraph : StateValue → StateValue
end_paragraph s =
    if is_in_scope (Only tags.P) ButtonScope s.stack then close_paragraph s
    else insert_void (known tags.P) [] s

abbrev pub end_embedded : TagName → StateValue → StateValue
end_embedded tag s =
    if is_in_scope (Only tag) Default s.stack then clear_to_marker (end_block tag s) else s

-- `</br>` means `<br>`
abbrev pub line_break : StateValue → StateValue
line_break s = no_frameset (insert_void (known tags.Br) [] (reconstruct s))

-- ---- the rules

abbrev pub end_by : EndRule → TagName → StateValue → Outcome
end_by rule.Body tag s = done (end_body s)
end_by rule.Root tag s = end_root s
end_by rule.Template tag s = done (end_template s)
end_by rule.Block tag s = done (end_block tag s)
end_by rule.Form tag s = done (end_form s)
end_by rule.Paragraph tag s = done (end_paragraph s)
end_by rule.ListItem tag s = done (on_stack (close (Only tags.Li) ListItem) s)
end_by rule.Heading tag s = done (on_stack (close Headings Default) s)
end_by rule.Formatting tag s = done (adoption_agency tag s)
end_by rule.Embedded tag s = done (end_embedded tag s)
end_by rule.LineBreak tag s = done (line_break s)
end_by rule.Ordinary tag s = done (on_stack (close_name (known tag)) s)

abbrev pub end_in_body : NameValue → StateValue → Outcome
end_in_body (known tag) s = end_by (end_rule tag) tag s
end_in_body (other text) s = done (on_stack (close_name (other text)) s)
