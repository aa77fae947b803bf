-- The mode "in head noscript" (HTML Standard, 13.2.6.4.5).
use Rattle.htmd_html5_state.specs.Names.{NameValue, known}
use Rattle.htmd_html5.specs.Tokens.{doctype, comment, StartTagValue, TokenValue, start_tag, end_tag, run}
use Rattle.htmd_html5_state.specs.OpenElements.{pop}
use Rattle.htmd_html5_state.specs.State.{StateValue, on_stack}
use Rattle.htmd_html5_state.specs.Insertion.{insert_text, insert_comment}
use Rattle.htmd_html5_state.specs.declared.modes.InsertionMode.TheVariants.{InHead}
use Rattle.htmd_html5.specs.declared.tokens.RunKind.TheVariants.{White}
use Rattle.htmd_html5.specs.Outcomes.{Outcome, done, again}
use Rattle.htmd_html5.specs.SharedRules.{with_mode, add_to_root, insert_head_element}
use Rattle.htmd_html5_state.specs.declared.names.TagName.TheVariants as tags

abbrev pub close_noscript : StateValue → StateValue
close_noscript s = with_mode InHead (on_stack pop s)

abbrev pub start_in_noscript : NameValue → StartTagValue → StateValue → Outcome
start_in_noscript (known tags.Html) tag s = done (add_to_root tag s)
start_in_noscript (known tags.BaseFont) tag s = done (insert_head_element tag.name tag s)
start_in_noscript (known tags.BgSound) tag s = done (insert_head_element tag.name tag s)
start_in_noscript (known tags.Link) tag s = done (insert_head_element tag.name tag s)
start_in_noscript (known tags.Meta) tag s = done (insert_head_element tag.name tag s)
start_in_noscript (known tags.NoFrames) tag s = done (insert_head_element tag.name tag s)
start_in_noscript (known tags.Style) tag s = done (insert_head_element tag.name tag s)
start_in_noscript (known tags.Head) tag s = done s
start_in_noscript (known tags.NoScript) tag s = done s
start_in_noscript _ tag s = again (close_noscript s)

abbrev pub end_in_noscript : NameValue → StateValue → Outcome
end_in_noscript (known tags.NoScript) s = done (close_noscript s)
end_in_noscript (known tags.Br) s = again (close_noscript s)
end_in_noscript _ s = done s

abbrev pub in_head_noscript : TokenValue → StateValue → Outcome
in_head_noscript (run White text) s = done (insert_text text s)
in_head_noscript (comment text) s = done (insert_comment text s)
in_head_noscript (doctype quirks) s = done s
in_head_noscript (start_tag tag) s = start_in_noscript tag.name tag s
in_head_noscript (end_tag name) s = end_in_noscript name s
in_head_noscript _ s = again (close_noscript s)
