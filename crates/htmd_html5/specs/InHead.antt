-- The mode "in head" (HTML Standard, 13.2.6.4.4).
use Rattle.std.specs.Prelude.{if◌then◌else◌}
use Rattle.htmd_html5_state.specs.Names.{NameValue, known}
use Rattle.htmd_html5.specs.Tokens.{doctype, comment, StartTagValue, TokenValue, start_tag, end_tag, run}
use Rattle.htmd_html5_state.specs.OpenElements.{pop}
use Rattle.htmd_html5_state.specs.State.{StateValue, on_stack}
use Rattle.htmd_html5_state.specs.Insertion.{insert_text, insert_comment}
use Rattle.htmd_html5_state.specs.declared.modes.InsertionMode.TheVariants.{InHeadNoscript, AfterHead}
use Rattle.htmd_html5.specs.declared.tokens.RunKind.TheVariants.{White}
use Rattle.htmd_html5.specs.Outcomes.{Outcome, done, again}
use Rattle.htmd_html5.specs.SharedRules.{with_mode, insert_tag, insert_raw_tag, add_to_root, end_template}
use Rattle.htmd_html5.specs.SharedRules.{insert_head_element}
use Rattle.htmd_html5_state.specs.declared.names.TagName.TheVariants as tags
use Rattle.htmd_lexical.specs.declared.content_model.RawElement.TheVariants as raw

abbrev pub close_head : StateValue → StateValue
close_head s = with_mode AfterHead (on_stack pop s)

-- with scripting on, `noscript` holds only text
abbrev pub noscript_in_head : StartTagValue → StateValue → StateValue
noscript_in_head tag s =
    if s.scripting then insert_raw_tag raw.Noscript tag s else with_mode InHeadNoscript (insert_tag tag s)

abbrev pub start_in_head : NameValue → StartTagValue → StateValue → Outcome
start_in_head (known tags.Html) tag s = done (add_to_root tag s)
start_in_head (known tags.Base) tag s = done (insert_head_element tag.name tag s)
start_in_head (known tags.BaseFont) tag s = done (insert_head_element tag.name tag s)
start_in_head (known tags.BgSound) tag s = done (insert_head_element tag.name tag s)
start_in_head (known tags.Link) tag s = done (insert_head_element tag.name tag s)
start_in_head (known tags.Meta) tag s = done (insert_head_element tag.name tag s)
start_in_head (known tags.Title) tag s = done (insert_head_element tag.name tag s)
start_in_head (known tags.NoFrames) tag s = done (insert_head_element tag.name tag s)
start_in_head (known tags.Style) tag s = done (insert_head_element tag.name tag s)
start_in_head (known tags.Script) tag s = done (insert_head_element tag.name tag s)
start_in_head (known tags.Template) tag s = done (insert_head_element tag.name tag s)
start_in_head (known tags.NoScript) tag s = done (noscript_in_head tag s)
start_in_head (known tags.Head) tag s = done s
start_in_head _ tag s = again (close_head s)

abbrev pub end_in_head : NameValue → StateValue → Outcome
end_in_head (known tags.Head) s = done (close_head s)
end_in_head (known tags.Template) s = done (end_template s)
end_in_head (known tags.Body) s = again (close_head s)
end_in_head (known tags.Html) s = again (close_head s)
end_in_head (known tags.Br) s = again (close_head s)
end_in_head _ s = done s

abbrev pub in_head : TokenValue → StateValue → Outcome
in_head (run White text) s = done (insert_text text s)
in_head (comment text) s = done (insert_comment text s)
in_head (doctype quirks) s = done s
in_head (start_tag tag) s = start_in_head tag.name tag s
in_head (end_tag name) s = end_in_head name s
in_head _ s = again (close_head s)
