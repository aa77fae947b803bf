-- The mode "after head" (HTML Standard, 13.2.6.4.6).
use Rattle.std.specs.Prelude.{ℕ, List, [], Option, Some, None}
use Rattle.htmd_lexical.specs.AttributePairs.{AttributePair}
use Rattle.htmd_html5_state.specs.Names.{NameValue, known}
use Rattle.htmd_html5.specs.Tokens.{doctype, comment, StartTagValue, TokenValue, start_tag, end_tag, run}
use Rattle.htmd_html5_state.specs.OpenElements.{without}
use Rattle.htmd_html5_state.specs.State.{StateValue, on_stack}
use Rattle.htmd_html5_state.specs.Insertion.{insert_text, insert_comment, insert_element, open_again}
use Rattle.htmd_html5_state.specs.declared.modes.InsertionMode.TheVariants.{InBody, InFrameset}
use Rattle.htmd_html5.specs.declared.tokens.RunKind.TheVariants.{White}
use Rattle.htmd_html5.specs.Outcomes.{Outcome, done, again}
use Rattle.htmd_html5.specs.SharedRules.{with_mode, insert_tag, no_frameset, add_to_root, end_template}
use Rattle.htmd_html5.specs.SharedRules.{insert_head_element}
use Rattle.htmd_html5_state.specs.declared.names.TagName.TheVariants as tags

abbrev pub with_body : NameValue → List AttributePair → StateValue → StateValue
with_body name attributes s = with_mode InBody (insert_element name attributes s)

abbrev pub imply_body : StateValue → Outcome
imply_body s = again (with_body (known tags.Body) [] s)

abbrev pub put_frameset : StartTagValue → StateValue → StateValue
put_frameset tag s = with_mode InFrameset (insert_tag tag s)

-- an element of the head; the head is open only for that
abbrev pub insert_in_head : Option ℕ → StartTagValue → StateValue → StateValue
insert_in_head None tag s = insert_head_element tag.name tag s
insert_in_head (Some head) tag s =
    on_stack (without head) (insert_head_element tag.name tag (open_again head (known tags.Head) s))

abbrev pub insert_late : StartTagValue → StateValue → StateValue
insert_late tag s = insert_in_head s.head tag s

abbrev pub start_after_head : NameValue → StartTagValue → StateValue → Outcome
start_after_head (known tags.Html) tag s = done (add_to_root tag s)
start_after_head (known tags.Body) tag s = done (no_frameset (with_body tag.name tag.attributes s))
start_after_head (known tags.FrameSet) tag s = done (put_frameset tag s)
start_after_head (known tags.Base) tag s = done (insert_late tag s)
start_after_head (known tags.BaseFont) tag s = done (insert_late tag s)
start_after_head (known tags.BgSound) tag s = done (insert_late tag s)
start_after_head (known tags.Link) tag s = done (insert_late tag s)
start_after_head (known tags.Meta) tag s = done (insert_late tag s)
start_after_head (known tags.NoFrames) tag s = done (insert_late tag s)
start_after_head (known tags.Script) tag s = done (insert_late tag s)
start_after_head (known tags.Style) tag s = done (insert_late tag s)
start_after_head (known tags.Template) tag s = done (insert_late tag s)
start_after_head (known tags.Title) tag s = done (insert_late tag s)
start_after_head (known tags.Head) tag s = done s
start_after_head _ tag s = imply_body s

abbrev pub end_after_head : NameValue → StateValue → Outcome
end_after_head (known tags.Template) s = done (end_template s)
end_after_head (known tags.Body) s = imply_body s
end_after_head (known tags.Html) s = imply_body s
end_after_head (known tags.Br) s = imply_body s
end_after_head _ s = done s

abbrev pub after_head : TokenValue → StateValue → Outcome
after_head (run White text) s = done (insert_text text s)
after_head (comment text) s = done (insert_comment text s)
after_head (doctype quirks) s = done s
after_head (start_tag tag) s = start_after_head tag.name tag s
after_head (end_tag name) s = end_after_head name s
after_head _ s = imply_body s
