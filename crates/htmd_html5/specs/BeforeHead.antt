-- The mode "before head" (HTML Standard, 13.2.6.4.3).
use Rattle.std.specs.Prelude.{List, [], length, Some}
use Rattle.htmd_lexical.specs.AttributePairs.{AttributePair}
use Rattle.htmd_html5_state.specs.Names.{NameValue, known}
use Rattle.htmd_html5.specs.Tokens.{doctype, comment, StartTagValue, TokenValue, start_tag, end_tag, run}
use Rattle.htmd_html5_state.specs.State.{StateValue}
use Rattle.htmd_html5_state.specs.Insertion.{insert_comment, insert_element}
use Rattle.htmd_html5_state.specs.declared.modes.InsertionMode.TheVariants.{InHead}
use Rattle.htmd_html5.specs.declared.tokens.RunKind.TheVariants.{White}
use Rattle.htmd_html5.specs.Outcomes.{Outcome, done, again}
use Rattle.htmd_html5.specs.SharedRules.{add_to_root}
use Rattle.htmd_html5_state.specs.declared.names.TagName.TheVariants as tags

abbrev pub with_head : NameValue → List AttributePair → StateValue → StateValue
with_head name attributes s =
    record (insert_element name attributes s) { head = Some (length s.nodes); mode = InHead }

abbrev pub imply_head : StateValue → Outcome
imply_head s = again (with_head (known tags.Head) [] s)

abbrev pub start_before_head : NameValue → StartTagValue → StateValue → Outcome
start_before_head (known tags.Html) tag s = done (add_to_root tag s)
start_before_head (known tags.Head) tag s = done (with_head tag.name tag.attributes s)
start_before_head _ tag s = imply_head s

abbrev pub end_before_head : NameValue → StateValue → Outcome
end_before_head (known tags.Head) s = imply_head s
end_before_head (known tags.Body) s = imply_head s
end_before_head (known tags.Html) s = imply_head s
end_before_head (known tags.Br) s = imply_head s
end_before_head _ s = done s

abbrev pub before_head : TokenValue → StateValue → Outcome
before_head (run White text) s = done s
before_head (comment text) s = done (insert_comment text s)
before_head (doctype quirks) s = done s
before_head (start_tag tag) s = start_before_head tag.name tag s
before_head (end_tag name) s = end_before_head name s
before_head _ s = imply_head s
