-- The mode "before html" (HTML Standard, 13.2.6.4.2).
use Rattle.std.specs.Prelude.{List, []}
use Rattle.htmd_lexical.specs.AttributePairs.{AttributePair}
use Rattle.htmd_html5_state.specs.Names.{NameValue, known}
use Rattle.htmd_html5.specs.Tokens.{doctype, comment, StartTagValue, TokenValue, start_tag, end_tag, run}
use Rattle.htmd_html5_state.specs.State.{StateValue}
use Rattle.htmd_html5_state.specs.Insertion.{insert_comment_in, insert_root}
use Rattle.htmd_html5_state.specs.declared.modes.InsertionMode.TheVariants.{BeforeHead}
use Rattle.htmd_html5.specs.declared.tokens.RunKind.TheVariants.{White}
use Rattle.htmd_html5.specs.Outcomes.{Outcome, done, again}
use Rattle.htmd_html5.specs.SharedRules.{with_mode}
use Rattle.htmd_html5_state.specs.declared.names.TagName.TheVariants as tags

abbrev pub with_root : NameValue → List AttributePair → StateValue → StateValue
with_root name attributes s = with_mode BeforeHead (insert_root name attributes s)

abbrev pub imply_root : StateValue → Outcome
imply_root s = again (with_root (known tags.Html) [] s)

abbrev pub start_before_html : NameValue → StartTagValue → StateValue → Outcome
start_before_html (known tags.Html) tag s = done (with_root tag.name tag.attributes s)
start_before_html _ tag s = imply_root s

abbrev pub end_before_html : NameValue → StateValue → Outcome
end_before_html (known tags.Head) s = imply_root s
end_before_html (known tags.Body) s = imply_root s
end_before_html (known tags.Html) s = imply_root s
end_before_html (known tags.Br) s = imply_root s
end_before_html _ s = done s

abbrev pub before_html : TokenValue → StateValue → Outcome
before_html (run White text) s = done s
before_html (comment text) s = done (insert_comment_in 0 text s)
before_html (doctype quirks) s = done s
before_html (start_tag tag) s = start_before_html tag.name tag s
before_html (end_tag name) s = end_before_html name s
before_html _ s = imply_root s
