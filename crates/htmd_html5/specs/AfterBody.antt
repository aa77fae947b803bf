-- The modes "after body" and "after after body" (HTML Standard, 13.2.6.4.19 and 13.2.6.4.22).
use Rattle.std.specs.Prelude.{ℕ, List, Option, Some, None}
use Rattle.htmd_html5_state.specs.Names.{NameValue, known}
use Rattle.htmd_html5.specs.Tokens.{doctype, comment, StartTagValue, TokenValue, start_tag, end_tag, run, end_of_file}
use Rattle.htmd_html5_state.specs.OpenElements.{first_open}
use Rattle.htmd_html5_state.specs.State.{StateValue}
use Rattle.htmd_html5_state.specs.Insertion.{insert_comment_in}
use Rattle.htmd_html5_state.specs.declared.modes.InsertionMode.TheVariants.{InBody, AfterAfterBody}
use Rattle.htmd_html5.specs.declared.tokens.RunKind.TheVariants.{White}
use Rattle.htmd_html5.specs.Outcomes.{Outcome, done, again}
use Rattle.htmd_html5.specs.SharedRules.{with_mode, add_to_root}
use Rattle.htmd_html5.specs.InBody.{run_in_body}
use Rattle.htmd_html5_state.specs.declared.names.TagName.TheVariants as tags

-- what comes late goes to the body
abbrev pub back_to_body : StateValue → Outcome
back_to_body s = again (with_mode InBody s)

abbrev pub start_after_body : NameValue → StartTagValue → StateValue → Outcome
start_after_body (known tags.Html) tag s = done (add_to_root tag s)
start_after_body _ tag s = back_to_body s

abbrev pub end_after_body : NameValue → StateValue → Outcome
end_after_body (known tags.Html) s = done (with_mode AfterAfterBody s)
end_after_body _ s = back_to_body s

abbrev pub comment_in : Option ℕ → List ℕ → StateValue → StateValue
comment_in None text s = s
comment_in (Some n) text s = insert_comment_in n text s

abbrev pub comment_in_root : List ℕ → StateValue → StateValue
comment_in_root text s = comment_in (first_open s.stack) text s

abbrev pub after_body : TokenValue → StateValue → Outcome
after_body (run White text) s = done (run_in_body White text s)
after_body (run kind text) s = back_to_body s
after_body (comment text) s = done (comment_in_root text s)
after_body (doctype quirks) s = done s
after_body (start_tag tag) s = start_after_body tag.name tag s
after_body (end_tag name) s = end_after_body name s
after_body end_of_file s = done s

abbrev pub after_after_body : TokenValue → StateValue → Outcome
after_after_body (run White text) s = done (run_in_body White text s)
after_after_body (run kind text) s = back_to_body s
after_after_body (comment text) s = done (insert_comment_in 0 text s)
after_after_body (doctype quirks) s = done s
after_after_body (start_tag tag) s = start_after_body tag.name tag s
after_after_body (end_tag name) s = back_to_body s
after_after_body end_of_file s = done s
