-- The mode "initial" (HTML Standard, 13.2.6.4.1).
use Rattle.std.specs.Prelude.{true}
use Rattle.htmd_html5.specs.Tokens.{doctype, comment, TokenValue, run}
use Rattle.htmd_html5_state.specs.State.{StateValue}
use Rattle.htmd_html5_state.specs.Insertion.{insert_comment_in, insert_doctype}
use Rattle.htmd_html5_state.specs.declared.modes.InsertionMode.TheVariants.{BeforeHtml}
use Rattle.htmd_html5.specs.declared.tokens.RunKind.TheVariants.{White}
use Rattle.htmd_html5.specs.Outcomes.{Outcome, done, again}

-- a page without a doctype is in quirks mode
abbrev pub leave_initial : StateValue → Outcome
leave_initial s = again (record s { mode = BeforeHtml; quirks = true })

abbrev pub initial : TokenValue → StateValue → Outcome
initial (run White text) s = done s
initial (comment text) s = done (insert_comment_in 0 text s)
initial (doctype quirks) s = done (record (insert_doctype s) { mode = BeforeHtml; quirks = quirks })
initial _ s = leave_initial s
