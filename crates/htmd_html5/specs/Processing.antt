-- A token is processed by the rules of one mode after another (HTML Standard, 13.2.6).
use Rattle.std.specs.Prelude.{ℕ, if◌then◌else◌, length, suc, zero, ◌+◌}
use Rattle.htmd_html5.specs.Tokens.{TokenValue}
use Rattle.htmd_html5_state.specs.State.{StateValue}
use Rattle.htmd_html5.specs.Outcomes.{Outcome}
use Rattle.htmd_html5.specs.Modes.{by_mode_rules}
use Rattle.htmd_html5.specs.ForeignContent.{is_foreign, in_foreign_content}

abbrev pub by_rules : TokenValue → StateValue → Outcome
by_rules token s = if is_foreign token s then in_foreign_content token s else by_mode_rules token s

-- Whatever processes a token again goes forward in the order of the modes or closes an element, so that this is enough.
abbrev pub turns : StateValue → ℕ
turns s = length s.stack + 23

abbrev pub after_outcome : (StateValue → StateValue) → Outcome → StateValue
after_outcome go a = if a.again then go a.state else a.state

abbrev pub process_within : ℕ → TokenValue → StateValue → StateValue
process_within zero token s = s
process_within (suc k) token s = after_outcome (process_within k token) (by_rules token s)

abbrev pub process : TokenValue → StateValue → StateValue
process token s = process_within (turns s) token s
