-- Texts, run by run; in a table itself all that is left is taken at once (HTML Standard, 13.2.6.4.10).
use Rattle.std.specs.Prelude.{ℕ, Bool, true, false, ◌&&◌, if◌then◌else◌, List, [], length, suc, zero}
use Rattle.htmd_lexical.specs.CharacterClasses.{is_empty}
use Rattle.htmd_html5.specs.Tokens.{TokenValue, run}
use Rattle.htmd_html5_state.specs.OpenElements.{current_is}
use Rattle.htmd_html5_state.specs.State.{StateValue}
use Rattle.htmd_html5_state.specs.declared.modes.InsertionMode.TheVariants.{InTable, InTableBody, InRow}
use Rattle.htmd_html5_state.specs.declared.modes.InsertionMode.{InsertionMode}
use Rattle.htmd_html5_state.specs.declared.sets.NameSet.TheVariants.{Fostering}
use Rattle.htmd_html5.specs.Runs.{first_kind, first_run, after_first_run}
use Rattle.htmd_html5.specs.Outcomes.{Outcome}
use Rattle.htmd_html5.specs.InTable.{table_text}
use Rattle.htmd_html5.specs.Processing.{by_rules, turns}

-- a text's first part was put into a state, and this is left
pub record Taken : Type 0 where
  pub state : StateValue
  pub rest : List ℕ

abbrev pub is_table_mode : InsertionMode → Bool
is_table_mode InTable = true
is_table_mode InTableBody = true
is_table_mode InRow = true
is_table_mode _ = false

abbrev pub takes_all : StateValue → Bool
takes_all s = is_table_mode s.mode && current_is Fostering s.stack

abbrev pub taken : StateValue → List ℕ → Taken
taken s rest = record { state = s; rest = rest }

abbrev pub after_run : (StateValue → Taken) → List ℕ → Outcome → Taken
after_run go rest a = if a.again then go a.state else taken a.state rest

abbrev pub first_token : List ℕ → TokenValue
first_token text = run (first_kind text) (first_run text)

abbrev pub take_within : ℕ → List ℕ → StateValue → Taken
take_within zero text s = taken s (after_first_run text)
take_within (suc k) text s =
    if takes_all s then taken (table_text text s) []
    else after_run (take_within k text) (after_first_run text) (by_rules (first_token text) s)

abbrev pub take_part : List ℕ → StateValue → Taken
take_part text s = take_within (turns s) text s

abbrev pub put_within : ℕ → List ℕ → StateValue → StateValue
put_within zero text s = s
put_within (suc k) text s =
    if is_empty text then s else put_within k (take_part text s).rest (take_part text s).state

-- each part has at least one character
abbrev pub put_text : List ℕ → StateValue → StateValue
put_text text s = put_within (length text) text s
