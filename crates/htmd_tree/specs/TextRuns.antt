-- Runs of characters and references, as the reader takes them and as the grammar's steps do.
use Rattle.std.specs.Prelude.{◌≡◌, ◌<◌, ℕ, Bool, true, false, not, ◌&&◌, ◌||◌, ◌==◌}
use Rattle.std.specs.Prelude.{if◌then◌else◌, List, [], length, drop}
use Rattle.std.specs.Prelude.{Option, Some, None, Result, Ok, Err, slice_index, ⊤}
use Rattle.std.specs.Borrow.{Bor}
use Rattle.std.specs.List.{list_all}
use Rattle.htmd_lexical.specs.Characters.{less_than_sign, ampersand, carriage_return}
use Rattle.htmd_lexical.specs.WhiteSpace.{is_ascii_white_space}
use Rattle.htmd_lexical.specs.CharacterClasses.{is_empty}
use Rattle.htmd_grammar.specs.HtmlDocuments.{above_body}
use Rattle.htmd_grammar.specs.Nesting.{parent_name, holds_parts}
use Rattle.htmd_grammar.specs.RawContent.{begins_markup, holds_raw_text, holds_text_alone}
use Rattle.htmd_lexical.specs.EndTags.{begins_own_end}
use Rattle.htmd_grammar.specs.References.{Piece, stands, wrong, piece_at}
use Rattle.htmd_grammar.specs.Rules.{project, named_characters}
use Rattle.htmd_grammar.specs.ReaderSteps.{OpenElement, State, step, Reaches, names_of, is_implied, is_too_deep}
use Rattle.htmd_grammar.specs.declared.fault.FaultKind.{FaultKind}
use Rattle.htmd_grammar.specs.declared.fault.FaultKind.TheVariants.{StrayText}
use Rattle.htmd_tree.specs.DecodedCharacters.{piece_of, IsPieceEnd}
use Rattle.htmd_tree.specs.declared.reader.Stop.{Stop}
use Rattle.htmd_tree.specs.declared.reader.Stop.TheVariants.{Memory, Refused}
use Rattle.htmd_tree.specs.declared.reader.references.Character.{Character}
use Rattle.htmd_tree.specs.declared.reader.texts.TextSurroundings.{TextSurroundings}

-- a character stands for itself and may stand there, as its first byte tells
abbrev pub is_literal : Bool → ℕ → Bool
is_literal parts b =
    if parts then is_ascii_white_space b && not (b == carriage_return)
    else not (b == less_than_sign) && not (b == ampersand) && not (b == carriage_return)

-- a run ends here, in an element with this name that holds only text or not
abbrev pub is_run_end : Bool → List ℕ → List ℕ → Bool
is_run_end alone n s = is_empty s || (if alone then begins_own_end n s else begins_markup s)

-- what is kept for a text is what these open elements ask of it
pub record TellsOfText (scripting : Bool) (around : TextSurroundings) (n : List ℕ) (fs : List OpenElement) : Type 0
  where
    pub name_is : n ≡ parent_name (names_of above_body fs)
    pub alone_is : around.alone ≡ holds_text_alone scripting n
    pub parts_is : around.parts ≡ holds_parts n
    pub deep_is : around.too_deep ≡ is_too_deep (project scripting) above_body fs
    pub no_raw_text : holds_raw_text scripting n ≡ false
    pub no_rows : (is_implied fs && around.alone) ≡ false

-- in the midst of a text
abbrev pub in_run : List OpenElement → List ℕ → List ℕ → State
in_run fs run rest = record { stack = fs; run = run; rest = rest }

-- ---- the first character of a text

abbrev pub first_piece : List ℕ → Piece
first_piece s = piece_at named_characters (slice_index s 0) (drop 1 s)

-- what is wrong with a piece there
abbrev pub fault_of : Bool → Piece → Option FaultKind
fault_of parts (wrong kind) = Some kind
fault_of parts (stands n v) = if parts && not (list_all is_ascii_white_space v) then Some StrayText else None

pub record IsCharacterIn (parts : Bool) (s : List ℕ) (character : Character) : Type 0 where
  pub piece : first_piece s ≡ piece_of (Ok character)
  pub right : fault_of parts (first_piece s) ≡ None
  pub end : IsPieceEnd (drop 1 s) character.behind
  pub ascii : slice_index s 0 < 128

abbrev pub IsFaultIn : Bool → List ℕ → FaultKind → Type 0
IsFaultIn parts s kind = fault_of parts (first_piece s) ≡ Some kind

-- ---- runs

-- what was there was appended to the run, or there is a fault
abbrev pub Pushes : Bool → List OpenElement → List ℕ → List ℕ → List ℕ → Result (Bor (List ℕ)) Stop
    → Type 0
Pushes scripting fs before s after (Ok rest) =
    Reaches (project scripting) above_body (in_run fs before s) (in_run fs after rest.now)
Pushes scripting fs before s after (Err Memory) = ⊤
Pushes scripting fs before s after (Err (Refused left kind)) =
    (step (project scripting) above_body (in_run fs before s) ≡ Err kind) × (left ≡ length s)

-- the steps lead to a fault in the run
abbrev pub StopsRun : Bool → List OpenElement → List ℕ → Stop → Type 0
StopsRun scripting fs s Memory = ⊤
StopsRun scripting fs s (Refused left kind) =
    (st : State) × Reaches (project scripting) above_body (in_run fs [] s) st
    × (step (project scripting) above_body st ≡ Err kind) × (is_empty st.rest ≡ false)
    × (left ≡ length st.rest)

-- the steps lead to the end of the run, or to a fault in it
abbrev pub ReadsRun : Bool → List OpenElement → TextSurroundings → List ℕ → List ℕ → List ℕ
    → Result (Bor (List ℕ)) Stop → Type 0
ReadsRun scripting fs around n s run (Ok rest) =
    Reaches (project scripting) above_body (in_run fs [] s) (in_run fs run rest.now)
    × (is_run_end around.alone n rest.now ≡ true)
ReadsRun scripting fs around n s run (Err stop) = StopsRun scripting fs s stop
