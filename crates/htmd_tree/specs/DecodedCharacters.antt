-- What the functions on references answer, as the grammar's pieces.
use Rattle.std.specs.Prelude.{◌≡◌, List, ℕ, ◌-◌, ◌<◌, ◌≤◌, length, slice_index, Bool, not}
use Rattle.std.specs.Prelude.{◌&&◌, ◌==◌, Result, Ok, Err}
use Rattle.std.specs.Borrow.{Bor}
use Rattle.std.specs.Char.{encode_utf8}
use Rattle.htmd_lexical.specs.Characters.{carriage_return, ampersand}
use Rattle.htmd_grammar.specs.References.{Piece, stands, wrong, behind, decode}
use Rattle.htmd_grammar.specs.Rules.{NamedCharacter, named_characters}
use Rattle.htmd_grammar.specs.declared.fault.FaultKind.{FaultKind}
use Rattle.htmd_tree.specs.declared.reader.references.Character.{Character}

-- a name and its character
abbrev pub entry : Bor (List ℕ) × ℕ → NamedCharacter
entry known = record { name = known.0.now; character = known.1 }

abbrev pub piece_of : Result Character FaultKind → Piece
piece_of (Ok character) = stands character.behind (encode_utf8 character.value)
piece_of (Err kind) = wrong kind

-- a piece may end after this many bytes: the last of them is ASCII
abbrev pub IsPieceEnd : List ℕ → ℕ → Type 0
IsPieceEnd s n = (n ≤ length s) × (0 < n → slice_index s (n - 1) < 128)

-- what is between two places of a text was appended to a value, with what it denotes
abbrev pub HasPushed : List ℕ → List ℕ → List ℕ → List ℕ → Type 0
HasPushed before s after rest =
    behind after (decode named_characters 0 rest) ≡ behind before (decode named_characters 0 s)

-- a byte that belongs to no reference or line end
abbrev pub is_itself : ℕ → Bool
is_itself b = not (b == ampersand) && not (b == carriage_return)
