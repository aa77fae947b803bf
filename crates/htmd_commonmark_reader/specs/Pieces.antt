-- Pieces of a text, as the reader holds them, and what it appends of them.
use Rattle.std.specs.Prelude.{◌≡◌, ℕ, Bool, true, false, not, ◌&&◌, ◌==◌, List, ◌++◌}
use Rattle.std.specs.Char.{encode_utf8}
use Rattle.htmd_lexical.specs.Characters.{ampersand, backslash}
use Rattle.htmd_commonmark_reading.specs.Characters as spec
use Rattle.htmd_commonmark_reader.specs.declared.characters.Meaning.{Meaning}
use Rattle.htmd_commonmark_reader.specs.declared.characters.Meaning.TheVariants.{One, Named}
use Rattle.htmd_commonmark_reader.specs.declared.characters.Piece.{Piece}

abbrev pub meaning_of : Meaning → List ℕ
meaning_of (One c) = encode_utf8 c
meaning_of (Named s) = s.now

abbrev pub piece_of : Piece → spec.Piece
piece_of p = record { meaning = meaning_of p.meaning; following = p.following }

-- what begins with a character, with escapes or without
abbrev pub piece_in : Bool → ℕ → List ℕ → spec.Piece
piece_in true = spec.escaped
piece_in false = spec.referenced

-- a byte that stands for itself whatever follows
abbrev pub is_literal : Bool → ℕ → Bool
is_literal escapes b = not (b == ampersand) && not (escapes && (b == backslash))

-- what is between two places of a text was appended
abbrev pub HasPushed : Bool → List ℕ → List ℕ → List ℕ → List ℕ → Type 0
HasPushed escapes before s after rest =
    after ++ spec.resolved (piece_in escapes) 0 rest ≡ before ++ spec.resolved (piece_in escapes) 0 s
