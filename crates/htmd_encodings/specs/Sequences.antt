-- Encodings whose characters are of several bytes: the Encoding Standard, 4.1. A decoder's steps from the first byte
-- of a character to its answer are a sequence: the characters of the answer, and how many bytes after the first it has
-- eaten. Bytes that it gives back aren't among them. An error is U+FFFD.
use Rattle.std.specs.Prelude.{ℕ, zero, suc, ◌&&◌, ◌==◌, if◌then◌else◌, List, [], ◌∷◌, ◌++◌, get_or}
use Rattle.std.specs.Char.{is_ascii}
use Rattle.htmd_encodings.specs.declared.sequences.Characters.{Characters}
use Rattle.htmd_encodings.specs.declared.sequences.Characters.TheVariants.{Nothing, One, Two}
use Rattle.htmd_encodings.specs.declared.sequences.Sequence.{Sequence}

abbrev pub characters_of : Characters → List ℕ
characters_of Nothing = []
characters_of (One c) = c ∷ []
characters_of (Two c d) = c ∷ d ∷ []

-- an answer of one character, of two, and an error, with this many bytes eaten after the first
abbrev pub reads : ℕ → ℕ → Sequence
reads c further = record { characters = One c; further = further }

abbrev pub reads_two : ℕ → ℕ → ℕ → Sequence
reads_two c d further = record { characters = Two c d; further = further }

abbrev pub error : ℕ → Sequence
error further = reads 0xFFFD further

-- the answer to a second byte by the character of both; without a character, an ASCII byte is given back
abbrev pub pair : ℕ → ℕ → Sequence
pair c b = if (c == 0xFFFD) && is_ascii b then error 0 else reads c 1

-- the character of a pointer, or U+FFFD if the index has none ("index code point")
abbrev pub character_at : List ℕ → ℕ → ℕ
character_at index pointer = get_or index pointer 0xFFFD

-- the characters of bytes by a decoder that begins each sequence in one state; the first `eaten` bytes are eaten
-- already
abbrev pub characters_after : (ℕ → List ℕ → Sequence) → ℕ → List ℕ → List ℕ
characters_after sequence eaten [] = []
characters_after sequence zero (b ∷ s) =
    characters_of (sequence b s).characters ++ characters_after sequence (sequence b s).further s
characters_after sequence (suc eaten) (b ∷ s) = characters_after sequence eaten s
