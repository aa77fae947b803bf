-- ISO-2022-JP: the Encoding Standard, 12.2.1, "ISO-2022-JP decoder". A sequence here may be an escape sequence, which
-- has no character.
use Rattle.std.specs.Prelude.{ℕ, zero, suc, ◌+◌, ◌-◌, ◌*◌, Bool, true, false, not, ◌&&◌, ◌||◌, ◌==◌, if◌then◌else◌}
use Rattle.std.specs.Prelude.{List, [], ◌∷◌, ◌++◌, Option, Some, None, encode_utf8_all}
use Rattle.std.specs.Char.{is_ascii}
use Rattle.htmd_lexical.specs.Numbers.{is_between}
use Rattle.htmd_encodings.specs.declared.indexes.jis0208.TheConstants.{JIS0208}
use Rattle.htmd_encodings.specs.declared.iso_2022_jp.Mode.{Mode}
use Rattle.htmd_encodings.specs.declared.iso_2022_jp.Mode.TheVariants as mode
use Rattle.htmd_encodings.specs.declared.iso_2022_jp.Step.{Step}
use Rattle.htmd_encodings.specs.declared.sequences.Characters.TheVariants.{Nothing, One}
use Rattle.htmd_encodings.specs.declared.sequences.Sequence.{Sequence}
use Rattle.htmd_encodings.specs.Sequences.{character_at, characters_of, error, reads}

-- ---- characters

-- an ASCII byte that stands for itself
abbrev pub is_plain : ℕ → Bool
is_plain b = is_ascii b && not ((b == 0x0E) || (b == 0x0F) || (b == 0x1B))

-- the state "trail byte": an escape sequence is given back
abbrev pub after_lead : ℕ → List ℕ → Sequence
after_lead lead [] = error 0
after_lead lead (b ∷ s) =
    if b == 0x1B then error 0
    else if is_between 0x21 0x7E b then reads (character_at JIS0208 ((lead - 0x21) * 94 + (b - 0x21))) 1
    else error 1

-- the states "ASCII", "Roman", "katakana" and "lead byte"
abbrev pub sequence_in : Mode → ℕ → List ℕ → Sequence
sequence_in mode.Ascii b s = if is_plain b then reads b 0 else error 0
sequence_in mode.Roman b s =
    if b == 0x5C then reads 0xA5 0
    else if b == 0x7E then reads 0x203E 0
    else if is_plain b then reads b 0
    else error 0
sequence_in mode.Katakana b s = if is_between 0x21 0x5F b then reads (0xFF61 - 0x21 + b) 0 else error 0
sequence_in mode.Jis0208 b s = if is_between 0x21 0x7E b then after_lead b s else error 0

-- ---- escape sequences

-- the state that an escape sequence ends in, by the two bytes after the first
abbrev pub mode_of : ℕ → ℕ → Option Mode
mode_of lead b =
    if (lead == 0x28) && (b == 0x42) then Some mode.Ascii
    else if (lead == 0x28) && (b == 0x4A) then Some mode.Roman
    else if (lead == 0x28) && (b == 0x49) then Some mode.Katakana
    else if (lead == 0x24) && ((b == 0x40) || (b == 0x42)) then Some mode.Jis0208
    else None

-- a step that stays in a state; `is_escaped` is the decoder's "output flag": an escape sequence came right before
abbrev pub stays : Mode → Sequence → Step
stays in_mode sequence =
    record { characters = sequence.characters; further = sequence.further; mode = in_mode; is_escaped = false }

-- a second escape sequence in a row is an error, but counts
abbrev pub enters : Mode → Bool → Step
enters new is_escaped =
    record { characters = if is_escaped then One 0xFFFD else Nothing; further = 2; mode = new; is_escaped = true }

abbrev pub by_escape : Mode → Bool → Option Mode → Step
by_escape old is_escaped (Some new) = enters new is_escaped
by_escape old is_escaped None = stays old (error 0)

-- the states "escape start" and "escape": all bytes after the first are given back if they are no escape sequence
abbrev pub after_escape : Mode → Bool → List ℕ → Step
after_escape old is_escaped [] = stays old (error 0)
after_escape old is_escaped (lead ∷ []) = stays old (error 0)
after_escape old is_escaped (lead ∷ b ∷ s) = by_escape old is_escaped (mode_of lead b)

-- ---- the decoder

abbrev pub step_of : Mode → Bool → ℕ → List ℕ → Step
step_of in_mode is_escaped b s =
    if b == 0x1B then after_escape in_mode is_escaped s else stays in_mode (sequence_in in_mode b s)

-- the characters of bytes from a state on; the first `eaten` bytes are eaten already
abbrev pub characters_in : Mode → Bool → ℕ → List ℕ → List ℕ
characters_in in_mode is_escaped eaten [] = []
characters_in in_mode is_escaped zero (b ∷ s) =
    characters_of (step_of in_mode is_escaped b s).characters
    ++ characters_in (step_of in_mode is_escaped b s).mode (step_of in_mode is_escaped b s).is_escaped
    (step_of in_mode is_escaped b s).further s
characters_in in_mode is_escaped (suc eaten) (b ∷ s) = characters_in in_mode is_escaped eaten s

abbrev pub iso_2022_jp_text : List ℕ → List ℕ
iso_2022_jp_text bytes = encode_utf8_all (characters_in mode.Ascii false 0 bytes)
