-- What was written so far of a block, and where inlines are written.
use Rattle.std.specs.Prelude.{ℕ, ◌-◌, ◌%◌, Bool, false, true, ◌==◌, if◌then◌else◌, List, [], ◌++◌, length, take}
use Rattle.std.specs.Prelude.{Option, Some, None, is_none, map, string_bytes}
use Rattle.std.specs.List.{suffix_len}
use Rattle.htmd_lexical.specs.Characters.{backslash, line_feed}
use Rattle.htmd_commonmark.specs.CharacterKinds.{last_character}
use Rattle.htmd_commonmark.specs.declared.line.LineKind.{LineKind}
use Rattle.htmd_commonmark.specs.declared.line.LineKind.TheVariants.{Paragraph, Heading, Cell}
use Rattle.htmd_commonmark.specs.declared.inlines.InlineWriter.{InlineWriter}

-- the text of the block so far, and the link reference definitions of the document so far, a line each
pub record Written : Type 0 where
  pub text : List ℕ
  pub definitions : List (List ℕ)

abbrev pub written_of : InlineWriter → Written
written_of w = record { text = string_bytes w.text; definitions = map string_bytes w.definitions.items }

abbrev pub nothing_written : Written
nothing_written = record { text = []; definitions = [] }

-- with this behind the text
abbrev pub wrote : Written → List ℕ → Written
wrote w s = record { text = w.text ++ s; definitions = w.definitions }

-- a heading and a cell are one line
abbrev pub is_one_line : LineKind → Bool
is_one_line Paragraph = false
is_one_line Heading = true
is_one_line Cell = true

abbrev pub is_heading : LineKind → Bool
is_heading Heading = true
is_heading _ = false

abbrev pub is_cell : LineKind → Bool
is_cell Cell = true
is_cell _ = false

-- a character, unless the line ends there
abbrev pub in_line : Option ℕ → Option ℕ
in_line None = None
in_line (Some c) = if c == line_feed then None else Some c

-- what stands in the line before what is written next
abbrev pub character_before : List ℕ → Option ℕ
character_before s = in_line (last_character s)

abbrev pub begins_line : List ℕ → Bool
begins_line s = is_none (character_before s)

abbrev pub is_backslash : ℕ → Bool
is_backslash b = b == backslash

-- a backslash escapes the last sign: an odd number of them stands before it
abbrev pub is_last_escaped : List ℕ → Bool
is_last_escaped s = suffix_len is_backslash (take (length s - 1) s) % 2 == 1
