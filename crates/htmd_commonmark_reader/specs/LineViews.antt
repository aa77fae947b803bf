-- Lines as the reader holds them.
use Rattle.std.specs.Prelude.{◌≡◌, ℕ, ◌+◌, ◌*◌, ◌≤◌, Bool, not, ◌&&◌, ◌==◌, if◌then◌else◌, List, [], ◌∷◌, length, drop}
use Rattle.htmd_lexical.specs.Characters.{line_feed, carriage_return}
use Rattle.htmd_lexical.specs.CharacterClasses.{first_is}
use Rattle.htmd_commonmark_reading.specs.Characters.{past_blanks}
use Rattle.htmd_commonmark_reading.specs.Lines as spec
use Rattle.htmd_commonmark_reading.specs.Lines.{one_column, to_tab_stop, no_white}
use Rattle.htmd_commonmark_reader.specs.declared.lines.Cut.{Cut}
use Rattle.htmd_commonmark_reader.specs.declared.lines.Line.{Line}

-- a byte that ends no line
abbrev pub is_in_line : ℕ → Bool
is_in_line b = not (b == line_feed) && not (b == carriage_return)

-- the text after the line end with which it begins
abbrev pub past_line_end : List ℕ → List ℕ
past_line_end [] = []
past_line_end (c ∷ s) =
    if c == carriage_return
    then if first_is line_feed s then drop 1 s else s
    else if c == line_feed then s else c ∷ s

-- the columns that a character at a column takes, if it is a space or a tab
abbrev pub columns_at : ℕ → ℕ → ℕ
columns_at k c = elim (spec.width c) [ one_column ↦ 1 | to_tab_stop ↦ spec.to_stop k | no_white ↦ 0 ]

-- the greatest column that a text may have
abbrev pub widest : ℕ
widest = 0x4000_0000_0000_0000

abbrev pub cut_of : Cut → spec.Line
cut_of c = spec.line c.column (spec.spaces c.spaces c.text.now)

abbrev pub line_of : Line → spec.Line
line_of l = spec.line l.column (spec.spaces l.spaces l.text.now)

-- what a line holds of its white space is so
pub record IsLine (l : Line) : Type 0 where
  pub indent : l.indent ≡ spec.indent (line_of l)
  pub content : l.content.now ≡ past_blanks l.text.now
  pub bound : l.column + l.spaces + 4 * length l.text.now ≤ widest
