-- Lines (CommonMark 0.31.2, 2.1) and tabs (2.2).
use Rattle.std.specs.Prelude.{ℕ, zero, suc, ◌+◌, ◌-◌, ◌%◌, Bool, true, false, ◌==◌, nat_le, if◌then◌else◌}
use Rattle.std.specs.Prelude.{List, [], ◌∷◌, ◌++◌, drop}
use Rattle.std.specs.List.{list_all}
use Rattle.std.specs.Char.{encode_utf8}
use Rattle.htmd_lexical.specs.Characters.{null, tab, line_feed, carriage_return, space}
use Rattle.htmd_lexical.specs.CharacterClasses.{first_is}
use Rattle.htmd_commonmark_reading.specs.Characters.{is_space_or_tab, replacement_character}

-- ---- the lines of a text

-- a character that begins a line's rest, before the lines that follow
abbrev pub onto_first : ℕ → List (List ℕ) → List (List ℕ)
onto_first c [] = (c ∷ []) ∷ []
onto_first c (l ∷ ls) = (c ∷ l) ∷ ls

-- LF, CR, and the two together end a line (2.1); each line is given without its end
abbrev pub split_lines : List ℕ → List (List ℕ)
split_lines [] = []
split_lines (c ∷ s) =
    if c == line_feed
    then [] ∷ split_lines s
    else if c == carriage_return
    then if first_is line_feed s then split_lines s else [] ∷ split_lines s
    else onto_first c (split_lines s)

-- U+0000 is replaced by U+FFFD (2.3)
abbrev pub without_null : List ℕ → List ℕ
without_null [] = []
without_null (c ∷ s) = if c == null then encode_utf8 replacement_character ++ without_null s else c ∷ without_null s

-- ---- columns

-- What is left of a line once the markers of its containers are cut off, and the column where that begins.
pub record Line : Type 0 where
  pub column : ℕ
  pub text : List ℕ

abbrev pub line : ℕ → List ℕ → Line
line k s = record { column = k; text = s }

abbrev pub placed : List (List ℕ) → List Line
placed [] = []
placed (l ∷ ls) = line 0 l ∷ placed ls

abbrev pub lines : List ℕ → List Line
lines s = placed (split_lines (without_null s))

-- nothing but spaces and tabs (2.1)
abbrev pub is_blank_text : List ℕ → Bool
is_blank_text s = list_all is_space_or_tab s

abbrev pub is_blank : Line → Bool
is_blank l = is_blank_text l.text

-- what a character is for columns (2.2)
pub data Width : Type 0 where
  one_column : Width
  to_tab_stop : Width
  no_white : Width

abbrev pub width : ℕ → Width
width c = if c == space then one_column else if c == tab then to_tab_stop else no_white

-- columns from a column to the next tab stop: tab stops are 4 apart (2.2)
abbrev pub to_stop : ℕ → ℕ
to_stop column = 4 - column % 4

-- columns of white space that a text at a column begins with
abbrev pub indent_at : ℕ → List ℕ → ℕ
indent_at k [] = 0
indent_at k (c ∷ s) =
    elim (width c) [
      | one_column ↦ suc (indent_at (suc k) s)
      | to_tab_stop ↦ to_stop k + indent_at (k + to_stop k) s
      | no_white ↦ 0
    ]

abbrev pub indent : Line → ℕ
indent l = indent_at l.column l.text

abbrev pub spaces : ℕ → List ℕ → List ℕ
spaces zero s = s
spaces (suc n) s = space ∷ spaces n s

-- A text at a column without so many columns of its white space, or all that it has; what is left of a tab becomes
-- spaces (2.2).
abbrev pub cut_at : ℕ → ℕ → List ℕ → Line
cut_at k zero s = line k s
cut_at k (suc n) [] = line k []
cut_at k (suc n) (c ∷ s) =
    elim (width c) [
      | one_column ↦ cut_at (suc k) n s
      | to_tab_stop ↦
          elim (nat_le (to_stop k) (suc n)) [
            | true ↦ cut_at (k + to_stop k) (suc n - to_stop k) s
            | false ↦ line (k + suc n) (spaces (to_stop k - suc n) s)
          ]
      | no_white ↦ line k (c ∷ s)
    ]

abbrev pub cut : ℕ → Line → Line
cut n l = cut_at l.column n l.text

-- what follows a marker of so many characters at the beginning of a line
abbrev pub after_marker : ℕ → Line → Line
after_marker n l = line (l.column + n) (drop n l.text)

-- the characters of a line that are no spaces and tabs, in order
abbrev pub marks : List ℕ → List ℕ
marks [] = []
marks (c ∷ s) = if is_space_or_tab c then marks s else c ∷ marks s
