-- Texts that a reader takes for nothing but lines of a paragraph, of a heading, or of code.
use Rattle.std.specs.Prelude.{◌≡◌, ℕ, Bool, true, false, not, ◌&&◌, ◌==◌, List, [], ◌∷◌, None}
use Rattle.std.specs.List.{list_all, slice_split}
use Rattle.htmd_lexical.specs.Characters.{null, carriage_return, asterisk, hyphen}
use Rattle.htmd_text.specs.Trims.{is_line_feed}
use Rattle.htmd_commonmark_reading.specs.Characters.{is_space_or_tab}
use Rattle.htmd_commonmark_reading.specs.Lines.{line, marks}
use Rattle.htmd_commonmark_reading.specs.LinkDefinitions.{definitions}
use Rattle.htmd_commonmark_reading.specs.BlockStarts.{alone, under, no_start, started, is_same, heading_text}
use Rattle.htmd_commonmark_reading.specs.LeafBlocks.{underline_of, delimiter_row_of}

-- the line begins with no white space, and isn't empty
abbrev pub IsBlack : List ℕ → Type 0
IsBlack [] = ⊥
IsBlack (c ∷ s) = is_space_or_tab c ≡ false

abbrev pub AreBlack : List (List ℕ) → Type 0
AreBlack [] = Unit {0}
AreBlack (l ∷ ls) = IsBlack l × AreBlack ls

-- some character of the line is neither white space nor this sign
abbrev pub IsNotOf : ℕ → List ℕ → Type 0
IsNotOf sign l = list_all (is_same sign) (marks l) ≡ false

-- a line that a paragraph begins with, wherever it stands: it begins no block, and no bullet before it makes a break of
-- it
pub record IsFirstLine (l : List ℕ) : Type 0 where
  pub black : IsBlack l
  pub starts : (k : ℕ) → started alone (line k l) ≡ no_start
  pub no_asterisks : IsNotOf asterisk l
  pub no_hyphens : IsNotOf hyphen l

-- a line that a paragraph goes on with: it begins no block, underlines nothing, and is no delimiter row
pub record IsFurtherLine (l : List ℕ) : Type 0 where
  pub black : IsBlack l
  pub starts : (k : ℕ) → started under (line k l) ≡ no_start
  pub no_underline : (k : ℕ) → underline_of (line k l) ≡ None
  pub no_delimiters : (k : ℕ) → delimiter_row_of (line k l) ≡ None

abbrev pub AreFurtherLines : List (List ℕ) → Type 0
AreFurtherLines [] = Unit {0}
AreFurtherLines (l ∷ ls) = IsFurtherLine l × AreFurtherLines ls

abbrev pub AreTextLines : List (List ℕ) → Type 0
AreTextLines [] = ⊥
AreTextLines (l ∷ ls) = IsFirstLine l × AreFurtherLines ls

-- no carriage return, which ends a line, and no U+0000, which is replaced (CommonMark 0.31.2, 2.1 and 2.3)
abbrev pub is_line_character : ℕ → Bool
is_line_character c = not (c == carriage_return) && not (c == null)

abbrev pub lines_of : List ℕ → List (List ℕ)
lines_of s = slice_split is_line_feed s

-- no definition begins the text, and no white space ends it
abbrev pub IsWhole : List ℕ → Type 0
IsWhole s = definitions s ≡ record { found = []; rest = s }

-- what is written of the inlines of a paragraph: the inlines' half of reading back has to show this of them
pub record IsLineText (s : List ℕ) : Type 0 where
  pub plain : list_all is_line_character s ≡ true
  pub lines : AreTextLines (lines_of s)
  pub whole : IsWhole s

-- the last character of the text is no white space
abbrev pub EndsBlack : List ℕ → Type 0
EndsBlack [] = ⊥
EndsBlack (c ∷ []) = is_space_or_tab c ≡ false
EndsBlack (c ∷ d ∷ s) = EndsBlack (d ∷ s)

-- nothing, or a text with no white space at its ends
abbrev pub IsTrimmed : List ℕ → Type 0
IsTrimmed [] = Unit {0}
IsTrimmed (c ∷ s) = (is_space_or_tab c ≡ false) × EndsBlack (c ∷ s)

-- the text of a table's cell, in which bars are still bars (GFM 0.29, 4.10)
pub record IsCellText (s : List ℕ) : Type 0 where
  pub plain : list_all is_line_character s ≡ true
  pub one_line : lines_of s ≡ s ∷ []
  pub trimmed : IsTrimmed s

-- the text of a heading after number signs: in one line, with nothing at its end that a reader cuts (4.2)
pub record IsHeadingText (s : List ℕ) : Type 0 where
  pub plain : list_all is_line_character s ≡ true
  pub one_line : lines_of s ≡ s ∷ []
  pub whole : heading_text s ≡ s

-- the text of a heading with a line under it (4.3)
pub record IsUnderlinedText (s : List ℕ) : Type 0 where
  pub plain : list_all is_line_character s ≡ true
  pub one_line : lines_of s ≡ s ∷ []
  pub line : IsFirstLine s
  pub whole : IsWhole s
