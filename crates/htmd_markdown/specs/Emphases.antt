-- Emphasis and strong emphasis (CommonMark 0.31.2, 6.2).
use Rattle.std.specs.Prelude.{◌≡◌, ◌≢◌, ℕ, List, [], ◌∷◌, ◌++◌}
use Rattle.std.specs.Prelude.{Option, Some, None, codes}
use Rattle.std.specs.Str.{trim, trim_start, NoCharPasses, EmptyOrStartsWithPassing, EmptyOrEndsWithPassing}
use Rattle.std.specs.Char.{is_not_whitespace}
use Rattle.htmd_text.specs.Trims.{white_space_at_start, white_space_at_end}
use Rattle.htmd_markdown.specs.declared.emphasis.Emphasis.{Emphasis}
use Rattle.htmd_markdown.specs.declared.emphasis.Emphasis.TheVariants.{Regular, Strong}

-- the mark on each side
abbrev pub mark : Emphasis → List ℕ
mark Regular = codes "*"
mark Strong = codes "**"

-- a text between two marks with white space outside of them; nothing if the text is empty
abbrev pub between : List ℕ → List ℕ → List ℕ → List ℕ → Option (List ℕ)
between mark before [] after = None
between mark before (b ∷ middle) after = Some ((((before ++ mark) ++ (b ∷ middle)) ++ mark) ++ after)

-- the content between marks, and outside of them the white space at its ends
abbrev pub emphasised_text : Emphasis → List ℕ → Option (List ℕ)
emphasised_text emphasis s = between (mark emphasis) (white_space_at_start s) (trim s)
    (white_space_at_end (trim_start s))

-- each character is white space (Unicode's property White_Space)
abbrev pub IsWhiteSpace : List ℕ → Type 0
IsWhiteSpace s = NoCharPasses is_not_whitespace s

-- a text that is not empty, and neither begins nor ends with white space
pub record IsTight (s : List ℕ) : Type 0 where
  pub filled : s ≢ []
  pub begins : (rest : List ℕ) × EmptyOrStartsWithPassing is_not_whitespace s rest
  pub ends : EmptyOrEndsWithPassing is_not_whitespace s

-- White space or none, the mark, a text with no white space at its ends, the mark, white space or
-- none; without the two marks it is the content. So the first mark can open emphasis as far as what
-- follows it decides, and the second one can close it (the rules on flanking delimiter runs).
abbrev pub AreMarksInside : List ℕ → List ℕ → List ℕ → Type 0
AreMarksInside mark content s =
    (before middle after : List ℕ) ×
    ((s ≡ (((before ++ mark) ++ middle) ++ mark) ++ after)
    × (content ≡ (before ++ middle) ++ after)
    × IsWhiteSpace before
    × IsTight middle
    × IsWhiteSpace after)
