-- Blank lines, which part blocks (CommonMark 0.31.2, 4.9).
use Rattle.std.specs.Prelude.{ℕ, List, [], ◌∷◌, ◌++◌}
use Rattle.htmd_lexical.specs.Characters.{line_feed}

-- the end of a line, and a line with nothing in it
abbrev pub blank_line : List ℕ
blank_line = line_feed ∷ line_feed ∷ []

-- a text with a blank line before and after it
abbrev pub with_blank_lines : List ℕ → List ℕ
with_blank_lines s = (blank_line ++ s) ++ blank_line
