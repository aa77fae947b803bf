-- The texts of leaves, line by line.
use Rattle.std.specs.Prelude.{ℕ, Bool, true, false, not, List, [], ◌∷◌}
use Rattle.htmd_lexical.specs.Characters.{line_feed}
use Rattle.htmd_commonmark_reading.specs.Boxes.{is_end_of_word}

abbrev pub is_in_word : ℕ → Bool
is_in_word c = not (is_end_of_word c)

-- what stands before a line
abbrev pub line_break : Bool → List ℕ
line_break true = []
line_break false = line_feed ∷ []
