-- A text with each run of its white space squeezed.
use Rattle.std.specs.Prelude.{ℕ, if◌then◌else◌, List, [], ◌∷◌}
use Rattle.htmd_lexical.specs.Characters.{space}
use Rattle.htmd_lexical.specs.WhiteSpace.{is_ascii_white_space, begins_with_white_space}

-- The text with each maximal run of ASCII white space as one space:
-- the last of a run becomes a space, and the others go.
abbrev pub squeezed_text : List ℕ → List ℕ
squeezed_text [] = []
squeezed_text (b ∷ s) =
    if is_ascii_white_space b
    then (if begins_with_white_space s then squeezed_text s else space ∷ squeezed_text s)
    else b ∷ squeezed_text s
