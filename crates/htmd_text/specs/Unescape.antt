-- How Markdown reads backslashes (CommonMark 0.31.2, 2.4).
use Rattle.std.specs.Prelude.{ℕ, ◌&&◌, ◌==◌, if◌then◌else◌, List, [], ◌∷◌}
use Rattle.std.specs.Char.{is_ascii_punctuation}
use Rattle.htmd_lexical.specs.Characters.{backslash}

-- The text that is meant: from left to right, a backslash before ASCII punctuation is dropped and
-- that character kept. Any other backslash stands for itself.
abbrev pub unescape : List ℕ → List ℕ
unescape [] = []
unescape (b ∷ []) = b ∷ []
unescape (b ∷ c ∷ s) =
    if (b == backslash) && is_ascii_punctuation c
    then c ∷ unescape s
    else b ∷ unescape (c ∷ s)
