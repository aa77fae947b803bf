-- Alternative texts and titles as they are written (CommonMark 0.31.2, 6.3).
use Rattle.std.specs.Prelude.{ℕ, Bool, true, false, List, [], ◌∷◌, ◌++◌, map, filter, Option, Some, None, codes}
use Rattle.std.specs.Str.Lines.{lines}
use Rattle.htmd_lexical.specs.Characters.{line_feed}
use Rattle.htmd_lexical.specs.WhiteSpace.{is_document_white_space}
use Rattle.htmd_text.specs.Trims.{trimmed_text}
use Rattle.htmd_text.specs.Joins.{joined_texts}
use Rattle.htmd_markdown.specs.Addresses.{escaped_among}

abbrev pub is_filled : List ℕ → Bool
is_filled [] = false
is_filled (b ∷ s) = true

-- the lines of a text (those of Rust's `str::lines`) without document white space at their ends, empty ones left out
abbrev pub filled_lines : List ℕ → List (List ℕ)
filled_lines s = filter is_filled (map (trimmed_text is_document_white_space) (lines s))

-- these lines, with a backslash before each quotation mark: no blank line ends the title, and no quotation mark
abbrev pub tidied_text : List ℕ → List ℕ
tidied_text s = joined_texts (line_feed ∷ []) (map (escaped_among (codes "\"")) (filled_lines s))

-- the description of an image, empty if it has none
abbrev pub description : Option (List ℕ) → List ℕ
description None = []
description (Some alt) = tidied_text alt

-- a title after the address
abbrev pub title_text : Option (List ℕ) → List ℕ
title_text None = []
title_text (Some title) = codes " \"" ++ tidied_text title ++ codes "\""
