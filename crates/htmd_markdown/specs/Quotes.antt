-- Block quotes (CommonMark 0.31.2, 5.1).
use Rattle.std.specs.Prelude.{ℕ, List, [], ◌∷◌, ◌++◌, map, codes}
use Rattle.std.specs.Str.Lines.{lines}
use Rattle.htmd_lexical.specs.Characters.{line_feed}
use Rattle.htmd_text.specs.Joins.{joined_texts}
use Rattle.htmd_text.specs.Trims.{trimmed_start, trimmed_end, is_line_feed}
use Rattle.htmd_lexical.specs.WhiteSpace.{is_document_white_space}
use Rattle.htmd_lexical.specs.BlankLines.{with_blank_lines}

-- a line after a block quote marker and a space; an empty one too
abbrev pub quoted_line : List ℕ → List ℕ
quoted_line line = codes "> " ++ line

-- each line after a marker, the lines joined by line feeds
abbrev pub quoted_lines : List (List ℕ) → List ℕ
quoted_lines ls = joined_texts (line_feed ∷ []) (map quoted_line ls)

-- the content without line feeds at its start and document white space at its end
abbrev pub quoted_content : List ℕ → List ℕ
quoted_content s = trimmed_end is_document_white_space (trimmed_start is_line_feed s)

-- the content's lines (those of Rust's `str::lines`) as a quote, with blank lines around
abbrev pub quote : List ℕ → List ℕ
quote s = with_blank_lines (quoted_lines (lines (quoted_content s)))
