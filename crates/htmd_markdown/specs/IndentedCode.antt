-- Indented code blocks (CommonMark 0.31.2, 4.4).
use Rattle.std.specs.Prelude.{ℕ, List, [], ◌∷◌, ◌++◌, map, replicate}
use Rattle.std.specs.Str.Lines.{lines}
use Rattle.htmd_lexical.specs.Characters.{line_feed, space}
use Rattle.htmd_text.specs.Joins.{joined_texts}
use Rattle.htmd_markdown.specs.CodeBlocks.{code_of}

-- a line after four spaces
abbrev pub indented_line : List ℕ → List ℕ
indented_line line = replicate 4 space ++ line

-- the indented code block of a content: its code's lines (those of Rust's `str::lines`), each after
-- four spaces, with a line feed between each two
abbrev pub indented_code_block : List ℕ → List ℕ
indented_code_block s = joined_texts (line_feed ∷ []) (map indented_line (lines (code_of s)))
