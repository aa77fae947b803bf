-- Code spans (CommonMark 0.31.2, 6.1).
use Rattle.std.specs.Prelude.{ℕ, List}
use Rattle.htmd_markdown.specs.CodeSpans.{delimited_text, meets_delimiter, smallest_unused_len}

-- the code between as few backquotes as it has no row of, with a space inside of them where a backquote would meet them
abbrev pub code_span : List ℕ → List ℕ
code_span s = delimited_text (meets_delimiter s) (smallest_unused_len s) s
