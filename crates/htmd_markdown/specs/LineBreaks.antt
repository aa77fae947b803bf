-- Hard line breaks (CommonMark 0.31.2, 6.7).
use Rattle.std.specs.Prelude.{ℕ, List, codes}
use Rattle.htmd_markdown.specs.declared.line_break.BrStyle.{BrStyle}
use Rattle.htmd_markdown.specs.declared.line_break.BrStyle.TheVariants.{TwoSpaces, Backslash}

-- two spaces or a backslash, and the line end
abbrev pub line_break : BrStyle → List ℕ
line_break TwoSpaces = codes "  \n"
line_break Backslash = codes "\\\n"
