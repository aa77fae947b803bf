-- Thematic breaks (CommonMark 0.31.2, 4.1).
use Rattle.std.specs.Prelude.{ℕ, List, codes}
use Rattle.htmd_lexical.specs.BlankLines.{with_blank_lines}
use Rattle.htmd_markdown.specs.declared.thematic_break.HrStyle.{HrStyle}
use Rattle.htmd_markdown.specs.declared.thematic_break.HrStyle.TheVariants.{Dashes, Asterisks, Underscores}

-- three characters of the style, apart from each other
abbrev pub line : HrStyle → List ℕ
line Dashes = codes "- - -"
line Asterisks = codes "* * *"
line Underscores = codes "_ _ _"

-- the line with blank lines around
abbrev pub thematic_break : HrStyle → List ℕ
thematic_break style = with_blank_lines (line style)
