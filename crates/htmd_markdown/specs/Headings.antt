-- Headings of six levels.
use Rattle.std.specs.Prelude.{ℕ, ◌==◌, nat_le, if◌then◌else◌, List, [], ◌∷◌, ◌++◌, length, replicate}
use Rattle.std.specs.Str.{chars}
use Rattle.htmd_lexical.specs.Characters.{line_feed, space, number_sign, hyphen, equals_sign}
use Rattle.htmd_text.specs.Trims.{trimmed_text}
use Rattle.htmd_lexical.specs.WhiteSpace.{is_document_white_space}
use Rattle.htmd_lexical.specs.BlankLines.{with_blank_lines}
use Rattle.htmd_markdown.specs.declared.heading.HeadingStyle.{HeadingStyle}
use Rattle.htmd_markdown.specs.declared.heading.HeadingStyle.TheVariants.{Atx, Setex}

-- as many `#` as the level, and a space (CommonMark 0.31.2, 4.2)
abbrev pub atx : ℕ → List ℕ → List ℕ
atx level content = (replicate level number_sign ++ space ∷ []) ++ content

-- `=` underlines level 1, `-` level 2
abbrev pub underline : ℕ → ℕ
underline level = if level == 1 then equals_sign else hyphen

-- a line of `=` or `-`, as long as the content has characters (CommonMark 0.31.2, 4.3)
abbrev pub setext : ℕ → List ℕ → List ℕ
setext level content = (content ++ line_feed ∷ []) ++ replicate (length (chars content)) (underline level)

-- setext headings have levels 1 and 2
abbrev pub styled_heading : HeadingStyle → ℕ → List ℕ → List ℕ
styled_heading Atx level content = atx level content
styled_heading Setex level content = if nat_le level 2 then setext level content else atx level content

-- the content without document white space at its ends, as a heading of the level, with blank lines around
abbrev pub heading : HeadingStyle → ℕ → List ℕ → List ℕ
heading style level content =
    with_blank_lines (styled_heading style level (trimmed_text is_document_white_space content))
