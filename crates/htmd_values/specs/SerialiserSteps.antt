-- What only the clauses of the serialiser's own functions say: one character, and a test for blank lines.
use Rattle.std.specs.Prelude.{ℕ, Bool, true, false, ◌&&◌, ◌||◌, ◌==◌, if◌then◌else◌, List, [], ◌∷◌, codes}
use Rattle.std.specs.Char.{encode_utf8, is_ascii, is_whitespace}
use Rattle.htmd_lexical.specs.Characters.{line_feed, no_break_space}

-- what `escaped_html` writes for a character
abbrev pub escaped_html_char : (ℕ → List ℕ) → ℕ → List ℕ
escaped_html_char byte c =
    if c == no_break_space then codes "&nbsp;" else (if is_ascii c then byte c else encode_utf8 c)

-- Whether two line feeds have only white space between them, where `after` says that a line feed came, and nothing but
-- white space since.
abbrev pub has_blank_line_from : Bool → List ℕ → Bool
has_blank_line_from after [] = false
has_blank_line_from after (c ∷ cs) =
    if c == line_feed
    then after || has_blank_line_from true cs
    else has_blank_line_from (after && is_whitespace c) cs

abbrev pub has_blank_line : List ℕ → Bool
has_blank_line cs = has_blank_line_from false cs
