-- How a text is appended to another one.
use Rattle.std.specs.Prelude.{ℕ, ◌+◌, min, max, Bool, ◌&&◌, ◌||◌, ◌==◌, nat_lt, if◌then◌else◌, List, ◌++◌}
use Rattle.std.specs.Prelude.{length, drop, replicate}
use Rattle.std.specs.List.{prefix_len, suffix_len}
use Rattle.htmd_lexical.specs.Characters.{line_feed}
use Rattle.htmd_text.specs.Trims.{trimmed_start, trimmed_end, is_line_feed, is_space}

abbrev pub begins_with_space : List ℕ → Bool
begins_with_space s = nat_lt 0 (prefix_len is_space s)

abbrev pub ends_with_space : List ℕ → Bool
ends_with_space s = nat_lt 0 (suffix_len is_space s)

-- Where a line feeds end the first text and b begin the second, min (a + b) (max 2 a) of them stand at
-- the seam: a blank line parts blocks (CommonMark 0.31.2, 4.9), and more are not added.
abbrev pub joined_by_line_feeds : ℕ → ℕ → List ℕ → List ℕ → List ℕ
joined_by_line_feeds a b out content = (trimmed_end is_line_feed out ++ replicate (min (a + b) (max 2 a)) line_feed)
    ++ trimmed_start is_line_feed content

-- if there is no line feed at the seam, one of two spaces goes
abbrev pub joined_by_white_space : ℕ → ℕ → List ℕ → List ℕ → List ℕ
joined_by_white_space a b out content =
    if ((a == 0) && (b == 0)) && (ends_with_space out && begins_with_space content)
    then out ++ drop 1 content
    else joined_by_line_feeds a b out content

-- content after a text: whole if the text is empty or preformatted
abbrev pub joined_at_seam : List ℕ → List ℕ → Bool → List ℕ
joined_at_seam out content whole =
    if whole || (length out == 0)
    then out ++ content
    else joined_by_white_space (suffix_len is_line_feed out) (prefix_len is_line_feed content) out content
