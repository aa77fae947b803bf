-- Code spans as they are written (CommonMark 0.31.2, 6.1).
use Rattle.std.specs.Prelude.{ℕ, ◌+◌, ◌-◌, Bool, not, ◌&&◌, ◌||◌, ◌==◌, if◌then◌else◌, List, [], ◌∷◌, ◌++◌, length, map}
use Rattle.std.specs.Prelude.{replicate, slice_index}
use Rattle.std.specs.List.{list_all, position_or_len, range_with_len}
use Rattle.htmd_lexical.specs.Characters.{grave_accent, line_feed, space}
use Rattle.htmd_text.specs.Trims.{trimmed_text, is_line_feed, is_space}
use Rattle.htmd_lexical.specs.WhiteSpace.{is_document_white_space}
use Rattle.htmd_markdown.specs.Runs.{longest_run, has_run}

-- the character is at the start, and at the end
abbrev pub begins_with : ℕ → List ℕ → Bool
begins_with character s = slice_index s 0 == character

abbrev pub ends_with : ℕ → List ℕ → Bool
ends_with character s = slice_index s (length s - 1) == character

-- a space, if it is due
abbrev pub space_if : Bool → List ℕ
space_if due = if due then space ∷ [] else []

-- The content with each line feed as a space. One more is put in front if line feeds begin it and another character
-- follows, and one more at the end if a line feed ends it.
abbrev pub in_one_line : List ℕ → List ℕ
in_one_line s =
    (space_if (begins_with line_feed s && not (list_all is_line_feed s))
    ++ map (λ b. if is_line_feed b then space else b) s)
    ++ space_if (ends_with line_feed s)

-- what is in the span: with preformatted code its one line, else the content without document
-- white space at its ends
abbrev pub span_content : Bool → List ℕ → List ℕ
span_content preformatted_code s = if preformatted_code then in_one_line s else trimmed_text is_document_white_space s

-- a backquote is at the start or at the end
abbrev pub meets_delimiter : List ℕ → Bool
meets_delimiter s = begins_with grave_accent s || ends_with grave_accent s

-- a space is at both ends, and not all are spaces: a reader would take one from each end
abbrev pub is_between_spaces : List ℕ → Bool
is_between_spaces s = begins_with space s && ends_with space s && not (list_all is_space s)

-- the smallest length of 1 or more that no run of backquotes has
abbrev pub smallest_unused_len : List ℕ → ℕ
smallest_unused_len s =
    1 + position_or_len (λ n. not (has_run grave_accent n s)) (range_with_len 1 (longest_run grave_accent s))

-- how many backquotes are before and after what is in the span
abbrev pub delimiter_len : List ℕ → ℕ
delimiter_len s = if meets_delimiter s then longest_run grave_accent s + 1 else smallest_unused_len s

-- a text inside the delimiters, with a space at each end where one is due
abbrev pub delimited_text : Bool → ℕ → List ℕ → List ℕ
delimited_text padded n s =
    (((replicate n grave_accent ++ space_if padded) ++ s) ++ space_if padded) ++ replicate n grave_accent

-- The code span of a content. A space stands inside each delimiter where what is in the span
-- meets it, and where preformatted code would lose its own.
abbrev pub code_span : Bool → List ℕ → List ℕ
code_span preformatted_code s =
    delimited_text
    (meets_delimiter (span_content preformatted_code s) || (preformatted_code && is_between_spaces s))
    (delimiter_len (span_content preformatted_code s))
    (span_content preformatted_code s)
