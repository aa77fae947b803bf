-- What the attributes of an element say.
use Rattle.std.specs.Prelude.{ℕ, Bool, false, not, ◌||◌, ◌==◌, nat_le, nat_lt, if◌then◌else◌, List, [], ◌∷◌}
use Rattle.std.specs.Prelude.{map, filter, length, take, fold, min, max, Option, Some, None, codes, ◌-◌, ◌+◌, ◌*◌}
use Rattle.std.specs.Prelude.{ℤ, pos, negsuc, neg_ℤ, is_some, encode_utf8_all}
use Rattle.std.specs.Char.{is_ascii_digit, to_ascii_lowercase}
use Rattle.std.specs.List.{prefix_len, slice_split, before_first, after_first}
use Rattle.std.specs.Option.{option_or, option_map, unwrap_or}
use Rattle.std.specs.Str.{bytes_eq, chars}
use Rattle.htmd_lexical.specs.Characters.{null, tab, line_feed, carriage_return, space}
use Rattle.htmd_lexical.specs.Characters.{number_sign, plus_sign, hyphen, digit_zero, semicolon, colon}
use Rattle.htmd_lexical.specs.AttributePairs.{AttributePair}
use Rattle.htmd_lexical.specs.WhiteSpace.{is_ascii_white_space}
pub use Rattle.htmd_nodes.specs.AttributeValues.{value_of}
use Rattle.htmd_text.specs.Joins.{joined_texts}
use Rattle.htmd_text.specs.Trims.{trimmed_start, trimmed_text}
use Rattle.htmd_shown.specs.ShownTexts.{shown_text}
use Rattle.htmd_document.specs.declared.document.Alignment.{Alignment}
use Rattle.htmd_document.specs.declared.document.Alignment.TheVariants as align
use Rattle.htmd_document.specs.LanguageNames.{is_mark}

-- there is an attribute with this name
abbrev pub has_attribute : List ℕ → List AttributePair → Bool
has_attribute name attributes = is_some (value_of name attributes)

-- the value, or nothing
abbrev pub text_of : List ℕ → List AttributePair → List ℕ
text_of name attributes = unwrap_or (value_of name attributes) []

-- ---- words

abbrev pub is_filled : List ℕ → Bool
is_filled s = nat_lt 0 (length s)

-- what stands between ASCII white space
abbrev pub words : List ℕ → List (List ℕ)
words s = filter is_filled (slice_split is_ascii_white_space s)

-- the words in one line, without what never shows
abbrev pub in_line : List ℕ → List ℕ
in_line s = joined_texts (space ∷ []) (words (shown_text s))

-- a title is one line, and none where it is blank
abbrev pub title_of_value : Option (List ℕ) → Option (List ℕ)
title_of_value None = None
title_of_value (Some s) = if is_filled (in_line s) then Some (in_line s) else None

abbrev pub title_of : List AttributePair → Option (List ℕ)
title_of attributes = title_of_value (value_of (codes "title") attributes)

-- what an image says, in one line
abbrev pub description_of : List AttributePair → List ℕ
description_of attributes = in_line (text_of (codes "alt") attributes)

-- ---- addresses

abbrev pub is_space_or_control : ℕ → Bool
is_space_or_control b = nat_le b space

abbrev pub is_in_address : ℕ → Bool
is_in_address c = not ((c == null) || (c == tab) || (c == line_feed) || (c == carriage_return))

-- As browsers take it: no white space or controls at the ends, no tabs and line ends in it (URL Standard, 4.4), and no
-- U+0000, which no reader keeps.
abbrev pub address : List ℕ → List ℕ
address s = encode_utf8_all (filter is_in_address (chars (trimmed_text is_space_or_control s)))

-- the address leads to a part of the page
abbrev pub is_to_part : List ℕ → Bool
is_to_part [] = false
is_to_part (b ∷ s) = b == number_sign

abbrev pub leads_to_part : Option (List ℕ) → Bool
leads_to_part None = false
leads_to_part (Some s) = is_to_part (address s)

-- ---- languages

abbrev pub delete : ℕ
delete = 0x7F

-- the name of a language has no mark, no space and no control
abbrev pub is_in_name : ℕ → Bool
is_in_name b = not (is_mark b || is_space_or_control b || (b == delete))

-- ---- numbers

abbrev pub greatest_number : ℕ
greatest_number = 100000000000000000

-- the number of decimal digits; a number that is greater than any list counts as the greatest
abbrev pub number_of_digits : List ℕ → ℕ
number_of_digits digits = fold (λ n digit. min greatest_number (n * 10 + (digit - digit_zero))) 0 digits

-- one or more digits begin the text: their number
abbrev pub leading_number : List ℕ → Option ℕ
leading_number s =
    let digits = take (prefix_len is_ascii_digit s) s in
    if is_filled digits then Some (number_of_digits digits) else None

abbrev pub signed_number : List ℕ → Option ℤ
signed_number [] = None
signed_number (b ∷ s) =
    if b == plus_sign then option_map pos (leading_number s)
    else (if b == hyphen then option_map (λ n. neg_ℤ (pos n)) (leading_number s)
    else option_map pos (leading_number (b ∷ s)))

-- the number that a text begins with, after white space (HTML, 2.3.4.1)
abbrev pub number : List ℕ → Option ℤ
number s = signed_number (trimmed_start is_ascii_white_space s)

-- the number that an attribute gives
abbrev pub number_at : List ℕ → List AttributePair → Option ℤ
number_at name attributes = number (text_of name attributes)

-- ---- spans and alignments of cells

-- a number that isn't below 0, between these; 1 without one
abbrev pub span_between : ℕ → ℕ → Option ℤ → ℕ
span_between least most None = 1
span_between least most (Some (pos n)) = max least (min most n)
span_between least most (Some (negsuc n)) = 1

-- how many columns a cell takes, 16 at most
abbrev pub column_span : List AttributePair → ℕ
column_span attributes = span_between 1 16 (number_at (codes "colspan") attributes)

-- the same where a cell can take more columns, 1,000 at most
abbrev pub wide_span : List AttributePair → ℕ
wide_span attributes = span_between 1 1000 (number_at (codes "colspan") attributes)

-- how many rows a cell takes; 0 stands for all further ones of its group
abbrev pub row_span : List AttributePair → ℕ
row_span attributes = span_between 0 65534 (number_at (codes "rowspan") attributes)

-- ASCII letters in lower case
abbrev pub lower : List ℕ → List ℕ
lower s = map to_ascii_lowercase s

-- the text is this name, in letters of any case
abbrev pub is_any_case : List ℕ → List ℕ → Bool
is_any_case name s = bytes_eq (lower s) name

abbrev pub alignment_named : List ℕ → Option Alignment
alignment_named s =
    if is_any_case (codes "left") s then Some align.Left
    else (if is_any_case (codes "center") s then Some align.Center
    else (if is_any_case (codes "right") s then Some align.Right else None))

abbrev pub trimmed : List ℕ → List ℕ
trimmed s = trimmed_text is_ascii_white_space s

-- what a declaration says of `text-align`: its name stands before the first colon
abbrev pub alignment_of_declaration : List ℕ → Option Alignment
alignment_of_declaration part =
    if is_any_case (codes "text-align") (trimmed (before_first (λ b. b == colon) part))
    then alignment_named (trimmed (after_first (λ b. b == colon) part))
    else None

-- the last declaration that says one counts
abbrev pub alignment_of_declarations : List (List ℕ) → Option Alignment
alignment_of_declarations [] = None
alignment_of_declarations (part ∷ rest) =
    option_or (alignment_of_declarations rest) (alignment_of_declaration part)

abbrev pub alignment_or_none : Option Alignment → Alignment
alignment_or_none None = align.None
alignment_or_none (Some a) = a

-- of the style, else of the attribute align
abbrev pub alignment : List AttributePair → Alignment
alignment attributes = alignment_or_none (option_or
    (alignment_of_declarations (slice_split (λ b. b == semicolon) (text_of (codes "style") attributes)))
    (alignment_named (text_of (codes "align") attributes)))
