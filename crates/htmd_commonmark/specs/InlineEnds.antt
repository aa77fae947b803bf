-- The first and the last character of what is written of an inline, as far as what is beside it asks.
use Rattle.std.specs.Prelude.{ℕ, false, true, if◌then◌else◌, Option, Some, None, codes}
use Rattle.htmd_lexical.specs.Characters.{asterisk, backslash, exclamation_mark, grave_accent, greater_than_sign}
use Rattle.htmd_lexical.specs.Characters.{left_square_bracket, right_square_bracket, right_parenthesis, less_than_sign}
use Rattle.htmd_lexical.specs.Characters.{line_feed, is_one_of}
use Rattle.htmd_document.specs.Formats.{Format}
use Rattle.htmd_document.specs.Documents.{Inline, text, code, formatted, link, image, anchor}
use Rattle.htmd_document.specs.Documents.{line_break, task}
use Rattle.htmd_document.specs.Documents.{Inlines, no_inlines, inline}
use Rattle.htmd_commonmark.specs.declared.line.LineKind.{LineKind}
use Rattle.htmd_commonmark.specs.declared.inline_ends.Following.{Following}
use Rattle.htmd_commonmark.specs.CharacterKinds.{first_character, last_character}
use Rattle.htmd_commonmark.specs.Marks.{is_always_tag}
use Rattle.htmd_commonmark.specs.WrittenText.{is_one_line}

-- a text's first character, or its backslash
abbrev pub escaped_first : Option ℕ → Option ℕ
escaped_first None = None
escaped_first (Some c) = if is_one_of (codes "`*[~") c then Some backslash else Some c

-- what has no marks is a tag, and the other formats are mostly marks
abbrev pub first_of_format : Format → ℕ
first_of_format format = if is_always_tag format then less_than_sign else asterisk

abbrev pub last_of_format : Format → ℕ
last_of_format format = if is_always_tag format then greater_than_sign else asterisk

abbrev pub first_of_break : LineKind → ℕ
first_of_break kind = if is_one_line kind then less_than_sign else line_feed

abbrev pub first_of : LineKind → Inline → Option ℕ
first_of kind (text s) = escaped_first (first_character s)
first_of kind (code s) = Some grave_accent
first_of kind (formatted format content) = Some (first_of_format format)
first_of kind (link address title content) = Some left_square_bracket
first_of kind (image address title description) = Some exclamation_mark
first_of kind (anchor id) = Some less_than_sign
first_of kind line_break = Some (first_of_break kind)
first_of kind (task is_checked) = Some left_square_bracket

abbrev pub last_of : Inline → Option ℕ
last_of (text s) = last_character s
last_of (code s) = Some grave_accent
last_of (formatted format content) = Some (last_of_format format)
last_of (link address title content) = Some right_parenthesis
last_of (image address title description) = Some right_parenthesis
last_of (anchor id) = Some greater_than_sign
last_of line_break = Some line_feed
last_of (task is_checked) = Some right_square_bracket

-- the first of these inlines, and the last; none where there are none
abbrev pub first_of_all : LineKind → Inlines → Option ℕ
first_of_all kind no_inlines = None
first_of_all kind (inline x rest) = first_of kind x

-- `so_far`: of those before
abbrev pub last_after : Option ℕ → Inlines → Option ℕ
last_after so_far no_inlines = so_far
last_after so_far (inline x rest) = last_after (last_of x) rest

abbrev pub last_of_all : Inlines → Option ℕ
last_of_all xs = last_after None xs

-- `closing`: the first character of what closes these inlines
abbrev pub follows : LineKind → Option ℕ → Inlines → Following
follows kind closing no_inlines = record { after = closing; is_last = true }
follows kind closing (inline x rest) = record { after = first_of kind x; is_last = false }
