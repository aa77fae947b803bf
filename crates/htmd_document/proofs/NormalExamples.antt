-- Worked rows of the normal form, for and against.
use Rattle.std.proofs.Common.{◌≡◌, ℕ, zero, suc, List, [], ◌∷◌, refl, true, false, codes, Some}
use Rattle.std.proofs.Common.{None as none}
use Rattle.std.specs.Str.{is_utf8, chars}
use Rattle.htmd_document.specs.declared.document.Alignment.TheVariants.{None, Left}
use Rattle.htmd_document.specs.Formats.{Emphasis, Strong, Superscript}
use Rattle.htmd_document.specs.Documents.{text, code, formatted, link, image, anchor}
use Rattle.htmd_document.specs.Documents.{line_break, task}
use Rattle.htmd_document.specs.Documents.{Inlines, no_inlines, inline, Blocks, no_blocks, block, no_items, item}
use Rattle.htmd_document.specs.Documents.{paragraph}
use Rattle.htmd_document.specs.Documents.{quote, thematic_break, list}
use Rattle.htmd_document.specs.AnchorIds.{has_unique_ids}
use Rattle.htmd_document.specs.NormalInlines.{is_normal_line, is_normal_item}
use Rattle.htmd_document.specs.NormalDocuments.{is_normal_paragraph, is_normal_heading, is_language, is_normal_code}
use Rattle.htmd_document.specs.NormalDocuments.{are_short_numbers, has_filled_item, has_right_distance, is_normal_list}
use Rattle.htmd_document.specs.NormalDocuments.{is_normal_table, is_normal_document, IsNormal}
use lib.Utf8.{encode}

-- words, a format in another and in a link, a break between words
pub some_words : is_normal_line (inline (text (codes "a "))
    (inline (formatted Strong (inline (text (codes "b ")) (inline
    (formatted Emphasis (inline (link (codes "c") none (inline (code (codes "d e")) no_inlines)) no_inlines))
    no_inlines)))
    (inline line_break (inline (text (codes "f")) no_inlines))))
    ≡ true
unfolding is_utf8 chars encode
some_words = refl

-- an image with a title and no description
pub images : is_normal_line (inline (image (codes "") (Some (codes "a")) (codes "")) no_inlines) ≡ true
unfolding is_utf8 chars encode
images = refl

-- a task stands first in an item, with a space behind it
pub some_task : is_normal_item (inline (task true) (inline (text (codes " a")) no_inlines)) ≡ true
unfolding is_utf8 chars encode
some_task = refl

pub no_task_in_a_line : is_normal_line (inline (task true) (inline (text (codes " a")) no_inlines)) ≡ false
unfolding is_utf8 chars encode
no_task_in_a_line = refl

pub no_space_after_a_task : is_normal_item (inline (task true) (inline (text (codes "a")) no_inlines)) ≡ false
unfolding is_utf8 chars encode
no_space_after_a_task = refl

-- texts side by side, a space at an end, two spaces, a line feed, an empty text
pub two_texts : is_normal_line (inline (text (codes "a")) (inline (text (codes "b")) no_inlines)) ≡ false
unfolding is_utf8 chars encode
two_texts = refl

pub space_at_end : is_normal_line (inline (text (codes "a ")) no_inlines) ≡ false
space_at_end = refl

pub two_spaces : is_normal_line (inline (text (codes "a  b")) no_inlines) ≡ false
unfolding is_utf8 chars encode
two_spaces = refl

pub line_feed : is_normal_line (inline (text (codes "a\nb")) no_inlines) ≡ false
unfolding is_utf8 chars encode
line_feed = refl

pub nothing : is_normal_line (inline (text (codes "")) no_inlines) ≡ false
unfolding is_utf8 chars encode
nothing = refl

-- a format in itself, also through a link; a link in a link; a format of nothing
pub in_itself : is_normal_line (inline (formatted Strong (inline (link (codes "a") none (inline (formatted Strong
    (inline (text (codes "b")) no_inlines))
    no_inlines)) no_inlines))
    no_inlines)
    ≡ false
unfolding is_utf8 chars encode
in_itself = refl

pub link_in_link : is_normal_line (inline (link (codes "a") none
    (inline (link (codes "b") none (inline (code (codes "c"))
    no_inlines))
    no_inlines)) no_inlines)
    ≡ false
unfolding is_utf8 chars encode
link_in_link = refl

pub empty_format : is_normal_line (inline (formatted Strong no_inlines) no_inlines) ≡ false
empty_format = refl

-- a break at an end, and after a space
pub break_at_end : is_normal_line (inline (code (codes "a")) (inline line_break no_inlines)) ≡ false
break_at_end = refl

pub break_after_space : is_normal_line (inline (text (codes "a "))
    (inline line_break (inline (text (codes "b")) no_inlines)))
    ≡ false
unfolding is_utf8 chars encode
break_after_space = refl

-- a break at the ends of a format
pub break_begins_format : is_normal_line (inline (formatted Strong (inline line_break (inline (code (codes "a"))
    no_inlines)))
    no_inlines)
    ≡ false
unfolding is_utf8 chars encode
break_begins_format = refl

pub break_ends_format : is_normal_line (inline (formatted Strong (inline (code (codes "a")) (inline line_break
    no_inlines)))
    no_inlines)
    ≡ false
unfolding is_utf8 chars encode
break_ends_format = refl

-- ---- anchors, and what is above the line

abbrev words : Inlines
words = inline (text (codes "a b")) no_inlines

abbrev place : Inlines → Inlines
place xs = inline (anchor (codes "x y")) xs

pub before_a_word : is_normal_paragraph false (place (place (inline (text (codes "a "))
    (place (inline (text (codes "b")) no_inlines)))))
    ≡ true
unfolding is_utf8 chars encode
before_a_word = refl

pub before_a_space : is_normal_paragraph false (inline (text (codes "a")) (place (inline (text (codes " b"))
    no_inlines)))
    ≡ false
unfolding is_utf8 chars encode
before_a_space = refl

pub at_the_end : is_normal_paragraph false (inline (text (codes "a")) (place no_inlines)) ≡ false
unfolding is_utf8 chars encode
at_the_end = refl

pub in_a_format : is_normal_paragraph false (inline (formatted Strong (place (inline (text (codes "a")) no_inlines)))
    no_inlines)
    ≡ false
unfolding is_utf8 chars encode
in_a_format = refl

pub in_a_link : is_normal_line (inline (link (codes "c") none (place (inline (text (codes "a")) no_inlines)))
    no_inlines)
    ≡ false
unfolding is_utf8 chars encode
in_a_link = refl

pub alone : is_normal_paragraph false (place (place no_inlines)) ≡ true
unfolding is_utf8 chars encode
alone = refl

pub first_in_heading : is_normal_heading 1 (place (inline (text (codes "a")) no_inlines)) ≡ true
unfolding is_utf8 chars encode
first_in_heading = refl

-- two of them with one id
pub same_ids : has_unique_ids (block (paragraph (place words)) (block (quote (block (paragraph (place words))
    no_blocks)) no_blocks)) ≡ false
same_ids = refl

pub unique_ids : has_unique_ids (block (paragraph (inline (formatted Strong words) (place words)))
    (block (paragraph (inline (anchor (codes "x")) words)) no_blocks))
    ≡ true
unique_ids = refl

-- so many in each other
abbrev raised : ℕ → Inlines
raised zero = inline (code (codes "a")) no_inlines
raised (suc n) = inline (formatted Superscript (raised n)) no_inlines

pub as_high_as_may_be : is_normal_line (raised 8) ≡ true
unfolding is_utf8 chars encode
as_high_as_may_be = refl

pub too_high : is_normal_line (raised 9) ≡ false
unfolding is_utf8 chars encode
too_high = refl

-- ---- leaves

pub normal_paragraph : is_normal_paragraph false words ≡ true
unfolding is_utf8 chars encode
normal_paragraph = refl

pub empty_paragraph : is_normal_paragraph false no_inlines ≡ false
empty_paragraph = refl

abbrev boxed : Inlines
boxed = inline (task false) (inline (text (codes " a")) no_inlines)

-- a task stands in an item alone
pub task_in_item : is_normal_paragraph true boxed ≡ true
unfolding is_utf8 chars encode
task_in_item = refl

pub task_elsewhere : is_normal_paragraph false boxed ≡ false
unfolding is_utf8 chars encode
task_elsewhere = refl

pub heading_of_level_6 : is_normal_heading 6 words ≡ true
unfolding is_utf8 chars encode
heading_of_level_6 = refl

pub heading_of_level_7 : is_normal_heading 7 words ≡ false
heading_of_level_7 = refl

pub empty_heading : is_normal_heading 1 no_inlines ≡ false
empty_heading = refl

pub language : is_language (codes "c++") ≡ true
language = refl

pub two_languages : is_language (codes "c d") ≡ false
two_languages = refl

pub no_language : is_language (codes "") ≡ false
no_language = refl

pub marked_language : is_language (codes "a`") ≡ false
marked_language = refl

pub normal_code : is_normal_code (Some (codes "c")) (codes "a\n\tb  c\n") ≡ true
normal_code = refl

pub code_with_return : is_normal_code none (codes "a\rb") ≡ false
code_with_return = refl

-- ---- lists

abbrev one : Inlines → Blocks
one xs = block (paragraph xs) no_blocks

abbrev two : Blocks
two = block (paragraph words) (one words)

-- a list of bullets has no numbers, and 999,999,999 is the last one
pub last_number : are_short_numbers (Some 999999998) 2 ≡ true
last_number = refl

pub past_last_number : are_short_numbers (Some 999999999) 2 ≡ false
past_last_number = refl

pub filled_item : has_filled_item (item no_blocks (item (one words) no_items)) ≡ true
filled_item = refl

pub empty_items : has_filled_item (item no_blocks (item no_blocks no_items)) ≡ false
empty_items = refl

pub tight_items : has_right_distance true (item (one words) (item no_blocks no_items)) ≡ true
tight_items = refl

pub tight_blocks : has_right_distance true (item two no_items) ≡ false
tight_blocks = refl

pub loose_blocks : has_right_distance false (item two no_items) ≡ true
loose_blocks = refl

-- a reader can't see that it is loose
pub loose_block : has_right_distance false (item (one words) no_items) ≡ false
loose_block = refl

pub normal_list : is_normal_list (Some 3) true (item (one words) no_items) ≡ true
normal_list = refl

pub empty_list : is_normal_list none true no_items ≡ false
empty_list = refl

-- ---- tables

pub normal_table : is_normal_table (Left ∷ None ∷ []) (words ∷ no_inlines ∷ [])
    ((no_inlines ∷ words ∷ []) ∷ [])
    ≡ true
unfolding is_utf8 chars encode
normal_table = refl

pub short_row : is_normal_table (Left ∷ None ∷ []) (words ∷ words ∷ []) ((words ∷ []) ∷ []) ≡ true
unfolding is_utf8 chars encode
short_row = refl

-- a row ends in an empty cell
pub empty_end : is_normal_table (Left ∷ None ∷ []) (words ∷ words ∷ []) ((words ∷ no_inlines ∷ []) ∷ [])
    ≡ false
unfolding is_utf8 chars encode
empty_end = refl

-- the header may end in a cell that no row needs, as where a table is cut
pub long_header : is_normal_table (Left ∷ None ∷ []) (words ∷ no_inlines ∷ []) ((words ∷ []) ∷ []) ≡ true
unfolding is_utf8 chars encode
long_header = refl

pub no_columns : is_normal_table [] [] [] ≡ false
no_columns = refl

-- ---- blocks and documents

pub normal_document : IsNormal (block (quote (one words)) (block thematic_break (block
    (list none true (item (one boxed) no_items))
    no_blocks)))
unfolding is_utf8 chars encode
normal_document = refl

pub empty_quote : is_normal_document (block (quote no_blocks) no_blocks) ≡ false
empty_quote = refl

-- in a quote in an item no task stands
pub task_in_quote : is_normal_document (block
    (list none true (item (block (quote (one boxed)) no_blocks) no_items))
    no_blocks)
    ≡ false
unfolding is_utf8 chars encode
task_in_quote = refl

-- a rule in so many quotes
abbrev nested : ℕ → Blocks
nested zero = block thematic_break no_blocks
nested (suc n) = block (quote (nested n)) no_blocks

pub as_deep_as_may_be : is_normal_document (nested 32) ≡ true
as_deep_as_may_be = refl

pub too_deep : is_normal_document (nested 33) ≡ false
too_deep = refl

-- a space stands after a task, and no white space past ASCII
abbrev wide : List ℕ
wide = 0xC2 ∷ 0xA0 ∷ codes "a"

pub task_before_wide_space : is_normal_paragraph true (inline (task false) (inline (text wide) no_inlines)) ≡ false
task_before_wide_space = refl
