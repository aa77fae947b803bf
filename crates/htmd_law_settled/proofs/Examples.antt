-- What is neat, and what isn't.
use Rattle.std.proofs.Common.{◌≡◌, true, false, List, [], ◌∷◌, ◌++◌, refl, Some, None}
use Rattle.std.specs.Fmt.{digits}
use Rattle.std.specs.Prelude.{codes, ℕ, zero, suc}
use Rattle.std.specs.Str.{chars, is_utf8}
use Rattle.htmd_document.specs.Formats.{Strong}
use Rattle.htmd_document.specs.declared.document.Alignment.TheVariants as align
use Rattle.htmd_document.specs.Documents.{BlockAttribute}
use Rattle.htmd_document.specs.declared.document.AttributeName.TheVariants as attribute
use Rattle.htmd_document.specs.declared.document.BlockElement.TheVariants as name
use Rattle.htmd_document.specs.Documents.{text, code, formatted, image, line_break, Inlines, no_inlines, inline}
use Rattle.htmd_document.specs.Documents.{paragraph, Blocks, no_blocks, block, list, Items, no_items, item, table}
use Rattle.htmd_document.specs.Documents.{element}
use Rattle.htmd_flow.specs.TableElements.{rows_within}
use Rattle.htmd_shown.specs.Attributes.{row_span}
use Rattle.htmd_law_rendering.specs.RenderedTrees.{pairs_of_element}
use Rattle.htmd_law_returning.specs.SettledDocuments.{numbers_fit}
use Rattle.htmd_law_returning.specs.WholeLines.{is_whole}
use Rattle.htmd_law_settled.specs.BareBreaks.{has_bare_breaks}
use Rattle.htmd_law_settled.specs.Leaves.{are_blocks_of}
use Rattle.htmd_law_settled.specs.CommonDocuments.{is_common_element}
use Rattle.htmd_law_settled.specs.NeatLeaves.{neat, is_neat_code, has_neat_attributes, is_neat_element}
use lib.Utf8.{encode}

a_text : are_blocks_of neat (block (paragraph (inline (text (codes "a b")) no_inlines)) no_blocks) ≡ true
unfolding chars encode
a_text = refl

-- with U+FEFF
an_unseen_mark : are_blocks_of neat (block (paragraph
    (inline (text (codes "a" ++ 0xEF ∷ 0xBB ∷ 0xBF ∷ [])) no_inlines)) no_blocks) ≡ false
unfolding chars encode
an_unseen_mark = refl

a_description : are_blocks_of neat (block (paragraph
    (inline (image (codes "a") None (codes "b c")) no_inlines)) no_blocks) ≡ true
unfolding chars encode
a_description = refl

-- HTML encodes the space
an_address_with_a_space : are_blocks_of neat (block (paragraph
    (inline (image (codes "a b") None (codes "c")) no_inlines)) no_blocks) ≡ false
unfolding chars encode
an_address_with_a_space = refl

a_description_with_two_spaces : are_blocks_of neat (block (paragraph
    (inline (image (codes "a") None (codes "b  c")) no_inlines)) no_blocks) ≡ false
unfolding chars encode
a_description_with_two_spaces = refl

code_in_a_language : is_neat_code (Some (codes "c++")) (codes "d\n") ≡ true
unfolding chars encode is_utf8
code_in_a_language = refl

code_in_none_by_name : is_neat_code (Some (codes "Text")) (codes "d\n") ≡ false
unfolding chars encode is_utf8
code_in_none_by_name = refl

blank_code : is_neat_code None (codes " \n") ≡ false
unfolding chars encode is_utf8
blank_code = refl

an_empty_formula : is_neat_code (Some (codes "math")) [] ≡ false
unfolding chars encode is_utf8
an_empty_formula = refl

-- a no-break space at the end, and inside
a_space_at_the_end : is_whole (inline (text (codes "a" ++ 0xC2 ∷ 0xA0 ∷ [])) no_inlines) ≡ false
unfolding chars encode
a_space_at_the_end = refl

a_space_inside : is_whole (inline (text (codes "a" ++ 0xC2 ∷ 0xA0 ∷ codes "b")) no_inlines) ≡ true
unfolding chars encode
a_space_inside = refl

a_break_at_the_end : is_whole (inline (formatted Strong (inline (text (codes "a")) (inline line_break no_inlines)))
    no_inlines) ≡ false
unfolding chars encode
a_break_at_the_end = refl

-- the same format twice, with a space alone between, and with a letter
a_format_twice : is_whole (inline (formatted Strong (inline (text (codes "a")) no_inlines))
    (inline (text (codes " ")) (inline (formatted Strong (inline (text (codes "b")) no_inlines)) no_inlines))) ≡ false
unfolding chars encode
a_format_twice = refl

a_letter_between : is_whole (inline (formatted Strong (inline (text (codes "a")) no_inlines))
    (inline (text (codes " c ")) (inline (formatted Strong (inline (text (codes "b")) no_inlines)) no_inlines)))
    ≡ true
unfolding chars encode
a_letter_between = refl

a_code_with_a_space : is_whole (inline (code (codes "a ")) (inline (text (codes "b")) no_inlines)) ≡ false
unfolding chars encode
a_code_with_a_space = refl

-- a no-break space before a break
a_space_at_a_break : has_bare_breaks (inline (text (codes "a" ++ 0xC2 ∷ 0xA0 ∷ [])) (inline line_break
    (inline (text (codes "b")) no_inlines))) ≡ false
unfolding chars encode
a_space_at_a_break = refl

-- ---- tables

abbrev cell : Inlines
cell = inline (text (codes "a")) no_inlines

a_table : are_blocks_of neat (block (table (align.Left ∷ align.None ∷ []) (cell ∷ no_inlines ∷ [])
    ((no_inlines ∷ cell ∷ []) ∷ (cell ∷ []) ∷ [])) no_blocks) ≡ true
unfolding chars encode
a_table = refl

-- nothing shows in its last column
an_empty_column : are_blocks_of neat (block (table (align.Left ∷ align.None ∷ []) (cell ∷ no_inlines ∷ [])
    ((cell ∷ []) ∷ [])) no_blocks) ≡ false
unfolding chars encode
an_empty_column = refl

-- ---- lists

abbrev so_many : ℕ → Blocks → Items
so_many zero bs = no_items
so_many (suc n) bs = item bs (so_many n bs)

abbrev a : Blocks
a = block (paragraph (inline (text (codes "a")) no_inlines)) no_blocks

a_loose_list : are_blocks_of neat (block (list None false (so_many 2 a)) no_blocks) ≡ true
unfolding chars encode
a_loose_list = refl

-- with nothing but lists in its items
a_loose_list_of_lists : are_blocks_of neat (block (list None false
    (so_many 2 (block (list None true (so_many 2 a)) no_blocks))) no_blocks) ≡ false
unfolding chars encode
a_loose_list_of_lists = refl

-- in eight lists and quotes
numbers_past_99 : numbers_fit 8 (block (list (Some 99) true (so_many 2 a)) no_blocks) ≡ false
numbers_past_99 = refl

less_deep : numbers_fit 7 (block (list (Some 99) true (so_many 2 a)) no_blocks) ≡ true
less_deep = refl

from_one_on : numbers_fit 8 (block (list (Some 1) true (so_many 100 a)) no_blocks) ≡ true
from_one_on = refl

-- ---- elements

abbrev opened : BlockAttribute
opened = record { name = attribute.Open; value = [] }

a_details : has_neat_attributes name.Details (opened ∷ []) ≡ true
a_details = refl

opened_twice : has_neat_attributes name.Details (opened ∷ opened ∷ []) ≡ false
opened_twice = refl

a_cell : has_neat_attributes name.Cell (record { name = attribute.ColumnSpan; value = codes "2" } ∷ []) ≡ true
unfolding digits
a_cell = refl

an_open_summary : has_neat_attributes name.Summary (opened ∷ []) ≡ false
an_open_summary = refl

-- a figure without a caption, and one with it
a_figure_alone : is_neat_element name.Figure [] (block (paragraph (inline (text (codes "a")) no_inlines)) no_blocks)
    ≡ false
a_figure_alone = refl

a_captioned_figure : is_neat_element name.Figure [] (block (element name.FigureCaption [] no_blocks) no_blocks) ≡ true
a_captioned_figure = refl

-- a list of terms whose one term is empty, and one with something in it
abbrev term : Blocks → Blocks
term content = block (element name.Term [] content) no_blocks

an_empty_list_of_terms : is_neat_element name.Terms [] (term no_blocks) ≡ false
an_empty_list_of_terms = refl

a_list_of_terms : is_neat_element name.Terms []
    (term (block (paragraph (inline (text (codes "a")) no_inlines)) no_blocks)) ≡ true
a_list_of_terms = refl

-- ---- tables that are elements

abbrev a_row : Blocks → Blocks
a_row cells = block (element name.Row [] cells) no_blocks

abbrev a_paragraph : Blocks
a_paragraph = block (paragraph (inline (text (codes "a")) no_inlines)) no_blocks

abbrev header_of : Blocks → Blocks
header_of cells = block (element name.HeaderCell [] a_paragraph) cells

-- a header beside another cell says that it isn't for layout
a_table_of_data : is_neat_element name.Table []
    (a_row (header_of (block (element name.Cell [] a_paragraph) no_blocks))) ≡ true
a_table_of_data = refl

-- a header alone is GitHub's
of_github : is_neat_element name.Table [] (a_row (header_of no_blocks)) ≡ false
of_github = refl

-- one cell is for layout, where there is no border
for_layout : is_neat_element name.Table [] (a_row (block (element name.Cell [] a_paragraph) no_blocks)) ≡ false
for_layout = refl

with_a_border : is_neat_element name.Table (record { name = attribute.Border; value = codes "1" } ∷ [])
    (a_row (block (element name.Cell [] a_paragraph) no_blocks)) ≡ true
with_a_border = refl

-- a row in which nothing stands
an_empty_row : is_neat_element name.Table [] (a_row (block (element name.HeaderCell [] no_blocks)
    (block (element name.Cell [] no_blocks) no_blocks))) ≡ false
an_empty_row = refl

-- ---- captions of tables

abbrev caption_before : Blocks → Blocks → Blocks
caption_before content rest = block (element name.Caption [] content) rest

abbrev one_cell : Blocks
one_cell = a_row (block (element name.Cell [] a_paragraph) no_blocks)

-- where there is a caption, a table of one cell isn't for layout, nor is one of a header of GitHub's form
captioned : is_neat_element name.Table [] (caption_before a_paragraph one_cell) ≡ true
captioned = refl

a_captioned_header : is_neat_element name.Table [] (caption_before a_paragraph (a_row (header_of no_blocks))) ≡ true
a_captioned_header = refl

-- an empty caption
an_empty_caption : is_neat_element name.Table [] (caption_before no_blocks one_cell) ≡ false
an_empty_caption = refl

-- ---- cells of several rows

abbrev rows : List ℕ → List BlockAttribute
rows count = record { name = attribute.RowSpan; value = count } ∷ []

-- a cell takes one row before a caption, or two, of which one is behind it
before_a_caption : is_common_element name.Table [] (block (element name.Row [] (block (element name.Cell []
    a_paragraph) no_blocks)) (caption_before a_paragraph one_cell)) ≡ true
unfolding chars encode digits
before_a_caption = refl

past_a_caption : is_common_element name.Table [] (block (element name.Row [] (block (element name.Cell
    (rows (codes "2")) a_paragraph) no_blocks)) (caption_before a_paragraph one_cell)) ≡ false
unfolding chars encode digits
past_a_caption = refl

-- a cell takes the row below its own, which is empty; and one row more than there are
abbrev tall : List ℕ → Blocks → Blocks
tall count more = block (element name.Row [] (block (element name.HeaderCell (rows count) a_paragraph) no_blocks)) more

of_two_rows : is_neat_element name.Table [] (tall (codes "2") (a_row no_blocks)) ≡ true
unfolding chars encode digits
of_two_rows = refl

past_the_end : is_neat_element name.Table [] (tall (codes "3") (a_row no_blocks)) ≡ false
unfolding chars encode digits
past_the_end = refl

-- by rowspan=0 a cell takes all rows of its part, and HTML has no other way to say more than 65,534
all_of_them : rows_within 65535 0 ≡ 65535
all_of_them = refl

the_most_rows : is_common_element name.Cell (rows (codes "65534")) a_paragraph ≡ true
unfolding chars encode digits
the_most_rows = refl

too_many_rows : is_common_element name.Cell (rows (codes "65535")) a_paragraph ≡ false
unfolding chars encode digits
too_many_rows = refl

too_many_are_fewer : row_span (pairs_of_element (rows (codes "65535"))) ≡ 65534
unfolding chars encode digits
too_many_are_fewer = refl
