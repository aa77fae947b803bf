-- The HTML of what is read, as the examples of CommonMark 0.31.2 write it, and GitHub's of tables, strikethrough and
-- tasks (GFM 0.29). Soft breaks are spaces (6.8), as they are read.
use Rattle.std.specs.Prelude.{ℕ, ◌+◌, ◌/◌, ◌%◌, Bool, true, false, ◌||◌, ◌==◌, nat_lt, if◌then◌else◌, List, [], ◌∷◌}
use Rattle.std.specs.Prelude.{◌++◌, drop, codes, Option, Some, None}
use Rattle.std.specs.Char.{is_ascii_alphanumeric}
use Rattle.std.specs.Fmt.{decimal}
use Rattle.std.specs.List.{flat_map}
use Rattle.htmd_document.specs.declared.document.Alignment.{Alignment}
use Rattle.htmd_document.specs.declared.document.Alignment.TheVariants as aligned
use Rattle.htmd_document.specs.Formats.{Format}
use Rattle.htmd_document.specs.Tags.{format_tag, end_of_format}
use Rattle.htmd_lexical.specs.Characters.{ampersand, less_than_sign, greater_than_sign, quotation_mark, is_one_of}
use Rattle.htmd_commonmark_reading.specs.Markup.{Inlines, no_inlines, letter, code, formatted, link, image, line_break}
use Rattle.htmd_commonmark_reading.specs.Markup.{task, raw, Block, paragraph, heading, code_block, quote}
use Rattle.htmd_commonmark_reading.specs.Markup.{thematic_break, list, table, html_block, Blocks, no_blocks, block}
use Rattle.htmd_commonmark_reading.specs.Markup.{Items, no_items, item, plain_text}

-- ---- texts and addresses

-- what stands for a byte of a text
abbrev pub escaped_byte : ℕ → List ℕ
escaped_byte b =
    if b == ampersand then codes "&amp;"
    else (if b == less_than_sign then codes "&lt;"
    else (if b == greater_than_sign then codes "&gt;"
    else (if b == quotation_mark then codes "&quot;" else b ∷ [])))

abbrev pub escaped : List ℕ → List ℕ
escaped s = flat_map escaped_byte s

abbrev pub stays_in_address : ℕ → Bool
stays_in_address b = is_ascii_alphanumeric b || is_one_of (codes "!#$%&'()*+,-./:;=?@_~") b

abbrev pub hexadecimal_digit : ℕ → ℕ
hexadecimal_digit n = if nat_lt n 10 then 48 + n else 55 + n

-- what stands for a byte of an address: for most that aren't letters or digits, two digits after a percent sign
abbrev pub address_byte : ℕ → List ℕ
address_byte b =
    if stays_in_address b
    then escaped_byte b
    else codes "%" ++ hexadecimal_digit (b / 16) ∷ hexadecimal_digit (b % 16) ∷ []

abbrev pub escaped_address : List ℕ → List ℕ
escaped_address s = flat_map address_byte s

-- ---- inlines (6)

abbrev pub attribute : List ℕ → List ℕ → List ℕ
attribute name value = codes " " ++ name ++ codes "=\"" ++ value ++ codes "\""

abbrev pub title_attribute : Option (List ℕ) → List ℕ
title_attribute None = []
title_attribute (Some s) = attribute (codes "title") (escaped s)

-- a code span (6.1)
abbrev pub code_html : List ℕ → List ℕ
code_html s = codes "<code>" ++ escaped s ++ codes "</code>"

-- emphasis (6.2) and strikethrough (GFM 6.5), around this HTML
abbrev pub formatted_html : Format → List ℕ → List ℕ
formatted_html f content = format_tag f ++ content ++ end_of_format f

abbrev pub link_tag : List ℕ → Option (List ℕ) → List ℕ
link_tag address title =
    codes "<a" ++ attribute (codes "href") (escaped_address address) ++ title_attribute title ++ codes ">"

-- a link (6.3), around this HTML
abbrev pub link_html : List ℕ → Option (List ℕ) → List ℕ → List ℕ
link_html address title content = link_tag address title ++ content ++ codes "</a>"

abbrev pub image_before : List ℕ → List ℕ
image_before address = codes "<img" ++ attribute (codes "src") (escaped_address address) ++ codes " alt=\""

abbrev pub image_behind : Option (List ℕ) → List ℕ
image_behind title = codes "\"" ++ title_attribute title ++ codes " />"

-- an image (6.4), with this description
abbrev pub image_html : List ℕ → Option (List ℕ) → List ℕ → List ℕ
image_html address title description = image_before address ++ escaped description ++ image_behind title

-- the box of a task (GFM 5.3)
abbrev pub box_html : Bool → List ℕ
box_html true = codes "<input checked=\"\" disabled=\"\" type=\"checkbox\"> "
box_html false = codes "<input disabled=\"\" type=\"checkbox\"> "

abbrev pub inlines_html : Inlines → List ℕ
inlines_html no_inlines = []
inlines_html (letter c xs) = escaped_byte c ++ inlines_html xs
inlines_html (code s xs) = code_html s ++ inlines_html xs
inlines_html (formatted f content xs) = formatted_html f (inlines_html content) ++ inlines_html xs
inlines_html (link a t content xs) = link_html a t (inlines_html content) ++ inlines_html xs
inlines_html (image a t content xs) = image_html a t (plain_text content) ++ inlines_html xs
inlines_html (line_break xs) = codes "<br />\n" ++ inlines_html xs
inlines_html (task d xs) = box_html d ++ inlines_html xs
inlines_html (raw tag xs) = tag ++ inlines_html xs

-- ---- tables (GFM 4.10)

abbrev pub first_alignment : List Alignment → Alignment
first_alignment [] = aligned.None
first_alignment (a ∷ more) = a

abbrev pub alignment_attribute : Alignment → List ℕ
alignment_attribute aligned.None = []
alignment_attribute aligned.Left = attribute (codes "align") (codes "left")
alignment_attribute aligned.Center = attribute (codes "align") (codes "center")
alignment_attribute aligned.Right = attribute (codes "align") (codes "right")

abbrev pub cell_tag : List ℕ → Alignment → List ℕ
cell_tag name a = codes "<" ++ name ++ alignment_attribute a ++ codes ">"

abbrev pub end_of_cell : List ℕ → List ℕ
end_of_cell name = codes "</" ++ name ++ codes ">\n"

abbrev pub cell_html : List ℕ → Alignment → Inlines → List ℕ
cell_html name a xs = cell_tag name a ++ inlines_html xs ++ end_of_cell name

-- cells of columns with these alignments
abbrev pub cells_html : List ℕ → List Alignment → List Inlines → List ℕ
cells_html name alignments [] = []
cells_html name alignments (c ∷ cs) =
    cell_html name (first_alignment alignments) c ++ cells_html name (drop 1 alignments) cs

abbrev pub row_html : List ℕ → List Alignment → List Inlines → List ℕ
row_html name alignments cs = codes "<tr>\n" ++ cells_html name alignments cs ++ codes "</tr>\n"

abbrev pub rows_html : List Alignment → List (List Inlines) → List ℕ
rows_html alignments [] = []
rows_html alignments (r ∷ rs) = row_html (codes "td") alignments r ++ rows_html alignments rs

abbrev pub body_html : List Alignment → List (List Inlines) → List ℕ
body_html alignments [] = []
body_html alignments (r ∷ rs) = codes "<tbody>\n" ++ rows_html alignments (r ∷ rs) ++ codes "</tbody>\n"

abbrev pub head_html : List Alignment → List Inlines → List ℕ
head_html alignments header = codes "<thead>\n" ++ row_html (codes "th") alignments header ++ codes "</thead>\n"

abbrev pub table_html : List Alignment → List Inlines → List (List Inlines) → List ℕ
table_html alignments header rows =
    codes "<table>\n" ++ head_html alignments header ++ body_html alignments rows ++ codes "</table>\n"

-- ---- blocks (4 and 5)

abbrev pub heading_tag : ℕ → List ℕ
heading_tag level = codes "<h" ++ decimal level ++ codes ">"

abbrev pub end_of_heading : ℕ → List ℕ
end_of_heading level = codes "</h" ++ decimal level ++ codes ">\n"

-- a heading (4.2 and 4.3)
abbrev pub heading_html : ℕ → List ℕ → List ℕ
heading_html level content = heading_tag level ++ content ++ end_of_heading level

abbrev pub language_attribute : Option (List ℕ) → List ℕ
language_attribute None = []
language_attribute (Some s) = codes " class=\"language-" ++ escaped s ++ codes "\""

-- code has a line's end at its end, unless it is empty
abbrev pub code_lines : List ℕ → List ℕ
code_lines [] = []
code_lines (b ∷ s) = escaped (b ∷ s) ++ codes "\n"

-- a code block (4.4 and 4.5)
abbrev pub code_block_html : Option (List ℕ) → List ℕ → List ℕ
code_block_html language s =
    codes "<pre><code" ++ language_attribute language ++ codes ">" ++ code_lines s ++ codes "</code></pre>\n"

-- a block quote (5.1)
abbrev pub quote_html : List ℕ → List ℕ
quote_html content = codes "<blockquote>\n" ++ content ++ codes "</blockquote>\n"

-- an HTML block (4.6)
abbrev pub html_lines : List ℕ → List ℕ
html_lines s = s ++ codes "\n"

-- a list of bullets, or one that is numbered from a number, 1 where none is said
abbrev pub list_tag : Option ℕ → List ℕ
list_tag None = codes "<ul>\n"
list_tag (Some n) = if n == 1 then codes "<ol>\n" else codes "<ol start=\"" ++ decimal n ++ codes "\">\n"

abbrev pub end_of_list : Option ℕ → List ℕ
end_of_list None = codes "</ul>\n"
end_of_list (Some n) = codes "</ol>\n"

-- a list (5.3) of these items
abbrev pub list_html : Option ℕ → List ℕ → List ℕ
list_html start items = list_tag start ++ items ++ end_of_list start

-- an item (5.2)
abbrev pub item_html : List ℕ → List ℕ
item_html content = codes "<li>" ++ content ++ codes "</li>\n"

-- a paragraph (4.8); in a tight list it has no tags (5.3)
abbrev pub paragraph_html : Bool → List ℕ → List ℕ
paragraph_html true content = content
paragraph_html false content = codes "<p>" ++ content ++ codes "</p>\n"

-- whether a block has no tags
abbrev pub is_bare : Bool → Block → Bool
is_bare is_tight (paragraph xs) = is_tight
is_bare is_tight b = false

-- a block with tags begins a line
abbrev pub line_end_before : Bool → Bool → List ℕ
line_end_before true false = codes "\n"
line_end_before is_in_line bare = []

abbrev mutual
  pub block_html : Bool → Block → List ℕ
  block_html is_tight (paragraph xs) = paragraph_html is_tight (inlines_html xs)
  block_html is_tight (heading level xs) = heading_html level (inlines_html xs)
  block_html is_tight (code_block language s) = code_block_html language s
  block_html is_tight (quote bs) = quote_html (blocks_html false false bs)
  block_html is_tight thematic_break = codes "<hr />\n"
  block_html is_tight (list start tight items) = list_html start (items_html tight items)
  block_html is_tight (table alignments header rows) = table_html alignments header rows
  block_html is_tight (html_block s) = html_lines s

  -- blocks of a tight list or not, with something before them in their line or not
  pub blocks_html : Bool → Bool → Blocks → List ℕ
  blocks_html is_tight is_in_line no_blocks = []
  blocks_html is_tight is_in_line (block b bs) =
      line_end_before is_in_line (is_bare is_tight b) ++ block_html is_tight b
      ++ blocks_html is_tight (is_bare is_tight b) bs

  pub items_html : Bool → Items → List ℕ
  items_html is_tight no_items = []
  items_html is_tight (item bs rest) = item_html (blocks_html is_tight true bs) ++ items_html is_tight rest

-- the HTML of what is read
abbrev pub html_of : Blocks → List ℕ
html_of bs = blocks_html false false bs
