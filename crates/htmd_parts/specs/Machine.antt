-- Parts as HTML, one after the other.
use Rattle.std.specs.Prelude.{ℕ, zero, suc, Bool, true, false, List, [], ◌∷◌, ◌++◌, codes, string_bytes, Option}
use Rattle.htmd_document.specs.Tags.{format_tag, end_of_format}
use Rattle.htmd_commonmark_reading.specs.Rendering.{escaped_byte, escaped, code_html, link_tag, image_before, image_behind}
use Rattle.htmd_commonmark_reading.specs.Rendering.{box_html, cell_tag, end_of_cell, heading_tag, end_of_heading}
use Rattle.htmd_commonmark_reading.specs.Rendering.{code_block_html, html_lines, list_tag, line_end_before}
use Rattle.htmd_parts.specs.Parts
use Rattle.htmd_parts.specs.Parts.{Tag, TagEnd, Part}
use Rattle.htmd_parts.specs.declared.html.Writer.{Writer}

-- the HTML so far, whether something stands in its last line, and how many images are open
pub record Page : Type 0 where
  pub html : List ℕ
  pub in_line : Bool
  pub images : ℕ

abbrev pub page : List ℕ → Bool → ℕ → Page
page html in_line images = record { html = html; in_line = in_line; images = images }

-- what the source has written
abbrev pub page_of : Writer → Page
page_of w = page (string_bytes w.html) w.in_line w.images

-- with this behind, in the same line
abbrev pub more : Page → List ℕ → Page
more p s = page (p.html ++ s) p.in_line p.images

-- with this behind, which ends a line
abbrev pub line : Page → List ℕ → Page
line p s = page (p.html ++ s) false p.images

-- with this at the beginning of a line
abbrev pub new_line : Page → List ℕ → Page
new_line p s = line (more p (line_end_before p.in_line false)) s

abbrev pub with_tag : Page → Tag → Page
with_tag p (Parts.paragraph true) = p
with_tag p (Parts.paragraph false) = new_line p (codes "<p>")
with_tag p (Parts.heading level) = new_line p (heading_tag level)
with_tag p Parts.quote = new_line p (codes "<blockquote>\n")
with_tag p (Parts.list start is_tight) = new_line p (list_tag start)
with_tag p Parts.item = page (p.html ++ codes "<li>") true p.images
with_tag p Parts.table = new_line p (codes "<table>\n")
with_tag p Parts.head = more p (codes "<thead>\n")
with_tag p Parts.body = more p (codes "<tbody>\n")
with_tag p Parts.row = more p (codes "<tr>\n")
with_tag p (Parts.header_cell a) = more p (cell_tag (codes "th") a)
with_tag p (Parts.cell a) = more p (cell_tag (codes "td") a)
with_tag p (Parts.formatted f) = more p (format_tag f)
with_tag p (Parts.link a t) = more p (link_tag a t)
with_tag p (Parts.image a) = page (p.html ++ image_before a) p.in_line 1

abbrev pub end_of_list : Bool → List ℕ
end_of_list true = codes "</ol>\n"
end_of_list false = codes "</ul>\n"

abbrev pub with_end : Page → TagEnd → Page
with_end p (Parts.paragraph_end true) = page p.html true p.images
with_end p (Parts.paragraph_end false) = line p (codes "</p>\n")
with_end p (Parts.heading_end level) = line p (end_of_heading level)
with_end p Parts.quote_end = line p (codes "</blockquote>\n")
with_end p (Parts.list_end is_numbered) = line p (end_of_list is_numbered)
with_end p Parts.item_end = line p (codes "</li>\n")
with_end p Parts.table_end = line p (codes "</table>\n")
with_end p Parts.head_end = more p (codes "</thead>\n")
with_end p Parts.body_end = more p (codes "</tbody>\n")
with_end p Parts.row_end = more p (codes "</tr>\n")
with_end p Parts.header_cell_end = more p (end_of_cell (codes "th"))
with_end p Parts.cell_end = more p (end_of_cell (codes "td"))
with_end p (Parts.formatted_end f) = more p (end_of_format f)
with_end p Parts.link_end = more p (codes "</a>")
with_end p (Parts.image_end t) = p

-- a part outside images
abbrev pub with_shown : Page → Part → Page
with_shown p (Parts.begun t) = with_tag p t
with_shown p (Parts.ended t) = with_end p t
with_shown p (Parts.letter c) = more p (escaped_byte c)
with_shown p (Parts.code s) = more p (code_html s)
with_shown p (Parts.raw s) = more p s
with_shown p Parts.line_break = more p (codes "<br />\n")
with_shown p (Parts.task d) = more p (box_html d)
with_shown p (Parts.code_block language s) = new_line p (code_block_html language s)
with_shown p (Parts.html_block s) = new_line p (html_lines s)
with_shown p Parts.thematic_break = new_line p (codes "<hr />\n")

-- the end of an image, which may be in another
abbrev pub with_image_end : Page → Option (List ℕ) → ℕ → Page
with_image_end p t zero = page (p.html ++ image_behind t) p.in_line 0
with_image_end p t (suc n) = page p.html p.in_line (suc n)

-- a part in so many images and one more: its text
abbrev pub with_described : Page → ℕ → Part → Page
with_described p n (Parts.begun (Parts.image a)) = page p.html p.in_line (suc (suc n))
with_described p n (Parts.ended (Parts.image_end t)) = with_image_end p t n
with_described p n (Parts.letter c) = more p (escaped_byte c)
with_described p n (Parts.code s) = more p (escaped s)
with_described p n (Parts.raw s) = more p (escaped s)
with_described p n Parts.line_break = more p (codes " ")
with_described p n x = p

abbrev pub with_part_in : ℕ → Page → Part → Page
with_part_in zero p x = with_shown p x
with_part_in (suc n) p x = with_described p n x

abbrev pub with_part : Page → Part → Page
with_part p x = with_part_in p.images p x

abbrev pub with_parts : Page → List Part → Page
with_parts p [] = p
with_parts p (x ∷ xs) = with_parts (with_part p x) xs
