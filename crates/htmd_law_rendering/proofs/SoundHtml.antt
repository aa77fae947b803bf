-- The HTML of what is read without carriage returns and U+0000 has none.
use Rattle.std.proofs.Common.{◌≡◌, ℕ, ◌+◌, eqb, Bool, true, false, not, ◌&&◌, List, [], ◌∷◌, ◌++◌, drop, refl, codes}
use Rattle.std.proofs.Common.{Option, Some, None, arith}
use Rattle.std.specs.Char.{is_ascii_digit}
use Rattle.std.specs.Fmt.{decimal}
use Rattle.std.specs.Prelude.{◌==◌, ◌/◌, ◌%◌, nat_lt}
use Rattle.std.proofs.lemmas.Bool.{and_parts, and_from}
use Rattle.std.proofs.lemmas.Bool.Decides.{nat_tests}
use Rattle.htmd_lexical.proofs.Cases.{test}
use Rattle.htmd_lexical.specs.Characters.{ampersand, carriage_return, greater_than_sign, less_than_sign, null}
use Rattle.htmd_lexical.specs.Characters.{quotation_mark}
use Rattle.htmd_lexical.specs.CharacterClasses.{lacks}
use Rattle.htmd_document.specs.declared.document.Alignment.{Alignment}
use Rattle.htmd_document.specs.declared.document.Alignment.TheVariants as aligned
use Rattle.htmd_document.specs.Formats.{Format, Emphasis, Strong, Deleted, Superscript, Subscript, Inserted, Underlined}
use Rattle.htmd_document.specs.Formats.{Marked, Small, Keyboard, Abbreviation}
use Rattle.htmd_document.specs.NormalDocuments.{is_code_byte}
use Rattle.htmd_document.specs.Tags.{format_tag, end_of_format}
use Rattle.htmd_commonmark_reading.specs.Markup.{Inlines, no_inlines, letter, code, formatted, link, image, line_break}
use Rattle.htmd_commonmark_reading.specs.Markup.{task, raw, Block, paragraph, heading, code_block, quote}
use Rattle.htmd_commonmark_reading.specs.Markup.{thematic_break, list, table, html_block, Blocks, no_blocks, block}
use Rattle.htmd_commonmark_reading.specs.Markup.{Items, no_items, item, plain_text}
use Rattle.htmd_commonmark_reading.specs.Rendering.{escaped_byte, escaped, stays_in_address, hexadecimal_digit}
use Rattle.htmd_commonmark_reading.specs.Rendering.{address_byte, escaped_address, attribute, title_attribute}
use Rattle.htmd_commonmark_reading.specs.Rendering.{code_html}
use Rattle.htmd_commonmark_reading.specs.Rendering.{formatted_html, link_tag, link_html, image_before, image_behind}
use Rattle.htmd_commonmark_reading.specs.Rendering.{image_html, box_html, inlines_html, first_alignment}
use Rattle.htmd_commonmark_reading.specs.Rendering.{alignment_attribute, cell_tag, end_of_cell, cell_html, cells_html}
use Rattle.htmd_commonmark_reading.specs.Rendering.{row_html, rows_html, body_html, head_html, table_html, heading_tag}
use Rattle.htmd_commonmark_reading.specs.Rendering.{end_of_heading, heading_html, language_attribute, code_lines}
use Rattle.htmd_commonmark_reading.specs.Rendering.{code_block_html, list_tag, end_of_list, item_html}
use Rattle.htmd_commonmark_reading.specs.Rendering.{paragraph_html, is_bare, line_end_before, block_html, blocks_html}
use Rattle.htmd_commonmark_reading.specs.Rendering.{items_html, html_of}
use Rattle.htmd_law_texts.proofs.PieceTexts.{all_append}
use Rattle.htmd_law_rendering.proofs.ByteLemmas.{decimal-digits}
use Rattle.htmd_law_rendering.proofs.SoundTags.{is_sound}
use Rattle.htmd_law_rendering.proofs.SoundRuns.{has_sound_tags}
use Rattle.htmd_law_rendering.proofs.SoundReadings.{CellTags, RowTags, BlockTags, BlocksTags, ItemsTags}
use Rattle.htmd_law_rendering.proofs.SoundWords.{is_sound_if, has_sound_words, plain-sound}
use Rattle.htmd_law_rendering.proofs.SoundDocuments.{byte-is, bytes-are}
use Rattle.htmd_law_rendering.proofs.SoundBlocks.{CellWords, RowWords, BlockWords, BlocksWords, ItemsWords}

-- ---- bytes

-- a text before another
two : (s t : List ℕ) → is_sound s ≡ true → is_sound t ≡ true → is_sound (s ++ t) ≡ true
two s t h k = all_append is_code_byte s t h k

-- and between two
around : (a s b : List ℕ) → is_sound a ≡ true → is_sound s ≡ true → is_sound b ≡ true
    → is_sound (a ++ s ++ b) ≡ true
around a s b h k l = two (a ++ s) b (two a s h k) l

byte-escaped : (b : ℕ) → is_code_byte b ≡ true → is_sound (escaped_byte b) ≡ true
byte-escaped b h =
    test (b == ampersand) (λ e. rw e refl) (λ e.
    test (b == less_than_sign) (λ f. rw (e, f) refl) (λ f.
    test (b == greater_than_sign) (λ g. rw (e, f, g) refl) (λ g.
    test (b == quotation_mark) (λ i. rw (e, f, g, i) refl) (λ i.
    rw (e, f, g, i) (and_from (is_code_byte b) true h refl)))))

text-escaped : (s : List ℕ) → is_sound s ≡ true → is_sound (escaped s) ≡ true
text-escaped [] h = refl
text-escaped (b ∷ s) h =
    let p = and_parts (is_code_byte b) (is_sound s) h in
    two (escaped_byte b) (escaped s) (byte-escaped b p.0) (text-escaped s p.1)

digit-sound : (n : ℕ) → is_code_byte (hexadecimal_digit n) ≡ true
digit-sound n =
    test (nat_lt n 10)
    (λ l. let e : eqb (48 + n) 13 ≡ false = grind (arith, nat_tests) in
    let f : eqb (48 + n) 0 ≡ false = grind (arith, nat_tests) in rw (l, e, f) refl)
    (λ l. let e : eqb (55 + n) 13 ≡ false = grind (arith, nat_tests) in
    let f : eqb (55 + n) 0 ≡ false = grind (arith, nat_tests) in rw (l, e, f) refl)

-- any byte of an address
byte-encoded : (b : ℕ) → is_sound (address_byte b) ≡ true
byte-encoded b =
    test (stays_in_address b)
    (λ t. rw t (byte-escaped b (byte-is stays_in_address b refl refl t)))
    (λ t. rw t (and_from (is_code_byte (hexadecimal_digit (b / 16)))
    (is_code_byte (hexadecimal_digit (b % 16)) && true)
    (digit-sound (b / 16))
    (and_from (is_code_byte (hexadecimal_digit (b % 16))) true (digit-sound (b % 16)) refl)))

address-encoded : (s : List ℕ) → is_sound (escaped_address s) ≡ true
address-encoded [] = refl
address-encoded (b ∷ s) = two (address_byte b) (escaped_address s) (byte-encoded b) (address-encoded s)

number-sound : (n : ℕ) → is_sound (decimal n) ≡ true
number-sound n = bytes-are is_ascii_digit (decimal n) refl refl (decimal-digits n)

-- ---- inlines

pair-sound : (name value : List ℕ) → is_sound name ≡ true → is_sound value ≡ true
    → is_sound (attribute name value) ≡ true
pair-sound name value h k =
    around (codes " " ++ name ++ codes "=\"") value (codes "\"")
    (around (codes " ") name (codes "=\"") refl h refl) k refl

title-html : (t : Option (List ℕ)) → is_sound_if t ≡ true → is_sound (title_attribute t) ≡ true
title-html None h = refl
title-html (Some s) h = pair-sound (codes "title") (escaped s) refl (text-escaped s h)

end-html : (f : Format) → is_sound (end_of_format f) ≡ true
end-html Emphasis = refl
end-html Strong = refl
end-html Deleted = refl
end-html Superscript = refl
end-html Subscript = refl
end-html Inserted = refl
end-html Underlined = refl
end-html Marked = refl
end-html Small = refl
end-html Keyboard = refl
end-html (Abbreviation title) = refl

link-html : (a : List ℕ) (t : Option (List ℕ)) (content : List ℕ) → is_sound_if t ≡ true
    → is_sound content ≡ true → is_sound (link_html a t content) ≡ true
link-html a t content h k =
    let address = attribute (codes "href") (escaped_address a) in
    around (link_tag a t) content (codes "</a>")
    (around (codes "<a" ++ address) (title_attribute t) (codes ">")
    (two (codes "<a") address refl (pair-sound (codes "href") (escaped_address a) refl (address-encoded a)))
    (title-html t h) refl) k refl

image-html : (a : List ℕ) (t : Option (List ℕ)) (description : List ℕ) → is_sound_if t ≡ true
    → is_sound description ≡ true → is_sound (image_html a t description) ≡ true
image-html a t description h k =
    let address = attribute (codes "src") (escaped_address a) in
    around (image_before a) (escaped description) (image_behind t)
    (around (codes "<img") address (codes " alt=\"") refl
    (pair-sound (codes "src") (escaped_address a) refl (address-encoded a)) refl)
    (text-escaped description k) (around (codes "\"") (title_attribute t) (codes " />") refl (title-html t h) refl)

box-html : (d : Bool) → is_sound (box_html d) ≡ true
box-html true = refl
box-html false = refl

line-html : (xs : Inlines) → has_sound_words true xs ≡ true → has_sound_tags xs ≡ true
    → is_sound (inlines_html xs) ≡ true
line-html no_inlines h k = refl
line-html (letter c xs) h k =
    let p = and_parts (is_code_byte c) (has_sound_words true xs) h in
    two (escaped_byte c) (inlines_html xs) (byte-escaped c p.0) (line-html xs p.1 k)
line-html (code s xs) h k =
    let p = and_parts (is_sound s) (has_sound_words true xs) h in
    two (code_html s) (inlines_html xs)
    (around (codes "<code>") (escaped s) (codes "</code>") refl (text-escaped s p.0) refl) (line-html xs p.1 k)
line-html (formatted f content xs) h k =
    let p = and_parts (has_sound_words true content) (has_sound_words true xs) h in
    let q = and_parts (is_sound (format_tag f) && has_sound_tags content) (has_sound_tags xs) k in
    let r = and_parts (is_sound (format_tag f)) (has_sound_tags content) q.0 in
    two (formatted_html f (inlines_html content)) (inlines_html xs)
    (around (format_tag f) (inlines_html content) (end_of_format f) r.0 (line-html content p.0 r.1) (end-html f))
    (line-html xs p.1 q.1)
line-html (link a t content xs) h k =
    let p = and_parts (is_sound_if t && has_sound_words true content) (has_sound_words true xs) h in
    let q = and_parts (is_sound_if t) (has_sound_words true content) p.0 in
    let r = and_parts (has_sound_tags content) (has_sound_tags xs) k in
    two (link_html a t (inlines_html content)) (inlines_html xs)
    (link-html a t (inlines_html content) q.0 (line-html content q.1 r.0)) (line-html xs p.1 r.1)
line-html (image a t content xs) h k =
    let p = and_parts (is_sound_if t && has_sound_words false content) (has_sound_words true xs) h in
    let q = and_parts (is_sound_if t) (has_sound_words false content) p.0 in
    let r = and_parts (has_sound_tags content) (has_sound_tags xs) k in
    two (image_html a t (plain_text content)) (inlines_html xs)
    (image-html a t (plain_text content) q.0 (plain-sound content q.1 r.0)) (line-html xs p.1 r.1)
line-html (line_break xs) h k = line-html xs h k
line-html (task d xs) h k = two (box_html d) (inlines_html xs) (box-html d) (line-html xs h k)
line-html (raw s xs) h k =
    let r = and_parts (is_sound s) (has_sound_tags xs) k in two s (inlines_html xs) r.0 (line-html xs h r.1)

-- ---- tables

alignment-html : (a : Alignment) → is_sound (alignment_attribute a) ≡ true
alignment-html aligned.None = refl
alignment-html aligned.Left = refl
alignment-html aligned.Center = refl
alignment-html aligned.Right = refl

cell-html : (name : List ℕ) (a : Alignment) (xs : Inlines) → is_sound name ≡ true
    → has_sound_words true xs ≡ true → has_sound_tags xs ≡ true → is_sound (cell_html name a xs) ≡ true
cell-html name a xs n h k =
    around (cell_tag name a) (inlines_html xs) (end_of_cell name)
    (around (codes "<" ++ name) (alignment_attribute a) (codes ">") (two (codes "<") name refl n) (alignment-html a)
    refl)
    (line-html xs h k) (around (codes "</") name (codes ">\n") refl n refl)

cells-html : (name : List ℕ) (alignments : List Alignment) (cs : List Inlines) → is_sound name ≡ true
    → CellWords cs → CellTags cs → is_sound (cells_html name alignments cs) ≡ true
cells-html name alignments [] n h k = refl
cells-html name alignments (c ∷ cs) n h k =
    two (cell_html name (first_alignment alignments) c) (cells_html name (drop 1 alignments) cs)
    (cell-html name (first_alignment alignments) c n h.0 k.0) (cells-html name (drop 1 alignments) cs n h.1 k.1)

row-html : (name : List ℕ) (alignments : List Alignment) (cs : List Inlines) → is_sound name ≡ true
    → CellWords cs → CellTags cs → is_sound (row_html name alignments cs) ≡ true
row-html name alignments cs n h k =
    around (codes "<tr>\n") (cells_html name alignments cs) (codes "</tr>\n") refl (cells-html name alignments cs n h k)
    refl

rows-html : (alignments : List Alignment) (rs : List (List Inlines)) → RowWords rs → RowTags rs
    → is_sound (rows_html alignments rs) ≡ true
rows-html alignments [] h k = refl
rows-html alignments (r ∷ rs) h k =
    two (row_html (codes "td") alignments r) (rows_html alignments rs) (row-html (codes "td") alignments r refl h.0 k.0)
    (rows-html alignments rs h.1 k.1)

body-html : (alignments : List Alignment) (rs : List (List Inlines)) → RowWords rs → RowTags rs
    → is_sound (body_html alignments rs) ≡ true
body-html alignments [] h k = refl
body-html alignments (r ∷ rs) h k =
    around (codes "<tbody>\n") (rows_html alignments (r ∷ rs)) (codes "</tbody>\n") refl
    (rows-html alignments (r ∷ rs) h k) refl

table-html : (alignments : List Alignment) (header : List Inlines) (rows : List (List Inlines)) → CellWords header
    → CellTags header → RowWords rows → RowTags rows → is_sound (table_html alignments header rows) ≡ true
table-html alignments header rows h k l m =
    around (codes "<table>\n" ++ head_html alignments header) (body_html alignments rows) (codes "</table>\n")
    (two (codes "<table>\n") (head_html alignments header) refl
    (around (codes "<thead>\n") (row_html (codes "th") alignments header) (codes "</thead>\n") refl
    (row-html (codes "th") alignments header refl h k) refl))
    (body-html alignments rows l m) refl

-- ---- blocks

heading-sound : (level : ℕ) (content : List ℕ) → is_sound content ≡ true
    → is_sound (heading_html level content) ≡ true
heading-sound level content h =
    around (heading_tag level) content (end_of_heading level)
    (around (codes "<h") (decimal level) (codes ">") refl (number-sound level) refl) h
    (around (codes "</h") (decimal level) (codes ">\n") refl (number-sound level) refl)

language-html : (language : Option (List ℕ)) → is_sound_if language ≡ true
    → is_sound (language_attribute language) ≡ true
language-html None h = refl
language-html (Some s) h = around (codes " class=\"language-") (escaped s) (codes "\"") refl (text-escaped s h) refl

lines-html : (s : List ℕ) → is_sound s ≡ true → is_sound (code_lines s) ≡ true
lines-html [] h = refl
lines-html (b ∷ s) h = two (escaped (b ∷ s)) (codes "\n") (text-escaped (b ∷ s) h) refl

code-html : (language : Option (List ℕ)) (s : List ℕ) → is_sound_if language ≡ true → is_sound s ≡ true
    → is_sound (code_block_html language s) ≡ true
code-html language s h k =
    around (codes "<pre><code" ++ language_attribute language ++ codes ">") (code_lines s) (codes "</code></pre>\n")
    (around (codes "<pre><code") (language_attribute language) (codes ">") refl (language-html language h) refl)
    (lines-html s k) refl

start-html : (start : Option ℕ) → is_sound (list_tag start) ≡ true
start-html None = refl
start-html (Some n) =
    test (n == 1) (λ e. rw e refl)
    (λ e. rw e (around (codes "<ol start=\"") (decimal n) (codes "\">\n") refl (number-sound n) refl))

list-end-html : (start : Option ℕ) → is_sound (end_of_list start) ≡ true
list-end-html None = refl
list-end-html (Some n) = refl

paragraph-sound : (is_tight : Bool) (s : List ℕ) → is_sound s ≡ true
    → is_sound (paragraph_html is_tight s) ≡ true
paragraph-sound true s h = h
paragraph-sound false s h = around (codes "<p>") s (codes "</p>\n") refl h refl

begun-html : (is_in_line bare : Bool) → is_sound (line_end_before is_in_line bare) ≡ true
begun-html true false = refl
begun-html true true = refl
begun-html false bare = refl

mutual
  block-sound : (is_tight : Bool) (b : Block) → BlockWords b → BlockTags b
      → is_sound (block_html is_tight b) ≡ true
  block-sound is_tight (paragraph xs) h k = paragraph-sound is_tight (inlines_html xs) (line-html xs h k)
  block-sound is_tight (heading level xs) h k = heading-sound level (inlines_html xs) (line-html xs h k)
  block-sound is_tight (code_block language s) h k = code-html language s h.0 h.1
  block-sound is_tight (quote bs) h k =
      around (codes "<blockquote>\n") (blocks_html false false bs) (codes "</blockquote>\n") refl
      (blocks-sound false false bs h k) refl
  block-sound is_tight thematic_break h k = refl
  block-sound is_tight (list start tight items) h k =
      around (list_tag start) (items_html tight items) (end_of_list start) (start-html start)
      (items-sound tight items h k) (list-end-html start)
  block-sound is_tight (table alignments header rows) h k = table-html alignments header rows h.0 k.0 h.1 k.1
  block-sound is_tight (html_block s) h k = two s (codes "\n") h refl

  blocks-sound : (is_tight is_in_line : Bool) (bs : Blocks) → BlocksWords bs → BlocksTags bs
      → is_sound (blocks_html is_tight is_in_line bs) ≡ true
  blocks-sound is_tight is_in_line no_blocks h k = refl
  blocks-sound is_tight is_in_line (block b bs) h k =
      let bare = is_bare is_tight b in
      two (line_end_before is_in_line bare ++ block_html is_tight b) (blocks_html is_tight bare bs)
      (two (line_end_before is_in_line bare) (block_html is_tight b) (begun-html is_in_line bare)
      (block-sound is_tight b h.0 k.0)) (blocks-sound is_tight bare bs h.1 k.1)

  items-sound : (is_tight : Bool) (items : Items) → ItemsWords items → ItemsTags items
      → is_sound (items_html is_tight items) ≡ true
  items-sound is_tight no_items h k = refl
  items-sound is_tight (item bs rest) h k =
      two (item_html (blocks_html is_tight true bs)) (items_html is_tight rest)
      (around (codes "<li>") (blocks_html is_tight true bs) (codes "</li>\n") refl
      (blocks-sound is_tight true bs h.0 k.0) refl) (items-sound is_tight rest h.1 k.1)

pub html-sound : (bs : Blocks) → BlocksWords bs → BlocksTags bs → is_sound (html_of bs) ≡ true
html-sound bs h k = blocks-sound false false bs h k

-- ---- what is sound

pub no-returns : (s : List ℕ) → is_sound s ≡ true → lacks carriage_return s ≡ true
no-returns [] h = refl
no-returns (b ∷ s) h =
    let p = and_parts (is_code_byte b) (is_sound s) h in
    let q = and_parts (not (b == carriage_return)) (not (b == null)) p.0 in
    and_from (not (b == carriage_return)) (lacks carriage_return s) q.0 (no-returns s p.1)

pub no-nulls : (s : List ℕ) → is_sound s ≡ true → lacks null s ≡ true
no-nulls [] h = refl
no-nulls (b ∷ s) h =
    let p = and_parts (is_code_byte b) (is_sound s) h in
    let q = and_parts (not (b == carriage_return)) (not (b == null)) p.0 in
    and_from (not (b == null)) (lacks null s) q.1 (no-nulls s p.1)
