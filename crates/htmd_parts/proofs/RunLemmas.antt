-- The parts of what is read, one after the other, are its HTML.
use Rattle.std.proofs.Common.{◌≡◌, ℕ, suc, Bool, true, false, List, [], ◌∷◌, ◌++◌, drop, refl, sym, ap, ◌∙◌}
use Rattle.std.proofs.Common.{Option, Some, None, codes}
use Rattle.std.proofs.lemmas.Grind.{flat_map-append}
use Rattle.std.proofs.lemmas.List.{append_assoc, append-nil}
use Rattle.htmd_document.specs.declared.document.Alignment.{Alignment}
use Rattle.htmd_document.specs.Tags.{format_tag, end_of_format}
use Rattle.htmd_commonmark_reading.specs.Markup.{Inlines, no_inlines, letter, code, formatted, link, image, line_break}
use Rattle.htmd_commonmark_reading.specs.Markup.{task, raw, plain_text, Block, paragraph, heading, code_block, quote}
use Rattle.htmd_commonmark_reading.specs.Markup.{thematic_break, list, table, html_block, Blocks, no_blocks, block}
use Rattle.htmd_commonmark_reading.specs.Markup.{Items, no_items, item}
use Rattle.htmd_commonmark_reading.specs.Rendering as rendering
use Rattle.htmd_commonmark_reading.specs.Rendering.{escaped_byte, escaped, code_html, link_tag}
use Rattle.htmd_commonmark_reading.specs.Rendering.{image_before, image_behind, box_html, inlines_html}
use Rattle.htmd_commonmark_reading.specs.Rendering.{first_alignment, cell_tag, end_of_cell, cells_html}
use Rattle.htmd_commonmark_reading.specs.Rendering.{row_html, rows_html, body_html, head_html, table_html, heading_tag}
use Rattle.htmd_commonmark_reading.specs.Rendering.{end_of_heading, list_tag, is_bare, line_end_before, block_html}
use Rattle.htmd_commonmark_reading.specs.Rendering.{blocks_html, items_html, html_of}
use Rattle.htmd_parts.specs.Parts.{Tag, TagEnd, Part, ended, inlines_parts, cells_parts, row_parts, rows_parts}
use Rattle.htmd_parts.specs.Parts.{body_parts, table_parts, is_numbered, block_parts, blocks_parts, items_parts, parts_of}
use Rattle.htmd_parts.specs.Parts as part
use Rattle.htmd_parts.specs.Machine.{page, with_tag, with_end, with_parts, end_of_list}

-- ---- texts in parts

three : (out a b c : List ℕ) → ((out ++ a) ++ b) ++ c ≡ out ++ ((a ++ b) ++ c)
three out a b c = ap (λ s. s ++ c) (append_assoc out a b) ∙ append_assoc out (a ++ b) c

-- and more behind them
three-more : (out a b c rest : List ℕ) → (((out ++ a) ++ b) ++ c) ++ rest ≡ out ++ (((a ++ b) ++ c) ++ rest)
three-more out a b c rest =
    ap (λ s. s ++ rest) (three out a b c) ∙ append_assoc out ((a ++ b) ++ c) rest

-- what goes on from the same HTML
same : (l : Bool) (n : ℕ) (rest : List Part) {x y : List ℕ} → x ≡ y
    → with_parts (page x l n) rest ≡ with_parts (page y l n) rest
same l n rest e = ap (λ s. with_parts (page s l n) rest) e

-- ---- inlines

-- the text of some, and more
texts : (out s t : List ℕ) → (out ++ escaped s) ++ escaped t ≡ out ++ escaped (s ++ t)
texts out s t =
    append_assoc out (escaped s) (escaped t) ∙ ap (λ u. out ++ u) (sym (flat_map-append escaped_byte s t))

described : (xs : Inlines) (out : List ℕ) (l : Bool) (n : ℕ) (rest : List Part)
    → with_parts (page out l (suc n)) (inlines_parts xs rest)
    ≡ with_parts (page (out ++ escaped (plain_text xs)) l (suc n)) rest
described no_inlines out l n rest = same l (suc n) rest (sym (append-nil out))
described (letter c xs) out l n rest =
    described xs (out ++ escaped_byte c) l n rest
    ∙ same l (suc n) rest (append_assoc out (escaped_byte c) (escaped (plain_text xs)))
described (code s xs) out l n rest =
    described xs (out ++ escaped s) l n rest ∙ same l (suc n) rest (texts out s (plain_text xs))
described (formatted f content xs) out l n rest =
    described content out l n (ended (part.formatted_end f) ∷ inlines_parts xs rest)
    ∙ (described xs (out ++ escaped (plain_text content)) l n rest
    ∙ same l (suc n) rest (texts out (plain_text content) (plain_text xs)))
described (link a t content xs) out l n rest =
    described content out l n (ended part.link_end ∷ inlines_parts xs rest)
    ∙ (described xs (out ++ escaped (plain_text content)) l n rest
    ∙ same l (suc n) rest (texts out (plain_text content) (plain_text xs)))
described (image a t content xs) out l n rest =
    described content out l (suc n) (ended (part.image_end t) ∷ inlines_parts xs rest)
    ∙ (described xs (out ++ escaped (plain_text content)) l n rest
    ∙ same l (suc n) rest (texts out (plain_text content) (plain_text xs)))
described (line_break xs) out l n rest =
    described xs (out ++ codes " ") l n rest
    ∙ same l (suc n) rest (append_assoc out (codes " ") (escaped (plain_text xs)))
described (task d xs) out l n rest = described xs out l n rest
described (raw s xs) out l n rest =
    described xs (out ++ escaped s) l n rest ∙ same l (suc n) rest (texts out s (plain_text xs))

shown : (xs : Inlines) (out : List ℕ) (l : Bool) (rest : List Part)
    → with_parts (page out l 0) (inlines_parts xs rest) ≡ with_parts (page (out ++ inlines_html xs) l 0) rest
shown no_inlines out l rest = same l 0 rest (sym (append-nil out))
shown (letter c xs) out l rest =
    shown xs (out ++ escaped_byte c) l rest ∙ same l 0 rest (append_assoc out (escaped_byte c) (inlines_html xs))
shown (code s xs) out l rest =
    shown xs (out ++ code_html s) l rest ∙ same l 0 rest (append_assoc out (code_html s) (inlines_html xs))
shown (formatted f content xs) out l rest =
    let inner = inlines_html content in
    shown content (out ++ format_tag f) l (ended (part.formatted_end f) ∷ inlines_parts xs rest)
    ∙ (shown xs (((out ++ format_tag f) ++ inner) ++ end_of_format f) l rest
    ∙ same l 0 rest (three-more out (format_tag f) inner (end_of_format f) (inlines_html xs)))
shown (link a t content xs) out l rest =
    let inner = inlines_html content in
    shown content (out ++ link_tag a t) l (ended part.link_end ∷ inlines_parts xs rest)
    ∙ (shown xs (((out ++ link_tag a t) ++ inner) ++ codes "</a>") l rest
    ∙ same l 0 rest (three-more out (link_tag a t) inner (codes "</a>") (inlines_html xs)))
shown (image a t content xs) out l rest =
    let inner = escaped (plain_text content) in
    described content (out ++ image_before a) l 0 (ended (part.image_end t) ∷ inlines_parts xs rest)
    ∙ (shown xs (((out ++ image_before a) ++ inner) ++ image_behind t) l rest
    ∙ same l 0 rest (three-more out (image_before a) inner (image_behind t) (inlines_html xs)))
shown (line_break xs) out l rest =
    shown xs (out ++ codes "<br />\n") l rest
    ∙ same l 0 rest (append_assoc out (codes "<br />\n") (inlines_html xs))
shown (task d xs) out l rest =
    shown xs (out ++ box_html d) l rest ∙ same l 0 rest (append_assoc out (box_html d) (inlines_html xs))
shown (raw s xs) out l rest =
    shown xs (out ++ s) l rest ∙ same l 0 rest (append_assoc out s (inlines_html xs))

-- ---- tables

module _ (begin : Alignment → Tag) (end : TagEnd) (name : List ℕ)
    (begins : (out : List ℕ) (l : Bool) (a : Alignment)
    → with_tag (page out l 0) (begin a) ≡ page (out ++ cell_tag name a) l 0)
    (ends : (out : List ℕ) (l : Bool) → with_end (page out l 0) end ≡ page (out ++ end_of_cell name) l 0) where
  cells : (alignments : List Alignment) (cs : List Inlines) (out : List ℕ) (l : Bool) (rest : List Part)
      → with_parts (page out l 0) (cells_parts begin end alignments cs rest)
      ≡ with_parts (page (out ++ cells_html name alignments cs) l 0) rest
  cells alignments [] out l rest = same l 0 rest (sym (append-nil out))
  cells alignments (c ∷ cs) out l rest =
      let tag = cell_tag name (first_alignment alignments) in
      let behind = cells_parts begin end (drop 1 alignments) cs rest in
      ap (λ p. with_parts p (inlines_parts c (ended end ∷ behind))) (begins out l (first_alignment alignments))
      ∙ (shown c (out ++ tag) l (ended end ∷ behind)
      ∙ (ap (λ p. with_parts p behind) (ends ((out ++ tag) ++ inlines_html c) l)
      ∙ (cells (drop 1 alignments) cs (((out ++ tag) ++ inlines_html c) ++ end_of_cell name) l rest
      ∙ same l 0 rest (three-more out tag (inlines_html c) (end_of_cell name)
      (cells_html name (drop 1 alignments) cs)))))

  row : (alignments : List Alignment) (cs : List Inlines) (out : List ℕ) (l : Bool) (rest : List Part)
      → with_parts (page out l 0) (row_parts begin end alignments cs rest)
      ≡ with_parts (page (out ++ row_html name alignments cs) l 0) rest
  row alignments cs out l rest =
      cells alignments cs (out ++ codes "<tr>\n") l (ended part.row_end ∷ rest)
      ∙ same l 0 rest (three out (codes "<tr>\n") (cells_html name alignments cs) (codes "</tr>\n"))

body_row : (alignments : List Alignment) (cs : List Inlines) (out : List ℕ) (l : Bool) (rest : List Part)
    → with_parts (page out l 0) (row_parts part.cell part.cell_end alignments cs rest)
    ≡ with_parts (page (out ++ row_html (codes "td") alignments cs) l 0) rest
body_row = row part.cell part.cell_end (codes "td") (λ out l a. refl) (λ out l. refl)

header_row : (alignments : List Alignment) (cs : List Inlines) (out : List ℕ) (l : Bool) (rest : List Part)
    → with_parts (page out l 0) (row_parts part.header_cell part.header_cell_end alignments cs rest)
    ≡ with_parts (page (out ++ row_html (codes "th") alignments cs) l 0) rest
header_row = row part.header_cell part.header_cell_end (codes "th") (λ out l a. refl) (λ out l. refl)

rows : (alignments : List Alignment) (rs : List (List Inlines)) (out : List ℕ) (l : Bool) (rest : List Part)
    → with_parts (page out l 0) (rows_parts alignments rs rest)
    ≡ with_parts (page (out ++ rows_html alignments rs) l 0) rest
rows alignments [] out l rest = same l 0 rest (sym (append-nil out))
rows alignments (r ∷ rs) out l rest =
    let first = row_html (codes "td") alignments r in
    body_row alignments r out l (rows_parts alignments rs rest)
    ∙ (rows alignments rs (out ++ first) l rest
    ∙ same l 0 rest (append_assoc out first (rows_html alignments rs)))

body : (alignments : List Alignment) (rs : List (List Inlines)) (out : List ℕ) (l : Bool) (rest : List Part)
    → with_parts (page out l 0) (body_parts alignments rs rest)
    ≡ with_parts (page (out ++ body_html alignments rs) l 0) rest
body alignments [] out l rest = same l 0 rest (sym (append-nil out))
body alignments (r ∷ rs) out l rest =
    rows alignments (r ∷ rs) (out ++ codes "<tbody>\n") l (ended part.body_end ∷ rest)
    ∙ same l 0 rest (three out (codes "<tbody>\n") (rows_html alignments (r ∷ rs)) (codes "</tbody>\n"))

a_table : (alignments : List Alignment) (header : List Inlines) (rs : List (List Inlines)) (out : List ℕ) (l : Bool)
    (rest : List Part)
    → with_parts (page out l 0) (table_parts alignments header rs rest)
    ≡ with_parts (page ((out ++ line_end_before l false) ++ table_html alignments header rs) false 0) rest
a_table alignments header rs out l rest =
    let start = out ++ line_end_before l false in
    let first = row_html (codes "th") alignments header in
    let tag = codes "<table>\n" in
    let head = head_html alignments header in
    let below = body_html alignments rs in
    header_row alignments header ((start ++ tag) ++ codes "<thead>\n") false
    (ended part.head_end ∷ body_parts alignments rs (ended part.table_end ∷ rest))
    ∙ (body alignments rs ((((start ++ tag) ++ codes "<thead>\n") ++ first) ++ codes "</thead>\n") false
    (ended part.table_end ∷ rest)
    ∙ same false 0 rest (ap (λ s. (s ++ below) ++ codes "</table>\n")
    (three (start ++ tag) (codes "<thead>\n") first (codes "</thead>\n"))
    ∙ three-more start tag head below (codes "</table>\n")))

-- ---- blocks

-- whether something stands in the last line after blocks
abbrev in_line_after : Bool → Bool → Blocks → Bool
in_line_after tight l no_blocks = l
in_line_after tight l (block b bs) = in_line_after tight (is_bare tight b) bs

bare-begins : (l : Bool) (out : List ℕ) → out ≡ out ++ line_end_before l true
bare-begins true out = sym (append-nil out)
bare-begins false out = sym (append-nil out)

list-ends : (start : Option ℕ) → end_of_list (is_numbered start) ≡ rendering.end_of_list start
list-ends None = refl
list-ends (Some n) = refl

mutual
  one_block : (tight l : Bool) (b : Block) (out : List ℕ) (rest : List Part)
      → with_parts (page out l 0) (block_parts tight b rest)
      ≡ with_parts (page ((out ++ line_end_before l (is_bare tight b)) ++ block_html tight b) (is_bare tight b) 0)
      rest
  one_block true l (paragraph xs) out rest =
      shown xs out l (ended (part.paragraph_end true) ∷ rest)
      ∙ same true 0 rest (ap (λ s. s ++ inlines_html xs) (bare-begins l out))
  one_block false l (paragraph xs) out rest =
      let start = out ++ line_end_before l false in
      shown xs (start ++ codes "<p>") false (ended (part.paragraph_end false) ∷ rest)
      ∙ same false 0 rest (three start (codes "<p>") (inlines_html xs) (codes "</p>\n"))
  one_block tight l (heading level xs) out rest =
      let start = out ++ line_end_before l false in
      shown xs (start ++ heading_tag level) false (ended (part.heading_end level) ∷ rest)
      ∙ same false 0 rest (three start (heading_tag level) (inlines_html xs) (end_of_heading level))
  one_block tight l (code_block language s) out rest = refl
  one_block tight l (quote bs) out rest =
      let start = out ++ line_end_before l false in
      all_blocks false false bs (start ++ codes "<blockquote>\n") (ended part.quote_end ∷ rest)
      ∙ same false 0 rest
      (three start (codes "<blockquote>\n") (blocks_html false false bs) (codes "</blockquote>\n"))
  one_block tight l thematic_break out rest = refl
  one_block tight l (list start is_tight items) out rest =
      let begin = out ++ line_end_before l false in
      all_items is_tight items (begin ++ list_tag start) (ended (part.list_end (is_numbered start)) ∷ rest)
      ∙ same false 0 rest (ap (λ s. ((begin ++ list_tag start) ++ items_html is_tight items) ++ s) (list-ends start)
      ∙ three begin (list_tag start) (items_html is_tight items) (rendering.end_of_list start))
  one_block tight l (table alignments header rs) out rest = a_table alignments header rs out l rest
  one_block tight l (html_block s) out rest = refl

  all_blocks : (tight l : Bool) (bs : Blocks) (out : List ℕ) (rest : List Part)
      → with_parts (page out l 0) (blocks_parts tight bs rest)
      ≡ with_parts (page (out ++ blocks_html tight l bs) (in_line_after tight l bs) 0) rest
  all_blocks tight l no_blocks out rest = same l 0 rest (sym (append-nil out))
  all_blocks tight l (block b bs) out rest =
      let before = line_end_before l (is_bare tight b) in
      let one = block_html tight b in
      let behind = blocks_html tight (is_bare tight b) bs in
      one_block tight l b out (blocks_parts tight bs rest)
      ∙ (all_blocks tight (is_bare tight b) bs ((out ++ before) ++ one) rest
      ∙ same (in_line_after tight (is_bare tight b) bs) 0 rest (three out before one behind))

  all_items : (tight : Bool) (items : Items) (out : List ℕ) (rest : List Part)
      → with_parts (page out false 0) (items_parts tight items rest)
      ≡ with_parts (page (out ++ items_html tight items) false 0) rest
  all_items tight no_items out rest = same false 0 rest (sym (append-nil out))
  all_items tight (item bs items) out rest =
      let inner = blocks_html tight true bs in
      all_blocks tight true bs (out ++ codes "<li>") (ended part.item_end ∷ items_parts tight items rest)
      ∙ (all_items tight items (((out ++ codes "<li>") ++ inner) ++ codes "</li>\n") rest
      ∙ same false 0 rest (three-more out (codes "<li>") inner (codes "</li>\n") (items_html tight items)))

pub whole : (bs : Blocks) → (with_parts (page [] false 0) (parts_of bs)).html ≡ html_of bs
whole bs = ap (λ p. p.html) (all_blocks false false bs [] [])
