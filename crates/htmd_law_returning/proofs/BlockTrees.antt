-- The trees of the blocks of what is read, by the document that its page shows: that has all cells that are read, and
-- one sees it without the empty ones at the ends of rows.
use Rattle.std.proofs.Common.{◌≡◌, ℕ, Bool, true, false, ◌&&◌, refl, sym, ap, ◌∙◌, codes, map, cond}
use Rattle.std.proofs.Common.{List, [], ◌∷◌, Option, Some, None, subst}
use Rattle.std.specs.Option.{unwrap_or}
use Rattle.std.specs.Prelude.{drop}
use Rattle.std.proofs.lemmas.Bool.{and_parts}
use Rattle.htmd_lexical.specs.Characters.{line_feed}
use Rattle.htmd_values.specs.ValueTrees.{ValueForest}
use Rattle.htmd_document.specs.declared.document.Alignment.{Alignment}
use Rattle.htmd_document.specs.Documents as documents
use Rattle.htmd_document.specs.Documents.{Inlines as Line, BlockAttribute}
use Rattle.htmd_document.specs.declared.document.BlockElement.{BlockElement}
use Rattle.htmd_document.specs.declared.document.BlockElement.TheVariants as an
use Rattle.htmd_document.specs.FlatDocuments.{text_in_line}
use Rattle.htmd_document.specs.Tags.{element_name}
use Rattle.htmd_commonmark_reading.specs.Markup.{Inlines, no_inlines, letter, code, formatted, link, image, line_break}
use Rattle.htmd_commonmark_reading.specs.Markup.{task, raw, Block, paragraph, heading, code_block, quote}
use Rattle.htmd_commonmark_reading.specs.Markup.{thematic_break, list, table, html_block, Blocks, no_blocks, block}
use Rattle.htmd_commonmark_reading.specs.Markup.{Items, no_items, item}
use Rattle.htmd_commonmark_reading.specs.Rendering.{first_alignment}
use Rattle.htmd_commonmark_reading.specs.SeenMarkup.{seen_inlines, seen_row, seen_rows, has_none, has_no_cell}
use Rattle.htmd_commonmark_reading.specs.SeenMarkup.{filled_front, seen_block, seen_blocks}
use Rattle.htmd_commonmark_reading.specs.SeenMarkup.{seen_items, document_inlines, document_row, document_rows}
use Rattle.htmd_commonmark_reading.specs.SeenMarkup.{document_block, document_blocks, document_items, option_of}
use Rattle.htmd_commonmark_reading.specs.SeenMarkup.{and_list}
use Rattle.htmd_flow.specs.Grids.{is_empty_cell, with_cell, trimmed_row}
use Rattle.htmd_law_rendering.specs.SpelledTrees.{Spelled, SpelledForest, value_forest}
use Rattle.htmd_law_rendering.specs.SpelledTrees as value
use Rattle.htmd_law_rendering.specs.RenderedTrees.{line_end, heading_name, code_block_tree}
use Rattle.htmd_law_rendering.specs.RenderedTrees.{list_name, pairs_of_start, pairs_of_alignment, cells_trees}
use Rattle.htmd_law_rendering.specs.RenderedTrees.{pairs_of_element}
use Rattle.htmd_law_rendering.specs.RenderedTrees.{rows_trees, sectioned, is_caption}
use Rattle.htmd_law_rendering.specs.RenderedTrees.{body_trees, block_trees}
use Rattle.htmd_law_rendering.proofs.PairedBlocks.{both-some}
use Rattle.htmd_law_returning.proofs.RawReadings.{has_no_raw, cells_have_no_raw, rows_have_no_raw, block_has_no_raw}
use Rattle.htmd_law_returning.proofs.RawReadings.{blocks_have_no_raw, items_have_no_raw}
use Rattle.htmd_law_returning.proofs.StartLemmas.{false-true}
use Rattle.htmd_law_returning.proofs.GridLemmas.{cut_row}
use Rattle.htmd_law_returning.proofs.LineEndLemmas.{ended_before}
use Rattle.htmd_law_returning.proofs.TreesLemmas.{add_letter, line_of, described, line-seen, whole-described}
use Rattle.htmd_law_returning.proofs.TreesLemmas.{spelled_line, line-trees, anchor-first}

-- ---- the document that a page shows

abbrev pub lines_in : List Inlines → List Line
lines_in [] = []
lines_in (c ∷ cs) = line_of c ∷ lines_in cs

abbrev pub all_lines_in : List (List Inlines) → List (List Line)
all_lines_in [] = []
all_lines_in (r ∷ rs) = lines_in r ∷ all_lines_in rs

abbrev mutual
  pub page_block : Block → documents.Block
  page_block (paragraph xs) = documents.paragraph (line_of xs)
  page_block (heading level xs) = documents.heading level (line_of xs)
  page_block (code_block language s) = documents.code_block language s
  page_block (quote bs) = documents.quote (page_blocks bs)
  page_block thematic_break = documents.thematic_break
  page_block (list start is_tight items) = documents.list start is_tight (page_items items)
  page_block (table alignments header rows) = documents.table alignments (lines_in header) (all_lines_in rows)
  page_block (html_block s) = documents.tags s

  pub page_blocks : Blocks → documents.Blocks
  page_blocks no_blocks = documents.no_blocks
  page_blocks (block b bs) = documents.block (page_block b) (page_blocks bs)

  pub page_items : Items → documents.Items
  page_items no_items = documents.no_items
  page_items (item bs rest) = documents.item (page_blocks bs) (page_items rest)

-- without the empty cells at the ends of rows
abbrev mutual
  pub cut_block : documents.Block → documents.Block
  cut_block (documents.quote bs) = documents.quote (cut_blocks bs)
  cut_block (documents.list start is_tight items) = documents.list start is_tight (cut_items items)
  cut_block (documents.table alignments header rows) = documents.table alignments header (map cut_row rows)
  cut_block (documents.element name attributes content) = documents.element name attributes (cut_blocks content)
  cut_block b = b

  pub cut_blocks : documents.Blocks → documents.Blocks
  cut_blocks documents.no_blocks = documents.no_blocks
  cut_blocks (documents.block b bs) = documents.block (cut_block b) (cut_blocks bs)

  pub cut_items : documents.Items → documents.Items
  cut_items documents.no_items = documents.no_items
  cut_items (documents.item bs rest) = documents.item (cut_blocks bs) (cut_items rest)

-- ---- that is what one sees

added-filled : (c : ℕ) (xs : Line) → is_empty_cell (add_letter c xs) ≡ false
added-filled c documents.no_inlines = refl
added-filled c (documents.inline (documents.text s) xs) = refl
added-filled c (documents.inline (documents.code s) xs) = refl
added-filled c (documents.inline (documents.formatted f d) xs) = refl
added-filled c (documents.inline (documents.link a t d) xs) = refl
added-filled c (documents.inline (documents.image a t d) xs) = refl
added-filled c (documents.inline (documents.anchor id) xs) = refl
added-filled c (documents.inline documents.line_break xs) = refl
added-filled c (documents.inline (documents.task d) xs) = refl

described-empty : (c : Inlines) → has_no_raw c ≡ true → has_none (described c) ≡ is_empty_cell (line_of c)
described-empty no_inlines h = refl
described-empty (letter c xs) h = sym (added-filled c (line_of xs))
described-empty (code s xs) h = refl
described-empty (formatted f content xs) h = refl
described-empty (link a t content xs) h = refl
described-empty (image a t content xs) h = refl
described-empty (line_break xs) h = refl
described-empty (task d xs) h = refl
described-empty (raw tag (raw end xs)) h = let k = anchor-first tag end xs h in rw k.is refl
described-empty (raw tag no_inlines) h = false-true h
described-empty (raw tag (letter c xs)) h = false-true h
described-empty (raw tag (code s xs)) h = false-true h
described-empty (raw tag (formatted f content xs)) h = false-true h
described-empty (raw tag (link a t content xs)) h = false-true h
described-empty (raw tag (image a t content xs)) h = false-true h
described-empty (raw tag (line_break xs)) h = false-true h
described-empty (raw tag (task d xs)) h = false-true h

row-seen : (cs : List Inlines) → cells_have_no_raw cs ≡ true → document_row (seen_row cs) ≡ Some (lines_in cs)
row-seen [] h = refl
row-seen (c ∷ cs) h =
    let parts = and_parts (has_no_raw c) (cells_have_no_raw cs) h in
    rw (line-seen c parts.0, row-seen cs parts.1) refl

-- one more cell before some
front-step : (x : Inlines) (l : Line) (t : List Inlines) (u : List Line) → document_inlines x ≡ Some l
    → has_none x ≡ is_empty_cell l → document_row t ≡ Some u
    → document_row (cond (has_none x && has_no_cell t) [] (x ∷ t)) ≡ Some (with_cell l u)
front-step x l [] u e n h =
    let none : [] ≡ u = ap (λ o. unwrap_or o u) h in
    ap (λ b. document_row (cond (b && true) [] (x ∷ []))) n
    ∙ (either (is_empty_cell l) ∙ ap (λ v. Some (with_cell l v)) none)
  where
    either : (b : Bool) → document_row (cond (b && true) [] (x ∷ [])) ≡ Some (cond b [] (l ∷ []))
    either true = refl
    either false = rw e refl
front-step x l (y ∷ ys) u e n h =
    let k = both-some (document_inlines y) (document_row ys) u h in
    ap (λ b. document_row (cond b [] (x ∷ y ∷ ys))) (no-cell (has_none x))
    ∙ (ap (λ o. and_list o (document_row (y ∷ ys))) e
    ∙ (ap (and_list (Some l)) h ∙ subst (λ (v : List Line). Some (l ∷ v) ≡ Some (with_cell l v)) k.4 refl))
  where
    no-cell : (b : Bool) → (b && false) ≡ false
    no-cell true = refl
    no-cell false = refl

front-seen : (cs : List Inlines) → cells_have_no_raw cs ≡ true
    → document_row (filled_front (seen_row cs)) ≡ Some (trimmed_row (lines_in cs))
front-seen [] h = refl
front-seen (c ∷ cs) h =
    let parts = and_parts (has_no_raw c) (cells_have_no_raw cs) h in
    front-step (seen_inlines c) (line_of c) (filled_front (seen_row cs)) (trimmed_row (lines_in cs))
    (line-seen c parts.0) (ap has_none (whole-described c parts.0) ∙ described-empty c parts.0)
    (front-seen cs parts.1)

rows-seen : (rs : List (List Inlines)) → rows_have_no_raw rs ≡ true
    → document_rows (seen_rows rs) ≡ Some (map cut_row (all_lines_in rs))
rows-seen [] h = refl
rows-seen ([] ∷ rs) h = rw (rows-seen rs h) refl
rows-seen ((c ∷ cs) ∷ rs) h =
    let parts = and_parts (cells_have_no_raw (c ∷ cs)) (rows_have_no_raw rs) h in
    let own = and_parts (has_no_raw c) (cells_have_no_raw cs) parts.0 in
    rw (line-seen c own.0, front-seen cs own.1, rows-seen rs parts.1) refl

mutual
  pub page-seen : (bs : Blocks) → blocks_have_no_raw bs ≡ true
      → document_blocks (seen_blocks bs) ≡ Some (cut_blocks (page_blocks bs))
  page-seen no_blocks h = refl
  page-seen (block b bs) h =
      let parts = and_parts (block_has_no_raw b) (blocks_have_no_raw bs) h in
      rw (block-seen b parts.0, page-seen bs parts.1) refl

  block-seen : (b : Block) → block_has_no_raw b ≡ true
      → document_block (seen_block b) ≡ Some (cut_block (page_block b))
  block-seen (paragraph xs) h = ap (option_of documents.paragraph) (line-seen xs h)
  block-seen (heading level xs) h = ap (option_of (documents.heading level)) (line-seen xs h)
  block-seen (code_block language s) h = refl
  block-seen (quote bs) h = ap (option_of documents.quote) (page-seen bs h)
  block-seen thematic_break h = refl
  block-seen (list start is_tight items) h = ap (option_of (documents.list start is_tight)) (items-seen items h)
  block-seen (table alignments header rows) h =
      let parts = and_parts (cells_have_no_raw header) (rows_have_no_raw rows) h in
      rw (row-seen header parts.0, rows-seen rows parts.1) refl
  block-seen (html_block s) h = refl

  items-seen : (items : Items) → items_have_no_raw items ≡ true
      → document_items (seen_items items) ≡ Some (cut_items (page_items items))
  items-seen no_items h = refl
  items-seen (item bs rest) h =
      let parts = and_parts (blocks_have_no_raw bs) (items_have_no_raw rest) h in
      rw (page-seen bs parts.0, items-seen rest parts.1) refl

-- ---- trees

abbrev pub spelled_before_line : SpelledForest → SpelledForest
spelled_before_line ts = value.more (value.text (line_feed ∷ [])) ts

-- without an element and the line's end after it
abbrev pub behind_both : SpelledForest → SpelledForest
behind_both (value.more t (value.more u ts)) = ts
behind_both ts = ts

-- what stands behind the first block
abbrev pub behind_first : documents.Blocks → documents.Blocks
behind_first documents.no_blocks = documents.no_blocks
behind_first (documents.block b bs) = bs

-- what is in an item, by its blocks and their trees
abbrev pub item_trees : Bool → documents.Blocks → SpelledForest → SpelledForest
item_trees is_tight documents.no_blocks ts = value.none
item_trees true (documents.block (documents.paragraph xs) documents.no_blocks) ts = spelled_line xs
item_trees true (documents.block (documents.paragraph xs) (documents.block b bs)) ts =
    ended_before (behind_both ts) (spelled_line xs)
item_trees is_tight bs ts = spelled_before_line ts

-- cells of columns with these alignments
abbrev pub spelled_cells : List ℕ → List Alignment → List Line → SpelledForest
spelled_cells name alignments [] = value.none
spelled_cells name alignments (c ∷ cs) =
    value.more (value.element value.spaced name (pairs_of_alignment (first_alignment alignments)) (spelled_line c))
    (spelled_before_line (spelled_cells name (drop 1 alignments) cs))

-- an element that begins a line and ends one, with trees in lines of their own
abbrev pub spelled_lines : List ℕ → SpelledForest → SpelledForest → SpelledForest
spelled_lines name content rest =
    value.more (value.element value.spaced name [] (spelled_before_line content)) (spelled_before_line rest)

abbrev pub spelled_rows : List Alignment → List (List Line) → SpelledForest
spelled_rows alignments [] = value.none
spelled_rows alignments (r ∷ rs) =
    spelled_lines (codes "tr") (spelled_cells (codes "td") alignments r) (spelled_rows alignments rs)

abbrev pub spelled_body : List Alignment → List (List Line) → SpelledForest
spelled_body alignments [] = value.none
spelled_body alignments (r ∷ rs) = spelled_lines (codes "tbody") (spelled_rows alignments (r ∷ rs)) value.none

-- the head of a table, and its body
abbrev pub spelled_table : List Alignment → List Line → List (List Line) → SpelledForest
spelled_table alignments header rows =
    spelled_lines (codes "thead")
    (spelled_lines (codes "tr") (spelled_cells (codes "th") alignments header) value.none)
    (spelled_body alignments rows)

-- an element around a text alone, or around trees in lines of their own
abbrev pub spelled_element : BlockElement → List BlockAttribute → Option (List ℕ) → SpelledForest
    → SpelledForest → SpelledForest
spelled_element name attributes (Some s) content ts =
    value.more (value.lone (element_name name) (pairs_of_element attributes) s) (spelled_before_line ts)
spelled_element name attributes None content ts =
    value.more (value.element value.spaced (element_name name) (pairs_of_element attributes)
    (spelled_before_line content)) (spelled_before_line ts)

-- the rows of a table up to a caption, and what stands behind these
pub record Parts : Type 0 where
  pub rows : SpelledForest
  pub after : SpelledForest

abbrev pub is_caption_tree : Spelled → Bool
is_caption_tree (value.element form name attributes content) = is_caption name
is_caption_tree (value.lone name attributes s) = is_caption name
is_caption_tree t = false

-- one more tree of a table
abbrev pub part_before : Bool → Spelled → Parts → Parts
part_before true t ps = record { rows = value.none; after = value.more t (sectioned ps.rows ps.after) }
part_before false t ps = record { rows = value.more t ps.rows; after = ps.after }

abbrev pub table_parts : SpelledForest → Parts
table_parts value.none = record { rows = value.none; after = value.none }
table_parts (value.more t ts) = part_before (is_caption_tree t) t (table_parts ts)

-- the rows of a table are in sections, with its captions between them
abbrev pub spelled_inside : BlockElement → SpelledForest → SpelledForest
spelled_inside an.Table ts = sectioned (table_parts ts).rows (table_parts ts).after
spelled_inside name ts = ts

abbrev mutual
  pub spelled_before : documents.Block → SpelledForest → SpelledForest
  spelled_before (documents.paragraph xs) ts =
      value.more (value.element value.spaced (codes "p") [] (spelled_line xs)) (spelled_before_line ts)
  spelled_before (documents.heading level xs) ts =
      value.more (value.element value.spaced (heading_name level) [] (spelled_line xs)) (spelled_before_line ts)
  spelled_before (documents.code_block language s) ts =
      value.more (value.element value.spaced (codes "pre") [] (code_block_tree language s)) (spelled_before_line ts)
  spelled_before (documents.quote bs) ts = spelled_lines (codes "blockquote") (spelled_in bs) ts
  spelled_before documents.thematic_break ts =
      value.more (value.element value.spaced (codes "hr") [] value.none) (spelled_before_line ts)
  spelled_before (documents.list start is_tight items) ts =
      value.more (value.element value.spaced (list_name start) (pairs_of_start start)
      (spelled_before_line (spelled_items is_tight items))) (spelled_before_line ts)
  spelled_before (documents.table alignments header rows) ts =
      spelled_lines (codes "table") (spelled_table alignments header rows) ts
  spelled_before (documents.element name attributes content) ts =
      spelled_element name attributes (text_in_line content) (spelled_inside name (spelled_in content)) ts
  spelled_before b ts = value.none

  pub spelled_in : documents.Blocks → SpelledForest
  spelled_in documents.no_blocks = value.none
  spelled_in (documents.block b bs) = spelled_before b (spelled_in bs)

  pub spelled_items : Bool → documents.Items → SpelledForest
  spelled_items is_tight documents.no_items = value.none
  spelled_items is_tight (documents.item bs rest) =
      value.more (value.element value.spaced (codes "li") [] (item_trees is_tight bs (spelled_in bs)))
      (spelled_before_line (spelled_items is_tight rest))

-- the trees of blocks
abbrev pub trees_in : documents.Blocks → ValueForest
trees_in bs = value_forest (spelled_in bs)

abbrev pub trees_of_items : Bool → documents.Items → ValueForest
trees_of_items is_tight items = value_forest (spelled_items is_tight items)

-- ---- a line's end before them is a text of its own

pub items-apart : (is_tight : Bool) (items : documents.Items)
    → line_end (spelled_items is_tight items) ≡ spelled_before_line (spelled_items is_tight items)
items-apart is_tight documents.no_items = refl
items-apart is_tight (documents.item bs rest) = refl

pub element-apart : (name : BlockElement) (attributes : List BlockAttribute) (t : Option (List ℕ))
    (content ts : SpelledForest)
    → line_end (spelled_element name attributes t content ts)
    ≡ spelled_before_line (spelled_element name attributes t content ts)
element-apart name attributes None content ts = refl
element-apart name attributes (Some s) content ts = refl

pub line-apart : (bs : documents.Blocks) → line_end (spelled_in bs) ≡ spelled_before_line (spelled_in bs)
line-apart documents.no_blocks = refl
line-apart (documents.block (documents.paragraph xs) bs) = refl
line-apart (documents.block (documents.heading level xs) bs) = refl
line-apart (documents.block (documents.code_block language s) bs) = refl
line-apart (documents.block (documents.quote content) bs) = refl
line-apart (documents.block documents.thematic_break bs) = refl
line-apart (documents.block (documents.list start is_tight items) bs) = refl
line-apart (documents.block (documents.table alignments header rows) bs) = refl
line-apart (documents.block (documents.element name attributes content) bs) =
    element-apart name attributes (text_in_line content) (spelled_inside name (spelled_in content)) (spelled_in bs)
line-apart (documents.block (documents.tags s) bs) = refl

cells-apart : (name : List ℕ) (alignments : List Alignment) (cs : List Line)
    → line_end (spelled_cells name alignments cs) ≡ spelled_before_line (spelled_cells name alignments cs)
cells-apart name alignments [] = refl
cells-apart name alignments (c ∷ cs) = refl

rows-apart : (alignments : List Alignment) (rs : List (List Line))
    → line_end (spelled_rows alignments rs) ≡ spelled_before_line (spelled_rows alignments rs)
rows-apart alignments [] = refl
rows-apart alignments (r ∷ rs) = refl

body-apart : (alignments : List Alignment) (rs : List (List Line))
    → line_end (spelled_body alignments rs) ≡ spelled_before_line (spelled_body alignments rs)
body-apart alignments [] = refl
body-apart alignments (r ∷ rs) = refl

-- ---- the trees of tables

cells-from : (name : List ℕ) (alignments : List Alignment) (cs : List Inlines) → cells_have_no_raw cs ≡ true
    → cells_trees name alignments cs ≡ spelled_cells name alignments (lines_in cs)
cells-from name alignments [] h = refl
cells-from name alignments (c ∷ cs) h =
    let parts = and_parts (has_no_raw c) (cells_have_no_raw cs) h in
    rw (line-trees c parts.0, cells-from name (drop 1 alignments) cs parts.1)
    (ap (value.more (value.element value.spaced name (pairs_of_alignment (first_alignment alignments))
    (spelled_line (line_of c)))) (cells-apart name (drop 1 alignments) (lines_in cs)))

rows-from : (alignments : List Alignment) (rs : List (List Inlines)) → rows_have_no_raw rs ≡ true
    → rows_trees alignments rs ≡ spelled_rows alignments (all_lines_in rs)
rows-from alignments [] h = refl
rows-from alignments (r ∷ rs) h =
    let parts = and_parts (cells_have_no_raw r) (rows_have_no_raw rs) h in
    let cells : List Line = lines_in r in
    rw (cells-from (codes "td") alignments r parts.0, rows-from alignments rs parts.1)
    (ap (λ ts. value.more (value.element value.spaced (codes "tr") [] ts)
    (line_end (spelled_rows alignments (all_lines_in rs)))) (cells-apart (codes "td") alignments cells)
    ∙ ap (value.more (value.element value.spaced (codes "tr") []
    (spelled_before_line (spelled_cells (codes "td") alignments cells)))) (rows-apart alignments (all_lines_in rs)))

body-from : (alignments : List Alignment) (rs : List (List Inlines)) → rows_have_no_raw rs ≡ true
    → body_trees alignments rs ≡ spelled_body alignments (all_lines_in rs)
body-from alignments [] h = refl
body-from alignments (r ∷ rs) h =
    ap (λ ts. value.more (value.element value.spaced (codes "tbody") [] (line_end ts)) (line_end value.none))
    (rows-from alignments (r ∷ rs) h)

pub table-from : (alignments : List Alignment) (header : List Inlines) (rows : List (List Inlines)) (ts : SpelledForest)
    → cells_have_no_raw header ≡ true → rows_have_no_raw rows ≡ true
    → line_end ts ≡ spelled_before_line ts
    → block_trees false (table alignments header rows) ts
    ≡ spelled_before (documents.table alignments (lines_in header) (all_lines_in rows)) ts
table-from alignments header rows ts h k e =
    let cells : List Line = lines_in header in
    rw (cells-from (codes "th") alignments header h, body-from alignments rows k, e)
    (ap (λ us. value.more (value.element value.spaced (codes "table") []
    (spelled_before_line (value.more (value.element value.spaced (codes "thead") []
    (spelled_before_line (value.more (value.element value.spaced (codes "tr") [] us)
    (spelled_before_line value.none)))) (line_end (spelled_body alignments (all_lines_in rows))))))
    (spelled_before_line ts)) (cells-apart (codes "th") alignments cells)
    ∙ ap (λ us. value.more (value.element value.spaced (codes "table") []
    (spelled_before_line (value.more (value.element value.spaced (codes "thead") []
    (spelled_before_line (spelled_lines (codes "tr") (spelled_cells (codes "th") alignments cells) value.none))) us)))
    (spelled_before_line ts)) (body-apart alignments (all_lines_in rows)))
