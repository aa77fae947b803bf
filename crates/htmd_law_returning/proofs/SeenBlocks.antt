-- What is read with its lines as one sees them: it has the same trees, the same document, and no raw tags but those of
-- anchors.
use Rattle.std.proofs.Common.{◌≡◌, ℕ, Bool, true, false, ◌&&◌, List, [], ◌∷◌, refl, ap, ◌∙◌}
use Rattle.std.proofs.Common.{codes, drop, Some}
use Rattle.std.specs.Prelude.{⊤}
use Rattle.std.proofs.lemmas.Bool.{and_parts, and_from}
use Rattle.htmd_lexical.proofs.Cases.{test}
use Rattle.htmd_document.specs.declared.document.Alignment.{Alignment}
use Rattle.htmd_document.specs.Documents as document
use Rattle.htmd_commonmark_reading.specs.Markup.{Inlines, no_inlines, letter, code, formatted, link, image, line_break}
use Rattle.htmd_commonmark_reading.specs.Markup.{task, raw, Block, paragraph, heading, code_block, quote}
use Rattle.htmd_commonmark_reading.specs.Markup.{thematic_break, list, table, html_block, Blocks, no_blocks, block}
use Rattle.htmd_commonmark_reading.specs.Markup.{Items, no_items, item}
use Rattle.htmd_commonmark_reading.specs.Rendering.{first_alignment, is_bare}
use Rattle.htmd_commonmark_reading.specs.SeenMarkup.{seen_inlines, seen_row, seen_rows, has_none, has_no_cell}
use Rattle.htmd_commonmark_reading.specs.SeenMarkup.{filled_front, without_empty_end, seen_block, seen_blocks}
use Rattle.htmd_commonmark_reading.specs.SeenMarkup.{seen_items}
use Rattle.htmd_commonmark_reading.specs.SeenMarkup.{document_inlines, document_row, document_rows, document_block}
use Rattle.htmd_commonmark_reading.specs.SeenMarkup.{document_blocks, document_items}
use Rattle.htmd_law_rendering.specs.RenderedTrees.{element_before, line_end, inlines_trees, pairs_of_alignment}
use Rattle.htmd_law_rendering.specs.RenderedTrees.{cells_trees, lines_before, row_trees, rows_trees, body_trees}
use Rattle.htmd_law_rendering.specs.RenderedTrees.{table_trees, heading_name, list_name, pairs_of_start}
use Rattle.htmd_law_rendering.specs.RenderedTrees.{paragraph_trees}
use Rattle.htmd_law_rendering.specs.RenderedTrees.{begun_line, block_trees, blocks_trees, items_trees, spelled_of, Open}
use Rattle.htmd_law_rendering.specs.RenderedTrees.{onto, with_html}
use Rattle.htmd_law_rendering.specs.RenderedTrees.{blocks_open}
use Rattle.htmd_law_rendering.specs.SpelledTrees.{SpelledForest, none}
use Rattle.htmd_law_rendering.proofs.PairedLemmas.{total, nothing-left}
use Rattle.htmd_law_rendering.proofs.PairedBlocks.{both-some, one-some, two-some, no-cells}
use Rattle.htmd_law_returning.proofs.RawReadings.{has_no_raw, cells_have_no_raw, rows_have_no_raw, block_has_no_raw}
use Rattle.htmd_law_returning.proofs.RawReadings.{blocks_have_no_raw, items_have_no_raw}
use Rattle.htmd_law_returning.proofs.PairReadings.{has_pairs_alone, cells_have_pairs_alone, rows_have_pairs_alone}
use Rattle.htmd_law_returning.proofs.PairReadings.{block_has_pairs_alone, blocks_have_pairs_alone}
use Rattle.htmd_law_returning.proofs.PairReadings.{items_have_pairs_alone}
use Rattle.htmd_law_returning.proofs.SeenTrees.{seen-trees}
use Rattle.htmd_law_returning.proofs.SeenAgain.{seen-again}

-- ---- lines as they are seen; rows keep their empty cells

abbrev pub line_rows : List (List Inlines) → List (List Inlines)
line_rows [] = []
line_rows (r ∷ rs) = seen_row r ∷ line_rows rs

abbrev mutual
  pub line_block : Block → Block
  line_block (paragraph xs) = paragraph (seen_inlines xs)
  line_block (heading level xs) = heading level (seen_inlines xs)
  line_block (code_block language s) = code_block language s
  line_block (quote bs) = quote (line_blocks bs)
  line_block thematic_break = thematic_break
  line_block (list start tight items) = list start tight (line_items items)
  line_block (table alignments header rows) = table alignments (seen_row header) (line_rows rows)
  line_block (html_block s) = html_block s

  pub line_blocks : Blocks → Blocks
  line_blocks no_blocks = no_blocks
  line_blocks (block b bs) = block (line_block b) (line_blocks bs)

  pub line_items : Items → Items
  line_items no_items = no_items
  line_items (item bs rest) = item (line_blocks bs) (line_items rest)

-- ---- where a document is seen, nothing of raw tags is left over

abbrev CellsLeft : List Inlines → Type 0
CellsLeft [] = ⊤
CellsLeft (c ∷ cs) = (total (seen_inlines c) ≡ 0) × CellsLeft cs

abbrev RowsLeft : List (List Inlines) → Type 0
RowsLeft [] = ⊤
RowsLeft (r ∷ rs) = CellsLeft r × RowsLeft rs

abbrev mutual
  BlockLeft : Block → Type 0
  BlockLeft (paragraph xs) = total (seen_inlines xs) ≡ 0
  BlockLeft (heading level xs) = total (seen_inlines xs) ≡ 0
  BlockLeft (code_block language s) = ⊤
  BlockLeft (quote bs) = BlocksLeft bs
  BlockLeft thematic_break = ⊤
  BlockLeft (list start tight items) = ItemsLeft items
  BlockLeft (table alignments header rows) = CellsLeft header × RowsLeft rows
  BlockLeft (html_block s) = ⊤

  BlocksLeft : Blocks → Type 0
  BlocksLeft no_blocks = ⊤
  BlocksLeft (block b bs) = BlockLeft b × BlocksLeft bs

  ItemsLeft : Items → Type 0
  ItemsLeft no_items = ⊤
  ItemsLeft (item bs rest) = BlocksLeft bs × ItemsLeft rest

row-left : (r : List Inlines) (d : List document.Inlines) → document_row (seen_row r) ≡ Some d → CellsLeft r
row-left [] d e = tt
row-left (c ∷ cs) d e =
    let k = both-some (document_inlines (seen_inlines c)) (document_row (seen_row cs)) d e in
    (nothing-left (seen_inlines c) k.0 k.2, row-left cs k.1 k.3)

none-left : (xs : Inlines) → has_none xs ≡ true → total xs ≡ 0
none-left no_inlines e = refl
none-left (letter b xs) e = absurd (cc)
none-left (code t xs) e = absurd (cc)
none-left (formatted f content xs) e = absurd (cc)
none-left (link a t content xs) e = absurd (cc)
none-left (image a t content xs) e = absurd (cc)
none-left (line_break xs) e = absurd (cc)
none-left (task b xs) e = absurd (cc)
none-left (raw t xs) e = absurd (cc)

filled-left : (cs : List Inlines) (d : List document.Inlines) → document_row (filled_front (seen_row cs)) ≡ Some d
    → CellsLeft cs
filled-left [] d e = tt
filled-left (c ∷ cs) d e =
    test (has_none (seen_inlines c) && has_no_cell (filled_front (seen_row cs)))
    (λ t.
    let p = and_parts (has_none (seen_inlines c)) (has_no_cell (filled_front (seen_row cs))) t in
    let n = no-cells (filled_front (seen_row cs)) p.1 in
    (none-left (seen_inlines c) p.0, filled-left cs [] (ap document_row n)))
    (λ t.
    let w = rw t at e in
    let k = both-some (document_inlines (seen_inlines c)) (document_row (filled_front (seen_row cs))) d w in
    (nothing-left (seen_inlines c) k.0 k.2, filled-left cs k.1 k.3))

body_row-left : (r : List Inlines) (d : List document.Inlines)
    → document_row (without_empty_end (seen_row r)) ≡ Some d → CellsLeft r
body_row-left [] d e = tt
body_row-left (c ∷ cs) d e =
    let k = both-some (document_inlines (seen_inlines c)) (document_row (filled_front (seen_row cs))) d e in
    (nothing-left (seen_inlines c) k.0 k.2, filled-left cs k.1 k.3)

rows-left : (rs : List (List Inlines)) (d : List (List document.Inlines)) → document_rows (seen_rows rs) ≡ Some d
    → RowsLeft rs
rows-left [] d e = tt
rows-left (r ∷ rs) d e =
    let k = both-some (document_row (without_empty_end (seen_row r))) (document_rows (seen_rows rs)) d e in
    (body_row-left r k.0 k.2, rows-left rs k.1 k.3)

mutual
  block-left : (b : Block) (d : document.Block) → document_block (seen_block b) ≡ Some d → BlockLeft b
  block-left (paragraph xs) d e =
      let k = one-some document.paragraph (document_inlines (seen_inlines xs)) d e in
      nothing-left (seen_inlines xs) k.0 k.1
  block-left (heading level xs) d e =
      let k = one-some (document.heading level) (document_inlines (seen_inlines xs)) d e in
      nothing-left (seen_inlines xs) k.0 k.1
  block-left (code_block language s) d e = tt
  block-left (quote bs) d e =
      let k = one-some document.quote (document_blocks (seen_blocks bs)) d e in blocks-left bs k.0 k.1
  block-left thematic_break d e = tt
  block-left (list start tight items) d e =
      let k = one-some (document.list start tight) (document_items (seen_items items)) d e in items-left items k.0 k.1
  block-left (table alignments header rows) d e =
      let k = two-some (document.table alignments) (document_row (seen_row header)) (document_rows (seen_rows rows))
      d e in
      (row-left header k.0 k.2, rows-left rows k.1 k.3)
  block-left (html_block s) d e = tt

  blocks-left : (bs : Blocks) (d : document.Blocks) → document_blocks (seen_blocks bs) ≡ Some d → BlocksLeft bs
  blocks-left no_blocks d e = tt
  blocks-left (block b bs) d e =
      let k = two-some document.block (document_block (seen_block b)) (document_blocks (seen_blocks bs)) d e in
      (block-left b k.0 k.2, blocks-left bs k.1 k.3)

  items-left : (items : Items) (d : document.Items) → document_items (seen_items items) ≡ Some d → ItemsLeft items
  items-left no_items d e = tt
  items-left (item bs rest) d e =
      let k = two-some document.item (document_blocks (seen_blocks bs)) (document_items (seen_items rest)) d e in
      (blocks-left bs k.0 k.2, items-left rest k.1 k.3)

-- ---- rows

cells-same : (name : List ℕ) (alignments : List Alignment) (cs : List Inlines) → CellsLeft cs
    → cells_have_pairs_alone cs ≡ true
    → cells_trees name alignments (seen_row cs) ≡ cells_trees name alignments cs
cells-same name alignments [] h p = refl
cells-same name alignments (c ∷ cs) h p =
    let q = and_parts (has_pairs_alone c) (cells_have_pairs_alone cs) p in
    let pairs = pairs_of_alignment (first_alignment alignments) in
    ap (λ ts. element_before name pairs ts (line_end (cells_trees name (drop 1 alignments) (seen_row cs))))
    (seen-trees c none q.0 h.0)
    ∙ ap (λ ts. element_before name pairs (inlines_trees c none) (line_end ts))
    (cells-same name (drop 1 alignments) cs h.1 q.1)

cells-again : (cs : List Inlines) → CellsLeft cs
    → (cells_have_no_raw (seen_row cs) ≡ true) × (seen_row (seen_row cs) ≡ seen_row cs)
cells-again [] h = (refl, refl)
cells-again (c ∷ cs) h =
    let i = seen-again c h.0 in
    let j = cells-again cs h.1 in (
      and_from (has_no_raw (seen_inlines c)) (cells_have_no_raw (seen_row cs)) i.0 j.0,
      ap (λ x. x ∷ seen_row (seen_row cs)) i.1 ∙ ap (λ xs. seen_inlines c ∷ xs) j.1,
    )

rows-same : (alignments : List Alignment) (rs : List (List Inlines)) → RowsLeft rs
    → rows_have_pairs_alone rs ≡ true → rows_trees alignments (line_rows rs) ≡ rows_trees alignments rs
rows-same alignments [] h p = refl
rows-same alignments (r ∷ rs) h p =
    let q = and_parts (cells_have_pairs_alone r) (rows_have_pairs_alone rs) p in
    ap (λ ts. lines_before (codes "tr") [] ts (rows_trees alignments (line_rows rs)))
    (cells-same (codes "td") alignments r h.0 q.0)
    ∙ ap (row_trees (codes "td") alignments r) (rows-same alignments rs h.1 q.1)

body-same : (alignments : List Alignment) (rs : List (List Inlines)) → RowsLeft rs
    → rows_have_pairs_alone rs ≡ true → body_trees alignments (line_rows rs) ≡ body_trees alignments rs
body-same alignments [] h p = refl
body-same alignments (r ∷ rs) h p =
    ap (λ ts. lines_before (codes "tbody") [] ts none) (rows-same alignments (r ∷ rs) h p)

rows-again : (rs : List (List Inlines)) → RowsLeft rs
    → (rows_have_no_raw (line_rows rs) ≡ true) × (seen_rows (line_rows rs) ≡ seen_rows rs)
rows-again [] h = (refl, refl)
rows-again (r ∷ rs) h =
    let i = cells-again r h.0 in
    let j = rows-again rs h.1 in (
      and_from (cells_have_no_raw (seen_row r)) (rows_have_no_raw (line_rows rs)) i.0 j.0,
      ap (λ x. without_empty_end x ∷ seen_rows (line_rows rs)) i.1
          ∙ ap (λ xs. without_empty_end (seen_row r) ∷ xs) j.1,
    )

table-same : (alignments : List Alignment) (header : List Inlines) (rows : List (List Inlines)) (rest : SpelledForest)
    → CellsLeft header → RowsLeft rows → cells_have_pairs_alone header ≡ true
    → rows_have_pairs_alone rows ≡ true
    → table_trees alignments (seen_row header) (line_rows rows) rest ≡ table_trees alignments header rows rest
table-same alignments header rows rest h k p q =
    ap (λ ts. lines_before (codes "table") [] (lines_before (codes "thead") []
    (lines_before (codes "tr") [] ts none) (body_trees alignments (line_rows rows))) rest)
    (cells-same (codes "th") alignments header h p)
    ∙ ap (λ ts. lines_before (codes "table") [] (lines_before (codes "thead") []
    (row_trees (codes "th") alignments header none) ts) rest) (body-same alignments rows k q)

-- ---- blocks

bare-same : (is_tight : Bool) (b : Block) → is_bare is_tight (line_block b) ≡ is_bare is_tight b
bare-same is_tight (paragraph xs) = refl
bare-same is_tight (heading level xs) = refl
bare-same is_tight (code_block language s) = refl
bare-same is_tight (quote bs) = refl
bare-same is_tight thematic_break = refl
bare-same is_tight (list start tight items) = refl
bare-same is_tight (table alignments header rows) = refl
bare-same is_tight (html_block s) = refl

paragraph-same : (is_tight : Bool) (xs : Inlines) (rest : SpelledForest) → has_pairs_alone xs ≡ true
    → total (seen_inlines xs) ≡ 0
    → paragraph_trees is_tight (seen_inlines xs) rest ≡ paragraph_trees is_tight xs rest
paragraph-same true xs rest p h = seen-trees xs rest p h
paragraph-same false xs rest p h =
    ap (λ ts. element_before (codes "p") [] ts (line_end rest)) (seen-trees xs none p h)

html-same : (b : Block) (o : Open) → with_html (line_block b) o ≡ with_html b o
html-same (paragraph xs) o = refl
html-same (heading level xs) o = refl
html-same (code_block language s) o = refl
html-same (quote bs) o = refl
html-same thematic_break o = refl
html-same (list start tight items) o = refl
html-same (table alignments header rows) o = refl
html-same (html_block s) o = refl

mutual
  block-same : (is_tight : Bool) (b : Block) (rest : SpelledForest) → BlockLeft b → block_has_pairs_alone b ≡ true
      → block_trees is_tight (line_block b) rest ≡ block_trees is_tight b rest
  block-same is_tight (paragraph xs) rest h p = paragraph-same is_tight xs rest p h
  block-same is_tight (heading level xs) rest h p =
      ap (λ ts. element_before (heading_name level) [] ts (line_end rest)) (seen-trees xs none p h)
  block-same is_tight (code_block language s) rest h p = refl
  block-same is_tight (quote bs) rest h p =
      ap (λ o. lines_before (codes "blockquote") [] o.first rest) (open-same false false bs h p)
  block-same is_tight thematic_break rest h p = refl
  block-same is_tight (list start tight items) rest h p =
      ap (λ ts. lines_before (list_name start) (pairs_of_start start) ts rest) (items-same tight items h p)
  block-same is_tight (table alignments header rows) rest h p =
      let q = and_parts (cells_have_pairs_alone header) (rows_have_pairs_alone rows) p in
      table-same alignments header rows rest h.0 h.1 q.0 q.1
  block-same is_tight (html_block s) rest h p = refl

  open-same : (is_tight is_in_line : Bool) (bs : Blocks) → BlocksLeft bs → blocks_have_pairs_alone bs ≡ true
      → blocks_open is_tight is_in_line (line_blocks bs) ≡ blocks_open is_tight is_in_line bs
  open-same is_tight is_in_line no_blocks h p = refl
  open-same is_tight is_in_line (block b bs) h p =
      let q = and_parts (block_has_pairs_alone b) (blocks_have_pairs_alone bs) p in
      let bare = is_bare is_tight b in
      let o = with_html b (blocks_open is_tight bare bs) in
      ap (λ x. onto (λ ts. begun_line is_in_line x (block_trees is_tight (line_block b) ts))
      (with_html (line_block b) (blocks_open is_tight x (line_blocks bs))))
      (bare-same is_tight b)
      ∙ (ap (λ x. onto (λ ts. begun_line is_in_line bare (block_trees is_tight (line_block b) ts)) x)
      (html-same b (blocks_open is_tight bare (line_blocks bs))
      ∙ ap (with_html b) (open-same is_tight bare bs h.1 q.1))
      ∙ ap (λ ts. record o { first = begun_line is_in_line bare ts }) (block-same is_tight b o.first h.0 q.0))

  items-same : (is_tight : Bool) (items : Items) → ItemsLeft items → items_have_pairs_alone items ≡ true
      → items_trees is_tight (line_items items) ≡ items_trees is_tight items
  items-same is_tight no_items h p = refl
  items-same is_tight (item bs rest) h p =
      let q = and_parts (blocks_have_pairs_alone bs) (items_have_pairs_alone rest) p in
      ap (λ o. element_before (codes "li") [] o.first (line_end (items_trees is_tight (line_items rest))))
      (open-same is_tight true bs h.0 q.0)
      ∙ ap (λ ts. element_before (codes "li") [] (blocks_trees is_tight true bs) (line_end ts))
      (items-same is_tight rest h.1 q.1)

mutual
  block-again : (b : Block) → BlockLeft b
      → (block_has_no_raw (line_block b) ≡ true) × (seen_block (line_block b) ≡ seen_block b)
  block-again (paragraph xs) h = let i = seen-again xs h in (i.0, ap paragraph i.1)
  block-again (heading level xs) h = let i = seen-again xs h in (i.0, ap (heading level) i.1)
  block-again (code_block language s) h = (refl, refl)
  block-again (quote bs) h = let i = blocks-again bs h in (i.0, ap quote i.1)
  block-again thematic_break h = (refl, refl)
  block-again (list start tight items) h = let i = items-again items h in (i.0, ap (list start tight) i.1)
  block-again (table alignments header rows) h =
      let i = cells-again header h.0 in
      let j = rows-again rows h.1 in (
        and_from (cells_have_no_raw (seen_row header)) (rows_have_no_raw (line_rows rows)) i.0 j.0,
        ap (λ x. table alignments x (seen_rows (line_rows rows))) i.1 ∙ ap (table alignments (seen_row header)) j.1,
      )
  block-again (html_block s) h = (refl, refl)

  blocks-again : (bs : Blocks) → BlocksLeft bs
      → (blocks_have_no_raw (line_blocks bs) ≡ true) × (seen_blocks (line_blocks bs) ≡ seen_blocks bs)
  blocks-again no_blocks h = (refl, refl)
  blocks-again (block b bs) h =
      let i = block-again b h.0 in
      let j = blocks-again bs h.1 in (
        and_from (block_has_no_raw (line_block b)) (blocks_have_no_raw (line_blocks bs)) i.0 j.0,
        ap (λ x. block x (seen_blocks (line_blocks bs))) i.1 ∙ ap (block (seen_block b)) j.1,
      )

  items-again : (items : Items) → ItemsLeft items
      → (items_have_no_raw (line_items items) ≡ true) × (seen_items (line_items items) ≡ seen_items items)
  items-again no_items h = (refl, refl)
  items-again (item bs rest) h =
      let i = blocks-again bs h.0 in
      let j = items-again rest h.1 in (
        and_from (blocks_have_no_raw (line_blocks bs)) (items_have_no_raw (line_items rest)) i.0 j.0,
        ap (λ x. item x (seen_items (line_items rest))) i.1 ∙ ap (item (seen_blocks bs)) j.1,
      )

-- the trees are the same, the document too, and no raw tag is there but those of anchors
pub record IsWithoutRaw (bs : Blocks) (d : document.Blocks) : Type 0 where
  pub trees : spelled_of (line_blocks bs) ≡ spelled_of bs
  pub seen : document_blocks (seen_blocks (line_blocks bs)) ≡ Some d
  pub none_raw : blocks_have_no_raw (line_blocks bs) ≡ true

pub without-raw : (bs : Blocks) (d : document.Blocks) → document_blocks (seen_blocks bs) ≡ Some d
    → blocks_have_pairs_alone bs ≡ true → IsWithoutRaw bs d
without-raw bs d e p =
    let h = blocks-left bs d e in
    let i = blocks-again bs h in
    record {
      trees = ap (λ o. o.first) (open-same false false bs h p);
      seen = ap document_blocks i.1 ∙ e;
      none_raw = i.0;
    }
