-- A rich page's table whose rows hold settled lines, and in whose header something shows, is GitHub's table.
use Rattle.std.proofs.Common.{◌≡◌, ℕ, suc, ◌+◌, min, Bool, true, false, not, ◌&&◌, ◌||◌, cond, List}
use Rattle.std.proofs.Common.{[]}
use Rattle.std.proofs.Common.{◌∷◌, filter, map, drop, length, refl, ap, ◌∙◌, arith, Option, Some, nat_lt}
use Rattle.std.specs.Prelude.{nat_le}
use Rattle.std.specs.List.{list_all, list_any}
use Rattle.std.specs.Str.{chars}
use Rattle.std.proofs.lemmas.Bool.{and_parts, and_from}
use Rattle.htmd_document.specs.declared.document.Alignment.{Alignment}
use Rattle.htmd_document.specs.Documents.{Inlines, no_inlines, inline, Block}
use Rattle.htmd_document.specs.NormalDocuments.{ends_filled, is_normal_row, are_normal_cells}
use Rattle.htmd_flow.specs.Contexts.{Context, apart}
use Rattle.htmd_flow.specs.Flows.{nodes_of, node_of, flow_all}
use Rattle.htmd_flow.specs.Flows as flow
use Rattle.htmd_flow.specs.Grids.{is_same_part, table_of_all, trimmed_row, with_cell}
use Rattle.htmd_flow.specs.Levels.{list_of}
use Rattle.htmd_flow.specs.Parts.{Part, edge, whole}
use Rattle.htmd_flow.specs.TableElements as elements
use Rattle.htmd_flow.specs.Tables as tables
use Rattle.htmd_shown.specs.declared.facts.Facts.{Facts}
use Rattle.htmd_shown.specs.SimpleTrees.{Simple, Simples, none, more, element}
use Rattle.htmd_shown.specs.declared.role.Role.TheVariants as role
use Rattle.htmd_commonmark_reading.specs.Rendering.{first_alignment}
use Rattle.htmd_law_returning.proofs.ReadyLemmas.{here}
use Rattle.htmd_law_returning.proofs.GridLemmas.{cut_row}
use Rattle.htmd_law_returning.proofs.RichCellLemmas.{AreRichCells, rich_cells, made_cell, cell_of_rows, is_some}
use Rattle.htmd_law_returning.proofs.RichCellLemmas.{line_tree}
use Rattle.htmd_law_returning.proofs.StartLemmas.{false-true}
use lib.Utf8.{encode}

-- ---- rows

abbrev pub rich_row : Option ℕ → Bool → List Alignment → List Inlines → elements.Piece
rich_row part is_header alignments cells =
    elements.row (record { part = part; cells = rich_cells is_header alignments cells })

abbrev pub rich_rows : Option ℕ → List Alignment → List (List Inlines) → List elements.Piece
rich_rows part alignments rows = map (rich_row part false alignments) rows

-- the rows of a body, and rows as pieces of a table
abbrev pub body_rows : ℕ → Simples → List flow.Row
body_rows id ts = flow.rows_among (record { id = Some id; is_head = false }) ts

abbrev pub as_pieces : List flow.Row → List flow.TablePiece
as_pieces rows = map flow.of_row rows

-- nodes that are the rows of a rich page's table
pub record AreRichRows (is_rich : Bool) (n : ℕ) (alignments : List Alignment) (rows : List (List Inlines))
    (ts : Simples) : Type 0 where
  pub alone : list_all (tables.is_row_or_nothing true) (list_of ts) ≡ true
  pub gives : (id : ℕ) → map (flow.piece_with_blocks false (here is_rich n)) (as_pieces (body_rows id ts))
      ≡ rich_rows (Some id) alignments rows
  pub spanless : (id : ℕ) → flow.have_row_spans (body_rows id ts) ≡ false
  pub kept : (id : ℕ) → list_all (list_any is_some) rows ≡ true
      → filter (flow.stays false) (as_pieces (body_rows id ts)) ≡ as_pieces (body_rows id ts)

module _ (is_rich : Bool) (n : ℕ) where
  pub no-rich-rows : (alignments : List Alignment) → AreRichRows is_rich n alignments [] none
  unfolding node_of
  no-rich-rows alignments = record {
    alone = refl;
    gives = λ id. refl;
    spanless = λ id. refl;
    kept = λ id h. refl;
  }

  row-alone : (id : ℕ) (facts : Facts) (cells ts : Simples)
      → list_all (tables.is_cell_or_nothing true) (list_of cells) ≡ true
      → list_all (tables.is_row_or_nothing true) (list_of ts) ≡ true
      → list_all (tables.is_row_or_nothing true)
      (list_of (more (element id role.Row facts [] (more line_tree cells)) (more line_tree ts))) ≡ true
  unfolding chars encode
  row-alone id facts cells ts h k =
      ap (λ b. b && list_all (tables.is_row_or_nothing true) (list_of ts)) h ∙ k

  pub more-rich-rows : (id : ℕ) (facts : Facts) (alignments : List Alignment) (cells ts : Simples) (r : List Inlines)
      (rs : List (List Inlines)) → AreRichCells is_rich n false alignments r cells
      → AreRichRows is_rich n alignments rs ts
      → AreRichRows is_rich n alignments (r ∷ rs)
      (more (element id role.Row facts [] (more line_tree cells)) (more line_tree ts))
  unfolding node_of
  more-rich-rows id facts alignments cells ts r rs own later = record {
    alone = row-alone id facts cells ts own.alone later.alone;
    gives = λ part.
        ap (λ cs. elements.row (record { part = Some part; cells = cs })
        ∷ map (flow.piece_with_blocks false (here is_rich n)) (as_pieces (body_rows part ts))) own.gives
        ∙ ap (λ ps. rich_row (Some part) false alignments r ∷ ps) (later.gives part);
    spanless = λ part.
        ap (λ b. (b && flow.follows_in_part (Some part) (body_rows part ts))
        || flow.have_row_spans (body_rows part ts)) own.spanless ∙ later.spanless part;
    kept = λ part h.
        let parts = and_parts (list_any is_some r) (list_all (list_any is_some) rs) h in
        let first : flow.Row = record {
          part = Some part;
          is_in_head = false;
          cells = filter flow.is_cell (nodes_of cells);
        } in
        ap (λ b. cond b (flow.of_row first ∷ filter (flow.stays false) (as_pieces (body_rows part ts)))
        (filter (flow.stays false) (as_pieces (body_rows part ts)))) (own.shows parts.0)
        ∙ ap (λ ps. flow.of_row first ∷ ps) (later.kept part parts.1);
  }

-- ---- cells in GitHub's form

one-place : (left : ℕ) → min 1 (left + 1) ≡ 1
one-place left = omega arith

cells-uncut : (left : ℕ) (is_header : Bool) (alignments : List Alignment) (cells : List Inlines)
    → min 1 left ≡ 1
    → map (elements.cut_cell left) (rich_cells is_header alignments cells) ≡ rich_cells is_header alignments cells
cells-uncut left is_header alignments [] h = refl
cells-uncut left is_header alignments (c ∷ cs) h =
    ap (λ k. cell_of_rows k is_header (first_alignment alignments) c
    ∷ map (elements.cut_cell left) (rich_cells is_header (drop 1 alignments) cs)) h
    ∙ ap (λ xs. made_cell is_header (first_alignment alignments) c ∷ xs)
    (cells-uncut left is_header (drop 1 alignments) cs h)

row-uncut : (s : elements.Stretch) (part : Option ℕ) (is_header : Bool) (alignments : List Alignment)
    (cells : List Inlines)
    → elements.cut_piece s (rich_row part is_header alignments cells) ≡ rich_row part is_header alignments cells
row-uncut s part is_header alignments cells =
    ap (λ xs. elements.row (record { part = part; cells = xs }))
    (cells-uncut (elements.stretched part s).left is_header alignments cells
    (some-left (nat_lt 0 s.left && is_same_part part s.part)))
  where
    some-left : (b : Bool) → min 1 (cond b (s.left + 1) 1) ≡ 1
    some-left true = one-place s.left
    some-left false = refl

rows-uncut : (part : Option ℕ) (alignments : List Alignment) (rows : List (List Inlines))
    → elements.cut_all (rich_rows part alignments rows) ≡ rich_rows part alignments rows
rows-uncut part alignments [] = refl
rows-uncut part alignments (r ∷ rs) =
    let rest : List elements.Piece = rich_rows part alignments rs in
    ap (λ p. p ∷ elements.cut_all rest) (row-uncut (elements.stretch_of rest) part false alignments r)
    ∙ ap (λ ps. rich_row part false alignments r ∷ ps) (rows-uncut part alignments rs)

cells-paragraphs : (is_header : Bool) (alignments : List Alignment) (cells : List Inlines)
    → list_all elements.is_paragraph_cell (rich_cells is_header alignments cells) ≡ true
cells-paragraphs is_header alignments [] = refl
cells-paragraphs is_header alignments (no_inlines ∷ cs) = cells-paragraphs is_header (drop 1 alignments) cs
cells-paragraphs is_header alignments (inline x xs ∷ cs) = cells-paragraphs is_header (drop 1 alignments) cs

rows-paragraphs : (part : Option ℕ) (alignments : List Alignment) (rows : List (List Inlines))
    → elements.are_paragraphs (rich_rows part alignments rows) ≡ true
rows-paragraphs part alignments [] = refl
rows-paragraphs part alignments (r ∷ rs) =
    ap (λ b. b && elements.are_paragraphs (rich_rows part alignments rs)) (cells-paragraphs false alignments r)
    ∙ rows-paragraphs part alignments rs

header-cells : (alignments : List Alignment) (cells : List Inlines)
    → list_all elements.is_in_header (rich_cells true alignments cells) ≡ true
header-cells alignments [] = refl
header-cells alignments (c ∷ cs) = header-cells (drop 1 alignments) cs

body-cells : (alignments : List Alignment) (cells : List Inlines)
    → list_all elements.is_in_body (rich_cells false alignments cells) ≡ true
body-cells alignments [] = refl
body-cells alignments (c ∷ cs) = body-cells (drop 1 alignments) cs

cells-length : (is_header : Bool) (alignments : List Alignment) (cells : List Inlines)
    → length (rich_cells is_header alignments cells) ≡ length cells
cells-length is_header alignments [] = refl
cells-length is_header alignments (c ∷ cs) = ap suc (cells-length is_header (drop 1 alignments) cs)

-- no row has more cells than that
abbrev pub are_narrow : ℕ → List (List Inlines) → Bool
are_narrow k rows = list_all (λ r. nat_le (length r) k) rows

rows-fit : (k : ℕ) (part : Option ℕ) (alignments : List Alignment) (rows : List (List Inlines))
    → are_narrow k rows ≡ true → list_all (elements.fits_below k) (rich_rows part alignments rows) ≡ true
rows-fit k part alignments [] h = refl
rows-fit k part alignments (r ∷ rs) h =
    let parts = and_parts (nat_le (length r) k) (are_narrow k rs) h in
    let rest : Bool = list_all (elements.fits_below k) (rich_rows part alignments rs) in
    ap (λ m. (nat_le m k && list_all elements.is_in_body (rich_cells false alignments r)) && rest)
    (cells-length false alignments r)
    ∙ (ap (λ b. (b && list_all elements.is_in_body (rich_cells false alignments r)) && rest) parts.0
    ∙ (ap (λ b. b && rest) (body-cells alignments r) ∙ rows-fit k part alignments rs parts.1))

cells-said : (is_header : Bool) (alignments : List Alignment) (cells : List Inlines)
    → map elements.cell_line (rich_cells is_header alignments cells) ≡ cells
cells-said is_header alignments [] = refl
cells-said is_header alignments (no_inlines ∷ cs) =
    ap (λ xs. no_inlines ∷ xs) (cells-said is_header (drop 1 alignments) cs)
cells-said is_header alignments (inline x xs ∷ cs) =
    ap (λ ys. inline x xs ∷ ys) (cells-said is_header (drop 1 alignments) cs)

rows-said : (part : Option ℕ) (alignments : List Alignment) (rows : List (List Inlines))
    → map elements.line_of (rich_rows part alignments rows) ≡ rows
rows-said part alignments [] = refl
rows-said part alignments (r ∷ rs) =
    ap (λ xs. xs ∷ map elements.line_of (rich_rows part alignments rs)) (cells-said false alignments r)
    ∙ ap (λ xs. r ∷ xs) (rows-said part alignments rs)

columns-said : (alignments : List Alignment) (cells : List Inlines) → length alignments ≡ length cells
    → map elements.alignment_in (rich_cells true alignments cells) ≡ alignments
columns-said [] [] h = refl
columns-said [] (c ∷ cs) h = absurd (omega (arith, h))
columns-said (a ∷ others) [] h = absurd (omega (arith, h))
columns-said (a ∷ others) (c ∷ cs) h = ap (λ xs. a ∷ xs) (columns-said others cs (omega (arith, h)))

-- all is GitHub's form
pub lines-table : (head part : Option ℕ) (alignments : List Alignment) (header : List Inlines)
    (rows : List (List Inlines)) (b : Block) → length alignments ≡ length header
    → are_narrow (length header) rows ≡ true → table_of_all alignments true (header ∷ rows) ≡ Some b
    → elements.table_of_pieces false
    (elements.cut_all (rich_row head true alignments header ∷ rich_rows part alignments rows)) ≡ Some b
lines-table head part alignments header rows b count narrow h =
    let rest : List elements.Piece = rich_rows part alignments rows in
    let first : elements.Piece = rich_row head true alignments header in
    let cells : List elements.Cell = rich_cells true alignments header in
    let lines : Option Block = elements.table_of_lines (first ∷ rest) in
    let other : Option Block = elements.table_of_elements false (first ∷ rest) in
    let fit : list_all (elements.fits_below (length cells)) rest ≡ true =
    ap (λ k. list_all (elements.fits_below k) rest) (cells-length true alignments header)
    ∙ rows-fit (length header) part alignments rows narrow in
    ap (λ ps. elements.table_of_pieces false (elements.cut_piece (elements.stretch_of rest) first ∷ ps))
    (rows-uncut part alignments rows)
    ∙ (ap (λ p. elements.table_of_pieces false (p ∷ rest))
    (row-uncut (elements.stretch_of rest) head true alignments header)
    ∙ (ap (λ x. cond ((x && elements.are_paragraphs rest) && elements.has_header_alone (first ∷ rest)) lines other)
    (cells-paragraphs true alignments header)
    ∙ (ap (λ x. cond (x && elements.has_header_alone (first ∷ rest)) lines other)
    (rows-paragraphs part alignments rows)
    ∙ (ap (λ x. cond (x && list_all (elements.fits_below (length cells)) rest) lines other)
    (header-cells alignments header)
    ∙ (ap (λ x. cond x lines other) fit
    ∙ (ap (λ columns. table_of_all columns true (map elements.line_of (first ∷ rest)))
    (columns-said alignments header count)
    ∙ (ap (λ xs. table_of_all alignments true (xs ∷ map elements.line_of rest)) (cells-said true alignments header)
    ∙ (ap (λ xs. table_of_all alignments true (header ∷ xs)) (rows-said part alignments rows) ∙ h))))))))

-- ---- the table

rows-among : (rows : List flow.Row) → flow.rows_in (as_pieces rows) ≡ rows
rows-among [] = refl
rows-among (r ∷ rs) = ap (λ xs. r ∷ xs) (rows-among rs)

-- a table of rows that stay, and no cell of which spans rows
pub rich-parts : (trees : List Simple) (rows : List flow.Row) (nodes : List flow.Node) (context : Context)
    (made_of : List elements.Piece) (b : Block) → flow.have_row_spans rows ≡ false
    → filter (flow.stays false) (as_pieces rows) ≡ as_pieces rows → tables.holds_table_alone true trees ≡ true
    → list_any flow.heads (as_pieces rows) ≡ true
    → map (flow.piece_with_blocks false context) (as_pieces rows) ≡ made_of
    → elements.table_of_pieces false (elements.cut_all made_of) ≡ Some b
    → flow.rich_table_parts trees [] (as_pieces rows) nodes context ≡ edge ∷ whole b ∷ edge ∷ []
unfolding chars encode
rich-parts trees rows nodes context made_of b spanless kept alone headed gives is =
    let pieces : List flow.TablePiece = as_pieces rows in
    let spans : Bool = flow.have_row_spans (flow.rows_in pieces) in
    let none_spans : spans ≡ false = ap flow.have_row_spans (rows-among rows) ∙ spanless in
    let content : List Part = flow_all nodes context in
    ap (λ s. apart (flow.kept_table_parts trees [] s (filter (flow.stays s) pieces) nodes context)) none_spans
    ∙ (ap (λ ps. apart (flow.kept_table_parts trees [] false ps nodes context)) kept
    ∙ (ap (λ x. apart (cond (not x || not (flow.is_headed [] pieces || flow.may_be_grid pieces)) content
    (flow.table_with_blocks [] pieces (flow.pieces_with_blocks false pieces context) content))) alone
    ∙ (ap (λ x. apart (cond (not (x || flow.may_be_grid pieces)) content
    (cond (x || elements.are_paragraphs (flow.pieces_with_blocks false pieces context))
    (flow.block_part (elements.table_of_pieces false (flow.pieces_with_blocks false pieces context))) content))) headed
    ∙ (ap (λ ps. apart (flow.block_part (elements.table_of_pieces false (elements.cut_all ps)))) gives
    ∙ ap (λ o. apart (flow.block_part o)) is))))

-- ---- normal rows show

some-filled : (r : List Inlines) → ends_filled r ≡ true → list_any is_some r ≡ true
some-filled [] h = false-true h
some-filled (c ∷ []) h = ap (λ b. b || false) h
some-filled (c ∷ d ∷ cs) h = ap (λ b. is_some c || b) (some-filled (d ∷ cs) h) ∙ or-true (is_some c)
  where
    or-true : (b : Bool) → (b || true) ≡ true
    or-true true = refl
    or-true false = refl

some-trimmed : (cells : List Inlines) → list_any is_some (trimmed_row cells) ≡ true
    → list_any is_some cells ≡ true
some-trimmed [] h = h
some-trimmed (c ∷ cs) h = before c (trimmed_row cs) h (some-trimmed cs)
  where
    before : (c : Inlines) (t : List Inlines) → list_any is_some (with_cell c t) ≡ true
        → (list_any is_some t ≡ true → list_any is_some cs ≡ true) → list_any is_some (c ∷ cs) ≡ true
    before no_inlines [] h later = false-true h
    before (inline x xs) [] h later = refl
    before no_inlines (d ∷ t) h later = later h
    before (inline x xs) (d ∷ t) h later = refl

some-row : (cells : List Inlines) → ends_filled (cut_row cells) ≡ true → list_any is_some cells ≡ true
some-row [] h = false-true h
some-row (c ∷ cs) h = before c (some-filled (c ∷ trimmed_row cs) h)
  where
    before : (c : Inlines) → list_any is_some (c ∷ trimmed_row cs) ≡ true → list_any is_some (c ∷ cs) ≡ true
    before no_inlines e = some-trimmed cs e
    before (inline x xs) e = refl

pub rows-filled : (k : ℕ) (rows : List (List Inlines)) → list_all (is_normal_row k) (map cut_row rows) ≡ true
    → list_all (list_any is_some) rows ≡ true
rows-filled k [] h = refl
rows-filled k (r ∷ rs) h =
    let parts = and_parts (is_normal_row k (cut_row r)) (list_all (is_normal_row k) (map cut_row rs)) h in
    let own = and_parts (nat_le (length (cut_row r)) k && ends_filled (cut_row r)) (are_normal_cells (cut_row r))
    parts.0 in
    and_from (list_any is_some r) (list_all (list_any is_some) rs)
    (some-row r (and_parts (nat_le (length (cut_row r)) k) (ends_filled (cut_row r)) own.0).1)
    (rows-filled k rs parts.1)
