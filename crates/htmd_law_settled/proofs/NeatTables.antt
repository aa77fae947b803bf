-- Tables that are elements in the document of a page: what their rows are like.
use Rattle.std.proofs.Common.{◌≡◌, ℕ, Bool, true, false, not, ◌&&◌, ◌||◌, nat_lt, nat_le, List, []}
use Rattle.std.proofs.Common.{◌∷◌, map, length}
use Rattle.std.proofs.Common.{suc, None, refl, sym, ap, ◌∙◌, arith}
use Rattle.std.specs.Prelude.{if◌then◌else◌}
use Rattle.std.specs.Fmt.{decimal}
use Rattle.std.specs.List.{list_all, list_any}
use Rattle.std.proofs.lemmas.Bool.{and_from, and_parts, true≢false, false≢true}
use Rattle.std.proofs.lemmas.Bool.Decides.{nat_tests}
use Rattle.htmd_lexical.specs.AttributePairs.{AttributePair}
use Rattle.htmd_lexical.proofs.Cases.{test}
use Rattle.htmd_document.specs.Documents.{BlockAttribute, Blocks, blocks_of}
use Rattle.htmd_document.specs.Documents as documents
use Rattle.htmd_document.specs.declared.document.BlockElement.TheVariants as an
use Rattle.htmd_flow.specs.Contexts.{Context}
use Rattle.htmd_flow.specs.Flows as flow
use Rattle.htmd_flow.specs.Flows.{Node, TablePiece, of_caption, of_row, rows_in, have_row_spans, kept_pieces}
use Rattle.htmd_flow.specs.Flows.{cell_with_blocks, piece_with_blocks, pieces_with_blocks, attributes_of, has_border}
use Rattle.htmd_flow.specs.Flows.{is_headed, is_for_page, may_be_grid}
use Rattle.htmd_flow.specs.Tables as tables
use Rattle.htmd_flow.specs.TableElements.{Cell, Piece, caption, row, cell_element, piece_element, cut_cell}
use Rattle.htmd_flow.specs.TableElements.{is_filled_cell, is_filled_piece, is_paragraph_cell}
use Rattle.htmd_flow.specs.TableElements.{are_paragraphs, has_header_alone, is_in_header, is_in_body, fits_below}
use Rattle.htmd_flow.specs.TableElements.{border_attribute, stretched, stretch_of}
use Rattle.htmd_shown.specs.SimpleTrees.{Simple}
use Rattle.htmd_shown.specs.Attributes.{wide_span, row_span, alignment}
use Rattle.htmd_law_rendering.specs.RenderedTrees.{pairs_of_element}
use Rattle.htmd_law_returning.specs.SettledTables as settled
use Rattle.htmd_law_returning.specs.SettledTables.{cells_in, has_header, is_wide, is_told, row_count, fits}
use Rattle.htmd_law_returning.specs.SettledTables.{have_fitting_cells, takes_more, is_tall}
use Rattle.htmd_law_returning.proofs.TallRows.{neither}
use Rattle.htmd_law_settled.specs.NeatLeaves.{are_read_cells, are_read_rows, is_neat_table}
use Rattle.htmd_law_settled.proofs.CellAttributes.{IsWide, is-wide, attributes_said, columns-read, alignment-said}
use Rattle.htmd_law_settled.proofs.CellAttributes.{rows_read, one-read, read-low, read-more}
use Rattle.htmd_law_settled.proofs.FittingRows.{cut-fits}
use Rattle.htmd_law_settled.proofs.ShownHeaders.{FillPieces, one_row, no_spans, all-filled}

-- ---- what is read of rows

abbrev said_of : Cell → List BlockAttribute
said_of c = attributes_said c.columns c.rows c.alignment

abbrev read_cell : Cell → Cell
read_cell c = record c { rows = rows_read c.columns c.rows c.alignment }

abbrev read_piece : Piece → Piece
read_piece (caption content) = caption content
read_piece (row r) = row (record { part = None; cells = map read_cell r.cells })

abbrev AllWide : List Cell → Type 0
AllWide [] = Unit {0}
AllWide (c ∷ cells) = IsWide c.columns × AllWide cells

abbrev PiecesWide : List Piece → Type 0
PiecesWide [] = Unit {0}
PiecesWide (caption content ∷ pieces) = PiecesWide pieces
PiecesWide (row r ∷ pieces) = AllWide r.cells × PiecesWide pieces

-- their rows are read as they are
abbrev CellsRead : List Cell → Type 0
CellsRead [] = Unit {0}
CellsRead (c ∷ cells) = (settled.rows_are_read (said_of c) ≡ true) × CellsRead cells

abbrev RowsRead : List Piece → Type 0
RowsRead [] = Unit {0}
RowsRead (caption content ∷ pieces) = RowsRead pieces
RowsRead (row r ∷ pieces) = CellsRead r.cells × RowsRead pieces

abbrev elements_of : List Cell → Blocks
elements_of cells = blocks_of (map cell_element cells)

abbrev rows_of : List Piece → Blocks
rows_of pieces = blocks_of (map piece_element pieces)

header-cell : (b : Bool) (attributes : List BlockAttribute) (content bs : Blocks)
    → cells_in (documents.block (documents.element (if b then an.HeaderCell else an.Cell) attributes content) bs)
    ≡ record {
      is_header = b;
      columns = wide_span (pairs_of_element attributes);
      rows = row_span (pairs_of_element attributes);
      alignment = alignment (pairs_of_element attributes);
      content = content;
    } ∷ cells_in bs
header-cell true attributes content bs = refl
header-cell false attributes content bs = refl

cell-read : (c : Cell) (bs : Blocks) → IsWide c.columns → cells_in (documents.block (cell_element c) bs)
    ≡ read_cell c ∷ cells_in bs
cell-read c bs wide =
    header-cell c.is_header (said_of c) c.content bs
    ∙ (ap (λ k. record {
      is_header = c.is_header;
      columns = k;
      rows = rows_read c.columns c.rows c.alignment;
      alignment = alignment (pairs_of_element (said_of c));
      content = c.content;
    } ∷ cells_in bs) (columns-read c.columns c.rows c.alignment wide (nat_lt 1 c.rows))
    ∙ ap (λ a. record {
      is_header = c.is_header;
      columns = c.columns;
      rows = rows_read c.columns c.rows c.alignment;
      alignment = a;
      content = c.content;
    } ∷ cells_in bs)
    (alignment-said (nat_lt 1 c.columns) (nat_lt 1 c.rows) (decimal c.columns) (decimal c.rows) c.alignment))

one-cell : (b : Bool) (attributes : List BlockAttribute) (content bs : Blocks)
    → are_read_cells
    (documents.block (documents.element (if b then an.HeaderCell else an.Cell) attributes content) bs)
    ≡ (settled.rows_are_read attributes && are_read_cells bs)
one-cell true attributes content bs = refl
one-cell false attributes content bs = refl

cells-read : (cells : List Cell) → AllWide cells → are_read_cells (elements_of cells) ≡ true
    → (cells_in (elements_of cells) ≡ map read_cell cells) × CellsRead cells
cells-read [] w h = (refl, tt)
cells-read (c ∷ cells) w h =
    let p = and_parts (settled.rows_are_read (said_of c)) (are_read_cells (elements_of cells))
    (sym (one-cell c.is_header (said_of c) c.content (elements_of cells)) ∙ h) in
    let rest = cells-read cells w.1 p.1 in
    (cell-read c (elements_of cells) w.0 ∙ ap (λ cs. read_cell c ∷ cs) rest.0, (p.0, rest.1))

rows-read : (pieces : List Piece) → PiecesWide pieces → are_read_rows (rows_of pieces) ≡ true
    → (settled.rows_in None (rows_of pieces) ≡ map read_piece pieces) × RowsRead pieces
rows-read [] w h = (refl, tt)
rows-read (caption content ∷ pieces) w h =
    let rest = rows-read pieces w h in (ap (λ ps. caption content ∷ ps) rest.0, rest.1)
rows-read (row r ∷ pieces) w h =
    let p = and_parts (are_read_cells (elements_of r.cells)) (are_read_rows (rows_of pieces)) h in
    let own = cells-read r.cells w.0 p.0 in
    let rest = rows-read pieces w.1 p.1 in (
      ap (λ cs. row (record { part = None; cells = cs }) ∷ settled.rows_in None (rows_of pieces)) own.0
          ∙ ap (λ ps. read_piece (row r) ∷ ps) rest.0,
      (own.1, rest.1),
    )

-- ---- and what these are like

filled-cells : (cells : List Cell) → list_any is_filled_cell (map read_cell cells) ≡ list_any is_filled_cell cells
filled-cells [] = refl
filled-cells (c ∷ cells) = ap (λ b. is_filled_cell c || b) (filled-cells cells)

read-filled : (pieces : List Piece)
    → list_all is_filled_piece (map read_piece pieces) ≡ list_all is_filled_piece pieces
read-filled [] = refl
read-filled (caption content ∷ pieces) = ap (λ b. is_filled_piece (caption content) && b) (read-filled pieces)
read-filled (row r ∷ pieces) =
    ap (λ b. b && list_all is_filled_piece (map read_piece pieces)) (filled-cells r.cells)
    ∙ ap (λ b. list_any is_filled_cell r.cells && b) (read-filled pieces)

read-some : (pieces : List Piece)
    → list_any is_filled_piece (map read_piece pieces) ≡ list_any is_filled_piece pieces
read-some [] = refl
read-some (caption content ∷ pieces) = ap (λ b. is_filled_piece (caption content) || b) (read-some pieces)
read-some (row r ∷ pieces) =
    ap (λ b. b || list_any is_filled_piece (map read_piece pieces)) (filled-cells r.cells)
    ∙ ap (λ b. list_any is_filled_cell r.cells || b) (read-some pieces)

tall-cells : (cells : List Cell) → CellsRead cells
    → list_any takes_more (map read_cell cells) ≡ list_any takes_more cells
tall-cells [] o = refl
tall-cells (c ∷ cells) o =
    ap (λ b. b || list_any takes_more (map read_cell cells)) (read-more c.columns c.rows c.alignment o.0)
    ∙ ap (λ b. takes_more c || b) (tall-cells cells o.1)

read-tall : (pieces : List Piece) → RowsRead pieces
    → list_any is_tall (map read_piece pieces) ≡ list_any is_tall pieces
read-tall [] o = refl
read-tall (caption content ∷ pieces) o = read-tall pieces o
read-tall (row r ∷ pieces) o =
    ap (λ b. b || list_any is_tall (map read_piece pieces)) (tall-cells r.cells o.0)
    ∙ ap (λ b. list_any takes_more r.cells || b) (read-tall pieces o.1)

read-count : (pieces : List Piece) → row_count (map read_piece pieces) ≡ row_count pieces
read-count [] = refl
read-count (caption content ∷ pieces) = read-count pieces
read-count (row r ∷ pieces) = ap (λ k. suc k) (read-count pieces)

cell-fits : (left : ℕ) (c : Cell) → settled.rows_are_read (said_of c) ≡ true → fits left c ≡ true
    → fits left (read_cell c) ≡ true
cell-fits left c o h =
    let p = and_parts (nat_lt 0 c.rows) (nat_le c.rows left) h in
    let k : ℕ = rows_read c.columns c.rows c.alignment in
    let low = read-low c.columns c.rows c.alignment p.0 in
    let under = p.1 in
    and_from (nat_lt 0 k) (nat_le k left) (some (nat_lt 1 c.rows) refl) (grind (arith, nat_tests, low, under))
  where
    some : (b : Bool) → nat_lt 1 c.rows ≡ b → nat_lt 0 (rows_read c.columns c.rows c.alignment) ≡ true
    some true e =
        let more = read-more c.columns c.rows c.alignment o ∙ e in grind (arith, nat_tests, more)
    some false e = ap (nat_lt 0) (one-read c.columns c.rows c.alignment e)

cells-fit : (left : ℕ) (cells : List Cell) → CellsRead cells → list_all (fits left) cells ≡ true
    → list_all (fits left) (map read_cell cells) ≡ true
cells-fit left [] o h = refl
cells-fit left (c ∷ cells) o h =
    let p = and_parts (fits left c) (list_all (fits left) cells) h in
    and_from (fits left (read_cell c)) (list_all (fits left) (map read_cell cells)) (cell-fits left c o.0 p.0)
    (cells-fit left cells o.1 p.1)

read-fits : (pieces : List Piece) → RowsRead pieces → have_fitting_cells pieces ≡ true
    → have_fitting_cells (map read_piece pieces) ≡ true
read-fits [] o h = refl
read-fits (caption content ∷ pieces) o h = read-fits pieces o h
read-fits (row r ∷ pieces) o h =
    let left : ℕ = suc (row_count pieces) in
    let p = and_parts (list_all (fits left) r.cells) (have_fitting_cells pieces) h in
    and_from (list_all (fits (suc (row_count (map read_piece pieces)))) (map read_cell r.cells))
    (have_fitting_cells (map read_piece pieces))
    (ap (λ k. list_all (fits (suc k)) (map read_cell r.cells)) (read-count pieces) ∙ cells-fit left r.cells o.0 p.0)
    (read-fits pieces o.1 p.1)

-- where no cell takes more than one row
all-short : (cells : List Cell) → list_any takes_more cells ≡ false → list_all one_row cells ≡ true
all-short [] h = refl
all-short (c ∷ cells) h =
    let p = neither (takes_more c) (list_any takes_more cells) h in
    and_from (one_row c) (list_all one_row cells) (ap not p.0) (all-short cells p.1)

short-rows : (pieces : List Piece) → RowsRead pieces → list_any is_tall pieces ≡ false
    → list_all no_spans pieces ≡ true
short-rows [] o h = refl
short-rows (caption content ∷ pieces) o h = short-rows pieces o h
short-rows (row r ∷ pieces) o h =
    let p = neither (list_any takes_more r.cells) (list_any is_tall pieces) h in
    and_from (list_all one_row r.cells) (list_all no_spans pieces) (all-short r.cells p.0)
    (short-rows pieces o.1 p.1)

header-in : (cells : List Cell)
    → list_any (λ (c : Cell). c.is_header) (map read_cell cells) ≡ list_any (λ (c : Cell). c.is_header) cells
header-in [] = refl
header-in (c ∷ cells) = ap (λ b. c.is_header || b) (header-in cells)

read-headers : (pieces : List Piece) → list_any has_header (map read_piece pieces) ≡ list_any has_header pieces
read-headers [] = refl
read-headers (caption content ∷ pieces) = refl
read-headers (row r ∷ pieces) =
    ap (λ b. b || list_any has_header (map read_piece pieces)) (header-in r.cells)
    ∙ ap (λ b. list_any (λ (c : Cell). c.is_header) r.cells || b) (read-headers pieces)

paragraph-cells : (cells : List Cell)
    → list_all is_paragraph_cell (map read_cell cells) ≡ list_all is_paragraph_cell cells
paragraph-cells [] = refl
paragraph-cells (c ∷ cells) = ap (λ b. is_paragraph_cell c && b) (paragraph-cells cells)

read-paragraphs : (pieces : List Piece) → are_paragraphs (map read_piece pieces) ≡ are_paragraphs pieces
read-paragraphs [] = refl
read-paragraphs (caption content ∷ pieces) = read-paragraphs pieces
read-paragraphs (row r ∷ pieces) =
    ap (λ b. b && are_paragraphs (map read_piece pieces)) (paragraph-cells r.cells)
    ∙ ap (λ b. list_all is_paragraph_cell r.cells && b) (read-paragraphs pieces)

count-read : (cells : List Cell) → length (map read_cell cells) ≡ length cells
count-read [] = refl
count-read (c ∷ cells) = ap (λ k. suc k) (count-read cells)

read-wide : (pieces : List Piece) → list_any is_wide (map read_piece pieces) ≡ list_any is_wide pieces
read-wide [] = refl
read-wide (caption content ∷ pieces) = read-wide pieces
read-wide (row r ∷ pieces) =
    ap (λ k. nat_lt 1 k || list_any is_wide (map read_piece pieces)) (count-read r.cells)
    ∙ ap (λ b. is_wide (row r) || b) (read-wide pieces)

in-header : (cells : List Cell) → CellsRead cells
    → list_all is_in_header (map read_cell cells) ≡ list_all is_in_header cells
in-header [] o = refl
in-header (c ∷ cells) o =
    ap (λ b. (c.is_header && not (nat_lt 1 c.columns || b)) && list_all is_in_header (map read_cell cells))
    (read-more c.columns c.rows c.alignment o.0)
    ∙ ap (λ b. is_in_header c && b) (in-header cells o.1)

in-body : (cells : List Cell) → CellsRead cells
    → list_all is_in_body (map read_cell cells) ≡ list_all is_in_body cells
in-body [] o = refl
in-body (c ∷ cells) o =
    ap (λ b. (not c.is_header && not (nat_lt 1 c.columns || b)) && list_all is_in_body (map read_cell cells))
    (read-more c.columns c.rows c.alignment o.0)
    ∙ ap (λ b. is_in_body c && b) (in-body cells o.1)

below-read : (n : ℕ) (pieces : List Piece) → RowsRead pieces
    → list_all (fits_below n) (map read_piece pieces) ≡ list_all (fits_below n) pieces
below-read n [] o = refl
below-read n (caption content ∷ pieces) o = refl
below-read n (row r ∷ pieces) o =
    let rest : Bool = list_all (fits_below n) (map read_piece pieces) in
    ap (λ k. (nat_le k n && list_all is_in_body (map read_cell r.cells)) && rest) (count-read r.cells)
    ∙ (ap (λ b. (nat_le (length r.cells) n && b) && rest) (in-body r.cells o.0)
    ∙ ap (λ b. fits_below n (row r) && b) (below-read n pieces o.1))

read-alone : (pieces : List Piece) → RowsRead pieces
    → has_header_alone (map read_piece pieces) ≡ has_header_alone pieces
read-alone [] o = refl
read-alone (caption content ∷ pieces) o = refl
read-alone (row r ∷ pieces) o =
    ap (λ b. b && list_all (fits_below (length (map read_cell r.cells))) (map read_piece pieces))
    (in-header r.cells o.0)
    ∙ (ap (λ k. list_all is_in_header r.cells && list_all (fits_below k) (map read_piece pieces))
    (count-read r.cells)
    ∙ ap (λ b. list_all is_in_header r.cells && b) (below-read (length r.cells) pieces o.1))

-- ---- of a page

module _ (c : Context) (has_spans : Bool) where
  abbrev cells_made : ℕ → Bool → List Node → List Cell
  cells_made left in_head cells = map (cut_cell left) (map (cell_with_blocks has_spans in_head c) cells)

  cells-wide : (left : ℕ) (in_head : Bool) (cells : List Node) → AllWide (cells_made left in_head cells)
  cells-wide left in_head [] = tt
  cells-wide left in_head (n ∷ cells) = (is-wide (attributes_of n.tree), cells-wide left in_head cells)

  made-wide : (kept : List TablePiece) → PiecesWide (pieces_with_blocks has_spans kept c)
  made-wide [] = tt
  made-wide (of_caption n ∷ kept) = made-wide kept
  made-wide (of_row r ∷ kept) = (
    cells-wide (stretched r.part (stretch_of (map (piece_with_blocks has_spans c) kept))).left r.is_in_head r.cells,
    made-wide kept,
  )

  cells-heads : (left : ℕ) (in_head : Bool) (cells : List Node)
      → list_any (λ (d : Cell). d.is_header) (cells_made left in_head cells)
      ≡ list_any (λ (n : Node). flow.is_header in_head n.tree) cells
  cells-heads left in_head [] = refl
  cells-heads left in_head (n ∷ cells) =
      ap (λ b. flow.is_header in_head n.tree || b) (cells-heads left in_head cells)

  made-heads : (kept : List TablePiece)
      → list_any has_header (pieces_with_blocks has_spans kept c) ≡ list_any flow.heads kept
  made-heads [] = refl
  made-heads (of_caption n ∷ kept) = refl
  made-heads (of_row r ∷ kept) =
      let left : ℕ = (stretched r.part (stretch_of (map (piece_with_blocks has_spans c) kept))).left in
      let others : List Piece = pieces_with_blocks has_spans kept c in
      ap (λ b. b || list_any has_header others) (cells-heads left r.is_in_head r.cells)
      ∙ ap (λ b. flow.has_header r || b) (made-heads kept)

  cells-count : (left : ℕ) (in_head : Bool) (cells : List Node)
      → length (cells_made left in_head cells) ≡ length cells
  cells-count left in_head [] = refl
  cells-count left in_head (n ∷ cells) = ap (λ k. suc k) (cells-count left in_head cells)

  columns-made : (kept : List TablePiece)
      → list_any is_wide (pieces_with_blocks has_spans kept c) ≡ list_any flow.is_wide kept
  columns-made [] = refl
  columns-made (of_caption n ∷ kept) = columns-made kept
  columns-made (of_row r ∷ kept) =
      let left : ℕ = (stretched r.part (stretch_of (map (piece_with_blocks has_spans c) kept))).left in
      ap (λ k. nat_lt 1 k || list_any is_wide (pieces_with_blocks has_spans kept c))
      (cells-count left r.is_in_head r.cells)
      ∙ ap (λ b. nat_lt 1 (length r.cells) || b) (columns-made kept)

told-of : (b h p w t : Bool) (rows : List Piece) → list_any has_header rows ≡ h → are_paragraphs rows ≡ p
    → list_any is_wide rows ≡ w
    → ((b || h) || (w && t)) ≡ true → ((b || h) || p) ≡ true → is_told (border_attribute b) rows ≡ true
told-of true h p w t rows d e f x y = refl
told-of false true p w t rows d e f x y = ap (λ b. b || (are_paragraphs rows && list_any is_wide rows)) d
told-of false false p false t rows d e f x y = absurd (false≢true x)
told-of false false false true t rows d e f x y = absurd (false≢true y)
told-of false false true true t rows d e f x y =
    ap (λ b. b || (are_paragraphs rows && list_any is_wide rows)) d
    ∙ (ap (λ b. b && list_any is_wide rows) e ∙ f)

not-either : (a b : Bool) → (not a || not b) ≡ false → b ≡ true
not-either true true h = refl
not-either true false h = absurd (true≢false h)
not-either false b h = absurd (true≢false h)

module _ (c : Context) (rich : c.is_rich ≡ true) (blocks : c.is_flat ≡ false) where
  pub table-neat : (trees : List Simple) (attributes : List AttributePair) (pieces : List TablePiece)
      → FillPieces pieces → is_for_page trees attributes (kept_pieces pieces) ≡ false
      → (is_headed attributes (kept_pieces pieces)
      || are_paragraphs (pieces_with_blocks (have_row_spans (rows_in pieces)) (kept_pieces pieces) c)) ≡ true
      → (are_paragraphs (pieces_with_blocks (have_row_spans (rows_in pieces)) (kept_pieces pieces) c)
      && has_header_alone (pieces_with_blocks (have_row_spans (rows_in pieces)) (kept_pieces pieces) c)) ≡ false
      → list_any is_filled_piece (pieces_with_blocks (have_row_spans (rows_in pieces)) (kept_pieces pieces) c)
      ≡ true
      → is_neat_table (border_attribute (has_border attributes))
      (rows_of (pieces_with_blocks (have_row_spans (rows_in pieces)) (kept_pieces pieces) c)) ≡ true
  table-neat trees attributes pieces fill page headed form some =
      test (are_read_rows (rows_of made)) neat
      (λ e. ap (λ b. not b || settled.are_rows_of_element border (settled.rows_in None (rows_of made))) e)
    where
      spans : Bool
      spans = have_row_spans (rows_in pieces)

      kept : List TablePiece
      kept = kept_pieces pieces

      made : List Piece
      made = pieces_with_blocks spans kept c

      border : List BlockAttribute
      border = border_attribute (has_border attributes)

      -- all rows are filled unless a cell takes more than one
      filled : RowsRead made
          → (list_any is_tall (map read_piece made) || list_all is_filled_piece (map read_piece made)) ≡ true
      filled o =
          ap (λ b. b || list_all is_filled_piece (map read_piece made)) (read-tall made o)
          ∙ (ap (λ b. list_any is_tall made || b) (read-filled made)
          ∙ test (list_any is_tall made) (λ e. ap (λ b. b || list_all is_filled_piece made) e)
          (λ e. ap (λ b. b || list_all is_filled_piece made) e
          ∙ all-filled c rich blocks pieces fill (short-rows made o e)))

      neat : are_read_rows (rows_of made) ≡ true → is_neat_table border (rows_of made) ≡ true
      neat e =
          let read = rows-read made (made-wide c spans kept) e in
          let rows : List Piece = map read_piece made in
          let told = told-of (has_border attributes) (list_any flow.heads kept) (are_paragraphs made)
          (list_any flow.is_wide kept) (not (list_any flow.holds_table kept)) rows
          (read-headers made ∙ made-heads c spans kept) (read-paragraphs made)
          (read-wide made ∙ columns-made c spans kept)
          (not-either (tables.holds_table_alone true trees) (is_headed attributes kept || may_be_grid kept) page)
          headed in
          let other = ap (λ b. not (b && has_header_alone rows)) (read-paragraphs made)
          ∙ (ap (λ b. not (are_paragraphs made && b)) (read-alone made read.1) ∙ ap not form) in
          ap (λ b. not b || settled.are_rows_of_element border (settled.rows_in None (rows_of made))) e
          ∙ (ap (settled.are_rows_of_element border) read.0
          ∙ and_from ((settled.are_filled_rows rows && have_fitting_cells rows) && is_told border rows)
          (not (are_paragraphs rows && has_header_alone rows))
          (and_from (settled.are_filled_rows rows && have_fitting_cells rows) (is_told border rows)
          (and_from (settled.are_filled_rows rows) (have_fitting_cells rows)
          (and_from (list_any is_filled_piece rows) (list_any is_tall rows || list_all is_filled_piece rows)
          (read-some made ∙ some) (filled read.1))
          (read-fits made read.1 (cut-fits (map (piece_with_blocks spans c) kept)))) told) other)
