-- Tables of rich documents, between blocks, show where a caption or a cell of them does.
use Rattle.std.proofs.Common.{◌≡◌, ℕ, zero, suc, Bool, true, false, cond, not, ◌&&◌, ◌||◌, List, [], ◌∷◌, ◌++◌, refl}
use Rattle.std.proofs.Common.{sym, ap, ◌∙◌, fold, map, filter, length, max, Option, Some, None, arith}
use Rattle.std.specs.Prelude.{◌==◌, nat_le}
use Rattle.std.specs.List.{list_any, list_all}
use Rattle.std.proofs.lemmas.Bool.Decides.{nat_tests}
use Rattle.htmd_lexical.specs.AttributePairs.{AttributePair}
use Rattle.htmd_lexical.proofs.Cases.{test}
use Rattle.htmd_document.specs.declared.document.Alignment.{Alignment}
use Rattle.htmd_document.specs.declared.document.BlockElement.TheVariants as name
use Rattle.htmd_document.specs.Documents.{Inlines, no_inlines, inline, Block, element}
use Rattle.htmd_document.specs.Documents as document
use Rattle.htmd_document.specs.TightItems.{is_filled}
use Rattle.htmd_shown.specs.SimpleTrees.{Simple, Simples}
use Rattle.htmd_shown.specs.Showings.{show}
use Rattle.htmd_flow.specs.Contexts.{Context}
use Rattle.htmd_flow.specs.Flows.{Node, TablePiece, of_caption, of_row, flow_all, nodes_of, pieces_of, rows_in}
use Rattle.htmd_flow.specs.Flows.{have_row_spans, content_shows, has_cell, stays, kept_pieces, has_border, is_headed}
use Rattle.htmd_flow.specs.Flows.{may_be_grid, is_for_page, in_cell, cell_with_blocks, piece_with_blocks}
use Rattle.htmd_flow.specs.Flows.{pieces_with_blocks, block_part, table_with_blocks, kept_table_parts, rich_table_parts}
use Rattle.htmd_flow.specs.Flows.{around_node}
use Rattle.htmd_flow.specs.Grids.{is_empty_cell, with_cell, trimmed_row, width, table_in, table_of_all}
use Rattle.htmd_flow.specs.Levels.{list_of}
use Rattle.htmd_flow.specs.Parts.{Part}
use Rattle.htmd_flow.specs.TableElements as elements
use Rattle.htmd_flow.specs.TableElements.{is_paragraph_at_most, inlines_in}
use Rattle.htmd_flow.specs.Tables.{holds_table_alone}
use Rattle.htmd_law_documents.specs.SimpleForms.{AreSound}
use Rattle.htmd_law_documents.proofs.VisibleLemmas.{both-true}
use Rattle.htmd_law_documents.proofs.NormalTextLemmas.{false-true, true-false, neither}
use Rattle.htmd_law_documents.proofs.NormalFilledLemmas.{Seen, parts-filled, parts-cell}
use Rattle.htmd_law_documents.proofs.NormalSeenLemmas.{seen-as, seen-apart, seen-either, Sits, sits-around, sits-cell}
use Rattle.htmd_law_documents.proofs.NormalSeenLemmas.{GivesSeen, SeenAt, AllSeen, content-flow}
use Rattle.htmd_law_documents.proofs.NormalSeenTableLemmas.{cell_shows, piece_shows, pieces-shown}

abbrev PieceSeen : TablePiece → Type 0
PieceSeen (of_caption n) = SeenAt false n
PieceSeen (of_row r) = AllSeen false r.cells

abbrev pub PiecesSeen : List TablePiece → Type 0
PiecesSeen [] = Unit {0}
PiecesSeen (p ∷ pieces) = PieceSeen p × PiecesSeen pieces

pub pieces-seen-append : (xs ys : List TablePiece) → PiecesSeen xs → PiecesSeen ys → PiecesSeen (xs ++ ys)
pieces-seen-append [] ys g h = h
pieces-seen-append (x ∷ xs) ys g h = (g.0, pieces-seen-append xs ys g.1 h)

-- ---- pieces with their blocks

-- a cell that is a paragraph at most is empty where it has no blocks
abbrev HonestCell : elements.Cell → Type 0
HonestCell c =
    is_paragraph_at_most c.content ≡ true → is_empty_cell (inlines_in c.content) ≡ not (is_filled c.content)

abbrev HonestCells : List elements.Cell → Type 0
HonestCells [] = Unit {0}
HonestCells (c ∷ cells) = HonestCell c × HonestCells cells

abbrev HonestPiece : elements.Piece → Type 0
HonestPiece (elements.caption content) = Unit {0}
HonestPiece (elements.row r) = HonestCells r.cells

abbrev HonestPieces : List elements.Piece → Type 0
HonestPieces [] = Unit {0}
HonestPieces (p ∷ pieces) = HonestPiece p × HonestPieces pieces

abbrev filled_pieces : List elements.Piece → Bool
filled_pieces pieces = list_any elements.is_filled_piece pieces

-- ---- no cell takes rows past its part

cut-cells-honest : (left : ℕ) (cells : List elements.Cell) → HonestCells cells
    → HonestCells (map (elements.cut_cell left) cells)
cut-cells-honest left [] h = tt
cut-cells-honest left (c ∷ cells) h = (h.0, cut-cells-honest left cells h.1)

cut-honest : (pieces : List elements.Piece) → HonestPieces pieces → HonestPieces (elements.cut_all pieces)
cut-honest [] h = tt
cut-honest (elements.caption content ∷ pieces) h = (tt, cut-honest pieces h.1)
cut-honest (elements.row r ∷ pieces) h = (
  cut-cells-honest (elements.stretched r.part (elements.stretch_of pieces)).left r.cells h.0,
  cut-honest pieces h.1,
)

cut-cells-filled : (left : ℕ) (cells : List elements.Cell)
    → list_any elements.is_filled_cell (map (elements.cut_cell left) cells) ≡ list_any elements.is_filled_cell cells
cut-cells-filled left [] = refl
cut-cells-filled left (c ∷ cells) = ap (λ b. is_filled c.content || b) (cut-cells-filled left cells)

cut-filled : (pieces : List elements.Piece) → filled_pieces (elements.cut_all pieces) ≡ filled_pieces pieces
cut-filled [] = refl
cut-filled (elements.caption content ∷ pieces) = ap (λ b. is_filled content || b) (cut-filled pieces)
cut-filled (elements.row r ∷ pieces) =
    let left : ℕ = (elements.stretched r.part (elements.stretch_of pieces)).left in
    ap (λ b. b || filled_pieces (elements.cut_all pieces)) (cut-cells-filled left r.cells)
    ∙ ap (λ b. list_any elements.is_filled_cell r.cells || b) (cut-filled pieces)

-- ---- GitHub's form

abbrev is_some_cell : Inlines → Bool
is_some_cell xs = not (is_empty_cell xs)

abbrev is_some_line : List Inlines → Bool
is_some_line cells = list_any is_some_cell cells

trimmed-none : (cells : List Inlines) → (length (trimmed_row cells) == 0) ≡ not (is_some_line cells)
trimmed-none [] = refl
trimmed-none (cell ∷ cells) = at cell (trimmed_row cells) (trimmed-none cells)
  where
    none : {A : Type 0} (x : A) (xs : List A) → (length (x ∷ xs) == 0) ≡ false
    none x xs = grind (arith, nat_tests)

    at : (cell : Inlines) (rest : List Inlines) → (length rest == 0) ≡ not (is_some_line cells)
        → (length (with_cell cell rest) == 0) ≡ not (is_some_cell cell || is_some_line cells)
    at no_inlines [] h = h
    at (inline x xs) [] h = none (inline x xs) []
    at no_inlines (next ∷ rest) h = none no_inlines (next ∷ rest) ∙ (sym (none next rest) ∙ h)
    at (inline x xs) (next ∷ rest) h = none (inline x xs) (next ∷ rest)

abbrev are_some_lines : List (List Inlines) → Bool
are_some_lines lines = list_any is_some_line lines

width-from : (n : ℕ) (lines : List (List Inlines))
    → (fold (λ m row. max m (length row)) n (map trimmed_row lines) == 0)
    ≡ ((n == 0) && not (are_some_lines lines))
width-from n [] = sym (and-true-right (n == 0))
  where
    and-true-right : (b : Bool) → (b && true) ≡ b
    and-true-right true = refl
    and-true-right false = refl
width-from n (line ∷ lines) =
    let k : ℕ = length (trimmed_row line) in
    width-from (max n k) lines
    ∙ (ap (λ b. b && not (are_some_lines lines)) (greater n k ∙ ap (λ b. (n == 0) && b) (trimmed-none line))
    ∙ turned (n == 0) (is_some_line line) (are_some_lines lines))
  where
    greater : (n k : ℕ) → (max n k == 0) ≡ ((n == 0) && (k == 0))
    greater zero k = ap (λ m. m == 0) (same k)
      where
        same : (k : ℕ) → max 0 k ≡ k
        same k = omega arith
    greater (suc n) k = some n k ∙ sym (ap (λ b. b && (k == 0)) (more n))
      where
        some : (n k : ℕ) → (max (suc n) k == 0) ≡ false
        some n k = grind (arith, nat_tests)

        more : (n : ℕ) → (suc n == 0) ≡ false
        more n = grind (arith, nat_tests)

    turned : (a b d : Bool) → ((a && not b) && not d) ≡ (a && not (b || d))
    turned true true d = refl
    turned true false d = refl
    turned false b d = refl

lines-seen : (alignments : List Alignment) (lines : List (List Inlines))
    → Seen false (are_some_lines lines) (block_part (table_of_all alignments true lines))
lines-seen alignments lines = at (are_some_lines lines) (width rows == 0) (width-from 0 lines)
  where
    rows : List (List Inlines)
    rows = map trimmed_row lines

    at : (b w : Bool) → w ≡ not b
        → Seen false b (block_part (cond w None (Some (table_in (width rows) alignments true rows))))
    at true true e = true-false e
    at true false e = refl
    at false true e = refl
    at false false e = false-true e

-- there are rows alone
abbrev AreRows : List elements.Piece → Type 0
AreRows [] = Unit {0}
AreRows (elements.caption content ∷ pieces) = ⊥
AreRows (elements.row r ∷ pieces) = AreRows pieces

rows-below : (columns : ℕ) (pieces : List elements.Piece) → list_all (elements.fits_below columns) pieces ≡ true
    → AreRows pieces
rows-below columns [] e = tt
rows-below columns (elements.caption content ∷ pieces) e = false-true e
rows-below columns (elements.row r ∷ pieces) e =
    rows-below columns pieces
    (both-true (nat_le (length r.cells) columns && list_all elements.is_in_body r.cells)
    (list_all (elements.fits_below columns) pieces) e).1

rows-alone : (pieces : List elements.Piece) → elements.has_header_alone pieces ≡ true → AreRows pieces
rows-alone [] e = tt
rows-alone (elements.caption content ∷ pieces) e = false-true e
rows-alone (elements.row first ∷ pieces) e =
    rows-below (length first.cells) pieces
    (both-true (list_all elements.is_in_header first.cells)
    (list_all (elements.fits_below (length first.cells)) pieces) e).1

cells-lines : (cells : List elements.Cell) → HonestCells cells → list_all elements.is_paragraph_cell cells ≡ true
    → is_some_line (map elements.cell_line cells) ≡ list_any elements.is_filled_cell cells
cells-lines [] h e = refl
cells-lines (c ∷ cells) h e =
    let both = both-true (elements.is_paragraph_cell c) (list_all elements.is_paragraph_cell cells) e in
    ap (λ b. b || is_some_line (map elements.cell_line cells)) (ap not (h.0 both.0) ∙ twice (is_filled c.content))
    ∙ ap (λ b. is_filled c.content || b) (cells-lines cells h.1 both.1)
  where
    twice : (b : Bool) → not (not b) ≡ b
    twice true = refl
    twice false = refl

pieces-lines : (pieces : List elements.Piece) → AreRows pieces → HonestPieces pieces
    → elements.are_paragraphs pieces ≡ true
    → are_some_lines (map elements.line_of pieces) ≡ filled_pieces pieces
pieces-lines [] r h e = refl
pieces-lines (elements.caption content ∷ pieces) r h e = absurd r
pieces-lines (elements.row row ∷ pieces) r h e =
    let both = both-true (list_all elements.is_paragraph_cell row.cells) (elements.are_paragraphs pieces) e in
    ap (λ b. b || are_some_lines (map elements.line_of pieces)) (cells-lines row.cells h.0 both.0)
    ∙ ap (λ b. list_any elements.is_filled_cell row.cells || b) (pieces-lines pieces r h.1 both.1)

-- ---- the block of pieces

seen-option : (b x : Bool) (o p : Option Block) → (x ≡ true → Seen false b (block_part o))
    → (x ≡ false → Seen false b (block_part p)) → Seen false b (block_part (cond x o p))
seen-option b true o p g h = g refl
seen-option b false o p g h = h refl

made-seen : (border : Bool) (pieces : List elements.Piece) → HonestPieces pieces
    → Seen false (filled_pieces pieces) (block_part (elements.table_of_pieces border pieces))
made-seen border pieces h =
    seen-option (filled_pieces pieces) (elements.are_paragraphs pieces && elements.has_header_alone pieces)
    (elements.table_of_lines pieces) (elements.table_of_elements border pieces)
    (λ e.
    let both = both-true (elements.are_paragraphs pieces) (elements.has_header_alone pieces) e in
    seen-as false (are_some_lines (map elements.line_of pieces)) (filled_pieces pieces)
    (block_part (elements.table_of_lines pieces))
    (pieces-lines pieces (rows-alone pieces both.1) h both.0)
    (lines-seen (elements.alignments_of pieces) (map elements.line_of pieces)))
    (λ e. at (filled_pieces pieces))
  where
    whole : Block
    whole = element name.Table (elements.border_attribute border)
        (document.blocks_of (map elements.piece_element pieces))

    at : (b : Bool) → Seen false b (block_part (cond b (Some whole) None))
    at true = refl
    at false = refl

-- ---- pieces of nodes

module _ (spans : Bool) (c : Context) (s : Sits false c) where
  cells-honest : (in_head : Bool) (cells : List Node) → AllSeen false cells
      → HonestCells (map (cell_with_blocks spans in_head c) cells)
  cells-honest in_head [] h = tt
  cells-honest in_head (n ∷ cells) h =
      let d : Context = in_cell n.tree c in (
        λ p. parts-cell (cell_shows false n) (n.content d) (h.0.content d (sits-cell n.tree c s)) p,
        cells-honest in_head cells h.1,
      )

  pieces-honest : (pieces : List TablePiece) → PiecesSeen pieces
      → HonestPieces (map (piece_with_blocks spans c) pieces)
  pieces-honest [] h = tt
  pieces-honest (of_caption n ∷ pieces) h = (tt, pieces-honest pieces h.1)
  pieces-honest (of_row r ∷ pieces) h = (cells-honest r.is_in_head r.cells h.0, pieces-honest pieces h.1)

  cells-filled : (in_head : Bool) (cells : List Node) → AllSeen false cells
      → list_any elements.is_filled_cell (map (cell_with_blocks spans in_head c) cells)
      ≡ list_any (cell_shows false) cells
  cells-filled in_head [] h = refl
  cells-filled in_head (n ∷ cells) h =
      let d : Context = in_cell n.tree c in
      ap (λ b. b || list_any elements.is_filled_cell (map (cell_with_blocks spans in_head c) cells))
      (parts-filled false (cell_shows false n) (n.content d) (h.0.content d (sits-cell n.tree c s)))
      ∙ ap (λ b. cell_shows false n || b) (cells-filled in_head cells h.1)

  piece-filled : (p : TablePiece) → PieceSeen p
      → elements.is_filled_piece (piece_with_blocks spans c p) ≡ piece_shows false p
  piece-filled (of_caption n) h =
      let d : Context = around_node n.tree c in
      parts-filled false (cell_shows false n) (n.content d) (h.content d (sits-around n.tree c s))
  piece-filled (of_row r) h = cells-filled r.is_in_head r.cells h

  pieces-filled : (pieces : List TablePiece) → PiecesSeen pieces
      → filled_pieces (map (piece_with_blocks spans c) pieces) ≡ list_any (piece_shows false) pieces
  pieces-filled [] h = refl
  pieces-filled (p ∷ pieces) h =
      ap (λ b. b || filled_pieces (map (piece_with_blocks spans c) pieces)) (piece-filled p h.0)
      ∙ ap (λ b. piece_shows false p || b) (pieces-filled pieces h.1)

-- what goes shows nothing
gone-unseen : (spans : Bool) (p : TablePiece) → stays spans p ≡ false → piece_shows false p ≡ false
gone-unseen spans (of_caption n) e = e
gone-unseen spans (of_row r) e = (neither spans (has_cell content_shows r) e).1

kept-show : (spans : Bool) (pieces : List TablePiece)
    → list_any (piece_shows false) (filter (stays spans) pieces) ≡ list_any (piece_shows false) pieces
kept-show spans [] = refl
kept-show spans (p ∷ pieces) =
    let kept : List TablePiece = filter (stays spans) pieces in
    test (stays spans p)
    (λ e. ap (λ b. list_any (piece_shows false) (cond b (p ∷ kept) kept)) e
    ∙ ap (λ b. piece_shows false p || b) (kept-show spans pieces))
    (λ e. ap (λ b. list_any (piece_shows false) (cond b (p ∷ kept) kept)) e
    ∙ (kept-show spans pieces
    ∙ sym (ap (λ b. b || list_any (piece_shows false) pieces) (gone-unseen spans p e))))

kept-seen : (spans : Bool) (pieces : List TablePiece) → PiecesSeen pieces
    → PiecesSeen (filter (stays spans) pieces)
kept-seen spans [] h = tt
kept-seen spans (p ∷ pieces) h = at (stays spans p) (kept-seen spans pieces h.1)
  where
    at : (b : Bool) → PiecesSeen (filter (stays spans) pieces)
        → PiecesSeen (cond b (p ∷ filter (stays spans) pieces) (filter (stays spans) pieces))
    at true k = (h.0, k)
    at false k = k

-- ---- the table

pub rich-table-seen : (content : Simples) (attributes : List AttributePair) → AreSound content
    → AllSeen false (nodes_of content) → PiecesSeen (pieces_of content)
    → GivesSeen false (show false content)
    (rich_table_parts (list_of content) attributes (pieces_of content) (nodes_of content))
rich-table-seen content attributes u h g c s =
    let trees : List Simple = list_of content in
    let b : Bool = show false content in
    let pieces : List TablePiece = pieces_of content in
    let spans : Bool = have_row_spans (rows_in pieces) in
    let kept : List TablePiece = kept_pieces pieces in
    let made : List elements.Piece = map (piece_with_blocks spans c) kept in
    let cut : List elements.Piece = pieces_with_blocks spans kept c in
    let flow : List Part = flow_all (nodes_of content) c in
    let table : List Part = block_part (elements.table_of_pieces (has_border attributes) cut) in
    let inside : Seen false b flow = content-flow false content h c s in
    let seen : PiecesSeen kept = kept-seen spans pieces g in
    seen-apart false b (kept_table_parts trees attributes spans kept (nodes_of content) c)
    (seen-either false b (is_for_page trees attributes kept) flow (table_with_blocks attributes kept cut flow)
    (λ e. inside)
    (λ e.
    let alone : holds_table_alone true trees ≡ true =
    not-not (holds_table_alone true trees)
    (neither (not (holds_table_alone true trees)) (not (is_headed attributes kept || may_be_grid kept)) e).0 in
    seen-either false b (is_headed attributes kept || elements.are_paragraphs cut) table flow
    (λ i. seen-as false (filled_pieces cut) b table
    (cut-filled made
    ∙ (pieces-filled spans c s kept seen ∙ (kept-show spans pieces ∙ sym (pieces-shown false content u alone))))
    (made-seen (has_border attributes) cut (cut-honest made (pieces-honest spans c s kept seen))))
    (λ i. inside)))
  where
    not-not : (b : Bool) → not b ≡ false → b ≡ true
    not-not true e = refl
    not-not false e = true-false e
