-- How much is repeated in tables of rich documents.
use Rattle.std.proofs.Common.{◌≡◌, refl, ℕ, ◌+◌, ◌≤◌, Bool, true, false, List, [], ◌∷◌, map, arith}
use Rattle.std.specs.Prelude.{◌&&◌, ◌||◌, filter, if◌then◌else◌, Some, None}
use Rattle.std.specs.List.{list_any}
use Rattle.htmd_lexical.specs.AttributePairs.{AttributePair}
use Rattle.htmd_document.specs.declared.document.BlockElement.TheVariants as name
use Rattle.htmd_document.specs.Documents.{Block, Blocks, paragraph, heading, code_block, quote, thematic_break, list, table}
use Rattle.htmd_document.specs.Documents.{element, tags, no_blocks, block, blocks_of}
use Rattle.htmd_shown.specs.SimpleTrees.{Simple}
use Rattle.htmd_flow.specs.Contexts.{Context}
use Rattle.htmd_flow.specs.Flows.{Node, TablePiece, of_caption, of_row, block_part, flow_all, around_node}
use Rattle.htmd_flow.specs.Flows.{rows_in, have_row_spans, stays, kept_pieces, has_border, is_headed, is_for_page}
use Rattle.htmd_flow.specs.Flows.{in_cell, cell_with_blocks, piece_with_blocks, pieces_with_blocks, kept_table_parts}
use Rattle.htmd_flow.specs.Flows.{rich_table_parts}
use Rattle.htmd_flow.specs.Flows as flow
use Rattle.htmd_flow.specs.Grids.{trimmed_row}
use Rattle.htmd_flow.specs.TableElements.{Cell, Piece, caption, row, stretch_of, stretched, cut_cell, cut_all}
use Rattle.htmd_flow.specs.TableElements.{are_paragraphs, has_header_alone, inlines_in, cell_line, line_of, alignments_of}
use Rattle.htmd_flow.specs.TableElements.{table_of_lines, cell_element, piece_element, is_filled_piece, border_attribute}
use Rattle.htmd_flow.specs.TableElements.{table_of_pieces}
use Rattle.htmd_law_sizes.proofs.DebtContexts.{Inside, node_inside, cell_inside}
use Rattle.htmd_law_sizes.proofs.DebtNodes.{AllDue, dues, flow_cost}
use Rattle.htmd_law_sizes.proofs.DebtParts.{rep, Costs, at_most, nothing, block_cost, apart_cost, strictly}
use Rattle.htmd_law_sizes.proofs.DebtParts.{blocks_cost}
use Rattle.htmd_law_sizes.proofs.DebtTables.{Inner, AllInner, of_cost, trimmed_rows}
use Rattle.htmd_law_sizes.proofs.Debts.{debt_inlines, debt_cells, debt_rows, debt, debt_block}
use Rattle.htmd_law_sizes.proofs.DebtRich.{same_line}
use Rattle.htmd_law_sizes.proofs.Leaves.{due, due_grows}

-- ---- pieces with their blocks

abbrev cells_debt : List Cell → ℕ
cells_debt [] = 0
cells_debt (c ∷ cells) = debt c.content + cells_debt cells

abbrev piece_debt : Piece → ℕ
piece_debt (caption content) = debt content
piece_debt (row r) = cells_debt r.cells

abbrev pieces_debt : List Piece → ℕ
pieces_debt [] = 0
pieces_debt (p ∷ pieces) = piece_debt p + pieces_debt pieces

cells_cut : (n : ℕ) (cells : List Cell) → cells_debt (map (cut_cell n) cells) ≡ cells_debt cells
cells_cut n [] = refl
cells_cut n (c ∷ cells) = omega (arith, cells_cut n cells)

pieces_cut : (pieces : List Piece) → pieces_debt (cut_all pieces) ≡ pieces_debt pieces
pieces_cut [] = refl
pieces_cut (caption content ∷ pieces) = omega (arith, pieces_cut pieces)
pieces_cut (row r ∷ pieces) =
    omega (arith, pieces_cut pieces, cells_cut (stretched r.part (stretch_of pieces)).left r.cells)

-- as elements
cells_le : (cells : List Cell) → debt (blocks_of (map cell_element cells)) ≤ cells_debt cells
cells_le [] = omega arith
cells_le (c ∷ cells) = omega (arith, cells_le cells)

piece_le : (p : Piece) → debt_block (piece_element p) ≤ piece_debt p
piece_le (caption content) = omega arith
piece_le (row r) = cells_le r.cells

pieces_le : (pieces : List Piece) → debt (blocks_of (map piece_element pieces)) ≤ pieces_debt pieces
pieces_le [] = omega arith
pieces_le (p ∷ pieces) = omega (arith, pieces_le pieces, piece_le p)

-- as lines
inlines_le : (bs : Blocks) → debt_inlines (inlines_in bs) ≤ debt bs
inlines_le no_blocks = omega arith
inlines_le (block (paragraph content) bs) = omega arith
inlines_le (block (heading level content) bs) = omega arith
inlines_le (block (code_block language s) bs) = omega arith
inlines_le (block (quote content) bs) = omega arith
inlines_le (block thematic_break bs) = omega arith
inlines_le (block (list start is_tight items) bs) = omega arith
inlines_le (block (table alignments header rows) bs) = omega arith
inlines_le (block (element n attributes content) bs) = omega arith
inlines_le (block (tags s) bs) = omega arith

line_le : (cells : List Cell) → debt_cells (map cell_line cells) ≤ cells_debt cells
line_le [] = omega arith
line_le (c ∷ cells) = omega (arith, line_le cells, inlines_le c.content)

lines_le : (pieces : List Piece) → debt_rows (map line_of pieces) ≤ pieces_debt pieces
lines_le [] = omega arith
lines_le (caption content ∷ pieces) = omega (arith, lines_le pieces)
lines_le (row r ∷ pieces) = omega (arith, lines_le pieces, line_le r.cells)

table_cost : (t : Bool) (pieces : List Piece)
    → Costs false (block_part (table_of_pieces t pieces)) (pieces_debt pieces)
table_cost t pieces = go (are_paragraphs pieces && has_header_alone pieces) (list_any is_filled_piece pieces)
  where
    k : ℕ
    k = pieces_debt pieces

    x : Block
    x = element name.Table (border_attribute t) (blocks_of (map piece_element pieces))

    lines : Costs false (block_part (table_of_lines pieces)) k
    lines =
        at_most false (block_part (table_of_lines pieces)) (debt_rows (map trimmed_row (map line_of pieces))) k
        (omega (arith, trimmed_rows (map line_of pieces), lines_le pieces))
        (of_cost false (alignments_of pieces) true (map trimmed_row (map line_of pieces)))

    go : (a b : Bool)
        → Costs false (block_part (if a then table_of_lines pieces else (if b then Some x else None))) k
    go true b = lines
    go false true =
        at_most false (block_part (Some x)) (debt (blocks_of (map piece_element pieces))) k (pieces_le pieces)
        (block_cost false x)
    go false false = at_most false [] 0 k (omega arith) (nothing false)

-- ---- pieces of a table

abbrev pub PiecesDue : List TablePiece → Type 0
PiecesDue [] = Unit {0}
PiecesDue (of_caption n ∷ pieces) = Inner n × PiecesDue pieces
PiecesDue (of_row r ∷ pieces) = AllInner r.cells × PiecesDue pieces

abbrev pub pieces_dues : ℕ → List TablePiece → ℕ
pieces_dues k [] = 0
pieces_dues k (of_caption n ∷ pieces) = due k n.tree + pieces_dues k pieces
pieces_dues k (of_row r ∷ pieces) = dues k r.cells + pieces_dues k pieces

-- what is in a node, in a context inside this one, as blocks
inner_debt : (n : Node) (c d : Context) → Inside c d (rep c.around) → c.is_flat ≡ false → Inner n
    → debt (flow.blocks_of false (n.content d)) ≤ due (rep c.around) n.tree
inner_debt n c d i e f =
    let k = due (rep c.around) n.tree in
    blocks_cost false c.is_flat (n.content d) k e
    (same_line c d (n.content d) k i.flat
    (at_most d.is_flat (n.content d) (due (rep d.around) n.tree) k
    (due_grows (rep d.around) (rep c.around) n.tree i.room) (f.cost d)))

cells_made : (x y : Bool) (cells : List Node) (c : Context) → c.is_flat ≡ false → AllInner cells
    → cells_debt (map (cell_with_blocks x y c) cells) ≤ dues (rep c.around) cells
cells_made x y [] c e f = omega arith
cells_made x y (n ∷ cells) c e f =
    omega (
      arith,
      cells_made x y cells c e f.1,
      inner_debt n c (in_cell n.tree c) (cell_inside n.tree c) e f.0,
    )

pieces_made : (x : Bool) (pieces : List TablePiece) (c : Context) → c.is_flat ≡ false → PiecesDue pieces
    → pieces_debt (map (piece_with_blocks x c) pieces) ≤ pieces_dues (rep c.around) pieces
pieces_made x [] c e f = omega arith
pieces_made x (of_caption n ∷ pieces) c e f =
    omega (
      arith,
      pieces_made x pieces c e f.1,
      inner_debt n c (around_node n.tree c) (node_inside n.tree c) e f.0,
    )
pieces_made x (of_row r ∷ pieces) c e f =
    omega (arith, pieces_made x pieces c e f.1, cells_made x r.is_in_head r.cells c e f.0)

kept_dues : (k : ℕ) (p : TablePiece → Bool) (pieces : List TablePiece)
    → pieces_dues k (filter p pieces) ≤ pieces_dues k pieces
kept_dues k p [] = omega arith
kept_dues k p (of_caption n ∷ pieces) = go (p (of_caption n)) (kept_dues k p pieces)
  where
    go : (t : Bool) → pieces_dues k (filter p pieces) ≤ pieces_dues k pieces
        → pieces_dues k (if t then of_caption n ∷ filter p pieces else filter p pieces)
        ≤ due k n.tree + pieces_dues k pieces
    go true i = omega (arith, i)
    go false i = omega (arith, i)
kept_dues k p (of_row r ∷ pieces) = go (p (of_row r)) (kept_dues k p pieces)
  where
    go : (t : Bool) → pieces_dues k (filter p pieces) ≤ pieces_dues k pieces
        → pieces_dues k (if t then of_row r ∷ filter p pieces else filter p pieces)
        ≤ dues k r.cells + pieces_dues k pieces
    go true i = omega (arith, i)
    go false i = omega (arith, i)

kept_due : (p : TablePiece → Bool) (pieces : List TablePiece) → PiecesDue pieces → PiecesDue (filter p pieces)
kept_due p [] f = tt
kept_due p (of_caption n ∷ pieces) f = go (p (of_caption n)) (kept_due p pieces f.1)
  where
    go : (t : Bool) → PiecesDue (filter p pieces)
        → PiecesDue (if t then of_caption n ∷ filter p pieces else filter p pieces)
    go true i = (f.0, i)
    go false i = i
kept_due p (of_row r ∷ pieces) f = go (p (of_row r)) (kept_due p pieces f.1)
  where
    go : (t : Bool) → PiecesDue (filter p pieces)
        → PiecesDue (if t then of_row r ∷ filter p pieces else filter p pieces)
    go true i = (f.0, i)
    go false i = i

-- ---- the table

kept_cost : (trees : List Simple) (attributes : List AttributePair) (x : Bool) (kept : List TablePiece)
    (nodes : List Node) (c : Context) (k : ℕ) → c.is_flat ≡ false → AllDue nodes → PiecesDue kept
    → dues (rep c.around) nodes ≤ k → pieces_dues (rep c.around) kept ≤ k
    → Costs c.is_flat (kept_table_parts trees attributes x kept nodes c) k
kept_cost trees attributes x kept nodes c k e f g v l =
    go (is_for_page trees attributes kept) (is_headed attributes kept || are_paragraphs made)
  where
    made : List Piece
    made = pieces_with_blocks x kept c

    content : Costs c.is_flat (flow_all nodes c) k
    content =
        at_most c.is_flat (flow_all nodes c) (dues (rep c.around) nodes) k v (flow_cost nodes c f)

    go : (t u : Bool)
        → Costs c.is_flat
        (if t then flow_all nodes c
        else (if u then block_part (table_of_pieces (has_border attributes) made) else flow_all nodes c)) k
    go true u = content
    go false true =
        strictly c.is_flat (block_part (table_of_pieces (has_border attributes) made)) k e
        (at_most false (block_part (table_of_pieces (has_border attributes) made)) (pieces_debt made) k
        (omega (
          arith,
          pieces_cut (map (piece_with_blocks x c) kept),
          pieces_made x kept c e g,
          l,
        ))
        (table_cost (has_border attributes) made))
    go false false = content

pub rich_table_cost : (trees : List Simple) (attributes : List AttributePair) (pieces : List TablePiece)
    (nodes : List Node) (c : Context) (k : ℕ) → c.is_flat ≡ false → AllDue nodes → PiecesDue pieces
    → dues (rep c.around) nodes ≤ k → pieces_dues (rep c.around) pieces ≤ k
    → Costs c.is_flat (rich_table_parts trees attributes pieces nodes c) k
rich_table_cost trees attributes pieces nodes c k e f g v l =
    let x = have_row_spans (rows_in pieces) in
    apart_cost c.is_flat (kept_table_parts trees attributes x (kept_pieces pieces) nodes c) k
    (kept_cost trees attributes x (kept_pieces pieces) nodes c k e f (kept_due (stays x) pieces g) v
    (omega (arith, kept_dues (rep c.around) (stays x) pieces, l)))
