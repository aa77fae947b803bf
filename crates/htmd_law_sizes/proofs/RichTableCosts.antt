-- How much a table of a rich document gives.
use Rattle.std.proofs.Common.{◌≡◌, refl, ℕ, zero, suc, ◌+◌, ◌*◌, ◌<◌, ◌≤◌, ◌%◌, ◌/◌, Bool, true, false, List, [], ◌∷◌, ◌++◌}
use Rattle.std.proofs.Common.{length, map, mod-lt, arith}
use Rattle.std.proofs.lemmas.Bool.Decides.{nat_tests}
use Rattle.std.proofs.lemmas.List.{length-append}
use Rattle.std.specs.Prelude.{nat_lt, ◌&&◌, ◌||◌, ◌==◌, filter, if◌then◌else◌, codes, Some, None}
use Rattle.std.specs.Fmt.{digits, digits_onto, digit_glyph, decimal}
use Rattle.std.specs.List.{list_any, flat_map}
use Rattle.htmd_lexical.specs.AttributePairs.{AttributePair}
use Rattle.htmd_lexical.specs.Characters.{ampersand, less_than_sign, greater_than_sign, quotation_mark, vertical_bar}
use Rattle.htmd_lexical.specs.Characters.{right_square_bracket}
use Rattle.htmd_document.specs.declared.document.Alignment.{Alignment}
use Rattle.htmd_document.specs.declared.document.Alignment.TheVariants as align
use Rattle.htmd_document.specs.declared.document.AttributeName.{AttributeName}
use Rattle.htmd_document.specs.declared.document.AttributeName.TheVariants as attribute
use Rattle.htmd_document.specs.declared.document.BlockElement.TheVariants as name
use Rattle.htmd_document.specs.Documents.{Blocks, paragraph, heading, code_block, quote, thematic_break, list, table}
use Rattle.htmd_document.specs.Documents.{element, tags, no_blocks, block, blocks_of, BlockAttribute}
use Rattle.htmd_document.specs.Tags.{in_value, escaped_value, attribute_text}
use Rattle.htmd_shown.specs.SimpleTrees.{Simple}
use Rattle.htmd_flow.specs.Contexts.{Context}
use Rattle.htmd_flow.specs.Flows.{Node, TablePiece, of_caption, of_row, block_part, flow_all, rows_in, have_row_spans, stays}
use Rattle.htmd_flow.specs.Flows.{kept_pieces, has_border, is_headed, is_for_page, in_cell, cell_with_blocks}
use Rattle.htmd_flow.specs.Flows.{piece_with_blocks, pieces_with_blocks, kept_table_parts}
use Rattle.htmd_flow.specs.Flows.{rich_table_parts}
use Rattle.htmd_flow.specs.Grids.{trimmed_row}
use Rattle.htmd_flow.specs.TableElements.{Cell, Piece, caption, row, stretch_of, stretched, cut_cell, cut_all}
use Rattle.htmd_flow.specs.TableElements.{are_paragraphs, has_header_alone, inlines_in, cell_line, line_of}
use Rattle.htmd_flow.specs.TableElements.{alignments_of, table_of_lines, attribute_with, span_attribute, align_attribute}
use Rattle.htmd_flow.specs.TableElements.{cell_element, piece_element, is_filled_piece, border_attribute}
use Rattle.htmd_flow.specs.TableElements.{table_of_elements, table_of_pieces}
use Rattle.htmd_law_sizes.specs.SimpleSizes.{size_of_simple}
use Rattle.htmd_law_sizes.proofs.CellContexts.{cell_context}
use Rattle.htmd_law_sizes.proofs.ContextRooms.{Within, within_near}
use Rattle.htmd_law_sizes.proofs.GridCosts.{in_row, in_rows, lengths, trimmed_rows, of_cost}
use Rattle.htmd_law_sizes.proofs.HeavySizes.{heavy_inlines, heavy, heavy_block}
use Rattle.htmd_law_sizes.proofs.NodeCosts.{Fit, AllFit, worth, flow_le}
use Rattle.htmd_law_sizes.proofs.PartCosts.{costs, costs_append, blocks_cost}
use Rattle.htmd_law_sizes.proofs.RichCosts.{attributes_size, one_attribute, tags_le, bare_tags, blocks_le}

-- ---- attributes

plain_value : (c : ℕ) → (c == ampersand) ≡ false → (c == less_than_sign) ≡ false
    → (c == greater_than_sign) ≡ false
    → (c == quotation_mark) ≡ false → (c == vertical_bar) ≡ false → (c == right_square_bracket) ≡ false
    → length (in_value c) ≡ 1
plain_value c d e f g h i = rw (d, e, f, g, h, i) refl

-- a decimal digit stands for itself
digit_value : (d : ℕ) → d < 10 → length (in_value (digit_glyph false d)) ≡ 1
digit_value d h =
    plain_value (digit_glyph false d) (grind (arith, nat_tests)) (grind (arith, nat_tests)) (grind (arith, nat_tests))
    (grind (arith, nat_tests)) (grind (arith, nat_tests)) (grind (arith, nat_tests))

digits_value : (k n : ℕ) (acc : List ℕ)
    → length (escaped_value (digits_onto k 10 false n acc)) ≤ k + length (escaped_value acc)
digits_value zero n acc = omega arith
digits_value (suc k) n acc = go (n / 10 == 0) (digits_value k (n / 10) (digit_glyph false (n % 10) ∷ acc))
  where
    more : List ℕ
    more = digit_glyph false (n % 10) ∷ acc

    one : length (escaped_value more) ≡ suc (length (escaped_value acc))
    one =
        omega (
          arith,
          length-append (in_value (digit_glyph false (n % 10))) (escaped_value acc),
          digit_value (n % 10) (mod-lt n (omega arith)),
        )

    go : (t : Bool) → length (escaped_value (digits_onto k 10 false (n / 10) more)) ≤ k + length
        (escaped_value more)
        → length (escaped_value (if t then more else digits_onto k 10 false (n / 10) more))
        ≤ suc k + length (escaped_value acc)
    go true h = omega (arith, one)
    go false h = omega (arith, one, h)

number_value : (n : ℕ) → length (escaped_value (decimal n)) ≤ 64
unfolding digits
number_value n = digits_value 64 n []

span_size : (a : AttributeName) (n : ℕ) → attributes_size (span_attribute a n) ≤ 75
span_size a n = go (nat_lt 1 n)
  where
    go : (t : Bool) → attributes_size (if t then attribute_with a (decimal n) else []) ≤ 75
    go true = omega (arith, one_attribute a (decimal n), number_value n)
    go false = omega arith

align_size : (a : Alignment) → attributes_size (align_attribute a) ≤ 17
align_size align.None = omega arith
align_size align.Left = omega (arith, one_attribute attribute.Align (codes "left"))
align_size align.Center = omega (arith, one_attribute attribute.Align (codes "center"))
align_size align.Right = omega (arith, one_attribute attribute.Align (codes "right"))

size_append : (a b : List BlockAttribute) → attributes_size (a ++ b) ≡ attributes_size a + attributes_size b
size_append [] b = omega arith
size_append (x ∷ a) b =
    omega (
      arith,
      size_append a b,
      length-append (attribute_text x) (flat_map attribute_text (a ++ b)),
      length-append (attribute_text x) (flat_map attribute_text a),
    )

border_size : (t : Bool) → attributes_size (border_attribute t) ≤ 12
border_size true = omega (arith, one_attribute attribute.Border (codes "1"))
border_size false = omega arith

-- ---- pieces with their blocks

-- 194 more for each cell, and 30 for each caption and row
abbrev cells_size : List Cell → ℕ
cells_size [] = 0
cells_size (c ∷ cells) = 194 + heavy c.content + cells_size cells

abbrev piece_size : Piece → ℕ
piece_size (caption content) = 30 + heavy content
piece_size (row r) = 30 + cells_size r.cells

abbrev pieces_size : List Piece → ℕ
pieces_size [] = 0
pieces_size (p ∷ pieces) = piece_size p + pieces_size pieces

-- cut off where a part ends they are as big
cells_cut : (n : ℕ) (cells : List Cell) → cells_size (map (cut_cell n) cells) ≡ cells_size cells
cells_cut n [] = refl
cells_cut n (c ∷ cells) = omega (arith, cells_cut n cells)

pieces_cut : (pieces : List Piece) → pieces_size (cut_all pieces) ≡ pieces_size pieces
pieces_cut [] = refl
pieces_cut (caption content ∷ pieces) = omega (arith, pieces_cut pieces)
pieces_cut (row r ∷ pieces) =
    omega (arith, pieces_cut pieces, cells_cut (stretched r.part (stretch_of pieces)).left r.cells)

-- ---- as elements

cell_tags : (c : Cell) → heavy_block (cell_element c) ≤ 194 + heavy c.content
cell_tags c =
    let columns = span_attribute attribute.ColumnSpan c.columns in
    let rows = span_attribute attribute.RowSpan c.rows in
    let aligned = align_attribute c.alignment in
    omega (
      arith,
      tags_le (if c.is_header then name.HeaderCell else name.Cell) ((columns ++ rows) ++ aligned),
      size_append (columns ++ rows) aligned,
      size_append columns rows,
      span_size attribute.ColumnSpan c.columns,
      span_size attribute.RowSpan c.rows,
      align_size c.alignment,
    )

cells_le : (cells : List Cell) → heavy (blocks_of (map cell_element cells)) ≤ cells_size cells
cells_le [] = omega arith
cells_le (c ∷ cells) = omega (arith, cells_le cells, cell_tags c)

piece_le : (p : Piece) → heavy_block (piece_element p) ≤ piece_size p
piece_le (caption content) = omega (arith, bare_tags name.Caption)
piece_le (row r) = omega (arith, bare_tags name.Row, cells_le r.cells)

pieces_le : (pieces : List Piece) → heavy (blocks_of (map piece_element pieces)) ≤ pieces_size pieces
pieces_le [] = omega arith
pieces_le (p ∷ pieces) = omega (arith, pieces_le pieces, piece_le p)

elements_le : (t : Bool) (pieces : List Piece)
    → costs (block_part (table_of_elements t pieces)) ≤ 40 + pieces_size pieces
elements_le t pieces = go (list_any is_filled_piece pieces)
  where
    go : (x : Bool)
        → costs
        (block_part
        (if x then Some (element name.Table (border_attribute t) (blocks_of (map piece_element pieces))) else None))
        ≤ 40 + pieces_size pieces
    go true = omega (arith, tags_le name.Table (border_attribute t), border_size t, pieces_le pieces)
    go false = omega arith

-- ---- as lines

inlines_le : (bs : Blocks) → heavy_inlines (inlines_in bs) ≤ heavy bs
inlines_le no_blocks = omega arith
inlines_le (block (paragraph content) bs) = omega arith
inlines_le (block (heading level content) bs) = omega arith
inlines_le (block (code_block language s) bs) = omega arith
inlines_le (block (quote content) bs) = omega arith
inlines_le (block thematic_break bs) = omega arith
inlines_le (block (list start is_tight items) bs) = omega arith
inlines_le (block (table alignments header rows) bs) = omega arith
inlines_le (block (element n attributes content) bs) = omega arith
inlines_le (block (tags s) bs) = omega arith

line_le : (cells : List Cell)
    → 3 * length (map cell_line cells) + in_row (map cell_line cells) ≤ cells_size cells
line_le [] = omega arith
line_le (c ∷ cells) = omega (arith, line_le cells, inlines_le c.content)

lines_le : (pieces : List Piece)
    → 3 * lengths (map line_of pieces) + in_rows (map line_of pieces) ≤ pieces_size pieces
lines_le [] = omega arith
lines_le (caption content ∷ pieces) = omega (arith, lines_le pieces)
lines_le (row r ∷ pieces) = omega (arith, lines_le pieces, line_le r.cells)

table_le : (t : Bool) (pieces : List Piece)
    → costs (block_part (table_of_pieces t pieces)) ≤ 40 + pieces_size pieces
table_le t pieces = go (are_paragraphs pieces && has_header_alone pieces)
  where
    go : (x : Bool)
        → costs (block_part (if x then table_of_lines pieces else table_of_elements t pieces))
        ≤ 40 + pieces_size pieces
    go true =
        let g = trimmed_rows (map line_of pieces) in
        omega (
          arith,
          of_cost (alignments_of pieces) true (map trimmed_row (map line_of pieces)),
          g.0,
          g.1,
          lines_le pieces,
        )
    go false = elements_le t pieces

-- ---- pieces of a table

abbrev pub PiecesFit : List TablePiece → Type 0
PiecesFit [] = Unit {0}
PiecesFit (of_caption n ∷ pieces) = Fit n × PiecesFit pieces
PiecesFit (of_row r ∷ pieces) = AllFit r.cells × PiecesFit pieces

-- 400 more for each row
abbrev pub pieces_worth : List TablePiece → ℕ
pieces_worth [] = 0
pieces_worth (of_caption n ∷ pieces) = 400 * size_of_simple n.tree + pieces_worth pieces
pieces_worth (of_row r ∷ pieces) = 400 + worth r.cells + pieces_worth pieces

cell_within : (t : Simple) (c : Context) → Within c.around → Within (in_cell t c).around
cell_within t c w = cell_context (λ d. Within d.around) t c w (λ n attributes. within_near n attributes c w)

cells_made : (x y : Bool) (cells : List Node) (c : Context) → AllFit cells → Within c.around
    → cells_size (map (cell_with_blocks x y c) cells) ≤ worth cells
cells_made x y [] c f w = omega arith
cells_made x y (n ∷ cells) c f w =
    let d = in_cell n.tree c in
    omega (
      arith,
      cells_made x y cells c f.1 w,
      blocks_cost false (n.content d),
      f.0.inner d (cell_within n.tree c w),
    )

pieces_made : (x : Bool) (pieces : List TablePiece) (c : Context) → PiecesFit pieces → Within c.around
    → pieces_size (map (piece_with_blocks x c) pieces) ≤ pieces_worth pieces
pieces_made x [] c f w = omega arith
pieces_made x (of_caption n ∷ pieces) c f w = omega (arith, pieces_made x pieces c f.1 w, blocks_le n c f.0 w)
pieces_made x (of_row r ∷ pieces) c f w =
    omega (arith, pieces_made x pieces c f.1 w, cells_made x r.is_in_head r.cells c f.0 w)

kept_worth : (p : TablePiece → Bool) (pieces : List TablePiece)
    → pieces_worth (filter p pieces) ≤ pieces_worth pieces
kept_worth p [] = omega arith
kept_worth p (of_caption n ∷ pieces) = go (p (of_caption n)) (kept_worth p pieces)
  where
    go : (t : Bool) → pieces_worth (filter p pieces) ≤ pieces_worth pieces
        → pieces_worth (if t then of_caption n ∷ filter p pieces else filter p pieces)
        ≤ 400 * size_of_simple n.tree + pieces_worth pieces
    go true i = omega (arith, i)
    go false i = omega (arith, i)
kept_worth p (of_row r ∷ pieces) = go (p (of_row r)) (kept_worth p pieces)
  where
    go : (t : Bool) → pieces_worth (filter p pieces) ≤ pieces_worth pieces
        → pieces_worth (if t then of_row r ∷ filter p pieces else filter p pieces)
        ≤ 400 + worth r.cells + pieces_worth pieces
    go true i = omega (arith, i)
    go false i = omega (arith, i)

kept_fit : (p : TablePiece → Bool) (pieces : List TablePiece) → PiecesFit pieces → PiecesFit (filter p pieces)
kept_fit p [] f = tt
kept_fit p (of_caption n ∷ pieces) f = go (p (of_caption n)) (kept_fit p pieces f.1)
  where
    go : (t : Bool) → PiecesFit (filter p pieces)
        → PiecesFit (if t then of_caption n ∷ filter p pieces else filter p pieces)
    go true i = (f.0, i)
    go false i = i
kept_fit p (of_row r ∷ pieces) f = go (p (of_row r)) (kept_fit p pieces f.1)
  where
    go : (t : Bool) → PiecesFit (filter p pieces)
        → PiecesFit (if t then of_row r ∷ filter p pieces else filter p pieces)
    go true i = (f.0, i)
    go false i = i

-- ---- the table

kept_le : (trees : List Simple) (attributes : List AttributePair) (x : Bool) (kept : List TablePiece)
    (nodes : List Node) (c : Context) (k : ℕ) → AllFit nodes → PiecesFit kept → worth nodes ≤ k
    → pieces_worth kept ≤ k → Within c.around
    → costs (kept_table_parts trees attributes x kept nodes c) ≤ 40 + k
kept_le trees attributes x kept nodes c k f g v l w =
    go (is_for_page trees attributes kept) (is_headed attributes kept || are_paragraphs made)
  where
    made : List Piece
    made = pieces_with_blocks x kept c

    content : costs (flow_all nodes c) ≤ 40 + k
    content = omega (arith, flow_le nodes c f w, v)

    go : (t u : Bool)
        → costs
        (if t then flow_all nodes c
        else (if u then block_part (table_of_pieces (has_border attributes) made) else flow_all nodes c))
        ≤ 40 + k
    go true u = content
    go false true =
        omega (
          arith,
          table_le (has_border attributes) made,
          pieces_cut (map (piece_with_blocks x c) kept),
          pieces_made x kept c g w,
          l,
        )
    go false false = content

pub rich_table_le : (trees : List Simple) (attributes : List AttributePair) (pieces : List TablePiece)
    (nodes : List Node) (c : Context) (k : ℕ) → AllFit nodes → PiecesFit pieces → worth nodes ≤ k
    → pieces_worth pieces ≤ k → Within c.around
    → costs (rich_table_parts trees attributes pieces nodes c) ≤ 42 + k
rich_table_le trees attributes pieces nodes c k f g v l w =
    let x = have_row_spans (rows_in pieces) in
    simp costs_append
    (omega (
      arith,
      kept_le trees attributes x (kept_pieces pieces) nodes c k f (kept_fit (stays x) pieces g) v
          (omega (arith, kept_worth (stays x) pieces, l)) w,
    ))
