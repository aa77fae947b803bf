-- How wide the margin of elements of rich documents is: titles, details, figures, terms and tables.
use Rattle.std.proofs.Common.{◌≡◌, refl, ℕ, zero, suc, ◌≤◌, Bool, true, false, List, [], ◌∷◌, ◌++◌, length, map, arith}
use Rattle.std.specs.Prelude.{max, nat_lt, ◌&&◌, ◌||◌, ◌==◌, filter, fold, if◌then◌else◌, Some, None}
use Rattle.std.specs.List.{list_any}
use Rattle.htmd_lexical.specs.AttributePairs.{AttributePair}
use Rattle.htmd_document.specs.declared.document.Alignment.{Alignment}
use Rattle.htmd_document.specs.declared.document.BlockElement.{BlockElement}
use Rattle.htmd_document.specs.declared.document.BlockElement.TheVariants as name
use Rattle.htmd_document.specs.Documents.{Inlines, Blocks, no_blocks, block, blocks_of, BlockAttribute}
use Rattle.htmd_document.specs.Documents as document
use Rattle.htmd_shown.specs.Kinds.{has, content_of}
use Rattle.htmd_shown.specs.Roles as roles
use Rattle.htmd_shown.specs.Showings.{shows, show_usual_sign}
use Rattle.htmd_shown.specs.SimpleTrees.{Simple, Simples}
use Rattle.htmd_flow.specs.Contexts.{Context, has_elements, unlinked, is_linked_to_part, beside_code, apart}
use Rattle.htmd_flow.specs.Flows.{Node, TermPart, gap, of_node, TablePiece, of_caption, of_row, block_part, flow_all}
use Rattle.htmd_flow.specs.Flows.{element_part, around_title, around_node, within, blocks_within, is_title_of}
use Rattle.htmd_flow.specs.Flows.{title_element, as_title, titled, open_attribute, details_parts, shows_title, figure_by}
use Rattle.htmd_flow.specs.Flows.{captioned, figure_parts, Description, Descriptions, no_descriptions, description_with}
use Rattle.htmd_flow.specs.Flows.{onto_last_description, ends_with_term, before_more, with_between, with_described}
use Rattle.htmd_flow.specs.Flows.{with_description, description_element, is_filled_description}
use Rattle.htmd_flow.specs.Flows.{element_of_descriptions, described_parts, rows_in, have_row_spans, stays, kept_pieces}
use Rattle.htmd_flow.specs.Flows.{has_border, is_headed, is_for_page, in_cell, cell_with_blocks, piece_with_blocks}
use Rattle.htmd_flow.specs.Flows.{pieces_with_blocks, kept_table_parts, rich_table_parts}
use Rattle.htmd_flow.specs.Flows as flow
use Rattle.htmd_flow.specs.Grids as grids
use Rattle.htmd_flow.specs.Paragraphs.{begun}
use Rattle.htmd_flow.specs.Parts.{Part, edge, whole}
use Rattle.htmd_flow.specs.TableElements.{Cell, Piece, caption, row, stretch_of, stretched, cut_cell, cut_all}
use Rattle.htmd_flow.specs.TableElements.{are_paragraphs, has_header_alone, line_of, alignments_of, table_of_lines}
use Rattle.htmd_flow.specs.TableElements.{cell_element, piece_element, is_filled_piece, border_attribute}
use Rattle.htmd_flow.specs.TableElements.{table_of_pieces}
use Rattle.htmd_law_sizes.specs.DocumentSizes.{margin_of, margin_of_block}
use Rattle.htmd_law_sizes.proofs.CellContexts.{cell_context}
use Rattle.htmd_law_sizes.proofs.PartMargins.{widest, widest_append, list_margin, all_margin, in_margin, blocks_margin}
use Rattle.htmd_law_sizes.proofs.PartMargins.{deep, Narrow, AllNarrow, flow_width, TermsNarrow}

-- ---- contexts

pub near_nested : (n : ℕ) (attributes : List AttributePair) (c : Context)
    → (beside_code n attributes c).nested ≡ c.nested
near_nested zero attributes c = refl
near_nested (suc zero) attributes c = refl
near_nested (suc (suc n)) attributes c = refl

pub title_nested : (content : Simples) (c : Context) → (around_title content c).nested ≡ c.nested
title_nested content c = go (has_elements c && is_linked_to_part c && show_usual_sign content)
  where
    go : (t : Bool) → (if t then unlinked c else c).nested ≡ c.nested
    go true = refl
    go false = refl

node_nested : (t : Simple) (c : Context) → (around_node t c).nested ≡ c.nested
node_nested t c = go (has roles.is_title t)
  where
    go : (b : Bool) → (if b then around_title (content_of t) c else c).nested ≡ c.nested
    go true = title_nested (content_of t) c
    go false = refl

cell_nested : (t : Simple) (c : Context) → (in_cell t c).nested ≡ c.nested
cell_nested t c = cell_context (λ d. d.nested ≡ c.nested) t c refl (λ n attributes. near_nested n attributes c)

-- ---- titles

part_width : (n : BlockElement) (attributes : List BlockAttribute) (bs : Blocks)
    → widest (element_part n attributes bs) ≤ margin_of bs
part_width n attributes no_blocks = omega arith
part_width n attributes (block b bs) = omega arith

within_width : (n : Node) (c : Context) → Narrow n → widest (within n c) ≤ deep c
within_width n c f = omega (arith, f.inner (around_node n.tree c), node_nested n.tree c)

blocks_width : (n : Node) (c : Context) → Narrow n → margin_of (blocks_within n c) ≤ deep c
blocks_width n c f = omega (arith, blocks_margin false (within n c), within_width n c f)

title_width : (title : BlockElement) (n : Node) (c : Context) → Narrow n
    → widest (title_element title n c) ≤ deep c
title_width title n c f =
    simp widest_append (omega (arith, part_width title [] (blocks_within n c), blocks_width n c f))

title_narrow : (title : BlockElement) (n : Node) → Narrow n → Narrow (as_title title n)
title_narrow title n f = go (has (is_title_of title) n.tree)
  where
    go : (t : Bool) → Narrow (if t then record n { whole = title_element title n } else n)
    go true = record { outer = λ c. title_width title n c f; inner = λ c. f.inner c }
    go false = f

titled_narrow : (title : BlockElement) (nodes : List Node) → AllNarrow nodes
    → AllNarrow (map (as_title title) nodes)
titled_narrow title [] f = tt
titled_narrow title (n ∷ nodes) f = (title_narrow title n f.0, titled_narrow title nodes f.1)

titled_width : (title : BlockElement) (nodes : List Node) (c : Context) → AllNarrow nodes
    → widest (titled title nodes c) ≤ deep c
titled_width title nodes c f = flow_width (map (as_title title) nodes) c (titled_narrow title nodes f)

-- ---- details and figures

pub details_width : (attributes : List AttributePair) (nodes : List Node) (c : Context) → AllNarrow nodes
    → widest (details_parts attributes nodes c) ≤ deep c
details_width attributes nodes c f = go (has_elements c)
  where
    bs : Blocks
    bs = flow.blocks_of false (titled name.Summary nodes c)

    go : (t : Bool)
        → widest (apart (if t then element_part name.Details (open_attribute attributes) bs else flow_all nodes c))
        ≤ deep c
    go true =
        simp widest_append
        (omega (
          arith,
          part_width name.Details (open_attribute attributes) bs,
          blocks_margin false (titled name.Summary nodes c),
          titled_width name.Summary nodes c f,
        ))
    go false = simp widest_append (omega (arith, flow_width nodes c f))

figure_by_width : (t : Bool) (parts : List Part) → widest (figure_by t parts) ≤ widest parts
figure_by_width true parts =
    omega (arith, part_width name.Figure [] (flow.blocks_of false parts), blocks_margin false parts)
figure_by_width false parts = omega arith

pub figure_width : (nodes : List Node) (c : Context) → AllNarrow nodes → widest (figure_parts nodes c) ≤ deep c
figure_width nodes c f = go (has_elements c)
  where
    shown : Bool
    shown = list_any (λ (n : Node). shows_title name.FigureCaption n.tree) nodes

    go : (t : Bool) → widest (apart (if t then captioned nodes c else flow_all nodes c)) ≤ deep c
    go true =
        simp widest_append
        (omega (
          arith,
          figure_by_width shown (titled name.FigureCaption nodes c),
          titled_width name.FigureCaption nodes c f,
        ))
    go false = simp widest_append (omega (arith, flow_width nodes c f))

-- ---- terms

abbrev started : List Description → ℕ
started [] = 0
started (d ∷ ds) = max (list_margin d.content.done) (started ds)

started_append : (a b : List Description) → started (a ++ b) ≡ max (started a) (started b)
started_append [] b = omega arith
started_append (d ∷ a) b = omega (arith, started_append a b)

onto_margin : (ds : List Description) (parts : List Part)
    → started (onto_last_description ds parts) ≤ max (started ds) (widest parts)
onto_margin [] parts = omega arith
onto_margin (d ∷ []) parts = omega (arith, all_margin parts d.content)
onto_margin (d ∷ next ∷ ds) parts = omega (arith, onto_margin (next ∷ ds) parts)

before_margin : (t : Bool) (ds : List Description) → started (before_more t ds) ≤ started ds
before_margin t ds = go (t && ends_with_term ds)
  where
    go : (x : Bool) → started (if x then ds ++ description_with false [] ∷ [] else ds) ≤ started ds
    go true = omega (arith, started_append ds (description_with false [] ∷ []))
    go false = omega arith

abbrev described : Descriptions → ℕ
described d = max (widest d.before) (started d.begun)

between_width : (c : Context) (d : Descriptions) (n : Node) → Narrow n
    → described (with_between c d n) ≤ max (described d) (deep c)
between_width c d n f = go (nat_lt 0 (length d.begun))
  where
    parts : List Part
    parts = flow_all (n ∷ []) c

    ds : List Description
    ds = before_more (shows false n.tree) d.begun

    go : (t : Bool)
        → described
        (if t then record d { begun = onto_last_description ds (edge ∷ parts) }
        else record d { before = d.before ++ parts })
        ≤ max (described d) (deep c)
    go true =
        omega (
          arith,
          onto_margin ds (edge ∷ parts),
          before_margin (shows false n.tree) d.begun,
          flow_width (n ∷ []) c (f, tt),
        )
    go false = omega (arith, widest_append d.before parts, flow_width (n ∷ []) c (f, tt))

node_width : (c : Context) (d : Descriptions) (n : Node) → Narrow n
    → described (with_described c d n) ≤ max (described d) (deep c)
node_width c d n f = go (has roles.is_term n.tree || has roles.is_meaning n.tree)
  where
    is_term : Bool
    is_term = has roles.is_term n.tree

    go : (t : Bool)
        → described
        (if t then record d { begun = d.begun ++ description_with is_term (within n c) ∷ [] }
        else with_between c d n)
        ≤ max (described d) (deep c)
    go true =
        omega (
          arith,
          started_append d.begun (description_with is_term (within n c) ∷ []),
          all_margin (within n c) (begun false false),
          within_width n c f,
        )
    go false = between_width c d n f

all_width : (c : Context) (d : Descriptions) (parts : List TermPart) → TermsNarrow parts
    → described (fold (with_description c) d parts) ≤ max (described d) (deep c)
all_width c d [] f = omega arith
all_width c d (gap ∷ parts) f = all_width c d parts f
all_width c d (of_node n ∷ parts) f =
    omega (arith, all_width c (with_described c d n) parts f.1, node_width c d n f.0)

elements_width : (ds : List Description) → margin_of (blocks_of (map description_element ds)) ≤ started ds
elements_width [] = omega arith
elements_width (d ∷ ds) = omega (arith, elements_width ds, in_margin d.content)

element_width : (ds : List Description) → widest (element_of_descriptions ds) ≤ started ds
element_width ds = go (list_any is_filled_description ds)
  where
    go : (t : Bool)
        → widest
        (if t then whole (document.element name.Terms [] (blocks_of (map description_element ds))) ∷ [] else [])
        ≤ started ds
    go true = omega (arith, elements_width ds)
    go false = omega arith

pub described_width : (parts : List TermPart) (c : Context) → TermsNarrow parts
    → widest (described_parts parts c) ≤ deep c
described_width parts c f =
    let d = fold (with_description c) no_descriptions parts in
    omega (
      arith,
      all_width c no_descriptions parts f,
      widest_append (edge ∷ d.before) (apart (element_of_descriptions d.begun)),
      widest_append (element_of_descriptions d.begun) (edge ∷ []),
      element_width d.begun,
    )

-- ---- tables

pub of_width : (al : List Alignment) (t : Bool) (lines : List (List Inlines))
    → widest (block_part (grids.table_of al t lines)) ≡ 0
of_width al t lines = go (grids.width lines == 0)
  where
    go : (b : Bool)
        → widest (block_part (if b then None else Some (grids.table_in (grids.width lines) al t lines))) ≡ 0
    go true = refl
    go false = refl

abbrev cells_margin : List Cell → ℕ
cells_margin [] = 0
cells_margin (c ∷ cells) = max (margin_of c.content) (cells_margin cells)

abbrev piece_margin : Piece → ℕ
piece_margin (caption content) = margin_of content
piece_margin (row r) = cells_margin r.cells

abbrev pieces_margin : List Piece → ℕ
pieces_margin [] = 0
pieces_margin (p ∷ pieces) = max (piece_margin p) (pieces_margin pieces)

cells_cut : (n : ℕ) (cells : List Cell) → cells_margin (map (cut_cell n) cells) ≡ cells_margin cells
cells_cut n [] = refl
cells_cut n (c ∷ cells) = omega (arith, cells_cut n cells)

pieces_cut : (pieces : List Piece) → pieces_margin (cut_all pieces) ≡ pieces_margin pieces
pieces_cut [] = refl
pieces_cut (caption content ∷ pieces) = omega (arith, pieces_cut pieces)
pieces_cut (row r ∷ pieces) =
    omega (arith, pieces_cut pieces, cells_cut (stretched r.part (stretch_of pieces)).left r.cells)

cells_width : (cells : List Cell) → margin_of (blocks_of (map cell_element cells)) ≤ cells_margin cells
cells_width [] = omega arith
cells_width (c ∷ cells) = omega (arith, cells_width cells)

piece_width : (p : Piece) → margin_of_block (piece_element p) ≤ piece_margin p
piece_width (caption content) = omega arith
piece_width (row r) = cells_width r.cells

pieces_width : (pieces : List Piece) → margin_of (blocks_of (map piece_element pieces)) ≤ pieces_margin pieces
pieces_width [] = omega arith
pieces_width (p ∷ pieces) = omega (arith, pieces_width pieces, piece_width p)

table_width : (t : Bool) (pieces : List Piece)
    → widest (block_part (table_of_pieces t pieces)) ≤ pieces_margin pieces
table_width t pieces = go (are_paragraphs pieces && has_header_alone pieces) (list_any is_filled_piece pieces)
  where
    go : (x y : Bool)
        → widest
        (block_part
        (if x then table_of_lines pieces
        else (if y then Some (document.element name.Table (border_attribute t) (blocks_of (map piece_element pieces)))
        else None)))
        ≤ pieces_margin pieces
    go true y = omega (arith, of_width (alignments_of pieces) true (map grids.trimmed_row (map line_of pieces)))
    go false true = omega (arith, pieces_width pieces)
    go false false = omega arith

abbrev pub PiecesNarrow : List TablePiece → Type 0
PiecesNarrow [] = Unit {0}
PiecesNarrow (of_caption n ∷ pieces) = Narrow n × PiecesNarrow pieces
PiecesNarrow (of_row r ∷ pieces) = AllNarrow r.cells × PiecesNarrow pieces

cells_made : (x y : Bool) (cells : List Node) (c : Context) → AllNarrow cells
    → cells_margin (map (cell_with_blocks x y c) cells) ≤ deep c
cells_made x y [] c f = omega arith
cells_made x y (n ∷ cells) c f =
    let d = in_cell n.tree c in
    omega (
      arith,
      cells_made x y cells c f.1,
      blocks_margin false (n.content d),
      f.0.inner d,
      cell_nested n.tree c,
    )

pieces_made : (x : Bool) (pieces : List TablePiece) (c : Context) → PiecesNarrow pieces
    → pieces_margin (map (piece_with_blocks x c) pieces) ≤ deep c
pieces_made x [] c f = omega arith
pieces_made x (of_caption n ∷ pieces) c f = omega (arith, pieces_made x pieces c f.1, blocks_width n c f.0)
pieces_made x (of_row r ∷ pieces) c f =
    omega (arith, pieces_made x pieces c f.1, cells_made x r.is_in_head r.cells c f.0)

kept_narrow : (p : TablePiece → Bool) (pieces : List TablePiece) → PiecesNarrow pieces
    → PiecesNarrow (filter p pieces)
kept_narrow p [] f = tt
kept_narrow p (of_caption n ∷ pieces) f = go (p (of_caption n)) (kept_narrow p pieces f.1)
  where
    go : (t : Bool) → PiecesNarrow (filter p pieces)
        → PiecesNarrow (if t then of_caption n ∷ filter p pieces else filter p pieces)
    go true i = (f.0, i)
    go false i = i
kept_narrow p (of_row r ∷ pieces) f = go (p (of_row r)) (kept_narrow p pieces f.1)
  where
    go : (t : Bool) → PiecesNarrow (filter p pieces)
        → PiecesNarrow (if t then of_row r ∷ filter p pieces else filter p pieces)
    go true i = (f.0, i)
    go false i = i

kept_width : (trees : List Simple) (attributes : List AttributePair) (x : Bool) (kept : List TablePiece)
    (nodes : List Node) (c : Context) → AllNarrow nodes → PiecesNarrow kept
    → widest (kept_table_parts trees attributes x kept nodes c) ≤ deep c
kept_width trees attributes x kept nodes c f g =
    go (is_for_page trees attributes kept) (is_headed attributes kept || are_paragraphs made)
  where
    made : List Piece
    made = pieces_with_blocks x kept c

    go : (t u : Bool)
        → widest
        (if t then flow_all nodes c
        else (if u then block_part (table_of_pieces (has_border attributes) made) else flow_all nodes c))
        ≤ deep c
    go true u = flow_width nodes c f
    go false true =
        omega (
          arith,
          table_width (has_border attributes) made,
          pieces_cut (map (piece_with_blocks x c) kept),
          pieces_made x kept c g,
        )
    go false false = flow_width nodes c f

pub rich_table_width : (trees : List Simple) (attributes : List AttributePair) (pieces : List TablePiece)
    (nodes : List Node) (c : Context) → AllNarrow nodes → PiecesNarrow pieces
    → widest (rich_table_parts trees attributes pieces nodes c) ≤ deep c
rich_table_width trees attributes pieces nodes c f g =
    let x = have_row_spans (rows_in pieces) in
    simp widest_append
    (omega (arith, kept_width trees attributes x (kept_pieces pieces) nodes c f (kept_narrow (stays x) pieces g)))
