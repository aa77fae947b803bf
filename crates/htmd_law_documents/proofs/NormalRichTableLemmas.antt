-- Tables of rich documents are normal.
use Rattle.std.proofs.Common.{◌≡◌, ℕ, zero, suc, ◌<◌, Bool, true, false, cond, ◌&&◌, ◌||◌, List, [], ◌∷◌, ◌++◌}
use Rattle.std.proofs.Common.{refl, ap, map, filter, arith, Option, Some, None, inl, inr}
use Rattle.std.specs.Prelude.{nat_lt, ◌==◌, ◌/◌, ◌%◌}
use Rattle.std.specs.Fmt.{decimal, digits, digits_onto, digit_glyph}
use Rattle.std.specs.List.{list_all, list_any}
use Rattle.std.specs.Str.{is_utf8, chars, IsAscii}
use Rattle.std.proofs.lemmas.Str.{IsUtf8-from_ascii, is_utf8-from_IsUtf8}
use Rattle.htmd_lexical.specs.AttributePairs.{AttributePair}
use Rattle.htmd_document.specs.declared.document.Alignment.{Alignment}
use Rattle.htmd_document.specs.declared.document.Alignment.TheVariants as align
use Rattle.htmd_document.specs.declared.document.AttributeName.{AttributeName}
use Rattle.htmd_document.specs.declared.document.AttributeName.TheVariants as attribute
use Rattle.htmd_document.specs.declared.document.BlockElement.TheVariants as name
use Rattle.htmd_document.specs.Documents.{BlockAttribute, Block, paragraph, element, Blocks, no_blocks, block}
use Rattle.htmd_document.specs.Documents.{blocks_of}
use Rattle.htmd_document.specs.NormalInlines.{is_attribute, is_kept, is_normal_line, anchors_stand_well}
use Rattle.htmd_document.specs.NormalDocuments.{may_be_empty}
use Rattle.htmd_document.specs.TightItems.{is_filled}
use Rattle.htmd_shown.specs.declared.role.Role.TheVariants as role
use Rattle.htmd_shown.specs.Kinds.{has, content_of}
use Rattle.htmd_shown.specs.Roles as roles
use Rattle.htmd_shown.specs.Showings.{show_usual_sign}
use Rattle.htmd_shown.specs.SimpleTrees.{Simple}
use Rattle.htmd_shown.specs.SimpleTrees as tree
use Rattle.htmd_flow.specs.Contexts.{Context, has_elements, unlinked, is_linked_to_part, beside_code}
use Rattle.htmd_flow.specs.Flows.{Node, TablePiece, of_caption, of_row, flow_all, blocks_within, rows_in}
use Rattle.htmd_flow.specs.Flows.{block_part, have_row_spans, content_shows, stays, kept_pieces, is_headed, has_border}
use Rattle.htmd_flow.specs.Flows.{is_for_page, in_cell, cell_with_blocks, piece_with_blocks, pieces_with_blocks}
use Rattle.htmd_flow.specs.Flows.{table_with_blocks, kept_table_parts, rich_table_parts, has_cell}
use Rattle.htmd_flow.specs.Nodes as nodes
use Rattle.htmd_flow.specs.Parts.{Part}
use Rattle.htmd_flow.specs.TableElements as elements
use Rattle.htmd_flow.specs.TableElements.{is_paragraph_at_most, is_paragraph_cell, inlines_in, stretch_of, stretched}
use Rattle.htmd_law_documents.proofs.VisibleLemmas.{both-true}
use Rattle.htmd_law_documents.proofs.NormalTextLemmas.{and-true, false-true}
use Rattle.htmd_law_documents.proofs.NormalBlockLemmas.{NearlyAll, IsParagraph, Fine, AllFine, FineBlocks}
use Rattle.htmd_law_documents.proofs.NormalBlockLemmas.{blocks-fine, these_stand}
use Rattle.htmd_law_documents.proofs.NormalPartsLemmas.{FineParts, fine-apart, fine-either, fine-as}
use Rattle.htmd_law_documents.proofs.NormalPartsLemmas as parts
use Rattle.htmd_law_documents.proofs.NormalGridLemmas.{AreLines, AllLines, FineOption, table-all-fine}
use Rattle.htmd_law_documents.proofs.NormalNodesLemmas.{bound, FitsIn, FineNode, FineNodes, flow-fine}
use Rattle.htmd_law_documents.proofs.NormalTableLemmas.{option-fine}
use Rattle.htmd_law_documents.proofs.NormalAroundLemmas.{fit-without}
use Rattle.htmd_law_documents.proofs.NormalRichLemmas.{AreKept, blocks-within-fine}
use lib.Utf8.{encode}

-- ---- numbers as values

abbrev AreDigits : List ℕ → Type 0
AreDigits [] = Unit {0}
AreDigits (b ∷ ds) = (is_kept b ≡ true) × (b < 128) × AreDigits ds

abbrev IsGlyph : ℕ → Type 0
IsGlyph d = (is_kept (digit_glyph false d) ≡ true) × (digit_glyph false d < 128)

glyph : (d : ℕ) → d < 10 → IsGlyph d
glyph zero l = (refl, omega arith)
glyph (suc zero) l = (refl, omega arith)
glyph (suc (suc zero)) l = (refl, omega arith)
glyph (suc (suc (suc zero))) l = (refl, omega arith)
glyph (suc (suc (suc (suc zero)))) l = (refl, omega arith)
glyph (suc (suc (suc (suc (suc zero))))) l = (refl, omega arith)
glyph (suc (suc (suc (suc (suc (suc zero)))))) l = (refl, omega arith)
glyph (suc (suc (suc (suc (suc (suc (suc zero))))))) l = (refl, omega arith)
glyph (suc (suc (suc (suc (suc (suc (suc (suc zero)))))))) l = (refl, omega arith)
glyph (suc (suc (suc (suc (suc (suc (suc (suc (suc zero))))))))) l = (refl, omega arith)
glyph (suc (suc (suc (suc (suc (suc (suc (suc (suc (suc d)))))))))) l = absurd (none d l)
  where
    none : (d : ℕ) → suc (suc (suc (suc (suc (suc (suc (suc (suc (suc d))))))))) < 10 → ⊥
    none d l = omega arith

either-digits : (b : Bool) (xs ys : List ℕ) → AreDigits xs → AreDigits ys → AreDigits (cond b xs ys)
either-digits true xs ys g h = g
either-digits false xs ys g h = h

onto-digits : (k n : ℕ) (acc : List ℕ) → AreDigits acc → AreDigits (digits_onto k 10 false n acc)
onto-digits zero n acc h = h
onto-digits (suc k) n acc h =
    let g : IsGlyph (n % 10) = glyph (n % 10) (small n) in
    let more : List ℕ = digit_glyph false (n % 10) ∷ acc in
    let one : AreDigits more = (g.0, g.1, h) in
    either-digits (n / 10 == 0) more (digits_onto k 10 false (n / 10) more) one (onto-digits k (n / 10) more one)
  where
    small : (n : ℕ) → n % 10 < 10
    small n = omega arith

are-ascii : (ds : List ℕ) → AreDigits ds → IsAscii ds
are-ascii [] h i = omega arith
are-ascii (b ∷ ds) h zero = h.1
are-ascii (b ∷ ds) h (suc i) = are-ascii ds h.2 i

are-kept : (ds : List ℕ) → AreDigits ds → list_all is_kept ds ≡ true
are-kept [] h = refl
are-kept (b ∷ ds) h = and-true h.0 (are-kept ds h.2)

decimal-kept : (n : ℕ) → is_attribute (decimal n) ≡ true
unfolding digits
decimal-kept n =
    let h : AreDigits (decimal n) = onto-digits 64 n [] tt in
    and-true (is_utf8-from_IsUtf8 (decimal n) (IsUtf8-from_ascii (decimal n) (are-ascii (decimal n) h)))
    (are-kept (decimal n) h)

-- ---- attributes

kept-append : (xs ys : List BlockAttribute) → AreKept xs → AreKept ys → AreKept (xs ++ ys)
kept-append [] ys g h = h
kept-append (x ∷ xs) ys g h =
    let both = both-true (is_attribute x.value) (list_all (λ (a : BlockAttribute). is_attribute a.value) xs) g in
    and-true both.0 (kept-append xs ys both.1 h)

span-kept : (a : AttributeName) (n : ℕ) → AreKept (elements.span_attribute a n)
span-kept a n = either (nat_lt 1 n)
  where
    either : (b : Bool) → AreKept (cond b (record { name = a; value = decimal n } ∷ []) [])
    either true = and-true (decimal-kept n) refl
    either false = refl

align-kept : (a : Alignment) → AreKept (elements.align_attribute a)
unfolding encode chars is_utf8
align-kept align.None = refl
align-kept align.Left = refl
align-kept align.Center = refl
align-kept align.Right = refl

border-kept : (b : Bool) → AreKept (elements.border_attribute b)
unfolding encode chars is_utf8
border-kept true = refl
border-kept false = refl

-- ---- pieces with their blocks

abbrev WellCell : ℕ → elements.Cell → Type 0
WellCell n c =
    FineBlocks n false c.content
    × (is_paragraph_at_most c.content ≡ true → anchors_stand_well (inlines_in c.content) ≡ true)

abbrev WellCells : ℕ → List elements.Cell → Type 0
WellCells n [] = Unit {0}
WellCells n (c ∷ cells) = WellCell n c × WellCells n cells

abbrev WellPiece : ℕ → elements.Piece → Type 0
WellPiece n (elements.caption content) = FineBlocks n false content × (is_filled content ≡ true)
WellPiece n (elements.row r) = WellCells n r.cells

abbrev WellPieces : ℕ → List elements.Piece → Type 0
WellPieces n [] = Unit {0}
WellPieces n (p ∷ pieces) = WellPiece n p × WellPieces n pieces

cut-cells : (n left : ℕ) (cells : List elements.Cell) → WellCells n cells
    → WellCells n (map (elements.cut_cell left) cells)
cut-cells n left [] h = tt
cut-cells n left (c ∷ cells) h = ((h.0.0, h.0.1), cut-cells n left cells h.1)

cut-pieces : (n : ℕ) (pieces : List elements.Piece) → WellPieces n pieces → WellPieces n (elements.cut_all pieces)
cut-pieces n [] h = tt
cut-pieces n (elements.caption content ∷ pieces) h = (h.0, cut-pieces n pieces h.1)
cut-pieces n (elements.row r ∷ pieces) h =
    (cut-cells n (stretched r.part (stretch_of pieces)).left r.cells h.0, cut-pieces n pieces h.1)

-- ---- elements

or-yes : (b : Bool) → (b || true) ≡ true
or-yes true = refl
or-yes false = refl

cell-fine : (n : ℕ) (c : elements.Cell) → WellCell n c → Fine n false (elements.cell_element c)
cell-fine n c h =
    let columns : List BlockAttribute = elements.span_attribute attribute.ColumnSpan c.columns in
    let rows : List BlockAttribute = elements.span_attribute attribute.RowSpan c.rows in
    let kept : AreKept ((columns ++ rows) ++ elements.align_attribute c.alignment) =
    kept-append (columns ++ rows) (elements.align_attribute c.alignment)
    (kept-append columns rows (span-kept attribute.ColumnSpan c.columns) (span-kept attribute.RowSpan c.rows))
    (align-kept c.alignment) in
    ((and-true kept (may c.is_header (is_filled c.content)), h.0.nearly, h.0.stand), h.0.depth)
  where
    may : (b filled : Bool) → (filled || may_be_empty (cond b name.HeaderCell name.Cell)) ≡ true
    may true filled = or-yes filled
    may false filled = or-yes filled

cells-fine : (n : ℕ) (cells : List elements.Cell) → WellCells n cells
    → AllFine n false (map elements.cell_element cells)
cells-fine n [] h = tt
cells-fine n (c ∷ cells) h = (cell-fine n c h.0, cells-fine n cells h.1)

cells-stand : (cells : List elements.Cell) → these_stand false (blocks_of (map elements.cell_element cells)) ≡ true
cells-stand [] = refl
cells-stand (c ∷ cells) = cells-stand cells

pieces-stand : (pieces : List elements.Piece)
    → these_stand false (blocks_of (map elements.piece_element pieces)) ≡ true
pieces-stand [] = refl
pieces-stand (elements.caption content ∷ pieces) = pieces-stand pieces
pieces-stand (elements.row r ∷ pieces) = pieces-stand pieces

piece-fine : (n : ℕ) (p : elements.Piece) → WellPiece n p → Fine n false (elements.piece_element p)
piece-fine n (elements.caption content) h = ((ap (λ b. b || false) h.1, h.0.nearly, h.0.stand), h.0.depth)
piece-fine n (elements.row r) h =
    let bs : Blocks = blocks_of (map elements.cell_element r.cells) in
    let fine : FineBlocks n false bs =
    blocks-fine n false (map elements.cell_element r.cells) (cells-fine n r.cells h) (cells-stand r.cells) in
    ((or-yes (is_filled bs), fine.nearly, fine.stand), fine.depth)

pieces-fine : (n : ℕ) (pieces : List elements.Piece) → WellPieces n pieces
    → AllFine n false (map elements.piece_element pieces)
pieces-fine n [] h = tt
pieces-fine n (p ∷ pieces) h = (piece-fine n p h.0, pieces-fine n pieces h.1)

either-option : (n : ℕ) (b : Bool) (x y : Option Block) → (b ≡ true → FineOption n x)
    → (b ≡ false → FineOption n y)
    → FineOption n (cond b x y)
either-option n true x y g h = g refl
either-option n false x y g h = h refl

elements-fine : (n : ℕ) (border : Bool) (pieces : List elements.Piece) → WellPieces n pieces
    → FineOption n (elements.table_of_elements border pieces)
elements-fine n border [] h = tt
elements-fine n border (p ∷ pieces) h =
    let bs : Blocks = blocks_of (map elements.piece_element (p ∷ pieces)) in
    let fine : FineBlocks n false bs =
    blocks-fine n false (map elements.piece_element (p ∷ pieces)) (pieces-fine n (p ∷ pieces) h)
    (pieces-stand (p ∷ pieces)) in
    either-option n (list_any elements.is_filled_piece (p ∷ pieces))
    (Some (element name.Table (elements.border_attribute border) bs))
    None
    (λ e. (((and-true (border-kept border) refl, fine.nearly, fine.stand), fine.depth), refl)) (λ e. tt)

-- ---- GitHub's form

normal-in : (bs : Blocks) → NearlyAll false bs → is_normal_line (inlines_in bs) ≡ true
normal-in no_blocks h = refl
normal-in (block (paragraph xs) bs) h = at h.0
  where
    at : IsParagraph false xs → is_normal_line xs ≡ true
    at (inl k) = k.0
    at (inr k) = false-true k.0
normal-in (block b bs) h = refl

cells-lines : (n : ℕ) (cells : List elements.Cell) → WellCells n cells → list_all is_paragraph_cell cells ≡ true
    → AreLines (map elements.cell_line cells)
cells-lines n [] h e = tt
cells-lines n (c ∷ cells) h e =
    let both = both-true (is_paragraph_cell c) (list_all is_paragraph_cell cells) e in
    ((normal-in c.content h.0.0.nearly, h.0.1 both.0), cells-lines n cells h.1 both.1)

pieces-lines : (n : ℕ) (pieces : List elements.Piece) → WellPieces n pieces
    → elements.are_paragraphs pieces ≡ true
    → AllLines (map elements.line_of pieces)
pieces-lines n [] h e = tt
pieces-lines n (elements.caption content ∷ pieces) h e = (tt, pieces-lines n pieces h.1 e)
pieces-lines n (elements.row r ∷ pieces) h e =
    let both = both-true (list_all is_paragraph_cell r.cells) (elements.are_paragraphs pieces) e in
    (cells-lines n r.cells h.0 both.0, pieces-lines n pieces h.1 both.1)

made-fine : (n : ℕ) (border : Bool) (pieces : List elements.Piece) → WellPieces n pieces
    → FineOption n (elements.table_of_pieces border pieces)
made-fine n border pieces h =
    either-option n (elements.are_paragraphs pieces && elements.has_header_alone pieces)
    (elements.table_of_lines pieces)
    (elements.table_of_elements border pieces)
    (λ e. table-all-fine n (elements.alignments_of pieces) true (map elements.line_of pieces)
    (pieces-lines n pieces h (both-true (elements.are_paragraphs pieces) (elements.has_header_alone pieces) e).0))
    (λ e. elements-fine n border pieces h)

-- ---- pieces of nodes

abbrev FinePiece : TablePiece → Type 0
FinePiece (of_caption n) = FineNode n
FinePiece (of_row r) = FineNodes r.cells

abbrev pub FinePieces : List TablePiece → Type 0
FinePieces [] = Unit {0}
FinePieces (p ∷ pieces) = FinePiece p × FinePieces pieces

pub pieces-append : (xs ys : List TablePiece) → FinePieces xs → FinePieces ys → FinePieces (xs ++ ys)
pieces-append [] ys g h = h
pieces-append (x ∷ xs) ys g h = (g.0, pieces-append xs ys g.1 h)

-- captions that are left show something
abbrev KeptPiece : TablePiece → Type 0
KeptPiece (of_caption n) = FineNode n × (content_shows n.tree ≡ true)
KeptPiece (of_row r) = FineNodes r.cells

abbrev KeptPieces : List TablePiece → Type 0
KeptPieces [] = Unit {0}
KeptPieces (p ∷ pieces) = KeptPiece p × KeptPieces pieces

either-kept : (b : Bool) (p : TablePiece) (pieces : List TablePiece) → (b ≡ true → KeptPiece p)
    → KeptPieces pieces
    → KeptPieces (cond b (p ∷ pieces) pieces)
either-kept true p pieces g h = (g refl, h)
either-kept false p pieces g h = h

pieces-kept : (spans : Bool) (pieces : List TablePiece) → FinePieces pieces
    → KeptPieces (filter (stays spans) pieces)
pieces-kept spans [] h = tt
pieces-kept spans (of_caption n ∷ pieces) h =
    either-kept (content_shows n.tree) (of_caption n) (filter (stays spans) pieces) (λ e. (h.0, e))
    (pieces-kept spans pieces h.1)
pieces-kept spans (of_row r ∷ pieces) h =
    either-kept (spans || has_cell content_shows r) (of_row r) (filter (stays spans) pieces) (λ e. h.0)
    (pieces-kept spans pieces h.1)

-- a property of what a cell gives
module _ (P : ℕ → Blocks → Type 0) (n : Node)
    (h : (c : Context) → c.is_rich ≡ true → FitsIn c → c.is_flat ≡ false
    → P (bound c) (nodes.blocks_of false (n.content c))) where
  in-cell : (t : Simple) (c : Context) → c.is_rich ≡ true → FitsIn c → c.is_flat ≡ false
      → P (bound c) (nodes.blocks_of false (n.content (in_cell t c)))
  in-cell (tree.element id role.Cell facts attributes content) c i f e = near facts.pres
    where
      near : (k : ℕ) → P (bound c) (nodes.blocks_of false (n.content (beside_code k attributes c)))
      near zero = h c i f e
      near (suc zero) = h (beside_code 1 attributes c) i f e
      near (suc (suc k)) = h (beside_code (suc (suc k)) attributes c) i f e
  in-cell t c i f e = h c i f e

module _ (spans : Bool) (c : Context) (i : c.is_rich ≡ true) (f : FitsIn c) (flat : c.is_flat ≡ false) where
  cells-well : (in_head : Bool) (cells : List Node) → FineNodes cells
      → WellCells (bound c) (map (cell_with_blocks spans in_head c) cells)
  cells-well in_head [] h = tt
  cells-well in_head (n ∷ cells) h = (
    in-cell (λ k bs. FineBlocks k false bs
        × (is_paragraph_at_most bs ≡ true → anchors_stand_well (inlines_in bs) ≡ true)) n
        (λ d j g e. (
          parts.blocks-of (bound d) false (n.content d)
              (fine-as d.is_flat false (bound d) (n.content d) e (h.0.content d g)),
          h.0.stands d j g e,
        )) n.tree c i f flat,
    cells-well in_head cells h.1,
  )

  caption-filled : (n : Node) → FineNode n → content_shows n.tree ≡ true
      → is_filled (blocks_within n c) ≡ true
  caption-filled n h e =
      at (has roles.is_title n.tree) (has_elements c && is_linked_to_part c && show_usual_sign (content_of n.tree))
    where
      at : (a b : Bool)
          → is_filled (nodes.blocks_of false (n.content (cond a (cond b (unlinked c) c) c))) ≡ true
      at true true = h.shown e (unlinked c) i (fit-without [] c.around f) flat
      at true false = h.shown e c i f flat
      at false b = h.shown e c i f flat

  pieces-well : (pieces : List TablePiece) → KeptPieces pieces
      → WellPieces (bound c) (map (piece_with_blocks spans c) pieces)
  pieces-well [] h = tt
  pieces-well (of_caption n ∷ pieces) h =
      ((blocks-within-fine n h.0.0 c f flat, caption-filled n h.0.0 h.0.1), pieces-well pieces h.1)
  pieces-well (of_row r ∷ pieces) h = (cells-well r.is_in_head r.cells h.0, pieces-well pieces h.1)

-- ---- the table

pub rich-table-fine : (trees : List Simple) (attributes : List AttributePair) (pieces : List TablePiece)
    (ns : List Node) → FinePieces pieces → FineNodes ns → (c : Context) → c.is_rich ≡ true → FitsIn c
    → c.is_flat ≡ false → FineParts c.is_flat (bound c) (rich_table_parts trees attributes pieces ns c)
rich-table-fine trees attributes pieces ns p h c i f e =
    let flat : Bool = c.is_flat in
    let n : ℕ = bound c in
    let spans : Bool = have_row_spans (rows_in pieces) in
    let kept : List TablePiece = kept_pieces pieces in
    let made : List elements.Piece = pieces_with_blocks spans kept c in
    let content : List Part = flow_all ns c in
    let block : List Part = block_part (elements.table_of_pieces (has_border attributes) made) in
    fine-apart flat n (kept_table_parts trees attributes spans kept ns c)
    (fine-either flat n (is_for_page trees attributes kept) content
    (table_with_blocks attributes kept made content)
    (λ g. flow-fine ns h c f)
    (λ g. fine-either flat n (is_headed attributes kept || elements.are_paragraphs made) block content
    (λ j. option-fine flat n (elements.table_of_pieces (has_border attributes) made)
    (made-fine n (has_border attributes) made
    (cut-pieces n (map (piece_with_blocks spans c) kept)
    (pieces-well spans c i f e kept (pieces-kept spans pieces p)))))
    (λ j. flow-fine ns h c f)))
