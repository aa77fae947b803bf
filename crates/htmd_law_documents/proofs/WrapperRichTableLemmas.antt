-- Tables of rich documents keep the wrappers of their captions and cells, in order.
use Rattle.std.proofs.Common.{◌≡◌, ℕ, Bool, true, false, cond, not, ◌&&◌, ◌||◌, List, [], ◌∷◌, ◌++◌, length, map}
use Rattle.std.proofs.Common.{filter, refl, sym, ap, ◌∙◌, subst, arith, Option, Some, None}
use Rattle.std.specs.Prelude.{is_some, codes}
use Rattle.std.specs.List.{flat_map, list_all, list_any}
use Rattle.std.proofs.lemmas.Bool.Decides.{nat_tests}
use Rattle.std.proofs.lemmas.List.{append-nil}
use Rattle.std.proofs.lemmas.Grind.{flat_map-append}
use Rattle.htmd_lexical.specs.AttributePairs.{AttributePair}
use Rattle.htmd_lexical.proofs.Cases.{test}
use Rattle.htmd_document.specs.Documents.{Block, Blocks, no_blocks, block, paragraph}
use Rattle.htmd_document.specs.Documents as document
use Rattle.htmd_document.specs.TightItems.{is_filled}
use Rattle.htmd_document.specs.declared.document.BlockElement.TheVariants as name
use Rattle.htmd_shown.specs.declared.facts.Facts.{Facts}
use Rattle.htmd_shown.specs.declared.role.Role.{Role}
use Rattle.htmd_shown.specs.declared.role.Role.TheVariants as role
use Rattle.htmd_shown.specs.AllTexts.{all_text_among, image_text}
use Rattle.htmd_shown.specs.Attributes as attribute
use Rattle.htmd_shown.specs.Kinds.{has, content_of}
use Rattle.htmd_shown.specs.Marks.{letters_of, letters_among}
use Rattle.htmd_shown.specs.Roles as roles
use Rattle.htmd_shown.specs.Showings.{code_shows, shows, show}
use Rattle.htmd_shown.specs.SimpleTrees.{Simple, text, image, formula, embedded, anchor, element, Simples, none, more}
use Rattle.htmd_shown.specs.Spaces.{is_blank_text}
use Rattle.htmd_flow.specs.declared.table_form.TablePart.{TablePart}
use Rattle.htmd_flow.specs.Contexts.{Context}
use Rattle.htmd_flow.specs.Flows.{Node, Row, TablePiece, of_caption, of_row, node_of, nodes_of, flow_all, is_cell}
use Rattle.htmd_flow.specs.Flows.{no_part}
use Rattle.htmd_flow.specs.Flows.{part_of, leads_to, row_with, rows_if, rows_among, rows_at, pieces_at, pieces_of}
use Rattle.htmd_flow.specs.Flows.{block_part, around_node, within, is_grid_of}
use Rattle.htmd_flow.specs.RichNodes.{rows_in, has_cell, have_row_spans, content_shows, stays, kept_pieces, is_headed}
use Rattle.htmd_flow.specs.RichNodes.{has_border, may_be_grid, is_for_page, in_cell, cell_with_blocks}
use Rattle.htmd_flow.specs.RichNodes.{piece_with_blocks}
use Rattle.htmd_flow.specs.RichNodes.{pieces_with_blocks, table_with_blocks, kept_table_parts, rich_table_parts}
use Rattle.htmd_flow.specs.Levels.{list_of}
use Rattle.htmd_flow.specs.Parts.{Part}
use Rattle.htmd_flow.specs.TableElements as elements
use Rattle.htmd_flow.specs.TableElements.{Piece, Stretch}
use Rattle.htmd_flow.specs.Tables.{is_cell_or_nothing, is_row_or_nothing, is_table_child, holds_table_alone}
use Rattle.htmd_law_documents.specs.DocumentTexts.{visible}
use Rattle.htmd_law_documents.specs.SimpleForms.{IsSound, AreSound}
use Rattle.htmd_law_documents.specs.SimpleTexts.{flat_in, grid_in, text_of_simple, text_of_simples}
use Rattle.htmd_law_documents.proofs.VisibleLemmas.{Shows, shows-nil, shown-shows, visible-append, both-true}
use Rattle.htmd_law_documents.proofs.VisibleLemmas.{and-false}
use Rattle.htmd_law_documents.proofs.CodeLemmas.{blank-seen}
use Rattle.htmd_law_documents.proofs.NormalTextLemmas.{neither}
use Rattle.htmd_law_documents.proofs.ElementLemmas.{false-true, true-false, not-true, all-texts-show, simple-utf8}
use Rattle.htmd_law_documents.proofs.Readers.{Reader, unseen, read_line, read_cells, read_block, read_blocks}
use Rattle.htmd_law_documents.proofs.Readers.{read_around}
use Rattle.htmd_law_documents.proofs.Readers.{read_by, read_tree, read_trees}
use Rattle.htmd_law_documents.proofs.Readers.{holds_anchors, none-held, IsFit, AreFit, all-fit-sound}
use Rattle.htmd_law_documents.specs.TreeWrappers.{inside_verbatim}
use Rattle.htmd_law_documents.proofs.WrapperPartsLemmas.{Keep, keep-nil, keep-same, keep-apart, keep-whole, blocks-keep}
use Rattle.htmd_law_documents.proofs.WrapperGridLemmas.{wrappers_of_rows, wrappers_of_option, table-wrappers}
use Rattle.htmd_law_documents.proofs.WrapperKindLemmas.{caption-inner, part-within, row-within, cell-within}
use Rattle.htmd_law_documents.proofs.WrapperNodesLemmas.{shallow, wrappers_in, nodes_wrapped, inner-wrappers, Agree}
use Rattle.htmd_law_documents.proofs.WrapperNodesLemmas.{NodeKeeps, keep-either, keep-in, flow-keeps, untitled}
use Rattle.htmd_law_documents.proofs.WrapperTableLemmas.{node-tree, nodes-all, KeptTree, KeptTrees, kept-node}
use Rattle.htmd_law_documents.proofs.WrapperTableLemmas.{kept-nodes, part-no-row, cell-untitled}
use Rattle.htmd_law_documents.proofs.WrapperTableLemmas.{nowhere, row-of-table, part-of-table}
use Rattle.htmd_law_documents.proofs.WrapperRichLemmas.{within-keeps}
use Rattle.htmd_law_documents.proofs.WrapperElementLemmas.{near-change, near-agrees}

row-untitled : (r : Role) → roles.is_row r ≡ true → roles.is_title r ≡ false
row-untitled role.Row e = refl
row-untitled r e = false-true e

part-untitled : (r : Role) → roles.is_part r ≡ true → roles.is_title r ≡ false
part-untitled role.TableHead e = refl
part-untitled role.TableBody e = refl
part-untitled r e = false-true e

not-false : (b : Bool) → not b ≡ false → b ≡ true
not-false true e = refl
not-false false e = true-false e

-- ---- what has no letters says nothing

front-empty : (xs ys : List ℕ) → xs ++ ys ≡ [] → xs ≡ []
front-empty [] ys e = refl
front-empty (x ∷ xs) ys e = absurd (clash e)
  where
    clash : x ∷ (xs ++ ys) ≡ [] → ⊥
    clash p = (cc)

back-empty : (xs ys : List ℕ) → xs ++ ys ≡ [] → ys ≡ []
back-empty [] ys e = e
back-empty (x ∷ xs) ys e = absurd (clash e)
  where
    clash : x ∷ (xs ++ ys) ≡ [] → ⊥
    clash p = (cc)

unfilled-empty : (s : List ℕ) → attribute.is_filled s ≡ false → s ≡ []
unfilled-empty [] e = refl
unfilled-empty (x ∷ s) e = absurd (grind (arith, nat_tests))

void-or : (b : Bool) (s : List ℕ) → visible s ≡ [] → visible (cond b [] s) ≡ []
void-or true s h = shows-nil.is
void-or false s h = h

mutual
  unlettered : (t : Simple) → IsSound t → letters_of t ≡ [] → (f g : Bool)
      → visible (text_of_simple f g t) ≡ []
  unlettered (text s) u e f g = e
  unlettered (image address attributes) u e f g = e
  unlettered (formula tex is_alone attributes) u e f g = absurd (clash e)
    where
      clash : letters_of (formula tex is_alone attributes) ≡ [] → ⊥
      clash p = (cc)
  unlettered (embedded id address title attributes anchors) u e f g = e
  unlettered (anchor id) u e f g = shows-nil.is
  unlettered (element id r facts attributes content) u e f g =
      let flat : Bool = flat_in r f g in
      let grid : Bool = grid_in r (is_grid_of content) g in
      void-or (roles.is_void r) (text_of_simples flat grid content) (all-unlettered content u.1 e flat grid)

  all-unlettered : (ts : Simples) → AreSound ts → letters_among ts ≡ [] → (f g : Bool)
      → visible (text_of_simples f g ts) ≡ []
  all-unlettered none u e f g = shows-nil.is
  all-unlettered (more t ts) u e f g =
      visible-append (text_of_simple f g t) (text_of_simples f g ts) (simple-utf8 t u.0 f g)
      ∙ (ap (λ s. s ++ visible (text_of_simples f g ts))
      (unlettered t u.0 (front-empty (letters_of t) (letters_among ts) e) f g)
      ∙ all-unlettered ts u.1 (back-empty (letters_of t) (letters_among ts) e) f g)

pub code-unseen : (content : Simples) → AreSound content → code_shows content ≡ false
    → Shows (all_text_among content) []
code-unseen content u e =
    let s = all-texts-show content u false in
    record {
      utf8 = s.utf8;
      is = s.is ∙ all-unlettered content u (unfilled-empty (letters_among content) e) true false;
    }

-- ---- less shows in a heading

either-quieter : (v k b i j code : Bool) → (i ≡ false → j ≡ false) → cond v code (cond k (not b) i) ≡ false
    → cond v code (cond k false j) ≡ false
either-quieter true k b i j code h e = e
either-quieter false true b i j code h e = refl
either-quieter false false b i j code h e = h e

mutual
  quieter : (in_heading : Bool) (t : Simple) → shows in_heading t ≡ false → shows true t ≡ false
  quieter b (text s) e = e
  quieter b (image address attributes) e = e
  quieter b (formula tex is_alone attributes) e = e
  quieter b (embedded id address title attributes anchors) e = e
  quieter b (anchor id) e = e
  quieter b (element id r facts attributes content) e =
      either-quieter (roles.is_verbatim r) (roles.is_thematic_break r) b (show (b || roles.is_heading r) content)
      (show true content) (code_shows content) (λ i. all-quieter (b || roles.is_heading r) content i) e

  all-quieter : (in_heading : Bool) (ts : Simples) → show in_heading ts ≡ false → show true ts ≡ false
  all-quieter b none e = refl
  all-quieter b (more t ts) e =
      let parts = neither (shows b t) (show b ts) e in
      ap (λ x. x || show true ts) (quieter b t parts.0) ∙ all-quieter b ts parts.1

-- ---- the context of a cell

cell-flat : (t : Simple) (c : Context) → (in_cell t c).is_flat ≡ c.is_flat
cell-flat (element id role.Cell facts attributes content) c = (near-change facts.pres attributes c).0
cell-flat (element id r facts attributes content) c = refl
cell-flat (text s) c = refl
cell-flat (image address attributes) c = refl
cell-flat (formula tex is_alone attributes) c = refl
cell-flat (embedded id address title attributes anchors) c = refl
cell-flat (anchor id) c = refl

cell-alike : (t : Simple) (c : Context) → shallow (in_cell t c) ≡ shallow c
cell-alike (element id role.Cell facts attributes content) c = (near-change facts.pres attributes c).1
cell-alike (element id r facts attributes content) c = refl
cell-alike (text s) c = refl
cell-alike (image address attributes) c = refl
cell-alike (formula tex is_alone attributes) c = refl
cell-alike (embedded id address title attributes anchors) c = refl
cell-alike (anchor id) c = refl

module _ (R : Reader) where
  -- ---- the block of pieces

  abbrev cell_read : elements.Cell → List R.Seen
  cell_read c = read_blocks R c.content

  abbrev piece_read : Piece → List R.Seen
  piece_read (elements.caption content) = read_blocks R content
  piece_read (elements.row r) = flat_map cell_read r.cells

  abbrev pieces_read : List Piece → List R.Seen
  pieces_read pieces = flat_map piece_read pieces

  line-read : (bs : Blocks) → elements.is_paragraph_at_most bs ≡ true
      → read_line R [] (elements.inlines_in bs) ≡ read_blocks R bs
  line-read no_blocks e = refl
  line-read (block (paragraph content) no_blocks) e = sym (append-nil (read_line R [] content))
  line-read (block b no_blocks) e = false-true e
  line-read (block b (block d bs)) e = false-true e

  cells-line : (cells : List elements.Cell) → list_all elements.is_paragraph_cell cells ≡ true
      → read_cells R (map elements.cell_line cells) ≡ flat_map cell_read cells
  cells-line [] e = refl
  cells-line (c ∷ cells) e =
      let parts = both-true (elements.is_paragraph_cell c) (list_all elements.is_paragraph_cell cells) e in
      ap (λ t. t ++ read_cells R (map elements.cell_line cells)) (line-read c.content parts.0)
      ∙ ap (λ t. cell_read c ++ t) (cells-line cells parts.1)

  rows-lines : (columns : ℕ) (pieces : List Piece) → elements.are_paragraphs pieces ≡ true
      → list_all (elements.fits_below columns) pieces ≡ true
      → wrappers_of_rows R (map elements.line_of pieces) ≡ pieces_read pieces
  rows-lines columns [] e f = refl
  rows-lines columns (elements.caption content ∷ pieces) e f = false-true f
  rows-lines columns (elements.row r ∷ pieces) e f =
      let one = both-true (list_all elements.is_paragraph_cell r.cells) (elements.are_paragraphs pieces) e in
      let two = both-true (elements.fits_below columns (elements.row r)) (list_all (elements.fits_below columns) pieces)
      f in
      ap (λ t. t ++ wrappers_of_rows R (map elements.line_of pieces)) (cells-line r.cells one.0)
      ∙ ap (λ t. piece_read (elements.row r) ++ t) (rows-lines columns pieces one.1 two.1)

  all-lines : (pieces : List Piece) → elements.are_paragraphs pieces ≡ true
      → elements.has_header_alone pieces ≡ true
      → wrappers_of_rows R (map elements.line_of pieces) ≡ pieces_read pieces
  all-lines [] e f = refl
  all-lines (elements.caption content ∷ pieces) e f = false-true f
  all-lines (elements.row r ∷ pieces) e f =
      let one = both-true (list_all elements.is_paragraph_cell r.cells) (elements.are_paragraphs pieces) e in
      let two = both-true (list_all elements.is_in_header r.cells)
      (list_all (elements.fits_below (length r.cells)) pieces) f in
      ap (λ t. t ++ wrappers_of_rows R (map elements.line_of pieces)) (cells-line r.cells one.0)
      ∙ ap (λ t. piece_read (elements.row r) ++ t) (rows-lines (length r.cells) pieces one.1 two.1)

  cells-elements : (cells : List elements.Cell)
      → read_blocks R (document.blocks_of (map elements.cell_element cells)) ≡ flat_map cell_read cells
  cells-elements [] = refl
  cells-elements (c ∷ cells) = ap (λ t. cell_read c ++ t) (cells-elements cells)

  piece-element : (p : Piece) → read_block R (elements.piece_element p) ≡ piece_read p
  piece-element (elements.caption content) = refl
  piece-element (elements.row r) = cells-elements r.cells

  pieces-elements : (pieces : List Piece)
      → read_blocks R (document.blocks_of (map elements.piece_element pieces)) ≡ pieces_read pieces
  pieces-elements [] = refl
  pieces-elements (p ∷ pieces) =
      ap (λ t. t ++ read_blocks R (document.blocks_of (map elements.piece_element pieces))) (piece-element p)
      ∙ ap (λ t. piece_read p ++ t) (pieces-elements pieces)

  unfilled : (bs : Blocks) → is_filled bs ≡ false → read_blocks R bs ≡ []
  unfilled no_blocks e = refl
  unfilled (block b bs) e = true-false e

  unfilled-cells : (cells : List elements.Cell) → list_any elements.is_filled_cell cells ≡ false
      → flat_map cell_read cells ≡ []
  unfilled-cells [] e = refl
  unfilled-cells (c ∷ cells) e =
      let parts = neither (elements.is_filled_cell c) (list_any elements.is_filled_cell cells) e in
      ap (λ t. t ++ flat_map cell_read cells) (unfilled c.content parts.0) ∙ unfilled-cells cells parts.1

  unfilled-piece : (p : Piece) → elements.is_filled_piece p ≡ false → piece_read p ≡ []
  unfilled-piece (elements.caption content) e = unfilled content e
  unfilled-piece (elements.row r) e = unfilled-cells r.cells e

  unfilled-pieces : (pieces : List Piece) → list_any elements.is_filled_piece pieces ≡ false
      → pieces_read pieces ≡ []
  unfilled-pieces [] e = refl
  unfilled-pieces (p ∷ pieces) e =
      let parts = neither (elements.is_filled_piece p) (list_any elements.is_filled_piece pieces) e in
      ap (λ t. t ++ pieces_read pieces) (unfilled-piece p parts.0) ∙ unfilled-pieces pieces parts.1

  either-option : (b : Bool) (x y : Option Block) (cs : List R.Seen) → (b ≡ true → wrappers_of_option R x ≡ cs)
      → (b ≡ false → wrappers_of_option R y ≡ cs) → wrappers_of_option R (cond b x y) ≡ cs
  either-option true x y cs g h = g refl
  either-option false x y cs g h = h refl

  table-read : (has_border : Bool) (pieces : List Piece)
      → wrappers_of_option R (elements.table_of_pieces has_border pieces) ≡ pieces_read pieces
  table-read has_border pieces =
      let made : Block = document.element name.Table (elements.border_attribute has_border)
      (document.blocks_of (map elements.piece_element pieces)) in
      either-option (elements.are_paragraphs pieces && elements.has_header_alone pieces)
      (elements.table_of_lines pieces) (elements.table_of_elements has_border pieces) (pieces_read pieces)
      (λ e.
      let parts = both-true (elements.are_paragraphs pieces) (elements.has_header_alone pieces) e in
      table-wrappers R (elements.alignments_of pieces) true (map elements.line_of pieces)
      ∙ all-lines pieces parts.0 parts.1)
      (λ e. either-option (list_any elements.is_filled_piece pieces) (Some made) None (pieces_read pieces)
      (λ f. pieces-elements pieces)
      (λ f. sym (unfilled-pieces pieces f)))

  cut-cells : (n : ℕ) (cells : List elements.Cell)
      → flat_map cell_read (map (elements.cut_cell n) cells) ≡ flat_map cell_read cells
  cut-cells n [] = refl
  cut-cells n (c ∷ cells) = ap (λ t. cell_read c ++ t) (cut-cells n cells)

  cut-piece : (s : Stretch) (p : Piece) → piece_read (elements.cut_piece s p) ≡ piece_read p
  cut-piece s (elements.caption content) = refl
  cut-piece s (elements.row r) = cut-cells (elements.stretched r.part s).left r.cells

  cut-pieces : (pieces : List Piece) → pieces_read (elements.cut_all pieces) ≡ pieces_read pieces
  cut-pieces [] = refl
  cut-pieces (p ∷ pieces) =
      ap (λ t. t ++ pieces_read (elements.cut_all pieces)) (cut-piece (elements.stretch_of pieces) p)
      ∙ ap (λ t. piece_read p ++ t) (cut-pieces pieces)

  -- ---- what doesn't show

  silent-by : (r : Role) (id : ℕ) (facts : Facts) (attributes : List AttributePair) (all : List ℕ)
      (holds_grid : Bool) (inner : Context → Bool → List R.Seen) (c : Context) (g : Bool)
      → (roles.is_verbatim r ≡ true → Shows all [])
      → (roles.is_verbatim r ≡ false → roles.is_thematic_break r ≡ false → (d : Context) (h : Bool)
      → inner d h ≡ [])
      → read_by R r id facts attributes all holds_grid inner c g ≡ []
  silent-by role.LineBreak id facts attributes all holds_grid inner c g v h = refl
  silent-by role.ThematicBreak id facts attributes all holds_grid inner c g v h = refl
  silent-by role.Preformatted id facts attributes all holds_grid inner c g v h =
      unseen R (map (read_around R) (inside_verbatim c).around) true all (v refl)
  silent-by role.Verbatim id facts attributes all holds_grid inner c g v h =
      unseen R (map (read_around R) (inside_verbatim c).around) true all (v refl)
  silent-by r id facts attributes all holds_grid inner c g v h = h refl refl _ _

  -- no anchor stands in an element in which nothing shows, where none stands right beside it
  unheld : (r : Role) (facts : Facts) (content : Simples) (in_heading : Bool) → show in_heading content ≡ false
      → AreFit R (holds_anchors false r facts content) content → AreFit R false content
  unheld r facts content b e u =
      subst (λ (h : Bool). AreFit R h content)
      (none-held r facts content
      (ap (λ x. not facts.is_blank && x) (all-quieter b content e) ∙ and-false (not facts.is_blank))) u

  mutual
    pub silent-tree : (t : Simple) → IsFit R false t → (in_heading : Bool) → shows in_heading t ≡ false
        → (c : Context) (g : Bool)
        → read_tree R t c g ≡ []
    silent-tree (text s) u b e c g =
        unseen R (map (read_around R) c.around) c.is_code s
        (record { utf8 = u; is = blank-seen s (not-false (is_blank_text s) e) })
    silent-tree (image (Some address) attributes) u b e c g = true-false e
    silent-tree (image None attributes) u b e c g =
        let alt : List ℕ = attribute.text_of (codes "alt") attributes in
        unseen R (map (read_around R) c.around) (c.is_code && true) alt
        (record {
          utf8 = u;
          is = sym (shown-shows alt u).is
              ∙ blank-seen (image_text attributes) (not-false (is_blank_text (image_text attributes)) e);
        })
    silent-tree (formula tex is_alone attributes) u b e c g = true-false e
    silent-tree (embedded id address title attributes anchors) u b e c g = true-false e
    silent-tree (anchor id) u b e c g = u refl
    silent-tree (element id r facts attributes content) u b e c g =
        let inner : Bool = show (b || roles.is_heading r) content in
        let other : Bool = cond (roles.is_thematic_break r) (not b) inner in
        silent-by r id facts attributes (all_text_among content) (is_grid_of content) (read_trees R content)
        (around_node (element id r facts attributes content) c) g
        (λ i. code-unseen content (all-fit-sound R (holds_anchors false r facts content) content u.1)
        (sym (ap (λ x. cond x (code_shows content) other) i) ∙ e))
        (λ i j d h.
        let quiet : inner ≡ false =
        sym (ap (λ x. cond x (code_shows content) other) i ∙ ap (λ x. cond x (not b) inner) j) ∙ e in
        silent-trees content (unheld r facts content (b || roles.is_heading r) quiet u.1) (b || roles.is_heading r)
        quiet d h)

    silent-trees : (ts : Simples) → AreFit R false ts → (in_heading : Bool) → show in_heading ts ≡ false
        → (c : Context) (g : Bool)
        → read_trees R ts c g ≡ []
    silent-trees none u b e c g = refl
    silent-trees (more t ts) u b e c g =
        let parts = neither (shows b t) (show b ts) e in
        ap (λ xs. xs ++ read_trees R ts c g) (silent-tree t u.0 b parts.0 c g)
        ∙ silent-trees ts u.1 b parts.1 c g

  -- nothing is taken from nodes in which nothing shows
  abbrev AreQuiet : Simples → Type 0
  AreQuiet ts = show false ts ≡ false → (c : Context) (g : Bool) → read_trees R ts c g ≡ []

  content-quiet : (t : Simple) → IsFit R false t → AreQuiet (content_of t)
  content-quiet (text s) u e c g = refl
  content-quiet (image address attributes) u e c g = refl
  content-quiet (formula tex is_alone attributes) u e c g = refl
  content-quiet (embedded id address title attributes anchors) u e c g = refl
  content-quiet (anchor id) u e c g = refl
  content-quiet (element id r facts attributes content) u e c g =
      silent-trees content (unheld r facts content false e u.1) false e c g

  module _ (addr : ℕ → R.Wrap) where
    -- ---- the pieces of a table

    -- a node that keeps its wrappers, and from which nothing is taken if nothing shows in it
    abbrev Good : Node → Type 0
    Good n = NodeKeeps R addr n × AreQuiet (content_of n.tree)

    abbrev AreGood : List Node → Type 0
    AreGood [] = Unit {0}
    AreGood (n ∷ nodes) = Good n × AreGood nodes

    abbrev GoodPiece : TablePiece → Type 0
    GoodPiece (of_caption n) = Good n
    GoodPiece (of_row r) = AreGood r.cells

    abbrev GoodPieces : List TablePiece → Type 0
    GoodPieces [] = Unit {0}
    GoodPieces (p ∷ pieces) = GoodPiece p × GoodPieces pieces

    abbrev GoodRows : List Row → Type 0
    GoodRows [] = Unit {0}
    GoodRows (r ∷ rows) = AreGood r.cells × GoodRows rows

    good-node : (t : Simple) → KeptTree R addr t → IsFit R false t → Good (node_of t)
    good-node t k u =
        let quiet : AreQuiet (content_of (node_of t).tree) =
        subst (λ (x : Simple). AreQuiet (content_of x)) (sym (node-tree t)) (content-quiet t u) in
        (kept-node R addr t k, quiet)

    module _ (s : Context) where
      abbrev cells_said : List Node → List R.Seen
      cells_said cells = flat_map (λ (n : Node). wrappers_in R n.tree s) cells

      abbrev row_said : Row → List R.Seen
      row_said r = cells_said r.cells

      abbrev rows_said : List Row → List R.Seen
      rows_said rows = flat_map row_said rows

      abbrev piece_said : TablePiece → List R.Seen
      piece_said (of_caption n) = wrappers_in R n.tree (around_node n.tree s)
      piece_said (of_row r) = row_said r

      abbrev pieces_said : List TablePiece → List R.Seen
      pieces_said pieces = flat_map piece_said pieces

      record CellsSaid (cells : List Node) (cs : List R.Seen) : Type 0 where
        good : AreGood cells
        is : cs ≡ cells_said cells

      record RowsSaid (rows : List Row) (cs : List R.Seen) : Type 0 where
        good : GoodRows rows
        is : cs ≡ rows_said rows

      record PiecesSaid (pieces : List TablePiece) (cs : List R.Seen) : Type 0 where
        good : GoodPieces pieces
        is : cs ≡ pieces_said pieces

      cell-said : (t : Simple) → has roles.is_cell t ≡ true
          → read_tree R t s false ≡ wrappers_in R (node_of t).tree s
      cell-said t e = here t e ∙ ap (λ x. wrappers_in R x s) (sym (node-tree t))
        where
          here : (u : Simple) → has roles.is_cell u ≡ true → read_tree R u s false ≡ wrappers_in R u s
          here (text x) e = false-true e
          here (image address attributes) e = false-true e
          here (formula tex is_alone attributes) e = false-true e
          here (embedded id address title attributes anchors) e = false-true e
          here (anchor id) e = false-true e
          here (element id r facts attributes content) e =
              let t : Simple = element id r facts attributes content in
              cell-within R id facts attributes (all_text_among content) (is_grid_of content) (read_trees R content)
              (around_node t s) false r e
              ∙ ap (wrappers_in R t) (untitled roles.is_cell cell-untitled t s e)

      cells-said : (ts : Simples) → KeptTrees R addr ts → AreFit R false ts
          → list_all (is_cell_or_nothing true) (list_of ts) ≡ true
          → CellsSaid (filter is_cell (nodes_of ts)) (read_trees R ts s false)
      unfolding node_of
      cells-said none k u e = record { good = tt; is = refl }
      cells-said (more t ts) k u e =
          let parts = both-true ((is_cell_or_nothing true) t) (list_all (is_cell_or_nothing true) (list_of ts)) e in
          let cells : List Node = filter is_cell (nodes_of ts) in
          let rest : CellsSaid cells (read_trees R ts s false) = cells-said ts k.1 u.1 parts.1 in
          let n : Node = node_of t in
          let cs : List R.Seen = read_tree R t s false ++ read_trees R ts s false in
          let kind : is_cell n ≡ has roles.is_cell t = ap (has roles.is_cell) (node-tree t) in
          test (has roles.is_cell t)
          (λ i. subst (λ (b : Bool). CellsSaid (cond b (n ∷ cells) cells) cs) (sym (kind ∙ i))
          (record {
            good = (good-node t k.0 u.0, rest.good);
            is = ap (λ xs. xs ++ read_trees R ts s false) (cell-said t i)
                ∙ ap (λ xs. wrappers_in R n.tree s ++ xs) rest.is;
          }))
          (λ i. subst (λ (b : Bool). CellsSaid (cond b (n ∷ cells) cells) cs) (sym (kind ∙ i))
          (record {
            good = rest.good;
            is = ap (λ xs. xs ++ read_trees R ts s false)
                (silent-tree t u.0 false
                (not-true (shows false t) (sym (ap (λ b. b || not (shows false t)) i) ∙ parts.0)) s false)
                ∙ rest.is;
          }))

      rows-append : (xs ys : List Row) → GoodRows xs → GoodRows ys → GoodRows (xs ++ ys)
      rows-append [] ys g h = h
      rows-append (x ∷ xs) ys g h = (g.0, rows-append xs ys g.1 h)

      both-said : (xs ys : List Row) (cs ds : List R.Seen) → RowsSaid xs cs → RowsSaid ys ds
          → RowsSaid (xs ++ ys) (cs ++ ds)
      both-said xs ys cs ds g h = record {
        good = rows-append xs ys g.good h.good;
        is = ap (λ t. t ++ ds) g.is ∙ (ap (λ t. rows_said xs ++ t) h.is ∙ sym (flat_map-append row_said xs ys));
      }

      no-rows : (cs : List R.Seen) → cs ≡ [] → RowsSaid [] cs
      no-rows cs e = record { good = tt; is = e }

      row-said : (p : TablePart) (id : ℕ) (r : Role) (facts : Facts) (attributes : List AttributePair)
          (content : Simples)
          → KeptTrees R addr content → IsFit R false (element id r facts attributes content)
          → (is_row_or_nothing true) (element id r facts attributes content) ≡ true
          → leads_to p (element id r facts attributes content) ≡ false
          → RowsSaid (rows_if p (element id r facts attributes content) (nodes_of content)
          (rows_among (part_of (element id r facts attributes content)) content))
          (read_tree R (element id r facts attributes content) s false)
      row-said p id r facts attributes content k u e l =
          let t : Simple = element id r facts attributes content in
          let cs : List R.Seen = read_tree R t s false in
          let row : List Row = row_with p (nodes_of content) in
          let below : List Row = rows_among (part_of t) content in
          let cells : Bool = list_all (is_cell_or_nothing true) (list_of content) in
          test (roles.is_row r)
          (λ w. subst (λ (b : Bool). RowsSaid (cond b row (cond (leads_to p t) below [])) cs) (sym w)
          (let said : CellsSaid (filter is_cell (nodes_of content)) (read_trees R content s false) =
          cells-said content k (nowhere R false r facts content (row-of-table r w) u.1)
          (sym (ap (λ b. cond b cells (not (shows false t))) w) ∙ e) in
          record {
            good = (said.good, tt);
            is = row-within R id facts attributes (all_text_among content) (is_grid_of content)
                (read_trees R content) (around_node t s) false r w
                ∙ (ap (λ d. read_trees R content d false) (untitled roles.is_row row-untitled t s w)
                ∙ (said.is ∙ sym (append-nil (cells_said (filter is_cell (nodes_of content))))));
          }))
          (λ w. subst (λ (b : Bool). RowsSaid (cond b row (cond (leads_to p t) below [])) cs) (sym w)
          (subst (λ (b : Bool). RowsSaid (cond b below []) cs) (sym l)
          (no-rows cs (silent-tree t u false
          (not-true (shows false t) (sym (ap (λ b. cond b cells (not (shows false t))) w) ∙ e)) s false))))

      rows-in-part : (ts : Simples) (p : TablePart) → is_some p.id ≡ true → KeptTrees R addr ts
          → AreFit R false ts
          → list_all (is_row_or_nothing true) (list_of ts) ≡ true
          → RowsSaid (rows_among p ts) (read_trees R ts s false)
      unfolding node_of
      rows-in-part none p i k u e = no-rows [] refl
      rows-in-part (more t ts) p i k u e =
          let parts = both-true ((is_row_or_nothing true) t) (list_all (is_row_or_nothing true) (list_of ts)) e in
          both-said (rows_at p t) (rows_among p ts) (read_tree R t s false) (read_trees R ts s false)
          (here t k.0 u.0 parts.0) (rows-in-part ts p i k.1 u.1 parts.1)
        where
          here : (t : Simple) → KeptTree R addr t → IsFit R false t → (is_row_or_nothing true) t ≡ true
              → RowsSaid (rows_at p t) (read_tree R t s false)
          here (text x) k u e = no-rows _ (silent-tree (text x) u false (not-true (shows false (text x)) e) s false)
          here (image address attributes) k u e =
              no-rows _ (silent-tree (image address attributes) u false
              (not-true (shows false (image address attributes)) e) s false)
          here (formula tex is_alone attributes) k u e = false-true e
          here (embedded id address title attributes anchors) k u e = false-true e
          here (anchor id) k u e = no-rows (R.mark id) (u refl)
          here (element id r facts attributes content) k u e =
              row-said p id r facts attributes content k.1 u e (ap (λ b. not b && roles.is_part r) i)

      table-row : (t : Simple) → KeptTree R addr t → IsFit R false t → (is_table_child true) t ≡ true
          → has roles.is_caption t ≡ false
          → RowsSaid (rows_at no_part t) (read_tree R t s false)
      unfolding node_of
      table-row (text x) k u e n =
          no-rows _ (silent-tree (text x) u false (not-true (shows false (text x)) e) s false)
      table-row (image address attributes) k u e n =
          no-rows _ (silent-tree (image address attributes) u false
          (not-true (shows false (image address attributes)) e) s false)
      table-row (formula tex is_alone attributes) k u e n = false-true e
      table-row (embedded id address title attributes anchors) k u e n = false-true e
      table-row (anchor id) k u e n = no-rows (R.mark id) (u refl)
      table-row (element id r facts attributes content) k u e n =
          let t : Simple = element id r facts attributes content in
          let cs : List R.Seen = read_tree R t s false in
          let row : List Row = row_with no_part (nodes_of content) in
          let below : List Row = rows_among (part_of t) content in
          let rows : Bool = list_all (is_row_or_nothing true) (list_of content) in
          let inner : cond (roles.is_part r) rows ((is_row_or_nothing true) t) ≡ true =
          sym (ap (λ b. cond b true (cond (roles.is_part r) rows ((is_row_or_nothing true) t))) n) ∙ e in
          test (roles.is_part r)
          (λ w. subst (λ (b : Bool). RowsSaid (cond b row (cond (roles.is_part r) below [])) cs)
          (sym (part-no-row r w))
          (subst (λ (b : Bool). RowsSaid (cond b below []) cs) (sym w)
          (let all : RowsSaid below (read_trees R content s false) =
          rows-in-part content (part_of t) refl k.1 (nowhere R false r facts content (part-of-table r w) u.1)
          (sym (ap (λ b. cond b rows ((is_row_or_nothing true) t)) w) ∙ inner) in
          record {
            good = all.good;
            is = part-within R id facts attributes (all_text_among content) (is_grid_of content)
                (read_trees R content) (around_node t s) false r w
                ∙ (ap (λ d. read_trees R content d false) (untitled roles.is_part part-untitled t s w) ∙ all.is);
          })))
          (λ w. row-said no_part id r facts attributes content k.1 u
          (sym (ap (λ b. cond b rows ((is_row_or_nothing true) t)) w) ∙ inner) w)

      pieces-append : (xs ys : List TablePiece) (cs ds : List R.Seen) → PiecesSaid xs cs → PiecesSaid ys ds
          → PiecesSaid (xs ++ ys) (cs ++ ds)
      pieces-append xs ys cs ds g h = record {
        good = join xs g.good;
        is = ap (λ t. t ++ ds) g.is ∙ (ap (λ t. pieces_said xs ++ t) h.is
            ∙ sym (flat_map-append piece_said xs ys));
      }
        where
          join : (zs : List TablePiece) → GoodPieces zs → GoodPieces (zs ++ ys)
          join [] k = h.good
          join (z ∷ zs) k = (k.0, join zs k.1)

      rows-pieces : (rows : List Row) (cs : List R.Seen) → RowsSaid rows cs → PiecesSaid (map of_row rows) cs
      rows-pieces rows cs h = record { good = good rows h.good; is = h.is ∙ same rows }
        where
          good : (rows : List Row) → GoodRows rows → GoodPieces (map of_row rows)
          good [] k = tt
          good (r ∷ rows) k = (k.0, good rows k.1)

          same : (rows : List Row) → rows_said rows ≡ pieces_said (map of_row rows)
          same [] = refl
          same (r ∷ rows) = ap (λ t. row_said r ++ t) (same rows)

      child-said : (t : Simple) → KeptTree R addr t → IsFit R false t → (is_table_child true) t ≡ true
          → PiecesSaid (pieces_at (node_of t) (rows_at no_part t)) (read_tree R t s false)
      child-said t k u e =
          let n : Node = node_of t in
          let cs : List R.Seen = read_tree R t s false in
          let rows : List Row = rows_at no_part t in
          let kind : has roles.is_caption n.tree ≡ has roles.is_caption t = ap (has roles.is_caption) (node-tree t) in
          test (has roles.is_caption t)
          (λ i. subst (λ (b : Bool). PiecesSaid (cond b (of_caption n ∷ []) (map of_row rows)) cs)
          (sym (kind ∙ i))
          (record {
            good = (good-node t k u, tt);
            is = inner-wrappers R roles.is_caption (caption-inner R) t s i
                ∙ (ap (λ x. wrappers_in R x (around_node x s)) (sym (node-tree t))
                ∙ sym (append-nil (wrappers_in R n.tree (around_node n.tree s))));
          }))
          (λ i. subst (λ (b : Bool). PiecesSaid (cond b (of_caption n ∷ []) (map of_row rows)) cs)
          (sym (kind ∙ i))
          (rows-pieces rows cs (table-row t k u e i)))

      all-said : (ts : Simples) → KeptTrees R addr ts → AreFit R false ts
          → list_all (is_table_child true) (list_of ts) ≡ true
          → PiecesSaid (pieces_of ts) (read_trees R ts s false)
      unfolding node_of
      all-said none k u e = record { good = tt; is = refl }
      all-said (more t ts) k u e =
          let parts = both-true ((is_table_child true) t) (list_all (is_table_child true) (list_of ts)) e in
          pieces-append (pieces_at (node_of t) (rows_at no_part t)) (pieces_of ts) (read_tree R t s false)
          (read_trees R ts s false) (child-said t k.0 u.0 parts.0) (all-said ts k.1 u.1 parts.1)

      -- ---- those that stay

      silent-cells : (cells : List Node) → AreGood cells
          → list_any (λ (n : Node). content_shows n.tree) cells ≡ false → cells_said cells ≡ []
      silent-cells [] h e = refl
      silent-cells (n ∷ cells) h e =
          let parts = neither (content_shows n.tree) (list_any (λ (n : Node). content_shows n.tree) cells) e in
          ap (λ t. t ++ cells_said cells) (h.0.1 parts.0 s false)
          ∙ silent-cells cells h.1 parts.1

      silent-piece : (b : Bool) (p : TablePiece) → GoodPiece p → stays b p ≡ false → piece_said p ≡ []
      silent-piece b (of_caption n) h e = h.1 e (around_node n.tree s) false
      silent-piece b (of_row r) h e = silent-cells r.cells h (neither b (has_cell content_shows r) e).1

      either-good : (d : Bool) (p : TablePiece) (ps : List TablePiece) → GoodPiece p → GoodPieces ps
          → GoodPieces (cond d (p ∷ ps) ps)
      either-good true p ps g h = (g, h)
      either-good false p ps g h = h

      kept-good : (b : Bool) (ps : List TablePiece) → GoodPieces ps → GoodPieces (filter (stays b) ps)
      kept-good b [] k = tt
      kept-good b (p ∷ ps) k = either-good (stays b p) p (filter (stays b) ps) k.0 (kept-good b ps k.1)

      kept-same : (b : Bool) (ps : List TablePiece) → GoodPieces ps
          → pieces_said ps ≡ pieces_said (filter (stays b) ps)
      kept-same b [] k = refl
      kept-same b (p ∷ ps) k =
          let kept : List TablePiece = filter (stays b) ps in
          let rest : pieces_said ps ≡ pieces_said kept = kept-same b ps k.1 in
          test (stays b p)
          (λ e. ap (λ t. piece_said p ++ t) rest ∙ ap (λ d. pieces_said (cond d (p ∷ kept) kept)) (sym e))
          (λ e. ap (λ t. t ++ pieces_said ps) (silent-piece b p k.0 e)
          ∙ (rest ∙ ap (λ d. pieces_said (cond d (p ∷ kept) kept)) (sym e)))

      kept-said : (b : Bool) (pieces : List TablePiece) (cs : List R.Seen) → PiecesSaid pieces cs
          → PiecesSaid (filter (stays b) pieces) cs
      kept-said b pieces cs h =
          record { good = kept-good b pieces h.good; is = h.is ∙ kept-same b pieces h.good }

    -- ---- the table

    module _ (c : Context) (a : Agree R addr c) (flat : c.is_flat ≡ false) where
      cells-made : (has_spans is_in_head : Bool) (cells : List Node) → AreGood cells
          → flat_map cell_read (map (cell_with_blocks has_spans is_in_head c) cells) ≡ cells_said (shallow c) cells
      cells-made has_spans is_in_head [] h = refl
      cells-made has_spans is_in_head (n ∷ cells) h =
          let d : Context = in_cell n.tree c in
          let cs : List R.Seen = wrappers_in R n.tree (shallow c) in
          ap (λ t. t ++ flat_map cell_read (map (cell_with_blocks has_spans is_in_head c) cells))
          (blocks-keep R addr false (n.content d) cs
          (keep-in R addr false d.is_flat (n.content d) cs (sym (cell-flat n.tree c ∙ flat))
          (keep-same R addr d.is_flat (n.content d) (wrappers_in R n.tree (shallow d)) cs
          (ap (wrappers_in R n.tree) (cell-alike n.tree c))
          (h.0.0.content d (cell-agrees n.tree)))))
          ∙ ap (λ t. cs ++ t) (cells-made has_spans is_in_head cells h.1)
        where
          cell-agrees : (t : Simple) → Agree R addr (in_cell t c)
          cell-agrees (element id role.Cell facts attributes content) =
              near-agrees R addr facts.pres attributes c a
          cell-agrees (element id r facts attributes content) = a
          cell-agrees (text s) = a
          cell-agrees (image address attributes) = a
          cell-agrees (formula tex is_alone attributes) = a
          cell-agrees (embedded id address title attributes anchors) = a
          cell-agrees (anchor id) = a

      piece-made : (has_spans : Bool) (p : TablePiece) → GoodPiece p
          → piece_read (piece_with_blocks has_spans c p) ≡ piece_said (shallow c) p
      piece-made has_spans (of_caption n) h =
          let cs : List R.Seen = wrappers_in R n.tree (around_node n.tree (shallow c)) in
          blocks-keep R addr false (within n c) cs
          (keep-in R addr false c.is_flat (within n c) cs (sym flat) (within-keeps R addr n h.0 c a))
      piece-made has_spans (of_row r) h = cells-made has_spans r.is_in_head r.cells h

      pieces-made : (has_spans : Bool) (pieces : List TablePiece) → GoodPieces pieces
          → pieces_read (map (piece_with_blocks has_spans c) pieces) ≡ pieces_said (shallow c) pieces
      pieces-made has_spans [] h = refl
      pieces-made has_spans (p ∷ pieces) h =
          ap (λ t. t ++ pieces_read (map (piece_with_blocks has_spans c) pieces)) (piece-made has_spans p h.0)
          ∙ ap (λ t. piece_said (shallow c) p ++ t) (pieces-made has_spans pieces h.1)

      option-keeps : (o : Option Block) (cs : List R.Seen) → wrappers_of_option R o ≡ cs
          → Keep R addr false (block_part o) cs
      option-keeps None cs h = keep-same R addr false [] [] cs h (keep-nil R addr false)
      option-keeps (Some b) cs h = keep-whole R addr b cs h

      pub rich-table-keeps : (content : Simples) (attributes : List AttributePair) → KeptTrees R addr content
          → AreFit R false content
          → Keep R addr c.is_flat (rich_table_parts (list_of content) attributes (pieces_of content)
          (nodes_of content) c) (read_trees R content (shallow c) false)
      rich-table-keeps content attributes k u =
          let s : Context = shallow c in
          let cs : List R.Seen = read_trees R content s false in
          let trees : List Simple = list_of content in
          let nodes : List Node = nodes_of content in
          let pieces : List TablePiece = pieces_of content in
          let has_spans : Bool = have_row_spans (rows_in pieces) in
          let kept : List TablePiece = kept_pieces pieces in
          let made : List Piece = pieces_with_blocks has_spans kept c in
          let flow : Keep R addr c.is_flat (flow_all nodes c) cs =
          keep-same R addr c.is_flat (flow_all nodes c) (nodes_wrapped R nodes s) cs (nodes-all R content s)
          (flow-keeps R addr nodes (kept-nodes R addr content k) c a) in
          keep-apart R addr c.is_flat (kept_table_parts trees attributes has_spans kept nodes c) cs
          (keep-either R addr (is_for_page trees attributes kept) c.is_flat (flow_all nodes c)
          (table_with_blocks attributes kept made (flow_all nodes c)) cs
          (λ e. flow)
          (λ e. keep-either R addr (is_headed attributes kept || elements.are_paragraphs made) c.is_flat
          (block_part (elements.table_of_pieces (has_border attributes) made)) (flow_all nodes c) cs
          (λ i.
          let alone : holds_table_alone true trees ≡ true =
          not-false (holds_table_alone true trees)
          (neither (not (holds_table_alone true trees)) (not (is_headed attributes kept || may_be_grid kept)) e).0 in
          let all : PiecesSaid s kept cs = kept-said s has_spans pieces cs (all-said s content k u alone) in
          let block : List Part = block_part (elements.table_of_pieces (has_border attributes) made) in
          keep-in R addr c.is_flat false block cs flat
          (option-keeps (elements.table_of_pieces (has_border attributes) made) cs
          (table-read (has_border attributes) made
          ∙ (cut-pieces (map (piece_with_blocks has_spans c) kept)
          ∙ (pieces-made has_spans kept all.good ∙ sym all.is)))))
          (λ i. flow)))
