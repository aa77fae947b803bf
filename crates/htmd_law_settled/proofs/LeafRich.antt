-- Elements of rich documents whose leaves are of a kind.
use Rattle.std.proofs.Common.{◌≡◌, ℕ, Bool, true, false, not, List, [], ◌∷◌, ◌++◌, map, fold, length}
use Rattle.std.proofs.Common.{Option}
use Rattle.std.proofs.Common.{Some, None, refl, sym, ap, ◌∙◌, subst, get_or, codes}
use Rattle.std.specs.Prelude.{if◌then◌else◌, nat_lt, filter, ◌&&◌, ◌||◌}
use Rattle.std.specs.Fmt.{decimal}
use Rattle.std.specs.List.{list_any}
use Rattle.std.proofs.lemmas.Bool.{and_from, and_parts, not-true}
use Rattle.htmd_lexical.specs.AttributePairs.{AttributePair}
use Rattle.htmd_lexical.specs.Characters.{space}
use Rattle.htmd_lexical.proofs.Cases.{test}
use Rattle.htmd_document.specs.declared.document.AttributeName.{AttributeName}
use Rattle.htmd_document.specs.declared.document.AttributeName.TheVariants as attribute
use Rattle.htmd_document.specs.declared.document.BlockElement.{BlockElement}
use Rattle.htmd_document.specs.declared.document.BlockElement.TheVariants as name
use Rattle.htmd_document.specs.Documents.{Inlines, Block, paragraph, Blocks, no_blocks, block, BlockAttribute}
use Rattle.htmd_document.specs.Documents as document
use Rattle.htmd_shown.specs.Attributes.{has_attribute}
use Rattle.htmd_shown.specs.declared.role.Role.TheVariants as role
use Rattle.htmd_shown.specs.Kinds.{has, content_of}
use Rattle.htmd_shown.specs.Roles as roles
use Rattle.htmd_shown.specs.Showings.{shows, show_usual_sign}
use Rattle.htmd_shown.specs.SimpleTrees.{Simple, Simples, element}
use Rattle.htmd_flow.specs.Contexts.{Context, has_elements, unlinked, is_linked_to_part, apart}
use Rattle.htmd_flow.specs.Flows.{Node, TablePiece, of_caption, of_row, TermPart, gap, of_node, blocks_of}
use Rattle.htmd_flow.specs.Flows.{content_shows}
use Rattle.htmd_flow.specs.Flows.{flow_all, element_part, around_title, around_node, within, blocks_within}
use Rattle.htmd_flow.specs.Flows.{titled, open_attribute, shows_title, figure_by, captioned}
use Rattle.htmd_flow.specs.Flows.{Description, Descriptions, no_descriptions, description_with}
use Rattle.htmd_flow.specs.Flows.{onto_last_description, ends_with_term, before_more, with_between, with_described}
use Rattle.htmd_flow.specs.Flows.{with_description, description_element, is_filled_description}
use Rattle.htmd_flow.specs.Flows.{element_of_descriptions, described_parts, stays, kept_pieces, have_row_spans, rows_in}
use Rattle.htmd_flow.specs.Flows.{has_border, is_headed, is_for_page, in_cell, cell_with_blocks, piece_with_blocks}
use Rattle.htmd_flow.specs.Flows.{pieces_with_blocks, table_with_blocks, kept_table_parts, rich_table_parts, block_part}
use Rattle.htmd_flow.specs.Flows.{attributes_of}
use Rattle.htmd_flow.specs.Grids.{trimmed_row, width}
use Rattle.htmd_flow.specs.Paragraphs.{begun, blocks_in}
use Rattle.htmd_flow.specs.Parts.{Part, edge}
use Rattle.htmd_flow.specs.TableElements as elements
use Rattle.htmd_law_settled.proofs.LeafLines.{AllowsElements}
use Rattle.htmd_law_settled.specs.NeatLeaves.{has_neat_attributes, is_neat_cell, is_neat_table}
use Rattle.htmd_law_settled.proofs.OrderedLeaves.{is_ordered, is_ordered_element}
use Rattle.htmd_law_settled.proofs.OrderedTerms.{TermsOrdered, TermsInOrder}
use Rattle.htmd_law_settled.proofs.NeatTables.{table-neat}
use Rattle.htmd_law_settled.proofs.CellAttributes.{IsWide, is-wide, cell-neat}
use Rattle.htmd_law_returning.specs.SettledDocuments.{has_filled_element}
use Rattle.htmd_law_settled.specs.Leaves.{Leaves}
use Rattle.htmd_law_returning.specs.SettledDocuments.{shows_header}
use Rattle.htmd_law_settled.proofs.LastColumns.{last-shown}
use Rattle.htmd_law_settled.proofs.ShownHeaders.{FillNodes, FillPieces, FillsBlocks, header-shown, first-line}
use Rattle.htmd_law_returning.specs.ElementPlaces.{in_flow, in_terms, in_table, in_row, inside, stands_in, in_details}
use Rattle.htmd_law_returning.specs.ElementPlaces.{in_figure}
use Rattle.htmd_law_settled.proofs.LeafLines.{are_different}
use Rattle.htmd_law_settled.proofs.LeafLines.{HasWhole, nothing-whole, HaveCells, HaveRows, HaveBlocks, AllParts}
use Rattle.htmd_law_settled.proofs.LeafLines.{IsElement, HaveInside}
use Rattle.htmd_law_settled.proofs.LeafLines.{HasWriting, begun-has, all-fed, writing-blocks, parts-blocks}
use Rattle.htmd_law_settled.proofs.FigureCaptions.{figure-captioned}
use Rattle.htmd_law_settled.proofs.LeafTitles.{summaries-in, captions-in, captions-gone, ordered-within}
use Rattle.htmd_law_settled.proofs.LeafLines.{parts-inside}
use Rattle.htmd_law_settled.proofs.LeafNodes.{parts-append, apart-has, FitsIn, Gives, HasNode, AllNodes}
use Rattle.htmd_law_settled.proofs.LeafNodes.{MayHaveTables, flow-has, AllTerms, HasOption, table-of-has, option-part}
use Rattle.htmd_law_settled.proofs.LeafNodes.{all-trimmed}
use Rattle.htmd_law_settled.proofs.LeafContexts.{either-fits, unlinked-fits, beside-fits}

-- ---- attributes

one-different : (b : Bool) (a : AttributeName) (s : List ℕ)
    → are_different (if b then elements.attribute_with a s else []) ≡ true
one-different true a s = refl
one-different false a s = refl

spans-different : (b d : Bool) (s t : List ℕ) (o : Option (List ℕ))
    → are_different (((if b then elements.attribute_with attribute.ColumnSpan s else [])
    ++ (if d then elements.attribute_with attribute.RowSpan t else [])) ++ elements.attribute_if attribute.Align o)
    ≡ true
spans-different true true s t None = refl
spans-different true true s t (Some u) = refl
spans-different true false s t None = refl
spans-different true false s t (Some u) = refl
spans-different false true s t None = refl
spans-different false true s t (Some u) = refl
spans-different false false s t None = refl
spans-different false false s t (Some u) = refl

open-neat : (attributes : List AttributePair) → has_neat_attributes name.Details (open_attribute attributes) ≡ true
open-neat attributes = by (has_attribute (codes "open") attributes)
  where
    by : (b : Bool)
        → has_neat_attributes name.Details (if b then elements.attribute_with attribute.Open [] else []) ≡ true
    by true = refl
    by false = refl

header-has : (attributes : List BlockAttribute) → is_neat_cell attributes ≡ true
    → has_neat_attributes name.HeaderCell attributes ≡ true
header-has [] h = refl
header-has (a ∷ rest) h = h

cell-has : (attributes : List BlockAttribute) → is_neat_cell attributes ≡ true
    → has_neat_attributes name.Cell attributes ≡ true
cell-has [] h = refl
cell-has (a ∷ rest) h = h

border-neat : (b : Bool) → has_neat_attributes name.Table (elements.border_attribute b) ≡ true
border-neat true = refl
border-neat false = refl

module _ (k : Leaves) where
  -- captions and rows of a table
  abbrev pub AllPieces : List TablePiece → Type 0
  AllPieces [] = Unit {0}
  AllPieces (of_caption n ∷ pieces) =
      (HasNode k n × FillsBlocks (content_shows n.tree) n.content × (has roles.is_title n.tree ≡ true))
      × AllPieces pieces
  AllPieces (of_row r ∷ pieces) = AllNodes k r.cells × AllPieces pieces

  -- a table's, once they are made
  abbrev CellsMade : ℕ → List elements.Cell → Type 0
  CellsMade at [] = Unit {0}
  CellsMade at (c ∷ cells) = (HaveBlocks k at c.content × IsWide c.columns) × CellsMade at cells

  abbrev PiecesMade : ℕ → List elements.Piece → Type 0
  PiecesMade at [] = Unit {0}
  PiecesMade at (elements.caption content ∷ pieces) =
      (HaveBlocks k at content × (is_ordered content ≡ true)) × PiecesMade at pieces
  PiecesMade at (elements.row r ∷ pieces) = CellsMade at r.cells × PiecesMade at pieces

  module _ (spaces : k.character space ≡ true) where
    -- what is an element where there are some
    pub richly : (at : ℕ) (c : Context) → FitsIn k at c → (ps qs : List Part)
        → (AllowsElements k → has_elements c ≡ true → AllParts k at ps)
        → (has_elements c ≡ false → AllParts k at qs) → AllParts k at (if has_elements c then ps else qs)
    richly at c f ps qs g h =
        test (has_elements c)
        (λ e. subst (λ (b : Bool). AllParts k at (if b then ps else qs)) (sym e)
        (g (f.rich (and_parts c.is_rich (not c.is_flat) e).0) e))
        (λ e. subst (λ (b : Bool). AllParts k at (if b then ps else qs)) (sym e) (h e))

    abbrev HaveDescriptions : ℕ → List Description → Type 0
    HaveDescriptions at [] = Unit {0}
    HaveDescriptions at (d ∷ ds) = HasWriting k spaces at d.content × HaveDescriptions at ds

    record Described (at : ℕ) (d : Descriptions) : Type 0 where
      before : AllParts k at d.before
      begun : HaveDescriptions at d.begun

    module _ (rich : AllowsElements k) where
      element-has : (at : ℕ) (n : BlockElement) (attributes : List BlockAttribute) (bs : Blocks)
          → stands_in in_flow n ≡ true → is_ordered_element n attributes bs ≡ true
          → are_different attributes ≡ true → HaveInside k (inside n) at bs
          → AllParts k at (element_part n attributes bs)
      element-has at n attributes no_blocks e neat d h = tt
      element-has at n attributes (block b bs) e neat d h =
          ((rich n attributes (block b bs) neat, e, d, h), tt)

      -- ---- titles

      title-fits : (at : ℕ) (content : Simples) (c : Context) → FitsIn k at c
          → FitsIn k at (around_title content c)
      title-fits at content c f =
          either-fits k at (has_elements c && is_linked_to_part c && show_usual_sign content) (unlinked c) c
          (unlinked-fits k at c f) f

      within-has : (n : Node) → HasNode k n → Gives k (within n)
      within-has n h at c f =
          h.content at (around_node n.tree c)
          (either-fits k at (has roles.is_title n.tree) (around_title (content_of n.tree) c) c
          (title-fits at (content_of n.tree) c f) f)

      blocks-within : (n : Node) → HasNode k n → (at : ℕ) (c : Context) → FitsIn k at c
          → HaveBlocks k at (blocks_within n c)
      blocks-within n h at c f = parts-blocks k spaces at false (within n c) (within-has n h at c f)

      pub details-has : (attributes : List AttributePair) (nodes : List Node) → AllNodes k nodes → (at : ℕ)
          (c : Context) → FitsIn k at c → has_elements c ≡ true
          → AllParts k at (element_part name.Details (open_attribute attributes)
          (blocks_of false (titled name.Summary nodes c)))
      details-has attributes nodes h at c f e =
          let ps : List Part = titled name.Summary nodes c in
          element-has at name.Details (open_attribute attributes) (blocks_of false ps) refl
          (open-neat attributes) (one-different (has_attribute (codes "open") attributes) attribute.Open [])
          (parts-inside k spaces in_details refl at false ps
          (summaries-in k rich blocks-within spaces nodes h at c f e))

      pub figure-has : (nodes : List Node) → AllNodes k nodes → (at : ℕ) (c : Context) → FitsIn k at c
          → has_elements c ≡ true → AllParts k at (captioned nodes c)
      figure-has nodes h at c f e =
          by-caption (list_any (λ (n : Node). shows_title name.FigureCaption n.tree) nodes) refl
        where
          by-caption : (b : Bool) → list_any (λ (n : Node). shows_title name.FigureCaption n.tree) nodes ≡ b
              → AllParts k at (figure_by b (titled name.FigureCaption nodes c))
          by-caption true q =
              let ps : List Part = titled name.FigureCaption nodes c in
              element-has at name.Figure [] (blocks_of false ps) refl (figure-captioned k nodes h q c e) refl
              (parts-inside k spaces in_figure refl at false ps
              (captions-in k rich blocks-within spaces nodes h at c f e))
          by-caption false q = captions-gone k spaces nodes h q at c f e

      -- ---- terms

      module _ (at : ℕ) where
        descriptions-append : (ds es : List Description) → HaveDescriptions at ds → HaveDescriptions at es
            → HaveDescriptions at (ds ++ es)
        descriptions-append [] es g h = h
        descriptions-append (d ∷ ds) es g h = (g.0, descriptions-append ds es g.1 h)

        description-has : (is_term : Bool) (ps : List Part) → AllParts k at ps
            → HasWriting k spaces at (description_with is_term ps).content
        description-has is_term ps h =
            all-fed k spaces at (begun false false) ps (begun-has k spaces at false false) h

        onto-last : (ds : List Description) (ps : List Part) → HaveDescriptions at ds → AllParts k at ps
            → HaveDescriptions at (onto_last_description ds ps)
        onto-last [] ps g h = tt
        onto-last (d ∷ []) ps g h = (all-fed k spaces at d.content ps g.0 h, tt)
        onto-last (d ∷ next ∷ ds) ps g h = (g.0, onto-last (next ∷ ds) ps g.1 h)

        either-descriptions : (b : Bool) (ds es : List Description) → HaveDescriptions at ds
            → HaveDescriptions at es
            → HaveDescriptions at (if b then ds else es)
        either-descriptions true ds es g h = g
        either-descriptions false ds es g h = h

        more-has : (b : Bool) (ds : List Description) → HaveDescriptions at ds
            → HaveDescriptions at (before_more b ds)
        more-has b ds h =
            either-descriptions (b && ends_with_term ds) (ds ++ description_with false [] ∷ []) ds
            (descriptions-append ds (description_with false [] ∷ []) h (description-has false [] tt, tt)) h

        either-described : (b : Bool) (d e : Descriptions) → Described at d → Described at e
            → Described at (if b then d else e)
        either-described true d e g h = g
        either-described false d e g h = h

        between-has : (c : Context) → FitsIn k at c → (d : Descriptions) (n : Node) → HasNode k n
            → Described at d
            → Described at (with_between c d n)
        between-has c f d n h g =
            let ps : List Part = flow_all (n ∷ []) c in
            let has_parts = flow-has k spaces (n ∷ []) (h, tt) at c f in
            let more : List Description = before_more (shows false n.tree) d.begun in
            either-described (nat_lt 0 (length d.begun)) (record d { begun = onto_last_description more (edge ∷ ps) })
            (record d { before = d.before ++ ps })
            (record {
              before = g.before;
              begun = onto-last more (edge ∷ ps) (more-has (shows false n.tree) d.begun g.begun) (tt, has_parts);
            })
            (record { before = parts-append k at d.before ps g.before has_parts; begun = g.begun })

        node-described : (c : Context) → FitsIn k at c → (d : Descriptions) (n : Node) → HasNode k n
            → Described at d
            → Described at (with_described c d n)
        node-described c f d n h g =
            let one : Description = description_with (has roles.is_term n.tree) (within n c) in
            either-described (has roles.is_term n.tree || has roles.is_meaning n.tree)
            (record d { begun = d.begun ++ one ∷ [] }) (with_between c d n)
            (record {
              before = g.before;
              begun = descriptions-append d.begun (one ∷ []) g.begun
                  (description-has (has roles.is_term n.tree) (within n c) (within-has n h at c f), tt);
            })
            (between-has c f d n h g)

        all-described : (c : Context) → FitsIn k at c → (parts : List TermPart) (d : Descriptions)
            → AllTerms k spaces parts → Described at d → Described at (fold (with_description c) d parts)
        all-described c f [] d h g = g
        all-described c f (gap ∷ parts) d h g = all-described c f parts d h.1 g
        all-described c f (of_node n ∷ parts) d h g =
            all-described c f parts (with_described c d n) h.1 (node-described c f d n h.0 g)

        description-is : (is_term : Bool) (bs : Blocks) → HaveBlocks k at bs
            → (is_term ≡ true → is_ordered bs ≡ true)
            → IsElement k in_terms at (if is_term then name.Term else name.Meaning) [] bs
        description-is true bs h o = (rich name.Term [] bs (o refl), refl, refl, h)
        description-is false bs h o = (rich name.Meaning [] bs refl, refl, refl, h)

        descriptions-blocks : (ds : List Description) → HaveDescriptions at ds → TermsOrdered ds
            → HaveInside k in_terms at (document.blocks_of (map description_element ds))
        descriptions-blocks [] h o = tt
        descriptions-blocks (d ∷ ds) h o = (
          description-is d.is_term (blocks_in d.content) (writing-blocks k spaces at d.content h.0) o.0,
          descriptions-blocks ds h.1 o.1,
        )

      -- something stands in one of them
      filled-terms : (ds : List Description)
          → has_filled_element (document.blocks_of (map description_element ds)) ≡ list_any is_filled_description ds
      filled-terms [] = refl
      filled-terms (d ∷ ds) = ap (λ b. is_filled_description d || b) (filled-terms ds)

      made-has : (at : ℕ) (ds : List Description) → HaveDescriptions at ds → TermsOrdered ds
          → AllParts k at (element_of_descriptions ds)
      made-has at ds h o =
          let all : Blocks = document.blocks_of (map description_element ds) in
          test (list_any is_filled_description ds)
          (λ t. rw t ((rich name.Terms [] all (filled-terms ds ∙ t), refl, refl, descriptions-blocks at ds h o), tt))
          (λ t. rw t tt)

      pub described-has : (parts : List TermPart) → AllTerms k spaces parts → TermsInOrder parts → (at : ℕ)
          (c : Context) → FitsIn k at c → has_elements c ≡ true → AllParts k at (described_parts parts c)
      described-has parts h o at c f e =
          let both = and_parts c.is_rich (not c.is_flat) e in
          let d : Descriptions = fold (with_description c) no_descriptions parts in
          let g = all-described at c f parts no_descriptions h (record { before = tt; begun = tt }) in
          let made : List Part = element_of_descriptions d.begun in
          parts-append k at (edge ∷ d.before) (apart made) (tt, g.before)
          (apart-has k at made (made-has at d.begun g.begun (o c both.0 (not-true c.is_flat both.1))))

      -- ---- tables

      in-cell-fits : (at : ℕ) (t : Simple) (c : Context) → FitsIn k at c → FitsIn k at (in_cell t c)
      in-cell-fits at (element id role.Cell facts attributes content) c f = beside-fits k at facts.pres attributes c f
      in-cell-fits at t c f = f

      nodes-fill : (nodes : List Node) → AllNodes k nodes → FillNodes nodes
      nodes-fill [] h = tt
      nodes-fill (n ∷ nodes) h = (h.0.shown, nodes-fill nodes h.1)

      all-fill : (pieces : List TablePiece) → AllPieces pieces → FillPieces pieces
      all-fill [] h = tt
      all-fill (of_caption n ∷ pieces) h = (h.0.1, all-fill pieces h.1)
      all-fill (of_row r ∷ pieces) h = (nodes-fill r.cells h.0, all-fill pieces h.1)

      either-pieces : (b : Bool) (ps qs : List TablePiece) → AllPieces ps → AllPieces qs
          → AllPieces (if b then ps else qs)
      either-pieces true ps qs g h = g
      either-pieces false ps qs g h = h

      kept-have : (is_so : TablePiece → Bool) (pieces : List TablePiece) → AllPieces pieces
          → AllPieces (filter is_so pieces)
      kept-have is_so [] h = tt
      kept-have is_so (of_caption n ∷ pieces) h =
          let rest = kept-have is_so pieces h.1 in
          either-pieces (is_so (of_caption n)) (of_caption n ∷ filter is_so pieces) (filter is_so pieces) (h.0, rest)
          rest
      kept-have is_so (of_row r ∷ pieces) h =
          let rest = kept-have is_so pieces h.1 in
          either-pieces (is_so (of_row r)) (of_row r ∷ filter is_so pieces) (filter is_so pieces) (h.0, rest) rest

      module _ (at : ℕ) where
        cells-made : (has_spans is_in_head : Bool) (c : Context) → FitsIn k at c → (cells : List Node)
            → AllNodes k cells → CellsMade at (map (cell_with_blocks has_spans is_in_head c) cells)
        cells-made has_spans is_in_head c f [] h = tt
        cells-made has_spans is_in_head c f (n ∷ cells) h = (
          (
            parts-blocks k spaces at false (n.content (in_cell n.tree c))
                (h.0.content at (in_cell n.tree c) (in-cell-fits at n.tree c f)),
            is-wide (attributes_of n.tree),
          ),
          cells-made has_spans is_in_head c f cells h.1,
        )

        pieces-made : (has_spans : Bool) (c : Context) → FitsIn k at c → has_elements c ≡ true
            → (pieces : List TablePiece) → AllPieces pieces
            → PiecesMade at (map (piece_with_blocks has_spans c) pieces)
        pieces-made has_spans c f e [] h = tt
        pieces-made has_spans c f e (of_caption n ∷ pieces) h = (
          (blocks-within n h.0.0 at c f, ordered-within k n h.0.0 h.0.2 c e),
          pieces-made has_spans c f e pieces h.1,
        )
        pieces-made has_spans c f e (of_row r ∷ pieces) h =
            (cells-made has_spans r.is_in_head c f r.cells h.0, pieces-made has_spans c f e pieces h.1)

        cells-cut : (left : ℕ) (cells : List elements.Cell) → CellsMade at cells
            → CellsMade at (map (elements.cut_cell left) cells)
        cells-cut left [] h = tt
        cells-cut left (c ∷ cells) h = (h.0, cells-cut left cells h.1)

        pieces-cut : (pieces : List elements.Piece) → PiecesMade at pieces → PiecesMade at (elements.cut_all pieces)
        pieces-cut [] h = tt
        pieces-cut (elements.caption content ∷ pieces) h = (h.0, pieces-cut pieces h.1)
        pieces-cut (elements.row r ∷ pieces) h = (
          cells-cut (elements.stretched r.part (elements.stretch_of pieces)).left r.cells h.0,
          pieces-cut pieces h.1,
        )

        -- ---- GitHub's form

        -- something shows in the first row
        abbrev HeaderShows : List elements.Piece → Type 0
        HeaderShows pieces = shows_header (get_or (map elements.line_of pieces) 0 []) ≡ true

        inlines-have : (bs : Blocks) → HaveBlocks k at bs → HasWhole k (elements.inlines_in bs)
        inlines-have no_blocks h = nothing-whole k
        inlines-have (block (paragraph content) bs) h = h.0
        inlines-have (block b bs) h = nothing-whole k

        cell-lines : (cells : List elements.Cell) → CellsMade at cells
            → HaveCells k (map elements.cell_line cells)
        cell-lines [] h = tt
        cell-lines (c ∷ cells) h = (inlines-have c.content h.0.0, cell-lines cells h.1)

        piece-lines : (pieces : List elements.Piece) → PiecesMade at pieces
            → HaveRows k (map elements.line_of pieces)
        piece-lines [] h = tt
        piece-lines (elements.caption content ∷ pieces) h = (tt, piece-lines pieces h.1)
        piece-lines (elements.row r ∷ pieces) h = (cell-lines r.cells h.0, piece-lines pieces h.1)

        lines-table : (pieces : List elements.Piece) → MayHaveTables k true → HeaderShows pieces
            → PiecesMade at pieces
            → HasOption k spaces at (elements.table_of_lines pieces)
        lines-table pieces may headed h =
            let lines : List (List Inlines) = map elements.line_of pieces in
            table-of-has k spaces at (elements.alignments_of pieces) true (map trimmed_row lines)
            (all-trimmed k spaces lines (piece-lines pieces h))
            (λ e. may _ _ (last-shown true lines e) (λ r. first-line (width (map trimmed_row lines)) lines headed))

        -- ---- elements

        cell-is : (is_header : Bool) (attributes : List BlockAttribute) (bs : Blocks)
            → is_neat_cell attributes ≡ true → are_different attributes ≡ true → HaveBlocks k at bs
            → IsElement k in_row at (if is_header then name.HeaderCell else name.Cell) attributes bs
        cell-is true attributes bs n d h = (rich name.HeaderCell attributes bs (header-has attributes n), refl, d, h)
        cell-is false attributes bs n d h = (rich name.Cell attributes bs (cell-has attributes n), refl, d, h)

        cell-elements : (cells : List elements.Cell) → CellsMade at cells
            → HaveInside k in_row at (document.blocks_of (map elements.cell_element cells))
        cell-elements [] h = tt
        cell-elements (c ∷ cells) h =
            let spans : List BlockAttribute =
            elements.span_attribute attribute.ColumnSpan c.columns
            ++ elements.span_attribute attribute.RowSpan c.rows in (
              cell-is c.is_header (spans ++ elements.align_attribute c.alignment) c.content
                  (cell-neat c.columns c.rows c.alignment h.0.1)
                  (spans-different (nat_lt 1 c.columns) (nat_lt 1 c.rows) (decimal c.columns) (decimal c.rows)
                  (elements.alignment_name c.alignment)) h.0.0,
              cell-elements cells h.1,
            )

        piece-elements : (pieces : List elements.Piece) → PiecesMade at pieces
            → HaveInside k in_table at (document.blocks_of (map elements.piece_element pieces))
        piece-elements [] h = tt
        piece-elements (elements.caption content ∷ pieces) h =
            ((rich name.Caption [] content h.0.1, refl, refl, h.0.0), piece-elements pieces h.1)
        piece-elements (elements.row r ∷ pieces) h =
            let cells : Blocks = document.blocks_of (map elements.cell_element r.cells) in
            ((rich name.Row [] cells refl, refl, refl, cell-elements r.cells h.0), piece-elements pieces h.1)

        either-option : (b : Bool) (o p : Option Block) → (b ≡ true → HasOption k spaces at o)
            → (b ≡ false → HasOption k spaces at p) → HasOption k spaces at (if b then o else p)
        either-option true o p g h = g refl
        either-option false o p g h = h refl

        either-blocks : (b : Bool) (ps qs : List Part) → (b ≡ true → AllParts k at ps)
            → (b ≡ false → AllParts k at qs)
            → AllParts k at (if b then ps else qs)
        either-blocks true ps qs g h = g refl
        either-blocks false ps qs g h = h refl

        pieces-table : (has_border : Bool) (pieces : List elements.Piece) → MayHaveTables k true
            → (elements.are_paragraphs pieces ≡ true → elements.has_header_alone pieces ≡ true
            → HeaderShows pieces)
            → ((elements.are_paragraphs pieces && elements.has_header_alone pieces) ≡ false
            → list_any elements.is_filled_piece pieces ≡ true
            → is_neat_table (elements.border_attribute has_border)
            (document.blocks_of (map elements.piece_element pieces)) ≡ true)
            → PiecesMade at pieces → HasOption k spaces at (elements.table_of_pieces has_border pieces)
        pieces-table has_border pieces may headed neat h =
            let border : List BlockAttribute = elements.border_attribute has_border in
            let rows : Blocks = document.blocks_of (map elements.piece_element pieces) in
            let all : Block = document.element name.Table border rows in
            either-option (elements.are_paragraphs pieces && elements.has_header_alone pieces)
            (elements.table_of_lines pieces) (elements.table_of_elements has_border pieces)
            (λ e.
            let p = and_parts (elements.are_paragraphs pieces) (elements.has_header_alone pieces) e in
            lines-table pieces may (headed p.0 p.1) h)
            (λ form. either-option (list_any elements.is_filled_piece pieces) (Some all) None
            (λ e. (
              rich name.Table border rows
                  (and_from (has_neat_attributes name.Table border) (is_neat_table border rows)
                  (border-neat has_border) (neat form e)),
              refl,
              one-different has_border attribute.Border (codes "1"),
              piece-elements pieces h,
            )) (λ e. tt))

      pub rich-table-has : (trees : List Simple) (attributes : List AttributePair) (pieces : List TablePiece)
          (nodes : List Node) → AllPieces pieces → AllNodes k nodes
          → (at : ℕ) (c : Context) → FitsIn k at c → has_elements c ≡ true
          → AllParts k at (rich_table_parts trees attributes pieces nodes c)
      rich-table-has trees attributes pieces nodes h g at c f e =
          let both = and_parts c.is_rich (not c.is_flat) e in
          let may : MayHaveTables k true = subst (MayHaveTables k) both.0 f.tables in
          let blocks : c.is_flat ≡ false = not-true c.is_flat both.1 in
          let headed = header-shown c both.0 blocks pieces (all-fill pieces h) in
          let has_spans : Bool = have_row_spans (rows_in pieces) in
          let kept : List TablePiece = kept_pieces pieces in
          let all : List Part = flow_all nodes c in
          let all_have = flow-has k spaces nodes g at c f in
          let made : List elements.Piece = pieces_with_blocks has_spans kept c in
          let made_have : PiecesMade at made =
          pieces-cut at (map (piece_with_blocks has_spans c) kept)
          (pieces-made at has_spans c f e kept (kept-have (stays has_spans) pieces h)) in
          let o : Option Block = elements.table_of_pieces (has_border attributes) made in
          apart-has k at (kept_table_parts trees attributes has_spans kept nodes c)
          (either-blocks at (is_for_page trees attributes kept) all (table_with_blocks attributes kept made all)
          (λ page. all_have)
          (λ page. either-blocks at (is_headed attributes kept || elements.are_paragraphs made) (block_part o) all
          (λ told. option-part k spaces at o
          (pieces-table at (has_border attributes) made may headed
          (table-neat c both.0 blocks trees attributes pieces (all-fill pieces h) page told) made_have))
          (λ told. all_have)))
