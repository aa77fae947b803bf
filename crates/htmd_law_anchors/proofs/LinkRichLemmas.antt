-- The links of what nodes of rich documents give are those around what shows: elements.
use Rattle.std.proofs.Common.{◌≡◌, Bool, true, false, cond, ◌&&◌, ◌||◌, List, [], ◌∷◌, ◌++◌, map, filter, fold, refl}
use Rattle.std.proofs.Common.{length, ℕ, zero, suc, Option, Some, None}
use Rattle.std.specs.Prelude.{nat_lt}
use Rattle.std.specs.List.{list_any}
use Rattle.htmd_lexical.specs.AttributePairs.{AttributePair}
use Rattle.htmd_document.specs.declared.document.BlockElement.{BlockElement}
use Rattle.htmd_document.specs.declared.document.BlockElement.TheVariants as name
use Rattle.htmd_document.specs.Documents.{Block, Blocks, no_blocks, block, BlockAttribute, paragraph}
use Rattle.htmd_document.specs.Documents as document
use Rattle.htmd_shown.specs.declared.role.Role.{Role}
use Rattle.htmd_shown.specs.declared.role.Role.TheVariants as role
use Rattle.htmd_shown.specs.Kinds.{has}
use Rattle.htmd_shown.specs.Roles as roles
use Rattle.htmd_shown.specs.Showings.{shows}
use Rattle.htmd_shown.specs.SimpleTrees as simple
use Rattle.htmd_shown.specs.SimpleTrees.{Simple}
use Rattle.htmd_flow.specs.Contexts.{Context, has_elements, apart, beside_code}
use Rattle.htmd_flow.specs.Flows.{Node, TablePiece, TermPart, gap, of_node, of_caption, of_row, blocks_of, flow_all}
use Rattle.htmd_flow.specs.Flows.{block_part, element_part, within, blocks_within, is_title_of, title_element, as_title}
use Rattle.htmd_flow.specs.Flows.{titled, open_attribute, details_parts, shows_title, figure_by, captioned, figure_parts}
use Rattle.htmd_flow.specs.Flows.{Description, Descriptions, no_descriptions, description_with, onto_last_description}
use Rattle.htmd_flow.specs.Flows.{ends_with_term, before_more, with_between, with_described, with_description}
use Rattle.htmd_flow.specs.Flows.{description_element, is_filled_description, element_of_descriptions}
use Rattle.htmd_flow.specs.Flows.{described_parts, rows_in, have_row_spans, stays, kept_pieces}
use Rattle.htmd_flow.specs.Flows.{has_border, is_headed, is_for_page, in_cell, cell_with_blocks}
use Rattle.htmd_flow.specs.Flows.{piece_with_blocks, pieces_with_blocks, table_with_blocks, kept_table_parts}
use Rattle.htmd_flow.specs.Flows.{rich_table_parts}
use Rattle.htmd_flow.specs.Paragraphs.{begun, fed_all}
use Rattle.htmd_flow.specs.Parts.{Part, edge, whole}
use Rattle.htmd_flow.specs.TableElements as elements
use Rattle.htmd_flow.specs.TableElements.{Cell, Piece, Stretch, stretched, stretch_of, cut_cell, cut_piece}
use Rattle.htmd_flow.specs.TableElements.{cut_all, are_paragraphs, has_header_alone, inlines_in, cell_line}
use Rattle.htmd_flow.specs.TableElements.{line_of, alignments_of, table_of_lines, cell_element, piece_element}
use Rattle.htmd_flow.specs.TableElements.{is_filled_piece, border_attribute, table_of_elements, table_of_pieces}
use Rattle.htmd_law_documents.proofs.ElementLemmas.{false-true}
use Rattle.htmd_law_anchors.specs.DocumentLinks.{LinksInLine, LinksInCells, LinksInRows, LinksInBlock, LinksInBlocks}
use Rattle.htmd_law_anchors.proofs.LinkWritingLemmas.{AllBlocks, blocks-links, Well, GoodParts, all-well, begun-well}
use Rattle.htmd_law_anchors.proofs.LinkWritingLemmas.{blocks-in-links, parts-append, parts-apart, parts-either}
use Rattle.htmd_law_anchors.proofs.LinkWritingLemmas.{blocks-good}
use Rattle.htmd_law_anchors.proofs.LinkPartLemmas.{GoodOption, table-all}
use Rattle.htmd_law_anchors.proofs.LinkNodesLemmas.{In, is_inner, term-inner, meaning-inner, has-more, has-none, Gives}
use Rattle.htmd_law_anchors.proofs.LinkNodesLemmas.{NodeGood, AllNodes, other-content, flow-good, GoodTerm, GoodTerms}
use Rattle.htmd_law_anchors.proofs.LinkNodesLemmas.{option-good}

-- ---- kinds

title-inner : (title : BlockElement) (r : Role) → is_title_of title r ≡ true → is_inner r ≡ true
title-inner name.Summary role.Summary e = refl
title-inner name.FigureCaption role.FigureCaption e = refl
title-inner title r e = false-true e

pub cell-inner : (r : Role) → roles.is_cell r ≡ true → is_inner r ≡ true
cell-inner role.Cell e = refl
cell-inner role.HeaderCell e = refl
cell-inner r e = false-true e

pub cell-untitled : (r : Role) → roles.is_cell r ≡ true → roles.is_title r ≡ false
cell-untitled role.Cell e = refl
cell-untitled role.HeaderCell e = refl
cell-untitled r e = false-true e

caption-inner : (r : Role) → roles.is_caption r ≡ true → is_inner r ≡ true
caption-inner role.Caption e = refl
caption-inner r e = false-true e

pub in-near : (rich : Bool) (link : Option (List ℕ)) (flat : Bool) (c : Context) (pres : ℕ)
    (attributes : List AttributePair) → In rich link flat c → In rich link flat (beside_code pres attributes c)
in-near rich link flat c zero attributes i = i
in-near rich link flat c (suc zero) attributes i = record { around = i.around; line = i.line; is = i.is }
in-near rich link flat c (suc (suc n)) attributes i = record { around = i.around; line = i.line; is = i.is }

in-cell : (rich : Bool) (link : Option (List ℕ)) (flat : Bool) (c : Context) (t : Simple) → In rich link flat c
    → In rich link flat (in_cell t c)
in-cell rich link flat c (simple.element id role.Cell facts attributes content) i =
    in-near rich link flat c facts.pres attributes i
in-cell rich link flat c t i = i

module _ (Is : List ℕ → Type 0) where
  element-links : (n : BlockElement) (attributes : List BlockAttribute) (bs : Blocks) → LinksInBlocks Is bs
      → GoodParts Is (element_part n attributes bs)
  element-links n attributes no_blocks h = tt
  element-links n attributes (block b bs) h = (h, tt)

  -- ---- pieces of tables with their blocks

  abbrev MadeCells : List Cell → Type 0
  MadeCells [] = Unit {0}
  MadeCells (c ∷ cells) = LinksInBlocks Is c.content × MadeCells cells

  abbrev MadePiece : Piece → Type 0
  MadePiece (elements.caption content) = LinksInBlocks Is content
  MadePiece (elements.row r) = MadeCells r.cells

  abbrev MadePieces : List Piece → Type 0
  MadePieces [] = Unit {0}
  MadePieces (p ∷ pieces) = MadePiece p × MadePieces pieces

  cut-cells : (left : ℕ) (cells : List Cell) → MadeCells cells → MadeCells (map (cut_cell left) cells)
  cut-cells left [] h = tt
  cut-cells left (c ∷ cells) h = (h.0, cut-cells left cells h.1)

  cut-one : (s : Stretch) (p : Piece) → MadePiece p → MadePiece (cut_piece s p)
  cut-one s (elements.caption content) h = h
  cut-one s (elements.row r) h = cut-cells (stretched r.part s).left r.cells h

  cut-made : (pieces : List Piece) → MadePieces pieces → MadePieces (cut_all pieces)
  cut-made [] h = tt
  cut-made (p ∷ pieces) h = (cut-one (stretch_of pieces) p h.0, cut-made pieces h.1)

  inlines-links : (bs : Blocks) → LinksInBlocks Is bs → LinksInLine Is (inlines_in bs)
  inlines-links (block (paragraph content) bs) h = h.0
  inlines-links bs h = tt

  line-cells : (cells : List Cell) → MadeCells cells → LinksInCells Is (map cell_line cells)
  line-cells [] h = tt
  line-cells (c ∷ cells) h = (inlines-links c.content h.0, line-cells cells h.1)

  line-links : (p : Piece) → MadePiece p → LinksInCells Is (line_of p)
  line-links (elements.caption content) h = tt
  line-links (elements.row r) h = line-cells r.cells h

  lines-links : (pieces : List Piece) → MadePieces pieces → LinksInRows Is (map line_of pieces)
  lines-links [] h = tt
  lines-links (p ∷ pieces) h = (line-links p h.0, lines-links pieces h.1)

  cells-blocks : (cells : List Cell) → MadeCells cells → AllBlocks Is (map cell_element cells)
  cells-blocks [] h = tt
  cells-blocks (c ∷ cells) h = (h.0, cells-blocks cells h.1)

  piece-block : (p : Piece) → MadePiece p → LinksInBlock Is (piece_element p)
  piece-block (elements.caption content) h = h
  piece-block (elements.row r) h = blocks-links Is (map cell_element r.cells) (cells-blocks r.cells h)

  pieces-blocks : (pieces : List Piece) → MadePieces pieces → AllBlocks Is (map piece_element pieces)
  pieces-blocks [] h = tt
  pieces-blocks (p ∷ pieces) h = (piece-block p h.0, pieces-blocks pieces h.1)

  either-option : (b : Bool) (o p : Option Block) → GoodOption Is o → GoodOption Is p
      → GoodOption Is (cond b o p)
  either-option true o p g h = g
  either-option false o p g h = h

  pieces-table : (has_border : Bool) (pieces : List Piece) → MadePieces pieces
      → GoodOption Is (table_of_pieces has_border pieces)
  pieces-table has_border pieces h =
      either-option (are_paragraphs pieces && has_header_alone pieces) (table_of_lines pieces)
      (table_of_elements has_border pieces)
      (table-all Is (alignments_of pieces) true (map line_of pieces) (lines-links pieces h))
      (either-option (list_any is_filled_piece pieces)
      (Some (document.element name.Table (border_attribute has_border)
      (document.blocks_of (map piece_element pieces)))) None
      (blocks-links Is (map piece_element pieces) (pieces-blocks pieces h)) tt)

  module _ (rich : Bool) (link : Option (List ℕ)) (flat : Bool) where
    -- ---- titles

    as-title-good : (title : BlockElement) (n : Node) → NodeGood Is rich link flat n
        → NodeGood Is rich link flat (as_title title n)
    as-title-good title n h = either (has (is_title_of title) n.tree) refl
      where
        either : (b : Bool) → has (is_title_of title) n.tree ≡ b
            → NodeGood Is rich link flat (cond b (record n { whole = title_element title n }) n)
        either true e = record {
          whole = λ c i. parts-apart Is (element_part title [] (blocks_within n c))
              (element-links title [] (blocks_within n c)
              (blocks-good Is false (within n c)
              (h.content (has-more (is_title_of title) is_inner (title-inner title) n.tree e) c i)));
          content = h.content;
        }
        either false e = h

    all-titled : (title : BlockElement) (nodes : List Node) → AllNodes Is rich link flat nodes
        → AllNodes Is rich link flat (map (as_title title) nodes)
    all-titled title [] h = tt
    all-titled title (n ∷ nodes) h = (as-title-good title n h.0, all-titled title nodes h.1)

    titled-good : (title : BlockElement) (nodes : List Node) → AllNodes Is rich link flat nodes
        → Gives Is rich link flat (titled title nodes)
    titled-good title nodes h =
        flow-good Is rich link flat (map (as_title title) nodes) (all-titled title nodes h)

    pub details-good : (attributes : List AttributePair) (nodes : List Node) → AllNodes Is rich link flat nodes
        → Gives Is rich link flat (details_parts attributes nodes)
    details-good attributes nodes h c i =
        let bs : Blocks = blocks_of false (titled name.Summary nodes c) in
        parts-apart Is (cond (has_elements c) (element_part name.Details (open_attribute attributes) bs)
        (flow_all nodes c))
        (parts-either Is (has_elements c) (element_part name.Details (open_attribute attributes) bs) (flow_all nodes c)
        (λ e. element-links name.Details (open_attribute attributes) bs
        (blocks-good Is false (titled name.Summary nodes c) (titled-good name.Summary nodes h c i)))
        (λ e. flow-good Is rich link flat nodes h c i))

    figure-links : (b : Bool) (ps : List Part) → GoodParts Is ps → GoodParts Is (figure_by b ps)
    figure-links true ps h =
        element-links name.Figure [] (blocks_of false ps) (blocks-good Is false ps h)
    figure-links false ps h = h

    pub figure-good : (nodes : List Node) → AllNodes Is rich link flat nodes
        → Gives Is rich link flat (figure_parts nodes)
    figure-good nodes h c i =
        parts-apart Is (cond (has_elements c) (captioned nodes c) (flow_all nodes c))
        (parts-either Is (has_elements c) (captioned nodes c) (flow_all nodes c)
        (λ e. figure-links (list_any (λ (n : Node). shows_title name.FigureCaption n.tree) nodes)
        (titled name.FigureCaption nodes c) (titled-good name.FigureCaption nodes h c i))
        (λ e. flow-good Is rich link flat nodes h c i))

    -- ---- terms

    abbrev AllDescribed : List Description → Type 0
    AllDescribed [] = Unit {0}
    AllDescribed (d ∷ ds) = Well Is d.content × AllDescribed ds

    begun-description : (ps : List Part) → GoodParts Is ps → Well Is (fed_all (begun false false) ps)
    begun-description ps h = all-well Is ps (begun false false) h (begun-well Is false false)

    described-append : (ds : List Description) (is_term : Bool) (ps : List Part) → AllDescribed ds
        → GoodParts Is ps → AllDescribed (ds ++ description_with is_term ps ∷ [])
    described-append [] is_term ps h g = (begun-description ps g, tt)
    described-append (d ∷ ds) is_term ps h g = (h.0, described-append ds is_term ps h.1 g)

    last-described : (ds : List Description) (ps : List Part) → AllDescribed ds → GoodParts Is ps
        → AllDescribed (onto_last_description ds ps)
    last-described [] ps h g = tt
    last-described (d ∷ []) ps h g = (all-well Is ps d.content g h.0, tt)
    last-described (d ∷ next ∷ ds) ps h g = (h.0, last-described (next ∷ ds) ps h.1 g)

    either-described : (b : Bool) (ds es : List Description) → AllDescribed ds → AllDescribed es
        → AllDescribed (cond b ds es)
    either-described true ds es g h = g
    either-described false ds es g h = h

    more-described : (shows : Bool) (ds : List Description) → AllDescribed ds → AllDescribed (before_more shows ds)
    more-described shows ds h =
        either-described (shows && ends_with_term ds) (ds ++ description_with false [] ∷ []) ds
        (described-append ds false [] h tt) h

    record Begun (d : Descriptions) : Type 0 where
      before : GoodParts Is d.before
      begun : AllDescribed d.begun

    either-begun : (b : Bool) (d e : Descriptions) → (b ≡ true → Begun d) → (b ≡ false → Begun e)
        → Begun (cond b d e)
    either-begun true d e g h = g refl
    either-begun false d e g h = h refl

    one-good : (n : Node) → NodeGood Is rich link flat n → Gives Is rich link flat (flow_all (n ∷ []))
    one-good n h = flow-good Is rich link flat (n ∷ []) (h, tt)

    module _ (c : Context) (i : In rich link flat c) where
      between-begun : (d : Descriptions) (n : Node) → NodeGood Is rich link flat n → Begun d
          → Begun (with_between c d n)
      between-begun d n k h =
          let more : List Description = before_more (shows false n.tree) d.begun in
          let ps : List Part = flow_all (n ∷ []) c in
          either-begun (nat_lt 0 (length d.begun)) (record d { begun = onto_last_description more (edge ∷ ps) })
          (record d { before = d.before ++ ps })
          (λ e. record {
            before = h.before;
            begun = last-described more (edge ∷ ps) (more-described (shows false n.tree) d.begun h.begun)
                (tt, one-good n k c i);
          })
          (λ e. record { before = parts-append Is d.before ps h.before (one-good n k c i); begun = h.begun })

      described-inner : (n : Node) → (has roles.is_term n.tree || has roles.is_meaning n.tree) ≡ true
          → has is_inner n.tree ≡ true
      described-inner n e = either (has roles.is_term n.tree) refl e
        where
          either : (b : Bool) → has roles.is_term n.tree ≡ b → (b || has roles.is_meaning n.tree) ≡ true
              → has is_inner n.tree ≡ true
          either true f g = has-more roles.is_term is_inner term-inner n.tree f
          either false f g = has-more roles.is_meaning is_inner meaning-inner n.tree g

      node-begun : (d : Descriptions) (n : Node) → NodeGood Is rich link flat n → Begun d
          → Begun (with_described c d n)
      node-begun d n k h =
          either-begun (has roles.is_term n.tree || has roles.is_meaning n.tree)
          (record d { begun = d.begun ++ description_with (has roles.is_term n.tree) (within n c) ∷ [] })
          (with_between c d n)
          (λ e. record {
            before = h.before;
            begun = described-append d.begun (has roles.is_term n.tree) (within n c) h.begun
                (k.content (described-inner n e) c i);
          })
          (λ e. between-begun d n k h)

      part-begun : (d : Descriptions) (p : TermPart) → GoodTerm Is rich link flat p → Begun d
          → Begun (with_description c d p)
      part-begun d gap k h = h
      part-begun d (of_node n) k h = node-begun d n k h

      all-begun : (ps : List TermPart) (d : Descriptions) → GoodTerms Is rich link flat ps → Begun d
          → Begun (fold (with_description c) d ps)
      all-begun [] d k h = h
      all-begun (p ∷ ps) d k h = all-begun ps (with_description c d p) k.1 (part-begun d p k.0 h)

    described-blocks : (ds : List Description) → AllDescribed ds → AllBlocks Is (map description_element ds)
    described-blocks [] h = tt
    described-blocks (d ∷ ds) h = (blocks-in-links Is d.content h.0, described-blocks ds h.1)

    element-described : (ds : List Description) → AllDescribed ds → GoodParts Is (element_of_descriptions ds)
    element-described ds h =
        parts-either Is (list_any is_filled_description ds)
        (whole (document.element name.Terms [] (document.blocks_of (map description_element ds))) ∷ []) []
        (λ e. (blocks-links Is (map description_element ds) (described-blocks ds h), tt)) (λ e. tt)

    pub described-good : (parts : List TermPart) → GoodTerms Is rich link flat parts
        → Gives Is rich link flat (described_parts parts)
    described-good parts h c i =
        let d : Descriptions = fold (with_description c) no_descriptions parts in
        let g : Begun d = all-begun c i parts no_descriptions h (record { before = tt; begun = tt }) in
        parts-append Is (edge ∷ d.before) (apart (element_of_descriptions d.begun)) (tt, g.before)
        (parts-apart Is (element_of_descriptions d.begun) (element-described d.begun g.begun))

    -- ---- tables

    abbrev pub CellNodes : List Node → Type 0
    CellNodes [] = Unit {0}
    CellNodes (n ∷ nodes) = (NodeGood Is rich link flat n × (has roles.is_cell n.tree ≡ true)) × CellNodes nodes

    abbrev pub GoodPiece : TablePiece → Type 0
    GoodPiece (of_caption n) = NodeGood Is rich link flat n × (has roles.is_caption n.tree ≡ true)
    GoodPiece (of_row r) = CellNodes r.cells

    abbrev pub GoodPieces : List TablePiece → Type 0
    GoodPieces [] = Unit {0}
    GoodPieces (p ∷ pieces) = GoodPiece p × GoodPieces pieces

    pub pieces-append : (ps qs : List TablePiece) → GoodPieces ps → GoodPieces qs → GoodPieces (ps ++ qs)
    pieces-append [] qs g h = h
    pieces-append (p ∷ ps) qs g h = (g.0, pieces-append ps qs g.1 h)

    pieces-filtered : (f : TablePiece → Bool) (pieces : List TablePiece) → GoodPieces pieces
        → GoodPieces (filter f pieces)
    pieces-filtered f [] h = tt
    pieces-filtered f (p ∷ pieces) h = either (f p) (pieces-filtered f pieces h.1)
      where
        either : (b : Bool) → GoodPieces (filter f pieces)
            → GoodPieces (cond b (p ∷ filter f pieces) (filter f pieces))
        either true g = (h.0, g)
        either false g = g

    module _ (has_spans : Bool) (c : Context) (i : In rich link flat c) where
      cells-made : (is_in_head : Bool) (cells : List Node) → CellNodes cells
          → MadeCells (map (cell_with_blocks has_spans is_in_head c) cells)
      cells-made is_in_head [] h = tt
      cells-made is_in_head (n ∷ cells) h =
          let d : Context = in_cell n.tree c in (
            blocks-good Is false (n.content d)
                (other-content Is rich link n d (has-none roles.is_cell roles.is_title cell-untitled n.tree h.0.1)
                (h.0.0.content (has-more roles.is_cell is_inner cell-inner n.tree h.0.1) d
                (in-cell rich link flat c n.tree i))),
            cells-made is_in_head cells h.1,
          )

      piece-made : (p : TablePiece) → GoodPiece p → MadePiece (piece_with_blocks has_spans c p)
      piece-made (of_caption n) h =
          blocks-good Is false (within n c)
          (h.0.content (has-more roles.is_caption is_inner caption-inner n.tree h.1) c i)
      piece-made (of_row r) h = cells-made r.is_in_head r.cells h

      all-made : (pieces : List TablePiece) → GoodPieces pieces
          → MadePieces (map (piece_with_blocks has_spans c) pieces)
      all-made [] h = tt
      all-made (p ∷ pieces) h = (piece-made p h.0, all-made pieces h.1)

    pub rich-table-good : (trees : List Simple) (attributes : List AttributePair) (pieces : List TablePiece)
        (nodes : List Node) → GoodPieces pieces → AllNodes Is rich link flat nodes
        → Gives Is rich link flat (rich_table_parts trees attributes pieces nodes)
    rich-table-good trees attributes pieces nodes g h c i =
        let has_spans : Bool = have_row_spans (rows_in pieces) in
        let kept : List TablePiece = kept_pieces pieces in
        let made : List Piece = pieces_with_blocks has_spans kept c in
        let content : List Part = flow_all nodes c in
        let flowed : GoodParts Is content = flow-good Is rich link flat nodes h c i in
        parts-apart Is (kept_table_parts trees attributes has_spans kept nodes c)
        (parts-either Is (is_for_page trees attributes kept) content (table_with_blocks attributes kept made content)
        (λ e. flowed)
        (λ e. parts-either Is (is_headed attributes kept || are_paragraphs made)
        (block_part (table_of_pieces (has_border attributes) made)) content
        (λ f. option-good Is rich link (table_of_pieces (has_border attributes) made)
        (pieces-table (has_border attributes) made
        (cut-made (map (piece_with_blocks has_spans c) kept)
        (all-made has_spans c i kept (pieces-filtered (stays has_spans) pieces g)))))
        (λ f. flowed)))
