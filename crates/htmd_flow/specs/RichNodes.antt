-- What nodes of rich documents give: elements.
use Rattle.std.specs.Prelude.{ℕ, ◌==◌, Bool, true, false, not, ◌&&◌, ◌||◌, nat_lt, if◌then◌else◌, List, [], ◌∷◌, ◌++◌}
use Rattle.std.specs.Prelude.{length, map, filter, fold, Option, Some, None, codes, ℤ, pos}
use Rattle.std.specs.List.{list_any, flat_map}
use Rattle.std.specs.Ordering.{int_eq}
use Rattle.htmd_lexical.specs.AttributePairs.{AttributePair}
use Rattle.htmd_document.specs.Documents.{Block, Blocks, no_blocks, block, BlockAttribute}
use Rattle.htmd_document.specs.Documents as document
use Rattle.htmd_document.specs.declared.document.BlockElement.{BlockElement}
use Rattle.htmd_document.specs.declared.document.BlockElement.TheVariants as name
use Rattle.htmd_document.specs.declared.document.AttributeName.TheVariants as attribute
use Rattle.htmd_document.specs.TightItems as items
use Rattle.htmd_shown.specs.declared.role.Role.{Role}
use Rattle.htmd_shown.specs.declared.role.Role.TheVariants as role
use Rattle.htmd_shown.specs.Attributes.{has_attribute}
use Rattle.htmd_shown.specs.Attributes.{number_at, wide_span, row_span, alignment}
use Rattle.htmd_shown.specs.Kinds.{has, holds, content_of}
use Rattle.htmd_shown.specs.Roles as roles
use Rattle.htmd_shown.specs.Showings.{shows, show, show_usual_sign}
use Rattle.htmd_shown.specs.SimpleTrees.{Simple, element, Simples, none, more}
use Rattle.htmd_flow.specs.Contexts.{Context, has_elements}
use Rattle.htmd_flow.specs.Contexts.{unlinked, is_linked_to_part, beside_code}
use Rattle.htmd_flow.specs.Contexts.{apart}
use Rattle.htmd_flow.specs.Grids as grid
use Rattle.htmd_flow.specs.Paragraphs.{Writing, begun, fed_all, blocks_in}
use Rattle.htmd_flow.specs.Parts.{Part, edge, whole}
use Rattle.htmd_flow.specs.TableElements as elements
use Rattle.htmd_flow.specs.Tables as tables
use Rattle.htmd_flow.specs.Nodes.{Node, Row, TablePiece, TermPart, attributes_of}
use Rattle.htmd_flow.specs.Nodes.{blocks_of, block_part, flow_all, of_caption, of_row, gap, of_node}

-- ---- elements of rich documents

-- an element; without blocks it is none
abbrev pub element_part : BlockElement → List BlockAttribute → Blocks → List Part
element_part n attributes no_blocks = []
element_part n attributes (block b bs) = whole (document.element n attributes (block b bs)) ∷ []

-- what a title shows isn't linked to a part of the page from around it, if a usual sign is in it
abbrev pub around_title : Simples → Context → Context
around_title content context =
    if has_elements context && is_linked_to_part context && show_usual_sign content then unlinked context
    else context

-- of a node that may be a title
abbrev pub around_node : Simple → Context → Context
around_node tree context =
    if has roles.is_title tree then around_title (content_of tree) context else context

-- what is in a node gives, and that as blocks of their own
abbrev pub within : Node → Context → List Part
within n context = n.content (around_node n.tree context)

abbrev pub blocks_within : Node → Context → Blocks
blocks_within n context = blocks_of false (within n context)

-- a summary or a caption, as an element of this name
abbrev pub is_title_of : BlockElement → Role → Bool
is_title_of name.Summary r = roles.is_summary r
is_title_of name.FigureCaption r = roles.is_figure_caption r
is_title_of title r = false

abbrev pub title_element : BlockElement → Node → Context → List Part
title_element title n context = apart (element_part title [] (blocks_within n context))

abbrev pub as_title : BlockElement → Node → Node
as_title title n =
    if has (is_title_of title) n.tree then record n { whole = title_element title n } else n

abbrev pub titled : BlockElement → List Node → Context → List Part
titled title nodes context = flow_all (map (as_title title) nodes) context

abbrev pub open_attribute : List AttributePair → List BlockAttribute
open_attribute attributes =
    if has_attribute (codes "open") attributes then elements.attribute_with attribute.Open [] else []

abbrev pub details_parts : List AttributePair → List Node → Context → List Part
details_parts attributes nodes context =
    apart (if has_elements context
    then element_part name.Details (open_attribute attributes)
    (blocks_of false (titled name.Summary nodes context))
    else flow_all nodes context)

-- a title of this kind that shows something
abbrev pub shows_title : BlockElement → Simple → Bool
shows_title title tree = has (is_title_of title) tree && show false (content_of tree)

-- a figure whose caption shows nothing is its content
abbrev pub figure_by : Bool → List Part → List Part
figure_by true parts = element_part name.Figure [] (blocks_of false parts)
figure_by false parts = parts

abbrev pub captioned : List Node → Context → List Part
captioned nodes context =
    figure_by (list_any (λ (n : Node). shows_title name.FigureCaption n.tree) nodes)
    (titled name.FigureCaption nodes context)

abbrev pub figure_parts : List Node → Context → List Part
figure_parts nodes context =
    apart (if has_elements context then captioned nodes context else flow_all nodes context)

-- ---- terms of rich documents

-- a term or what one means, so far as it is begun
pub record Description : Type 0 where
  pub is_term : Bool
  pub content : Writing

-- what comes before the first, and those that are begun
pub record Descriptions : Type 0 where
  pub before : List Part
  pub begun : List Description

abbrev pub no_descriptions : Descriptions
no_descriptions = record { before = []; begun = [] }

abbrev pub description_with : Bool → List Part → Description
description_with is_term parts = record { is_term = is_term; content = fed_all (begun false false) parts }

-- more of the last one
abbrev pub onto_last_description : List Description → List Part → List Description
onto_last_description [] parts = []
onto_last_description (d ∷ []) parts = record d { content = fed_all d.content parts } ∷ []
onto_last_description (d ∷ next ∷ ds) parts = d ∷ onto_last_description (next ∷ ds) parts

abbrev pub ends_with_term : List Description → Bool
ends_with_term [] = false
ends_with_term (d ∷ []) = d.is_term
ends_with_term (d ∷ next ∷ ds) = ends_with_term (next ∷ ds)

-- what shows behind a term is what it means
abbrev pub before_more : Bool → List Description → List Description
before_more shows ds = if shows && ends_with_term ds then ds ++ description_with false [] ∷ [] else ds

-- what stands between them belongs to the one before, as a block of its own
abbrev pub with_between : Context → Descriptions → Node → Descriptions
with_between context d n =
    if nat_lt 0 (length d.begun)
    then record d {
      begun = onto_last_description (before_more (shows false n.tree) d.begun) (edge ∷ flow_all (n ∷ []) context);
    }
    else record d { before = d.before ++ flow_all (n ∷ []) context }

abbrev pub with_described : Context → Descriptions → Node → Descriptions
with_described context d n =
    if has roles.is_term n.tree || has roles.is_meaning n.tree
    then record d {
      begun = d.begun ++ description_with (has roles.is_term n.tree) (within n context) ∷ [];
    }
    else with_between context d n

abbrev pub with_description : Context → Descriptions → TermPart → Descriptions
with_description context d gap = d
with_description context d (of_node n) = with_described context d n

abbrev pub description_element : Description → Block
description_element d =
    document.element (if d.is_term then name.Term else name.Meaning) [] (blocks_in d.content)

abbrev pub is_filled_description : Description → Bool
is_filled_description d = items.is_filled (blocks_in d.content)

-- an element, if something shows in it
abbrev pub element_of_descriptions : List Description → List Part
element_of_descriptions ds =
    if list_any is_filled_description ds
    then whole (document.element name.Terms [] (document.blocks_of (map description_element ds))) ∷ [] else []

abbrev pub parts_of_descriptions : Descriptions → List Part
parts_of_descriptions d = (edge ∷ d.before) ++ apart (element_of_descriptions d.begun)

abbrev pub described_parts : List TermPart → Context → List Part
described_parts parts context = parts_of_descriptions (fold (with_description context) no_descriptions parts)

-- ---- tables of rich documents

abbrev pub rows_in : List TablePiece → List Row
rows_in [] = []
rows_in (of_caption n ∷ pieces) = rows_in pieces
rows_in (of_row r ∷ pieces) = r ∷ rows_in pieces

-- a cell of the row is so
abbrev pub has_cell : (Simple → Bool) → Row → Bool
has_cell is_so r = list_any (λ (n : Node). is_so n.tree) r.cells

-- a cell takes more than one row, if there are some
abbrev pub may_span : Simple → Bool
may_span tree = not (row_span (attributes_of tree) == 1)

-- the next row is of this part
abbrev pub follows_in_part : Option ℕ → List Row → Bool
follows_in_part part [] = false
follows_in_part part (next ∷ rows) = grid.is_same_part part next.part

-- a cell takes more than one row of its part
abbrev pub have_row_spans : List Row → Bool
have_row_spans [] = false
have_row_spans (r ∷ rows) = (has_cell may_span r && follows_in_part r.part rows) || have_row_spans rows

abbrev pub content_shows : Simple → Bool
content_shows tree = show false (content_of tree)

-- captions that show nothing go, and rows, unless a cell spans rows
abbrev pub stays : Bool → TablePiece → Bool
stays has_spans (of_caption n) = content_shows n.tree
stays has_spans (of_row r) = has_spans || has_cell content_shows r

abbrev pub kept_pieces : List TablePiece → List TablePiece
kept_pieces pieces = filter (stays (have_row_spans (rows_in pieces))) pieces

abbrev pub is_header : Bool → Simple → Bool
is_header is_in_head tree = is_in_head || has roles.is_header_cell tree

abbrev pub has_header : Row → Bool
has_header r = has_cell (is_header r.is_in_head) r

abbrev pub is_zero : Option ℤ → Bool
is_zero None = false
is_zero (Some z) = int_eq z (pos 0)

abbrev pub has_border : List AttributePair → Bool
has_border attributes =
    has_attribute (codes "border") attributes && not (is_zero (number_at (codes "border") attributes))

-- a caption, or a row with a header
abbrev pub heads : TablePiece → Bool
heads (of_caption n) = true
heads (of_row r) = has_header r

abbrev pub is_headed : List AttributePair → List TablePiece → Bool
is_headed attributes kept = has_border attributes || list_any heads kept

abbrev pub is_wide : TablePiece → Bool
is_wide (of_caption n) = false
is_wide (of_row r) = nat_lt 1 (length r.cells)

abbrev pub holds_table : TablePiece → Bool
holds_table (of_caption n) = false
holds_table (of_row r) = has_cell (holds (λ f. f.holds_table)) r

-- some row has two cells, and no cell holds a table
abbrev pub may_be_grid : List TablePiece → Bool
may_be_grid kept = list_any is_wide kept && not (list_any holds_table kept)

-- a table for the page's layout, whatever its cells give
abbrev pub is_for_page : List Simple → List AttributePair → List TablePiece → Bool
is_for_page trees attributes kept =
    not (tables.holds_table_alone true trees) || not (is_headed attributes kept || may_be_grid kept)

-- a `td` can say the language of the code in it
abbrev pub in_cell : Simple → Context → Context
in_cell (element id role.Cell facts attributes content) context = beside_code facts.pres attributes context
in_cell tree context = context

-- how many rows a cell takes counts if one takes more than one
abbrev pub cell_with_blocks : Bool → Bool → Context → Node → elements.Cell
cell_with_blocks has_spans is_in_head context n = record {
  is_header = is_header is_in_head n.tree;
  columns = wide_span (attributes_of n.tree);
  rows = if has_spans then row_span (attributes_of n.tree) else 1;
  alignment = alignment (attributes_of n.tree);
  content = blocks_of false (n.content (in_cell n.tree context));
}

abbrev pub piece_with_blocks : Bool → Context → TablePiece → elements.Piece
piece_with_blocks has_spans context (of_caption n) = elements.caption (blocks_within n context)
piece_with_blocks has_spans context (of_row r) =
    elements.row (record { part = r.part; cells = map (cell_with_blocks has_spans r.is_in_head context) r.cells })

abbrev pub pieces_with_blocks : Bool → List TablePiece → Context → List elements.Piece
pieces_with_blocks has_spans kept context = elements.cut_all (map (piece_with_blocks has_spans context) kept)

-- without headers a table whose cells are more than paragraphs is for the page's layout
abbrev pub table_with_blocks : List AttributePair → List TablePiece → List elements.Piece → List Part
    → List Part
table_with_blocks attributes kept made content =
    if is_headed attributes kept || elements.are_paragraphs made
    then block_part (elements.table_of_pieces (has_border attributes) made) else content

abbrev pub kept_table_parts : List Simple → List AttributePair → Bool → List TablePiece → List Node → Context
    → List Part
kept_table_parts trees attributes has_spans kept nodes context =
    if is_for_page trees attributes kept then flow_all nodes context
    else table_with_blocks attributes kept (pieces_with_blocks has_spans kept context) (flow_all nodes context)

abbrev pub rich_table_parts : List Simple → List AttributePair → List TablePiece → List Node → Context
    → List Part
rich_table_parts trees attributes pieces nodes context =
    apart (kept_table_parts trees attributes (have_row_spans (rows_in pieces)) (kept_pieces pieces) nodes context)
