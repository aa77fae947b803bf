-- Tables that are elements of a rich page: which of their captions, rows and cells come back.
use Rattle.std.specs.Prelude.{ℕ, suc, Bool, true, false, not, ◌&&◌, ◌||◌, nat_lt, nat_le, List, [], ◌∷◌, ◌++◌}
use Rattle.std.specs.Prelude.{Option}
use Rattle.std.specs.Prelude.{length, filter}
use Rattle.std.specs.List.{list_all, list_any}
use Rattle.std.specs.Str.{bytes_eq}
use Rattle.htmd_lexical.specs.AttributePairs.{AttributePair}
use Rattle.htmd_document.specs.Documents.{element}
use Rattle.htmd_document.specs.Documents.{Blocks, block, BlockAttribute}
use Rattle.htmd_document.specs.declared.document.AttributeName.{AttributeName}
use Rattle.htmd_document.specs.declared.document.AttributeName.TheVariants as attribute
use Rattle.htmd_document.specs.declared.document.BlockElement.{BlockElement}
use Rattle.htmd_document.specs.declared.document.BlockElement.TheVariants as an
use Rattle.htmd_flow.specs.TableElements.{Cell, Piece, caption, row, is_filled_piece, are_paragraphs}
use Rattle.htmd_flow.specs.TableElements.{has_header_alone, cells_of}
use Rattle.htmd_flow.specs.TableElements.{span_attribute, align_attribute, border_attribute}
use Rattle.htmd_shown.specs.Attributes.{wide_span, row_span, alignment}
use Rattle.htmd_law_rendering.specs.RenderedTrees.{pairs_of_element}

-- ---- attributes

abbrev pub is_same_name : AttributeName → AttributeName → Bool
is_same_name attribute.Open attribute.Open = true
is_same_name attribute.Border attribute.Border = true
is_same_name attribute.ColumnSpan attribute.ColumnSpan = true
is_same_name attribute.RowSpan attribute.RowSpan = true
is_same_name attribute.Align attribute.Align = true
is_same_name a b = false

abbrev pub are_same : List BlockAttribute → List BlockAttribute → Bool
are_same [] [] = true
are_same (a ∷ xs) (b ∷ ys) = (is_same_name a.name b.name && bytes_eq a.value b.value) && are_same xs ys
are_same xs ys = false

-- a border of 1, or none
abbrev pub is_border_at_most : List BlockAttribute → Bool
is_border_at_most [] = true
is_border_at_most attributes = are_same (border_attribute true) attributes

-- how many columns and rows a cell takes, if more than one, and how it is aligned, as a page's document says it
abbrev pub cell_attributes : List AttributePair → List BlockAttribute
cell_attributes pairs =
    (span_attribute attribute.ColumnSpan (wide_span pairs) ++ span_attribute attribute.RowSpan (row_span pairs))
    ++ align_attribute (alignment pairs)

abbrev pub are_of_cell : List BlockAttribute → Bool
are_of_cell attributes = are_same (cell_attributes (pairs_of_element attributes)) attributes

abbrev pub is_row_span : AttributeName → Bool
is_row_span attribute.RowSpan = true
is_row_span name = false

-- how many rows it says that it takes is read as it is, as each number up to 65,534
abbrev pub rows_are_read : List BlockAttribute → Bool
rows_are_read attributes =
    are_same (span_attribute attribute.RowSpan (row_span (pairs_of_element attributes)))
    (filter (λ (a : BlockAttribute). is_row_span a.name) attributes)

-- ---- rows

abbrev pub is_header_cell : BlockElement → Bool
is_header_cell an.HeaderCell = true
is_header_cell name = false

-- the cells of a row, as they are read
abbrev pub cells_in : Blocks → List Cell
cells_in (block (element name attributes content) bs) = record {
  is_header = is_header_cell name;
  columns = wide_span (pairs_of_element attributes);
  rows = row_span (pairs_of_element attributes);
  alignment = alignment (pairs_of_element attributes);
  content = content;
} ∷ cells_in bs
cells_in bs = []

-- the captions of a table, and its rows, in this part of it
abbrev pub rows_in : Option ℕ → Blocks → List Piece
rows_in part (block (element an.Caption attributes content) bs) = caption content ∷ rows_in part bs
rows_in part (block (element name attributes cells) bs) =
    row (record { part = part; cells = cells_in cells }) ∷ rows_in part bs
rows_in part bs = []

-- a caption, or a row with a header cell
abbrev pub has_header : Piece → Bool
has_header (caption content) = true
has_header (row r) = list_any (λ (c : Cell). c.is_header) r.cells

abbrev pub is_wide : Piece → Bool
is_wide p = nat_lt 1 (length (cells_of p))

-- it has a border, captions or headers, or is one of paragraphs in columns: else it is for the page's layout
abbrev pub is_told : List BlockAttribute → List Piece → Bool
is_told [] rows = list_any has_header rows || (are_paragraphs rows && list_any is_wide rows)
is_told attributes rows = true

-- how many rows there are
abbrev pub row_count : List Piece → ℕ
row_count [] = 0
row_count (caption content ∷ pieces) = row_count pieces
row_count (row r ∷ pieces) = suc (row_count pieces)

-- a cell takes one row or more, and no more than are left
abbrev pub fits : ℕ → Cell → Bool
fits left c = nat_lt 0 c.rows && nat_le c.rows left

-- no cell takes rows past the last
abbrev pub have_fitting_cells : List Piece → Bool
have_fitting_cells [] = true
have_fitting_cells (caption content ∷ pieces) = have_fitting_cells pieces
have_fitting_cells (row r ∷ pieces) =
    list_all (fits (suc (row_count pieces))) r.cells && have_fitting_cells pieces

-- how many rows come before the next caption, or the end
abbrev pub rows_ahead : List Piece → ℕ
rows_ahead (row r ∷ pieces) = suc (rows_ahead pieces)
rows_ahead pieces = 0

-- no cell takes rows past the last or past a caption
abbrev pub end_at_captions : List Piece → Bool
end_at_captions [] = true
end_at_captions (caption content ∷ pieces) = end_at_captions pieces
end_at_captions (row r ∷ pieces) = list_all (fits (suc (rows_ahead pieces))) r.cells && end_at_captions pieces

-- a cell takes more than one row
abbrev pub takes_more : Cell → Bool
takes_more c = nat_lt 1 c.rows

abbrev pub is_tall : Piece → Bool
is_tall p = list_any takes_more (cells_of p)

-- something stands in a row or a caption, and in each unless a cell takes more than one row
abbrev pub are_filled_rows : List Piece → Bool
are_filled_rows rows = list_any is_filled_piece rows && (list_any is_tall rows || list_all is_filled_piece rows)

-- its rows are filled, no cell takes rows past the last, it isn't for layout, and not of GitHub's form
abbrev pub are_rows_of_element : List BlockAttribute → List Piece → Bool
are_rows_of_element attributes rows =
    are_filled_rows rows && have_fitting_cells rows && is_told attributes rows
    && not (are_paragraphs rows && has_header_alone rows)
