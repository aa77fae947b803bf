-- Tables of rich documents: cells hold blocks.
use Rattle.std.specs.Prelude.{ℕ, ◌+◌, ◌==◌, Bool, true, false, not, ◌&&◌, ◌||◌, nat_lt, nat_le, min, if◌then◌else◌}
use Rattle.std.specs.Prelude.{List, [], ◌∷◌, ◌++◌, length, map, Option, Some, None, codes}
use Rattle.std.specs.Fmt.{decimal}
use Rattle.std.specs.List.{list_all, list_any}
use Rattle.htmd_document.specs.declared.document.Alignment.{Alignment}
use Rattle.htmd_document.specs.declared.document.Alignment.TheVariants as align
use Rattle.htmd_document.specs.declared.document.AttributeName.{AttributeName}
use Rattle.htmd_document.specs.declared.document.AttributeName.TheVariants as attribute
use Rattle.htmd_document.specs.declared.document.BlockElement.TheVariants as name
use Rattle.htmd_document.specs.Documents.{BlockAttribute, Inlines, no_inlines, Block, paragraph, element}
use Rattle.htmd_document.specs.Documents.{Blocks, no_blocks, block, blocks_of}
use Rattle.htmd_document.specs.TightItems.{is_filled, is_paragraph}
use Rattle.htmd_flow.specs.Grids.{is_same_part, table_of_all}

-- a cell: how many columns and rows it takes (0: all further ones of its part), how it is aligned, and its blocks
pub record Cell : Type 0 where
  pub is_header : Bool
  pub columns : ℕ
  pub rows : ℕ
  pub alignment : Alignment
  pub content : Blocks

-- the cells of a row, and the number of the part of the table that it stands in
pub record Row : Type 0 where
  pub part : Option ℕ
  pub cells : List Cell

-- what stands in a table, in order
pub data Piece : Type 0 where
  caption : (content : Blocks) → Piece
  row : (r : Row) → Piece

-- ---- no cell takes rows past its part

-- the part of a row, and how many rows of it there are from that one on
pub record Stretch : Type 0 where
  pub part : Option ℕ
  pub left : ℕ

abbrev pub no_stretch : Stretch
no_stretch = record { part = None; left = 0 }

-- from a row of this part on, before rows of that stretch
abbrev pub stretched : Option ℕ → Stretch → Stretch
stretched part s =
    record { part = part; left = if nat_lt 0 s.left && is_same_part part s.part then s.left + 1 else 1 }

-- from the first row on
abbrev pub stretch_of : List Piece → Stretch
stretch_of [] = no_stretch
stretch_of (caption content ∷ pieces) = stretch_of pieces
stretch_of (row r ∷ pieces) = stretched r.part (stretch_of pieces)

abbrev pub rows_within : ℕ → ℕ → ℕ
rows_within left rows = if rows == 0 then left else min rows left

abbrev pub cut_cell : ℕ → Cell → Cell
cut_cell left c = record c { rows = rows_within left c.rows }

abbrev pub cut_row : ℕ → Row → Row
cut_row left r = record r { cells = map (cut_cell left) r.cells }

-- before rows of this stretch
abbrev pub cut_piece : Stretch → Piece → Piece
cut_piece s (caption content) = caption content
cut_piece s (row r) = row (cut_row (stretched r.part s).left r)

abbrev pub cut_all : List Piece → List Piece
cut_all [] = []
cut_all (p ∷ pieces) = cut_piece (stretch_of pieces) p ∷ cut_all pieces

-- ---- GitHub's form

-- a paragraph at most
abbrev pub is_paragraph_at_most : Blocks → Bool
is_paragraph_at_most no_blocks = true
is_paragraph_at_most (block b no_blocks) = is_paragraph b
is_paragraph_at_most (block b (block c bs)) = false

abbrev pub is_paragraph_cell : Cell → Bool
is_paragraph_cell c = is_paragraph_at_most c.content

-- each cell is a paragraph at most
abbrev pub holds_paragraphs : Piece → Bool
holds_paragraphs (caption content) = true
holds_paragraphs (row r) = list_all is_paragraph_cell r.cells

abbrev pub are_paragraphs : List Piece → Bool
are_paragraphs pieces = list_all holds_paragraphs pieces

-- it takes more than one column or row
abbrev pub spans : Cell → Bool
spans c = nat_lt 1 c.columns || nat_lt 1 c.rows

-- a cell of the header, and one below it
abbrev pub is_in_header : Cell → Bool
is_in_header c = c.is_header && not (spans c)

abbrev pub is_in_body : Cell → Bool
is_in_body c = not c.is_header && not (spans c)

-- a row below a header of so many cells
abbrev pub fits_below : ℕ → Piece → Bool
fits_below columns (caption content) = false
fits_below columns (row r) = nat_le (length r.cells) columns && list_all is_in_body r.cells

-- there are rows alone; the first one, and no other, is of header cells, none has more cells, and no cell spans
abbrev pub has_header_alone : List Piece → Bool
has_header_alone [] = false
has_header_alone (caption content ∷ pieces) = false
has_header_alone (row first ∷ pieces) =
    list_all is_in_header first.cells && list_all (fits_below (length first.cells)) pieces

-- what a cell says in one paragraph
abbrev pub inlines_in : Blocks → Inlines
inlines_in (block (paragraph content) bs) = content
inlines_in _ = no_inlines

abbrev pub cell_line : Cell → Inlines
cell_line c = inlines_in c.content

abbrev pub cells_of : Piece → List Cell
cells_of (caption content) = []
cells_of (row r) = r.cells

abbrev pub line_of : Piece → List Inlines
line_of p = map cell_line (cells_of p)

abbrev pub alignment_in : Cell → Alignment
alignment_in c = c.alignment

-- the cells of the first row say how columns are aligned
abbrev pub alignments_of : List Piece → List Alignment
alignments_of [] = []
alignments_of (first ∷ pieces) = map alignment_in (cells_of first)

abbrev pub table_of_lines : List Piece → Option Block
table_of_lines pieces = table_of_all (alignments_of pieces) true (map line_of pieces)

-- ---- elements

abbrev pub attribute_with : AttributeName → List ℕ → List BlockAttribute
attribute_with a value = record { name = a; value = value } ∷ []

-- how many columns or rows it takes, if more than one
abbrev pub span_attribute : AttributeName → ℕ → List BlockAttribute
span_attribute a n = if nat_lt 1 n then attribute_with a (decimal n) else []

abbrev pub alignment_name : Alignment → Option (List ℕ)
alignment_name align.None = None
alignment_name align.Left = Some (codes "left")
alignment_name align.Center = Some (codes "center")
alignment_name align.Right = Some (codes "right")

abbrev pub attribute_if : AttributeName → Option (List ℕ) → List BlockAttribute
attribute_if a None = []
attribute_if a (Some value) = attribute_with a value

abbrev pub align_attribute : Alignment → List BlockAttribute
align_attribute alignment = attribute_if attribute.Align (alignment_name alignment)

abbrev pub cell_element : Cell → Block
cell_element c =
    element (if c.is_header then name.HeaderCell else name.Cell)
    ((span_attribute attribute.ColumnSpan c.columns ++ span_attribute attribute.RowSpan c.rows)
    ++ align_attribute c.alignment)
    c.content

abbrev pub piece_element : Piece → Block
piece_element (caption content) = element name.Caption [] content
piece_element (row r) = element name.Row [] (blocks_of (map cell_element r.cells))

-- something shows in it
abbrev pub is_filled_cell : Cell → Bool
is_filled_cell c = is_filled c.content

abbrev pub is_filled_piece : Piece → Bool
is_filled_piece (caption content) = is_filled content
is_filled_piece (row r) = list_any is_filled_cell r.cells

abbrev pub border_attribute : Bool → List BlockAttribute
border_attribute has_border = if has_border then attribute_with attribute.Border (codes "1") else []

-- an element, if something shows in it
abbrev pub table_of_elements : Bool → List Piece → Option Block
table_of_elements has_border pieces =
    if list_any is_filled_piece pieces
    then Some (element name.Table (border_attribute has_border) (blocks_of (map piece_element pieces)))
    else None

-- GitHub's table, if that says all
abbrev pub table_of_pieces : Bool → List Piece → Option Block
table_of_pieces has_border pieces =
    if are_paragraphs pieces && has_header_alone pieces
    then table_of_lines pieces else table_of_elements has_border pieces
