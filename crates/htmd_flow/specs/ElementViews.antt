-- What cells, rows and captions with their blocks stand for.
use Rattle.std.specs.Prelude.{ℕ, List, map}
use Rattle.htmd_document.specs.DocumentViews.{blocks_of}
use Rattle.htmd_flow.specs.declared.table_element.RichCell as cells
use Rattle.htmd_flow.specs.declared.table_element.RichPiece as source
use Rattle.htmd_flow.specs.declared.table_element.RichPiece.TheVariants as pieces
use Rattle.htmd_flow.specs.declared.table_element.RichRow as rows
use Rattle.htmd_flow.specs.declared.table_element.Stretch as stretches
use Rattle.htmd_document.specs.Documents.{Block, Inlines, no_blocks, block}
use Rattle.htmd_flow.specs.TableElements.{Cell, Row, Piece, Stretch, caption, row, cut_row, inlines_in, stretched}

abbrev pub cell_of : cells.RichCell → Cell
cell_of c = record {
  is_header = c.is_header;
  columns = c.columns;
  rows = c.rows;
  alignment = c.alignment;
  content = blocks_of c.content.items;
}

abbrev pub row_of : rows.RichRow → Row
row_of r = record { part = r.part; cells = map cell_of r.cells.items }

abbrev pub piece_of : source.RichPiece → Piece
piece_of (pieces.Caption content) = caption (blocks_of content.items)
piece_of (pieces.Row r) = row (row_of r)

abbrev pub pieces_in : List source.RichPiece → List Piece
pieces_in made = map piece_of made

-- what a block says if it is a paragraph
abbrev pub inlines_in_block : Block → Inlines
inlines_in_block b = inlines_in (block b no_blocks)

abbrev pub stretch_in : stretches.Stretch → Stretch
stretch_in s = record { part = s.part; left = s.left }

-- the stretch from a piece on
abbrev pub stretch_from : Piece → Stretch → Stretch
stretch_from (caption content) s = s
stretch_from (row r) s = stretched r.part s

-- no cell takes more than so many rows
abbrev pub cut_in : ℕ → Piece → Piece
cut_in left (caption content) = caption content
cut_in left (row r) = row (cut_row left r)
