-- What the cells and rows of a table of the source stand for.
use Rattle.std.specs.Prelude.{List, [], ◌∷◌, map, Vec}
use Rattle.std.specs.declared.alloc.Global.{Global}
use Rattle.htmd_document.specs.declared.document.Inline.{Inline}
use Rattle.htmd_flow.specs.declared.grid.Cell as code
use Rattle.htmd_flow.specs.declared.grid.Row as codes
use Rattle.htmd_flow.specs.declared.table_form.TablePart.{TablePart}
use Rattle.htmd_document.specs.Documents.{Inlines}
use Rattle.htmd_document.specs.DocumentViews.{inlines_of}
use Rattle.htmd_flow.specs.Grids.{Cell, Row}

abbrev pub cell_of : code.Cell → Cell
cell_of cell = record {
  content = inlines_of cell.content.items;
  columns = cell.columns;
  rows = cell.rows;
  is_header = cell.is_header;
  alignment = cell.alignment;
}

abbrev pub row_of : codes.Row → Row
row_of row = record { part = row.part; is_in_head = row.is_in_head; cells = map cell_of row.cells.items }

-- a row of these cells, if there are some
abbrev pub filled_row : TablePart → List Cell → List Row
filled_row part [] = []
filled_row part (cell ∷ cells) =
    record { part = part.id; is_in_head = part.is_head; cells = cell ∷ cells } ∷ []

-- cells without spans
abbrev pub line_of : List (Vec Inline Global) → List Inlines
line_of cells = map (λ cell. inlines_of cell.items) cells

abbrev pub lines_of : List (Vec (Vec Inline Global) Global) → List (List Inlines)
lines_of lines = map (λ cells. line_of cells.items) lines
