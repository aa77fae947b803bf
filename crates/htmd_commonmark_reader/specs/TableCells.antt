-- What begins and ends a cell, in the header or not.
use Rattle.std.specs.Prelude.{Bool, true, false}
use Rattle.htmd_document.specs.declared.document.Alignment.{Alignment}
use Rattle.htmd_parts.specs.Parts.{Tag, TagEnd, header_cell, cell, header_cell_end}
use Rattle.htmd_parts.specs.Parts as part

abbrev pub cell_begin : Bool → Alignment → Tag
cell_begin true a = header_cell a
cell_begin false a = cell a

abbrev pub cell_end : Bool → TagEnd
cell_end true = header_cell_end
cell_end false = part.cell_end
