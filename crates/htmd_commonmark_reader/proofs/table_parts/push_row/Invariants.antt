-- With the cells that are left, the row is written.
use Rattle.std.proofs.Common.{◌≡◌, ◌++◌, [], ◌∷◌}
use Rattle.htmd_commonmark_reading.specs.Lists.{cell_inlines}
use Rattle.htmd_commonmark_reader.specs.References.{references_of}
use Rattle.htmd_commonmark_reader.specs.Rows.{strings}
use Rattle.htmd_commonmark_reader.specs.TableCells.{cell_begin, cell_end}
use Rattle.htmd_commonmark_reader.proofs.TablePartsLemmas.{cells_from}
use Rattle.htmd_commonmark_reader.proofs.table_parts.push_row.Given as goal
use Rattle.htmd_parts.specs.PartViews.{all_parts_of}
use Rattle.htmd_parts.specs.Parts.{ended, row_end, row_parts}

abbrev pub invariant-loop-column : goal.invariant-loop-column
invariant-loop-column l =
    cells_from (references_of l.references) (cell_begin l.is_header) (cell_end l.is_header) l.alignments l.column
    l.cells (all_parts_of l.parts.items) (ended row_end ∷ [])
    ≡ all_parts_of l.fn.parts.items ++ row_parts (cell_begin l.is_header) (cell_end l.is_header) l.alignments
    (cell_inlines (references_of l.references) (strings l.cells)) []
