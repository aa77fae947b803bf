-- One more cell.
use Rattle.std.proofs.Common.{◌∙◌, ap, ◌∷◌, []}
use Rattle.htmd_commonmark_reader.specs.References.{references_of}
use Rattle.htmd_commonmark_reader.specs.TableCells.{cell_begin, cell_end}
use Rattle.htmd_commonmark_reader.proofs.TablePartsLemmas.{cells-init, cells-turn}
use Rattle.htmd_commonmark_reader.proofs.table_parts.push_row.Goals as goal
use Rattle.htmd_parts.specs.PartViews.{tag_of, end_of, all_parts_of}
use Rattle.htmd_parts.specs.Parts.{ended, row_end}

pub loop-column-init : goal.loop-column-init
loop-column-init c =
    cells-init (references_of c.args.references.now) (cell_begin c.args.is_header) (cell_end c.args.is_header)
    c.args.alignments.now c.args.cells.now (all_parts_of c.args.parts.now.items)
    (all_parts_of c.push_part.new.parts.items) c.in_ok-push_part.ensures

pub loop-column-preserved : goal.loop-column-preserved
loop-column-preserved c =
    cells-turn (references_of c.args.references.now) (cell_begin c.args.is_header) (cell_end c.args.is_header)
    c.args.alignments.now c.args.cells.now c.loop-column.column (all_parts_of c.loop-column.parts.items)
    (all_parts_of c.push_part-in-loop-column.new.parts.items) (all_parts_of c.inlines.new.parts.items)
    (all_parts_of c.push_part-in-loop-column-2.new.parts.items) (ended row_end ∷ []) _ c.index-cells-column.result
    (tag_of c.begin_of_cell-begin.result) c.as_str.result.now (end_of c.end_of_cell.result) c.loop-column-test.true
    c.index-cells-column.is
    (c.begin_of_cell-begin.ensures ∙ ap (cell_begin c.args.is_header) c.alignment_at.ensures) c.as_str.ensures.value
    c.end_of_cell.ensures c.in_ok-push_part-2.ensures c.in_ok-inlines.ensures c.in_ok-push_part-3.ensures
    c.loop-column.invariant
