use Rattle.std.proofs.Common.{◌≡◌, ◌++◌, map, drop}
use Rattle.htmd_flow.specs.TableElements as spec
use Rattle.htmd_flow.specs.ElementViews as views
use Rattle.htmd_flow.proofs.table_element.cell_alignments.Given as goal

abbrev pub invariant-loop-cell : goal.invariant-loop-cell
invariant-loop-cell l =
    l.alignments.items ++ map spec.alignment_in (map views.cell_of (drop l.cell-index l.cells))
    ≡ map spec.alignment_in (map views.cell_of l.cells)
