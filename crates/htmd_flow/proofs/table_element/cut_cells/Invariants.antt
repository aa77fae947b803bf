use Rattle.std.proofs.Common.{◌≡◌, ◌++◌, take, drop, map}
use Rattle.htmd_flow.specs.ElementViews as views
use Rattle.htmd_flow.specs.TableElements as spec
use Rattle.htmd_flow.proofs.table_element.cut_cells.Given as goal

abbrev pub invariant-loop-cell : goal.invariant-loop-cell
invariant-loop-cell l =
    map views.cell_of l.cells
    ≡ map (spec.cut_cell l.left) (map views.cell_of (take l.cell-index l.initial.cells))
    ++ map views.cell_of (drop l.cell-index l.initial.cells)
