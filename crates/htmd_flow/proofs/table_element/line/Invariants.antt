use Rattle.std.proofs.Common.{◌≡◌, map}
use Rattle.htmd_flow.specs.GridViews.{line_of}
use Rattle.htmd_flow.specs.TableElements as spec
use Rattle.htmd_flow.specs.ElementViews as views
use Rattle.htmd_flow.proofs.table_element.line.Given as goal

abbrev pub invariant-loop-cell : goal.invariant-loop-cell
invariant-loop-cell l = line_of l.line.items ≡ map spec.cell_line (map views.cell_of l.yielded)
