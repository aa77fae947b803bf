use Rattle.std.proofs.Common.{◌≡◌, map}
use Rattle.htmd_document.specs.DocumentViews.{block_of}
use Rattle.htmd_flow.specs.TableElements as spec
use Rattle.htmd_flow.specs.ElementViews as views
use Rattle.htmd_flow.proofs.table_element.cell_elements.Given as goal

abbrev pub invariant-loop-cell : goal.invariant-loop-cell
invariant-loop-cell l = map block_of l.elements.items ≡ map spec.cell_element (map views.cell_of l.yielded)
