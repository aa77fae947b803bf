-- Cells of a row of the source.
use Rattle.std.specs.Prelude.{List, filter}
use Rattle.htmd_shown.specs.declared.simple.Simple as source
use Rattle.htmd_flow.specs.Flows.{Node, is_cell}
use Rattle.htmd_flow.specs.FlowViews.{nodes_at}

abbrev pub cells_at : List source.Simple → List Node
cells_at row = filter is_cell (nodes_at row)
