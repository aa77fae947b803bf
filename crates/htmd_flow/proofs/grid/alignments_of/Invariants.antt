-- The columns of the cells so far.
use Rattle.std.proofs.Common.{◌≡◌, ◌++◌, drop, map, replicate}
use Rattle.std.specs.List.{flat_map}
use Rattle.htmd_flow.specs.GridViews.{cell_of}
use Rattle.htmd_flow.specs.Grids.{Cell}
use Rattle.htmd_flow.proofs.grid.alignments_of.Given as goal

abbrev pub invariant-loop-cell : goal.invariant-loop-cell
invariant-loop-cell l =
    l.alignments.items
    ++ flat_map (λ (c : Cell). replicate c.columns c.alignment) (map cell_of (drop l.cell-index l.cell-items))
    ≡ flat_map (λ (c : Cell). replicate c.columns c.alignment) (map cell_of l.cell-items)
