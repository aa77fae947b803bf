-- What the loop of `row` keeps.
use Rattle.std.proofs.Common.{◌≡◌, map, take}
use Rattle.serde_json.specs.View.{items_of, items_view}
use Rattle.htmd_document.specs.DocumentViews.{inlines_of}
use Rattle.htmd_document.specs.Mdast.{cell_data}
use Rattle.htmd_document.proofs.mdast.row.Given as goal

abbrev pub invariant-loop-cell : goal.invariant-loop-cell
invariant-loop-cell l = items_view l.children.items
    ≡ items_of (take l.cell-index (map (λ cell. cell_data (inlines_of cell.items)) l.cells))
