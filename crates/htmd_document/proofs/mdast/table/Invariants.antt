-- What the loop of `table` keeps.
use Rattle.std.proofs.Common.{◌≡◌, map, take}
use Rattle.serde_json.specs.Data as json
use Rattle.serde_json.specs.View.{items_of, items_view}
use Rattle.htmd_document.specs.DocumentViews.{inlines_of}
use Rattle.htmd_document.specs.Mdast.{row_data}
use Rattle.htmd_document.proofs.mdast.table.Given as goal

abbrev pub invariant-loop-cells : goal.invariant-loop-cells
invariant-loop-cells l = items_view l.children.items
    ≡ json.item (row_data (map (λ cell. inlines_of cell.items) l.header))
    (items_of (take l.cells-index (map (λ row. row_data (map (λ cell. inlines_of cell.items) row.items)) l.rows)))
