use Rattle.std.proofs.Common.{◌≡◌, map, drop}
use Rattle.htmd_flow.specs.ListViews.{item_of}
use Rattle.htmd_flow.specs.Lists as spec
use Rattle.htmd_flow.proofs.list.are_filled.Given as goal

abbrev pub invariant-loop-item : goal.invariant-loop-item
invariant-loop-item l =
    spec.are_filled (map item_of (drop l.item-index l.items)) ≡ spec.are_filled (map item_of l.items)
