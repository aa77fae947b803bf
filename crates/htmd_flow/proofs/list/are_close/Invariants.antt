use Rattle.std.proofs.Common.{◌≡◌, map, drop}
use Rattle.std.specs.List.{list_all}
use Rattle.htmd_flow.specs.ListViews.{item_of}
use Rattle.htmd_flow.specs.Lists as spec
use Rattle.htmd_flow.proofs.list.are_close.Given as goal

abbrev pub invariant-loop-item : goal.invariant-loop-item
invariant-loop-item l =
    list_all spec.is_close (map item_of (drop l.item-index l.items)) ≡ list_all spec.is_close (map item_of l.items)
