use Rattle.std.proofs.Common.{◌≡◌, map}
use Rattle.htmd_document.specs.DocumentViews as views
use Rattle.htmd_flow.specs.ListViews.{item_of}
use Rattle.htmd_flow.specs.Lists as spec
use Rattle.htmd_flow.proofs.list.blocks_of.Given as goal

abbrev pub invariant-loop-item : goal.invariant-loop-item
invariant-loop-item l = map (λ bs. views.blocks_of bs.items) l.blocks.items
    ≡ map (λ (i : spec.ListItem). i.blocks) (map item_of l.yielded)
