use Rattle.std.proofs.Common.{◌≡◌, take, fold}
use Rattle.htmd_walk.specs.TableLayouts.{with_child, empty_layout}
use Rattle.htmd_walk.specs.TableViews.{layout_view}
use Rattle.htmd_walk.proofs.element_handler.table_layout.layout_of.Given as goal

abbrev pub invariant-loop-child : goal.invariant-loop-child
invariant-loop-child l =
    layout_view l.layout ≡ fold (with_child l.tree) empty_layout (take l.child-index l.child-items)
