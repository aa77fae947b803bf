use Rattle.std.proofs.Common.{◌≡◌, take}
use Rattle.htmd_walk.specs.TableLayouts.{nodes_of}
use Rattle.htmd_walk.specs.TableViews.{parts_view}
use Rattle.htmd_walk.proofs.element_handler.table_layout.nodes_of.Given as goal

abbrev pub invariant-loop-part : goal.invariant-loop-part
invariant-loop-part l = l.nodes.items ≡ nodes_of (parts_view (take l.part-index l.parts))
