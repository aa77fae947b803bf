use Rattle.std.proofs.Common.{arith}
use Rattle.htmd_nodes.proofs.ItemsLemmas.{child_read}
use Rattle.htmd_selectors.proofs.copying.holds_nothing.Goals as goal

pub is_nothing-requires : goal.is_nothing-requires
is_nothing-requires c =
    (child_read c.args.tree.now c.args.node c.children-child-items.result.now c.loop-child.child-index
    c.child-item.result c.children-child-items.ensures.tree c.requires c.children-child-items.ensures.value
    (omega arith) c.child-item.is).1
