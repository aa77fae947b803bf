use Rattle.std.proofs.Common.{arith}
use Rattle.htmd_nodes.proofs.ItemsLemmas.{child_read}
use Rattle.htmd_walk.proofs.element_handler.preformatted.is_code_alone.Goals as goal

pub tag_name-requires : goal.tag_name-requires
tag_name-requires c =
    let child = child_read c.args.element.now.tree.now c.args.element.now.node c.children.result.now 0
    c.child-item.result c.children.ensures.tree c.args.element.now.within c.children.ensures.value
    (omega (arith, c.in-len1.len_at_least)) c.child-item.is in
    child.1
