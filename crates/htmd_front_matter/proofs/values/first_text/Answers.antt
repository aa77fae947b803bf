use Rattle.std.proofs.Common.{rules, ◌<◌, length}
use Rattle.htmd_nodes.proofs.ItemsLemmas.{child_read}
use Rattle.htmd_front_matter.proofs.values.first_text.Goals as goal

pub text_of-requires : goal.text_of-requires
text_of-requires c =
    let filled : 0 < length c.children-children.result.now = search rules in
    let below = child_read c.args.tree.now c.args.node c.children-children.result.now 0 c.index-children-0.result
    c.children-children.ensures.tree c.requires c.children-children.ensures.value filled c.index-children-0.is in
    below.1
