-- Each child of the root is a node of the tree.
use Rattle.std.proofs.Common.{rules}
use Rattle.htmd.proofs.ChildListsLemmas.{child_within}
use Rattle.htmd_cli.proofs.explanations.explain_main_content.Goals as goal

pub data-requires : goal.data-requires
data-requires g c =
    let ids = c.children-node-items in
    child_within c.args.article.now.tree c.root.result ids.result.now c.loop-node.node-index c.node-item.result
    ids.ensures.tree (search rules) ids.ensures.value c.loop-node-test.true c.node-item.is
