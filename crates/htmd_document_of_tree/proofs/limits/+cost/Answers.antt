use Rattle.std.proofs.Common.{◌<◌, ◌≤◌, length}
use Rattle.htmd_shown.specs.SimpleViews.{simple_of}
use Rattle.htmd_document_of_tree.proofs.CoversLemmas.{covers_more, covers_all}
use Rattle.htmd_document_of_tree.proofs.limits.+cost.Goals as goal

pub most_cost-loop-tree-preserved : goal.most_cost-loop-tree-preserved
most_cost-loop-tree-preserved t c =
    let h : c.loop-tree.tree-index < length c.args.trees.now = c.loop-tree-test.true in
    covers_more simple_of _ _ _ _ _ _ h c.tree-item.is c.in_ok-count.ensures c.loop-tree.invariant

pub most_cost-returns : goal.most_cost-returns
most_cost-returns t c =
    let h : length c.args.trees.now ≤ c.loop-tree.tree-index = c.loop-tree-test.false in
    covers_all simple_of _ _ _ _ h c.loop-tree.invariant
