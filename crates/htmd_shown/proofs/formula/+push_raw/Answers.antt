use Rattle.std.proofs.Common.{◌≤◌, arith, length}
use Rattle.htmd_nodes.specs.NumberedTrees.{tree_of, forest_of, height, tallest}
use Rattle.htmd_shown.proofs.NodesLemmas.{within_at, tallest_item}
use Rattle.htmd_shown.proofs.formula.+push_raw.Goals as goal

pub push_raw_among-push_raw-requires : goal.push_raw_among-push_raw-requires
push_raw_among-push_raw-requires t c =
    let items = c.args.tree.now in
    let ns = c.args.nodes.now in
    let k = c.loop-node.node-index in
    let n = c.node-item.result in
    let h : height (tree_of items n) ≤ tallest (forest_of (tree_of items) ns) =
    tallest_item (tree_of items) ns k n c.loop-node-test.true c.node-item.is in (
      omega (arith, h, c.decreases),
      within_at (length items) ns k n c.requires c.loop-node-test.true c.node-item.is,
    )
