use Rattle.std.proofs.Common.{◌<◌, ◌≤◌, length}
use Rattle.htmd_shown.specs.SimpleViews.{simple_of}
use Rattle.htmd_document_of_tree.proofs.TextBytesLemmas.{one-more, at-once, at-end}
use Rattle.htmd_document_of_tree.proofs.limits.+bytes.Goals as goal

pub text_bytes-loop-tree-preserved : goal.text_bytes-loop-tree-preserved
text_bytes-loop-tree-preserved t c =
    let h : c.loop-tree.tree-index < length c.args.trees.now = c.loop-tree-test.true in
    one-more simple_of _ _ _ _ _ _ h c.tree-item.is c.text_bytes_of-count.ensures c.loop-tree.invariant

pub text_bytes-returns : goal.text_bytes-returns
text_bytes-returns t c =
    let h : length c.args.trees.now ≤ c.loop-tree.tree-index = c.loop-tree-test.false in
    at-end simple_of _ _ _ _ h c.loop-tree.invariant

pub text_bytes-returns-then-count-enough : goal.text_bytes-returns-then-count-enough
text_bytes-returns-then-count-enough t c = at-once simple_of _ _ _ _ c.loop-tree.invariant
