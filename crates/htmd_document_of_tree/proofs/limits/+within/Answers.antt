use Rattle.std.proofs.Common.{◌<◌, ◌≤◌, length, map, refl, sym, ap, ◌∙◌, rules}
use Rattle.htmd_shown.specs.SimpleViews.{simple_of}
use Rattle.htmd_shown.specs.SimpleTrees.{simples_of}
use Rattle.htmd_document_of_tree.specs.Limits as spec
use Rattle.htmd_document_of_tree.proofs.LimitsLemmas.{all_within-walk, left_after_all-gone, left_in, within_dear, within_kept}
use Rattle.htmd_document_of_tree.proofs.WalksLemmas.{gone-more, walk-more, gone-end, walk-end}
use Rattle.htmd_document_of_tree.proofs.limits.+within.Goals as goal

pub keep_within-loop-tree-init : goal.keep_within-loop-tree-init
keep_within-loop-tree-init t c = record { unvisited = (refl, λ k d low. refl); left = refl; trees = refl }

pub keep_within-loop-tree-preserved : goal.keep_within-loop-tree-preserved
keep_within-loop-tree-preserved t c =
    let h : c.loop-tree.tree-index < length c.args.trees.now = c.loop-tree-test.true in
    let from = c.loop-tree.invariant.unvisited in
    let e = c.in_ok-left.ensures in
    record {
      unvisited = search rules;
      left = rw e.left (gone-more spec.left_after simple_of _ _ _ _ _ _ h from c.loop-tree.invariant.left);
      trees = rw e.left
          (walk-more spec.within spec.left_after simple_of _ _ _ _ _ _ _ h from e.tree c.loop-tree.invariant.trees);
    }

pub keep_within-returns : goal.keep_within-returns
keep_within-returns t c =
    let h : length c.args.trees.now ≤ c.loop-tree.tree-index = c.loop-tree-test.false in
    let zs = map simple_of c.args.trees.now in
    record {
      left = gone-end spec.left_after simple_of _ _ _ _ h c.loop-tree.invariant.left
          ∙ sym (left_after_all-gone c.args.left zs);
      trees = ap simples_of (walk-end spec.within spec.left_after simple_of _ _ _ _ _ h c.loop-tree.auto.trees
          c.loop-tree.invariant.trees)
          ∙ sym (all_within-walk c.args.left zs);
    }

pub keep_one-returns-then-is_too_dear : goal.keep_one-returns-then-is_too_dear
keep_one-returns-then-is_too_dear t c = record {
  left = c.in_ok-after.ensures.left ∙ left_in c.args.left c.in_ok-left.left _ c.in_ok-left.ensures;
  tree = c.lose_address.ensures ∙ (ap spec.without_address c.in_ok-after.ensures.tree
      ∙ within_dear c.args.left c.in_ok-left.left _ c.in_ok-left.ensures
      (sym c.in_ok-is_too_dear.ensures ∙ c.if-is_too_dear.true));
}

pub keep_one-returns-else-is_too_dear : goal.keep_one-returns-else-is_too_dear
keep_one-returns-else-is_too_dear t c = record {
  left = c.in_ok-after.ensures.left ∙ left_in c.args.left c.in_ok-left.left _ c.in_ok-left.ensures;
  tree = c.in_ok-after.ensures.tree
      ∙ within_kept c.args.left c.in_ok-left.left _ c.in_ok-left.ensures
      (sym c.in_ok-is_too_dear.ensures ∙ c.if-is_too_dear.false);
}
