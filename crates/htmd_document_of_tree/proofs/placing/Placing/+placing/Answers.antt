use Rattle.std.proofs.Common.{◌<◌, ◌≤◌, length, map, refl, sym, ap, ◌∙◌, rules}
use Rattle.htmd_shown.specs.SimpleViews.{simple_of}
use Rattle.htmd_shown.specs.SimpleTrees.{simples_of}
use Rattle.htmd_document_of_tree.specs.Anchors as spec
use Rattle.htmd_document_of_tree.specs.TargetViews.{placing_of}
use Rattle.htmd_document_of_tree.proofs.AnchorsLemmas.{all_placed-walk, placing_after_all-gone}
use Rattle.htmd_document_of_tree.proofs.WalksLemmas.{gone-more, walk-more, gone-end, walk-end}
use Rattle.htmd_document_of_tree.proofs.placing.Placing.+placing.Goals as goal

pub among-loop-tree-init : goal.among-loop-tree-init
among-loop-tree-init t c =
    record { unvisited = (refl, λ k d low. refl); root = refl; placing = refl; trees = refl }

pub among-loop-tree-preserved : goal.among-loop-tree-preserved
among-loop-tree-preserved t c =
    let h : c.loop-tree.tree-index < length c.args.trees.now = c.loop-tree-test.true in
    let from = c.loop-tree.invariant.unvisited in
    let e = c.in_ok-node.ensures in
    record {
      unvisited = search rules;
      root = search rules;
      placing = rw e.placing (gone-more spec.placing_after simple_of _ _ _ _ _ _ h from c.loop-tree.invariant.placing);
      trees = rw e.placing
          (walk-more spec.placed spec.placing_after simple_of _ _ _ _ _ _ _ h from e.tree c.loop-tree.invariant.trees);
    }

pub among-returns : goal.among-returns
among-returns t c =
    let h : length c.args.trees.now ≤ c.loop-tree.tree-index = c.loop-tree-test.false in
    let zs = map simple_of c.args.trees.now in
    record {
      root = c.loop-tree.invariant.root;
      placing = gone-end spec.placing_after simple_of _ _ _ _ h c.loop-tree.invariant.placing
          ∙ sym (placing_after_all-gone (placing_of c.args.self.now) zs);
      trees = ap simples_of (walk-end spec.placed spec.placing_after simple_of _ _ _ _ _ h c.loop-tree.auto.trees
          c.loop-tree.invariant.trees)
          ∙ sym (all_placed-walk (placing_of c.args.self.now) zs);
    }
