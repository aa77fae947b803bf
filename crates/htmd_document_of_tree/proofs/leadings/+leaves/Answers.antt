use Rattle.std.proofs.Common.{◌+◌, ◌<◌, ◌≤◌, length, sym, ap, ◌∙◌}
use Rattle.htmd_shown.specs.SimpleViews.{simple_of}
use Rattle.std.proofs.Common.{◌||◌}
use Rattle.htmd_document_of_tree.specs.Leadings.{has_leaf}
use Rattle.htmd_document_of_tree.proofs.LeadingsLemmas.{leaf-from, leaf-drop, leaf-end}
use Rattle.htmd_document_of_tree.proofs.leadings.+leaves.Goals as goal

pub have_leaf-loop-tree-preserved : goal.have_leaf-loop-tree-preserved
have_leaf-loop-tree-preserved t c =
    let h : c.loop-tree.tree-index < length c.args.trees.now = c.loop-tree-test.true in
    let rest = leaf-from c.args.is_rich c.args.to_part c.args.layout c.args.trees.now (c.loop-tree.tree-index + 1) in
    let here = c.in_ok-has_leaf.ensures
    ∙ ap (λ flat. has_leaf c.args.is_rich c.args.to_part flat (simple_of c.tree-item.result)) c.is_flat.ensures in
    sym (ap (λ b. b || rest) (sym here ∙ c.if-branch.false))
    ∙ (sym (leaf-drop c.args.is_rich c.args.to_part c.args.layout c.args.trees.now c.loop-tree.tree-index
    c.tree-item.result h c.tree-item.is) ∙ c.loop-tree.invariant)

pub have_leaf-returns-then-branch : goal.have_leaf-returns-then-branch
have_leaf-returns-then-branch t c =
    let h : c.loop-tree.tree-index < length c.args.trees.now = c.loop-tree-test.true in
    let rest = leaf-from c.args.is_rich c.args.to_part c.args.layout c.args.trees.now (c.loop-tree.tree-index + 1) in
    let here = c.in_ok-has_leaf.ensures
    ∙ ap (λ flat. has_leaf c.args.is_rich c.args.to_part flat (simple_of c.tree-item.result)) c.is_flat.ensures in
    sym (ap (λ b. b || rest) (sym here ∙ c.if-branch.true))
    ∙ (sym (leaf-drop c.args.is_rich c.args.to_part c.args.layout c.args.trees.now c.loop-tree.tree-index
    c.tree-item.result h c.tree-item.is) ∙ c.loop-tree.invariant)

pub have_leaf-returns : goal.have_leaf-returns
have_leaf-returns t c =
    let h : length c.args.trees.now ≤ c.loop-tree.tree-index = c.loop-tree-test.false in
    sym (leaf-end c.args.is_rich c.args.to_part c.args.layout c.args.trees.now c.loop-tree.tree-index h)
    ∙ c.loop-tree.invariant
