use Rattle.std.proofs.Common.{◌<◌, ◌≤◌, length, map, refl, sym, ap, ◌∙◌, rules}
use Rattle.htmd_shown.specs.SimpleViews.{simple_of}
use Rattle.std.proofs.lemmas.Result.{IfOk-weaker, on_ok_weaker}
use Rattle.htmd_shown.specs.Kinds.{content_of}
use Rattle.htmd_shown.specs.Pieces.{at_edge, pieces_after, pieces_after_all}
use Rattle.htmd_shown.specs.SimpleTrees.{simples_of}
use Rattle.htmd_document_of_tree.specs.FirstPieces as spec
use Rattle.htmd_document_of_tree.specs.PieceViews.{pieces_of}
use Rattle.htmd_document_of_tree.proofs.FirstPiecesLemmas.{cut_all-walk, pieces_after_all-gone, cut_of_leaf, cut_of_anchor, cut_of_break, cut_of_inside}
use Rattle.htmd_document_of_tree.proofs.WalksLemmas.{gone-more, walk-more, gone-end, walk-end}
use Rattle.htmd_document_of_tree.proofs.first_pieces.+cut.Goals as goal

pub cut-loop-tree-init : goal.cut-loop-tree-init
cut-loop-tree-init t c = record { unvisited = (refl, λ k d low. refl); pieces = refl; trees = refl }

pub cut-loop-tree-preserved : goal.cut-loop-tree-preserved
cut-loop-tree-preserved t c =
    let h : c.loop-tree.tree-index < length c.args.trees.now = c.loop-tree-test.true in
    let from = c.loop-tree.invariant.unvisited in
    let e = c.in_ok-pieces.ensures in
    record {
      unvisited = search rules;
      pieces = rw e.pieces (gone-more pieces_after simple_of _ _ _ _ _ _ h from c.loop-tree.invariant.pieces);
      trees = rw e.pieces
          (walk-more spec.cut pieces_after simple_of _ _ _ _ _ _ _ h from e.tree c.loop-tree.invariant.trees);
    }

pub cut-returns : goal.cut-returns
cut-returns t c =
    let h : length c.args.trees.now ≤ c.loop-tree.tree-index = c.loop-tree-test.false in
    let zs = map simple_of c.args.trees.now in
    record {
      pieces = gone-end pieces_after simple_of _ _ _ _ h c.loop-tree.invariant.pieces
          ∙ sym (pieces_after_all-gone (pieces_of c.args.pieces) zs);
      trees = ap simples_of (walk-end spec.cut pieces_after simple_of _ _ _ _ _ h c.loop-tree.auto.trees
          c.loop-tree.invariant.trees)
          ∙ sym (cut_all-walk (pieces_of c.args.pieces) zs);
    }

pub cut_one-returns-then-is_leaf : goal.cut_one-returns-then-is_leaf
cut_one-returns-then-is_leaf t c =
    let made = cut_of_leaf (pieces_of c.args.pieces) (simple_of c.args.tree.now)
    (sym c.is_leaf.ensures ∙ c.if-is_leaf.true) in
    record {
      pieces = IfOk-weaker c.cut_leaf.result _ _ (λ x e. e ∙ made.pieces) c.cut_leaf.ensures.pieces;
      tree = on_ok_weaker c.cut_leaf.result (λ e. e ∙ made.tree) c.cut_leaf.ensures.tree;
    }

pub cut_one-returns-in_default : goal.cut_one-returns-in_default
cut_one-returns-in_default t c =
    let made = cut_of_anchor (pieces_of c.args.pieces) (simple_of c.args.tree.now)
    (sym c.is_leaf.ensures ∙ c.if-is_leaf.false) (sym c.in_default.ensures) in
    record { pieces = made.pieces; tree = made.tree }

pub cut_one-returns-then-is_line_break : goal.cut_one-returns-then-is_line_break
cut_one-returns-then-is_line_break t c =
    let made = cut_of_break (pieces_of c.args.pieces) c.in-Some.role (simple_of c.args.tree.now)
    (sym c.is_leaf.ensures ∙ c.if-is_leaf.false) (sym c.in-Some.ensures)
    (sym c.is_line_break.ensures ∙ c.if-is_line_break.true) in
    record { pieces = c.with_break.ensures ∙ made.pieces; tree = made.tree }

pub cut_one-returns : goal.cut_one-returns
cut_one-returns t c =
    let tree = simple_of c.args.tree.now in
    let made = cut_of_inside (pieces_of c.args.pieces) c.in-Some.role tree
    (sym c.is_leaf.ensures ∙ c.if-is_leaf.false) (sym c.in-Some.ensures)
    (sym c.is_line_break.ensures ∙ c.if-is_line_break.false) in
    record {
      pieces = c.at_edge-2.ensures
          ∙ (ap (λ q. at_edge c.in-Some.role q) (c.in_ok-after.ensures.pieces
          ∙ ap (λ q. pieces_after_all q (content_of tree)) c.at_edge.ensures) ∙ made.pieces);
      tree = c.in_ok-after.ensures.tree
          ∙ (ap (λ q. spec.with_content tree (spec.cut_all q (content_of tree))) c.at_edge.ensures ∙ made.tree);
    }
