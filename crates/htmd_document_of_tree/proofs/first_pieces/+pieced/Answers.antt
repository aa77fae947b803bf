use Rattle.std.proofs.Common.{◌<◌, ◌≤◌, length, map, refl, sym, ap, ◌∙◌, rules}
use Rattle.htmd_shown.specs.SimpleViews.{simple_of}
use Rattle.std.proofs.lemmas.Result.{on_ok_weaker}
use Rattle.htmd_shown.specs.SimpleTrees.{simples_of}
use Rattle.htmd_document_of_tree.proofs.FirstPiecesLemmas.{pieced_one, same, pieced_all-walk, pieced_long, pieced_short}
use Rattle.htmd_document_of_tree.proofs.WalksLemmas.{walk-more, walk-end}
use Rattle.htmd_document_of_tree.proofs.first_pieces.+pieced.Goals as goal

pub piece-loop-tree-init : goal.piece-loop-tree-init
piece-loop-tree-init t c = record { unvisited = (refl, λ k d low. refl); trees = refl }

pub piece-loop-tree-preserved : goal.piece-loop-tree-preserved
piece-loop-tree-preserved t c =
    let h : c.loop-tree.tree-index < length c.args.trees.now = c.loop-tree-test.true in
    let from = c.loop-tree.invariant.unvisited in
    record {
      unvisited = search rules;
      trees = walk-more pieced_one same simple_of _ _ _ 0 _ _ _ h from c.in_ok-piece_one.ensures
          c.loop-tree.invariant.trees;
    }

pub piece-returns : goal.piece-returns
piece-returns t c =
    let h : length c.args.trees.now ≤ c.loop-tree.tree-index = c.loop-tree-test.false in
    ap simples_of (walk-end pieced_one same simple_of _ _ _ 0 _ h c.loop-tree.auto.trees c.loop-tree.invariant.trees)
    ∙ sym (pieced_all-walk 0 (map simple_of c.args.trees.now))

pub piece_one-returns-then-is_link : goal.piece_one-returns-then-is_link
piece_one-returns-then-is_link t c =
    c.in_ok-cut_content.ensures.tree
    ∙ pieced_long (simple_of c.args.tree.now) (sym c.is_link.ensures ∙ c.if-is_link.true)

pub piece_one-returns : goal.piece_one-returns
piece_one-returns t c =
    on_ok_weaker c.piece_content.result
    (λ e. e ∙ pieced_short (simple_of c.args.tree.now) (sym c.is_link.ensures ∙ c.if-is_link.false))
    c.piece_content.ensures
