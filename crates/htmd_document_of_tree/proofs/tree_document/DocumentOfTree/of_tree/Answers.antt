-- What shows, within its budget, with anchors and each link around its first pieces, and the blocks of that.
use Rattle.std.proofs.Common.{◌∙◌, ap}
use Rattle.std.proofs.lemmas.List.{with_items_is}
use Rattle.htmd_flow.specs.Flows as flow
use Rattle.htmd_shown.specs.SimpleViews.{simples_of}
use Rattle.htmd_document_of_tree.specs.Anchors.{anchored}
use Rattle.htmd_document_of_tree.specs.FirstPieces.{pieced_all}
use Rattle.htmd_document_of_tree.specs.Limits.{limited}
use Rattle.htmd_document_of_tree.specs.TreeDocuments.{document_by, document_of_tree}
use Rattle.htmd_document_of_tree.proofs.tree_document.DocumentOfTree.of_tree.Goals as goal

pub returns : goal.returns
unfolding document_by document_of_tree
returns c =
    let limited_trees = with_items_is c.in_ok-trees.trees c.limit.new.trees
    (c.limit.auto.trees ∙ c.deref_mut.ensures.len) in
    let pieced_trees = with_items_is c.put_anchors.new.trees c.piece.new.trees
    (c.piece.auto.trees ∙ c.deref_mut-2.ensures.len) in
    record {
      ok = c.in_ok-blocks.ensures
          ∙ ap (flow.document_of c.args.rich) (ap simples_of (c.deref.ensures.value ∙ pieced_trees)
          ∙ (c.in_ok-piece.ensures
          ∙ ap pieced_all (ap simples_of c.deref_mut-2.ensures.value ∙ (c.in_ok-put_anchors.ensures
          ∙ ap (anchored c.args.anchors c.args.rich) (ap simples_of limited_trees ∙ (c.in_ok-limit.ensures
          ∙ ap limited (ap simples_of c.deref_mut.ensures.value ∙ c.in_ok-trees.ensures)))))));
    }
