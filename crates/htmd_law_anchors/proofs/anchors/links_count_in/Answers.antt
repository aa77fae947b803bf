use Rattle.htmd_nodes.specs.NumberedTrees.{tree_of}
use Rattle.htmd_shown.specs.SightViews.{sight_with}
use Rattle.htmd_law_documents.proofs.StoredTextsLemmas.{tree-text}
use Rattle.htmd_law_anchors.proofs.LinkMain.{links_count}
use Rattle.htmd_law_anchors.proofs.anchors.links_count_in.Goals as goal

pub returns : goal.returns
returns c =
    links_count c.args.which
    (sight_with c.args.scripting c.args.skip.now c.args.is_rich)
    (tree_of c.args.tree.now 0) (tree-text c.args.tree.now 0 c.root-root.ensures.texts)
