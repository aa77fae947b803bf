use Rattle.std.proofs.Common.{map}
use Rattle.htmd_nodes.specs.NumberedTrees.{tree_of}
use Rattle.htmd_law_documents.proofs.Main.{text_of_tree}
use Rattle.htmd_law_documents.proofs.StoredTextsLemmas.{tree-text}
use Rattle.htmd_law_documents.proofs.texts.text_of_this_tree.Goals as goal

pub returns : goal.returns
returns c =
    text_of_tree c.args.which
    (record {
      scripting = c.args.scripting;
      skip = map (λ name. name.now) c.args.skip.now;
      is_rich = c.args.is_rich;
    })
    (tree_of c.args.tree.now 0) (tree-text c.args.tree.now 0 c.root-root.ensures.texts)
