use Rattle.std.proofs.Common.{sym, ap, ◌∙◌}
use Rattle.htmd_nodes.specs.Views.{data_of}
use Rattle.htmd_walk.proofs.Nodes.{is_block_tree-open, is_block_content, not_block}
use Rattle.htmd_walk.proofs.node_util.is_block.Goals as goal

pub returns-in-Element : goal.returns-in-Element
returns-in-Element c =
    c.is_block_name.ensures
    ∙ sym (is_block_tree-open c.args.tree.now c.data.ensures.tree c.args.node c.requires
    ∙ ap is_block_content (sym c.data.ensures.value ∙ ap data_of c.in-Element.is))

pub returns-in_default : goal.returns-in_default
returns-in_default c =
    sym (is_block_tree-open c.args.tree.now c.data.ensures.tree c.args.node c.requires
    ∙ ap is_block_content (sym c.data.ensures.value) ∙ not_block c.data.result.now c.in_default.not-Element)
