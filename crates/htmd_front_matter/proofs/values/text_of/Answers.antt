use Rattle.std.proofs.Common.{◌∙◌, ap, sym, Some, string_bytes}
use Rattle.htmd_nodes.specs.Items.{text_node, children_of}
use Rattle.htmd_nodes.specs.NumberedTrees.{tree_of, forest_of}
use Rattle.htmd_nodes.specs.Views.{data_of}
use Rattle.htmd_front_matter.specs.Values.{text_of}
use Rattle.htmd_nodes.proofs.SearchLemmas.{value-node}
use Rattle.htmd_front_matter.proofs.ValuesLemmas.{text-other}
use Rattle.htmd_front_matter.proofs.values.text_of.Goals as goal

pub returns-in-Text : goal.returns-in-Text
returns-in-Text c =
    ap Some c.as_str.ensures.value
    ∙ sym (ap text_of (value-node c.args.tree.now c.args.node (text_node (string_bytes c.in-Text.text))
    c.data.ensures.tree c.requires (sym (ap data_of c.in-Text.is) ∙ c.data.ensures.value)))

pub returns-in_default : goal.returns-in_default
returns-in_default c =
    sym (ap text_of (value-node c.args.tree.now c.args.node (data_of c.data.result.now) c.data.ensures.tree c.requires
    c.data.ensures.value)
    ∙ text-other c.args.node c.data.result.now
    (forest_of (tree_of c.args.tree.now) (children_of c.args.tree.now c.args.node)) c.in_default.not-Text)
