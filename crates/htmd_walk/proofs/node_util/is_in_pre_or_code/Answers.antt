use Rattle.std.proofs.Common.{◌∙◌}
use Rattle.htmd_nodes.specs.Ancestors.{ancestors_of}
use Rattle.htmd_walk.proofs.Nodes.{pre_or_code-among}
use Rattle.htmd_walk.proofs.node_util.is_in_pre_or_code.Goals as goal

pub returns : goal.returns
returns c = c.has_ancestor_of.ensures ∙ pre_or_code-among (ancestors_of c.args.tree.now c.args.node)
