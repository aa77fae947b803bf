use Rattle.std.proofs.Common.{Some, ap, ◌∙◌}
use Rattle.std.proofs.lemmas.List.{take_all}
use Rattle.htmd_nodes.specs.NumberedTrees.{tree_of}
use Rattle.htmd_walk.specs.Groups.{texts_of}
use Rattle.htmd_walk.proofs.GroupsLemmas.{group_text-some}
use Rattle.htmd_walk.proofs.group.joined_text.Goals as goal

pub returns : goal.returns
returns c =
    ap Some (c.loop-id.invariant
    ∙ ap (texts_of (tree_of c.args.tree.now)) (take_all c.loop-id.id-index c.args.ids.now c.loop-id-test.false))
    ∙ group_text-some (tree_of c.args.tree.now) c.args.ids.now c.if-ids-eq1.false
