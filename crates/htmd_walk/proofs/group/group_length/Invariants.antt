use Rattle.std.proofs.Common.{◌≡◌, ◌+◌, ◌-◌, ◌<◌, length, drop, get_or}
use Rattle.htmd_nodes.specs.NumberedTrees.{tree_of}
use Rattle.htmd_walk.specs.Groups.{group_length, joint_of}
use Rattle.htmd_walk.specs.Joints.{optional_joint}
use Rattle.htmd_walk.proofs.group.group_length.Given as goal

abbrev pub invariant-loop-last : goal.invariant-loop-last
invariant-loop-last l = record {
  within : l.last < length l.ids;
  joint : optional_joint l.joint ≡ joint_of (tree_of l.tree (get_or l.ids l.last 0));
  rest : group_length (tree_of l.tree) l.ids ≡ l.last + group_length (tree_of l.tree) (drop l.last l.ids);
}

abbrev pub decreases-loop-last : goal.decreases-loop-last
decreases-loop-last l = length l.ids - l.last
