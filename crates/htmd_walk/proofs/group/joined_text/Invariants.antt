use Rattle.std.proofs.Common.{◌≡◌, take, string_bytes}
use Rattle.htmd_nodes.specs.NumberedTrees.{tree_of}
use Rattle.htmd_walk.specs.Groups.{texts_of}
use Rattle.htmd_walk.proofs.group.joined_text.Given as goal

abbrev pub invariant-loop-id : goal.invariant-loop-id
invariant-loop-id l = string_bytes l.joined ≡ texts_of (tree_of l.tree) (take l.id-index l.ids)
