use Rattle.std.proofs.Common.{◌≡◌, ◌++◌, drop, map, string_bytes}
use Rattle.std.specs.Prelude.{flat_map}
use Rattle.htmd_nodes.specs.NumberedTrees.{value_at}
use Rattle.htmd_front_matter.specs.Values.{value_in}
use Rattle.htmd_front_matter.specs.Lines.{keys}
use Rattle.htmd_front_matter.specs.Objects.{member_if, members}
use Rattle.htmd_front_matter.proofs.objects.members_of.Given as goal

abbrev pub invariant-loop-key : goal.invariant-loop-key
invariant-loop-key l =
    map string_bytes l.members.items
    ++ flat_map (λ key. member_if key (value_in key (value_at l.tree 0))) (drop l.key-index keys) ≡ members l.tree
