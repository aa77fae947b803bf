-- No source so far said something.
use Rattle.std.proofs.Common.{◌≡◌, drop, map}
use Rattle.htmd_nodes.specs.NumberedTrees.{value_at}
use Rattle.htmd_front_matter.specs.Sources.{source_of}
use Rattle.htmd_front_matter.specs.Values.{first_said, value_in}
use Rattle.htmd_front_matter.proofs.values.value_in.Given as goal

abbrev pub invariant-loop-source : goal.invariant-loop-source
invariant-loop-source l =
    first_said (map source_of (drop l.source-index l.source-items)) (value_at l.tree 0)
    ≡ value_in l.fn.key (value_at l.tree 0)
