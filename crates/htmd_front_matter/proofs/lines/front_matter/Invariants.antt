use Rattle.std.proofs.Common.{◌≡◌, ◌++◌, drop, string_bytes}
use Rattle.std.specs.Prelude.{flat_map}
use Rattle.htmd_nodes.specs.NumberedTrees.{value_at}
use Rattle.htmd_front_matter.specs.Values.{value_in}
use Rattle.htmd_front_matter.specs.Lines.{keys, line_if, front_matter}
use Rattle.htmd_front_matter.proofs.lines.front_matter.Given as goal

abbrev pub invariant-loop-key : goal.invariant-loop-key
invariant-loop-key l =
    string_bytes l.lines ++ flat_map (λ key. line_if key (value_in key (value_at l.tree 0))) (drop l.key-index keys)
    ≡ front_matter l.tree
