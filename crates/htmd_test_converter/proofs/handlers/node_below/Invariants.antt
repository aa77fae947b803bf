-- As many steps as are left lead from here to where all lead from the node.
use Rattle.std.proofs.Common.{◌≡◌, ◌<◌, ◌+◌, ℕ, length}
use Rattle.htmd_test_converter.specs.Plans.{down}
use Rattle.htmd_test_converter.proofs.handlers.node_below.Given as goal

abbrev pub invariant-loop : goal.invariant-loop
invariant-loop l = (l.below < length l.tree)
    × ((n : ℕ) → n + l.counter ≡ l.levels → down l.tree n l.below ≡ down l.tree l.levels l.fn.node)
