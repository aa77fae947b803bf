-- No child that was met is this one.
use Rattle.std.proofs.Common.{◌≡◌, ℕ, false, List, ◌++◌, length}
use Rattle.std.specs.List.{list_any}
use Rattle.htmd_html5_state.specs.Nodes.{is_number}
use Rattle.htmd_html5_state.proofs.document.index_of.Given as goal

abbrev pub invariant-loop-rest : goal.invariant-loop-rest
invariant-loop-rest l =
    (others : List ℕ) × (l.children ≡ l.rest ++ others) × (list_any (is_number l.child) others ≡ false)

abbrev pub decreases-loop-rest : goal.decreases-loop-rest
decreases-loop-rest l = length l.rest
