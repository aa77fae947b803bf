-- No entry that was met has this node.
use Rattle.std.proofs.Common.{◌≡◌, ℕ, false, List, Option, ◌++◌, length}
use Rattle.htmd_html5_state.specs.Formatting.{is_listed}
use Rattle.htmd_html5_state.specs.FormattingViews.{entries_of}
use Rattle.htmd_html5_state.proofs.formatting_list.position.Given as goal

abbrev pub invariant-loop-older : goal.invariant-loop-older
invariant-loop-older l =
    (newer : List (Option ℕ)) × (l.entries ≡ l.rest ++ newer) × (is_listed l.node (entries_of newer) ≡ false)

abbrev pub decreases-loop-older : goal.decreases-loop-older
decreases-loop-older l = length l.rest
