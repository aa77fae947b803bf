-- What is left decides.
use Rattle.std.proofs.Common.{◌≡◌, length, find}
use Rattle.htmd_html5_state.specs.Adoption.{node_is}
use Rattle.htmd_html5_state.specs.Formatting.{since_marker}
use Rattle.htmd_html5_state.specs.FormattingViews.{entries_of}
use Rattle.htmd_html5_state.proofs.formatting_list.newest.Given as goal

abbrev pub invariant-loop-older : goal.invariant-loop-older
invariant-loop-older l =
    find (node_is l.document l.tag) (since_marker (entries_of l.rest))
    ≡ find (node_is l.document l.tag) (since_marker (entries_of l.entries))

abbrev pub decreases-loop-older : goal.decreases-loop-older
decreases-loop-older l = length l.rest
