-- No marker was popped so far.
use Rattle.std.proofs.Common.{◌≡◌, vec_len}
use Rattle.htmd_html5_state.specs.Formatting.{after_marker}
use Rattle.htmd_html5_state.specs.FormattingViews.{entries_of}
use Rattle.htmd_html5_state.proofs.formatting_list.FormattingList.clear_to_marker.Given as goal

abbrev pub invariant-loop-entry : goal.invariant-loop-entry
invariant-loop-entry l = after_marker (entries_of l.self-inside.entries.items) ≡ after_marker l.fn.self

abbrev pub decreases-loop-entry : goal.decreases-loop-entry
decreases-loop-entry l = vec_len l.self-inside.entries
