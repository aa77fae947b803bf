-- Those that were met, newest first.
use Rattle.std.proofs.Common.{◌≡◌, ◌≤◌, ◌+◌, ℕ, List, ◌++◌, length, filter}
use Rattle.htmd_html5_state.specs.Formatting.{since_marker, is_alike, last_of}
use Rattle.htmd_html5_state.specs.FormattingViews.{entries_of}
use Rattle.htmd_html5_state.specs.Views.{kind_seen}
use Rattle.htmd_html5_state.proofs.formatting_list.oldest_alike.Given as goal

abbrev pub invariant-loop-older : goal.invariant-loop-older
invariant-loop-older l =
    (met : List ℕ) × (l.count ≡ length met) × (l.count + length l.rest ≤ length l.entries)
    × (l.oldest ≡ last_of met)
    × (met ++ filter (is_alike l.document (kind_seen l.kind)) (since_marker (entries_of l.rest))
    ≡ filter (is_alike l.document (kind_seen l.kind)) (since_marker (entries_of l.entries)))

abbrev pub decreases-loop-older : goal.decreases-loop-older
decreases-loop-older l = length l.rest
