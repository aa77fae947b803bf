use Rattle.std.proofs.Common.{◌≡◌, ◌+◌, ◌*◌, drop}
use Rattle.htmd_shown.specs.Showings.{show}
use Rattle.htmd_shown.specs.SimpleViews.{simples_of}
use Rattle.htmd_shown.proofs.showing.+shows.Given as goal

abbrev pub decreases-show_in : goal.decreases-show_in
decreases-show_in l = goal.size-show_in l * 3 + 1

abbrev pub decreases-shows_in : goal.decreases-shows_in
decreases-shows_in l = goal.size-shows_in l * 3

abbrev pub decreases-element_shows : goal.decreases-element_shows
decreases-element_shows l = goal.size-element_shows l * 3 + 2

-- the nodes to come decide
abbrev pub invariant-show_in-loop-tree : goal.invariant-show_in-loop-tree
invariant-show_in-loop-tree l =
    show l.in_heading (simples_of (drop l.tree-index l.trees)) ≡ show l.in_heading (simples_of l.trees)
