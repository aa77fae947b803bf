-- What the loop of `some_shows` keeps, and what goes down.
use Rattle.std.proofs.Common.{◌≡◌, ◌+◌, ◌-◌, ◌*◌, length, drop}
use Rattle.htmd_nodes.specs.Items.{children_of}
use Rattle.htmd_nodes.specs.NumberedTrees.{tree_of, forest_of}
use Rattle.htmd_trimming.specs.Titles.{some_shows}
use Rattle.htmd_trimming.proofs.titles.+shows.Given as goal

-- children come after their parent
abbrev pub decreases-some_shows : goal.decreases-some_shows
decreases-some_shows l = (length l.tree.now - (l.node + 1)) * 2 + 1

abbrev pub decreases-shows : goal.decreases-shows
decreases-shows l = (length l.tree.now - l.node) * 2

abbrev pub invariant-some_shows-loop-child : goal.invariant-some_shows-loop-child
invariant-some_shows-loop-child l = record {
  items : l.child-items ≡ children_of l.tree l.fn.node;
  rest : some_shows (forest_of (tree_of l.tree) (drop l.child-index l.child-items))
      ≡ some_shows (forest_of (tree_of l.tree) l.child-items);
}
