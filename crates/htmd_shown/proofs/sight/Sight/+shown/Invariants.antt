-- What shows of the nodes so far, and of those to come.
use Rattle.std.proofs.Common.{◌≡◌, ◌+◌, ◌*◌, drop, map, None}
use Rattle.std.specs.Option.{option_copied}
use Rattle.htmd_nodes.specs.NumberedTrees.{tree_of, forest_of, height, tallest}
use Rattle.htmd_shown.specs.Repeats.{leads_to_script}
use Rattle.htmd_shown.specs.Shown.{followed_by, marks, raised, shown_all}
use Rattle.htmd_shown.specs.SightViews.{AreSummed, around_of, attributes_of, nodes_of, sight_of}
use Rattle.htmd_shown.proofs.sight.Sight.+shown.Given as goal

abbrev pub decreases-node : goal.decreases-node
decreases-node l = 6 * height (tree_of l.self.now.tree.now l.node) + 4

abbrev pub decreases-element : goal.decreases-element
decreases-element l = 6 * tallest (forest_of (tree_of l.self.now.tree.now) l.found.now.children.now) + 9

abbrev pub decreases-other_element : goal.decreases-other_element
decreases-other_element l = 6 * tallest (forest_of (tree_of l.self.now.tree.now) l.found.now.children.now) + 8

abbrev pub decreases-content : goal.decreases-content
decreases-content l = 6 * tallest (forest_of (tree_of l.self.now.tree.now) l.found.now.children.now) + 7

abbrev pub decreases-among : goal.decreases-among
decreases-among l = 6 * tallest (forest_of (tree_of l.self.now.tree.now) l.nodes.now) + 6

abbrev pub decreases-next : goal.decreases-next
decreases-next l = 6 * height (tree_of l.self.now.tree.now l.node) + 5

abbrev pub invariant-among-loop-place : goal.invariant-among-loop-place
invariant-among-loop-place l =
    let rest = forest_of (tree_of l.self.tree.now) (drop l.place l.nodes) in
    record {
      summed : AreSummed l.content;
      follows : l.follows ≡ leads_to_script (map (λ n. n.now) l.self.skip.now) rest;
      value : followed_by (nodes_of l.content) (raised l.formats l.inside.parent
          (shown_all (sight_of l.self) (around_of l.inside.around) (option_copied l.before.source)
          (attributes_of l.before.element) rest))
          ≡ followed_by (marks l.inside.is_quoted) (raised l.inside.formats.now l.inside.parent
          (shown_all (sight_of l.self) (around_of l.inside.around) (option_copied l.inside.source) None
          (forest_of (tree_of l.self.tree.now) l.nodes)));
    }
