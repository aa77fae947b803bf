use Rattle.std.proofs.Common.{◌≡◌, ℕ, suc, ◌+◌, ◌-◌, ◌*◌, ◌≤◌, length, drop, All}
use Rattle.htmd_nodes.specs.NumberedTrees.{forest_of, tree_of, height}
use Rattle.htmd_walk.specs.Choice.{Config}
use Rattle.htmd_walk.specs.Groups.{groups_of, children_at}
use Rattle.htmd_walk.specs.Outputs.{conversion_of}
use Rattle.htmd_walk.specs.Children.{write_children, write_groups}
use Rattle.htmd_walk.specs.Elements.{contents_alone}
use Rattle.htmd_walk.specs.Rendering.{written_within, inside_of}
use Rattle.htmd_walk.specs.Views.{output_view, results_view}
use Rattle.htmd_walk.specs.Walking.{occurrence_of, IsRemembered}
use Rattle.htmd_walk.proofs.WalkingLemmas.{following}
use Rattle.htmd_walk.proofs.ChildrenLemmas.{IsChild}
use Rattle.htmd_walk.proofs.dom_walker.Walk.+walk.Given as goal

-- what lies after a node counts most, and then the handlers that are left
abbrev behind : ℕ → ℕ → Config → ℕ
behind count node config = (count - node) * (length config.registered + 7)

abbrev pub decreases-walk_node : goal.decreases-walk_node
decreases-walk_node g l = behind (length l.self.now.tree.now) l.visit.now.node
    (g.R.Registry.config l.self.now.registry.now)

abbrev pub decreases-walk_alone : goal.decreases-walk_alone
decreases-walk_alone g l = behind (length l.self.now.tree.now) l.node (g.R.Registry.config l.self.now.registry.now) + 1

abbrev pub decreases-walk_children : goal.decreases-walk_children
decreases-walk_children g l = behind (length l.self.now.tree.now) (l.node + 1)
    (g.R.Registry.config l.self.now.registry.now) + 1

abbrev pub decreases-walk_descendant : goal.decreases-walk_descendant
decreases-walk_descendant g l =
    behind (length l.self.now.tree.now) (l.element.now.node + 1) (g.R.Registry.config l.self.now.registry.now) + 2

abbrev pub decreases-content : goal.decreases-content
decreases-content g l =
    behind (length l.self.now.tree.now) (l.element.now.node + 1) (g.R.Registry.config l.self.now.registry.now) + 2

abbrev pub decreases-raw_html : goal.decreases-raw_html
decreases-raw_html g l =
    behind (length l.self.now.tree.now) (l.element.now.node + 1) (g.R.Registry.config l.self.now.registry.now) + 3

abbrev pub decreases-walk_kept : goal.decreases-walk_kept
decreases-walk_kept g l =
    behind (length l.self.now.tree.now) (l.element.now.node + 1) (g.R.Registry.config l.self.now.registry.now) + 3

abbrev pub decreases-walk_each : goal.decreases-walk_each
decreases-walk_each g l =
    behind (length l.self.now.tree.now) (l.element.now.node + 1) (g.R.Registry.config l.self.now.registry.now) + 4

abbrev pub decreases-without_handler : goal.decreases-without_handler
decreases-without_handler g l =
    behind (length l.self.now.tree.now) (l.element.now.node + 1) (g.R.Registry.config l.self.now.registry.now) + 4

abbrev pub decreases-handle_each : goal.decreases-handle_each
decreases-handle_each g l =
    behind (length l.self.now.tree.now) (l.element.now.node + 1) (g.R.Registry.config l.self.now.registry.now) + 5

abbrev pub decreases-handle : goal.decreases-handle
decreases-handle g l =
    behind (length l.self.now.tree.now) (l.element.now.node + 1) (g.R.Registry.config l.self.now.registry.now) + 5
    + (length (g.R.Registry.config l.self.now.registry.now).registered - l.skipped)

abbrev pub decreases-walk_element : goal.decreases-walk_element
decreases-walk_element g l =
    behind (length l.self.now.tree.now) (l.element.now.node + 1) (g.R.Registry.config l.self.now.registry.now) + 6
    + length (g.R.Registry.config l.self.now.registry.now).registered

abbrev pub invariant-walk_children-loop-rest : goal.invariant-walk_children-loop-rest
invariant-walk_children-loop-rest g l =
    let conversion = conversion_of (g.R.Registry.config l.self.registry.now) l.self.tree.now in
    let inside = inside_of l.self.tree.now l.fn.node in
    record {
      children : All (IsChild l.self.tree.now l.fn.node) l.rest;
      rest : (n : ℕ) → height (tree_of l.self.tree.now l.fn.node) ≤ suc n →
          write_children (written_within n conversion) inside (groups_of (forest_of (tree_of l.self.tree.now) l.rest))
          l.trim (output_view l.out l.links)
          ≡ write_groups (written_within n conversion) inside (children_at l.self.tree.now l.fn.node)
          (output_view l.initial.out l.initial.links);
    }

abbrev pub decreases-walk_children-loop-rest : goal.decreases-walk_children-loop-rest
decreases-walk_children-loop-rest g l = length l.rest

abbrev pub invariant-walk_each-loop-node : goal.invariant-walk_each-loop-node
invariant-walk_each-loop-node g l =
    let conversion = conversion_of (g.R.Registry.config l.self.registry.now) l.self.tree.now in
    record {
      remembered : All (IsRemembered conversion) l.notes.remembered.items;
      rest : (n : ℕ) → height (tree_of l.self.tree.now l.element.node) ≤ suc n →
          following (results_view l.results.items) (contents_alone (occurrence_of n conversion l.element)
          (drop l.node-index l.nodes) l.links)
          ≡ contents_alone (occurrence_of n conversion l.element) l.nodes l.initial.links;
    }
