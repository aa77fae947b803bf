-- What nodes beside each other show.
use Rattle.std.proofs.Common.{◌∙◌, ◌+◌, ◌≤◌, drop, length, sym, ap, arith, None}
use Rattle.std.specs.Option.{option_copied, option_map}
use Rattle.htmd_nodes.specs.NumberedTrees.{tree_of, forest_of, height, tallest}
use Rattle.htmd_shown.specs.Repeats.{has_script, leads_to_script}
use Rattle.htmd_shown.specs.Shown.{followed_by, marks, raised, shown_all}
use Rattle.htmd_shown.specs.SightViews.{around_of, attributes_of, node_of, nodes_of, sight_of}
use Rattle.htmd_shown.specs.SimpleTrees.{none, more}
use Rattle.htmd_shown.proofs.NodesLemmas.{forest_at, forest_end, slice_rest, tallest_item, within_at}
use Rattle.htmd_shown.proofs.WalkLemmas.{all_walked, no_script_left, text_turn, turn}
use Rattle.htmd_shown.proofs.sight.Sight.+shown.Goals as goal

pub among-next-requires : goal.among-next-requires
among-next-requires t c =
    let items = c.args.self.now.tree.now in
    let ns = c.args.nodes.now in
    let k = c.loop-place.place in
    let n = c.index-nodes-place.result in
    let h : height (tree_of items n) ≤ tallest (forest_of (tree_of items) ns) =
    tallest_item (tree_of items) ns k n c.loop-place-test.true c.index-nodes-place.is in (
      omega (arith, h, c.decreases),
      within_at (length items) ns k n c.requires c.loop-place-test.true c.index-nodes-place.is,
    )

pub among-follows_after-requires-clause-scripts : goal.among-follows_after-requires-clause-scripts
among-follows_after-requires-clause-scripts t c = λ e.
    let items = c.args.self.now.tree.now in
    let ns = c.args.nodes.now in
    let k = c.loop-place.place in
    ap (λ xs. has_script (forest_of (tree_of items) xs)) (slice_rest ns (k + 1))
    ∙ no_script_left (tree_of items) ns (k + 1) (sym c.has_script-scripts.ensures ∙ e)

pub among-follows_after-requires-in-loop-place-clause-scripts
    : goal.among-follows_after-requires-in-loop-place-clause-scripts
among-follows_after-requires-in-loop-place-clause-scripts t c = λ e.
    let items = c.args.self.now.tree.now in
    let ns = c.args.nodes.now in
    let k = c.loop-place.place in
    ap (λ xs. has_script (forest_of (tree_of items) xs)) (slice_rest ns (k + 1))
    ∙ no_script_left (tree_of items) ns (k + 1) (sym c.has_script-scripts.ensures ∙ e)

pub among-loop-place-preserved-in-Some : goal.among-loop-place-preserved-in-Some
among-loop-place-preserved-in-Some t c =
    let self = c.args.self.now in
    let inside = c.args.inside.now in
    let items = self.tree.now in
    let ns = c.args.nodes.now in
    let k = c.loop-place.place in
    let n = c.index-nodes-place.result in
    record {
      summed = c.in_ok-push.ensures.summed;
      follows = c.in_ok-follows-2.ensures
          ∙ ap (λ xs. leads_to_script (sight_of self).skip (forest_of (tree_of items) xs)) (slice_rest ns (k + 1));
      value = text_turn (sight_of self) (around_of inside.around) inside.parent
          (nodes_of c.loop-place.content) (nodes_of c.push.new.self) c.loop-place.formats.now
          (option_copied c.loop-place.before.source) (attributes_of c.loop-place.before.element)
          (forest_of (tree_of items) (drop k ns)) (tree_of items n) (forest_of (tree_of items) (drop (k + 1) ns))
          n c.in-Some.text.now c.loop-place.follows
          (followed_by (marks inside.is_quoted) (raised inside.formats.now inside.parent
          (shown_all (sight_of self) (around_of inside.around) (option_copied inside.source) None
          (forest_of (tree_of items) ns))))
          (forest_at (tree_of items) ns k n c.loop-place-test.true c.index-nodes-place.is)
          c.loop-place.invariant.follows c.in-Some.ensures
          (c.in_ok-push.ensures.value
          ∙ ap (λ t. followed_by (nodes_of c.loop-place.content) (more t none)) c.of_text.ensures.value)
          c.loop-place.invariant.value;
    }

pub among-loop-place-preserved : goal.among-loop-place-preserved
among-loop-place-preserved t c =
    let self = c.args.self.now in
    let inside = c.args.inside.now in
    let items = self.tree.now in
    let ns = c.args.nodes.now in
    let k = c.loop-place.place in
    let n = c.index-nodes-place.result in
    record {
      summed = c.in_ok-push_next.ensures.summed;
      follows = c.in_ok-follows-3.ensures
          ∙ ap (λ xs. leads_to_script (sight_of self).skip (forest_of (tree_of items) xs)) (slice_rest ns (k + 1));
      value = turn (sight_of self) (around_of inside.around) inside.parent
          (nodes_of c.loop-place.content) (nodes_of c.push_next.new.self)
          c.loop-place.formats.now c.formats_past-formats.result.now c.format_of-format.result
          (option_copied c.loop-place.before.source) (option_copied c.and-before.result.source)
          (attributes_of c.loop-place.before.element) (attributes_of c.and-before.result.element)
          (forest_of (tree_of items) (drop k ns)) (tree_of items n) (forest_of (tree_of items) (drop (k + 1) ns))
          (option_map node_of c.in_ok-seen.seen) c.loop-place.follows
          (followed_by (marks inside.is_quoted) (raised inside.formats.now inside.parent
          (shown_all (sight_of self) (around_of inside.around) (option_copied inside.source) None
          (forest_of (tree_of items) ns))))
          (forest_at (tree_of items) ns k n c.loop-place-test.true c.index-nodes-place.is)
          c.loop-place.invariant.follows c.in_ok-seen.ensures.value c.format_of-format.ensures
          c.formats_past-formats.ensures c.in_ok-push_next.ensures.value c.and-before.ensures.source
          c.and-before.ensures.element c.loop-place.invariant.value;
    }

pub among-returns-clause-value : goal.among-returns-clause-value
among-returns-clause-value t c =
    let self = c.args.self.now in
    let inside = c.args.inside.now in
    let items = self.tree.now in
    let ns = c.args.nodes.now in
    let k = c.loop-place.place in
    c.in_ok-mark-2.ensures.value
    ∙ ap (λ x. followed_by x (marks inside.is_quoted))
    (all_walked (sight_of self) (around_of inside.around) inside.parent (nodes_of c.loop-place.content)
    (raised inside.formats.now inside.parent (shown_all (sight_of self) (around_of inside.around)
    (option_copied inside.source) None (forest_of (tree_of items) ns))) c.loop-place.formats.now
    (option_copied c.loop-place.before.source) (attributes_of c.loop-place.before.element)
    (forest_of (tree_of items) (drop k ns)) inside.is_quoted
    (forest_end (tree_of items) ns k c.loop-place-test.false) c.loop-place.invariant.value)
