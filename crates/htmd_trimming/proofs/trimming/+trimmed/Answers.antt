-- What is left to prove of the functions of the cycle `trimmed`.
use Rattle.std.proofs.Common.{rules, ◌≡◌, ◌+◌, ◌<◌, ◌++◌, length, drop, sym, ap, ◌∙◌, arith, All, subst}
use Rattle.std.specs.Option.{option_copied}
use Rattle.htmd_values.specs.ValueTrees.{none}
use Rattle.htmd_nodes.specs.Items.{Item, children_of, depth_at, holds_children}
use Rattle.htmd_nodes.specs.Layout.{forest_items}
use Rattle.htmd_nodes.specs.NumberedTrees.{tree_of, forest_of}
use Rattle.htmd_nodes.specs.Views.{data_of}
use Rattle.htmd_nodes.proofs.ItemsLemmas.{child_read}
use Rattle.htmd_shown.specs.Shown as shown
use Rattle.htmd_shown.proofs.NodesLemmas.{forest_at}
use Rattle.htmd_shown.proofs.PageLemmas.{children_within}
use Rattle.htmd_trimming.specs.FateViews.{source_below}
use Rattle.htmd_trimming.specs.Trimming.{with_one, trimmed_tree, trimmed}
use Rattle.htmd_trimming.proofs.LaidLemmas.{laid, laid-next, item_at-kept, within-kept}
use Rattle.htmd_trimming.proofs.TrimmingLemmas.{laid-node, node-only, node-over, source-for, source-after}
use Rattle.htmd_trimming.proofs.trimming.+trimmed.Goals as goal

pub push_below-data-data-requires : goal.push_below-data-data-requires
push_below-data-data-requires t c =
    let read = child_read c.args.page.now.tree.now c.args.node c.children-child-items.result.now
    c.loop-child.child-index c.child-item.result c.children-child-items.ensures.tree c.requires.node
    c.children-child-items.ensures.value (omega arith) c.child-item.is in
    read.1

pub push_below-push_node-requires : goal.push_below-push_node-requires
push_below-push_node-requires t c =
    let read = child_read c.args.page.now.tree.now c.args.node c.children-child-items.result.now
    c.loop-child.child-index c.child-item.result c.children-child-items.ensures.tree c.requires.node
    c.children-child-items.ensures.value (omega arith) c.child-item.is in
    let after : c.args.node < c.child-item.result = read.0 in
    let within : c.child-item.result < length c.args.page.now.tree.now = read.1 in (
      search rules,
      (
        within,
        (
          c.loop-child.invariant.within,
          ap (λ (x : Item). holds_children x.node_data) c.loop-child.invariant.same ∙ c.requires.holds,
        ),
      ),
    )

pub push_below-loop-child-preserved : goal.push_below-loop-child-preserved
push_below-loop-child-preserved t c =
    let asked = c.args.page.now.asked in
    let items = c.args.page.now.tree.now in
    let ids = c.children-child-items.result.now in
    let i = c.loop-child.child-index in
    let id = c.child-item.result in
    let whole = c.children-child-items.ensures.tree in
    let read = child_read items c.args.node ids i id whole c.requires.node c.children-child-items.ensures.value
    (omega arith) c.child-item.is in
    let tree = tree_of items id in
    let trees = forest_of (tree_of items) (drop (i + 1) ids) in
    let source = option_copied c.loop-child.source in
    let d = data_of c.data-data.result.now in
    let given : option_copied c.source_for.result ≡ shown.source_for source tree =
    c.source_for.ensures ∙ source-for items whole id read.1 d c.data-data.ensures.value source in
    let next : option_copied c.source_after-source.result ≡ shown.source_after source tree =
    c.source_after-source.ensures ∙ source-after items whole id read.1 d c.data-data.ensures.value source in
    let out = c.loop-child.out in
    let new = c.push_node.new.out in
    let under = c.args.under in
    let depth = depth_at c.args.out.now under + 1 in
    let same_depth : depth_at out under + 1 ≡ depth = ap (λ (x : Item). x.depth + 1) c.loop-child.invariant.same in
    let left = trimmed_tree asked (shown.source_for source tree) tree in
    let pushed = c.in_ok-push_node.ensures in
    record {
      items = c.loop-child.invariant.items;
      within = within-kept out new _ under pushed c.loop-child.invariant.within;
      same = item_at-kept out new _ under pushed c.loop-child.invariant.within ∙ c.loop-child.invariant.same;
      rest =
          ap (λ s. new ++ forest_items depth under (length new) (trimmed asked s trees)) next
          ∙ (laid-next out new depth under left (trimmed asked (shown.source_after source tree) trees)
          (pushed
          ∙ (ap (λ s. laid out under (with_one (trimmed_tree asked s tree) none)) given
          ∙ ap (λ n. out ++ forest_items n under (length out) (with_one left none)) same_depth))
          ∙ (ap (λ f. out ++ forest_items depth under (length out) (trimmed asked source f))
          (sym (forest_at (tree_of items) ids i id (omega arith) c.child-item.is))
          ∙ c.loop-child.invariant.rest));
    }

pub push_node-add_node-requires-clause-children : goal.push_node-add_node-requires-clause-children
push_node-add_node-requires-clause-children t c =
    let items = c.args.page.now.tree.now in
    subst (λ ids. All (λ node. node < length items) ids) (sym c.children-children.ensures.value)
    (children_within items c.children-children.ensures.tree c.args.node c.requires.node)

pub push_node-source_below-requires : goal.push_node-source_below-requires
push_node-source_below-requires t c =
    let items = c.args.page.now.tree.now in
    subst (λ ids. All (λ node. node < length items) ids) (sym c.children-children.ensures.value)
    (children_within items c.children-children.ensures.tree c.args.node c.requires.node)

pub push_node-push_below-requires : goal.push_node-push_below-requires
push_node-push_below-requires t c =
    let items = c.args.page.now.tree.now in
    let added = laid-node c.args.page.now.asked (option_copied c.args.source) c.args.out.now c.add_node.new.out
    c.args.under c.in-Some.id (data_of c.data-data.result.now)
    (forest_of (tree_of items) c.children-children.result.now)
    (sym c.in-Some.is ∙ c.in_ok-id.ensures.id) c.in_ok-id.ensures.out in
    let within : c.args.node < length items = c.requires.node in
    (search rules, (within, (added.within, added.holds)))

pub push_node-returns-in_ok-push_below : goal.push_node-returns-in_ok-push_below
push_node-returns-in_ok-push_below t c =
    let asked = c.args.page.now.asked in
    let items = c.args.page.now.tree.now in
    let mid = c.add_node.new.out in
    let id = c.in-Some.id in
    let d = data_of c.data-data.result.now in
    let tree = forest_of (tree_of items) in
    let below = tree c.children-children.result.now in
    let listed : below ≡ tree (children_of items c.args.node) = ap tree c.children-children.ensures.value in
    let given : laid mid id (trimmed asked (option_copied c.source_below.result) below)
    ≡ laid mid id (trimmed asked (source_below d below) below) =
    ap (λ s. laid mid id (trimmed asked s below)) c.source_below.ensures in
    let pushed : c.push_below.new.out ≡ laid mid id (trimmed asked (option_copied c.source_below.result) below) =
    subst (λ f. c.push_below.new.out ≡ laid mid id (trimmed asked (option_copied c.source_below.result) f))
    (sym listed) c.in_ok-push_below.ensures in
    node-over asked (option_copied c.args.source) items c.children-children.ensures.tree c.args.node c.requires.node d
    c.data-data.ensures.value below listed c.args.out.now mid c.push_below.new.out c.args.under id
    (sym c.in-Some.is ∙ c.in_ok-id.ensures.id) c.in_ok-id.ensures.out (pushed ∙ given)

pub push_node-returns-in_default : goal.push_node-returns-in_default
push_node-returns-in_default t c =
    let items = c.args.page.now.tree.now in
    let tree = forest_of (tree_of items) in
    node-only c.args.page.now.asked (option_copied c.args.source) items c.children-children.ensures.tree c.args.node
    c.requires.node (data_of c.data-data.result.now) c.data-data.ensures.value (tree c.children-children.result.now)
    (ap tree c.children-children.ensures.value) c.args.out.now c.add_node.new.out c.args.under
    (sym c.in_default.is ∙ c.in_ok-id.ensures.id) c.in_ok-id.ensures.out
