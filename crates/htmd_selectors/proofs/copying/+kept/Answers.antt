-- What is left to prove of the functions of the cycle `kept`.
use Rattle.std.proofs.Common.{rules, ◌≡◌, ◌+◌, ◌-◌, ◌<◌, ◌≤◌, ◌++◌, length, sym, ap, ◌∙◌, arith, ℕ, List, false, true}
use Rattle.std.proofs.Common.{refl, string_bytes, eqb, drop}
use Rattle.std.proofs.lemmas.List.{append-nil}
use Rattle.htmd_lexical.specs.Attributes.{pairs_of}
use Rattle.htmd_lexical.specs.AttributePairs.{AttributePair}
use Rattle.htmd_values.specs.ValueTrees.{ValueTree, ValueForest}
use Rattle.htmd_nodes.specs.Items.{Item, document_node, doctype_node, text_node, comment_node, element_node, depth_at}
use Rattle.htmd_nodes.specs.Items.{holds_children, children_of}
use Rattle.htmd_nodes.specs.Layout.{forest_items}
use Rattle.htmd_nodes.specs.NumberedTrees.{tree_of, forest_of, value_forest}
use Rattle.htmd_nodes.specs.NumberedTrees.{value_at}
use Rattle.htmd_nodes.specs.Views.{data_of}
use Rattle.htmd_nodes.proofs.ItemsLemmas.{child_read}
use Rattle.htmd_selectors.specs.ElementViews.{known_of}
use Rattle.htmd_selectors.specs.Rewriting.{Rule}
use Rattle.htmd_selectors.specs.SelectedParts.{elements_in}
use Rattle.htmd_selectors.specs.SelectorStates.{Known, kept, kept_tree, next_known, known_below, known_element}
use Rattle.htmd_selectors.specs.SelectorStates.{named_at, first_known, with_element, is_named_by}
use Rattle.htmd_selectors.specs.Matching.{Element}
use Rattle.htmd_selectors.specs.Views.{steps_of}
use Rattle.htmd_selectors.proofs.SelectorStatesLemmas.{known-turn, not_root}
use Rattle.htmd_selectors.proofs.SelectedPartsLemmas.{laid-turn, laid-element, part-node, item_at-kept, within-kept}
use Rattle.htmd_selectors.proofs.SelectedPartsLemmas.{elements-turn, trees_from}
use Rattle.htmd_selectors.proofs.copying.+kept.Goals as goal

pub push_kept-push_kept_child-requires : goal.push_kept-push_kept_child-requires
push_kept-push_kept_child-requires g t c =
    let tree = c.args.page.now.tree.now in
    let below = child_read tree c.args.node c.children-child-items.result.now c.loop-child.child-index
    c.child-item.result c.children-child-items.ensures.tree c.requires.node c.children-child-items.ensures.value
    (omega arith) c.child-item.is in
    let within : c.child-item.result < length tree = below.1 in
    let deeper : depth_at tree c.child-item.result ≡ depth_at tree c.args.node + 1 =
    (c.children-child-items.ensures.tree.under c.child-item.result c.args.node below.1 below.2).deeper in
    let same_depth : depth_at c.loop-child.out c.args.under ≡ depth_at c.args.out.now c.args.under =
    ap (λ (x : Item). x.depth) c.loop-child.invariant.same in
    λ lifetimes lives. (
      search rules,
      (
        lives,
        (
          within,
          (
            c.loop-child.invariant.within,
            (
              ap (λ (x : Item). holds_children x.node_data) c.loop-child.invariant.same ∙ c.requires.holds,
              (
                omega (arith, c.requires.depth),
                (c.loop-child.invariant.parent, (c.loop-child.invariant.beside, search rules)),
              ),
            ),
          ),
        ),
      ),
    )

pub push_kept-loop-child-preserved : goal.push_kept-loop-child-preserved
push_kept-loop-child-preserved g t c =
    let rule : Rule = g.R.Rewrite.rule c.args.page.now.rewrite.now in
    let steps = steps_of c.args.page.now.steps.now in
    let tree = c.args.page.now.tree.now in
    let ids = c.children-child-items.result.now in
    let i : ℕ = c.loop-child.child-index in
    let child : ValueTree = value_at tree c.child-item.result in
    let trees : ValueForest = trees_from tree (i + 1) ids in
    let out = c.loop-child.out in
    let new = c.push_kept_child.new.out in
    let known : Known = known_of c.loop-child.known in
    let depth : ℕ = depth_at c.args.out.now c.args.under + 1 in
    let same_depth : depth_at out c.args.under + 1 ≡ depth =
    ap (λ (x : Item). x.depth + 1) c.loop-child.invariant.same in
    let pushed = c.in_ok-push_kept_child.ensures in
    let turn = elements-turn tree ids i c.child-item.result c.loop-child.known.left (omega arith) c.child-item.is
    c.loop-child.invariant.left in
    let next : known_of c.push_kept_child.new.known ≡ next_known steps known (elements_in trees) child =
    pushed.known ∙ ap (λ n. next_known steps known n child) turn in
    let counts = known-turn c.args.page.now.steps.now c.loop-child.known c.push_kept_child.new.known
    (elements_in trees) child next c.loop-child.invariant.parent c.loop-child.invariant.beside in
    let fewer : c.push_kept_child.new.known.before ≤ c.loop-child.known.before + 1 = counts.2 in
    record {
      items = c.loop-child.invariant.items;
      within = within-kept out new _ c.args.under pushed.items c.loop-child.invariant.within;
      same = item_at-kept out new _ c.args.under pushed.items c.loop-child.invariant.within
          ∙ c.loop-child.invariant.same;
      parent = counts.0;
      beside = counts.1;
      before = omega (arith, fewer, c.loop-child.invariant.before);
      left = pushed.left ∙ turn;
      rest = ap (λ k. new ++ forest_items depth c.args.under (length new) (kept rule steps k trees)) next
          ∙ laid-turn (kept_tree rule steps known (elements_in trees)) (kept rule steps known)
          (kept rule steps (next_known steps known (elements_in trees) child)) tree ids i c.child-item.result out new _
          depth c.args.under (omega arith) c.child-item.is refl c.loop-child.invariant.rest
          (pushed.items
          ∙ (ap (λ n. out ++ forest_items (depth_at out c.args.under + 1) c.args.under (length out)
          (kept_tree rule steps known n child)) turn
          ∙ ap (λ n. out ++ forest_items n c.args.under (length out)
          (kept_tree rule steps known (elements_in trees) child)) same_depth));
    }

pub push_kept_child-returns-in-Document : goal.push_kept_child-returns-in-Document
push_kept_child-returns-in-Document g t c =
    let w = part-node (λ x. x) c.args.page.now.tree.now c.args.node document_node c.data.ensures.tree c.requires.node
    (sym (ap data_of c.in-Document.is) ∙ c.data.ensures.value) in
    rw w (record { items = sym (append-nil c.args.out.now); known = refl; left = omega arith })

pub push_kept_child-returns-in_ok-added-in-Doctype : goal.push_kept_child-returns-in_ok-added-in-Doctype
push_kept_child-returns-in_ok-added-in-Doctype g t c =
    let w = part-node (λ x. x) c.args.page.now.tree.now c.args.node doctype_node c.data.ensures.tree c.requires.node
    (sym (ap data_of c.in-Doctype.is) ∙ c.data.ensures.value) in
    rw w (record { items = search rules; known = refl; left = omega arith })

pub push_kept_child-returns-in_ok-added-in-Text : goal.push_kept_child-returns-in_ok-added-in-Text
push_kept_child-returns-in_ok-added-in-Text g t c =
    let w = part-node (λ x. x) c.args.page.now.tree.now
    c.args.node (text_node (string_bytes c.in-Text.text)) c.data.ensures.tree c.requires.node
    (sym (ap data_of c.in-Text.is) ∙ c.data.ensures.value) in
    rw w (record { items = search rules; known = refl; left = omega arith })

pub push_kept_child-returns-in_ok-added-in-Comment : goal.push_kept_child-returns-in_ok-added-in-Comment
push_kept_child-returns-in_ok-added-in-Comment g t c =
    let w = part-node (λ x. x) c.args.page.now.tree.now
    c.args.node (comment_node (string_bytes c.in-Comment.text)) c.data.ensures.tree c.requires.node
    (sym (ap data_of c.in-Comment.is) ∙ c.data.ensures.value) in
    rw w (record { items = search rules; known = refl; left = omega arith })

pub push_kept_child-returns-then-is_named : goal.push_kept_child-returns-then-is_named
push_kept_child-returns-then-is_named g t c =
    let steps = steps_of c.args.page.now.steps.now in
    let known : Known = known_of c.args.known.now in
    let name : List ℕ = c.in-Element.name in
    let attributes : List AttributePair = pairs_of c.in-Element.attrs.items in
    let children : ValueForest = value_forest
    (forest_of (tree_of c.args.page.now.tree.now) (children_of c.args.page.now.tree.now c.args.node)) in
    let e : Element = known_element known (c.args.known.now.left - 1) name attributes children in
    let w = part-node (λ x. x) c.args.page.now.tree.now
    c.args.node (element_node name attributes) c.data.ensures.tree c.requires.node
    (sym (ap data_of c.in-Element.is) ∙ c.data.ensures.value) in
    let value : c.in_ok-named-in-Element.named.items ≡ named_at steps known e = search rules in
    let named : is_named_by false steps (named_at steps known e) ≡ true = search rules in
    let next : known_of c.name_element.new.known ≡ record known {
      beside = with_element (named_at steps known e) known.beside;
      before = known.before + 1;
      types = drop 1 known.types;
    } =
    c.in_ok-named-in-Element.ensures.known
    ∙ ap (λ x. record known {
      beside = with_element x known.beside;
      before = known.before + 1;
      types = drop 1 known.types;
    }) value in
    rw w (record {
      items = rw named (sym (append-nil c.args.out.now));
      known = next;
      left = c.in_ok-named-in-Element.ensures.left;
    })

pub push_kept_child-returns-in_ok-push_kept-in-Element : goal.push_kept_child-returns-in_ok-push_kept-in-Element
push_kept_child-returns-in_ok-push_kept-in-Element g t c =
    let rule : Rule = g.R.Rewrite.rule c.args.page.now.rewrite.now in
    let steps = steps_of c.args.page.now.steps.now in
    let known : Known = known_of c.args.known.now in
    let name : List ℕ = c.in-Element.name in
    let attributes : List AttributePair = pairs_of c.in-Element.attrs.items in
    let tree = c.args.page.now.tree.now in
    let children : ValueForest = value_forest (forest_of (tree_of tree) (children_of tree c.args.node)) in
    let e : Element = known_element known (c.args.known.now.left - 1) name attributes children in
    let w = part-node (λ x. x) tree
    c.args.node (element_node name attributes) c.data.ensures.tree c.requires.node
    (sym (ap data_of c.in-Element.is) ∙ c.data.ensures.value) in
    let value : c.in_ok-named-in-Element.named.items ≡ named_at steps known e = search rules in
    let named : is_named_by false steps (named_at steps known e) ≡ false = search rules in
    let next : known_of c.name_element.new.known ≡ record known {
      beside = with_element (named_at steps known e) known.beside;
      before = known.before + 1;
      types = drop 1 known.types;
    } =
    c.in_ok-named-in-Element.ensures.known
    ∙ ap (λ x. record known {
      beside = with_element x known.beside;
      before = known.before + 1;
      types = drop 1 known.types;
    }) value in
    let parent : c.name_element.new.known.parent.now ≡ known.parent = ap (λ (k : Known). k.parent) next in
    let outside : eqb (depth_at tree c.args.node) 0 ≡ false =
    not_root (depth_at c.args.out.now c.args.under) (depth_at tree c.args.node) c.requires.depth in
    let states : c.as_slice-in-Element-2.result.now ≡ with_element (named_at steps known e) known.parent =
    search rules in
    let mid = c.add_element.new.self in
    let new = c.push_kept.new.out in
    let id = c.in_ok-id-in-Element.id in
    let laid : new ≡ mid ++ forest_items (depth_at mid id + 1) id (length mid)
    (kept rule steps (known_below steps known e children) children) =
    c.in_ok-push_kept-in-Element.ensures
    ∙ (ap (λ b. mid ++ forest_items (depth_at mid id + 1) id (length mid) (kept rule steps
    (first_known steps c.as_slice-in-Element-2.result.now b children) children)) outside
    ∙ ap (λ x. mid ++ forest_items (depth_at mid id + 1) id (length mid) (kept rule steps
    (first_known steps x false children) children)) states) in
    rw w (record {
      items = rw named (laid-element c.args.out.now mid new c.args.under id name (rule name attributes)
          (kept rule steps (known_below steps known e children) children) (search rules) (search rules) laid);
      known = next;
      left = c.in_ok-named-in-Element.ensures.left;
    })
