-- What is left to prove of the functions of the cycle `outermost`.
use Rattle.std.proofs.Common.{rules, ◌≡◌, ◌+◌, ◌-◌, ◌<◌, ◌≤◌, ◌++◌, length, sym, ap, ◌∙◌, arith, ℕ, List, [], false}
use Rattle.std.proofs.Common.{true, refl, eqb, drop}
use Rattle.std.specs.Option.{is_some, option_copied}
use Rattle.std.specs.Bool.{IsTrue}
use Rattle.std.proofs.lemmas.List.{append-nil}
use Rattle.std.proofs.lemmas.Result.{on_ok_weaker}
use Rattle.htmd_lexical.specs.Attributes.{pairs_of}
use Rattle.htmd_lexical.specs.AttributePairs.{AttributePair}
use Rattle.htmd_values.specs.ValueTrees.{ValueTree, element, ValueForest}
use Rattle.htmd_nodes.specs.Items.{element_node, depth_at, children_of}
use Rattle.htmd_nodes.specs.Layout.{forest_items}
use Rattle.htmd_nodes.specs.NumberedTrees.{tree_of, forest_of, value_forest, value_tree, with_children}
use Rattle.htmd_nodes.specs.NumberedTrees.{value_at}
use Rattle.htmd_nodes.specs.Views.{data_of}
use Rattle.htmd_nodes.proofs.ItemsLemmas.{child_read}
use Rattle.htmd_selectors.specs.ElementViews.{known_of}
use Rattle.htmd_selectors.specs.Rewriting.{joined, unchanged}
use Rattle.htmd_selectors.specs.SelectedParts.{count, elements_in, pre_below, in_pre, end_of}
use Rattle.htmd_selectors.specs.SelectorStates.{Known, kept_tree, outermost, outermost_tree, next_known, known_below}
use Rattle.htmd_selectors.specs.SelectorStates.{known_element, named_at, first_known, with_element, is_named_by}
use Rattle.htmd_selectors.specs.SelectorStates.{nothing_known}
use Rattle.htmd_selectors.specs.Matching.{Element}
use Rattle.htmd_selectors.specs.Views.{pre_of, steps_of}
use Rattle.htmd_selectors.proofs.SelectorStatesLemmas.{known-turn, not_root}
use Rattle.htmd_selectors.proofs.SelectedPartsLemmas.{laid-turn, elements-turn, trees_from, part-node}
use Rattle.htmd_selectors.proofs.SelectedPartsLemmas.{count-other, next_known-other, outermost-other}
use Rattle.htmd_selectors.proofs.selection.+outermost.Goals as goal

pub push_outermost-push_outermost_child-requires : goal.push_outermost-push_outermost_child-requires
push_outermost-push_outermost_child-requires t c =
    let tree = c.args.page.now.tree.now in
    let below = child_read tree c.args.node c.children-child-items.result.now c.loop-child.child-index
    c.child-item.result c.children-child-items.ensures.tree c.requires.node c.children-child-items.ensures.value
    (omega arith) c.child-item.is in
    let after : c.args.node < c.child-item.result = below.0 in
    let within : c.child-item.result < length tree = below.1 in
    let deeper : depth_at tree c.child-item.result ≡ depth_at tree c.args.node + 1 =
    (c.children-child-items.ensures.tree.under c.child-item.result c.args.node below.1 below.2).deeper in
    let deep : IsTrue (is_some c.args.pre) → 1 < depth_at tree c.child-item.result =
    λ some. let around = c.requires.pre some in omega (arith, deeper, around) in (
      search rules,
      (within, (omega arith, (deep, (c.loop-child.invariant.parent, (c.loop-child.invariant.beside, search rules))))),
    )

pub push_outermost-loop-child-preserved : goal.push_outermost-loop-child-preserved
push_outermost-loop-child-preserved t c =
    let steps = steps_of c.args.page.now.steps.now in
    let tree = c.args.page.now.tree.now in
    let ids = c.children-child-items.result.now in
    let i : ℕ = c.loop-child.child-index in
    let child : ValueTree = value_at tree c.child-item.result in
    let trees : ValueForest = trees_from tree (i + 1) ids in
    let out = c.loop-child.out in
    let new = c.push_outermost_child.new.out in
    let known : Known = known_of c.loop-child.known in
    let pre = pre_of (option_copied c.args.pre) in
    let pushed = c.in_ok-push_outermost_child.ensures in
    let turn = elements-turn tree ids i c.child-item.result c.loop-child.known.left (omega arith) c.child-item.is
    c.loop-child.invariant.left in
    let next : known_of c.push_outermost_child.new.known ≡ next_known steps known (elements_in trees) child =
    pushed.known ∙ ap (λ n. next_known steps known n child) turn in
    let counts = known-turn c.args.page.now.steps.now c.loop-child.known c.push_outermost_child.new.known
    (elements_in trees) child next c.loop-child.invariant.parent c.loop-child.invariant.beside in
    let fewer : c.push_outermost_child.new.known.before ≤ c.loop-child.known.before + 1 = counts.2 in
    record {
      items = c.loop-child.invariant.items;
      parent = counts.0;
      beside = counts.1;
      before = omega (arith, fewer, c.loop-child.invariant.before);
      left = pushed.left ∙ turn;
      rest = ap (λ k. new ++ forest_items 1 0 (length new) (outermost steps pre k trees)) next
          ∙ laid-turn (outermost_tree steps pre known (elements_in trees)) (outermost steps pre known)
          (outermost steps pre (next_known steps known (elements_in trees) child)) tree ids i c.child-item.result out
          new _
          1 0 (omega arith) c.child-item.is refl c.loop-child.invariant.rest
          (pushed.items
          ∙ ap (λ n. out ++ forest_items 1 0 (length out) (outermost_tree steps pre known n child)) turn);
    }

pub push_outermost_child-returns-in_default : goal.push_outermost_child-returns-in_default
push_outermost_child-returns-in_default t c =
    let steps = steps_of c.args.page.now.steps.now in
    let tree = c.args.page.now.tree.now in
    let known : Known = known_of c.args.known.now in
    let children = forest_of (tree_of tree) (children_of tree c.args.node) in
    let other = c.in_default.not-Element in
    let w = part-node (λ x. x) tree c.args.node (data_of c.data.result.now) c.data.ensures.tree c.requires.node
    c.data.ensures.value in
    let after : ℕ = c.args.known.now.left - count (value_tree (with_children c.args.node (data_of c.data.result.now)
    children)) in
    let no_more = count-other c.args.node c.data.result.now children other in
    rw w (record {
      items = rw (outermost-other steps (pre_of (option_copied c.args.pre)) known after c.args.node c.data.result.now
          children other)
          (sym (append-nil c.args.out.now));
      known = sym (next_known-other steps known after c.args.node c.data.result.now children other);
      left = omega (arith, no_more);
    })

pub push_outermost_child-returns-then-is_named : goal.push_outermost_child-returns-then-is_named
push_outermost_child-returns-then-is_named t c =
    let steps = steps_of c.args.page.now.steps.now in
    let known : Known = known_of c.args.known.now in
    let name : List ℕ = c.in-Element.name in
    let attributes : List AttributePair = pairs_of c.in-Element.attrs.items in
    let tree = c.args.page.now.tree.now in
    let children : ValueForest = value_forest (forest_of (tree_of tree) (children_of tree c.args.node)) in
    let this : ValueTree = element name attributes children in
    let here : ValueTree = value_at tree c.args.node in
    let left : ℕ = c.args.known.now.left in
    let e : Element = known_element known (left - 1) name attributes children in
    let w : here ≡ this = part-node (λ x. x) tree
    c.args.node (element_node name attributes) c.data.ensures.tree c.requires.node
    (sym (ap data_of c.in-Element.is) ∙ c.data.ensures.value) in
    let value : c.in_ok-named.named.items ≡ named_at steps known e = search rules in
    let named : is_named_by false steps (named_at steps known e) ≡ true = search rules in
    let next : known_of c.name_element.new.known ≡ next_known steps known (left - count this) this =
    c.in_ok-named.ensures.known
    ∙ ap (λ x. record known {
      beside = with_element x known.beside;
      before = known.before + 1;
      types = drop 1 known.types;
    }) value in
    let next_here : known_of c.name_element.new.known ≡ next_known steps known (left - count here) here =
    rw w next in
    let left_here : c.name_element.new.known.left ≡ left - count here = rw w c.in_ok-named.ensures.left in
    let pre = pre_of (option_copied c.args.pre) in
    let chosen : outermost_tree steps pre known (left - count this) this
    ≡ joined (in_pre pre (kept_tree unchanged [] nothing_known 0 this)) (end_of name) = rw named refl in
    let whole : outermost_tree steps pre known (left - count here) here
    ≡ joined (in_pre pre (kept_tree unchanged [] nothing_known 0 here)) (end_of name) = rw w chosen in
    record {
      items = rw whole c.push_match.ensures;
      known = on_ok_weaker c.push_match.result (λ _. next_here) c.push_match.ensures;
      left = on_ok_weaker c.push_match.result (λ _. left_here) c.push_match.ensures;
    }

pub push_outermost_child-returns : goal.push_outermost_child-returns
push_outermost_child-returns t c =
    let steps = steps_of c.args.page.now.steps.now in
    let known : Known = known_of c.args.known.now in
    let name : List ℕ = c.in-Element.name in
    let attributes : List AttributePair = pairs_of c.in-Element.attrs.items in
    let tree = c.args.page.now.tree.now in
    let children : ValueForest = value_forest (forest_of (tree_of tree) (children_of tree c.args.node)) in
    let this : ValueTree = element name attributes children in
    let here : ValueTree = value_at tree c.args.node in
    let left : ℕ = c.args.known.now.left in
    let e : Element = known_element known (left - 1) name attributes children in
    let w : here ≡ this = part-node (λ x. x) tree
    c.args.node (element_node name attributes) c.data.ensures.tree c.requires.node
    (sym (ap data_of c.in-Element.is) ∙ c.data.ensures.value) in
    let value : c.in_ok-named.named.items ≡ named_at steps known e = search rules in
    let named : is_named_by false steps (named_at steps known e) ≡ false = search rules in
    let next : known_of c.name_element.new.known ≡ next_known steps known (left - count this) this =
    c.in_ok-named.ensures.known
    ∙ ap (λ x. record known {
      beside = with_element x known.beside;
      before = known.before + 1;
      types = drop 1 known.types;
    }) value in
    let next_here : known_of c.name_element.new.known ≡ next_known steps known (left - count here) here =
    rw w next in
    let left_here : c.name_element.new.known.left ≡ left - count here = rw w c.in_ok-named.ensures.left in
    let parent : c.name_element.new.known.parent.now ≡ known.parent = ap (λ (k : Known). k.parent) next in
    let outside : eqb (depth_at tree c.args.node) 0 ≡ false =
    not_root 0 (depth_at tree c.args.node) c.requires.below in
    let states : c.as_slice-3.result.now ≡ with_element (named_at steps known e) known.parent = search rules in
    let pre = pre_of (option_copied c.args.pre) in
    let inner = pre_of (option_copied c.pre_below.result) in
    let nearest : inner ≡ pre_below name attributes pre = search rules in
    let chosen : outermost_tree steps pre known (left - count this) this
    ≡ outermost steps inner (known_below steps known e children) children = rw (named, nearest) refl in
    let below : outermost steps inner (known_below steps known e children) children ≡ outermost steps inner
    (first_known steps c.as_slice-3.result.now (eqb (depth_at tree c.args.node) 0) children) children =
    ap (λ x. outermost steps inner (first_known steps x false children) children) (sym states)
    ∙ ap (λ b. outermost steps inner (first_known steps c.as_slice-3.result.now b children) children)
    (sym outside) in
    let whole : outermost_tree steps pre known (left - count here) here ≡ outermost steps inner
    (first_known steps c.as_slice-3.result.now (eqb (depth_at tree c.args.node) 0) children) children =
    rw w (chosen ∙ below) in
    record {
      items = rw whole c.push_outermost.ensures;
      known = on_ok_weaker c.push_outermost.result (λ _. next_here) c.push_outermost.ensures;
      left = on_ok_weaker c.push_outermost.result (λ _. left_here) c.push_outermost.ensures;
    }
