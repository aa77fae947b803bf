-- Trees that are laid out one after the other.
use Rattle.std.proofs.Common.{◌≡◌, ℕ, suc, ◌+◌, ◌<◌, List, [], ◌∷◌, ◌++◌, length, sym, ap, ◌∙◌, true}
use Rattle.std.proofs.Common.{Option, Some, None, arith, add-zero, append_assoc}
use Rattle.std.proofs.lemmas.List.{append-nil, length-append, length_push, get_or_push, get_or_append_left}
use Rattle.htmd_lexical.specs.AttributePairs.{AttributePair}
use Rattle.htmd_values.specs.ValueTrees.{ValueTree, element, ValueForest, none, more}
use Rattle.htmd_nodes.specs.Items.{element_node, Item, document_item, item_at, data_at, depth_at, holds_children}
use Rattle.htmd_nodes.specs.Items.{new_item}
use Rattle.htmd_nodes.specs.Layout.{size, sizes, tree_items, forest_items}
use Rattle.htmd_nodes.proofs.LayoutLemmas.{length-forest_items}
use Rattle.htmd_trimming.specs.Trimming.{with_one}

-- these trees after the items of a tree, under one of its nodes
abbrev pub laid : List Item → ℕ → ValueForest → List Item
laid out under f = out ++ forest_items (depth_at out under + 1) under (length out) f

one-rest : (d p b : ℕ) (o : Option ValueTree) (rest : ValueForest) → forest_items d p b (with_one o rest)
    ≡ forest_items d p b (with_one o none) ++ forest_items d p (b + sizes (with_one o none)) rest
one-rest d p b None rest = ap (λ n. forest_items d p n rest) (sym (add-zero b))
one-rest d p b (Some t) rest =
    let count : b + size t ≡ b + (size t + 0) = omega arith in
    ap (λ n. tree_items d p b t ++ forest_items d p n rest) count
    ∙ ap (λ x. x ++ forest_items d p (b + (size t + 0)) rest) (sym (append-nil (tree_items d p b t)))

-- what is left of a tree, and what follows it
pub laid-next : (out new : List Item) (d p : ℕ) (o : Option ValueTree) (rest : ValueForest)
    → new ≡ out ++ forest_items d p (length out) (with_one o none)
    → new ++ forest_items d p (length new) rest ≡ out ++ forest_items d p (length out) (with_one o rest)
laid-next out new d p o rest e =
    let this = with_one o none in
    let count : length new ≡ length out + sizes this =
    ap length e ∙ (length-append out (forest_items d p (length out) this)
    ∙ ap (λ n. length out + n) (length-forest_items this d p (length out))) in
    ap (λ n. new ++ forest_items d p n rest) count
    ∙ (ap (λ y. y ++ forest_items d p (length out + sizes this) rest) e
    ∙ (append_assoc out (forest_items d p (length out) this) (forest_items d p (length out + sizes this) rest)
    ∙ ap (λ y. out ++ y) (sym (one-rest d p (length out) o rest))))

-- what is laid out stays before what comes
pub item_at-kept : (out new rest : List Item) (k : ℕ) → new ≡ out ++ rest → k < length out
    → item_at new k ≡ item_at out k
item_at-kept out new rest k e l =
    ap (λ (x : List Item). item_at x k) e ∙ get_or_append_left out rest document_item k l

pub within-kept : (out new rest : List Item) (k : ℕ) → new ≡ out ++ rest → k < length out → k < length new
within-kept out new rest k e l = omega (arith, ap length e, length-append out rest)

module _ (out mid : List Item) (under id : ℕ) (name : List ℕ) (attributes : List AttributePair)
    (is : id ≡ length out) (e : mid ≡ laid out under (more (element name attributes none) none)) where
  here : item_at mid id ≡ new_item out under (element_node name attributes)
  here =
      ap (λ (x : List Item). item_at x id) e
      ∙ get_or_push out (new_item out under (element_node name attributes)) document_item id (omega (arith, is))

  count : length mid ≡ suc (length out)
  count = ap length e ∙ (length_push out (new_item out under (element_node name attributes)) ∙ omega arith)

  -- an element, and then what it holds
  pub laid-element : (new : List Item) (f : ValueForest) → new ≡ laid mid id f
      → new ≡ laid out under (more (element name attributes f) none)
  laid-element new f g =
      let item : Item = new_item out under (element_node name attributes) in
      let depth : depth_at mid id + 1 ≡ suc (depth_at out under + 1) =
      ap (λ (x : Item). x.depth + 1) here ∙ omega arith in
      g ∙ (ap (λ n. mid ++ forest_items n id (length mid) f) depth
      ∙ (ap (λ n. mid ++ forest_items (suc (depth_at out under + 1)) id n f) count
      ∙ (ap (λ n. mid ++ forest_items (suc (depth_at out under + 1)) n (suc (length out)) f) is
      ∙ (ap (λ x. x ++ forest_items (suc (depth_at out under + 1)) (length out) (suc (length out)) f) e
      ∙ (append_assoc out (item ∷ [])
      (forest_items (suc (depth_at out under + 1)) (length out) (suc (length out)) f)
      ∙ ap (λ x. out ++ x) (sym (append-nil
      (item ∷ forest_items (suc (depth_at out under + 1)) (length out) (suc (length out)) f))))))))

  pub laid-within : id < length mid
  laid-within = omega (arith, is, count)

  pub laid-holds : holds_children (data_at mid id) ≡ true
  laid-holds = ap (λ (x : Item). holds_children x.node_data) here
