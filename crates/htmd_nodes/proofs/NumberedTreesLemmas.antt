-- The value tree of a node is made of those of its children, which have fewer levels.
use Rattle.std.proofs.Common.{◌≡◌, ℕ, zero, suc, ◌+◌, ◌<◌, ◌≤◌, true, false, List, [], ◌∷◌, ◌++◌, length, get_or, refl}
use Rattle.std.proofs.Common.{sym, ap, ◌∙◌, subst, arith, Contains}
use Rattle.std.proofs.lemmas.List.{append_assoc, get_or_append_left, get_or_at, get_or_default, length_push}
use Rattle.std.proofs.lemmas.List.{length-append}
use Rattle.htmd_nodes.specs.Items.{Data, document_node, doctype_node, text_node, comment_node, element_node, Item}
use Rattle.htmd_nodes.specs.Items.{document_item, item_at, parent_at, data_at, is_child, children_from, children_of}
use Rattle.htmd_nodes.specs.Items.{holds_children, IsTree, IsBelow, child, deeper}
use Rattle.htmd_nodes.specs.NumberedTrees.{NumberedTree, document, doctype, text, comment, element, NumberedForest}
use Rattle.htmd_nodes.specs.NumberedTrees.{with_children, forest_from, tree_of, forest_of, height, tallest}
use Rattle.htmd_lexical.proofs.Cases.{test}
use Rattle.htmd_nodes.proofs.ItemsLemmas.{is_child-before, child_read}

-- items that name another parent give no trees
forest_from-skip : (b : ℕ) (front rest : List Item) (p : ℕ)
    → ((k : ℕ) → k < length front → is_child p (parent_at front k) ≡ false)
    → forest_from b (front ++ rest) p ≡ forest_from (b + length front) rest p
unfolding forest_from
forest_from-skip b [] rest p h = let e : b + 0 ≡ b = omega arith in rw e refl
forest_from-skip b (item ∷ front) rest p h =
    let first : is_child p item.parent ≡ false = h 0 (omega arith) in
    let count : suc b + length front ≡ b + suc (length front) = omega arith in
    let others : forest_from (suc b) (front ++ rest) p ≡ forest_from (b + suc (length front)) rest p =
    rw count at (forest_from-skip (suc b) front rest p (λ k l. h (suc k) (omega arith))) in
    rw first others

module _ (items : List Item) (t : IsTree items) where
  -- the children of a node come after it
  forest_from-behind : (front rest : List Item) (item : Item) → front ++ item ∷ rest ≡ items
      → forest_from 0 items (length front) ≡ forest_from (suc (length front)) rest (length front)
  forest_from-behind front rest item e =
      let longer : (front ++ item ∷ []) ++ rest ≡ items = append_assoc front (item ∷ []) rest ∙ e in
      let count : 0 + length (front ++ item ∷ []) ≡ suc (length front) = omega (arith, length_push front item) in
      let skipped : forest_from 0 ((front ++ item ∷ []) ++ rest) (length front) ≡ forest_from
      (0 + length (front ++ item ∷ [])) rest (length front) =
      forest_from-skip 0 (front ++ item ∷ []) rest (length front) (λ k l. before k l longer) in
      ap (λ (x : List Item). forest_from 0 x (length front)) (sym longer)
      ∙ (skipped ∙ ap (λ n. forest_from n rest (length front)) count)
    where
      before : (k : ℕ) → k < length (front ++ item ∷ []) → (front ++ item ∷ []) ++ rest ≡ items
          → is_child (length front) (parent_at (front ++ item ∷ []) k) ≡ false
      before k l longer =
          let here : item_at items k ≡ item_at (front ++ item ∷ []) k =
          ap (λ (x : List Item). item_at x k) (sym longer)
          ∙ get_or_append_left (front ++ item ∷ []) rest document_item k l in
          let within : k < length items =
          omega (arith, l, ap length longer, length-append (front ++ item ∷ []) rest) in
          ap (λ (x : Item). is_child (length front) x.parent) (sym here)
          ∙ is_child-before items k (length front) t within (omega (arith, length_push front item))

  forest-open : (front rest : List Item) (p : ℕ) → front ++ rest ≡ items
      → forest_from (length front) rest p ≡ forest_of (tree_of items) (children_from (length front) rest p)
  unfolding forest_from tree_of
  forest-open front [] p e = refl
  forest-open front (item ∷ rest) p e =
      let longer : (front ++ item ∷ []) ++ rest ≡ items = append_assoc front (item ∷ []) rest ∙ e in
      let count : length (front ++ item ∷ []) ≡ suc (length front) = omega (arith, length_push front item) in
      let others : forest_from (suc (length front)) rest p ≡ forest_of (tree_of items)
      (children_from (suc (length front)) rest p) = rw count at (forest-open (front ++ item ∷ []) rest p longer) in
      let here : item_at items (length front) ≡ item = ap (λ (x : List Item). item_at x (length front)) (sym e)
      ∙ get_or_at front item rest document_item (length front) refl in
      let this : with_children (length front) item.node_data (forest_from (suc (length front)) rest (length front))
      ≡ tree_of items (length front) =
      ap (λ (x : Item). with_children (length front) x.node_data
      (forest_from (suc (length front)) rest (length front)))
      (sym here)
      ∙ ap (with_children (length front) (data_at items (length front)))
      (sym (forest_from-behind front rest item e)) in
      test (is_child p item.parent) (λ y. rw (y, this, others) refl) (λ n. rw (n, others) refl)

-- a node's value tree is made of those of its children
pub tree-open : (items : List Item) (id : ℕ) → IsTree items → id < length items
    → tree_of items id ≡ with_children id (data_at items id) (forest_of (tree_of items) (children_of items id))
unfolding tree_of
tree-open items id t l = ap (with_children id (data_at items id)) (forest-open items t [] items id refl)

-- ---- levels

-- a tree has a level at least
pub height_pos : (t : NumberedTree) → 1 ≤ height t
height_pos (document id children) = omega arith
height_pos (doctype id) = omega arith
height_pos (text id s) = omega arith
height_pos (comment id s) = omega arith
height_pos (element id name attributes children) = omega arith

tallest-forest : (tree : ℕ → NumberedTree) (ids : List ℕ) (k : ℕ) → k < length ids
    → height (tree (get_or ids k 0)) ≤ tallest (forest_of tree ids)
tallest-forest tree [] k l = absurd (omega arith)
tallest-forest tree (id ∷ ids) zero l = omega arith
tallest-forest tree (id ∷ ids) (suc k) l = let r = tallest-forest tree ids k (omega arith) in omega (arith, r)

taller : (id : ℕ) (node_data : Data) (children : NumberedForest) → holds_children node_data ≡ true
    → suc (tallest children) ≤ height (with_children id node_data children)
taller id document_node children h = omega arith
taller id doctype_node children h = (cc)
taller id (text_node s) children h = (cc)
taller id (comment_node s) children h = (cc)
taller id (element_node name attributes) children h = omega arith

-- d comes after the node, and has fewer levels
abbrev pub IsLower : List Item → ℕ → ℕ → Type 0
IsLower items id d = (id < d) × (d < length items) × (height (tree_of items d) < height (tree_of items id))

pub lower_child : (items : List Item) (id k : ℕ) → IsTree items → id < length items
    → k < length (children_of items id)
    → IsLower items id (get_or (children_of items id) k 0)
lower_child items id k t l m =
    let c = child_read items id (children_of items id) k (get_or (children_of items id) k 0) t l refl m
    (get_or_default (children_of items id) k 0 _ m) in
    let whole : height (tree_of items id) ≡ height
    (with_children id (data_at items id) (forest_of (tree_of items) (children_of items id))) =
    ap height (tree-open items id t l) in
    let part = tallest-forest (tree_of items) (children_of items id) k m in
    let above = taller id (data_at items id) (forest_of (tree_of items) (children_of items id))
    (t.under _ id c.1 c.2).holds in
    (c.0, c.1, omega (arith, whole, part, above))

lower_contained : (items : List Item) (id d : ℕ) → IsTree items → id < length items
    → Contains (children_of items id) d
    → IsLower items id d
lower_contained items id d t l h = subst (λ x. IsLower items id x) (get_or_default (children_of items id) h.0 0 d h.1
    ∙ h.2) (lower_child items id h.0 t l h.1)

pub lower_below : (items : List Item) (id d : ℕ) → IsTree items → id < length items → IsBelow items id d
    → IsLower items id d
lower_below items id d t l (child h) = lower_contained items id d t l h
lower_below items id d t l (deeper {p = p} below h) =
    let a = lower_below items id p t l below in
    let b = lower_contained items p d t a.1 h in
    (omega (arith, a.0, b.0), b.1, omega (arith, a.2, b.2))
