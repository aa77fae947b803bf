-- What an addition does to a tree and to the numbers of children.
use Rattle.htmd_lexical.proofs.Cases.{test}
use Rattle.std.proofs.Common.{◌≡◌, ℕ, zero, suc, ◌+◌, ◌<◌, ◌≤◌, true, false, cond, List, [], ◌∷◌, ◌++◌, length, Option}
use Rattle.std.proofs.Common.{Some, None, IsSome, refl, sym, ap, ◌∙◌, subst, arith, add-zero, inl, inr, eqb-true}
use Rattle.std.proofs.Common.{get_or}
use Rattle.std.proofs.lemmas.Bool.{cases_lt}
use Rattle.std.proofs.lemmas.Bool.Decides.{nat_tests}
use Rattle.std.proofs.lemmas.List.{get_or_append_left, get_or_push, length_push}
use Rattle.htmd_nodes.specs.Items.{Data, Item, document_item, item_at, parent_at, depth_at, data_at, is_child}
use Rattle.htmd_nodes.specs.Items.{children_from, children_of, holds_children, new_item, greatest_depth, IsUnder}
use Rattle.htmd_nodes.specs.Items.{IsTree}

-- an item at the end is the last child of its parent
pub children_from-push : (b : ℕ) (items : List Item) (item : Item) (p : ℕ)
    → children_from b (items ++ item ∷ []) p ≡ children_from b items p ++ cond (is_child p item.parent)
    ((b + length items) ∷ []) []
children_from-push b [] item p = rw (add-zero b) refl
children_from-push b (first ∷ items) item p =
    let count : suc b + length items ≡ b + suc (length items) = omega arith in
    let others : children_from (suc b) (items ++ item ∷ []) p ≡ children_from (suc b) items p
    ++ cond (is_child p item.parent) ((b + suc (length items)) ∷ []) [] =
    rw count at (children_from-push (suc b) items item p) in
    test (is_child p first.parent) (λ e. rw (e, others) refl) (λ e. rw (e, others) refl)

-- no children where no item names the node
pub children_from-none : (b : ℕ) (items : List Item) (p : ℕ)
    → ((k : ℕ) → k < length items → is_child p (parent_at items k) ≡ false) → children_from b items p ≡ []
children_from-none b [] p h = refl
children_from-none b (item ∷ items) p h =
    let others : children_from (suc b) items p ≡ [] =
    children_from-none (suc b) items p (λ k l. h (suc k) (omega arith)) in
    let first : is_child p item.parent ≡ false = h 0 (omega arith) in
    rw (first, others) refl

not_before : (o : Option ℕ) (k p : ℕ) → k ≤ p → ((q : ℕ) → o ≡ Some q → q < k)
    → is_child p o ≡ false
not_before None k p l h = refl
not_before (Some q) k p l h = let before : q < k = h q refl in grind (arith, nat_tests)

-- a node is not a child of one that doesn't come before it
pub is_child-before : (items : List Item) (k p : ℕ) → IsTree items → k < length items → k ≤ p
    → is_child p (parent_at items k) ≡ false
is_child-before items k p t l m = not_before (parent_at items k) k p m (λ q e. (t.under k q l e).before)

module _ (items : List Item) (p : ℕ) (node_data : Data) where
  abbrev grown : List Item
  grown = items ++ new_item items p node_data ∷ []

  at_old : (k : ℕ) → k < length items → item_at grown k ≡ item_at items k
  at_old k l = get_or_append_left items (new_item items p node_data ∷ []) document_item k l

  at_new : item_at grown (length items) ≡ new_item items p node_data
  at_new = get_or_push items (new_item items p node_data) document_item (length items) refl

  count : length grown ≡ length items + 1
  count = length_push items (new_item items p node_data)

  kept : (k q : ℕ) → k < length items → IsUnder items q k → IsUnder grown q k
  kept k q l u = let before : q < length items = omega (arith, u.before) in record {
    before = u.before;
    holds = ap (λ (x : Item). holds_children x.node_data) (at_old q before) ∙ u.holds;
    deeper = ap (λ (x : Item). x.depth) (at_old k l)
        ∙ (u.deeper ∙ ap (λ (x : Item). x.depth + 1) (sym (at_old q before)));
  }

  newest : p < length items → holds_children (data_at items p) ≡ true → IsUnder grown p (length items)
  newest l h = record {
    before = l;
    holds = ap (λ (x : Item). holds_children x.node_data) (at_old p l) ∙ h;
    deeper = ap (λ (x : Item). x.depth) at_new ∙ ap (λ (x : Item). x.depth + 1) (sym (at_old p l));
  }

  same_parent : (q r : ℕ) → Some q ≡ Some r → q ≡ r
  same_parent q r e = (cc)

  -- an old node or the new one
  each : (P : ℕ → Type 0) → ((k : ℕ) → k < length items → P k) → P (length items) → (k : ℕ)
      → k < length grown → P k
  each P old new k l = elim (cases_lt k (length items)) [
    | inl before ↦ old k before
    | inr last ↦ subst P (let e : length items ≡ k = omega (arith, count) in e) new
  ]

  -- a tree with a new child is a tree
  pub IsTree-added : p < length items → holds_children (data_at items p) ≡ true
      → depth_at items p < greatest_depth
      → IsTree items → IsTree grown
  IsTree-added within holds shallow t = record {
    not_empty = omega (arith, count);
    first = at_old 0 t.not_empty ∙ t.first;
    has_parent = λ k positive l. each (λ k. 0 < k → IsSome (parent_at grown k))
        (λ k l positive. subst (λ (x : Item). IsSome x.parent) (sym (at_old k l)) (t.has_parent k positive l))
        (λ _. subst (λ (x : Item). IsSome x.parent) (sym at_new) refl) k l positive;
    under = λ k q l e. each (λ k. (q : ℕ) → parent_at grown k ≡ Some q → IsUnder grown q k)
        (λ k l q e. kept k q l (t.under k q l (ap (λ (x : Item). x.parent) (sym (at_old k l)) ∙ e)))
        (λ q e. subst (λ x. IsUnder grown x (length items))
        (same_parent p q (ap (λ (x : Item). x.parent) (sym at_new) ∙ e)) (newest within holds)) k l q e;
    within = λ k l. each (λ k. depth_at grown k ≤ greatest_depth)
        (λ k l. subst (λ (x : Item). x.depth ≤ greatest_depth) (sym (at_old k l)) (t.within k l))
        (subst (λ (x : Item). x.depth ≤ greatest_depth) (sym at_new) (omega arith)) k l;
  }

-- ---- the children of a node

-- node c is item number c, counted from b, and its parent is p
record IsAmong (b : ℕ) (items : List Item) (p c : ℕ) : Type 0 where
  index : ℕ
  number : c ≡ b + index
  within : index < length items
  parent : parent_at items index ≡ Some p

some_child : (p : ℕ) (o : Option ℕ) → is_child p o ≡ true → o ≡ Some p
some_child p None e = (cc)
some_child p (Some q) e = ap Some (eqb-true q p e)

-- what is known of the children among the items after one, with that one before them
with_first : (b : ℕ) (item : Item) (items : List Item) (p d : ℕ)
    → ((k : ℕ) → k < length (children_from (suc b) items p)
    → IsAmong (suc b) items p (get_or (children_from (suc b) items p) k d))
    → (k : ℕ) → k < length (children_from b (item ∷ items) p)
    → IsAmong b (item ∷ items) p (get_or (children_from b (item ∷ items) p) k d)
with_first b item items p d behind k l = test (is_child p item.parent) (λ y. rw y (first y k (rw y at l)))
    (λ n. rw n (later k (rw n at l)))
  where
    later : (k : ℕ) → k < length (children_from (suc b) items p)
        → IsAmong b (item ∷ items) p (get_or (children_from (suc b) items p) k d)
    later k l = let r = behind k l in record {
      index = suc r.index;
      number = omega (arith, r.number);
      within =
          omega (arith, r.within);
      parent = r.parent;
    }

    first : is_child p item.parent ≡ true → (k : ℕ) → k < length (b ∷ children_from (suc b) items p)
        → IsAmong b (item ∷ items) p (get_or (b ∷ children_from (suc b) items p) k d)
    first y zero l = record {
      index = 0;
      number = omega arith;
      within = omega arith;
      parent =
          some_child p item.parent y;
    }
    first y (suc k) l = later k (omega arith)

children_from-read : (b : ℕ) (items : List Item) (p d k : ℕ) → k < length (children_from b items p)
    → IsAmong b items p (get_or (children_from b items p) k d)
children_from-read b [] p d k l = absurd (omega arith)
children_from-read b (item ∷ items) p d k l = with_first b item items p d (children_from-read (suc b) items p d) k l

-- a child comes after its parent, and names it
pub child_read : (items : List Item) (node : ℕ) (ids : List ℕ) (k id : ℕ) → IsTree items → node < length items
    → ids ≡ children_of items node → k < length ids → id ≡ get_or ids k id
    → (node < id) × (id < length items)
    × (parent_at items id ≡ Some node)
child_read items node ids k id t l same m here =
    let r = children_from-read 0 items node id k (subst (λ (x : List ℕ). k < length x) same m) in
    let e : r.index ≡ id = omega (arith, r.number, here ∙ ap (λ (x : List ℕ). get_or x k id) same) in
    let within : id < length items = subst (λ n. n < length items) e r.within in
    let named : parent_at items id ≡ Some node = subst (λ n. parent_at items n ≡ Some node) e r.parent in
    ((t.under id node within named).before, within, named)
