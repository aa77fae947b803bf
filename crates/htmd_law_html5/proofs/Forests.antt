-- Where nodes stand: each among the children of its parent at most once, and nowhere else.
use Rattle.std.proofs.Common.{◌≡◌, ◌∙◌, ℕ, suc, ◌<◌, ◌≤◌, Bool, true, false, List, []}
use Rattle.std.proofs.Common.{◌∷◌, ◌++◌, length, refl, ap, subst, arith, cond, Option, Some, None}
use Rattle.std.proofs.Common.{⊎_elim}
use Rattle.std.specs.Prelude.{◌==◌, insert}
use Rattle.std.proofs.lemmas.Bool.{eqb-true, eqb-false, eq-eqb, ne_eqb}
use Rattle.std.proofs.lemmas.List.{length-set, length-append}
use Rattle.htmd_lexical.proofs.Cases.{test}
use Rattle.htmd_html5_state.specs.Nodes.{NodeValue, KindValue, new_node, parent_at, children_at, with_kind, with_parent}
use Rattle.htmd_html5_state.specs.Nodes.{with_children, with_parents, index_of, place_index, without_child}
use Rattle.htmd_html5_state.specs.Nodes.{remove_child, detach_from, detach, put_child, put, attach, add, move_children}
use Rattle.htmd_law_html5.proofs.NodeParts.{times, times_append, times_insert, remove_fewer, removed_once}
use Rattle.htmd_law_html5.proofs.NodeParts.{children_same, children_other, parent_of_children, children_of_parent}
use Rattle.htmd_law_html5.proofs.NodeParts.{parent_same, parent_other, has_parent, children_of_kind, parent_of_kind}
use Rattle.htmd_law_html5.proofs.NodeParts.{children_with_new, parent_with_new, parent_beyond}

-- ---- a forest

-- how often a node of this parent may stand among the children of a node
abbrev pub once_under : Option ℕ → ℕ → ℕ
once_under None p = 0
once_under (Some q) p = cond (q == p) 1 0

pub record IsForest (nodes : List NodeValue) : Type 0 where
  pub once : (n p : ℕ) → times n (children_at nodes p) ≤ once_under (parent_at nodes n) p

abbrev Stands : List NodeValue → ℕ → ℕ → Type 0
Stands nodes n p = times n (children_at nodes p) ≤ once_under (parent_at nodes n) p

-- of one node, and of all others
forest_by : (n : ℕ) {nodes : List NodeValue} → ((p : ℕ) → Stands nodes n p)
    → ((m p : ℕ) → (n ≡ m → ⊥) → Stands nodes m p) → IsForest nodes
forest_by n {nodes} own others = record {
  once = λ m p. test (n == m) (λ t. subst (λ (x : ℕ). Stands nodes x p) (eqb-true n m t) (own p))
      (λ t. others m p (eqb-false n m t));
}

one_at_most : (b : Bool) → cond b 1 0 ≤ 1
one_at_most true = omega arith
one_at_most false = omega arith

pub once_at_most : (o : Option ℕ) (p : ℕ) → once_under o p ≤ 1
once_at_most None p = omega arith
once_at_most (Some q) p = one_at_most (q == p)

pub here : (p q : ℕ) → p ≡ q → once_under (Some p) q ≡ 1
here p q e = rw (eq-eqb p q e) refl

pub elsewhere : (p q : ℕ) → (p ≡ q → ⊥) → once_under (Some p) q ≡ 0
elsewhere p q h = rw (ne_eqb p q h) refl

-- a node stands under its parent alone
pub nowhere_else : (n p q : ℕ) (nodes : List NodeValue) → IsForest nodes → parent_at nodes n ≡ Some p
    → (p ≡ q → ⊥) → times n (children_at nodes q) ≡ 0
nowhere_else n p q nodes h e f =
    let a = h.once n q in
    let b = ap (λ (o : Option ℕ). once_under o q) e ∙ elsewhere p q f in
    omega arith

nowhere : (n q : ℕ) (nodes : List NodeValue) → IsForest nodes → parent_at nodes n ≡ None
    → times n (children_at nodes q) ≡ 0
nowhere n q nodes h e =
    let a = h.once n q in let b = ap (λ (o : Option ℕ). once_under o q) e in omega arith

-- the children of a node were changed
by_place : (m p q k : ℕ) (cs : List ℕ) (nodes : List NodeValue) → (p ≡ q → times m cs ≤ k)
    → ((p ≡ q → ⊥) → times m (children_at nodes q) ≤ k)
    → times m (children_at (with_children p cs nodes) q) ≤ k
by_place m p q k cs nodes same other =
    test (p == q) (λ e. subst (λ (x : ℕ). times m (children_at (with_children p cs nodes) x) ≤ k) (eqb-true p q e)
    (⊎_elim (λ g. let f = ap (times m) g in let l = same (eqb-true p q e) in omega arith)
    (λ g. let f : times m (children_at (with_children p cs nodes) p) ≡ 0 = ap (times m) g in omega arith)
    (children_same p cs nodes)))
    (λ e. let g = eqb-false p q e in
    let f = ap (times m) (children_other p q cs nodes g) in
    let l = other g in
    omega arith)

-- ---- a node is taken out

record Detached (n : ℕ) (nodes new : List NodeValue) : Type 0 where
  forest : IsForest new
  free : parent_at new n ≡ None
  size : length new ≡ length nodes

detached_from : (o : Option ℕ) (n : ℕ) (nodes : List NodeValue) → parent_at nodes n ≡ o → IsForest nodes
    → Detached n nodes (detach_from o n nodes)
detached_from None n nodes e h = record { forest = h; free = e; size = refl }
detached_from (Some p) n nodes e h = record {
  forest = forest_by n own others;
  free = parent_same n None left within;
  size = length-set left n _ ∙ size;
}
  where
    left : List NodeValue
    left = remove_child p n nodes

    size : length left ≡ length nodes
    size = length-set nodes p _

    within : n < length left
    within = let l = has_parent n p nodes e in let f = size in omega arith

    own : (q : ℕ) → Stands (with_parent n None left) n q
    own q =
        let none : times n (children_at left q) ≤ 0 =
        by_place n p q 0 (without_child n (children_at nodes p)) nodes
        (λ f. let g = removed_once n (children_at nodes p)
        (let a = h.once n p in let b = once_at_most (parent_at nodes n) p in omega arith) in omega arith)
        (λ g. let a = nowhere_else n p q nodes h e g in omega arith) in
        let same = ap (times n) (children_of_parent n q None left) in
        omega arith

    others : (m q : ℕ) → (n ≡ m → ⊥) → Stands (with_parent n None left) m q
    others m q g =
        let a = ap (times m) (children_of_parent n q None left) in
        let b : times m (children_at left q) ≤ times m (children_at nodes q) =
        by_place m p q (times m (children_at nodes q)) (without_child n (children_at nodes p)) nodes
        (λ f. let l = remove_fewer m (index_of n (children_at nodes p)) (children_at nodes p) in
        let k = ap (λ (x : ℕ). times m (children_at nodes x)) f in
        omega arith)
        (λ f. omega arith) in
        let d = h.once m q in
        let f : once_under (parent_at (with_parent n None left) m) q ≡ once_under (parent_at nodes m) q =
        ap (λ (o : Option ℕ). once_under o q)
        (parent_other n m None left g ∙ parent_of_children p m (without_child n (children_at nodes p)) nodes) in
        omega arith

detached : (n : ℕ) (nodes : List NodeValue) → IsForest nodes → Detached n nodes (detach n nodes)
detached n nodes h = detached_from (parent_at nodes n) n nodes refl h

pub forest_detach : (n : ℕ) (nodes : List NodeValue) → IsForest nodes → IsForest (detach n nodes)
forest_detach n nodes h = (detached n nodes h).forest

-- ---- a node without a parent is put to a place

pub forest_put : (n : ℕ) (place : _) (nodes : List NodeValue) → n < length nodes → parent_at nodes n ≡ None
    → IsForest nodes → IsForest (put n place nodes)
forest_put n place nodes l e h = forest_by n own others
  where
    p : ℕ
    p = place.parent

    more : List ℕ
    more = insert (children_at nodes p) (place_index place.next (children_at nodes p)) n

    held : List NodeValue
    held = put_child n place nodes

    new : List NodeValue
    new = with_parent n (Some p) held

    within : n < length held
    within = let f : length held ≡ length nodes = length-set nodes p _ in omega arith

    own : (q : ℕ) → Stands new n q
    own q =
        let a : times n (children_at held q) ≤ once_under (Some p) q =
        by_place n p q (once_under (Some p) q) more nodes
        (λ f. let i = times_insert n n (place_index place.next (children_at nodes p)) (children_at nodes p) in
        let o = one_at_most (n == n) in
        let b = nowhere n p nodes h e in
        let k = here p q f in
        omega arith)
        (λ g. let b = nowhere n q nodes h e in omega arith) in
        let b = ap (times n) (children_of_parent n q (Some p) held) in
        let d = ap (λ (o : Option ℕ). once_under o q) (parent_same n (Some p) held within) in
        omega arith

    others : (m q : ℕ) → (n ≡ m → ⊥) → Stands new m q
    others m q g =
        let a : times m (children_at held q) ≤ times m (children_at nodes q) =
        by_place m p q (times m (children_at nodes q)) more nodes
        (λ f. let i = times_insert m n (place_index place.next (children_at nodes p)) (children_at nodes p) in
        let o : cond (n == m) 1 0 ≡ 0 = elsewhere n m g in
        let k = ap (λ (x : ℕ). times m (children_at nodes x)) f in
        omega arith)
        (λ f. omega arith) in
        let b = ap (times m) (children_of_parent n q (Some p) held) in
        let d = h.once m q in
        let f : once_under (parent_at new m) q ≡ once_under (parent_at nodes m) q =
        ap (λ (o : Option ℕ). once_under o q)
        (parent_other n m (Some p) held g ∙ parent_of_children p m more nodes) in
        omega arith

pub forest_detached_put : (n : ℕ) (place : _) (nodes : List NodeValue) → n < length nodes → IsForest nodes
    → IsForest (put n place (detach n nodes))
forest_detached_put n place nodes l h =
    let d = detached n nodes h in
    forest_put n place (detach n nodes) (let e = d.size in omega arith) d.free d.forest

pub forest_attach : (n : ℕ) (place : _) (nodes : List NodeValue) → n < length nodes → IsForest nodes
    → IsForest (attach n place nodes)
forest_attach n place nodes l h = forest_detached_put n place nodes l h

-- ---- a new node, or what a node is

pub forest_new : (k : KindValue) (nodes : List NodeValue) → IsForest nodes → IsForest (nodes ++ new_node k ∷ [])
forest_new k nodes h = record {
  once = λ m q.
      let a = ap (times m) (children_with_new q k nodes) in
      let b = ap (λ (o : Option ℕ). once_under o q) (parent_with_new m k nodes) in
      let d = h.once m q in
      omega arith;
}

pub length_new : (k : KindValue) (nodes : List NodeValue) → length (nodes ++ new_node k ∷ []) ≡ suc (length nodes)
length_new k nodes = let e = length-append nodes (new_node k ∷ []) in omega arith

pub new_is_free : (k : KindValue) (nodes : List NodeValue)
    → parent_at (nodes ++ new_node k ∷ []) (length nodes) ≡ None
new_is_free k nodes = parent_with_new (length nodes) k nodes ∙ parent_beyond (length nodes) nodes (omega arith)

pub forest_add : (k : KindValue) (place : _) (nodes : List NodeValue) → IsForest nodes
    → IsForest (add k place nodes)
forest_add k place nodes h =
    forest_put (length nodes) place (nodes ++ new_node k ∷ []) (let e = length_new k nodes in omega arith)
    (new_is_free k nodes) (forest_new k nodes h)

pub forest_with_kind : (n : ℕ) (k : KindValue) (nodes : List NodeValue) → IsForest nodes
    → IsForest (with_kind n k nodes)
forest_with_kind n k nodes h = record {
  once = λ m q.
      let a = ap (times m) (children_of_kind n q k nodes) in
      let b = ap (λ (o : Option ℕ). once_under o q) (parent_of_kind n m k nodes) in
      let d = h.once m q in
      omega arith;
}

-- ---- all children of one node to another

pub children_with_parents : (p q : ℕ) (cs : List ℕ) (nodes : List NodeValue)
    → children_at (with_parents p cs nodes) q ≡ children_at nodes q
children_with_parents p q [] nodes = refl
children_with_parents p q (c ∷ cs) nodes =
    children_with_parents p q cs (with_parent c (Some p) nodes) ∙ children_of_parent c q (Some p) nodes

pub parent_not_among : (p m : ℕ) (cs : List ℕ) (nodes : List NodeValue) → times m cs ≡ 0
    → parent_at (with_parents p cs nodes) m ≡ parent_at nodes m
parent_not_among p m [] nodes e = refl
parent_not_among p m (c ∷ cs) nodes e =
    test (c == m) (λ t. absurd (let f = rw t at e in omega arith))
    (λ t. let f = rw t at e in
    parent_not_among p m cs (with_parent c (Some p) nodes) (omega arith)
    ∙ parent_other c m (Some p) nodes (eqb-false c m t))

pub parent_among : (p m : ℕ) (cs : List ℕ) (nodes : List NodeValue) → 1 ≤ times m cs → m < length nodes
    → parent_at (with_parents p cs nodes) m ≡ Some p
parent_among p m [] nodes l w = absurd (omega arith)
parent_among p m (c ∷ cs) nodes l w =
    test (times m cs == 0)
    (λ z. let none : times m cs ≡ 0 = eqb-true (times m cs) 0 z in
    let first : parent_at (with_parent c (Some p) nodes) m ≡ Some p =
    test (c == m) (λ t. subst (λ (x : ℕ). parent_at (with_parent c (Some p) nodes) x ≡ Some p) (eqb-true c m t)
    (parent_same c (Some p) nodes (let e = eqb-true c m t in omega arith)))
    (λ t. absurd (let f = rw t at l in omega arith)) in
    parent_not_among p m cs (with_parent c (Some p) nodes) none ∙ first)
    (λ z. let some = eqb-false (times m cs) 0 z in
    let size : length (with_parent c (Some p) nodes) ≡ length nodes = length-set nodes c _ in
    parent_among p m cs (with_parent c (Some p) nodes) (omega arith) (omega arith))

pub under_itself : (o : Option ℕ) (p : ℕ) → 1 ≤ once_under o p → o ≡ Some p
under_itself None p l = absurd (omega arith)
under_itself (Some q) p l =
    test (q == p) (λ t. ap Some (eqb-true q p t)) (λ t. absurd (let f = rw t at l in omega arith))

pub forest_move : (from to : ℕ) (nodes : List NodeValue) → IsForest nodes → IsForest (move_children from to nodes)
forest_move from to nodes h = record {
  once = λ m q. test (times m moved == 0) (λ z. others m q (eqb-true (times m moved) 0 z))
      (λ z. let some = eqb-false (times m moved) 0 z in those m q (omega arith));
}
  where
    moved : List ℕ
    moved = children_at nodes from

    emptied : List NodeValue
    emptied = with_children from [] nodes

    named : List NodeValue
    named = with_parents to moved emptied

    new : List NodeValue
    new = move_children from to nodes

    same_size : length emptied ≡ length nodes
    same_size = length-set nodes from _

    named_children : (m q : ℕ) → times m (children_at named q) ≡ times m (children_at emptied q)
    named_children m q = ap (times m) (children_with_parents to q moved emptied)

    new_parent : (m q : ℕ) → once_under (parent_at new m) q ≡ once_under (parent_at named m) q
    new_parent m q =
        ap (λ (o : Option ℕ). once_under o q) (parent_of_children to m (children_at named to ++ moved) named)

    fewer : (m q : ℕ) → times m (children_at emptied q) ≤ times m (children_at nodes q)
    fewer m q = by_place m from q (times m (children_at nodes q)) [] nodes (λ f. omega arith) (λ f. omega arith)

    others : (m q : ℕ) → times m moved ≡ 0 → Stands new m q
    others m q e =
        let a : times m (children_at new q) ≤ times m (children_at nodes q) =
        by_place m to q (times m (children_at nodes q)) (children_at named to ++ moved) named
        (λ f. let i = times_append m (children_at named to) moved in
        let j = named_children m to in
        let k = fewer m to in
        let l = ap (λ (x : ℕ). times m (children_at nodes x)) f in
        omega arith)
        (λ f. let j = named_children m q in let k = fewer m q in omega arith) in
        let b = new_parent m q in
        let d : once_under (parent_at named m) q ≡ once_under (parent_at nodes m) q =
        ap (λ (o : Option ℕ). once_under o q)
        (parent_not_among to m moved emptied e ∙ parent_of_children from m [] nodes) in
        let f = h.once m q in
        omega arith

    none_left : (m q : ℕ) → parent_at nodes m ≡ Some from → times m (children_at emptied q) ≤ 0
    none_left m q e =
        by_place m from q 0 [] nodes (λ f. omega arith)
        (λ g. let a = nowhere_else m from q nodes h e g in omega arith)

    those : (m q : ℕ) → 1 ≤ times m moved → Stands new m q
    those m q l =
        let once = h.once m from in
        let most = once_at_most (parent_at nodes m) from in
        let parent : parent_at nodes m ≡ Some from = under_itself (parent_at nodes m) from (omega arith) in
        let within = has_parent m from nodes parent in
        let size = same_size in
        let d : once_under (parent_at named m) q ≡ once_under (Some to) q =
        ap (λ (o : Option ℕ). once_under o q) (parent_among to m moved emptied l (omega arith)) in
        let b = new_parent m q in
        let a : times m (children_at new q) ≤ once_under (Some to) q =
        by_place m to q (once_under (Some to) q) (children_at named to ++ moved) named
        (λ f. let i = times_append m (children_at named to) moved in
        let j = named_children m to in
        let k = none_left m to parent in
        let one = here to q f in
        omega arith)
        (λ f. let j = named_children m q in let k = none_left m q parent in omega arith) in
        omega arith

pub length_with_parents : (p : ℕ) (cs : List ℕ) (nodes : List NodeValue) → length (with_parents p cs nodes)
    ≡ length nodes
length_with_parents p [] nodes = refl
length_with_parents p (c ∷ cs) nodes =
    length_with_parents p cs (with_parent c (Some p) nodes) ∙ length-set nodes c _

pub length_moved : (from to : ℕ) (nodes : List NodeValue) → length (move_children from to nodes) ≡ length nodes
length_moved from to nodes =
    length-set (with_parents to (children_at nodes from) (with_children from [] nodes)) to _
    ∙ length_with_parents to (children_at nodes from) (with_children from [] nodes) ∙ length-set nodes from _

-- a node without a parent is none of these
pub free_moved : (from to m : ℕ) (nodes : List NodeValue) → IsForest nodes → parent_at nodes m ≡ None
    → parent_at (move_children from to nodes) m ≡ None
free_moved from to m nodes h e =
    parent_of_children to m
    (children_at (with_parents to (children_at nodes from) (with_children from [] nodes)) to ++ children_at nodes from)
    (with_parents to (children_at nodes from) (with_children from [] nodes))
    ∙ parent_not_among to m (children_at nodes from) (with_children from [] nodes)
    (nowhere m from nodes h e) ∙ parent_of_children from m [] nodes ∙ e
