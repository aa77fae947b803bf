-- Where texts and elements hang: each but the Document by its parent, which holds it, in an order.
use Rattle.std.proofs.Common.{◌≡◌, ◌∙◌, ℕ, zero, suc, ◌+◌, ◌<◌, ◌≤◌, Bool, true, false, List, [], ◌∷◌, ◌++◌, length}
use Rattle.std.proofs.Common.{get_or, refl, sym, ap, subst, arith, cond, Option, Some, None, inl, inr, ◌⊎◌, ⊎_elim}
use Rattle.std.specs.Prelude.{◌==◌, insert, remove}
use Rattle.std.specs.List.{list_any}
use Rattle.std.proofs.lemmas.Bool.{true≢false, eqb-true, eqb-false, eq-eqb, ne_eqb}
use Rattle.std.proofs.lemmas.List.{length-set}
use Rattle.htmd_lexical.proofs.Cases.{test}
use Rattle.htmd_html5_state.specs.Nodes.{NodeValue, KindValue, document, text, element, new_node, kind_at, parent_at}
use Rattle.htmd_html5_state.specs.Nodes.{children_at, with_parent, with_children, is_number, index_of, without_child}
use Rattle.htmd_html5_state.specs.Nodes.{remove_child, detach_from, detach, with_parents, move_children}
use Rattle.htmd_law_html5.proofs.NodeTexts.{kinds, is_element, kind_read, kinds_with_parent, kinds_with_children}
use Rattle.htmd_law_html5.proofs.NodeTexts.{kinds_detach, kinds_move_children}
use Rattle.htmd_law_html5.proofs.NodeParts.{times, times_append, times_insert, children_other, parent_of_children}
use Rattle.htmd_law_html5.proofs.NodeParts.{children_of_parent, parent_same, parent_other, children_with_new}
use Rattle.htmd_law_html5.proofs.NodeParts.{parent_with_new}
use Rattle.htmd_law_html5.proofs.Forests.{IsForest, elsewhere, children_with_parents, parent_not_among, parent_among}
use Rattle.htmd_law_html5.proofs.Forests.{length_with_parents, once_under}
use Rattle.htmd_law_html5.proofs.WholeTexts.{Holder}

-- a text or an element
abbrev pub is_solid : KindValue → Bool
is_solid (text s) = true
is_solid (element name attributes) = true
is_solid _ = false

pub element_solid : (k : KindValue) → is_element k ≡ true → is_solid k ≡ true
element_solid (element name attributes) e = refl
element_solid (text s) e = refl
element_solid _ e = e

-- ---- a node that hangs by its parent

pub record HangsBy (rank : ℕ → ℕ) (nodes : List NodeValue) (n : ℕ) : Type 0 where
  pub by : ℕ
  pub parent : parent_at nodes n ≡ Some by
  pub holder : Holder nodes by n
  pub less : rank by < rank n

abbrev pub Hangs : (ℕ → ℕ) → List NodeValue → ℕ → Type 0
Hangs rank nodes n = (n ≡ 0) ⊎ HangsBy rank nodes n

-- each text and each element hangs, but for those that are out
abbrev pub Torn : (ℕ → Type 0) → (ℕ → ℕ) → List NodeValue → Type 0
Torn Out rank nodes = (n : ℕ) → is_solid (kind_at nodes n) ≡ true → Out n ⊎ Hangs rank nodes n

-- where a node is out or hangs, something else does
torn_as : {Out New : Type 0} {rank order : ℕ → ℕ} {nodes new : List NodeValue} {n : ℕ}
    → (Out → New ⊎ Hangs order new n) → (HangsBy rank nodes n → New ⊎ Hangs order new n)
    → Out ⊎ Hangs rank nodes n → New ⊎ Hangs order new n
torn_as f g (inl o) = f o
torn_as f g (inr (inl z)) = inr (inl z)
torn_as f g (inr (inr h)) = g h

pub torn_less : {Out New : ℕ → Type 0} {rank : ℕ → ℕ} {nodes : List NodeValue}
    → ((n : ℕ) → Out n → New n) → Torn Out rank nodes → Torn New rank nodes
torn_less f torn n s = ⊎_elim (λ o. inl (f n o)) (λ h. inr h) (torn n s)

-- each hangs
abbrev pub AllHang : (ℕ → ℕ) → List NodeValue → Type 0
AllHang rank nodes = (n : ℕ) → is_solid (kind_at nodes n) ≡ true → Hangs rank nodes n

-- a node may hold others
abbrev pub Fits : List NodeValue → ℕ → Type 0
Fits nodes p = (p < length nodes) × ((p ≡ 0) ⊎ (is_element (kind_at nodes p) ≡ true))

-- ---- kinds

pub kind_by_kinds : (nodes new : List NodeValue) (n : ℕ) → kinds new ≡ kinds nodes → kind_at new n
    ≡ kind_at nodes n
kind_by_kinds nodes new n e =
    kind_read new n ∙ (ap (λ (ks : List KindValue). get_or ks n document) e ∙ sym (kind_read nodes n))

pub solid_within : (n : ℕ) (nodes : List NodeValue) → is_solid (kind_at nodes n) ≡ true → n < length nodes
solid_within n [] e = absurd (true≢false (sym e))
solid_within zero (x ∷ nodes) e = omega arith
solid_within (suc n) (x ∷ nodes) e = let h = solid_within n nodes e in omega arith

pub kind_with_new : (n : ℕ) (k : KindValue) (nodes : List NodeValue) → (n ≡ length nodes → ⊥)
    → kind_at (nodes ++ new_node k ∷ []) n ≡ kind_at nodes n
kind_with_new zero k [] h = absurd (h refl)
kind_with_new (suc n) k [] h = refl
kind_with_new zero k (x ∷ nodes) h = refl
kind_with_new (suc n) k (x ∷ nodes) h = kind_with_new n k nodes (λ e. h (ap suc e))

pub kind_new_at : (k : KindValue) (nodes : List NodeValue) → kind_at (nodes ++ new_node k ∷ []) (length nodes) ≡ k
kind_new_at k [] = refl
kind_new_at k (x ∷ nodes) = kind_new_at k nodes

-- ---- lists of children

pub children_in : (p : ℕ) (cs : List ℕ) (nodes : List NodeValue) → p < length nodes
    → children_at (with_children p cs nodes) p ≡ cs
children_in p cs [] l = absurd (omega arith)
children_in zero cs (x ∷ nodes) l = refl
children_in (suc p) cs (x ∷ nodes) l = children_in p cs nodes (omega arith)

pub children_within : (p n : ℕ) (nodes : List NodeValue) → 1 ≤ times n (children_at nodes p) → p < length nodes
children_within p n [] l = absurd (omega arith)
children_within zero n (x ∷ nodes) l = omega arith
children_within (suc p) n (x ∷ nodes) l = let h = children_within p n nodes l in omega arith

pub holder_within : (rank : ℕ → ℕ) (nodes : List NodeValue) (n : ℕ) (h : HangsBy rank nodes n)
    → h.by < length nodes
holder_within rank nodes n h = children_within h.by n nodes h.holder.stands

removed_other : (m n : ℕ) (cs : List ℕ) → (n ≡ m → ⊥) → times m (remove cs (index_of n cs)) ≡ times m cs
removed_other m n [] h = refl
removed_other m n (c ∷ cs) h =
    test (c == n) (λ t. test (list_any (is_number n) cs)
    (λ u. let i = removed_other m n cs h in rw (t, u) (omega arith))
    (λ u. let z : ◌≡◌ {A = ℕ} (cond (c == m) 1 0) 0 =
    rw (ne_eqb c m (λ e. h (sym (eqb-true c n t) ∙ e))) refl in
    rw (t, u) (omega arith)))
    (λ t. let i = removed_other m n cs h in rw t (omega arith))

-- ---- a node without a parent is put among the children of another

abbrev pub put_at : ℕ → ℕ → ℕ → List NodeValue → List NodeValue
put_at n p i nodes = with_parent n (Some p) (with_children p (insert (children_at nodes p) i n) nodes)

put_kinds : (n p i : ℕ) (nodes : List NodeValue) → kinds (put_at n p i nodes) ≡ kinds nodes
put_kinds n p i nodes =
    kinds_with_parent n (Some p) (with_children p (insert (children_at nodes p) i n) nodes)
    ∙ kinds_with_children p _ nodes

pub put_kind : (n p i : ℕ) (nodes : List NodeValue) (m : ℕ) → kind_at (put_at n p i nodes) m ≡ kind_at nodes m
put_kind n p i nodes m = kind_by_kinds nodes (put_at n p i nodes) m (put_kinds n p i nodes)

pub put_size : (n p i : ℕ) (nodes : List NodeValue) → length (put_at n p i nodes) ≡ length nodes
put_size n p i nodes =
    length-set (with_children p (insert (children_at nodes p) i n) nodes) n _ ∙ length-set nodes p _

pub either_by : (nodes new : List NodeValue) (p : ℕ) → is_element (kind_at new p) ≡ is_element (kind_at nodes p)
    → (p ≡ 0) ⊎ (is_element (kind_at nodes p) ≡ true) → (p ≡ 0) ⊎ (is_element (kind_at new p) ≡ true)
either_by nodes new p e (inl z) = inl z
either_by nodes new p e (inr f) = inr (e ∙ f)

-- a node hangs still where its parent is the same, and holds it as before
pub hangs_still : (rank order : ℕ → ℕ) (nodes new : List NodeValue) (n : ℕ) (h : HangsBy rank nodes n)
    → parent_at new n ≡ parent_at nodes n → is_element (kind_at new h.by) ≡ is_element (kind_at nodes h.by)
    → times n (children_at nodes h.by) ≤ times n (children_at new h.by) → order h.by < order n
    → HangsBy order new n
hangs_still rank order nodes new n h parent same more less = record {
  by = h.by;
  parent = parent ∙ h.parent;
  holder = record {
    either = either_by nodes new h.by same h.holder.either;
    stands = let b = h.holder.stands in omega arith;
  };
  less = less;
}

-- one child more
put_more : (m n p i : ℕ) (nodes : List NodeValue) (q : ℕ) → q < length nodes
    → times m (children_at nodes q) ≤ times m (children_at (put_at n p i nodes) q)
put_more m n p i nodes q l =
    let a = ap (times m) (children_of_parent n q (Some p) (with_children p (insert (children_at nodes p) i n) nodes)) in
    test (p == q)
    (λ t. let e = eqb-true p q t in
    let j = times_insert m n i (children_at nodes p) in
    let b : times m (children_at (with_children p (insert (children_at nodes p) i n) nodes) q)
    ≡ times m (insert (children_at nodes p) i n) =
    ap (λ (x : ℕ). times m (children_at (with_children p (insert (children_at nodes p) i n) nodes) x)) (sym e)
    ∙ ap (times m) (children_in p (insert (children_at nodes p) i n) nodes (omega arith)) in
    let d = ap (λ (x : ℕ). times m (children_at nodes x)) e in
    omega arith)
    (λ t. let b = ap (times m) (children_other p q (insert (children_at nodes p) i n) nodes (eqb-false p q t)) in
    omega arith)

put_other : (rank : ℕ → ℕ) (n p i : ℕ) (nodes : List NodeValue) (m : ℕ) → (n ≡ m → ⊥)
    → HangsBy rank nodes m → HangsBy rank (put_at n p i nodes) m
put_other rank n p i nodes m f h =
    hangs_still rank rank nodes (put_at n p i nodes) m h
    (parent_other n m (Some p) (with_children p (insert (children_at nodes p) i n) nodes) f
    ∙ parent_of_children p m _ nodes) (ap is_element (put_kind n p i nodes h.by))
    (put_more m n p i nodes h.by (holder_within rank nodes m h)) h.less

put_own : (rank : ℕ → ℕ) (n p i : ℕ) (nodes : List NodeValue) → n < length nodes → Fits nodes p
    → rank p < rank n → HangsBy rank (put_at n p i nodes) n
put_own rank n p i nodes l fits less = record {
  by = p;
  parent = parent_same n (Some p) (with_children p (insert (children_at nodes p) i n) nodes)
      (let e : length (with_children p (insert (children_at nodes p) i n) nodes) ≡ length nodes =
      length-set nodes p _ in omega arith);
  holder = record {
    either = either_by nodes (put_at n p i nodes) p (ap is_element (put_kind n p i nodes p)) fits.1;
    stands =
        let a =
        ap (times n) (children_of_parent n p (Some p) (with_children p (insert (children_at nodes p) i n) nodes)) in
        let j = times_insert n n i (children_at nodes p) in
        let own : ◌≡◌ {A = ℕ} (cond (n == n) 1 0) 1 = rw (eq-eqb n n refl) refl in
        let b = ap (times n) (children_in p (insert (children_at nodes p) i n) nodes fits.0) in
        omega arith;
  };
  less = less;
}

-- what was out hangs then
pub put_torn : (Out : ℕ → Type 0) (rank : ℕ → ℕ) (n p i : ℕ) (nodes : List NodeValue)
    → Torn (λ m. (m ≡ n) ⊎ Out m) rank nodes → n < length nodes → Fits nodes p → rank p < rank n
    → Torn Out rank (put_at n p i nodes)
put_torn Out rank n p i nodes torn l fits less m s =
    torn_as (⊎_elim (λ e. inr (inr (own (sym e)))) (λ o. inl o))
    (λ h. test (n == m) (λ t. inr (inr (own (eqb-true n m t))))
    (λ t. inr (inr (put_other rank n p i nodes m (eqb-false n m t) h))))
    (torn m (sym (ap is_solid (put_kind n p i nodes m)) ∙ s))
  where
    own : n ≡ m → HangsBy rank (put_at n p i nodes) m
    own e = subst (λ (x : ℕ). HangsBy rank (put_at n p i nodes) x) e (put_own rank n p i nodes l fits less)

-- what is neither text nor element may be put anywhere
pub put_loose : (rank : ℕ → ℕ) (n p i : ℕ) (nodes : List NodeValue) → is_solid (kind_at nodes n) ≡ false
    → AllHang rank nodes → AllHang rank (put_at n p i nodes)
put_loose rank n p i nodes loose all m s =
    let solid : is_solid (kind_at nodes m) ≡ true = sym (ap is_solid (put_kind n p i nodes m)) ∙ s in
    ⊎_elim (λ z. inl z) (λ h. inr (put_other rank n p i nodes m
    (λ e. true≢false (sym solid ∙ (ap (λ (x : ℕ). is_solid (kind_at nodes x)) (sym e) ∙ loose))) h))
    (all m solid)

-- ---- a new node, which hangs by nothing

pub appended_hangs : (rank new : ℕ → ℕ) (k : KindValue) (nodes : List NodeValue) (n : ℕ)
    → ((a b : ℕ) → a < length nodes → b < length nodes → rank a < rank b → new a < new b)
    → n < length nodes → HangsBy rank nodes n → HangsBy new (nodes ++ new_node k ∷ []) n
appended_hangs rank new k nodes n order l h =
    let within = holder_within rank nodes n h in
    let a = ap (times n) (children_with_new h.by k nodes) in
    hangs_still rank new nodes (nodes ++ new_node k ∷ []) n h (parent_with_new n k nodes)
    (ap is_element (kind_with_new h.by k nodes (λ e. omega arith))) (omega arith) (order h.by n within l h.less)

pub appended_torn : (Out : ℕ → Type 0) (rank new : ℕ → ℕ) (k : KindValue) (nodes : List NodeValue)
    → ((a b : ℕ) → a < length nodes → b < length nodes → rank a < rank b → new a < new b)
    → Torn Out rank nodes → Torn (λ m. (m ≡ length nodes) ⊎ Out m) new (nodes ++ new_node k ∷ [])
appended_torn Out rank new k nodes order torn m s =
    test (m == length nodes) (λ t. inl (inl (eqb-true m (length nodes) t)))
    (λ t. let solid : is_solid (kind_at nodes m) ≡ true =
    sym (ap is_solid (kind_with_new m k nodes (eqb-false m (length nodes) t))) ∙ s in
    torn_as (λ o. inl (inr o))
    (λ h. inr (inr (appended_hangs rank new k nodes m order (solid_within m nodes solid) h))) (torn m solid))

-- ---- a node is taken out

detach_from_other : (rank : ℕ → ℕ) (o : Option ℕ) (n : ℕ) (nodes : List NodeValue) (m : ℕ)
    → (n ≡ m → ⊥) → HangsBy rank nodes m → HangsBy rank (detach_from o n nodes) m
detach_from_other rank None n nodes m f h = h
detach_from_other rank (Some p) n nodes m f h =
    let a = ap (times m) (children_of_parent n h.by None (remove_child p n nodes)) in
    let within = holder_within rank nodes m h in
    hangs_still rank rank nodes (detach_from (Some p) n nodes) m h (parent_other n m None (remove_child p n nodes) f
    ∙ parent_of_children p m (without_child n (children_at nodes p)) nodes)
    (ap is_element (kind_by_kinds nodes (detach_from (Some p) n nodes) h.by
    (kinds_with_parent n None (remove_child p n nodes) ∙ kinds_with_children p _ nodes))) (test (p == h.by)
    (λ t. let e = eqb-true p h.by t in
    let d : times m (children_at (remove_child p n nodes) h.by) ≡ times m (without_child n (children_at nodes p)) =
    ap (λ (x : ℕ). times m (children_at (remove_child p n nodes) x)) (sym e)
    ∙ ap (times m) (children_in p (without_child n (children_at nodes p)) nodes (omega arith)) in
    let g = removed_other m n (children_at nodes p) f in
    let i = ap (λ (x : ℕ). times m (children_at nodes x)) e in
    omega arith)
    (λ t. let d = ap (times m)
    (children_other p h.by (without_child n (children_at nodes p)) nodes (eqb-false p h.by t)) in
    omega arith)) h.less

pub detached_torn : (Out : ℕ → Type 0) (rank : ℕ → ℕ) (n : ℕ) (nodes : List NodeValue)
    → Torn Out rank nodes → Torn (λ m. (m ≡ n) ⊎ Out m) rank (detach n nodes)
detached_torn Out rank n nodes torn m s =
    torn_as (λ o. inl (inr o)) (λ h. test (m == n) (λ t. inl (inl (eqb-true m n t)))
    (λ t. inr (inr (detach_from_other rank (parent_at nodes n) n nodes m (λ e. eqb-false m n t (sym e)) h))))
    (torn m (sym (ap is_solid (kind_by_kinds nodes (detach n nodes) m (kinds_detach n nodes))) ∙ s))

-- ---- what a node is changes, but not what it is like

pub same_hang : (rank : ℕ → ℕ) (nodes new : List NodeValue)
    → ((m : ℕ) → is_solid (kind_at new m) ≡ is_solid (kind_at nodes m))
    → ((m : ℕ) → is_element (kind_at new m) ≡ is_element (kind_at nodes m))
    → ((m : ℕ) → parent_at new m ≡ parent_at nodes m)
    → ((m : ℕ) → children_at new m ≡ children_at nodes m) → AllHang rank nodes → AllHang rank new
same_hang rank nodes new solid same parent children all m s =
    ⊎_elim (λ z. inl z) (λ (h : HangsBy rank nodes m). let a = ap (times m) (children h.by) in
    inr (hangs_still rank rank nodes new m h (parent m) (same h.by) (omega arith) h.less))
    (all m (sym (solid m) ∙ s))

-- ---- all children of one node to another

pub moved_torn : (Out : ℕ → Type 0) (rank : ℕ → ℕ) (from to : ℕ) (nodes : List NodeValue) → IsForest nodes
    → (from ≡ to → ⊥) → Fits nodes to
    → ((m : ℕ) → parent_at nodes m ≡ Some from → rank from < rank m → rank to < rank m)
    → Torn Out rank nodes → Torn Out rank (move_children from to nodes)
moved_torn Out rank from to nodes forest apart fits above torn m s =
    torn_as (λ o. inl o) (λ h. inr (inr (by_parent h (solid_within m nodes (sym (ap is_solid (kind m)) ∙ s)))))
    (torn m (sym (ap is_solid (kind m)) ∙ s))
  where
    moved : List ℕ
    moved = children_at nodes from

    emptied : List NodeValue
    emptied = with_children from [] nodes

    named : List NodeValue
    named = with_parents to moved emptied

    new : List NodeValue
    new = move_children from to nodes

    kind : (i : ℕ) → kind_at new i ≡ kind_at nodes i
    kind i = kind_by_kinds nodes new i (kinds_move_children from to nodes)

    emptied_size : length emptied ≡ length nodes
    emptied_size = length-set nodes from _

    named_size : length named ≡ length nodes
    named_size = length_with_parents to moved emptied ∙ emptied_size

    in_to : times m (children_at new to) ≡ times m (children_at nodes to) + times m moved
    in_to =
        let a : times m (children_at new to) ≡ times m (children_at named to ++ moved) =
        ap (times m) (children_in to (children_at named to ++ moved) named
        (let f = named_size in let l = fits.0 in omega arith)) in
        let b = times_append m (children_at named to) moved in
        let d = ap (times m) (children_with_parents to to moved emptied ∙ children_other from to [] nodes apart) in
        omega arith

    parent : parent_at new m ≡ parent_at named m
    parent = parent_of_children to m (children_at named to ++ moved) named

    child : HangsBy rank nodes m → 1 ≤ times m moved → parent_at nodes m ≡ Some from → rank from < rank m
        → m < length nodes → HangsBy rank new m
    child h l e less within = record {
      by = to;
      parent = parent ∙ parent_among to m moved emptied l (let f = emptied_size in omega arith);
      holder = record {
        either = either_by nodes new to (ap is_element (kind to)) fits.1;
        stands = let a = in_to in omega arith;
      };
      less = above m e less;
    }

    none : (h : HangsBy rank nodes m) → (h.by ≡ from → ⊥) → times m moved ≡ 0
    none h f =
        let a = forest.once m from in
        let b = ap (λ (o : Option ℕ). once_under o from) h.parent ∙ elsewhere h.by from f in
        omega arith

    other : (h : HangsBy rank nodes m) → (h.by ≡ from → ⊥) → HangsBy rank new m
    other h f =
        hangs_still rank rank nodes new m h
        (parent ∙ (parent_not_among to m moved emptied (none h f) ∙ parent_of_children from m [] nodes))
        (ap is_element (kind h.by)) (test (to == h.by)
        (λ t. let a = in_to in
        let e = ap (λ (x : ℕ). times m (children_at new x)) (eqb-true to h.by t) in
        let g = ap (λ (x : ℕ). times m (children_at nodes x)) (eqb-true to h.by t) in
        omega arith)
        (λ t. let a : times m (children_at new h.by) ≡ times m (children_at nodes h.by) =
        ap (times m) (children_other to h.by _ named (eqb-false to h.by t)
        ∙ (children_with_parents to h.by moved emptied ∙ children_other from h.by [] nodes (λ e. f (sym e)))) in
        omega arith)) h.less

    by_parent : (h : HangsBy rank nodes m) → m < length nodes → HangsBy rank new m
    by_parent h within =
        test (h.by == from)
        (λ t. let e = eqb-true h.by from t in
        let b = h.holder.stands in
        let g = ap (λ (x : ℕ). times m (children_at nodes x)) e in
        let i : rank h.by ≡ rank from = ap rank e in
        let less = h.less in
        child h (omega arith) (h.parent ∙ ap Some e) (omega arith) within) (λ t. other h (eqb-false h.by from t))
