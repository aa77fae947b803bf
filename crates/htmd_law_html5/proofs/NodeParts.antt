-- Lists of children, and what a node has after a step on another part of it or on another node.
use Rattle.std.proofs.Common.{◌≡◌, ℕ, zero, suc, ◌+◌, ◌<◌, ◌≤◌, true, false, List, [], ◌∷◌, ◌++◌, length, take, drop}
use Rattle.std.proofs.Common.{refl, sym, ap, arith, cond, Option, Some, None, inl, inr, ◌⊎◌}
use Rattle.std.specs.Prelude.{◌==◌, insert, remove, slice_set}
use Rattle.std.specs.List.{list_any}
use Rattle.std.proofs.lemmas.List.{take-append-drop, get_or-set_same, get_or-set_other}
use Rattle.htmd_lexical.proofs.Cases.{test}
use Rattle.htmd_html5_state.specs.Nodes.{NodeValue, KindValue, new_node, parent_at, children_at, with_kind, with_parent}
use Rattle.htmd_html5_state.specs.Nodes.{with_children, is_number, index_of, node_at, kind_at, document}

-- ---- how often a number stands in a list

abbrev pub times : ℕ → List ℕ → ℕ
times n [] = 0
times n (c ∷ cs) = cond (c == n) 1 0 + times n cs

pub times_append : (n : ℕ) (a b : List ℕ) → times n (a ++ b) ≡ times n a + times n b
times_append n [] b = omega arith
times_append n (c ∷ a) b = let h = times_append n a b in omega arith

pub times_insert : (n m i : ℕ) (cs : List ℕ) → times n (insert cs i m) ≡ times n cs + cond (m == n) 1 0
times_insert n m i cs =
    let a = times_append n (take i cs) (m ∷ drop i cs) in
    let b = times_append n (take i cs) (drop i cs) in
    let d : times n (take i cs ++ drop i cs) ≡ times n cs = ap (times n) (take-append-drop i cs) in
    omega arith

drop_fewer : (n i : ℕ) (cs : List ℕ) → times n (drop (suc i) cs) ≤ times n (drop i cs)
drop_fewer n zero [] = omega arith
drop_fewer n (suc i) [] = omega arith
drop_fewer n zero (c ∷ cs) = omega arith
drop_fewer n (suc i) (c ∷ cs) = drop_fewer n i cs

pub remove_fewer : (n i : ℕ) (cs : List ℕ) → times n (remove cs i) ≤ times n cs
remove_fewer n i cs =
    let a = times_append n (take i cs) (drop (suc i) cs) in
    let b = times_append n (take i cs) (drop i cs) in
    let d : times n (take i cs ++ drop i cs) ≡ times n cs = ap (times n) (take-append-drop i cs) in
    let e = drop_fewer n i cs in
    omega arith

pub some_times : (n : ℕ) (cs : List ℕ) → list_any (is_number n) cs ≡ true → 1 ≤ times n cs
some_times n [] e = absurd (cc)
some_times n (c ∷ cs) e =
    test (c == n) (λ t. rw t (omega arith))
    (λ t. let f = rw t at e in let h = some_times n cs f in rw t (omega arith))

no_times : (n : ℕ) (cs : List ℕ) → list_any (is_number n) cs ≡ false → times n cs ≡ 0
no_times n [] e = refl
no_times n (c ∷ cs) e =
    test (c == n) (λ t. absurd (let f : true ≡ false = rw t at e in cc))
    (λ t. let f = rw t at e in let h = no_times n cs f in rw t (omega arith))

pub removed_once : (n : ℕ) (cs : List ℕ) → times n cs ≤ 1 → times n (remove cs (index_of n cs)) ≡ 0
removed_once n [] l = refl
removed_once n (c ∷ cs) l =
    test (c == n) (λ t. test (list_any (is_number n) cs)
    (λ u. absurd (let m = rw t at l in let h = some_times n cs u in omega arith))
    (λ u. rw (t, u) (no_times n cs u)))
    (λ t. let m = rw t at l in
    let h : times n (remove cs (index_of n cs)) ≡ 0 = removed_once n cs (omega arith) in
    rw (t, t) (omega arith))

-- ---- what a node has after a step on another part of it, or on another node

pub children_same : (n : ℕ) (cs : List ℕ) (nodes : List NodeValue)
    → (children_at (with_children n cs nodes) n ≡ cs) ⊎ (children_at (with_children n cs nodes) n ≡ [])
children_same n cs [] = inr refl
children_same zero cs (x ∷ nodes) = inl refl
children_same (suc n) cs (x ∷ nodes) = children_same n cs nodes

-- the other nodes stay as they are
node_other : (n m : ℕ) (x : NodeValue) (nodes : List NodeValue) → (n ≡ m → ⊥)
    → node_at (slice_set nodes n x) m ≡ node_at nodes m
node_other n m x nodes h = get_or-set_other nodes n m x (new_node document) (λ e. h (sym e))

pub children_other : (n p : ℕ) (cs : List ℕ) (nodes : List NodeValue) → (n ≡ p → ⊥)
    → children_at (with_children n cs nodes) p ≡ children_at nodes p
children_other n p cs nodes h = ap (λ (x : NodeValue). x.children) (node_other n p _ nodes h)

-- a part that a node keeps is everywhere as it was
part_kept : {A : Type 0} (part : NodeValue → A) (n m : ℕ) (x : NodeValue) (nodes : List NodeValue)
    → part x ≡ part (node_at nodes n) → part (node_at (slice_set nodes n x) m) ≡ part (node_at nodes m)
part_kept part n m x [] e = refl
part_kept part zero zero x (y ∷ nodes) e = e
part_kept part zero (suc m) x (y ∷ nodes) e = refl
part_kept part (suc n) zero x (y ∷ nodes) e = refl
part_kept part (suc n) (suc m) x (y ∷ nodes) e = part_kept part n m x nodes e

pub parent_of_children : (n m : ℕ) (cs : List ℕ) (nodes : List NodeValue)
    → parent_at (with_children n cs nodes) m ≡ parent_at nodes m
parent_of_children n m cs nodes = part_kept (λ x. x.parent) n m _ nodes refl

pub children_of_parent : (n p : ℕ) (q : Option ℕ) (nodes : List NodeValue)
    → children_at (with_parent n q nodes) p ≡ children_at nodes p
children_of_parent n p q nodes = part_kept (λ x. x.children) n p _ nodes refl

pub parent_same : (n : ℕ) (q : Option ℕ) (nodes : List NodeValue) → n < length nodes
    → parent_at (with_parent n q nodes) n ≡ q
parent_same n q nodes l = ap (λ (x : NodeValue). x.parent) (get_or-set_same nodes n _ (new_node document) l)

pub parent_other : (n m : ℕ) (q : Option ℕ) (nodes : List NodeValue) → (n ≡ m → ⊥)
    → parent_at (with_parent n q nodes) m ≡ parent_at nodes m
parent_other n m q nodes h = ap (λ (x : NodeValue). x.parent) (node_other n m _ nodes h)

pub kind_other : (n m : ℕ) (k : KindValue) (nodes : List NodeValue) → (n ≡ m → ⊥)
    → kind_at (with_kind n k nodes) m ≡ kind_at nodes m
kind_other n m k nodes h = ap (λ (x : NodeValue). x.kind) (node_other n m _ nodes h)

pub has_parent : (n p : ℕ) (nodes : List NodeValue) → parent_at nodes n ≡ Some p → n < length nodes
has_parent n p [] e = absurd (cc)
has_parent zero p (x ∷ nodes) e = omega arith
has_parent (suc n) p (x ∷ nodes) e = let h = has_parent n p nodes e in omega arith

pub children_of_kind : (n p : ℕ) (k : KindValue) (nodes : List NodeValue)
    → children_at (with_kind n k nodes) p ≡ children_at nodes p
children_of_kind n p k nodes = part_kept (λ x. x.children) n p _ nodes refl

pub parent_of_kind : (n m : ℕ) (k : KindValue) (nodes : List NodeValue)
    → parent_at (with_kind n k nodes) m ≡ parent_at nodes m
parent_of_kind n m k nodes = part_kept (λ x. x.parent) n m _ nodes refl

pub children_with_new : (p : ℕ) (k : KindValue) (nodes : List NodeValue)
    → children_at (nodes ++ new_node k ∷ []) p ≡ children_at nodes p
children_with_new zero k [] = refl
children_with_new (suc p) k [] = refl
children_with_new zero k (x ∷ nodes) = refl
children_with_new (suc p) k (x ∷ nodes) = children_with_new p k nodes

pub parent_with_new : (m : ℕ) (k : KindValue) (nodes : List NodeValue)
    → parent_at (nodes ++ new_node k ∷ []) m ≡ parent_at nodes m
parent_with_new zero k [] = refl
parent_with_new (suc m) k [] = refl
parent_with_new zero k (x ∷ nodes) = refl
parent_with_new (suc m) k (x ∷ nodes) = parent_with_new m k nodes

pub parent_beyond : (m : ℕ) (nodes : List NodeValue) → length nodes ≤ m → parent_at nodes m ≡ None
parent_beyond m [] l = refl
parent_beyond zero (x ∷ nodes) l = absurd (omega arith)
parent_beyond (suc m) (x ∷ nodes) l = parent_beyond m nodes (omega arith)
