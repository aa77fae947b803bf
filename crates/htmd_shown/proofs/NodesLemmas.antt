-- Nodes one after another.
use Rattle.std.proofs.Common.{◌≡◌, ℕ, zero, suc, ◌+◌, ◌-◌, ◌<◌, ◌≤◌, List, [], ◌∷◌, ◌++◌, length, get_or, take, drop}
use Rattle.std.proofs.Common.{◌∙◌, All, arith, refl, sym, subst, ap}
use Rattle.std.proofs.lemmas.List.{drop_more, drop_all, length-drop, take_all}
use Rattle.htmd_nodes.specs.NumberedTrees.{NumberedTree, forest_of, height, tallest}
use Rattle.htmd_nodes.specs.NumberedTrees as page
use Rattle.htmd_shown.specs.declared.simple.Simple.{Simple}
use Rattle.htmd_shown.specs.Shown.{followed_by}
use Rattle.htmd_shown.specs.SimpleTrees as value
use Rattle.htmd_shown.specs.SimpleViews.{simple_of, simples_of}

-- a slice up to the end
pub slice_rest : {A : Type 0} (xs : List A) (k : ℕ) → take (length xs - k) (drop k xs) ≡ drop k xs
slice_rest xs k = take_all (length xs - k) (drop k xs) (omega (arith, length-drop k xs))

-- ---- of a page

module _ (tree : ℕ → NumberedTree) where
  pub forest_at : (ids : List ℕ) (k id : ℕ) → k < length ids → id ≡ get_or ids k id
      → forest_of tree (drop k ids) ≡ page.more (tree id) (forest_of tree (drop (k + 1) ids))
  forest_at ids k id l e = ap (forest_of tree) (drop_more ids k id l ∙ ap (λ x. x ∷ drop (k + 1) ids) (sym e))

  pub tallest_at : (ids : List ℕ) (k d : ℕ) → k < length ids
      → height (tree (get_or ids k d)) ≤ tallest (forest_of tree ids)
  tallest_at [] k d l = absurd (omega arith)
  tallest_at (id ∷ ids) zero d l = omega arith
  tallest_at (id ∷ ids) (suc k) d l = let r = tallest_at ids k d (omega arith) in omega (arith, r)

  -- no node has more levels than the tallest
  pub tallest_item : (ids : List ℕ) (k id : ℕ) → k < length ids → id ≡ get_or ids k id
      → height (tree id) ≤ tallest (forest_of tree ids)
  tallest_item ids k id l e =
      subst (λ x. height (tree x) ≤ tallest (forest_of tree ids)) (sym e) (tallest_at ids k id l)

  pub forest_end : (ids : List ℕ) (k : ℕ) → length ids ≤ k → forest_of tree (drop k ids) ≡ page.none
  forest_end ids k l = ap (forest_of tree) (drop_all k ids l)

pub within_at : (m : ℕ) (ids : List ℕ) (k id : ℕ) → All (λ n. n < m) ids → k < length ids
    → id ≡ get_or ids k id → id < m
within_at m ids k id a l e = subst (λ x. x < m) (sym e) (a k id l)

-- ---- of the simpler tree

pub nodes_at : (xs : List Simple) (k : ℕ) (x : Simple) → k < length xs → x ≡ get_or xs k x
    → simples_of (drop k xs) ≡ value.more (simple_of x) (simples_of (drop (k + 1) xs))
nodes_at xs k x l e = ap simples_of (drop_more xs k x l ∙ ap (λ y. y ∷ drop (k + 1) xs) (sym e))

-- one more node
pub nodes_push : (xs : List Simple) (x : Simple)
    → simples_of (xs ++ x ∷ []) ≡ followed_by (simples_of xs) (value.more (simple_of x) value.none)
nodes_push [] x = refl
nodes_push (y ∷ xs) x = ap (value.more (simple_of y)) (nodes_push xs x)
