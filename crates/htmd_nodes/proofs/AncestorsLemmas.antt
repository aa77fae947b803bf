-- The ancestors of a node are its parent and the ancestors of that.
use Rattle.std.proofs.Common.{◌≡◌, ℕ, zero, suc, ◌<◌, List, length, Option, Some, None, IsSome, refl, ap, ◌∙◌, subst}
use Rattle.std.proofs.Common.{arith}
use Rattle.std.proofs.lemmas.Bool.{false≢true}
use Rattle.htmd_nodes.specs.Items.{Item, parent_at, depth_at, IsTree}
use Rattle.htmd_nodes.specs.Ancestors.{chain_from, ancestors_up, ancestors_of}

pub no_parent : (items : List Item) (id : ℕ) → IsTree items → id < length items → parent_at items id ≡ None
    → depth_at items id ≡ 0
no_parent items zero t l e = ap (λ (x : Item). x.depth) t.first
no_parent items (suc id) t l e =
    absurd (false≢true (subst (λ (x : Option ℕ). IsSome x) e (t.has_parent (suc id) (omega arith) l)))

-- a node's ancestors are its parent and the ancestors of that
pub ancestors-open : (items : List Item) (id : ℕ) → IsTree items → id < length items
    → ancestors_of items id ≡ chain_from (ancestors_of items) items (parent_at items id)
unfolding ancestors_of ancestors_up
ancestors-open items id t l = by_parent (parent_at items id) refl
  where
    by_parent : (o : Option ℕ) → parent_at items id ≡ o
        → ancestors_of items id ≡ chain_from (ancestors_of items) items o
    by_parent None e = ap (λ n. ancestors_up n items id) (no_parent items id t l e)
    by_parent (Some p) e =
        let up : depth_at items id ≡ suc (depth_at items p) = omega (arith, (t.under id p l e).deeper) in
        ap (λ n. ancestors_up n items id) up
        ∙ ap (λ (o : Option ℕ). chain_from (ancestors_up (depth_at items p) items) items o) e
