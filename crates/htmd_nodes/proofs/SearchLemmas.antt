-- The first thing that a tree says, in document order: what a node is, and what it says or one below it.
use Rattle.std.proofs.Common.{◌≡◌, ◌<◌, ℕ, List, length, sym, ap, ◌∙◌, Some, None, Bor, Option, is_some, true, false}
use Rattle.std.specs.Option.{option_copied, option_or}
use Rattle.std.proofs.lemmas.Bool.{false≢true}
use Rattle.htmd_nodes.specs.Items.{Data, Item, data_at, children_of, IsTree}
use Rattle.htmd_nodes.specs.NumberedTrees.{NumberedTree, with_children, tree_of, forest_of, value_tree, value_at}
use Rattle.htmd_nodes.proofs.NumberedTreesLemmas.{tree-open}

-- a node is a tree by what it is
pub value-node : (items : List Item) (node : ℕ) (node_data : Data) → IsTree items → node < length items
    → node_data ≡ data_at items node
    → value_at items node ≡ value_tree
    (with_children node node_data (forest_of (tree_of items) (children_of items node)))
value-node items node node_data t l e =
    ap (λ (x : NumberedTree). value_tree x) (tree-open items node t l
    ∙ ap (λ (x : Data). with_children node x (forest_of (tree_of items) (children_of items node))) (sym e))

-- ---- what a node says itself, or one below it

pub own-some : (r : Option (Bor (List ℕ))) (own below : Option (List ℕ)) → option_copied r ≡ own
    → is_some r ≡ true
    → option_copied r ≡ option_or own below
own-some None own below e h = absurd (false≢true h)
own-some (Some x) own below e h = ap (λ q. option_or q below) e

pub own-none : (r : Option (Bor (List ℕ))) (own below : Option (List ℕ)) → option_copied r ≡ own
    → is_some r ≡ false → below ≡ option_or own below
own-none None own below e h = ap (λ q. option_or q below) e
own-none (Some x) own below e h = absurd (false≢true (sym h))
