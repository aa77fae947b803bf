-- What is written for a node, child by child.
use Rattle.std.proofs.Common.{◌≡◌, ℕ, ◌<◌, Bool, cond, List, ◌++◌, length, sym, ap, ◌∙◌, Result, Ok}
use Rattle.std.proofs.Common.{Err, OnOk, is_ok}
use Rattle.std.proofs.lemmas.List.{append_assoc}
use Rattle.htmd_nodes.specs.Items.{Data, Item, data_at, children_of, IsTree}
use Rattle.htmd_nodes.specs.NumberedTrees.{value_tree, NumberedTree, with_children, tree_of, forest_of}
use Rattle.htmd_values.specs.Serialisation.{markup_of}
use Rattle.htmd_nodes.proofs.NumberedTreesLemmas.{tree-open}

pub OnOk-pushed : {T E : Type 0} (r : Result T E) (new out piece : List ℕ)
    → new ≡ cond (is_ok r) (out ++ piece) out
    → OnOk r (new ≡ out ++ piece)
OnOk-pushed (Ok x) new out piece e = e
OnOk-pushed (Err y) new out piece e = tt

-- three pieces, if only the last is left to hold
pub OnOk-third : {T E : Type 0} (r : Result T E) (out one two new start inner end_ : List ℕ) → one ≡ out ++ start
    → two ≡ one ++ inner → OnOk r (new ≡ two ++ end_) → OnOk r (new ≡ out ++ (start ++ inner ++ end_))
OnOk-third (Ok x) out one two new start inner end_ e f g =
    g ∙ (ap (λ x. x ++ end_) (f ∙ (ap (λ x. x ++ inner) e ∙ append_assoc out start inner))
    ∙ append_assoc out (start ++ inner) end_)
OnOk-third (Err y) out one two new start inner end_ e f g = tt

-- ---- nodes

-- a node is written by what it is
pub markup_of-node : (items : List Item) (node : ℕ) (node_data : Data) (raw : Bool) → IsTree items
    → node < length items
    → node_data ≡ data_at items node
    → markup_of raw (value_tree (tree_of items node)) ≡ markup_of raw
    (value_tree (with_children node node_data (forest_of (tree_of items) (children_of items node))))
markup_of-node items node node_data raw t l e =
    ap (λ (x : NumberedTree). markup_of raw (value_tree x)) (tree-open items node t l
    ∙ ap (λ (x : Data). with_children node x (forest_of (tree_of items) (children_of items node))) (sym e))
