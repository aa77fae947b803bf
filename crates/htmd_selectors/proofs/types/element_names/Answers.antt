use Rattle.std.proofs.Common.{◌≡◌, ◌++◌, ◌∷◌, ℕ, List, length, arith, ap, sym, ◌∙◌}
use Rattle.std.proofs.Common.{Vec, Global, ◌<◌}
use Rattle.std.specs.Borrow.{Bor}
use Rattle.htmd_lexical.specs.Attributes.{pairs_of}
use Rattle.htmd_nodes.specs.Items.{element_node, children_of}
use Rattle.htmd_nodes.specs.NumberedTrees.{tree_of, forest_of, value_at}
use Rattle.htmd_nodes.specs.Views.{data_of}
use Rattle.htmd_nodes.proofs.ItemsLemmas.{child_read}
use Rattle.htmd_selectors.specs.SelectedParts.{with_name}
use Rattle.htmd_selectors.specs.TypeViews.{names_of}
use Rattle.htmd_selectors.proofs.SelectedPartsLemmas.{element_names-turn, part-node, with_name-other}
use Rattle.htmd_selectors.proofs.TypesLemmas.{names-push}
use Rattle.htmd_selectors.proofs.types.element_names.Goals as goal
use Rattle.htmd_selectors.proofs.types.element_names.Goals.{in-Element+in_ok-push, in_default}

pub data-requires : goal.data-requires
data-requires c =
    (child_read c.args.tree.now c.args.node c.children-child-items.result.now c.loop-child.child-index
    c.child-item.result c.children-child-items.ensures.tree c.requires c.children-child-items.ensures.value
    (omega arith) c.child-item.is).1

pub loop-child-preserved : goal.loop-child-preserved
loop-child-preserved c =
    let tree = c.args.tree.now in
    let ids = c.children-child-items.result.now in
    let i : ℕ = c.loop-child.child-index in
    let id : ℕ = c.child-item.result in
    let within : id < length tree =
    (child_read tree c.args.node ids i id c.children-child-items.ensures.tree c.requires
    c.children-child-items.ensures.value (omega arith) c.child-item.is).1 in
    let old : List (List ℕ) = names_of c.loop-child.names.items in
    let new : List (List ℕ) = names_of c.match-data.names.items in
    let one : (rest : List (List ℕ)) → new ++ rest ≡ old ++ with_name (value_at tree id) rest =
    elim c.match-data.branch [
      | in-Element+in_ok-push w ↦ (λ rest.
          ap (λ (x : Vec (Bor (List ℕ)) Global). names_of x.items ++ rest) w.names-is
          ∙ (ap (λ x. names_of x ++ rest) w.in_ok-push.ensures.items
          ∙ (names-push c.loop-child.names.items w.as_str.result rest
          ∙ (ap (λ x. old ++ x ∷ rest) w.as_str.ensures
          ∙ ap (λ x. old ++ x) (sym (part-node (λ t. with_name t rest) tree id
          (element_node w.in-Element.name (pairs_of w.in-Element.attrs.items)) c.data.ensures.tree within
          (sym (ap data_of w.in-Element.is) ∙ c.data.ensures.value)))))))
      | in_default w ↦ (λ rest.
          ap (λ (x : Vec (Bor (List ℕ)) Global). names_of x.items ++ rest) w.names-is
          ∙ ap (λ x. old ++ x) (sym (part-node (λ t. with_name t rest) tree id (data_of c.data.result.now)
          c.data.ensures.tree within c.data.ensures.value
          ∙ with_name-other id c.data.result.now (forest_of (tree_of tree) (children_of tree id)) rest
          w.in_default.not-Element)))
    ] in
    record {
      items = c.loop-child.invariant.items;
      rest = element_names-turn tree ids i id old new _ (omega arith) c.child-item.is c.loop-child.invariant.rest one;
    }
