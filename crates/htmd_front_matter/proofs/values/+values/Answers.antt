-- What is left to prove of the functions of the cycle `values`.
use Rattle.std.proofs.Common.{rules, ◌≡◌, ◌<◌, length, sym, ap, ◌∙◌, arith, ℕ, List, true, false, refl}
use Rattle.htmd_lexical.specs.Attributes.{pairs_of}
use Rattle.htmd_lexical.specs.AttributePairs.{AttributePair}
use Rattle.htmd_values.specs.ValueTrees.{ValueForest}
use Rattle.htmd_nodes.specs.Items.{document_node, element_node, children_of}
use Rattle.htmd_nodes.specs.NumberedTrees.{tree_of, forest_of, value_forest}
use Rattle.htmd_nodes.specs.Views.{data_of}
use Rattle.htmd_nodes.proofs.ItemsLemmas.{child_read}
use Rattle.htmd_front_matter.specs.Sources.{source_of}
use Rattle.htmd_front_matter.specs.Values.{found_in, first_found, own_value, is_passed}
use Rattle.htmd_nodes.proofs.SearchLemmas.{value-node, own-some, own-none}
use Rattle.htmd_front_matter.proofs.ValuesLemmas.{value-other}
use Rattle.htmd_front_matter.proofs.values.+values.Goals as goal

pub first_found-found_in-found-requires : goal.first_found-found_in-found-requires
first_found-found_in-found-requires t c =
    let below = child_read c.args.tree.now c.args.node c.children-child-items.result.now c.loop-child.child-index
    c.child-item.result c.children-child-items.ensures.tree c.requires c.children-child-items.ensures.value
    (omega arith) c.child-item.is in
    let after : c.args.node < c.child-item.result = below.0 in
    let within : c.child-item.result < length c.args.tree.now = below.1 in
    (search rules, within)

pub found_in-returns-in-Document : goal.found_in-returns-in-Document
found_in-returns-in-Document t c =
    let w =
    ap (found_in (source_of c.args.source))
    (value-node c.args.tree.now c.args.node document_node c.data.ensures.tree c.requires
    (sym (ap data_of c.in-Document.is) ∙ c.data.ensures.value)) in
    c.first_found.ensures ∙ sym w

pub found_in-returns-then-is_passed : goal.found_in-returns-then-is_passed
found_in-returns-then-is_passed t c =
    let name : List ℕ = c.in-Element.name in
    let w =
    ap (found_in (source_of c.args.source)) (value-node c.args.tree.now c.args.node (element_node name
    (pairs_of c.in-Element.attrs.items)) c.data.ensures.tree
    c.requires (sym (ap data_of c.in-Element.is) ∙ c.data.ensures.value)) in
    let passed : is_passed (source_of c.args.source) name ≡ true = search rules in
    sym (w ∙ rw passed refl)

pub found_in-returns-then-is_some : goal.found_in-returns-then-is_some
found_in-returns-then-is_some t c =
    let name : List ℕ = c.in-Element.name in
    let attributes : List AttributePair = pairs_of c.in-Element.attrs.items in
    let children : ValueForest =
    value_forest (forest_of (tree_of c.args.tree.now) (children_of c.args.tree.now c.args.node)) in
    let w =
    ap (found_in (source_of c.args.source))
    (value-node c.args.tree.now c.args.node (element_node name attributes) c.data.ensures.tree c.requires
    (sym (ap data_of c.in-Element.is) ∙ c.data.ensures.value)) in
    let inside : is_passed (source_of c.args.source) name ≡ false = search rules in
    let said = own-some c.own_value-own.result (own_value (source_of c.args.source) name attributes children)
    (first_found (source_of c.args.source) children)
    (search rules) (search rules) in
    said ∙ sym (w ∙ rw inside refl)

pub found_in-returns-else-is_some : goal.found_in-returns-else-is_some
found_in-returns-else-is_some t c =
    let name : List ℕ = c.in-Element.name in
    let attributes : List AttributePair = pairs_of c.in-Element.attrs.items in
    let children : ValueForest =
    value_forest (forest_of (tree_of c.args.tree.now) (children_of c.args.tree.now c.args.node)) in
    let w =
    ap (found_in (source_of c.args.source))
    (value-node c.args.tree.now c.args.node (element_node name attributes) c.data.ensures.tree c.requires
    (sym (ap data_of c.in-Element.is) ∙ c.data.ensures.value)) in
    let inside : is_passed (source_of c.args.source) name ≡ false = search rules in
    c.first_found-in-Element.ensures
    ∙ (own-none c.own_value-own.result (own_value (source_of c.args.source) name attributes children)
    (first_found (source_of c.args.source) children)
    (search rules) (search rules)
    ∙ sym (w ∙ rw inside refl))

pub found_in-returns-in_default : goal.found_in-returns-in_default
found_in-returns-in_default t c =
    let w =
    ap (found_in (source_of c.args.source))
    (value-node c.args.tree.now c.args.node (data_of c.data.result.now) c.data.ensures.tree c.requires
    c.data.ensures.value) in
    sym (w ∙ value-other (source_of c.args.source) c.args.node c.data.result.now
    (forest_of (tree_of c.args.tree.now) (children_of c.args.tree.now c.args.node))
    c.in_default.not-Document c.in_default.not-Element)
