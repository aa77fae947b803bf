-- What is left to prove of the functions of the cycle `serialiser`.
use Rattle.std.proofs.Common.{rules, ◌≡◌, ◌<◌, ◌++◌, length, string_bytes, sym, ap, ◌∙◌, arith, ℕ, List, false, codes}
use Rattle.htmd_nodes.specs.Items.{children_of, document_node, doctype_node, text_node, comment_node, element_node}
use Rattle.htmd_nodes.specs.NumberedTrees.{tree_of, forest_of, value_forest}
use Rattle.htmd_lexical.specs.Attributes.{pairs_of}
use Rattle.htmd_lexical.specs.declared.attribute.Attribute.{Attribute}
use Rattle.htmd_nodes.specs.Views.{data_of}
use Rattle.htmd_lexical.specs.AttributePairs.{AttributePair}
use Rattle.htmd_values.specs.ValueTrees.{ValueForest}
use Rattle.htmd_values.specs.Serialisation.{start_tag, end_tag, is_void, is_raw_text, all_markup_of}
use Rattle.htmd_nodes.proofs.ItemsLemmas.{child_read}
use Rattle.htmd_nodes.proofs.SerialiserLemmas.{OnOk-pushed, OnOk-third, markup_of-node}
use Rattle.htmd_nodes.proofs.serialiser.+serialiser.Goals as goal

pub push_children-push_node-requires : goal.push_children-push_node-requires
push_children-push_node-requires t c =
    let below = child_read c.args.tree.now c.args.node c.children-child-items.result.now c.loop-child.child-index
    c.child-item.result c.children-child-items.ensures.tree c.requires c.children-child-items.ensures.value
    (omega arith) c.child-item.is in
    let behind : c.args.node < c.child-item.result = below.0 in
    let within : c.child-item.result < length c.args.tree.now = below.1 in
    (search rules, within)

pub push_node-returns-in-Document : goal.push_node-returns-in-Document
push_node-returns-in-Document t c =
    let w = markup_of-node c.args.tree.now c.args.node document_node c.args.raw c.data.ensures.tree c.requires
    (sym (ap data_of c.in-Document.is) ∙ c.data.ensures.value) in
    rw w (search rules)

pub push_node-returns-in-Doctype : goal.push_node-returns-in-Doctype
push_node-returns-in-Doctype t c =
    let w = markup_of-node c.args.tree.now c.args.node doctype_node c.args.raw c.data.ensures.tree c.requires
    (sym (ap data_of c.in-Doctype.is) ∙ c.data.ensures.value) in
    rw w (OnOk-pushed c.push_str.result (string_bytes c.push_str.new.self) (string_bytes c.args.out.now)
    (codes "<!DOCTYPE html>") c.push_str.ensures.bytes)

pub push_node-returns-then-raw : goal.push_node-returns-then-raw
push_node-returns-then-raw t c =
    let w = markup_of-node c.args.tree.now c.args.node (text_node (string_bytes c.in-Text.text)) c.args.raw
    c.data.ensures.tree c.requires (sym (ap data_of c.in-Text.is) ∙ c.data.ensures.value) in
    rw w (search rules)

pub push_node-returns-else-raw : goal.push_node-returns-else-raw
push_node-returns-else-raw t c =
    let w = markup_of-node c.args.tree.now c.args.node (text_node (string_bytes c.in-Text.text)) c.args.raw
    c.data.ensures.tree c.requires (sym (ap data_of c.in-Text.is) ∙ c.data.ensures.value) in
    rw w (search rules)

pub push_node-returns-in-Comment : goal.push_node-returns-in-Comment
push_node-returns-in-Comment t c =
    let w = markup_of-node c.args.tree.now c.args.node (comment_node (string_bytes c.in-Comment.text)) c.args.raw
    c.data.ensures.tree c.requires (sym (ap data_of c.in-Comment.is) ∙ c.data.ensures.value) in
    rw w (search rules)

pub push_node-returns-then-is_void : goal.push_node-returns-then-is_void
push_node-returns-then-is_void t c =
    let w = markup_of-node c.args.tree.now c.args.node
    (element_node c.in-Element.name (pairs_of c.in-Element.attrs.items)) c.args.raw
    c.data.ensures.tree c.requires (sym (ap data_of c.in-Element.is) ∙ c.data.ensures.value) in
    rw w (search rules)

pub push_node-returns-in_ok-push_children-in-Element : goal.push_node-returns-in_ok-push_children-in-Element
push_node-returns-in_ok-push_children-in-Element t c =
    let name : List ℕ = c.as_str-name.result.now in
    let attributes : List AttributePair = pairs_of c.as_slice.result.now in
    let children : ValueForest =
    value_forest (forest_of (tree_of c.args.tree.now) (children_of c.args.tree.now c.args.node)) in
    let w = markup_of-node c.args.tree.now c.args.node (element_node name attributes) c.args.raw c.data.ensures.tree
    c.requires (ap (λ n. element_node n attributes) c.as_str-name.ensures
    ∙ (ap (λ (x : List Attribute). element_node c.in-Element.name (pairs_of x)) c.as_slice.ensures.value
    ∙ (sym (ap data_of c.in-Element.is) ∙ c.data.ensures.value))) in
    let other : is_void name ≡ false = sym c.is_void.ensures ∙ c.if-is_void.false in
    let inner : string_bytes c.push_children-in-Element.new.out ≡ string_bytes c.push_start_tag.new.out
    ++ all_markup_of (is_raw_text name) children =
    c.in_ok-push_children-in-Element.ensures
    ∙ ap (λ b. string_bytes c.push_start_tag.new.out ++ all_markup_of b children) c.is_raw_text.ensures in
    rw (w, other)
    (OnOk-third c.push_end_tag.result (string_bytes c.args.out.now) (string_bytes c.push_start_tag.new.out)
    (string_bytes c.push_children-in-Element.new.out) (string_bytes c.push_end_tag.new.out)
    (start_tag name attributes)
    (all_markup_of (is_raw_text name) children) (end_tag name) c.in_ok-push_start_tag-in-Element.ensures.ok inner
    c.push_end_tag.ensures.ok)
