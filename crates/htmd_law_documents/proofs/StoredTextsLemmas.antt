-- The trees of the source hold texts in UTF-8.
use Rattle.std.proofs.Common.{◌≡◌, ℕ, zero, suc, Bool, true, false, cond, ◌&&◌, List, [], ◌∷◌, refl, ap, ◌∙◌}
use Rattle.std.proofs.Common.{All}
use Rattle.std.specs.List.{list_all}
use Rattle.std.specs.Str.{IsUtf8}
use Rattle.std.proofs.lemmas.List.Elements.{All-head, All-tail}
use Rattle.std.proofs.lemmas.Str.{is_utf8-from_IsUtf8}
use Rattle.htmd_lexical.specs.AttributePairs.{AttributePair}
use Rattle.htmd_nodes.specs.Items.{Item, Data, document_node, doctype_node, text_node, comment_node, element_node}
use Rattle.htmd_nodes.specs.Items.{HoldsText, HoldTexts, is_child, data_at}
use Rattle.htmd_nodes.specs.NumberedTrees.{NumberedForest, more, with_children, forest_from, tree_of}
use Rattle.htmd_law_documents.specs.TreeForms.{is_text_value, is_text_tree, are_text_trees}

data-holds : (items : List Item) (id : ℕ) → HoldTexts items → HoldsText (data_at items id)
data-holds [] id h = tt
data-holds (item ∷ items) zero h = All-head (λ (i : Item). HoldsText i.node_data) item items h
data-holds (item ∷ items) (suc id) h =
    data-holds items id (All-tail (λ (i : Item). HoldsText i.node_data) item items h)

-- ---- all values

values-text : (attributes : List AttributePair) → All (λ (a : AttributePair). IsUtf8 a.value) attributes
    → list_all is_text_value attributes ≡ true
values-text [] h = refl
values-text (a ∷ attributes) h =
    let here : IsUtf8 a.value = All-head (λ (x : AttributePair). IsUtf8 x.value) a attributes h in
    ap (λ b. b && list_all is_text_value attributes) (is_utf8-from_IsUtf8 a.value here)
    ∙ values-text attributes (All-tail (λ (x : AttributePair). IsUtf8 x.value) a attributes h)

node-text : (id : ℕ) (d : Data) (children : NumberedForest) → HoldsText d → are_text_trees children ≡ true
    → is_text_tree (with_children id d children) ≡ true
node-text id document_node children h e = e
node-text id doctype_node children h e = refl
node-text id (text_node s) children h e = is_utf8-from_IsUtf8 s h
node-text id (comment_node s) children h e = refl
node-text id (element_node name attributes) children h e =
    ap (λ b. b && are_text_trees children) (values-text attributes h) ∙ e

forest-text : (items : List Item) (b p : ℕ) → HoldTexts items → are_text_trees (forest_from b items p) ≡ true
unfolding forest_from
forest-text [] b p h = refl
forest-text (item ∷ items) b p h =
    let here : HoldsText item.node_data = All-head (λ (i : Item). HoldsText i.node_data) item items h in
    let rest : HoldTexts items = All-tail (λ (i : Item). HoldsText i.node_data) item items h in
    either (is_child p item.parent) (with_children b item.node_data (forest_from (suc b) items b))
    (forest_from (suc b) items p)
    (node-text b item.node_data (forest_from (suc b) items b) here (forest-text items (suc b) b rest))
    (forest-text items (suc b) p rest)
  where
    either : (c : Bool) (t : _) (ts : NumberedForest) → is_text_tree t ≡ true → are_text_trees ts ≡ true
        → are_text_trees (cond c (more t ts) ts) ≡ true
    either true t ts g f = ap (λ x. x && are_text_trees ts) g ∙ f
    either false t ts g f = f

pub tree-text : (items : List Item) (id : ℕ) → HoldTexts items → is_text_tree (tree_of items id) ≡ true
unfolding tree_of
tree-text items id h = node-text id (data_at items id) (forest_from 0 items id) (data-holds items id h)
    (forest-text items 0 id h)
