-- The elements of a tree of the source lead where its items say.
use Rattle.std.proofs.Common.{◌≡◌, ℕ, suc, ◌+◌, Bool, true, false, cond, List, [], ◌∷◌, ◌++◌, length, drop, refl, sym}
use Rattle.std.proofs.Common.{ap, ◌∙◌, append_assoc, arith}
use Rattle.std.proofs.Math.Seq.{get_or-append_seam}
use Rattle.std.proofs.lemmas.List.{length-append}
use Rattle.htmd_nodes.specs.Items.{Item, Data, document_node, doctype_node, text_node, comment_node, element_node}
use Rattle.htmd_nodes.specs.Items.{is_child, data_at, document_item}
use Rattle.htmd_nodes.specs.NumberedTrees.{NumberedTree, NumberedForest, more, with_children, forest_from, tree_of}
use Rattle.htmd_law_documents.proofs.LinkedPageLemmas.{leads_to, IsLinkedTree, AreLinkedTrees, IsLinkedPage}

-- where the element of an item leads, with these children
abbrev leads_by : Data → NumberedForest → List ℕ
leads_by (element_node name attributes) children = leads_to name attributes children
leads_by _ children = []

-- where the n-th item leads
abbrev pub link_at : List Item → ℕ → List ℕ
link_at items id = leads_by (data_at items id) (forest_from (suc id) (drop (suc id) items) id)

node-linked : (at : ℕ → List ℕ) (id : ℕ) (d : Data) (children : NumberedForest)
    → leads_by d children ≡ at id
    → AreLinkedTrees at children → IsLinkedTree at (with_children id d children)
node-linked at id document_node children e h = h
node-linked at id doctype_node children e h = tt
node-linked at id (text_node s) children e h = tt
node-linked at id (comment_node s) children e h = tt
node-linked at id (element_node name attributes) children e h = (e, h)

either-child : (at : ℕ → List ℕ) (b : Bool) (t : NumberedTree) (ts : NumberedForest) → IsLinkedTree at t
    → AreLinkedTrees at ts → AreLinkedTrees at (cond b (more t ts) ts)
either-child at true t ts g h = (g, h)
either-child at false t ts g h = h

-- what comes after some items
after-front : (front : List Item) (items : List Item) → drop (length front) (front ++ items) ≡ items
after-front [] items = refl
after-front (x ∷ front) items = after-front front items

-- the items from a number on are those of the whole
module _ (all : List Item) where
  forest-linked : (items front : List Item) (b p : ℕ) → all ≡ front ++ items → length front ≡ b
      → AreLinkedTrees (link_at all) (forest_from b items p)
  unfolding forest_from
  forest-linked [] front b p e l = tt
  forest-linked (item ∷ items) front b p e l =
      let here : data_at all b ≡ item.node_data =
      ap (λ xs. data_at xs b) e ∙ (ap (λ k. data_at (front ++ item ∷ items) k) (sym l)
      ∙ ap (λ (x : Item). x.node_data) (get_or-append_seam front item items document_item)) in
      let front' : List Item = front ++ item ∷ [] in
      let same : all ≡ front' ++ items = e ∙ sym (append_assoc front (item ∷ []) items) in
      let count : length front' ≡ suc b = more-count (length front') (length front) b
      (length-append front (item ∷ [])) l in
      let rest : drop (suc b) all ≡ items =
      ap (λ k. drop k all) (sym count) ∙ (ap (drop (length front')) same ∙ after-front front' items) in
      let leads : leads_by item.node_data (forest_from (suc b) items b) ≡ link_at all b =
      ap (λ d. leads_by d (forest_from (suc b) items b)) (sym here)
      ∙ ap (λ xs. leads_by (data_at all b) (forest_from (suc b) xs b)) (sym rest) in
      either-child (link_at all) (is_child p item.parent)
      (with_children b item.node_data (forest_from (suc b) items b)) (forest_from (suc b) items p)
      (node-linked (link_at all) b item.node_data (forest_from (suc b) items b) leads
      (forest-linked items front' (suc b) b same count))
      (forest-linked items front' (suc b) p same count)
    where
      more-count : (n k b : ℕ) → n ≡ k + 1 → k ≡ b → n ≡ suc b
      more-count n k b e l = omega arith

  -- what is in a Document
  document-linked : (id : ℕ) (d : Data) → AreLinkedTrees (link_at all) (forest_from 0 all id)
      → IsLinkedPage (link_at all) (with_children id d (forest_from 0 all id))
  document-linked id document_node h = h
  document-linked id doctype_node h = tt
  document-linked id (text_node s) h = tt
  document-linked id (comment_node s) h = tt
  document-linked id (element_node name attributes) h = tt

  pub tree-linked : (id : ℕ) → IsLinkedPage (link_at all) (tree_of all id)
  unfolding tree_of
  tree-linked id = document-linked id (data_at all id) (forest-linked all [] 0 id refl refl)
