-- What the items of a document that is laid out denote.
use Rattle.std.proofs.Common.{◌≡◌, ◌≢◌, ℕ, suc, ◌+◌, ◌<◌, ◌≤◌, true, false, eqb, List, [], ◌∷◌, ◌++◌, refl, sym, ap}
use Rattle.std.proofs.Common.{◌∙◌, arith, length}
use Rattle.std.proofs.lemmas.Bool.Decides.{nat_tests}
use Rattle.std.proofs.lemmas.List.{append_assoc, append-nil, length-append}
use Rattle.htmd_nodes.specs.Items.{item_at, Data, document_node, doctype_node, text_node, comment_node, element_node}
use Rattle.htmd_nodes.specs.Items.{Item}
use Rattle.htmd_nodes.specs.NumberedTrees.{with_children, forest_from, tree_of, value_forest}
use Rattle.htmd_nodes.specs.NumberedTrees as numbered
use Rattle.htmd_values.specs.ValueTrees.{ValueTree, document, doctype, text, comment, element, ValueForest, none, more}
use Rattle.htmd_nodes.specs.Layout.{size, sizes, item_under, tree_items, forest_items, LayoutDenotes}

module _ (d p b : ℕ) (node_data : Data) (rest : List Item) where
  -- a child of p gives a tree
  own_first : forest_from b (item_under d p node_data ∷ rest) p ≡ numbered.more
      (with_children b node_data (forest_from (suc b) rest b)) (forest_from (suc b) rest p)
  unfolding forest_from
  own_first = let same : eqb p p ≡ true = grind (arith, nat_tests) in rw same refl

  -- a child of another node gives none
  pub other_first : (q : ℕ) → p ≢ q
      → forest_from b (item_under d p node_data ∷ rest) q ≡ forest_from (suc b) rest q
  unfolding forest_from
  other_first q apart = let other : eqb p q ≡ false = grind (arith, nat_tests) in rw other refl

-- the items that are numbered from one number or from an equal one
pub renumbered : (b n p : ℕ) (rest : List Item) → n ≡ b → forest_from b rest p ≡ forest_from n rest p
renumbered b n p rest e = ap (λ k. forest_from k rest p) (sym e)

mutual
  -- no child of q is among the items of a tree under another node
  tree_items-skip : (t : ValueTree) (d p b n q : ℕ) (rest : List Item) → n ≡ b + size t → p ≢ q → q < b
      → forest_from b (tree_items d p b t ++ rest) q ≡ forest_from n rest q
  tree_items-skip (document children) d p b n q rest e apart l =
      other_first d p b document_node (forest_items (suc d) b (suc b) children ++ rest) q apart
      ∙ forest_items-skip children (suc d) b (suc b) n q rest (omega arith) (omega arith) (omega arith)
  tree_items-skip doctype d p b n q rest e apart l = other_first d p b doctype_node rest q apart
      ∙ renumbered (suc b) n q rest (omega arith)
  tree_items-skip (text s) d p b n q rest e apart l = other_first d p b (text_node s) rest q apart
      ∙ renumbered (suc b) n q rest (omega arith)
  tree_items-skip (comment s) d p b n q rest e apart l = other_first d p b (comment_node s) rest q apart
      ∙ renumbered (suc b) n q rest (omega arith)
  tree_items-skip (element name attributes children) d p b n q rest e apart l =
      other_first d p b (element_node name attributes) (forest_items (suc d) b (suc b) children ++ rest) q apart
      ∙ forest_items-skip children (suc d) b (suc b) n q rest (omega arith) (omega arith) (omega arith)

  pub forest_items-skip : (ts : ValueForest) (d p b n q : ℕ) (rest : List Item) → n ≡ b + sizes ts → p ≢ q
      → q < b
      → forest_from b (forest_items d p b ts ++ rest) q ≡ forest_from n rest q
  forest_items-skip none d p b n q rest e apart l = renumbered b n q rest (omega arith)
  forest_items-skip (more t ts) d p b n q rest e apart l =
      ap (λ x. forest_from b x q) (append_assoc (tree_items d p b t) (forest_items d p (b + size t) ts) rest)
      ∙ (tree_items-skip t d p b (b + size t) q (forest_items d p (b + size t) ts ++ rest) refl apart l
      ∙ forest_items-skip ts d p (b + size t) n q rest (omega arith) apart (omega arith))

-- none of these items is a child of a node that is numbered from b on, below n
abbrev pub HasNoChildren : ℕ → ℕ → List Item → Type 0
HasNoChildren b n rest = (q : ℕ) → b ≤ q → q < n → forest_from n rest q ≡ numbered.none

mutual
  -- a tree that is laid out under p is the first tree of p's children
  tree_items-denotes : (t : ValueTree) (d p b n : ℕ) (rest : List Item) → n ≡ b + size t → p < b
      → HasNoChildren b n rest → value_forest (forest_from b (tree_items d p b t ++ rest) p) ≡ more t
      (value_forest (forest_from n rest p))
  tree_items-denotes (document children) d p b n rest e l h =
      let inner = forest_items-denotes children (suc d) b (suc b) n rest (omega arith) (omega arith)
      (λ q m k. h q (omega arith) k) (h b (omega arith) (omega arith)) in
      let later = forest_items-skip children (suc d) b (suc b) n p rest (omega arith) (omega arith) (omega arith) in
      ap value_forest (own_first d p b document_node (forest_items (suc d) b (suc b) children ++ rest))
      ∙ rw (inner, later) refl
  tree_items-denotes doctype d p b n rest e l h = ap value_forest (own_first d p b doctype_node rest)
      ∙ ap (λ x. more doctype (value_forest x)) (renumbered (suc b) n p rest (omega arith))
  tree_items-denotes (text s) d p b n rest e l h = ap value_forest (own_first d p b (text_node s) rest)
      ∙ ap (λ x. more (text s) (value_forest x)) (renumbered (suc b) n p rest (omega arith))
  tree_items-denotes (comment s) d p b n rest e l h = ap value_forest (own_first d p b (comment_node s) rest)
      ∙ ap (λ x. more (comment s) (value_forest x)) (renumbered (suc b) n p rest (omega arith))
  tree_items-denotes (element name attributes children) d p b n rest e l h =
      let inner = forest_items-denotes children (suc d) b (suc b) n rest (omega arith) (omega arith)
      (λ q m k. h q (omega arith) k) (h b (omega arith) (omega arith)) in
      let later = forest_items-skip children (suc d) b (suc b) n p rest (omega arith) (omega arith) (omega arith) in
      ap value_forest (own_first d p b (element_node name attributes) (forest_items (suc d) b (suc b) children ++ rest))
      ∙ rw (inner, later) refl

  -- the trees that are laid out under p are the trees of p's children
  pub forest_items-denotes : (ts : ValueForest) (d p b n : ℕ) (rest : List Item) → n ≡ b + sizes ts → p < b
      → HasNoChildren b n rest → forest_from n rest p ≡ numbered.none
      → value_forest (forest_from b (forest_items d p b ts ++ rest) p) ≡ ts
  forest_items-denotes none d p b n rest e l h last = ap value_forest (renumbered b n p rest (omega arith) ∙ last)
  forest_items-denotes (more t ts) d p b n rest e l h last =
      let between : HasNoChildren b (b + size t) (forest_items d p (b + size t) ts ++ rest) =
      λ q m k. forest_items-skip ts d p (b + size t) n q rest (omega arith) (omega arith) k ∙ h q m (omega arith) in
      ap (λ x. value_forest (forest_from b x p))
      (append_assoc (tree_items d p b t) (forest_items d p (b + size t) ts) rest)
      ∙ (tree_items-denotes t d p b (b + size t) (forest_items d p (b + size t) ts ++ rest) refl l between
      ∙ ap (more t) (forest_items-denotes ts d p (b + size t) n rest (omega arith) (omega arith)
      (λ q m k. h q (omega arith) k) last))

-- a document that is laid out denotes itself
pub document_items-denotes : LayoutDenotes
unfolding forest_from tree_of
document_items-denotes children =
    ap (λ x. document (value_forest (forest_from 1 x 0))) (sym (append-nil (forest_items 1 0 1 children)))
    ∙ ap document (forest_items-denotes children 1 0 1 (1 + sizes children) [] refl (omega arith) (λ q m k. refl)
    refl)

-- ---- how many items there are

mutual
  pub length-tree_items : (t : ValueTree) (d p b : ℕ) → length (tree_items d p b t) ≡ size t
  length-tree_items (document children) d p b = ap suc (length-forest_items children (suc d) b (suc b))
  length-tree_items doctype d p b = refl
  length-tree_items (text s) d p b = refl
  length-tree_items (comment s) d p b = refl
  length-tree_items (element name attributes children) d p b =
      ap suc (length-forest_items children (suc d) b (suc b))

  pub length-forest_items : (ts : ValueForest) (d p b : ℕ) → length (forest_items d p b ts) ≡ sizes ts
  length-forest_items none d p b = refl
  length-forest_items (more t ts) d p b =
      length-append (tree_items d p b t) (forest_items d p (b + size t) ts)
      ∙ rw (length-tree_items t d p b, length-forest_items ts d p (b + size t)) refl

pub item_at-middle : (items rest : List Item) (x : Item) → item_at (items ++ x ∷ rest) (length items) ≡ x
item_at-middle [] rest x = refl
item_at-middle (i ∷ items) rest x = item_at-middle items rest x
