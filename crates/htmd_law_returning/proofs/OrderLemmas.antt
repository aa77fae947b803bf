-- The numbers of a page rise: each node that follows another has a greater one.
use Rattle.std.proofs.Common.{◌≡◌, ℕ, suc, ◌≤◌, Bool, true, false, ◌&&◌, cond, List, [], ◌∷◌}
use Rattle.std.proofs.Common.{refl, sym, ap, ◌∙◌}
use Rattle.std.proofs.Common.{arith}
use Rattle.std.specs.Prelude.{nat_le}
use Rattle.std.proofs.lemmas.Bool.{and_parts}
use Rattle.std.proofs.lemmas.Bool.Decides.{nat_tests}
use Rattle.htmd_nodes.specs.Items.{Data, document_node, doctype_node, text_node, comment_node, element_node, Item}
use Rattle.htmd_nodes.specs.Items.{is_child, data_at}
use Rattle.htmd_nodes.specs.NumberedTrees.{NumberedTree, NumberedForest, document, doctype, text, comment, element}
use Rattle.htmd_nodes.specs.NumberedTrees.{none, more, with_children, forest_from, tree_of}

abbrev pub number_of : NumberedTree → ℕ
number_of (document id children) = id
number_of (doctype id) = id
number_of (text id s) = id
number_of (comment id s) = id
number_of (element id name attributes children) = id

-- nodes beside each other have rising numbers from this one on
abbrev mutual
  pub is_ordered_tree : NumberedTree → Bool
  is_ordered_tree (document id children) = is_ordered 0 children
  is_ordered_tree (doctype id) = true
  is_ordered_tree (text id s) = true
  is_ordered_tree (comment id s) = true
  is_ordered_tree (element id name attributes children) = is_ordered 0 children

  pub is_ordered : ℕ → NumberedForest → Bool
  is_ordered k none = true
  is_ordered k (more t ts) = (nat_le k (number_of t) && is_ordered_tree t) && is_ordered (suc (number_of t)) ts

-- the first of these, and what follows
pub record IsOrderedNext (k : ℕ) (t : NumberedTree) (ts : NumberedForest) : Type 0 where
  pub least : nat_le k (number_of t) ≡ true
  pub inside : is_ordered_tree t ≡ true
  pub rest : is_ordered (suc (number_of t)) ts ≡ true

pub ordered-next : (k : ℕ) (f : NumberedForest) (t : NumberedTree) (ts : NumberedForest) → f ≡ more t ts
    → is_ordered k f ≡ true → IsOrderedNext k t ts
ordered-next k f t ts e h =
    let parts = and_parts (nat_le k (number_of t) && is_ordered_tree t) (is_ordered (suc (number_of t)) ts)
    (sym (ap (is_ordered k) e) ∙ h) in
    let own = and_parts (nat_le k (number_of t)) (is_ordered_tree t) parts.0 in
    record { least = own.0; inside = own.1; rest = parts.1 }

pub ordered-less : (j k : ℕ) (f : NumberedForest) → j ≤ k → is_ordered k f ≡ true → is_ordered j f ≡ true
ordered-less j k none h o = refl
ordered-less j k (more t ts) h o =
    let next = ordered-next k (more t ts) t ts refl o in
    let low : nat_le j (number_of t) ≡ true = less j k (number_of t) h next.least in
    ap (λ b. (b && is_ordered_tree t) && is_ordered (suc (number_of t)) ts) low
    ∙ (ap (λ b. b && is_ordered (suc (number_of t)) ts) next.inside ∙ next.rest)
  where
    less : (j k n : ℕ) → j ≤ k → nat_le k n ≡ true → nat_le j n ≡ true
    less j k n h e = grind (arith, nat_tests, h, e)

-- ---- pages

made-number : (b : ℕ) (d : Data) (f : NumberedForest) → number_of (with_children b d f) ≡ b
made-number b document_node f = refl
made-number b doctype_node f = refl
made-number b (text_node s) f = refl
made-number b (comment_node s) f = refl
made-number b (element_node name attributes) f = refl

made-ordered : (b : ℕ) (d : Data) (f : NumberedForest) → is_ordered 0 f ≡ true
    → is_ordered_tree (with_children b d f) ≡ true
made-ordered b document_node f h = h
made-ordered b doctype_node f h = refl
made-ordered b (text_node s) f h = refl
made-ordered b (comment_node s) f h = refl
made-ordered b (element_node name attributes) f h = h

some-ordered : (b : ℕ) (d : Data) (inside rest : NumberedForest) (c : Bool) → is_ordered (suc b) inside ≡ true
    → is_ordered (suc b) rest ≡ true
    → is_ordered b (cond c (more (with_children b d inside) rest) rest) ≡ true
some-ordered b d inside rest false h e = ordered-less b (suc b) rest (omega arith) e
some-ordered b d inside rest true h e =
    let t : NumberedTree = with_children b d inside in
    let low : nat_le b b ≡ true = grind (arith, nat_tests) in
    ap (λ n. (nat_le b n && is_ordered_tree t) && is_ordered (suc n) rest) (made-number b d inside)
    ∙ (ap (λ x. (x && is_ordered_tree t) && is_ordered (suc b) rest) low
    ∙ (ap (λ x. x && is_ordered (suc b) rest)
    (made-ordered b d inside (ordered-less 0 (suc b) inside (omega arith) h)) ∙ e))

items-ordered : (items : List Item) (b p : ℕ) → is_ordered b (forest_from b items p) ≡ true
unfolding forest_from
items-ordered [] b p = refl
items-ordered (item ∷ items) b p =
    some-ordered b item.node_data (forest_from (suc b) items b) (forest_from (suc b) items p)
    (is_child p item.parent) (items-ordered items (suc b) b) (items-ordered items (suc b) p)

pub page-ordered : (items : List Item) (id : ℕ) → is_ordered_tree (tree_of items id) ≡ true
unfolding tree_of
page-ordered items id =
    made-ordered id (data_at items id) (forest_from 0 items id) (items-ordered items 0 id)
