-- The first group of what is left of a node's children, and what a node shows with the joined text.
use Rattle.std.proofs.Common.{◌≡◌, ℕ, suc, ◌<◌, List, [], ◌∷◌, ◌++◌, length, get_or, take, drop, Option}
use Rattle.std.proofs.Common.{Some, None, IsSome, refl, sym, ap, ◌∙◌, subst, Bool, true, false, cond, arith}
use Rattle.std.proofs.lemmas.List.{append-nil}
use Rattle.std.specs.Prelude.{Vec}
use Rattle.std.specs.Global.{Global}
use Rattle.htmd_lexical.specs.AttributePairs.{AttributePair}
use Rattle.htmd_lexical.specs.declared.attribute.Attribute.{Attribute}
use Rattle.htmd_nodes.specs.declared.tree.NodeData.{NodeData}
use Rattle.htmd_nodes.specs.declared.tree.NodeData.TheVariants.{Document, Doctype, Text, Comment, Element}
use Rattle.htmd_nodes.specs.Items.{Item, Data, element_node, IsTree, data_at}
use Rattle.htmd_nodes.specs.Views.{data_of}
use Rattle.htmd_nodes.proofs.NumberedTreesLemmas.{tree-open}
use Rattle.htmd_nodes.specs.NumberedTrees.{NumberedTree, document, doctype, text, comment, element}
use Rattle.htmd_nodes.specs.NumberedTrees.{NumberedForest, none, more, forest_of, with_children, tree_of}
use Rattle.htmd_walk.specs.Groups.{only_text, with_only_text, Joint, joint_with, joint_of, both_join, is_joinable}
use Rattle.htmd_walk.specs.Groups.{joint_text, text_of, with_text, in_front, groups_of, group_length, texts_of}
use Rattle.htmd_walk.specs.Groups.{group_text}
use Rattle.htmd_walk.specs.Groups.{group_tree, children_at}

-- ---- a tree with another text

-- a joint with another text
abbrev joint_replaced : List ℕ → Option Joint → Option Joint
joint_replaced s None = None
joint_replaced s (Some j) = Some (record { name = j.name; attributes = j.attributes; text = s })

joint_with-replaced : (s : List ℕ) (name : List ℕ) (attributes : List AttributePair) (trees : NumberedForest)
    → joint_with name attributes (only_text (with_only_text s trees)) ≡ joint_replaced s
    (joint_with name attributes (only_text trees))
joint_with-replaced s name attributes none = refl
joint_with-replaced s name attributes (more (document i c) ts) = refl
joint_with-replaced s name attributes (more (doctype i) ts) = refl
joint_with-replaced s name attributes (more (text i t) none) = refl
joint_with-replaced s name attributes (more (text i t) (more u us)) = refl
joint_with-replaced s name attributes (more (comment i t) ts) = refl
joint_with-replaced s name attributes (more (element i n a c) ts) = refl

joint_of-with : (s : List ℕ) (t : NumberedTree) → joint_of (with_text s t) ≡ joint_replaced s (joint_of t)
joint_of-with s (document i c) = refl
joint_of-with s (doctype i) = refl
joint_of-with s (text i t) = refl
joint_of-with s (comment i t) = refl
joint_of-with s (element i n a c) = joint_with-replaced s n a c

both_join-replaced : (s : List ℕ) (x y : Option Joint) → both_join x (joint_replaced s y) ≡ both_join x y
both_join-replaced s None y = refl
both_join-replaced s (Some x) None = refl
both_join-replaced s (Some x) (Some y) = refl

pub is_joinable-with : (s : List ℕ) (t u : NumberedTree) → is_joinable t (with_text s u) ≡ is_joinable t u
is_joinable-with s t u = ap (both_join (joint_of t)) (joint_of-with s u)
    ∙ both_join-replaced s (joint_of t) (joint_of u)

joint_text-replaced : (s : List ℕ) (x y : Option Joint) → both_join x y ≡ true
    → joint_text (joint_replaced s y) ≡ s
joint_text-replaced s None y e = cc
joint_text-replaced s (Some x) None e = cc
joint_text-replaced s (Some x) (Some y) e = refl

pub text_of-with : (s : List ℕ) (t u : NumberedTree) → is_joinable t u ≡ true → text_of (with_text s u) ≡ s
text_of-with s t u e = ap joint_text (joint_of-with s u) ∙ joint_text-replaced s (joint_of t) (joint_of u) e

with_only_text-same : (n : List ℕ) (a : List AttributePair) (trees : NumberedForest)
    → with_only_text (joint_text (joint_with n a (only_text trees))) trees ≡ trees
with_only_text-same n a none = refl
with_only_text-same n a (more (document i c) ts) = refl
with_only_text-same n a (more (doctype i) ts) = refl
with_only_text-same n a (more (text i t) none) = refl
with_only_text-same n a (more (text i t) (more u us)) = refl
with_only_text-same n a (more (comment i t) ts) = refl
with_only_text-same n a (more (element i m b c) ts) = refl

with_text-same : (t : NumberedTree) → with_text (text_of t) t ≡ t
with_text-same (document i c) = refl
with_text-same (doctype i) = refl
with_text-same (text i t) = refl
with_text-same (comment i t) = refl
with_text-same (element i n a c) = ap (element i n a) (with_only_text-same n a c)

-- a group of one
alone-same : (tree : ℕ → NumberedTree) (i : ℕ) → with_text (texts_of tree (i ∷ [])) (tree i) ≡ tree i
alone-same tree i = ap (λ s. with_text s (tree i)) (append-nil (text_of (tree i))) ∙ with_text-same (tree i)

pub group_text-some : (tree : ℕ → NumberedTree) (ids : List ℕ) → (length ids ≡ 1 → ⊥)
    → Some (texts_of tree ids) ≡ group_text tree ids
group_text-some tree [] h = refl
group_text-some tree (i ∷ []) h = absurd (h refl)
group_text-some tree (i ∷ j ∷ is) h = refl

-- ---- the first group

module _ (tree : ℕ → NumberedTree) (i j : ℕ) (is : List ℕ) (rest : ℕ) (s : List ℕ) (behind : NumberedForest)
  where
    abbrev front : Bool → List ℕ → NumberedForest
    front b z =
        cond b (more (with_text (text_of (tree i) ++ z) (tree i)) behind)
        (more (tree i) (more (with_text s (tree j)) behind))

    abbrev first_and_rest : Bool → NumberedForest
    first_and_rest b =
        more (with_text (texts_of tree (take (cond b (suc rest) 1) (i ∷ j ∷ is))) (tree i))
        (groups_of (forest_of tree (drop (cond b (suc rest) 1) (i ∷ j ∷ is))))

    one_more : (b : Bool) → is_joinable (tree i) (tree j) ≡ b → s ≡ texts_of tree (take rest (j ∷ is))
        → behind ≡ groups_of (forest_of tree (drop rest (j ∷ is)))
        → groups_of (forest_of tree (j ∷ is)) ≡ more (with_text s (tree j)) behind
        → in_front (tree i) (more (with_text s (tree j)) behind) ≡ first_and_rest b
    one_more true e p q h =
        ap (λ b. front b (text_of (with_text s (tree j)))) (is_joinable-with s (tree i) (tree j) ∙ e)
        ∙ ap (λ z. more (with_text (text_of (tree i) ++ z) (tree i)) behind)
        (text_of-with s (tree i) (tree j) e ∙ p)
        ∙ ap (more (with_text (text_of (tree i) ++ texts_of tree (take rest (j ∷ is))) (tree i))) q
    one_more false e p q h =
        ap (λ b. front b (text_of (with_text s (tree j)))) (is_joinable-with s (tree i) (tree j) ∙ e)
        ∙ ap (more (tree i)) (sym h)
        ∙ ap (λ t. more t (groups_of (forest_of tree (j ∷ is)))) (sym (alone-same tree i))

-- the first group, and the groups after it
pub groups_of-first : (tree : ℕ → NumberedTree) (i : ℕ) (is : List ℕ)
    → groups_of (forest_of tree (i ∷ is))
    ≡ more (with_text (texts_of tree (take (group_length tree (i ∷ is)) (i ∷ is)))
    (tree i)) (groups_of (forest_of tree (drop (group_length tree (i ∷ is)) (i ∷ is))))
groups_of-first tree i [] = ap (λ (t : NumberedTree). more t none) (sym (alone-same tree i))
groups_of-first tree i (j ∷ is) =
    let rest = group_length tree (j ∷ is) in
    let s = texts_of tree (take rest (j ∷ is)) in
    let behind = groups_of (forest_of tree (drop rest (j ∷ is))) in
    ap (in_front (tree i)) (groups_of-first tree j is)
    ∙ one_more tree i j is rest s behind (is_joinable (tree i) (tree j)) refl refl refl (groups_of-first tree j is)

-- a group of one shows what its node does
group_tree-some : (tree : ℕ → NumberedTree) (i : ℕ) (is : List ℕ)
    → group_tree (group_text tree (i ∷ is)) (tree i)
    ≡ with_text (texts_of tree (i ∷ is)) (tree i)
group_tree-some tree i [] = sym (alone-same tree i)
group_tree-some tree i (j ∷ is) = refl

by_length : (tree : ℕ → NumberedTree) (i j : ℕ) (is : List ℕ) (rest : ℕ) (b : Bool)
    → group_tree (group_text tree (take (cond b (suc rest) 1) (i ∷ j ∷ is))) (tree i) ≡ with_text
    (texts_of tree (take (cond b (suc rest) 1) (i ∷ j ∷ is))) (tree i)
by_length tree i j is rest true = group_tree-some tree i (take rest (j ∷ is))
by_length tree i j is rest false = group_tree-some tree i []

group_tree-first : (tree : ℕ → NumberedTree) (i : ℕ) (is : List ℕ)
    → group_tree (group_text tree (take (group_length tree (i ∷ is)) (i ∷ is))) (tree i) ≡ with_text
    (texts_of tree (take (group_length tree (i ∷ is)) (i ∷ is))) (tree i)
group_tree-first tree i [] = group_tree-some tree i []
group_tree-first tree i (j ∷ is) =
    by_length tree i j is (group_length tree (j ∷ is)) (is_joinable (tree i) (tree j))

-- the first group of what is left, as the walk shows it
pub first_group : (tree : ℕ → NumberedTree) (ids : List ℕ) (child : ℕ) → 0 < length ids
    → child ≡ get_or ids 0 child
    → groups_of (forest_of tree ids) ≡ more (group_tree (group_text tree (take (group_length tree ids) ids))
    (tree child)) (groups_of (forest_of tree (drop (group_length tree ids) ids)))
first_group tree [] child l e = absurd (omega arith)
first_group tree (i ∷ is) child l e =
    groups_of-first tree i is
    ∙ ap (λ (t : NumberedTree). more t (groups_of (forest_of tree (drop (group_length tree (i ∷ is)) (i ∷ is)))))
    (sym (group_tree-first tree i is))
    ∙ ap (λ j. more (group_tree (group_text tree (take (group_length tree (i ∷ is)) (i ∷ is))) (tree j))
    (groups_of (forest_of tree (drop (group_length tree (i ∷ is)) (i ∷ is))))) (sym e)

-- ---- the joined text stands where an only text stood

both_some : (n : List ℕ) (a : List AttributePair) (x : Option (List ℕ)) (y : Option Joint)
    → both_join (joint_with n a x) y ≡ true → IsSome x
both_some n a None y e = cc
both_some n a (Some s) y e = refl

abbrev pub children_in : NumberedTree → NumberedForest
children_in (document i c) = none
children_in (doctype i) = none
children_in (text i t) = none
children_in (comment i t) = none
children_in (element i n a c) = c

-- what joins holds one text and nothing else
joinable-some : (t u : NumberedTree) → is_joinable t u ≡ true → IsSome (only_text (children_in t))
joinable-some (document i c) u e = cc
joinable-some (doctype i) u e = cc
joinable-some (text i t) u e = cc
joinable-some (comment i t) u e = cc
joinable-some (element i n a c) u e = both_some n a (only_text c) (joint_of u) e

by_joinable : (tree : ℕ → NumberedTree) (i j : ℕ) (is : List ℕ) (rest : ℕ) (b : Bool) (s : List ℕ)
    → is_joinable (tree i) (tree j) ≡ b → Some s ≡ group_text tree (take (cond b (suc rest) 1) (i ∷ j ∷ is))
    → IsSome (only_text (children_in (tree i)))
by_joinable tree i j is rest true s e h = joinable-some (tree i) (tree j) e
by_joinable tree i j is rest false s e h = cc

-- if a group has a joined text, its first node holds one text and nothing else
pub group-has_text : (tree : ℕ → NumberedTree) (ids : List ℕ) (child : ℕ) (s : List ℕ) → 0 < length ids
    → child ≡ get_or ids 0 child → Some s ≡ group_text tree (take (group_length tree ids) ids)
    → IsSome (only_text (children_in (tree child)))
group-has_text tree [] child s l e h = absurd (omega arith)
group-has_text tree (i ∷ []) child s l e h = cc
group-has_text tree (i ∷ j ∷ is) child s l e h =
    subst (λ k. IsSome (only_text (children_in (tree k)))) (sym e)
    (by_joinable tree i j is (group_length tree (j ∷ is)) (is_joinable (tree i) (tree j)) s refl h)

-- ---- what counts of a node that may join

pub joint-none : (id : ℕ) (n : NodeData) (children : NumberedForest)
    → ((name : List ℕ) (attributes : Vec Attribute Global) → n ≡ Element name attributes → ⊥)
    → joint_of (with_children id (data_of n) children) ≡ None
joint-none id Document children h = refl
joint-none id Doctype children h = refl
joint-none id (Text s) children h = refl
joint-none id (Comment s) children h = refl
joint-none id (Element name attributes) children h = absurd (h name attributes refl)

module _ (items : List Item) (t : IsTree items) (id : ℕ) (l : id < length items) where
  joint-open : (c : Data) → c ≡ data_at items id
      → joint_of (with_children id c (children_at items id)) ≡ joint_of
      (tree_of items id)
  joint-open c e = ap (λ x. joint_of (with_children id x (children_at items id))) e
      ∙ sym (ap joint_of (tree-open items id t l))

  -- of an element, by the text of its only child
  pub joint-element : (name : List ℕ) (attributes : List AttributePair) (s : Option (List ℕ))
      → element_node name attributes ≡ data_at items id → s ≡ only_text (children_at items id)
      → joint_with name attributes s ≡ joint_of (tree_of items id)
  joint-element name attributes s e h =
      ap (joint_with name attributes) h ∙ joint-open (element_node name attributes) e

  pub joint-other : (n : NodeData) → data_of n ≡ data_at items id
      → ((name : List ℕ) (attributes : Vec Attribute Global) → n ≡ Element name attributes → ⊥)
      → None ≡ joint_of (tree_of items id)
  joint-other n e h = sym (joint-none id n (children_at items id) h) ∙ joint-open (data_of n) e
