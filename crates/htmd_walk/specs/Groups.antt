-- Which neighbours join in a group, and what a group stands for.
use Rattle.std.specs.Prelude.{ℕ, suc, Bool, false, not, ◌&&◌, ◌||◌, if◌then◌else◌, List, [], ◌∷◌, ◌++◌}
use Rattle.std.specs.Prelude.{Option, Some, None, codes}
use Rattle.std.specs.Cmp.Lexicographic.{pointwise}
use Rattle.std.specs.List.{flat_map}
use Rattle.std.specs.Str.{bytes_eq}
use Rattle.htmd_text.specs.Blocks.{is_block}
use Rattle.htmd_lexical.specs.AttributePairs.{AttributePair}
use Rattle.htmd_nodes.specs.Items.{Item, children_of}
use Rattle.htmd_nodes.specs.NumberedTrees.{NumberedTree, document, doctype, text, comment, element, tree_of, forest_of}
use Rattle.htmd_nodes.specs.NumberedTrees.{NumberedForest, none, more}

-- the text of an only child
abbrev pub only_text : NumberedForest → Option (List ℕ)
only_text (more (text id s) none) = Some s
only_text trees = None

-- children whose only text is put in place of another one
abbrev pub with_only_text : List ℕ → NumberedForest → NumberedForest
with_only_text s (more (text id t) none) = more (text id s) none
with_only_text s trees = trees

-- what counts of an element when it joins: an element with one text and nothing else
pub record Joint : Type 0 where
  pub name : List ℕ
  pub attributes : List AttributePair
  pub text : List ℕ

abbrev pub joint_with : List ℕ → List AttributePair → Option (List ℕ) → Option Joint
joint_with name attributes None = None
joint_with name attributes (Some s) = Some (record { name = name; attributes = attributes; text = s })

abbrev pub joint_of : NumberedTree → Option Joint
joint_of (document id children) = None
joint_of (doctype id) = None
joint_of (text id s) = None
joint_of (comment id s) = None
joint_of (element id name attributes children) = joint_with name attributes (only_text children)

-- the names of emphasis, and those of strong emphasis
abbrev pub is_em : List ℕ → Bool
is_em name = bytes_eq name (codes "em") || bytes_eq name (codes "i")

abbrev pub is_strong : List ℕ → Bool
is_strong name = bytes_eq name (codes "strong") || bytes_eq name (codes "b")

abbrev pub same_pair : AttributePair → AttributePair → Bool
same_pair x y = bytes_eq x.name y.name && bytes_eq x.value y.value

-- equal in order
abbrev pub same_attributes : List AttributePair → List AttributePair → Bool
same_attributes = pointwise same_pair

-- equal names, or both of emphasis, or both of strong emphasis
abbrev pub alike : List ℕ → List ℕ → Bool
alike m n = (bytes_eq m n || (is_em m && is_em n)) || (is_strong m && is_strong n)

-- Neither a block element nor `a` joins with what follows.
abbrev pub may_join : List ℕ → Bool
may_join name = not (is_block name) && not (bytes_eq name (codes "a"))

abbrev pub joins : Joint → Joint → Bool
joins left right = (may_join left.name && alike left.name right.name)
    && same_attributes left.attributes right.attributes

abbrev pub both_join : Option Joint → Option Joint → Bool
both_join None right = false
both_join (Some left) None = false
both_join (Some left) (Some right) = joins left right

-- the first of two neighbours joins with the second
abbrev pub is_joinable : NumberedTree → NumberedTree → Bool
is_joinable left right = both_join (joint_of left) (joint_of right)

abbrev pub joint_text : Option Joint → List ℕ
joint_text None = []
joint_text (Some joint) = joint.text

abbrev pub text_of : NumberedTree → List ℕ
text_of tree = joint_text (joint_of tree)

-- an element whose only text is put in place of another one
abbrev pub with_text : List ℕ → NumberedTree → NumberedTree
with_text s (document id children) = document id children
with_text s (doctype id) = doctype id
with_text s (text id t) = text id t
with_text s (comment id t) = comment id t
with_text s (element id name attributes children) = element id name attributes (with_only_text s children)

-- a tree in front of groups: joined with the first where they fit
abbrev pub in_front : NumberedTree → NumberedForest → NumberedForest
in_front tree none = more tree none
in_front tree (more first rest) =
    if is_joinable tree first
    then more (with_text (text_of tree ++ text_of first) tree) rest
    else more tree (more first rest)

-- Maximal runs of joinable neighbours: each stands as its first element, with the joined text.
abbrev pub groups_of : NumberedForest → NumberedForest
groups_of none = none
groups_of (more tree trees) = in_front tree (groups_of trees)

-- ---- as the walk cites it

-- the trees of a node's children
abbrev pub children_at : List Item → ℕ → NumberedForest
children_at items id = forest_of (tree_of items) (children_of items id)

-- how many of these nodes the first group has
abbrev pub group_length : (ℕ → NumberedTree) → List ℕ → ℕ
group_length tree [] = 0
group_length tree (i ∷ []) = 1
group_length tree (i ∷ j ∷ is) = if is_joinable (tree i) (tree j) then suc (group_length tree (j ∷ is)) else 1

-- the texts of these nodes, one after another
abbrev pub texts_of : (ℕ → NumberedTree) → List ℕ → List ℕ
texts_of tree ids = flat_map (λ id. text_of (tree id)) ids

-- the joined text of a group of two or more
abbrev pub group_text : (ℕ → NumberedTree) → List ℕ → Option (List ℕ)
group_text tree (id ∷ []) = None
group_text tree ids = Some (texts_of tree ids)

-- the tree of a node, or of the group with this joined text that begins at it
abbrev pub group_tree : Option (List ℕ) → NumberedTree → NumberedTree
group_tree None tree = tree
group_tree (Some s) tree = with_text s tree

abbrev pub group_children : Option (List ℕ) → NumberedForest → NumberedForest
group_children None trees = trees
group_children (Some s) trees = with_only_text s trees
