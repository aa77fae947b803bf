-- The children of a node, one group after another.
use Rattle.std.proofs.Common.{◌≡◌, ℕ, zero, suc, ◌<◌, List, length, get_or, take, drop, Option, Some, None}
use Rattle.std.proofs.Common.{refl, sym, ap, ◌∙◌, Bool, false, eqb, arith, All, subst, IsSome, IfSome}
use Rattle.std.specs.Borrow.{Bor}
use Rattle.std.specs.Option.{option_copied}
use Rattle.htmd_nodes.specs.Items.{Data, document_node, doctype_node, text_node, comment_node, element_node, data_at}
use Rattle.htmd_nodes.specs.NumberedTrees.{with_children}
use Rattle.htmd_nodes.proofs.NumberedTreesLemmas.{tree-open}
use Rattle.std.proofs.lemmas.List.{get_or_default}
use Rattle.std.proofs.lemmas.List.Elements.{All-from_get_or, All-get_or}
use Rattle.htmd_nodes.specs.Items.{Item, IsTree, children_of, parent_at}
use Rattle.htmd_nodes.specs.NumberedTrees.{NumberedTree, NumberedForest, document, doctype, text, comment, element}
use Rattle.htmd_nodes.specs.NumberedTrees.{more}
use Rattle.htmd_nodes.specs.NumberedTrees.{forest_of, tree_of, height}
use Rattle.htmd_nodes.specs.Ancestors.{ancestors_of, chain_from}
use Rattle.htmd_nodes.proofs.NumberedTreesLemmas.{lower_child}
use Rattle.htmd_nodes.proofs.AncestorsLemmas.{ancestors-open}
use Rattle.htmd_nodes.proofs.ItemsLemmas.{child_read}
use Rattle.htmd_walk.specs.Choice.{Config}
use Rattle.htmd_walk.specs.OrdinaryText.{in_pre_or_code}
use Rattle.htmd_walk.specs.Groups.{group_tree, group_text, group_length, groups_of, with_text, only_text, children_at}
use Rattle.htmd_walk.specs.Outputs.{conversion_of, Output, context_of}
use Rattle.htmd_walk.specs.Children.{is_block_tree, before_child, trim_after, write_children}
use Rattle.htmd_walk.specs.Rendering.{written_within, inside_of}
use Rattle.htmd_walk.proofs.GroupsLemmas.{first_group, group-has_text, children_in}

-- what holds for a child
pub record IsChild (items : List Item) (node id : ℕ) : Type 0 where
  pub behind : node < id
  pub within : id < length items
  pub parent : parent_at items id ≡ Some node
  pub lower : height (tree_of items id) < height (tree_of items node)

pub children-all : (items : List Item) (node : ℕ) → IsTree items → node < length items
    → All (IsChild items node) (children_of items node)
children-all items node t l =
    All-from_get_or (IsChild items node) (children_of items node) 0 (λ k m.
    let r = child_read items node (children_of items node) k (get_or (children_of items node) k 0) t l refl m
    (get_or_default (children_of items node) k 0 _ m) in
    let low = lower_child items node k t l m in
    record { behind = r.0; within = r.1; parent = r.2; lower = low.2 })

pub nonempty : (n : ℕ) → false ≡ eqb n 0 → 0 < n
nonempty zero h = cc
nonempty (suc n) h = omega arith

pub child-first : (items : List Item) (node child : ℕ) (ids : List ℕ) → 0 < length ids
    → child ≡ get_or ids 0 child
    → All (IsChild items node) ids → IsChild items node child
child-first items node child ids l e h =
    subst (IsChild items node) (sym e) (All-get_or (IsChild items node) ids 0 child l h)

-- the ancestors of a child
pub inside-child : (items : List Item) (id child : ℕ) → IsTree items → IsChild items id child
    → ancestors_of items child ≡ inside_of items id
inside-child items id child t c = ancestors-open items child t c.within
    ∙ ap (chain_from (ancestors_of items) items) c.parent

-- the first node of a group with a joined text holds one text and nothing else
has_text-put : (id : ℕ) (c : Data) (ks : NumberedForest) → IsSome (only_text (children_in (with_children id c ks)))
    → IsSome (only_text ks)
has_text-put id document_node ks h = cc
has_text-put id doctype_node ks h = cc
has_text-put id (text_node s) ks h = cc
has_text-put id (comment_node s) ks h = cc
has_text-put id (element_node name attributes) ks h = h

pub first-has_text : (items : List Item) (ids : List ℕ) (child : ℕ) (s : List ℕ) → IsTree items
    → child < length items
    → 0 < length ids → child ≡ get_or ids 0 child
    → Some s ≡ group_text (tree_of items) (take (group_length (tree_of items) ids) ids)
    → IsSome (only_text (children_at items child))
first-has_text items ids child s t w l e h =
    has_text-put child (data_at items child) (children_at items child)
    (subst (λ (x : NumberedTree). IsSome (only_text (children_in x))) (tree-open items child t w)
    (group-has_text (tree_of items) ids child s l e h))

-- if there is a text, this holds
pub if_some : {P : Type 0} (o : Option (Bor (List ℕ))) (x : Option (List ℕ)) → option_copied o ≡ x
    → ((s : List ℕ) → Some s ≡ x → P) → IfSome o (λ _. P)
if_some None x e h = tt
if_some (Some b) x e h = h b.now e

is_block-with : (s : List ℕ) (t : NumberedTree) → is_block_tree (with_text s t) ≡ is_block_tree t
is_block-with s (document i c) = refl
is_block-with s (doctype i) = refl
is_block-with s (text i t) = refl
is_block-with s (comment i t) = refl
is_block-with s (element i n a c) = refl

is_block-group : (joined : Option (List ℕ)) (t : NumberedTree)
    → is_block_tree (group_tree joined t) ≡ is_block_tree t
is_block-group None t = refl
is_block-group (Some s) t = is_block-with s t

module _ (config : Config) (items : List Item) (id child : ℕ) (ids : List ℕ) (n : ℕ) (joined : Option (List ℕ))
    (is_block trim preformatted : Bool) (out before : Output) (t : IsTree items) (l : 0 < length ids)
    (at : child ≡ get_or ids 0 child) (c : IsChild items id child)
    (inside : preformatted ≡ in_pre_or_code (inside_of items id))
    (group : joined ≡ group_text (tree_of items) (take (group_length (tree_of items) ids) ids))
    (block : is_block ≡ is_block_tree (tree_of items child)) (cut : before ≡ before_child is_block out) where
  abbrev tree : NumberedTree
  tree = group_tree joined (tree_of items child)

  abbrev behind : NumberedForest
  behind = groups_of (forest_of (tree_of items) (drop (group_length (tree_of items) ids) ids))

  abbrev rest : Bool → Output → Output
  rest = write_children (written_within n (conversion_of config items)) (inside_of items id) behind

  -- the group, and what follows it
  stands : groups_of (forest_of (tree_of items) ids) ≡ more tree behind
  stands = first_group (tree_of items) ids child l at
      ∙ ap (λ (j : Option (List ℕ)). more (group_tree j (tree_of items child)) behind) (sym group)

  -- what is written with the group
  abbrev pub there : Output
  there = written_within n (conversion_of config items) tree (context_of (ancestors_of items child) preformatted trim)
      before

  block-here : is_block ≡ is_block_tree tree
  block-here = block ∙ sym (is_block-group joined (tree_of items child))

  here : there ≡ written_within n (conversion_of config items) tree
      (context_of (inside_of items id) (in_pre_or_code (inside_of items id)) trim)
      (before_child (is_block_tree tree) out)
  here =
      ap (λ a. written_within n (conversion_of config items) tree (context_of a preformatted trim) before)
      (inside-child items id child t c)
      ∙ ap (λ b. written_within n (conversion_of config items) tree (context_of (inside_of items id) b trim) before)
      inside
      ∙ ap (written_within n (conversion_of config items) tree
      (context_of (inside_of items id) (in_pre_or_code (inside_of items id)) trim))
      (cut ∙ ap (λ b. before_child b out) block-here)

  -- one group more
  pub group_written : (after : Output) (next : Bool) → after ≡ there
      → next ≡ trim_after is_block before after trim
      → rest next after ≡ write_children (written_within n (conversion_of config items)) (inside_of items id)
      (groups_of (forest_of (tree_of items) ids)) trim out
  group_written after next p turned =
      let same : before ≡ before_child (is_block_tree tree) out = cut ∙ ap (λ b. before_child b out) block-here in
      let turn : next ≡ trim_after (is_block_tree tree) (before_child (is_block_tree tree) out) after trim =
      turned ∙ ap (λ b. trim_after b before after trim) block-here
      ∙ ap (λ (x : Output). trim_after (is_block_tree tree) x after trim) same in
      ap (λ b. rest b after) turn
      ∙ ap (λ (x : Output). rest (trim_after (is_block_tree tree) (before_child (is_block_tree tree) out) x trim) x)
      (p ∙ here)
      ∙ sym (ap (λ (f : NumberedForest). write_children (written_within n (conversion_of config items))
      (inside_of items id) f trim out) stands)
