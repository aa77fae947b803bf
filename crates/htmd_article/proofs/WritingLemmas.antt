-- Parts of the source as trees.
use Rattle.std.proofs.Common.{◌≡◌, ◌<◌, ◌+◌, ◌++◌, ℕ, Bool, true, false, cond, List, length, refl}
use Rattle.std.proofs.Common.{sym, ap, ◌∙◌, Some, None}
use Rattle.std.proofs.lemmas.List.{append-nil}
use Rattle.htmd_values.specs.ValueTrees.{ValueForest, none}
use Rattle.htmd_nodes.specs.Items.{Data, Item, data_at, depth_at, holds_children}
use Rattle.htmd_nodes.specs.Layout.{forest_items}
use Rattle.htmd_nodes.specs.Views.{data_of}
use Rattle.htmd_article.specs.declared.parts.Part as source
use Rattle.htmd_article.specs.declared.parts.Part.{out-Part}
use Rattle.htmd_article.specs.PartViews.{part_of, parts_of}
use Rattle.htmd_article.specs.TopLinks.{without_links, linkless}
use Rattle.htmd_article.specs.Writing.{goes, in_title_below, node_before, number_below, written, written_part}
use Rattle.htmd_article.proofs.LaidLemmas.{laid-node, none-below}
use Rattle.htmd_article.proofs.PartsLemmas.{part-out}

abbrev data_in : source.Part → Data
data_in p = data_of (out-Part p).node.now

abbrev gone : Bool → source.Part → Bool
gone in_title p = goes (data_in p) (out-Part p).facts in_title

abbrev over_inner : Bool → source.Part → ValueForest → ValueForest
over_inner in_title p inner = cond (gone in_title p) none (node_before (data_in p) inner none)

abbrev inner_in : Bool → source.Part → ValueForest
inner_in in_title p = written (in_title_below (data_in p) in_title) (parts_of (out-Part p).parts.items)

abbrev linkless_in : Bool → source.Part → ValueForest
linkless_in in_title p =
    written (in_title_below (data_in p) in_title) (without_links (parts_of (out-Part p).parts.items))

written-out : (in_title : Bool) (p : source.Part) → written_part in_title (part_of p)
    ≡ over_inner in_title p (inner_in in_title p)
written-out in_title p = ap (written_part in_title) (part-out p)

linkless-out : (in_title : Bool) (p : source.Part) → written_part in_title (linkless (part_of p))
    ≡ over_inner in_title p (linkless_in in_title p)
linkless-out in_title p = ap (λ x. written_part in_title (linkless x)) (part-out p)

-- these trees after the items of a tree, under one of its nodes
abbrev pub laid : List Item → ℕ → ValueForest → List Item
laid out under f = out ++ forest_items (depth_at out under + 1) under (length out) f

module _ (out : List Item) (under : ℕ) (in_title : Bool) (p : source.Part) (whole inner : ValueForest)
    (is : whole ≡ over_inner in_title p inner) where
  nothing-laid : gone in_title p ≡ true → out ≡ laid out under whole
  nothing-laid so =
      let empty : whole ≡ none = is ∙ rw so refl in
      sym (ap (laid out under) empty ∙ append-nil out)

  node-is : gone in_title p ≡ false → node_before (data_in p) inner none ≡ whole
  node-is otherwise = sym (is ∙ rw otherwise refl)

  leaf-laid : (new : List Item) → gone in_title p ≡ false → None ≡ number_below (data_in p) (length out)
      → new ≡ laid out under (node_before (data_in p) none none) → new ≡ laid out under whole
  leaf-laid new otherwise leaf e =
      e ∙ ap (laid out under) (none-below (data_in p) (length out) inner none leaf ∙ node-is otherwise)

  element-laid : (mid new : List Item) (id : ℕ) → gone in_title p ≡ false
      → Some id ≡ number_below (data_in p) (length out)
      → mid ≡ laid out under (node_before (data_in p) none none) → new ≡ laid mid id inner
      → new ≡ laid out under whole
  element-laid mid new id otherwise number e g =
      (laid-node out mid under id (data_in p) number e).over new inner g ∙ ap (laid out under) (node-is otherwise)

module _ (out mid : List Item) (under id : ℕ) (p : source.Part)
    (number : Some id ≡ number_below (data_in p) (length out))
    (e : mid ≡ laid out under (node_before (data_in p) none none)) where
  pub part_within : id < length mid
  part_within = (laid-node out mid under id (data_in p) number e).within

  pub part_holds : holds_children (data_at mid id) ≡ true
  part_holds = (laid-node out mid under id (data_in p) number e).holds

module _ (out : List Item) (under : ℕ) (in_title : Bool) (p : source.Part) where
  pub part_gone : gone in_title p ≡ true → out ≡ laid out under (written_part in_title (part_of p))
  part_gone = nothing-laid out under in_title p (written_part in_title (part_of p)) (inner_in in_title p)
      (written-out in_title p)

  pub part_leaf : (new : List Item) → gone in_title p ≡ false → None ≡ number_below (data_in p) (length out)
      → new ≡ laid out under (node_before (data_in p) none none)
      → new ≡ laid out under (written_part in_title (part_of p))
  part_leaf = leaf-laid out under in_title p (written_part in_title (part_of p)) (inner_in in_title p)
      (written-out in_title p)

  pub part_over : (mid new : List Item) (id : ℕ) (below : Bool) → gone in_title p ≡ false
      → Some id ≡ number_below (data_in p) (length out)
      → mid ≡ laid out under (node_before (data_in p) none none) → below ≡ in_title_below (data_in p) in_title
      → new ≡ laid mid id (written below (parts_of (out-Part p).parts.items))
      → new ≡ laid out under (written_part in_title (part_of p))
  part_over mid new id below otherwise number e same g =
      element-laid out under in_title p (written_part in_title (part_of p)) (inner_in in_title p)
      (written-out in_title p) mid new id otherwise number e
      (g ∙ ap (λ b. laid mid id (written b (parts_of (out-Part p).parts.items))) same)

  pub linkless_gone : gone in_title p ≡ true → out ≡ laid out under (written_part in_title (linkless (part_of p)))
  linkless_gone = nothing-laid out under in_title p (written_part in_title (linkless (part_of p)))
      (linkless_in in_title p) (linkless-out in_title p)

  pub linkless_leaf : (new : List Item) → gone in_title p ≡ false → None ≡ number_below (data_in p) (length out)
      → new ≡ laid out under (node_before (data_in p) none none)
      → new ≡ laid out under (written_part in_title (linkless (part_of p)))
  linkless_leaf = leaf-laid out under in_title p (written_part in_title (linkless (part_of p)))
      (linkless_in in_title p) (linkless-out in_title p)

  pub linkless_over : (mid new : List Item) (id : ℕ) (below : Bool) → gone in_title p ≡ false
      → Some id ≡ number_below (data_in p) (length out)
      → mid ≡ laid out under (node_before (data_in p) none none) → below ≡ in_title_below (data_in p) in_title
      → new ≡ laid mid id (written below (without_links (parts_of (out-Part p).parts.items)))
      → new ≡ laid out under (written_part in_title (linkless (part_of p)))
  linkless_over mid new id below otherwise number e same g =
      element-laid out under in_title p (written_part in_title (linkless (part_of p)))
      (linkless_in in_title p) (linkless-out in_title p) mid new id otherwise number e
      (g ∙ ap (λ b. laid mid id (written b (without_links (parts_of (out-Part p).parts.items)))) same)

-- a part that is written, its node and what is below
pub ruleset part_steps = (part_gone, part_leaf, part_over, part_within, part_holds)

-- the same of a part without the links above its content
pub ruleset linkless_steps = (linkless_gone, linkless_leaf, linkless_over, part_within, part_holds)
