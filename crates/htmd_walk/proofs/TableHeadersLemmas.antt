-- Explicit headers and cells above, as loops find them.
use Rattle.std.proofs.Common.{◌≡◌, ℕ, ◌<◌, List, [], ◌∷◌, length, refl, sym, ap, ◌∙◌, arith, Bool, true, false}
use Rattle.std.proofs.Common.{not, ◌&&◌, ◌||◌, codes}
use Rattle.std.specs.List.{list_any}
use Rattle.htmd_nodes.specs.Items.{Item, Data, document_node, doctype_node, text_node, comment_node, element_node}
use Rattle.htmd_nodes.specs.Items.{IsTree, data_at, children_of, holds_children, tag_of}
use Rattle.htmd_nodes.specs.NumberedTrees.{NumberedForest, with_children, tree_of, forest_of}
use Rattle.htmd_nodes.proofs.NumberedTreesLemmas.{tree-open}
use Rattle.htmd_nodes.proofs.ItemsLemmas.{child_read}
use Rattle.htmd_walk.specs.Groups.{children_at}
use Rattle.htmd_walk.specs.ElementPlans.{is_tag_among}
use Rattle.htmd_walk.specs.TableLayouts.{has_tag}
use Rattle.htmd_walk.specs.Tables.{header_tags, tag_of_tree, is_header, is_table}
use Rattle.htmd_walk.specs.Tables.{has_header_below, has_header_among, has_explicit_headers}

tag-put : (id : ℕ) (d : Data) (children : NumberedForest) → tag_of_tree (with_children id d children) ≡ tag_of d
tag-put id document_node children = refl
tag-put id doctype_node children = refl
tag-put id (text_node s) children = refl
tag-put id (comment_node s) children = refl
tag-put id (element_node name attributes) children = refl

-- a node without children has no header below it
below-put : (id : ℕ) (d : Data) (children : NumberedForest)
    → (holds_children d ≡ false → has_header_among children ≡ false)
    → has_header_below (with_children id d children) ≡ has_header_among children
below-put id document_node children h = refl
below-put id doctype_node children h = sym (h refl)
below-put id (text_node s) children h = sym (h refl)
below-put id (comment_node s) children h = sym (h refl)
below-put id (element_node name attributes) children h = refl

-- how a child is looked into: below the table, and deeper
abbrev pub shows_header : List Item → ℕ → Bool
shows_header items id = is_header (tree_of items id) || has_header_below (tree_of items id)

abbrev pub shows_header_deeper : List Item → ℕ → Bool
shows_header_deeper items id =
    is_header (tree_of items id) || (not (is_table (tree_of items id)) && has_header_below (tree_of items id))

module _ (items : List Item) (t : IsTree items) where
  pub tree_tag : (id : ℕ) → id < length items → tag_of_tree (tree_of items id) ≡ tag_of (data_at items id)
  tree_tag id l = ap tag_of_tree (tree-open items id t l) ∙ tag-put id (data_at items id) (children_at items id)

  pub no_children : (id : ℕ) (ids : List ℕ) → id < length items → ids ≡ children_of items id
      → holds_children (data_at items id) ≡ false → ids ≡ []
  no_children id [] l e h = refl
  no_children id (k ∷ ids) l e h =
      let c = child_read items id (k ∷ ids) 0 k t l e (omega arith) refl in
      let holds = (t.under k id c.1 c.2).holds in
      absurd (let n : true ≡ false = sym holds ∙ h in cc)

  none_among : (id : ℕ) → id < length items → holds_children (data_at items id) ≡ false
      → has_header_among (children_at items id) ≡ false
  none_among id l h = ap (λ ids. has_header_among (forest_of (tree_of items) ids))
      (no_children id (children_of items id) l refl h)

  below-open : (id : ℕ) → id < length items
      → has_header_below (tree_of items id) ≡ has_header_among (children_at items id)
  below-open id l = ap has_header_below (tree-open items id t l)
      ∙ below-put id (data_at items id) (children_at items id) (none_among id l)

  explicit_any : (ids : List ℕ)
      → has_explicit_headers (forest_of (tree_of items) ids) ≡ list_any (shows_header items) ids
  explicit_any [] = refl
  explicit_any (id ∷ ids) = ap (λ b. shows_header items id || b) (explicit_any ids)

  among_any : (ids : List ℕ)
      → has_header_among (forest_of (tree_of items) ids) ≡ list_any (shows_header_deeper items) ids
  among_any [] = refl
  among_any (id ∷ ids) = ap (λ b. shows_header_deeper items id || b) (among_any ids)

  pub explicit_headers-any : (id : ℕ) (ids : List ℕ) → ids ≡ children_of items id
      → has_explicit_headers (children_at items id) ≡ list_any (shows_header items) ids
  explicit_headers-any id ids e = explicit_any (children_of items id) ∙ ap (list_any (shows_header items)) (sym e)

  pub header_below-any : (id : ℕ) (ids : List ℕ) → id < length items → ids ≡ children_of items id
      → has_header_below (tree_of items id) ≡ list_any (shows_header_deeper items) ids
  header_below-any id ids l e = below-open id l ∙ among_any (children_of items id)
      ∙ ap (list_any (shows_header_deeper items)) (sym e)

  -- what the tests of the code say of a child
  pub shown : (id : ℕ) → id < length items → has_tag header_tags items id ≡ true
      → shows_header items id ≡ true
  shown id l h = ap (λ b. b || has_header_below (tree_of items id))
      (ap (is_tag_among header_tags) (tree_tag id l) ∙ h)

  pub not_shown : (id : ℕ) → id < length items → has_tag header_tags items id ≡ false
      → shows_header items id ≡ has_header_below (tree_of items id)
  not_shown id l h = ap (λ b. b || has_header_below (tree_of items id))
      (ap (is_tag_among header_tags) (tree_tag id l) ∙ h)

  pub shown_deeper : (id : ℕ) → id < length items → has_tag header_tags items id ≡ true
      → shows_header_deeper items id ≡ true
  shown_deeper id l h = ap (λ b. b || (not (is_table (tree_of items id)) && has_header_below (tree_of items id)))
      (ap (is_tag_among header_tags) (tree_tag id l) ∙ h)

  pub table_shown : (id : ℕ) → id < length items → has_tag header_tags items id ≡ false
      → has_tag (codes "table" ∷ []) items id ≡ true → shows_header_deeper items id ≡ false
  table_shown id l h k =
      ap (λ b. b || (not (is_table (tree_of items id)) && has_header_below (tree_of items id)))
      (ap (is_tag_among header_tags) (tree_tag id l) ∙ h)
      ∙ ap (λ b. not b && has_header_below (tree_of items id))
      (ap (is_tag_among (codes "table" ∷ [])) (tree_tag id l) ∙ k)

  pub other_shown : (id : ℕ) → id < length items → has_tag header_tags items id ≡ false
      → has_tag (codes "table" ∷ []) items id ≡ false
      → shows_header_deeper items id ≡ has_header_below (tree_of items id)
  other_shown id l h k =
      ap (λ b. b || (not (is_table (tree_of items id)) && has_header_below (tree_of items id)))
      (ap (is_tag_among header_tags) (tree_tag id l) ∙ h)
      ∙ ap (λ b. not b && has_header_below (tree_of items id))
      (ap (is_tag_among (codes "table" ∷ [])) (tree_tag id l) ∙ k)
