-- What is asked of a node, against its value tree and its ancestors.
use Rattle.std.proofs.Common.{◌≡◌, ℕ, ◌<◌, List, [], ◌∷◌, length, get_or, Some, None, refl, ap, ◌∙◌, arith, subst}
use Rattle.std.proofs.Common.{Bool, ◌||◌, not, ◌&&◌, true, false, codes, eqb}
use Rattle.std.specs.List.{list_any}
use Rattle.std.specs.Str.{bytes_eq}
use Rattle.std.proofs.lemmas.Bool.Decides.{nat_tests}
use Rattle.htmd_text.specs.Blocks.{is_block}
use Rattle.htmd_text.proofs.BlocksLemmas.{block-nil}
use Rattle.htmd_nodes.specs.Items.{Item, Data, document_node, doctype_node, text_node, comment_node, element_node}
use Rattle.htmd_nodes.specs.Items.{IsTree, data_at, parent_at, tag_of, holds_children}
use Rattle.htmd_nodes.specs.NumberedTrees.{NumberedTree, document, doctype, text, comment, element, NumberedForest}
use Rattle.htmd_nodes.specs.NumberedTrees.{none}
use Rattle.htmd_nodes.specs.NumberedTrees.{more, with_children, forest_of, tree_of}
use Rattle.htmd_nodes.specs.Ancestors.{Ancestor, ancestor_of, ancestors_of, chain_from}
use Rattle.htmd_nodes.specs.Views.{data_of}
use Rattle.htmd_lexical.specs.declared.attribute.Attribute.{Attribute}
use Rattle.htmd_nodes.specs.declared.tree.NodeData.{NodeData}
use Rattle.htmd_nodes.specs.declared.tree.NodeData.TheVariants.{Document, Doctype, Text, Comment, Element}
use Rattle.std.specs.Prelude.{String, Vec}
use Rattle.std.specs.Global.{Global}
use Rattle.std.proofs.Math.Bool.{and-false, and-true, or-false}
use Rattle.htmd_nodes.proofs.NumberedTreesLemmas.{tree-open}
use Rattle.htmd_nodes.proofs.AncestorsLemmas.{ancestors-open}
use Rattle.htmd_walk.specs.OrdinaryText.{is_pre_or_code, in_pre_or_code, parent_is_pre}
use Rattle.htmd_walk.specs.ElementPlans.{is_tag_among}
use Rattle.htmd_walk.specs.Groups.{only_text, children_at}
use Rattle.htmd_walk.specs.Children.{is_block_tree, trims_first}
use Rattle.htmd_walk.specs.Rendering.{is_text, inside_of}

-- what of a content says whether it is a block element
abbrev pub is_block_content : Data → Bool
is_block_content document_node = false
is_block_content doctype_node = false
is_block_content (text_node s) = false
is_block_content (comment_node s) = false
is_block_content (element_node name attributes) = is_block name

block-put : (id : ℕ) (c : Data) (children : NumberedForest) → is_block_tree (with_children id c children)
    ≡ is_block_content c
block-put id document_node children = refl
block-put id doctype_node children = refl
block-put id (text_node s) children = refl
block-put id (comment_node s) children = refl
block-put id (element_node name attributes) children = refl

-- a node that others are under has a tag
pub tag-held : (tags : List (List ℕ)) (c : Data) → holds_children c ≡ true
    → is_tag_among tags (tag_of c) ≡ is_tag_among tags (Some (ancestor_of c).tag)
tag-held tags document_node h = refl
tag-held tags doctype_node h = cc
tag-held tags (text_node s) h = cc
tag-held tags (comment_node s) h = cc
tag-held tags (element_node name attributes) h = refl

pub bytes_eq-swapped : (n m : List ℕ) → bytes_eq n m ≡ bytes_eq m n
bytes_eq-swapped [] [] = refl
bytes_eq-swapped [] (b ∷ m) = refl
bytes_eq-swapped (b ∷ n) [] = refl
bytes_eq-swapped (b ∷ n) (c ∷ m) = rw (byte_swapped b c, bytes_eq-swapped n m) refl
  where
    byte_swapped : (b c : ℕ) → eqb b c ≡ eqb c b
    byte_swapped b c = grind (arith, nat_tests)

pre_or_code-tag : (tag : List ℕ) → is_tag_among (codes "pre" ∷ codes "code" ∷ []) (Some tag)
    ≡ (bytes_eq tag (codes "pre") || bytes_eq tag (codes "code"))
pre_or_code-tag tag =
    ap (λ b. b || (bytes_eq (codes "code") tag || false)) (bytes_eq-swapped (codes "pre") tag)
    ∙ ap (λ b. bytes_eq tag (codes "pre") || (b || false)) (bytes_eq-swapped (codes "code") tag)
    ∙ ap (λ b. bytes_eq tag (codes "pre") || b) (or-false (bytes_eq tag (codes "code")))

pub pre_or_code-among : (above : List Ancestor)
    → list_any (λ a. is_tag_among (codes "pre" ∷ codes "code" ∷ []) (Some a.tag)) above ≡ in_pre_or_code above
pre_or_code-among [] = refl
pre_or_code-among (a ∷ above) =
    ap (λ b. b || list_any (λ x. is_tag_among (codes "pre" ∷ codes "code" ∷ []) (Some x.tag)) above)
    (pre_or_code-tag a.tag)
    ∙ ap (λ b. is_pre_or_code a || b) (pre_or_code-among above)

module _ (items : List Item) (t : IsTree items) where
  pub is_block_tree-open : (id : ℕ) → id < length items → is_block_tree (tree_of items id) ≡ is_block_content
      (data_at items id)
  is_block_tree-open id l = ap is_block_tree (tree-open items id t l)
      ∙ block-put id (data_at items id) (children_at items id)

  -- one step up
  pub any-root : (f : Ancestor → Bool) (id : ℕ) → id < length items → parent_at items id ≡ None
      → list_any f (ancestors_of items id) ≡ false
  any-root f id l e = ap (list_any f) (ancestors-open items id t l ∙ ap (chain_from (ancestors_of items) items) e)

  pub any-hit : (f : Ancestor → Bool) (id p : ℕ) → id < length items → parent_at items id ≡ Some p
      → f (ancestor_of (data_at items p)) ≡ true → list_any f (ancestors_of items id) ≡ true
  any-hit f id p l e h =
      ap (list_any f) (ancestors-open items id t l ∙ ap (chain_from (ancestors_of items) items) e)
      ∙ ap (λ b. b || list_any f (ancestors_of items p)) h

  pub any-miss : (f : Ancestor → Bool) (id p : ℕ) → id < length items → parent_at items id ≡ Some p
      → f (ancestor_of (data_at items p)) ≡ false
      → list_any f (ancestors_of items id) ≡ list_any f (ancestors_of items p)
  any-miss f id p l e h =
      ap (list_any f) (ancestors-open items id t l ∙ ap (chain_from (ancestors_of items) items) e)
      ∙ ap (λ b. b || list_any f (ancestors_of items p)) h

  pub parent_pre-root : (id : ℕ) → id < length items → parent_at items id ≡ None
      → parent_is_pre (ancestors_of items id) ≡ false
  parent_pre-root id l e =
      ap parent_is_pre (ancestors-open items id t l ∙ ap (chain_from (ancestors_of items) items) e)

  pub parent_pre-up : (id p : ℕ) (c : Data) → id < length items → parent_at items id ≡ Some p
      → data_at items p ≡ c
      → parent_is_pre (ancestors_of items id) ≡ bytes_eq (ancestor_of c).tag (codes "pre")
  parent_pre-up id p c l e k =
      ap parent_is_pre (ancestors-open items id t l ∙ ap (chain_from (ancestors_of items) items) e)
      ∙ ap (λ x. bytes_eq (ancestor_of x).tag (codes "pre")) k

  -- the text of an only child
  text_put : (id : ℕ) (c : Data) → data_at items id ≡ c → id < length items
      → only_text (more (tree_of items id) none)
      ≡ only_text (more (with_children id c (children_at items id)) none)
  text_put id c e l = ap (λ v. only_text (more v none)) (tree-open items id t l
      ∙ ap (λ x. with_children id x (children_at items id)) e)

  pub only_text-one : (ids : List ℕ) (id : ℕ) (s : List ℕ) → length ids ≡ 1 → id ≡ get_or ids 0 id
      → id < length items
      → data_at items id ≡ text_node s → only_text (forest_of (tree_of items) ids) ≡ Some s
  only_text-one [] id s l e h k = absurd (omega arith)
  only_text-one (i ∷ []) id s l e h k = subst (λ j. only_text (more (tree_of items j) none) ≡ Some s) e
      (text_put id (text_node s) k h)
  only_text-one (i ∷ j ∷ ids) id s l e h k = absurd (omega arith)

  no_text : (id : ℕ) (c : Data) (trees : NumberedForest) → is_text c ≡ false
      → only_text (more (with_children id c trees) none) ≡ None
  no_text id document_node trees h = refl
  no_text id doctype_node trees h = refl
  no_text id (text_node s) trees h = cc
  no_text id (comment_node s) trees h = refl
  no_text id (element_node name attributes) trees h = refl

  pub only_text-other : (ids : List ℕ) (id : ℕ) → length ids ≡ 1 → id ≡ get_or ids 0 id
      → id < length items
      → is_text (data_at items id) ≡ false → only_text (forest_of (tree_of items) ids) ≡ None
  only_text-other [] id l e h k = absurd (omega arith)
  only_text-other (i ∷ []) id l e h k =
      subst (λ j. only_text (more (tree_of items j) none) ≡ None) e (text_put id (data_at items id) refl h
      ∙ no_text id (data_at items id) (children_at items id) k)
  only_text-other (i ∷ j ∷ ids) id l e h k = absurd (omega arith)

  two_or_more : (v w : NumberedTree) (trees : NumberedForest) → only_text (more v (more w trees)) ≡ None
  two_or_more (document i ks) w trees = refl
  two_or_more (doctype i) w trees = refl
  two_or_more (text i s) w trees = refl
  two_or_more (comment i s) w trees = refl
  two_or_more (element i n a ks) w trees = refl

  pub only_text-none : (ids : List ℕ) → (length ids ≡ 1 → ⊥)
      → only_text (forest_of (tree_of items) ids) ≡ None
  only_text-none [] l = refl
  only_text-none (i ∷ []) l = absurd (l (omega arith))
  only_text-none (i ∷ j ∷ ids) l = two_or_more (tree_of items i) (tree_of items j) (forest_of (tree_of items) ids)

-- the tag that an ancestor's trimming asks for
-- the Document has the tag of `html`, and what is no element has none
pub html_block : is_block (ancestor_of document_node).tag ≡ true
unfolding is_block
html_block = refl

pub other_tag : (n : NodeData) → (n ≡ Document → ⊥) → ((name : List ℕ) (attributes : Vec Attribute Global)
    → n ≡ Element name attributes → ⊥) → is_block (ancestor_of (data_of n)).tag ≡ false
other_tag Document d h = absurd (d refl)
other_tag Doctype d h = block-nil
other_tag (Text s) d h = block-nil
other_tag (Comment s) d h = block-nil
other_tag (Element name attributes) d h = absurd (h name attributes refl)

-- a stored node that isn't an element, or isn't text
pub not_block : (n : NodeData) → ((name : List ℕ) (attributes : Vec Attribute Global)
    → n ≡ Element name attributes → ⊥) → is_block_content (data_of n) ≡ false
not_block Document h = refl
not_block Doctype h = refl
not_block (Text s) h = refl
not_block (Comment s) h = refl
not_block (Element name attributes) h = absurd (h name attributes refl)

pub not_pre : (n : NodeData)
    → ((name : List ℕ) (attributes : Vec Attribute Global) → n ≡ Element name attributes
    → ⊥) → bytes_eq (ancestor_of (data_of n)).tag (codes "pre") ≡ false
not_pre Document h = refl
not_pre Doctype h = refl
not_pre (Text s) h = refl
not_pre (Comment s) h = refl
not_pre (Element name attributes) h = absurd (h name attributes refl)

pub not_text : (n : NodeData) → ((s : String Global) → n ≡ Text s → ⊥) → is_text (data_of n) ≡ false
not_text Document h = refl
not_text Doctype h = refl
not_text (Text s) h = absurd (h s refl)
not_text (Comment s) h = refl
not_text (Element name attributes) h = refl

-- the trim flag at the start of a node's content
pub no_trim : (items : List Item) (id : ℕ) → in_pre_or_code (inside_of items id) ≡ true
    → trims_first (inside_of items id) ≡ false
no_trim items id e = ap (λ t. is_block (ancestor_of (data_at items id)).tag && not t) e
    ∙ and-false (is_block (ancestor_of (data_at items id)).tag)

pub trims_by : (items : List Item) (id : ℕ) → in_pre_or_code (inside_of items id) ≡ false
    → trims_first (inside_of items id) ≡ is_block (ancestor_of (data_at items id)).tag
trims_by items id e = ap (λ t. is_block (ancestor_of (data_at items id)).tag && not t) e
    ∙ and-true (is_block (ancestor_of (data_at items id)).tag)
