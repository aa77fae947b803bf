-- What is known of a node, by those of its children.
use Rattle.std.proofs.Common.{◌≡◌, ◌<◌, ℕ, Bool, true, false, List, [], ◌∷◌, length, map, refl, sym}
use Rattle.std.proofs.Common.{ap, ◌∙◌, Option}
use Rattle.std.proofs.Common.{Some, None}
use Rattle.std.proofs.Common.{eqb-true, Vec, Global}
use Rattle.std.proofs.lemmas.Bool.{false≢true}
use Rattle.htmd_lexical.specs.declared.attribute.Attribute.{Attribute}
use Rattle.htmd_lexical.proofs.Cases.{test}
use Rattle.htmd_nodes.specs.Items.{Data, document_node, doctype_node, text_node, comment_node, element_node, Item}
use Rattle.htmd_nodes.specs.Items.{holds_children, data_at, parent_at, is_child, children_of, IsTree}
use Rattle.htmd_nodes.specs.NumberedTrees.{NumberedForest, with_children, tree_of, forest_of, value_tree, value_forest}
use Rattle.htmd_nodes.specs.NumberedTrees.{value_at}
use Rattle.htmd_nodes.specs.Views.{data_of}
use Rattle.htmd_nodes.specs.declared.tree.NodeData.{NodeData}
use Rattle.htmd_nodes.specs.declared.tree.NodeData.TheVariants.{Document, Doctype, Text, Comment, Element}
use Rattle.htmd_nodes.proofs.ItemsLemmas.{children_from-none}
use Rattle.htmd_nodes.proofs.SearchLemmas.{value-node}
use Rattle.htmd_article.specs.Parts.{Part, part, more, parts_of, facts_of, linked_below, known, all_known}
use Rattle.std.proofs.Common.{cond, option_map}
use Rattle.htmd_lexical.specs.Attributes.{pairs_of}
use Rattle.htmd_values.specs.ValueTrees.{document, element}
use Rattle.htmd_article.specs.Names.{is_body, is_unseen}
use Rattle.htmd_article.specs.Parts.{body_in, first_body}
use Rattle.htmd_article.specs.Articles.{body_of, body_or}

abbrev pub known_at : List Item → Bool → ℕ → Part
known_at items linked id = known linked (value_at items id)

all_known-forest : (items : List Item) (linked : Bool) (ids : List ℕ)
    → all_known linked (value_forest (forest_of (tree_of items) ids)) ≡ parts_of (map (known_at items linked) ids)
all_known-forest items linked [] = refl
all_known-forest items linked (id ∷ ids) =
    ap (more (known_at items linked id)) (all_known-forest items linked ids)

is_child-some : (o : Option ℕ) (p : ℕ) → is_child p o ≡ true → o ≡ Some p
is_child-some None p e = absurd (false≢true e)
is_child-some (Some q) p e = ap Some (eqb-true q p e)

-- what isn't the Document or an element has otherwise children
childless : (items : List Item) (id : ℕ) → IsTree items → holds_children (data_at items id) ≡ false
    → children_of items id ≡ []
childless items id t empty = children_from-none 0 items id (λ k l.
    test (is_child id (parent_at items k))
    (λ so. absurd (false≢true (sym empty ∙ (t.under k id l (is_child-some (parent_at items k) id so)).holds)))
    (λ otherwise. otherwise))

abbrev over_children : List Item → Bool → Data → List ℕ → Part
over_children items linked d ids =
    part d (facts_of d linked (parts_of (map (known_at items (linked_below d linked)) ids)))
    (parts_of (map (known_at items (linked_below d linked)) ids))

known-with : (items : List Item) (id : ℕ) (linked : Bool) (d : Data) (ids : List ℕ)
    → (holds_children d ≡ false → ids ≡ [])
    → known linked (value_tree (with_children id d (forest_of (tree_of items) ids)))
    ≡ over_children items linked d ids
known-with items id linked document_node ids h =
    ap (λ ps. part document_node (facts_of document_node linked ps) ps) (all_known-forest items linked ids)
known-with items id linked doctype_node ids h = ap (over_children items linked doctype_node) (sym (h refl))
known-with items id linked (text_node s) ids h = ap (over_children items linked (text_node s)) (sym (h refl))
known-with items id linked (comment_node s) ids h = ap (over_children items linked (comment_node s)) (sym (h refl))
known-with items id linked (element_node name attributes) ids h =
    ap (λ ps. part (element_node name attributes) (facts_of (element_node name attributes) linked ps) ps)
    (all_known-forest items (linked_below (element_node name attributes) linked) ids)

pub known-node : (items : List Item) (id : ℕ) (linked : Bool) (d : Data) → IsTree items → id < length items
    → d ≡ data_at items id
    → known_at items linked id ≡ over_children items linked d (children_of items id)
known-node items id linked d t l e =
    ap (known linked) (value-node items id d t l e)
    ∙ known-with items id linked d (children_of items id)
    (λ empty. childless items id t (ap holds_children (sym e) ∙ empty))

-- only an element is a body, or has one below it
pub body-other : (id : ℕ) (d : NodeData) (f : NumberedForest)
    → ((name : List ℕ) (attributes : Vec Attribute Global) → d ≡ Element name attributes → ⊥)
    → body_in (value_tree (with_children id (data_of d) f)) ≡ None
body-other id Document f h = refl
body-other id Doctype f h = refl
body-other id (Text s) f h = refl
body-other id (Comment s) f h = refl
body-other id (Element name attributes) f h = absurd (h name attributes refl)

module _ (items : List Item) (id : ℕ) (d : NodeData) (name : List ℕ) (attributes : Vec Attribute Global)
    (t : IsTree items) (l : id < length items) (same : data_of d ≡ data_at items id)
    (is : d ≡ Element name attributes) where
  element_at : value_at items id
      ≡ element name (pairs_of attributes.items) (value_forest (forest_of (tree_of items) (children_of items id)))
  element_at = value-node items id (element_node name (pairs_of attributes.items)) t l (sym (ap data_of is) ∙ same)

  body_at : body_in (value_at items id) ≡ cond (is_body name)
      (Some (element name (pairs_of attributes.items)
      (value_forest (forest_of (tree_of items) (children_of items id)))))
      (cond (is_unseen name) None (first_body (value_forest (forest_of (tree_of items) (children_of items id)))))
  body_at = ap body_in element_at

  pub body_here : is_body name ≡ true → Some (value_at items id) ≡ body_in (value_at items id)
  body_here named = ap Some element_at ∙ sym (body_at ∙ rw named refl)

  pub body_nowhere : is_body name ≡ false → is_unseen name ≡ true → None ≡ body_in (value_at items id)
  body_nowhere other hidden = sym (body_at ∙ rw (other, hidden) refl)

  pub body_below : is_body name ≡ false → is_unseen name ≡ false
      → first_body (value_forest (forest_of (tree_of items) (children_of items id))) ≡ body_in (value_at items id)
  body_below other seen = sym (body_at ∙ rw (other, seen) refl)

module _ (items : List Item) (t : IsTree items) (root : ℕ) (zeroth : root ≡ 0) (found : Option ℕ)
    (e : option_map (value_at items) found
    ≡ first_body (value_forest (forest_of (tree_of items) (children_of items root)))) where
  root_at : value_at items 0 ≡ document (value_forest (forest_of (tree_of items) (children_of items 0)))
  root_at = value-node items 0 document_node t t.not_empty (sym (ap (λ (x : Item). x.node_data) t.first))

  body_of_root : body_of (value_at items 0) ≡ body_or (value_at items 0) (option_map (value_at items) found)
  body_of_root =
      ap body_of root_at
      ∙ (ap (λ v. body_or v (first_body (value_forest (forest_of (tree_of items) (children_of items 0)))))
      (sym root_at)
      ∙ ap (body_or (value_at items 0)) (sym (e
      ∙ ap (λ n. first_body (value_forest (forest_of (tree_of items) (children_of items n)))) zeroth)))

  pub body_found : (id : ℕ) → found ≡ Some id → value_at items id ≡ body_of (value_at items 0)
  body_found id is = sym (body_of_root ∙ ap (λ o. body_or (value_at items 0) (option_map (value_at items) o)) is)

  pub body_missing : found ≡ None → value_at items root ≡ body_of (value_at items 0)
  body_missing is =
      ap (value_at items) zeroth
      ∙ sym (body_of_root ∙ ap (λ o. body_or (value_at items 0) (option_map (value_at items) o)) is)
