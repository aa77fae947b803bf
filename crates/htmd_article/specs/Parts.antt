-- The page as nodes with what is known of each.
use Rattle.std.specs.Prelude.{Bool, true, false, not, ◌||◌, if◌then◌else◌, List, [], ◌∷◌, Option, Some}
use Rattle.std.specs.Prelude.{None}
use Rattle.htmd_values.specs.ValueTrees.{ValueTree, document, doctype, text, comment, element, ValueForest}
use Rattle.htmd_values.specs.ValueTrees as value
use Rattle.htmd_nodes.specs.Items.{Data, document_node, doctype_node, text_node, comment_node, element_node}
use Rattle.htmd_article.specs.declared.facts.Facts.{Facts}
use Rattle.htmd_article.specs.Names.{is_unseen, is_body}
use Rattle.htmd_article.specs.Sayings.{is_link}
use Rattle.htmd_article.specs.Facts.{no_facts, facts_sum, text_facts, facts_over}

mutual
  pub data Part : Type 0 where
    part : (node_data : Data) (facts : Facts) (parts : Parts) → Part

  pub data Parts : Type 0 where
    none : Parts
    more : (tree : Part) (trees : Parts) → Parts

abbrev pub parts_of : List Part → Parts
parts_of [] = none
parts_of (p ∷ ps) = more p (parts_of ps)

abbrev pub facts_in : Part → Facts
facts_in (part d f ps) = f

-- what is known of nodes beside each other, after others
abbrev pub facts_after : Facts → Parts → Facts
facts_after f none = f
facts_after f (more p ps) = facts_after (facts_sum f (facts_in p)) ps

-- what is known of a node, in a link or not, by the nodes below it
abbrev pub facts_of : Data → Bool → Parts → Facts
facts_of document_node linked ps = facts_over document_node (facts_after no_facts ps)
facts_of doctype_node linked ps = facts_over doctype_node (facts_after no_facts ps)
facts_of (text_node s) linked ps = text_facts linked s
facts_of (comment_node s) linked ps = facts_over (comment_node s) (facts_after no_facts ps)
facts_of (element_node name attributes) linked ps =
    facts_over (element_node name attributes) (facts_after no_facts ps)

abbrev pub made : Data → Bool → Parts → Part
made d linked ps = part d (facts_of d linked ps) ps

-- the nodes below it are in a link
abbrev pub linked_below : Data → Bool → Bool
linked_below document_node linked = linked
linked_below doctype_node linked = linked
linked_below (text_node s) linked = linked
linked_below (comment_node s) linked = linked
linked_below (element_node name attributes) linked = linked || is_link name attributes

abbrev mutual
  -- a node with what is known of it, in a link or not
  pub known : Bool → ValueTree → Part
  known linked (document children) = made document_node linked (all_known linked children)
  known linked doctype = made doctype_node linked none
  known linked (text s) = made (text_node s) linked none
  known linked (comment s) = made (comment_node s) linked none
  known linked (element name attributes children) =
      made (element_node name attributes) linked (all_known (linked || is_link name attributes) children)

  pub all_known : Bool → ValueForest → Parts
  all_known linked value.none = none
  all_known linked (value.more tree trees) = more (known linked tree) (all_known linked trees)

abbrev pub or_else : Option ValueTree → Option ValueTree → Option ValueTree
or_else (Some tree) other = Some tree
or_else None other = other

abbrev mutual
  -- the first `body` or `frameset` in document order
  pub first_body : ValueForest → Option ValueTree
  first_body value.none = None
  first_body (value.more tree trees) = or_else (body_in tree) (first_body trees)

  pub body_in : ValueTree → Option ValueTree
  body_in (document children) = None
  body_in doctype = None
  body_in (text s) = None
  body_in (comment s) = None
  body_in (element name attributes children) =
      if is_body name then Some (element name attributes children)
      else if is_unseen name then None else first_body children

-- an element, or the Document, of which something may show
abbrev pub is_entered : Data → Bool
is_entered document_node = true
is_entered doctype_node = false
is_entered (text_node s) = false
is_entered (comment_node s) = false
is_entered (element_node name attributes) = not (is_unseen name)
