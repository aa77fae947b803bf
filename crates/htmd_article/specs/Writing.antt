-- Parts of a page as trees.
use Rattle.std.specs.Prelude.{ℕ, Bool, false, ◌&&◌, ◌||◌, ◌==◌, if◌then◌else◌, List, [], ◌∷◌}
use Rattle.std.specs.Prelude.{Option, Some, None, codes}
use Rattle.std.specs.Str.{bytes_eq}
use Rattle.htmd_values.specs.ValueTrees.{doctype, text, comment, element, ValueForest}
use Rattle.htmd_values.specs.ValueTrees as value
use Rattle.htmd_nodes.specs.Items.{Data, document_node, doctype_node, text_node, comment_node, element_node}
use Rattle.htmd_article.specs.declared.facts.Facts.{Facts}
use Rattle.htmd_article.specs.Names.{is_title}
use Rattle.htmd_article.specs.Parts.{Part, part, Parts, none, more}

-- a link of a heading to itself: an `a` that shows a sign and nothing else
abbrev pub is_permalink : Data → Facts → Bool
is_permalink document_node f = false
is_permalink doctype_node f = false
is_permalink (text_node s) f = false
is_permalink (comment_node s) f = false
is_permalink (element_node name attributes) f =
    bytes_eq name (codes "a") && (f.counts.characters == 1) && (f.counts.signs == 1)

-- such a link goes in a heading or a term
abbrev pub goes : Data → Facts → Bool → Bool
goes d f in_title = in_title && is_permalink d f

-- the nodes below it are in a heading or a term
abbrev pub in_title_below : Data → Bool → Bool
in_title_below document_node in_title = in_title
in_title_below doctype_node in_title = in_title
in_title_below (text_node s) in_title = in_title
in_title_below (comment_node s) in_title = in_title
in_title_below (element_node name attributes) in_title = in_title || is_title name

-- a node over others, and what follows it; no Document is below another one
abbrev pub node_before : Data → ValueForest → ValueForest → ValueForest
node_before document_node inner rest = rest
node_before doctype_node inner rest = value.more doctype rest
node_before (text_node s) inner rest = value.more (text s) rest
node_before (comment_node s) inner rest = value.more (comment s) rest
node_before (element_node name attributes) inner rest = value.more (element name attributes inner) rest

-- the number that a node gets, if others can be below it
abbrev pub number_below : Data → ℕ → Option ℕ
number_below document_node n = None
number_below doctype_node n = None
number_below (text_node s) n = None
number_below (comment_node s) n = None
number_below (element_node name attributes) n = Some n

abbrev mutual
  -- parts as trees; in a heading or a term its links to itself go
  pub written : Bool → Parts → ValueForest
  written in_title none = value.none
  written in_title (more p ps) = written_before in_title p (written in_title ps)

  pub written_before : Bool → Part → ValueForest → ValueForest
  written_before in_title (part d f ps) rest =
      if goes d f in_title then rest
      else node_before d (written (in_title_below d in_title) ps) rest

abbrev pub written_part : Bool → Part → ValueForest
written_part in_title p = written_before in_title p value.none

-- of a Document what is below it
abbrev pub written_whole : Part → ValueForest
written_whole (part document_node f ps) = written false ps
written_whole (part doctype_node f ps) = written_part false (part doctype_node f ps)
written_whole (part (text_node s) f ps) = written_part false (part (text_node s) f ps)
written_whole (part (comment_node s) f ps) = written_part false (part (comment_node s) f ps)
written_whole (part (element_node name attributes) f ps) =
    written_part false (part (element_node name attributes) f ps)

abbrev pub all_written : List Part → ValueForest
all_written [] = value.none
all_written (p ∷ ps) = written_before false p (all_written ps)
