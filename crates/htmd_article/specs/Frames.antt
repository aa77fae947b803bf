-- The frame of a page: navigation, header, footer and the like.
use Rattle.std.specs.Prelude.{ℕ, ◌*◌, Bool, true, false, not, ◌&&◌, ◌||◌, nat_lt, if◌then◌else◌}
use Rattle.std.specs.Prelude.{List, Option, Some, None, codes}
use Rattle.std.specs.Str.{bytes_eq}
use Rattle.htmd_lexical.specs.AttributePairs.{AttributePair}
use Rattle.htmd_lexical.specs.CharacterClasses.{is_among}
use Rattle.htmd_nodes.specs.Items.{Data, document_node, doctype_node, text_node, comment_node, element_node}
use Rattle.htmd_nodes.specs.Items.{holds_children}
use Rattle.htmd_article.specs.declared.facts.Facts.{Facts}
use Rattle.htmd_article.specs.Names.{frame_names, is_unseen, is_block}
use Rattle.htmd_article.specs.Sayings.{has_role, has_frame_role, has_frame_class, has_frame_id}
use Rattle.htmd_article.specs.Facts.{no_facts, facts_over, is_linked}
use Rattle.htmd_article.specs.Parts.{Part, part, Parts, none, more, facts_after, is_entered}

-- its class or its id says so
abbrev pub is_called_frame : List AttributePair → Facts → Bool
is_called_frame attributes f =
    (has_frame_class attributes && not f.has_h1) || (has_frame_id attributes && not f.has_heading)

-- less than half of a body's prose
abbrev pub is_small : ℕ → ℕ → Bool
is_small prose total = nat_lt (2 * prose) total

-- an element that goes, by the letters of prose in the body; never what holds the main part
abbrev pub is_frame_element : ℕ → List ℕ → List AttributePair → Facts → Bool
is_frame_element total name attributes f =
    if f.has_main then false
    else if is_among frame_names name || has_frame_role attributes then true
    else if bytes_eq name (codes "header") || has_role (codes "banner") attributes then not f.has_heading
    else if bytes_eq name (codes "aside") || has_role (codes "complementary") attributes then is_linked f
    else is_block name && is_called_frame attributes f && (is_linked f || is_small f.prose total)

-- in what never shows nothing is part of the frame
abbrev pub is_frame : Option ℕ → Data → Facts → Bool
is_frame None d f = false
is_frame (Some total) document_node f = false
is_frame (Some total) doctype_node f = false
is_frame (Some total) (text_node s) f = false
is_frame (Some total) (comment_node s) f = false
is_frame (Some total) (element_node name attributes) f =
    not (is_unseen name) && is_frame_element total name attributes f

abbrev pub total_below : Option ℕ → Data → Option ℕ
total_below total d = if is_entered d then total else None

-- what is known of a node over others than before; its characters are those of all that it had
abbrev pub facts_again : Data → Facts → Parts → Facts
facts_again d f ps =
    if holds_children d then record (facts_over d (facts_after no_facts ps)) { counts = f.counts } else f

abbrev pub over : Data → Facts → Parts → Part
over d f ps = part d (facts_again d f ps) ps

abbrev mutual
  -- without the outermost parts of the frame, by the letters of prose in the body
  pub without_frame : Option ℕ → Parts → Parts
  without_frame total none = none
  without_frame total (more p ps) = framed total p (without_frame total ps)

  pub framed : Option ℕ → Part → Parts → Parts
  framed total (part d f inner) others =
      if is_frame total d f then others else more (over d f (without_frame (total_below total d) inner)) others

-- a node without what is part of the frame in it
abbrev pub without_frame_in : Option ℕ → Part → Part
without_frame_in total (part d f inner) = over d f (without_frame (total_below total d) inner)
