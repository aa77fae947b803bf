-- Links that stand above the content.
use Rattle.std.specs.Prelude.{Bool, false, not, ◌&&◌, ◌||◌, nat_lt, if◌then◌else◌}
use Rattle.htmd_nodes.specs.Items.{Data, document_node, doctype_node, text_node, comment_node, element_node}
use Rattle.htmd_article.specs.declared.facts.Facts.{Facts}
use Rattle.htmd_article.specs.declared.top_links.Place.{Place}
use Rattle.htmd_article.specs.declared.top_links.Place.TheVariants as place
use Rattle.htmd_article.specs.Names.{is_unseen, is_block}
use Rattle.htmd_article.specs.Facts.{shows, is_linked}
use Rattle.htmd_article.specs.Parts.{Part, part, Parts, none, more, facts_in}

abbrev pub block_place : Facts → Place
block_place f =
    if is_linked f && not f.has_heading then place.Links
    else if shows f || f.has_heading then place.Block else place.Nothing

abbrev pub inline_place : Bool → Facts → Place
inline_place unseen f = if not unseen && nat_lt 0 f.counts.letters then place.Content else place.Nothing

-- what a node is to what comes after it: links that go, the first block that stays, other content, or nothing
abbrev pub place_of : Data → Facts → Place
place_of document_node f = inline_place false f
place_of doctype_node f = inline_place false f
place_of (text_node s) f = inline_place false f
place_of (comment_node s) f = inline_place false f
place_of (element_node name attributes) f =
    if is_block name then block_place f else inline_place (is_unseen name) f

-- a node, the same without links above what is in it, what follows it, and that without links above it
abbrev pub by_place : Place → Part → Part → Parts → Parts → Parts
by_place place.Links p inner ps later = later
by_place place.Block p inner ps later = more inner ps
by_place place.Content p inner ps later = more p ps
by_place place.Nothing p inner ps later = more p later

abbrev mutual
  -- without the blocks of links before all else, and in the first block that stays, before all else in it
  pub without_links : Parts → Parts
  without_links none = none
  without_links (more p ps) = with_first p ps (without_links ps)

  pub with_first : Part → Parts → Parts → Parts
  with_first (part d f inner) ps later =
      by_place (place_of d f) (part d f inner) (part d f (without_links inner)) ps later

abbrev pub linkless : Part → Part
linkless (part d f ps) = part d f (without_links ps)

-- unless all is links
abbrev pub without_top_links : Part → Part
without_top_links p = if is_linked (facts_in p) then p else linkless p
