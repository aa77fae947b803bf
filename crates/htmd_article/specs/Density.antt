-- The part with the most prose, where the page says nothing.
use Rattle.std.specs.Prelude.{ℕ, ◌+◌, ◌*◌, Bool, false, ◌&&◌, ◌==◌, nat_lt, nat_le}
use Rattle.std.specs.Prelude.{if◌then◌else◌}
use Rattle.htmd_nodes.specs.Items.{Data, document_node, doctype_node, text_node, comment_node, element_node}
use Rattle.htmd_article.specs.declared.choices.Chosen.{Chosen}
use Rattle.htmd_article.specs.declared.choices.Chosen.TheVariants as chosen
use Rattle.htmd_article.specs.declared.facts.Facts.{Facts}
use Rattle.htmd_article.specs.Names.{is_container}
use Rattle.htmd_article.specs.Parts.{Part, part, Parts, none, more, facts_in}

-- the best part so far, and whether it is the body or was found by density
pub record Best : Type 0 where
  pub chosen : Chosen
  pub best : Part

-- more prose above half its links
abbrev pub is_denser : Facts → Facts → Bool
is_denser f than = nat_lt (2 * than.prose + f.links) (2 * f.prose + than.links)

-- what can be chosen: a container of a heading
abbrev pub holds_title : Data → Facts → Bool
holds_title document_node f = false
holds_title doctype_node f = false
holds_title (text_node s) f = false
holds_title (comment_node s) f = false
holds_title (element_node name attributes) f = is_container name && f.has_heading

abbrev pub better : Best → Part → Best
better b (part d f ps) =
    if holds_title d f && is_denser f (facts_in b.best)
    then record { chosen = chosen.Density; best = part d f ps } else b

-- at least nine tenths of a whole
abbrev pub holds_most : ℕ → ℕ → Bool
holds_most total prose = nat_le (9 * total) (10 * prose)

abbrev mutual
  -- going down while a part holds nine tenths of the prose
  pub densest : ℕ → Best → Parts → Best
  densest total b none = b
  densest total b (more p ps) =
      if holds_most total (facts_in p).prose then densest_below total (better b p) p else densest total b ps

  pub densest_below : ℕ → Best → Part → Best
  densest_below total b (part d f ps) = densest total b ps

-- the part of a body with the most prose and few links
abbrev pub densest_of : Part → Best
densest_of body =
    if (facts_in body).prose == 0 then record { chosen = chosen.Body; best = body }
    else densest_below (facts_in body).prose (record { chosen = chosen.Body; best = body }) body
