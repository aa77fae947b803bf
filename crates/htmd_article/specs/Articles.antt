-- The main content of a page.
use Rattle.std.specs.Prelude.{false, if◌then◌else◌, List, Option, Some, None}
use Rattle.htmd_values.specs.ValueTrees.{ValueTree, document, doctype, text, comment, element, ValueForest}
use Rattle.htmd_nodes.specs.Items.{Item}
use Rattle.htmd_nodes.specs.Layout.{document_items}
use Rattle.htmd_nodes.specs.NumberedTrees.{value_at}
use Rattle.htmd_article.specs.declared.choices.Chosen.{Chosen}
use Rattle.htmd_article.specs.declared.choices.Chosen.TheVariants as chosen
use Rattle.htmd_article.specs.declared.outermost.Landmark.{Landmark}
use Rattle.htmd_article.specs.declared.outermost.Landmark.TheVariants as landmark
use Rattle.htmd_article.specs.Facts.{shows}
use Rattle.htmd_article.specs.Parts.{Part, facts_in, known, first_body}
use Rattle.htmd_article.specs.Frames.{without_frame_in}
use Rattle.htmd_article.specs.Outermost.{outermost}
use Rattle.htmd_article.specs.Choices.{said_by, said_parts, prose_in, large_article}
use Rattle.htmd_article.specs.Density.{Best, densest_of}
use Rattle.htmd_article.specs.TopLinks.{without_top_links}
use Rattle.htmd_article.specs.Writing.{written_part, written_whole, all_written}

-- trees, and the rule that they were chosen by
pub record Article : Type 0 where
  pub chosen : Chosen
  pub content : ValueForest

abbrev pub by_density : Best → Article
by_density b = record { chosen = b.chosen; content = written_whole (without_top_links b.best) }

abbrev pub chosen_by : Landmark → Chosen
chosen_by landmark.Main = chosen.Main
chosen_by landmark.ArticleBody = chosen.ArticleBody
chosen_by landmark.Article = chosen.Article

-- what the page says; density, where it says nothing
abbrev pub by_saying : Part → Option Landmark → Article
by_saying body None = by_density (densest_of body)
by_saying body (Some mark) = record { chosen = chosen_by mark; content = all_written (outermost mark body) }

-- an article instead, if there is one
abbrev pub or_article : Option Part → Article → Article
or_article None said = said
or_article (Some p) said = record { chosen = chosen.Article; content = written_part false p }

-- an article, if it is most of what the page says
abbrev pub by_choice : Part → Option Landmark → Article
by_choice body said =
    or_article (large_article (prose_in (said_parts said body)) (said_parts said body)) (by_saying body said)

abbrev pub chosen_in : Part → Article
chosen_in body = by_choice body (said_by body)

-- of a body without its frame; of the whole, if nothing shows outside of the frame
abbrev pub article_among : Part → Part → Article
article_among whole body =
    if shows (facts_in body) then chosen_in body
    else record { chosen = chosen.Body; content = written_whole whole }

abbrev pub article_in : Part → Article
article_in whole = article_among whole (without_frame_in (Some (facts_in whole).prose) whole)

abbrev pub body_or : ValueTree → Option ValueTree → ValueTree
body_or page (Some body) = body
body_or page None = page

-- the body of a page, or the page if it has none
abbrev pub body_of : ValueTree → ValueTree
body_of (document children) = body_or (document children) (first_body children)
body_of doctype = doctype
body_of (text s) = text s
body_of (comment s) = comment s
body_of (element name attributes children) = element name attributes children

-- the main content of a page
abbrev pub article_of : ValueTree → Article
article_of page = article_in (known false (body_of page))

-- the same as a page of its own
abbrev pub article_page : List Item → List Item
article_page items = document_items (article_of (value_at items 0)).content
