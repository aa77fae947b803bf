-- What a page says of its parts: the main part, the body of an article, articles.
use Rattle.std.specs.Prelude.{Bool, false, not, ◌&&◌, if◌then◌else◌, List, [], ◌∷◌, ◌++◌}
use Rattle.htmd_nodes.specs.Items.{Data, document_node, doctype_node, text_node, comment_node, element_node}
use Rattle.htmd_article.specs.declared.facts.Facts.{Facts}
use Rattle.htmd_article.specs.declared.outermost.Landmark.{Landmark}
use Rattle.htmd_article.specs.declared.outermost.Landmark.TheVariants as landmark
use Rattle.htmd_article.specs.Names.{is_unseen}
use Rattle.htmd_article.specs.Sayings.{is_main, is_article, is_article_body}
use Rattle.htmd_article.specs.Facts.{shows}
use Rattle.htmd_article.specs.Parts.{Part, part, Parts, none, more, is_entered}

-- an element that says so, and shows
abbrev pub is_landmark : Landmark → Data → Facts → Bool
is_landmark mark document_node f = false
is_landmark mark doctype_node f = false
is_landmark mark (text_node s) f = false
is_landmark mark (comment_node s) f = false
is_landmark landmark.Main (element_node name attributes) f = is_main name attributes && shows f
is_landmark landmark.ArticleBody (element_node name attributes) f = is_article_body attributes && shows f
is_landmark landmark.Article (element_node name attributes) f = is_article name attributes && not (is_unseen name)

abbrev mutual
  -- those that are in none, in document order
  pub outermost : Landmark → Part → List Part
  outermost mark (part d f ps) =
      if is_landmark mark d f then part d f ps ∷ [] else if is_entered d then all_outermost mark ps else []

  pub all_outermost : Landmark → Parts → List Part
  all_outermost mark none = []
  all_outermost mark (more p ps) = outermost mark p ++ all_outermost mark ps
