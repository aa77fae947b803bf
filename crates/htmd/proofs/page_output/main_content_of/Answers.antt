-- The main content of the tree that the input's text has.
use Rattle.std.proofs.Common.{◌∙◌, ap, subst}
use Rattle.htmd_nodes.specs.NumberedTrees.{value_at}
use Rattle.htmd_article.specs.Articles.{article_of, article_page}
use Rattle.htmd.specs.PageOutputs.{IsTreeBy}
use Rattle.htmd.specs.PageSettings.{settings_in}
use Rattle.htmd.proofs.page_output.main_content_of.Goals as goal

pub returns : goal.returns
returns g c = (
  c.in_ok-page.page,
  subst (λ input. IsTreeBy (settings_in c.args.settings.now) input c.in_ok-page.page)
      (c.deref.ensures.value ∙ c.in_ok-text.ensures.ok.1) c.in_ok-page.ensures.ok,
  c.in_ok-article_of.ensures.chosen ∙ ap (λ page. (article_of (value_at page 0)).chosen) c.in_ok-visible.ensures,
  c.in_ok-article_of.ensures.tree ∙ ap article_page c.in_ok-visible.ensures,
)
