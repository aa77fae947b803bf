-- The tree of any page.
use Rattle.std.proofs.Common.{◌∙◌, sym}
use Rattle.htmd.specs.PageSettings.{is_any_page, settings_in}
use Rattle.htmd.proofs.PageOutputsLemmas.{match_true, match_false}
use Rattle.htmd.proofs.page_output.tree_by.Goals as goal

pub returns-then-is_any_page-clause-ok : goal.returns-then-is_any_page-clause-ok
returns-then-is_any_page-clause-ok g c =
    match_false _ _ (settings_in c.args.settings.now).text c.if-settings.false
    (match_true _ _ (is_any_page (settings_in c.args.settings.now))
    (sym c.is_any_page.ensures ∙ c.if-is_any_page.true) (record {
      is_document = c.in_ok-page.ensures.ok;
      is_tree = c.root-root.ensures.tree;
      holds_texts = c.root-root.ensures.texts;
    }))
