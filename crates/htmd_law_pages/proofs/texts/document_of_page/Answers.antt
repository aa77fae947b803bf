use Rattle.htmd_shown.specs.SightViews.{sight_with}
use Rattle.htmd_law_pages.specs.PageTexts.{CountsLetters, KeepsOrder, HasAllText}
use Rattle.htmd_law_pages.proofs.MadeDocuments.{made}
use Rattle.htmd_law_pages.proofs.PageLaws as laws
use Rattle.htmd_law_pages.proofs.texts.document_of_page.Goals as goal

pub returns-clause-letters : goal.returns-clause-letters
returns-clause-letters c =
    made c.args.anchors CountsLetters (laws.page_text_is_written c.args.anchors)
    (sight_with c.args.scripting c.args.skip.now c.args.rich) c.args.page.now _
    c.of_tree.result c.utf8.page c.root-root.ensures.texts c.in_ok-tree.ensures.ok c.of_tree.ensures.ok

pub returns-clause-order : goal.returns-clause-order
returns-clause-order c =
    made c.args.anchors KeepsOrder (laws.page_text_stands_in_order c.args.anchors)
    (sight_with c.args.scripting c.args.skip.now c.args.rich) c.args.page.now _
    c.of_tree.result c.utf8.page c.root-root.ensures.texts c.in_ok-tree.ensures.ok c.of_tree.ensures.ok

pub returns-clause-all : goal.returns-clause-all
returns-clause-all c =
    made c.args.anchors HasAllText (laws.all_text_is_written c.args.anchors)
    (sight_with c.args.scripting c.args.skip.now c.args.rich) c.args.page.now _
    c.of_tree.result c.utf8.page c.root-root.ensures.texts c.in_ok-tree.ensures.ok c.of_tree.ensures.ok
