use Rattle.htmd_law_settled.proofs.RoundLemmas.{texts}
use Rattle.htmd_law_settled.proofs.rounds.document_of_page.Goals as goal

pub returns-clause-texts : goal.returns-clause-texts
returns-clause-texts c =
    texts c.of_tree.result c.args.scripting c.args.page.now _ c.root-root.ensures.texts c.in_ok-tree.ensures.ok
