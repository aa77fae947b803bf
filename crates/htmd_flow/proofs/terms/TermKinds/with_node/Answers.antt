use Rattle.htmd_flow.proofs.TermsLemmas.{one_kind}
use Rattle.htmd_flow.proofs.terms.TermKinds.with_node.Goals as goal

pub returns : goal.returns
returns c =
    one_kind c.args.self c.args.node.now c.is_term.result c.is_meaning.result c.is_term.ensures c.is_meaning.ensures
