use Rattle.htmd_law_trees.proofs.ParameterLaw.{more_rules, more_rules_documents}
use Rattle.htmd_law_trees.proofs.grammar.more_rules_read_more.Goals as goal

pub returns : goal.returns
returns c = record { in_context = more_rules; document = more_rules_documents }
