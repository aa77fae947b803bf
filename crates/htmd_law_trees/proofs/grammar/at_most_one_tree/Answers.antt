use Rattle.htmd_grammar.proofs.Uniqueness.{unique_in, unique_document}
use Rattle.htmd_law_trees.proofs.grammar.at_most_one_tree.Goals as goal

pub returns : goal.returns
returns c = record { document = unique_document; in_context = unique_in }
