use Rattle.std.proofs.Common.{arith}
use Rattle.htmd_shown.specs.SimpleViews.{simples_of}
use Rattle.htmd_document_of_tree.proofs.TextBytesLemmas.{least}
use Rattle.htmd_document_of_tree.proofs.limits.least_budget.Goals as goal

pub returns : goal.returns
returns c = least (simples_of c.args.trees.now) _ (omega (arith, c.text_bytes.ensures))
