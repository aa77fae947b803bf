use Rattle.htmd_shown.specs.SimpleViews.{simples_of}
use Rattle.std.proofs.Common.{arith}
use Rattle.std.proofs.lemmas.Bool.Decides.{nat_tests}
use Rattle.htmd_document_of_tree.proofs.CoversLemmas.{covers_enough}
use Rattle.htmd_document_of_tree.proofs.limits.is_within_texts.Goals as goal

pub returns-in-Some : goal.returns-in-Some
returns-in-Some c = λ is_enough.
    covers_enough (simples_of c.args.trees.now) _ _ c.in-Some.ensures (grind (arith, nat_tests, is_enough))
    c.least_budget.ensures
