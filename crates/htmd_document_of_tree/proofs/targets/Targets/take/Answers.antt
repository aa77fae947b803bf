use Rattle.std.proofs.Common.{◌≡◌, ◌∙◌, ◌++◌, ◌==◌, [], true, ap, sym, length, arith}
use Rattle.std.proofs.lemmas.Bool.Decides.{nat_tests}
use Rattle.std.proofs.lemmas.List.{append-nil}
use Rattle.htmd_document_of_tree.specs.TargetViews.{counts_of, targets_in}
use Rattle.htmd_document_of_tree.specs.Targets as spec
use Rattle.htmd_document_of_tree.proofs.AnchorsLemmas.{no-items}
use Rattle.htmd_document_of_tree.proofs.TargetsLemmas.{no-target}
use Rattle.htmd_document_of_tree.proofs.targets.Targets.take.Goals as goal

pub returns-then-is_empty-clause-found : goal.returns-then-is_empty-clause-found
returns-then-is_empty-clause-found c =
    let text = c.args.text.now in
    let test : (length text == 0) ≡ true = sym c.is_empty.ensures ∙ c.if-is_empty.true in
    let empty : text ≡ [] = no-items text (grind (arith, nat_tests, test)) in
    sym (append-nil (targets_in c.args.self.now))
    ∙ sym (ap (λ found. targets_in c.args.self.now ++ found)
    (ap (λ s. spec.target_by (counts_of c.args.self.now.leadings) c.args.seen c.args.is_name s) empty
    ∙ no-target (counts_of c.args.self.now.leadings) c.args.seen c.args.is_name))
