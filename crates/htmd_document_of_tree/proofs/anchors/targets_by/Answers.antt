use Rattle.std.proofs.Common.{◌∙◌, ap, sym}
use Rattle.std.proofs.lemmas.Result.{IfOk-weaker}
use Rattle.htmd_shown.specs.SimpleViews.{simples_of}
use Rattle.htmd_document_of_tree.specs.Anchors as spec
use Rattle.htmd_document_of_tree.proofs.AnchorsLemmas.{all-stay}
use Rattle.htmd_document_of_tree.proofs.anchors.targets_by.Goals as goal

pub returns-in-All : goal.returns-in-All
returns-in-All c =
    let trees = simples_of c.args.trees.now in
    IfOk-weaker c.targets_of.result _ _
    (λ x e. e ∙ (all-stay trees ∙ sym (ap (λ a. spec.targets_by a c.args.is_rich trees) c.in-All.is)))
    c.targets_of.ensures
