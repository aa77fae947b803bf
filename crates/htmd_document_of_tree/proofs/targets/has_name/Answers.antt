use Rattle.std.proofs.Common.{◌<◌, ◌∙◌, ◌||◌, ap, get_or, length, sym}
use Rattle.std.proofs.lemmas.List.{take_all}
use Rattle.std.proofs.lemmas.List.Folds.{list_any_at, list_any_more}
use Rattle.std.specs.List.{list_any}
use Rattle.htmd_document_of_tree.specs.TargetViews.{is_name}
use Rattle.htmd_document_of_tree.proofs.targets.has_name.Goals as goal

pub loop-target-preserved : goal.loop-target-preserved
loop-target-preserved c =
    let found = c.args.found.now in
    let i = c.loop-target.target-index in
    let h : i < length found = c.loop-target-test.true in
    list_any_more is_name found i c.target-item.result h
    ∙ (ap (λ b. b || is_name (get_or found i c.target-item.result)) c.loop-target.invariant
    ∙ (ap is_name (sym c.target-item.is) ∙ c.if-target.false))

pub returns-then-target : goal.returns-then-target
returns-then-target c =
    let h : c.loop-target.target-index < length c.args.found.now = c.loop-target-test.true in
    sym (list_any_at is_name c.args.found.now c.loop-target.target-index c.target-item.result h
    (ap is_name (sym c.target-item.is) ∙ c.if-target.true))

pub returns : goal.returns
returns c =
    sym c.loop-target.invariant
    ∙ ap (list_any is_name) (take_all c.loop-target.target-index c.args.found.now c.loop-target-test.false)
