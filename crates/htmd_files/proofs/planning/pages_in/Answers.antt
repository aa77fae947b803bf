-- The pages of an operand after those before, or its fault.
use Rattle.std.proofs.Common.{◌∙◌, drop, map, arith, ◌+◌, List, Result}
use Rattle.std.proofs.lemmas.Result.{err_from_is_err_and}
use Rattle.htmd_files.specs.FilePlans as spec
use Rattle.htmd_files.specs.PlanViews.{destination_of, operand_of, pages_of}
use Rattle.htmd_files.proofs.FilePlansLemmas.{next_operand, after_both, fault_of_pages, refusal_goes}
use Rattle.htmd_files.proofs.planning.pages_in.Goals as goal

pub loop-operand-preserved : goal.loop-operand-preserved
loop-operand-preserved c =
    let rest : Result (List spec.Page) spec.Fault =
    spec.pages_in (destination_of c.args.out)
    (map operand_of (drop (c.loop-operand.operand-index + 1) c.args.operands.now)) in
    after_both (pages_of c.loop-operand.pages.items)
    (spec.pages_of (destination_of c.args.out) (operand_of c.operand-item.result)) rest _ c.in_ok-push_pages.ensures.ok
    ∙ next_operand (destination_of c.args.out) c.args.operands.now c.loop-operand.operand-index c.operand-item.result
    (pages_of c.loop-operand.pages.items) _ (omega arith) c.operand-item.is c.loop-operand.invariant

pub returns-in_err-push_pages-clause-err : goal.returns-in_err-push_pages-clause-err
returns-in_err-push_pages-clause-err c =
    let p = err_from_is_err_and c.from_residual.result c.from_residual.ensures.1 in
    let rest : Result (List spec.Page) spec.Fault =
    spec.pages_in (destination_of c.args.out)
    (map operand_of (drop (c.loop-operand.operand-index + 1) c.args.operands.now)) in
    rw (p.1, p.2)
    (refusal_goes _ _ _ (λ f e. fault_of_pages (pages_of c.loop-operand.pages.items)
    (spec.pages_of (destination_of c.args.out) (operand_of c.operand-item.result)) rest _ f
    (next_operand (destination_of c.args.out) c.args.operands.now c.loop-operand.operand-index c.operand-item.result
    (pages_of c.loop-operand.pages.items) _ (omega arith) c.operand-item.is c.loop-operand.invariant) e)
    c.in_err-push_pages.ensures.err)
