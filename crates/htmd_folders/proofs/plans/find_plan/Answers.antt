-- The plan is made for what was found, or there is none.
use Rattle.std.proofs.Common.{ap, map, refl, subst, option_map, List, Option}
use Rattle.htmd_files.specs.FilePlans.{Destination, Page, plan}
use Rattle.htmd_files.specs.NameViews.{naming_of}
use Rattle.htmd_files.specs.PlanViews.{destination_of, operand_of, plan_in}
use Rattle.htmd_files.specs.Promises.{AreNamed, pages_in}
use Rattle.htmd_files.specs.WordViews.{job_in, text_of}
use Rattle.htmd_folders.specs.PlanViews.{missed_in}
use Rattle.htmd_folders.proofs.PlansLemmas.{lists_if, no_plan, plan_apart, plan_found}
use Rattle.htmd_folders.proofs.plans.find_plan.Goals as goal

pub returns-in-Ok-clause-ok : goal.returns-in-Ok-clause-ok
returns-in-Ok-clause-ok g c =
    plan_found (g.S.Store.changes c.args.store.now) (g.S.Store.changes c.find_operands.new.store)
    (job_in c.args.job.now) (naming_of c.args.naming) c.is_some.result (map text_of c.deref.result.now)
    c.in_ok-operands.field-0.operands.items c.deref-2.result.now
    (missed_in c.in_ok-operands.field-0.missed.items)
    (option_map destination_of c.find_destination-destination.result) _ c.find_operands.ensures.same
    c.deref-2.ensures.value (ap (map text_of) c.deref.ensures.value)
    (lists_if c.args.job.now.output c.is_some.result c.is_some.ensures) c.in_ok-operands.ensures.names
    c.in_ok-operands.ensures.found c.find_destination-destination.ensures.place c.in-Ok.ensures.ok

pub returns-in-Ok-clause-apart : goal.returns-in-Ok-clause-apart
returns-in-Ok-clause-apart g c finished =
    let place = c.find_destination-destination.ensures.place in
    let pages : List Page = pages_in (plan_in c.in-Ok.plan) in
    plan_apart (job_in c.args.job.now) (naming_of c.args.naming) place.0 (job_in c.args.job.now).output c.in-Ok.plan
    finished
    c.in-Ok.ensures.apart c.in-Ok.ensures.inputs
    (subst (λ (o : Option Destination). AreNamed o pages) place.2 c.in-Ok.ensures.named)

pub returns-clause-err : goal.returns-clause-err
returns-clause-err g c =
    no_plan (g.S.Store.changes c.args.store.now) (job_in c.args.job.now) (naming_of c.args.naming)
    (missed_in c.in_ok-operands.field-0.missed.items)
    (plan (map operand_of c.deref-2.result.now) (option_map destination_of c.find_destination-destination.result))
    c.in-Err.fault
    (plan_found (g.S.Store.changes c.args.store.now) (g.S.Store.changes c.find_operands.new.store)
    (job_in c.args.job.now) (naming_of c.args.naming) c.is_some.result (map text_of c.deref.result.now)
    c.in_ok-operands.field-0.operands.items c.deref-2.result.now
    (missed_in c.in_ok-operands.field-0.missed.items)
    (option_map destination_of c.find_destination-destination.result) _ c.find_operands.ensures.same
    c.deref-2.ensures.value (ap (map text_of) c.deref.ensures.value)
    (lists_if c.args.job.now.output c.is_some.result c.is_some.ensures) c.in_ok-operands.ensures.names
    c.in_ok-operands.ensures.found c.find_destination-destination.ensures.place refl)
    c.in-Err.ensures.err
