-- There is no plan, its input is shown, or its pages are written.
use Rattle.std.proofs.Common.{◌∙◌, refl, ap, sym, subst, Ok}
use Rattle.htmd_cli.specs.Options.{Request}
use Rattle.htmd_files.specs.FilePlans.{FilePlan, files, standard_output}
use Rattle.htmd_files.specs.Names.{Naming}
use Rattle.htmd_files.specs.NameViews.{naming_of}
use Rattle.htmd_files.specs.PlanViews.{pages_of, plan_in}
use Rattle.htmd_files.specs.WordViews.{job_in}
use Rattle.htmd_folders.specs.FolderConversions.{AreApart}
use Rattle.htmd_folders.specs.PlanViews.{missed_in, HasPagesApart, IsNoPlan}
use Rattle.htmd_folders.specs.Plans.{IsPlanOf}
use Rattle.htmd_command.specs.Programs.{naming, naming_by}
use Rattle.htmd_command.specs.Streams.{stream}
use Rattle.htmd_command.proofs.ProgramsLemmas.{are_finished, made_then, run_refused, run_shown, run_written}
use Rattle.htmd_command.proofs.program.run_job.Goals as goal

pub returns-in-Err-clause-run : goal.returns-in-Err-clause-run
returns-in-Err-clause-run g c =
    let named = c.naming.ensures ∙ ap (λ (r : Request). naming r.settings) c.requires.request in
    let N : Naming → Type 0 =
    λ e. IsNoPlan (g.S.Store.changes c.args.store.now) (job_in c.args.of.now.job.now) e c.in-Err.fault in
    run_refused (job_in c.args.of.now.job.now) c.args.of.now.job.now.options.items (g.S.Store.changes c.args.store.now)
    (g.S.Store.changes c.fail_plan.new.store) (g.R.Source.remaining c.args.source.now)
    (stream g.W.Sink.contents g.W.Sink.has_failed c.args.sink.now c.args.sink.now)
    (stream g.E.Sink.contents g.E.Sink.has_failed c.args.errors.now c.fail_plan.new.errors) c.fail_plan.result
    c.in-Err.fault c.requires.asked (subst N named c.in-Err.ensures.err)
    (made_then _ _ _ c.find_plan.ensures.same c.fail_plan.ensures.same) refl
    c.fail_plan.ensures.memory c.fail_plan.ensures.other

pub returns-in-StandardOutput-clause-run : goal.returns-in-StandardOutput-clause-run
returns-in-StandardOutput-clause-run g c =
    let before = g.S.Store.changes c.args.store.now in
    let asked = job_in c.args.of.now.job.now in
    let missed = missed_in c.in-Ok.found.1.items in
    let named = c.naming.ensures ∙ ap (λ (r : Request). naming r.settings) c.requires.request in
    let N : Naming → Type 0 = λ e. IsPlanOf before asked e missed (Ok (plan_in c.in-Ok.found.0)) in
    let P : FilePlan → Type 0 =
    λ planned. IsPlanOf before asked (naming_by c.args.of.now.job.now.options.items) missed (Ok planned) in
    run_shown asked c.args.of.now.job.now.options.items before (g.S.Store.changes c.show_input.new.store)
    (g.R.Source.remaining c.args.source.now)
    (stream g.W.Sink.contents g.W.Sink.has_failed c.args.sink.now c.show_input.new.sink)
    (stream g.E.Sink.contents g.E.Sink.has_failed c.args.errors.now c.show_input.new.errors) c.show_input.result
    (g.S.Store.changes c.find_plan.new.store) c.as_str.result.now missed c.requires.asked
    (subst P (ap plan_in c.in-StandardOutput.is ∙ ap standard_output (sym c.as_str.ensures.value))
    (subst N named c.in-Ok.ensures.ok))
    c.find_plan.ensures.same c.show_input.ensures.same c.show_input.ensures.shown

pub returns-clause-run : goal.returns-clause-run
returns-clause-run g c =
    let before = g.S.Store.changes c.args.store.now in
    let asked = job_in c.args.of.now.job.now in
    let named = c.naming.ensures ∙ ap (λ (r : Request). naming r.settings) c.requires.request in
    let by = naming_by c.args.of.now.job.now.options.items in
    let N : Naming → Type 0 =
    λ e. IsPlanOf before asked e (missed_in c.in-Ok.found.1.items) (Ok (plan_in c.in-Ok.found.0)) in
    let P : FilePlan → Type 0 =
    λ planned. IsPlanOf before asked by (missed_in c.as_slice-in-Files.result.now) (Ok planned) in
    run_written asked c.args.of.now.job.now.options.items before (g.S.Store.changes c.write_pages.new.store)
    (g.R.Source.remaining c.args.source.now)
    (stream g.W.Sink.contents g.W.Sink.has_failed c.args.sink.now c.args.sink.now)
    (stream g.E.Sink.contents g.E.Sink.has_failed c.args.errors.now c.write_pages.new.errors) c.write_pages.result
    (g.S.Store.changes c.find_plan.new.store) c.as_slice.result.now (missed_in c.as_slice-in-Files.result.now)
    c.requires.asked
    (subst P (ap plan_in c.in-Files.is ∙ ap (λ items. files (pages_of items)) (sym c.as_slice.ensures.value))
    (subst (λ items. IsPlanOf before asked by (missed_in items) (Ok (plan_in c.in-Ok.found.0)))
    (sym c.as_slice-in-Files.ensures.value) (subst N named c.in-Ok.ensures.ok)))
    c.find_plan.ensures.same refl c.write_pages.ensures.written

pub write_pages-requires-clause-apart : goal.write_pages-requires-clause-apart
write_pages-requires-clause-apart g c =
    let named = c.naming.ensures ∙ ap (λ (r : Request). naming r.settings) c.requires.request in
    subst AreApart (sym c.as_slice.ensures.value) (subst HasPagesApart c.in-Files.is
    (c.in-Ok.ensures.apart (are_finished (naming_of c.naming.result) c.args.of.now.job.now.options.items named)))
