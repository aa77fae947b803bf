-- The options aren't taken, the help or the like is shown, or the job is run.
use Rattle.std.proofs.Common.{◌∙◌, refl, ap, sym, subst, List}
use Rattle.std.specs.List.{list_any}
use Rattle.std.specs.declared.alloc.Global.{Global}
use Rattle.std.specs.declared.string.String.{String}
use Rattle.htmd_cli.specs.Options.{Request, are_known, request_by, takes_memory}
use Rattle.htmd_files.specs.WordViews.{job_in}
use Rattle.htmd_command.specs.Programs.{RunsJob}
use Rattle.htmd_command.specs.Streams.{stream}
use Rattle.htmd_command.proofs.ProgramsLemmas.{names_any, nothing_made, run_notice, run_untaken, shows_by}
use Rattle.htmd_command.proofs.program.run_named.Goals as goal

pub returns-in-Err-clause-run : goal.returns-in-Err-clause-run
returns-in-Err-clause-run g c =
    let options = c.as_slice-options.result.now in
    run_untaken (job_in c.args.job.now) c.args.job.now.options.items (g.S.Store.changes c.args.store.now)
    (g.S.Store.changes c.args.store.now) (g.R.Source.remaining c.args.source.now)
    (stream g.W.Sink.contents g.W.Sink.has_failed c.args.sink.now c.args.sink.now)
    (stream g.E.Sink.contents g.E.Sink.has_failed c.args.errors.now c.fail_options.new.errors)
    c.fail_options.result c.in-Err.fault (are_known options) (list_any takes_memory options)
    (names_any c.args.job.now.operands.items c.requires.named) c.in-Err.ensures.fault
    (ap are_known c.as_slice-options.ensures.value) (nothing_made (g.S.Store.changes c.args.store.now)) refl
    c.fail_options.ensures.memory c.fail_options.ensures.other

pub returns-then-shows_notice-clause-run : goal.returns-then-shows_notice-clause-run
returns-then-shows_notice-clause-run g c =
    let options = c.as_slice-options.result.now in
    let output = stream g.W.Sink.contents g.W.Sink.has_failed c.args.sink.now c.command.new.sink in
    let input = g.R.Source.remaining c.args.source.now in
    let errors = stream g.E.Sink.contents g.E.Sink.has_failed c.args.errors.now c.command.new.errors in
    let before = g.S.Store.changes c.args.store.now in
    let P : List (String Global) → Type 0 =
    λ o. RunsJob (job_in c.args.job.now) o before before input output errors c.command.result in
    subst P c.as_slice-options.ensures.value
    (run_notice (job_in c.args.job.now) options before before input output errors c.command.result
    (ap (λ (r : Request). r.shows) (sym c.in-Ok.ensures.ok)
    ∙ (sym c.shows_notice.ensures ∙ c.if-shows_notice.true))
    (nothing_made before)
    (shows_by (request_by options) input output c.command.result c.command.ensures.success
    c.command.ensures.nothing_written c.command.ensures.rows_written)
    c.in-Ok.ensures.known c.command.ensures.unknown)

pub run_job-requires-clause-asked : goal.run_job-requires-clause-asked
run_job-requires-clause-asked g c =
    let value = c.as_slice-options.ensures.value in
    record {
      named = names_any c.args.job.now.operands.items c.requires.named;
      known = ap are_known (sym value) ∙ c.in-Ok.ensures.known;
      converts = ap (λ (o : List (String Global)). (request_by o).shows) (sym value)
          ∙ (ap (λ (r : Request). r.shows) (sym c.in-Ok.ensures.ok)
          ∙ (sym c.shows_notice.ensures ∙ c.if-shows_notice.false));
    }
