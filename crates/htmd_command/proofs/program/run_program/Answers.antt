-- The words are no job, no file is named, or the job is run.
use Rattle.std.proofs.Common.{◌∙◌, refl, ap, sym}
use Rattle.std.proofs.lemmas.Bool.{eqb-true}
use Rattle.std.proofs.lemmas.List.{nil_from_length}
use Rattle.htmd_cli.specs.Options.{request_by}
use Rattle.htmd_files.specs.WordViews.{job_in, texts_of}
use Rattle.htmd_command.specs.Streams.{stream}
use Rattle.htmd_command.proofs.ProgramsLemmas.{names_none, run_asked, run_stream, shows_by, words_refused}
use Rattle.htmd_command.proofs.program.run_program.Goals as goal

pub returns-in-Err-clause-run : goal.returns-in-Err-clause-run
returns-in-Err-clause-run g c =
    words_refused (texts_of c.args.words.now) (g.S.Store.changes c.args.store.now)
    (g.R.Source.remaining c.args.source.now)
    (stream g.W.Sink.contents g.W.Sink.has_failed c.args.sink.now c.args.sink.now)
    (stream g.E.Sink.contents g.E.Sink.has_failed c.args.errors.now c.fail_words.new.errors) c.fail_words.result
    c.in-Err.fault c.in-Err.ensures.err refl c.fail_words.ensures.memory c.fail_words.ensures.other

pub returns-then-is_empty-clause-run : goal.returns-then-is_empty-clause-run
returns-then-is_empty-clause-run g c =
    let options = c.as_slice.result.now in
    let value = c.as_slice.ensures.value in
    let output = stream g.W.Sink.contents g.W.Sink.has_failed c.args.sink.now c.command.new.sink in
    let input = g.R.Source.remaining c.args.source.now in
    run_stream (texts_of c.args.words.now) (job_in c.in-Ok.job) options (g.S.Store.changes c.args.store.now) input
    output (stream g.E.Sink.contents g.E.Sink.has_failed c.args.errors.now c.command.new.errors) c.command.result
    c.in-Ok.ensures.ok (ap texts_of value) (names_none c.in-Ok.job.operands.items
    (nil_from_length c.in-Ok.job.operands.items (sym c.in-Ok.job.operands.ok.0
    ∙ eqb-true _ _ (sym c.is_empty.ensures ∙ c.if-is_empty.true))))
    (shows_by (request_by options) input output c.command.result c.command.ensures.success
    c.command.ensures.nothing_written c.command.ensures.rows_written)
    c.command.ensures.unknown c.command.ensures.never_converted

pub returns-clause-run : goal.returns-clause-run
returns-clause-run g c =
    run_asked (texts_of c.args.words.now) (job_in c.in-Ok.job) c.in-Ok.job.options.items
    (g.S.Store.changes c.args.store.now) (g.S.Store.changes c.run_named.new.store)
    (g.R.Source.remaining c.args.source.now)
    (stream g.W.Sink.contents g.W.Sink.has_failed c.args.sink.now c.run_named.new.sink)
    (stream g.E.Sink.contents g.E.Sink.has_failed c.args.errors.now c.run_named.new.errors) c.run_named.result
    c.in-Ok.ensures.ok refl c.run_named.ensures.run
