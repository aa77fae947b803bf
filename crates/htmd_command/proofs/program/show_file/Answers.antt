-- The file was opened, or there is none.
use Rattle.std.proofs.Common.{refl, inl}
use Rattle.htmd_cli.specs.Options.{request_by}
use Rattle.htmd_command.specs.Streams.{stream}
use Rattle.htmd_command.proofs.ProgramsLemmas.{shows_missing}
use Rattle.htmd_command.proofs.program.show_file.Goals as goal

pub returns-in-Ok-clause-shown : goal.returns-in-Ok-clause-shown
returns-in-Ok-clause-shown g c =
    inl (inl (
      g.S.Reader.Source.remaining c.in-Ok.reader,
      c.in-Ok.ensures.bytes,
      c.show_opened.ensures.shown,
      c.show_opened.ensures.status,
    ))

pub returns-in-Err-clause-shown : goal.returns-in-Err-clause-shown
returns-in-Err-clause-shown g c =
    shows_missing (request_by c.args.conversion.now.options.now) (g.S.Store.changes c.args.store.now)
    c.args.input.now (stream g.W.Sink.contents g.W.Sink.has_failed c.args.sink.now c.args.sink.now)
    (stream g.E.Sink.contents g.E.Sink.has_failed c.args.errors.now c.fail_open.new.errors) c.fail_open.result _
    c.in-Err.ensures.missing refl c.fail_open.ensures.memory c.fail_open.ensures.status
