-- The source was converted, or it wasn't.
use Rattle.htmd_cli.specs.Options.{request_by}
use Rattle.htmd_command.specs.PageResults.{request_for_file}
use Rattle.htmd_command.specs.Streams.{stream}
use Rattle.htmd_command.proofs.ProgramsLemmas.{shows_done}
use Rattle.htmd_command.proofs.program.show_opened.Goals as goal

pub returns-in-Ok-clause-shown : goal.returns-in-Ok-clause-shown
returns-in-Ok-clause-shown g c =
    shows_done (request_for_file c.args.input.now (request_by c.args.conversion.now.options.now))
    (g.R.Source.remaining c.args.source.now)
    (stream g.W.Sink.contents g.W.Sink.has_failed c.args.sink.now c.convert_alone.new.sink) c.in-Ok.ensures.done
