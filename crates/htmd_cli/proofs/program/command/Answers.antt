-- Before the first row nothing is written.
use Rattle.htmd_cli.specs.Options.{request_by}
use Rattle.htmd_cli.proofs.BatchesLemmas.{nothing_yet}
use Rattle.htmd_cli.proofs.program.command.Goals as goal

pub returns-in-Err-clause-rows_written : goal.returns-in-Err-clause-rows_written
returns-in-Err-clause-rows_written g c =
    λ _ _ _. (
      1,
      nothing_yet (request_by c.args.options.now).settings (g.R.Source.remaining c.args.source.now)
          (g.W.Sink.contents c.args.sink.now),
    )

pub returns-in-Err-Memory-clause-rows_written : goal.returns-in-Err-Memory-clause-rows_written
returns-in-Err-Memory-clause-rows_written g c =
    λ _ _ _. (
      1,
      nothing_yet (request_by c.args.options.now).settings (g.R.Source.remaining c.args.source.now)
          (g.W.Sink.contents c.args.sink.now),
    )
