-- The rows before the one at which the run ended, or all.
use Rattle.htmd.specs.PageSettings.{settings_in}
use Rattle.htmd_cli.proofs.FailuresLemmas.{answers_some}
use Rattle.htmd_cli.proofs.program.run_request.Goals as goal

pub returns-then-rows-clause-rows_written : goal.returns-then-rows-clause-rows_written
returns-then-rows-clause-rows_written g c =
    λ _ _ written. answers_some (settings_in c.args.request.settings) (g.R.Source.remaining c.args.source.now)
    (g.W.Sink.contents c.args.sink.now) (g.W.Sink.contents c.run_rows.new.sink)
    (g.W.Sink.has_failed c.run_rows.new.sink) c.run_rows.result c.run_rows.ensures.ok c.run_rows.ensures.stops
    c.run_rows.ensures.write_failed written
