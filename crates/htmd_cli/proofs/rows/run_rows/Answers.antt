-- Out of memory before the first row.
use Rattle.std.proofs.Common.{subst, sym}
use Rattle.htmd_cli.specs.Rows.{StopsAtRow}
use Rattle.htmd.specs.PageSettings.{settings_in}
use Rattle.htmd_cli.proofs.BatchesLemmas.{nothing_yet}
use Rattle.htmd_cli.proofs.rows.run_rows.Goals as goal

pub returns-in_default-clause-stops : goal.returns-in_default-clause-stops
returns-in_default-clause-stops g c =
    let settings = settings_in c.args.settings.now in
    let source = g.R.Source.remaining c.args.source.now in
    let sink = g.W.Sink.contents c.args.sink.now in
    λ _. subst (λ row. StopsAtRow settings row source sink sink) (sym c.first_row_fault.ensures.row)
    (nothing_yet settings source sink)

pub returns-in_default-new-clause-stops : goal.returns-in_default-new-clause-stops
returns-in_default-new-clause-stops g c =
    let settings = settings_in c.args.settings.now in
    let source = g.R.Source.remaining c.args.source.now in
    let sink = g.W.Sink.contents c.args.sink.now in
    λ _. subst (λ row. StopsAtRow settings row source sink sink)
    (sym c.first_row_fault-in_default-new.ensures.row) (nothing_yet settings source sink)
