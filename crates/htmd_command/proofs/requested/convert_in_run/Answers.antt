-- The converter goes by the settings.
use Rattle.std.proofs.Common.{subst}
use Rattle.htmd.specs.PageSettings.{Settings, page_in, settings_for}
use Rattle.htmd_cli.specs.StreamConversions.{Ends}
use Rattle.htmd_command.proofs.requested.convert_in_run.Goals as goal

pub returns-clause-ends : goal.returns-clause-ends
returns-clause-ends g c =
    let P : Settings → Type 0 = λ settings. Ends (settings_for (page_in c.args.page.now) settings)
    (g.R.Source.remaining c.args.source.now) (g.R.Source.remaining c.convert_stream.new.source) g.W.Sink.contents
    c.args.sink.now c.convert_stream.new.sink c.convert_stream.result.0 in
    subst P c.in-Ok-new.ensures.settings c.convert_stream.ensures.ends
