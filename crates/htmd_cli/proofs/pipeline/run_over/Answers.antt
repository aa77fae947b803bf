-- A page by itself is converted by the settings.
use Rattle.std.proofs.Common.{◌∙◌, subst}
use Rattle.htmd.specs.PageConverters.{settings_of}
use Rattle.htmd.specs.PageSettings.{Settings, page_in}
use Rattle.htmd.proofs.PageOutputsLemmas.{alone_adds_nothing}
use Rattle.htmd_cli.specs.StreamConversions.{Ends}
use Rattle.htmd_cli.proofs.pipeline.run_over.Goals as goal

pub returns-clause-ends : goal.returns-clause-ends
returns-clause-ends g c =
    let converter = c.in-Ok-new.converter in
    let P : Settings → Type 0 = λ settings. Ends settings (g.R.Source.remaining c.args.source.now)
    (g.R.Source.remaining c.convert_stream.new.source) g.W.Sink.contents c.args.sink.now c.convert_stream.new.sink
    c.convert_stream.result.0 in
    subst P (alone_adds_nothing (page_in c.alone.result) (settings_of converter) c.alone.ensures
    ∙ c.in-Ok-new.ensures.settings) c.convert_stream.ensures.ends
