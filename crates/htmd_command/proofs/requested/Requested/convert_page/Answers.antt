-- The sink stays as it was if the page could not be converted, unless a write failed.
use Rattle.std.proofs.Common.{◌≡◌, ◌∙◌, ap, subst}
use Rattle.htmd.specs.PageSettings.{PageInRun, Settings, page_in, settings_for, settings_in}
use Rattle.htmd_cli.specs.Options.{Request, request_by}
use Rattle.htmd_cli.specs.StreamConversions.{Converts}
use Rattle.htmd_command.proofs.PageResultsLemmas.{ends_converts, ends_untouched}
use Rattle.htmd_command.proofs.requested.Requested.convert_page.Goals as goal

pub returns-in-Ok-default-clause-done : goal.returns-in-Ok-default-clause-done
returns-in-Ok-default-clause-done g c =
    let added : PageInRun = page_in c.args.page.now in
    let by : settings_in c.settings.result.now ≡ (request_by c.args.self.now.options.now).settings =
    c.settings.ensures ∙ ap (λ (r : Request). r.settings) c.args.self.now.is_read in
    let P : Settings → Type 0 = λ s. Converts (settings_for added s) (g.R.Source.remaining c.args.source.now)
    (g.W.Sink.contents c.args.sink.now) (g.W.Sink.contents c.convert_in_run.new.sink) in
    subst P by (ends_converts (settings_for added (settings_in c.settings.result.now))
    (g.R.Source.remaining c.args.source.now) (g.R.Source.remaining c.convert_in_run.new.source) g.W.Sink.contents
    c.args.sink.now c.convert_in_run.new.sink c.convert_in_run.result.0 tt c.convert_in_run.ensures.ends
    c.in-Ok-default.is-0)

pub returns-in-Err-default-clause-nothing : goal.returns-in-Err-default-clause-nothing
returns-in-Err-default-clause-nothing g c =
    ends_untouched (settings_for (page_in c.args.page.now) (settings_in c.settings.result.now))
    (g.R.Source.remaining c.args.source.now) (g.R.Source.remaining c.convert_in_run.new.source) g.W.Sink.contents
    c.args.sink.now c.convert_in_run.new.sink c.convert_in_run.result.0 c.in-Err-default.error
    (g.W.Sink.has_failed c.convert_in_run.new.sink) c.convert_in_run.ensures.ends c.in-Err-default.is-0
    c.convert_in_run.ensures.write_failed
