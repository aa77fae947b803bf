-- All was read, or not.
use Rattle.std.proofs.Common.{refl, subst, sym, Err}
use Rattle.htmd.specs.PageConverters.{settings_of}
use Rattle.htmd.specs.PageSettings.{page_in, settings_for}
use Rattle.htmd_cli.specs.declared.faults.StreamError.{StreamError}
use Rattle.htmd_cli.specs.StreamConversions.{Ends}
use Rattle.htmd_cli.proofs.StreamConversionsLemmas.{ends_over, ends_unread}
use Rattle.htmd_cli.proofs.pipeline.convert_stream.Goals as goal

pub returns-in-Ok-clause-ends : goal.returns-in-Ok-clause-ends
returns-in-Ok-clause-ends g c =
    let settings = settings_for (page_in c.args.page.now) (settings_of c.args.converter.now) in
    ends_over settings (g.R.Source.remaining c.args.source.now) (g.R.Source.remaining c.read_all.new.source)
    c.in-Ok.input.items c.as_slice.result.now g.W.Sink.contents c.args.sink.now c.write_output.new.sink
    c.write_output.result c.in-Ok.ensures.bytes c.in-Ok.ensures.end c.as_slice.ensures.value
    c.write_output.ensures.ends

pub returns-in-Err-clause-ends : goal.returns-in-Err-clause-ends
returns-in-Err-clause-ends g c =
    let settings = settings_for (page_in c.args.page.now) (settings_of c.args.converter.now) in
    let P : StreamError → Type 0 = λ error. Ends {T = Unit {0}} settings (g.R.Source.remaining c.args.source.now)
    (g.R.Source.remaining c.read_all.new.source) g.W.Sink.contents c.args.sink.now c.args.sink.now (Err error) in
    subst P (sym c.from.ensures)
    (ends_unread (Unit {0}) settings (g.R.Source.remaining c.args.source.now)
    (g.R.Source.remaining c.read_all.new.source) g.W.Sink.contents c.args.sink.now c.args.sink.now c.in-Err.error
    c.in-Err.ensures.others refl)
