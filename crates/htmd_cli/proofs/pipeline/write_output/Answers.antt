-- Nothing was written, or all, or the sink failed.
use Rattle.std.proofs.Common.{refl, string_bytes}
use Rattle.std.proofs.lemmas.Result.{err_from_is_err_and}
use Rattle.htmd.specs.PageConverters.{settings_of}
use Rattle.htmd.specs.PageSettings.{page_in, settings_for}
use Rattle.htmd_cli.proofs.StreamConversionsLemmas.{ends_well, ends_at_sink, ends_early}
use Rattle.htmd_cli.proofs.pipeline.write_output.Goals as goal

pub returns-in_err-output-clause-ends : goal.returns-in_err-output-clause-ends
returns-in_err-output-clause-ends g c =
    let settings = settings_for (page_in c.args.page.now) (settings_of c.args.converter.now) in
    let p = err_from_is_err_and c.from_residual.result c.from_residual.ensures.1 in
    rw (p.1, p.2) (ends_early (Unit {0}) settings g.W.Sink.contents c.args.sink.now c.args.sink.now
    c.args.input.now c.in_err-output.field-0.0 c.in_err-output.ensures.fault refl)

pub returns-in-Ok-clause-ends : goal.returns-in-Ok-clause-ends
returns-in-Ok-clause-ends g c =
    let settings = settings_for (page_in c.args.page.now) (settings_of c.args.converter.now) in
    ends_well (Unit {0}) settings g.W.Sink.contents c.args.sink.now c.write_text.new.sink tt c.args.input.now
    (string_bytes c.in_ok-output.output) c.as_str.result.now c.ending.result.now c.in_ok-output.ensures.ok
    c.as_str.ensures.value c.ending.ensures c.in-Ok.ensures.bytes

pub returns-clause-ends : goal.returns-clause-ends
returns-clause-ends g c =
    let settings = settings_for (page_in c.args.page.now) (settings_of c.args.converter.now) in
    ends_at_sink (Unit {0}) settings g.W.Sink.contents c.args.sink.now c.write_text.new.sink c.args.input.now
    (string_bytes c.in_ok-output.output) c.in_ok-output.ensures.ok
