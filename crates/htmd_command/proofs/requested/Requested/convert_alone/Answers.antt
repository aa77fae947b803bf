-- All rows were answered or some, or the page was converted or not.
use Rattle.std.proofs.Common.{◌≡◌, ◌∙◌, ap, sym, false, true, Some}
use Rattle.std.proofs.lemmas.Result.{on_err_weaker, on_ok_weaker}
use Rattle.htmd.specs.PageSettings.{PageInRun}
use Rattle.htmd_cli.specs.Options.{Request, request_by}
use Rattle.htmd_command.proofs.PageResultsLemmas.{file_answers, file_rows, file_succeeds}
use Rattle.htmd_command.proofs.requested.Requested.convert_alone.Goals as goal

pub returns-then-takes_rows-clause-done : goal.returns-then-takes_rows-clause-done
returns-then-takes_rows-clause-done g c =
    let request : Request = request_by c.args.self.now.options.now in
    let rows : request.rows ≡ true =
    ap (λ (r : Request). r.rows) (sym c.args.self.now.is_read) ∙ sym c.takes_rows.ensures ∙ c.if-takes_rows.true in
    on_ok_weaker c.convert_rows.result (λ done. file_rows c.args.name.now request
    (g.R.Source.remaining c.args.source.now) (g.W.Sink.contents c.args.sink.now)
    (g.W.Sink.contents c.convert_rows.new.sink) rows done) c.convert_rows.ensures.done

pub returns-then-takes_rows-clause-rows : goal.returns-then-takes_rows-clause-rows
returns-then-takes_rows-clause-rows g c =
    let request : Request = request_by c.args.self.now.options.now in
    on_err_weaker c.convert_rows.result (λ some rows kept. file_answers c.args.name.now request
    (g.R.Source.remaining c.args.source.now) (g.W.Sink.contents c.args.sink.now)
    (g.W.Sink.contents c.convert_rows.new.sink) rows (some kept)) c.convert_rows.ensures.some

pub returns-clause-done : goal.returns-clause-done
returns-clause-done g c =
    let request : Request = request_by c.args.self.now.options.now in
    let input = g.R.Source.remaining c.args.source.now in
    let before = g.W.Sink.contents c.args.sink.now in
    let after = g.W.Sink.contents c.convert_page.new.sink in
    let rows : request.rows ≡ false =
    ap (λ (r : Request). r.rows) (sym c.args.self.now.is_read) ∙ sym c.takes_rows.ensures
    ∙ c.if-takes_rows.false in
    let page = ap (λ (p : PageInRun). record p { name = Some c.args.name.now }) c.alone.ensures in
    on_ok_weaker c.convert_page.result (λ converts. file_succeeds c.args.name.now request _ input before after rows
    page converts) c.convert_page.ensures.done
