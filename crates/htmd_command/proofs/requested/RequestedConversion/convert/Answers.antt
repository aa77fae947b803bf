-- Rows as they are, or a page with what the run adds for it.
use Rattle.std.proofs.Common.{◌≡◌, ◌∙◌, ap, sym, List, Option, true, false}
use Rattle.std.proofs.lemmas.Result.{on_ok_weaker}
use Rattle.htmd.specs.PageSettings.{page_in}
use Rattle.htmd_addresses.specs.Leads.{PageValue}
use Rattle.htmd_cli.specs.Options.{Request, request_by}
use Rattle.htmd_command.specs.PageResults.{pages_led, request_for}
use Rattle.htmd_command.proofs.PageResultsLemmas.{page_becomes, rows_alike, rows_become}
use Rattle.htmd_command.proofs.requested.RequestedConversion.convert.Goals as goal

pub returns-then-takes_rows : goal.returns-then-takes_rows
returns-then-takes_rows g c =
    let request : Request = request_by c.args.self.now.options.now in
    let pages : Option (List PageValue) = pages_led c.args.self.now.pages in
    let rows : request.rows ≡ true =
    ap (λ (r : Request). r.rows) (sym c.args.self.now.is_read) ∙ sym c.takes_rows.ensures ∙ c.if-takes_rows.true in
    on_ok_weaker c.convert_rows.result (λ done. rows_become request (request_for pages c.args.page.now request)
    (g.R.Source.remaining c.args.source.now) (g.W.Sink.contents c.args.sink.now)
    (g.W.Sink.contents c.convert_rows.new.sink) (rows_alike pages c.args.page.now request rows) done)
    c.convert_rows.ensures.done

pub returns-in-Ok : goal.returns-in-Ok
returns-in-Ok g c =
    let request : Request = request_by c.args.self.now.options.now in
    let pages : Option (List PageValue) = pages_led c.args.self.now.pages in
    let rows : request.rows ≡ false =
    ap (λ (r : Request). r.rows) (sym c.args.self.now.is_read) ∙ sym c.takes_rows.ensures
    ∙ c.if-takes_rows.false in
    on_ok_weaker c.convert_page.result (λ converts. page_becomes pages c.args.page.now request
    (page_in c.in-Ok.added) (g.R.Source.remaining c.args.source.now) (g.W.Sink.contents c.args.sink.now)
    (g.W.Sink.contents c.convert_page.new.sink) rows c.in-Ok.ensures converts) c.convert_page.ensures.done
