-- One more row.
use Rattle.std.proofs.Common.{ℕ, List, map, fold, take, get_or, sym, ap, ◌∙◌}
use Rattle.std.specs.Prelude.{String, Vec}
use Rattle.std.specs.Global.{Global}
use Rattle.std.proofs.lemmas.List.{map_more}
use Rattle.std.proofs.lemmas.List.Sums.{fold_push}
use Rattle.htmd_markdown.specs.Tables.{wider, texts, row_texts}
use Rattle.htmd_markdown.specs.CellBytes.{held_widths}
use Rattle.htmd_markdown.proofs.table.column_widths.Goals as goal

pub loop-row-preserved : goal.loop-row-preserved
loop-row-preserved c =
    let rows = c.args.rows.now in
    let i = c.loop-row.row-index in
    let row = c.row-item.result in
    let first = held_widths (texts c.args.headers.now) in
    let held : Vec (String Global) Global → List ℕ = λ r. held_widths (row_texts r) in
    c.in_ok-widen-2.ensures
    ∙ ap (λ cells. wider c.loop-row.widths.items (held_widths (texts cells))) c.deref.ensures.value
    ∙ ap (λ r. wider c.loop-row.widths.items (held r)) c.row-item.is
    ∙ ap (λ w. wider w (held (get_or rows i row))) c.loop-row.invariant
    ∙ sym (ap (fold wider first) (map_more held rows i row c.loop-row-test.true)
    ∙ fold_push wider first (map held (take i rows)) (held (get_or rows i row)))
