-- One more column, and one more row.
use Rattle.std.proofs.Common.{◌≡◌, ◌∷◌, [], ◌++◌, length, get_or, map, max, take, fold, sym, ap, ◌∙◌, arith, rules}
use Rattle.std.proofs.lemmas.List.{map_more, take_all}
use Rattle.std.proofs.lemmas.List.Sums.{fold_push}
use Rattle.htmd_markdown.specs.Tables.{texts, row_texts}
use Rattle.htmd_commonmark.specs.Columns.{width_of}
use Rattle.htmd_commonmark.specs.TableLines.{narrowest, widened}
use Rattle.htmd_commonmark.proofs.TableLinesLemmas.{header_width, header_widths, length_widened, written_back}
use Rattle.htmd_commonmark.proofs.table.TableTexts.widths.Goals as goal

pub loop-cell-preserved : goal.loop-cell-preserved
loop-cell-preserved c =
    let cells = c.args.self.now.header.items in
    let i = c.loop-cell.cell-index in
    let cell = c.cell-item.result in
    let width : c.max.result ≡ header_width (get_or cells i cell) =
    c.max.ensures ∙ ap (max narrowest) (c.width_of.ensures ∙ ap width_of c.deref.ensures)
    ∙ ap header_width (c.cell-item.is ∙ ap (λ l. get_or l i cell) c.deref-cell-items.ensures.value) in
    c.in_ok-push.ensures.items ∙ ap (λ l. l ++ c.max.result ∷ []) c.loop-cell.invariant
    ∙ ap (λ n. map header_width (take i cells) ++ n ∷ []) width
    ∙ sym (map_more header_width cells i cell
    (omega (arith, c.loop-cell-test.true, ap length c.deref-cell-items.ensures.value)))

pub loop-row-init : goal.loop-row-init
loop-row-init c =
    let cells = c.args.self.now.header.items in
    c.loop-cell.invariant
    ∙ ap (map header_width) (take_all c.loop-cell.cell-index cells
    (omega (arith, c.loop-cell-test.false, ap length c.deref-cell-items.ensures.value)))
    ∙ header_widths cells

pub loop-row-preserved : goal.loop-row-preserved
loop-row-preserved c =
    let rows = c.args.self.now.rows.items in
    let i = c.loop-row.row-index in
    let row = c.row-item.result in
    let first = map (λ cell. max narrowest (width_of cell)) (texts c.args.self.now.header.items) in
    let old = c.loop-row.widths.items in
    let size : c.loop-row.widths.len ≡ length old = search rules in
    let widened_is : c.widen.new.widths ≡ widened old (row_texts row) =
    c.widen.ensures ∙ ap (λ l. widened l (texts c.deref-in-loop-row.result.now)) c.deref_mut.ensures.value
    ∙ ap (λ l. widened old (texts l)) c.deref-in-loop-row.ensures.value in
    let at : row_texts row ≡ row_texts (get_or rows i row) =
    ap row_texts (c.row-item.is ∙ ap (λ l. get_or l i row) c.deref-row-items.ensures.value) in
    written_back c.loop-row.widths.len old c.widen.new.widths
    (ap length widened_is ∙ length_widened old (row_texts row)) size
    ∙ widened_is ∙ ap (λ l. widened l (row_texts row)) c.loop-row.invariant
    ∙ ap (widened (fold widened first (map row_texts (take i rows)))) at
    ∙ sym (ap (fold widened first) (map_more row_texts rows i row
    (omega (arith, c.loop-row-test.true, ap length c.deref-row-items.ensures.value)))
    ∙ fold_push widened first (map row_texts (take i rows)) (row_texts (get_or rows i row)))

pub returns : goal.returns
returns c =
    let rows = c.args.self.now.rows.items in
    let first = map (λ cell. max narrowest (width_of cell)) (texts c.args.self.now.header.items) in
    c.loop-row.invariant
    ∙ ap (λ l. fold widened first (map row_texts l)) (take_all c.loop-row.row-index rows
    (omega (arith, c.loop-row-test.false, ap length c.deref-row-items.ensures.value)))
