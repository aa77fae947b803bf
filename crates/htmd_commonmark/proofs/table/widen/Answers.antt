-- One more cell.
use Rattle.std.proofs.Common.{◌≡◌, [], length, get_or, set, max, refl, sym, ap, ◌∙◌, arith, string_bytes}
use Rattle.std.proofs.lemmas.List.{length-map, get_or-map, take_all}
use Rattle.htmd_markdown.specs.Tables.{texts}
use Rattle.htmd_commonmark.specs.Columns.{width_of}
use Rattle.htmd_commonmark.specs.TableLines.{widened}
use Rattle.htmd_commonmark.proofs.TableLinesLemmas.{widened_start, widened_set, widened_past}
use Rattle.htmd_commonmark.proofs.table.widen.Goals as goal
use Rattle.htmd_commonmark.proofs.table.widen.Goals.{then-i-widths, else-i-widths}

pub loop-i-init : goal.loop-i-init
loop-i-init c = record { length = refl; widened = widened_start c.args.widths.now }

pub loop-i-preserved : goal.loop-i-preserved
loop-i-preserved c =
    let cells = c.args.cells.now in
    let words = texts cells in
    let old = c.args.widths.now in
    let ws = c.loop-i.widths in
    let i = c.loop-i.i in
    let size : length words ≡ length cells = length-map cells (λ s. string_bytes s) in
    let was = c.loop-i.invariant.widened in
    record {
      length = c.if-i-widths.auto.widths ∙ c.loop-i.invariant.length;
      widened =
          elim c.if-i-widths.branch [
            | then-i-widths w ↦
                let cell : w.width_of.result ≡ width_of (get_or words i []) =
                w.width_of.ensures
                ∙ ap width_of (w.deref.ensures ∙ ap (λ s. string_bytes s) c.index-cells-i.is
                ∙ sym (get_or-map (λ s. string_bytes s) cells i c.index-cells-i.result [] c.loop-i-test.true)) in
                w.widths-is ∙ ap (set ws i) (w.max.ensures ∙ ap (max (get_or ws i 0)) cell)
                ∙ ap (λ l. set l i (max (get_or l i 0) (width_of (get_or words i [])))) was
                ∙ sym (widened_set old words i (omega (arith, w.if-i-widths.true, c.loop-i.invariant.length))
                (omega (arith, size, c.loop-i-test.true)))
            | else-i-widths w ↦
                w.widths-is ∙ was
                ∙ sym (widened_past old words i (omega (arith, w.if-i-widths.false, c.loop-i.invariant.length)))
          ];
    }

pub returns : goal.returns
returns c =
    let cells = c.args.cells.now in
    let size : length (texts cells) ≡ length cells = length-map cells (λ s. string_bytes s) in
    c.loop-i.invariant.widened
    ∙ ap (widened c.args.widths.now) (take_all c.loop-i.i (texts cells) (omega (arith, size)))
