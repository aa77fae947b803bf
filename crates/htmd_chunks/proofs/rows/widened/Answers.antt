-- One more column.
use Rattle.std.proofs.Common.{◌+◌, ◌∷◌, [], drop, max, sym, ap, ◌∙◌}
use Rattle.htmd_chunks.specs.RowViews.{widened}
use Rattle.htmd_chunks.proofs.RowsLemmas.{wider-within, wider-past, column-pushed}
use Rattle.htmd_chunks.proofs.rows.widened.Goals.{then-i-widths, else-i-widths}
use Rattle.htmd_chunks.proofs.rows.widened.Goals as goal

pub loop-i-preserved : goal.loop-i-preserved
loop-i-preserved c =
    let columns = c.args.columns.now in
    let widths = c.args.widths.now in
    let i = c.loop-i.i in
    let old = widened (drop i columns) (drop i widths) in
    let rest = widened (drop (i + 1) columns) (drop (i + 1) widths) in
    column-pushed c.loop-i.wide.items c.push.new.self.items (widened columns widths) c.if-i-widths.push rest old
    c.in_ok-push.ensures.items (elim c.if-i-widths.branch [
      | then-i-widths w ↦
          wider-within columns widths i c.loop-i-test.true w.if-i-widths.true
          ∙ ap (λ v. v ∷ rest) (sym (w.push-is ∙ w.max.ensures))
      | else-i-widths w ↦
          wider-past columns widths i c.loop-i-test.true w.if-i-widths.false ∙ ap (λ v. v ∷ rest) (sym w.push-is)
    ])
    c.loop-i.invariant
