-- One more column.
use Rattle.std.proofs.Common.{get_or, take, ap, arith}
use Rattle.std.proofs.lemmas.List.{take_more}
use Rattle.htmd_commonmark.specs.TableLines.{line_width}
use Rattle.htmd_commonmark.proofs.TableLinesLemmas.{line_width_more}
use Rattle.htmd_commonmark.proofs.table.line_width.Goals as goal

pub loop-width-preserved : goal.loop-width-preserved
loop-width-preserved c =
    let ws = c.args.widths.now in
    let i = c.loop-width.width-index in
    let more = take_more ws i 0 c.loop-width-test.true in
    omega (
      arith,
      c.saturating_add.ensures,
      c.saturating_add-len.ensures,
      c.loop-width.invariant,
      ap line_width more,
      line_width_more (take i ws) (get_or ws i 0),
    )
