-- One more item.
use Rattle.std.proofs.Common.{◌≡◌, ◌+◌, ◌-◌, ap, ◌∙◌, arith}
use Rattle.htmd_chunks.specs.Measures.{empty_item_size}
use Rattle.htmd_chunks.specs.Sizes.{cost}
use Rattle.htmd_chunks.proofs.MeasuresLemmas.{empties-step}
use Rattle.htmd_chunks.proofs.measures.empties_cost.Goals as goal

pub loop-i-preserved : goal.loop-i-preserved
loop-i-preserved c =
    let m = c.args.margin in
    let l = c.args.list in
    let i = c.loop-i.i in
    let item : c.in_ok-cost.field-0 ≡ cost m (empty_item_size l (c.args.place + i)) =
    c.in_ok-cost.ensures ∙ ap (cost m) c.in_ok-empty_item_size.ensures in
    let more = empties-step m l c.args.place i c.args.count c.loop-i-test.true in
    omega (arith, item, more, c.in_ok-bytes.ensures, c.in_ok-bytes-2.ensures, c.in_ok-gap.ensures, c.loop-i.invariant)
