-- Nine digits fit.
use Rattle.std.proofs.Common.{◌≡◌, ◌+◌, ◌-◌, get_or, arith}
use Rattle.htmd_commonmark_reader.proofs.MarkersLemmas.{few_beyond, sum_next, digit_here}
use Rattle.htmd_commonmark_reader.proofs.markers.number_of.Goals as goal

pub overflow_mul-sum : goal.overflow_mul-sum
overflow_mul-sum c =
    let i = c.loop-digit.digit-index in
    let most = few_beyond (i + 1) (omega (arith, c.loop-digit-test.true, c.requires.few)) in
    let next = sum_next i c.loop-digit.sum 0 c.loop-digit.invariant.small (omega arith) in
    omega (arith, most, next)

pub overflow_add-sum : goal.overflow_add-sum
overflow_add-sum c =
    let i = c.loop-digit.digit-index in
    let s = c.args.digits.now in
    let most = few_beyond (i + 1) (omega (arith, c.loop-digit-test.true, c.requires.few)) in
    let here = digit_here s i c.requires.digits c.loop-digit-test.true in
    let size : c.from.result ≡ get_or s i 0 - 48 = c.from.ensures in
    let next = sum_next i c.loop-digit.sum c.from.result c.loop-digit.invariant.small (omega (arith, size, here.1)) in
    omega (arith, most, next)
