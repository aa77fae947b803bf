-- What is left to prove of `digits`.
use Rattle.std.proofs.Common.{arith}
use Rattle.htmd_text.proofs.DigitsLemmas.{digits_more, digits_one, digits_le}
use Rattle.htmd_text.proofs.numbers.digits.Goals as goal

pub overflow_add-digits : goal.overflow_add-digits
overflow_add-digits c = omega (arith, c.loop-rest.invariant, digits_le c.args.number (omega arith))

pub loop-rest-preserved : goal.loop-rest-preserved
loop-rest-preserved c = omega (arith, c.loop-rest.invariant, digits_more c.loop-rest.rest (omega arith))

pub returns : goal.returns
returns c = omega (arith, c.loop-rest.invariant, digits_one c.loop-rest.rest (omega arith))
