-- What is left to prove of `number`.
use Rattle.std.proofs.Common.{◌≡◌, ◌+◌, ◌*◌, ◌∙◌, min, get_or, ap, arith}
use Rattle.htmd_lexical.specs.Numbers.{digit_value}
use Rattle.htmd_lexical.proofs.NumbersLemmas.{number_more}
use Rattle.htmd_scanning.proofs.numbers.number.Goals as goal

pub loop-digit-preserved : goal.loop-digit-preserved
loop-digit-preserved c =
    let value : c.from.result ≡ digit_value (get_or c.args.digits.now c.loop-digit.digit-index 0) =
    c.from.ensures ∙ c.digit_value.ensures.value in
    let next = c.min-sum.ensures ∙ ap (λ d. min 0x11_0000 (c.args.base * c.loop-digit.sum + d)) value in
    let more = number_more c.args.base c.loop-digit.sum c.min-sum.result c.loop-digit.digit-index c.args.digits.now
    c.requires.base (omega arith) next in
    record { small = omega (arith, c.min-sum.ensures); capped = more ∙ c.loop-digit.invariant.capped }
