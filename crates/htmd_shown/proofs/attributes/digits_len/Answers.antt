use Rattle.std.proofs.Common.{length, sym, arith}
use Rattle.std.proofs.lemmas.Bool.Decides.{nat_tests}
use Rattle.std.specs.Char.{is_ascii_digit}
use Rattle.std.proofs.lemmas.List.Sums.{prefix_len_is}
use Rattle.htmd_shown.proofs.attributes.digits_len.Goals as goal

pub returns-then-not-is_ascii_digit-clause-value : goal.returns-then-not-is_ascii_digit-clause-value
returns-then-not-is_ascii_digit-clause-value c =
    sym (prefix_len_is (is_ascii_digit) c.args.text.now c.loop-len.len 0 (omega arith) c.loop-len.invariant
    (λ _. grind (arith, nat_tests)))

pub returns-clause-value : goal.returns-clause-value
returns-clause-value c =
    sym (prefix_len_is (is_ascii_digit) c.args.text.now (length c.args.text.now) 0 (omega arith)
    (λ k lt. c.loop-len.invariant k (omega arith)) (λ lt. absurd (omega arith)))
