-- What is left to prove of `leading_len`.
use Rattle.std.proofs.Common.{◌==◌, length, sym, arith}
use Rattle.std.proofs.lemmas.Bool.Decides.{nat_tests}
use Rattle.std.proofs.lemmas.List.Sums.{prefix_len_is}
use Rattle.htmd_text.proofs.repeats.leading_len.Goals as goal

pub returns-then-b-byte-clause-value : goal.returns-then-b-byte-clause-value
returns-then-b-byte-clause-value c =
    sym (prefix_len_is (λ b. b == c.args.byte) c.args.bytes.now c.loop-len.len 0 (omega arith) c.loop-len.invariant
    (λ _. grind (arith, nat_tests)))

pub returns-clause-value : goal.returns-clause-value
returns-clause-value c =
    sym (prefix_len_is (λ b. b == c.args.byte) c.args.bytes.now (length c.args.bytes.now) 0 (omega arith)
    (λ k lt. c.loop-len.invariant k (omega arith)) (λ lt. absurd (omega arith)))
