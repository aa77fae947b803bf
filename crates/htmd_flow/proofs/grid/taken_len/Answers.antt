use Rattle.std.proofs.Common.{length, sym, arith}
use Rattle.std.specs.Prelude.{nat_lt}
use Rattle.std.proofs.lemmas.Bool.Decides.{nat_tests}
use Rattle.std.proofs.lemmas.List.Sums.{prefix_len_is}
use Rattle.htmd_flow.proofs.grid.taken_len.Goals as goal

pub returns-then-until-row-clause-value : goal.returns-then-until-row-clause-value
returns-then-until-row-clause-value c =
    sym (prefix_len_is (nat_lt c.args.row) c.args.taken.now c.loop-len.len 0 (omega arith) c.loop-len.invariant
    (λ _. grind (arith, nat_tests)))

pub returns-clause-value : goal.returns-clause-value
returns-clause-value c =
    sym (prefix_len_is (nat_lt c.args.row) c.args.taken.now (length c.args.taken.now) 0 (omega arith)
    (λ k lt. c.loop-len.invariant k (omega arith)) (λ lt. absurd (omega arith)))
