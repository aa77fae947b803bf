use Rattle.std.proofs.Common.{◌<◌, length, arith}
use Rattle.std.proofs.lemmas.Bool.Decides.{nat_tests}
use Rattle.htmd_chunks.proofs.LeastLemmas.{at_filled}
use Rattle.htmd_chunks.proofs.least.empties_before.Goals as goal

pub returns-then-not-is_empty-clause-value : goal.returns-then-not-is_empty-clause-value
returns-then-not-is_empty-clause-value c =
    let v = c.index-items-i.result in
    let some : 0 < length v.items = grind (arith, nat_tests, v.ok.0, c.if-not-is_empty.ensures) in
    let none = at_filled c.args.items.now c.loop-i.i v c.loop-i-test.true c.index-items-i.is some in
    let all = c.loop-i.invariant in
    omega (arith, none, all)
