use Rattle.std.proofs.Common.{arith}
use Rattle.htmd_flow.proofs.GridWidthLemmas.{all-free, some-free}
use Rattle.htmd_flow.proofs.grid.columns_before.Goals as goal

pub returns-then-len-near-clause-value : goal.returns-then-len-near-clause-value
returns-then-len-near-clause-value c =
    all-free c.args.free.now c.args.row c.args.columns c.min.result c.free_len-len.result c.min.ensures
    c.free_len-len.ensures.value c.if-len-near.true

pub returns-else-len-near-clause-value : goal.returns-else-len-near-clause-value
returns-else-len-near-clause-value c =
    some-free c.args.free.now c.args.row c.args.columns c.min.result c.free_len-len.result c.min.ensures
    c.free_len-len.ensures.value (omega (arith, c.if-len-near.false, c.free_len-len.ensures.bound))
