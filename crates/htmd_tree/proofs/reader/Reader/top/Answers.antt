-- What is left to prove of `top`.
use Rattle.std.proofs.Common.{arith}
use Rattle.htmd_tree.proofs.OpenNodesLemmas.{some_open}
use Rattle.htmd_tree.proofs.reader.Reader.top.Goals as goal

pub overflow_sub-len : goal.overflow_sub-len
overflow_sub-len c = omega (arith, some_open c.args.self.now c.requires.reading)

pub index-requires : goal.index-requires
index-requires c = omega (arith, some_open c.args.self.now c.requires.reading)
