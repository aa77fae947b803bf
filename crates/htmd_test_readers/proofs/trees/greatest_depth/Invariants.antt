-- What the loop of `greatest_depth` keeps.
use Rattle.std.proofs.Common.{◌<◌, length, IsTrue}
use Rattle.htmd_nodes.specs.Items.{data_at, holds_children}
use Rattle.htmd_test_readers.proofs.trees.greatest_depth.Given as goal

-- the last node is there, and takes a child
abbrev pub invariant-loop : goal.invariant-loop
invariant-loop l = (l.last < length l.tree) × IsTrue (holds_children (data_at l.tree l.last))
