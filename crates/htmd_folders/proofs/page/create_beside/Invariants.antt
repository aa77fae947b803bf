-- Nothing was changed so far.
use Rattle.std.proofs.Common.{[]}
use Rattle.htmd_folders.specs.Changes.{Makes}
use Rattle.htmd_folders.proofs.page.create_beside.Given as goal

abbrev pub invariant-loop-number : goal.invariant-loop-number
invariant-loop-number g l = Makes (g.S.Store.changes l.initial.store) (g.S.Store.changes l.store) []
