-- Nothing was changed so far.
use Rattle.std.proofs.Common.{◌≡◌}
use Rattle.htmd_folders.proofs.run.protect_inputs.Given as goal

abbrev pub invariant-loop-page : goal.invariant-loop-page
invariant-loop-page g l = g.S.Store.changes l.store ≡ g.S.Store.changes l.initial.store
