-- The changes so far don't touch the name.
use Rattle.std.proofs.Common.{◌≡◌, drop, map}
use Rattle.htmd_folders.specs.Changes.{held}
use Rattle.htmd_folders.specs.MemoryViews.{change_in}
use Rattle.htmd_folders.proofs.memory.MemoryStore.held.Given as goal

abbrev pub invariant-loop-change : goal.invariant-loop-change
invariant-loop-change l =
    held l.path (map change_in l.self.changes.items)
    ≡ held l.path (map change_in (drop l.change-index l.self.changes.items))
