-- None of the changes so far leaves a file below the folder.
use Rattle.std.proofs.Common.{take}
use Rattle.htmd_folders.specs.MemoryViews.{changes_in}
use Rattle.htmd_folders.proofs.ListingsLemmas.{changes_of, HasNone}
use Rattle.htmd_folders.proofs.memory.MemoryStore.has_below.Given as goal

abbrev pub invariant-loop-change : goal.invariant-loop-change
invariant-loop-change l = HasNone (changes_in l.self) l.folder (changes_of (take l.change-index l.self.changes.items))
