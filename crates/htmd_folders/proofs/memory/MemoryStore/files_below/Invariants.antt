-- The files that the changes so far leave below the folder are listed.
use Rattle.std.proofs.Common.{take}
use Rattle.htmd_files.specs.WordViews.{texts_of}
use Rattle.htmd_folders.specs.MemoryViews.{changes_in}
use Rattle.htmd_folders.proofs.ListingsLemmas.{changes_of, Listed}
use Rattle.htmd_folders.proofs.memory.MemoryStore.files_below.Given as goal

abbrev pub invariant-loop-change : goal.invariant-loop-change
invariant-loop-change l =
    Listed (changes_in l.self) l.folder (changes_of (take l.change-index l.self.changes.items)) (texts_of l.files.items)
