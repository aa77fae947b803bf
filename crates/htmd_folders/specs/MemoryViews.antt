-- The changes that a store in memory keeps; only its contracts cite it.
use Rattle.std.specs.Prelude.{◌≡◌, ℕ, false, true, List, ◌∷◌, map, Option, Some, None, string_bytes}
use Rattle.std.specs.Borrow.{Bor}
use Rattle.htmd_files.specs.Paths.{below}
use Rattle.htmd_folders.specs.declared.memory.MemoryStore.{MemoryStore}
use Rattle.htmd_folders.specs.declared.memory.MemoryChange.{MemoryChange}
use Rattle.htmd_folders.specs.declared.memory.MemoryChange.TheVariants as kept
use Rattle.htmd_folders.specs.declared.memory.Held.{Held}
use Rattle.htmd_folders.specs.declared.memory.Held.TheVariants as found
use Rattle.htmd_folders.specs.Changes.{Change, placed, created, moved, removed, obstructed}
use Rattle.htmd_folders.specs.Changes.{Holding, held, nothing, unfinished, whole, obstacle}
use Rattle.htmd_folders.specs.Listings.{is_whole, is_file}

abbrev pub change_in : MemoryChange → Change
change_in (kept.Placed path bytes) = placed (string_bytes path) bytes.items
change_in (kept.Created path) = created (string_bytes path)
change_in (kept.Moved from to bytes) = moved (string_bytes from) (string_bytes to) bytes.items
change_in (kept.Removed path) = removed (string_bytes path)
change_in (kept.Obstructed path) = obstructed (string_bytes path)

abbrev pub held_in : Held → Holding
held_in found.Nothing = nothing
held_in found.Unfinished = unfinished
held_in (found.Whole bytes) = whole bytes.now
held_in found.Obstacle = obstacle

-- what a change leaves under a name: what was there before, or this
abbrev pub Leaves : Change → List ℕ → Option Held → Type 0
Leaves change name None = (past : List Change) → held name (change ∷ past) ≡ held name past
Leaves change name (Some found) = (past : List Change) → held name (change ∷ past) ≡ held_in found

-- the changes that a store keeps
abbrev pub changes_in : MemoryStore → List Change
changes_in store = map change_in store.changes.items

-- the name that a change leaves something or nothing under
abbrev pub name_of : Change → List ℕ
name_of (placed name bytes) = name
name_of (created name) = name
name_of (moved from to bytes) = to
name_of (removed name) = name
name_of (obstructed name) = name

-- the bytes of a whole file
abbrev pub Holds : Holding → Option (Bor (List ℕ)) → Type 0
Holds holding None = is_whole holding ≡ false
Holds holding (Some bytes) = holding ≡ whole bytes.now

-- this is the path of a file of this name below a folder, if it is a whole one and there
abbrev pub IsFileBelow : List Change → List ℕ → List ℕ → Option (Bor (List ℕ)) → Type 0
IsFileBelow past folder name None =
    (path : List ℕ) → name ≡ below folder path → is_file past (below folder path) ≡ false
IsFileBelow past folder name (Some path) =
    (name ≡ below folder path.now) × (is_file past (below folder path.now) ≡ true)
