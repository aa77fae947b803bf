-- What a store has under a name, by the changes that were made to it: a file, or a folder with files below it.
use Rattle.std.specs.Prelude.{◌≡◌, ◌↔◌, ℕ, suc, Bool, true, false, if◌then◌else◌, List, [], ◌∷◌, Option, IfSome}
use Rattle.std.specs.Prelude.{Result, Ok}
use Rattle.std.specs.Str.{bytes_eq}
use Rattle.htmd_files.specs.Paths.{below}
use Rattle.htmd_folders.specs.declared.faults.StoreFault.{StoreFault}
use Rattle.htmd_folders.specs.Changes.{Change, Holding, nothing, unfinished, whole, obstacle, held}

abbrev pub is_whole : Holding → Bool
is_whole nothing = false
is_whole unfinished = false
is_whole (whole bytes) = true
is_whole obstacle = false

-- a file that is finished is under this name
abbrev pub is_file : List Change → List ℕ → Bool
is_file past name = is_whole (held name past)

-- a folder is there if a file is below it
abbrev pub IsFolder : List Change → List ℕ → Type 0
IsFolder past folder = (path : List ℕ) × (is_file past (below folder path) ≡ true)

-- how often a path is among paths
abbrev pub times : List ℕ → List (List ℕ) → ℕ
times path [] = 0
times path (first ∷ others) = if bytes_eq path first then suc (times path others) else times path others

-- these are the paths of all files below a folder, each once
abbrev pub IsListing : List Change → List ℕ → List (List ℕ) → Type 0
IsListing past folder files =
    (path : List ℕ) → times path files ≡ (if is_file past (below folder path) then 1 else 0)

-- ---- what the calls of a store answer, if the changes so far are known

-- whether a folder is there
abbrev pub TellsFolder : Option (List Change) → List ℕ → Result Bool StoreFault → Type 0
TellsFolder before folder answer = IfSome before (λ past. (answer ≡ Ok true) ↔ IsFolder past folder)

-- the files below a folder
abbrev pub Lists : Option (List Change) → List ℕ → List (List ℕ) → Type 0
Lists before folder files = IfSome before (λ past. IsListing past folder files)
