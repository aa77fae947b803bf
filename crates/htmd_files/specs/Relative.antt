-- The relative path from the folder of one file to another file.
use Rattle.std.specs.Prelude.{ℕ, if◌then◌else◌, List, [], ◌∷◌, ◌++◌, drop, codes, Option, Some, None}
use Rattle.std.specs.List.{common_prefix_len, list_any}
use Rattle.std.specs.Str.{bytes_eq}
use Rattle.htmd_files.specs.Paths.{Place, place, is_up, alike, joined}

-- all names but the last
abbrev pub folder_of : List (List ℕ) → List (List ℕ)
folder_of [] = []
folder_of (name ∷ []) = []
folder_of (name ∷ next ∷ names) = name ∷ folder_of (next ∷ names)

-- one level up for each name
abbrev pub ups : List (List ℕ) → List ℕ
ups [] = []
ups (name ∷ names) = codes "../" ++ ups names

-- up from each of these, and down by those; no name says what is above `..`
abbrev pub up_and_down : List (List ℕ) → List (List ℕ) → Option (List ℕ)
up_and_down left names = if list_any is_up left then None else Some (ups left ++ joined names)

-- from a folder to a file, past the folders that both have
abbrev pub way : List (List ℕ) → List (List ℕ) → Option (List ℕ)
way folder names =
    let shared : ℕ = common_prefix_len bytes_eq folder (folder_of names) in
    up_and_down (drop shared folder) (drop shared names)

-- a file has a name
abbrev pub way_between : List (List ℕ) → List (List ℕ) → Option (List ℕ)
way_between [] to = None
way_between (name ∷ names) [] = None
way_between (name ∷ names) (first ∷ others) = way (folder_of (name ∷ names)) (first ∷ others)

-- from the same beginning
abbrev pub relative_place : Place → Place → Option (List ℕ)
relative_place from to = if alike from.is_absolute to.is_absolute then way_between from.names to.names else None

abbrev pub relative : List ℕ → List ℕ → Option (List ℕ)
relative from to = relative_place (place from) (place to)
