-- Paths by their names alone: which two are the same, and what is below a folder. Links aren't followed.
use Rattle.std.specs.Prelude.{ℕ, Bool, true, false, not, ◌&&◌, ◌||◌, ◌==◌, nat_eq, if◌then◌else◌, List, [], ◌∷◌, ◌++◌}
use Rattle.std.specs.Prelude.{reverse, codes, Option, Some, None}
use Rattle.std.specs.List.{slice_split, starts_with, ends_with}
use Rattle.std.specs.Str.{bytes_eq}
use Rattle.htmd_lexical.specs.Characters.{slash}

-- what stands between the slashes of a path; some may be empty
abbrev pub parts : List ℕ → List (List ℕ)
parts path = slice_split (λ b. b == slash) path

abbrev pub is_absolute : List ℕ → Bool
is_absolute path = starts_with nat_eq path (codes "/")

-- the name of the folder above
abbrev pub is_up : List ℕ → Bool
is_up name = bytes_eq name (codes "..")

-- the name of the folder itself: none, or `.`
abbrev pub is_here : List ℕ → Bool
is_here name = bytes_eq name [] || bytes_eq name (codes ".")

-- One level up from names, of which the last comes first. Nothing is above `/`. Above where a relative path begins, and
-- above `..`, is one `..` more.
abbrev pub above : Bool → List (List ℕ) → List (List ℕ)
above absolute [] = if absolute then [] else codes ".." ∷ []
above absolute (name ∷ names) = if is_up name then codes ".." ∷ name ∷ names else names

-- one name further
abbrev pub further : Bool → List (List ℕ) → List ℕ → List (List ℕ)
further absolute names name =
    if is_here name then names else if is_up name then above absolute names else name ∷ names

-- all names further
abbrev pub led : Bool → List (List ℕ) → List (List ℕ) → List (List ℕ)
led absolute names [] = names
led absolute names (name ∷ more) = led absolute (further absolute names name) more

-- where a path leads: from the root or not, and by which names, the first one first
pub record Place : Type 0 where
  pub is_absolute : Bool
  pub names : List (List ℕ)

abbrev pub place : List ℕ → Place
place path = record { is_absolute = is_absolute path; names = reverse (led (is_absolute path) [] (parts path)) }

-- names with a slash before each
abbrev pub with_slashes : List (List ℕ) → List ℕ
with_slashes [] = []
with_slashes (name ∷ names) = slash ∷ name ++ with_slashes names

-- names with slashes between them
abbrev pub joined : List (List ℕ) → List ℕ
joined [] = []
joined (name ∷ names) = name ++ with_slashes names

-- a place as a path
abbrev pub path_to : Place → List ℕ
path_to at = (if at.is_absolute then slash ∷ [] else []) ++ joined at.names

-- a path without the names that lead nowhere
abbrev pub normal : List ℕ → List ℕ
normal path = path_to (place path)

-- two paths are the same if they are without the names that lead nowhere
abbrev pub is_same : List ℕ → List ℕ → Bool
is_same a b = bytes_eq (normal a) (normal b)

-- ---- below a folder

-- the names after these, if they begin with these
abbrev pub names_after : List (List ℕ) → List (List ℕ) → Option (List (List ℕ))
names_after [] names = Some names
names_after (first ∷ others) [] = None
names_after (first ∷ others) (name ∷ names) = if bytes_eq name first then names_after others names else None

-- names that lead down: some, of which the first isn't `..`
abbrev pub lead_down : List (List ℕ) → Bool
lead_down [] = false
lead_down (name ∷ names) = not (is_up name)

abbrev pub leads_down : Option (List (List ℕ)) → Bool
leads_down None = false
leads_down (Some names) = lead_down names

abbrev pub alike : Bool → Bool → Bool
alike true b = b
alike false b = not b

-- from the same beginning by the folder's names, and then further down
abbrev pub is_below : Place → Place → Bool
is_below folder at = alike folder.is_absolute at.is_absolute && leads_down (names_after folder.names at.names)

-- a folder itself, or below it
abbrev pub is_within : List ℕ → List ℕ → Bool
is_within folder path = is_below (place folder) (place path) || is_same folder path

-- the last name, which comes first here, if it is that of a file or a folder
abbrev pub last_name : List (List ℕ) → Option (List ℕ)
last_name [] = None
last_name (name ∷ names) = if is_up name then None else Some name

abbrev pub file_name : Place → Option (List ℕ)
file_name at = last_name (reverse at.names)

abbrev pub ends_with_slash : List ℕ → Bool
ends_with_slash path = ends_with nat_eq path (codes "/")

-- the slash between a folder and what is below it
abbrev pub slash_after : List ℕ → List ℕ
slash_after folder = if ends_with_slash folder then [] else codes "/"

-- a path below a folder
abbrev pub below : List ℕ → List ℕ → List ℕ
below folder path = folder ++ slash_after folder ++ path
