-- Paths of files: the folder that a path leads to, and the name after it.
use Rattle.std.specs.Prelude.{ℕ, ◌-◌, Bool, not, ◌||◌, ◌==◌, if◌then◌else◌, List, [], ◌∷◌, ◌++◌, map, length}
use Rattle.std.specs.Prelude.{take, drop, slice_index, slice_get, Option, Some, None, codes}
use Rattle.std.specs.List.{common_prefix_len, flat_map, slice_split, suffix_len}
use Rattle.std.specs.Str.{bytes_eq}
use Rattle.htmd_lexical.specs.Characters.{slash}

-- a folder is the list of names that lead to it; that of the root begins with an empty name
abbrev pub Folder : Type 0
Folder = List (List ℕ)

-- the name for what is above a folder
abbrev pub parent : List ℕ
parent = codes ".."

-- up from a folder with this last name: the root is above itself, and above `..` is one `..` more
abbrev pub up_from : Folder → Option (List ℕ) → Folder
up_from folder None = folder ++ parent ∷ []
up_from folder (Some name) =
    if length name == 0 then folder
    else (if bytes_eq name parent then folder ++ parent ∷ [] else take (length folder - 1) folder)

-- up from a folder
abbrev pub up : Folder → Folder
up folder = up_from folder (slice_get folder (length folder - 1))

-- an empty name and `.` stay in a folder
abbrev pub stays : List ℕ → Bool
stays name = (length name == 0) || bytes_eq name (codes ".")

-- by one name further
abbrev pub enter : Folder → List ℕ → Folder
enter folder name = if stays name then folder else (if bytes_eq name parent then up folder else folder ++ name ∷ [])

-- by these names, one after the other
abbrev pub enter_all : Folder → List (List ℕ) → Folder
enter_all folder [] = folder
enter_all folder (name ∷ names) = enter_all (enter folder name) names

-- how long the name after the last slash of a path is
abbrev pub name_len : List ℕ → ℕ
name_len path = suffix_len (λ b. not (b == slash)) path

-- the name after the last slash, which may be empty
abbrev pub name_of : List ℕ → List ℕ
name_of path = drop (length path - name_len path) path

-- the names before it
abbrev pub names_before : List ℕ → List (List ℕ)
names_before path = slice_split (λ b. b == slash) (take (length path - name_len path) path)

-- the folder of a path that is read in a folder
abbrev pub folder_in : Folder → List ℕ → Folder
folder_in folder path = enter_all folder (names_before path)

-- where paths begin: at the root or where the program runs
abbrev pub start_of : List ℕ → Folder
start_of path = if slice_index path 0 == slash then [] ∷ [] else []

-- the folder of a path
abbrev pub folder_of : List ℕ → Folder
folder_of path = folder_in (start_of path) path

-- the path of a name in a folder
abbrev pub path_of : Folder → List ℕ → List ℕ
path_of folder name = flat_map (λ s. s ++ slash ∷ []) folder ++ name

-- a path that is read in a folder, in its one form: without `.`, empty names, and `..` after a name
abbrev pub path_in : Folder → List ℕ → List ℕ
path_in folder path = path_of (folder_in folder path) (name_of path)

-- the name leads to a folder: none after a slash, `.` or `..`
abbrev pub is_of_folder : List ℕ → Bool
is_of_folder name = stays name || bytes_eq name parent

-- the folder of the page with this name in a folder
abbrev pub folder_named : Folder → List ℕ → Folder
folder_named folder name = if is_of_folder name then enter folder name else folder

-- the page of a folder is its index
abbrev pub page_name : List ℕ → List ℕ
page_name name = if is_of_folder name then codes "index.html" else name

-- the folder of the page that a path leads to which is read in a folder
abbrev pub page_folder : Folder → List ℕ → Folder
page_folder folder path = folder_named (folder_in folder path) (name_of path)

-- the folder of the page that a path leads to which is read at the root of a site, above which there is nothing
abbrev pub page_folder_below : Folder → List ℕ → Folder
page_folder_below root path = root ++ drop 1 (page_folder ([] ∷ []) path)

-- the page that a path leads to, whose folder this is
abbrev pub page_at : List ℕ → Folder → List ℕ
page_at path folder = path_of folder (page_name (name_of path))

-- the folder above another one, by as many names as a folder below it has
abbrev pub above : Folder → Folder → Folder
above below folder = take (length folder - length below) folder

-- a path in its one form
abbrev pub plain_path : List ℕ → List ℕ
plain_path path = path_in (start_of path) path

-- the way from a folder to another one: up to the folder that both are in, and down
abbrev pub way : Folder → Folder → Folder
way from to =
    let same = common_prefix_len bytes_eq from to in
    map (λ name. parent) (drop same from) ++ drop same to
