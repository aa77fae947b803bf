-- Which files are pages, by their names, how their outputs are named, and which names outputs have until they are
-- finished.
use Rattle.std.specs.Prelude.{ℕ, ◌-◌, Bool, true, false, ◌&&◌, ◌||◌, ◌==◌, nat_eq, if◌then◌else◌, List, [], ◌∷◌, ◌++◌}
use Rattle.std.specs.Prelude.{length, take, drop, map, codes}
use Rattle.std.specs.Prelude.{Option, Some, None, is_some, unwrap_or}
use Rattle.std.specs.Char.{to_ascii_lowercase}
use Rattle.std.specs.List.{ends_with}
use Rattle.std.specs.Option.{option_or}
use Rattle.std.specs.Str.{bytes_eq}
use Rattle.htmd_lexical.specs.Characters.{full_stop, slash}

-- what the pages of a run are
pub data Kind : Type 0 where
  html : Kind
  markdown : Kind

-- which files are pages, and what the names of their outputs in a folder end with, behind a full stop
pub record Naming : Type 0 where
  pub kind : Kind
  pub extension : List ℕ

-- the last bytes, as many as an ending has
abbrev pub stem_len : List ℕ → List ℕ → ℕ
stem_len path ending = length path - length ending

-- the path ends with this ending, with ASCII letters in either case
abbrev pub ends_in : List ℕ → List ℕ → Bool
ends_in path ending =
    bytes_eq (map to_ascii_lowercase (drop (stem_len path ending) path)) (map to_ascii_lowercase ending)

-- what comes before the ending, if the path has it
abbrev pub before_ending : List ℕ → List ℕ → Option (List ℕ)
before_ending path ending = if ends_in path ending then Some (take (stem_len path ending) path) else None

-- what comes before the ending, if that is one of pages
abbrev pub page_stem : Kind → List ℕ → Option (List ℕ)
page_stem html path = option_or (before_ending path (codes ".html"))
    (option_or (before_ending path (codes ".htm")) (before_ending path (codes ".xhtml")))
page_stem markdown path = option_or (before_ending path (codes ".md")) (before_ending path (codes ".markdown"))

-- the path of a page
abbrev pub is_page : Kind → List ℕ → Bool
is_page kind path = is_some (page_stem kind path)

-- the name of an unfinished output
abbrev pub is_unfinished : List ℕ → Bool
is_unfinished path = ends_with nat_eq path (codes ".htmd-partial")

-- a name in the path begins with a full stop: here, if one begins here, or behind a slash
abbrev pub hides : Bool → List ℕ → Bool
hides begins [] = false
hides begins (b ∷ path) = (begins && b == full_stop) || hides (b == slash) path

-- a hidden file, or one in a hidden folder
abbrev pub is_hidden : List ℕ → Bool
is_hidden path = hides true path

-- the path of its output: with the extension in place of the ending of a page, else after all
abbrev pub with_extension : Naming → List ℕ → List ℕ
with_extension naming path = unwrap_or (page_stem naming.kind path) path ++ codes "." ++ naming.extension
