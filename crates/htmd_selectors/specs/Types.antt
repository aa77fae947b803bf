-- How many elements of a parent that have the same name are before and after each, and which steps ask for that.
use Rattle.std.specs.Prelude.{ℕ, ◌+◌, Bool, true, false, ◌||◌, if◌then◌else◌, List, [], ◌∷◌}
use Rattle.std.specs.Str.{bytes_eq}
use Rattle.htmd_selectors.specs.declared.matching.Counts.{Counts}
use Rattle.htmd_selectors.specs.declared.selectors.Peers.{Peers}
use Rattle.htmd_selectors.specs.declared.selectors.Peers.TheVariants as peers
use Rattle.htmd_selectors.specs.SelectorSteps.{Condition, is_any, is_type, has_class, has_id, has_attribute}
use Rattle.htmd_selectors.specs.SelectorSteps.{has_value, is_first, is_last, is_only, is_empty, is_root, is_nth}
use Rattle.htmd_selectors.specs.SelectorSteps.{Test, asks, among, Step}

-- how often a name is among these
abbrev pub occurrences : List ℕ → List (List ℕ) → ℕ
occurrences name [] = 0
occurrences name (other ∷ names) = (if bytes_eq other name then 1 else 0) + occurrences name names

-- how many of the names before one and after it are the same
abbrev pub counts_between : List (List ℕ) → List ℕ → List (List ℕ) → Counts
counts_between before name after = record { before = occurrences name before; after = occurrences name after }

-- for each name of a row, after those before
abbrev pub type_counts : List (List ℕ) → List (List ℕ) → List Counts
type_counts before [] = []
type_counts before (name ∷ names) = counts_between before name names ∷ type_counts (name ∷ before) names

-- those of the first one, if there is one
abbrev pub first_counts : List Counts → Counts
first_counts [] = record { before = 0; after = 0 }
first_counts (counts ∷ rest) = counts

abbrev pub are_of_type : Peers → Bool
are_of_type peers.All = false
are_of_type peers.SameName = true

-- a condition is about elements with the same name
abbrev pub is_of_type : Condition → Bool
is_of_type is_any = false
is_of_type (is_type name) = false
is_of_type (has_class class) = false
is_of_type (has_id id) = false
is_of_type (has_attribute name) = false
is_of_type (has_value name comparison value) = false
is_of_type (is_first peers) = are_of_type peers
is_of_type (is_last peers) = are_of_type peers
is_of_type (is_only peers) = are_of_type peers
is_of_type is_empty = false
is_of_type is_root = false
is_of_type (is_nth row series) = are_of_type row.peers

-- one of these conditions is
abbrev pub some_of_type : List Condition → Bool
some_of_type [] = false
some_of_type (condition ∷ conditions) = is_of_type condition || some_of_type conditions

-- one of these compounds has one that is
abbrev pub any_of_type : List (List Condition) → Bool
any_of_type [] = false
any_of_type (compound ∷ compounds) = some_of_type compound || any_of_type compounds

abbrev pub asks_type : Test → Bool
asks_type (asks condition) = is_of_type condition
asks_type (among negated compounds) = any_of_type compounds

-- one of these steps asks for places among elements with the same name
abbrev pub asks_types : List Step → Bool
asks_types [] = false
asks_types (step ∷ steps) = asks_type step.test || asks_types steps
