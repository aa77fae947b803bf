-- What each plan keeps.
use Rattle.std.specs.Prelude.{◌≡◌, ◌≢◌, ℕ, Bool, true, false, not, ◌&&◌, List, [], ◌++◌, Option, Some, None, is_some}
use Rattle.std.specs.Prelude.{All, AllPairs, MatchBool, ⊤}
use Rattle.std.specs.Prelude.{◌<◌, codes, length}
use Rattle.htmd_files.specs.Paths.{normal, place, is_below}
use Rattle.htmd_files.specs.FilePlans.{Operand, Destination, Page, FilePlan, standard_output, files, single_input}
use Rattle.htmd_files.specs.FilePlans.{names_folder}

-- the pages that are written to files
abbrev pub pages_in : FilePlan → List Page
pages_in (standard_output input) = []
pages_in (files pages) = pages

-- the paths are not the same
abbrev pub Differ : List ℕ → List ℕ → Type 0
Differ a b = normal a ≢ normal b

-- no two pages have one output
abbrev pub AreApart : List Page → Type 0
AreApart pages = AllPairs (λ p q. Differ p.output q.output) pages

-- no output is an input
abbrev pub KeepInputs : List Page → Type 0
KeepInputs pages = All (λ p. All (λ q. Differ p.input q.output) pages) pages

-- one input is written to what `-o` names
abbrev pub writes_one : Destination → List Operand → Bool
writes_one out operands = is_some (single_input operands) && not (names_folder out)

-- otherwise all outputs are below what `-o` names
abbrev pub AreBelow : Option Destination → List Operand → List Page → Type 0
AreBelow None operands pages = ⊤
AreBelow (Some out) operands pages =
    writes_one out operands ≡ false → All (λ page. is_below (place out.path) (place page.output) ≡ true) pages

-- the name of the output ends with this extension
abbrev pub HasExtension : List ℕ → Page → Type 0
HasExtension extension page = (stem : List ℕ) × (page.output ≡ stem ++ codes "." ++ extension)

-- such a name is one of unfinished outputs
abbrev pub HasUnfinishedName : List ℕ → Type 0
HasUnfinishedName name = (stem : List ℕ) × (name ≡ stem ++ codes ".htmd-partial")

-- a file that is copied has no such name, and a page this extension
abbrev pub IsNamed : List ℕ → Page → Type 0
IsNamed extension page =
    MatchBool page.is_copy (HasUnfinishedName page.output → ⊥) (HasExtension extension page)

-- without `-o` there are no pages; if there are several, each output is named by what `-o` names
abbrev pub AreNamed : Option Destination → List Page → Type 0
AreNamed None pages = pages ≡ []
AreNamed (Some out) pages = 1 < length pages → All (IsNamed out.naming.extension) pages
