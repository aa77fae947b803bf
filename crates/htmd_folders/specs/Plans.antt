-- The plan of a run: what the names of a job lead to, and which pages become which files.
use Rattle.std.specs.Prelude.{◌≡◌, ◌≢◌, ◌↔◌, ℕ, Bool, true, false, if◌then◌else◌, List, [], ◌∷◌, ◌++◌, map, codes}
use Rattle.std.specs.Prelude.{Option, Some, None, is_some, option_map, IfSome, Result}
use Rattle.std.specs.List.{list_any}
use Rattle.htmd_files.specs.FilePlans.{Operand, Destination, FilePlan, Fault, standard_input, file, folder, path_of}
use Rattle.htmd_files.specs.FilePlans.{plan}
use Rattle.htmd_files.specs.Names.{Kind, Naming, is_page}
use Rattle.htmd_files.specs.Words.{Job}
use Rattle.htmd_folders.specs.Changes.{Change}
use Rattle.htmd_files.specs.Promises.{HasUnfinishedName}
use Rattle.htmd_folders.specs.Listings.{IsFolder, IsListing}

-- the name of a folder is missed if no file below it is a page
abbrev pub missed_in : Kind → List ℕ → List (List ℕ) → List (List ℕ)
missed_in kind name files = if list_any (is_page kind) files then [] else name ∷ []

-- What a name leads to, and whether it is missed: `-` to standard input, the name of a folder to all files below it,
-- which are looked up only if the job names an output, and any other name to a file, whether that is there or not.
abbrev pub LeadsTo : List Change → Kind → Bool → List ℕ → Operand → List (List ℕ) → Type 0
LeadsTo past kind lists name standard_input missed = (name ≡ codes "-") × (missed ≡ [])
LeadsTo past kind lists name (file path) missed =
    (name ≢ codes "-") × (path ≡ name) × (¬ IsFolder past name) × (missed ≡ [])
LeadsTo past kind lists name (folder path files) missed =
    (name ≢ codes "-") × (path ≡ name) × IsFolder past name
    × (lists ≡ true → IsListing past name files × (missed ≡ missed_in kind name files))

-- what names lead to, one after the other, and those that are missed
abbrev pub LeadTo : List Change → Kind → Bool → List (List ℕ) → List Operand → List (List ℕ) → Type 0
LeadTo past kind lists [] operands missed = (operands ≡ []) × (missed ≡ [])
LeadTo past kind lists (name ∷ names) operands missed =
    (first : Operand) × (others : List Operand) × (of_first : List (List ℕ)) × (of_others : List (List ℕ))
    × LeadsTo past kind lists name first of_first × LeadTo past kind lists names others of_others
    × (operands ≡ first ∷ others) × (missed ≡ of_first ++ of_others)

-- the output that a job names may be a folder which is there; outputs in it are named so
abbrev pub destination : Job → Naming → Bool → List ℕ → Destination
destination asked naming is_folder path =
    record { path = path; is_folder = is_folder; naming = naming; copies = asked.copies }

abbrev pub destination_in : Job → Naming → Bool → Option Destination
destination_in asked naming is_folder = option_map (destination asked naming is_folder) asked.output

-- the output that a job names is a folder which is there, or it isn't
abbrev pub IsPlace : List Change → Option (List ℕ) → Bool → Type 0
IsPlace past None is_folder = is_folder ≡ false
IsPlace past (Some path) is_folder = (is_folder ≡ true) ↔ IsFolder past path

-- no name with this extension is one of unfinished outputs
abbrev pub AreFinished : List ℕ → Type 0
AreFinished extension = (stem : List ℕ) → HasUnfinishedName (stem ++ codes "." ++ extension) → ⊥

-- The plan of a job, or why there is none, and the names that are missed: it is made for what the job's names lead to
-- before the run changes a file. If it isn't known what the store holds, the operands are those that it answered.
pub record IsPlanOf (before : Option (List Change)) (asked : Job) (naming : Naming) (missed : List (List ℕ))
    (planned : Result FilePlan Fault) : Type 0 where
  pub operands : List Operand
  pub is_folder : Bool
  pub names : map path_of operands ≡ asked.operands
  pub found : IfSome before (λ past. LeadTo past naming.kind (is_some asked.output) asked.operands operands missed)
  pub place : IfSome before (λ past. IsPlace past asked.output is_folder)
  pub is : plan operands (destination_in asked naming is_folder) ≡ planned
