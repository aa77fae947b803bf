-- What is found where a name leads; only contracts of private functions cite it.
use Rattle.std.specs.Prelude.{◌≡◌, ℕ, Bool, List, ◌++◌, map, Option, IfSome, Err, string_bytes, ⊤}
use Rattle.htmd_files.specs.declared.planning.Operand.{Operand}
use Rattle.htmd_files.specs.declared.faults.PlanFault.{PlanFault}
use Rattle.htmd_files.specs.declared.faults.PlanFault.TheVariants as fault
use Rattle.htmd_files.specs.declared.planning.FilePlan.{FilePlan}
use Rattle.htmd_files.specs.declared.planning.FilePlan.TheVariants as held
use Rattle.htmd_files.specs.FilePlans.{Destination, Fault}
use Rattle.htmd_files.specs.Names.{Kind, Naming}
use Rattle.htmd_files.specs.PlanViews.{operand_of}
use Rattle.htmd_files.specs.Words.{Job}
use Rattle.htmd_folders.specs.FolderConversions.{AreApart}
use Rattle.htmd_folders.specs.Changes.{Change}
use Rattle.htmd_folders.specs.Listings.{IsListing}
use Rattle.htmd_folders.specs.declared.operands.Missed.{Missed}
use Rattle.htmd_folders.specs.Plans as spec

-- the names that are missed
abbrev pub missed_in : List Missed → List (List ℕ)
missed_in missed = map (λ item. string_bytes item.path) missed

-- an operand was found for a name, and what is missed of it was added
abbrev pub Finds : Option (List Change) → Kind → Bool → List ℕ → Operand → List (List ℕ)
    → List (List ℕ)
    → Type 0
Finds before kind lists name operand missed missed_now =
    IfSome before (λ past. (more : List (List ℕ)) × spec.LeadsTo past kind lists name (operand_of operand) more
    × (missed_now ≡ missed ++ more))

-- the files below a folder were found, and the folder was added if it is missed
abbrev pub FindsFiles : Option (List Change) → Kind → List ℕ → List (List ℕ) → List (List ℕ)
    → List (List ℕ)
    → Type 0
FindsFiles before kind name files missed missed_now =
    IfSome before (λ past. IsListing past name files × (missed_now ≡ missed ++ spec.missed_in kind name files))

-- out of memory, or this is why there is no plan
abbrev pub IsNoPlan : Option (List Change) → Job → Naming → PlanFault → Type 0
IsNoPlan before asked naming fault.Memory = ⊤
IsNoPlan before asked naming _ =
    (missed : List (List ℕ)) × (reason : Fault) × spec.IsPlanOf before asked naming missed (Err reason)

-- the pages that are written are apart
abbrev pub HasPagesApart : FilePlan → Type 0
HasPagesApart (held.StandardOutput input) = ⊤
HasPagesApart (held.Files pages) = AreApart pages.items

-- the output that a job names was found to be a folder which is there, or not to be one
abbrev pub HasPlace : Option (List Change) → Job → Naming → Option Destination → Type 0
HasPlace before asked naming found =
    (is_folder : Bool) × IfSome before (λ past. spec.IsPlace past asked.output is_folder)
    × (found ≡ spec.destination_in asked naming is_folder)
