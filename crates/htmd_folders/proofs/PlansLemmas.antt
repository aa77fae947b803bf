-- Plans: their pages are apart, and why there is none.
use Rattle.std.proofs.Common.{◌≡◌, ◌∙◌, refl, ap, sym, subst, ℕ, List, [], map, Bool, Bor}
use Rattle.std.proofs.Common.{is_some, option_map, Option, Some, None, IfSome, Result, Ok, Err}
use Rattle.htmd_files.specs.declared.faults.PlanFault.{PlanFault}
use Rattle.htmd_files.specs.declared.faults.PlanFault.TheVariants as fault
use Rattle.htmd_files.specs.declared.planning.FilePlan.{FilePlan}
use Rattle.htmd_files.specs.declared.planning.FilePlan.TheVariants as held
use Rattle.htmd_files.specs.declared.planning.Operand.{Operand}
use Rattle.htmd_files.specs.FilePlans as plans
use Rattle.htmd_files.specs.Names.{Naming}
use Rattle.htmd_files.specs.PlanViews.{operand_of, plan_in, IsRefusal}
use Rattle.htmd_files.specs.Promises.{KeepInputs, AreNamed, pages_in}
use Rattle.htmd_files.specs.Promises as promise
use Rattle.htmd_files.specs.Words.{Job}
use Rattle.htmd_files.specs.WordViews.{text_of}
use Rattle.htmd_folders.specs.Changes.{Change, Makes}
use Rattle.htmd_folders.specs.Plans.{AreFinished, IsPlace, IsPlanOf, LeadTo, destination}
use Rattle.htmd_folders.specs.PlanViews.{HasPagesApart, HasPlace, IsNoPlan}
use Rattle.htmd_folders.proofs.ApartLemmas.{are_apart, none_apart}
use Rattle.htmd_folders.proofs.OperandsLemmas.{still_known}

-- ---- the pages of a plan

pub plan_apart : (asked : Job) (naming : Naming) (is_folder : Bool) (output : Option (List ℕ))
    (planned : FilePlan)
    → AreFinished naming.extension → promise.AreApart (pages_in (plan_in planned))
    → KeepInputs (pages_in (plan_in planned))
    → AreNamed (option_map (destination asked naming is_folder) output) (pages_in (plan_in planned))
    → HasPagesApart planned
plan_apart asked naming is_folder output (held.StandardOutput input) finished outputs inputs names = tt
plan_apart asked naming is_folder None (held.Files pages) finished outputs inputs names =
    none_apart pages.items names
plan_apart asked naming is_folder (Some path) (held.Files pages) finished outputs inputs names =
    are_apart (destination asked naming is_folder path) pages.items finished outputs inputs names

-- ---- why there is no plan

fault_is : (r : Result plans.FilePlan plans.Fault) (f : plans.Fault) → plans.fault_in r ≡ Some f → r ≡ Err f
fault_is (Ok made) f e = absurd (cc)
fault_is (Err g) f e =
    let same : g ≡ f = cc in
    ap Err same

given_fault : (before : Option (List Change)) (asked : Job) (naming : Naming) (missed : List (List ℕ))
    (r : Result plans.FilePlan plans.Fault) (f : plans.Fault) → IsPlanOf before asked naming missed r
    → plans.fault_in r ≡ Some f
    → (missed : List (List ℕ)) × (reason : plans.Fault) × IsPlanOf before asked naming missed (Err reason)
given_fault before asked naming missed r f is e =
    (missed, f, subst (IsPlanOf before asked naming missed) (fault_is r f e) is)

pub no_plan : (before : Option (List Change)) (asked : Job) (naming : Naming) (missed : List (List ℕ))
    (r : Result plans.FilePlan plans.Fault) (refused : PlanFault) → IsPlanOf before asked naming missed r
    → IsRefusal (plans.fault_in r) refused → IsNoPlan before asked naming refused
no_plan before asked naming missed r fault.Memory is e = tt
no_plan before asked naming missed r (fault.Several first second) is e =
    given_fault before asked naming missed r _ is e
no_plan before asked naming missed r (fault.Folder folder) is e =
    given_fault before asked naming missed r _ is e
no_plan before asked naming missed r (fault.NoName input) is e =
    given_fault before asked naming missed r _ is e
no_plan before asked naming missed r (fault.Outside input output folder) is e =
    given_fault before asked naming missed r _ is e
no_plan before asked naming missed r (fault.Shared first second output) is e =
    given_fault before asked naming missed r _ is e
no_plan before asked naming missed r (fault.Overwritten input output) is e =
    given_fault before asked naming missed r _ is e

-- ---- what was found

some_mapped : {A B : Type 0} (f : A → B) (o : Option A) → is_some o ≡ is_some (option_map f o)
some_mapped f None = refl
some_mapped f (Some x) = refl

pub lists_if : (output : Option (Bor (List ℕ))) (lists : Bool) → lists ≡ is_some output
    → lists ≡ is_some (option_map text_of output)
lists_if output lists e = e ∙ some_mapped text_of output

pub plan_found : (before between : Option (List Change)) (asked : Job) (naming : Naming) (lists : Bool)
    (names : List (List ℕ)) (found given : List Operand) (missed : List (List ℕ)) (to : Option plans.Destination)
    (r : Result plans.FilePlan plans.Fault) → Makes before between [] → given ≡ found → names ≡ asked.operands
    → lists ≡ is_some asked.output → map plans.path_of (map operand_of found) ≡ names
    → IfSome before (λ past. LeadTo past naming.kind lists names (map operand_of found) missed)
    → HasPlace between asked naming to → plans.plan (map operand_of given) to ≡ r
    → IsPlanOf before asked naming missed r
plan_found before between asked naming lists names found given missed to r m g n l paths leads place is =
    let L : Bool → Type 0 = λ b. IfSome before
    (λ past. LeadTo past naming.kind b names (map operand_of found) missed) in
    let N : List (List ℕ) → Type 0 =
    λ x. IfSome before (λ past. LeadTo past naming.kind (is_some asked.output) x (map operand_of found) missed) in
    record {
      operands = map operand_of found;
      is_folder = place.0;
      names = paths ∙ n;
      found = subst N n (subst L l leads);
      place = still_known (λ past. IsPlace past asked.output place.0) before between m place.1;
      is = ap (plans.plan (map operand_of found)) (sym place.2)
          ∙ (ap (λ (x : List Operand). plans.plan (map operand_of x) to) (sym g) ∙ is);
    }
