-- The pages of a plan are apart.
use Rattle.std.proofs.Common.{◌≡◌, ◌≢◌, ℕ, suc, Bool, true, false, List, [], ◌∷◌, ◌++◌, Some, sym, ap, ◌∙◌, arith}
use Rattle.std.specs.Prelude.{All, MatchBool, codes}
use Rattle.std.specs.List.{AllByRecursion}
use Rattle.std.proofs.lemmas.List.Elements.{All-head, All-tail, recursion_from_All}
use Rattle.htmd_files.specs.declared.planning.Page.{Page}
use Rattle.htmd_files.specs.FilePlans.{Destination, Page as PlannedPage}
use Rattle.htmd_files.specs.Paths.{normal}
use Rattle.htmd_files.specs.PlanViews.{page_of, pages_of}
use Rattle.htmd_files.specs.Promises.{AreApart as HaveOwnOutputs, KeepInputs, AreNamed, Differ, HasUnfinishedName}
use Rattle.htmd_files.specs.Promises.{IsNamed}
use Rattle.htmd_folders.specs.Pages.{input_name, output_name}
use Rattle.htmd_folders.specs.FolderConversions.{IsApart, AreApart}
use Rattle.htmd_folders.specs.Plans.{AreFinished}

-- paths that aren't the same differ
differ : (a b : List ℕ) → Differ a b → a ≢ b
differ a b d e = d (ap normal e)

-- a name with such an extension is none of an unfinished output
finished_by : (extension output : List ℕ) (is_copy : Bool) → AreFinished extension
    → MatchBool is_copy (HasUnfinishedName output → ⊥)
    ((stem : List ℕ) × (output ≡ stem ++ codes "." ++ extension))
    → HasUnfinishedName output → ⊥
finished_by extension output true finished named u = named u
finished_by extension output false finished (stem, e) (other, f) = finished stem (other, sym e ∙ f)

not_unfinished : (extension : List ℕ) (page : Page) → AreFinished extension → IsNamed extension (page_of page)
    → HasUnfinishedName (output_name page) → ⊥
not_unfinished extension page = finished_by extension (output_name page) page.is_copy

abbrev Reads : Page → PlannedPage → Type 0
Reads page later = Differ later.input (output_name page)

abbrev Writes : Page → PlannedPage → Type 0
Writes page later = Differ (output_name page) later.output

-- a page and those after it
each : (extension : List ℕ) (page : Page) (more : List Page) → AreFinished extension
    → AllByRecursion (Reads page) (pages_of more)
    → AllByRecursion (Writes page) (pages_of more) → IsNamed extension (page_of page)
    → AllByRecursion (IsNamed extension) (pages_of more) → AllByRecursion (IsApart page) more
each extension page [] finished i o n m = tt
each extension page (later ∷ more) finished (i, is) (o, os) n (m, ms) = (
  (
    differ (input_name later) (output_name page) i,
    λ e. differ (output_name page) (output_name later) o (sym e),
    not_unfinished extension page finished n,
    not_unfinished extension later finished m,
  ),
  each extension page more finished is os n ms,
)

-- what is kept of all pages is kept of those after the first one
own_tail : (page : PlannedPage) (more : List PlannedPage) → HaveOwnOutputs (page ∷ more) → HaveOwnOutputs more
own_tail page more h i j d l m = h (suc i) (suc j) d (omega (arith, l)) (omega (arith, m))

own_head : (page : PlannedPage) (more : List PlannedPage) → HaveOwnOutputs (page ∷ more)
    → All (λ later. Differ page.output later.output) more
own_head page more h k d l = h 0 (suc k) d (omega arith) (omega (arith, l))

kept_tail : (page : PlannedPage) (more : List PlannedPage) → KeepInputs (page ∷ more) → KeepInputs more
kept_tail page more h k d l j e m = h (suc k) d (omega (arith, l)) (suc j) e (omega (arith, m))

kept_head : (page : PlannedPage) (more : List PlannedPage) → KeepInputs (page ∷ more)
    → All (λ later. Differ later.input page.output) more
kept_head page more h k d l = h (suc k) d (omega (arith, l)) 0 page (omega arith)

named_apart : (extension : List ℕ) (pages : List Page) → AreFinished extension
    → HaveOwnOutputs (pages_of pages) → KeepInputs (pages_of pages)
    → All (IsNamed extension) (pages_of pages) → AreApart pages
named_apart extension [] finished own kept named = tt
named_apart extension (page ∷ more) finished own kept named = (
  each extension page more finished
      (recursion_from_All (Reads page) (pages_of more) (kept_head (page_of page) (pages_of more) kept))
      (recursion_from_All (Writes page) (pages_of more) (own_head (page_of page) (pages_of more) own))
      (All-head (IsNamed extension) (page_of page) (pages_of more) named)
      (recursion_from_All (IsNamed extension) (pages_of more)
      (All-tail (IsNamed extension) (page_of page) (pages_of more) named)),
  named_apart extension more finished (own_tail (page_of page) (pages_of more) own)
      (kept_tail (page_of page) (pages_of more) kept)
      (All-tail (IsNamed extension) (page_of page) (pages_of more) named),
)

pub none_apart : (pages : List Page) → pages_of pages ≡ [] → AreApart pages
none_apart [] e = tt
none_apart (page ∷ more) e = absurd (cc)

-- what a plan keeps makes its pages apart
pub are_apart : (out : Destination) (pages : List Page) → AreFinished out.naming.extension
    → HaveOwnOutputs (pages_of pages) → KeepInputs (pages_of pages) → AreNamed (Some out) (pages_of pages)
    → AreApart pages
are_apart out [] finished own kept named = tt
are_apart out (page ∷ []) finished own kept named = (tt, tt)
are_apart out (page ∷ second ∷ more) finished own kept named =
    named_apart out.naming.extension (page ∷ second ∷ more) finished own kept (named (omega arith))
