-- What each plan keeps.
use Rattle.std.proofs.Common.{◌≡◌, ℕ, Bool, true, false, not, ◌&&◌, List, [], ◌∷◌, ◌++◌, get_or, refl, sym, ap}
use Rattle.std.proofs.Common.{◌∙◌, subst, append_assoc, arith, Option, Some, None, Result, Ok, Err}
use Rattle.std.specs.Prelude.{find, All, AllPairs, is_some}
use Rattle.std.proofs.lemmas.Bool.{false≢true}
use Rattle.std.proofs.lemmas.List.{append-nil}
use Rattle.std.proofs.lemmas.List.Elements.{All-nil, All-cons}
use Rattle.std.proofs.lemmas.List.Quantifiers.{all_pairs_push}
use Rattle.std.proofs.lemmas.Slice.Eq.{bytes_eq-Decides}
use Rattle.htmd_files.specs.Paths.{normal, place, is_same, is_below}
use Rattle.htmd_files.specs.FilePlans.{Operand, Destination, Page, FilePlan, Fault, standard_input, file, folder}
use Rattle.htmd_files.specs.FilePlans.{is_outside}
use Rattle.htmd_files.specs.FilePlans.{unless_outside, if_below, pages_at, pages_to, names_folder, single_input}
use Rattle.htmd_files.specs.FilePlans.{writes_to, shared_fault, shared_after, overwritten_fault, overwritten_in}
use Rattle.htmd_files.specs.FilePlans.{or_fault}
use Rattle.htmd_files.specs.FilePlans.{output_fault, unless, if_apart, only_input, plan}
use Rattle.htmd_files.specs.Promises.{pages_in, Differ, AreApart, KeepInputs, AreBelow}

pub either : {P : Type 0} (b : Bool) → (b ≡ true → P) → (b ≡ false → P) → P
either true f g = f refl
either false f g = g refl

none_found : (test : Page → Bool) (pages : List Page) → find test pages ≡ None
    → All (λ p. test p ≡ false) pages
none_found test [] e = All-nil (λ p. test p ≡ false)
none_found test (p ∷ pages) e =
    either (test p)
    (λ t. let z = rw t at e in absurd (cc))
    (λ t. let z = rw t at e in All-cons (λ q. test q ≡ false) p pages t (none_found test pages z))

differ : (a b : List ℕ) → is_same a b ≡ false → Differ a b
differ a b e = λ s. false≢true (sym e ∙ (bytes_eq-Decides (normal a) (normal b)).1 s)

-- ---- no two pages have one output

not_shared : (page : Page) (o : Option Page) (others : Option Fault) → shared_fault page o others ≡ None
    → (o ≡ None) × (others ≡ None)
not_shared page None others e = (refl, e)
not_shared page (Some p) others e = absurd (cc)

abbrev Apart : Page → Page → Type 0
Apart p q = Differ p.output q.output

apart_after : (before pages : List Page) → AllPairs Apart before → shared_after before pages ≡ None
    → AllPairs Apart (before ++ pages)
apart_after before [] h e = subst (AllPairs Apart) (sym (append-nil before)) h
apart_after before (page ∷ pages) h e =
    let n = not_shared page (find (writes_to page.output) before) (shared_after (before ++ page ∷ []) pages) e in
    let f = none_found (writes_to page.output) before n.0 in
    let more : AllPairs Apart (before ++ page ∷ []) =
    all_pairs_push Apart before page h (λ k d l s. differ page.output (get_or before k d).output (f k d l) (sym s)) in
    subst (AllPairs Apart) (append_assoc before (page ∷ []) pages)
    (apart_after (before ++ page ∷ []) pages more n.1)

-- ---- no output is an input

not_overwritten : (page : Page) (o : Option Page) (others : Option Fault) → overwritten_fault page o others ≡ None
    → (o ≡ None) × (others ≡ None)
not_overwritten page None others e = (refl, e)
not_overwritten page (Some p) others e = absurd (cc)

inputs_kept : (all pages : List Page) → overwritten_in all pages ≡ None
    → All (λ p. All (λ q. Differ p.input q.output) all) pages
inputs_kept all [] e = All-nil (λ p. All (λ q. Differ p.input q.output) all)
inputs_kept all (page ∷ pages) e =
    let n = not_overwritten page (find (writes_to page.input) all) (overwritten_in all pages) e in
    let f = none_found (writes_to page.input) all n.0 in
    All-cons (λ p. All (λ q. Differ p.input q.output) all) page pages
    (λ k d l. differ page.input (get_or all k d).output (f k d l)) (inputs_kept all pages n.1)

-- ---- all are below the folder

pub not_outside : (out : List ℕ) (pages now : List Page) (o : Option Page) → unless_outside out pages o ≡ Ok now
    → (o ≡ None) × (pages ≡ now)
not_outside out pages now None e = (refl, cc)
not_outside out pages now (Some p) e = absurd (cc)

abbrev InFolder : List ℕ → Page → Type 0
InFolder out page = is_below (place out) (place page.output) ≡ true

is_in : (b : Bool) → not b ≡ false → b ≡ true
is_in true e = refl
is_in false e = absurd (false≢true (sym e))

below_checked : (out : List ℕ) (r : Result (List Page) Fault) (now : List Page) → if_below out r ≡ Ok now
    → All (InFolder out) now
below_checked out (Err f) now e = absurd (cc)
below_checked out (Ok pages) now e =
    let n = not_outside out pages now (find (is_outside out) pages) e in
    let f = none_found (is_outside out) pages n.0 in
    subst (All (InFolder out)) n.1 (λ k d l. is_in _ (f k d l))

below_at : (out : Destination) (operands : List Operand) (o : Option (List ℕ)) (now : List Page)
    → (is_some o && not (names_folder out)) ≡ false → pages_at out operands o ≡ Ok now
    → All (InFolder out.path) now
below_at out operands None now n e = below_checked out.path _ now e
below_at out operands (Some path) now n e =
    either (names_folder out)
    (λ t. let z = rw t at e in below_checked out.path _ now z)
    (λ t. let z = rw t at n in absurd (false≢true (sym z)))

-- ---- all together

abbrev pub pages_or_none : Result FilePlan Fault → List Page
pages_or_none (Ok made) = pages_in made
pages_or_none (Err f) = []

pub no_pages : (operands : List Operand) → pages_or_none (only_input operands) ≡ []
no_pages [] = refl
no_pages (standard_input ∷ []) = refl
no_pages (file path ∷ []) = refl
no_pages (folder path paths ∷ []) = refl
no_pages (first ∷ second ∷ others) = refl

no_fault : (a b : Option Fault) → or_fault a b ≡ None → (a ≡ None) × (b ≡ None)
no_fault None b e = (refl, e)
no_fault (Some f) b e = absurd (cc)

pub not_refused : (o : Option Fault) (pages : List Page) (made : FilePlan) → unless o pages ≡ Ok made
    → (o ≡ None) × (pages ≡ pages_in made)
not_refused None pages made e = (refl, ap pages_or_none e)
not_refused (Some f) pages made e = absurd (cc)

abbrev pub Keeps : Option Destination → List Operand → FilePlan → Type 0
Keeps out operands made =
    AreApart (pages_in made) × (KeepInputs (pages_in made) × AreBelow out operands (pages_in made))

abbrev IsKept : Option Destination → List Operand → List Page → Type 0
IsKept out operands pages = AreApart pages × (KeepInputs pages × AreBelow out operands pages)

files_keep : (out : Destination) (operands : List Operand) (r : Result (List Page) Fault) (made : FilePlan)
    → pages_to out operands ≡ r → if_apart r ≡ Ok made → Keeps (Some out) operands made
files_keep out operands (Err f) made s e = absurd (cc)
files_keep out operands (Ok pages) made s e =
    let n = not_refused (output_fault pages) pages made e in
    let f = no_fault (shared_after [] pages) (overwritten_in pages pages) n.0 in
    subst (IsKept (Some out) operands) n.1 (
      apart_after [] pages (λ i j d l m. absurd (omega arith)) f.0,
      (inputs_kept pages pages f.1, λ w. below_at out operands (single_input operands) pages w s),
    )

pub plan_keeps : (operands : List Operand) (out : Option Destination) (made : FilePlan) → plan operands out
    ≡ Ok made
    → Keeps out operands made
plan_keeps operands None made e =
    let n : [] ≡ pages_in made = sym (no_pages operands) ∙ ap pages_or_none e in
    subst (IsKept None operands) n
    ((λ i j d l m. absurd (omega arith)), (All-nil (λ p. All (λ q. Differ p.input q.output) []), tt))
plan_keeps operands (Some out) made e = files_keep out operands (pages_to out operands) made refl e
