-- Plans, page by page.
use Rattle.std.proofs.Common.{◌≡◌, ℕ, ◌+◌, ◌<◌, Bool, true, false, cond, List, [], ◌∷◌, ◌++◌, length, take, drop, map}
use Rattle.std.proofs.Common.{get_or, refl, sym, ap, ◌∙◌, append_assoc, Option, Some, None, Result, Ok, Err}
use Rattle.std.specs.Prelude.{find, option_map}
use Rattle.std.specs.Option.{option_or}
use Rattle.std.specs.Str.{bytes_eq}
use Rattle.std.proofs.lemmas.Bool.{false≢true, false_from_ne_true}
use Rattle.std.proofs.lemmas.List.{drop_more, map_more}
use Rattle.std.proofs.lemmas.List.Folds.{find-append}
use Rattle.std.proofs.lemmas.Slice.Eq.{bytes_eq-Decides}
use Rattle.htmd_files.specs.Paths.{normal}
use Rattle.htmd_files.specs.FilePlans as spec
use Rattle.htmd_files.specs.declared.faults.PlanFault.{PlanFault}
use Rattle.htmd_files.specs.declared.faults.PlanFault.TheVariants.{Memory, Several, Folder, NoName, Outside, Shared}
use Rattle.htmd_files.specs.declared.faults.PlanFault.TheVariants.{Overwritten}
use Rattle.htmd_files.specs.declared.planning.Page as held
use Rattle.htmd_files.specs.declared.planning.Operand as held_operand
use Rattle.htmd_files.specs.PlanViews.{page_of, pages_of, operand_of, IsRefusal}

-- the pages that are left begin with this one
pub next_page : (pages : List held.Page) (i : ℕ) (page : held.Page) → i < length pages
    → page ≡ get_or pages i page
    → pages_of (drop i pages) ≡ page_of page ∷ pages_of (drop (i + 1) pages)
next_page pages i page l is =
    ap pages_of (drop_more pages i page l ∙ ap (λ (x : held.Page). x ∷ drop (i + 1) pages) (sym is))

-- the pages so far end with it
pub page_done : (pages : List held.Page) (i : ℕ) (page : held.Page) → i < length pages
    → page ≡ get_or pages i page
    → pages_of (take (i + 1) pages) ≡ pages_of (take i pages) ++ page_of page ∷ []
page_done pages i page l is =
    map_more page_of pages i page l
    ∙ ap (λ (x : held.Page). pages_of (take i pages) ++ page_of x ∷ []) (sym is)

-- ---- inputs that are outputs

abbrev pub at : List ℕ → spec.Page → Bool
at path page = bytes_eq path (normal page.output)

pub overwritten_step : (all : List spec.Page) (page : spec.Page) (pages left : List spec.Page) (path : List ℕ)
    (found : Option spec.Page) (whole : Option spec.Fault) → left ≡ page ∷ pages → path ≡ normal page.input
    → find (at path) all ≡ found → spec.overwritten_in all left ≡ whole
    → spec.overwritten_fault page found (spec.overwritten_in all pages) ≡ whole
overwritten_step all page pages left path found whole e n f so_far =
    ap (λ (x : Option spec.Page). spec.overwritten_fault page x (spec.overwritten_in all pages))
    (sym f ∙ ap (λ (x : List ℕ). find (at x) all) n)
    ∙ (ap (spec.overwritten_in all) (sym e) ∙ so_far)

-- ---- outputs of two pages

pub shared_step : (before : List spec.Page) (page : spec.Page) (pages left : List spec.Page) (path : List ℕ)
    (found : Option spec.Page) (whole : Option spec.Fault) → left ≡ page ∷ pages → path ≡ normal page.output
    → find (at path) before ≡ found → spec.shared_after before left ≡ whole
    → spec.shared_fault page found (spec.shared_after (before ++ page ∷ []) pages) ≡ whole
shared_step before page pages left path found whole e n f so_far =
    ap (λ (x : Option spec.Page). spec.shared_fault page x (spec.shared_after (before ++ page ∷ []) pages))
    (sym f ∙ ap (λ (x : List ℕ). find (at x) before) n)
    ∙ (ap (spec.shared_after before) (sym e) ∙ so_far)

none_after : (o : Option spec.Page) → option_or o None ≡ o
none_after None = refl
none_after (Some page) = refl

same_back : (a b : List ℕ) → bytes_eq a b ≡ false → bytes_eq b a ≡ false
same_back a b e =
    false_from_ne_true _ (λ t. false≢true (sym e ∙ (bytes_eq-Decides a b).1 (sym ((bytes_eq-Decides b a).0 t))))

either : {P : Type 0} (b : Bool) → (b ≡ true → P) → (b ≡ false → P) → P
either true f g = f refl
either false f g = g refl

-- one page more, at a path that had none
pub found_more : (before : List spec.Page) (page : spec.Page) (path : List ℕ) (f : List ℕ → Option spec.Page)
    → path ≡ normal page.output → ((q : List ℕ) → f q ≡ find (at q) before) → f path ≡ None
    → (q : List ℕ)
    → cond (bytes_eq path q) (Some page) (f q) ≡ find (at q) (before ++ page ∷ [])
found_more before page path f n h e q =
    let one : find (at q) (page ∷ []) ≡ cond (bytes_eq q path) (Some page) None =
    ap (λ (x : List ℕ). cond (bytes_eq q x) (Some page) None) (sym n) in
    let all : find (at q) (before ++ page ∷ []) ≡ option_or (f q) (cond (bytes_eq q path) (Some page) None) =
    find-append (at q) before (page ∷ [])
    ∙ (ap (λ (x : Option spec.Page). option_or x (find (at q) (page ∷ []))) (sym (h q))
    ∙ ap (option_or (f q)) one) in
    either (bytes_eq path q)
    (λ t.
    let s : path ≡ q = (bytes_eq-Decides path q).0 t in
    let b : bytes_eq q path ≡ true = (bytes_eq-Decides q path).1 (sym s) in
    let z : f q ≡ None = ap f (sym s) ∙ e in
    ap (λ (x : Bool). cond x (Some page) (f q)) t
    ∙ sym (all ∙ (ap (λ (x : Option spec.Page). option_or x (cond (bytes_eq q path) (Some page) None)) z
    ∙ ap (λ (x : Bool). cond x (Some page) None) b)))
    (λ t.
    ap (λ (x : Bool). cond x (Some page) (f q)) t
    ∙ sym (all ∙ (ap (λ (x : Bool). option_or (f q) (cond x (Some page) None)) (same_back path q t)
    ∙ none_after (f q))))

pub map_either : {X Y : Type 0} (h : X → Y) (b : Bool) (x : X) (o : Option X)
    → option_map h (cond b (Some x) o) ≡ cond b (Some (h x)) (option_map h o)
map_either h true x o = refl
map_either h false x o = refl

-- ---- pages of operands

pub next_operand : (out : spec.Destination) (operands : List held_operand.Operand) (i : ℕ)
    (operand : held_operand.Operand) (pages : List spec.Page) (whole : Result (List spec.Page) spec.Fault)
    → i < length operands → operand ≡ get_or operands i operand
    → spec.after pages (spec.pages_in out (map operand_of (drop i operands))) ≡ whole
    → spec.after pages (spec.and_then (spec.pages_of out (operand_of operand))
    (spec.pages_in out (map operand_of (drop (i + 1) operands)))) ≡ whole
next_operand out operands i operand pages whole l is so_far =
    let d : drop i operands ≡ operand ∷ drop (i + 1) operands =
    drop_more operands i operand l ∙ ap (λ (x : held_operand.Operand). x ∷ drop (i + 1) operands) (sym is) in
    ap (λ (x : List held_operand.Operand). spec.after pages (spec.pages_in out (map operand_of x))) (sym d) ∙ so_far

pub after_both : (pages : List spec.Page) (r rest : Result (List spec.Page) spec.Fault) (now : List spec.Page)
    → spec.after pages r ≡ Ok now → spec.after now rest ≡ spec.after pages (spec.and_then r rest)
after_both pages (Err f) rest now e = absurd (cc)
after_both pages (Ok more) (Err f) now e = refl
after_both pages (Ok more) (Ok others) now e =
    let n : pages ++ more ≡ now = cc in
    ap (λ (x : List spec.Page). Ok (x ++ others)) (sym n) ∙ ap Ok (append_assoc pages more others)

-- the fault of an operand is that of all
pub fault_of_pages : (pages : List spec.Page) (r rest whole : Result (List spec.Page) spec.Fault) (f : spec.Fault)
    → spec.after pages (spec.and_then r rest) ≡ whole → spec.fault_in r ≡ Some f
    → spec.fault_in whole ≡ Some f
fault_of_pages pages (Ok more) rest whole f so_far e = absurd (cc)
fault_of_pages pages (Err g) rest whole f so_far e = ap spec.fault_in (sym so_far) ∙ e

-- a fault elsewhere
pub refusal_goes : (r s : Option spec.Fault) (fault : PlanFault)
    → ((f : spec.Fault) → r ≡ Some f → s ≡ Some f)
    → IsRefusal r fault → IsRefusal s fault
refusal_goes r s Memory g h = h
refusal_goes r s (Several first second) g h = g _ h
refusal_goes r s (Folder folder) g h = g _ h
refusal_goes r s (NoName input) g h = g _ h
refusal_goes r s (Outside input output folder) g h = g _ h
refusal_goes r s (Shared first second output) g h = g _ h
refusal_goes r s (Overwritten input output) g h = g _ h
