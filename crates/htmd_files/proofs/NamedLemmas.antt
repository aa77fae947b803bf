-- How the outputs of several pages are named.
use Rattle.std.proofs.Common.{Bool, true, false, not, ◌&&◌, ◌||◌}
use Rattle.std.proofs.lemmas.Bool.{false≢true}
use Rattle.std.proofs.Common.{◌≡◌, ◌<◌, ℕ, List, [], ◌∷◌, ◌++◌, length, map, refl, sym, ap, ◌∙◌, subst, append_assoc}
use Rattle.std.proofs.Common.{arith, Option, Some, None, Result, Ok, Err}
use Rattle.std.specs.Prelude.{codes, filter, find, unwrap_or}
use Rattle.std.specs.List.{AllByRecursion}
use Rattle.std.proofs.lemmas.List.Elements.{All-from_recursion}
use Rattle.htmd_files.specs.Names.{Kind, is_hidden, is_page, is_unfinished, page_stem, with_extension}
use Rattle.htmd_files.specs.Paths.{Place, place, below, file_name, is_below, is_within, slash_after}
use Rattle.htmd_files.specs.FilePlans.{Operand, Destination, Page, FilePlan, Fault, standard_input, file, folder}
use Rattle.htmd_files.specs.FilePlans.{is_outside, if_below, pages_at, pages_to, names_folder, single_input, named_page}
use Rattle.htmd_files.specs.FilePlans.{pages_of, pages_in, pages_among, page_below, and_then, output_fault, if_apart}
use Rattle.htmd_files.specs.FilePlans.{comes_before, copies_among, copy_below, in_order, is_copied, placed}
use Rattle.htmd_files.specs.FilePlans.{plan}
use Rattle.htmd_files.specs.Promises.{pages_in as written, HasExtension, IsNamed, AreNamed}
use Rattle.htmd_files.proofs.UnfinishedLemmas.{finished_below}
use Rattle.htmd_files.proofs.PromisesLemmas.{either, not_outside, pages_or_none, no_pages, not_refused}

abbrev Named : Destination → List Page → Type 0
Named out pages = AllByRecursion (IsNamed out.naming.extension) pages

-- a page whose output is named after a path
named_below : (out : Destination) (path : List ℕ) (page : Page)
    → page.output ≡ below out.path (with_extension out.naming path) → HasExtension out.naming.extension page
named_below out path page e =
    let stem = unwrap_or (page_stem out.naming.kind path) path in
    let folder = out.path ++ slash_after out.path in (
      folder ++ stem,
      e ∙ sym (append_assoc folder (stem ++ codes ".") out.naming.extension)
          ∙ ap (λ name. name ++ out.naming.extension) (sym (append_assoc folder stem (codes "."))),
    )

named_folder : (out : Destination) (from : List ℕ) (paths : List (List ℕ))
    → Named out (map (page_below out from) paths)
named_folder out from [] = tt
named_folder out from (path ∷ paths) =
    (named_below out path (page_below out from path) refl, named_folder out from paths)

-- the files that are copied have no names of unfinished outputs
abbrev IsFinished : List ℕ → Type 0
IsFinished path = is_unfinished path ≡ false

finished_placed : (path : List ℕ) (paths : List (List ℕ)) → IsFinished path → AllByRecursion IsFinished paths
    → AllByRecursion IsFinished (placed path paths)
finished_placed path [] e h = (e, tt)
finished_placed path (first ∷ others) e (f, h) =
    either (comes_before first path)
    (λ t. rw t (f, finished_placed path others e h))
    (λ t. rw t (e, (f, h)))

finished_in_order : (paths : List (List ℕ)) → AllByRecursion IsFinished paths
    → AllByRecursion IsFinished (in_order paths)
finished_in_order [] h = tt
finished_in_order (path ∷ paths) (e, h) = finished_placed path (in_order paths) e (finished_in_order paths h)

neither : (a b c : Bool) → (not (a || b) && c) ≡ true → b ≡ false
neither true b c e = absurd (false≢true e)
neither false true c e = absurd (false≢true e)
neither false false c e = refl

finished_copied : (kind : Kind) (holds : Bool) (out : Place) (from : List ℕ) (paths : List (List ℕ))
    → AllByRecursion IsFinished (filter (is_copied kind holds out from) paths)
finished_copied kind holds out from [] = tt
finished_copied kind holds out from (path ∷ paths) =
    either (is_copied kind holds out from path)
    (λ t. rw t (
      neither (is_page kind path) (is_unfinished path)
          (not (is_hidden path || (holds && is_below out (place (below from path))))) t,
      finished_copied kind holds out from paths,
    ))
    (λ t. rw t (finished_copied kind holds out from paths))

finished_among : (out : Destination) (from : List ℕ) (paths : List (List ℕ))
    → AllByRecursion IsFinished (copies_among out from paths)
finished_among out from paths =
    let kind = out.naming.kind in
    let copied = filter (is_copied kind (is_within from out.path) (place out.path) from) paths in
    either out.copies
    (λ t. rw t (finished_in_order copied (finished_copied kind (is_within from out.path) (place out.path) from paths)))
    (λ t. rw t tt)

named_copies : (out : Destination) (from : List ℕ) (paths : List (List ℕ)) → AllByRecursion IsFinished paths
    → Named out (map (copy_below out from) paths)
named_copies out from [] h = tt
named_copies out from (path ∷ paths) (e, h) = (finished_below out.path path e, named_copies out from paths h)

named_append : (out : Destination) (xs ys : List Page) → Named out xs → Named out ys → Named out (xs ++ ys)
named_append out [] ys p q = q
named_append out (x ∷ xs) ys (p, ps) q = (p, named_append out xs ys ps q)

named_file : (out : Destination) (path : List ℕ) (name : Option (List ℕ)) (pages : List Page)
    → named_page out path name ≡ Ok pages → Named out pages
named_file out path None pages e = absurd (cc)
named_file out path (Some name) pages e =
    let page : Page = record {
      input = path;
      output = below out.path (with_extension out.naming name);
      path_in_folder = None;
      is_copy = false;
    } in
    let same : page ∷ [] ≡ pages = cc in
    subst (Named out) same (named_below out name page refl, tt)

named_of : (out : Destination) (operand : Operand) (pages : List Page) → pages_of out operand ≡ Ok pages
    → Named out pages
named_of out standard_input pages e = absurd (cc)
named_of out (file path) pages e = named_file out path (file_name (place path)) pages e
named_of out (folder from paths) pages e =
    let named = pages_among out.naming.kind paths in
    let read = map (page_below out from) named in
    let copied = map (copy_below out from) (copies_among out from paths) in
    let same : read ++ copied ≡ pages = cc in
    subst (Named out) same (named_append out read copied (named_folder out from named)
    (named_copies out from (copies_among out from paths) (finished_among out from paths)))

-- what is made of something has such names
abbrev Gives : Destination → Result (List Page) Fault → Type 0
Gives out r = (pages : List Page) → r ≡ Ok pages → Named out pages

named_both : (out : Destination) (a b : Result (List Page) Fault) → Gives out a → Gives out b
    → Gives out (and_then a b)
named_both out (Err f) b p q pages e = absurd (cc)
named_both out (Ok xs) (Err f) p q pages e = absurd (cc)
named_both out (Ok xs) (Ok ys) p q pages e =
    let same : xs ++ ys ≡ pages = cc in
    subst (Named out) same (named_append out xs ys (p xs refl) (q ys refl))

named_in : (out : Destination) (operands : List Operand) → Gives out (pages_in out operands)
named_in out [] pages e =
    let same : [] ≡ pages = cc in
    subst (Named out) same tt
named_in out (operand ∷ operands) pages e =
    named_both out (pages_of out operand) (pages_in out operands) (named_of out operand) (named_in out operands) pages e

named_checked : (out : Destination) (r : Result (List Page) Fault) → Gives out r → Gives out (if_below out.path r)
named_checked out (Err f) g pages e = absurd (cc)
named_checked out (Ok before) g pages e =
    subst (Named out) (not_outside out.path before pages (find (is_outside out.path) before) e).1 (g before refl)

named_at : (out : Destination) (operands : List Operand) (o : Option (List ℕ)) (pages : List Page)
    → 1 < length pages → pages_at out operands o ≡ Ok pages → Named out pages
named_at out operands None pages l e =
    named_checked out (pages_in out operands) (named_in out operands) pages e
named_at out operands (Some path) pages l e =
    either (names_folder out)
    (λ t. let z = rw t at e in
    named_checked out (pages_in out operands) (named_in out operands) pages z)
    (λ t. let z = rw t at e in
    let page : Page = record { input = path; output = out.path; path_in_folder = None; is_copy = false } in
    let same : page ∷ [] ≡ pages = cc in
    let one : 1 ≡ length pages = ap length same in
    absurd (omega (arith, one, l)))

files_named : (out : Destination) (operands : List Operand) (r : Result (List Page) Fault) (made : FilePlan)
    → pages_to out operands ≡ r → if_apart r ≡ Ok made → AreNamed (Some out) (written made)
files_named out operands (Err f) made s e l = absurd (cc)
files_named out operands (Ok pages) made s e l =
    let same = (not_refused (output_fault pages) pages made e).1 in
    let several : 1 < length pages = subst (λ ps. 1 < length ps) (sym same) l in
    All-from_recursion (IsNamed out.naming.extension) (written made)
    (subst (Named out) same (named_at out operands (single_input operands) pages several s))

pub plan_named : (operands : List Operand) (out : Option Destination) (made : FilePlan)
    → plan operands out ≡ Ok made → AreNamed out (written made)
plan_named operands None made e = sym (sym (no_pages operands) ∙ ap pages_or_none e)
plan_named operands (Some out) made e = files_named out operands (pages_to out operands) made refl e
