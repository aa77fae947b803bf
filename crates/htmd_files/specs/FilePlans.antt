-- The plan: which pages are read and which files are copied, in which order, and where the output of each is written.
use Rattle.std.specs.Prelude.{ℕ, Bool, true, false, not, ◌||◌, ◌&&◌, if◌then◌else◌, List, [], ◌∷◌, ◌++◌, map, filter}
use Rattle.std.specs.Prelude.{find}
use Rattle.std.specs.Prelude.{codes, Option, Some, None, Result, Ok, Err}
use Rattle.std.specs.Cmp.Lexicographic.{slice_cmp}
use Rattle.std.specs.Ordering.{nat_cmp, is_lt}
use Rattle.htmd_files.specs.Names.{Kind, Naming, is_hidden, is_page, is_unfinished, with_extension}
use Rattle.htmd_files.specs.Paths.{Place, place, is_same, is_below, is_within, file_name, below, ends_with_slash}

-- what the file system has where an operand leads: nothing for standard input; a file; or a folder, and the paths of
-- all files below it
pub data Operand : Type 0 where
  standard_input : Operand
  file : List ℕ → Operand
  folder : List ℕ → List (List ℕ) → Operand

-- what `-o` names, whether that is a folder which is there, which files of a folder are pages and how outputs in one
-- are
-- named, and whether files that are no pages are copied
pub record Destination : Type 0 where
  pub path : List ℕ
  pub is_folder : Bool
  pub naming : Naming
  pub copies : Bool

-- a page, or a file that is copied: the path that is read and the one that is written, and if it was found below a
-- folder, its path from there
pub record Page : Type 0 where
  pub input : List ℕ
  pub output : List ℕ
  pub path_in_folder : Option (List ℕ)
  pub is_copy : Bool

-- an input to standard output, or pages to files
pub data FilePlan : Type 0 where
  standard_output : List ℕ → FilePlan
  files : List Page → FilePlan

-- why there is none: several inputs or a folder to standard output; an input without a name for its output; an output
-- outside the folder; two inputs with one output; an output that is an input
pub data Fault : Type 0 where
  several : List ℕ → List ℕ → Fault
  only_folder : List ℕ → Fault
  no_name : List ℕ → Fault
  outside : List ℕ → List ℕ → List ℕ → Fault
  shared : List ℕ → List ℕ → List ℕ → Fault
  overwritten : List ℕ → List ℕ → Fault

-- why there is no result
abbrev pub fault_in : {A : Type 0} → Result A Fault → Option Fault
fault_in (Ok x) = None
fault_in (Err fault) = Some fault

-- ---- the order of pages

-- in the order of bytes
abbrev pub comes_before : List ℕ → List ℕ → Bool
comes_before a b = is_lt (slice_cmp nat_cmp a b)

-- among paths in order
abbrev pub placed : List ℕ → List (List ℕ) → List (List ℕ)
placed path [] = path ∷ []
placed path (first ∷ others) =
    if comes_before first path then first ∷ placed path others else path ∷ first ∷ others

abbrev pub in_order : List (List ℕ) → List (List ℕ)
in_order [] = []
in_order (path ∷ paths) = placed path (in_order paths)

-- the pages among the files of a folder
abbrev pub pages_among : Kind → List (List ℕ) → List (List ℕ)
pages_among kind paths = in_order (filter (is_page kind) paths)

-- a file of a folder is copied: it is no page, no unfinished output, not hidden, and not below the output, if that is
-- in the folder
abbrev pub is_copied : Kind → Bool → Place → List ℕ → List ℕ → Bool
is_copied kind holds_output out from path =
    not (is_page kind path || is_unfinished path)
    && not (is_hidden path || (holds_output && is_below out (place (below from path))))

-- the files of a folder that are copied
abbrev pub copies_among : Destination → List ℕ → List (List ℕ) → List (List ℕ)
copies_among out from paths =
    if out.copies
    then in_order (filter (is_copied out.naming.kind (is_within from out.path) (place out.path) from) paths) else []

-- ---- pages below a folder

-- a page of a folder: its output has the same path below what `-o` names
abbrev pub page_below : Destination → List ℕ → List ℕ → Page
page_below out from path = record {
  input = below from path;
  output = below out.path (with_extension out.naming path);
  path_in_folder = Some path;
  is_copy = false;
}

-- a file of a folder that is copied has the same path below what `-o` names
abbrev pub copy_below : Destination → List ℕ → List ℕ → Page
copy_below out from path = record {
  input = below from path;
  output = below out.path path;
  path_in_folder = Some path;
  is_copy = true;
}

-- a page whose output is named after it
abbrev pub named_page : Destination → List ℕ → Option (List ℕ) → Result (List Page) Fault
named_page out path None = Err (no_name path)
named_page out path (Some name) = Ok (record {
  input = path;
  output = below out.path (with_extension out.naming name);
  path_in_folder = None;
  is_copy = false;
} ∷ [])

abbrev pub pages_of : Destination → Operand → Result (List Page) Fault
pages_of out standard_input = Err (no_name (codes "-"))
pages_of out (file path) = named_page out path (file_name (place path))
pages_of out (folder from paths) =
    Ok (map (page_below out from) (pages_among out.naming.kind paths)
    ++ map (copy_below out from) (copies_among out from paths))

abbrev pub after : List Page → Result (List Page) Fault → Result (List Page) Fault
after pages (Ok others) = Ok (pages ++ others)
after pages (Err fault) = Err fault

abbrev pub and_then : Result (List Page) Fault → Result (List Page) Fault → Result (List Page) Fault
and_then (Ok pages) others = after pages others
and_then (Err fault) others = Err fault

-- the pages of operands, in order
abbrev pub pages_in : Destination → List Operand → Result (List Page) Fault
pages_in out [] = Ok []
pages_in out (operand ∷ operands) = and_then (pages_of out operand) (pages_in out operands)

-- ---- what is refused

abbrev pub is_outside : List ℕ → Page → Bool
is_outside out page = not (is_below (place out) (place page.output))

abbrev pub unless_outside : List ℕ → List Page → Option Page → Result (List Page) Fault
unless_outside out pages None = Ok pages
unless_outside out pages (Some page) = Err (outside page.input page.output out)

-- the pages, unless an output is outside the folder: the first one that is, is named
abbrev pub if_below : List ℕ → Result (List Page) Fault → Result (List Page) Fault
if_below out (Ok pages) = unless_outside out pages (find (is_outside out) pages)
if_below out (Err fault) = Err fault

abbrev pub writes_to : List ℕ → Page → Bool
writes_to path page = is_same path page.output

-- the first page whose output is that of one before it
abbrev pub shared_fault : Page → Option Page → Option Fault → Option Fault
shared_fault page None others = others
shared_fault page (Some first) others = Some (shared first.input page.input page.output)

abbrev pub shared_after : List Page → List Page → Option Fault
shared_after before [] = None
shared_after before (page ∷ pages) =
    shared_fault page (find (writes_to page.output) before) (shared_after (before ++ page ∷ []) pages)

-- the first page whose input is an output
abbrev pub overwritten_fault : Page → Option Page → Option Fault → Option Fault
overwritten_fault page None others = others
overwritten_fault page (Some writer) others = Some (overwritten page.input writer.output)

abbrev pub overwritten_in : List Page → List Page → Option Fault
overwritten_in all [] = None
overwritten_in all (page ∷ pages) =
    overwritten_fault page (find (writes_to page.input) all) (overwritten_in all pages)

abbrev pub or_fault : Option Fault → Option Fault → Option Fault
or_fault None second = second
or_fault (Some fault) second = Some fault

abbrev pub output_fault : List Page → Option Fault
output_fault pages = or_fault (shared_after [] pages) (overwritten_in pages pages)

abbrev pub unless : Option Fault → List Page → Result FilePlan Fault
unless None pages = Ok (files pages)
unless (Some fault) pages = Err fault

-- the pages, unless one is written over another, or over an input
abbrev pub if_apart : Result (List Page) Fault → Result FilePlan Fault
if_apart (Ok pages) = unless (output_fault pages) pages
if_apart (Err fault) = Err fault

-- ---- the plan

abbrev pub path_of : Operand → List ℕ
path_of standard_input = codes "-"
path_of (file path) = path
path_of (folder path paths) = path

-- without `-o`: the only input goes to standard output
abbrev pub only_input : List Operand → Result FilePlan Fault
only_input [] = Ok (standard_output (codes "-"))
only_input (standard_input ∷ []) = Ok (standard_output (codes "-"))
only_input (file path ∷ []) = Ok (standard_output path)
only_input (folder path paths ∷ []) = Err (only_folder path)
only_input (first ∷ second ∷ others) = Err (several (path_of first) (path_of second))

-- what `-o` names is a folder: one is there, or it ends with a slash
abbrev pub names_folder : Destination → Bool
names_folder out = out.is_folder || ends_with_slash out.path

abbrev pub pages_below : Destination → List Operand → Result (List Page) Fault
pages_below out operands = if_below out.path (pages_in out operands)

-- what is read, unless it is a folder
abbrev pub input_path : Operand → Option (List ℕ)
input_path standard_input = Some (codes "-")
input_path (file path) = Some path
input_path (folder path paths) = None

abbrev pub single_input : List Operand → Option (List ℕ)
single_input [] = None
single_input (operand ∷ []) = input_path operand
single_input (first ∷ second ∷ others) = None

-- with `-o`: a single file is written to what it names, unless that is a folder
abbrev pub pages_at : Destination → List Operand → Option (List ℕ) → Result (List Page) Fault
pages_at out operands None = pages_below out operands
pages_at out operands (Some path) =
    if names_folder out then pages_below out operands
    else Ok (record { input = path; output = out.path; path_in_folder = None; is_copy = false } ∷ [])

abbrev pub pages_to : Destination → List Operand → Result (List Page) Fault
pages_to out operands = pages_at out operands (single_input operands)

abbrev pub plan : List Operand → Option Destination → Result FilePlan Fault
plan operands None = only_input operands
plan operands (Some out) = if_apart (pages_to out operands)
