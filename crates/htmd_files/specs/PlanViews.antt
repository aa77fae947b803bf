-- What operands, pages and plans stand for.
use Rattle.std.specs.Prelude.{◌≡◌, ℕ, List, map, find, Option, Some, option_map, string_bytes}
use Rattle.std.specs.Borrow.{Bor}
use Rattle.std.specs.BTreeMap.{BTreeMap, get_by_text}
use Rattle.std.specs.Str.{bytes_eq}
use Rattle.std.specs.declared.alloc.Global.{Global}
use Rattle.std.specs.declared.string.String.{String}
use Rattle.htmd_files.specs.declared.faults.PlanFault as held_fault
use Rattle.htmd_files.specs.declared.faults.PlanFault.TheVariants as fault
use Rattle.htmd_files.specs.declared.planning.Operand as held_operand
use Rattle.htmd_files.specs.declared.planning.Operand.TheVariants as operand
use Rattle.htmd_files.specs.declared.planning.Destination as held_destination
use Rattle.htmd_files.specs.declared.planning.Page as held_page
use Rattle.htmd_files.specs.declared.planning.FilePlan as held_plan
use Rattle.htmd_files.specs.declared.planning.FilePlan.TheVariants as held
use Rattle.htmd_files.specs.NameViews.{naming_of}
use Rattle.htmd_files.specs.Paths.{normal}
use Rattle.htmd_files.specs.FilePlans as spec
use Rattle.htmd_files.specs.WordViews.{texts_of}

abbrev pub operand_of : held_operand.Operand → spec.Operand
operand_of operand.StandardInput = spec.standard_input
operand_of (operand.File path) = spec.file (string_bytes path)
operand_of (operand.Folder path files) = spec.folder (string_bytes path) (texts_of files.items)

abbrev pub destination_of : held_destination.Destination → spec.Destination
destination_of out = record {
  path = out.path.now;
  is_folder = out.is_folder;
  naming = naming_of out.naming;
  copies = out.copies;
}

abbrev pub page_of : held_page.Page → spec.Page
page_of page = record {
  input = string_bytes page.input;
  output = string_bytes page.output;
  path_in_folder = option_map (λ path. string_bytes path) page.path_in_folder;
  is_copy = page.is_copy;
}

abbrev pub pages_of : List held_page.Page → List spec.Page
pages_of pages = map page_of pages

abbrev pub plan_in : held_plan.FilePlan → spec.FilePlan
plan_in (held.StandardOutput input) = spec.standard_output (string_bytes input)
plan_in (held.Files pages) = spec.files (pages_of pages.items)

-- the fault is out of memory, or this one
abbrev pub IsRefusal : Option spec.Fault → held_fault.PlanFault → Type 0
IsRefusal r fault.Memory = Unit {0}
IsRefusal r (fault.Several first second) = r ≡ Some (spec.several (string_bytes first) (string_bytes second))
IsRefusal r (fault.Folder folder) = r ≡ Some (spec.only_folder (string_bytes folder))
IsRefusal r (fault.NoName input) = r ≡ Some (spec.no_name (string_bytes input))
IsRefusal r (fault.Outside input output folder) =
    r ≡ Some (spec.outside (string_bytes input) (string_bytes output) (string_bytes folder))
IsRefusal r (fault.Shared first second output) =
    r ≡ Some (spec.shared (string_bytes first) (string_bytes second) (string_bytes output))
IsRefusal r (fault.Overwritten input output) =
    r ≡ Some (spec.overwritten (string_bytes input) (string_bytes output))

abbrev pub Outputs : Type 0
Outputs = BTreeMap (String Global) (Bor held_page.Page)

-- the first page with this output, by each output
abbrev pub HoldsOutputs : List spec.Page → Outputs → Type 0
HoldsOutputs pages outputs = (path : List ℕ)
    → option_map (λ page. page_of page.now) (get_by_text outputs path)
    ≡ find (λ page. bytes_eq path (normal page.output)) pages
