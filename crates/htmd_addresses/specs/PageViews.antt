-- What a page of a run is, and what is kept of the pages of a run.
use Rattle.std.specs.Prelude.{ℕ, List, map, Option, Vec, string_bytes}
use Rattle.std.specs.Borrow.{Bor}
use Rattle.std.specs.BTreeMap.{BTreeMap, get_by}
use Rattle.std.specs.Cmp.Lexicographic.{slice_cmp}
use Rattle.std.specs.List.{slice_get}
use Rattle.std.specs.Option.{option_and_then, option_map}
use Rattle.std.specs.Ordering.{nat_cmp}
use Rattle.std.specs.declared.alloc.Global.{Global}
use Rattle.htmd_addresses.specs.Leads.{PageValue}
use Rattle.htmd_addresses.specs.Paths.{Folder}
use Rattle.htmd_addresses.specs.declared.pages.Page.{Page}

abbrev pub page_of : Page → PageValue
page_of page = record { input = string_bytes page.input; output = string_bytes page.output }

abbrev pub pages_of : List Page → List PageValue
pages_of pages = map page_of pages

-- names that are borrowed
abbrev pub names_of : List (Bor (List ℕ)) → Folder
names_of names = map (λ name. name.now) names

-- the output of the page at a place
abbrev pub output_there : List Page → ℕ → Option (List ℕ)
output_there pages place = option_map (λ page. string_bytes page.output) (slice_get pages place)

-- the output of the page whose place is kept at a path
abbrev pub output_in : List Page → BTreeMap (Vec ℕ Global) ℕ → List ℕ → Option (List ℕ)
output_in pages places path =
    option_and_then (output_there pages) (get_by (λ key. slice_cmp nat_cmp path key.items) places)
