-- The pages of a run, one of them, and its folders.
use Rattle.std.specs.Prelude.{ℕ, List, Option, Vec, option_map}
use Rattle.std.specs.Borrow.{Bor}
use Rattle.std.specs.Option.{option_copied}
use Rattle.std.specs.declared.alloc.Global.{Global}
use Rattle.htmd_addresses.specs.Leads.{Folders, OwnPage, PageValue, RunPage}
use Rattle.htmd_addresses.specs.PageViews.{names_of, pages_of}
use Rattle.htmd_addresses.specs.Paths.{Folder}
use Rattle.htmd_addresses.specs.declared.leads.Folders as folders
use Rattle.htmd_addresses.specs.declared.leads.RunPage as held
use Rattle.htmd_addresses.specs.declared.pages.Pages.{Pages}

-- the pages of a run, in order
abbrev pub pages_in : Pages → List PageValue
pages_in pages = pages_of pages.pages.items

-- a page of a run, by itself
abbrev pub own_of : held.RunPage → OwnPage
own_of page = record {
  input = page.input.now;
  output = page.output.now;
  path_in_folder = option_copied page.path_in_folder;
}

-- a page of a run
abbrev pub run_page_of : held.RunPage → RunPage
run_page_of page = record { pages = pages_in page.pages.now; own = own_of page }

-- a folder that may be known
abbrev pub folder_in : Option (Vec (Bor (List ℕ)) Global) → Option Folder
folder_in folder = option_map (λ names. names_of names.items) folder

-- the folders of a page
abbrev pub folders_in : folders.Folders → Folders
folders_in held = record { input = folder_in held.input; root = folder_in held.root }
