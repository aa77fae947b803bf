-- What the program makes of the bytes of a page, by what its options ask for.
use Rattle.std.specs.Prelude.{◌≡◌, ℕ, if◌then◌else◌, List, ◌++◌, map, Option, None, Some, option_and_then, option_map}
use Rattle.std.specs.Prelude.{MatchBool, codes, string_bytes}
use Rattle.std.specs.Borrow.{Bor}
use Rattle.std.specs.Option.{option_or}
use Rattle.std.specs.Str.{bytes_eq}
use Rattle.htmd.specs.PageOutputs.{IsOutputOf}
use Rattle.htmd_addresses.specs.Leads.{OwnPage, PageValue, RunPage}
use Rattle.htmd_addresses.specs.RunViews.{pages_in}
use Rattle.htmd_addresses.specs.declared.pages.Pages.{Pages}
use Rattle.htmd_cli.specs.Options.{Request, sets, url_in_folder}
use Rattle.htmd_cli.specs.Rows.{rows_of}
use Rattle.htmd_cli.specs.StreamConversions.{ending}
use Rattle.htmd.specs.PageSettings.{PageInRun, Settings, alone, settings_for}
use Rattle.url.specs.Parts.{Parts}
use Rattle.htmd_files.specs.declared.planning.Page.{Page}
use Rattle.htmd_files.specs.Words.{Job}

-- this is what the bytes become, with its ending
abbrev pub IsPageResult : Settings → List ℕ → List ℕ → Type 0
IsPageResult settings bytes written =
    (output : List ℕ) × IsOutputOf settings bytes output × (written ≡ output ++ ending settings)

-- this is written for the bytes: the answers to their rows, or what the page becomes
abbrev pub IsResultOf : Request → List ℕ → List ℕ → Type 0
IsResultOf request bytes written =
    MatchBool request.rows (rows_of request.settings bytes written) (IsPageResult request.settings bytes written)

-- a page as addresses find it
abbrev pub value_of : Page → PageValue
value_of page = record { input = string_bytes page.input; output = string_bytes page.output }

-- the pages of a plan that addresses lead to, if the job says so
abbrev pub pages_led_to : Job → List Page → Option (List PageValue)
pages_led_to asked pages = if asked.links_to_markdown then Some (map value_of pages) else None

-- the path of a page in the folder that it was found below
abbrev pub path_in_folder : Page → Option (List ℕ)
path_in_folder page = option_map (λ path. string_bytes path) page.path_in_folder

-- the pages that are kept of a run, if addresses lead to them
abbrev pub pages_led : Option (Bor Pages) → Option (List PageValue)
pages_led kept = option_map (λ pages. pages_in pages.now) kept

-- the URL of a page that was found below a folder, if that of the folder is known
abbrev pub own_url : Option Parts → Page → Option Parts
own_url base page = option_and_then (url_in_folder base) (path_in_folder page)

-- the path of an input, unless it is standard input
abbrev pub given_name : List ℕ → Option (List ℕ)
given_name path = if bytes_eq path (codes "-") then None else Some path

-- what a page is called: by its path in the folder that it was found below, or as it was named itself
abbrev pub name_of : Page → Option (List ℕ)
name_of page = option_or (path_in_folder page) (given_name (string_bytes page.input))

-- a page by itself, as addresses are read in it
abbrev pub own_page : Page → OwnPage
own_page page = record {
  input = string_bytes page.input;
  output = string_bytes page.output;
  path_in_folder = path_in_folder page;
}

-- a page as one of a run, if addresses lead to its pages
abbrev pub run_page_in : Option (List PageValue) → Page → Option RunPage
run_page_in pages page = option_map (λ pages. record { pages = pages; own = own_page page }) pages

-- what a run adds for one of its pages
abbrev pub in_run : Option (List PageValue) → Page → Settings → PageInRun
in_run pages page settings = record {
  url = own_url settings.base page;
  name = name_of page;
  run_page = run_page_in pages page;
}

-- a page by itself, which has this name
abbrev pub named : List ℕ → PageInRun
named name = record alone { name = Some name }

-- what is asked for of a file that is converted to standard output; rows are pages of their own
abbrev pub request_for_file : List ℕ → Request → Request
request_for_file name request =
    sets (λ settings. if request.rows then settings else settings_for (named name) settings) request

-- what is asked for of a page that holds no rows
abbrev pub page_request : Option (List PageValue) → Page → Request → Request
page_request pages page request = sets (settings_for (in_run pages page request.settings)) request

-- what is asked for of a page; rows are pages of their own
abbrev pub request_for : Option (List PageValue) → Page → Request → Request
request_for pages page request = if request.rows then request else page_request pages page request
