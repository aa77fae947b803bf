-- Addresses that lead to pages of a run, as addresses of the outputs of these pages.
use Rattle.std.specs.Prelude.{ℕ, ◌-◌, Bool, false, not, ◌&&◌, ◌||◌, ◌==◌, if◌then◌else◌, List, [], ◌∷◌, ◌++◌}
use Rattle.std.specs.Prelude.{map, length, take, drop, Option, Some, None, option_and_then, option_map, codes}
use Rattle.std.specs.Char.{is_ascii_alphabetic, is_ascii_alphanumeric, is_ascii_whitespace}
use Rattle.std.specs.List.{flat_map, prefix_len, suffix_len}
use Rattle.std.specs.Option.{option_or, unwrap_or}
use Rattle.std.specs.Str.{bytes_eq}
use Rattle.htmd_lexical.specs.Characters.{backslash, colon, full_stop, hyphen, number_sign, plus_sign, question_mark}
use Rattle.htmd_lexical.specs.Characters.{slash}
use Rattle.htmd_nodes.specs.Items.{Item}
use Rattle.htmd_addresses.specs.AddressAttributes.{page_with}
use Rattle.htmd_addresses.specs.Addresses.{resolved_by}
use Rattle.htmd_addresses.specs.Paths.{Folder, above, folder_of, name_of, page_at, page_folder, page_folder_below}
use Rattle.htmd_addresses.specs.Paths.{plain_path, way}
use Rattle.htmd_addresses.specs.declared.leads.Start.{Start}
use Rattle.htmd_addresses.specs.declared.leads.Start.TheVariants as start
use Rattle.htmd_addresses.specs.declared.leads.TheConstants.{SEGMENT}
use Rattle.url.specs.Parts.{Parts}
use Rattle.percent_encoding.specs.Percent.{percent_decode, percent_encode}

-- a page of a run: the paths of its input and of its output
pub record PageValue : Type 0 where
  pub input : List ℕ
  pub output : List ℕ

-- a page by itself: the paths of its input and of its output, and its path in the folder that it was found below
pub record OwnPage : Type 0 where
  pub input : List ℕ
  pub output : List ℕ
  pub path_in_folder : Option (List ℕ)

-- a page of a run: the pages of that run, and the page by itself
pub record RunPage : Type 0 where
  pub pages : List PageValue
  pub own : OwnPage

-- the folders of a page: that in which its addresses are read and that of the root of its site, if they are known
pub record Folders : Type 0 where
  pub input : Option Folder
  pub root : Option Folder

-- the output of the first page whose input has this path
abbrev pub output_at : List PageValue → List ℕ → Option (List ℕ)
output_at [] path = None
output_at (page ∷ pages) path =
    if bytes_eq (plain_path page.input) path then Some page.output else output_at pages path

-- the output of the page whose input has this path, or else of the index of the folder with it
abbrev pub output_or_index : List PageValue → List ℕ → Option (List ℕ)
output_or_index pages path = option_or (output_at pages path) (output_at pages (path ++ codes "/index.html"))

-- ---- addresses

-- an address without white space before it
abbrev pub without_start : List ℕ → List ℕ
without_start address = drop (prefix_len is_ascii_whitespace address) address

-- an address without white space around it
abbrev pub trimmed : List ℕ → List ℕ
trimmed address =
    let rest = without_start address in
    take (length rest - suffix_len is_ascii_whitespace rest) rest

-- the path of an address ends where its query or its fragment begins (URL Standard, 4.3)
abbrev pub path_len : List ℕ → ℕ
path_len address = prefix_len (λ b. not ((b == question_mark) || (b == number_sign))) address

-- letters, digits, `+`, `-` and `.`, and then a colon
abbrev pub ends_scheme : List ℕ → Bool
ends_scheme [] = false
ends_scheme (b ∷ s) =
    (b == colon)
    || ((is_ascii_alphanumeric b || (b == plus_sign) || (b == hyphen) || (b == full_stop)) && ends_scheme s)

-- an address that begins with a scheme
abbrev pub has_scheme : List ℕ → Bool
has_scheme [] = false
has_scheme (b ∷ s) = is_ascii_alphabetic b && ends_scheme s

-- a backslash is a slash in addresses of files and of the Web
abbrev pub with_slash : ℕ → ℕ
with_slash b = if b == backslash then slash else b

abbrev pub begins_with_slash : List ℕ → Bool
begins_with_slash [] = false
begins_with_slash (b ∷ s) = with_slash b == slash

-- where a path begins that isn't empty: in its folder, at the root, or with a host
abbrev pub start_of_path : List ℕ → Start
start_of_path path =
    if length path == 0 then start.Elsewhere
    else if not (begins_with_slash path) then start.Folder
    else if begins_with_slash (drop 1 path) then start.Elsewhere else start.Root

-- the path of an address
abbrev pub path_part : List ℕ → List ℕ
path_part address = take (path_len address) address

-- where the path of an address begins
abbrev pub start_of : List ℕ → Start
start_of address = if has_scheme address then start.Elsewhere else start_of_path (path_part address)

-- the path of a file, in an address
abbrev pub file_path : List ℕ → List ℕ
file_path address = map with_slash (percent_decode (path_part address))

-- the folder of the page that a path leads to which begins there
abbrev pub folder_from : Start → Folders → List ℕ → Option Folder
folder_from start.Folder folders path = option_map (λ folder. page_folder folder path) folders.input
folder_from start.Root folders path = option_map (λ root. page_folder_below root path) folders.root
folder_from start.Elsewhere folders path = None

-- the output of the page that an address leads to, by where its path begins; none if that is in no known folder
abbrev pub output_for : List PageValue → Folders → List ℕ → Option (List ℕ)
output_for pages folders address =
    let path = file_path address in
    option_and_then (λ folder. output_or_index pages (page_at path folder))
    (folder_from (start_of address) folders path)

-- names as an address has them, each with a slash after it
abbrev pub escaped : Folder → List ℕ
escaped names = flat_map (λ name. percent_encode SEGMENT name ++ slash ∷ []) names

-- the address of a file, in the files of a folder
abbrev pub relative : Folder → List ℕ → List ℕ
relative from to = escaped (way from (folder_of to)) ++ percent_encode SEGMENT (name_of to)

-- the address of an output, with the query and the fragment of the address that led to its page; any other address is
-- absolute, if there is a base
abbrev pub lead_to : Folder → Option Parts → List ℕ → Option (List ℕ) → List ℕ → List ℕ
lead_to folder base address None ending = resolved_by base address
lead_to folder base address (Some output) ending = relative folder output ++ ending

-- what an address becomes in a page whose output is in this folder
abbrev pub lead : List PageValue → Folders → (output : Folder) → Option Parts → List ℕ → List ℕ
lead pages folders output base address =
    let inner = trimmed address in
    lead_to output base address (output_for pages folders inner) (drop (path_len inner) inner)

-- ---- bases

-- the root of a site is the folder that its page was found below, unless a URL says where the site is
abbrev pub root_of : OwnPage → Option Parts → Option Folder
root_of own None = option_map (λ path. above (folder_of path) (folder_of own.input)) own.path_in_folder
root_of own (Some url) = None

-- where the path of a base begins; an empty one is that of its page's folder
abbrev pub base_start : List ℕ → Start
base_start base = if path_len base == 0 then start.Folder else start_of base

-- the folders by the one in which addresses are read: no root is known if that isn't
abbrev pub folders_with : Option Folder → Option Folder → Folders
folders_with root None = record { input = None; root = None }
folders_with root (Some input) = record { input = Some input; root = root }

-- the folders of a page with this base, which is read in the first ones
abbrev pub folders_by : Folders → List ℕ → Folders
folders_by first base = folders_with first.root (folder_from (base_start base) first (file_path base))

-- the folders of a page that names no base
abbrev pub first_folders : OwnPage → Option Parts → Folders
first_folders own base = record { input = Some (folder_of own.input); root = root_of own base }

-- the folders of a page that names this base; one that names none is as one with an empty base
abbrev pub folders_of : OwnPage → Option Parts → Option (List ℕ) → Folders
folders_of own base named = folders_by (first_folders own base) (trimmed (unwrap_or named []))

-- ---- pages

-- the page that names this base, with addresses that lead to outputs, and others that are absolute if there is a URL
abbrev pub led_page : List PageValue → OwnPage → Option Parts → Option (List ℕ) → List Item → List Item
led_page pages own base named items =
    page_with (lead pages (folders_of own base named) (folder_of own.output) base) items
