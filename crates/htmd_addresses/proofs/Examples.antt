-- Worked rows: paths in their one form, addresses that lead to pages of a run, those of pages in a folder, and the
-- addresses in attributes and sets.
use Rattle.std.proofs.Common.{◌≡◌, ℕ, List, [], ◌∷◌, ◌++◌, Option, None, Some, codes, refl}
use Rattle.percent_encoding.specs.AsciiSet.{should_percent_encode}
use Rattle.percent_encoding.specs.Percent.{percent_decode, percent_encode, percent_encode_byte}
use Rattle.url.specs.Parts.{Parts}
use Rattle.htmd_addresses.specs.AddressAttributes.{value_with}
use Rattle.htmd_addresses.specs.AddressSets.{set_with}
use Rattle.htmd_addresses.specs.Addresses.{resolved}
use Rattle.htmd_addresses.specs.Leads.{OwnPage, PageValue, folders_of, lead, relative, root_of}
use Rattle.htmd_addresses.specs.Paths.{folder_of, plain_path}

same-path : plain_path (codes "./site//a/../b.html") ≡ codes "site/b.html"
same-path = refl

-- what is above the folder where the program runs stays
above-path : plain_path (codes "../../a/b.html") ≡ codes "../../a/b.html"
above-path = refl

root-path : plain_path (codes "/../a.html") ≡ codes "/a.html"
root-path = refl

-- a path that ends with a slash is that of no file
folder-path : plain_path (codes "site/a.html/") ≡ codes "site/a.html/"
folder-path = refl

-- a page of the folder `site`
abbrev own : List ℕ → List ℕ → OwnPage
own path output = record {
  input = codes "site/" ++ path;
  output = output;
  path_in_folder = Some path;
}

abbrev first : OwnPage
first = own (codes "a.html") (codes "out/a.md")

abbrev second : OwnPage
second = own (codes "b/c d.html") (codes "out/b/c d.md")

abbrev value : OwnPage → PageValue
value page = record { input = page.input; output = page.output }

abbrev pages : List PageValue
pages = value first ∷ value second ∷ []

-- what an address becomes in a page that names this base, or none
abbrev by : List PageValue → OwnPage → Option (List ℕ) → List ℕ → List ℕ
by pages page base = lead pages (folders_of page None base) (folder_of page.output) None

down : by pages first None (codes "b/c%20d.html?x=1#y") ≡ codes "b/c%20d.md?x=1#y"
unfolding percent_decode percent_encode percent_encode_byte should_percent_encode
down = refl

up : by pages second None (codes " ../a.html ") ≡ codes "../a.md"
unfolding percent_decode percent_encode percent_encode_byte should_percent_encode
up = refl

-- `\` is a slash in addresses
backslash : by pages first None (codes "b\\c d.html") ≡ codes "b/c%20d.md"
unfolding percent_decode percent_encode percent_encode_byte should_percent_encode
backslash = refl

-- a folder leads to its index, also by `..`
abbrev index : PageValue
index = value (own (codes "b/index.html") (codes "out/b/index.md"))

abbrev with_index : List PageValue
with_index = index ∷ pages

down_to_index : by with_index first None (codes "b/#y") ≡ codes "b/index.md#y"
unfolding percent_decode percent_encode percent_encode_byte should_percent_encode
down_to_index = refl

folder_to_index : by with_index first None (codes "b?x=1#y") ≡ codes "b/index.md?x=1#y"
unfolding percent_decode percent_encode percent_encode_byte should_percent_encode
folder_to_index = refl

-- a page counts before an index
page_before_index : by (record { input = codes "site/b"; output = codes "out/b.md" } ∷ with_index)
    first None (codes "b") ≡ codes "b.md"
unfolding percent_decode percent_encode percent_encode_byte should_percent_encode
page_before_index = refl

up_to_index : by with_index (own (codes "b/e/f.html") (codes "out/b/e/f.md")) None (codes "..") ≡ codes "../index.md"
unfolding percent_decode percent_encode percent_encode_byte should_percent_encode
up_to_index = refl

without_index : by pages first None (codes "b/") ≡ codes "b/"
unfolding percent_decode
without_index = refl

-- no page, another host, a scheme, a part of the same page
others : by pages first None (codes "c.html") ≡ codes "c.html"
unfolding percent_decode
others = refl

host : by pages first None (codes "//a.html") ≡ codes "//a.html"
host = refl

scheme : by pages first None (codes "x:a.html") ≡ codes "x:a.html"
scheme = refl

fragment : by pages first None (codes "#y") ≡ codes "#y"
fragment = refl

-- by a base in a folder, and above one
by_base : by pages first (Some (codes " b/x?y ")) (codes "c%20d.html#z") ≡ codes "b/c%20d.md#z"
unfolding percent_decode percent_encode percent_encode_byte should_percent_encode
by_base = refl

by_base_above : by pages second (Some (codes "..")) (codes "a.html") ≡ codes "../a.md"
unfolding percent_decode percent_encode percent_encode_byte should_percent_encode
by_base_above = refl

-- a base without a path says nothing
empty_base : folders_of second None (Some (codes "#x")) ≡ folders_of second None None
empty_base = refl

-- no address leads to a page by a base with a scheme or a host
scheme_base : folders_of first None (Some (codes "x:b/")) ≡ record { input = None; root = None }
scheme_base = refl

host_base : folders_of first None (Some (codes "//b/")) ≡ record { input = None; root = None }
host_base = refl

-- a base at the root of the site, which is the folder that the page was found below
root_base : by pages second (Some (codes "/")) (codes "a.html") ≡ codes "../a.md"
unfolding percent_decode percent_encode percent_encode_byte should_percent_encode
root_base = refl

-- an address from the root, above which there is nothing
from_root : by pages second None (codes "/../a.html#y") ≡ codes "../a.md#y"
unfolding percent_decode percent_encode percent_encode_byte should_percent_encode
from_root = refl

-- only of a page that was found below a folder, and where no URL is known
no_root : root_of (record second { path_in_folder = None }) None ≡ None
no_root = refl

url_known : (url : Parts) → root_of second (Some url) ≡ None
url_known url = refl

-- a page of a folder, whose path is escaped name by name: none is read as a scheme or a query
in_folder : relative [] (codes "a b/c:d?.html") ≡ codes "a%20b/c%3Ad%3F.html"
unfolding percent_decode percent_encode percent_encode_byte should_percent_encode
in_folder = refl

-- it stays with a base too
absolute-fragment : (base : Parts) → resolved base (codes "#y") ≡ codes "#y"
absolute-fragment base = refl

-- ---- attributes and sets, with addresses in brackets

abbrev marked : List ℕ → List ℕ
marked address = codes "<" ++ (address ++ codes ">")

-- the value of an attribute of an element
abbrev held : (element name address : List ℕ) → List ℕ
held element name address = value_with marked element (record { name = name; value = address })

of_link : held (codes "area") (codes "href") [] ≡ codes "<>"
of_link = refl

of_base : held (codes "base") (codes "href") (codes "a") ≡ codes "a"
of_base = refl

of_late : held (codes "img") (codes "data-src") (codes "a") ≡ codes "<a>"
of_late = refl

-- an empty address is that of no file
of_nothing : held (codes "img") (codes "src") [] ≡ []
of_nothing = refl

of_object : held (codes "object") (codes "data") (codes "a") ≡ codes "<a>"
of_object = refl

of_other : held (codes "p") (codes "data") (codes "a") ≡ codes "a"
of_other = refl

of_source : held (codes "source") (codes "srcset") (codes "a, b 2x") ≡ codes "<a>, <b> 2x"
of_source = refl

-- a comma in parentheses ends no candidate, nor does one in an address
candidates : set_with marked (codes " ,a,b 1x (,) ,c,, d") ≡ codes " ,<a,b> 1x (,) ,<c>,, <d>"
candidates = refl

no_candidate : set_with marked (codes " , ") ≡ codes " , "
no_candidate = refl

-- a parenthesis that stays open
open_candidate : set_with marked (codes "a (1x, b") ≡ codes "<a> (1x, b"
open_candidate = refl
