-- The base of a page: what its first `base` with an address says (HTML, 2.4.3).
use Rattle.std.specs.Prelude.{ℕ, Bool, not, ◌||◌, if◌then◌else◌, List, Option, Some, None, Ok, Err, codes}
use Rattle.std.specs.Option.{option_or, unwrap_or}
use Rattle.std.specs.Str.{bytes_eq}
use Rattle.htmd_lexical.specs.AttributePairs.{AttributePair}
use Rattle.htmd_values.specs.ValueTrees.{ValueTree, document, doctype, text, comment, element}
use Rattle.htmd_values.specs.ValueTrees.{ValueForest, none, more}
use Rattle.htmd_nodes.specs.AttributeValues.{value_of}
use Rattle.htmd_nodes.specs.Items.{Item}
use Rattle.htmd_nodes.specs.NumberedTrees.{value_at}
use Rattle.url.specs.Parts.{Parts}
use Rattle.url.specs.Parser.{Parsed, parse_url}

-- the value of the first `href` of a `base`
abbrev pub own_base : List ℕ → List AttributePair → Option (List ℕ)
own_base name attributes = if bytes_eq name (codes "base") then value_of (codes "href") attributes else None

abbrev mutual
  -- the address of the first `base` that has one, in document order
  pub first_base : ValueForest → Option (List ℕ)
  first_base none = None
  first_base (more tree trees) = option_or (base_in tree) (first_base trees)

  pub base_in : ValueTree → Option (List ℕ)
  base_in (document children) = first_base children
  base_in doctype = None
  base_in (text s) = None
  base_in (comment s) = None
  base_in (element name attributes children) = option_or (own_base name attributes) (first_base children)

-- the address of the base that a page names
abbrev pub base_address : List Item → Option (List ℕ)
base_address items = base_in (value_at items 0)

-- a base that counts (HTML, 4.2.3)
abbrev pub is_usable : Parts → Bool
is_usable url = not (bytes_eq url.scheme (codes "data") || bytes_eq url.scheme (codes "javascript"))

-- the URL that was read, if it may be a base
abbrev pub usable : Parsed Parts → Option Parts
usable (Ok url) = if is_usable url then Some url else None
usable (Err e) = None

-- an address of the page's own against its URL
abbrev pub base_by : Parts → Option (List ℕ) → Option Parts
base_by url None = None
base_by url (Some address) = usable (parse_url (Some url) address)

-- the base that a page at a URL names, if it names one that counts
abbrev pub named_base : Parts → List Item → Option Parts
named_base url items = base_by url (base_address items)

-- the base of a page at a URL: the one that it names, or else the URL
abbrev pub page_base : Parts → List Item → Parts
page_base url items = unwrap_or (named_base url items) url
