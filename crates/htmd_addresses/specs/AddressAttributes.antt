-- The attributes that hold addresses, and those with other addresses.
use Rattle.std.specs.Prelude.{ℕ, Bool, not, ◌&&◌, ◌||◌, ◌==◌, if◌then◌else◌, List, map, length, codes}
use Rattle.std.specs.Str.{bytes_eq}
use Rattle.htmd_lexical.specs.AttributePairs.{AttributePair}
use Rattle.htmd_nodes.specs.Items.{Item}
use Rattle.htmd_selectors.specs.Rewriting.{rewritten_page}
use Rattle.htmd_addresses.specs.AddressSets.{Resolution, set_with}

-- elements that can be images
abbrev pub is_image : List ℕ → Bool
is_image element = bytes_eq element (codes "img") || bytes_eq element (codes "input")

-- where the address of an image is kept until it is loaded
abbrev pub is_late : List ℕ → Bool
is_late name =
    bytes_eq name (codes "data-src") || bytes_eq name (codes "data-original")
    || bytes_eq name (codes "data-lazy-src")

-- the attribute of an element is the address of a file
abbrev pub is_of_file : List ℕ → List ℕ → Bool
is_of_file element name =
    bytes_eq name (codes "src") || (is_image element && is_late name)
    || (bytes_eq element (codes "object") && bytes_eq name (codes "data"))

-- the attribute of an element is the address of a link; that of a `base` is none
abbrev pub is_of_link : List ℕ → List ℕ → Bool
is_of_link element name = bytes_eq name (codes "href") && not (bytes_eq element (codes "base"))

-- the value is an address; an empty one leads to the page itself, and to no file
abbrev pub is_address : List ℕ → AttributePair → Bool
is_address element a =
    is_of_link element a.name || (is_of_file element a.name && not (length a.value == 0))

-- the attribute of an element is a set of addresses
abbrev pub is_set : List ℕ → List ℕ → Bool
is_set element name =
    (is_image element || bytes_eq element (codes "source"))
    && (bytes_eq name (codes "srcset") || bytes_eq name (codes "data-srcset"))

-- the value of an attribute of an element
abbrev pub value_with : Resolution → List ℕ → AttributePair → List ℕ
value_with to element a =
    if is_address element a then to a.value
    else (if is_set element a.name then set_with to a.value else a.value)

-- an attribute of an element
abbrev pub attribute_with : Resolution → List ℕ → AttributePair → AttributePair
attribute_with to element a = record { name = a.name; value = value_with to element a }

-- the attributes of an element
abbrev pub attributes_with : Resolution → List ℕ → List AttributePair → List AttributePair
attributes_with to element attributes = map (attribute_with to element) attributes

-- a page with other addresses
abbrev pub page_with : Resolution → List Item → List Item
page_with to items = rewritten_page (attributes_with to) items
