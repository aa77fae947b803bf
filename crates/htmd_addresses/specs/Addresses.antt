-- Addresses against a base, and a page whose addresses are absolute.
use Rattle.std.specs.Prelude.{ℕ, Bool, false, ◌==◌, if◌then◌else◌, List, [], ◌∷◌, Option, Some, None, Ok, Err}
use Rattle.htmd_lexical.specs.Characters.{number_sign}
use Rattle.htmd_nodes.specs.Items.{Item}
use Rattle.htmd_addresses.specs.AddressAttributes.{page_with}
use Rattle.url.specs.Parts.{Parts, serialize}
use Rattle.url.specs.Parser.{Parsed, parse_url}

-- the URL that was read; an address that is none stays
abbrev pub address_of : List ℕ → Parsed Parts → List ℕ
address_of address (Ok url) = serialize url
address_of address (Err e) = address

-- an address that is a fragment alone, which leads into the page itself
abbrev pub is_fragment : List ℕ → Bool
is_fragment [] = false
is_fragment (b ∷ s) = b == number_sign

-- an address against a base (URL Standard, 4.4 and 4.5)
abbrev pub joined : Parts → List ℕ → List ℕ
joined base address = address_of address (parse_url (Some base) address)

-- the same, but one that leads into the page itself stays
abbrev pub resolved : Parts → List ℕ → List ℕ
resolved base address = if is_fragment address then address else joined base address

-- the same, if there is a base
abbrev pub resolved_by : Option Parts → List ℕ → List ℕ
resolved_by None address = address
resolved_by (Some base) address = resolved base address

-- the page with absolute addresses
abbrev pub absolute_page : Parts → List Item → List Item
absolute_page base items = page_with (resolved base) items
