-- Links, images, autolinks and link reference definitions (CommonMark 0.31.2, 6.3 to 6.5 and 4.7).
use Rattle.std.specs.Prelude.{ℕ, if◌then◌else◌, List, ◌++◌, Option, Some, None, codes}
use Rattle.std.specs.Fmt.{decimal}
use Rattle.std.specs.Str.{bytes_eq}
use Rattle.htmd_lexical.specs.WhiteSpace.{is_document_white_space}
use Rattle.htmd_text.specs.Trims.{trimmed_text, trimmed_start, cut_end}
use Rattle.htmd_markdown.specs.Addresses.{escaped_address, opening_bracket, closing_bracket}
use Rattle.htmd_markdown.specs.Titles.{description, title_text}
use Rattle.htmd_markdown.specs.declared.link.LinkReferenceStyle.{LinkReferenceStyle}
use Rattle.htmd_markdown.specs.declared.link.LinkReferenceStyle.TheVariants.{Full, Collapsed, Shortcut}

abbrev pub in_brackets : List ℕ → List ℕ
in_brackets text = codes "[" ++ text ++ codes "]"

-- what comes before an address in parentheses, and after it
abbrev pub resource_start : List ℕ → List ℕ
resource_start address = codes "(" ++ opening_bracket address

abbrev pub resource_end : List ℕ → Option (List ℕ) → List ℕ
resource_end address title = closing_bracket address ++ title_text title ++ codes ")"

-- the address and the title in parentheses
abbrev pub resource : List ℕ → Option (List ℕ) → List ℕ
resource address title = resource_start address ++ escaped_address address ++ resource_end address title

abbrev pub image : List ℕ → Option (List ℕ) → Option (List ℕ) → List ℕ
image address alt title = codes "!" ++ in_brackets (description alt) ++ resource address title

-- what comes before the address of an image
abbrev pub image_start : List ℕ → Option (List ℕ) → List ℕ
image_start address alt = codes "!" ++ in_brackets (description alt) ++ resource_start address

-- Document white space at the start of the content goes, and at its end stands after the link.
abbrev pub link_text : List ℕ → List ℕ
link_text content = in_brackets (trimmed_text is_document_white_space content)

abbrev pub white_space_behind : List ℕ → List ℕ
white_space_behind content = cut_end is_document_white_space (trimmed_start is_document_white_space content)

abbrev pub inline_link : List ℕ → List ℕ → Option (List ℕ) → List ℕ
inline_link content address title = link_text content ++ resource address title ++ white_space_behind content

-- what comes before the address of such a link, and after it
abbrev pub inline_link_start : List ℕ → List ℕ → List ℕ
inline_link_start content address = link_text content ++ resource_start address

abbrev pub inline_link_end : List ℕ → List ℕ → Option (List ℕ) → List ℕ
inline_link_end content address title = resource_end address title ++ white_space_behind content

-- an autolink, if the content is the address as it is written
abbrev pub autolink : List ℕ → List ℕ → Option (List ℕ)
autolink content address =
    if bytes_eq content (escaped_address address) then Some (codes "<" ++ escaped_address address ++ codes ">")
    else None

-- a reference to the definition of this number, or to that whose label is the content
abbrev pub reference : LinkReferenceStyle → ℕ → List ℕ → List ℕ
reference Full number content = in_brackets content ++ in_brackets (decimal number)
reference Collapsed number content = in_brackets content ++ codes "[]"
reference Shortcut number content = in_brackets content

-- the label by which a reference names its definition
abbrev pub label : LinkReferenceStyle → ℕ → List ℕ → List ℕ
label Full number content = decimal number
label Collapsed number content = content
label Shortcut number content = content

abbrev pub definition_start : LinkReferenceStyle → ℕ → List ℕ → List ℕ
definition_start style number content = in_brackets (label style number content) ++ codes ": "

-- the line that defines the address and the title of a reference
abbrev pub definition : LinkReferenceStyle → ℕ → List ℕ → List ℕ → Option (List ℕ) → List ℕ
definition style number content address title =
    definition_start style number content ++ escaped_address address ++ title_text title
