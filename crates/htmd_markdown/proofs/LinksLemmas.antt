-- Where the address stands in a link or image.
use Rattle.std.proofs.Common.{◌≡◌, ℕ, Bool, true, false, cond, List, ◌++◌, append_assoc, codes, Option, Some, None}
use Rattle.std.specs.Str.{bytes_eq}
use Rattle.htmd_markdown.specs.Addresses.{escaped_address}
use Rattle.htmd_markdown.specs.Titles.{description}
use Rattle.htmd_markdown.specs.Links.{in_brackets, resource_start, resource_end, image, image_start, link_text}
use Rattle.htmd_markdown.specs.Links.{white_space_behind, inline_link, inline_link_start, inline_link_end, autolink}

regrouped : (a b c d : List ℕ) → a ++ (b ++ c ++ d) ≡ (a ++ b) ++ c ++ d
regrouped a b c d = simp append_assoc

pub image-parts : (address : List ℕ) (alt title : Option (List ℕ))
    → image address alt title ≡ image_start address alt
    ++ escaped_address address ++ resource_end address title
image-parts address alt title = regrouped (codes "!" ++ in_brackets (description alt)) (resource_start address)
    (escaped_address address) (resource_end address title)

regrouped_behind : (a b c d e : List ℕ) → a ++ (b ++ c ++ d) ++ e ≡ (a ++ b) ++ c ++ (d ++ e)
regrouped_behind a b c d e = simp append_assoc

pub inline_link-parts : (content address : List ℕ) (title : Option (List ℕ))
    → inline_link content address title ≡ inline_link_start content address ++ escaped_address address
    ++ inline_link_end content address title
inline_link-parts content address title = regrouped_behind (link_text content) (resource_start address)
    (escaped_address address) (resource_end address title) (white_space_behind content)

some_of : (test : Bool) (link text : List ℕ) → Some text ≡ cond test (Some link) None → text ≡ link
some_of true link text e = cc
some_of false link text e = cc

pub autolink-parts : (content address text : List ℕ) → Some text ≡ autolink content address
    → text ≡ codes "<" ++ escaped_address address ++ codes ">"
autolink-parts content address text e = some_of (bytes_eq content (escaped_address address))
    (codes "<" ++ escaped_address address ++ codes ">") text e
