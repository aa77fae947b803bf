-- What is embedded: its address, and the text of the link that leads there.
use Rattle.std.specs.Prelude.{ℕ, Bool, true, false, not, ◌||◌, ◌&&◌, ◌==◌, if◌then◌else◌, List, [], ◌∷◌}
use Rattle.std.specs.Prelude.{codes, take, drop, Option, Some, None, ℤ, pos, negsuc}
use Rattle.std.specs.Char.{is_ascii_alphabetic, is_ascii_alphanumeric}
use Rattle.std.specs.List.{prefix_len}
use Rattle.std.specs.Option.{option_or}
use Rattle.std.specs.Str.{bytes_eq}
use Rattle.htmd_lexical.specs.Characters.{colon, plus_sign, full_stop, hyphen}
use Rattle.htmd_lexical.specs.AttributePairs.{AttributePair}
use Rattle.htmd_nodes.specs.NumberedTrees.{element, NumberedForest, none, more}
use Rattle.htmd_shown.specs.Spaces.{is_blank_text}
use Rattle.htmd_shown.specs.Attributes.{text_of, has_attribute, number_at, lower, address, is_to_part, in_line}
use Rattle.htmd_shown.specs.Roles.{is_among}
use Rattle.htmd_shown.specs.ShownTexts.{shown_text}

-- ---- addresses

abbrev pub is_scheme_character : ℕ → Bool
is_scheme_character b = is_ascii_alphanumeric b || (b == plus_sign) || (b == full_stop) || (b == hyphen)

-- a letter begins it, and a colon ends it (RFC 3986, 3.1)
abbrev pub scheme_before : List ℕ → List ℕ → Option (List ℕ)
scheme_before scheme [] = None
scheme_before [] (b ∷ rest) = None
scheme_before (a ∷ scheme) (b ∷ rest) =
    if is_ascii_alphabetic a && (b == colon) then Some (a ∷ scheme) else None

abbrev pub scheme_of : List ℕ → Option (List ℕ)
scheme_of s =
    scheme_before (take (prefix_len is_scheme_character s) s) (drop (prefix_len is_scheme_character s) s)

-- no scheme, or one of pages
abbrev pub is_for_pages : Option (List ℕ) → Bool
is_for_pages None = true
is_for_pages (Some scheme) = is_among (codes "http" ∷ codes "https" ∷ []) (lower scheme)

-- an address of http or https, or a relative one that leads elsewhere
abbrev pub is_place : List ℕ → Bool
is_place s = not (is_blank_text (shown_text s)) && not (is_to_part s) && is_for_pages (scheme_of s)

-- the address of a value, if it is such a one
abbrev pub place_of : List ℕ → Option (List ℕ)
place_of s = if is_place (address s) then Some (address s) else None

-- ---- elements

abbrev pub address_name : List ℕ → List ℕ
address_name name = if bytes_eq name (codes "object") then codes "data" else codes "src"

-- the address of the first `source` among these
abbrev pub source_place : NumberedForest → Option (List ℕ)
source_place none = None
source_place (more (element id name attributes children) trees) =
    if bytes_eq name (codes "source") then place_of (text_of (codes "src") attributes) else source_place trees
source_place (more tree trees) = source_place trees

abbrev pub has_sources : List ℕ → Bool
has_sources name = is_among (codes "video" ∷ codes "audio" ∷ []) name

-- its own, and of `video` and `audio` also the address of their first source
abbrev pub embedded_address : List ℕ → List AttributePair → NumberedForest → Option (List ℕ)
embedded_address name attributes children =
    option_or (place_of (text_of (address_name name) attributes))
    (if has_sources name then source_place children else None)

abbrev pub is_tiny : Option ℤ → Bool
is_tiny None = false
is_tiny (Some (pos n)) = (n == 0) || (n == 1)
is_tiny (Some (negsuc n)) = false

-- hidden, or as wide or high as nothing
abbrev pub is_unseen : List AttributePair → Bool
is_unseen attributes =
    has_attribute (codes "hidden") attributes || is_tiny (number_at (codes "width") attributes)
    || is_tiny (number_at (codes "height") attributes)

-- a text, or the other where it is blank
abbrev pub text_or : List ℕ → List ℕ → List ℕ
text_or s other = if is_blank_text s then other else s

-- its title, else its label, else its address, each in one line
abbrev pub embedded_title : List AttributePair → List ℕ → List ℕ
embedded_title attributes place =
    text_or (in_line (text_of (codes "title") attributes))
    (text_or (in_line (text_of (codes "aria-label") attributes)) (in_line place))

-- what is embedded: its address, and the text of the link that leads there
pub record Embedding : Type 0 where
  pub address : List ℕ
  pub title : List ℕ

abbrev pub embedding : List AttributePair → Option (List ℕ) → Option Embedding
embedding attributes None = None
embedding attributes (Some place) =
    if is_unseen attributes then None
    else Some (record { address = place; title = embedded_title attributes place })

-- what an element embeds, if that is to be seen
abbrev pub embedding_of : List ℕ → List AttributePair → NumberedForest → Option Embedding
embedding_of name attributes children = embedding attributes (embedded_address name attributes children)

-- elements that embed, but for `object`, which can have content of its own
abbrev pub embedding_names : List (List ℕ)
embedding_names = codes "iframe" ∷ codes "video" ∷ codes "audio" ∷ codes "embed" ∷ []
