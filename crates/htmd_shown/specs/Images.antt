-- Images: the address that counts, of a page that loads them late.
use Rattle.std.specs.Prelude.{ℕ, Bool, not, ◌||◌, ◌&&◌, ◌==◌, if◌then◌else◌, List, [], ◌∷◌, codes}
use Rattle.std.specs.Prelude.{take, Option, Some, None}
use Rattle.std.specs.Option.{option_or}
use Rattle.std.specs.Str.{bytes_eq}
use Rattle.htmd_lexical.specs.Characters.{comma}
use Rattle.htmd_lexical.specs.AttributePairs.{AttributePair}
use Rattle.htmd_nodes.specs.NumberedTrees.{element, NumberedForest, none, more}
use Rattle.htmd_text.specs.Trims.{trimmed_text}
use Rattle.htmd_shown.specs.Attributes.{value_of, text_of, words, lower, address, is_filled}

-- an address that has a file in itself
abbrev pub is_data : List ℕ → Bool
is_data s = bytes_eq (lower (take 5 s)) (codes "data:")

-- the address isn't empty, and no data
abbrev pub is_file : List ℕ → Bool
is_file s = is_filled (address s) && not (is_data (address s))

-- the address, if it is that of a file
abbrev pub file_in : Option (List ℕ) → Option (List ℕ)
file_in None = None
file_in (Some s) = if is_file s then Some s else None

abbrev pub is_comma : ℕ → Bool
is_comma b = b == comma

-- a word without the commas at its ends, if it is more than these
abbrev pub candidate_in : List ℕ → Option (List ℕ)
candidate_in word = if is_filled (trimmed_text is_comma word) then Some (trimmed_text is_comma word) else None

abbrev pub candidate_among : List (List ℕ) → Option (List ℕ)
candidate_among [] = None
candidate_among (word ∷ rest) = option_or (candidate_in word) (candidate_among rest)

-- the first of a set of addresses
abbrev pub first_candidate : List ℕ → Option (List ℕ)
first_candidate s = candidate_among (words s)

-- of the sets of an element
abbrev pub candidate_at : List ℕ → List AttributePair → Option (List ℕ)
candidate_at name attributes = first_candidate (text_of name attributes)

-- what a source of a picture gives
abbrev pub source_of : List AttributePair → Option (List ℕ)
source_of attributes =
    option_or (candidate_at (codes "data-srcset") attributes) (candidate_at (codes "srcset") attributes)

-- of the first `source` among these
abbrev pub first_source : NumberedForest → Option (List ℕ)
first_source none = None
first_source (more (element id name attributes children) trees) =
    if bytes_eq name (codes "source") then source_of attributes else first_source trees
first_source (more tree trees) = first_source trees

-- what a `picture` gives the first `img` in it
abbrev pub picture_source : List ℕ → NumberedForest → Option (List ℕ)
picture_source name children = if bytes_eq name (codes "picture") then first_source children else None

abbrev pub file_of_attributes : List AttributePair → Option (List ℕ)
file_of_attributes attributes =
    option_or (file_in (value_of (codes "src") attributes))
    (option_or (file_in (value_of (codes "data-src") attributes))
    (option_or (file_in (value_of (codes "data-original") attributes))
    (file_in (value_of (codes "data-lazy-src") attributes))))

abbrev pub file_of_sets : List AttributePair → Option (List ℕ)
file_of_sets attributes =
    option_or (file_in (candidate_at (codes "data-srcset") attributes))
    (file_in (candidate_at (codes "srcset") attributes))

-- the first address of a file, source being what a picture gives, else `src` as it is
abbrev pub image_address : List AttributePair → Option (List ℕ) → Option (List ℕ)
image_address attributes source =
    option_or (file_of_attributes attributes)
    (option_or (file_of_sets attributes)
    (option_or (file_in source) (value_of (codes "src") attributes)))

-- an `img`, or an `input` that is one
abbrev pub is_image : List ℕ → List AttributePair → Bool
is_image name attributes =
    bytes_eq name (codes "img")
    || (bytes_eq name (codes "input") && bytes_eq (lower (text_of (codes "type") attributes)) (codes "image"))
