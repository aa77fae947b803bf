-- What becomes of an element, by what is asked.
use Rattle.std.specs.Prelude.{ℕ, Bool, false, not, ◌||◌, ◌&&◌, if◌then◌else◌, List, [], ◌∷◌, ◌++◌, filter}
use Rattle.std.specs.Prelude.{Option, Some, None, codes}
use Rattle.std.specs.List.{list_all}
use Rattle.std.specs.Str.{bytes_eq, chars}
use Rattle.htmd_lexical.specs.AttributePairs.{AttributePair}
use Rattle.htmd_nodes.specs.NumberedTrees.{text, NumberedForest, none, more}
use Rattle.htmd_shown.specs.Attributes.{text_of, value_of, address, leads_to_part}
use Rattle.htmd_shown.specs.ClassWords.{has_class, wiki_words}
use Rattle.htmd_shown.specs.Embeds.{embedding_names, is_unseen, text_or}
use Rattle.htmd_shown.specs.Images.{is_image, image_address, is_data}
use Rattle.htmd_shown.specs.Marks.{is_usual_sign}
use Rattle.htmd_shown.specs.Roles.{is_among}
use Rattle.htmd_shown.specs.ShownTexts.{is_blank_character}
use Rattle.htmd_trimming.specs.declared.asked.Asked.{Asked}
use Rattle.htmd_trimming.specs.declared.asked.Images.{Images}
use Rattle.htmd_trimming.specs.declared.asked.Images.TheVariants as images
use Rattle.htmd_trimming.specs.Hidden.{is_hidden}
use Rattle.htmd_trimming.specs.Formulas.{is_formula}

pub data Fate : Type 0 where
  gone : Fate
  said : (s : List ℕ) → Fate
  kept : (attributes : List AttributePair) → Fate

-- ---- images

-- the address has a file in itself
abbrev pub holds_file : Option (List ℕ) → Bool
holds_file None = false
holds_file (Some s) = is_data (address s)

-- what an image says stands in its place
abbrev pub alternative : List AttributePair → Fate
alternative attributes = said (text_of (codes "alt") attributes)

-- source: what a picture gives the image
abbrev pub image_fate : Images → Option (List ℕ) → List AttributePair → Fate
image_fate images.Keep source attributes = kept attributes
image_fate images.Linked source attributes =
    if holds_file (image_address attributes source) then alternative attributes else kept attributes
image_fate images.Alt source attributes = alternative attributes
image_fate images.Drop source attributes = gone

-- ---- links

abbrev pub has_href : List ℕ → Bool
has_href name = bytes_eq name (codes "a") || bytes_eq name (codes "area")

-- the attribute that says where an element leads
abbrev pub leading_attribute : List ℕ → Option (List ℕ)
leading_attribute name =
    if has_href name then Some (codes "href")
    else (if bytes_eq name (codes "object") then Some (codes "data") else None)

abbrev pub is_lost : Option (List ℕ) → AttributePair → Bool
is_lost None attribute = false
is_lost (Some name) attribute = bytes_eq attribute.name name

abbrev pub without : Option (List ℕ) → List AttributePair → List AttributePair
without lost attributes = filter (λ a. not (is_lost lost a)) attributes

-- the title of what is embedded, else its label; it may not be seen
abbrev pub embedded_text : List AttributePair → List ℕ
embedded_text attributes =
    if is_unseen attributes then []
    else text_or (text_of (codes "title") attributes) (text_of (codes "aria-label") attributes)

-- ---- signs that link a heading to itself

abbrev pub is_sign_or_blank : ℕ → Bool
is_sign_or_blank c = is_usual_sign c || is_blank_character c

-- one text of usual signs
abbrev pub is_sign_alone : NumberedForest → Bool
is_sign_alone (more (text id s) none) = list_all is_sign_or_blank (chars s)
is_sign_alone _ = false

-- a link of such signs to a part of the page
abbrev pub is_sign_link : List ℕ → List AttributePair → NumberedForest → Bool
is_sign_link name attributes children =
    bytes_eq name (codes "a") && leads_to_part (value_of (codes "href") attributes) && is_sign_alone children

-- its class says in place of its address that it is a permalink, if it stands in a heading
abbrev pub sign_attributes : List AttributePair → List AttributePair
sign_attributes attributes =
    without (Some (codes "class")) (without (Some (codes "href")) attributes)
    ++ record { name = codes "class"; value = codes "headerlink" } ∷ []

-- ---- elements

-- hidden elements, but for those that hold a formula, and elements `title`, each if that is asked for
abbrev pub goes : Asked → List ℕ → List AttributePair → NumberedForest → Bool
goes asked name attributes children =
    (asked.visible && is_hidden attributes && not (is_formula children))
    || (asked.untitled && bytes_eq name (codes "title"))

-- an image, but for MediaWiki's of a formula, of which documents show the formula itself
abbrev pub is_shown_image : List ℕ → List AttributePair → Bool
is_shown_image name attributes = is_image name attributes && not (has_class wiki_words attributes)

-- what leads elsewhere, where links are asked for as text
abbrev pub leading_fate : List ℕ → List AttributePair → NumberedForest → Fate
leading_fate name attributes children =
    if is_among embedding_names name then said (embedded_text attributes)
    else if is_sign_link name attributes children then kept (sign_attributes attributes)
    else kept (without (leading_attribute name) attributes)

abbrev pub staying_fate : Asked → Option (List ℕ) → List ℕ → List AttributePair → NumberedForest → Fate
staying_fate asked source name attributes children =
    if is_shown_image name attributes then image_fate asked.images source attributes
    else if asked.links_as_text then leading_fate name attributes children else kept attributes

-- an element that is gone takes along what is below it, and so does a text in its place
abbrev pub fate_for : Asked → Option (List ℕ) → List ℕ → List AttributePair → NumberedForest → Fate
fate_for asked source name attributes children =
    if goes asked name attributes children then gone else staying_fate asked source name attributes children
