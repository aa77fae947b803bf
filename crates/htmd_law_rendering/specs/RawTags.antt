-- Raw tags in lines, as one who sees a text takes them: which begin an element, end one, or are a break.
use Rattle.std.specs.Prelude.{ℕ, if◌then◌else◌, List, [], ◌∷◌, codes, Option, Some, None}
use Rattle.std.specs.Str.{bytes_eq}
use Rattle.htmd_lexical.specs.AttributePairs.{AttributePair}
use Rattle.htmd_document.specs.Formats.{Format, Abbreviation}
use Rattle.htmd_document.specs.Tags.{end_of_anchor}
use Rattle.htmd_commonmark_reading.specs.Anchors.{anchor_id}
use Rattle.htmd_commonmark_reading.specs.SeenMarkup.{Pair, format_pair, code_pair, Role, opens, closes, breaks, stays, role}
use Rattle.htmd_law_rendering.specs.SpelledTrees.{TagForm, spaced, slashed, short}

pub data RawTag : Type 0 where
  opening : (name : List ℕ) (attributes : List AttributePair) → RawTag
  closing : (name : List ℕ) → RawTag
  breaking : (form : TagForm) → RawTag
  unknown : RawTag

abbrev pub pair : List ℕ → List ℕ → AttributePair
pair name value = record { name = name; value = value }

abbrev pub pairs_of_format : Format → List AttributePair
pairs_of_format (Abbreviation title) = pair (codes "title") title ∷ []
pairs_of_format f = []

abbrev pub pairs_of : Pair → List AttributePair
pairs_of (format_pair f) = pairs_of_format f
pairs_of code_pair = []

abbrev pub form_of_break : List ℕ → TagForm
form_of_break s =
    if bytes_eq s (codes "<br>") then short else if bytes_eq s (codes "<br/>") then slashed else spaced

-- one that isn't of an anchor
abbrev pub tag_by_role : List ℕ → Role → RawTag
tag_by_role s (opens t) = opening t.name (pairs_of t.pair)
tag_by_role s (closes t) = closing t.name
tag_by_role s breaks = breaking (form_of_break s)
tag_by_role s stays = unknown

abbrev pub tag_by_id : Option (List ℕ) → List ℕ → RawTag
tag_by_id (Some id) s = opening (codes "a") (pair (codes "id") id ∷ [])
tag_by_id None s = if bytes_eq s end_of_anchor then closing (codes "a") else tag_by_role s (role s)

abbrev pub raw_tag : List ℕ → RawTag
raw_tag s = tag_by_id (anchor_id s) s
