-- The part of a page that is converted: what is between the tags of its body. A tag counts wherever it stands.
use Rattle.std.specs.Prelude.{◌≡◌, ℕ, suc, ◌-◌, Bool, false, not, ◌&&◌, ◌||◌, ◌==◌, if◌then◌else◌}
use Rattle.std.specs.Prelude.{List, [], ◌∷◌, ◌++◌, length, map, drop, Option, Some, None, codes}
use Rattle.std.specs.Str.{bytes_eq}
use Rattle.std.specs.Char.{to_ascii_lowercase}
use Rattle.htmd_lexical.specs.Characters.{less_than_sign, greater_than_sign}
use Rattle.htmd_lexical.specs.WhiteSpace.{is_ascii_white_space}
use Rattle.htmd_lexical.specs.CharacterClasses.{first_is, begins_with, leading_run, behind_run, is_tag_name_byte}
use Rattle.htmd_lexical.specs.TagReading.{TagForm, no_form, form, form_within}

-- the tag name here is `body`, in any case
abbrev pub is_body_name : List ℕ → Bool
is_body_name s = bytes_eq (map to_ascii_lowercase (leading_run is_tag_name_byte s)) (codes "body")

-- ---- start tags (HTML Standard, 13.1.2.1)

-- what follows a tag of this form
abbrev pub behind_form : TagForm → Option (List ℕ)
behind_form no_form = None
behind_form (form spelled present rest) = Some rest

-- what follows the tag whose name is `body`, from its name on
abbrev pub behind_name : List ℕ → Option (List ℕ)
behind_name s =
    if is_body_name s
    then (let rest = behind_run is_tag_name_byte s in behind_form (form_within (suc (length rest)) rest)) else None

-- what follows the start tag named `body` with which the text begins, whatever its attributes are
abbrev pub behind_start_tag : List ℕ → Option (List ℕ)
behind_start_tag [] = None
behind_start_tag (b ∷ s) = if b == less_than_sign then behind_name s else None

abbrev pub first_of : Option (List ℕ) → Option (List ℕ) → Option (List ℕ)
first_of (Some rest) other = Some rest
first_of None other = other

-- what follows the first such tag
abbrev pub behind_first_start_tag : List ℕ → Option (List ℕ)
behind_first_start_tag [] = None
behind_first_start_tag (b ∷ s) = first_of (behind_start_tag (b ∷ s)) (behind_first_start_tag s)

-- ---- end tags (HTML Standard, 13.1.2.2)

-- the text begins with an end tag named `body`
abbrev pub begins_end_tag : List ℕ → Bool
begins_end_tag s =
    begins_with (codes "</") s && is_body_name (drop 2 s)
    && first_is greater_than_sign (behind_run is_ascii_white_space (behind_run is_tag_name_byte (drop 2 s)))

-- such a tag is somewhere in the text
abbrev pub holds_end_tag : List ℕ → Bool
holds_end_tag [] = false
holds_end_tag (b ∷ s) = begins_end_tag (b ∷ s) || holds_end_tag s

-- what comes before the last such tag, or all if there is none
abbrev pub before_last_end_tag : List ℕ → List ℕ
before_last_end_tag [] = []
before_last_end_tag (b ∷ s) =
    if begins_end_tag (b ∷ s) && not (holds_end_tag s) then [] else b ∷ before_last_end_tag s

-- ---- the part

abbrev pub part_behind : List ℕ → Option (List ℕ) → List ℕ
part_behind html None = html
part_behind html (Some rest) = before_last_end_tag rest

abbrev pub place_behind : List ℕ → Option (List ℕ) → ℕ
place_behind html None = 0
place_behind html (Some rest) = length html - length rest

-- what is between the tags of the body, or the whole text if it has no start tag of a body
unfoldable pub body_part : List ℕ → List ℕ
body_part html = part_behind html (behind_first_start_tag html)

-- the place in the text where that begins
unfoldable pub body_place : List ℕ → ℕ
body_place html = place_behind html (behind_first_start_tag html)

-- the part is at this place of the text
pub record StandsAt (part : List ℕ) (place : ℕ) (text : List ℕ) : Type 0 where
  pub before : List ℕ
  pub behind : List ℕ
  pub text_is : text ≡ before ++ (part ++ behind)
  pub place_is : place ≡ length before
