-- How the text of a text node is written.
use Rattle.std.specs.Prelude.{ℕ, Bool, false, ◌&&◌, ◌||◌, if◌then◌else◌, List, [], ◌∷◌, drop, codes}
use Rattle.std.specs.List.{list_any}
use Rattle.std.specs.Str.{bytes_eq}
use Rattle.htmd_text.specs.EscapedPlaces.{escaped_markdown, escaped_pre_text}
use Rattle.htmd_text.specs.SqueezedTexts.{squeezed_text}
use Rattle.htmd_nodes.specs.Ancestors.{Ancestor}
use Rattle.htmd_walk.specs.Seams.{begins_with_space, ends_with_space}

abbrev pub is_pre_or_code : Ancestor → Bool
is_pre_or_code a = bytes_eq a.tag (codes "pre") || bytes_eq a.tag (codes "code")

-- some ancestor is `pre` or `code`
abbrev pub in_pre_or_code : List Ancestor → Bool
in_pre_or_code above = list_any is_pre_or_code above

-- the parent is `pre`
abbrev pub parent_is_pre : List Ancestor → Bool
parent_is_pre [] = false
parent_is_pre (a ∷ above) = bytes_eq a.tag (codes "pre")

-- preformatted text stays as it is, but opens no fence if its parent is `pre`
abbrev pub preformatted_text : Bool → List ℕ → List ℕ
preformatted_text in_pre s = if in_pre then escaped_pre_text s else s

-- a text without the space at its start, if that is to go
abbrev pub without_first_space : Bool → List ℕ → List ℕ
without_first_space goes s = if goes && begins_with_space s then drop 1 s else s

-- Ordinary text is squeezed, then loses the space at its start if the trim flag is set or the text so far ends with
-- one, then is escaped.
abbrev pub ordinary_text : Bool → List ℕ → List ℕ → List ℕ
ordinary_text trim out s = escaped_markdown (without_first_space (trim || ends_with_space out) (squeezed_text s))

-- what the text of a node adds to the text so far, by whether it is preformatted and its parent `pre`, and by the trim
-- flag
abbrev pub written_text : Bool → Bool → Bool → List ℕ → List ℕ → List ℕ
written_text preformatted in_pre trim out s =
    if preformatted then preformatted_text in_pre s else ordinary_text trim out s
