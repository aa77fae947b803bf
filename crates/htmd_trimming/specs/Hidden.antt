-- Elements that are hidden by their own attributes.
use Rattle.std.specs.Prelude.{ℕ, Bool, false, not, ◌||◌, ◌==◌, List, [], ◌∷◌, filter, Option, Some, None, codes}
use Rattle.std.specs.List.{list_any, slice_split}
use Rattle.htmd_lexical.specs.AttributePairs.{AttributePair}
use Rattle.htmd_lexical.specs.CharacterClasses.{is_among}
use Rattle.htmd_lexical.specs.Characters.{semicolon}
use Rattle.htmd_lexical.specs.WhiteSpace.{is_ascii_white_space}
use Rattle.htmd_shown.specs.Attributes.{value_of, text_of, lower, is_any_case}

-- an element with `hidden` is, but for one that shows when it is searched for (HTML, 6.1)
abbrev pub hides : Option (List ℕ) → Bool
hides None = false
hides (Some value) = not (is_any_case (codes "until-found") value)

-- a declaration without white space, in small letters
abbrev pub bare : List ℕ → List ℕ
bare s = lower (filter (λ b. not (is_ascii_white_space b)) s)

abbrev pub hiding_declarations : List (List ℕ)
hiding_declarations =
    codes "display:none" ∷ codes "display:none!important" ∷ codes "visibility:hidden" ∷
    codes "visibility:hidden!important" ∷ []

abbrev pub is_hiding : List ℕ → Bool
is_hiding declaration = is_among hiding_declarations (bare declaration)

-- declarations stand between semicolons
abbrev pub style_hides : List ℕ → Bool
style_hides style = list_any is_hiding (slice_split (λ b. b == semicolon) style)

abbrev pub is_hidden : List AttributePair → Bool
is_hidden attributes =
    hides (value_of (codes "hidden") attributes)
    || is_any_case (codes "true") (text_of (codes "aria-hidden") attributes)
    || style_hides (text_of (codes "style") attributes)
