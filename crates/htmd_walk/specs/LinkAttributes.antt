-- What the attributes of a link or an image say.
use Rattle.std.specs.Prelude.{ℕ, Bool, not, ◌&&◌, if◌then◌else◌, List, [], ◌∷◌, Option, Some, None, codes}
use Rattle.std.specs.List.{list_any}
use Rattle.std.specs.Option.{option_or}
use Rattle.std.specs.Str.{bytes_eq}
use Rattle.htmd_lexical.specs.AttributePairs.{AttributePair}
use Rattle.htmd_walk.specs.Handling.{ElementView}
use Rattle.htmd_walk.specs.Outputs.{is_markdown_alone}
use Rattle.htmd_walk.specs.ElementPlans.{attributes_of}

abbrev pub is_among : List (List ℕ) → List ℕ → Bool
is_among names name = list_any (λ n. bytes_eq n name) names

-- the value of the last attribute that has one of these names
abbrev pub last_value : List (List ℕ) → List AttributePair → Option (List ℕ)
last_value names [] = None
last_value names (a ∷ attributes) =
    option_or (last_value names attributes) (if is_among names a.name then Some a.value else None)

-- some attribute has none of these names
abbrev pub has_others : List (List ℕ) → List AttributePair → Bool
has_others names attributes = list_any (λ a. not (is_among names a.name)) attributes

-- in Faithful an attribute that Markdown has no form for gives raw HTML
abbrev pub is_raw_unless_among : List (List ℕ) → ElementView → Bool
is_raw_unless_among names view = not (is_markdown_alone view.options) && has_others names (attributes_of view)

abbrev pub title_of : ElementView → Option (List ℕ)
title_of view = last_value (codes "title" ∷ []) (attributes_of view)
