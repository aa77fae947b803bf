-- Values of settings that are told by a text: names between commas, selectors and URLs.
use Rattle.std.specs.Prelude.{◌≡◌, ◌⊎◌, ◌++◌, ◌==◌, ℕ, Bool, true, false, if◌then◌else◌, List, [], ◌∷◌, Option, Some}
use Rattle.std.specs.Prelude.{None}
use Rattle.std.specs.Result.{result_ok}
use Rattle.htmd_lexical.specs.Characters.{comma}
use Rattle.htmd_selectors.specs.Reading.{steps_of_text}
use Rattle.htmd_selectors.specs.SelectorSteps.{Step}
use Rattle.htmd_selectors.specs.declared.selectors.SelectorError.{SelectorError}
use Rattle.htmd_selectors.specs.declared.selectors.SelectorError.TheVariants.{Memory}
use Rattle.url.specs.Parser.{parse_url}
use Rattle.url.specs.Parts.{Parts}

abbrev pub before_parts : ℕ → List (List ℕ) → List (List ℕ)
before_parts b [] = []
before_parts b (part ∷ parts) = (b ∷ part) ∷ parts

-- the parts of a text between its commas
abbrev pub parts : List ℕ → List (List ℕ)
parts [] = [] ∷ []
parts (b ∷ s) = if b == comma then [] ∷ parts s else before_parts b (parts s)

-- the selectors that a text is, if it is some
abbrev pub selectors : List ℕ → Option (List Step)
selectors s = result_ok (steps_of_text s)

-- the absolute URL that a text is, if it is one
abbrev pub url : List ℕ → Option Parts
url s = result_ok (parse_url None s)

abbrev pub is_filled : List ℕ → Bool
is_filled [] = false
is_filled (b ∷ s) = true

-- the selectors of a text were added
abbrev pub AddsSelectors : List Step → List Step → List ℕ → Type 0
AddsSelectors before after text = (steps : List Step) × (selectors text ≡ Some steps) × (after ≡ before ++ steps)

-- a text isn't selectors, unless memory ran out
abbrev pub IsSelectorFault : List ℕ → SelectorError → Type 0
IsSelectorFault text error = (selectors text ≡ None) ⊎ (error ≡ Memory)
