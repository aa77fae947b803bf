-- Where elements of foreign content stand, by their spellings in any case. No public clause cites it.
use Rattle.std.specs.Prelude.{◌≡◌, ℕ, ◌<◌, Bool, ◌||◌, ◌==◌, List, map, Option, Some, None, get_or, is_some, vec_len}
use Rattle.std.specs.Char.{to_ascii_lowercase}
use Rattle.std.specs.HashMap.{get_by_text}
use Rattle.std.specs.List.{list_all}
use Rattle.htmd_html5_state.specs.Foreign.{is_spelled_so}
use Rattle.htmd_html5_state.specs.OpenElements.{OpenValue}
use Rattle.htmd_html5_state.specs.declared.foreign_places.ForeignPlaces.{ForeignPlaces}

abbrev pub lower : List ℕ → List ℕ
lower s = map to_ascii_lowercase s

abbrev pub is_spelled : List ℕ → OpenValue → Bool
is_spelled s e = is_spelled_so s e.name

-- ---- what the program holds

-- the number of a spelling
abbrev pub number_of : ForeignPlaces → List ℕ → Option ℕ
number_of f s = get_by_text f.numbers s

abbrev pub has_spelling : ForeignPlaces → List ℕ → Bool
has_spelling f s = is_some (number_of f s)

abbrev pub place_by : List ℕ → Option ℕ → ℕ
place_by places None = 0
place_by places (Some n) = get_or places n 0

-- the place of a spelling in any case
abbrev pub spelling_place : ForeignPlaces → List ℕ → ℕ
spelling_place f s = place_by f.places.items (number_of f (lower s))

abbrev pub is_lower_case : List ℕ → Bool
is_lower_case s = list_all (λ b. to_ascii_lowercase b == b) s

-- the place of a spelling can be found by it alone
abbrev pub is_known : ForeignPlaces → List ℕ → Bool
is_known f s = has_spelling f s || is_lower_case s

-- ---- what it is to hold

-- two spellings have the same number only if they are alike in any case, and what is held is held in lower case too
pub record IsNumbered (numbers : List ℕ → Option ℕ) (len : ℕ) : Type 0 where
  pub lowered : (s : List ℕ) (n : ℕ) → numbers s ≡ Some n → numbers (lower s) ≡ Some n
  pub within : (s : List ℕ) (n : ℕ) → numbers s ≡ Some n → n < len
  pub alike : (s t : List ℕ) (n : ℕ) → numbers s ≡ Some n → numbers t ≡ Some n → lower s ≡ lower t

abbrev pub AreNumbered : ForeignPlaces → Type 0
AreNumbered f = IsNumbered (number_of f) (vec_len f.places)
