-- The list of active formatting elements as the program holds it, which is oldest first.
use Rattle.std.specs.Prelude.{◌≡◌, ℕ, Bool, false, List, [], ◌∷◌, ◌++◌, reverse, length, Option, Some}
use Rattle.htmd_html5_state.specs.Formatting.{is_entry, is_listed}

-- newest first
abbrev pub entries_of : List (Option ℕ) → List (Option ℕ)
entries_of entries = reverse entries

-- the newest entry is that of this node
abbrev pub is_newest : ℕ → List (Option ℕ) → Bool
is_newest n [] = false
is_newest n (e ∷ entries) = is_entry n e

-- the newest entry of a node is at this place
pub record IsNewest (n : ℕ) (entries : List (Option ℕ)) (i : ℕ) : Type 0 where
  pub older : List (Option ℕ)
  pub newer : List (Option ℕ)
  pub whole : entries ≡ older ++ Some n ∷ newer
  pub place : i ≡ length older
  pub lacks : is_listed n (entries_of newer) ≡ false
