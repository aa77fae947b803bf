-- The place of the newest registration of a tag, as the code looks it up. No public clause cites it.
use Rattle.std.specs.Prelude.{◌≡◌, ℕ, suc, ◌<◌, Bool, true, false, List, [], ◌∷◌, Option, Some, None}
use Rattle.std.specs.Prelude.{length, map, take, slice_index_or, string_bytes}
use Rattle.std.specs.Str.{bytes_eq}
use Rattle.htmd_walk.specs.declared.element_handler.registrations.Registration.{Registration}
use Rattle.htmd_walk.specs.Choice.{TagIndex}
use Rattle.htmd_walk.specs.TagIndexes.{tag_index}

-- one position further; the first position, if nothing after it was found
abbrev pub position_behind : Option ℕ → Bool → Option ℕ
position_behind None false = None
position_behind None true = Some 0
position_behind (Some position) here = Some (suc position)

-- the position of the last registration for a tag
abbrev pub latest : List ℕ → List TagIndex → Option ℕ
latest tag [] = None
latest tag (r ∷ rs) = position_behind (latest tag rs) (bytes_eq r.tag tag)

-- each registration knows the position of the one before it for its tag
abbrev pub IsChained : List Registration → Type 0
IsChained rs =
    (k : ℕ) (d : Registration) → k < length rs → (slice_index_or rs k d).older
    ≡ latest (string_bytes (slice_index_or rs k d).tag) (take k (map tag_index rs))
