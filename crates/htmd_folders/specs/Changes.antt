-- The changes that are made to the files of a store, and what a name holds after them.
use Rattle.std.specs.Prelude.{◌≡◌, ℕ, ◌⊎◌, if◌then◌else◌, List, [], ◌∷◌, ◌++◌, Option, Some, IfSome, ⊤}
use Rattle.std.specs.Str.{bytes_eq}

pub data Change : Type 0 where
  -- a file with these bytes was there from the first
  placed : (name bytes : List ℕ) → Change
  -- a file was made under this name, and is being written
  created : (name : List ℕ) → Change
  -- a file that is finished and holds these bytes came from the first name under the second
  moved : (from to bytes : List ℕ) → Change
  -- the file under this name was taken away
  removed : (name : List ℕ) → Change
  -- something that is no file was there from the first: a folder, a link or a device
  obstructed : (name : List ℕ) → Change

-- what a name holds: nothing, a file that isn't finished, a whole one with these bytes, or what is no file
pub data Holding : Type 0 where
  nothing : Holding
  unfinished : Holding
  whole : (bytes : List ℕ) → Holding
  obstacle : Holding

-- what a name holds after these changes, the last of which comes first
abbrev pub held : List ℕ → List Change → Holding
held name [] = nothing
held name (placed other bytes ∷ past) = if bytes_eq name other then whole bytes else held name past
held name (created other ∷ past) = if bytes_eq name other then unfinished else held name past
held name (moved from to bytes ∷ past) =
    if bytes_eq name to then whole bytes else if bytes_eq name from then nothing else held name past
held name (removed other ∷ past) = if bytes_eq name other then nothing else held name past
held name (obstructed other ∷ past) = if bytes_eq name other then obstacle else held name past

-- what a file may take the place of: nothing, or a whole file
abbrev pub IsReplaceable : Holding → Type 0
IsReplaceable nothing = ⊤
IsReplaceable unfinished = ⊥
IsReplaceable (whole bytes) = ⊤
IsReplaceable obstacle = ⊥

-- if the changes so far are known, these and no others were made since, the last one first
abbrev pub Makes : Option (List Change) → Option (List Change) → List Change → Type 0
Makes before after changes = IfSome before (λ past. after ≡ Some (changes ++ past))

-- what a file that was opened gives: the bytes that its name holds
abbrev pub IsOpened : Option (List Change) → List ℕ → Option (List ℕ) → Type 0
IsOpened before name remaining =
    IfSome before (λ past. (bytes : List ℕ) × (held name past ≡ whole bytes) × (remaining ≡ Some bytes))

-- nothing is under the name
abbrev pub IsFree : Option (List Change) → List ℕ → Type 0
IsFree before name = IfSome before (λ past. held name past ≡ nothing)

-- a file may come under the name
abbrev pub IsOpenTo : Option (List Change) → List ℕ → Type 0
IsOpenTo before name = IfSome before (λ past. IsReplaceable (held name past))

-- what a new file holds
abbrev pub IsNew : Option (List Change) → Option (List ℕ) → Type 0
IsNew before contents = IfSome before (λ _. contents ≡ Some [])

-- a file that holds this came from the first name under the second
abbrev pub IsMoved : Option (List Change) → Option (List Change) → List ℕ → List ℕ → Option (List ℕ)
    → Type 0
IsMoved before after from to contents =
    IfSome before (λ past. (bytes : List ℕ) × (contents ≡ Some bytes)
    × (after ≡ Some (moved from to bytes ∷ past)))

-- a file was taken away, or nothing was changed
abbrev pub IsLeft : List ℕ → Option (List Change) → Option (List Change) → Type 0
IsLeft name before after =
    IfSome before (λ past. (after ≡ Some past) ⊎ (after ≡ Some (removed name ∷ past)))
