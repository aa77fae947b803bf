-- What the conversion of a page changes.
use Rattle.std.specs.Prelude.{◌≡◌, ◌⊎◌, ℕ, List, ◌∷◌, ◌++◌, Option, Some, IfSome, MatchBool, codes, string_bytes}
use Rattle.std.specs.Io.KnownBytes.{Appends}
use Rattle.htmd_files.specs.declared.planning.Page.{Page}
use Rattle.htmd_folders.specs.Changes.{Change, created, moved, held, nothing, whole, IsReplaceable, IsLeft}

-- what the bytes of a source become was appended to a sink
abbrev pub Becomes : (List ℕ → List ℕ → Type 0) → Option (List ℕ) → Option (List ℕ)
    → Option (List ℕ) → Type 0
Becomes becomes input before after =
    IfSome input (λ bytes. (written : List ℕ) × becomes bytes written × Appends before after written)

-- an output's file has such a name until it is finished: that of the output and more, so it is beside it
abbrev pub IsUnfinishedName : List ℕ → List ℕ → Type 0
IsUnfinishedName output name = (mark : List ℕ) × (name ≡ output ++ mark ++ codes ".htmd-partial")

-- the names of a page
abbrev pub input_name : Page → List ℕ
input_name page = string_bytes page.input

abbrev pub output_name : Page → List ℕ
output_name page = string_bytes page.output

-- what a page becomes whose input holds the first bytes
abbrev pub Conversion : Type 1
Conversion = Page → List ℕ → List ℕ → Type 0

-- a file that is copied becomes its own bytes, and a page what the conversion makes of it
abbrev pub or_copy : Conversion → Conversion
or_copy becomes page bytes written = MatchBool page.is_copy (written ≡ bytes) (becomes page bytes written)

-- all bytes of a source were appended to a sink
abbrev pub Copies : Option (List ℕ) → Option (List ℕ) → Option (List ℕ) → Type 0
Copies input before after = IfSome input (λ bytes. Appends before after bytes)

-- a file that isn't finished was made for an output, under a name that held nothing
abbrev pub IsMadeFor : List ℕ → List ℕ → List Change → Type 0
IsMadeFor output partial past = IsUnfinishedName output partial × (held partial past ≡ nothing)

-- what these bytes of the page become was brought to its output: a file beside it was made, and once it was whole came
-- under the output's name, where nothing or a whole file was; nothing else was changed
abbrev pub Writes : Conversion → Page → List ℕ → List Change → Option (List Change) → Type 0
Writes becomes page bytes past after =
    (written : List ℕ) × (partial : List ℕ) × becomes page bytes written
    × IsMadeFor (output_name page) partial past × IsReplaceable (held (output_name page) past)
    × (after ≡ Some (moved partial (output_name page) written ∷ created partial ∷ past))

-- the page was converted: that was done of the bytes that its input held
abbrev pub Converts : Conversion → Page → Option (List Change) → Option (List Change) → Type 0
Converts becomes page before after =
    IfSome before (λ past. (bytes : List ℕ) × (held (input_name page) past ≡ whole bytes)
    × Writes becomes page bytes past after)

-- the page failed: nothing was changed but a file beside its output, which wasn't made, or was made and then taken
-- away, if that could be done
abbrev pub Fails : Page → Option (List Change) → Option (List Change) → Type 0
Fails page before after =
    IfSome before (λ past. (after ≡ Some past)
    ⊎ ((partial : List ℕ) × IsMadeFor (output_name page) partial past
    × IsLeft partial (Some (created partial ∷ past)) after))
