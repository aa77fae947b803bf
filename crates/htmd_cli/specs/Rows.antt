-- The rows of a batch, and what is written for them.
use Rattle.std.specs.Prelude.{◌≡◌, ◌≢◌, ◌⊎◌, ◌+◌, ◌-◌, ◌^◌, min, ℕ, List, [], ◌∷◌, ◌++◌, length, Option}
use Rattle.std.specs.Prelude.{IfSome, MatchBool}
use Rattle.std.specs.Str.{bytes_eq}
use Rattle.std.specs.Io.KnownBytes.{Appends}
use Rattle.htmd.specs.Characters.{line_feed}
use Rattle.htmd.specs.PageSettings.{Settings}
use Rattle.htmd_cli.specs.Options.{Request}
use Rattle.htmd_cli.specs.StreamConversions.{Converts}
use Rattle.htmd_streams.specs.Ends.{AppendsSome}
use Rattle.htmd.specs.declared.page_error.PageError.{PageError}
use Rattle.htmd.specs.declared.page_error.PageError.TheVariants.{Memory}
use Rattle.htmd.specs.PageOutputs.{IsFaultOf, IsOutputOf}
use Rattle.htmd_streams.specs.Fields.{null, read_field, written_field}
use Rattle.htmd_streams.specs.Lines.{rows, other_fields, last_field}

-- this is what the page becomes, as a field
abbrev pub IsConverted : Settings → List ℕ → List ℕ → Type 0
IsConverted settings page field =
    (output : List ℕ) × IsOutputOf settings page output × (field ≡ written_field output)

-- the page becomes nothing, and not because memory ran out
abbrev pub IsRefusedPage : Settings → List ℕ → Type 0
IsRefusedPage settings page = (error : PageError) × IsFaultOf settings page error × (error ≢ Memory)

-- this is written for a page: what it becomes, or null if that is nothing
abbrev pub IsPageAnswer : Settings → List ℕ → List ℕ → Type 0
IsPageAnswer settings page field = IsConverted settings page field ⊎ (IsRefusedPage settings page × (field ≡ null))

-- this is written for a field: null for null, else what is written for the page that it stands for
abbrev pub IsFieldAnswer : Settings → List ℕ → List ℕ → Type 0
IsFieldAnswer settings field answer =
    MatchBool (bytes_eq field null) (answer ≡ null) (IsPageAnswer settings (read_field field) answer)

-- this is written for a row: its other fields as they are, what is written for the last one, and a line feed
abbrev pub IsRowAnswer : Settings → List ℕ → List ℕ → Type 0
IsRowAnswer settings row answer =
    (field : List ℕ) × IsFieldAnswer settings (last_field row) field
    × (answer ≡ other_fields row ++ (field ++ line_feed ∷ []))

-- this is written for rows, one after the other
abbrev pub AreAnswers : Settings → List (List ℕ) → List ℕ → Type 0
AreAnswers settings [] written = written ≡ []
AreAnswers settings (row ∷ more) written =
    (first : List ℕ) × (others : List ℕ) × IsRowAnswer settings row first × AreAnswers settings more others
    × (written ≡ first ++ others)

-- this is written for all rows of an input
abbrev pub rows_of : Settings → List ℕ → List ℕ → Type 0
rows_of settings input = AreAnswers settings (rows input)

-- this is written for the first rows of an input, this many of them
abbrev pub FirstRowsOf : Settings → List ℕ → ℕ → List ℕ → Type 0
FirstRowsOf settings input count written =
    (done : List (List ℕ)) × (more : List (List ℕ)) × (rows input ≡ done ++ more) × (length done ≡ count)
    × AreAnswers settings done written

-- all rows of the input were answered, and that was written
abbrev pub ConvertsRows : Settings → Option (List ℕ) → Option (List ℕ) → Option (List ℕ) → Type 0
ConvertsRows settings input before after =
    IfSome input (λ bytes. (written : List ℕ) × rows_of settings bytes written × Appends before after written)

-- a number of rows, as far as a number goes
abbrev pub counted : ℕ → ℕ
counted count = min count (2 ^ 64 - 1)

-- the rows of the input before the faulty one were answered, and that was written
abbrev pub StopsAtRow : Settings → ℕ → Option (List ℕ) → Option (List ℕ) → Option (List ℕ) → Type 0
StopsAtRow settings row input before after =
    IfSome input (λ bytes. (count : ℕ) × (written : List ℕ) × FirstRowsOf settings bytes count written
    × (row ≡ counted (count + 1)) × Appends before after written)

-- a beginning of what is written for the first rows of the input, up to this one, was written
abbrev pub StopsInRows : Settings → ℕ → Option (List ℕ) → Option (List ℕ) → Option (List ℕ) → Type 0
StopsInRows settings row input before after =
    IfSome input (λ bytes. (count : ℕ) × (written : List ℕ) × FirstRowsOf settings bytes count written
    × (row ≡ counted count) × AppendsSome before after written)

-- the rows of the input before some row were answered, and that was written
abbrev pub AnswersFirst : Settings → Option (List ℕ) → Option (List ℕ) → Option (List ℕ) → Type 0
AnswersFirst settings input before after = (row : ℕ) × StopsAtRow settings row input before after

-- what is asked for was done: all rows were answered, or the whole input was converted
abbrev pub Succeeds : Request → Option (List ℕ) → Option (List ℕ) → Option (List ℕ) → Type 0
Succeeds request input before after =
    MatchBool request.rows (ConvertsRows request.settings input before after)
    (Converts request.settings input before after)

-- the first rows were answered
abbrev pub AnswersSome : Request → Option (List ℕ) → Option (List ℕ) → Option (List ℕ) → Type 0
AnswersSome request = AnswersFirst request.settings
