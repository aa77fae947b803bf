-- What a run reads and writes, if the bytes of its source and sink are known, and how it ends.
use Rattle.std.specs.Prelude.{◌≡◌, ◌||◌, ℕ, if◌then◌else◌, List, [], ◌∷◌, ◌++◌, false, Option, is_some, IfSome}
use Rattle.std.specs.Prelude.{Result, Ok, Err, IsUtf8}
use Rattle.std.specs.Io.KnownBytes.{Appends, IsAtEnd}
use Rattle.htmd.specs.Characters.{line_feed}
use Rattle.htmd.specs.declared.page_error.PageError.TheVariants.{NotUtf8, Refused, NothingSelected, Memory}
use Rattle.htmd_cli.specs.declared.faults.StreamError.{StreamError}
use Rattle.htmd_cli.specs.declared.faults.StreamError.TheVariants.{Page, Read, Write}
use Rattle.htmd.specs.PageSettings.{Settings, writes_html}
use Rattle.htmd.specs.PageOutputs.{IsOutputOf, IsRefusedBy, IsUnselected, reads_any}

-- what is written behind what a page becomes: a line feed, unless that is lines or HTML
abbrev pub ending : Settings → List ℕ
ending settings = if writes_html settings || is_some settings.chunks then [] else line_feed ∷ []

-- what the bytes become, with its ending, was written
abbrev pub Writes : Settings → Option (List ℕ) → Option (List ℕ) → List ℕ → Type 0
Writes settings before after bytes =
    (output : List ℕ) × IsOutputOf settings bytes output × Appends before after (output ++ ending settings)

-- the bytes become something
abbrev pub IsConvertible : Settings → List ℕ → Type 0
IsConvertible settings bytes = (output : List ℕ) × IsOutputOf settings bytes output

-- the whole input was converted by the settings
abbrev pub Converts : Settings → Option (List ℕ) → Option (List ℕ) → Option (List ℕ) → Type 0
Converts settings input before after = IfSome input (Writes settings before after)

-- How a run ends, case by case: by the settings, the input, what is left of it, and the sink before and after the run.
abbrev pub Ends : {W T : Type 0} → Settings → Option (List ℕ) → Option (List ℕ)
    → (W → Option (List ℕ)) → W → W
    → Result T StreamError → Type 0
-- all was read, and what it becomes was written, with its ending
Ends settings input rest contents before after (Ok done) =
    IsAtEnd rest × Converts settings input (contents before) (contents after)
-- all was read and is not UTF-8, which any page may be; nothing was written
Ends settings input rest contents before after (Err (Page NotUtf8)) =
    IsAtEnd rest × (reads_any settings ≡ false) × IfSome input (λ bytes. ¬ IsUtf8 bytes) × (after ≡ before)
-- all was read and is UTF-8, was taken for HTML of the strict grammar, and is outside it; nothing was written
Ends settings input rest contents before after (Err (Page (Refused place kind))) =
    IsAtEnd rest × (settings.text ≡ false) × (settings.html5 ≡ false)
    × IfSome input (λ bytes. IsUtf8 bytes × IsRefusedBy settings bytes place kind) × (after ≡ before)
-- all was read and holds the text of a page, of which no element is selected; nothing was written
Ends settings input rest contents before after (Err (Page NothingSelected)) =
    IsAtEnd rest × IfSome input (IsUnselected settings) × (after ≡ before)
-- out of memory; nothing was written
Ends settings input rest contents before after (Err (Page Memory)) = after ≡ before
-- the source failed; nothing was written
Ends settings input rest contents before after (Err Read) = after ≡ before
-- all was read, and becomes something, and the sink failed
Ends settings input rest contents before after (Err Write) = IsAtEnd rest × IfSome input (IsConvertible settings)
