-- What a URL that was read is.
use Rattle.std.specs.Prelude.{◌≡◌, Option, Some, None, Ok, Err}
use Rattle.url.specs.Parts.{Parts}
use Rattle.url.specs.Parser.{Parsed, IsOutOfRoom}

-- the URL, or none where there is an error that isn't about memory
abbrev pub GivesUrl : Parsed Parts → Option Parts → Type 0
GivesUrl (Ok url) given = given ≡ Some url
GivesUrl (Err e) given = (given ≡ None) × (IsOutOfRoom e → ⊥)
