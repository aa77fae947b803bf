-- What a call answers.
use Rattle.std.specs.Prelude.{◌≡◌, ◌≤◌, ◌<◌, ◌++◌, ℕ, List, length, drop, IsUtf8, false, ⊤}
use Rattle.htmd_grammar.specs.declared.fault.FaultKind.{FaultKind}
use Rattle.htmd_grammar.specs.Faults.{number_of}
use Rattle.htmd.specs.PageOutputs.{IsFaultOf, IsOutputOf, IsRefusedBy, IsUnselected}
use Rattle.htmd.specs.PageSettings.{Settings}
use Rattle.htmd.specs.declared.page_error.PageError.{PageError}
use Rattle.htmd.specs.declared.page_error.PageError.TheVariants.{NotUtf8, Refused, NothingSelected, Memory}
use Rattle.htmd_c.specs.declared.failures.Failure.{Failure}
use Rattle.htmd_c.specs.declared.failures.Failure.TheVariants as failure
use Rattle.htmd_c.specs.declared.TheConstants.{REFUSED, NOT_UTF8, NO_MEMORY, BAD_OPTIONS, NOTHING_SELECTED}
use Rattle.htmd_c.specs.declared.TheConstants.{BAD_SELECT, BAD_DROP, BAD_SKIP, BAD_BASE, BAD_ENCODING}
use Rattle.htmd_c.specs.declared.options.HtmdOptions.{HtmdOptions}
use Rattle.htmd_c.specs.declared.page_options.HtmdPageOptions.{HtmdPageOptions}
use Rattle.htmd_c.specs.Options.{is_good, settings_of}
use Rattle.htmd_c.specs.PageOptions.{IsSettingsFault, IsSettingsOf}

-- the bytes become this by the settings, all of it at the front of the buffer; what follows it is as it was
pub record IsWritten (settings : Settings) (html before after : List ℕ) (needed : ℕ) : Type 0 where
  pub output : List ℕ
  pub is_output : IsOutputOf settings html output
  pub is_length : needed ≡ length output
  pub has_room : length output ≤ length before
  pub is_written : after ≡ output ++ drop (length output) before

-- the bytes become this, which is longer than the buffer
pub record IsTooLong (settings : Settings) (html before : List ℕ) (needed : ℕ) : Type 0 where
  pub output : List ℕ
  pub is_output : IsOutputOf settings html output
  pub is_length : needed ≡ length output
  pub has_no_room : length before < length output

-- this text stands at the front of the buffer; what follows it is as it was
pub record IsFront (text before after : List ℕ) (needed : ℕ) : Type 0 where
  pub is_length : needed ≡ length text
  pub has_room : length text ≤ length before
  pub is_written : after ≡ text ++ drop (length text) before

-- this text is longer than the buffer
pub record HasNoRoom (text before : List ℕ) (needed : ℕ) : Type 0 where
  pub is_length : needed ≡ length text
  pub has_no_room : length before < length text

-- the text is refused at this place, with the kind of this number
pub record IsRefusedAt (settings : Settings) (html : List ℕ) (place number : ℕ) : Type 0 where
  pub kind : FaultKind
  pub is_utf8 : IsUtf8 html
  pub is_strict : settings.html5 ≡ false
  pub is_refused : IsRefusedBy settings html place kind
  pub is_number : number ≡ number_of kind

-- ---- pages

-- the struct stands for settings of which this holds
abbrev pub BySettings : HtmdPageOptions → (Settings → Type 0) → Type 0
BySettings given holds = (settings : Settings) × IsSettingsOf given settings × holds settings

-- this is what a page becomes by the struct
abbrev pub IsPageOutputOf : HtmdPageOptions → List ℕ → List ℕ → Type 0
IsPageOutputOf given bytes output = BySettings given (λ settings. IsOutputOf settings bytes output)

-- no element of the page is selected
abbrev pub HasNoneSelected : HtmdPageOptions → List ℕ → Type 0
HasNoneSelected given bytes = BySettings given (λ settings. IsUnselected settings bytes)

-- ---- why there is nothing to write

-- a text becomes nothing: it isn't UTF-8, or outside the grammar; out of memory is no fault of it
abbrev pub IsTextFault : Settings → List ℕ → PageError → Type 0
IsTextFault settings bytes NotUtf8 = ¬ IsUtf8 bytes
IsTextFault settings bytes (Refused place kind) =
    IsUtf8 bytes × (settings.html5 ≡ false) × IsRefusedBy settings bytes place kind
IsTextFault settings bytes Memory = ⊤
IsTextFault settings bytes _ = ⊥

-- by the struct for texts
abbrev pub IsFailureOf : HtmdOptions → List ℕ → Failure → Type 0
IsFailureOf given bytes failure.BadOptions = is_good given ≡ false
IsFailureOf given bytes (failure.Page error) = IsTextFault (settings_of given) bytes error
IsFailureOf given bytes _ = ⊥

-- a page becomes nothing by the settings that the struct stands for; out of memory is no fault of it
abbrev pub IsPageFault : HtmdPageOptions → List ℕ → PageError → Type 0
IsPageFault given bytes Memory = ⊤
IsPageFault given bytes error = BySettings given (λ settings. IsFaultOf settings bytes error)

-- by the struct for pages
abbrev pub IsPageFailureOf : HtmdPageOptions → List ℕ → Failure → Type 0
IsPageFailureOf given bytes (failure.Page error) = IsPageFault given bytes error
IsPageFailureOf given bytes other = IsSettingsFault given other

-- the status that tells of a failure
abbrev pub status_of : Failure → ℕ
status_of failure.BadOptions = BAD_OPTIONS
status_of failure.BadSelect = BAD_SELECT
status_of failure.BadDrop = BAD_DROP
status_of failure.BadSkip = BAD_SKIP
status_of failure.BadBase = BAD_BASE
status_of failure.BadEncoding = BAD_ENCODING
status_of (failure.Page (Refused place kind)) = REFUSED
status_of (failure.Page NotUtf8) = NOT_UTF8
status_of (failure.Page Memory) = NO_MEMORY
status_of (failure.Page NothingSelected) = NOTHING_SELECTED
