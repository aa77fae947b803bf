-- The texts of the struct for pages, and the settings that they stand for. A text without bytes says nothing.
use Rattle.std.specs.Prelude.{◌≡◌, ◌⊎◌, ℕ, true, false, List, [], ◌∷◌, Option, Some, None, IsUtf8}
use Rattle.std.specs.List.{list_all}
use Rattle.htmd.specs.PageSettings.{Settings}
use Rattle.htmd.specs.declared.page_error.PageError.TheVariants.{Memory}
use Rattle.htmd.specs.PageValues.{is_filled, parts, selectors, url}
use Rattle.htmd_encodings.specs.Labels.{encoding_named}
use Rattle.htmd_encodings.specs.declared.encodings.Encoding.{Encoding}
use Rattle.htmd_selectors.specs.SelectorSteps.{Step}
use Rattle.url.specs.Parts.{Parts}
use Rattle.htmd_c.specs.declared.failures.Failure.{Failure}
use Rattle.htmd_c.specs.declared.failures.Failure.TheVariants as failure
use Rattle.htmd_c.specs.declared.page_options.HtmdPageOptions.{HtmdPageOptions}
use Rattle.htmd_c.specs.Options.{is_good, settings_of}

-- the text is selectors
abbrev pub AreSelectors : List ℕ → List Step → Type 0
AreSelectors [] steps = steps ≡ []
AreSelectors (b ∷ s) steps = IsUtf8 (b ∷ s) × (selectors (b ∷ s) ≡ Some steps)

-- the text is none
abbrev pub AreNoSelectors : List ℕ → Type 0
AreNoSelectors text = (¬ IsUtf8 text) ⊎ (selectors text ≡ None)

-- the text is names between commas, none of them empty
abbrev pub AreNames : List ℕ → List (List ℕ) → Type 0
AreNames [] names = names ≡ []
AreNames (b ∷ s) names =
    IsUtf8 (b ∷ s) × (list_all is_filled (parts (b ∷ s)) ≡ true) × (names ≡ parts (b ∷ s))

-- the text is no such names
abbrev pub AreNoNames : List ℕ → Type 0
AreNoNames text = (¬ IsUtf8 text) ⊎ (list_all is_filled (parts text) ≡ false)

-- the text is an absolute URL
abbrev pub IsBase : List ℕ → Option Parts → Type 0
IsBase [] base = base ≡ None
IsBase (b ∷ s) base =
    IsUtf8 (b ∷ s) × (address : Parts) × (url (b ∷ s) ≡ Some address) × (base ≡ Some address)

-- the text is no such URL
abbrev pub IsNoBase : List ℕ → Type 0
IsNoBase text = (¬ IsUtf8 text) ⊎ (url text ≡ None)

-- the text is the label of an encoding that is supported
abbrev pub IsEncoding : List ℕ → Option Encoding → Type 0
IsEncoding [] encoding = encoding ≡ None
IsEncoding (b ∷ s) encoding =
    (named : Encoding) × (encoding_named (b ∷ s) ≡ Some named) × (encoding ≡ Some named)

-- the text is no such label
abbrev pub IsNoEncoding : List ℕ → Type 0
IsNoEncoding text = encoding_named text ≡ None

-- the struct stands for these settings
pub record IsSettingsOf (given : HtmdPageOptions) (settings : Settings) : Type 0 where
  pub selected : AreSelectors given.select.now settings.selected
  pub dropped : AreSelectors given.drop.now settings.dropped
  pub skipped : AreNames given.skip.now settings.skipped
  pub base : IsBase given.base.now settings.base
  pub encoding : IsEncoding given.encoding.now settings.encoding
  pub others : settings ≡ record (settings_of given.options) {
    selected = settings.selected;
    dropped = settings.dropped;
    skipped = settings.skipped;
    base = settings.base;
    encoding = settings.encoding;
  }

-- why the struct stands for none; out of memory is no fault of it
abbrev pub IsSettingsFault : HtmdPageOptions → Failure → Type 0
IsSettingsFault given failure.BadOptions = is_good given.options ≡ false
IsSettingsFault given failure.BadSelect = AreNoSelectors given.select.now
IsSettingsFault given failure.BadDrop = AreNoSelectors given.drop.now
IsSettingsFault given failure.BadSkip = AreNoNames given.skip.now
IsSettingsFault given failure.BadBase = IsNoBase given.base.now
IsSettingsFault given failure.BadEncoding = IsNoEncoding given.encoding.now
IsSettingsFault given (failure.Page error) = error ≡ Memory
