-- What a run by a mode writes of its input, and what it ends at if that isn't UTF-8.
use Rattle.std.specs.Prelude.{◌≡◌, ℕ, Bool, true, false, if◌then◌else◌, List, [], ◌∷◌, ◌++◌, Option, IsUtf8, ⊤}
use Rattle.std.specs.Io.KnownBytes.{Appends}
use Rattle.htmd.specs.BuiltIn.{built_in}
use Rattle.htmd.specs.Characters.{line_feed}
use Rattle.htmd.specs.Choice.{Config}
use Rattle.htmd.specs.Conversions.{IsMarkdownOf}
use Rattle.htmd_cli.specs.declared.faults.RunError.{RunError}
use Rattle.htmd_cli.specs.declared.faults.RunError.TheVariants.{NotUtf8, Memory, Read}
use Rattle.htmd.specs.PageOutputs.{paragraph_markdown}
use Rattle.htmd.specs.Defaults.{default_options}
use Rattle.htmd.specs.Options.{Options}
use Rattle.htmd.specs.TranslationMode.TheVariants.{Pure, Faithful}

-- the options of a mode: the default ones, but Faithful if that is asked for
abbrev pub options_of : Bool → Options
options_of faithful = record default_options { translation_mode = if faithful then Faithful else Pure }

-- the built-in handlers with the default options, but Faithful if that is asked for
abbrev pub handlers_by : Bool → Config
handlers_by faithful = built_in (options_of faithful)

-- this is the Markdown of an input by a mode: of a text that is one paragraph, else of HTML of the strict grammar
abbrev pub IsMarkdownBy : Bool → Bool → List ℕ → List ℕ → Type 0
IsMarkdownBy true faithful text markdown = markdown ≡ paragraph_markdown (handlers_by faithful) text
IsMarkdownBy false faithful html markdown = IsMarkdownOf (handlers_by faithful) true html markdown

-- the input is UTF-8 and has Markdown
abbrev pub HasMarkdown : Bool → Bool → List ℕ → Type 0
HasMarkdown text faithful input = IsUtf8 input × (markdown : List ℕ) × IsMarkdownBy text faithful input markdown

-- the input is UTF-8, and its Markdown and a line feed were written
abbrev pub WritesMarkdown : Bool → Bool → Option (List ℕ) → Option (List ℕ) → List ℕ → Type 0
WritesMarkdown text faithful before after input =
    IsUtf8 input × (markdown : List ℕ) × IsMarkdownBy text faithful input markdown
    × Appends before after (markdown ++ line_feed ∷ [])

-- what a run ends at if its input isn't UTF-8: that, unless the source or the memory failed while it was read
abbrev pub IsBeforeConversion : RunError → Type 0
IsBeforeConversion NotUtf8 = ⊤
IsBeforeConversion Read = ⊤
IsBeforeConversion Memory = ⊤
IsBeforeConversion _ = ⊥
