-- The program's command-line options, and what they ask for.
use Rattle.std.specs.Prelude.{ℕ, ◌+◌, ◌-◌, ◌*◌, ◌^◌, Bool, true, false, nat_lt, if◌then◌else◌}
use Rattle.std.specs.Prelude.{List, [], ◌∷◌, ◌++◌, length, drop, Option, Some, None, is_some, option_map}
use Rattle.std.specs.Prelude.{option_and_then, codes, string_bytes}
use Rattle.std.specs.List.{list_all}
use Rattle.std.specs.Char.{is_ascii_digit}
use Rattle.std.specs.Str.{bytes_eq}
use Rattle.std.specs.declared.alloc.Global.{Global}
use Rattle.std.specs.declared.string.String.{String}
use Rattle.htmd.specs.Characters.{digit_zero}
use Rattle.htmd.specs.CharacterClasses.{begins_with}
use Rattle.htmd.specs.HeadingStyle.TheVariants as heading
use Rattle.htmd.specs.HrStyle.TheVariants as rule
use Rattle.htmd.specs.BrStyle.TheVariants as line_break
use Rattle.htmd.specs.LinkReferenceStyle.TheVariants as reference
use Rattle.htmd.specs.CodeBlockFence.TheVariants as fence
use Rattle.htmd.specs.BulletListMarker.TheVariants as marker
use Rattle.htmd.specs.DocumentAnchors.TheVariants as anchors
use Rattle.htmd.specs.KeptImages.TheVariants as images
use Rattle.htmd.specs.LinkStyle.TheVariants as link
use Rattle.htmd.specs.CodeBlockStyle.TheVariants as code_block
use Rattle.htmd.specs.TranslationMode.TheVariants as translation
use Rattle.htmd.specs.Options.{Options}
use Rattle.htmd_encodings.specs.declared.encodings.Encoding.{Encoding}
use Rattle.htmd_encodings.specs.Labels.{encoding_named}
use Rattle.htmd_selectors.specs.SelectorSteps.{Step}
use Rattle.htmd_addresses.specs.PageUrls.{page_url}
use Rattle.url.specs.Parts.{Parts}
use Rattle.htmd.specs.PageSettings.{Settings, default_settings, writes_html}
use Rattle.htmd.specs.PageValues.{is_filled, parts, selectors, url}

-- what the options ask for: the settings, whether the source is rows with a page each, and whether the help or the
-- version is shown in place of a conversion
pub record Request : Type 0 where
  pub settings : Settings
  pub rows : Bool
  pub shows : Bool

-- what is asked for if no option is given
abbrev pub default_request : Request
default_request = record { settings = default_settings; rows = false; shows = false }

-- ---- values

-- a number with a further decimal digit after it
abbrev pub with_digit : ℕ → ℕ → Option ℕ
with_digit n b = if is_ascii_digit b then Some (n * 10 + (b - digit_zero)) else None

abbrev pub number_behind : Option ℕ → List ℕ → Option ℕ
number_behind n [] = n
number_behind n (b ∷ s) = number_behind (option_and_then (λ m. with_digit m b) n) s

-- the number that decimal digits write
abbrev pub decimal : List ℕ → Option ℕ
decimal [] = None
decimal (b ∷ s) = number_behind (Some 0) (b ∷ s)

-- the number, if it is less than the limit
abbrev pub below : ℕ → Option ℕ → Option ℕ
below limit n = option_and_then (λ m. if nat_lt m limit then Some m else None) n

-- the number from 0 to 255 that decimal digits write
abbrev pub number : List ℕ → Option ℕ
number s = below 256 (decimal s)

-- the number of bytes that decimal digits write: 1 or more, as far as a machine word goes
abbrev pub size : List ℕ → Option ℕ
size s = option_and_then (λ n. if nat_lt 0 n then Some n else None) (below (2 ^ 64) (decimal s))

-- ---- what an option does to what is asked for so far

abbrev pub sets : (Settings → Settings) → Request → Request
sets change request = record request { settings = change request.settings }

abbrev pub sets_option : (Options → Options) → Request → Request
sets_option change = sets (λ settings. record settings { options = change settings.options })

abbrev pub skips : List (List ℕ) → Request → Request
skips names = sets (λ settings. record settings { skipped = settings.skipped ++ names })

-- further elements are converted
abbrev pub selects : List Step → Request → Request
selects steps = sets (λ settings. record settings { selected = settings.selected ++ steps })

-- further elements are left out
abbrev pub drops : List Step → Request → Request
drops steps = sets (λ settings. record settings { dropped = settings.dropped ++ steps })

-- addresses are made absolute
abbrev pub is_based_on : Parts → Request → Request
is_based_on url = sets (λ settings. record settings { base = Some url })

-- the URL of the page that has this path in the folder whose URL the options say, if they do
abbrev pub url_in_folder : Option Parts → List ℕ → Option Parts
url_in_folder base path = option_and_then (λ url. page_url url path) base

-- what the names of outputs end with, behind a full stop: HTML, lines of JSON, one JSON, or Markdown
abbrev pub extension : Settings → List ℕ
extension settings =
    if writes_html settings then codes "html" else if is_some settings.chunks then codes "jsonl"
    else if settings.mdast then codes "json" else codes "md"

-- what a reader sees is written in pieces of at most so many bytes
abbrev pub cuts : ℕ → Request → Request
cuts most = sets (λ settings. record settings { chunks = Some most })

-- any page, and what a reader sees of it is written
abbrev pub takes_any_page_guarded : Request → Request
takes_any_page_guarded = sets (λ settings. record settings { html5 = true; guarded = true })

-- Markdown, and what a reader sees of its HTML is written
abbrev pub takes_markdown : Request → Request
takes_markdown = sets (λ settings. record settings { from_markdown = true; html5 = true; guarded = true })

-- Faithful, in place of what a reader sees
abbrev pub takes_faithful : Request → Request
takes_faithful = sets (λ settings. record settings {
  guarded = false;
  options = record settings.options { translation_mode = translation.Faithful };
})

abbrev pub takes_rows : Request → Request
takes_rows request = record request { rows = true }

abbrev pub shows_instead : Request → Request
shows_instead request = record request { shows = true }

-- ---- the options

-- an option: all of it, or if it takes a value, what comes before that; whether memory is needed to read that value;
-- and what it does
pub record KnownOption : Type 0 where
  pub name : List ℕ
  pub takes_value : Bool
  pub takes_memory : Bool
  pub effect : List ℕ → Option (Request → Request)

-- an option with a value that is read in memory
abbrev pub parsed : List ℕ → (List ℕ → Option (Request → Request)) → KnownOption
parsed name effect = record { name = name; takes_value = true; takes_memory = true; effect = effect }

-- an option that is known as a whole
abbrev pub plain : List ℕ → (Request → Request) → KnownOption
plain name effect = record { name = name; takes_value = false; takes_memory = false; effect = λ value. Some effect }

-- an option that ends with a number from 0 to 255
abbrev pub numbered : List ℕ → (ℕ → Request → Request) → KnownOption
numbered name effect = record {
  name = name;
  takes_value = true;
  takes_memory = false;
  effect = λ value. option_map effect (number value);
}

-- an option that ends with a number of bytes
abbrev pub sized : List ℕ → (ℕ → Request → Request) → KnownOption
sized name effect = record {
  name = name;
  takes_value = true;
  takes_memory = false;
  effect = λ value. option_map effect (size value);
}

-- an option that ends with the label of an encoding
abbrev pub labelled : List ℕ → (Encoding → Request → Request) → KnownOption
labelled name effect = record {
  name = name;
  takes_value = true;
  takes_memory = false;
  effect = λ value. option_map effect (encoding_named value);
}

-- an option that ends with names between commas, none of them empty
abbrev pub named : List ℕ → (List (List ℕ) → Request → Request) → KnownOption
named name effect = record {
  name = name;
  takes_value = true;
  takes_memory = false;
  effect = λ value. if list_all is_filled (parts value) then Some (effect (parts value)) else None;
}

-- an option that ends with selectors
abbrev pub selecting : List ℕ → (List Step → Request → Request) → KnownOption
selecting name effect = parsed name (λ value. option_map effect (selectors value))

-- an option that ends with an absolute URL
abbrev pub addressed : List ℕ → (Parts → Request → Request) → KnownOption
addressed name effect = parsed name (λ value. option_map effect (url value))

abbrev pub known_options : List KnownOption
known_options =
    plain (codes "--web") takes_any_page_guarded
    ∷ plain (codes "--html5") (sets (λ settings. record settings { html5 = true }))
    ∷ plain (codes "--from-markdown") takes_markdown
    ∷ plain (codes "--body") (sets (λ settings. record settings { body = true }))
    ∷ plain (codes "--text") (sets (λ settings. record settings { text = true }))
    ∷ labelled (codes "--encoding=") (λ e. sets (λ settings. record settings { encoding = Some e }))
    ∷ plain (codes "--no-scripting") (sets (λ settings. record settings { scripting = false }))
    ∷ plain (codes "--rows") takes_rows
    ∷ plain (codes "--explain") (λ request. request)
    ∷ plain (codes "--guarded") (sets (λ settings. record settings { guarded = true }))
    ∷ plain (codes "--faithful") takes_faithful
    ∷ plain (codes "--html") (sets (λ settings. record settings { as_html = true }))
    ∷ plain (codes "--mdast") (sets (λ settings. record settings { mdast = true }))
    ∷ sized (codes "--chunks=") cuts
    ∷ plain (codes "--chunks") (cuts 2000)
    ∷ plain (codes "--anchors=linked") (sets (λ settings. record settings { anchors = anchors.Linked }))
    ∷ plain (codes "--anchors=all") (sets (λ settings. record settings { anchors = anchors.All }))
    ∷ plain (codes "--anchors=none") (sets (λ settings. record settings { anchors = anchors.None }))
    ∷ plain (codes "--no-anchors") (sets (λ settings. record settings { anchors = anchors.None }))
    ∷ plain (codes "--rich") (sets (λ settings. record settings { rich = true }))
    ∷ plain (codes "--front-matter") (sets (λ settings. record settings { front_matter = true }))
    ∷ plain (codes "--title") (sets (λ settings. record settings { title = true }))
    ∷ plain (codes "--visible") (sets (λ settings. record settings { visible = true }))
    ∷ plain (codes "--article") (sets (λ settings. record settings { article = true }))
    ∷ selecting (codes "--select=") selects
    ∷ selecting (codes "--drop=") drops
    ∷ named (codes "--skip=") skips
    ∷ addressed (codes "--base=") is_based_on
    ∷ plain (codes "--images=keep") (sets (λ settings. record settings { images = images.Keep }))
    ∷ plain (codes "--images=linked") (sets (λ settings. record settings { images = images.Linked }))
    ∷ plain (codes "--images=alt") (sets (λ settings. record settings { images = images.Alt }))
    ∷ plain (codes "--images=drop") (sets (λ settings. record settings { images = images.Drop }))
    ∷ plain (codes "--links=text") (sets (λ settings. record settings { links_as_text = true }))
    ∷ plain (codes "--heading-style=atx") (sets_option (λ options. record options { heading_style = heading.Atx }))
    ∷ plain (codes "--heading-style=setext")
    (sets_option (λ options. record options { heading_style = heading.Setex }))
    ∷ plain (codes "--hr-style=dashes") (sets_option (λ options. record options { hr_style = rule.Dashes }))
    ∷ plain (codes "--hr-style=asterisks") (sets_option (λ options. record options { hr_style = rule.Asterisks }))
    ∷ plain (codes "--hr-style=underscores")
    (sets_option (λ options. record options { hr_style = rule.Underscores }))
    ∷ plain (codes "--br-style=two-spaces")
    (sets_option (λ options. record options { br_style = line_break.TwoSpaces }))
    ∷ plain (codes "--br-style=backslash")
    (sets_option (λ options. record options { br_style = line_break.Backslash }))
    ∷ plain (codes "--link-style=inlined") (sets_option (λ options. record options { link_style = link.Inlined }))
    ∷ plain (codes "--link-style=inlined-prefer-autolinks")
    (sets_option (λ options. record options { link_style = link.InlinedPreferAutolinks }))
    ∷ plain (codes "--link-style=referenced")
    (sets_option (λ options. record options { link_style = link.Referenced }))
    ∷ plain (codes "--link-reference-style=full")
    (sets_option (λ options. record options { link_reference_style = reference.Full }))
    ∷ plain (codes "--link-reference-style=collapsed")
    (sets_option (λ options. record options { link_reference_style = reference.Collapsed }))
    ∷ plain (codes "--link-reference-style=shortcut")
    (sets_option (λ options. record options { link_reference_style = reference.Shortcut }))
    ∷ plain (codes "--code-block-style=indented")
    (sets_option (λ options. record options { code_block_style = code_block.Indented }))
    ∷ plain (codes "--code-block-style=fenced")
    (sets_option (λ options. record options { code_block_style = code_block.Fenced }))
    ∷ plain (codes "--code-block-fence=tildes")
    (sets_option (λ options. record options { code_block_fence = fence.Tildes }))
    ∷ plain (codes "--code-block-fence=backticks")
    (sets_option (λ options. record options { code_block_fence = fence.Backticks }))
    ∷ plain (codes "--bullet-list-marker=asterisk")
    (sets_option (λ options. record options { bullet_list_marker = marker.Asterisk }))
    ∷ plain (codes "--bullet-list-marker=dash")
    (sets_option (λ options. record options { bullet_list_marker = marker.Dash }))
    ∷ numbered (codes "--ul-bullet-spacing=")
    (λ n. sets_option (λ options. record options { ul_bullet_spacing = n }))
    ∷ numbered (codes "--ol-number-spacing=")
    (λ n. sets_option (λ options. record options { ol_number_spacing = n }))
    ∷ plain (codes "--preformatted-code") (sets_option (λ options. record options { preformatted_code = true }))
    ∷ plain (codes "--help") shows_instead
    ∷ plain (codes "-h") shows_instead
    ∷ plain (codes "--version") shows_instead
    ∷ plain (codes "--manual") shows_instead
    ∷ plain (codes "--completions=bash") shows_instead
    ∷ plain (codes "--completions=zsh") shows_instead
    ∷ plain (codes "--completions=fish") shows_instead
    ∷ []

-- the option is given: this name, or if it takes a value, this name and more
abbrev pub is_given : List ℕ → Bool → List ℕ → Bool
is_given name takes given = if takes then begins_with name given else bytes_eq given name

-- what a given option does, if it is known
abbrev pub meaning : List KnownOption → List ℕ → Option (Request → Request)
meaning [] given = None
meaning (option ∷ others) given =
    if is_given option.name option.takes_value given
    then option.effect (drop (length option.name) given) else meaning others given

-- the value of a given option is read in memory
abbrev pub takes_memory_in : List KnownOption → List ℕ → Bool
takes_memory_in [] given = false
takes_memory_in (option ∷ others) given =
    if is_given option.name option.takes_value given then option.takes_memory else takes_memory_in others given

unfoldable pub is_read_in_memory : List ℕ → Bool
is_read_in_memory given = takes_memory_in known_options given

abbrev pub takes_memory : String Global → Bool
takes_memory given = is_read_in_memory (string_bytes given)

abbrev pub is_known : String Global → Bool
is_known given = is_some (meaning known_options (string_bytes given))

abbrev pub are_known : List (String Global) → Bool
are_known given = list_all is_known given

abbrev pub after : Option (Request → Request) → Request → Request
after None request = request
after (Some effect) request = effect request

-- what is asked for after further options: of two for one field the last one counts
abbrev pub request_after : Request → List (String Global) → Request
request_after request [] = request
request_after request (given ∷ more) = request_after (after (meaning known_options (string_bytes given)) request) more

-- what the options ask for
unfoldable pub request_by : List (String Global) → Request
request_by given = request_after default_request given
