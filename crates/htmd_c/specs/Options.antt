-- What the numbers of the struct of options mean. For each field 0 is the default of `convert`, except for the version,
-- scripting, which is on by default, and the spacings.
use Rattle.std.specs.Prelude.{ℕ, Bool, false, ◌&&◌, ◌==◌, List, [], Option, Some, None, nat_lt, if◌then◌else◌}
use Rattle.std.specs.Prelude.{replicate}
use Rattle.std.specs.Int.{from_le_bytes, w32}
use Rattle.std.specs.List.{list_all}
use Rattle.htmd.specs.HeadingStyle.{HeadingStyle}
use Rattle.htmd.specs.HeadingStyle.TheVariants.{Atx, Setex}
use Rattle.htmd.specs.HrStyle.{HrStyle}
use Rattle.htmd.specs.HrStyle.TheVariants.{Asterisks, Dashes, Underscores}
use Rattle.htmd.specs.BrStyle.{BrStyle}
use Rattle.htmd.specs.BrStyle.TheVariants.{TwoSpaces, Backslash}
use Rattle.htmd.specs.LinkReferenceStyle.{LinkReferenceStyle}
use Rattle.htmd.specs.LinkReferenceStyle.TheVariants.{Full, Collapsed, Shortcut}
use Rattle.htmd.specs.CodeBlockFence.{CodeBlockFence}
use Rattle.htmd.specs.CodeBlockFence.TheVariants.{Backticks, Tildes}
use Rattle.htmd.specs.BulletListMarker.{BulletListMarker}
use Rattle.htmd.specs.BulletListMarker.TheVariants.{Asterisk, Dash}
use Rattle.htmd.specs.LinkStyle.{LinkStyle}
use Rattle.htmd.specs.LinkStyle.TheVariants.{Inlined, InlinedPreferAutolinks, Referenced}
use Rattle.htmd.specs.CodeBlockStyle.{CodeBlockStyle}
use Rattle.htmd.specs.CodeBlockStyle.TheVariants.{Fenced, Indented}
use Rattle.htmd.specs.DocumentAnchors.{Anchors}
use Rattle.htmd.specs.DocumentAnchors.TheVariants as places
use Rattle.htmd.specs.KeptImages.{Images}
use Rattle.htmd.specs.KeptImages.TheVariants as images
use Rattle.htmd.specs.TranslationMode.{TranslationMode}
use Rattle.htmd.specs.TranslationMode.TheVariants.{Pure, Faithful}
use Rattle.htmd.specs.Options.{Options}
use Rattle.htmd.specs.PageSettings.{Settings}
use Rattle.htmd_encodings.specs.declared.encodings.Encoding.TheVariants.{Utf8}
use Rattle.htmd_c.specs.declared.options.HtmdOptions.{HtmdOptions}

-- the version of the struct that this library knows
abbrev pub version : ℕ
version = 1

-- the readers: the text as it stands, what is between the tags of the body of a page, and any page as browsers read it
abbrev pub strict : ℕ
strict = 0

abbrev pub page : ℕ
page = 1

abbrev pub html5 : ℕ
html5 = 2

-- the mode that writes what a reader sees of the text, and the output that is this as JSON
abbrev pub guarded : ℕ
guarded = 2

abbrev pub mdast : ℕ
mdast = 1

-- the struct that a caller begins with
abbrev pub default_struct : HtmdOptions
default_struct = record {
  version = version;
  reader = strict;
  mode = 0;
  scripting = 1;
  heading_style = 0;
  hr_style = 0;
  br_style = 0;
  link_style = 0;
  link_reference_style = 0;
  code_block_style = 0;
  code_block_fence = 0;
  bullet_list_marker = 0;
  ul_bullet_spacing = 3;
  ol_number_spacing = 2;
  preformatted_code = 0;
  output = 0;
  front_matter = 0;
  anchors = 0;
  rich = 0;
  article = 0;
  visible = 0;
  images = 0;
  links_as_text = 0;
  title = 0;
  chunk_bytes = replicate 4 0;
  reserved = replicate 4 0;
}

-- what a text is read as, and what becomes of what Markdown has no form for, have numbers that are known
abbrev pub is_reading_known : HtmdOptions → Bool
is_reading_known given =
    (given.version == version) && nat_lt given.reader 3 && nat_lt given.mode 3 && nat_lt given.scripting 2

-- the styles of single lines and links have numbers that are known
abbrev pub are_lines_known : HtmdOptions → Bool
are_lines_known given =
    nat_lt given.heading_style 2 && nat_lt given.hr_style 3 && nat_lt given.br_style 2
    && nat_lt given.link_style 3 && nat_lt given.link_reference_style 3

-- the styles of code and of lists, the output, what is written before it, which places of links there are and whether
-- the document is rich have numbers that are known; a spacing is any number
abbrev pub are_blocks_known : HtmdOptions → Bool
are_blocks_known given =
    nat_lt given.code_block_style 2 && nat_lt given.code_block_fence 2 && nat_lt given.bullet_list_marker 2
    && nat_lt given.preformatted_code 2 && nat_lt given.output 2 && nat_lt given.front_matter 2
    && nat_lt given.anchors 3 && nat_lt given.rich 2

-- what of the page is converted, how images and links are kept, and whether a title comes first have numbers that are
-- known
abbrev pub are_changes_known : HtmdOptions → Bool
are_changes_known given =
    nat_lt given.article 2 && nat_lt given.visible 2 && nat_lt given.images 4 && nat_lt given.links_as_text 2
    && nat_lt given.title 2

-- the version is known, each number is one of its field's, and what is reserved is 0
abbrev pub is_good : HtmdOptions → Bool
is_good given =
    is_reading_known given && are_lines_known given && are_blocks_known given && are_changes_known given
    && list_all (λ b. b == 0) given.reserved

abbrev pub mode : ℕ → TranslationMode
mode n = if n == 1 then Faithful else Pure

abbrev pub heading_style : ℕ → HeadingStyle
heading_style n = if n == 1 then Setex else Atx

abbrev pub hr_style : ℕ → HrStyle
hr_style n = if n == 1 then Dashes else if n == 2 then Underscores else Asterisks

abbrev pub br_style : ℕ → BrStyle
br_style n = if n == 1 then Backslash else TwoSpaces

abbrev pub link_style : ℕ → LinkStyle
link_style n = if n == 1 then InlinedPreferAutolinks else if n == 2 then Referenced else Inlined

abbrev pub link_reference_style : ℕ → LinkReferenceStyle
link_reference_style n = if n == 1 then Collapsed else if n == 2 then Shortcut else Full

abbrev pub code_block_style : ℕ → CodeBlockStyle
code_block_style n = if n == 1 then Indented else Fenced

abbrev pub code_block_fence : ℕ → CodeBlockFence
code_block_fence n = if n == 1 then Tildes else Backticks

abbrev pub bullet_list_marker : ℕ → BulletListMarker
bullet_list_marker n = if n == 1 then Dash else Asterisk

abbrev pub anchors : ℕ → Anchors
anchors n = if n == 1 then places.All else if n == 2 then places.None else places.Linked

abbrev pub kept_images : ℕ → Images
kept_images n =
    if n == 1 then images.Linked else if n == 2 then images.Alt else if n == 3 then images.Drop else images.Keep

-- how many bytes a piece may have, if there are pieces
abbrev pub chunks : List ℕ → Option ℕ
chunks bytes = if from_le_bytes w32 bytes == 0 then None else Some (from_le_bytes w32 bytes)

-- the options that a good struct stands for
abbrev pub options_of : HtmdOptions → Options
options_of given = record {
  heading_style = heading_style given.heading_style;
  hr_style = hr_style given.hr_style;
  br_style = br_style given.br_style;
  link_style = link_style given.link_style;
  link_reference_style = link_reference_style given.link_reference_style;
  code_block_style = code_block_style given.code_block_style;
  code_block_fence = code_block_fence given.code_block_fence;
  bullet_list_marker = bullet_list_marker given.bullet_list_marker;
  ul_bullet_spacing = given.ul_bullet_spacing;
  ol_number_spacing = given.ol_number_spacing;
  preformatted_code = given.preformatted_code == 1;
  translation_mode = mode given.mode;
}

-- scripting is on
abbrev pub is_scripting : HtmdOptions → Bool
is_scripting given = given.scripting == 1

-- how a page is read and converted by a good struct, whose bytes are UTF-8
abbrev pub settings_of : HtmdOptions → Settings
settings_of given = record {
  text = false;
  body = given.reader == page;
  html5 = given.reader == html5;
  from_markdown = false;
  encoding = Some Utf8;
  as_html = false;
  guarded = given.mode == guarded;
  mdast = given.output == mdast;
  chunks = chunks given.chunk_bytes;
  anchors = anchors given.anchors;
  rich = given.rich == 1;
  scripting = is_scripting given;
  options = options_of given;
  skipped = [];
  visible = given.visible == 1;
  article = given.article == 1;
  selected = [];
  dropped = [];
  images = kept_images given.images;
  links_as_text = given.links_as_text == 1;
  title = given.title == 1;
  base = None;
  name = None;
  run_page = None;
  front_matter = given.front_matter == 1;
}
