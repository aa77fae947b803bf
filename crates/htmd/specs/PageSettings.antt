-- How a page is read, and how it is converted; and what a run over several pages adds to that.
use Rattle.std.specs.Prelude.{◌&&◌, ◌||◌, not, Bool, true, false, List, [], ℕ, map, Option, None, option_copied, option_map}
use Rattle.std.specs.Option.{option_or}
use Rattle.htmd_document_of_tree.specs.declared.anchors.Anchors.{Anchors}
use Rattle.htmd_document_of_tree.specs.declared.anchors.Anchors.TheVariants as which
use Rattle.htmd_encodings.specs.declared.encodings.Encoding.{Encoding}
use Rattle.htmd_trimming.specs.declared.asked.Images.{Images}
use Rattle.htmd_trimming.specs.declared.asked.Images.TheVariants as images
use Rattle.htmd_walk.specs.declared.options.Options.{Options}
use Rattle.htmd_walk.specs.Defaults.{default_options}
use Rattle.htmd_selectors.specs.SelectorSteps.{Step}
use Rattle.htmd_selectors.specs.Views.{steps_in}
use Rattle.htmd_addresses.specs.Leads.{RunPage}
use Rattle.htmd_addresses.specs.RunViews.{run_page_of}
use Rattle.url.specs.Parts.{Parts}
use Rattle.htmd.specs.declared.page_settings.PageSettings as held
use Rattle.htmd.specs.declared.page_settings.PageInRun as held_in_run

pub record Settings : Type 0 where
  -- the input is the text of one paragraph, and not HTML
  pub text : Bool
  -- the input is a whole page, of which the body is converted
  pub body : Bool
  -- the input is any page, as browsers read it
  pub html5 : Bool
  -- the input is Markdown, whose HTML is read as any page, unless it is one paragraph
  pub from_markdown : Bool
  -- the encoding of bytes without a mark, if it is given
  pub encoding : Option Encoding
  -- that HTML is written as it is
  pub as_html : Bool
  -- what a reader sees of the page is written
  pub guarded : Bool
  -- that is written as JSON, in the form of mdast
  pub mdast : Bool
  -- that is written in pieces of at most so many bytes, as lines of JSON
  pub chunks : Option ℕ
  -- which places of links the document has that a reader sees
  pub anchors : Anchors
  -- that document keeps elements that Markdown has no form for
  pub rich : Bool
  pub scripting : Bool
  pub options : Options
  -- elements with these names give nothing
  pub skipped : List (List ℕ)
  -- only what the page doesn't hide is converted
  pub visible : Bool
  -- only the main content of the page is converted
  pub article : Bool
  -- only the outermost elements that these selectors name are converted, if there are any selectors
  pub selected : List Step
  -- the elements that these selectors name are left out
  pub dropped : List Step
  -- how images are kept
  pub images : Images
  -- links are written as their text
  pub links_as_text : Bool
  -- the page's title is written as a heading, if the page has none of the first level
  pub title : Bool
  -- the URL of the page, if addresses are made absolute
  pub base : Option Parts
  -- what the page is called in a run; what is said of all pages doesn't say it
  pub name : Option (List ℕ)
  -- the page as one of a run, if addresses lead to the outputs of its pages; what is said of all pages doesn't say it
  pub run_page : Option RunPage
  -- what the head of the page says of it is written first, or in each piece
  pub front_matter : Bool

-- a page is read as browsers read it
abbrev pub is_any_page : Settings → Bool
is_any_page settings = settings.from_markdown || settings.html5

-- the bytes of an input are Markdown
abbrev pub is_markdown : Settings → Bool
is_markdown settings = settings.from_markdown && not settings.text

-- their HTML is written as it is
abbrev pub writes_html : Settings → Bool
writes_html settings = settings.as_html && is_markdown settings

-- the settings that are held
abbrev pub settings_in : held.PageSettings → Settings
settings_in settings = record {
  text = settings.text;
  body = settings.body;
  html5 = settings.html5;
  from_markdown = settings.from_markdown;
  encoding = settings.encoding;
  as_html = settings.as_html;
  guarded = settings.guarded;
  mdast = settings.mdast;
  chunks = settings.chunks;
  anchors = settings.anchors;
  rich = settings.rich;
  scripting = settings.scripting;
  options = settings.options;
  skipped = map (λ name. name.now) settings.skipped.items;
  visible = settings.visible;
  article = settings.article;
  selected = steps_in settings.selected;
  dropped = steps_in settings.dropped;
  images = settings.images;
  links_as_text = settings.links_as_text;
  title = settings.title;
  base = settings.base;
  name = None;
  run_page = None;
  front_matter = settings.front_matter;
}

-- the settings if nothing else is said
abbrev pub default_settings : Settings
default_settings = record {
  text = false;
  body = false;
  html5 = false;
  from_markdown = false;
  encoding = None;
  as_html = false;
  guarded = false;
  mdast = false;
  chunks = None;
  anchors = which.Linked;
  rich = false;
  scripting = true;
  options = default_options;
  skipped = [];
  visible = false;
  article = false;
  selected = [];
  dropped = [];
  images = images.Keep;
  links_as_text = false;
  title = false;
  base = None;
  name = None;
  run_page = None;
  front_matter = false;
}

-- what a run adds for one of its pages: the URL of that page, what it is called, and the page as one of the run
pub record PageInRun : Type 0 where
  pub url : Option Parts
  pub name : Option (List ℕ)
  pub run_page : Option RunPage

-- what is held of a page in a run
abbrev pub page_in : held_in_run.PageInRun → PageInRun
page_in page = record {
  url = page.url;
  name = option_copied page.name;
  run_page = option_map run_page_of page.run_page;
}

-- a page by itself
abbrev pub alone : PageInRun
alone = record { url = None; name = None; run_page = None }

-- the settings for one page of a run
abbrev pub settings_for : PageInRun → Settings → Settings
settings_for page settings = record settings {
  base = option_or page.url settings.base;
  name = option_or page.name settings.name;
  run_page = option_or page.run_page settings.run_page;
}
