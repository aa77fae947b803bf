-- What is done to the tree of a page before it is converted, and what the head of the page says of it.
use Rattle.std.specs.Prelude.{◌≡◌, ◌⊎◌, ◌++◌, ℕ, Bool, true, false, ◌&&◌, ◌||◌, not, if◌then◌else◌, List, [], ◌∷◌}
use Rattle.std.specs.Prelude.{Option}
use Rattle.std.specs.Prelude.{Some, None, option_map}
use Rattle.htmd_lexical.specs.Characters.{line_feed}
use Rattle.htmd_nodes.specs.Items.{Item}
use Rattle.htmd_article.specs.Articles.{article_page}
use Rattle.htmd_selectors.specs.SelectorSteps.{Step}
use Rattle.htmd_selectors.specs.SelectedParts.{dropped, selected}
use Rattle.htmd_addresses.specs.Addresses.{absolute_page}
use Rattle.htmd_addresses.specs.Bases.{base_address, page_base}
use Rattle.htmd_addresses.specs.Leads.{RunPage, led_page}
use Rattle.htmd_front_matter.specs.Lines.{front_matter}
use Rattle.htmd_front_matter.specs.Objects.{front_object}
use Rattle.htmd_front_matter.specs.Titles.{title_of}
use Rattle.htmd_trimming.specs.declared.asked.Images.{Images}
use Rattle.htmd_trimming.specs.declared.asked.Images.TheVariants as images
use Rattle.htmd_trimming.specs.Trimming.{visible_page, plainer_page}
use Rattle.htmd_trimming.specs.Titles.{titled_page}
use Rattle.url.specs.Parts.{Parts}
use Rattle.htmd.specs.PageSettings.{Settings}

-- there are selectors
abbrev pub are_given : List Step → Bool
are_given [] = false
are_given (step ∷ steps) = true

-- what the head of a page says of it: as JSON if the page is written in pieces, else as lines of YAML
abbrev pub front_of : Option ℕ → List Item → List ℕ
front_of None page = front_matter page
front_of (Some most) page = front_object page

-- what the head of a page says of it, if that is written; a text has no head
abbrev pub head_of : Settings → List Item → List ℕ
head_of settings page =
    if settings.front_matter && not settings.text then front_of settings.chunks page else []

-- lines that all end with a line feed, or none
abbrev pub AreLines : List ℕ → Type 0
AreLines s = (s ≡ []) ⊎ ((front : List ℕ) × (s ≡ front ++ line_feed ∷ []))

-- a page without what it hides, if only the rest is converted
abbrev pub visible_part : Settings → List Item → List Item
visible_part settings page = if settings.visible then visible_page page else page

-- the main content of a page, if only that is converted
abbrev pub main_content : Settings → List Item → List Item
main_content settings page = if settings.article then article_page page else page

-- a page without the elements that are left out
abbrev pub without_dropped : Settings → List Item → List Item
without_dropped settings page = if are_given settings.dropped then dropped settings.dropped page else page

-- what is selected of a page: nothing if no element is named, and all if there are no selectors
abbrev pub selected_of : Settings → List Item → Option (List Item)
selected_of settings page = if are_given settings.selected then selected settings.selected page else Some page

abbrev pub are_kept : Images → Bool
are_kept images.Keep = true
are_kept images.Linked = false
are_kept images.Alt = false
are_kept images.Drop = false

-- a part whose images and links are as they are to be written
abbrev pub plainer : Settings → List Item → List Item
plainer settings part =
    if settings.links_as_text || not (are_kept settings.images)
    then plainer_page settings.images settings.links_as_text part else part

-- the title of a page, if it is to be written
abbrev pub heading_of : Settings → List Item → Option (List ℕ)
heading_of settings page = if settings.title then title_of page else None

-- a part under a title
abbrev pub under_title : Option (List ℕ) → List Item → List Item
under_title None part = part
under_title (Some title) part = titled_page title part

-- the base of a page, if its URL is known
abbrev pub base_of : Option Parts → List Item → Option Parts
base_of None page = None
base_of (Some url) page = Some (page_base url page)

-- a part of a page with the addresses that it is to have: those that lead to pages of the run lead to their outputs, if
-- the page is one of a run, by the base that the page names; and the others are absolute, if there is a base
abbrev pub with_addresses : Option RunPage → Option Parts → Option (List ℕ) → List Item → List Item
with_addresses None None named part = part
with_addresses None (Some base) named part = absolute_page base part
with_addresses (Some page) base named part = led_page page.pages page.own base named part

-- a part as it is converted: with its images and links, the addresses that it is to have by the base of the whole page,
-- and the title of that
abbrev pub finished : Settings → List Item → List Item → List Item
finished settings page part =
    under_title (heading_of settings page)
    (with_addresses settings.run_page (base_of settings.base page) (base_address page) (plainer settings part))

-- the part of a page that is converted: what is selected of its main content, if only that is converted, without what
-- the page hides and what is left out; of a text all
abbrev pub part_of : Settings → List Item → Option (List Item)
part_of settings page =
    if settings.text then Some page
    else option_map (finished settings page)
    (selected_of settings (without_dropped settings (main_content settings (visible_part settings page))))
