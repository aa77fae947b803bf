-- What shows of a tree: a simpler tree, of which documents are made. What is taken away, and what is added, is here.
use Rattle.std.specs.Prelude.{ℕ, Bool, true, false, ◌||◌, ◌&&◌, if◌then◌else◌, List, [], ◌∷◌, codes}
use Rattle.std.specs.Prelude.{Option, Some, None}
use Rattle.std.specs.Option.{option_or}
use Rattle.std.specs.Str.{bytes_eq}
use Rattle.htmd_lexical.specs.Characters.{quotation_mark}
use Rattle.htmd_lexical.specs.AttributePairs.{AttributePair}
use Rattle.htmd_document.specs.declared.document.InlineElement.{InlineElement}
use Rattle.htmd_document.specs.declared.document.InlineElement.TheVariants.{Superscript, Subscript, Keyboard}
use Rattle.htmd_nodes.specs.NumberedTrees.{NumberedTree, NumberedForest}
use Rattle.htmd_nodes.specs.NumberedTrees as page
use Rattle.htmd_shown.specs.declared.role.Role.{Role}
use Rattle.htmd_shown.specs.declared.role.Role.TheVariants as role
use Rattle.htmd_shown.specs.Attributes.{has_attribute, is_any_case, text_of, words}
use Rattle.htmd_shown.specs.Embeds.{Embedding, embedding_of, embedding_names}
use Rattle.htmd_shown.specs.Facts.{made}
use Rattle.htmd_shown.specs.Formulas.{tex_of, is_display}
use Rattle.htmd_shown.specs.Images.{is_image, image_address, picture_source}
use Rattle.htmd_shown.specs.Kinds.{are_blank}
use Rattle.htmd_shown.specs.LineNumbers.{is_number_in_code, is_number_cell, is_numbered_row}
use Rattle.htmd_shown.specs.LineNumbers.{has_numbered_rows}
use Rattle.htmd_shown.specs.Permalinks.{is_permalink}
use Rattle.htmd_shown.specs.Repeats.{is_repeat, last_element, leads_to_script}
use Rattle.htmd_shown.specs.Roles.{is_among, hidden_names, is_headed, is_preformatted, is_void, role_of}
use Rattle.htmd_shown.specs.ShownTexts.{shown_text}
use Rattle.htmd_shown.specs.SimpleTrees.{Simple, text, image, formula, embedded, Simples, none, more, is_text}

-- whether scripts run, the names of the elements that are skipped with all in them, and whether the document is rich
pub record Sight : Type 0 where
  pub scripting : Bool
  pub skip : List (List ℕ)
  pub is_rich : Bool

-- what stands around a node: a heading or the like, a `pre`, and right around it a row with line numbers
pub record Surroundings : Type 0 where
  pub in_head : Bool
  pub in_pre : Bool
  pub in_numbered_row : Bool

abbrev pub nowhere : Surroundings
nowhere = record { in_head = false; in_pre = false; in_numbered_row = false }

abbrev pub inside : List ℕ → NumberedForest → Surroundings → Surroundings
inside name children around = record {
  in_head = around.in_head || is_headed (role_of name);
  in_pre = around.in_pre || is_preformatted (role_of name);
  in_numbered_row = is_numbered_row name children;
}

-- ---- roles

abbrev pub is_layout_word : List ℕ → Bool
is_layout_word word = is_any_case (codes "presentation") word || is_any_case (codes "none") word

abbrev pub begins_with_layout : List (List ℕ) → Bool
begins_with_layout [] = false
begins_with_layout (word ∷ rest) = is_layout_word word

-- a table that says that it is for the page's layout
abbrev pub is_for_layout : List AttributePair → Bool
is_for_layout attributes = begins_with_layout (words (text_of (codes "role") attributes))

-- what an element is in a document that isn't rich: what is typed is code
abbrev pub plain_element : InlineElement → Role
plain_element Superscript = role.Element Superscript
plain_element Subscript = role.Element Subscript
plain_element Keyboard = role.Typed
plain_element element = role.Plain

-- An `a` without an address is no link; a table for layout, or with line numbers, is none of rows and columns.
abbrev pub role_by : Bool → Role → List AttributePair → NumberedForest → Role
role_by is_rich role.Link attributes children =
    if has_attribute (codes "href") attributes then role.Link else role.Target
role_by is_rich role.Table attributes children =
    if is_for_layout attributes || has_numbered_rows children then role.LayoutTable else role.Table
role_by is_rich (role.Element element) attributes children =
    if is_rich then role.Element element else plain_element element
role_by is_rich role.Abbreviation attributes children =
    if is_rich then role.Abbreviation else role.Plain
role_by is_rich r attributes children = r

abbrev pub role_at : Bool → List ℕ → List AttributePair → NumberedForest → Role
role_at is_rich name attributes children = role_by is_rich (role_of name) attributes children

-- ---- raised and lowered parts of formulas

-- of the element children of `msup` the second is raised
abbrev pub raised_by : List ℕ → List (Option InlineElement)
raised_by name =
    if bytes_eq name (codes "msup") then None ∷ Some Superscript ∷ []
    else (if bytes_eq name (codes "msub") then None ∷ Some Subscript ∷ []
    else (if bytes_eq name (codes "msubsup") then None ∷ Some Subscript ∷ Some Superscript ∷ [] else []))

abbrev pub raised_one : Option InlineElement → ℕ → Simple → Simple
raised_one None id tree = tree
raised_one (Some format) id tree =
    if is_text tree then tree else made id (role.Element format) [] (more tree none)

-- the first format, and those for the elements after this node
abbrev pub format_of : List (Option InlineElement) → Option InlineElement
format_of [] = None
format_of (format ∷ formats) = format

abbrev pub formats_after : List (Option InlineElement) → Simple → List (Option InlineElement)
formats_after [] tree = []
formats_after (format ∷ formats) tree = if is_text tree then format ∷ formats else formats

abbrev pub raised : List (Option InlineElement) → ℕ → Simples → Simples
raised formats id none = none
raised formats id (more tree trees) =
    more (raised_one (format_of formats) id tree) (raised (formats_after formats tree) id trees)

-- ---- elements

-- before others, if there is one
abbrev pub with_one : Option Simple → Simples → Simples
with_one None trees = trees
with_one (Some tree) trees = more tree trees

abbrev pub followed_by : Simples → Simples → Simples
followed_by none trees = trees
followed_by (more tree rest) trees = more tree (followed_by rest trees)

-- a quotation in a line stands in marks
abbrev pub marks : Bool → Simples
marks false = none
marks true = more (text (quotation_mark ∷ [])) none

abbrev pub marked : Bool → Simples → Simples
marked is_quoted content = followed_by (followed_by (marks is_quoted) content) (marks is_quoted)

-- links lead to it by its `id` or its `name`
abbrev pub is_led_to : List AttributePair → Bool
is_led_to attributes = has_attribute (codes "id") attributes || has_attribute (codes "name") attributes

-- what stays of a permalink
abbrev pub target : ℕ → List AttributePair → Option Simple
target id attributes = if is_led_to attributes then Some (made id role.Target attributes none) else None

-- an element by what shows of its content
abbrev pub with_content : Bool → Bool → ℕ → List ℕ → List AttributePair → NumberedForest → Simples
    → Option Simple
with_content is_rich in_head id name attributes children content =
    if bytes_eq name (codes "a") && is_permalink in_head attributes content then target id attributes
    else Some (made id (role_at is_rich name attributes children) attributes content)

-- what is embedded, if something is
abbrev pub embed : ℕ → List AttributePair → Option Embedding → Option Simple
embed id attributes None = None
embed id attributes (Some found) = Some (embedded id found.address found.title attributes [])

-- an object is what is in it, but what it embeds where nothing shows of that
abbrev pub object : ℕ → List AttributePair → Simples → Option Embedding → Option Simple
object id attributes content found =
    if are_blank content then option_or (embed id attributes found) (Some (made id role.Plain attributes content))
    else Some (made id role.Plain attributes content)

-- ---- the order of the rules

-- skipped with all in it
abbrev pub is_skipped : Sight → List ℕ → Bool
is_skipped sight name = is_among sight.skip name || (bytes_eq name (codes "noscript") && sight.scripting)

-- a browser doesn't show it, or it is a line number in code
abbrev pub is_hidden : Surroundings → List ℕ → List AttributePair → Bool
is_hidden around name attributes =
    is_among hidden_names name || (around.in_pre && is_number_in_code name attributes)

-- nothing of its content shows
abbrev pub is_emptied : Surroundings → List ℕ → List AttributePair → Bool
is_emptied around name attributes =
    is_void (role_of name) || (around.in_numbered_row && is_number_cell name attributes)

-- an element that isn't skipped and is no formula; content: what shows of its content
abbrev pub by_content : Bool → Surroundings → Option (List ℕ) → ℕ → List ℕ → List AttributePair
    → NumberedForest
    → Simples → Option Simple
by_content is_rich around source id name attributes children content =
    if is_hidden around name attributes then None
    else (if is_image name attributes then Some (image (image_address attributes source) attributes)
    else (if is_among embedding_names name then embed id attributes (embedding_of name attributes children)
    else (if bytes_eq name (codes "object")
    then object id attributes content (embedding_of name attributes children)
    else with_content is_rich around.in_head id name attributes children content)))

abbrev pub formula_or : List ℕ → List AttributePair → Option Simple → Option (List ℕ) → Option Simple
formula_or name attributes other None = other
formula_or name attributes other (Some tex) = Some (formula tex (is_display name attributes) attributes)

-- ---- a picture's source is for the first image in it

abbrev pub is_img : NumberedTree → Bool
is_img (page.element id name attributes children) = bytes_eq name (codes "img")
is_img _ = false

abbrev pub source_for : Option (List ℕ) → NumberedTree → Option (List ℕ)
source_for source tree = if is_img tree then source else None

abbrev pub source_after : Option (List ℕ) → NumberedTree → Option (List ℕ)
source_after source tree = if is_img tree then None else source

-- ---- nodes

unfoldable mutual
  -- what shows of a node, if something does
  pub shown : Sight → Surroundings → Option (List ℕ) → NumberedTree → Option Simple
  shown sight around source (page.document id children) = None
  shown sight around source (page.doctype id) = None
  shown sight around source (page.text id s) = Some (text (shown_text s))
  shown sight around source (page.comment id s) = None
  shown sight around source (page.element id name attributes children) =
      if is_skipped sight name then None
      else formula_or name attributes
      (by_content sight.is_rich around source id name attributes children
      (if is_emptied around name attributes then none
      else marked (bytes_eq name (codes "q")) (raised (raised_by name) id
      (shown_all sight (inside name children around) (picture_source name children) None children))))
      (tex_of name attributes children)

  -- what shows of nodes beside each other; source: what a picture gives; before: the last element's attributes
  pub shown_all : Sight → Surroundings → Option (List ℕ) → Option (List AttributePair) → NumberedForest
      → Simples
  shown_all sight around source before page.none = none
  shown_all sight around source before (page.more tree trees) =
      with_one (if is_repeat before tree (leads_to_script sight.skip trees) then None
      else shown sight around (source_for source tree) tree)
      (shown_all sight around (source_after source tree) (last_element before tree) trees)

-- what shows of a page
abbrev pub shown_in : Sight → NumberedTree → Simples
shown_in sight (page.document id children) = shown_all sight nowhere None None children
shown_in sight _ = none
