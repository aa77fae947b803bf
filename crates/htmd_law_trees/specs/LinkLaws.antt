-- The laws of links, images and references.
use Rattle.std.specs.Prelude.{◌≡◌, ◌⊎◌, ℕ, ◌+◌, ◌<◌, false, List, [], ◌∷◌, length, slice_get, Option, Some}
use Rattle.std.specs.Prelude.{codes}
use Rattle.std.specs.Option.{IsSomeAnd}
use Rattle.htmd_markdown.specs.Addresses.{holds_backslash, HoldsAddress}
use Rattle.htmd_markdown.specs.Links.{image_start, resource_end, inline_link_start, inline_link_end, reference}
use Rattle.htmd_markdown.specs.Links.{definition_start, definition}
use Rattle.htmd_markdown.specs.Titles.{title_text}
use Rattle.htmd_markdown.specs.declared.link.LinkReferenceStyle.TheVariants.{Full}
use Rattle.htmd_nodes.specs.Items.{Item}
use Rattle.htmd_markdown.specs.declared.link.LinkStyle.{LinkStyle}
use Rattle.htmd_markdown.specs.declared.link.LinkStyle.TheVariants.{Inlined, InlinedPreferAutolinks, Referenced}
use Rattle.htmd_walk.specs.declared.options.Options.{Options}
use Rattle.htmd_walk.specs.Handling.{ElementView, ResultView, PlanView, this_result, Finish, HandlerMeaning}
use Rattle.htmd_walk.specs.Handling.{of_functions}
use Rattle.htmd_walk.specs.Choice.{Config, handler_at, with_handler, with_options, no_handler}
use Rattle.htmd_walk.specs.Layers.{put_at}
use Rattle.htmd_walk.specs.LinkAttributes.{title_of}
use Rattle.htmd_walk.specs.Images.{images, image_address, alternative_text}
use Rattle.htmd_walk.specs.Anchors.{anchors, anchor_address}
use Rattle.htmd_walk.specs.ElementPlans.{markdown_result}
use Rattle.htmd_walk.specs.BuiltIn.{built_in}
use Rattle.htmd_walk.specs.Markdown.{walked_node}

-- ---- addresses

-- An image, if it is written, holds the address, if that has no backslash.
abbrev pub ImagesHoldAddresses : Type 0
ImagesHoldAddresses =
    (view : ElementView) (address : List ℕ) (written : ResultView) → image_address view ≡ Some address
    → holds_backslash address ≡ false → images.plan view ≡ this_result written
    → HoldsAddress (image_start address (alternative_text view)) address (resource_end address (title_of view))
    written.content

abbrev pub InlineLinkHolds : ElementView → List ℕ → List ℕ → List ℕ → Type 0
InlineLinkHolds view content address link =
    HoldsAddress (inline_link_start content address) address (inline_link_end content address (title_of view)) link

-- what holds the address of a link: the link, or its definition, which has this number in style Full
abbrev pub LinkHolds : LinkStyle → ElementView → List ℕ → List ℕ → ℕ → Finish → Type 0
LinkHolds Inlined view content address number finish =
    IsSomeAnd finish.result (λ link. InlineLinkHolds view content address link.content)
LinkHolds InlinedPreferAutolinks view content address number finish =
    IsSomeAnd finish.result (λ link. HoldsAddress (codes "<") address (codes ">") link.content
    ⊎ InlineLinkHolds view content address link.content)
LinkHolds Referenced view content address number finish =
    (line : List ℕ) × (finish.added ≡ line ∷ [])
    × HoldsAddress (definition_start view.options.link_reference_style number content) address
    (title_text (title_of view)) line

-- A link holds the address, if that has no backslash.
abbrev pub LinksHoldAddresses : Type 0
LinksHoldAddresses =
    (view : ElementView) (content : ResultView) (definitions : List (List ℕ)) (address : List ℕ)
    → anchor_address view ≡ Some address → holds_backslash address ≡ false
    → LinkHolds view.options.link_style view content.content address (length definitions + 1)
    (anchors.finish view content definitions)

-- ---- numbers of references

-- An anchor that is written as a reference in style Full takes the number after the definitions so far, and adds the
-- one line that defines that number.
abbrev pub AnchorsTakeTheNextNumber : Type 0
AnchorsTakeTheNextNumber =
    (view : ElementView) (content : ResultView) (definitions : List (List ℕ)) (address : List ℕ)
    → let number = length definitions + 1 in
    anchor_address view ≡ Some address → view.options.link_style ≡ Referenced
    → view.options.link_reference_style ≡ Full
    → anchors.finish view content definitions ≡ record {
      result = markdown_result (reference Full number content.content);
      added = definition Full number content.content address (title_of view) ∷ [];
    }

-- a registry as the calls make it: the built-in handlers, and then those that are added or skip tags; closures take the
-- place of one that skips tags
pub data IsRegistry : Config → Type 0 where
  of_built_in : (options : Options) → IsRegistry (built_in options)
  with_added : {config : Config} (tags : List (List ℕ)) (plan : ElementView → PlanView)
      (finish : ElementView → ResultView → Option ResultView) (append : Option (List ℕ)) → IsRegistry config
      → IsRegistry (with_handler config tags (of_functions plan finish append))
  with_skipped : {config : Config} (tags : List (List ℕ)) → IsRegistry config
      → IsRegistry (with_handler config tags no_handler)
  with_closures : {config : Config} (index : ℕ) (plan : ElementView → PlanView)
      (finish : ElementView → ResultView → Option ResultView) → IsRegistry config
      → IsRegistry (put_at config index plan finish)
  with_these : {config : Config} (options : Options) → IsRegistry config → IsRegistry (with_options config options)

abbrev pub AddsNone : HandlerMeaning → Type 0
AddsNone handler = (view : ElementView) (content : ResultView) (definitions : List (List ℕ))
    → (handler.finish view content definitions).added ≡ []

-- the line defines this number
pub record DefinesNumber (number : ℕ) (line : List ℕ) : Type 0 where
  pub address : List ℕ
  pub title : Option (List ℕ)
  pub is : line ≡ definition Full number [] address title

-- the i-th line defines i
abbrev pub AreNumbered : List (List ℕ) → Type 0
AreNumbered lines = (i : ℕ) (line : List ℕ) → slice_get lines i ≡ Some line → DefinesNumber (i + 1) line

-- Only anchors add definitions, and at the end of a conversion the i-th line defines i: so the i-th anchor that is
-- written as a reference, counted as they finish, has the number i.
abbrev pub ReferencesAreNumbered : Type 0
ReferencesAreNumbered =
    (config : Config) → IsRegistry config
    → ((index : ℕ) → index < length config.handlers
    → (handler_at config.handlers index ≡ anchors) ⊎ AddsNone (handler_at config.handlers index))
    × ((items : List Item) (start : ℕ) → config.options.link_reference_style ≡ Full
    → AreNumbered (walked_node config items start).definitions)
