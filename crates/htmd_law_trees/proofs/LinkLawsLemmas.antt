-- The laws of addresses.
use Rattle.std.proofs.Common.{◌≡◌, ◌⊎◌, ℕ, ◌+◌, Bool, true, false, cond, List, ◌++◌, length, Option, Some, None}
use Rattle.std.proofs.Common.{refl, sym, ap, ◌∙◌, subst, codes, inl, inr}
use Rattle.std.specs.Option.{unwrap_or}
use Rattle.std.specs.Str.{bytes_eq}
use Rattle.htmd_markdown.specs.Addresses.{escaped_address, holds_backslash, HoldsAddress}
use Rattle.htmd_markdown.specs.Links.{image, image_start, resource_end, inline_link, inline_link_start, inline_link_end}
use Rattle.htmd_markdown.specs.Links.{definition_start, definition}
use Rattle.htmd_markdown.specs.Titles.{title_text}
use Rattle.htmd_markdown.proofs.AddressesLemmas.{holds_address}
use Rattle.htmd_markdown.proofs.LinksLemmas.{image-parts, inline_link-parts}
use Rattle.htmd_markdown.specs.declared.link.LinkStyle.{LinkStyle}
use Rattle.htmd_markdown.specs.declared.link.LinkStyle.TheVariants.{Inlined, InlinedPreferAutolinks, Referenced}
use Rattle.htmd_walk.specs.Handling.{ElementView, ResultView, this_result, raw_html}
use Rattle.htmd_walk.specs.LinkAttributes.{title_of, is_raw_unless_among}
use Rattle.htmd_walk.specs.Images.{image_attributes, image_address, alternative_text, image_at}
use Rattle.htmd_walk.specs.Anchors.{finish_at, link_finish}
use Rattle.htmd_law_trees.specs.LinkLaws.{ImagesHoldAddresses, InlineLinkHolds, LinkHolds, LinksHoldAddresses}

written-image : (raw : Bool) (found : Option (List ℕ)) (view : ElementView) (address : List ℕ)
    (written : ResultView) → found ≡ Some address
    → cond raw raw_html (image_at found view) ≡ this_result written
    → written.content ≡ image address (alternative_text view) (title_of view)
written-image true found view address written is e = cc
written-image false found view address written is e =
    let same = ap (λ o. image_at o view) (sym is) ∙ e in
    let result : record { content = image address (alternative_text view) (title_of view); markdown_translated = true }
    ≡ written = cc in
    ap (λ (r : ResultView). r.content) (sym result)

pub images_hold_addresses : ImagesHoldAddresses
images_hold_addresses view address written found none e =
    holds_address (image_start address (alternative_text view)) address (resource_end address (title_of view))
    written.content none
    (written-image (is_raw_unless_among image_attributes view) (image_address view) view address written found e
    ∙ image-parts address (alternative_text view) (title_of view))

inline-holds : (view : ElementView) (content address : List ℕ) → holds_backslash address ≡ false
    → InlineLinkHolds view content address (inline_link content address (title_of view))
inline-holds view content address none =
    holds_address (inline_link_start content address) address (inline_link_end content address (title_of view))
    (inline_link content address (title_of view)) none (inline_link-parts content address (title_of view))

-- if the content is the address as it is written
either-holds : (same : Bool) (view : ElementView) (content address : List ℕ) → holds_backslash address ≡ false
    → let auto = cond same (Some (codes "<" ++ escaped_address address ++ codes ">")) None in
    let link = unwrap_or auto (inline_link content address (title_of view)) in
    HoldsAddress (codes "<") address (codes ">") link ⊎ InlineLinkHolds view content address link
either-holds true view content address none =
    inl (holds_address (codes "<") address (codes ">") (codes "<" ++ escaped_address address ++ codes ">") none refl)
either-holds false view content address none = inr (inline-holds view content address none)

link-holds : (style : LinkStyle) (view : ElementView) (content address : List ℕ) (definitions : List (List ℕ))
    → holds_backslash address ≡ false
    → LinkHolds style view content address (length definitions + 1)
    (link_finish style view content address definitions)
link-holds Inlined view content address definitions none = inline-holds view content address none
link-holds InlinedPreferAutolinks view content address definitions none =
    either-holds (bytes_eq content (escaped_address address)) view content address none
link-holds Referenced view content address definitions none =
    let style = view.options.link_reference_style in
    let number = length definitions + 1 in (
      definition style number content address (title_of view),
      refl,
      holds_address (definition_start style number content) address (title_text (title_of view))
          (definition style number content address (title_of view)) none refl,
    )

pub links_hold_addresses : LinksHoldAddresses
links_hold_addresses view content definitions address found none =
    subst (λ (o : Option (List ℕ)). LinkHolds view.options.link_style view content.content address
    (length definitions + 1) (finish_at o view content definitions)) (sym found)
    (link-holds view.options.link_style view content.content address definitions none)
