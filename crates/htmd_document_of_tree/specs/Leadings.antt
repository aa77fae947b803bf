-- To which parts of the page its links lead.
use Rattle.std.specs.Prelude.{ℕ, ◌+◌, Bool, true, false, not, ◌||◌, ◌&&◌, nat_le, nat_lt, if◌then◌else◌}
use Rattle.std.specs.Prelude.{List, [], ◌∷◌, ◌++◌, drop, Option, Some, None}
use Rattle.std.specs.List.{list_any}
use Rattle.std.specs.Str.{bytes_eq}
use Rattle.std.specs.Str.Lossy.{utf8_lossy}
use Rattle.percent_encoding.specs.Percent.{percent_decode}
use Rattle.htmd_lexical.specs.AttributePairs.{AttributePair}
use Rattle.htmd_flow.specs.Flows.{is_grid_of}
use Rattle.htmd_shown.specs.Attributes.{in_line, is_filled, is_to_part}
use Rattle.htmd_shown.specs.declared.facts.Facts.{Facts}
use Rattle.htmd_shown.specs.declared.role.Role.{Role}
use Rattle.htmd_shown.specs.declared.role.Role.TheVariants.{Table}
use Rattle.htmd_shown.specs.Kinds.{has}
use Rattle.htmd_shown.specs.Roles.{is_caption, is_heading, is_link, is_title, is_verbatim}
use Rattle.htmd_shown.specs.SimpleTrees.{Simple, text, image, formula, embedded, anchor, element, Simples, none, more}
use Rattle.htmd_shown.specs.Spaces.{is_blank_text}
use Rattle.htmd_document_of_tree.specs.declared.leadings.Around.{Around}
use Rattle.htmd_document_of_tree.specs.declared.leadings.Layout.{Layout}
use Rattle.htmd_document_of_tree.specs.declared.leadings.Layout.TheVariants as layout
use Rattle.htmd_document_of_tree.specs.declared.leadings.Span.{Span}
use Rattle.htmd_document_of_tree.specs.Limits.{address_of}
use Rattle.htmd_shown.specs.Showings.{image_shows, code_shows, show_usual_sign}
use Rattle.htmd_document_of_tree.specs.Seen.{seen, all_seen}

-- ---- what stands in a line

-- a node among these stands in one line
abbrev pub is_flat : Layout → Simple → Bool
is_flat layout.Blocks tree = false
is_flat layout.OneLine tree = true
is_flat layout.Cells tree = not (has is_caption tree)

abbrev pub is_grid_at : Role → Simples → Bool
is_grid_at Table content = is_grid_of content
is_grid_at _ content = false

-- what is in an element, which stands in one line itself or not
abbrev pub layout_in : Bool → Bool → Role → Simples → Layout
layout_in is_rich flat role content =
    if flat || is_heading role then layout.OneLine
    else (if not is_rich && is_grid_at role content then layout.Cells else layout.Blocks)

-- ---- what a link shows

-- a usual sign alone in a heading isn't linked to a part of the page, nor is a title of a rich document with one in it
abbrev pub is_signed_title : Bool → Role → Simples → Bool
is_signed_title is_rich role content = is_title role && is_rich && show_usual_sign content

abbrev pub is_signed : Bool → Role → Facts → Simples → Bool
is_signed is_rich role facts content =
    (is_heading role && facts.shows_sign) || is_signed_title is_rich role content

abbrev pub is_unlinked : Bool → Bool → Bool → Role → Facts → Simples → Bool
is_unlinked is_rich to_part flat role facts content = not flat && to_part && is_signed is_rich role facts content

abbrev mutual
  -- something in a node stands in a line, and in the link around it; to_part: that leads to a part of the page
  pub has_leaf : Bool → Bool → Bool → Simple → Bool
  has_leaf is_rich to_part flat (text s) = not (is_blank_text s)
  has_leaf is_rich to_part flat (image address attributes) = image_shows address attributes
  has_leaf is_rich to_part flat (formula tex is_alone attributes) = flat || not is_alone
  has_leaf is_rich to_part flat (embedded id address title attributes anchors) = true
  has_leaf is_rich to_part flat (anchor id) = false
  has_leaf is_rich to_part flat (element id role facts attributes content) =
      if is_verbatim role then flat && code_shows content
      else (if is_unlinked is_rich to_part flat role facts content then false
      else have_leaf is_rich to_part (layout_in is_rich flat role content) content)

  pub have_leaf : Bool → Bool → Layout → Simples → Bool
  have_leaf is_rich to_part beside none = false
  have_leaf is_rich to_part beside (more tree trees) =
      has_leaf is_rich to_part (is_flat beside tree) tree || have_leaf is_rich to_part beside trees

-- something of what is in a link stands in a line, and in that link
abbrev pub shows_in_link : Bool → Layout → List AttributePair → Simples → Bool
shows_in_link is_rich beside attributes content =
    have_leaf is_rich (is_to_part (address_of attributes)) beside content

-- the link is written
abbrev pub is_written : Bool → Bool → Role → List AttributePair → Simples → Bool
is_written is_rich flat role attributes content =
    is_link role && shows_in_link is_rich (layout_in is_rich flat role content) attributes content

-- ---- where links lead

-- a value that a link leads to, and what there is to see in the heading around that link
pub record Leading : Type 0 where
  pub to : List ℕ
  pub heading : Option Span

abbrev pub leading_to : Option Span → List ℕ → List Leading
leading_to heading s = if is_filled s then record { to = s; heading = heading } ∷ [] else []

-- what follows `#`, and that percent-decoded
abbrev pub leadings_to : Option Span → List ℕ → List Leading
leadings_to heading part =
    leading_to heading (in_line part) ++ leading_to heading (in_line (utf8_lossy (percent_decode part)))

abbrev pub leadings_if : Bool → Option Span → List AttributePair → List Leading
leadings_if written heading attributes =
    if written && is_to_part (address_of attributes) then leadings_to heading (drop 1 (address_of attributes)) else []

-- the outermost heading around what is in an element; n: how much was to see before
abbrev pub heading_in : Option Span → ℕ → Role → Simples → Option Span
heading_in (Some span) n role content = Some span
heading_in None n role content =
    if is_heading role then Some (record { from = n; until = n + all_seen content }) else None

abbrev pub nowhere : Bool → Around
nowhere is_rich = record { seen = 0; heading = None; is_linked = false; is_rich = is_rich }

abbrev pub after : Around → Simple → Around
after around tree = record around { seen = around.seen + seen tree }

-- a link around an element is one around what is in it; in a title with a usual sign links count by themselves
abbrev pub is_linked_in : Around → Bool → Role → Simples → Bool
is_linked_in around flat role content =
    around.is_linked && (flat || not (is_signed_title around.is_rich role content))

-- around what is in an element; written: which is a link that is written
abbrev pub around_in : Around → Bool → Bool → Role → Simples → Around
around_in around flat written role content = record around {
  heading = heading_in around.heading around.seen role content;
  is_linked = is_linked_in around flat role content || written;
}

-- of a link in no other
abbrev pub own_leadings : Around → Bool → Role → List AttributePair → Simples → List Leading
own_leadings around written role attributes content =
    leadings_if (not around.is_linked && written) (heading_in around.heading around.seen role content) attributes

abbrev mutual
  -- where the links in a node lead
  pub leadings : Around → Bool → Simple → List Leading
  leadings around flat (text s) = []
  leadings around flat (image address attributes) = []
  leadings around flat (formula tex is_alone attributes) = []
  leadings around flat (embedded id address title attributes anchors) = []
  leadings around flat (anchor id) = []
  leadings around flat (element id role facts attributes content) =
      if is_verbatim role then []
      else own_leadings around (is_written around.is_rich flat role attributes content) role attributes content
      ++ leadings_among (around_in around flat (is_written around.is_rich flat role attributes content) role content)
      (layout_in around.is_rich flat role content) content

  pub leadings_among : Around → Layout → Simples → List Leading
  leadings_among around beside none = []
  leadings_among around beside (more tree trees) =
      leadings around (is_flat beside tree) tree ++ leadings_among (after around tree) beside trees

-- the same of an element that is no code block
abbrev pub leadings_of_element : Around → Bool → Role → List AttributePair → Simples → List Leading
leadings_of_element around flat role attributes content =
    own_leadings around (is_written around.is_rich flat role attributes content) role attributes content
    ++ leadings_among (around_in around flat (is_written around.is_rich flat role attributes content) role content)
    (layout_in around.is_rich flat role content) content

abbrev pub all_leadings : Bool → Simples → List Leading
all_leadings is_rich trees = leadings_among (nowhere is_rich) layout.Blocks trees

-- ---- which values links lead to

abbrev pub is_linked_to : List Leading → List ℕ → Bool
is_linked_to leadings s = list_any (λ (l : Leading). bytes_eq l.to s) leadings

-- the n-th thing to see stands in the heading
abbrev pub is_in : Option Span → ℕ → Bool
is_in None n = false
is_in (Some span) n = nat_le span.from n && nat_lt n span.until

-- a link leads to a value, and not only from the heading that the n-th thing to see is in
abbrev pub is_led_to : List Leading → List ℕ → ℕ → Bool
is_led_to leadings s n = list_any (λ (l : Leading). bytes_eq l.to s && not (is_in l.heading n)) leadings

-- of a node that is no leaf
abbrev pub leadings_inside : Around → Bool → Simple → List Leading
leadings_inside around flat (element id role facts attributes content) =
    leadings_of_element around flat role attributes content
leadings_inside around flat _ = []

-- ---- pages without such links

abbrev mutual
  -- a node, or a link in it, leads to a part of the page
  pub leads_to_part : Simple → Bool
  leads_to_part (text s) = false
  leads_to_part (image address attributes) = false
  leads_to_part (formula tex is_alone attributes) = false
  leads_to_part (embedded id address title attributes anchors) = false
  leads_to_part (anchor id) = false
  leads_to_part (element id role facts attributes content) =
      (is_link role && is_to_part (address_of attributes)) || lead_to_part content

  pub lead_to_part : Simples → Bool
  lead_to_part none = false
  lead_to_part (more tree trees) = leads_to_part tree || lead_to_part trees
