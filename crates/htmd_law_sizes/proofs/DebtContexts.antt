-- What stands around leaves, in characters of what it says.
use Rattle.std.proofs.Common.{◌≡◌, refl, ap, ℕ, zero, suc, ◌+◌, ◌≤◌, Bool, true, false, List, [], ◌∷◌, ◌++◌, length}
use Rattle.std.proofs.Common.{arith}
use Rattle.std.specs.Prelude.{◌&&◌, if◌then◌else◌, Option, Some, None}
use Rattle.std.specs.List.{list_any}
use Rattle.std.specs.Option.{unwrap_or}
use Rattle.std.specs.Str.{chars}
use Rattle.htmd_lexical.specs.AttributePairs.{AttributePair}
use Rattle.htmd_document.specs.declared.document.Format as declared_format
use Rattle.htmd_document.specs.declared.document.Format.TheVariants as marked
use Rattle.htmd_document.specs.declared.document.InlineElement.{InlineElement}
use Rattle.htmd_document.specs.declared.document.InlineElement.TheVariants as inline_element
use Rattle.htmd_document.specs.Formats.{Format, Abbreviation, of_format, of_element, title_of}
use Rattle.htmd_shown.specs.declared.role.Role.TheVariants as role
use Rattle.htmd_shown.specs.Attributes as shown_attributes
use Rattle.htmd_shown.specs.Kinds.{has, content_of}
use Rattle.htmd_shown.specs.Roles as roles
use Rattle.htmd_shown.specs.Showings.{show_usual_sign}
use Rattle.htmd_shown.specs.SimpleTrees.{Simple, Simples}
use Rattle.htmd_flow.specs.Contexts.{Context, has_elements, is_link, is_enough, with_around, inside_format, inside_title}
use Rattle.htmd_flow.specs.Contexts.{inside_link, without_link, unlinked, is_linked_to_part, beside_code}
use Rattle.htmd_flow.specs.Flows.{around_title, around_node, in_cell}
use Rattle.htmd_flow.specs.Parts.{Around, formatted, linked}
use Rattle.htmd_document_of_tree.specs.Limits.{characters, size}
use Rattle.htmd_document_of_tree.proofs.TextLengths.{characters_le}
use Rattle.htmd_law_sizes.proofs.CellContexts.{cell_context}
use Rattle.htmd_law_sizes.proofs.DebtParts.{rep}
use Rattle.htmd_law_sizes.proofs.Debts.{link_size}

rep_append : (a b : List Around) → rep (a ++ b) ≡ rep a + rep b
rep_append [] b = omega arith
rep_append (formatted f ∷ a) b = omega (arith, rep_append a b)
rep_append (linked node address title ∷ a) b = omega (arith, rep_append a b)

-- a context in the same line, with at most so much around
pub record Inside (c d : Context) (k : ℕ) : Type 0 where
  pub flat : d.is_flat ≡ c.is_flat
  pub room : rep d.around ≤ k

format_inside : (f : Format) (c : Context)
    → Inside c (inside_format f c) (rep c.around + length (chars (title_of f)))
format_inside f c = go (is_enough f c.around)
  where
    go : (t : Bool)
        → Inside c (if t then c else with_around c (formatted f)) (rep c.around + length (chars (title_of f)))
    go true = record { flat = refl; room = omega arith }
    go false = record { flat = refl; room = omega (arith, rep_append c.around (formatted f ∷ [])) }

-- a format without a title says nothing
bare_inside : (f : Format) (c : Context) → title_of f ≡ [] → Inside c (inside_format f c) (rep c.around)
bare_inside f c e =
    let i = format_inside f c in
    record { flat = i.flat; room = omega (arith, i.room, ap (λ (s : List ℕ). length (chars s)) e, characters_le []) }

pub marked_inside : (f : declared_format.Format) (c : Context)
    → Inside c (inside_format (of_format f) c) (rep c.around)
marked_inside marked.Emphasis c = bare_inside (of_format marked.Emphasis) c refl
marked_inside marked.Strong c = bare_inside (of_format marked.Strong) c refl
marked_inside marked.Deleted c = bare_inside (of_format marked.Deleted) c refl

pub element_inside : (f : InlineElement) (c : Context) → Inside c (inside_format (of_element f) c) (rep c.around)
element_inside inline_element.Superscript c = bare_inside (of_element inline_element.Superscript) c refl
element_inside inline_element.Subscript c = bare_inside (of_element inline_element.Subscript) c refl
element_inside inline_element.Inserted c = bare_inside (of_element inline_element.Inserted) c refl
element_inside inline_element.Underlined c = bare_inside (of_element inline_element.Underlined) c refl
element_inside inline_element.Marked c = bare_inside (of_element inline_element.Marked) c refl
element_inside inline_element.Small c = bare_inside (of_element inline_element.Small) c refl
element_inside inline_element.Keyboard c = bare_inside (of_element inline_element.Keyboard) c refl

pub named_inside : (attributes : List AttributePair) (c : Context)
    → Inside c (inside_title (shown_attributes.title_of attributes) c)
    (rep c.around + size role.Abbreviation attributes)
named_inside attributes c = go (shown_attributes.title_of attributes)
  where
    go : (o : Option (List ℕ))
        → Inside c (inside_title o c) (rep c.around + (characters [] + characters (unwrap_or o [])))
    go None = record { flat = refl; room = omega arith }
    go (Some s) =
        let i = format_inside (Abbreviation s) c in
        record { flat = i.flat; room = omega (arith, i.room) }

pub link_inside : (id : ℕ) (s : List ℕ) (title : Option (List ℕ)) (c : Context)
    → Inside c (inside_link id s title c) (rep c.around + link_size s title)
link_inside id s title c = go (list_any is_link c.around)
  where
    go : (t : Bool)
        → Inside c (if t then c else with_around c (linked id s title)) (rep c.around + link_size s title)
    go true = record { flat = refl; room = omega arith }
    go false = record { flat = refl; room = omega (arith, rep_append c.around (linked id s title ∷ [])) }

pub less_around : (xs : List Around) → rep (without_link xs) ≤ rep xs
less_around [] = omega arith
less_around (formatted f ∷ xs) = omega (arith, less_around xs)
less_around (linked node address title ∷ xs) = omega arith

pub unlinked_inside : (c : Context) → Inside c (unlinked c) (rep c.around)
unlinked_inside c = record { flat = refl; room = less_around c.around }

pub near_inside : (n : ℕ) (attributes : List AttributePair) (c : Context)
    → Inside c (beside_code n attributes c) (rep c.around)
near_inside zero attributes c = record { flat = refl; room = omega arith }
near_inside (suc zero) attributes c = record { flat = refl; room = omega arith }
near_inside (suc (suc n)) attributes c = record { flat = refl; room = omega arith }

pub here : (c : Context) → Inside c c (rep c.around)
here c = record { flat = refl; room = omega arith }

-- around a title the link may be gone
pub title_inside : (content : Simples) (c : Context) → Inside c (around_title content c) (rep c.around)
title_inside content c = go (has_elements c && is_linked_to_part c && show_usual_sign content)
  where
    go : (t : Bool) → Inside c (if t then unlinked c else c) (rep c.around)
    go true = unlinked_inside c
    go false = here c

pub node_inside : (t : Simple) (c : Context) → Inside c (around_node t c) (rep c.around)
node_inside t c = go (has roles.is_title t)
  where
    go : (b : Bool) → Inside c (if b then around_title (content_of t) c else c) (rep c.around)
    go true = title_inside (content_of t) c
    go false = here c

pub cell_inside : (t : Simple) (c : Context) → Inside c (in_cell t c) (rep c.around)
cell_inside t c =
    cell_context (λ d. Inside c d (rep c.around)) t c (here c) (λ n attributes. near_inside n attributes c)
