-- What stands around what is in an element: the link, in a line or not.
use Rattle.std.proofs.Common.{◌≡◌, ℕ, Bool, true, false, cond, not, ◌&&◌, ◌||◌, List, [], ◌∷◌, ◌++◌}
use Rattle.std.proofs.Common.{refl, sym, ap, ◌∙◌, subst, Option, Some, None}
use Rattle.std.specs.Prelude.{is_some}
use Rattle.std.specs.List.{list_any}
use Rattle.htmd_lexical.specs.AttributePairs.{AttributePair}
use Rattle.htmd_document.specs.Formats.{Format, Abbreviation}
use Rattle.htmd_shown.specs.declared.facts.Facts.{Facts}
use Rattle.htmd_shown.specs.declared.role.Role.{Role}
use Rattle.htmd_shown.specs.declared.role.Role.TheVariants as role
use Rattle.htmd_shown.specs.Attributes.{is_to_part}
use Rattle.htmd_shown.specs.Showings.{show_usual_sign}
use Rattle.htmd_shown.specs.SimpleTrees.{Simple, text, image, formula, embedded, anchor, element, Simples}
use Rattle.htmd_document_of_tree.specs.Limits.{address_of}
use Rattle.htmd_flow.specs.Contexts.{Context, has_elements, is_enough, is_link, leads_to_part}
use Rattle.htmd_flow.specs.Contexts.{inside_title, is_linked_to_part}
use Rattle.htmd_flow.specs.Contexts.{with_around, inside_format, inside_link, without_link, unlinked}
use Rattle.htmd_flow.specs.Contexts.{in_one_line}
use Rattle.htmd_flow.specs.Flows.{node_of}
use Rattle.htmd_flow.specs.Flows.{around_heading}
use Rattle.htmd_flow.specs.Flows.{around_title}
use Rattle.htmd_flow.specs.Parts.{Around, formatted, linked}
use Rattle.htmd_law_anchors.proofs.LinkNodesLemmas.{At, In}
use Rattle.htmd_law_anchors.proofs.TruthLemmas.{or-none}

pub node-tree : (t : Simple) → (node_of t).tree ≡ t
unfolding node_of
node-tree (text s) = refl
node-tree (image address attributes) = refl
node-tree (formula tex is_alone attributes) = refl
node-tree (embedded id address title attributes anchors) = refl
node-tree (anchor id) = refl
node-tree (element id r facts attributes content) = refl

-- ---- the link around

abbrev pub to_part : Option (List ℕ) → Bool
to_part None = false
to_part (Some address) = is_to_part address

abbrev pub inside_of : Option (List ℕ) → List ℕ → Option (List ℕ)
inside_of None address = Some address
inside_of (Some other) address = Some other

abbrev pub heading_link : Bool → Facts → Option (List ℕ) → Option (List ℕ)
heading_link flat facts link = cond flat link (cond (facts.shows_sign && to_part link) None link)

-- around what is in a title
abbrev pub title_link : Bool → Bool → Simples → Option (List ℕ) → Option (List ℕ)
title_link rich flat content link =
    cond (rich && not flat && to_part link && show_usual_sign content) None link

-- around what is in an element
abbrev pub link_in : Bool → Bool → Role → Facts → List AttributePair → Simples → Option (List ℕ)
    → Option (List ℕ)
link_in rich flat role.Link facts attributes content link = inside_of link (address_of attributes)
link_in rich flat role.Unlinked facts attributes content link = None
link_in rich flat (role.Heading level) facts attributes content link = heading_link flat facts link
link_in rich flat role.Term facts attributes content link = title_link rich flat content link
link_in rich flat role.Caption facts attributes content link = title_link rich flat content link
link_in rich flat role.FigureCaption facts attributes content link = title_link rich flat content link
link_in rich flat role.Summary facts attributes content link = title_link rich flat content link
link_in rich flat r facts attributes content link = link

pub at-any : (link : Option (List ℕ)) (around : List Around) → At link around
    → list_any is_link around ≡ is_some link
at-any link [] h = sym (ap is_some h)
at-any link (formatted format ∷ around) h = at-any link around h
at-any link (linked node address title ∷ around) h = sym (ap is_some h.0)

pub at-part : (link : Option (List ℕ)) (around : List Around) → At link around
    → list_any leads_to_part around ≡ to_part link
at-part link [] h = sym (ap to_part h)
at-part link (formatted format ∷ around) h = at-part link around h
at-part link (linked node address title ∷ around) h =
    ap (λ b. is_to_part address || b) (at-part None around h.1)
    ∙ (or-none (is_to_part address) ∙ sym (ap to_part h.0))

pub at-format : (link : Option (List ℕ)) (around : List Around) (f : Format) → At link around
    → At link (around ++ formatted f ∷ [])
at-format link [] f h = h
at-format link (formatted format ∷ around) f h = at-format link around f h
at-format link (linked node address title ∷ around) f h = (h.0, at-format None around f h.1)

pub at-link : (around : List Around) (node : ℕ) (address : List ℕ) (title : Option (List ℕ)) → At None around
    → At (Some address) (around ++ linked node address title ∷ [])
at-link [] node address title h = (refl, refl)
at-link (formatted format ∷ around) node address title h = at-link around node address title h
at-link (linked other s t ∷ around) node address title h = absurd (clash s h.0)
  where
    clash : (s : List ℕ) → None ≡ Some s → ⊥
    clash s e = (cc)

pub at-without : (link : Option (List ℕ)) (around : List Around) → At link around → At None (without_link around)
at-without link [] h = refl
at-without link (formatted format ∷ around) h = at-without link around h
at-without link (linked node address title ∷ around) h = h.1

pub in-either : (rich : Bool) (link : Option (List ℕ)) (flat b : Bool) (c d : Context) → In rich link flat c
    → In rich link flat d
    → In rich link flat (cond b c d)
in-either rich link flat true c d g h = g
in-either rich link flat false c d g h = h

pub in-format : (rich : Bool) (link : Option (List ℕ)) (flat : Bool) (c : Context) (f : Format)
    → In rich link flat c
    → In rich link flat (inside_format f c)
in-format rich link flat c f i =
    in-either rich link flat (is_enough f c.around) c (with_around c (formatted f)) i
    (record { around = at-format link c.around f i.around; line = i.line; is = i.is })

pub in-link : (rich : Bool) (link : Option (List ℕ)) (flat : Bool) (c : Context) (node : ℕ) (address : List ℕ)
    (title : Option (List ℕ)) → In rich link flat c
    → In rich (inside_of link address) flat (inside_link node address title c)
in-link rich link flat c node address title i =
    subst (λ (b : Bool). In rich (inside_of link address) flat (cond b c (with_around c (linked node address title))))
    (sym (at-any link c.around i.around)) (at link i)
  where
    at : (link : Option (List ℕ)) → In rich link flat c
        → In rich (inside_of link address) flat (cond (is_some link) c (with_around c (linked node address title)))
    at None i = record { around = at-link c.around node address title i.around; line = i.line; is = i.is }
    at (Some other) i = i

pub in-unlinked : (rich : Bool) (link : Option (List ℕ)) (flat : Bool) (c : Context) → In rich link flat c
    → In rich None flat (unlinked c)
in-unlinked rich link flat c i = record { around = at-without link c.around i.around; line = i.line; is = i.is }

pub in-heading : (rich : Bool) (link : Option (List ℕ)) (c : Context) (facts : Facts) → In rich link false c
    → In rich (heading_link false facts link) true (in_one_line (around_heading facts c))
in-heading rich link c facts i =
    subst (λ (b : Bool). In rich (cond (facts.shows_sign && to_part link) None link) true
    (in_one_line (cond (facts.shows_sign && b) (unlinked c) c))) (sym (at-part link c.around i.around))
    (either (facts.shows_sign && to_part link))
  where
    either : (b : Bool) → In rich (cond b None link) true (in_one_line (cond b (unlinked c) c))
    either true = record { around = at-without link c.around i.around; line = refl; is = i.is }
    either false = record { around = i.around; line = refl; is = i.is }

pub in-abbreviation : (rich : Bool) (link : Option (List ℕ)) (flat : Bool) (c : Context) (title : Option (List ℕ))
    → In rich link flat c → In rich link flat (inside_title title c)
in-abbreviation rich link flat c None i = i
in-abbreviation rich link flat c (Some s) i = in-format rich link flat c (Abbreviation s) i

pub in-title : (rich : Bool) (link : Option (List ℕ)) (flat : Bool) (c : Context) (content : Simples)
    → In rich link flat c
    → In rich (title_link rich flat content link) flat (around_title content c)
in-title rich link flat c content i =
    subst (λ (b : Bool). In rich (title_link rich flat content link) flat (cond b (unlinked c) c)) (sym same)
    (either (rich && not flat && to_part link && show_usual_sign content))
  where
    same : (has_elements c && is_linked_to_part c && show_usual_sign content)
        ≡ (rich && not flat && to_part link && show_usual_sign content)
    same =
        ap (λ b. b && not c.is_flat && is_linked_to_part c && show_usual_sign content) i.is
        ∙ (ap (λ b. rich && not b && is_linked_to_part c && show_usual_sign content) i.line
        ∙ ap (λ b. rich && not flat && b && show_usual_sign content) (at-part link c.around i.around))

    either : (b : Bool) → In rich (cond b None link) flat (cond b (unlinked c) c)
    either true = in-unlinked rich link flat c i
    either false = i
