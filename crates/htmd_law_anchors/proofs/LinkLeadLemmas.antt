-- What shows stands in links that lead where `all_leadings` says.
use Rattle.std.proofs.Common.{◌≡◌, ℕ, Bool, true, false, cond, not, ◌&&◌, ◌||◌, List, [], ◌∷◌, ◌++◌, drop, refl, sym, ap, ◌∙◌}
use Rattle.std.proofs.Common.{Option, Some, None, subst, ◌+◌}
use Rattle.htmd_lexical.specs.AttributePairs.{AttributePair}
use Rattle.htmd_shown.specs.declared.facts.Facts.{Facts}
use Rattle.htmd_shown.specs.declared.role.Role.{Role}
use Rattle.htmd_shown.specs.declared.role.Role.TheVariants as role
use Rattle.htmd_shown.specs.Attributes.{in_line, is_filled, is_to_part}
use Rattle.htmd_shown.specs.Roles.{is_heading, is_link}
use Rattle.htmd_shown.specs.Showings.{image_shows, code_shows, show_usual_sign}
use Rattle.htmd_shown.specs.SimpleTrees.{Simple, text, image, formula, embedded, anchor, element, Simples, none, more}
use Rattle.htmd_document_of_tree.specs.declared.leadings.Around.{Around}
use Rattle.htmd_document_of_tree.specs.declared.leadings.Layout.{Layout}
use Rattle.htmd_document_of_tree.specs.declared.leadings.Layout.TheVariants as layout
use Rattle.htmd_document_of_tree.specs.declared.leadings.Span.{Span}
use Rattle.htmd_document_of_tree.specs.Leadings.{is_flat, layout_in, has_leaf, have_leaf, is_written, Leading, leading_to}
use Rattle.htmd_document_of_tree.specs.Leadings.{leadings_to, heading_in, is_linked_in, own_leadings, leadings}
use Rattle.htmd_document_of_tree.specs.Leadings.{leadings_among, all_leadings}
use Rattle.htmd_document_of_tree.specs.Limits.{address_of}
use Rattle.htmd_document_of_tree.specs.Seen.{seen}
use Rattle.htmd_law_documents.proofs.ElementLemmas.{false-true, true-false}
use Rattle.htmd_law_anchors.specs.AnchorLaws.{AreAmong, LeadsAmong}
use Rattle.htmd_law_anchors.proofs.LinkAroundLemmas.{to_part, title_link}
use Rattle.htmd_law_anchors.proofs.LinkTreeLemmas.{image_gives, code_gives, Holds}
use Rattle.htmd_law_anchors.proofs.LinkTreeLemmas.{Within, AllWithin}
use Rattle.htmd_law_anchors.proofs.TruthLemmas.{or-left, or-right, and-false}

-- ---- trees in which each link that shows counts

abbrev pub is_unlinked : Role → Bool
is_unlinked role.Unlinked = true
is_unlinked _ = false

abbrev mutual
  -- nothing shows in links in it that lead to a part of the page
  pub IsQuiet : Bool → Simple → Type 0
  IsQuiet rich (text s) = Unit {0}
  IsQuiet rich (image address attributes) = Unit {0}
  IsQuiet rich (formula tex is_alone attributes) = Unit {0}
  IsQuiet rich (embedded id address title attributes anchors) = Unit {0}
  IsQuiet rich (anchor id) = Unit {0}
  IsQuiet rich (element id r facts attributes content) =
      (is_link r ≡ true → is_to_part (address_of attributes) ≡ true
      → have_leaf rich true layout.OneLine content ≡ false)
      × AreQuiet rich content

  pub AreQuiet : Bool → Simples → Type 0
  AreQuiet rich none = Unit {0}
  AreQuiet rich (more t ts) = IsQuiet rich t × AreQuiet rich ts

abbrev mutual
  -- what is embedded leads to no part of the page, and where a heading shows a usual sign alone no link to a part does
  pub IsCalm : Bool → Simple → Type 0
  IsCalm rich (text s) = Unit {0}
  IsCalm rich (image address attributes) = image_gives address attributes ≡ true
      → image_shows address attributes ≡ true
  IsCalm rich (formula tex is_alone attributes) = Unit {0}
  IsCalm rich (embedded id address title attributes anchors) = is_to_part address ≡ false
  IsCalm rich (anchor id) = Unit {0}
  IsCalm rich (element id r facts attributes content) =
      (is_unlinked r ≡ false) × (code_gives content ≡ true → code_shows content ≡ true)
      × (is_heading r ≡ true → facts.shows_sign ≡ true → AreQuiet rich content) × AreCalm rich content

  pub AreCalm : Bool → Simples → Type 0
  AreCalm rich none = Unit {0}
  AreCalm rich (more t ts) = IsCalm rich t × AreCalm rich ts

-- in one line a title stands in what is around it
flat-title : (rich : Bool) (content : Simples) (link : Option (List ℕ)) → title_link rich true content link ≡ link
flat-title true content link = refl
flat-title false content link = refl

title-test : (rich part sign : Bool) → (rich && true && part && sign) ≡ (part && (rich && sign))
title-test true part sign = refl
title-test false part sign = sym (and-false part)

kept-leaf : (a b : Bool) → b ≡ true → cond (a && false) false b ≡ true
kept-leaf true b e = e
kept-leaf false b e = e

flat-code : (flat a b : Bool) → (a ≡ true → b ≡ true) → (flat && a) ≡ true → (flat && b) ≡ true
flat-code true a b f e = f e
flat-code false a b f e = false-true e

module _ (known : List Leading) (rich : Bool) where
  abbrev pub AllKnown : List Leading → Type 0
  AllKnown ls = AreAmong known ls

  -- what stands around, in this document
  abbrev at : ℕ → Option Span → Bool → Around
  at n o l = record { seen = n; heading = o; is_linked = l; is_rich = rich }

  -- an address that leads to a part leads to what is known
  abbrev pub Leads : List ℕ → Type 0
  Leads address = LeadsAmong known address

  known-first : (xs ys : List Leading) → AllKnown (xs ++ ys) → AllKnown xs
  known-first [] ys h = tt
  known-first (x ∷ xs) ys h = (h.0, known-first xs ys h.1)

  known-last : (xs ys : List Leading) → AllKnown (xs ++ ys) → AllKnown ys
  known-last [] ys h = h
  known-last (x ∷ xs) ys h = known-last xs ys h.1

  known-append : (xs ys : List Leading) → AllKnown xs → AllKnown ys → AllKnown (xs ++ ys)
  known-append [] ys g h = h
  known-append (x ∷ xs) ys g h = (g.0, known-append xs ys g.1 h)

  -- whatever heading is around
  one-known : (heading : Option Span) (s : List ℕ) → AllKnown (leading_to heading s)
      → AllKnown (leading_to None s)
  one-known heading s h = either (is_filled s) h
    where
      either : (b : Bool) → AllKnown (cond b (record { to = s; heading = heading } ∷ []) [])
          → AllKnown (cond b (record { to = s; heading = None } ∷ []) [])
      either true x = (x.0, tt)
      either false x = tt

  all-known : (heading : Option Span) (part : List ℕ) → AllKnown (leadings_to heading part)
      → AllKnown (leadings_to None part)
  all-known heading part h =
      known-append (leading_to None (in_line part)) _
      (one-known heading (in_line part) (known-first (leading_to heading (in_line part)) _ h))
      (one-known heading _ (known-last (leading_to heading (in_line part)) _ h))

  own-known : (linked written part : Bool) (ls : List Leading) → linked ≡ false → written ≡ true
      → part ≡ true
      → AllKnown (cond ((not linked && written) && part) ls []) → AllKnown ls
  own-known false true true ls e f g h = h
  own-known true written part ls e f g h = true-false e
  own-known false false part ls e f g h = false-true f
  own-known false true false ls e f g h = false-true g

  not-both : {A : Type 0} (b c : Bool) → b ≡ c → b ≡ true → c ≡ false → A
  not-both b c e f g = true-false (sym f ∙ (e ∙ g))

  elsewhere : (address : List ℕ) → is_to_part address ≡ false → Leads address
  elsewhere address e = λ f. true-false (sym f ∙ e)

  -- ---- in a heading that shows a usual sign alone

  module _ (id : ℕ) (facts : Facts) (attributes : List AttributePair) (content : Simples)
      (next : (link : Option (List ℕ))
      → (have_leaf rich (to_part link) layout.OneLine content ≡ true → Holds Leads rich link)
      → AllWithin Leads rich link layout.OneLine content) where
    quiet-element : (r : Role) (link : Option (List ℕ)) → is_unlinked r ≡ false
        → (code_gives content ≡ true → code_shows content ≡ true)
        → (is_link r ≡ true → is_to_part (address_of attributes) ≡ true
        → have_leaf rich true layout.OneLine content ≡ false)
        → (has_leaf rich (to_part link) true (element id r facts attributes content) ≡ true
        → Holds Leads rich link)
        → Within Leads rich link true (element id r facts attributes content)
    quiet-element role.Preformatted link u v q h = λ e. h (v e)
    quiet-element role.Verbatim link u v q h = λ e. h (v e)
    quiet-element role.Unlinked link u v q h = true-false u
    quiet-element role.Link None u v q h =
        next (Some (address_of attributes))
        (λ e k. not-both (have_leaf rich (is_to_part (address_of attributes)) layout.OneLine content)
        (have_leaf rich true layout.OneLine content)
        (ap (λ b. have_leaf rich b layout.OneLine content) k) e (q refl k))
    quiet-element role.Link (Some other) u v q h = next (Some other) h
    quiet-element (role.Heading level) link u v q h = next link h
    quiet-element role.Term link u v q h =
        subst (λ (l : Option (List ℕ)). AllWithin Leads rich l layout.OneLine content)
        (sym (flat-title rich content link)) (next link h)
    quiet-element role.Caption link u v q h =
        subst (λ (l : Option (List ℕ)). AllWithin Leads rich l layout.OneLine content)
        (sym (flat-title rich content link)) (next link h)
    quiet-element role.FigureCaption link u v q h =
        subst (λ (l : Option (List ℕ)). AllWithin Leads rich l layout.OneLine content)
        (sym (flat-title rich content link)) (next link h)
    quiet-element role.Summary link u v q h =
        subst (λ (l : Option (List ℕ)). AllWithin Leads rich l layout.OneLine content)
        (sym (flat-title rich content link)) (next link h)
    quiet-element r link u v q h = next link h

  mutual
    quiet-within : (t : Simple) (link : Option (List ℕ)) → IsCalm rich t → IsQuiet rich t
        → (has_leaf rich (to_part link) true t ≡ true → Holds Leads rich link) → Within Leads rich link true t
    quiet-within (text s) link k q h = λ e. h (ap not e)
    quiet-within (image address attributes) link k q h = λ e. h (k e)
    quiet-within (formula tex is_alone attributes) link k q h = λ e. h e
    quiet-within (embedded id address title attributes anchors) link k q h = (h refl, elsewhere address k)
    quiet-within (anchor id) link k q h = tt
    quiet-within (element id r facts attributes content) link k q h =
        quiet-element id facts attributes content (λ l g. all-quiet-within content l k.3 q.1 g) r link k.0 k.1 q.0 h

    all-quiet-within : (ts : Simples) (link : Option (List ℕ)) → AreCalm rich ts → AreQuiet rich ts
        → (have_leaf rich (to_part link) layout.OneLine ts ≡ true → Holds Leads rich link)
        → AllWithin Leads rich link layout.OneLine ts
    all-quiet-within none link k q h = tt
    all-quiet-within (more t ts) link k q h = (
      quiet-within t link k.0 q.0 (λ e. h (or-left (has_leaf rich (to_part link) true t) _ e)),
      all-quiet-within ts link k.1 q.1 (λ e. h (or-right (has_leaf rich (to_part link) true t) _ e)),
    )

  -- ---- elsewhere

  module _ (id : ℕ) (facts : Facts) (attributes : List AttributePair) (content : Simples)
      (calm : AreCalm rich content)
      (next : (n : ℕ) (o : Option Span) (l : Bool) (beside : Layout) (link : Option (List ℕ))
      → (link ≡ None → l ≡ false)
      → AllKnown (leadings_among (at n o l) beside content)
      → (have_leaf rich (to_part link) beside content ≡ true → Holds Leads rich link)
      → AllWithin Leads rich link beside content) where
    some-none : {A : Type 0} (s : List ℕ) → Some s ≡ None → A
    some-none {A} s e = absurd (clash s e)
      where
        clash : (s : List ℕ) → Some s ≡ None → ⊥
        clash s e = (cc)

    still : (b d : Bool) → b ≡ false → (b && d || false) ≡ false
    still b d e = ap (λ b. b && d || false) e

    hidden : (b : Bool) → (b && false || false) ≡ false
    hidden true = refl
    hidden false = refl

    heading-within : (sign part : Bool) (link : Option (List ℕ)) → part ≡ to_part link
        → (sign ≡ true → AreQuiet rich content)
        → ((cond (part && (sign || false)) false (have_leaf rich (to_part link) layout.OneLine content)) ≡ true
        → Holds Leads rich link)
        → ((have_leaf rich (to_part link) layout.OneLine content ≡ true → Holds Leads rich link)
        → AllWithin Leads rich link layout.OneLine content)
        → AllWithin Leads rich (cond (sign && part) None link) layout.OneLine content
    heading-within true true link e q h go = all-quiet-within content None calm (q refl) (λ x. tt)
    heading-within true false link e q h go = go h
    heading-within false true link e q h go = go h
    heading-within false false link e q h go = go h

    title-within : (signed part : Bool) (l : Bool) (beside : Layout) (link : Option (List ℕ))
        → (link ≡ None → l ≡ false)
        → (cond (part && signed) false (have_leaf rich (to_part link) beside content) ≡ true
        → Holds Leads rich link)
        → ((k : Option (List ℕ)) → (k ≡ None → (l && not signed || false) ≡ false)
        → (have_leaf rich (to_part k) beside content ≡ true → Holds Leads rich k)
        → AllWithin Leads rich k beside content)
        → AllWithin Leads rich (cond (part && signed) None link) beside content
    title-within true true l beside link i h go = go None (λ e. hidden l) (λ x. tt)
    title-within false true l beside link i h go = go link (λ e. still l true (i e)) h
    title-within true false l beside link i h go = go link (λ e. still l false (i e)) h
    title-within false false l beside link i h go = go link (λ e. still l true (i e)) h

    lead-element : (r : Role) (n : ℕ) (o : Option Span) (l : Bool) (link : Option (List ℕ)) (flat : Bool)
        → is_unlinked r ≡ false
        → (code_gives content ≡ true → code_shows content ≡ true)
        → (is_heading r ≡ true → facts.shows_sign ≡ true → AreQuiet rich content)
        → (link ≡ None → l ≡ false)
        → AllKnown (leadings (at n o l) flat (element id r facts attributes content))
        → (has_leaf rich (to_part link) flat (element id r facts attributes content) ≡ true
        → Holds Leads rich link)
        → Within Leads rich link flat (element id r facts attributes content)
    lead-element role.Preformatted n o l link flat u v q i k h =
        λ e. h (flat-code flat (code_gives content) (code_shows content) v e)
    lead-element role.Verbatim n o l link flat u v q i k h =
        λ e. h (flat-code flat (code_gives content) (code_shows content) v e)
    lead-element role.Unlinked n o l link flat u v q i k h = true-false u
    lead-element role.Link n o l None flat u v q i k h =
        let a : List ℕ = address_of attributes in
        let written : Bool = is_written rich flat role.Link attributes content in
        next n (heading_in o n role.Link content) (is_linked_in (at n o l) flat role.Link content || written)
        (layout_in rich flat role.Link content) (Some a)
        (λ e. some-none a e)
        (known-last (own_leadings (at n o l) written role.Link attributes content) _ k)
        (λ e f. all-known (heading_in o n role.Link content) (drop 1 a)
        (own-known l written (is_to_part a)
        (leadings_to (heading_in o n role.Link content) (drop 1 a)) (i refl) e f
        (known-first (own_leadings (at n o l) written role.Link attributes content) _ k)))
    lead-element role.Link n o l (Some other) flat u v q i k h =
        let written : Bool = is_written rich flat role.Link attributes content in
        let beside : Layout = layout_in rich flat role.Link content in
        next n (heading_in o n role.Link content) (is_linked_in (at n o l) flat role.Link content || written) beside
        (Some other) (λ e. some-none other e)
        (known-last (own_leadings (at n o l) written role.Link attributes content) _ k)
        (λ e. h (kept-leaf (not flat && to_part (Some other)) (have_leaf rich (to_part (Some other)) beside content)
        e))
    lead-element (role.Heading level) n o l link true u v q i k h =
        let written : Bool = is_written rich true (role.Heading level) attributes content in
        next n (heading_in o n (role.Heading level) content)
        (is_linked_in (at n o l) true (role.Heading level) content || written) layout.OneLine link
        (λ e. still l _ (i e))
        (known-last (own_leadings (at n o l) written (role.Heading level) attributes content) _ k) h
    lead-element (role.Heading level) n o l link false u v q i k h =
        let written : Bool = is_written rich false (role.Heading level) attributes content in
        heading-within facts.shows_sign (to_part link) link refl (q refl) h
        (λ g. next n (heading_in o n (role.Heading level) content)
        (is_linked_in (at n o l) false (role.Heading level) content || written) layout.OneLine link
        (λ e. still l _ (i e))
        (known-last (own_leadings (at n o l) written (role.Heading level) attributes content) _ k) g)
    lead-element role.Term n o l link true u v q i k h =
        let written : Bool = is_written rich true role.Term attributes content in
        subst (λ (l : Option (List ℕ)). AllWithin Leads rich l layout.OneLine content)
        (sym (flat-title rich content link))
        (next n (heading_in o n role.Term content) (is_linked_in (at n o l) true role.Term content || written)
        layout.OneLine link (λ e. still l _ (i e))
        (known-last (own_leadings (at n o l) written role.Term attributes content) _ k) h)
    lead-element role.Term n o l link false u v q i k h =
        let written : Bool = is_written rich false role.Term attributes content in
        let beside : Layout = layout_in rich false role.Term content in
        let sign : Bool = show_usual_sign content in
        subst (λ (b : Bool). AllWithin Leads rich (cond b None link) beside content)
        (sym (title-test rich (to_part link) sign))
        (title-within (rich && sign) (to_part link) l beside link i h
        (λ j f g. next n (heading_in o n role.Term content)
        (is_linked_in (at n o l) false role.Term content || written) beside j f
        (known-last (own_leadings (at n o l) written role.Term attributes content) _ k) g))
    lead-element role.Caption n o l link true u v q i k h =
        let written : Bool = is_written rich true role.Caption attributes content in
        subst (λ (l : Option (List ℕ)). AllWithin Leads rich l layout.OneLine content)
        (sym (flat-title rich content link))
        (next n (heading_in o n role.Caption content) (is_linked_in (at n o l) true role.Caption content || written)
        layout.OneLine link (λ e. still l _ (i e))
        (known-last (own_leadings (at n o l) written role.Caption attributes content) _ k) h)
    lead-element role.Caption n o l link false u v q i k h =
        let written : Bool = is_written rich false role.Caption attributes content in
        let beside : Layout = layout_in rich false role.Caption content in
        let sign : Bool = show_usual_sign content in
        subst (λ (b : Bool). AllWithin Leads rich (cond b None link) beside content)
        (sym (title-test rich (to_part link) sign))
        (title-within (rich && sign) (to_part link) l beside link i h
        (λ j f g. next n (heading_in o n role.Caption content)
        (is_linked_in (at n o l) false role.Caption content || written) beside j f
        (known-last (own_leadings (at n o l) written role.Caption attributes content) _ k) g))
    lead-element role.FigureCaption n o l link true u v q i k h =
        let written : Bool = is_written rich true role.FigureCaption attributes content in
        subst (λ (l : Option (List ℕ)). AllWithin Leads rich l layout.OneLine content)
        (sym (flat-title rich content link))
        (next n (heading_in o n role.FigureCaption content)
        (is_linked_in (at n o l) true role.FigureCaption content || written)
        layout.OneLine link (λ e. still l _ (i e))
        (known-last (own_leadings (at n o l) written role.FigureCaption attributes content) _ k) h)
    lead-element role.FigureCaption n o l link false u v q i k h =
        let written : Bool = is_written rich false role.FigureCaption attributes content in
        let beside : Layout = layout_in rich false role.FigureCaption content in
        let sign : Bool = show_usual_sign content in
        subst (λ (b : Bool). AllWithin Leads rich (cond b None link) beside content)
        (sym (title-test rich (to_part link) sign))
        (title-within (rich && sign) (to_part link) l beside link i h
        (λ j f g. next n (heading_in o n role.FigureCaption content)
        (is_linked_in (at n o l) false role.FigureCaption content || written) beside j f
        (known-last (own_leadings (at n o l) written role.FigureCaption attributes content) _ k) g))
    lead-element role.Summary n o l link true u v q i k h =
        let written : Bool = is_written rich true role.Summary attributes content in
        subst (λ (l : Option (List ℕ)). AllWithin Leads rich l layout.OneLine content)
        (sym (flat-title rich content link))
        (next n (heading_in o n role.Summary content) (is_linked_in (at n o l) true role.Summary content || written)
        layout.OneLine link (λ e. still l _ (i e))
        (known-last (own_leadings (at n o l) written role.Summary attributes content) _ k) h)
    lead-element role.Summary n o l link false u v q i k h =
        let written : Bool = is_written rich false role.Summary attributes content in
        let beside : Layout = layout_in rich false role.Summary content in
        let sign : Bool = show_usual_sign content in
        subst (λ (b : Bool). AllWithin Leads rich (cond b None link) beside content)
        (sym (title-test rich (to_part link) sign))
        (title-within (rich && sign) (to_part link) l beside link i h
        (λ j f g. next n (heading_in o n role.Summary content)
        (is_linked_in (at n o l) false role.Summary content || written) beside j f
        (known-last (own_leadings (at n o l) written role.Summary attributes content) _ k) g))
    lead-element r n o l link flat u v q i k h =
        let written : Bool = is_written rich flat r attributes content in
        let beside : Layout = layout_in rich flat r content in
        next n (heading_in o n r content) (is_linked_in (at n o l) flat r content || written) beside link
        (λ e. still l _ (i e)) (known-last (own_leadings (at n o l) written r attributes content) _ k)
        (λ e. h (kept-leaf (not flat && to_part link) (have_leaf rich (to_part link) beside content) e))

  mutual
    lead-within : (t : Simple) (n : ℕ) (o : Option Span) (l : Bool) (link : Option (List ℕ)) (flat : Bool)
        → IsCalm rich t
        → (link ≡ None → l ≡ false) → AllKnown (leadings (at n o l) flat t)
        → (has_leaf rich (to_part link) flat t ≡ true → Holds Leads rich link) → Within Leads rich link flat t
    lead-within (text s) n o l link flat c i k h = λ e. h (ap not e)
    lead-within (image address attributes) n o l link flat c i k h = λ e. h (c e)
    lead-within (formula tex is_alone attributes) n o l link flat c i k h = λ e. h e
    lead-within (embedded id address title attributes anchors) n o l link flat c i k h =
        (h refl, elsewhere address c)
    lead-within (anchor id) n o l link flat c i k h = tt
    lead-within (element id r facts attributes content) n o l link flat c i k h =
        lead-element id facts attributes content c.3 (λ a b m d j x y g. all-lead-within content a b m d j c.3 x y g) r
        n o l
        link flat c.0 c.1 c.2 i k h

    all-lead-within : (ts : Simples) (n : ℕ) (o : Option Span) (l : Bool) (beside : Layout) (link : Option (List ℕ))
        → AreCalm rich ts
        → (link ≡ None → l ≡ false) → AllKnown (leadings_among (at n o l) beside ts)
        → (have_leaf rich (to_part link) beside ts ≡ true → Holds Leads rich link)
        → AllWithin Leads rich link beside ts
    all-lead-within none n o l beside link c i k h = tt
    all-lead-within (more t ts) n o l beside link c i k h = (
      lead-within t n o l link (is_flat beside t) c.0 i
          (known-first (leadings (at n o l) (is_flat beside t) t) _ k)
          (λ e. h (or-left (has_leaf rich (to_part link) (is_flat beside t) t) _ e)),
      all-lead-within ts (n + seen t) o l beside link c.1 i
          (known-last (leadings (at n o l) (is_flat beside t) t) _ k)
          (λ e. h (or-right (has_leaf rich (to_part link) (is_flat beside t) t) _ e)),
    )

  pub leadings-within : (ts : Simples) → AreCalm rich ts → AllKnown (all_leadings rich ts)
      → AllWithin Leads rich None layout.Blocks ts
  leadings-within ts c k = all-lead-within ts 0 None false layout.Blocks None c (λ e. refl) k (λ e. tt)
