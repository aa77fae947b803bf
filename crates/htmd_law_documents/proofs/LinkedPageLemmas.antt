-- The links of what shows of a page lead where its nodes say.
use Rattle.std.proofs.Common.{◌≡◌, ℕ, Bool, true, false, cond, ◌&&◌, ◌||◌, List, [], refl, sym, ap, ◌∙◌}
use Rattle.std.proofs.Common.{subst, Option, Some, None}
use Rattle.std.specs.Prelude.{codes}
use Rattle.std.specs.Option.{option_or, unwrap_or}
use Rattle.std.specs.Str.{bytes_eq}
use Rattle.htmd_lexical.specs.AttributePairs.{AttributePair}
use Rattle.htmd_nodes.specs.NumberedTrees.{NumberedTree, NumberedForest}
use Rattle.htmd_nodes.specs.NumberedTrees as page
use Rattle.htmd_document.specs.declared.document.InlineElement.{InlineElement}
use Rattle.htmd_shown.specs.declared.role.Role.TheVariants as role
use Rattle.htmd_shown.specs.Attributes.{text_of, address}
use Rattle.htmd_shown.specs.Embeds.{embedded_address, embedded_title, is_unseen, Embedding, embedding, embedding_of}
use Rattle.htmd_shown.specs.Embeds.{embedding_names}
use Rattle.htmd_shown.specs.Facts.{made}
use Rattle.htmd_shown.specs.Formulas.{tex_of}
use Rattle.htmd_shown.specs.Images.{is_image, picture_source}
use Rattle.htmd_shown.specs.Kinds.{are_blank}
use Rattle.htmd_shown.specs.Permalinks.{is_permalink}
use Rattle.htmd_shown.specs.Repeats.{is_repeat, last_element, leads_to_script}
use Rattle.htmd_shown.specs.Roles.{is_among}
use Rattle.htmd_shown.specs.Shown.{Sight, Surroundings, nowhere, inside, role_at, raised_by, raised_one, format_of}
use Rattle.htmd_shown.specs.Shown.{formats_after, raised, with_one, followed_by, marks, marked, is_led_to}
use Rattle.htmd_shown.specs.Shown.{with_content, embed, object, is_skipped, is_hidden, is_emptied, by_content}
use Rattle.htmd_shown.specs.Shown.{formula_or, source_for, source_after, shown, shown_all, shown_in}
use Rattle.htmd_shown.specs.SimpleTrees.{Simple, Simples, none, more, is_text}
use Rattle.htmd_law_documents.specs.SimpleForms.{HasLinks, HaveLinks}
use Rattle.htmd_law_documents.proofs.ElementLemmas.{false-true}

-- where an element leads, if it embeds something or is a link
abbrev pub is_embedding : List ℕ → Bool
is_embedding name = is_among embedding_names name || bytes_eq name (codes "object")

abbrev pub leads_to : List ℕ → List AttributePair → NumberedForest → List ℕ
leads_to name attributes children =
    cond (is_embedding name) (unwrap_or (embedded_address name attributes children) [])
    (address (text_of (codes "href") attributes))

module _ (link_at : ℕ → List ℕ) where
  abbrev mutual
    -- each element leads where its number says
    pub IsLinkedTree : NumberedTree → Type 0
    IsLinkedTree (page.document id children) = AreLinkedTrees children
    IsLinkedTree (page.doctype id) = Unit {0}
    IsLinkedTree (page.text id s) = Unit {0}
    IsLinkedTree (page.comment id s) = Unit {0}
    IsLinkedTree (page.element id name attributes children) =
        (leads_to name attributes children ≡ link_at id) × AreLinkedTrees children

    pub AreLinkedTrees : NumberedForest → Type 0
    AreLinkedTrees page.none = Unit {0}
    AreLinkedTrees (page.more t ts) = IsLinkedTree t × AreLinkedTrees ts

  -- so it is in a page
  abbrev pub IsLinkedPage : NumberedTree → Type 0
  IsLinkedPage (page.document id children) = AreLinkedTrees children
  IsLinkedPage _ = Unit {0}

  -- what there may be leads there
  record Leads (o : Option Simple) : Type 0 where
    is : (t : Simple) → o ≡ Some t → HasLinks link_at t

  no-node : Leads None
  no-node = record { is = λ t e. absurd (clash t e) }
    where
      clash : (t : Simple) → None ≡ Some t → ⊥
      clash t e = (cc)

  one-node : (t : Simple) → HasLinks link_at t → Leads (Some t)
  one-node t u = record { is = λ x e. subst (HasLinks link_at) (ap (λ o. unwrap_or o t) e) u }

  either-node : (b : Bool) {x y : Option Simple} → (b ≡ true → Leads x) → (b ≡ false → Leads y)
      → Leads (cond b x y)
  either-node true g h = g refl
  either-node false g h = h refl

  or-node : (x : Option Simple) {y : Option Simple} → Leads x → Leads y → Leads (option_or x y)
  or-node None g h = h
  or-node (Some t) g h = g

  with-one-links : (o : Option Simple) (ts : Simples) → Leads o → HaveLinks link_at ts
      → HaveLinks link_at (with_one o ts)
  with-one-links None ts g h = h
  with-one-links (Some t) ts g h = (g.is t refl, h)

  pub followed-links : (ts us : Simples) → HaveLinks link_at ts → HaveLinks link_at us
      → HaveLinks link_at (followed_by ts us)
  followed-links none us g h = h
  followed-links (more t ts) us g h = (g.0, followed-links ts us g.1 h)

  marks-links : (b : Bool) → HaveLinks link_at (marks b)
  marks-links true = (tt, tt)
  marks-links false = tt

  marked-links : (b : Bool) (ts : Simples) → HaveLinks link_at ts → HaveLinks link_at (marked b ts)
  marked-links b ts u =
      followed-links (followed_by (marks b) ts) (marks b) (followed-links (marks b) ts (marks-links b) u)
      (marks-links b)

  raised-one-links : (o : Option InlineElement) (id : ℕ) (t : Simple) → HasLinks link_at t
      → HasLinks link_at (raised_one o id t)
  raised-one-links None id t u = u
  raised-one-links (Some format) id t u = either (is_text t)
    where
      either : (b : Bool) → HasLinks link_at (cond b t (made id (role.Element format) [] (more t none)))
      either true = u
      either false = (λ e. false-true e, (u, tt))

  raised-links : (formats : List (Option InlineElement)) (id : ℕ) (ts : Simples) → HaveLinks link_at ts
      → HaveLinks link_at (raised formats id ts)
  raised-links formats id none u = tt
  raised-links formats id (more t ts) u =
      (raised-one-links (format_of formats) id t u.0, raised-links (formats_after formats t) id ts u.1)

  embed-links : (id : ℕ) (attributes : List AttributePair) (o : Option (List ℕ))
      → unwrap_or o [] ≡ link_at id → Leads (embed id attributes (embedding attributes o))
  embed-links id attributes None e = no-node
  embed-links id attributes (Some place) e = either (is_unseen attributes)
    where
      either : (b : Bool) → Leads (embed id attributes (cond b None
          (Some (record { address = place; title = embedded_title attributes place }))))
      either true = no-node
      either false = one-node _ e

  object-links : (id : ℕ) (attributes : List AttributePair) (content : Simples) (o : Option Embedding)
      → Leads (embed id attributes o) → HaveLinks link_at content → Leads (object id attributes content o)
  object-links id attributes content o h u =
      let plain : Leads (Some (made id role.Plain attributes content)) =
      one-node (made id role.Plain attributes content) (λ e. false-true e, u) in
      either-node (are_blank content) (λ b. or-node (embed id attributes o) h plain) (λ b. plain)

  formula-links : (name : List ℕ) (attributes : List AttributePair) (other : Option Simple) (o : Option (List ℕ))
      → Leads other → Leads (formula_or name attributes other o)
  formula-links name attributes other None h = h
  formula-links name attributes other (Some tex) h = one-node _ tt

  module _ (is_rich : Bool) (around : Surroundings) (source : Option (List ℕ)) (id : ℕ) (name : List ℕ)
      (attributes : List AttributePair) (children : NumberedForest)
      (leads : leads_to name attributes children ≡ link_at id) (content : Simples) (u : HaveLinks link_at content)
    where
      to-embedded : is_embedding name ≡ true
          → unwrap_or (embedded_address name attributes children) [] ≡ link_at id
      to-embedded e =
          sym (ap (λ b. cond b (unwrap_or (embedded_address name attributes children) [])
          (address (text_of (codes "href") attributes))) e) ∙ leads

      to-address : is_embedding name ≡ false → address (text_of (codes "href") attributes) ≡ link_at id
      to-address e =
          sym (ap (λ b. cond b (unwrap_or (embedded_address name attributes children) [])
          (address (text_of (codes "href") attributes))) e) ∙ leads

      embeds : is_embedding name ≡ true → Leads (embed id attributes (embedding_of name attributes children))
      embeds e = embed-links id attributes (embedded_address name attributes children) (to-embedded e)

      content-links : (in_head : Bool) → is_embedding name ≡ false
          → Leads (with_content is_rich in_head id name attributes children content)
      content-links in_head e =
          either-node (bytes_eq name (codes "a") && is_permalink in_head attributes content)
          (λ b. either-node (is_led_to attributes)
          (λ l. one-node (made id role.Target attributes none) (λ v. false-true v, tt)) (λ l. no-node))
          (λ b. one-node (made id (role_at is_rich name attributes children) attributes content)
          (λ v. to-address e, u))

      by-content-links : Leads (by_content is_rich around source id name attributes children content)
      by-content-links =
          either-node (is_hidden around name attributes) (λ b. no-node)
          (λ b. either-node (is_image name attributes) (λ i. one-node _ tt)
          (λ i. either-node (is_among embedding_names name)
          (λ a. embeds (ap (λ x. x || bytes_eq name (codes "object")) a))
          (λ a. either-node (bytes_eq name (codes "object"))
          (λ o. object-links id attributes content (embedding_of name attributes children)
          (embeds (ap (λ x. x || bytes_eq name (codes "object")) a ∙ o)) u)
          (λ o. content-links around.in_head (ap (λ x. x || bytes_eq name (codes "object")) a ∙ o)))))

  mutual
    unfolding shown

    shown-links : (sight : Sight) (around : Surroundings) (source : Option (List ℕ)) (t : NumberedTree)
        → IsLinkedTree t → Leads (shown sight around source t)
    shown-links sight around source (page.document id children) h = no-node
    shown-links sight around source (page.doctype id) h = no-node
    shown-links sight around source (page.text id s) h = one-node _ tt
    shown-links sight around source (page.comment id s) h = no-node
    shown-links sight around source (page.element id name attributes children) h =
        let inner : Simples =
        shown_all sight (inside name children around) (picture_source name children) None children in
        let all : Simples = marked (bytes_eq name (codes "q")) (raised (raised_by name) id inner) in
        let links : HaveLinks link_at all =
        marked-links (bytes_eq name (codes "q")) (raised (raised_by name) id inner)
        (raised-links (raised_by name) id inner
        (all-links sight (inside name children around) (picture_source name children) None children h.1)) in
        let content : Simples = cond (is_emptied around name attributes) none all in
        either-node (is_skipped sight name) (λ b. no-node)
        (λ b. formula-links name attributes
        (by_content sight.is_rich around source id name attributes children content)
        (tex_of name attributes children)
        (by-content-links sight.is_rich around source id name attributes children h.0 content
        (emptied (is_emptied around name attributes) all links)))
      where
        emptied : (b : Bool) (ts : Simples) → HaveLinks link_at ts → HaveLinks link_at (cond b none ts)
        emptied true ts u = tt
        emptied false ts u = u

    all-links : (sight : Sight) (around : Surroundings) (source : Option (List ℕ))
        (before : Option (List AttributePair)) (ts : NumberedForest) → AreLinkedTrees ts
        → HaveLinks link_at (shown_all sight around source before ts)
    all-links sight around source before page.none h = tt
    all-links sight around source before (page.more t ts) h =
        let repeat : Bool = is_repeat before t (leads_to_script sight.skip ts) in
        with-one-links (cond repeat None (shown sight around (source_for source t) t))
        (shown_all sight around (source_after source t) (last_element before t) ts)
        (either-node repeat (λ b. no-node) (λ b. shown-links sight around (source_for source t) t h.0))
        (all-links sight around (source_after source t) (last_element before t) ts h.1)

  -- what shows of a page
  pub page-links : (sight : Sight) (t : NumberedTree) → IsLinkedPage t → HaveLinks link_at (shown_in sight t)
  page-links sight (page.document id children) h = all-links sight nowhere None None children h
  page-links sight (page.doctype id) h = tt
  page-links sight (page.text id s) h = tt
  page-links sight (page.comment id s) h = tt
  page-links sight (page.element id name attributes children) h = tt
