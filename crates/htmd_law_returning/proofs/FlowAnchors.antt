-- What a line gives with anchors before its first thing to see.
use Rattle.std.proofs.Common.{◌≡◌, ℕ, Bool, true, false, not, ◌&&◌, List, [], ◌∷◌, ◌++◌, map}
use Rattle.std.proofs.Common.{refl, sym, ap, ◌∙◌, append_assoc, Option}
use Rattle.std.proofs.lemmas.Bool.{and_parts}
use Rattle.std.proofs.lemmas.List.{append-nil}
use Rattle.htmd_lexical.specs.AttributePairs.{AttributePair}
use Rattle.htmd_flow.specs.Contexts.{Context, inside_format, inside_title, in_code}
use Rattle.htmd_document.specs.Formats.{of_format, of_element}
use Rattle.htmd_flow.specs.Flows.{node_of, nodes_of, flow_all, linked_by, image_parts}
use Rattle.htmd_flow.specs.Parts as part
use Rattle.htmd_flow.specs.Parts.{Part}
use Rattle.htmd_shown.specs.Attributes.{title_of}
use Rattle.htmd_shown.specs.declared.role.Role.{Role}
use Rattle.htmd_shown.specs.declared.role.Role.TheVariants as role
use Rattle.htmd_shown.specs.declared.facts.Facts.{Facts}
use Rattle.htmd_shown.specs.Roles.{is_verbatim}
use Rattle.htmd_shown.specs.Showings.{image_shows}
use Rattle.htmd_shown.specs.Shown.{followed_by}
use Rattle.htmd_shown.specs.SimpleTrees.{Simple, text, image, formula, embedded, anchor, element, Simples, none, more}
use Rattle.htmd_shown.specs.Spaces.{is_blank_text}
use Rattle.htmd_document_of_tree.specs.Anchors.{anchors, preceded}
use Rattle.htmd_law_returning.proofs.LocalAnchors.{local, local_all, pending, pending_all, is_place}
use Rattle.htmd_law_returning.proofs.StartLemmas.{false-true, from-not}

abbrev flow : Simples → Context → List Part
flow ts c = flow_all (nodes_of ts) c

abbrev pub places : List (List ℕ) → List Part
places ids = map part.place ids

pub anchors-flow : (ids : List (List ℕ)) (ts : Simples) (c : Context)
    → flow (followed_by (anchors ids) ts) c ≡ places ids ++ flow ts c
unfolding node_of
anchors-flow [] ts c = refl
anchors-flow (id ∷ ids) ts c = ap (λ ps. part.place id ∷ ps) (anchors-flow ids ts c)

-- a text or an image with anchors before it
pub text-flow : (ids : List (List ℕ)) (s : List ℕ) (ts : Simples) (c : Context)
    → flow (more (preceded ids (text s)) ts) c ≡ places ids ++ flow (more (text s) ts) c
unfolding node_of
text-flow [] s ts c = refl
text-flow (id ∷ ids) s ts c =
    ap (λ ps. ps ++ flow ts c) (anchors-flow (id ∷ ids) (more (text s) none) c)
    ∙ append_assoc (places (id ∷ ids)) (flow (more (text s) none) c) (flow ts c)

image-flow : (ids : List (List ℕ)) (address : Option (List ℕ)) (attributes : List AttributePair) (ts : Simples)
    (c : Context) → flow (more (preceded ids (image address attributes)) ts) c
    ≡ places ids ++ flow (more (image address attributes) ts) c
unfolding node_of
image-flow [] address attributes ts c = refl
image-flow (id ∷ ids) address attributes ts c =
    ap (λ ps. ps ++ flow ts c) (anchors-flow (id ∷ ids) (more (image address attributes) none) c)
    ∙ (append_assoc (places (id ∷ ids)) (flow (more (image address attributes) none) c) (flow ts c)
    ∙ ap (λ ps. places (id ∷ ids) ++ (ps ++ flow ts c)) (append-nil (image_parts address attributes c)))

-- ---- in formats and links

-- the element gives what is in it
abbrev is_spread : Role → Bool
is_spread (role.Format f) = true
is_spread (role.Element f) = true
is_spread role.Abbreviation = true
is_spread role.Code = true
is_spread role.Link = true
is_spread r = false

abbrev inside : Role → ℕ → List AttributePair → Context → Context
inside (role.Format f) id attributes c = inside_format (of_format f) c
inside (role.Element f) id attributes c = inside_format (of_element f) c
inside role.Abbreviation id attributes c = inside_title (title_of attributes) c
inside role.Code id attributes c = in_code c
inside role.Link id attributes c = linked_by id attributes c
inside r id attributes c = c

spread-plain : (r : Role) → is_spread r ≡ true → is_verbatim r ≡ false
spread-plain (role.Format f) h = refl
spread-plain (role.Element f) h = refl
spread-plain role.Abbreviation h = refl
spread-plain role.Code h = refl
spread-plain role.Link h = refl
spread-plain r h = false-true h

spread-flow : (id : ℕ) (r : Role) (facts : Facts) (attributes : List AttributePair) (content us : Simples)
    (c : Context) → is_spread r ≡ true
    → flow (more (element id r facts attributes content) us) c
    ≡ flow content (inside r id attributes c) ++ flow us c
unfolding node_of
spread-flow id (role.Format f) facts attributes content us c h = refl
spread-flow id (role.Element f) facts attributes content us c h = refl
spread-flow id role.Abbreviation facts attributes content us c h = refl
spread-flow id role.Code facts attributes content us c h = refl
spread-flow id role.Link facts attributes content us c h = refl
spread-flow id r facts attributes content us c h = false-true h

abbrev mutual
  -- the first leaf in it shows
  pub first_shows : Simple → Bool
  first_shows (text s) = not (is_blank_text s)
  first_shows (image address attributes) = image_shows address attributes
  first_shows (formula tex is_alone attributes) = false
  first_shows (embedded id address title attributes found) = false
  first_shows (anchor id) = false
  first_shows (element id r facts attributes content) =
      is_spread r && not (is_place (element id r facts attributes content)) && firsts_show content

  pub firsts_show : Simples → Bool
  firsts_show none = false
  firsts_show (more t ts) = first_shows t

-- anchors before it come before what it gives, and none wait then
abbrev IsLocalFlow : List (List ℕ) → Simple → Type 0
IsLocalFlow ids t =
    ((us : Simples) (c : Context) → flow (more (local ids t) us) c ≡ places ids ++ flow (more (local [] t) us) c)
    × (pending ids t ≡ pending [] t)

abbrev AreLocalFlow : List (List ℕ) → Simples → Type 0
AreLocalFlow ids ts =
    ((c : Context) → flow (local_all ids ts) c ≡ places ids ++ flow (local_all [] ts) c)
    × (pending_all ids ts ≡ pending_all [] ts)

spread-local : (ids : List (List ℕ)) (id : ℕ) (r : Role) (facts : Facts) (attributes : List AttributePair)
    (content : Simples) → is_spread r ≡ true
    → is_place (element id r facts attributes content) ≡ false → AreLocalFlow ids content
    → IsLocalFlow ids (element id r facts attributes content)
spread-local ids id r facts attributes content h p inner =
    let v : is_verbatim r ≡ false = spread-plain r h in
    rw (v, p) (
      λ us c.
          spread-flow id r facts attributes (local_all (ids ++ []) content) us c h
          ∙ (ap (λ js. flow (local_all js content) (inside r id attributes c) ++ flow us c) (append-nil ids)
          ∙ (ap (λ ps. ps ++ flow us c) (inner.0 (inside r id attributes c))
          ∙ (append_assoc (places ids) (flow (local_all [] content) (inside r id attributes c)) (flow us c)
          ∙ ap (λ ps. places ids ++ ps) (sym (spread-flow id r facts attributes (local_all [] content) us c h))))),
      ap (λ js. pending_all js content) (append-nil ids) ∙ inner.1,
    )

mutual
  pub local-flow : (ids : List (List ℕ)) (t : Simple) → first_shows t ≡ true → IsLocalFlow ids t
  local-flow ids (text s) h =
      (λ us c. rw h (text-flow ids s us c), rw h refl)
  local-flow ids (image address attributes) h =
      (λ us c. rw h (image-flow ids address attributes us c), rw h refl)
  local-flow ids (formula tex is_alone attributes) h = false-true h
  local-flow ids (embedded id address title attributes found) h = false-true h
  local-flow ids (anchor id) h = false-true h
  local-flow ids (element id r facts attributes content) h =
      let place : Bool = is_place (element id r facts attributes content) in
      let parts = and_parts (is_spread r && not place) (firsts_show content) h in
      let own = and_parts (is_spread r) (not place) parts.0 in
      spread-local ids id r facts attributes content own.0 (from-not place own.1) (all-local-flow ids content parts.1)

  pub all-local-flow : (ids : List (List ℕ)) (ts : Simples) → firsts_show ts ≡ true → AreLocalFlow ids ts
  all-local-flow ids none h = false-true h
  all-local-flow ids (more t ts) h =
      let first = local-flow ids t h in (
        λ c.
            first.0 (local_all (pending ids t) ts) c
            ∙ ap (λ js. places ids ++ flow (more (local [] t) (local_all js ts)) c) first.1,
        ap (λ js. pending_all js ts) first.1,
      )
