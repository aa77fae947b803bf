-- Links lead where they led when some are taken away and anchors come in.
use Rattle.std.proofs.Common.{◌≡◌, ℕ, Bool, true, false, cond, not, ◌&&◌, List, [], ◌∷◌}
use Rattle.std.proofs.Common.{Option, Some}
use Rattle.std.specs.Prelude.{is_some, nat_lt, codes}
use Rattle.htmd_lexical.specs.AttributePairs.{AttributePair}
use Rattle.htmd_shown.specs.declared.role.Role.{Role}
use Rattle.htmd_shown.specs.declared.role.Role.TheVariants as role
use Rattle.htmd_shown.specs.Attributes.{text_of, address}
use Rattle.htmd_shown.specs.Pieces.{Pieces, no_pieces, is_unseen, after_leaf, at_edge, pieces_after}
use Rattle.htmd_shown.specs.Roles.{is_link, is_line_break, is_verbatim}
use Rattle.htmd_shown.specs.SimpleTrees.{Simple, text, image, formula, embedded, anchor, element, Simples, none, more}
use Rattle.htmd_shown.specs.Spaces.{is_blank_text}
use Rattle.htmd_document_of_tree.specs.declared.anchors.Anchors.{Anchors}
use Rattle.htmd_document_of_tree.specs.Anchors.{anchors, apart, stands_apart, after_anchors, preceded, Placing}
use Rattle.htmd_document_of_tree.specs.Anchors.{ids_up_to, placed_before, placing_after, placing_after_all, placed}
use Rattle.htmd_document_of_tree.specs.Anchors.{all_placed, values_of, last_anchors, targets_by, anchored}
use Rattle.htmd_document_of_tree.specs.FirstPieces.{most_linked, unlinked, cut_leaf, cut, cut_all, pieced, pieced_all}
use Rattle.htmd_document_of_tree.specs.Limits.{size, cost, paid, left_after, within, all_within, budget}
use Rattle.htmd_document_of_tree.specs.Limits.{limited, is_carrying, emptied}
use Rattle.htmd_shown.specs.Showings.{image_shows, code_shows}
use Rattle.htmd_document_of_tree.specs.Targets.{Target}
use Rattle.htmd_law_documents.specs.SimpleForms.{HasLinks, HaveLinks}
use Rattle.htmd_law_documents.proofs.ElementLemmas.{false-true}
use Rattle.htmd_law_documents.proofs.LinkedPageLemmas.{followed-links}

module _ (link_at : ℕ → List ℕ) where
  -- ---- the budget of links

  -- the address that a link of this number has
  abbrev LeadsThere : ℕ → List AttributePair → Type 0
  LeadsThere id attributes = address (text_of (codes "href") attributes) ≡ link_at id

  no-link : (b : Bool) {A : Type 0} → is_link (cond b role.Target role.Plain) ≡ true → A
  no-link true e = false-true e
  no-link false e = false-true e

  afford : (b : Bool) (id : ℕ) (r : Role) (attributes : List AttributePair)
      → (is_link r ≡ true → LeadsThere id attributes) → is_link (cond b (emptied r) r) ≡ true
      → LeadsThere id attributes
  afford true id r attributes h e = no-link (is_link r) e
  afford false id r attributes h e = h e

  mutual
    within-links : (left : Option ℕ) (t : Simple) → HasLinks link_at t → HasLinks link_at (within left t)
    within-links left (text s) h = h
    within-links left (image o attributes) h = h
    within-links left (formula tex is_alone attributes) h = h
    within-links left (embedded id place title attributes ids) h = h
    within-links left (anchor id) h = h
    within-links left (element id r facts attributes content) h =
        let now : Option ℕ = paid left (cost r facts attributes) in (
          afford (not (is_some now) && is_carrying r && nat_lt 0 (size r attributes)) id r attributes h.0,
          all-within-links now content h.1,
        )

    all-within-links : (left : Option ℕ) (ts : Simples) → HaveLinks link_at ts
        → HaveLinks link_at (all_within left ts)
    all-within-links left none h = tt
    all-within-links left (more t ts) h = (within-links left t h.0, all-within-links (left_after left t) ts h.1)

  pub limited-links : (ts : Simples) → HaveLinks link_at ts → HaveLinks link_at (limited ts)
  limited-links ts h = all-within-links (Some (budget ts)) ts h

  -- ---- anchors

  anchors-links : (ids : List (List ℕ)) → HaveLinks link_at (anchors ids)
  anchors-links [] = tt
  anchors-links (id ∷ ids) = (tt, anchors-links ids)

  apart-links : (ts : Simples) → HaveLinks link_at ts → HasLinks link_at (apart ts)
  apart-links ts h = (λ e. false-true e, h)

  front-links : (b : Bool) (found : Simples) → HaveLinks link_at found
      → HaveLinks link_at (cond b (more (apart found) none) found)
  front-links true found h = (apart-links found h, tt)
  front-links false found h = h

  after-links : (ids : List (List ℕ)) (t : Simple) → HasLinks link_at t → HasLinks link_at (after_anchors ids t)
  after-links [] t h = h
  after-links (id ∷ ids) t h =
      let found : Simples = anchors (id ∷ ids) in
      let front : Simples = cond (stands_apart t) (more (apart found) none) found in (
        λ e. false-true e,
        followed-links link_at front (more t none)
            (front-links (stands_apart t) found (anchors-links (id ∷ ids))) (h, tt),
      )

  preceded-links : (ids : List (List ℕ)) (t : Simple) → HasLinks link_at t → HasLinks link_at (preceded ids t)
  preceded-links ids (text s) h = after-links ids (text s) h
  preceded-links ids (image o attributes) h = after-links ids (image o attributes) h
  preceded-links ids (formula tex is_alone attributes) h = after-links ids (formula tex is_alone attributes) h
  preceded-links ids (embedded id place title attributes found) h = h
  preceded-links ids (anchor id) h = after-links ids (anchor id) h
  preceded-links ids (element id r facts attributes content) h =
      after-links ids (element id r facts attributes content) h

  leaf-links : (p : Placing) (shows : Bool) (t : Simple) → HasLinks link_at t
      → HasLinks link_at (placed_before p shows t)
  leaf-links p true t h = preceded-links (ids_up_to p.seen p.targets) t h
  leaf-links p false t h = h

  either-links : (b : Bool) (t u : Simple) → HasLinks link_at t → HasLinks link_at u
      → HasLinks link_at (cond b t u)
  either-links true t u g h = g
  either-links false t u g h = h

  mutual
    placed-links : (p : Placing) (t : Simple) → HasLinks link_at t → HasLinks link_at (placed p t)
    placed-links p (text s) h = leaf-links p (not (is_blank_text s)) (text s) h
    placed-links p (image o attributes) h = leaf-links p (image_shows o attributes) (image o attributes) h
    placed-links p (formula tex is_alone attributes) h = leaf-links p true (formula tex is_alone attributes) h
    placed-links p (embedded id place title attributes ids) h =
        leaf-links p true (embedded id place title attributes ids) h
    placed-links p (anchor id) h = tt
    placed-links p (element id r facts attributes content) h =
        let t : Simple = element id r facts attributes content in
        either-links (is_verbatim r) (placed_before p (code_shows content) t)
        (element id r facts attributes (all_placed p content)) (leaf-links p (code_shows content) t h)
        (h.0, all-placed-links p content h.1)

    all-placed-links : (p : Placing) (ts : Simples) → HaveLinks link_at ts → HaveLinks link_at (all_placed p ts)
    all-placed-links p none h = tt
    all-placed-links p (more t ts) h = (placed-links p t h.0, all-placed-links (placing_after p t) ts h.1)

  last-links : (targets : List Target) → HaveLinks link_at (last_anchors targets)
  last-links [] = tt
  last-links (t ∷ targets) =
      (apart-links (anchors (values_of (t ∷ targets))) (anchors-links (values_of (t ∷ targets))), tt)

  pub anchored-links : (which : Anchors) (is_rich : Bool) (ts : Simples) → HaveLinks link_at ts
      → HaveLinks link_at (anchored which is_rich ts)
  anchored-links which is_rich ts h =
      let p : Placing = record { seen = 0; targets = targets_by which is_rich ts } in
      let last : List Target = (placing_after_all p ts).targets in
      followed-links link_at (all_placed p ts) (last_anchors last) (all-placed-links p ts h) (last-links last)

  -- ---- the first pieces of links

  cut-leaf-links : (p : Pieces) (t : Simple) → HasLinks link_at t → HasLinks link_at (cut_leaf p t)
  cut-leaf-links p t h =
      either-links (not (is_unseen t) && nat_lt most_linked (after_leaf p t).count) (unlinked t) t
      (λ e. false-true e, (h, tt)) h

  if-links : (b : Bool) (ts us : Simples) → HaveLinks link_at ts → HaveLinks link_at us
      → HaveLinks link_at (cond b ts us)
  if-links true ts us g h = g
  if-links false ts us g h = h

  mutual
    cut-links : (p : Pieces) (t : Simple) → HasLinks link_at t → HasLinks link_at (cut p t)
    cut-links p (text s) h = cut-leaf-links p (text s) h
    cut-links p (image o attributes) h = cut-leaf-links p (image o attributes) h
    cut-links p (formula tex is_alone attributes) h = cut-leaf-links p (formula tex is_alone attributes) h
    cut-links p (embedded id place title attributes ids) h =
        cut-leaf-links p (embedded id place title attributes ids) h
    cut-links p (anchor id) h = tt
    cut-links p (element id r facts attributes content) h =
        let t : Simple = element id r facts attributes content in
        let inner : Simples = cut_all (at_edge r p) content in
        either-links (is_verbatim r) (cut_leaf p t)
        (element id r facts attributes (cond (is_line_break r) content inner)) (cut-leaf-links p t h)
        (h.0, if-links (is_line_break r) content inner h.1 (all-cut-links (at_edge r p) content h.1))

    all-cut-links : (p : Pieces) (ts : Simples) → HaveLinks link_at ts → HaveLinks link_at (cut_all p ts)
    all-cut-links p none h = tt
    all-cut-links p (more t ts) h = (cut-links p t h.0, all-cut-links (pieces_after p t) ts h.1)

  mutual
    pieced-links : (t : Simple) → HasLinks link_at t → HasLinks link_at (pieced t)
    pieced-links (text s) h = h
    pieced-links (image o attributes) h = h
    pieced-links (formula tex is_alone attributes) h = h
    pieced-links (embedded id place title attributes ids) h = h
    pieced-links (anchor id) h = h
    pieced-links (element id r facts attributes content) h = (
      h.0,
      if-links (is_link r) (cut_all no_pieces content) (pieced_all content) (all-cut-links no_pieces content h.1)
          (all-pieced-links content h.1),
    )

    pub all-pieced-links : (ts : Simples) → HaveLinks link_at ts → HaveLinks link_at (pieced_all ts)
    all-pieced-links none h = tt
    all-pieced-links (more t ts) h = (pieced-links t h.0, all-pieced-links ts h.1)
