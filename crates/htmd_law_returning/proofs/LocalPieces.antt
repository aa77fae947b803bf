-- Anchors take nothing from a link's pieces.
use Rattle.std.proofs.Common.{◌≡◌, Bool, true, false, not, ◌&&◌, ◌||◌, ◌++◌, List, [], ◌∷◌, ℕ}
use Rattle.std.proofs.Common.{refl, sym, ap, ◌∙◌}
use Rattle.std.proofs.Common.{if◌then◌else◌}
use Rattle.std.proofs.lemmas.Bool.{and_parts}
use Rattle.htmd_lexical.proofs.Cases.{test}
use Rattle.htmd_lexical.specs.AttributePairs.{AttributePair}
use Rattle.htmd_shown.specs.declared.role.Role.{Role}
use Rattle.htmd_shown.specs.declared.role.Role.TheVariants as role
use Rattle.htmd_shown.specs.declared.facts.Facts.{Facts}
use Rattle.htmd_shown.specs.Facts.{inserted_facts}
use Rattle.htmd_shown.specs.Pieces.{Pieces, no_pieces, pieces_after, pieces_after_all, at_edge}
use Rattle.htmd_shown.specs.Roles.{is_link, is_line_break, is_verbatim}
use Rattle.htmd_shown.specs.Showings.{code_shows, image_shows}
use Rattle.htmd_shown.specs.Shown.{followed_by}
use Rattle.htmd_shown.specs.SimpleTrees.{Simple, text, image, formula, embedded, anchor, element, Simples, none, more}
use Rattle.htmd_shown.specs.Spaces.{is_blank_text}
use Rattle.htmd_document_of_tree.specs.Anchors.{anchors, apart, before, stands_apart, is_embedded}
use Rattle.htmd_document_of_tree.specs.FirstPieces.{cut, cut_all, pieced, pieced_all}
use Rattle.htmd_law_returning.proofs.BareLemmas.{is_joined, are_joined, is_right_content, joined-stays, whole-content}
use Rattle.htmd_law_returning.proofs.LocalAnchors.{local, local_all, pending, put_if, own_id, last_of}
use Rattle.htmd_law_returning.proofs.StartLemmas.{false-true, from-not}

-- ---- a leaf

put-any : (P : Simple → Type 0) (b : Bool) (ids : List (List ℕ)) (t : Simple) → stands_apart t ≡ false
    → is_embedded t ≡ false → P t → ((ids : List (List ℕ)) → P (before (anchors ids) t))
    → P (put_if b ids t)
put-any P false ids t s e own put = own
put-any P true [] t s e own put = rw e own
put-any P true (id ∷ ids) t s e own put = rw (e, s) (put (id ∷ ids))

anchors-pieces : (p : Pieces) (ids : List (List ℕ)) (ts : Simples)
    → pieces_after_all p (followed_by (anchors ids) ts) ≡ pieces_after_all p ts
anchors-pieces p [] ts = refl
anchors-pieces p (id ∷ ids) ts = anchors-pieces p ids ts

anchors-cut : (p : Pieces) (ids : List (List ℕ)) (ts : Simples)
    → cut_all p (followed_by (anchors ids) ts) ≡ followed_by (anchors ids) (cut_all p ts)
anchors-cut p [] ts = refl
anchors-cut p (id ∷ ids) ts = ap (more (anchor id)) (anchors-cut p ids ts)

anchors-pieced : (ids : List (List ℕ)) (ts : Simples)
    → pieced_all (followed_by (anchors ids) ts) ≡ followed_by (anchors ids) (pieced_all ts)
anchors-pieced [] ts = refl
anchors-pieced (id ∷ ids) ts = ap (more (anchor id)) (anchors-pieced ids ts)

abbrev plain : Simples → Simple
plain content = element 0 role.Plain inserted_facts [] content

before-cut : (p : Pieces) (ids : List (List ℕ)) (t : Simple) → cut p t ≡ t
    → cut p (before (anchors ids) t) ≡ before (anchors ids) t
before-cut p ids t e =
    ap plain (anchors-cut p ids (more t none) ∙ ap (λ u. followed_by (anchors ids) (more u none)) e)

before-pieced : (ids : List (List ℕ)) (t : Simple) → pieced t ≡ t
    → pieced (before (anchors ids) t) ≡ before (anchors ids) t
before-pieced ids t e =
    ap plain (anchors-pieced ids (more t none) ∙ ap (λ u. followed_by (anchors ids) (more u none)) e)

leaf-cut : (p : Pieces) (b : Bool) (ids : List (List ℕ)) (t : Simple) → stands_apart t ≡ false
    → is_embedded t ≡ false → is_joined p t ≡ true
    → (cut p (put_if b ids t) ≡ put_if b ids t) × (pieces_after p (put_if b ids t) ≡ pieces_after p t)
leaf-cut p b ids t s e h =
    put-any (λ u. (cut p u ≡ u) × (pieces_after p u ≡ pieces_after p t)) b ids t s e (joined-stays p t h, refl)
    (λ ids. (before-cut p ids t (joined-stays p t h), anchors-pieces p ids (more t none)))

-- ---- in a link

mutual
  -- it stays, and is as many pieces
  local-cut : (p : Pieces) (ids : List (List ℕ)) (t : Simple) → is_joined p t ≡ true
      → (cut p (local ids t) ≡ local ids t) × (pieces_after p (local ids t) ≡ pieces_after p t)
  local-cut p ids (text s) h = leaf-cut p (not (is_blank_text s)) ids (text s) refl refl h
  local-cut p ids (image address attributes) h =
      leaf-cut p (image_shows address attributes) ids (image address attributes) refl refl h
  local-cut p ids (formula tex is_alone attributes) h = false-true h
  local-cut p ids (embedded id address title attributes found) h = false-true h
  local-cut p ids (anchor id) h = false-true h
  local-cut p ids (element id r facts attributes content) h =
      let parts = and_parts (not (is_verbatim r)) (is_line_break r || are_joined (at_edge r p) content) h in
      let js : List (List ℕ) = ids ++ own_id (element id r facts attributes content) in
      let v : is_verbatim r ≡ false = from-not (is_verbatim r) parts.0 in
      rw v (rw v (test (is_line_break r)
      (λ e. rw e (refl, refl))
      (λ e.
      let own : (is_line_break r || are_joined (at_edge r p) content) ≡ true = parts.1 in
      let inner = all-cut (at_edge r p) js content (sym (ap (λ b. b || are_joined (at_edge r p) content) e) ∙ own) in
      rw e (ap (element id r facts attributes) inner.0, ap (at_edge r) inner.1))))

  all-cut : (p : Pieces) (ids : List (List ℕ)) (ts : Simples) → are_joined p ts ≡ true
      → (cut_all p (local_all ids ts) ≡ local_all ids ts)
      × (pieces_after_all p (local_all ids ts) ≡ pieces_after_all p ts)
  all-cut p ids none h = (refl, refl)
  all-cut p ids (more t ts) h =
      let parts = and_parts (is_joined p t) (are_joined (pieces_after p t) ts) h in
      let one = local-cut p ids t parts.0 in
      let others = all-cut (pieces_after p t) (pending ids t) ts parts.1 in
      let us : Simples = local_all (pending ids t) ts in (
        ap (λ u. more u (cut_all (pieces_after p (local ids t)) us)) one.0
            ∙ ap (more (local ids t)) (ap (λ q. cut_all q us) one.1 ∙ others.0),
        ap (λ q. pieces_after_all q us) one.1 ∙ others.1,
      )

-- ---- around links

abbrev mutual
  -- what is in its links is joined
  pub has_right_links : Simple → Bool
  has_right_links (text s) = true
  has_right_links (image address attributes) = true
  has_right_links (formula tex is_alone attributes) = false
  has_right_links (embedded id address title attributes found) = false
  has_right_links (anchor id) = false
  has_right_links (element id r facts attributes content) = is_right_content r content && have_right_links content

  pub have_right_links : Simples → Bool
  have_right_links none = true
  have_right_links (more t ts) = has_right_links t && have_right_links ts

mutual
  own-pieced : (t : Simple) → has_right_links t ≡ true → pieced t ≡ t
  own-pieced (text s) h = refl
  own-pieced (image address attributes) h = refl
  own-pieced (formula tex is_alone attributes) h = refl
  own-pieced (embedded id address title attributes found) h = refl
  own-pieced (anchor id) h = refl
  own-pieced (element id r facts attributes content) h =
      let parts = and_parts (is_right_content r content) (have_right_links content) h in
      ap (element id r facts attributes)
      (whole-content (is_link r) r content refl parts.0 (own-all-pieced content parts.1))

  own-all-pieced : (ts : Simples) → have_right_links ts ≡ true → pieced_all ts ≡ ts
  own-all-pieced none h = refl
  own-all-pieced (more t ts) h =
      let parts = and_parts (has_right_links t) (have_right_links ts) h in
      ap (λ u. more u (pieced_all ts)) (own-pieced t parts.0) ∙ ap (more t) (own-all-pieced ts parts.1)

leaf-pieced : (b : Bool) (ids : List (List ℕ)) (t : Simple) → stands_apart t ≡ false → is_embedded t ≡ false
    → pieced t ≡ t → pieced (put_if b ids t) ≡ put_if b ids t
leaf-pieced b ids t s e h = put-any (λ u. pieced u ≡ u) b ids t s e h (λ ids. before-pieced ids t h)

apart-pieced : (ids : List (List ℕ)) → pieced (apart (anchors ids)) ≡ apart (anchors ids)
apart-pieced ids = ap apart (alone ids)
  where
    alone : (ids : List (List ℕ)) → pieced_all (anchors ids) ≡ anchors ids
    alone [] = refl
    alone (id ∷ ids) = ap (more (anchor id)) (alone ids)

-- a code block
block-pieced : (b : Bool) (ids : List (List ℕ)) (id : ℕ) (r : Role) (facts : Facts)
    (attributes : List AttributePair) (content : Simples)
    → pieced (element id r facts attributes content) ≡ element id r facts attributes content
    → pieced (put_if b ids (element id r facts attributes content))
    ≡ put_if b ids (element id r facts attributes content)
block-pieced false ids id r facts attributes content e = e
block-pieced true [] id r facts attributes content e = e
block-pieced true (i ∷ ids) id r facts attributes content e =
    let t : Simple = element id r facts attributes content in
    ap plain (ap (λ u. more u (more (pieced t) none)) (apart-pieced (i ∷ ids))
    ∙ ap (λ u. more (apart (anchors (i ∷ ids))) (more u none)) e)

mutual
  local-pieced : (ids : List (List ℕ)) (t : Simple) → has_right_links t ≡ true
      → pieced (local ids t) ≡ local ids t
  local-pieced ids (text s) h = leaf-pieced (not (is_blank_text s)) ids (text s) refl refl refl
  local-pieced ids (image address attributes) h =
      leaf-pieced (image_shows address attributes) ids (image address attributes) refl refl refl
  local-pieced ids (formula tex is_alone attributes) h = false-true h
  local-pieced ids (embedded id address title attributes found) h = false-true h
  local-pieced ids (anchor id) h = refl
  local-pieced ids (element id r facts attributes content) h =
      let parts = and_parts (is_right_content r content) (have_right_links content) h in
      let js : List (List ℕ) = ids ++ own_id (element id r facts attributes content) in
      test (is_verbatim r)
      (λ e. rw e (block-pieced (code_shows content) ids id r facts attributes content
      (own-pieced (element id r facts attributes content) h)))
      (λ e. rw e (ap (element id r facts attributes)
      (by_link js parts.0 (is_link r) refl (all-local-pieced js content parts.1))))
    where
      by_link : (js : List (List ℕ)) → is_right_content r content ≡ true → (b : Bool) → is_link r ≡ b
          → pieced_all (local_all js content) ≡ local_all js content
          → (if is_link r then cut_all no_pieces (local_all js content) else pieced_all (local_all js content))
          ≡ local_all js content
      by_link js right true e inside =
          let joined : are_joined no_pieces content ≡ true =
          sym (ap (λ c. if c then are_joined no_pieces content else true) e) ∙ right in
          rw e (all-cut no_pieces js content joined).0
      by_link js right false e inside = rw e inside

  pub all-local-pieced : (ids : List (List ℕ)) (ts : Simples) → have_right_links ts ≡ true
      → pieced_all (local_all ids ts) ≡ local_all ids ts
  all-local-pieced ids none h = refl
  all-local-pieced ids (more t ts) h =
      let parts = and_parts (has_right_links t) (have_right_links ts) h in
      ap (λ u. more u (pieced_all (local_all (pending ids t) ts))) (local-pieced ids t parts.0)
      ∙ ap (more (local ids t)) (all-local-pieced (pending ids t) ts parts.1)

followed-pieced : (ts us : Simples) → pieced_all (followed_by ts us) ≡ followed_by (pieced_all ts) (pieced_all us)
followed-pieced none us = refl
followed-pieced (more t ts) us = ap (more (pieced t)) (followed-pieced ts us)

-- with those that nothing follows
pub anchored-pieced : (ts : Simples) (ids : List (List ℕ)) → have_right_links ts ≡ true
    → pieced_all (followed_by (local_all [] ts) (last_of ids)) ≡ followed_by (local_all [] ts) (last_of ids)
anchored-pieced ts ids h =
    followed-pieced (local_all [] ts) (last_of ids)
    ∙ (ap (λ us. followed_by us (pieced_all (last_of ids))) (all-local-pieced [] ts h)
    ∙ ap (followed_by (local_all [] ts)) (last ids))
  where
    last : (ids : List (List ℕ)) → pieced_all (last_of ids) ≡ last_of ids
    last [] = refl
    last (id ∷ ids) = ap (λ u. more u none) (apart-pieced (id ∷ ids))
