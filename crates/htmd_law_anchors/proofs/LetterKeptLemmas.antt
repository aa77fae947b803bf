-- The letters of what shows stay when anchors come in, and when links end after their first pieces.
use Rattle.std.proofs.Common.{◌≡◌, ℕ, Bool, true, false, cond, not, ◌&&◌, List, [], ◌∷◌, ◌++◌, refl, ap, ◌∙◌}
use Rattle.std.specs.Prelude.{nat_lt}
use Rattle.std.proofs.lemmas.List.{append-nil}
use Rattle.htmd_shown.specs.Marks.{letters_of, letters_among}
use Rattle.htmd_shown.specs.Pieces.{Pieces, no_pieces, is_unseen, after_leaf, at_edge, pieces_after}
use Rattle.htmd_shown.specs.Roles.{is_link, is_line_break, is_verbatim}
use Rattle.htmd_shown.specs.Shown.{followed_by}
use Rattle.htmd_shown.specs.SimpleTrees.{Simple, text, image, formula, embedded, anchor, element, Simples, none, more}
use Rattle.htmd_shown.specs.Showings.{image_shows, code_shows}
use Rattle.htmd_shown.specs.Spaces.{is_blank_text}
use Rattle.htmd_document_of_tree.specs.Anchors.{anchors, apart, before, stands_apart, is_embedded, with_ids}
use Rattle.htmd_document_of_tree.specs.Anchors.{after_anchors, Placing, ids_up_to, placed_before, placing_after}
use Rattle.htmd_document_of_tree.specs.Anchors.{placed, all_placed}
use Rattle.htmd_document_of_tree.specs.FirstPieces.{most_linked, unlinked, cut_leaf, cut, cut_all, pieced, pieced_all}

both-letters : (t u : Simple) (ts us : Simples) → letters_of t ≡ letters_of u
    → letters_among ts ≡ letters_among us
    → letters_of t ++ letters_among ts ≡ letters_of u ++ letters_among us
both-letters t u ts us e f = ap (λ s. s ++ letters_among ts) e ∙ ap (λ s. letters_of u ++ s) f

-- ---- with anchors

no-letters : (ids : List (List ℕ)) → letters_among (anchors ids) ≡ []
no-letters [] = refl
no-letters (id ∷ ids) = no-letters ids

behind-letters : (ids : List (List ℕ)) (t : Simple)
    → letters_among (followed_by (anchors ids) (more t none)) ≡ letters_of t
behind-letters [] t = append-nil (letters_of t)
behind-letters (id ∷ ids) t = behind-letters ids t

after-letters : (ids : List (List ℕ)) (t : Simple) → letters_of (after_anchors ids t) ≡ letters_of t
after-letters [] t = refl
after-letters (id ∷ ids) t = either (stands_apart t)
  where
    either : (b : Bool)
        → letters_of (before (cond b (more (apart (anchors (id ∷ ids))) none) (anchors (id ∷ ids))) t)
        ≡ letters_of t
    either true =
        ap (λ s. s ++ (letters_of t ++ [])) (no-letters (id ∷ ids)) ∙ append-nil (letters_of t)
    either false = behind-letters (id ∷ ids) t

with-letters : (ids : List (List ℕ)) (t : Simple) → letters_of (with_ids ids t) ≡ letters_of t
with-letters ids (embedded id address title attributes found) = refl
with-letters ids t = refl

leaf-placed : (p : Placing) (b : Bool) (t : Simple) → letters_of (placed_before p b t) ≡ letters_of t
leaf-placed p false t = refl
leaf-placed p true t = either (is_embedded t)
  where
    ids : List (List ℕ)
    ids = ids_up_to p.seen p.targets

    either : (b : Bool) → letters_of (cond b (with_ids ids t) (after_anchors ids t)) ≡ letters_of t
    either true = with-letters ids t
    either false = after-letters ids t

mutual
  placed-letters : (p : Placing) (t : Simple) → letters_of (placed p t) ≡ letters_of t
  placed-letters p (text s) = leaf-placed p (not (is_blank_text s)) (text s)
  placed-letters p (image address attributes) =
      leaf-placed p (image_shows address attributes) (image address attributes)
  placed-letters p (formula tex is_alone attributes) = leaf-placed p true (formula tex is_alone attributes)
  placed-letters p (embedded id address title attributes found) =
      leaf-placed p true (embedded id address title attributes found)
  placed-letters p (anchor id) = refl
  placed-letters p (element id r facts attributes content) =
      either (is_verbatim r) (all-placed-letters p content)
    where
      t : Simple
      t = element id r facts attributes content

      either : (b : Bool) → letters_among (all_placed p content) ≡ letters_among content
          → letters_of (cond b (placed_before p (code_shows content) t)
          (element id r facts attributes (all_placed p content))) ≡ letters_of t
      either true e = leaf-placed p (code_shows content) t
      either false e = e

  pub all-placed-letters : (p : Placing) (ts : Simples) → letters_among (all_placed p ts) ≡ letters_among ts
  all-placed-letters p none = refl
  all-placed-letters p (more t ts) =
      both-letters (placed p t) t (all_placed (placing_after p t) ts) ts (placed-letters p t)
      (all-placed-letters (placing_after p t) ts)

-- ---- the first pieces

leaf-cut : (p : Pieces) (t : Simple) → letters_of (cut_leaf p t) ≡ letters_of t
leaf-cut p t = either (not (is_unseen t) && nat_lt most_linked (after_leaf p t).count)
  where
    either : (b : Bool) → letters_of (cond b (unlinked t) t) ≡ letters_of t
    either true = append-nil (letters_of t)
    either false = refl

mutual
  cut-letters : (p : Pieces) (t : Simple) → letters_of (cut p t) ≡ letters_of t
  cut-letters p (text s) = leaf-cut p (text s)
  cut-letters p (image o attributes) = leaf-cut p (image o attributes)
  cut-letters p (formula tex is_alone attributes) = leaf-cut p (formula tex is_alone attributes)
  cut-letters p (embedded id place title attributes ids) = leaf-cut p (embedded id place title attributes ids)
  cut-letters p (anchor id) = refl
  cut-letters p (element id r facts attributes content) =
      either (is_verbatim r) (is_line_break r) (all-cut-letters (at_edge r p) content)
    where
      t : Simple
      t = element id r facts attributes content

      either : (b d : Bool) → letters_among (cut_all (at_edge r p) content) ≡ letters_among content
          → letters_of (cond b (cut_leaf p t) (element id r facts attributes
          (cond d content (cut_all (at_edge r p) content)))) ≡ letters_of t
      either true d e = leaf-cut p t
      either false true e = refl
      either false false e = e

  pub all-cut-letters : (p : Pieces) (ts : Simples) → letters_among (cut_all p ts) ≡ letters_among ts
  all-cut-letters p none = refl
  all-cut-letters p (more t ts) =
      both-letters (cut p t) t (cut_all (pieces_after p t) ts) ts (cut-letters p t)
      (all-cut-letters (pieces_after p t) ts)

mutual
  pieced-letters : (t : Simple) → letters_of (pieced t) ≡ letters_of t
  pieced-letters (text s) = refl
  pieced-letters (image o attributes) = refl
  pieced-letters (formula tex is_alone attributes) = refl
  pieced-letters (embedded id place title attributes ids) = refl
  pieced-letters (anchor id) = refl
  pieced-letters (element id r facts attributes content) = either (is_link r) (all-pieced-letters content)
    where
      either : (b : Bool) → letters_among (pieced_all content) ≡ letters_among content
          → letters_among (cond b (cut_all no_pieces content) (pieced_all content)) ≡ letters_among content
      either true e = all-cut-letters no_pieces content
      either false e = e

  pub all-pieced-letters : (ts : Simples) → letters_among (pieced_all ts) ≡ letters_among ts
  all-pieced-letters none = refl
  all-pieced-letters (more t ts) =
      both-letters (pieced t) t (pieced_all ts) ts (pieced-letters t) (all-pieced-letters ts)
