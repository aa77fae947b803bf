-- Anchors before what shows are nothing that shows.
use Rattle.std.proofs.Common.{◌≡◌, ℕ, Bool, true, false, not, ◌||◌, cond, List, [], ◌∷◌, ◌++◌, refl, sym, ap}
use Rattle.std.proofs.Common.{◌∙◌}
use Rattle.htmd_lexical.proofs.Cases.{test}
use Rattle.htmd_shown.specs.Roles.{is_heading, is_thematic_break, is_verbatim}
use Rattle.htmd_shown.specs.Showings.{shows, show, image_shows, code_shows}
use Rattle.htmd_shown.specs.Shown.{followed_by}
use Rattle.htmd_shown.specs.SimpleTrees.{Simple, text, image, formula, embedded, anchor, element, Simples, none, more}
use Rattle.htmd_shown.specs.Spaces.{is_blank_text}
use Rattle.htmd_document_of_tree.specs.Anchors.{anchors, apart, preceded}
use Rattle.htmd_law_returning.proofs.LocalAnchors.{local, local_all, pending, put_if, own_id}

or-false : (b : Bool) → (b || false) ≡ b
or-false true = refl
or-false false = refl

or-true : (b : Bool) → (b || true) ≡ true
or-true true = refl
or-true false = refl

anchors-unseen : (h : Bool) (ids : List (List ℕ)) (ts : Simples)
    → show h (followed_by (anchors ids) ts) ≡ show h ts
anchors-unseen h [] ts = refl
anchors-unseen h (id ∷ ids) ts = anchors-unseen h ids ts

apart-unseen : (h : Bool) (ids : List (List ℕ)) → show h (anchors ids) ≡ false
apart-unseen h [] = refl
apart-unseen h (id ∷ ids) = apart-unseen h ids

-- a leaf with anchors beside it, and one with them apart
beside-shows : (h : Bool) (ids : List (List ℕ)) (t : Simple)
    → show (h || false) (followed_by (anchors ids) (more t none)) ≡ shows h t
beside-shows h ids t =
    ap (λ k. show k (followed_by (anchors ids) (more t none))) (or-false h)
    ∙ (anchors-unseen h ids (more t none) ∙ or-false (shows h t))

apart-shows : (h : Bool) (ids : List (List ℕ)) (t : Simple)
    → show (h || false) (more (apart (anchors ids)) (more t none)) ≡ shows h t
apart-shows h ids t =
    ap (λ k. show k (more (apart (anchors ids)) (more t none))) (or-false h)
    ∙ (ap (λ b. b || (shows h t || false)) (apart-unseen (h || false) ids) ∙ or-false (shows h t))

preceded-shows : (h : Bool) (ids : List (List ℕ)) (t : Simple) → shows h (preceded ids t) ≡ shows h t
preceded-shows h [] (text s) = refl
preceded-shows h [] (image address attributes) = refl
preceded-shows h [] (formula tex is_alone attributes) = refl
preceded-shows h [] (anchor id) = refl
preceded-shows h [] (element id r facts attributes content) = refl
preceded-shows h ids (embedded id address title attributes found) = refl
preceded-shows h (i ∷ ids) (text s) = beside-shows h (i ∷ ids) (text s)
preceded-shows h (i ∷ ids) (image address attributes) = beside-shows h (i ∷ ids) (image address attributes)
preceded-shows h (i ∷ ids) (formula tex true attributes) = apart-shows h (i ∷ ids) (formula tex true attributes)
preceded-shows h (i ∷ ids) (formula tex false attributes) = beside-shows h (i ∷ ids) (formula tex false attributes)
preceded-shows h (i ∷ ids) (anchor id) = beside-shows h (i ∷ ids) (anchor id)
preceded-shows h (i ∷ ids) (element id r facts attributes content) =
    apart-shows h (i ∷ ids) (element id r facts attributes content)

put-shows : (h b : Bool) (ids : List (List ℕ)) (t : Simple) → shows h (put_if b ids t) ≡ shows h t
put-shows h true ids t = preceded-shows h ids t
put-shows h false ids t = refl

mutual
  local-shows : (h : Bool) (ids : List (List ℕ)) (t : Simple) → shows h (local ids t) ≡ shows h t
  local-shows h ids (text s) = put-shows h (not (is_blank_text s)) ids (text s)
  local-shows h ids (image address attributes) =
      put-shows h (image_shows address attributes) ids (image address attributes)
  local-shows h ids (formula tex is_alone attributes) = preceded-shows h ids (formula tex is_alone attributes)
  local-shows h ids (embedded id address title attributes found) = refl
  local-shows h ids (anchor id) = refl
  local-shows h ids (element id r facts attributes content) =
      let t : Simple = element id r facts attributes content in
      let js : List (List ℕ) = ids ++ own_id t in
      test (is_verbatim r)
      (λ e. ap (λ b. shows h (cond b (put_if (code_shows content) ids t)
      (element id r facts attributes (local_all js content)))) e ∙ put-shows h (code_shows content) ids t)
      (λ e. ap (λ b. shows h (cond b (put_if (code_shows content) ids t)
      (element id r facts attributes (local_all js content)))) e
      ∙ (ap (λ b. cond b (code_shows (local_all js content))
      (cond (is_thematic_break r) (not h) (show (h || is_heading r) (local_all js content)))) e
      ∙ (ap (λ b. cond (is_thematic_break r) (not h) b) (all-local-shows (h || is_heading r) js content)
      ∙ sym (ap (λ b. cond b (code_shows content)
      (cond (is_thematic_break r) (not h) (show (h || is_heading r) content))) e))))

  pub all-local-shows : (h : Bool) (ids : List (List ℕ)) (ts : Simples) → show h (local_all ids ts) ≡ show h ts
  all-local-shows h ids none = refl
  all-local-shows h ids (more t ts) =
      ap (λ b. b || show h (local_all (pending ids t) ts)) (local-shows h ids t)
      ∙ ap (λ b. shows h t || b) (all-local-shows h (pending ids t) ts)
