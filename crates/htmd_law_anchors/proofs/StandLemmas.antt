-- Where anchors come in they stand in inserted elements alone, in which something shows.
use Rattle.std.proofs.Common.{◌≡◌, ℕ, Bool, true, false, cond, not, ◌&&◌, ◌||◌, List, [], ◌∷◌, refl, sym, ap, ◌∙◌}
use Rattle.std.proofs.Common.{subst}
use Rattle.std.specs.Prelude.{nat_lt}
use Rattle.htmd_lexical.specs.AttributePairs.{AttributePair}
use Rattle.htmd_shown.specs.declared.facts.Facts.{Facts}
use Rattle.htmd_shown.specs.declared.role.Role.{Role}
use Rattle.htmd_shown.specs.declared.role.Role.TheVariants as role
use Rattle.htmd_shown.specs.Pieces.{Pieces, no_pieces, is_unseen, after_leaf, at_edge, pieces_after}
use Rattle.htmd_shown.specs.Roles.{is_link, is_line_break, is_thematic_break, is_verbatim}
use Rattle.htmd_shown.specs.Shown.{followed_by}
use Rattle.htmd_shown.specs.SimpleTrees.{Simple, text, image, formula, embedded, anchor, element, Simples, none, more}
use Rattle.htmd_shown.specs.Spaces.{is_blank_text}
use Rattle.htmd_document_of_tree.specs.declared.anchors.Anchors.{Anchors}
use Rattle.htmd_document_of_tree.specs.Anchors.{anchors, apart, stands_apart, after_anchors, preceded, Placing, ids_up_to}
use Rattle.htmd_document_of_tree.specs.Anchors.{placed_before, placing_after, placing_after_all, placed, all_placed}
use Rattle.htmd_document_of_tree.specs.Anchors.{values_of, last_anchors, targets_by, anchored}
use Rattle.htmd_document_of_tree.specs.FirstPieces.{most_linked, unlinked, cut_leaf, cut, cut_all, pieced, pieced_all}
use Rattle.htmd_shown.specs.Showings.{image_shows, code_shows, shows, show}
use Rattle.htmd_document_of_tree.specs.Targets.{Target}
use Rattle.htmd_law_documents.specs.SimpleForms.{IsSound, AreSound}
use Rattle.htmd_law_documents.proofs.ElementLemmas.{false-true, true-false}
use Rattle.htmd_law_documents.proofs.Readers.{Reader, is_of_table, is_for_anchors, holds_anchors, IsFit, AreFit}
use Rattle.htmd_law_anchors.proofs.PlacedLemmas.{IsBare, AreBare}
use Rattle.htmd_law_anchors.proofs.ShowKeptLemmas.{inner-shows, link-shows}
use Rattle.htmd_law_anchors.proofs.TruthLemmas.{or-none, or-right}

abbrev mutual
  -- an anchor stands only where one may; here: one may stand here
  pub StandsWell : Bool → Simple → Type 0
  StandsWell here (text s) = Unit {0}
  StandsWell here (image address attributes) = Unit {0}
  StandsWell here (formula tex is_alone attributes) = Unit {0}
  StandsWell here (embedded id address title attributes ids) = Unit {0}
  StandsWell here (anchor id) = here ≡ true
  StandsWell here (element id r facts attributes content) = StandAll (holds_anchors here r facts content) content

  pub StandAll : Bool → Simples → Type 0
  StandAll here none = Unit {0}
  StandAll here (more t ts) = StandsWell here t × StandAll here ts

module _ (R : Reader) where
  mutual
    pub stands-fit : (here : Bool) (t : Simple) → IsSound t → StandsWell here t → IsFit R here t
    stands-fit here (text s) u h = u
    stands-fit here (image address attributes) u h = u
    stands-fit here (formula tex is_alone attributes) u h = u
    stands-fit here (embedded id address title attributes ids) u h = u
    stands-fit here (anchor id) u h = λ e. true-false (sym h ∙ e)
    stands-fit here (element id r facts attributes content) u h =
        (u.0, stand-fit (holds_anchors here r facts content) content u.1 h)

    pub stand-fit : (here : Bool) (ts : Simples) → AreSound ts → StandAll here ts → AreFit R here ts
    stand-fit here none u h = tt
    stand-fit here (more t ts) u h = (stands-fit here t u.0 h.0, stand-fit here ts u.1 h.1)

-- ---- without anchors

mutual
  bare-stands : (here : Bool) (t : Simple) → IsBare t → StandsWell here t
  bare-stands here (text s) b = tt
  bare-stands here (image address attributes) b = tt
  bare-stands here (formula tex is_alone attributes) b = tt
  bare-stands here (embedded id address title attributes ids) b = tt
  bare-stands here (anchor id) b = true-false b
  bare-stands here (element id r facts attributes content) b =
      bare-stand (holds_anchors here r facts content) content b

  bare-stand : (here : Bool) (ts : Simples) → AreBare ts → StandAll here ts
  bare-stand here none b = tt
  bare-stand here (more t ts) b = (bare-stands here t b.0, bare-stand here ts b.1)

-- ---- with anchors

anchors-stand : (ids : List (List ℕ)) → StandAll true (anchors ids)
anchors-stand [] = tt
anchors-stand (id ∷ ids) = (refl, anchors-stand ids)

followed-stand : (here : Bool) (ts us : Simples) → StandAll here ts → StandAll here us
    → StandAll here (followed_by ts us)
followed-stand here none us g h = h
followed-stand here (more t ts) us g h = (g.0, followed-stand here ts us g.1 h)

front-stands : (b : Bool) (ids : List (List ℕ))
    → StandAll true (cond b (more (apart (anchors ids)) none) (anchors ids))
front-stands true ids = (anchors-stand ids, tt)
front-stands false ids = anchors-stand ids

behind-shows : (ts us : Simples) → show true us ≡ true → show true (followed_by ts us) ≡ true
behind-shows none us s = s
behind-shows (more t ts) us s = or-right (shows true t) (show true (followed_by ts us)) (behind-shows ts us s)

after-stands : (here : Bool) (ids : List (List ℕ)) (t : Simple) → IsBare t → shows true t ≡ true
    → StandsWell here (after_anchors ids t)
after-stands here [] t b s = bare-stands here t b
after-stands here (id ∷ ids) t b s =
    let found : Simples = anchors (id ∷ ids) in
    let front : Simples = cond (stands_apart t) (more (apart found) none) found in
    subst (λ (h : Bool). StandAll h (followed_by front (more t none)))
    (sym (behind-shows front (more t none) (or-none (shows true t) ∙ s)))
    (followed-stand true front (more t none) (front-stands (stands_apart t) (id ∷ ids)) (bare-stands true t b, tt))

preceded-stands : (here : Bool) (ids : List (List ℕ)) (t : Simple) → IsBare t → shows true t ≡ true
    → StandsWell here (preceded ids t)
preceded-stands here ids (text s) b e = after-stands here ids (text s) b e
preceded-stands here ids (image address attributes) b e = after-stands here ids (image address attributes) b e
preceded-stands here ids (formula tex is_alone attributes) b e =
    after-stands here ids (formula tex is_alone attributes) b e
preceded-stands here ids (embedded id address title attributes found) b e = tt
preceded-stands here ids (anchor id) b e = true-false b
preceded-stands here ids (element id r facts attributes content) b e =
    after-stands here ids (element id r facts attributes content) b e

-- a leaf that shows, or doesn't
leaf-stands : (here : Bool) (p : Placing) (k : Bool) (t : Simple) → IsBare t
    → (k ≡ true → shows true t ≡ true)
    → StandsWell here (placed_before p k t)
leaf-stands here p true t b s = preceded-stands here (ids_up_to p.seen p.targets) t b (s refl)
leaf-stands here p false t b s = bare-stands here t b

mutual
  placed-stands : (here : Bool) (p : Placing) (t : Simple) → IsBare t → StandsWell here (placed p t)
  placed-stands here p (text s) b = leaf-stands here p (not (is_blank_text s)) (text s) b (λ e. e)
  placed-stands here p (image address attributes) b =
      leaf-stands here p (image_shows address attributes) (image address attributes) b (λ e. e)
  placed-stands here p (formula tex is_alone attributes) b =
      leaf-stands here p true (formula tex is_alone attributes) b (λ e. refl)
  placed-stands here p (embedded id address title attributes found) b =
      leaf-stands here p true (embedded id address title attributes found) b (λ e. refl)
  placed-stands here p (anchor id) b = true-false b
  placed-stands here p (element id r facts attributes content) b =
      either (is_verbatim r) refl
      (placed-stand (holds_anchors here r facts (all_placed p content)) p content b)
    where
      t : Simple
      t = element id r facts attributes content

      other : Bool
      other = cond (is_thematic_break r) false (show true content)

      either : (v : Bool) → is_verbatim r ≡ v
          → StandAll (holds_anchors here r facts (all_placed p content)) (all_placed p content)
          → StandsWell here (cond v (placed_before p (code_shows content) t)
          (element id r facts attributes (all_placed p content)))
      either true e h =
          leaf-stands here p (code_shows content) t b (λ s. ap (λ v. cond v (code_shows content) other) e ∙ s)
      either false e h = h

  pub placed-stand : (here : Bool) (p : Placing) (ts : Simples) → AreBare ts → StandAll here (all_placed p ts)
  placed-stand here p none b = tt
  placed-stand here p (more t ts) b =
      (placed-stands here p t b.0, placed-stand here (placing_after p t) ts b.1)

last-stand : (targets : List Target) → StandAll true (last_anchors targets)
last-stand [] = tt
last-stand (t ∷ targets) = (anchors-stand (values_of (t ∷ targets)), tt)

pub anchored-stand : (which : Anchors) (rich : Bool) (ts : Simples) → AreBare ts
    → StandAll true (anchored which rich ts)
anchored-stand which rich ts b =
    let p : Placing = record { seen = 0; targets = targets_by which rich ts } in
    followed-stand true (all_placed p ts) (last_anchors (placing_after_all p ts).targets) (placed-stand true p ts b)
    (last-stand (placing_after_all p ts).targets)

-- ---- the first pieces of links

either-stand : (b here : Bool) (ts us : Simples) → StandAll here ts → StandAll here us
    → StandAll here (cond b ts us)
either-stand true here ts us g h = g
either-stand false here ts us g h = h

-- in content of which as much shows
as-held : (here : Bool) (r : Role) (facts : Facts) (new old : Simples) → show true new ≡ show true old
    → StandAll (holds_anchors here r facts old) new → StandAll (holds_anchors here r facts new) new
as-held here r facts new old e h =
    subst (λ (b : Bool). StandAll
    ((is_for_anchors r && here) || (not (is_of_table r) && (not facts.is_blank && b))) new) (sym e) h

-- a code block isn't for anchors alone
code-stands : (here there : Bool) (id : ℕ) (r : Role) (facts : Facts) (attributes : List AttributePair)
    (content : Simples)
    → is_verbatim r ≡ true → StandsWell here (element id r facts attributes content)
    → StandsWell there (element id r facts attributes content)
code-stands here there id role.Preformatted facts attributes content e h = h
code-stands here there id role.Verbatim facts attributes content e h = h
code-stands here there id r facts attributes content e h = false-true e

cut-leaf-stands : (here : Bool) (p : Pieces) (t : Simple) → ((there : Bool) → StandsWell there t)
    → StandsWell here (cut_leaf p t)
cut-leaf-stands here p t h = either (not (is_unseen t) && nat_lt most_linked (after_leaf p t).count)
  where
    either : (b : Bool) → StandsWell here (cond b (unlinked t) t)
    either true = (h _, tt)
    either false = h here

mutual
  cut-stands : (here : Bool) (p : Pieces) (t : Simple) → StandsWell here t → StandsWell here (cut p t)
  cut-stands here p (text s) h = cut-leaf-stands here p (text s) (λ there. tt)
  cut-stands here p (image address attributes) h =
      cut-leaf-stands here p (image address attributes) (λ there. tt)
  cut-stands here p (formula tex is_alone attributes) h =
      cut-leaf-stands here p (formula tex is_alone attributes) (λ there. tt)
  cut-stands here p (embedded id address title attributes found) h =
      cut-leaf-stands here p (embedded id address title attributes found) (λ there. tt)
  cut-stands here p (anchor id) h = h
  cut-stands here p (element id r facts attributes content) h =
      either (is_verbatim r) refl
      (as-held here r facts inner content (inner-shows r p content)
      (either-stand (is_line_break r) (holds_anchors here r facts content) content (cut_all (at_edge r p) content) h
      (cut-stand (holds_anchors here r facts content) (at_edge r p) content h)))
    where
      t : Simple
      t = element id r facts attributes content

      inner : Simples
      inner = cond (is_line_break r) content (cut_all (at_edge r p) content)

      either : (v : Bool) → is_verbatim r ≡ v → StandAll (holds_anchors here r facts inner) inner
          → StandsWell here (cond v (cut_leaf p t) (element id r facts attributes inner))
      either true e k =
          cut-leaf-stands here p t (λ there. code-stands here there id r facts attributes content e h)
      either false e k = k

  cut-stand : (here : Bool) (p : Pieces) (ts : Simples) → StandAll here ts → StandAll here (cut_all p ts)
  cut-stand here p none h = tt
  cut-stand here p (more t ts) h = (cut-stands here p t h.0, cut-stand here (pieces_after p t) ts h.1)

mutual
  pieced-stands : (here : Bool) (t : Simple) → StandsWell here t → StandsWell here (pieced t)
  pieced-stands here (text s) h = tt
  pieced-stands here (image address attributes) h = tt
  pieced-stands here (formula tex is_alone attributes) h = tt
  pieced-stands here (embedded id address title attributes found) h = tt
  pieced-stands here (anchor id) h = h
  pieced-stands here (element id r facts attributes content) h =
      let held : Bool = holds_anchors here r facts content in
      as-held here r facts (cond (is_link r) (cut_all no_pieces content) (pieced_all content)) content
      (link-shows r content)
      (either-stand (is_link r) held (cut_all no_pieces content) (pieced_all content)
      (cut-stand held no_pieces content h) (pieced-stand held content h))

  pub pieced-stand : (here : Bool) (ts : Simples) → StandAll here ts → StandAll here (pieced_all ts)
  pieced-stand here none h = tt
  pieced-stand here (more t ts) h = (pieced-stands here t h.0, pieced-stand here ts h.1)
