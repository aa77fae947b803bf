-- Trees stay sound when links are taken away, and anchors come in.
use Rattle.std.proofs.Common.{◌≡◌, ℕ, Bool, true, false, cond, not, ◌&&◌, List, [], ◌∷◌, ◌++◌, refl, sym, ap, ◌∙◌}
use Rattle.std.proofs.Common.{Option, Some, arith}
use Rattle.std.proofs.lemmas.Bool.Decides.{nat_tests}
use Rattle.std.specs.Prelude.{is_some, nat_lt}
use Rattle.htmd_lexical.specs.AttributePairs.{AttributePair}
use Rattle.htmd_shown.specs.declared.facts.Facts.{Facts}
use Rattle.htmd_shown.specs.declared.role.Role.{Role}
use Rattle.htmd_shown.specs.declared.role.Role.TheVariants as role
use Rattle.htmd_shown.specs.Attributes.{is_filled}
use Rattle.htmd_shown.specs.Facts.{inserted_facts}
use Rattle.htmd_shown.specs.Kinds.{is_blank, are_blank}
use Rattle.htmd_shown.specs.Marks.{letters_of, letters_among}
use Rattle.htmd_shown.specs.Pieces.{Pieces, no_pieces, is_unseen, after_leaf, at_edge, pieces_after}
use Rattle.htmd_shown.specs.Roles.{is_void, is_link, is_line_break, is_verbatim}
use Rattle.htmd_shown.specs.Shown.{followed_by}
use Rattle.htmd_shown.specs.SimpleTrees.{Simple, text, image, formula, embedded, anchor, element, Simples, none, more}
use Rattle.htmd_shown.specs.Spaces.{is_blank_text}
use Rattle.htmd_document_of_tree.specs.declared.anchors.Anchors.{Anchors}
use Rattle.htmd_document_of_tree.specs.Anchors.{anchors, apart, stands_apart, after_anchors}
use Rattle.htmd_document_of_tree.specs.Anchors.{preceded, Placing, ids_up_to, placed_before, placing_after}
use Rattle.htmd_document_of_tree.specs.Anchors.{placing_after_all, placed, all_placed, values_of, last_anchors}
use Rattle.htmd_document_of_tree.specs.Anchors.{targets_by, anchored}
use Rattle.htmd_document_of_tree.specs.FirstPieces.{most_linked, unlinked, cut_leaf, cut, cut_all, pieced, pieced_all}
use Rattle.htmd_document_of_tree.specs.Limits.{size, cost, paid, left_after, affordable, within, all_within, budget}
use Rattle.htmd_document_of_tree.specs.Limits.{limited, emptied, is_carrying}
use Rattle.htmd_shown.specs.Showings.{image_shows, code_shows}
use Rattle.htmd_document_of_tree.specs.Targets.{Target}
use Rattle.htmd_law_documents.specs.SimpleForms.{IsMade, IsSound, AreSound}
use Rattle.htmd_law_documents.proofs.VisibleLemmas.{both-true}
use Rattle.htmd_law_documents.proofs.CodeLemmas.{blank-seen}
use Rattle.htmd_law_documents.proofs.ElementLemmas.{false-true, true-false}
use Rattle.htmd_law_documents.proofs.ShownTreeLemmas.{followed-sound}

-- a change of what is in an element
pub record IsKept (old new : Simples) : Type 0 where
  pub sound : AreSound new
  empty : old ≡ none → new ≡ none
  blank : are_blank old ≡ true → are_blank new ≡ true

kept-made : (r : Role) (facts : Facts) (old new : Simples) → IsMade r facts old → IsKept old new
    → IsMade r facts new
kept-made r facts old new m k = record { empty = λ v. k.empty (m.empty v); blank = λ b. k.blank (m.blank b) }

-- nothing of what is there says that it is blank
inserted-sound : (r : Role) (content : Simples) → (is_void r ≡ true → content ≡ none) → AreSound content
    → IsSound (element 0 r inserted_facts [] content)
inserted-sound r content e u = (record { empty = e; blank = λ b. false-true b }, u)

both-blank : (a b : Bool) → a ≡ true → b ≡ true → (a && b) ≡ true
both-blank true b g h = h
both-blank false b g h = false-true g

no-forest : (t : Simple) (ts : Simples) {A : Type 0} → more t ts ≡ none → A
no-forest t ts e = absurd (clash e)
  where
    clash : more t ts ≡ none → ⊥
    clash e = (cc)

-- ---- the budget of links

emptied-void : (r : Role) → is_carrying r ≡ true → is_void (emptied r) ≡ is_void r
emptied-void role.Link e = refl
emptied-void role.Abbreviation e = refl
emptied-void r e = false-true e

affordable-void : (b : Bool) (r : Role) → (b ≡ true → is_carrying r ≡ true)
    → is_void (cond b (emptied r) r) ≡ is_void r
affordable-void true r h = emptied-void r (h refl)
affordable-void false r h = refl

module _ (left : Option ℕ) (r : Role) (attributes : List AttributePair) where
  as-void : is_void (affordable left r attributes) ≡ is_void r
  as-void = affordable-void (not (is_some left) && is_carrying r && nat_lt 0 (size r attributes)) r
      (λ e. (both-true (not (is_some left)) (is_carrying r)
      (both-true (not (is_some left) && is_carrying r) (nat_lt 0 (size r attributes)) e).0).1)

within-blank : (left : Option ℕ) (t : Simple) → is_blank (within left t) ≡ is_blank t
within-blank left (text s) = refl
within-blank left (image address attributes) = refl
within-blank left (formula tex is_alone attributes) = refl
within-blank left (embedded id address title attributes found) = refl
within-blank left (anchor id) = refl
within-blank left (element id r facts attributes content) =
    ap (λ b. not b && facts.is_blank) (as-void (paid left (cost r facts attributes)) r attributes)

mutual
  within-sound : (left : Option ℕ) (t : Simple) → IsSound t → IsSound (within left t)
  within-sound left (text s) u = u
  within-sound left (image address attributes) u = u
  within-sound left (formula tex is_alone attributes) u = u
  within-sound left (embedded id address title attributes found) u = u
  within-sound left (anchor id) u = tt
  within-sound left (element id r facts attributes content) u =
      let now : Option ℕ = paid left (cost r facts attributes) in
      let k : IsKept content (all_within now content) = all-within-kept now content u.1 in
      let m : IsMade r facts (all_within now content) = kept-made r facts content (all_within now content) u.0 k in (
        record { empty = λ v. m.empty (sym (as-void now r attributes) ∙ v); blank = m.blank },
        k.sound,
      )

  all-within-kept : (left : Option ℕ) (ts : Simples) → AreSound ts → IsKept ts (all_within left ts)
  all-within-kept left none u = record { sound = tt; empty = λ e. refl; blank = λ e. refl }
  all-within-kept left (more t ts) u =
      let rest : IsKept ts (all_within (left_after left t) ts) = all-within-kept (left_after left t) ts u.1 in
      record {
        sound = (within-sound left t u.0, rest.sound);
        empty = λ e. no-forest t ts e;
        blank = λ e.
            let parts = both-true (is_blank t) (are_blank ts) e in
            both-blank (is_blank (within left t)) (are_blank (all_within (left_after left t) ts))
            (within-blank left t ∙ parts.0) (rest.blank parts.1);
      }

pub limited-sound : (ts : Simples) → AreSound ts → AreSound (limited ts)
limited-sound ts u = (all-within-kept (Some (budget ts)) ts u).sound

-- ---- what is blank has no letters

mutual
  blank-letters : (t : Simple) → IsSound t → is_blank t ≡ true → letters_of t ≡ []
  blank-letters (text s) u e = blank-seen s e
  blank-letters (image address attributes) u e = false-true e
  blank-letters (formula tex is_alone attributes) u e = false-true e
  blank-letters (embedded id address title attributes found) u e = false-true e
  blank-letters (anchor id) u e = refl
  blank-letters (element id r facts attributes content) u e =
      blanks-letters content u.1 (u.0.blank (both-true (not (is_void r)) facts.is_blank e).1)

  blanks-letters : (ts : Simples) → AreSound ts → are_blank ts ≡ true → letters_among ts ≡ []
  blanks-letters none u e = refl
  blanks-letters (more t ts) u e =
      let parts = both-true (is_blank t) (are_blank ts) e in
      ap (λ s. s ++ letters_among ts) (blank-letters t u.0 parts.0) ∙ blanks-letters ts u.1 parts.1

nothing-filled : is_filled [] ≡ false
nothing-filled = grind (arith, nat_tests)

pub blank-code : (content : Simples) → AreSound content → are_blank content ≡ true
    → code_shows content ≡ false
blank-code content u e = ap is_filled (blanks-letters content u e) ∙ nothing-filled

-- ---- anchors

anchors-sound : (ids : List (List ℕ)) → AreSound (anchors ids)
anchors-sound [] = tt
anchors-sound (id ∷ ids) = (tt, anchors-sound ids)

apart-sound : (ts : Simples) → AreSound ts → IsSound (apart ts)
apart-sound ts u = inserted-sound role.Anchors ts (λ e. false-true e) u

found-sound : (b : Bool) (found : Simples) → AreSound found → AreSound (cond b (more (apart found) none) found)
found-sound true found u = (apart-sound found u, tt)
found-sound false found u = u

after-sound : (ids : List (List ℕ)) (t : Simple) → IsSound t → IsSound (after_anchors ids t)
after-sound [] t u = u
after-sound (id ∷ ids) t u =
    let found : Simples = anchors (id ∷ ids) in
    let front : Simples = cond (stands_apart t) (more (apart found) none) found in
    inserted-sound role.Plain (followed_by front (more t none)) (λ e. false-true e)
    (followed-sound front (more t none) (found-sound (stands_apart t) found (anchors-sound (id ∷ ids))) (u, tt))

preceded-sound : (ids : List (List ℕ)) (t : Simple) → IsSound t → IsSound (preceded ids t)
preceded-sound ids (text s) u = after-sound ids (text s) u
preceded-sound ids (image address attributes) u = after-sound ids (image address attributes) u
preceded-sound ids (formula tex is_alone attributes) u = after-sound ids (formula tex is_alone attributes) u
preceded-sound ids (embedded id address title attributes found) u = u
preceded-sound ids (anchor id) u = after-sound ids (anchor id) u
preceded-sound ids (element id r facts attributes content) u =
    after-sound ids (element id r facts attributes content) u

leaf-sound : (p : Placing) (shows : Bool) (t : Simple) → IsSound t → IsSound (placed_before p shows t)
leaf-sound p true t u = preceded-sound (ids_up_to p.seen p.targets) t u
leaf-sound p false t u = u

-- nothing comes before what is blank
unseen-blank : (p : Placing) (shows : Bool) (t : Simple) → shows ≡ false → is_blank t ≡ true
    → is_blank (placed_before p shows t) ≡ true
unseen-blank p true t s e = true-false s
unseen-blank p false t s e = e

placed-blank : (p : Placing) (t : Simple) → IsSound t → is_blank t ≡ true → is_blank (placed p t) ≡ true
placed-blank p (text s) u e = unseen-blank p (not (is_blank_text s)) (text s) (ap not e) e
placed-blank p (image address attributes) u e = false-true e
placed-blank p (formula tex is_alone attributes) u e = false-true e
placed-blank p (embedded id address title attributes found) u e = false-true e
placed-blank p (anchor id) u e = refl
placed-blank p (element id r facts attributes content) u e = either (is_verbatim r)
  where
    t : Simple
    t = element id r facts attributes content

    either : (b : Bool)
        → is_blank (cond b (placed_before p (code_shows content) t)
        (element id r facts attributes (all_placed p content))) ≡ true
    either true =
        unseen-blank p (code_shows content) t
        (blank-code content u.1 (u.0.blank (both-true (not (is_void r)) facts.is_blank e).1)) e
    either false = e

mutual
  placed-sound : (p : Placing) (t : Simple) → IsSound t → IsSound (placed p t)
  placed-sound p (text s) u = leaf-sound p (not (is_blank_text s)) (text s) u
  placed-sound p (image address attributes) u =
      leaf-sound p (image_shows address attributes) (image address attributes) u
  placed-sound p (formula tex is_alone attributes) u = leaf-sound p true (formula tex is_alone attributes) u
  placed-sound p (embedded id address title attributes found) u =
      leaf-sound p true (embedded id address title attributes found) u
  placed-sound p (anchor id) u = tt
  placed-sound p (element id r facts attributes content) u =
      either (is_verbatim r) (all-placed-kept p content u.1)
    where
      t : Simple
      t = element id r facts attributes content

      either : (b : Bool) → IsKept content (all_placed p content)
          → IsSound (cond b (placed_before p (code_shows content) t)
          (element id r facts attributes (all_placed p content)))
      either true k = leaf-sound p (code_shows content) t u
      either false k = (kept-made r facts content (all_placed p content) u.0 k, k.sound)

  pub all-placed-kept : (p : Placing) (ts : Simples) → AreSound ts → IsKept ts (all_placed p ts)
  all-placed-kept p none u = record { sound = tt; empty = λ e. refl; blank = λ e. refl }
  all-placed-kept p (more t ts) u =
      let rest : IsKept ts (all_placed (placing_after p t) ts) = all-placed-kept (placing_after p t) ts u.1 in
      record {
        sound = (placed-sound p t u.0, rest.sound);
        empty = λ e. no-forest t ts e;
        blank = λ e.
            let parts = both-true (is_blank t) (are_blank ts) e in
            both-blank (is_blank (placed p t)) (are_blank (all_placed (placing_after p t) ts))
            (placed-blank p t u.0 parts.0) (rest.blank parts.1);
      }

last-sound : (targets : List Target) → AreSound (last_anchors targets)
last-sound [] = tt
last-sound (t ∷ targets) =
    (apart-sound (anchors (values_of (t ∷ targets))) (anchors-sound (values_of (t ∷ targets))), tt)

pub anchored-sound : (which : Anchors) (is_rich : Bool) (ts : Simples) → AreSound ts
    → AreSound (anchored which is_rich ts)
anchored-sound which is_rich ts u =
    let p : Placing = record { seen = 0; targets = targets_by which is_rich ts } in
    let last : List Target = (placing_after_all p ts).targets in
    followed-sound (all_placed p ts) (last_anchors last) (all-placed-kept p ts u).sound (last-sound last)

-- ---- the first pieces of links

unlinked-sound : (t : Simple) → IsSound t → IsSound (unlinked t)
unlinked-sound t u = inserted-sound role.Unlinked (more t none) (λ e. false-true e) (u, tt)

cut-leaf-sound : (p : Pieces) (t : Simple) → IsSound t → IsSound (cut_leaf p t)
cut-leaf-sound p t u = either (not (is_unseen t) && nat_lt most_linked (after_leaf p t).count)
  where
    either : (b : Bool) → IsSound (cond b (unlinked t) t)
    either true = unlinked-sound t u
    either false = u

cut-leaf-blank : (p : Pieces) (t : Simple) → is_unseen t ≡ true → is_blank t ≡ true
    → is_blank (cut_leaf p t) ≡ true
cut-leaf-blank p t s e =
    ap (λ b. is_blank (cond (not b && nat_lt most_linked (after_leaf p t).count) (unlinked t) t)) s ∙ e

cut-blank : (p : Pieces) (t : Simple) → is_blank t ≡ true → is_blank (cut p t) ≡ true
cut-blank p (text s) e = cut-leaf-blank p (text s) e e
cut-blank p (image address attributes) e = false-true e
cut-blank p (formula tex is_alone attributes) e = false-true e
cut-blank p (embedded id address title attributes found) e = false-true e
cut-blank p (anchor id) e = refl
cut-blank p (element id r facts attributes content) e = either (is_verbatim r)
  where
    t : Simple
    t = element id r facts attributes content

    either : (b : Bool)
        → is_blank (cond b (cut_leaf p t) (element id r facts attributes
        (cond (is_line_break r) content (cut_all (at_edge r p) content)))) ≡ true
    either true = cut-leaf-blank p t (both-true (not (is_void r)) facts.is_blank e).1 e
    either false = e

same-kept : (ts : Simples) → AreSound ts → IsKept ts ts
same-kept ts u = record { sound = u; empty = λ e. e; blank = λ e. e }

either-kept : (b : Bool) (old ts us : Simples) → IsKept old ts → IsKept old us → IsKept old (cond b ts us)
either-kept true old ts us g h = g
either-kept false old ts us g h = h

mutual
  cut-sound : (p : Pieces) (t : Simple) → IsSound t → IsSound (cut p t)
  cut-sound p (text s) u = cut-leaf-sound p (text s) u
  cut-sound p (image address attributes) u = cut-leaf-sound p (image address attributes) u
  cut-sound p (formula tex is_alone attributes) u = cut-leaf-sound p (formula tex is_alone attributes) u
  cut-sound p (embedded id address title attributes found) u =
      cut-leaf-sound p (embedded id address title attributes found) u
  cut-sound p (anchor id) u = tt
  cut-sound p (element id r facts attributes content) u =
      either (is_verbatim r)
      (either-kept (is_line_break r) content content (cut_all (at_edge r p) content) (same-kept content u.1)
      (cut-all-kept (at_edge r p) content u.1))
    where
      t : Simple
      t = element id r facts attributes content

      inner : Simples
      inner = cond (is_line_break r) content (cut_all (at_edge r p) content)

      either : (b : Bool) → IsKept content inner
          → IsSound (cond b (cut_leaf p t) (element id r facts attributes inner))
      either true k = cut-leaf-sound p t u
      either false k = (kept-made r facts content inner u.0 k, k.sound)

  cut-all-kept : (p : Pieces) (ts : Simples) → AreSound ts → IsKept ts (cut_all p ts)
  cut-all-kept p none u = record { sound = tt; empty = λ e. refl; blank = λ e. refl }
  cut-all-kept p (more t ts) u =
      let rest : IsKept ts (cut_all (pieces_after p t) ts) = cut-all-kept (pieces_after p t) ts u.1 in
      record {
        sound = (cut-sound p t u.0, rest.sound);
        empty = λ e. no-forest t ts e;
        blank = λ e.
            let parts = both-true (is_blank t) (are_blank ts) e in
            both-blank (is_blank (cut p t)) (are_blank (cut_all (pieces_after p t) ts)) (cut-blank p t parts.0)
            (rest.blank parts.1);
      }

pieced-blank : (t : Simple) → is_blank t ≡ true → is_blank (pieced t) ≡ true
pieced-blank (text s) e = e
pieced-blank (image address attributes) e = e
pieced-blank (formula tex is_alone attributes) e = e
pieced-blank (embedded id address title attributes found) e = e
pieced-blank (anchor id) e = e
pieced-blank (element id r facts attributes content) e = e

mutual
  pieced-one : (t : Simple) → IsSound t → IsSound (pieced t)
  pieced-one (text s) u = u
  pieced-one (image address attributes) u = u
  pieced-one (formula tex is_alone attributes) u = u
  pieced-one (embedded id address title attributes found) u = u
  pieced-one (anchor id) u = tt
  pieced-one (element id r facts attributes content) u =
      let k : IsKept content (cond (is_link r) (cut_all no_pieces content) (pieced_all content)) =
      either-kept (is_link r) content (cut_all no_pieces content) (pieced_all content)
      (cut-all-kept no_pieces content u.1) (pieced-kept content u.1) in
      (kept-made r facts content (cond (is_link r) (cut_all no_pieces content) (pieced_all content)) u.0 k, k.sound)

  pieced-kept : (ts : Simples) → AreSound ts → IsKept ts (pieced_all ts)
  pieced-kept none u = record { sound = tt; empty = λ e. refl; blank = λ e. refl }
  pieced-kept (more t ts) u =
      let rest : IsKept ts (pieced_all ts) = pieced-kept ts u.1 in
      record {
        sound = (pieced-one t u.0, rest.sound);
        empty = λ e. no-forest t ts e;
        blank = λ e.
            let parts = both-true (is_blank t) (are_blank ts) e in
            both-blank (is_blank (pieced t)) (are_blank (pieced_all ts)) (pieced-blank t parts.0) (rest.blank parts.1);
      }

pub pieced-sound : (ts : Simples) → AreSound ts → AreSound (pieced_all ts)
pieced-sound ts u = (pieced-kept ts u).sound
