-- Of each thing to see the anchors come before it, and nothing else changes.
use Rattle.std.proofs.Common.{◌≡◌, ℕ, Bool, true, false, cond, not, ◌&&◌, ◌||◌, List, [], ◌∷◌, ◌++◌, map, refl, sym, ap, ◌∙◌}
use Rattle.std.proofs.Common.{append_assoc, Option}
use Rattle.std.specs.Prelude.{codes, is_some}
use Rattle.std.specs.Str.{IsUtf8}
use Rattle.std.proofs.lemmas.List.{append-nil}
use Rattle.htmd_lexical.specs.AttributePairs.{AttributePair}
use Rattle.htmd_shown.specs.declared.facts.Facts.{Facts}
use Rattle.htmd_shown.specs.declared.role.Role.{Role}
use Rattle.htmd_shown.specs.declared.role.Role.TheVariants as role
use Rattle.htmd_shown.specs.AllTexts.{image_text}
use Rattle.htmd_shown.specs.Attributes.{text_of}
use Rattle.htmd_shown.specs.Pieces.{is_leaf}
use Rattle.htmd_shown.specs.Shown.{followed_by}
use Rattle.htmd_shown.specs.SimpleTrees.{Simple, text, image, formula, embedded, anchor, element, Simples, none, more}
use Rattle.htmd_shown.specs.Spaces.{is_blank_text}
use Rattle.htmd_document_of_tree.specs.Anchors.{anchors, apart, stands_apart, after_anchors, preceded, Placing, ids_up_to}
use Rattle.htmd_document_of_tree.specs.Anchors.{placed_before, after_leaf, placing_after, placing_after_all, placed, all_placed}
use Rattle.htmd_document_of_tree.specs.Anchors.{values_of, last_anchors}
use Rattle.htmd_shown.specs.Showings.{image_shows, code_shows}
use Rattle.htmd_document_of_tree.specs.Targets.{Target}
use Rattle.htmd_law_documents.specs.DocumentTexts.{visible}
use Rattle.htmd_law_documents.specs.SimpleForms.{IsMade, IsSound, AreSound}
use Rattle.htmd_law_documents.specs.SimpleTexts.{formula_said, flat_in, grid_in}
use Rattle.htmd_law_documents.proofs.VisibleLemmas.{shown-shows}
use Rattle.htmd_law_documents.proofs.CodeLemmas.{blank-seen}
use Rattle.htmd_law_documents.proofs.ElementLemmas.{true-false}
use Rattle.htmd_law_anchors.specs.DocumentMarks.{Mark, letter, place, letters}
use Rattle.htmd_law_anchors.specs.ShownThings.{thing_if, Shows, ShowAll}
use Rattle.htmd_law_anchors.specs.AnchorLaws.{with_places}
use Rattle.htmd_law_anchors.proofs.MarkTreeLemmas.{Marks, MarkAll}
use Rattle.htmd_law_anchors.proofs.PieceMarkLemmas.{one-marks, other-grid}
use Rattle.htmd_law_anchors.proofs.CodeLetterLemmas.{unseen-code}

-- ---- trees without anchors

abbrev mutual
  pub IsBare : Simple → Type 0
  IsBare (text s) = Unit {0}
  IsBare (image address attributes) = Unit {0}
  IsBare (formula tex is_alone attributes) = Unit {0}
  IsBare (embedded id address title attributes anchors) = anchors ≡ []
  IsBare (anchor id) = true ≡ false
  IsBare (element id r facts attributes content) = AreBare content

  pub AreBare : Simples → Type 0
  AreBare none = Unit {0}
  AreBare (more t ts) = IsBare t × AreBare ts

-- ---- things with the anchors before each

abbrev pub put : Placing → List (List ℕ) → List Mark
put p [] = []
put p (thing ∷ things) =
    map place (ids_up_to p.seen p.targets) ++ map letter thing ++ put (after_leaf p true) things

abbrev pub past : Placing → List (List ℕ) → Placing
past p [] = p
past p (thing ∷ things) = past (after_leaf p true) things

put-append : (p : Placing) (xs ys : List (List ℕ)) → put p (xs ++ ys) ≡ put p xs ++ put (past p xs) ys
put-append p [] ys = refl
put-append p (thing ∷ xs) ys =
    let here : List Mark = map place (ids_up_to p.seen p.targets) ++ map letter thing in
    let q : Placing = after_leaf p true in
    ap (λ t. here ++ t) (put-append q xs ys) ∙ sym (append_assoc here (put q xs) (put (past q xs) ys))

past-append : (p : Placing) (xs ys : List (List ℕ)) → past p (xs ++ ys) ≡ past (past p xs) ys
past-append p [] ys = refl
past-append p (thing ∷ xs) ys = past-append (after_leaf p true) xs ys

-- all of them, and then the anchors that nothing follows
pub put-all : (p : Placing) (things : List (List ℕ))
    → put p things ++ map place (values_of (past p things).targets) ≡ with_places p.seen p.targets things
put-all p [] = refl
put-all p (thing ∷ things) =
    let here : List Mark = map place (ids_up_to p.seen p.targets) ++ map letter thing in
    let q : Placing = after_leaf p true in
    append_assoc here (put q things) (map place (values_of (past q things).targets))
    ∙ ap (λ t. here ++ t) (put-all q things)

-- these marks are those of the things to see of a node, each after its anchors
pub record IsPlaced (p : Placing) (f g : Bool) (t : Simple) (ms : List Mark) : Type 0 where
  pub things : List (List ℕ)
  pub show : Shows f g t things
  pub is : ms ≡ put p things
  pub next : placing_after p t ≡ past p things

pub record ArePlaced (p : Placing) (f g : Bool) (ts : Simples) (ms : List Mark) : Type 0 where
  pub things : List (List ℕ)
  pub show : ShowAll f g ts things
  pub is : ms ≡ put p things
  pub next : placing_after_all p ts ≡ past p things

-- ---- anchors before a leaf

pub split-marks : (ts us : Simples) (f g : Bool) (ms : List Mark) → MarkAll f g (followed_by ts us) ms
    → (xs : List Mark) × (ys : List Mark) × (ms ≡ xs ++ ys) × MarkAll f g ts xs × MarkAll f g us ys
split-marks none us f g ms x = ([], ms, refl, refl, x)
split-marks (more t ts) us f g ms x =
    let rest = split-marks ts us f g x.1 x.4 in (
      x.0 ++ rest.0,
      rest.1,
      x.2 ∙ (ap (λ y. x.0 ++ y) rest.2 ∙ sym (append_assoc x.0 rest.0 rest.1)),
      (x.0, rest.0, refl, x.3, rest.3),
      rest.4,
    )

anchors-marks : (ids : List (List ℕ)) (f g : Bool) (ms : List Mark) → MarkAll f g (anchors ids) ms
    → ms ≡ map place ids
anchors-marks [] f g ms x = x
anchors-marks (id ∷ ids) f g ms x =
    x.2 ∙ (ap (λ y. y ++ x.1) x.3 ∙ ap (λ y. place id ∷ y) (anchors-marks ids f g x.1 x.4))

apart-marks : (ids : List (List ℕ)) (f g : Bool) (ms : List Mark) → MarkAll f g (more (apart (anchors ids)) none) ms
    → ms ≡ map place ids
apart-marks ids f g ms x = anchors-marks ids f false ms (one-marks (apart (anchors ids)) f g ms x).1

front-marks : (b : Bool) (ids : List (List ℕ)) (f g : Bool) (ms : List Mark)
    → MarkAll f g (cond b (more (apart (anchors ids)) none) (anchors ids)) ms → ms ≡ map place ids
front-marks true ids f g ms x = apart-marks ids f g ms x
front-marks false ids f g ms x = anchors-marks ids f g ms x

pub last-marks : (targets : List Target) (f g : Bool) (ms : List Mark) → MarkAll f g (last_anchors targets) ms
    → ms ≡ map place (values_of targets)
last-marks [] f g ms x = x
last-marks (t ∷ targets) f g ms x = apart-marks (values_of (t ∷ targets)) f g ms x

-- anchors, and then what a leaf has
record IsAfter (f g : Bool) (ids : List (List ℕ)) (t : Simple) (ms : List Mark) : Type 0 where
  rest : List Mark
  is : ms ≡ map place ids ++ rest
  has : Marks f g t rest

after-marks : (ids : List (List ℕ)) (t : Simple) (f g : Bool) (ms : List Mark) → is_leaf t ≡ true
    → Marks f g (after_anchors ids t) ms → IsAfter f g ids t ms
after-marks [] t f g ms e x = record { rest = ms; is = refl; has = x }
after-marks (id ∷ ids) t f g ms e x =
    let found : Simples = anchors (id ∷ ids) in
    let front : Simples = cond (stands_apart t) (more (apart found) none) found in
    let s = split-marks front (more t none) f false ms x.1 in
    record {
      rest = s.1;
      is = s.2 ∙ ap (λ y. y ++ s.1) (front-marks (stands_apart t) (id ∷ ids) f false s.0 s.3);
      has = other-grid t f false g s.1 e (one-marks t f false s.1 s.4);
    }

-- ---- leaves

-- what a leaf says; nothing, if there is nothing to see
record Own (f g : Bool) (t : Simple) (shows : Bool) (ms : List Mark) : Type 0 where
  cs : List ℕ
  is : ms ≡ map letter cs
  show : Shows f g t (thing_if shows cs)
  unseen : shows ≡ false → cs ≡ []

leaf-placed : (p : Placing) (t : Simple) (f g shows : Bool) → placing_after p t ≡ after_leaf p shows
    → ((ms : List Mark) → Marks f g (preceded (ids_up_to p.seen p.targets) t) ms
    → IsAfter f g (ids_up_to p.seen p.targets) t ms)
    → ((ms : List Mark) → Marks f g t ms → Own f g t shows ms)
    → (ms : List Mark) → Marks f g (placed_before p shows t) ms → IsPlaced p f g t ms
leaf-placed p t f g true n w o ms x =
    let ids : List (List ℕ) = ids_up_to p.seen p.targets in
    let a : IsAfter f g ids t ms = w ms x in
    let k : Own f g t true a.rest = o a.rest a.has in
    record {
      things = k.cs ∷ [];
      show = k.show;
      is = a.is ∙ (ap (λ y. map place ids ++ y) k.is ∙ sym (append-nil (map place ids ++ map letter k.cs)));
      next = n;
    }
leaf-placed p t f g false n w o ms x =
    let k : Own f g t false ms = o ms x in
    record { things = []; show = k.show; is = k.is ∙ ap (map letter) (k.unseen refl); next = n }

not-false : (b : Bool) → not b ≡ false → b ≡ true
not-false true e = refl
not-false false e = true-false e

other-false : (a b : Bool) → (a || b) ≡ false → b ≡ false
other-false true b e = true-false e
other-false false b e = e

text-own : (s : List ℕ) (f g : Bool) (ms : List Mark) → Marks f g (text s) ms
    → Own f g (text s) (not (is_blank_text s)) ms
text-own s f g ms x = record {
  cs = visible s;
  is = x;
  show = refl;
  unseen = λ e. blank-seen s (not-false (is_blank_text s) e);
}

image-own : (address : Option (List ℕ)) (attributes : List AttributePair)
    → IsUtf8 (text_of (codes "alt") attributes)
    → (f g : Bool) (ms : List Mark) → Marks f g (image address attributes) ms
    → Own f g (image address attributes) (image_shows address attributes) ms
image-own address attributes u f g ms x = record {
  cs = visible (text_of (codes "alt") attributes);
  is = x;
  show = refl;
  unseen = λ e.
      sym (shown-shows (text_of (codes "alt") attributes) u).is
      ∙ blank-seen (image_text attributes)
      (not-false (is_blank_text (image_text attributes))
      (other-false (is_some address) (not (is_blank_text (image_text attributes))) e));
}

formula-own : (tex : List ℕ) (is_alone : Bool) (attributes : List AttributePair) (f g : Bool) (ms : List Mark)
    → Marks f g (formula tex is_alone attributes) ms → Own f g (formula tex is_alone attributes) true ms
formula-own tex is_alone attributes f g ms x = record {
  cs = visible (formula_said (is_alone && not f) tex);
  is = x;
  show = refl;
  unseen = λ e. true-false e;
}

embedded-placed : (p : Placing) (id : ℕ) (address title : List ℕ) (attributes : List AttributePair)
    (found : List (List ℕ)) → found ≡ [] → (f g : Bool) (ms : List Mark)
    → Marks f g (placed p (embedded id address title attributes found)) ms
    → IsPlaced p f g (embedded id address title attributes found) ms
embedded-placed p id address title attributes found e f g ms x =
    let ids : List (List ℕ) = ids_up_to p.seen p.targets in
    record {
      things = visible title ∷ [];
      show = refl;
      is = x ∙ (ap (λ y. map place (y ++ ids) ++ letters title) e
          ∙ sym (append-nil (map place ids ++ letters title)));
      next = refl;
    }

-- ---- elements

element-placed : (p : Placing) (id : ℕ) (r : Role) (facts : Facts) (attributes : List AttributePair)
    (content : Simples)
    → IsMade r facts content → AreSound content → (f g : Bool) (ms : List Mark)
    → ((k l : Bool) → MarkAll k l (all_placed p content) ms → ArePlaced p k l content ms)
    → Marks f g (placed p (element id r facts attributes content)) ms
    → IsPlaced p f g (element id r facts attributes content) ms
element-placed p id role.Preformatted facts attributes content m u f g ms inner x =
    let t : Simple = element id role.Preformatted facts attributes content in
    leaf-placed p t f g (code_shows content) refl
    (λ ns y. after-marks (ids_up_to p.seen p.targets) t f g ns refl y)
    (λ ns y. record {
      cs = y.1.0;
      is = y.1.2;
      show = (y.0, (y.1.0, y.1.1, refl));
      unseen = λ e. unseen-code content u e false y.1.0 y.1.1;
    }) ms x
element-placed p id role.Verbatim facts attributes content m u f g ms inner x =
    let t : Simple = element id role.Verbatim facts attributes content in
    leaf-placed p t f g (code_shows content) refl
    (λ ns y. after-marks (ids_up_to p.seen p.targets) t f g ns refl y)
    (λ ns y. record {
      cs = y.1.0;
      is = y.1.2;
      show = (y.0, (y.1.0, y.1.1, refl));
      unseen = λ e. unseen-code content u e false y.1.0 y.1.1;
    }) ms x
element-placed p id role.LineBreak facts attributes content m u f g ms inner x =
    record { things = []; show = (x.0, refl); is = x.1; next = ap (placing_after_all p) (m.empty refl) }
element-placed p id role.ThematicBreak facts attributes content m u f g ms inner x =
    record { things = []; show = (x.0, refl); is = x.1; next = ap (placing_after_all p) (m.empty refl) }
element-placed p id r facts attributes content m u f g ms inner x =
    let h : ArePlaced p (flat_in r f g) (grid_in r x.0 g) content ms =
    inner (flat_in r f g) (grid_in r x.0 g) x.1 in
    record { things = h.things; show = (x.0, h.show); is = h.is; next = h.next }

mutual
  tree-placed : (t : Simple) → IsSound t → IsBare t → (p : Placing) (f g : Bool) (ms : List Mark)
      → Marks f g (placed p t) ms → IsPlaced p f g t ms
  tree-placed (text s) u b p f g ms x =
      leaf-placed p (text s) f g (not (is_blank_text s)) refl
      (λ ns y. after-marks (ids_up_to p.seen p.targets) (text s) f g ns refl y) (λ ns y. text-own s f g ns y) ms x
  tree-placed (image address attributes) u b p f g ms x =
      leaf-placed p (image address attributes) f g (image_shows address attributes) refl
      (λ ns y. after-marks (ids_up_to p.seen p.targets) (image address attributes) f g ns refl y)
      (λ ns y. image-own address attributes u f g ns y) ms x
  tree-placed (formula tex is_alone attributes) u b p f g ms x =
      leaf-placed p (formula tex is_alone attributes) f g true refl
      (λ ns y. after-marks (ids_up_to p.seen p.targets) (formula tex is_alone attributes) f g ns refl y)
      (λ ns y. formula-own tex is_alone attributes f g ns y) ms x
  tree-placed (embedded id address title attributes found) u b p f g ms x =
      embedded-placed p id address title attributes found b f g ms x
  tree-placed (anchor id) u b p f g ms x = true-false b
  tree-placed (element id r facts attributes content) u b p f g ms x =
      element-placed p id r facts attributes content u.0 u.1 f g ms
      (λ k l y. trees-placed content u.1 b p k l ms y) x

  pub trees-placed : (ts : Simples) → AreSound ts → AreBare ts → (p : Placing) (f g : Bool) (ms : List Mark)
      → MarkAll f g (all_placed p ts) ms → ArePlaced p f g ts ms
  trees-placed none u b p f g ms x = record { things = []; show = refl; is = x; next = refl }
  trees-placed (more t ts) u b p f g ms x =
      let one : IsPlaced p f g t x.0 = tree-placed t u.0 b.0 p f g x.0 x.3 in
      let q : Placing = placing_after p t in
      let rest : ArePlaced q f g ts x.1 = trees-placed ts u.1 b.1 q f g x.1 x.4 in
      record {
        things = one.things ++ rest.things;
        show = (one.things, rest.things, refl, one.show, rest.show);
        is = x.2 ∙ (ap (λ y. y ++ x.1) one.is
            ∙ (ap (λ y. put p one.things ++ y) (rest.is ∙ ap (λ v. put v rest.things) one.next)
            ∙ sym (put-append p one.things rest.things)));
        next = rest.next ∙ (ap (λ v. past v rest.things) one.next ∙ sym (past-append p one.things rest.things));
      }
