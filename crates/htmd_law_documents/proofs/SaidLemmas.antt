-- What the simpler tree says stays when links are taken away, and anchors come in.
use Rattle.std.proofs.Common.{◌≡◌, ℕ, Bool, true, false, cond, not, ◌&&◌, List, [], ◌∷◌, ◌++◌, refl, sym, ap, ◌∙◌}
use Rattle.std.proofs.Common.{subst, Option, Some}
use Rattle.std.specs.Prelude.{is_some, nat_lt}
use Rattle.std.proofs.lemmas.List.{append-nil}
use Rattle.htmd_lexical.specs.AttributePairs.{AttributePair}
use Rattle.htmd_shown.specs.declared.facts.Facts.{Facts}
use Rattle.htmd_shown.specs.declared.role.Role.{Role}
use Rattle.htmd_shown.specs.declared.role.Role.TheVariants as role
use Rattle.htmd_shown.specs.Pieces.{Pieces, no_pieces, is_leaf, is_unseen, after_leaf, at_edge, pieces_after}
use Rattle.htmd_shown.specs.Roles.{is_void, is_link, is_line_break, is_verbatim}
use Rattle.htmd_shown.specs.Shown.{followed_by}
use Rattle.htmd_shown.specs.SimpleTrees.{Simple, text, image, formula, embedded, anchor, element, Simples, none, more}
use Rattle.htmd_shown.specs.Spaces.{is_blank_text}
use Rattle.htmd_flow.specs.Flows.{is_grid_of}
use Rattle.htmd_document_of_tree.specs.declared.anchors.Anchors.{Anchors}
use Rattle.htmd_document_of_tree.specs.Anchors.{anchors, apart, before, stands_apart, after_anchors}
use Rattle.htmd_document_of_tree.specs.Anchors.{preceded, Placing, ids_up_to, placed_before, placing_after}
use Rattle.htmd_document_of_tree.specs.Anchors.{placing_after_all, placed, all_placed, values_of, last_anchors}
use Rattle.htmd_document_of_tree.specs.Anchors.{targets_by, anchored}
use Rattle.htmd_document_of_tree.specs.FirstPieces.{most_linked, unlinked, cut_leaf, cut, cut_all, pieced, pieced_all}
use Rattle.htmd_document_of_tree.specs.Limits.{size, cost, paid, left_after, within, all_within, budget}
use Rattle.htmd_document_of_tree.specs.Limits.{is_carrying, emptied}
use Rattle.htmd_document_of_tree.specs.Limits.{limited}
use Rattle.htmd_shown.specs.Showings.{image_shows, code_shows}
use Rattle.htmd_document_of_tree.specs.Targets.{Target}
use Rattle.htmd_law_documents.specs.DocumentTexts.{visible}
use Rattle.htmd_law_documents.specs.SaidTexts.{SaysUnless, Says, SayAll}
use Rattle.htmd_law_documents.specs.SimpleForms.{IsSound, AreSound}
use Rattle.htmd_law_documents.specs.SimpleTexts.{flat_in, grid_in, text_of_simple, text_of_simples}
use Rattle.htmd_law_documents.proofs.VisibleLemmas.{shows-nil, visible-append, both-true}
use Rattle.htmd_law_documents.proofs.ElementLemmas.{false-true, simple-utf8}

-- ---- what a node says

unless-void : (b : Bool) (f g : Bool) (content : Simples) (s : List ℕ) → SayAll f g content (visible s)
    → SaysUnless b (visible (cond b [] s)) (SayAll f g content (visible (cond b [] s)))
unless-void true f g content s h = shows-nil.is
unless-void false f g content s h = h

mutual
  says-actual : (t : Simple) → IsSound t → (f g : Bool) → Says f g t (visible (text_of_simple f g t))
  says-actual (text s) u f g = refl
  says-actual (image address attributes) u f g = refl
  says-actual (formula tex is_alone attributes) u f g = refl
  says-actual (embedded id address title attributes anchors) u f g = refl
  says-actual (anchor id) u f g = shows-nil.is
  says-actual (element id r facts attributes content) u f g =
      let grid : Bool = grid_in r (is_grid_of content) g in (
        is_grid_of content,
        unless-void (is_void r) (flat_in r f g) grid content (text_of_simples (flat_in r f g) grid content)
            (say-actual content u.1 (flat_in r f g) grid),
      )

  pub say-actual : (ts : Simples) → AreSound ts → (f g : Bool) → SayAll f g ts (visible (text_of_simples f g ts))
  say-actual none u f g = shows-nil.is
  say-actual (more t ts) u f g = (
    visible (text_of_simple f g t),
    visible (text_of_simples f g ts),
    visible-append (text_of_simple f g t) (text_of_simples f g ts) (simple-utf8 t u.0 f g),
    says-actual t u.0 f g,
    say-actual ts u.1 f g,
  )

unless-map : (b : Bool) (cs : List ℕ) (A B : Type 0) → (A → B) → SaysUnless b cs A → SaysUnless b cs B
unless-map true cs A B f x = x
unless-map false cs A B f x = f x

-- all that is said of the new nodes is said of the old
abbrev AreSaid : Simples → Simples → Type 0
AreSaid new old = (f g : Bool) (cs : List ℕ) → SayAll f g new cs → SayAll f g old cs

inner-says : (id : ℕ) (r : Role) (facts : Facts) (attributes : List AttributePair) (new old : Simples)
    → AreSaid new old
    → (f g : Bool) (cs : List ℕ) → Says f g (element id r facts attributes new) cs
    → Says f g (element id r facts attributes old) cs
inner-says id r facts attributes new old h f g cs x = (
  x.0,
  unless-map (is_void r) cs (SayAll (flat_in r f g) (grid_in r x.0 g) new cs)
      (SayAll (flat_in r f g) (grid_in r x.0 g) old cs) (λ z. h (flat_in r f g) (grid_in r x.0 g) cs z) x.1,
)

either-said : (b : Bool) (ts us old : Simples) → AreSaid ts old → AreSaid us old → AreSaid (cond b ts us) old
either-said true ts us old g h = g
either-said false ts us old g h = h

-- one node alone
one-says : (t : Simple) (f g : Bool) (cs : List ℕ) → SayAll f g (more t none) cs → Says f g t cs
one-says t f g cs x =
    subst (Says f g t) (sym (x.2 ∙ (ap (λ y. x.0 ++ y) x.4 ∙ append-nil x.0))) x.3

-- a leaf says the same in a table
other-grid : (t : Simple) (f g h : Bool) (cs : List ℕ) → is_leaf t ≡ true → Says f g t cs → Says f h t cs
other-grid (text s) f g h cs e x = x
other-grid (image address attributes) f g h cs e x = x
other-grid (formula tex is_alone attributes) f g h cs e x = x
other-grid (embedded id address title attributes anchors) f g h cs e x = x
other-grid (anchor id) f g h cs e x = false-true e
other-grid (element id role.Preformatted facts attributes content) f g h cs e x = x
other-grid (element id role.Verbatim facts attributes content) f g h cs e x = x
other-grid (element id r facts attributes content) f g h cs e x = false-true e

-- ---- what says nothing

abbrev IsSilent : Simple → Type 0
IsSilent t = (f g : Bool) (cs : List ℕ) → Says f g t cs → cs ≡ []

abbrev AreSilent : Simples → Type 0
AreSilent none = Unit {0}
AreSilent (more t ts) = IsSilent t × AreSilent ts

all-silent : (ts : Simples) → AreSilent ts → (f g : Bool) (cs : List ℕ) → SayAll f g ts cs → cs ≡ []
all-silent none h f g cs x = x
all-silent (more t ts) h f g cs x =
    x.2 ∙ (ap (λ y. y ++ x.1) (h.0 f g x.0 x.3) ∙ all-silent ts h.1 f g x.1 x.4)

anchors-silent : (ids : List (List ℕ)) → AreSilent (anchors ids)
anchors-silent [] = tt
anchors-silent (id ∷ ids) = (λ f g cs x. x, anchors-silent ids)

apart-silent : (ts : Simples) → AreSilent ts → IsSilent (apart ts)
apart-silent ts h f g cs x = all-silent ts h f false cs x.1

front-says : (ts us : Simples) (f g : Bool) (cs : List ℕ) → AreSilent ts → SayAll f g (followed_by ts us) cs
    → SayAll f g us cs
front-says none us f g cs h x = x
front-says (more t ts) us f g cs h x =
    subst (SayAll f g us) (sym (x.2 ∙ ap (λ y. y ++ x.1) (h.0 f g x.0 x.3))) (front-says ts us f g x.1 h.1 x.4)

back-says : (ts us : Simples) (f g : Bool) (cs : List ℕ) → AreSilent us → SayAll f g (followed_by ts us) cs
    → SayAll f g ts cs
back-says none us f g cs h x = all-silent us h f g cs x
back-says (more t ts) us f g cs h x = (x.0, x.1, x.2, x.3, back-says ts us f g x.1 h x.4)

-- ---- anchors

before-says : (found : Simples) (t : Simple) (f g : Bool) (cs : List ℕ) → AreSilent found
    → Says f g (before found t) cs → Says f false t cs
before-says found t f g cs h x =
    one-says t f false cs (front-says found (more t none) f false cs h x.1)

put-silent : (b : Bool) (found : Simples) → AreSilent found → AreSilent (cond b (more (apart found) none) found)
put-silent true found h = (apart-silent found h, tt)
put-silent false found h = h

after-says : (ids : List (List ℕ)) (t : Simple) (f g : Bool) (cs : List ℕ) → is_leaf t ≡ true
    → Says f g (after_anchors ids t) cs → Says f g t cs
after-says [] t f g cs e x = x
after-says (id ∷ ids) t f g cs e x =
    let found : Simples = anchors (id ∷ ids) in
    other-grid t f false g cs e
    (before-says (cond (stands_apart t) (more (apart found) none) found) t f g cs
    (put-silent (stands_apart t) found (anchors-silent (id ∷ ids))) x)

preceded-says : (ids : List (List ℕ)) (t : Simple) (f g : Bool) (cs : List ℕ) → is_leaf t ≡ true
    → Says f g (preceded ids t) cs → Says f g t cs
preceded-says ids (text s) f g cs e x = after-says ids (text s) f g cs e x
preceded-says ids (image address attributes) f g cs e x = after-says ids (image address attributes) f g cs e x
preceded-says ids (formula tex is_alone attributes) f g cs e x =
    after-says ids (formula tex is_alone attributes) f g cs e x
preceded-says ids (embedded id address title attributes found) f g cs e x = x
preceded-says ids (anchor id) f g cs e x = false-true e
preceded-says ids (element id r facts attributes content) f g cs e x =
    after-says ids (element id r facts attributes content) f g cs e x

placed-leaf : (p : Placing) (shows : Bool) (t : Simple) (f g : Bool) (cs : List ℕ) → is_leaf t ≡ true
    → Says f g (placed_before p shows t) cs → Says f g t cs
placed-leaf p true t f g cs e x = preceded-says (ids_up_to p.seen p.targets) t f g cs e x
placed-leaf p false t f g cs e x = x

element-placed : (p : Placing) (id : ℕ) (r : Role) (facts : Facts) (attributes : List AttributePair)
    (content : Simples)
    → AreSaid (all_placed p content) content → (f g : Bool) (cs : List ℕ)
    → Says f g (placed p (element id r facts attributes content)) cs
    → Says f g (element id r facts attributes content) cs
element-placed p id r facts attributes content h f g cs x = either (is_verbatim r) refl x
  where
    t : Simple
    t = element id r facts attributes content

    either : (b : Bool) → is_verbatim r ≡ b
        → Says f g (cond b (placed_before p (code_shows content) t)
        (element id r facts attributes (all_placed p content))) cs → Says f g t cs
    either true e y = placed-leaf p (code_shows content) t f g cs e y
    either false e y = inner-says id r facts attributes (all_placed p content) content h f g cs y

mutual
  placed-says : (p : Placing) (t : Simple) (f g : Bool) (cs : List ℕ) → Says f g (placed p t) cs → Says f g t cs
  placed-says p (text s) f g cs x = placed-leaf p (not (is_blank_text s)) (text s) f g cs refl x
  placed-says p (image address attributes) f g cs x =
      placed-leaf p (image_shows address attributes) (image address attributes) f g cs refl x
  placed-says p (formula tex is_alone attributes) f g cs x =
      placed-leaf p true (formula tex is_alone attributes) f g cs refl x
  placed-says p (embedded id address title attributes found) f g cs x =
      placed-leaf p true (embedded id address title attributes found) f g cs refl x
  placed-says p (anchor id) f g cs x = x
  placed-says p (element id r facts attributes content) f g cs x =
      element-placed p id r facts attributes content (λ k l ds z. all-placed-say p content k l ds z) f g cs x

  all-placed-say : (p : Placing) (ts : Simples) (f g : Bool) (cs : List ℕ) → SayAll f g (all_placed p ts) cs
      → SayAll f g ts cs
  all-placed-say p none f g cs x = x
  all-placed-say p (more t ts) f g cs x =
      (x.0, x.1, x.2, placed-says p t f g x.0 x.3, all-placed-say (placing_after p t) ts f g x.1 x.4)

last-silent : (targets : List Target) → AreSilent (last_anchors targets)
last-silent [] = tt
last-silent (t ∷ targets) =
    (apart-silent (anchors (values_of (t ∷ targets))) (anchors-silent (values_of (t ∷ targets))), tt)

pub anchored-say : (which : Anchors) (is_rich : Bool) (ts : Simples) (f g : Bool) (cs : List ℕ)
    → SayAll f g (anchored which is_rich ts) cs → SayAll f g ts cs
anchored-say which is_rich ts f g cs x =
    let p : Placing = record { seen = 0; targets = targets_by which is_rich ts } in
    let last : List Target = (placing_after_all p ts).targets in
    all-placed-say p ts f g cs (back-says (all_placed p ts) (last_anchors last) f g cs (last-silent last) x)

-- ---- the first pieces of links

cut-leaf-says : (p : Pieces) (t : Simple) (f g : Bool) (cs : List ℕ) → is_leaf t ≡ true
    → Says f g (cut_leaf p t) cs
    → Says f g t cs
cut-leaf-says p t f g cs e x = either (not (is_unseen t) && nat_lt most_linked (after_leaf p t).count) x
  where
    either : (b : Bool) → Says f g (cond b (unlinked t) t) cs → Says f g t cs
    either true y = other-grid t f false g cs e (one-says t f false cs y.1)
    either false y = y

element-cut : (p : Pieces) (id : ℕ) (r : Role) (facts : Facts) (attributes : List AttributePair) (content : Simples)
    → AreSaid (cut_all (at_edge r p) content) content → (f g : Bool) (cs : List ℕ)
    → Says f g (cut p (element id r facts attributes content)) cs
    → Says f g (element id r facts attributes content) cs
element-cut p id r facts attributes content h f g cs x = either (is_verbatim r) refl x
  where
    t : Simple
    t = element id r facts attributes content

    inner : Simples
    inner = cond (is_line_break r) content (cut_all (at_edge r p) content)

    either : (b : Bool) → is_verbatim r ≡ b
        → Says f g (cond b (cut_leaf p t) (element id r facts attributes inner)) cs → Says f g t cs
    either true e y = cut-leaf-says p t f g cs e y
    either false e y =
        inner-says id r facts attributes inner content
        (either-said (is_line_break r) content (cut_all (at_edge r p) content) content (λ k l ds z. z) h) f g cs y

mutual
  cut-says : (p : Pieces) (t : Simple) (f g : Bool) (cs : List ℕ) → Says f g (cut p t) cs → Says f g t cs
  cut-says p (text s) f g cs x = cut-leaf-says p (text s) f g cs refl x
  cut-says p (image address attributes) f g cs x = cut-leaf-says p (image address attributes) f g cs refl x
  cut-says p (formula tex is_alone attributes) f g cs x =
      cut-leaf-says p (formula tex is_alone attributes) f g cs refl x
  cut-says p (embedded id address title attributes found) f g cs x =
      cut-leaf-says p (embedded id address title attributes found) f g cs refl x
  cut-says p (anchor id) f g cs x = x
  cut-says p (element id r facts attributes content) f g cs x =
      element-cut p id r facts attributes content (λ k l ds z. cut-all-say (at_edge r p) content k l ds z) f g cs x

  pub cut-all-say : (p : Pieces) (ts : Simples) (f g : Bool) (cs : List ℕ) → SayAll f g (cut_all p ts) cs
      → SayAll f g ts cs
  cut-all-say p none f g cs x = x
  cut-all-say p (more t ts) f g cs x =
      (x.0, x.1, x.2, cut-says p t f g x.0 x.3, cut-all-say (pieces_after p t) ts f g x.1 x.4)

mutual
  pieced-says : (t : Simple) (f g : Bool) (cs : List ℕ) → Says f g (pieced t) cs → Says f g t cs
  pieced-says (text s) f g cs x = x
  pieced-says (image address attributes) f g cs x = x
  pieced-says (formula tex is_alone attributes) f g cs x = x
  pieced-says (embedded id address title attributes found) f g cs x = x
  pieced-says (anchor id) f g cs x = x
  pieced-says (element id r facts attributes content) f g cs x =
      inner-says id r facts attributes (cond (is_link r) (cut_all no_pieces content) (pieced_all content)) content
      (either-said (is_link r) (cut_all no_pieces content) (pieced_all content) content
      (λ k l ds z. cut-all-say no_pieces content k l ds z) (λ k l ds z. pieced-say content k l ds z)) f g cs x

  pub pieced-say : (ts : Simples) (f g : Bool) (cs : List ℕ) → SayAll f g (pieced_all ts) cs → SayAll f g ts cs
  pieced-say none f g cs x = x
  pieced-say (more t ts) f g cs x = (x.0, x.1, x.2, pieced-says t f g x.0 x.3, pieced-say ts f g x.1 x.4)

-- ---- the budget of links

-- a link without an address says what the link says, and so does an abbreviation without its title
carrying-says : (id : ℕ) (r : Role) (facts : Facts) (attributes : List AttributePair) (content : Simples) (f g : Bool)
    (cs : List ℕ) → is_carrying r ≡ true → Says f g (element id (emptied r) facts attributes content) cs
    → Says f g (element id r facts attributes content) cs
carrying-says id role.Link facts attributes content f g cs e x = x
carrying-says id role.Abbreviation facts attributes content f g cs e x = x
carrying-says id r facts attributes content f g cs e x = false-true e

element-within : (b : Bool) (id : ℕ) (r : Role) (facts : Facts) (attributes : List AttributePair) (content : Simples)
    → (b ≡ true → is_carrying r ≡ true) → (f g : Bool) (cs : List ℕ)
    → Says f g (element id (cond b (emptied r) r) facts attributes content) cs
    → Says f g (element id r facts attributes content) cs
element-within true id r facts attributes content h f g cs x =
    carrying-says id r facts attributes content f g cs (h refl) x
element-within false id r facts attributes content h f g cs x = x

mutual
  within-says : (left : Option ℕ) (t : Simple) (f g : Bool) (cs : List ℕ) → Says f g (within left t) cs
      → Says f g t cs
  within-says left (text s) f g cs x = x
  within-says left (image address attributes) f g cs x = x
  within-says left (formula tex is_alone attributes) f g cs x = x
  within-says left (embedded id address title attributes found) f g cs x = x
  within-says left (anchor id) f g cs x = x
  within-says left (element id r facts attributes content) f g cs x =
      let now : Option ℕ = paid left (cost r facts attributes) in
      inner-says id r facts attributes (all_within now content) content
      (λ k l ds z. all-within-say now content k l ds z) f g cs
      (element-within (not (is_some now) && is_carrying r && nat_lt 0 (size r attributes)) id r facts attributes
      (all_within now content)
      (λ e. (both-true (not (is_some now)) (is_carrying r)
      (both-true (not (is_some now) && is_carrying r) (nat_lt 0 (size r attributes)) e).0).1) f g cs x)

  pub all-within-say : (left : Option ℕ) (ts : Simples) (f g : Bool) (cs : List ℕ)
      → SayAll f g (all_within left ts) cs
      → SayAll f g ts cs
  all-within-say left none f g cs x = x
  all-within-say left (more t ts) f g cs x =
      (x.0, x.1, x.2, within-says left t f g x.0 x.3, all-within-say (left_after left t) ts f g x.1 x.4)

pub limited-say : (ts : Simples) (f g : Bool) (cs : List ℕ) → SayAll f g (limited ts) cs → SayAll f g ts cs
limited-say ts f g cs x = all-within-say (Some (budget ts)) ts f g cs x
