-- Marks stay where a link is around its first pieces alone.
use Rattle.std.proofs.Common.{◌≡◌, ℕ, Bool, true, false, cond, not, ◌&&◌, List, [], ◌++◌, refl, sym, ap, ◌∙◌, subst}
use Rattle.std.specs.Prelude.{nat_lt}
use Rattle.std.proofs.lemmas.List.{append-nil}
use Rattle.htmd_lexical.specs.AttributePairs.{AttributePair}
use Rattle.htmd_shown.specs.declared.facts.Facts.{Facts}
use Rattle.htmd_shown.specs.declared.role.Role.{Role}
use Rattle.htmd_shown.specs.declared.role.Role.TheVariants as role
use Rattle.htmd_shown.specs.Pieces.{Pieces, no_pieces, is_leaf, is_unseen, after_leaf, at_edge, pieces_after}
use Rattle.htmd_shown.specs.Roles.{is_link, is_line_break, is_verbatim}
use Rattle.htmd_shown.specs.SimpleTrees.{Simple, text, image, formula, embedded, anchor, element, Simples, none, more}
use Rattle.htmd_document_of_tree.specs.FirstPieces.{most_linked, unlinked, cut_leaf, cut, cut_all, pieced, pieced_all}
use Rattle.htmd_law_documents.specs.SaidTexts.{SayAll}
use Rattle.htmd_law_documents.specs.SimpleTexts.{flat_in, grid_in}
use Rattle.htmd_law_documents.proofs.ElementLemmas.{false-true}
use Rattle.htmd_law_documents.proofs.SaidLemmas.{cut-all-say, pieced-say}
use Rattle.htmd_law_anchors.specs.DocumentMarks.{Mark}
use Rattle.htmd_law_anchors.specs.ShownThings.{ByRole}
use Rattle.htmd_law_anchors.proofs.MarkTreeLemmas.{CodeMarks, Marks, MarkAll}

-- ---- what an element has

pub by-role-map : (r : Role) (A B C D E : Type 0) → (A → D) → (C → E) → ByRole r A B C → ByRole r D B E
by-role-map role.Preformatted A B C D E f g x = f x
by-role-map role.Verbatim A B C D E f g x = f x
by-role-map role.LineBreak A B C D E f g x = x
by-role-map role.ThematicBreak A B C D E f g x = x
by-role-map r A B C D E f g x = g x

-- what the new nodes have as code and as marks, the old have
record AreMarked (new old : Simples) : Type 0 where
  say : (cs : List ℕ) → SayAll true false new cs → SayAll true false old cs
  have : (f g : Bool) (ms : List Mark) → MarkAll f g new ms → MarkAll f g old ms

inner-marks : (id : ℕ) (r : Role) (facts : Facts) (attributes : List AttributePair) (new old : Simples)
    → AreMarked new old → (f g : Bool) (ms : List Mark) → Marks f g (element id r facts attributes new) ms
    → Marks f g (element id r facts attributes old) ms
inner-marks id r facts attributes new old h f g ms x = (
  x.0,
  by-role-map r (CodeMarks new ms) (ms ≡ []) (MarkAll (flat_in r f g) (grid_in r x.0 g) new ms) (CodeMarks old ms)
      (MarkAll (flat_in r f g) (grid_in r x.0 g) old ms) (λ y. (y.0, h.say y.0 y.1, y.2))
      (λ y. h.have (flat_in r f g) (grid_in r x.0 g) ms y) x.1,
)

either-marked : (b : Bool) (ts us old : Simples) → AreMarked ts old → AreMarked us old
    → AreMarked (cond b ts us) old
either-marked true ts us old g h = g
either-marked false ts us old g h = h

-- one node alone
pub one-marks : (t : Simple) (f g : Bool) (ms : List Mark) → MarkAll f g (more t none) ms → Marks f g t ms
one-marks t f g ms x = subst (Marks f g t) (sym (x.2 ∙ (ap (λ y. x.0 ++ y) x.4 ∙ append-nil x.0))) x.3

-- a leaf has the same in a table
pub other-grid : (t : Simple) (f g h : Bool) (ms : List Mark) → is_leaf t ≡ true → Marks f g t ms
    → Marks f h t ms
other-grid (text s) f g h ms e x = x
other-grid (image address attributes) f g h ms e x = x
other-grid (formula tex is_alone attributes) f g h ms e x = x
other-grid (embedded id address title attributes anchors) f g h ms e x = x
other-grid (anchor id) f g h ms e x = false-true e
other-grid (element id role.Preformatted facts attributes content) f g h ms e x = x
other-grid (element id role.Verbatim facts attributes content) f g h ms e x = x
other-grid (element id r facts attributes content) f g h ms e x = false-true e

-- ---- the first pieces

cut-leaf-marks : (p : Pieces) (t : Simple) (f g : Bool) (ms : List Mark) → is_leaf t ≡ true
    → Marks f g (cut_leaf p t) ms → Marks f g t ms
cut-leaf-marks p t f g ms e x = either (not (is_unseen t) && nat_lt most_linked (after_leaf p t).count) x
  where
    either : (b : Bool) → Marks f g (cond b (unlinked t) t) ms → Marks f g t ms
    either true y = other-grid t f false g ms e (one-marks t f false ms y.1)
    either false y = y

element-cut : (p : Pieces) (id : ℕ) (r : Role) (facts : Facts) (attributes : List AttributePair) (content : Simples)
    → AreMarked (cut_all (at_edge r p) content) content → (f g : Bool) (ms : List Mark)
    → Marks f g (cut p (element id r facts attributes content)) ms
    → Marks f g (element id r facts attributes content) ms
element-cut p id r facts attributes content h f g ms x = either (is_verbatim r) refl x
  where
    t : Simple
    t = element id r facts attributes content

    inner : Simples
    inner = cond (is_line_break r) content (cut_all (at_edge r p) content)

    either : (b : Bool) → is_verbatim r ≡ b
        → Marks f g (cond b (cut_leaf p t) (element id r facts attributes inner)) ms → Marks f g t ms
    either true e y = cut-leaf-marks p t f g ms e y
    either false e y =
        inner-marks id r facts attributes inner content
        (either-marked (is_line_break r) content (cut_all (at_edge r p) content) content
        (record { say = λ cs z. z; have = λ k l ns z. z }) h) f g ms y

mutual
  cut-marks : (p : Pieces) (t : Simple) (f g : Bool) (ms : List Mark) → Marks f g (cut p t) ms → Marks f g t ms
  cut-marks p (text s) f g ms x = cut-leaf-marks p (text s) f g ms refl x
  cut-marks p (image address attributes) f g ms x = cut-leaf-marks p (image address attributes) f g ms refl x
  cut-marks p (formula tex is_alone attributes) f g ms x =
      cut-leaf-marks p (formula tex is_alone attributes) f g ms refl x
  cut-marks p (embedded id address title attributes found) f g ms x =
      cut-leaf-marks p (embedded id address title attributes found) f g ms refl x
  cut-marks p (anchor id) f g ms x = x
  cut-marks p (element id r facts attributes content) f g ms x =
      element-cut p id r facts attributes content
      (record {
        say = λ cs z. cut-all-say (at_edge r p) content true false cs z;
        have = λ k l ns z. cut-all-marks (at_edge r p) content k l ns z;
      }) f g ms x

  cut-all-marks : (p : Pieces) (ts : Simples) (f g : Bool) (ms : List Mark) → MarkAll f g (cut_all p ts) ms
      → MarkAll f g ts ms
  cut-all-marks p none f g ms x = x
  cut-all-marks p (more t ts) f g ms x =
      (x.0, x.1, x.2, cut-marks p t f g x.0 x.3, cut-all-marks (pieces_after p t) ts f g x.1 x.4)

mutual
  pieced-one : (t : Simple) (f g : Bool) (ms : List Mark) → Marks f g (pieced t) ms → Marks f g t ms
  pieced-one (text s) f g ms x = x
  pieced-one (image address attributes) f g ms x = x
  pieced-one (formula tex is_alone attributes) f g ms x = x
  pieced-one (embedded id address title attributes found) f g ms x = x
  pieced-one (anchor id) f g ms x = x
  pieced-one (element id r facts attributes content) f g ms x =
      inner-marks id r facts attributes (cond (is_link r) (cut_all no_pieces content) (pieced_all content)) content
      (either-marked (is_link r) (cut_all no_pieces content) (pieced_all content) content
      (record {
        say = λ cs z. cut-all-say no_pieces content true false cs z;
        have = λ k l ns z. cut-all-marks no_pieces content k l ns z;
      })
      (record {
        say = λ cs z. pieced-say content true false cs z;
        have = λ k l ns z. pieced-marks content k l ns z;
      })) f g ms x

  pub pieced-marks : (ts : Simples) (f g : Bool) (ms : List Mark) → MarkAll f g (pieced_all ts) ms
      → MarkAll f g ts ms
  pieced-marks none f g ms x = x
  pieced-marks (more t ts) f g ms x = (x.0, x.1, x.2, pieced-one t f g x.0 x.3, pieced-marks ts f g x.1 x.4)
