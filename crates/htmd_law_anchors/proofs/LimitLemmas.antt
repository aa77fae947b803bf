-- What each thing to see says stays when links past the budget are taken away.
use Rattle.std.proofs.Common.{◌≡◌, ℕ, Bool, true, false, cond, not, ◌&&◌, List, [], ◌++◌, refl, ap, ◌∙◌, Option, Some}
use Rattle.std.specs.Prelude.{is_some, nat_lt}
use Rattle.htmd_lexical.specs.AttributePairs.{AttributePair}
use Rattle.htmd_shown.specs.declared.facts.Facts.{Facts}
use Rattle.htmd_shown.specs.declared.role.Role.{Role}
use Rattle.htmd_shown.specs.declared.role.Role.TheVariants as role
use Rattle.htmd_shown.specs.Attributes.{is_filled}
use Rattle.htmd_shown.specs.Marks.{letters_of, letters_among}
use Rattle.htmd_shown.specs.SimpleTrees.{Simple, text, image, formula, embedded, anchor, element, Simples, none, more}
use Rattle.htmd_document_of_tree.specs.Limits.{is_carrying, size, cost, paid, left_after, emptied, within}
use Rattle.htmd_document_of_tree.specs.Limits.{all_within, budget, limited}
use Rattle.htmd_shown.specs.Showings.{code_shows}
use Rattle.htmd_law_documents.specs.SaidTexts.{SayAll}
use Rattle.htmd_law_documents.specs.SimpleTexts.{flat_in, grid_in}
use Rattle.htmd_law_documents.proofs.VisibleLemmas.{both-true}
use Rattle.htmd_law_documents.proofs.ElementLemmas.{false-true}
use Rattle.htmd_law_documents.proofs.SaidLemmas.{all-within-say}
use Rattle.htmd_law_anchors.specs.ShownThings.{thing_if, Shows, ShowAll}
use Rattle.htmd_law_anchors.proofs.PieceMarkLemmas.{by-role-map}

mutual
  within-letters : (left : Option ℕ) (t : Simple) → letters_of (within left t) ≡ letters_of t
  within-letters left (text s) = refl
  within-letters left (image address attributes) = refl
  within-letters left (formula tex is_alone attributes) = refl
  within-letters left (embedded id address title attributes found) = refl
  within-letters left (anchor id) = refl
  within-letters left (element id r facts attributes content) =
      all-within-letters (paid left (cost r facts attributes)) content

  all-within-letters : (left : Option ℕ) (ts : Simples) → letters_among (all_within left ts) ≡ letters_among ts
  all-within-letters left none = refl
  all-within-letters left (more t ts) =
      ap (λ s. s ++ letters_among (all_within (left_after left t) ts)) (within-letters left t)
      ∙ ap (λ s. letters_of t ++ s) (all-within-letters (left_after left t) ts)

abbrev CodeShows : Simples → List (List ℕ) → Type 0
CodeShows content things = (cs : List ℕ) × SayAll true false content cs
    × (things ≡ thing_if (code_shows content) cs)

-- what the new nodes show, the old do
record AreShown (new old : Simples) : Type 0 where
  say : (cs : List ℕ) → SayAll true false new cs → SayAll true false old cs
  code : code_shows new ≡ code_shows old
  show : (f g : Bool) (things : List (List ℕ)) → ShowAll f g new things → ShowAll f g old things

inner-shows : (id : ℕ) (r : Role) (facts : Facts) (attributes : List AttributePair) (new old : Simples)
    → AreShown new old → (f g : Bool) (things : List (List ℕ))
    → Shows f g (element id r facts attributes new) things → Shows f g (element id r facts attributes old) things
inner-shows id r facts attributes new old h f g things x = (
  x.0,
  by-role-map r (CodeShows new things) (things ≡ []) (ShowAll (flat_in r f g) (grid_in r x.0 g) new things)
      (CodeShows old things) (ShowAll (flat_in r f g) (grid_in r x.0 g) old things)
      (λ y. (y.0, h.say y.0 y.1, y.2 ∙ ap (λ b. thing_if b y.0) h.code))
      (λ y. h.show (flat_in r f g) (grid_in r x.0 g) things y) x.1,
)

-- a link without an address, or an abbreviation without a title, shows what it shows with them
emptied-shows : (id : ℕ) (r : Role) (facts : Facts) (attributes : List AttributePair) (content : Simples)
    (f g : Bool) (things : List (List ℕ)) → is_carrying r ≡ true
    → Shows f g (element id (emptied r) facts attributes content) things
    → Shows f g (element id r facts attributes content) things
emptied-shows id role.Link facts attributes content f g things e x = x
emptied-shows id role.Abbreviation facts attributes content f g things e x = x
emptied-shows id r facts attributes content f g things e x = false-true e

element-shows : (b : Bool) (id : ℕ) (r : Role) (facts : Facts) (attributes : List AttributePair) (content : Simples)
    → (b ≡ true → is_carrying r ≡ true) → (f g : Bool) (things : List (List ℕ))
    → Shows f g (element id (cond b (emptied r) r) facts attributes content) things
    → Shows f g (element id r facts attributes content) things
element-shows true id r facts attributes content h f g things x =
    emptied-shows id r facts attributes content f g things (h refl) x
element-shows false id r facts attributes content h f g things x = x

mutual
  within-shows : (left : Option ℕ) (t : Simple) (f g : Bool) (things : List (List ℕ))
      → Shows f g (within left t) things → Shows f g t things
  within-shows left (text s) f g things x = x
  within-shows left (image address attributes) f g things x = x
  within-shows left (formula tex is_alone attributes) f g things x = x
  within-shows left (embedded id address title attributes found) f g things x = x
  within-shows left (anchor id) f g things x = x
  within-shows left (element id r facts attributes content) f g things x =
      let now : Option ℕ = paid left (cost r facts attributes) in
      inner-shows id r facts attributes (all_within now content) content
      (record {
        say = λ cs y. all-within-say now content true false cs y;
        code = ap is_filled (all-within-letters now content);
        show = λ k l us y. all-within-show now content k l us y;
      }) f g things
      (element-shows (not (is_some now) && is_carrying r && nat_lt 0 (size r attributes)) id r facts attributes
      (all_within now content)
      (λ e. (both-true (not (is_some now)) (is_carrying r)
      (both-true (not (is_some now) && is_carrying r) (nat_lt 0 (size r attributes)) e).0).1) f g things x)

  all-within-show : (left : Option ℕ) (ts : Simples) (f g : Bool) (things : List (List ℕ))
      → ShowAll f g (all_within left ts) things → ShowAll f g ts things
  all-within-show left none f g things x = x
  all-within-show left (more t ts) f g things x =
      (x.0, x.1, x.2, within-shows left t f g x.0 x.3, all-within-show (left_after left t) ts f g x.1 x.4)

pub limited-show : (ts : Simples) (f g : Bool) (things : List (List ℕ)) → ShowAll f g (limited ts) things
    → ShowAll f g ts things
limited-show ts f g things x = all-within-show (Some (budget ts)) ts f g things x
