-- What shows stays what normal documents are made of when links are taken away and anchors come in.
use Rattle.std.proofs.Common.{◌≡◌, ℕ, Bool, true, false, cond, not, ◌&&◌, List, [], ◌∷◌, ◌++◌, refl, sym}
use Rattle.std.proofs.Common.{Option, Some, None, subst, filter, ◌⊎◌, inl, inr}
use Rattle.std.specs.Prelude.{is_some, nat_lt, nat_le, ◌+◌, codes}
use Rattle.std.specs.Option.{unwrap_or}
use Rattle.std.specs.Str.{IsUtf8}
use Rattle.htmd_lexical.specs.AttributePairs.{AttributePair}
use Rattle.htmd_shown.specs.declared.role.Role.{Role}
use Rattle.htmd_shown.specs.declared.role.Role.TheVariants as role
use Rattle.htmd_shown.specs.Attributes.{text_of, in_line, is_filled}
use Rattle.htmd_shown.specs.Roles.{is_link, is_verbatim, is_anchor}
use Rattle.htmd_shown.specs.Shown.{followed_by}
use Rattle.htmd_shown.specs.SimpleTrees.{Simple, text, image, formula, embedded, anchor, element, Simples, none, more}
use Rattle.htmd_shown.specs.Spaces.{is_blank_text}
use Rattle.htmd_document.specs.NormalInlines.{is_attribute}
use Rattle.htmd_document_of_tree.specs.declared.anchors.Anchors.{Anchors}
use Rattle.htmd_document_of_tree.specs.declared.anchors.Anchors.TheVariants as which
use Rattle.htmd_document_of_tree.specs.Anchors.{anchors, apart, before, stands_apart, after_anchors}
use Rattle.htmd_document_of_tree.specs.Anchors.{Placing, ids_up_to, targets_past, placed_before, after_leaf}
use Rattle.htmd_document_of_tree.specs.Anchors.{placing_after, placing_after_all, placed, all_placed, values_of}
use Rattle.htmd_document_of_tree.specs.Anchors.{targets_by}
use Rattle.htmd_document_of_tree.specs.Leadings.{all_leadings, is_led_to, is_linked_to}
use Rattle.htmd_document_of_tree.specs.Limits.{size, cost, paid, left_after, within, all_within, budget}
use Rattle.htmd_document_of_tree.specs.Limits.{limited, emptied, is_carrying}
use Rattle.htmd_shown.specs.Showings.{image_shows, code_shows}
use Rattle.htmd_document_of_tree.specs.Seen.{seen}
use Rattle.htmd_document_of_tree.specs.Targets.{Target, target_by, id_target, name_target, whole_in, own_targets}
use Rattle.htmd_document_of_tree.specs.Targets.{targets_inside, targets_among, ids_among, is_first, firsts_after}
use Rattle.htmd_document_of_tree.specs.Targets.{all_targets}
use Rattle.htmd_law_documents.proofs.NormalTextLemmas.{from-not}
use Rattle.htmd_law_documents.proofs.NormalLeafLemmas.{IsId, AllIds}
use Rattle.htmd_law_documents.proofs.NormalValueLemmas.{IsClean, IsBlack, AreTexts, value-text, in_line-id}
use Rattle.htmd_law_documents.proofs.NormalElementLemmas.{IsSource, IsLevel}
use Rattle.htmd_law_documents.proofs.NormalTreeLemmas.{AreIds}
use Rattle.htmd_law_documents.proofs.NormalShownLemmas.{IsClear, AreClear}

-- ---- the budget of links

emptied-level : (b : Bool) → IsLevel (cond b role.Target role.Plain)
emptied-level true = tt
emptied-level false = tt

affordable-level : (b : Bool) (r : Role) → IsLevel r → IsLevel (cond b (emptied r) r)
affordable-level true r h = emptied-level (is_link r)
affordable-level false r h = h

mutual
  within-clear : (left : Option ℕ) (t : Simple) → IsClear t → IsClear (within left t)
  within-clear left (text s) h = h
  within-clear left (image o attributes) h = h
  within-clear left (formula tex is_alone attributes) h = h
  within-clear left (embedded id place title attributes ids) h = h
  within-clear left (anchor id) h = h
  within-clear left (element id r facts attributes content) h =
      let now : Option ℕ = paid left (cost r facts attributes) in (
        h.0,
        affordable-level (not (is_some now) && is_carrying r && nat_lt 0 (size r attributes)) r h.1,
        all-within-clear now content h.2,
      )

  all-within-clear : (left : Option ℕ) (ts : Simples) → AreClear ts → AreClear (all_within left ts)
  all-within-clear left none h = tt
  all-within-clear left (more t ts) h = (within-clear left t h.0, all-within-clear (left_after left t) ts h.1)

pub limited-clear : (ts : Simples) → AreClear ts → AreClear (limited ts)
limited-clear ts h = all-within-clear (Some (budget ts)) ts h

-- ---- targets

-- each has an id in one line
abbrev pub AllNamed : List Target → Type 0
AllNamed [] = Unit {0}
AllNamed (t ∷ targets) = IsId t.value × AllNamed targets

named-append : (xs ys : List Target) → AllNamed xs → AllNamed ys → AllNamed (xs ++ ys)
named-append [] ys g h = h
named-append (x ∷ xs) ys g h = (g.0, named-append xs ys g.1 h)

target-named : (counts : List ℕ → Bool) (n : ℕ) (is_name : Bool) (s : List ℕ) → IsUtf8 s
    → AllNamed (target_by counts n is_name s)
target-named counts n is_name s u = either (is_filled (in_line s)) (counts (in_line s)) (in_line-id s u)
  where
    either : (a b : Bool) → (a ≡ true → IsId (in_line s))
        → AllNamed (cond (a && b) (record { value = in_line s; is_name = is_name; seen = n } ∷ []) [])
    either true true f = (f refl, tt)
    either true false f = tt
    either false b f = tt

if-named : (b : Bool) (xs : List Target) → AllNamed xs → AllNamed (cond b xs [])
if-named true xs h = h
if-named false xs h = tt

module _ (counts : List ℕ → Bool) where
  id-named : (n : ℕ) (attributes : List AttributePair) → AreTexts attributes
      → AllNamed (id_target counts n attributes)
  id-named n attributes a =
      target-named counts n false (text_of (codes "id") attributes) (value-text attributes (codes "id") a)

  own-named : (n : ℕ) (t : Simple) → IsClear t → AllNamed (own_targets counts n t)
  own-named n (text s) h = tt
  own-named n (image o attributes) h = id-named n attributes h.1
  own-named n (formula tex is_alone attributes) h = id-named n attributes h.1
  own-named n (embedded id place title attributes ids) h = id-named n attributes h.4
  own-named n (anchor id) h = tt
  own-named n (element id r facts attributes content) h =
      let name : List ℕ = text_of (codes "name") attributes in
      named-append (id_target counts n attributes) (name_target counts n r attributes) (id-named n attributes h.0)
      (if-named (is_anchor r) (target_by counts n true name)
      (target-named counts n true name (value-text attributes (codes "name") h.0)))

  mutual
    inside-named : (whole : Option ℕ) (n : ℕ) (t : Simple) → IsClear t
        → AllNamed (targets_inside counts whole n t)
    inside-named whole n (text s) h = tt
    inside-named whole n (image o attributes) h = tt
    inside-named whole n (formula tex is_alone attributes) h = tt
    inside-named whole n (embedded id place title attributes ids) h = tt
    inside-named whole n (anchor id) h = tt
    inside-named whole n (element id r facts attributes content) h = among-named (whole_in whole n r) n content h.2

    among-named : (whole : Option ℕ) (n : ℕ) (ts : Simples) → AreClear ts
        → AllNamed (targets_among counts whole n ts)
    among-named whole n none h = tt
    among-named whole n (more t ts) h =
        let own : List Target = own_targets counts (unwrap_or whole n) t in
        let inner : List Target = targets_inside counts whole n t in
        named-append (own ++ inner) (targets_among counts whole (n + seen t) ts)
        (named-append own inner (own-named (unwrap_or whole n) t h.0) (inside-named whole n t h.0))
        (among-named whole (n + seen t) ts h.1)

firsts-named : (ids known : List (List ℕ)) (found : List Target) → AllNamed found
    → AllNamed (firsts_after ids known found)
firsts-named ids known [] h = tt
firsts-named ids known (t ∷ found) h =
    either (is_first ids known t) (firsts-named ids (t.value ∷ known) found h.1) (firsts-named ids known found h.1)
  where
    either : (b : Bool) → AllNamed (firsts_after ids (t.value ∷ known) found)
        → AllNamed (firsts_after ids known found)
        → AllNamed (cond b (t ∷ firsts_after ids (t.value ∷ known) found) (firsts_after ids known found))
    either true f g = (h.0, f)
    either false f g = g

all-named : (counts : List ℕ → Bool) (ts : Simples) → AreClear ts → AllNamed (all_targets counts ts)
all-named counts ts h =
    let found : List Target = targets_among counts None 0 ts in
    firsts-named (ids_among found) [] found (among-named counts None 0 ts h)

filter-named : (p : Target → Bool) (targets : List Target) → AllNamed targets → AllNamed (filter p targets)
filter-named p [] h = tt
filter-named p (t ∷ targets) h = either (p t) (filter-named p targets h.1)
  where
    either : (b : Bool) → AllNamed (filter p targets)
        → AllNamed (cond b (t ∷ filter p targets) (filter p targets))
    either true g = (h.0, g)
    either false g = g

pub targets-named : (w : Anchors) (is_rich : Bool) (ts : Simples) → AreClear ts → AllNamed (targets_by w is_rich ts)
targets-named which.Linked is_rich ts h =
    let leadings = all_leadings is_rich ts in
    filter-named (λ (t : Target). is_led_to leadings t.value t.seen) (all_targets (is_linked_to leadings) ts)
    (all-named (is_linked_to leadings) ts h)
targets-named which.All is_rich ts h = all-named (λ s. true) ts h
targets-named which.None is_rich ts h = tt

-- ---- trees with anchors

-- a leaf that shows in a line
abbrev pub LeafShows : Simple → Type 0
LeafShows (text s) = is_blank_text s ≡ false
LeafShows (image o attributes) = image_shows o attributes ≡ true
LeafShows (formula tex is_alone attributes) = is_alone ≡ false
LeafShows _ = ⊥

-- one that shows as a block, or in a line where all is one line
abbrev pub LeafApart : Simple → Type 0
LeafApart (formula tex is_alone attributes) = is_alone ≡ true
LeafApart (element id r facts attributes content) = (is_verbatim r ≡ true) × (code_shows content ≡ true)
LeafApart _ = ⊥

abbrev mutual
  pub IsPlaced : Simple → Type 0
  IsPlaced (text s) = IsClean s
  IsPlaced (image o attributes) = IsSource o × AreTexts attributes
  IsPlaced (formula tex is_alone attributes) = IsBlack tex
  IsPlaced (embedded id place title attributes ids) =
      (is_attribute place ≡ true) × IsClean title × (is_blank_text title ≡ false) × AllIds ids
  IsPlaced (anchor id) = ⊥
  IsPlaced (element id r facts attributes content) =
      AreTexts attributes × IsLevel r
      × (ArePlaced content ⊎ ((r ≡ role.Plain) × (PlacedLed content ⊎ PlacedApart content)))

  pub ArePlaced : Simples → Type 0
  ArePlaced none = Unit {0}
  ArePlaced (more t ts) = IsPlaced t × ArePlaced ts

  -- anchors, and a leaf
  pub PlacedLed : Simples → Type 0
  PlacedLed none = ⊥
  PlacedLed (more (anchor id) ts) = IsId id × PlacedLed ts
  PlacedLed (more t ts) = IsPlaced t × LeafShows t × (ts ≡ none)

  -- anchors in a paragraph of their own, and a leaf
  pub PlacedApart : Simples → Type 0
  PlacedApart (more (element id role.Anchors facts attributes inner) (more t ts)) =
      AreIds inner × IsPlaced t × LeafApart t × (ts ≡ none)
  PlacedApart _ = ⊥

-- ---- ids

up-to-ids : (n : ℕ) (targets : List Target) → AllNamed targets → AllIds (ids_up_to n targets)
up-to-ids n [] h = tt
up-to-ids n (t ∷ targets) h = either (nat_le t.seen n) (up-to-ids n targets h.1)
  where
    either : (b : Bool) → AllIds (ids_up_to n targets) → AllIds (cond b (t.value ∷ ids_up_to n targets) [])
    either true g = (h.0, g)
    either false g = tt

past-named : (n : ℕ) (targets : List Target) → AllNamed targets → AllNamed (targets_past n targets)
past-named n [] h = tt
past-named n (t ∷ targets) h = either (nat_le t.seen n) (past-named n targets h.1)
  where
    either : (b : Bool) → AllNamed (targets_past n targets)
        → AllNamed (cond b (targets_past n targets) (t ∷ targets))
    either true g = g
    either false g = h

leaf-named : (p : Placing) (shows : Bool) → AllNamed p.targets → AllNamed (after_leaf p shows).targets
leaf-named p true h = past-named p.seen p.targets h
leaf-named p false h = h

either-named : (b : Bool) (p q : Placing) → AllNamed p.targets → AllNamed q.targets
    → AllNamed (cond b p q).targets
either-named true p q g h = g
either-named false p q g h = h

mutual
  after-named : (p : Placing) (t : Simple) → AllNamed p.targets → AllNamed (placing_after p t).targets
  after-named p (text s) h = leaf-named p (not (is_blank_text s)) h
  after-named p (image o attributes) h = leaf-named p (image_shows o attributes) h
  after-named p (formula tex is_alone attributes) h = leaf-named p true h
  after-named p (embedded id place title attributes ids) h = leaf-named p true h
  after-named p (anchor id) h = h
  after-named p (element id r facts attributes content) h =
      either-named (is_verbatim r) (after_leaf p (code_shows content)) (placing_after_all p content)
      (leaf-named p (code_shows content) h) (all-after-named p content h)

  pub all-after-named : (p : Placing) (ts : Simples) → AllNamed p.targets
      → AllNamed (placing_after_all p ts).targets
  all-after-named p none h = h
  all-after-named p (more t ts) h = all-after-named (placing_after p t) ts (after-named p t h)

ids-append : (xs ys : List (List ℕ)) → AllIds xs → AllIds ys → AllIds (xs ++ ys)
ids-append [] ys g h = h
ids-append (x ∷ xs) ys g h = (g.0, ids-append xs ys g.1 h)

pub anchors-ids : (ids : List (List ℕ)) → AllIds ids → AreIds (anchors ids)
anchors-ids [] h = tt
anchors-ids (id ∷ ids) h = (h.0, anchors-ids ids h.1)

-- ---- a leaf with its anchors

pub no-texts : AreTexts []
no-texts name s e = absurd (clash s e)
  where
    clash : (s : List ℕ) → None ≡ Some s → ⊥
    clash s e = (cc)

-- all of anchors and the leaf is plain
led-placed : (ids : List (List ℕ)) (t : Simple) → PlacedLed (followed_by (anchors ids) (more t none))
    → IsPlaced (before (anchors ids) t)
led-placed ids t h = (no-texts, tt, inr (refl, inl h))

led-ids : (ids : List (List ℕ)) (t : Simple) → AllIds ids → PlacedLed (more t none)
    → PlacedLed (followed_by (anchors ids) (more t none))
led-ids [] t a h = h
led-ids (id ∷ ids) t a h = (a.0, led-ids ids t a.1 h)

apart-placed : (ids : List (List ℕ)) (t : Simple) → AllIds ids → IsPlaced t → LeafApart t
    → IsPlaced (before (more (apart (anchors ids)) none) t)
apart-placed ids t a h l = (no-texts, tt, inr (refl, inr (anchors-ids ids a, h, l, refl)))

text-placed : (ids : List (List ℕ)) (s : List ℕ) → AllIds ids → IsClean s → is_blank_text s ≡ false
    → IsPlaced (after_anchors ids (text s))
text-placed [] s a h b = h
text-placed (id ∷ ids) s a h b = led-placed (id ∷ ids) (text s) (led-ids (id ∷ ids) (text s) a (h, b, refl))

image-placed : (ids : List (List ℕ)) (o : Option (List ℕ)) (attributes : List AttributePair) → AllIds ids
    → IsSource o × AreTexts attributes → image_shows o attributes ≡ true
    → IsPlaced (after_anchors ids (image o attributes))
image-placed [] o attributes a h b = h
image-placed (id ∷ ids) o attributes a h b =
    led-placed (id ∷ ids) (image o attributes) (led-ids (id ∷ ids) (image o attributes) a (h, b, refl))

formula-placed : (ids : List (List ℕ)) (tex : List ℕ) (is_alone : Bool) (attributes : List AttributePair)
    → AllIds ids → IsBlack tex → IsPlaced (after_anchors ids (formula tex is_alone attributes))
formula-placed [] tex is_alone attributes a h = h
formula-placed (id ∷ ids) tex true attributes a h = apart-placed (id ∷ ids) (formula tex true attributes) a h refl
formula-placed (id ∷ ids) tex false attributes a h =
    led-placed (id ∷ ids) (formula tex false attributes)
    (led-ids (id ∷ ids) (formula tex false attributes) a (h, refl, refl))

code-placed : (ids : List (List ℕ)) (t : Simple) → stands_apart t ≡ true → AllIds ids → IsPlaced t
    → LeafApart t
    → IsPlaced (after_anchors ids t)
code-placed [] t s a h l = h
code-placed (id ∷ ids) t s a h l =
    subst (λ (b : Bool). IsPlaced (before (cond b (more (apart (anchors (id ∷ ids))) none) (anchors (id ∷ ids)))
    t))
    (sym s) (apart-placed (id ∷ ids) t a h l)

-- ---- all anchors

mutual
  -- what is clear is so as it stands
  clear-placed : (t : Simple) → IsClear t → IsPlaced t
  clear-placed (text s) h = h
  clear-placed (image o attributes) h = h
  clear-placed (formula tex is_alone attributes) h = h.0
  clear-placed (embedded id place title attributes ids) h = (h.0, h.1, h.2, h.3)
  clear-placed (anchor id) h = h
  clear-placed (element id r facts attributes content) h = (h.0, h.1, inl (all-clear-placed content h.2))

  all-clear-placed : (ts : Simples) → AreClear ts → ArePlaced ts
  all-clear-placed none h = tt
  all-clear-placed (more t ts) h = (clear-placed t h.0, all-clear-placed ts h.1)

mutual
  placed-fine : (p : Placing) (t : Simple) → AllNamed p.targets → IsClear t → IsPlaced (placed p t)
  placed-fine p (text s) a h = either (not (is_blank_text s)) refl
    where
      either : (b : Bool) → not (is_blank_text s) ≡ b → IsPlaced (placed_before p b (text s))
      either true e =
          text-placed (ids_up_to p.seen p.targets) s (up-to-ids p.seen p.targets a) h (from-not (is_blank_text s) e)
      either false e = h
  placed-fine p (image o attributes) a h = either (image_shows o attributes) refl
    where
      either : (b : Bool) → image_shows o attributes ≡ b → IsPlaced (placed_before p b (image o attributes))
      either true e =
          image-placed (ids_up_to p.seen p.targets) o attributes (up-to-ids p.seen p.targets a) h e
      either false e = h
  placed-fine p (formula tex is_alone attributes) a h =
      formula-placed (ids_up_to p.seen p.targets) tex is_alone attributes (up-to-ids p.seen p.targets a) h.0
  placed-fine p (embedded id place title attributes ids) a h =
      (h.0, h.1, h.2, ids-append ids (ids_up_to p.seen p.targets) h.3 (up-to-ids p.seen p.targets a))
  placed-fine p (anchor id) a h = h
  placed-fine p (element id r facts attributes content) a h =
      either (is_verbatim r) refl (clear-placed (element id r facts attributes content) h)
      (all-placed-fine p content a h.2)
    where
      t : Simple
      t = element id r facts attributes content

      shown : is_verbatim r ≡ true → IsPlaced t → (b : Bool) → code_shows content ≡ b
          → IsPlaced (placed_before p b t)
      shown v k true e = code-placed (ids_up_to p.seen p.targets) t refl (up-to-ids p.seen p.targets a) k (v, e)
      shown v k false e = k

      either : (b : Bool) → is_verbatim r ≡ b → IsPlaced t → ArePlaced (all_placed p content)
          → IsPlaced (cond b (placed_before p (code_shows content) t)
          (element id r facts attributes (all_placed p content)))
      either true v k l = shown v k (code_shows content) refl
      either false v k l = (h.0, h.1, inl l)

  pub all-placed-fine : (p : Placing) (ts : Simples) → AllNamed p.targets → AreClear ts
      → ArePlaced (all_placed p ts)
  all-placed-fine p none a h = tt
  all-placed-fine p (more t ts) a h =
      (placed-fine p t a h.0, all-placed-fine (placing_after p t) ts (after-named p t a) h.1)

pub values-ids : (targets : List Target) → AllNamed targets → AllIds (values_of targets)
values-ids [] h = tt
values-ids (t ∷ targets) h = (h.0, values-ids targets h.1)
