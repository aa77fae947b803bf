-- Lemmas on anchors before what is seen.
use Rattle.std.proofs.Common.{◌≡◌, ℕ, Bool, true, false, cond, List, [], ◌∷◌, ◌++◌, map, ◌≢◌, Option, Some, None, suc, not}
use Rattle.std.proofs.Common.{refl, sym, ◌∙◌, ap}
use Rattle.std.proofs.Common.{string_bytes, ◌||◌, ◌&&◌, filter, drop, is_some, nat_le}
use Rattle.std.proofs.lemmas.List.{append-nil}
use Rattle.std.specs.Borrow.{Bor}
use Rattle.htmd_lexical.proofs.Cases.{test}
use Rattle.htmd_shown.specs.Attributes.{is_to_part}
use Rattle.htmd_shown.specs.Roles.{is_link}
use Rattle.htmd_document_of_tree.specs.declared.leadings.Around.{Around}
use Rattle.htmd_document_of_tree.specs.declared.leadings.Layout.{Layout}
use Rattle.htmd_document_of_tree.specs.declared.leadings.Leadings.{Leadings}
use Rattle.htmd_document_of_tree.specs.declared.leadings.Span.{Span}
use Rattle.htmd_document_of_tree.specs.Limits.{address_of}
use Rattle.htmd_document_of_tree.specs.Anchors.{apart, apart_if_any, linked_targets, values_of}
use Rattle.htmd_document_of_tree.specs.LeadingViews.{leads_elsewhere, merged, span_to}
use Rattle.htmd_document_of_tree.specs.Leadings.{all_leadings, heading_in, is_flat, is_led_to, is_linked_to}
use Rattle.htmd_document_of_tree.specs.Leadings.{after, around_in, is_written, layout_in, leadings, leadings_among, leadings_if}
use Rattle.htmd_document_of_tree.specs.Leadings.{leads_to_part, lead_to_part, leadings_to, own_leadings, shows_in_link}
use Rattle.htmd_document_of_tree.specs.TargetViews.{counts_of, stays}
use Rattle.htmd_document_of_tree.specs.Targets.{all_targets}
use Rattle.htmd_document_of_tree.proofs.LeadingsLemmas.{is-led, is-linked}
use Rattle.htmd_lexical.specs.AttributePairs.{AttributePair}
use Rattle.htmd_shown.specs.declared.facts.Facts.{Facts}
use Rattle.htmd_shown.specs.declared.role.Role.{Role}
use Rattle.htmd_shown.specs.Kinds.{content_of}
use Rattle.htmd_shown.specs.Roles.{is_verbatim}
use Rattle.htmd_shown.specs.Shown.{followed_by}
use Rattle.htmd_shown.specs.Spaces.{is_blank_text}
use Rattle.htmd_shown.specs.SimpleTrees.{Simple, text, image, formula, embedded, anchor, element, Simples, none, more, simples_of}
use Rattle.htmd_document_of_tree.specs.Anchors.{Placing, placing_after, placing_after_all, placed, all_placed, placed_before, after_leaf, preceded}
use Rattle.htmd_document_of_tree.specs.Anchors.{last_anchors, with_targets, ids_up_to, targets_past, anchors, after_anchors, put_before, is_embedded, with_ids}
use Rattle.htmd_document_of_tree.specs.FirstPieces.{with_content}
use Rattle.std.proofs.Common.{length, arith, ◌==◌}
use Rattle.std.proofs.lemmas.Bool.{true≢false}
use Rattle.htmd_document_of_tree.specs.declared.targets.Target as held
use Rattle.htmd_document_of_tree.specs.TargetViews.{begins_here, target_of}
use Rattle.htmd_document_of_tree.specs.Targets.{Target}
use Rattle.htmd_shown.specs.Showings.{code_shows, image_shows}
use Rattle.htmd_document_of_tree.proofs.WalksLemmas.{walk, gone}

pub placing_after_all-gone : (p : Placing) (ts : List Simple)
    → placing_after_all p (simples_of ts) ≡ gone placing_after p ts
placing_after_all-gone p [] = refl
placing_after_all-gone p (t ∷ ts) = placing_after_all-gone (placing_after p t) ts

pub all_placed-walk : (p : Placing) (ts : List Simple)
    → all_placed p (simples_of ts) ≡ simples_of (walk placed placing_after p ts)
all_placed-walk p [] = refl
all_placed-walk p (t ∷ ts) = ap (λ r. more (placed p t) r) (all_placed-walk (placing_after p t) ts)

-- ---- a leaf, or what has its leaves in it

pub record IsLeaf (p : Placing) (shows : Bool) (t : Simple) : Type 0 where
  pub after : placing_after p t ≡ after_leaf p shows
  pub tree : placed p t ≡ placed_before p shows t

pub record HoldsLeaves (p : Placing) (t : Simple) : Type 0 where
  pub after : placing_after p t ≡ placing_after_all p (content_of t)
  pub tree : placed p t ≡ with_content t (all_placed p (content_of t))

some-same : (a b : Bool) → Some a ≡ Some b → a ≡ b
some-same a b e = cc

leaf-of : (p : Placing) (a b : Bool) (tree : Simple) → Some a ≡ Some b
    → placing_after p tree ≡ after_leaf p a → placed p tree ≡ placed_before p a tree → IsLeaf p b tree
leaf-of p a b tree e f g = record {
  after = f ∙ ap (λ c. after_leaf p c) (some-same a b e);
  tree = g ∙ ap (λ c. placed_before p c tree) (some-same a b e);
}

code-leaf : (p : Placing) (v shows : Bool) (id : ℕ) (role : Role) (facts : Facts) (attributes : List AttributePair)
    (content : Simples) → is_verbatim role ≡ v → cond v (Some (code_shows content)) None ≡ Some shows
    → IsLeaf p shows (element id role facts attributes content)
code-leaf p true shows id role facts attributes content verbatim e =
    leaf-of p (code_shows content) shows (element id role facts attributes content) e
    (rw verbatim refl) (rw verbatim refl)
code-leaf p false shows id role facts attributes content verbatim e = cc

code-inside : (p : Placing) (v : Bool) (id : ℕ) (role : Role) (facts : Facts) (attributes : List AttributePair)
    (content : Simples) → is_verbatim role ≡ v → cond v (Some (code_shows content)) None ≡ None
    → HoldsLeaves p (element id role facts attributes content)
code-inside p true id role facts attributes content verbatim e = cc
code-inside p false id role facts attributes content verbatim e =
    record { after = rw verbatim refl; tree = rw verbatim refl }

-- ---- without targets

append-none : (xs : List (List ℕ)) → xs ++ [] ≡ xs
append-none xs = append-nil xs

-- a placing without targets
abbrev pub from-now : ℕ → Placing
from-now n = record { seen = n; targets = [] }

-- nodes stay as they are, and something more was seen
record IsUnplaced (n m : ℕ) (t : Simple) : Type 0 where
  after : placing_after (from-now n) t ≡ from-now m
  tree : placed (from-now n) t ≡ t

record AreUnplaced (n m : ℕ) (ts : Simples) : Type 0 where
  after : placing_after_all (from-now n) ts ≡ from-now m
  trees : all_placed (from-now n) ts ≡ ts

leaf-unplaced : (n : ℕ) (b : Bool) (t : Simple) → preceded [] t ≡ t
    → placing_after (from-now n) t ≡ after_leaf (from-now n) b
    → placed (from-now n) t ≡ placed_before (from-now n) b t → (m : ℕ) × IsUnplaced n m t
leaf-unplaced n true t e next is = (suc n, record { after = next; tree = is ∙ e })
leaf-unplaced n false t e next is = (n, record { after = next; tree = is })

code-unplaced : (n : ℕ) (v : Bool) (id : ℕ) (role : Role) (facts : Facts) (attributes : List AttributePair)
    (content : Simples) → is_verbatim role ≡ v → ((m : ℕ) × AreUnplaced n m content)
    → (m : ℕ) × IsUnplaced n m (element id role facts attributes content)
code-unplaced n true id role facts attributes content verbatim inner =
    leaf-unplaced n (code_shows content) (element id role facts attributes content) refl (rw verbatim refl)
    (rw verbatim refl)
code-unplaced n false id role facts attributes content verbatim (m, all) = (
  m,
  record {
    after = rw verbatim all.after;
    tree = rw verbatim (ap (λ c. element id role facts attributes c) all.trees);
  },
)

mutual
  unplaced : (n : ℕ) (t : Simple) → (m : ℕ) × IsUnplaced n m t
  unplaced n (text s) = leaf-unplaced n (not (is_blank_text s)) (text s) refl refl refl
  unplaced n (image address attributes) =
      leaf-unplaced n (image_shows address attributes) (image address attributes) refl refl refl
  unplaced n (formula tex is_alone attributes) =
      leaf-unplaced n true (formula tex is_alone attributes) refl refl refl
  unplaced n (embedded id address title attributes found) =
      leaf-unplaced n true (embedded id address title attributes found)
      (ap (λ ids. embedded id address title attributes ids) (append-none found)) refl refl
  unplaced n (anchor id) = (n, record { after = refl; tree = refl })
  unplaced n (element id role facts attributes content) =
      code-unplaced n (is_verbatim role) id role facts attributes content refl (unplaced-all n content)

  unplaced-all : (n : ℕ) (ts : Simples) → (m : ℕ) × AreUnplaced n m ts
  unplaced-all n none = (n, record { after = refl; trees = refl })
  unplaced-all n (more t ts) =
      let (m, one) = unplaced n t in
      let (k, rest) = unplaced-all m ts in (
        k,
        record {
          after = ap (λ p. placing_after_all p ts) one.after ∙ rest.after;
          trees = ap (λ u. more u (all_placed (placing_after (from-now n) t) ts)) one.tree
              ∙ (ap (λ p. more t (all_placed p ts)) one.after ∙ ap (λ us. more t us) rest.trees);
        },
      )

followed-none : (trees : Simples) → followed_by trees none ≡ trees
followed-none none = refl
followed-none (more tree trees) = ap (λ ts. more tree ts) (followed-none trees)

-- nothing changes
pub without-targets : (trees : Simples) → with_targets (from-now 0) trees ≡ trees
without-targets trees =
    let (m, all) = unplaced-all 0 trees in
    ap (λ p. followed_by (all_placed (from-now 0) trees) (last_anchors p.targets)) all.after
    ∙ (followed-none (all_placed (from-now 0) trees) ∙ all.trees)

-- ---- the targets that stand here

-- none stands here
pub here-none : (n : ℕ) (targets : List Target) → begins_here n targets ≡ false
    → (ids_up_to n targets ≡ []) × (targets_past n targets ≡ targets)
here-none n [] e = (refl, refl)
here-none n (t ∷ targets) e = (
  ap (λ b. cond b (t.value ∷ ids_up_to n targets) []) e,
  ap (λ b. cond b (targets_past n targets) (t ∷ targets)) e,
)

-- the first one does
pub here-first : (n : ℕ) (t : Target) (targets : List Target) → begins_here n (t ∷ targets) ≡ true
    → (ids_up_to n (t ∷ targets) ≡ t.value ∷ ids_up_to n targets)
    × (targets_past n (t ∷ targets) ≡ targets_past n targets)
here-first n t targets e = (
  ap (λ b. cond b (t.value ∷ ids_up_to n targets) []) e,
  ap (λ b. cond b (targets_past n targets) (t ∷ targets)) e,
)

-- the first one in the source
pub next-here : (n : ℕ) (xs ys : List held.Target) (x : held.Target) → xs ≡ x ∷ ys
    → begins_here n (map target_of xs) ≡ true
    → (ids_up_to n (map target_of xs) ≡ string_bytes x.value ∷ ids_up_to n (map target_of ys))
    × (targets_past n (map target_of ys) ≡ targets_past n (map target_of xs))
next-here n xs ys x e h =
    let begins : begins_here n (target_of x ∷ map target_of ys) ≡ true =
    sym (ap (λ zs. begins_here n (map target_of zs)) e) ∙ h in
    let first = here-first n (target_of x) (map target_of ys) begins in (
      ap (λ zs. ids_up_to n (map target_of zs)) e ∙ first.0,
      sym (ap (λ zs. targets_past n (map target_of zs)) e ∙ first.1),
    )

pub begins-none : (n : ℕ) (xs : List held.Target) → length xs ≡ 0 → begins_here n (map target_of xs) ≡ false
begins-none n [] e = refl
begins-none n (x ∷ xs) e = absurd (omega arith)

-- ---- lists of no length

pub no-items : {X : Type 0} (xs : List X) → length xs ≡ 0 → xs ≡ []
no-items [] e = refl
no-items (x ∷ xs) e = absurd (omega arith)

pub some-items : {X V : Type 0} (view : X → V) (xs : List X) (vs : List V) → map view xs ≡ vs
    → (length xs == 0) ≡ false → vs ≢ []
some-items view [] vs e h empty = absurd (true≢false h)
some-items view (x ∷ xs) vs e h empty = let never : view x ∷ map view xs ≡ [] = e ∙ empty in cc

-- ---- anchors

pub anchors-map : (ids : List (List ℕ)) → anchors ids ≡ simples_of (map anchor ids)
anchors-map [] = refl
anchors-map (id ∷ ids) = ap (λ ts. more (anchor id) ts) (anchors-map ids)

-- no anchors, no change
pub after-none : (ids : List (List ℕ)) (tree : Simple) → map anchor ids ≡ [] → tree ≡ after_anchors ids tree
after-none [] tree e = refl
after-none (id ∷ ids) tree e = cc

pub after-some : (ids : List (List ℕ)) (tree : Simple) → map anchor ids ≢ []
    → put_before (simples_of (map anchor ids)) tree ≡ after_anchors ids tree
after-some [] tree e = absurd (e refl)
after-some (id ∷ ids) tree e = ap (λ found. put_before found tree) (sym (anchors-map (id ∷ ids)))

-- no ids stand here
pub none-past : (n : ℕ) (targets : List Target) → ids_up_to n targets ≡ [] → targets ≡ targets_past n targets
none-past n [] e = refl
none-past n (t ∷ targets) e = test (nat_le t.seen n)
    (λ h.
    let never : t.value ∷ ids_up_to n targets ≡ [] =
    sym (ap (λ b. cond b (t.value ∷ ids_up_to n targets) []) h) ∙ e in
    cc)
    (λ h. sym (ap (λ b. cond b (targets_past n targets) (t ∷ targets)) h))

-- those that nothing follows
pub apart-last : (targets : List Target)
    → simples_of (apart_if_any (map anchor (values_of targets))) ≡ last_anchors targets
apart-last [] = refl
apart-last (t ∷ targets) =
    ap (λ found. more (apart found) none) (sym (anchors-map (values_of (t ∷ targets))))

pub followed-append : (xs ys : List Simple) → simples_of (xs ++ ys) ≡ followed_by (simples_of xs) (simples_of ys)
followed-append [] ys = refl
followed-append (x ∷ xs) ys = ap (λ ts. more x ts) (followed-append xs ys)

-- all anchors are put into nodes
pub all-put : (p after : Placing) (trees : Simples) (inside last all : List Simple)
    → all ≡ inside ++ apart_if_any last
    → simples_of inside ≡ all_placed p trees → last ≡ map anchor (values_of after.targets)
    → after ≡ placing_after_all p trees → simples_of all ≡ with_targets p trees
all-put p after trees inside last all e put ids next =
    ap simples_of e
    ∙ (followed-append inside (apart_if_any last)
    ∙ (ap (λ ts. followed_by ts (simples_of (apart_if_any last))) put
    ∙ (ap (λ found. followed_by (all_placed p trees) (simples_of (apart_if_any found))) ids
    ∙ (ap (λ ts. followed_by (all_placed p trees) ts) (apart-last after.targets)
    ∙ ap (λ q. followed_by (all_placed p trees) (last_anchors q.targets)) next))))

-- ---- which anchors

filter-all : (targets : List Target) → filter (stays None) targets ≡ targets
filter-all [] = refl
filter-all (t ∷ targets) = ap (λ r. t ∷ r) (filter-all targets)

-- all
pub all-stay : (trees : Simples)
    → filter (stays None) (all_targets (counts_of None) trees) ≡ all_targets (λ s. true) trees
all-stay trees = filter-all (all_targets (counts_of None) trees)

filter-none : (p : Target → Bool) → ((t : Target) → p t ≡ false) → (targets : List Target)
    → filter p targets ≡ []
filter-none p h [] = refl
filter-none p h (t ∷ targets) =
    ap (λ b. cond b (t ∷ filter p targets) (filter p targets)) (h t) ∙ filter-none p h targets

-- those that links lead to
pub linked-stay : (is_rich : Bool) (found : Bor Leadings) (trees : Simples)
    → ((s : List ℕ) → span_to found.now s ≡ merged None s (all_leadings is_rich trees))
    → filter (stays (Some found)) (all_targets (counts_of (Some found)) trees)
    ≡ linked_targets (all_leadings is_rich trees) trees
linked-stay is_rich found trees h =
    let leadings = all_leadings is_rich trees in
    let counts : counts_of (Some found) ≡ is_linked_to leadings =
    λ i s. (ap is_some (h s) ∙ is-linked s leadings) i in
    let stay : stays (Some found) ≡ (λ (t : Target). is_led_to leadings t.value t.seen) =
    λ i t. (ap (λ o. leads_elsewhere o t.seen) (h t.value) ∙ is-led t.value t.seen leadings) i in
    ap (λ f. filter (stays (Some found)) (all_targets f trees)) counts
    ∙ ap (λ f. filter f (all_targets (is_linked_to leadings) trees)) stay

-- none, where no link leads to a part of the page
pub none-led : (is_rich : Bool) (found : Leadings) (trees : Simples)
    → ((s : List ℕ) → span_to found s ≡ merged None s (all_leadings is_rich trees))
    → ((s : List ℕ) → span_to found s ≡ None) → linked_targets (all_leadings is_rich trees) trees ≡ []
none-led is_rich found trees h empty =
    let leadings = all_leadings is_rich trees in
    filter-none (λ t. is_led_to leadings t.value t.seen)
    (λ t. sym (is-led t.value t.seen leadings)
    ∙ ap (λ o. leads_elsewhere o t.seen) (sym (h t.value) ∙ empty t.value))
    (all_targets (is_linked_to leadings) trees)

neither : (a b : Bool) → (a || b) ≡ false → (a ≡ false) × (b ≡ false)
neither true b e = cc
neither false b e = (refl, e)

not-both : (link shows part : Bool) → (link && part) ≡ false → ((link && shows) && part) ≡ false
not-both true true part e = e
not-both true false part e = refl
not-both false shows part e = refl

if-none : (inner written : Bool) (heading : Option Span) (attributes : List AttributePair)
    → (written && is_to_part (address_of attributes)) ≡ false
    → leadings_if (inner && written) heading attributes ≡ []
if-none true true heading attributes e =
    ap (λ b. cond b (leadings_to heading (drop 1 (address_of attributes))) []) e
if-none true false heading attributes e = refl
if-none false written heading attributes e = refl

mutual
  leads-nowhere : (around : Around) (flat : Bool) (tree : Simple) → leads_to_part tree ≡ false
      → leadings around flat tree ≡ []
  leads-nowhere around flat (text s) e = refl
  leads-nowhere around flat (image address attributes) e = refl
  leads-nowhere around flat (formula tex is_alone attributes) e = refl
  leads-nowhere around flat (embedded id address title attributes found) e = refl
  leads-nowhere around flat (anchor id) e = refl
  leads-nowhere around flat (element id role facts attributes content) e =
      let parts = neither (is_link role && is_to_part (address_of attributes)) (lead_to_part content) e in
      let written = is_written around.is_rich flat role attributes content in
      let own = own_leadings around written role attributes content in
      let rest = leadings_among (around_in around flat written role content)
      (layout_in around.is_rich flat role content) content in
      let no_own : own ≡ [] = if-none (not around.is_linked) written
      (heading_in around.heading around.seen role content) attributes
      (not-both (is_link role) (shows_in_link around.is_rich (layout_in around.is_rich flat role content) attributes
      content)
      (is_to_part (address_of attributes)) parts.0) in
      let nothing : own ++ rest ≡ [] = ap (λ found. found ++ rest) no_own
      ∙ lead-nowhere (around_in around flat written role content) (layout_in around.is_rich flat role content) content
      parts.1 in
      test (is_verbatim role)
      (λ h. ap (λ b. cond b [] (own ++ rest)) h)
      (λ h. ap (λ b. cond b [] (own ++ rest)) h ∙ nothing)

  lead-nowhere : (around : Around) (beside : Layout) (trees : Simples) → lead_to_part trees ≡ false
      → leadings_among around beside trees ≡ []
  lead-nowhere around beside none e = refl
  lead-nowhere around beside (more tree trees) e =
      let parts = neither (leads_to_part tree) (lead_to_part trees) e in
      ap (λ found. found ++ leadings_among (after around tree) beside trees)
      (leads-nowhere around (is_flat beside tree) tree parts.0)
      ∙ lead-nowhere (after around tree) beside trees parts.1

pub none-linked : (is_rich : Bool) (trees : Simples) → lead_to_part trees ≡ false
    → linked_targets (all_leadings is_rich trees) trees ≡ []
none-linked is_rich trees e =
    ap (λ leadings. linked_targets leadings trees) (lead-nowhere _ _ trees e)
    ∙ filter-none (λ t. is_led_to [] t.value t.seen) (λ t. refl) (all_targets (is_linked_to []) trees)

-- ---- what stands before a leaf

pub preceded-embedded : (ids : List (List ℕ)) (tree : Simple) → is_embedded tree ≡ true
    → with_ids ids tree ≡ preceded ids tree
preceded-embedded ids tree e = sym (ap (λ b. cond b (with_ids ids tree) (after_anchors ids tree)) e)

pub preceded-other : (ids : List (List ℕ)) (tree : Simple) → is_embedded tree ≡ false
    → after_anchors ids tree ≡ preceded ids tree
preceded-other ids tree e = sym (ap (λ b. cond b (with_ids ids tree) (after_anchors ids tree)) e)
