-- In each heading and title of what the document is made of all anchors come before the first thing to see.
use Rattle.std.proofs.Common.{◌≡◌, ℕ, suc, ◌+◌, ◌≤◌, Bool, true, false, cond, not, ◌&&◌, ◌||◌, List, [], ◌∷◌, ◌++◌}
use Rattle.std.proofs.Common.{refl, sym, ap, ◌∙◌, subst, arith, inl, inr}
use Rattle.std.specs.Prelude.{◌⊎◌, nat_le, nat_lt}
use Rattle.std.proofs.lemmas.Bool.{false≢true}
use Rattle.std.proofs.lemmas.Bool.Decides.{nat_tests}
use Rattle.htmd_shown.specs.Pieces.{Pieces, no_pieces, is_unseen, after_leaf, at_edge, pieces_after}
use Rattle.htmd_shown.specs.Roles.{is_headed, is_link, is_line_break, is_thematic_break, is_verbatim}
use Rattle.htmd_shown.specs.Shown.{followed_by}
use Rattle.htmd_shown.specs.Showings.{image_shows, code_shows, shows, show}
use Rattle.htmd_shown.specs.SimpleTrees.{Simple, text, image, formula, embedded, anchor, element, Simples, none, more}
use Rattle.htmd_shown.specs.Spaces.{is_blank_text}
use Rattle.htmd_document_of_tree.specs.declared.anchors.Anchors.{Anchors}
use Rattle.htmd_document_of_tree.specs.Anchors as tree
use Rattle.htmd_document_of_tree.specs.Anchors.{anchors, apart, stands_apart, after_anchors, preceded, Placing}
use Rattle.htmd_document_of_tree.specs.Anchors.{ids_up_to}
use Rattle.htmd_document_of_tree.specs.Anchors.{targets_past, placed_before, placing_after, placing_after_all, placed}
use Rattle.htmd_document_of_tree.specs.Anchors.{all_placed, targets_by}
use Rattle.htmd_document_of_tree.specs.FirstPieces.{most_linked, unlinked, cut_leaf, cut, cut_all, pieced, pieced_all}
use Rattle.htmd_document_of_tree.specs.Seen.{one_if, seen, all_seen}
use Rattle.htmd_document_of_tree.specs.Targets.{Target}
use Rattle.htmd_law_anchors.proofs.PlacedLemmas.{IsBare, AreBare}
use Rattle.htmd_law_anchors.proofs.ShowKeptLemmas.{all-cut-shows, all-pieced-shows}
use Rattle.htmd_law_anchors.proofs.TargetLemmas.{Climbs, le-trans, le-itself, AreTargets, targets-good}
use Rattle.htmd_law_anchors.proofs.TruthLemmas.{or-none}
use Rattle.htmd_law_documents.proofs.ElementLemmas.{true-false}
use Rattle.htmd_law_settled.proofs.PlacesBeside.{AllTargets, all-targets, either-targets, first-within, rest-within}
use Rattle.htmd_law_settled.proofs.PlacesBeside.{Beside, BesideAll, targets-beside}

abbrev mutual
  -- no anchor stands in it behind something to see; shown: something was before it
  pub Early : Bool → Simple → Type 0
  Early shown (text s) = Unit {0}
  Early shown (image address attributes) = Unit {0}
  Early shown (formula tex is_alone attributes) = Unit {0}
  Early shown (embedded id address title attributes ids) = shown ≡ true → ids ≡ []
  Early shown (anchor id) = shown ≡ false
  Early shown (element id r facts attributes content) = AllEarly shown content

  pub AllEarly : Bool → Simples → Type 0
  AllEarly shown none = Unit {0}
  AllEarly shown (more t ts) = Early shown t × AllEarly (shown || shows true t) ts

abbrev mutual
  -- so it is in each heading and title
  pub HasEarly : Simple → Type 0
  HasEarly (element id r facts attributes content) =
      (is_headed r ≡ true → AllEarly false content) × HaveEarly content
  HasEarly t = Unit {0}

  pub HaveEarly : Simples → Type 0
  HaveEarly none = Unit {0}
  HaveEarly (more t ts) = HasEarly t × HaveEarly ts

-- ---- where there are no anchors

mutual
  bare-early : (b : Bool) (t : Simple) → IsBare t → Early b t
  bare-early b (text s) h = tt
  bare-early b (image address attributes) h = tt
  bare-early b (formula tex is_alone attributes) h = tt
  bare-early b (embedded id address title attributes ids) h = λ e. h
  bare-early b (anchor id) h = true-false h
  bare-early b (element id r facts attributes content) h = all-bare-early b content h

  all-bare-early : (b : Bool) (ts : Simples) → AreBare ts → AllEarly b ts
  all-bare-early b none h = tt
  all-bare-early b (more t ts) h = (bare-early b t h.0, all-bare-early (b || shows true t) ts h.1)

mutual
  bare-has : (t : Simple) → IsBare t → HasEarly t
  bare-has (text s) h = tt
  bare-has (image address attributes) h = tt
  bare-has (formula tex is_alone attributes) h = tt
  bare-has (embedded id address title attributes ids) h = tt
  bare-has (anchor id) h = tt
  bare-has (element id r facts attributes content) h = (λ e. all-bare-early false content h, bare-have content h)

  bare-have : (ts : Simples) → AreBare ts → HaveEarly ts
  bare-have none h = tt
  bare-have (more t ts) h = (bare-has t h.0, bare-have ts h.1)

-- ---- anchors before a leaf

followed-unseen : (ids : List (List ℕ)) (ts : Simples) → show true (followed_by (anchors ids) ts) ≡ show true ts
followed-unseen [] ts = refl
followed-unseen (id ∷ ids) ts = followed-unseen ids ts

ids-unseen : (ids : List (List ℕ)) → show true (anchors ids) ≡ false
ids-unseen [] = refl
ids-unseen (id ∷ ids) = ids-unseen ids

abbrev front : Bool → List (List ℕ) → Simples
front b ids = cond b (more (apart (anchors ids)) none) (anchors ids)

front-unseen : (b : Bool) (ids : List (List ℕ)) (ts : Simples)
    → show true (followed_by (front b ids) ts) ≡ show true ts
front-unseen true ids ts = ap (λ x. x || show true ts) (ids-unseen ids)
front-unseen false ids ts = followed-unseen ids ts

ids-early : (ids : List (List ℕ)) (ts : Simples) → AllEarly false ts
    → AllEarly false (followed_by (anchors ids) ts)
ids-early [] ts h = h
ids-early (id ∷ ids) ts h = (refl, ids-early ids ts h)

all-ids-early : (ids : List (List ℕ)) → AllEarly false (anchors ids)
all-ids-early [] = tt
all-ids-early (id ∷ ids) = (refl, all-ids-early ids)

front-early : (b : Bool) (ids : List (List ℕ)) (ts : Simples) → AllEarly false ts
    → AllEarly false (followed_by (front b ids) ts)
front-early true ids ts h =
    (all-ids-early ids, subst (λ (x : Bool). AllEarly x ts) (sym (ids-unseen ids)) h)
front-early false ids ts h = ids-early ids ts h

ids-have : (ids : List (List ℕ)) (ts : Simples) → HaveEarly ts → HaveEarly (followed_by (anchors ids) ts)
ids-have [] ts h = h
ids-have (id ∷ ids) ts h = (tt, ids-have ids ts h)

all-ids-have : (ids : List (List ℕ)) → HaveEarly (anchors ids)
all-ids-have [] = tt
all-ids-have (id ∷ ids) = (tt, all-ids-have ids)

front-have : (b : Bool) (ids : List (List ℕ)) (ts : Simples) → HaveEarly ts
    → HaveEarly (followed_by (front b ids) ts)
front-have true ids ts h = ((λ e. absurd (false≢true e), all-ids-have ids), h)
front-have false ids ts h = ids-have ids ts h

after-shows : (ids : List (List ℕ)) (t : Simple) → shows true (after_anchors ids t) ≡ shows true t
after-shows [] t = refl
after-shows (id ∷ ids) t = front-unseen (stands_apart t) (id ∷ ids) (more t none) ∙ or-none (shows true t)

after-early : (ids : List (List ℕ)) (t : Simple) (b : Bool) → IsBare t → (b ≡ true → ids ≡ [])
    → Early b (after_anchors ids t)
after-early [] t b h e = bare-early b t h
after-early (id ∷ ids) t true h e = absurd (some (e refl))
  where
    some : id ∷ ids ≡ [] → ⊥
    some q = cc
after-early (id ∷ ids) t false h e =
    front-early (stands_apart t) (id ∷ ids) (more t none) (bare-early false t h, tt)

after-has : (ids : List (List ℕ)) (t : Simple) → IsBare t → HasEarly (after_anchors ids t)
after-has [] t h = bare-has t h
after-has (id ∷ ids) t h =
    (λ e. absurd (false≢true e), front-have (stands_apart t) (id ∷ ids) (more t none) (bare-has t h, tt))

nothing-more : (found : List (List ℕ)) (ids : List (List ℕ)) → found ≡ [] → ids ≡ [] → found ++ ids ≡ []
nothing-more found ids e f = ap (λ x. x ++ ids) e ∙ f

preceded-shows : (ids : List (List ℕ)) (t : Simple) → IsBare t → shows true (preceded ids t) ≡ shows true t
preceded-shows ids (text s) h = after-shows ids (text s)
preceded-shows ids (image address attributes) h = after-shows ids (image address attributes)
preceded-shows ids (formula tex is_alone attributes) h = after-shows ids (formula tex is_alone attributes)
preceded-shows ids (embedded id address title attributes found) h = refl
preceded-shows ids (anchor id) h = true-false h
preceded-shows ids (element id r facts attributes content) h =
    after-shows ids (element id r facts attributes content)

preceded-early : (ids : List (List ℕ)) (t : Simple) (b : Bool) → IsBare t → (b ≡ true → ids ≡ [])
    → Early b (preceded ids t)
preceded-early ids (text s) b h e = after-early ids (text s) b h e
preceded-early ids (image address attributes) b h e = after-early ids (image address attributes) b h e
preceded-early ids (formula tex is_alone attributes) b h e =
    after-early ids (formula tex is_alone attributes) b h e
preceded-early ids (embedded id address title attributes found) b h e = λ q. nothing-more found ids h (e q)
preceded-early ids (anchor id) b h e = true-false h
preceded-early ids (element id r facts attributes content) b h e =
    after-early ids (element id r facts attributes content) b h e

preceded-has : (ids : List (List ℕ)) (t : Simple) → IsBare t → HasEarly (preceded ids t)
preceded-has ids (text s) h = after-has ids (text s) h
preceded-has ids (image address attributes) h = after-has ids (image address attributes) h
preceded-has ids (formula tex is_alone attributes) h = after-has ids (formula tex is_alone attributes) h
preceded-has ids (embedded id address title attributes found) h = tt
preceded-has ids (anchor id) h = true-false h
preceded-has ids (element id r facts attributes content) h =
    after-has ids (element id r facts attributes content) h

-- ---- the targets that are left

past-keeps : (P : Target → Type 0) (n : ℕ) (us : List Target) → AllTargets P us
    → AllTargets P (targets_past n us)
past-keeps P n [] h = tt
past-keeps P n (u ∷ us) h =
    either-targets P (nat_le u.seen n) (targets_past n us) (u ∷ us) (past-keeps P n us h.1) h

-- their places never go back
abbrev Rises : List Target → Type 0
Rises us = (m : ℕ) × (n : ℕ) × Climbs m n us

past-rises : (n : ℕ) (us : List Target) → Rises us → Rises (targets_past n us)
past-rises n [] h = h
past-rises n (u ∷ us) h = by (nat_le u.seen n) (past-rises n us (u.seen, h.1, h.2.1))
  where
    by : (b : Bool) → Rises (targets_past n us) → Rises (cond b (targets_past n us) (u ∷ us))
    by true k = k
    by false k = h

-- their place is past what comes here: behind it, or if nothing showed yet, before it
abbrev Beyond : ℕ → ℕ → Bool → Target → Type 0
Beyond n until true u = until ≤ u.seen
Beyond n until false u = (u.seen ≤ n) ⊎ (until ≤ u.seen)

beyond-less : (n until : ℕ) (b c : Bool) (u : Target) → (b ≡ true → c ≡ true) → Beyond n until c u
    → Beyond n until b u
beyond-less n until true true u e h = h
beyond-less n until true false u e h = absurd (false≢true (e refl))
beyond-less n until false true u e h = inr h
beyond-less n until false false u e h = h

not-yet : (m n until : ℕ) → suc n ≤ until → until ≤ m → nat_le m n ≡ false
not-yet m n until g h = grind (arith, nat_tests)

is-past : (m n until : ℕ) → nat_le m n ≡ false → m ≤ n → ⊥
is-past m n until g h = grind (arith, nat_tests)

none-here : (n until : ℕ) → suc n ≤ until → (us : List Target) → AllTargets (λ u. until ≤ u.seen) us
    → ids_up_to n us ≡ []
none-here n until g [] h = refl
none-here n until g (u ∷ us) h =
    ap (λ b. cond b (u.value ∷ ids_up_to n us) []) (not-yet u.seen n until g h.0)

all-from : (until m n : ℕ) (us : List Target) → until ≤ m → Climbs m n us
    → AllTargets (λ u. until ≤ u.seen) us
all-from until m n [] g h = tt
all-from until m n (u ∷ us) g h =
    let k = le-trans until m u.seen g h.0 in (k, all-from until u.seen n us k h.1)

past-beyond : (n until : ℕ) (us : List Target) → Rises us → AllTargets (Beyond n until false) us
    → AllTargets (λ u. until ≤ u.seen) (targets_past n us)
past-beyond n until [] c h = tt
past-beyond n until (u ∷ us) c h =
    by (nat_le u.seen n) refl (past-beyond n until us (u.seen, c.1, c.2.1) h.1)
  where
    here : nat_le u.seen n ≡ false → until ≤ u.seen
    here e = elim h.0 [ inl x ↦ absurd (is-past u.seen n until e x) | inr x ↦ x ]

    by : (b : Bool) → nat_le u.seen n ≡ b → AllTargets (λ u. until ≤ u.seen) (targets_past n us)
        → AllTargets (λ u. until ≤ u.seen) (cond b (targets_past n us) (u ∷ us))
    by true e k = k
    by false e k = (here e, all-from until u.seen c.1 us (here e) c.2.1)

abbrev Left : ℕ → Bool → Placing → Type 0
Left until b p = AllTargets (Beyond p.seen until b) p.targets × Rises p.targets

left-less : (until : ℕ) (b c : Bool) (p : Placing) → (b ≡ true → c ≡ true) → Left until c p
    → Left until b p
left-less until b c p e h = (
  all-targets (Beyond p.seen until c) (Beyond p.seen until b) (λ u x. beyond-less p.seen until b c u e x) p.targets
      h.0,
  h.1,
)

-- after a leaf, of which something shows or not
leaf-left : (until : ℕ) (b k : Bool) (p : Placing) → Left until b p → Left until (b || k) (tree.after_leaf p k)
leaf-left until true true p h =
    (past-keeps (λ u. until ≤ u.seen) p.seen p.targets h.0, past-rises p.seen p.targets h.1)
leaf-left until true false p h = h
leaf-left until false true p h =
    (past-beyond p.seen until p.targets h.1 h.0, past-rises p.seen p.targets h.1)
leaf-left until false false p h = h

leaf-ids : (until : ℕ) (b : Bool) (p : Placing) → p.seen + 1 ≤ until → Left until b p → b ≡ true
    → ids_up_to p.seen p.targets ≡ []
leaf-ids until true p g h e = none-here p.seen until (one-more p.seen until g) p.targets h.0
  where
    one-more : (n m : ℕ) → n + 1 ≤ m → suc n ≤ m
    one-more n m q = omega arith
leaf-ids until false p g h e = absurd (false≢true e)

-- ---- what is to see

leaf-seen : (p : Placing) (k : Bool) → (tree.after_leaf p k).seen ≡ p.seen + one_if k
leaf-seen p true = one p.seen
  where
    one : (n : ℕ) → suc n ≡ n + 1
    one n = omega arith
leaf-seen p false = none_more p.seen
  where
    none_more : (n : ℕ) → n ≡ n + 0
    none_more n = omega arith

mutual
  after-seen : (p : Placing) (t : Simple) → (placing_after p t).seen ≡ p.seen + seen t
  after-seen p (text s) = leaf-seen p (not (is_blank_text s))
  after-seen p (image address attributes) = leaf-seen p (image_shows address attributes)
  after-seen p (formula tex is_alone attributes) = leaf-seen p true
  after-seen p (embedded id address title attributes ids) = leaf-seen p true
  after-seen p (anchor id) = leaf-seen p false
  after-seen p (element id r facts attributes content) = by (is_verbatim r) (all-after-seen p content)
    where
      by : (v : Bool) → (placing_after_all p content).seen ≡ p.seen + all_seen content
          → (cond v (tree.after_leaf p (code_shows content)) (placing_after_all p content)).seen
          ≡ p.seen + cond v (one_if (code_shows content)) (all_seen content)
      by true e = leaf-seen p (code_shows content)
      by false e = e

  all-after-seen : (p : Placing) (ts : Simples) → (placing_after_all p ts).seen ≡ p.seen + all_seen ts
  all-after-seen p none = leaf-seen p false
  all-after-seen p (more t ts) =
      all-after-seen (placing_after p t) ts
      ∙ (ap (λ n. n + all_seen ts) (after-seen p t) ∙ assoc p.seen (seen t) (all_seen ts))
    where
      assoc : (l m n : ℕ) → (l + m) + n ≡ l + (m + n)
      assoc l m n = omega arith

-- what stays where some are taken from the front
module _ (P : List Target → Type 0) (keeps : (n : ℕ) (us : List Target) → P us → P (targets_past n us)) where
  leaf-keeps : (p : Placing) (k : Bool) → P p.targets → P (tree.after_leaf p k).targets
  leaf-keeps p true h = keeps p.seen p.targets h
  leaf-keeps p false h = h

  mutual
    after-keeps : (p : Placing) (t : Simple) → P p.targets → P (placing_after p t).targets
    after-keeps p (text s) h = leaf-keeps p (not (is_blank_text s)) h
    after-keeps p (image address attributes) h = leaf-keeps p (image_shows address attributes) h
    after-keeps p (formula tex is_alone attributes) h = leaf-keeps p true h
    after-keeps p (embedded id address title attributes ids) h = leaf-keeps p true h
    after-keeps p (anchor id) h = h
    after-keeps p (element id r facts attributes content) h =
        by (is_verbatim r) (all-after-keep p content h)
      where
        by : (v : Bool) → P (placing_after_all p content).targets
            → P (cond v (tree.after_leaf p (code_shows content)) (placing_after_all p content)).targets
        by true k = leaf-keeps p (code_shows content) h
        by false k = k

    all-after-keep : (p : Placing) (ts : Simples) → P p.targets → P (placing_after_all p ts).targets
    all-after-keep p none h = h
    all-after-keep p (more t ts) h = all-after-keep (placing_after p t) ts (after-keeps p t h)

-- ---- in one of them

-- a node with its anchors, and those that are left
record Placed (until : ℕ) (b : Bool) (p : Placing) (t : Simple) : Type 0 where
  is_early : Early b (placed p t)
  same : shows true (placed p t) ≡ shows true t
  left : Left until (b || shows true t) (placing_after p t)

record AllPlaced (until : ℕ) (b : Bool) (p : Placing) (ts : Simples) : Type 0 where
  are_early : AllEarly b (all_placed p ts)
  all_same : show true (all_placed p ts) ≡ show true ts
  all_left : Left until (b || show true ts) (placing_after_all p ts)

leaf-early : (until : ℕ) (b k : Bool) (p : Placing) (t : Simple) → IsBare t → p.seen + one_if k ≤ until
    → Left until b p → Early b (placed_before p k t)
leaf-early until b true p t h g l =
    preceded-early (ids_up_to p.seen p.targets) t b h (leaf-ids until b p g l)
leaf-early until b false p t h g l = bare-early b t h

leaf-shows : (k : Bool) (p : Placing) (t : Simple) → IsBare t → shows true (placed_before p k t) ≡ shows true t
leaf-shows true p t h = preceded-shows (ids_up_to p.seen p.targets) t h
leaf-shows false p t h = refl

mutual
  tree-placed : (until : ℕ) (b : Bool) (p : Placing) (t : Simple) → IsBare t → p.seen + seen t ≤ until
      → Left until b p → Placed until b p t
  tree-placed until b p (text s) h g l =
      let k : Bool = not (is_blank_text s) in record {
        is_early = leaf-early until b k p (text s) h g l;
        same = leaf-shows k p (text s) h;
        left = leaf-left until b k p l;
      }
  tree-placed until b p (image address attributes) h g l =
      let k : Bool = image_shows address attributes in record {
        is_early = leaf-early until b k p (image address attributes) h g l;
        same = leaf-shows k p (image address attributes) h;
        left = leaf-left until b k p l;
      }
  tree-placed until b p (formula tex is_alone attributes) h g l = record {
    is_early = leaf-early until b true p (formula tex is_alone attributes) h g l;
    same = leaf-shows true p (formula tex is_alone attributes) h;
    left = leaf-left until b true p l;
  }
  tree-placed until b p (embedded id address title attributes ids) h g l = record {
    is_early = leaf-early until b true p (embedded id address title attributes ids) h g l;
    same = leaf-shows true p (embedded id address title attributes ids) h;
    left = leaf-left until b true p l;
  }
  tree-placed until b p (anchor id) h g l = true-false h
  tree-placed until b p (element id r facts attributes content) h g l =
      by (is_verbatim r) (is_thematic_break r) refl refl (λ q. all-placed-early until b p content h q l) g
    where
      t : Simple
      t = element id r facts attributes content

      inner : Simples
      inner = all_placed p content

      here : (v k : Bool) → Simples → Bool
      here v k ts = cond v (code_shows content) (cond k false (show true ts))

      -- what an element shows is what is in it, but for a code block
      by : (v k : Bool) → is_verbatim r ≡ v → is_thematic_break r ≡ k
          → (p.seen + all_seen content ≤ until → AllPlaced until b p content)
          → p.seen + cond v (one_if (code_shows content)) (all_seen content) ≤ until
          → Placed until b p t
      by true k e f all q = record {
        is_early = subst (λ (x : Bool). Early b (cond x (placed_before p (code_shows content) t)
            (element id r facts attributes inner))) (sym e) (leaf-early until b (code_shows content) p t h q l);
        same = subst (λ (x : Bool). shows true (cond x (placed_before p (code_shows content) t)
            (element id r facts attributes inner)) ≡ shows true t) (sym e) (leaf-shows (code_shows content) p t h);
        left = subst (λ (x : Bool). Left until (b || cond x (code_shows content)
            (cond (is_thematic_break r) false (show true content)))
            (cond x (tree.after_leaf p (code_shows content)) (placing_after_all p content))) (sym e)
            (leaf-left until b (code_shows content) p l);
      }
      by false k e f all q =
          let rest = all q in
          record {
            is_early = subst (λ (x : Bool). Early b (cond x (placed_before p (code_shows content) t)
                (element id r facts attributes inner))) (sym e) rest.are_early;
            same = subst (λ (x : Bool). shows true (cond x (placed_before p (code_shows content) t)
                (element id r facts attributes inner)) ≡ shows true t) (sym e)
                (alike e (ap (λ x. cond (is_thematic_break r) false x) rest.all_same));
            left = subst (λ (x : Bool). Left until (b || cond x (code_shows content)
                (cond (is_thematic_break r) false (show true content)))
                (cond x (tree.after_leaf p (code_shows content)) (placing_after_all p content))) (sym e)
                (left-less until (b || cond (is_thematic_break r) false (show true content)) (b || show true content)
                (placing_after_all p content) (less b (is_thematic_break r) (show true content)) rest.all_left);
          }
        where
          alike : is_verbatim r ≡ false
              → cond (is_thematic_break r) false (show true inner)
              ≡ cond (is_thematic_break r) false (show true content)
              → shows true (element id r facts attributes inner) ≡ shows true t
          alike e f =
              ap (λ x. cond x (code_shows inner) (cond (is_thematic_break r) false (show true inner))) e
              ∙ (f ∙ sym (ap (λ x. cond x (code_shows content)
              (cond (is_thematic_break r) false (show true content))) e))

          less : (x y z : Bool) → (x || cond y false z) ≡ true → (x || z) ≡ true
          less true y z e = refl
          less false true z e = absurd (false≢true e)
          less false false z e = e

  all-placed-early : (until : ℕ) (b : Bool) (p : Placing) (ts : Simples) → AreBare ts
      → p.seen + all_seen ts ≤ until
      → Left until b p → AllPlaced until b p ts
  all-placed-early until b p none h g l = record {
    are_early = tt;
    all_same = refl;
    all_left = subst (λ (x : Bool). Left until x p) (sym (or-none b)) l;
  }
  all-placed-early until b p (more t ts) h g l =
      let one = tree-placed until b p t h.0 (first-within p.seen (seen t) (all_seen ts) until g) l in
      let q : Placing = placing_after p t in
      let c : Bool = b || shows true t in
      let rest = all-placed-early until c q ts h.1
      (subst (λ (n : ℕ). n + all_seen ts ≤ until) (sym (after-seen p t))
      (rest-within p.seen (seen t) (all_seen ts) until g)) one.left in
      record {
        are_early = (
          one.is_early,
          subst (λ (x : Bool). AllEarly (b || x) (all_placed q ts)) (sym one.same) rest.are_early,
        );
        all_same = ap (λ x. x || show true (all_placed q ts)) one.same ∙ ap (λ x. shows true t || x) rest.all_same;
        all_left = subst (λ (x : Bool). Left until x (placing_after_all q ts))
            (or-assoc b (shows true t) (show true ts)) rest.all_left;
      }
    where
      or-assoc : (x y z : Bool) → ((x || y) || z) ≡ (x || (y || z))
      or-assoc true y z = refl
      or-assoc false y z = refl

-- ---- in each heading and title

leaf-has : (k : Bool) (p : Placing) (t : Simple) → IsBare t → HasEarly (placed_before p k t)
leaf-has true p t h = preceded-has (ids_up_to p.seen p.targets) t h
leaf-has false p t h = bare-has t h

-- beside it, and in order
abbrev BesideHere : (Target → Type 0) → List Target → Type 0
BesideHere P us = AllTargets P us × Rises us

beside-past : (P : Target → Type 0) (n : ℕ) (us : List Target) → BesideHere P us
    → BesideHere P (targets_past n us)
beside-past P n us h = (past-keeps P n us h.0, past-rises n us h.1)

mutual
  placed-has : (p : Placing) (t : Simple) → IsBare t → BesideHere (λ u. Beside u p.seen t) p.targets
      → HasEarly (placed p t)
  placed-has p (text s) h g = leaf-has (not (is_blank_text s)) p (text s) h
  placed-has p (image address attributes) h g =
      leaf-has (image_shows address attributes) p (image address attributes) h
  placed-has p (formula tex is_alone attributes) h g = leaf-has true p (formula tex is_alone attributes) h
  placed-has p (embedded id address title attributes ids) h g =
      leaf-has true p (embedded id address title attributes ids) h
  placed-has p (anchor id) h g = tt
  placed-has p (element id r facts attributes content) h g =
      by (is_verbatim r) refl (λ q. all-placed-have p content h q)
    where
      t : Simple
      t = element id r facts attributes content

      by : (v : Bool) → is_verbatim r ≡ v
          → (BesideHere (λ u. BesideAll u p.seen content) p.targets → HaveEarly (all_placed p content))
          → HasEarly (cond v (placed_before p (code_shows content) t)
          (element id r facts attributes (all_placed p content)))
      by true e k = leaf-has (code_shows content) p t h
      by false e k = (
        λ f. (all-placed-early (p.seen + all_seen content) false p content h (le-itself (p.seen + all_seen content)) (
          all-targets (λ u. Beside u p.seen t) (Beyond p.seen (p.seen + all_seen content) false)
              (λ u q. (q e).0 f) p.targets g.0,
          g.1,
        )).are_early,
        k (
          all-targets (λ u. Beside u p.seen t) (λ u. BesideAll u p.seen content) (λ u q. (q e).1) p.targets g.0,
          g.1,
        ),
      )

  all-placed-have : (p : Placing) (ts : Simples) → AreBare ts → BesideHere (λ u. BesideAll u p.seen ts) p.targets
      → HaveEarly (all_placed p ts)
  all-placed-have p none h g = tt
  all-placed-have p (more t ts) h g =
      let q : Placing = placing_after p t in
      let All : Target → Type 0 = λ u. BesideAll u p.seen (more t ts) in
      let left = after-keeps (BesideHere All) (beside-past All) p t g in (
        placed-has p t h.0 (all-targets All (λ u. Beside u p.seen t) (λ u x. x.0) p.targets g.0, g.1),
        all-placed-have q ts h.1 (
          all-targets All (λ u. BesideAll u q.seen ts)
              (λ u x. subst (λ (n : ℕ). BesideAll u n ts) (sym (after-seen p t)) x.1) q.targets left.0,
          left.1,
        ),
      )

-- ---- the first pieces of links

one-cut : (p : Pieces) (t : Simple) → shows true (cut p t) ≡ shows true t
one-cut p t =
    sym (or-none (shows true (cut p t))) ∙ (all-cut-shows p (more t none) ∙ or-none (shows true t))

one-pieced : (t : Simple) → shows true (pieced t) ≡ shows true t
one-pieced t =
    sym (or-none (shows true (pieced t))) ∙ (all-pieced-shows (more t none) ∙ or-none (shows true t))

either-early : (x b : Bool) (ts us : Simples) → AllEarly b ts → AllEarly b us → AllEarly b (cond x ts us)
either-early true b ts us g h = g
either-early false b ts us g h = h

either-have : (x : Bool) (ts us : Simples) → HaveEarly ts → HaveEarly us → HaveEarly (cond x ts us)
either-have true ts us g h = g
either-have false ts us g h = h

cut-leaf-early : (b : Bool) (p : Pieces) (t : Simple) → Early b t → Early b (cut_leaf p t)
cut-leaf-early b p t h = by (not (is_unseen t) && nat_lt most_linked (after_leaf p t).count)
  where
    by : (x : Bool) → Early b (cond x (unlinked t) t)
    by true = (h, tt)
    by false = h

cut-leaf-has : (p : Pieces) (t : Simple) → HasEarly t → HasEarly (cut_leaf p t)
cut-leaf-has p t h = by (not (is_unseen t) && nat_lt most_linked (after_leaf p t).count)
  where
    by : (x : Bool) → HasEarly (cond x (unlinked t) t)
    by true = (λ e. absurd (false≢true e), (h, tt))
    by false = h

mutual
  cut-early : (b : Bool) (p : Pieces) (t : Simple) → Early b t → Early b (cut p t)
  cut-early b p (text s) h = cut-leaf-early b p (text s) h
  cut-early b p (image address attributes) h = cut-leaf-early b p (image address attributes) h
  cut-early b p (formula tex is_alone attributes) h = cut-leaf-early b p (formula tex is_alone attributes) h
  cut-early b p (embedded id address title attributes ids) h =
      cut-leaf-early b p (embedded id address title attributes ids) h
  cut-early b p (anchor id) h = h
  cut-early b p (element id r facts attributes content) h =
      by (is_verbatim r) (either-early (is_line_break r) b content (cut_all (at_edge r p) content) h
      (all-cut-early b (at_edge r p) content h))
    where
      t : Simple
      t = element id r facts attributes content

      inner : Simples
      inner = cond (is_line_break r) content (cut_all (at_edge r p) content)

      by : (v : Bool) → AllEarly b inner → Early b (cond v (cut_leaf p t) (element id r facts attributes inner))
      by true k = cut-leaf-early b p t h
      by false k = k

  all-cut-early : (b : Bool) (p : Pieces) (ts : Simples) → AllEarly b ts → AllEarly b (cut_all p ts)
  all-cut-early b p none h = tt
  all-cut-early b p (more t ts) h = (
    cut-early b p t h.0,
    subst (λ (x : Bool). AllEarly (b || x) (cut_all (pieces_after p t) ts)) (sym (one-cut p t))
        (all-cut-early (b || shows true t) (pieces_after p t) ts h.1),
  )

mutual
  pieced-early : (b : Bool) (t : Simple) → Early b t → Early b (pieced t)
  pieced-early b (text s) h = h
  pieced-early b (image address attributes) h = h
  pieced-early b (formula tex is_alone attributes) h = h
  pieced-early b (embedded id address title attributes ids) h = h
  pieced-early b (anchor id) h = h
  pieced-early b (element id r facts attributes content) h =
      either-early (is_link r) b (cut_all no_pieces content) (pieced_all content)
      (all-cut-early b no_pieces content h) (all-pieced-early b content h)

  all-pieced-early : (b : Bool) (ts : Simples) → AllEarly b ts → AllEarly b (pieced_all ts)
  all-pieced-early b none h = tt
  all-pieced-early b (more t ts) h = (
    pieced-early b t h.0,
    subst (λ (x : Bool). AllEarly (b || x) (pieced_all ts)) (sym (one-pieced t))
        (all-pieced-early (b || shows true t) ts h.1),
  )

mutual
  cut-has : (p : Pieces) (t : Simple) → HasEarly t → HasEarly (cut p t)
  cut-has p (text s) h = cut-leaf-has p (text s) h
  cut-has p (image address attributes) h = cut-leaf-has p (image address attributes) h
  cut-has p (formula tex is_alone attributes) h = cut-leaf-has p (formula tex is_alone attributes) h
  cut-has p (embedded id address title attributes ids) h =
      cut-leaf-has p (embedded id address title attributes ids) h
  cut-has p (anchor id) h = tt
  cut-has p (element id r facts attributes content) h =
      by (is_verbatim r) (
        λ e. either-early (is_line_break r) false content (cut_all (at_edge r p) content) (h.0 e)
            (all-cut-early false (at_edge r p) content (h.0 e)),
        either-have (is_line_break r) content (cut_all (at_edge r p) content) h.1
            (all-cut-have (at_edge r p) content h.1),
      )
    where
      t : Simple
      t = element id r facts attributes content

      inner : Simples
      inner = cond (is_line_break r) content (cut_all (at_edge r p) content)

      by : (v : Bool) → HasEarly (element id r facts attributes inner)
          → HasEarly (cond v (cut_leaf p t) (element id r facts attributes inner))
      by true k = cut-leaf-has p t h
      by false k = k

  all-cut-have : (p : Pieces) (ts : Simples) → HaveEarly ts → HaveEarly (cut_all p ts)
  all-cut-have p none h = tt
  all-cut-have p (more t ts) h = (cut-has p t h.0, all-cut-have (pieces_after p t) ts h.1)

mutual
  pieced-has : (t : Simple) → HasEarly t → HasEarly (pieced t)
  pieced-has (element id r facts attributes content) h = (
    λ e. either-early (is_link r) false (cut_all no_pieces content) (pieced_all content)
        (all-cut-early false no_pieces content (h.0 e)) (all-pieced-early false content (h.0 e)),
    either-have (is_link r) (cut_all no_pieces content) (pieced_all content)
        (all-cut-have no_pieces content h.1) (all-pieced-have content h.1),
  )
  pieced-has t h = tt

  all-pieced-have : (ts : Simples) → HaveEarly ts → HaveEarly (pieced_all ts)
  all-pieced-have none h = tt
  all-pieced-have (more t ts) h = (pieced-has t h.0, all-pieced-have ts h.1)

-- ---- all of it

pub placed-early : (a : Anchors) (rich : Bool) (ts : Simples) → AreBare ts
    → HaveEarly (pieced_all (all_placed (record { seen = 0; targets = targets_by a rich ts }) ts))
placed-early a rich ts h =
    let p : Placing = record { seen = 0; targets = targets_by a rich ts } in
    let good : AreTargets (targets_by a rich ts) = targets-good a rich ts in
    all-pieced-have (all_placed p ts)
    (all-placed-have p ts h (targets-beside a rich ts, (0, good.until, good.climb)))
