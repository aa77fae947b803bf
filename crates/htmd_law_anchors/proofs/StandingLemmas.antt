-- Each target's anchor stands after what the things to see before its place say.
use Rattle.std.proofs.Common.{◌≡◌, ℕ, zero, suc, ◌-◌, ◌≤◌, Bool, true, false, cond, List, [], ◌∷◌, ◌++◌, map, refl, sym, ap}
use Rattle.std.proofs.Common.{◌∙◌, subst, append_assoc, arith}
use Rattle.std.specs.Prelude.{nat_le}
use Rattle.std.specs.List.{All, AllByRecursion}
use Rattle.std.proofs.lemmas.Bool.Decides.{nat_tests}
use Rattle.std.proofs.lemmas.List.{append-nil}
use Rattle.std.proofs.lemmas.List.Elements.{All-from_recursion}
use Rattle.std.proofs.lemmas.Grind.{flat_map-append}
use Rattle.htmd_lexical.proofs.Cases.{test}
use Rattle.htmd_document_of_tree.specs.Anchors.{ids_up_to, targets_past, values_of}
use Rattle.htmd_document_of_tree.specs.Targets.{Target}
use Rattle.htmd_law_anchors.specs.DocumentMarks.{Mark, letter, place}
use Rattle.htmd_law_anchors.specs.AnchorLaws.{with_places, character_of, characters_of, id_of, ids_of, said_before, Stands}
use Rattle.htmd_law_anchors.proofs.TargetLemmas.{Climbs, climbs-from}

-- ---- characters, and ids

places-silent : (ids : List (List ℕ)) → characters_of (map place ids) ≡ []
places-silent [] = refl
places-silent (id ∷ ids) = places-silent ids

letters-all : (cs : List ℕ) → characters_of (map letter cs) ≡ cs
letters-all [] = refl
letters-all (c ∷ cs) = ap (λ xs. c ∷ xs) (letters-all cs)

characters-append : (xs ys : List Mark) → characters_of (xs ++ ys) ≡ characters_of xs ++ characters_of ys
characters-append xs ys = flat_map-append character_of xs ys

letters-nameless : (cs : List ℕ) → ids_of (map letter cs) ≡ []
letters-nameless [] = refl
letters-nameless (c ∷ cs) = letters-nameless cs

places-ids : (ids : List (List ℕ)) → ids_of (map place ids) ≡ ids
places-ids [] = refl
places-ids (id ∷ ids) = ap (λ xs. id ∷ xs) (places-ids ids)

ids-append : (xs ys : List Mark) → ids_of (xs ++ ys) ≡ ids_of xs ++ ids_of ys
ids-append xs ys = flat_map-append id_of xs ys

-- ---- all anchors in order

up-to-past : (n : ℕ) (ts : List Target) → ids_up_to n ts ++ values_of (targets_past n ts) ≡ values_of ts
up-to-past n [] = refl
up-to-past n (t ∷ ts) = either (nat_le t.seen n) (up-to-past n ts)
  where
    either : (b : Bool) → ids_up_to n ts ++ values_of (targets_past n ts) ≡ values_of ts
        → cond b (t.value ∷ ids_up_to n ts) [] ++ values_of (cond b (targets_past n ts) (t ∷ ts))
        ≡ t.value ∷ values_of ts
    either true h = ap (λ xs. t.value ∷ xs) h
    either false h = refl

pub all-ids : (n : ℕ) (ts : List Target) (things : List (List ℕ))
    → ids_of (with_places n ts things) ≡ values_of ts
all-ids n ts [] = places-ids (values_of ts)
all-ids n ts (thing ∷ things) =
    let front : List Mark = map place (ids_up_to n ts) in
    let rest : List Mark = with_places (suc n) (targets_past n ts) things in
    ids-append (front ++ map letter thing) rest
    ∙ (ap (λ x. x ++ ids_of rest)
    (ids-append front (map letter thing)
    ∙ (ap (λ x. x ++ ids_of (map letter thing)) (places-ids (ids_up_to n ts))
    ∙ (ap (λ x. ids_up_to n ts ++ x) (letters-nameless thing) ∙ append-nil (ids_up_to n ts))))
    ∙ (ap (λ x. ids_up_to n ts ++ x) (all-ids (suc n) (targets_past n ts) things) ∙ up-to-past n ts))

-- ---- each anchor

-- where n things were before
record StandsAt (n : ℕ) (things : List (List ℕ)) (marks : List Mark) (t : Target) : Type 0 where
  front : List Mark
  rest : List Mark
  is : marks ≡ front ++ place t.value ∷ rest
  before : characters_of front ≡ said_before (t.seen - n) things

abbrev AllAt : ℕ → List (List ℕ) → List Mark → List Target → Type 0
AllAt n things marks [] = Unit {0}
AllAt n things marks (t ∷ ts) = StandsAt n things marks t × AllAt n things marks ts

all-same : (n : ℕ) (things : List (List ℕ)) (ms ns : List Mark) (ts : List Target) → ms ≡ ns
    → AllAt n things ms ts
    → AllAt n things ns ts
all-same n things ms ns ts e h = subst (λ (xs : List Mark). AllAt n things xs ts) e h

none-said : (n : ℕ) → said_before n [] ≡ []
none-said zero = refl
none-said (suc n) = refl

-- those that nothing follows
at-end : (n : ℕ) (ts : List Target) (front : List Mark) → characters_of front ≡ []
    → AllAt n [] (front ++ map place (values_of ts)) ts
at-end n [] front e = tt
at-end n (t ∷ ts) front e = (
  record {
    front = front;
    rest = map place (values_of ts);
    is = refl;
    before = e ∙ sym (none-said (t.seen - n));
  },
  all-same n [] ((front ++ place t.value ∷ []) ++ map place (values_of ts))
      (front ++ place t.value ∷ map place (values_of ts)) ts
      (append_assoc front (place t.value ∷ []) (map place (values_of ts)))
      (at-end n ts (front ++ place t.value ∷ [])
      (characters-append front (place t.value ∷ []) ∙ ap (λ x. x ++ []) e)),
)

-- one more thing before
later : (n : ℕ) (thing : List ℕ) (things : List (List ℕ)) (front marks : List Mark)
    → characters_of front ≡ thing
    → (until : ℕ) (ts : List Target) → Climbs (suc n) until ts → AllAt (suc n) things marks ts
    → AllAt n (thing ∷ things) (front ++ marks) ts
later n thing things front marks e until [] c h = tt
later n thing things front marks e until (t ∷ ts) c h = (
  record {
    front = front ++ h.0.front;
    rest = h.0.rest;
    is = ap (λ x. front ++ x) h.0.is ∙ sym (append_assoc front h.0.front (place t.value ∷ h.0.rest));
    before = characters-append front h.0.front
        ∙ (ap (λ x. x ++ characters_of h.0.front) e
        ∙ (ap (λ x. thing ++ x) h.0.before
        ∙ ap (λ k. said_before k (thing ∷ things)) (sym (one_more t.seen c.0))));
  },
  later n thing things front marks e until ts (climbs-from (suc n) t.seen until ts c.0 c.1) h.1,
)
  where
    one_more : (m : ℕ) → suc n ≤ m → m - n ≡ suc (m - suc n)
    one_more m g = omega arith

-- before a thing, and after it
at-thing : (n : ℕ) (thing : List ℕ) (things : List (List ℕ))
    → ((until : ℕ) (us : List Target) → Climbs (suc n) until us
    → AllAt (suc n) things (with_places (suc n) us things) us)
    → (until : ℕ) (ts : List Target) → Climbs n until ts → (front : List Mark) → characters_of front ≡ []
    → AllAt n (thing ∷ things) (front ++ with_places n ts (thing ∷ things)) ts
at-thing n thing things next until [] c front e = tt
at-thing n thing things next until (t ∷ ts) c front e = test (nat_le t.seen n)
    (λ h. subst (λ (b : Bool). AllAt n (thing ∷ things)
    (front ++ ((map place (cond b (t.value ∷ ids_up_to n ts) []) ++ map letter thing)
    ++ with_places (suc n) (cond b (targets_past n ts) (t ∷ ts)) things)) (t ∷ ts)) (sym h) (
      record {
        front = front;
        rest = (map place (ids_up_to n ts) ++ map letter thing) ++ with_places (suc n) (targets_past n ts) things;
        is = refl;
        before = e ∙ ap (λ k. said_before k (thing ∷ things)) (sym (same t.seen c.0 h));
      },
      all-same n (thing ∷ things) ((front ++ place t.value ∷ []) ++ with_places n ts (thing ∷ things))
          (front ++ place t.value ∷ with_places n ts (thing ∷ things)) ts
          (append_assoc front (place t.value ∷ []) (with_places n ts (thing ∷ things)))
          (at-thing n thing things next until ts (climbs-from n t.seen until ts c.0 c.1) (front ++ place t.value ∷ [])
          (characters-append front (place t.value ∷ []) ∙ ap (λ x. x ++ []) e)),
    ))
    (λ h. subst (λ (b : Bool). AllAt n (thing ∷ things)
    (front ++ ((map place (cond b (t.value ∷ ids_up_to n ts) []) ++ map letter thing)
    ++ with_places (suc n) (cond b (targets_past n ts) (t ∷ ts)) things)) (t ∷ ts)) (sym h)
    (all-same n (thing ∷ things) ((front ++ map letter thing) ++ with_places (suc n) (t ∷ ts) things)
    (front ++ (map letter thing ++ with_places (suc n) (t ∷ ts) things)) (t ∷ ts)
    (append_assoc front (map letter thing) (with_places (suc n) (t ∷ ts) things))
    (later n thing things (front ++ map letter thing) (with_places (suc n) (t ∷ ts) things)
    (characters-append front (map letter thing)
    ∙ (ap (λ x. x ++ characters_of (map letter thing)) e ∙ letters-all thing))
    until (t ∷ ts) (past t.seen h, c.1) (next until (t ∷ ts) (past t.seen h, c.1)))))
  where
    same : (m : ℕ) → n ≤ m → nat_le m n ≡ true → m - n ≡ 0
    same m g h = grind (arith, nat_tests)

    past : (m : ℕ) → nat_le m n ≡ false → suc n ≤ m
    past m h = grind (arith, nat_tests)

all-stand-at : (things : List (List ℕ)) (n until : ℕ) (ts : List Target) → Climbs n until ts
    → AllAt n things (with_places n ts things) ts
all-stand-at [] n until ts c = at-end n ts [] refl
all-stand-at (thing ∷ things) n until ts c =
    at-thing n thing things (λ k us d. all-stand-at things (suc n) k us d) until ts c [] refl

pub all-stand : (things : List (List ℕ)) (until : ℕ) (ts : List Target) → Climbs 0 until ts
    → All (Stands things (with_places 0 ts things)) ts
all-stand things until ts c =
    let marks : List Mark = with_places 0 ts things in
    All-from_recursion (Stands things marks) ts (each marks ts (all-stand-at things 0 until ts c))
  where
    all : (m : ℕ) → m - 0 ≡ m
    all m = omega arith

    each : (marks : List Mark) (us : List Target) → AllAt 0 things marks us
        → AllByRecursion (Stands things marks) us
    each marks [] h = tt
    each marks (t ∷ us) h = (
      record {
        front = h.0.front;
        rest = h.0.rest;
        is = h.0.is;
        before = h.0.before ∙ ap (λ k. said_before k things) (all t.seen);
      },
      each marks us h.1,
    )
