-- Anchors stand where targets without content stand: before the next thing to see.
use Rattle.std.proofs.Common.{◌≡◌, ℕ, suc, ◌+◌, ◌≤◌, Bool, true, false, not, ◌&&◌, ◌||◌, cond}
use Rattle.std.proofs.Common.{List, [], ◌∷◌, ◌++◌}
use Rattle.std.proofs.Common.{refl, sym, ap, ◌∙◌, subst, arith, codes, append_assoc, Option, Some, None}
use Rattle.std.specs.Prelude.{nat_le, is_some, if◌then◌else◌}
use Rattle.htmd_lexical.proofs.Cases.{test}
use Rattle.std.specs.List.{list_all}
use Rattle.std.specs.Option.{unwrap_or}
use Rattle.std.specs.Str.{chars}
use Rattle.std.proofs.lemmas.Bool.{and_parts, and_from}
use Rattle.std.proofs.lemmas.Bool.Decides.{nat_tests}
use Rattle.std.proofs.lemmas.List.{append-nil}
use Rattle.htmd_lexical.specs.AttributePairs.{AttributePair}
use Rattle.htmd_shown.specs.declared.role.Role.{Role}
use Rattle.htmd_shown.specs.declared.role.Role.TheVariants as role
use Rattle.htmd_shown.specs.declared.facts.Facts.{Facts}
use Rattle.htmd_shown.specs.Attributes.{has_attribute, text_of, value_of, in_line, is_filled}
use Rattle.htmd_shown.specs.Roles.{is_anchor, is_headed, is_link, is_verbatim}
use Rattle.htmd_shown.specs.Showings.{code_shows, image_shows}
use Rattle.htmd_shown.specs.SimpleTrees.{Simple, text, image, formula, embedded, anchor, element, Simples, none, more}
use Rattle.htmd_shown.specs.Spaces.{is_blank_text}
use Rattle.htmd_document_of_tree.specs.Anchors.{Placing, ids_up_to, targets_past, placed_before, after_leaf, preceded}
use Rattle.htmd_document_of_tree.specs.Anchors.{placing_after, placing_after_all, placed, all_placed, values_of}
use Rattle.htmd_document_of_tree.specs.Anchors.{anchors, apart, last_anchors, anchored}
use Rattle.htmd_document_of_tree.specs.declared.anchors.Anchors.TheVariants as which
use Rattle.htmd_shown.specs.Shown.{followed_by}
use Rattle.htmd_document_of_tree.specs.Seen.{seen, all_seen, one_if}
use Rattle.htmd_document_of_tree.specs.Targets.{Target, target_by, name_target, own_targets, targets_inside}
use Rattle.htmd_document_of_tree.specs.Targets.{targets_among, whole_in, is_whole, firsts}
use Rattle.htmd_law_returning.proofs.BareLemmas.{has_no_name}
use Rattle.htmd_law_returning.proofs.StartLemmas.{false-true, true-false, from-not}
use lib.Utf8.{encode}

-- ---- targets

-- all values count
abbrev pub every : List ℕ → Bool
every s = true

abbrev mutual
  -- no links lead there
  pub is_nameless : Simple → Bool
  is_nameless (text s) = true
  is_nameless (image address attributes) = has_no_name attributes
  is_nameless (formula tex is_alone attributes) = false
  is_nameless (embedded id address title attributes anchors) = false
  is_nameless (anchor id) = false
  is_nameless (element id r facts attributes content) = has_no_name attributes && are_nameless content

  pub are_nameless : Simples → Bool
  are_nameless none = true
  are_nameless (more t ts) = is_nameless t && are_nameless ts

-- a target without content, with an id and no name
abbrev pub is_place : Simple → Bool
is_place (element id role.Target facts attributes none) =
    is_filled (in_line (text_of (codes "id") attributes)) && not (has_attribute (codes "name") attributes)
is_place t = false

-- such come first
abbrev pub are_led : Simples → Bool
are_led none = true
are_led (more t ts) = if is_place t then are_led ts else is_nameless t && are_nameless ts

abbrev mutual
  -- the targets in a node stand at its beginning
  pub comes_first : Simple → Bool
  comes_first (element id r facts attributes content) =
      is_place (element id r facts attributes content)
      || (has_no_name attributes && (is_whole r || come_first content))
  comes_first t = is_nameless t

  pub come_first : Simples → Bool
  come_first none = true
  come_first (more t ts) = comes_first t && (if nat_le (seen t) 0 then come_first ts else are_nameless ts)

abbrev mutual
  -- in links and code no such, in headings and titles first
  pub is_marked : Simple → Bool
  is_marked (element id r facts attributes content) =
      is_place (element id r facts attributes content)
      || (has_no_name attributes
      && (if is_whole r then (if is_headed r then come_first content && are_marked content else are_nameless content)
      else are_marked content))
  is_marked t = is_nameless t

  pub are_marked : Simples → Bool
  are_marked none = true
  are_marked (more t ts) = is_marked t && are_marked ts

-- ---- where they put anchors

abbrev pub own_id : Simple → List (List ℕ)
own_id (element id r facts attributes content) =
    if is_place (element id r facts attributes content) then in_line (text_of (codes "id") attributes) ∷ [] else []
own_id t = []

abbrev pub waits : Bool → List (List ℕ) → List (List ℕ)
waits shows ids = if shows then [] else ids

abbrev mutual
  -- the ids that wait for the next thing to see
  pub pending : List (List ℕ) → Simple → List (List ℕ)
  pending ids (text s) = waits (not (is_blank_text s)) ids
  pending ids (image address attributes) = waits (image_shows address attributes) ids
  pending ids (formula tex is_alone attributes) = []
  pending ids (embedded id address title attributes anchors) = []
  pending ids (anchor id) = ids
  pending ids (element id r facts attributes content) =
      if is_verbatim r then waits (code_shows content) ids
      else pending_all (ids ++ own_id (element id r facts attributes content)) content

  pub pending_all : List (List ℕ) → Simples → List (List ℕ)
  pending_all ids none = ids
  pending_all ids (more t ts) = pending_all (pending ids t) ts

abbrev pub put_if : Bool → List (List ℕ) → Simple → Simple
put_if shows ids t = if shows then preceded ids t else t

abbrev mutual
  pub local : List (List ℕ) → Simple → Simple
  local ids (text s) = put_if (not (is_blank_text s)) ids (text s)
  local ids (image address attributes) = put_if (image_shows address attributes) ids (image address attributes)
  local ids (formula tex is_alone attributes) = preceded ids (formula tex is_alone attributes)
  local ids (embedded id address title attributes anchors) =
      preceded ids (embedded id address title attributes anchors)
  local ids (anchor id) = anchor id
  local ids (element id r facts attributes content) =
      if is_verbatim r then put_if (code_shows content) ids (element id r facts attributes content)
      else element id r facts attributes (local_all (ids ++ own_id (element id r facts attributes content)) content)

  pub local_all : List (List ℕ) → Simples → Simples
  local_all ids none = none
  local_all ids (more t ts) = more (local ids t) (local_all (pending ids t) ts)

-- ---- targets of trees

no-text : (name : List ℕ) (attributes : List AttributePair) → has_attribute name attributes ≡ false
    → text_of name attributes ≡ []
no-text name attributes h = either (value_of name attributes) h
  where
    either : (o : Option (List ℕ)) → is_some o ≡ false → unwrap_or o [] ≡ []
    either None e = refl
    either (Some s) e = true-false e

no-target : (n : ℕ) (is_name : Bool) → target_by every n is_name [] ≡ []
unfolding chars encode
no-target n is_name = refl

no-target-by : (n : ℕ) (is_name : Bool) (name : List ℕ) (attributes : List AttributePair)
    → has_attribute name attributes ≡ false → target_by every n is_name (text_of name attributes) ≡ []
no-target-by n is_name name attributes h =
    ap (target_by every n is_name) (no-text name attributes h) ∙ no-target n is_name

no-names : (n : ℕ) (r : Role) (attributes : List AttributePair) → has_attribute (codes "name") attributes ≡ false
    → name_target every n r attributes ≡ []
no-names n r attributes h = either (is_anchor r)
  where
    either : (b : Bool) → cond b (target_by every n true (text_of (codes "name") attributes)) [] ≡ []
    either true = no-target-by n true (codes "name") attributes h
    either false = refl

record IsNameless (attributes : List AttributePair) : Type 0 where
  no_id : has_attribute (codes "id") attributes ≡ false
  no_name : has_attribute (codes "name") attributes ≡ false

nameless : (attributes : List AttributePair) → has_no_name attributes ≡ true → IsNameless attributes
nameless attributes h =
    let parts = and_parts (not (has_attribute (codes "id") attributes))
    (not (has_attribute (codes "name") attributes)) h in
    record {
      no_id = from-not (has_attribute (codes "id") attributes) parts.0;
      no_name = from-not (has_attribute (codes "name") attributes) parts.1;
    }

mutual
  pub none-own : (n : ℕ) (t : Simple) → is_nameless t ≡ true → own_targets every n t ≡ []
  none-own n (text s) h = refl
  none-own n (image address attributes) h =
      no-target-by n false (codes "id") attributes (nameless attributes h).no_id
  none-own n (formula tex is_alone attributes) h = false-true h
  none-own n (embedded id address title attributes anchors) h = false-true h
  none-own n (anchor id) h = false-true h
  none-own n (element id r facts attributes content) h =
      let k = nameless attributes (and_parts (has_no_name attributes) (are_nameless content) h).0 in
      rw (no-target-by n false (codes "id") attributes k.no_id) (no-names n r attributes k.no_name)

  pub none-inside : (whole : Option ℕ) (n : ℕ) (t : Simple) → is_nameless t ≡ true
      → targets_inside every whole n t ≡ []
  none-inside whole n (text s) h = refl
  none-inside whole n (image address attributes) h = refl
  none-inside whole n (formula tex is_alone attributes) h = refl
  none-inside whole n (embedded id address title attributes anchors) h = refl
  none-inside whole n (anchor id) h = refl
  none-inside whole n (element id r facts attributes content) h =
      none-among (whole_in whole n r) n content (and_parts (has_no_name attributes) (are_nameless content) h).1

  pub none-among : (whole : Option ℕ) (n : ℕ) (ts : Simples) → are_nameless ts ≡ true
      → targets_among every whole n ts ≡ []
  none-among whole n none h = refl
  none-among whole n (more t ts) h =
      let p = and_parts (is_nameless t) (are_nameless ts) h in
      rw (none-own (unwrap_or whole n) t p.0, none-inside whole n t p.0, none-among whole (n + seen t) ts p.1) refl

-- ---- which targets come where

abbrev pub up_to : ℕ → List Target → Bool
up_to n targets = list_all (λ (t : Target). nat_le t.seen n) targets

abbrev pub from_on : ℕ → List Target → Bool
from_on n targets = list_all (λ (t : Target). nat_le n t.seen) targets

from-both : (n : ℕ) (xs ys : List Target) → from_on n xs ≡ true → from_on n ys ≡ true
    → from_on n (xs ++ ys) ≡ true
from-both n [] ys h e = e
from-both n (x ∷ xs) ys h e =
    let p = and_parts (nat_le n x.seen) (from_on n xs) h in
    and_from (nat_le n x.seen) (from_on n (xs ++ ys)) p.0 (from-both n xs ys p.1 e)

up-both : (n : ℕ) (xs ys : List Target) → up_to n xs ≡ true → up_to n ys ≡ true
    → up_to n (xs ++ ys) ≡ true
up-both n [] ys h e = e
up-both n (x ∷ xs) ys h e =
    let p = and_parts (nat_le x.seen n) (up_to n xs) h in
    and_from (nat_le x.seen n) (up_to n (xs ++ ys)) p.0 (up-both n xs ys p.1 e)

from-less : (m n : ℕ) (xs : List Target) → m ≤ n → from_on n xs ≡ true → from_on m xs ≡ true
from-less m n [] l h = refl
from-less m n (x ∷ xs) l h =
    let p = and_parts (nat_le n x.seen) (from_on n xs) h in
    and_from (nat_le m x.seen) (from_on m xs) (grind (arith, nat_tests, l, p.0)) (from-less m n xs l p.1)

up-more : (m n : ℕ) (xs : List Target) → m ≤ n → up_to m xs ≡ true → up_to n xs ≡ true
up-more m n [] l h = refl
up-more m n (x ∷ xs) l h =
    let p = and_parts (nat_le x.seen m) (up_to m xs) h in
    and_from (nat_le x.seen n) (up_to n xs) (grind (arith, nat_tests, l, p.0)) (up-more m n xs l p.1)

pub values-both : (xs ys : List Target) → values_of (xs ++ ys) ≡ values_of xs ++ values_of ys
values-both [] ys = refl
values-both (x ∷ xs) ys = ap (λ s. x.value ∷ s) (values-both xs ys)

none-up : (n : ℕ) (later : List Target) → from_on (suc n) later ≡ true → ids_up_to n later ≡ []
none-up n [] h = refl
none-up n (x ∷ xs) h =
    let p = and_parts (nat_le (suc n) x.seen) (from_on (suc n) xs) h in
    let test : nat_le x.seen n ≡ false = grind (arith, nat_tests, p.0) in
    ap (λ b. cond b (x.value ∷ ids_up_to n xs) []) test

up-values : (n : ℕ) (waiting later : List Target) → up_to n waiting ≡ true → from_on (suc n) later ≡ true
    → ids_up_to n (waiting ++ later) ≡ values_of waiting
up-values n [] later h e = none-up n later e
up-values n (x ∷ xs) later h e =
    let p = and_parts (nat_le x.seen n) (up_to n xs) h in
    ap (λ b. cond b (x.value ∷ ids_up_to n (xs ++ later)) []) p.0 ∙ ap (λ s. x.value ∷ s)
    (up-values n xs later p.1 e)

all-past : (n : ℕ) (later : List Target) → from_on (suc n) later ≡ true → targets_past n later ≡ later
all-past n [] h = refl
all-past n (x ∷ xs) h =
    let p = and_parts (nat_le (suc n) x.seen) (from_on (suc n) xs) h in
    let test : nat_le x.seen n ≡ false = grind (arith, nat_tests, p.0) in
    ap (λ b. cond b (targets_past n xs) (x ∷ xs)) test

past-waiting : (n : ℕ) (waiting later : List Target) → up_to n waiting ≡ true → from_on (suc n) later ≡ true
    → targets_past n (waiting ++ later) ≡ later
past-waiting n [] later h e = all-past n later e
past-waiting n (x ∷ xs) later h e =
    let p = and_parts (nat_le x.seen n) (up_to n xs) h in
    ap (λ b. cond b (targets_past n (xs ++ later)) (x ∷ (xs ++ later))) p.0
    ∙ past-waiting n xs later p.1 e

-- ---- local

abbrev pub at_place : ℕ → List Target → Placing
at_place n targets = record { seen = n; targets = targets }

-- after a node, and its place
record IsLocal (n : ℕ) (waiting later : List Target) (t : Simple) (here : List Target) : Type 0 where
  rest : List Target
  is : placed (at_place n (waiting ++ (here ++ later))) t ≡ local (values_of waiting) t
  next : placing_after (at_place n (waiting ++ (here ++ later))) t ≡ at_place (n + seen t) (rest ++ later)
  wait : values_of rest ≡ pending (values_of waiting) t
  up : up_to (n + seen t) rest ≡ true

pub record AreLocal (n : ℕ) (waiting later : List Target) (ts : Simples) (here : List Target) : Type 0 where
  pub rest : List Target
  pub is : all_placed (at_place n (waiting ++ (here ++ later))) ts ≡ local_all (values_of waiting) ts
  pub next : placing_after_all (at_place n (waiting ++ (here ++ later))) ts
      ≡ at_place (n + all_seen ts) (rest ++ later)
  pub wait : values_of rest ≡ pending_all (values_of waiting) ts
  pub up : up_to (n + all_seen ts) rest ≡ true

plus-none : (n : ℕ) → n ≡ n + 0
plus-none n = omega arith

plus-one : (n : ℕ) → suc n ≡ n + 1
plus-one n = omega arith

-- a leaf, of which something shows or not
leaf-local : (n : ℕ) (waiting later : List Target) (t : Simple) (b : Bool)
    → placed (at_place n (waiting ++ later)) t ≡ placed_before (at_place n (waiting ++ later)) b t
    → placing_after (at_place n (waiting ++ later)) t ≡ after_leaf (at_place n (waiting ++ later)) b
    → local (values_of waiting) t ≡ put_if b (values_of waiting) t
    → pending (values_of waiting) t ≡ waits b (values_of waiting)
    → seen t ≡ one_if b → up_to n waiting ≡ true → from_on (n + seen t) later ≡ true
    → IsLocal n waiting later t []
leaf-local n waiting later t true is next own left counted up from =
    let past : from_on (suc n) later ≡ true =
    subst (λ m. from_on m later ≡ true) (ap (λ m. n + m) counted ∙ sym (plus-one n)) from in
    record {
      rest = [];
      is = is ∙ (ap (λ ids. preceded ids t) (up-values n waiting later up past) ∙ sym own);
      next = next ∙ (ap (λ ts. at_place (suc n) ts) (past-waiting n waiting later up past)
          ∙ ap (λ m. at_place m later) (plus-one n ∙ sym (ap (λ m. n + m) counted)));
      wait = sym left;
      up = refl;
    }
leaf-local n waiting later t false is next own left counted up from = record {
  rest = waiting;
  is = is ∙ sym own;
  next = next ∙ ap (λ m. at_place m (waiting ++ later)) (plus-none n ∙ sym (ap (λ m. n + m) counted));
  wait = sym left;
  up = up-more n (n + seen t) waiting (omega arith) up;
}

-- ---- places

place-seen : (t : Simple) → is_place t ≡ true → seen t ≡ 0
place-seen (element id role.Target facts attributes none) h = refl
place-seen t h = false-true h

pub place-inside : (whole : Option ℕ) (n : ℕ) (t : Simple) → is_place t ≡ true
    → targets_inside every whole n t ≡ []
place-inside whole n (element id role.Target facts attributes none) h = refl
place-inside whole n t h = false-true h

-- the target of a place
abbrev pub target_at : ℕ → List ℕ → Target
target_at n s = record { value = s; is_name = false; seen = n }

pub place-own : (n : ℕ) (t : Simple) → is_place t ≡ true → (s : List ℕ) → own_id t ≡ s ∷ []
    → own_targets every n t ≡ target_at n s ∷ []
place-own n (element id role.Target facts attributes none) h s e =
    let filled : Bool = is_filled (in_line (text_of (codes "id") attributes)) in
    let parts = and_parts filled (not (has_attribute (codes "name") attributes)) h in
    let same : in_line (text_of (codes "id") attributes) ∷ [] ≡ s ∷ [] =
    sym (ap (λ b. cond b (in_line (text_of (codes "id") attributes) ∷ []) []) h) ∙ e in
    let value : in_line (text_of (codes "id") attributes) ≡ s = cc in
    rw (no-names n role.Target attributes (from-not (has_attribute (codes "name") attributes) parts.1))
    (ap (λ b. cond (b && true) (target_at n (in_line (text_of (codes "id") attributes)) ∷ []) [] ++ []) parts.0
    ∙ ap (λ v. target_at n v ∷ []) value)
place-own n t h s e = false-true h

place-local : (n : ℕ) (waiting later : List Target) (t : Simple) → is_place t ≡ true → up_to n waiting ≡ true
    → IsLocal n waiting later t (own_targets every n t ++ targets_inside every None n t)
place-local n waiting later (element id role.Target facts attributes none) h up =
    let t : Simple = element id role.Target facts attributes none in
    let s : List ℕ = in_line (text_of (codes "id") attributes) in
    let own : own_id t ≡ s ∷ [] = ap (λ b. cond b (s ∷ []) []) h in
    let here : List Target = own_targets every n t in
    let is : here ≡ target_at n s ∷ [] = place-own n t h s own in
    record {
      rest = waiting ++ (target_at n s ∷ []);
      is = refl;
      next = ap (λ ts. at_place n (waiting ++ ((ts ++ []) ++ later))) is
          ∙ (ap (λ ts. at_place n ts) (sym (append_assoc waiting (target_at n s ∷ []) later))
          ∙ ap (λ m. at_place m ((waiting ++ (target_at n s ∷ [])) ++ later)) (plus-none n));
      wait = values-both waiting (target_at n s ∷ []) ∙ ap (λ ids. values_of waiting ++ ids) (sym own);
      up = let self : nat_le n n ≡ true = grind (arith, nat_tests) in
          up-more n (n + 0) (waiting ++ (target_at n s ∷ [])) (omega arith)
          (up-both n waiting (target_at n s ∷ []) up (ap (λ b. b && true) self));
    }
place-local n waiting later t h up = false-true h

-- ---- nameless trees are marked

pub nameless-place : (t : Simple) → is_nameless t ≡ true → is_place t ≡ false
unfolding chars encode
nameless-place (element id role.Target facts attributes none) h =
    let k = nameless attributes (and_parts (has_no_name attributes) true h).0 in
    rw (no-text (codes "id") attributes k.no_id) refl
nameless-place t h = refl

mutual
  pub nameless-first : (t : Simple) → is_nameless t ≡ true → comes_first t ≡ true
  nameless-first (text s) h = h
  nameless-first (image address attributes) h = h
  nameless-first (formula tex is_alone attributes) h = h
  nameless-first (embedded id address title attributes anchors) h = h
  nameless-first (anchor id) h = h
  nameless-first (element id r facts attributes content) h =
      let p = and_parts (has_no_name attributes) (are_nameless content) h in
      either (is_place (element id r facts attributes content)) (has_no_name attributes) (is_whole r)
      (come_first content) p.0 (all-nameless-first content p.1)
    where
      either : (a b w c : Bool) → b ≡ true → c ≡ true → (a || (b && (w || c))) ≡ true
      either true b w c e f = refl
      either false b true c e f = ap (λ x. x && true) e
      either false b false c e f = rw (e, f) refl

  pub all-nameless-first : (ts : Simples) → are_nameless ts ≡ true → come_first ts ≡ true
  all-nameless-first none h = refl
  all-nameless-first (more t ts) h =
      let p = and_parts (is_nameless t) (are_nameless ts) h in
      and_from (comes_first t) (cond (nat_le (seen t) 0) (come_first ts) (are_nameless ts)) (nameless-first t p.0)
      (either (nat_le (seen t) 0) (come_first ts) (are_nameless ts) (all-nameless-first ts p.1) p.1)
    where
      either : (b x y : Bool) → x ≡ true → y ≡ true → cond b x y ≡ true
      either true x y e f = e
      either false x y e f = f

either-marked : (a b c l n m : Bool) → b ≡ true → l ≡ true → n ≡ true → m ≡ true → (w h : Bool)
    → (a || (b && cond w (cond h l n) m)) ≡ true
either-marked true b c l n m e f g k w h = refl
either-marked false b c l n m e f g k true true = rw (e, f) refl
either-marked false b c l n m e f g k true false = rw (e, g) refl
either-marked false b c l n m e f g k false h = rw (e, k) refl

mutual
  pub nameless-marked : (t : Simple) → is_nameless t ≡ true → is_marked t ≡ true
  nameless-marked (text s) h = h
  nameless-marked (image address attributes) h = h
  nameless-marked (formula tex is_alone attributes) h = h
  nameless-marked (embedded id address title attributes anchors) h = h
  nameless-marked (anchor id) h = h
  nameless-marked (element id r facts attributes content) h =
      let parts = and_parts (has_no_name attributes) (are_nameless content) h in
      let marked = all-nameless-marked content parts.1 in
      either-marked (is_place (element id r facts attributes content)) (has_no_name attributes) true
      (come_first content && are_marked content) (are_nameless content) (are_marked content) parts.0
      (and_from (come_first content) (are_marked content) (all-nameless-first content parts.1) marked) parts.1 marked
      (is_whole r) (is_headed r)

  pub all-nameless-marked : (ts : Simples) → are_nameless ts ≡ true → are_marked ts ≡ true
  all-nameless-marked none h = refl
  all-nameless-marked (more t ts) h =
      let p = and_parts (is_nameless t) (are_nameless ts) h in
      and_from (is_marked t) (are_marked ts) (nameless-marked t p.0) (all-nameless-marked ts p.1)

pub place-marked : (t : Simple) → is_place t ≡ true → is_marked t ≡ true
place-marked (element id r facts attributes content) h =
    ap (λ b. b || (has_no_name attributes
    && cond (is_whole r) (cond (is_headed r) (come_first content && are_marked content) (are_nameless content))
    (are_marked content))) h
place-marked (text s) h = false-true h
place-marked (image address attributes) h = false-true h
place-marked (formula tex is_alone attributes) h = false-true h
place-marked (embedded id address title attributes anchors) h = false-true h
place-marked (anchor id) h = false-true h

-- the first of trees that are led
led-place : (t : Simple) (ts : Simples) → are_led (more t ts) ≡ true → is_place t ≡ true → are_led ts ≡ true
led-place t ts h e = sym (ap (λ b. cond b (are_led ts) (is_nameless t && are_nameless ts)) e) ∙ h

led-other : (t : Simple) (ts : Simples) → are_led (more t ts) ≡ true → is_place t ≡ false
    → are_nameless (more t ts) ≡ true
led-other t ts h e = sym (ap (λ b. cond b (are_led ts) (is_nameless t && are_nameless ts)) e) ∙ h

-- of a node
abbrev pub targets_of : ℕ → Simple → List Target
targets_of n t = own_targets every n t ++ targets_inside every None n t

place-first : (t : Simple) → is_place t ≡ true → comes_first t ≡ true
place-first (element id r facts attributes content) h =
    ap (λ b. b || (has_no_name attributes && (is_whole r || come_first content))) h
place-first (text s) h = false-true h
place-first (image address attributes) h = false-true h
place-first (formula tex is_alone attributes) h = false-true h
place-first (embedded id address title attributes anchors) h = false-true h
place-first (anchor id) h = false-true h

pub led-first : (ts : Simples) → are_led ts ≡ true → come_first ts ≡ true
led-first none h = refl
led-first (more t ts) h =
    test (is_place t)
    (λ e. and_from (comes_first t) (cond (nat_le (seen t) 0) (come_first ts) (are_nameless ts)) (place-first t e)
    (ap (λ n. cond (nat_le n 0) (come_first ts) (are_nameless ts)) (place-seen t e)
    ∙ led-first ts (led-place t ts h e)))
    (λ e. all-nameless-first (more t ts) (led-other t ts h e))

mutual
  -- in a heading or title the targets that come first stand where they would
  inside-first : (n : ℕ) (t : Simple) → comes_first t ≡ true
      → targets_inside every (Some n) n t ≡ targets_inside every None n t
  inside-first n (text s) h = refl
  inside-first n (image address attributes) h = refl
  inside-first n (formula tex is_alone attributes) h = refl
  inside-first n (embedded id address title attributes anchors) h = refl
  inside-first n (anchor id) h = refl
  inside-first n (element id r facts attributes content) h =
      let t : Simple = element id r facts attributes content in
      test (is_place t)
      (λ e. place-inside (Some n) n t e ∙ sym (place-inside None n t e))
      (λ e.
      let p = and_parts (has_no_name attributes) (is_whole r || come_first content)
      (sym (ap (λ b. b || (has_no_name attributes && (is_whole r || come_first content))) e) ∙ h) in
      test (is_whole r)
      (λ w. rw w refl)
      (λ w. rw w (whole-first n content (sym (ap (λ b. b || come_first content) w) ∙ p.1))))

  pub whole-first : (n : ℕ) (ts : Simples) → come_first ts ≡ true
      → targets_among every (Some n) n ts ≡ targets_among every None n ts
  whole-first n none h = refl
  whole-first n (more t ts) h =
      let p = and_parts (comes_first t) (cond (nat_le (seen t) 0) (come_first ts) (are_nameless ts)) h in
      let own : List Target = own_targets every n t in
      ap (λ xs. (own ++ xs) ++ targets_among every (Some n) (n + seen t) ts) (inside-first n t p.0)
      ∙ ap (λ xs. targets_of n t ++ xs)
      (test (nat_le (seen t) 0)
      (λ e.
      let same : n + seen t ≡ n = grind (arith, nat_tests, e) in
      ap (λ m. targets_among every (Some n) m ts) same
      ∙ (whole-first n ts (sym (ap (λ b. cond b (come_first ts) (are_nameless ts)) e) ∙ p.1)
      ∙ ap (λ m. targets_among every None m ts) (sym same)))
      (λ e.
      let bare : are_nameless ts ≡ true = sym (ap (λ b. cond b (come_first ts) (are_nameless ts)) e) ∙ p.1 in
      none-among (Some n) (n + seen t) ts bare ∙ sym (none-among None (n + seen t) ts bare)))

-- what is marked in an element that is no place
record IsMarkedElement (n : ℕ) (r : Role) (attributes : List AttributePair) (content : Simples) : Type 0 where
  bare : has_no_name attributes ≡ true
  marked : are_marked content ≡ true
  among : targets_among every (whole_in None n r) n content ≡ targets_among every None n content
  code : is_verbatim r ≡ true → targets_among every None n content ≡ []

no-heading : (r : Role) → is_verbatim r ≡ true → is_headed r ≡ false
no-heading role.Preformatted h = refl
no-heading role.Verbatim h = refl
no-heading r h = false-true h

marked-element : (n id : ℕ) (r : Role) (facts : Facts) (attributes : List AttributePair) (content : Simples)
    → is_marked (element id r facts attributes content) ≡ true
    → is_place (element id r facts attributes content) ≡ false
    → IsMarkedElement n r attributes content
marked-element n id r facts attributes content h e =
    let inner : Bool =
    cond (is_whole r) (cond (is_headed r) (come_first content && are_marked content) (are_nameless content))
    (are_marked content) in
    let own = and_parts (has_no_name attributes) inner (sym (ap (λ b. b || (has_no_name attributes && inner)) e) ∙ h)
    in
    let whole : is_whole r ≡ true → (is_headed r ≡ true → (come_first content && are_marked content) ≡ true)
    × (is_headed r ≡ false → are_nameless content ≡ true) =
    λ w. (
      λ k. sym (rw (w, k) refl) ∙ own.1,
      λ k. sym (rw (w, k) refl) ∙ own.1,
    ) in
    record {
      bare = own.0;
      marked = test (is_whole r)
          (λ w. test (is_headed r)
          (λ k. (and_parts (come_first content) (are_marked content) ((whole w).0 k)).1)
          (λ k. all-nameless-marked content ((whole w).1 k)))
          (λ w. sym (ap (λ b. cond b (cond (is_headed r) (come_first content && are_marked content)
          (are_nameless content)) (are_marked content)) w) ∙ own.1);
      among = test (is_whole r)
          (λ w. ap (λ b. targets_among every (cond b (Some n) None) n content) w
          ∙ test (is_headed r)
          (λ k. whole-first n content (and_parts (come_first content) (are_marked content) ((whole w).0 k)).0)
          (λ k. none-among (Some n) n content ((whole w).1 k) ∙ sym (none-among None n content ((whole w).1 k))))
          (λ w. ap (λ b. targets_among every (cond b (Some n) None) n content) w);
      code = λ v.
          let w : is_whole r ≡ true = rw v (either-true (is_link r || is_headed r)) in
          none-among None n content ((whole w).1 (no-heading r v));
    }
  where
    either-true : (b : Bool) → (b || true) ≡ true
    either-true true = refl
    either-true false = refl

-- ---- from the place on

self-from : (n : ℕ) → nat_le n n ≡ true
self-from n = grind (arith, nat_tests)

place-from : (n : ℕ) (t : Simple) → is_place t ≡ true → from_on n (targets_of n t) ≡ true
place-from n (element id role.Target facts attributes none) h =
    let t : Simple = element id role.Target facts attributes none in
    let s : List ℕ = in_line (text_of (codes "id") attributes) in
    let is : own_targets every n t ≡ target_at n s ∷ [] =
    place-own n t h s (ap (λ b. cond b (s ∷ []) []) h) in
    ap (λ xs. from_on n (xs ++ [])) is ∙ ap (λ b. b && true) (self-from n)
place-from n t h = false-true h

pub element-own : (n id : ℕ) (r : Role) (facts : Facts) (attributes : List AttributePair) (content : Simples)
    → has_no_name attributes ≡ true → own_targets every n (element id r facts attributes content) ≡ []
element-own n id r facts attributes content h =
    let k = nameless attributes h in
    rw (no-target-by n false (codes "id") attributes k.no_id) (no-names n r attributes k.no_name)

mutual
  tree-from : (n : ℕ) (t : Simple) → is_marked t ≡ true → from_on n (targets_of n t) ≡ true
  tree-from n (element id r facts attributes content) h =
      test (is_place (element id r facts attributes content))
      (λ e. place-from n (element id r facts attributes content) e)
      (λ e.
      let k = marked-element n id r facts attributes content h e in
      rw (element-own n id r facts attributes content k.bare, k.among) (trees-from n content k.marked))
  tree-from n (text s) h = refl
  tree-from n (image address attributes) h = rw (none-own n (image address attributes) h) refl
  tree-from n (formula tex is_alone attributes) h = false-true h
  tree-from n (embedded id address title attributes anchors) h = false-true h
  tree-from n (anchor id) h = false-true h

  pub trees-from : (n : ℕ) (ts : Simples) → are_marked ts ≡ true
      → from_on n (targets_among every None n ts) ≡ true
  trees-from n none h = refl
  trees-from n (more t ts) h =
      let p = and_parts (is_marked t) (are_marked ts) h in
      from-both n (targets_of n t) (targets_among every None (n + seen t) ts) (tree-from n t p.0)
      (from-less n (n + seen t) (targets_among every None (n + seen t) ts) (omega arith)
      (trees-from (n + seen t) ts p.1))

-- ---- all

-- an element is as what is in it
element-local : (n id : ℕ) (r : Role) (facts : Facts) (attributes : List AttributePair) (content : Simples)
    (waiting later here : List Target) → is_verbatim r ≡ false
    → own_id (element id r facts attributes content) ≡ [] → AreLocal n waiting later content here
    → IsLocal n waiting later (element id r facts attributes content) here
element-local n id r facts attributes content waiting later here v none_own inner =
    let ids : List (List ℕ) = values_of waiting in
    let own : ids ++ own_id (element id r facts attributes content) ≡ ids =
    ap (λ xs. ids ++ xs) none_own ∙ append-nil ids in
    record {
      rest = inner.rest;
      is = rw v (ap (element id r facts attributes) (inner.is ∙ ap (λ xs. local_all xs content) (sym own)));
      next = rw v inner.next;
      wait = rw v (inner.wait ∙ ap (λ xs. pending_all xs content) (sym own));
      up = rw v inner.up;
    }

mutual
  tree-local : (t : Simple) (n : ℕ) (waiting later : List Target) → is_marked t ≡ true
      → up_to n waiting ≡ true
      → from_on (n + seen t) later ≡ true → IsLocal n waiting later t (targets_of n t)
  tree-local (text s) n waiting later h up from =
      leaf-local n waiting later (text s) (not (is_blank_text s)) refl refl refl refl refl up from
  tree-local (image address attributes) n waiting later h up from =
      subst (λ xs. IsLocal n waiting later (image address attributes) (xs ++ []))
      (sym (none-own n (image address attributes) h))
      (leaf-local n waiting later (image address attributes) (image_shows address attributes) refl refl refl refl refl
      up from)
  tree-local (formula tex is_alone attributes) n waiting later h up from = false-true h
  tree-local (embedded id address title attributes anchors) n waiting later h up from = false-true h
  tree-local (anchor id) n waiting later h up from = false-true h
  tree-local (element id r facts attributes content) n waiting later h up from =
      let t : Simple = element id r facts attributes content in
      test (is_place t)
      (λ e. place-local n waiting later t e up)
      (λ e.
      let k = marked-element n id r facts attributes content h e in
      let none_own : own_id t ≡ [] =
      ap (λ b. cond b (in_line (text_of (codes "id") attributes) ∷ []) []) e in
      let here : targets_of n t ≡ targets_among every None n content =
      ap (λ xs. xs ++ targets_inside every None n t) (element-own n id r facts attributes content k.bare) ∙ k.among
      in
      test (is_verbatim r)
      (λ v. subst (λ xs. IsLocal n waiting later t xs) (sym (here ∙ k.code v))
      (leaf-local n waiting later t (code_shows content) (rw v refl) (rw v refl) (rw v refl) (rw v refl) (rw v refl)
      up from))
      (λ v.
      let counted : seen t ≡ all_seen content = ap (λ b. cond b (one_if (code_shows content)) (all_seen content)) v
      in
      let inner = trees-local content n waiting later k.marked up
      (subst (λ m. from_on (n + m) later ≡ true) counted from) in
      subst (λ xs. IsLocal n waiting later t xs) (sym here)
      (element-local n id r facts attributes content waiting later (targets_among every None n content) v none_own
      inner)))

  pub trees-local : (ts : Simples) (n : ℕ) (waiting later : List Target) → are_marked ts ≡ true
      → up_to n waiting ≡ true
      → from_on (n + all_seen ts) later ≡ true → AreLocal n waiting later ts (targets_among every None n ts)
  trees-local none n waiting later h up from = record {
    rest = waiting;
    is = refl;
    next = ap (λ m. at_place m (waiting ++ later)) (plus-none n);
    wait = refl;
    up = up-more n (n + 0) waiting (omega arith) up;
  }
  trees-local (more t ts) n waiting later h up from =
      let p = and_parts (is_marked t) (are_marked ts) h in
      let m : ℕ = n + seen t in
      let here : List Target = targets_of n t in
      let rest : List Target = targets_among every None m ts in
      let sum : m + all_seen ts ≡ n + (seen t + all_seen ts) = omega arith in
      let after : from_on (m + all_seen ts) later ≡ true = subst (λ k. from_on k later ≡ true) (sym sum) from in
      let one = tree-local t n waiting (rest ++ later) p.0 up
      (from-both m rest later (trees-from m ts p.1) (from-less m (m + all_seen ts) later (omega arith) after)) in
      let others = trees-local ts m one.rest later p.1 one.up after in
      let same : (here ++ rest) ++ later ≡ here ++ (rest ++ later) = append_assoc here rest later in
      record {
        rest = others.rest;
        is = ap (λ xs. all_placed (at_place n (waiting ++ xs)) (more t ts)) same
            ∙
            (ap (λ u. more u (all_placed (placing_after (at_place n (waiting ++ (here ++ (rest ++ later)))) t) ts))
            one.is
            ∙ (ap (λ q. more (local (values_of waiting) t) (all_placed q ts)) one.next
            ∙ (ap (more (local (values_of waiting) t)) others.is
            ∙ ap (λ ids. more (local (values_of waiting) t) (local_all ids ts)) one.wait)));
        next = ap (λ xs. placing_after_all (at_place n (waiting ++ xs)) (more t ts)) same
            ∙ (ap (λ q. placing_after_all q ts) one.next
            ∙ (others.next ∙ ap (λ k. at_place k (others.rest ++ later)) sum));
        wait = others.wait ∙ ap (λ ids. pending_all ids ts) one.wait;
        up = subst (λ k. up_to k others.rest ≡ true) sum others.up;
      }

-- ---- the page

abbrev pub last_of : List (List ℕ) → Simples
last_of [] = none
last_of (id ∷ ids) = more (apart (anchors (id ∷ ids))) none

last-same : (targets : List Target) → last_anchors targets ≡ last_of (values_of targets)
last-same [] = refl
last-same (t ∷ targets) = refl

-- where no id comes twice
pub anchored-local : (is_rich : Bool) (ts : Simples) → are_marked ts ≡ true
    → firsts (targets_among every None 0 ts) ≡ targets_among every None 0 ts
    → anchored which.All is_rich ts ≡ followed_by (local_all [] ts) (last_of (pending_all [] ts))
anchored-local is_rich ts h once =
    let all = trees-local ts 0 [] [] h refl refl in
    let found : List Target = targets_among every None 0 ts in
    let is : found ++ [] ≡ found = append-nil found in
    ap
    (λ xs. followed_by (all_placed (at_place 0 xs) ts) (last_anchors (placing_after_all (at_place 0 xs) ts).targets))
    (once ∙ sym is)
    ∙ (ap (λ us. followed_by us (last_anchors (placing_after_all (at_place 0 (found ++ [])) ts).targets)) all.is
    ∙ (ap (λ q. followed_by (local_all [] ts) (last_anchors q.targets)) all.next
    ∙ (ap (λ xs. followed_by (local_all [] ts) (last_anchors xs)) (append-nil all.rest)
    ∙ ap (λ us. followed_by (local_all [] ts) us) (last-same all.rest ∙ ap last_of all.wait))))

-- ---- without targets

leaf-alone : (b : Bool) (t : Simple) → preceded [] t ≡ t → (put_if b [] t ≡ t) × (waits b [] ≡ [])
leaf-alone true t e = (e, refl)
leaf-alone false t e = (refl, refl)

mutual
  -- where no anchors wait, such a tree stays as it is
  pub nameless-local : (t : Simple) → is_nameless t ≡ true → (local [] t ≡ t) × (pending [] t ≡ [])
  nameless-local (text s) h = leaf-alone (not (is_blank_text s)) (text s) refl
  nameless-local (image address attributes) h =
      leaf-alone (image_shows address attributes) (image address attributes) refl
  nameless-local (formula tex is_alone attributes) h = false-true h
  nameless-local (embedded id address title attributes found) h = false-true h
  nameless-local (anchor id) h = false-true h
  nameless-local (element id r facts attributes content) h =
      let t : Simple = element id r facts attributes content in
      let inside = nameless-all-local content (and_parts (has_no_name attributes) (are_nameless content) h).1 in
      let own : own_id t ≡ [] = ap (λ b. cond b (in_line (text_of (codes "id") attributes) ∷ []) [])
      (nameless-place t h)
      in
      test (is_verbatim r)
      (λ v. rw v (leaf-alone (code_shows content) t refl))
      (λ v. rw v (
        ap (λ ids. element id r facts attributes (local_all ids content)) own ∙ ap (element id r facts attributes)
            inside.0,
        ap (λ ids. pending_all ids content) own ∙ inside.1,
      ))

  pub nameless-all-local : (ts : Simples) → are_nameless ts ≡ true
      → (local_all [] ts ≡ ts) × (pending_all [] ts ≡ [])
  nameless-all-local none h = (refl, refl)
  nameless-all-local (more t ts) h =
      let p = and_parts (is_nameless t) (are_nameless ts) h in
      let one = nameless-local t p.0 in
      let others = nameless-all-local ts p.1 in (
        ap (λ u. more u (local_all (pending [] t) ts)) one.0
            ∙ (ap (λ ids. more t (local_all ids ts)) one.1 ∙ ap (more t) others.0),
        ap (λ ids. pending_all ids ts) one.1 ∙ others.1,
      )
