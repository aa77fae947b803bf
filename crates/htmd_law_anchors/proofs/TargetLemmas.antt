-- Targets: where their places are, in order; no value twice, and none empty.
use Rattle.std.proofs.Common.{◌≡◌, ℕ, ◌+◌, ◌≤◌, Bool, true, false, cond, not, ◌&&◌, ◌||◌, List, [], ◌∷◌, ◌++◌, filter, refl}
use Rattle.std.proofs.Common.{sym, ap, subst, arith, Option, Some, None}
use Rattle.std.specs.Prelude.{codes}
use Rattle.std.specs.List.{list_all, AllByRecursion, IsDistinct}
use Rattle.std.specs.Option.{unwrap_or}
use Rattle.std.specs.Str.{bytes_eq}
use Rattle.htmd_lexical.specs.AttributePairs.{AttributePair}
use Rattle.htmd_shown.specs.declared.facts.Facts.{Facts}
use Rattle.htmd_shown.specs.declared.role.Role.{Role}
use Rattle.htmd_shown.specs.Attributes.{text_of, in_line, is_filled}
use Rattle.htmd_shown.specs.Roles.{is_among, is_anchor, is_headed, is_link, is_verbatim}
use Rattle.htmd_shown.specs.SimpleTrees.{Simple, text, image, formula, embedded, anchor, element, Simples, none, more}
use Rattle.htmd_document_of_tree.specs.declared.anchors.Anchors.{Anchors}
use Rattle.htmd_document_of_tree.specs.declared.anchors.Anchors.TheVariants as which
use Rattle.htmd_document_of_tree.specs.Anchors.{values_of, targets_by}
use Rattle.htmd_document_of_tree.specs.Leadings.{all_leadings, is_linked_to, is_led_to}
use Rattle.htmd_shown.specs.Showings.{code_shows}
use Rattle.htmd_document_of_tree.specs.Seen.{one_if, seen, all_seen}
use Rattle.htmd_document_of_tree.specs.Targets.{Target, target_by, id_target, name_target, is_whole, whole_in, own_targets}
use Rattle.htmd_document_of_tree.specs.Targets.{targets_inside, targets_among, is_first, firsts_after, all_targets}
use Rattle.htmd_document_of_tree.specs.Targets.{ids_among}
use Rattle.htmd_law_documents.proofs.VisibleLemmas.{both-true}
use Rattle.htmd_law_documents.proofs.ElementLemmas.{false-true, true-false}

-- ---- places

-- places that never go back, from one to another
abbrev pub Climbs : ℕ → ℕ → List Target → Type 0
Climbs m n [] = m ≤ n
Climbs m n (t ∷ ts) = (m ≤ t.seen) × Climbs t.seen n ts

pub le-trans : (l m n : ℕ) → l ≤ m → m ≤ n → l ≤ n
le-trans l m n g h = omega arith

pub climbs-from : (l m n : ℕ) (ts : List Target) → l ≤ m → Climbs m n ts → Climbs l n ts
climbs-from l m n [] g h = le-trans l m n g h
climbs-from l m n (t ∷ ts) g h = (le-trans l m t.seen g h.0, h.1)

climbs-to : (m n o : ℕ) (ts : List Target) → n ≤ o → Climbs m n ts → Climbs m o ts
climbs-to m n o [] g h = le-trans m n o h g
climbs-to m n o (t ∷ ts) g h = (h.0, climbs-to t.seen n o ts g h.1)

climbs-append : (l m n : ℕ) (xs ys : List Target) → Climbs l m xs → Climbs m n ys → Climbs l n (xs ++ ys)
climbs-append l m n [] ys g h = climbs-from l m n ys g h
climbs-append l m n (t ∷ xs) ys g h = (g.0, climbs-append t.seen m n xs ys g.1 h)

pub le-itself : (n : ℕ) → n ≤ n
le-itself n = omega arith

one-climbs : (b : Bool) (n : ℕ) (is_name : Bool) (s : List ℕ)
    → Climbs n n (cond b (record { value = s; is_name = is_name; seen = n } ∷ []) [])
one-climbs true n is_name s = (le-itself n, le-itself n)
one-climbs false n is_name s = le-itself n

module _ (counts : List ℕ → Bool) where
  by-climbs : (n : ℕ) (is_name : Bool) (s : List ℕ) → Climbs n n (target_by counts n is_name s)
  by-climbs n is_name s = one-climbs (is_filled (in_line s) && counts (in_line s)) n is_name (in_line s)

  name-climbs : (n : ℕ) (r : Role) (attributes : List AttributePair)
      → Climbs n n (name_target counts n r attributes)
  name-climbs n r attributes = either (is_anchor r)
    where
      either : (b : Bool)
          → Climbs n n (cond b (target_by counts n true (text_of (codes "name") attributes)) [])
      either true = by-climbs n true (text_of (codes "name") attributes)
      either false = le-itself n

  pub own-climbs : (n : ℕ) (t : Simple) → Climbs n n (own_targets counts n t)
  own-climbs n (text s) = le-itself n
  own-climbs n (image address attributes) = by-climbs n false (text_of (codes "id") attributes)
  own-climbs n (formula tex is_alone attributes) = by-climbs n false (text_of (codes "id") attributes)
  own-climbs n (embedded id address title attributes found) = by-climbs n false (text_of (codes "id") attributes)
  own-climbs n (anchor id) = le-itself n
  own-climbs n (element id r facts attributes content) =
      climbs-append n n n (id_target counts n attributes) (name_target counts n r attributes)
      (by-climbs n false (text_of (codes "id") attributes)) (name-climbs n r attributes)

  -- in a whole all places are its own
  later : (whole : Option ℕ) (n k : ℕ) → unwrap_or whole n ≤ unwrap_or whole (n + k)
  later None n k = omega arith
  later (Some m) n k = le-itself m

  as-many : (whole : Option ℕ) (n k l : ℕ) → k ≡ l → unwrap_or whole (n + k) ≤ unwrap_or whole (n + l)
  as-many whole n k l e =
      subst (λ (j : ℕ). unwrap_or whole (n + k) ≤ unwrap_or whole (n + j)) e (le-itself (unwrap_or whole (n + k)))

  no-verbatim : (r : Role) (facts : Facts) (id : ℕ) (attributes : List AttributePair) (content : Simples)
      → is_whole r ≡ false → all_seen content ≡ seen (element id r facts attributes content)
  no-verbatim r facts id attributes content e =
      sym (ap (λ b. cond b (one_if (code_shows content)) (all_seen content))
      (last-false (is_link r || is_headed r) (is_verbatim r) e))
    where
      last-false : (a b : Bool) → (a || b) ≡ false → b ≡ false
      last-false true b e = true-false e
      last-false false b e = e

  assoc : (whole : Option ℕ) (n k l : ℕ) → unwrap_or whole ((n + k) + l) ≤ unwrap_or whole (n + (k + l))
  assoc None n k l = omega arith
  assoc (Some m) n k l = le-itself m

  mutual
    pub inside-climbs : (t : Simple) (whole : Option ℕ) (n : ℕ)
        → Climbs (unwrap_or whole n) (unwrap_or whole (n + seen t)) (targets_inside counts whole n t)
    inside-climbs (text s) whole n = later whole n (seen (text s))
    inside-climbs (image address attributes) whole n = later whole n (seen (image address attributes))
    inside-climbs (formula tex is_alone attributes) whole n = later whole n 1
    inside-climbs (embedded id address title attributes found) whole n = later whole n 1
    inside-climbs (anchor id) whole n = later whole n 0
    inside-climbs (element id r facts attributes content) whole n =
        either (is_whole r) refl (λ w. among-climbs content w n)
      where
        s : ℕ
        s = seen (element id r facts attributes content)

        either : (b : Bool) → is_whole r ≡ b
            → ((w : Option ℕ) → Climbs (unwrap_or w n) (unwrap_or w (n + all_seen content))
            (targets_among counts w n content))
            → Climbs (unwrap_or whole n) (unwrap_or whole (n + s))
            (targets_among counts (cond b (Some (unwrap_or whole n)) whole) n content)
        either true e h =
            climbs-to (unwrap_or whole n) (unwrap_or whole n) (unwrap_or whole (n + s))
            (targets_among counts (Some (unwrap_or whole n)) n content) (later whole n s) (h (Some (unwrap_or whole n)))
        either false e h =
            climbs-to (unwrap_or whole n) (unwrap_or whole (n + all_seen content)) (unwrap_or whole (n + s))
            (targets_among counts whole n content)
            (as-many whole n (all_seen content) s (no-verbatim r facts id attributes content e)) (h whole)

    pub among-climbs : (ts : Simples) (whole : Option ℕ) (n : ℕ)
        → Climbs (unwrap_or whole n) (unwrap_or whole (n + all_seen ts)) (targets_among counts whole n ts)
    among-climbs none whole n = later whole n 0
    among-climbs (more t ts) whole n =
        let from : ℕ = unwrap_or whole n in
        let middle : ℕ = unwrap_or whole (n + seen t) in
        let until : ℕ = unwrap_or whole ((n + seen t) + all_seen ts) in
        let own : List Target = own_targets counts from t in
        let within : List Target = targets_inside counts whole n t in
        let rest : List Target = targets_among counts whole (n + seen t) ts in
        climbs-to from until (unwrap_or whole (n + (seen t + all_seen ts))) ((own ++ within) ++ rest)
        (assoc whole n (seen t) (all_seen ts))
        (climbs-append from middle until (own ++ within) rest
        (climbs-append from from middle own within (own-climbs from t) (inside-climbs t whole n))
        (among-climbs ts whole (n + seen t)))

climbs-either : (b : Bool) (l n : ℕ) (ts us : List Target) → Climbs l n ts → Climbs l n us
    → Climbs l n (cond b ts us)
climbs-either true l n ts us g h = g
climbs-either false l n ts us g h = h

firsts-climb : (found : List Target) (ids known : List (List ℕ)) (l n : ℕ) → Climbs l n found
    → Climbs l n (firsts_after ids known found)
firsts-climb [] ids known l n h = h
firsts-climb (t ∷ found) ids known l n h =
    climbs-either (is_first ids known t) l n (t ∷ firsts_after ids (t.value ∷ known) found)
    (firsts_after ids known found)
    (h.0, firsts-climb found ids (t.value ∷ known) t.seen n h.1)
    (firsts-climb found ids known l n (climbs-from l t.seen n found h.0 h.1))

filter-climbs : (p : Target → Bool) (ts : List Target) (l n : ℕ) → Climbs l n ts → Climbs l n (filter p ts)
filter-climbs p [] l n h = h
filter-climbs p (t ∷ ts) l n h =
    climbs-either (p t) l n (t ∷ filter p ts) (filter p ts) (h.0, filter-climbs p ts t.seen n h.1)
    (filter-climbs p ts l n (climbs-from l t.seen n ts h.0 h.1))

-- ---- values

abbrev pub AreFilled : List Target → Type 0
AreFilled ts = list_all is_filled (values_of ts) ≡ true

join-true : (a b : Bool) → a ≡ true → b ≡ true → (a && b) ≡ true
join-true true b g h = h
join-true false b g h = false-true g

filled-append : (xs ys : List Target) → AreFilled xs → AreFilled ys → AreFilled (xs ++ ys)
filled-append [] ys g h = h
filled-append (t ∷ xs) ys g h =
    let parts = both-true (is_filled t.value) (list_all is_filled (values_of xs)) g in
    join-true (is_filled t.value) (list_all is_filled (values_of (xs ++ ys))) parts.0 (filled-append xs ys parts.1 h)

one-filled : (b : Bool) (t : Target) → (b ≡ true → is_filled t.value ≡ true)
    → AreFilled (cond b (t ∷ []) [])
one-filled true t h = ap (λ b. b && true) (h refl)
one-filled false t h = refl

filled-either : (b : Bool) (ts us : List Target) → AreFilled ts → AreFilled us → AreFilled (cond b ts us)
filled-either true ts us g h = g
filled-either false ts us g h = h

module _ (counts : List ℕ → Bool) where
  by-filled : (n : ℕ) (is_name : Bool) (s : List ℕ) → AreFilled (target_by counts n is_name s)
  by-filled n is_name s =
      one-filled (is_filled (in_line s) && counts (in_line s))
      (record { value = in_line s; is_name = is_name; seen = n })
      (λ e. (both-true (is_filled (in_line s)) (counts (in_line s)) e).0)

  own-filled : (n : ℕ) (t : Simple) → AreFilled (own_targets counts n t)
  own-filled n (text s) = refl
  own-filled n (image address attributes) = by-filled n false (text_of (codes "id") attributes)
  own-filled n (formula tex is_alone attributes) = by-filled n false (text_of (codes "id") attributes)
  own-filled n (embedded id address title attributes found) = by-filled n false (text_of (codes "id") attributes)
  own-filled n (anchor id) = refl
  own-filled n (element id r facts attributes content) =
      filled-append (id_target counts n attributes) (name_target counts n r attributes)
      (by-filled n false (text_of (codes "id") attributes))
      (filled-either (is_anchor r) (target_by counts n true (text_of (codes "name") attributes)) []
      (by-filled n true (text_of (codes "name") attributes)) refl)

  mutual
    inside-filled : (t : Simple) (whole : Option ℕ) (n : ℕ) → AreFilled (targets_inside counts whole n t)
    inside-filled (text s) whole n = refl
    inside-filled (image address attributes) whole n = refl
    inside-filled (formula tex is_alone attributes) whole n = refl
    inside-filled (embedded id address title attributes found) whole n = refl
    inside-filled (anchor id) whole n = refl
    inside-filled (element id r facts attributes content) whole n = among-filled content (whole_in whole n r) n

    among-filled : (ts : Simples) (whole : Option ℕ) (n : ℕ) → AreFilled (targets_among counts whole n ts)
    among-filled none whole n = refl
    among-filled (more t ts) whole n =
        let own : List Target = own_targets counts (unwrap_or whole n) t in
        let within : List Target = targets_inside counts whole n t in
        filled-append (own ++ within) (targets_among counts whole (n + seen t) ts)
        (filled-append own within (own-filled (unwrap_or whole n) t) (inside-filled t whole n))
        (among-filled ts whole (n + seen t))

firsts-filled : (found : List Target) (ids known : List (List ℕ)) → AreFilled found
    → AreFilled (firsts_after ids known found)
firsts-filled [] ids known h = refl
firsts-filled (t ∷ found) ids known h =
    let parts = both-true (is_filled t.value) (list_all is_filled (values_of found)) h in
    let rest : List Target = firsts_after ids (t.value ∷ known) found in
    filled-either (is_first ids known t) (t ∷ rest) (firsts_after ids known found)
    (join-true (is_filled t.value) (list_all is_filled (values_of rest)) parts.0
    (firsts-filled found ids (t.value ∷ known) parts.1))
    (firsts-filled found ids known parts.1)

filter-filled : (p : Target → Bool) (ts : List Target) → AreFilled ts → AreFilled (filter p ts)
filter-filled p [] h = refl
filter-filled p (t ∷ ts) h =
    let parts = both-true (is_filled t.value) (list_all is_filled (values_of ts)) h in
    filled-either (p t) (t ∷ filter p ts) (filter p ts)
    (join-true (is_filled t.value) (list_all is_filled (values_of (filter p ts))) parts.0 (filter-filled p ts parts.1))
    (filter-filled p ts parts.1)

-- ---- no value twice

-- none of them is among those known
abbrev AreNew : List (List ℕ) → List Target → Type 0
AreNew known [] = Unit {0}
AreNew known (t ∷ ts) = (is_among known t.value ≡ false) × AreNew known ts

neither : (a b : Bool) → (a || b) ≡ false → (a ≡ false) × (b ≡ false)
neither true b e = true-false e
neither false b e = (refl, e)

new-without : (s : List ℕ) (known : List (List ℕ)) (ts : List Target) → AreNew (s ∷ known) ts
    → AreNew known ts
new-without s known [] h = tt
new-without s known (t ∷ ts) h =
    ((neither (bytes_eq s t.value) (is_among known t.value) h.0).1, new-without s known ts h.1)

-- a value is none of theirs
abbrev IsAbsent : List ℕ → List Target → Type 0
IsAbsent s ts = AllByRecursion (λ (other : List ℕ). bytes_eq s other ≡ false) (values_of ts)

new-absent : (s : List ℕ) (known : List (List ℕ)) (ts : List Target) → AreNew (s ∷ known) ts → IsAbsent s ts
new-absent s known [] h = tt
new-absent s known (t ∷ ts) h =
    ((neither (bytes_eq s t.value) (is_among known t.value) h.0).0, new-absent s known ts h.1)

abbrev pub AreUnique : List Target → Type 0
AreUnique ts = IsDistinct bytes_eq (values_of ts)

-- a new one before others
record IsNewList (known : List (List ℕ)) (ts : List Target) : Type 0 where
  new : AreNew known ts
  unique : AreUnique ts

new-either : (b : Bool) (known : List (List ℕ)) (ts us : List Target) → (b ≡ true → IsNewList known ts)
    → IsNewList known us → IsNewList known (cond b ts us)
new-either true known ts us g h = g refl
new-either false known ts us g h = h

not-true : (b : Bool) → not b ≡ true → b ≡ false
not-true true e = false-true e
not-true false e = refl

firsts-new : (found : List Target) (ids known : List (List ℕ)) → IsNewList known (firsts_after ids known found)
unfolding IsDistinct
firsts-new [] ids known = record { new = tt; unique = tt }
firsts-new (t ∷ found) ids known =
    let rest : List Target = firsts_after ids (t.value ∷ known) found in
    let h : IsNewList (t.value ∷ known) rest = firsts-new found ids (t.value ∷ known) in
    new-either (is_first ids known t) known (t ∷ rest) (firsts_after ids known found)
    (λ e. record {
      new = (
        not-true (is_among known t.value)
            (both-true (not (is_among known t.value)) (not (t.is_name && is_among ids t.value)) e).0,
        new-without t.value known rest h.new,
      );
      unique = (new-absent t.value known rest h.new, h.unique);
    })
    (firsts-new found ids known)

filter-absent : (p : Target → Bool) (s : List ℕ) (ts : List Target) → IsAbsent s ts → IsAbsent s (filter p ts)
filter-absent p s [] h = tt
filter-absent p s (t ∷ ts) h = either (p t) (filter p ts) (filter-absent p s ts h.1)
  where
    either : (b : Bool) (us : List Target) → IsAbsent s us → IsAbsent s (cond b (t ∷ us) us)
    either true us k = (h.0, k)
    either false us k = k

filter-unique : (p : Target → Bool) (ts : List Target) → AreUnique ts → AreUnique (filter p ts)
unfolding IsDistinct
filter-unique p [] h = tt
filter-unique p (t ∷ ts) h =
    either (p t) (filter p ts) (filter-absent p t.value ts h.0) (filter-unique p ts h.1)
  where
    either : (b : Bool) (us : List Target) → IsAbsent t.value us → AreUnique us → AreUnique (cond b (t ∷ us) us)
    either true us g k = (g, k)
    either false us g k = k

-- ---- all of them

-- what is known of targets
pub record AreTargets (ts : List Target) : Type 0 where
  pub until : ℕ
  pub climb : Climbs 0 until ts
  pub unique : AreUnique ts
  pub filled : AreFilled ts

all-good : (counts : List ℕ → Bool) (ts : Simples) → AreTargets (all_targets counts ts)
all-good counts ts =
    let found : List Target = targets_among counts None 0 ts in
    record {
      until = 0 + all_seen ts;
      climb = firsts-climb found (ids_among found) [] 0 (0 + all_seen ts) (among-climbs counts ts None 0);
      unique = (firsts-new found (ids_among found) []).unique;
      filled = firsts-filled found (ids_among found) [] (among-filled counts ts None 0);
    }

filter-good : (p : Target → Bool) (ts : List Target) → AreTargets ts → AreTargets (filter p ts)
filter-good p ts h = record {
  until = h.until;
  climb = filter-climbs p ts 0 h.until h.climb;
  unique = filter-unique p ts h.unique;
  filled = filter-filled p ts h.filled;
}

pub targets-good : (a : Anchors) (rich : Bool) (ts : Simples) → AreTargets (targets_by a rich ts)
unfolding IsDistinct
targets-good which.Linked rich ts =
    filter-good (λ (t : Target). is_led_to (all_leadings rich ts) t.value t.seen)
    (all_targets (is_linked_to (all_leadings rich ts)) ts) (all-good (is_linked_to (all_leadings rich ts)) ts)
targets-good which.All rich ts = all-good (λ s. true) ts
targets-good which.None rich ts = record { until = 0; climb = le-itself 0; unique = tt; filled = refl }
