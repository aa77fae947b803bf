-- By links alone the targets are those of all that a link leads to, and not only from their own heading.
use Rattle.std.proofs.Common.{◌≡◌, ℕ, ◌+◌, Bool, true, false, cond, not, ◌&&◌, ◌||◌, List, [], ◌∷◌, ◌++◌, filter, map, refl}
use Rattle.std.proofs.Common.{sym, ap, ◌∙◌, Option, None}
use Rattle.std.specs.Prelude.{codes}
use Rattle.std.specs.Option.{unwrap_or}
use Rattle.std.specs.Str.{bytes_eq}
use Rattle.std.proofs.lemmas.List.Elements.{filter-append}
use Rattle.htmd_lexical.specs.AttributePairs.{AttributePair}
use Rattle.htmd_lexical.proofs.BytesLemmas.{same_bytes}
use Rattle.htmd_lexical.proofs.Cases.{test}
use Rattle.htmd_shown.specs.declared.role.Role.{Role}
use Rattle.htmd_shown.specs.Attributes.{text_of, in_line, is_filled}
use Rattle.htmd_shown.specs.Roles.{is_among, is_anchor}
use Rattle.htmd_shown.specs.SimpleTrees.{Simple, text, image, formula, embedded, anchor, element, Simples, none, more}
use Rattle.htmd_document_of_tree.specs.Leadings.{Leading, all_leadings, is_linked_to, is_in, is_led_to}
use Rattle.htmd_document_of_tree.specs.Seen.{seen}
use Rattle.htmd_document_of_tree.specs.Targets.{Target, target_by, id_target, name_target, whole_in, own_targets}
use Rattle.htmd_document_of_tree.specs.Targets.{targets_inside, targets_among, ids_among, is_first, firsts_after, all_targets}
use Rattle.htmd_law_anchors.specs.AnchorLaws.{LinkedAreLedTo}
use Rattle.htmd_law_documents.proofs.ElementLemmas.{true-false}

module _ (counts : List ℕ → Bool) where
  abbrev target_counts : Target → Bool
  target_counts t = counts t.value

  abbrev counted : List Target → List Target
  counted ts = filter target_counts ts

  abbrev any : List ℕ → Bool
  any s = true

  -- ---- the targets whose values count

  one-counted : (filled c : Bool) (t : Target) → counts t.value ≡ c
      → cond (filled && c) (t ∷ []) [] ≡ counted (cond (filled && true) (t ∷ []) [])
  one-counted true c t e = sym (ap (λ b. cond b (t ∷ []) []) e)
  one-counted false c t e = refl

  by-counted : (n : ℕ) (is_name : Bool) (s : List ℕ)
      → target_by counts n is_name s ≡ counted (target_by any n is_name s)
  by-counted n is_name s =
      one-counted (is_filled (in_line s)) (counts (in_line s))
      (record { value = in_line s; is_name = is_name; seen = n }) refl

  name-counted : (n : ℕ) (r : Role) (attributes : List AttributePair)
      → name_target counts n r attributes ≡ counted (name_target any n r attributes)
  name-counted n r attributes = either (is_anchor r)
    where
      either : (b : Bool)
          → cond b (target_by counts n true (text_of (codes "name") attributes)) []
          ≡ counted (cond b (target_by any n true (text_of (codes "name") attributes)) [])
      either true = by-counted n true (text_of (codes "name") attributes)
      either false = refl

  both-counted : (xs ys us vs : List Target) → xs ≡ counted us → ys ≡ counted vs
      → xs ++ ys ≡ counted (us ++ vs)
  both-counted xs ys us vs g h =
      ap (λ x. x ++ ys) g ∙ (ap (λ y. counted us ++ y) h ∙ sym (filter-append target_counts us vs))

  own-counted : (n : ℕ) (t : Simple) → own_targets counts n t ≡ counted (own_targets any n t)
  own-counted n (text s) = refl
  own-counted n (image address attributes) = by-counted n false (text_of (codes "id") attributes)
  own-counted n (formula tex is_alone attributes) = by-counted n false (text_of (codes "id") attributes)
  own-counted n (embedded id address title attributes found) = by-counted n false (text_of (codes "id") attributes)
  own-counted n (anchor id) = refl
  own-counted n (element id r facts attributes content) =
      both-counted (id_target counts n attributes) (name_target counts n r attributes) (id_target any n attributes)
      (name_target any n r attributes) (by-counted n false (text_of (codes "id") attributes))
      (name-counted n r attributes)

  mutual
    inside-counted : (t : Simple) (whole : Option ℕ) (n : ℕ)
        → targets_inside counts whole n t ≡ counted (targets_inside any whole n t)
    inside-counted (text s) whole n = refl
    inside-counted (image address attributes) whole n = refl
    inside-counted (formula tex is_alone attributes) whole n = refl
    inside-counted (embedded id address title attributes found) whole n = refl
    inside-counted (anchor id) whole n = refl
    inside-counted (element id r facts attributes content) whole n = among-counted content (whole_in whole n r) n

    among-counted : (ts : Simples) (whole : Option ℕ) (n : ℕ)
        → targets_among counts whole n ts ≡ counted (targets_among any whole n ts)
    among-counted none whole n = refl
    among-counted (more t ts) whole n =
        let own : List Target = own_targets any (unwrap_or whole n) t in
        let within : List Target = targets_inside any whole n t in
        both-counted (own_targets counts (unwrap_or whole n) t ++ targets_inside counts whole n t)
        (targets_among counts whole (n + seen t) ts) (own ++ within) (targets_among any whole (n + seen t) ts)
        (both-counted (own_targets counts (unwrap_or whole n) t) (targets_inside counts whole n t) own within
        (own-counted (unwrap_or whole n) t) (inside-counted t whole n))
        (among-counted ts whole (n + seen t))

  -- ---- the first of each value

  -- another value
  other-value : (n v : List ℕ) → counts v ≡ true → counts n ≡ false → bytes_eq n v ≡ false
  other-value n v c e = test (bytes_eq n v)
      (λ h. true-false (sym c ∙ (sym (ap counts (same_bytes n v h)) ∙ e)))
      (λ h. h)

  among-same : (names : List (List ℕ)) (v : List ℕ) → counts v ≡ true
      → is_among (filter counts names) v ≡ is_among names v
  among-same [] v c = refl
  among-same (n ∷ names) v c =
      test (counts n)
      (λ e. ap (λ b. is_among (cond b (n ∷ filter counts names) (filter counts names)) v) e
      ∙ ap (λ b. bytes_eq n v || b) (among-same names v c))
      (λ e. ap (λ b. is_among (cond b (n ∷ filter counts names) (filter counts names)) v) e
      ∙ (among-same names v c ∙ sym (ap (λ b. b || is_among names v) (other-value n v c e))))

  ids-same : (found : List Target) → ids_among (counted found) ≡ filter counts (ids_among found)
  ids-same [] = refl
  ids-same (t ∷ found) = either (counts t.value) t.is_name refl refl (ids-same found)
    where
      either : (c n : Bool) → counts t.value ≡ c → t.is_name ≡ n
          → ids_among (counted found) ≡ filter counts (ids_among found)
          → ids_among (cond c (t ∷ counted found) (counted found))
          ≡ filter counts (map (λ (x : Target). x.value)
          (cond (not n) (t ∷ filter (λ (x : Target). not x.is_name) found)
          (filter (λ (x : Target). not x.is_name) found)))
      either true true e f h =
          ap (λ b. map (λ (x : Target). x.value)
          (cond (not b) (t ∷ filter (λ (x : Target). not x.is_name) (counted found))
          (filter (λ (x : Target). not x.is_name) (counted found)))) f
          ∙ h
      either true false e f h =
          ap (λ b. map (λ (x : Target). x.value)
          (cond (not b) (t ∷ filter (λ (x : Target). not x.is_name) (counted found))
          (filter (λ (x : Target). not x.is_name) (counted found)))) f
          ∙ (ap (λ xs. t.value ∷ xs) (h)
          ∙ sym (ap (λ b. cond b (t.value ∷ filter counts (ids_among found)) (filter counts (ids_among found))) e))
      either false true e f h = h
      either false false e f h =
          h
          ∙ sym (ap (λ b. cond b (t.value ∷ filter counts (ids_among found)) (filter counts (ids_among found))) e)

  firsts-counted : (found : List Target) (ids known : List (List ℕ))
      → firsts_after (filter counts ids) (filter counts known) (counted found)
      ≡ counted (firsts_after ids known found)
  firsts-counted [] ids known = refl
  firsts-counted (t ∷ found) ids known =
      let next = λ (ks : List (List ℕ)). firsts-counted found ids ks in
      test (counts t.value) (λ c. counts-here next c) (λ c. counts-not next c)
    where
      Next : Type 0
      Next = (ks : List (List ℕ)) → firsts_after (filter counts ids) (filter counts ks) (counted found)
          ≡ counted (firsts_after ids ks found)

      ids' : List (List ℕ)
      ids' = filter counts ids

      known' : List (List ℕ)
      known' = filter counts known

      rest : List Target
      rest = firsts_after ids (t.value ∷ known) found

      others : List Target
      others = firsts_after ids known found

      counts-here : Next → counts t.value ≡ true
          → firsts_after ids' known' (counted (t ∷ found)) ≡ counted (firsts_after ids known (t ∷ found))
      counts-here next c =
          ap (λ b. firsts_after ids' known' (cond b (t ∷ counted found) (counted found))) c
          ∙ (ap (λ b. cond (not b && not (t.is_name && is_among ids' t.value))
          (t ∷ firsts_after ids' (t.value ∷ known') (counted found)) (firsts_after ids' known' (counted found)))
          (among-same known t.value c)
          ∙ (ap (λ b. cond (not (is_among known t.value) && not (t.is_name && b))
          (t ∷ firsts_after ids' (t.value ∷ known') (counted found)) (firsts_after ids' known' (counted found)))
          (among-same ids t.value c)
          ∙ either (is_first ids known t)))
        where
          either : (b : Bool)
              → cond b (t ∷ firsts_after ids' (t.value ∷ known') (counted found))
              (firsts_after ids' known' (counted found)) ≡ counted (cond b (t ∷ rest) others)
          either true =
              ap (λ xs. t ∷ xs)
              (ap (λ b. firsts_after ids' (cond b (t.value ∷ known') known') (counted found)) (sym c)
              ∙ next (t.value ∷ known))
              ∙ sym (ap (λ b. cond b (t ∷ counted rest) (counted rest)) c)
          either false = next known

      counts-not : Next → counts t.value ≡ false
          → firsts_after ids' known' (counted (t ∷ found)) ≡ counted (firsts_after ids known (t ∷ found))
      counts-not next c =
          ap (λ b. firsts_after ids' known' (cond b (t ∷ counted found) (counted found))) c
          ∙ either (is_first ids known t)
        where
          either : (b : Bool) → firsts_after ids' known' (counted found) ≡ counted (cond b (t ∷ rest) others)
          either true =
              ap (λ b. firsts_after ids' (cond b (t.value ∷ known') known') (counted found)) (sym c)
              ∙ (next (t.value ∷ known)
              ∙ sym (ap (λ b. cond b (t ∷ counted rest) (counted rest)) c))
          either false = next known

  all-counted : (ts : Simples) → all_targets counts ts ≡ counted (all_targets any ts)
  all-counted ts =
      let found : List Target = targets_among any None 0 ts in
      ap (λ xs. firsts_after (ids_among xs) [] xs) (among-counted ts None 0)
      ∙ (ap (λ ids. firsts_after ids [] (counted found)) (ids-same found)
      ∙ firsts-counted found (ids_among found) [])

-- ---- the targets that links lead to

-- it is one of those that any link leads to
led-linked : (leadings : List Leading) (s : List ℕ) (n : ℕ) → is_led_to leadings s n ≡ true
    → is_linked_to leadings s ≡ true
led-linked [] s n e = e
led-linked (l ∷ leadings) s n e =
    either (bytes_eq l.to s) (not (is_in l.heading n)) (is_led_to leadings s n) (is_linked_to leadings s) e
    (λ h. led-linked leadings s n h)
  where
    either : (a b c d : Bool) → ((a && b) || c) ≡ true → (c ≡ true → d ≡ true) → (a || d) ≡ true
    either true b c d e h = refl
    either false b c d e h = h e

filter-twice : (p q : Target → Bool) → ((t : Target) → p t ≡ true → q t ≡ true) → (ts : List Target)
    → filter p (filter q ts) ≡ filter p ts
filter-twice p q h [] = refl
filter-twice p q h (t ∷ ts) = test (q t)
    (λ e. ap (λ b. filter p (cond b (t ∷ filter q ts) (filter q ts))) e
    ∙ ap (λ xs. cond (p t) (t ∷ xs) xs) (filter-twice p q h ts))
    (λ e. ap (λ b. filter p (cond b (t ∷ filter q ts) (filter q ts))) e
    ∙ (filter-twice p q h ts ∙ sym (ap (λ b. cond b (t ∷ filter p ts) (filter p ts)) (no e))))
  where
    no : q t ≡ false → p t ≡ false
    no e = test (p t) (λ k. true-false (sym (h t k) ∙ e)) (λ k. k)

pub linked_targets : LinkedAreLedTo
linked_targets rich trees =
    let leadings : List Leading = all_leadings rich trees in
    ap (λ xs. filter (λ (t : Target). is_led_to leadings t.value t.seen) xs)
    (all-counted (is_linked_to leadings) trees)
    ∙ filter-twice (λ (t : Target). is_led_to leadings t.value t.seen)
    (λ (t : Target). is_linked_to leadings t.value) (λ t e. led-linked leadings t.value t.seen e)
    (all_targets (λ s. true) trees)
