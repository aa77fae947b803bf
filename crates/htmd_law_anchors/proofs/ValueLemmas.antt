-- Each value of a page is that of a target.
use Rattle.std.proofs.Common.{◌≡◌, ℕ, Bool, true, false, cond, not, ◌&&◌, ◌||◌, List, [], ◌∷◌, filter, map, refl, sym, ap, ◌∙◌}
use Rattle.std.proofs.Common.{subst, None}
use Rattle.std.specs.Str.{bytes_eq}
use Rattle.htmd_lexical.proofs.BytesLemmas.{same_bytes}
use Rattle.htmd_lexical.proofs.Cases.{test}
use Rattle.htmd_shown.specs.Roles.{is_among}
use Rattle.htmd_document_of_tree.specs.Anchors.{values_of}
use Rattle.htmd_document_of_tree.specs.Targets.{Target, targets_among, ids_among, is_first, firsts_after}
use Rattle.htmd_law_documents.proofs.VisibleLemmas.{both-true}
use Rattle.htmd_law_documents.proofs.ElementLemmas.{false-true, true-false}
use Rattle.htmd_law_anchors.specs.AnchorLaws.{EachValueHasTarget}

module _ (v : List ℕ) where
  abbrev Among : List (List ℕ) → Type 0
  Among names = is_among names v ≡ true

  or-right : (a b : Bool) → b ≡ true → (a || b) ≡ true
  or-right true b h = refl
  or-right false b h = h

  -- it is among the rest
  past : (s : List ℕ) (names : List (List ℕ)) → bytes_eq s v ≡ false → Among (s ∷ names) → Among names
  past s names e h = sym (ap (λ b. b || is_among names v) e) ∙ h

  front : (s : List ℕ) (names : List (List ℕ)) → bytes_eq s v ≡ true → Among (s ∷ names)
  front s names e = ap (λ b. b || is_among names v) e

  abbrev others : List Target → List Target
  others found = filter (λ (t : Target). not t.is_name) found

  abbrev ids_with : Bool → Target → List Target → List (List ℕ)
  ids_with is_name t found = map (λ (x : Target). x.value) (cond (not is_name) (t ∷ others found) (others found))

  ids-past : (is_name : Bool) (t : Target) (found : List Target) → bytes_eq t.value v ≡ false
      → Among (ids_with is_name t found) → Among (ids_among found)
  ids-past true t found e h = h
  ids-past false t found e h = past t.value (ids_among found) e h

  -- an id is a value
  either-value : (is_name : Bool) (t : Target) (found : List Target)
      → (Among (ids_among found) → Among (values_of found)) → Among (ids_with is_name t found)
      → Among (values_of (t ∷ found))
  either-value true t found next h = or-right (bytes_eq t.value v) (is_among (values_of found) v) (next h)
  either-value false t found next h = test (bytes_eq t.value v)
      (λ e. front t.value (values_of found) e)
      (λ e. or-right (bytes_eq t.value v) (is_among (values_of found) v) (next (past t.value (ids_among found) e h)))

  ids-values : (found : List Target) → Among (ids_among found) → Among (values_of found)
  ids-values [] h = h
  ids-values (t ∷ found) h = either-value t.is_name t found (λ k. ids-values found k) h

  module _ (ids : List (List ℕ)) where
    -- it is no id, or one that comes, or known
    data Comes (known : List (List ℕ)) (found : List Target) : Type 0 where
      no_id : is_among ids v ≡ false → Comes known found
      an_id : Among (ids_among found) → Comes known found
      is_known : Among known → Comes known found

    data Kept (known : List (List ℕ)) (result : List Target) : Type 0 where
      before : Among known → Kept known result
      now : Among (values_of result) → Kept known result

    abbrev IsKept : List Target → Type 0
    IsKept found = (known : List (List ℕ)) → Among (values_of found) → Comes known found
        → Kept known (firsts_after ids known found)

    -- another value before
    comes-later : (t : Target) (found : List Target) (known more : List (List ℕ)) → bytes_eq t.value v ≡ false
        → (Among known → Among more) → Comes known (t ∷ found) → Comes more found
    comes-later t found known more e f (no_id h) = no_id h
    comes-later t found known more e f (an_id h) = an_id (ids-past t.is_name t found e h)
    comes-later t found known more e f (is_known h) = is_known (f h)

    kept-later : (t : Target) (known : List (List ℕ)) (result : List Target) → bytes_eq t.value v ≡ false
        → Kept (t.value ∷ known) result → Kept known (t ∷ result)
    kept-later t known result e (before h) = before (past t.value known e h)
    kept-later t known result e (now h) =
        now (or-right (bytes_eq t.value v) (is_among (values_of result) v) h)

    other-kept : (b : Bool) (t : Target) (found : List Target) (known : List (List ℕ))
        → bytes_eq t.value v ≡ false
        → IsKept found → Among (values_of (t ∷ found)) → Comes known (t ∷ found)
        → Kept known (cond b (t ∷ firsts_after ids (t.value ∷ known) found) (firsts_after ids known found))
    other-kept true t found known e next i c =
        kept-later t known (firsts_after ids (t.value ∷ known) found) e
        (next (t.value ∷ known) (past t.value (values_of found) e i)
        (comes-later t found known (t.value ∷ known) e
        (λ h. or-right (bytes_eq t.value v) (is_among known v) h) c))
    other-kept false t found known e next i c =
        next known (past t.value (values_of found) e i) (comes-later t found known known e (λ h. h) c)

    -- a name that is an id too
    name-kept : (t : Target) (found : List Target) (known : List (List ℕ)) → t.is_name ≡ true → Among ids
        → IsKept found → Comes known (t ∷ found) → Kept known (firsts_after ids known found)
    name-kept t found known n m next (no_id h) = true-false (sym m ∙ h)
    name-kept t found known n m next (an_id h) =
        let i : Among (ids_among found) = subst (λ (b : Bool). Among (ids_with b t found)) n h in
        next known (ids-values found i) (an_id i)
    name-kept t found known n m next (is_known h) = before h

    not-false : (b : Bool) → not b ≡ false → b ≡ true
    not-false true e = refl
    not-false false e = true-false e

    same-kept : (b : Bool) (t : Target) (found : List Target) (known : List (List ℕ)) → is_first ids known t ≡ b
        → bytes_eq t.value v ≡ true → IsKept found → Comes known (t ∷ found)
        → Kept known (cond b (t ∷ firsts_after ids (t.value ∷ known) found) (firsts_after ids known found))
    same-kept true t found known f e next c =
        now (front t.value (values_of (firsts_after ids (t.value ∷ known) found)) e)
    same-kept false t found known f e next c =
        let same : t.value ≡ v = same_bytes t.value v e in
        test (is_among known t.value)
        (λ h. before (subst (λ (s : List ℕ). is_among known s ≡ true) same h))
        (λ h.
        let both = both-true t.is_name (is_among ids t.value)
        (not-false (t.is_name && is_among ids t.value)
        (sym (ap (λ b. not b && not (t.is_name && is_among ids t.value)) h) ∙ f)) in
        name-kept t found known both.0 (subst (λ (s : List ℕ). is_among ids s ≡ true) same both.1) next c)

    kept : (found : List Target) → IsKept found
    kept [] known i c = false-true i
    kept (t ∷ found) known i c = test (bytes_eq t.value v)
        (λ e. same-kept (is_first ids known t) t found known refl e (λ k j d. kept found k j d) c)
        (λ e. other-kept (is_first ids known t) t found known e (λ k j d. kept found k j d) i c)

  -- nothing is known at first
  at-last : (ids : List (List ℕ)) (result : List Target) → Kept ids [] result → Among (values_of result)
  at-last ids result (before h) = false-true h
  at-last ids result (now h) = h

  comes : (ids : List (List ℕ)) (found : List Target) → ids ≡ ids_among found → Comes ids [] found
  comes ids found e = test (is_among ids v)
      (λ h. an_id (subst (λ (names : List (List ℕ)). Among names) e h))
      (λ h. no_id h)

pub each_value : EachValueHasTarget
each_value rich trees v h =
    let found : List Target = targets_among (λ s. true) None 0 trees in
    let ids : List (List ℕ) = ids_among found in
    at-last v ids (firsts_after ids [] found) (kept v ids found [] h (comes v ids found refl))
