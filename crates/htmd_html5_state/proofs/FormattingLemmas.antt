-- The list of active formatting elements as the program holds it.
use Rattle.std.proofs.Common.{◌≡◌, ℕ, Bool, true, false, cond, List, [], ◌∷◌, ◌++◌, length, Option, Some, None, reverse}
use Rattle.std.proofs.Common.{refl, sym, ap, ◌∙◌, suc, ◌+◌, ◌<◌, take, drop, set, arith}
use Rattle.std.specs.Prelude.{insert, remove, filter, MatchOption, is_some, ◌&&◌}
use Rattle.std.proofs.lemmas.Bool.{true≢false, eq-eqb}
use Rattle.std.proofs.lemmas.List.{reverse-append, append_assoc, length-append, length_push, take_at, drop_at, set_at}
use Rattle.htmd_lexical.proofs.Cases.{test}
use Rattle.htmd_html5_state.specs.Nodes.{KindValue, document, doctype, text, comment, element}
use Rattle.htmd_html5_state.specs.Nodes.{attributes_of, same_attributes, same_element}
use Rattle.htmd_html5_state.specs.Views.{have_same_name}
use Rattle.htmd_html5_state.specs.Formatting.{is_entry, is_listed, without_entry, replace_entry, insert_after}
use Rattle.htmd_html5_state.specs.Formatting.{last_of, since_marker, reopen, reopen_all}
use Rattle.htmd_html5_state.specs.State.{StateValue}
use Rattle.htmd_html5_state.specs.FormattingViews.{entries_of, IsNewest}

-- ---- what the program puts last is newest

pub entries_of-append : (xs ys : List (Option ℕ)) → entries_of (xs ++ ys) ≡ entries_of ys ++ entries_of xs
entries_of-append xs ys = reverse-append xs ys

pub entries_of-push : (xs : List (Option ℕ)) (e : Option ℕ) → entries_of (xs ++ e ∷ []) ≡ e ∷ entries_of xs
entries_of-push xs e = entries_of-append xs (e ∷ [])

pub entries_of-around : (xs ys : List (Option ℕ)) (e : Option ℕ)
    → entries_of (xs ++ e ∷ ys) ≡ entries_of ys ++ e ∷ entries_of xs
entries_of-around xs ys e =
    ap entries_of (sym (append_assoc xs (e ∷ []) ys))
    ∙ (entries_of-append (xs ++ e ∷ []) ys
    ∙ ap (λ (t : List (Option ℕ)). entries_of ys ++ t) (entries_of-push xs e))

-- ---- an entry, with the newer ones and the older ones

itself : (n : ℕ) → is_entry n (Some n) ≡ true
itself n = eq-eqb n n refl

pub listed-found : (n : ℕ) (xs ys : List (Option ℕ)) → is_listed n (xs ++ Some n ∷ ys) ≡ true
listed-found n [] ys = rw (itself n) refl
listed-found n (x ∷ xs) ys = test (is_entry n x) (λ t. rw t refl) (λ t. rw (t, listed-found n xs ys) refl)

pub without_entry-found : (n : ℕ) (xs ys : List (Option ℕ)) → is_listed n xs ≡ false
    → without_entry n (xs ++ Some n ∷ ys) ≡ xs ++ ys
without_entry-found n [] ys lacks = rw (itself n) refl
without_entry-found n (x ∷ xs) ys lacks =
    test (is_entry n x) (λ t. absurd (true≢false (rw t at lacks)))
    (λ t. rw (t, without_entry-found n xs ys (rw t at lacks)) refl)

pub without_entry-none : (n : ℕ) (xs : List (Option ℕ)) → is_listed n xs ≡ false → without_entry n xs ≡ xs
without_entry-none n [] lacks = refl
without_entry-none n (x ∷ xs) lacks =
    test (is_entry n x) (λ t. absurd (true≢false (rw t at lacks)))
    (λ t. rw (t, without_entry-none n xs (rw t at lacks)) refl)

pub replace_entry-found : (n by : ℕ) (xs ys : List (Option ℕ)) → is_listed n xs ≡ false
    → replace_entry n by (xs ++ Some n ∷ ys) ≡ xs ++ Some by ∷ ys
replace_entry-found n by [] ys lacks = rw (itself n) refl
replace_entry-found n by (x ∷ xs) ys lacks =
    test (is_entry n x) (λ t. absurd (true≢false (rw t at lacks)))
    (λ t. rw (t, replace_entry-found n by xs ys (rw t at lacks)) refl)

pub replace_entry-none : (n by : ℕ) (xs : List (Option ℕ)) → is_listed n xs ≡ false
    → replace_entry n by xs ≡ xs
replace_entry-none n by [] lacks = refl
replace_entry-none n by (x ∷ xs) lacks =
    test (is_entry n x) (λ t. absurd (true≢false (rw t at lacks)))
    (λ t. rw (t, replace_entry-none n by xs (rw t at lacks)) refl)

pub insert_after-found : (n new : ℕ) (xs ys : List (Option ℕ)) → is_listed n xs ≡ false
    → insert_after n new (xs ++ Some n ∷ ys) ≡ xs ++ Some new ∷ Some n ∷ ys
insert_after-found n new [] ys lacks = rw (itself n) refl
insert_after-found n new (x ∷ xs) ys lacks =
    test (is_entry n x) (λ t. absurd (true≢false (rw t at lacks)))
    (λ t. rw (t, insert_after-found n new xs ys (rw t at lacks)) refl)

pub insert_after-none : (n new : ℕ) (xs : List (Option ℕ)) → is_listed n xs ≡ false
    → insert_after n new xs ≡ xs
insert_after-none n new [] lacks = refl
insert_after-none n new (x ∷ xs) lacks =
    test (is_entry n x) (λ t. absurd (true≢false (rw t at lacks)))
    (λ t. rw (t, insert_after-none n new xs (rw t at lacks)) refl)

-- ---- places on the list

listed-push : (n : ℕ) (ys : List (Option ℕ)) (e : Option ℕ) → is_listed n ys ≡ false
    → is_entry n e ≡ false
    → is_listed n (ys ++ e ∷ []) ≡ false
listed-push n [] e lacks other = rw other refl
listed-push n (y ∷ ys) e lacks other =
    test (is_entry n y) (λ t. absurd (true≢false (rw t at lacks)))
    (λ t. rw t (listed-push n ys e (rw t at lacks) other))

module _ (n : ℕ) (xs rest newer : List (Option ℕ)) (parts : xs ≡ rest ++ newer)
    (lacks : is_listed n (entries_of newer) ≡ false) where
  -- one more that is another
  pub newest-more : (older : List (Option ℕ)) (e : Option ℕ) → rest ≡ older ++ e ∷ []
      → is_entry n e ≡ false
      → (more : List (Option ℕ)) × (xs ≡ older ++ more) × (is_listed n (entries_of more) ≡ false)
  newest-more older e split other = (
    e ∷ newer,
    parts ∙ (ap (λ (x : List (Option ℕ)). x ++ newer) split ∙ append_assoc older (e ∷ []) newer),
    ap (is_listed n) (entries_of-append (e ∷ []) newer) ∙ listed-push n (entries_of newer) e lacks other,
  )

  -- the one
  pub newest-found : (older : List (Option ℕ)) (e : Option ℕ) → rest ≡ older ++ e ∷ [] → e ≡ Some n
      → IsNewest n xs (length older)
  newest-found older e split is = record {
    older = older;
    newer = newer;
    whole = parts ∙ (ap (λ (x : List (Option ℕ)). x ++ newer) split ∙ (append_assoc older (e ∷ []) newer
        ∙ ap (λ (x : Option ℕ). older ++ x ∷ newer) is));
    place = refl;
    lacks = lacks;
  }

  -- none of all
  pub newest-none : rest ≡ [] → is_listed n (entries_of xs) ≡ false
  newest-none empty = rw (parts, empty) lacks

pub IsNewest-within : (n : ℕ) (xs : List (Option ℕ)) (i : ℕ) → IsNewest n xs i → i < length xs
IsNewest-within n xs i at = omega (arith, at.place, ap length at.whole, length-append at.older (Some n ∷ at.newer))

pub IsNewest-listed : (n : ℕ) (xs : List (Option ℕ)) (i : ℕ) → IsNewest n xs i
    → is_listed n (entries_of xs) ≡ true
IsNewest-listed n xs i at =
    rw (at.whole, entries_of-around at.older at.newer (Some n))
    (listed-found n (entries_of at.newer) (entries_of at.older))

after-this : (older newer : List (Option ℕ)) (e : Option ℕ)
    → drop (suc (length older)) (older ++ e ∷ newer) ≡ newer
after-this [] newer e = refl
after-this (x ∷ older) newer e = after-this older newer e

module _ (n : ℕ) (xs : List (Option ℕ)) (i : ℕ) (at : IsNewest n xs i) where
  dropped : drop (suc i) xs ≡ at.newer
  dropped =
      ap (λ (k : ℕ). drop (suc k) xs) at.place
      ∙ (ap (drop (suc (length at.older))) at.whole ∙ after-this at.older at.newer (Some n))

  taken : take i xs ≡ at.older
  taken =
      ap (λ (k : ℕ). take k xs) at.place
      ∙ (ap (take (length at.older)) at.whole ∙ take_at at.older (Some n ∷ at.newer) (length at.older) refl)

  turned : entries_of xs ≡ entries_of at.newer ++ Some n ∷ entries_of at.older
  turned = ap entries_of at.whole ∙ entries_of-around at.older at.newer (Some n)

  pub IsNewest-without : entries_of (remove xs i) ≡ without_entry n (entries_of xs)
  IsNewest-without =
      entries_of-append (take i xs) (drop (suc i) xs)
      ∙ (ap (λ (x : List (Option ℕ)). entries_of x ++ entries_of (take i xs)) dropped
      ∙ (ap (λ (x : List (Option ℕ)). entries_of at.newer ++ entries_of x) taken
      ∙ sym (ap (without_entry n) turned
      ∙ without_entry-found n (entries_of at.newer) (entries_of at.older) at.lacks)))

  pub IsNewest-replace : (by : ℕ) → entries_of (set xs i (Some by)) ≡ replace_entry n by (entries_of xs)
  IsNewest-replace by =
      ap (λ (x : List (Option ℕ)). entries_of (set x i (Some by))) at.whole
      ∙ (ap entries_of (set_at at.older (Some n) at.newer (Some by) i (sym at.place))
      ∙ (entries_of-around at.older at.newer (Some by)
      ∙ sym (ap (replace_entry n by) turned
      ∙ replace_entry-found n by (entries_of at.newer) (entries_of at.older) at.lacks)))

  long : length (at.older ++ Some n ∷ []) ≡ i + 1
  long = length_push at.older (Some n) ∙ ap (λ (k : ℕ). k + 1) (sym at.place)

  cut : xs ≡ (at.older ++ Some n ∷ []) ++ at.newer
  cut = at.whole ∙ sym (append_assoc at.older (Some n ∷ []) at.newer)

  inserted : (new : ℕ) → insert xs (i + 1) (Some new) ≡ (at.older ++ Some n ∷ []) ++ Some new ∷ at.newer
  inserted new =
      ap (λ (x : List (Option ℕ)). insert x (i + 1) (Some new)) cut
      ∙ (ap (λ (x : List (Option ℕ)). x ++ Some new ∷ drop (i + 1) ((at.older ++ Some n ∷ []) ++ at.newer))
      (take_at (at.older ++ Some n ∷ []) at.newer (i + 1) long)
      ∙ ap (λ (x : List (Option ℕ)). (at.older ++ Some n ∷ []) ++ Some new ∷ x)
      (drop_at (at.older ++ Some n ∷ []) at.newer (i + 1) long))

  pub IsNewest-insert : (new : ℕ) → entries_of (insert xs (i + 1) (Some new)) ≡ insert_after n new (entries_of xs)
  IsNewest-insert new =
      ap entries_of (inserted new)
      ∙ (entries_of-around (at.older ++ Some n ∷ []) at.newer (Some new)
      ∙ (ap (λ (x : List (Option ℕ)). entries_of at.newer ++ Some new ∷ x) (entries_of-push at.older (Some n))
      ∙ sym (ap (insert_after n new) turned
      ∙ insert_after-found n new (entries_of at.newer) (entries_of at.older) at.lacks)))

-- ---- those since the last marker

pub last_of-push : (xs : List ℕ) (n : ℕ) → last_of (xs ++ n ∷ []) ≡ Some n
last_of-push [] n = refl
last_of-push (x ∷ []) n = refl
last_of-push (x ∷ y ∷ xs) n = last_of-push (y ∷ xs) n

module _ (met all : List ℕ) (rest older : List (Option ℕ)) (e : Option ℕ) (n : ℕ)
    (list : entries_of rest ≡ e ∷ entries_of older) (is : e ≡ Some n) where
  next : entries_of rest ≡ Some n ∷ entries_of older
  next = list ∙ ap (λ (x : Option ℕ). x ∷ entries_of older) is

  pub since-more : met ++ since_marker (entries_of rest) ≡ all
      → (met ++ n ∷ []) ++ since_marker (entries_of older) ≡ all
  since-more whole =
      append_assoc met (n ∷ []) (since_marker (entries_of older))
      ∙ (ap (λ (x : List (Option ℕ)). met ++ since_marker x) (sym next) ∙ whole)

  pub filter-more : (p : ℕ → Bool) → p n ≡ true → met ++ filter p (since_marker (entries_of rest)) ≡ all
      → (met ++ n ∷ []) ++ filter p (since_marker (entries_of older)) ≡ all
  filter-more p passes whole =
      append_assoc met (n ∷ []) (filter p (since_marker (entries_of older)))
      ∙ (ap (λ (x : List ℕ). met ++ x) (sym (passed p passes)) ∙ whole)
    where
      passed : (p : ℕ → Bool) → p n ≡ true
          → filter p (since_marker (entries_of rest)) ≡ n ∷ filter p (since_marker (entries_of older))
      passed p passes = ap (λ (x : List (Option ℕ)). filter p (since_marker x)) next ∙ rw passes refl

-- ---- those that open again

pub reopen_all-push : (ns : List ℕ) (n : ℕ) (s : StateValue)
    → reopen_all (ns ++ n ∷ []) s ≡ reopen_all ns (reopen n s)
reopen_all-push [] n s = refl
reopen_all-push (m ∷ ns) n s = ap (reopen m) (reopen_all-push ns n s)

pub listed-by : (n : ℕ) (xs : List (Option ℕ)) (o : Option ℕ)
    → MatchOption o (is_listed n (entries_of xs) ≡ false) (λ i. IsNewest n xs i)
    → is_some o ≡ is_listed n (entries_of xs)
listed-by n xs None h = sym h
listed-by n xs (Some i) h = sym (IsNewest-listed n xs i h)

-- ---- elements alike

-- a Document is like nothing
pub like_none : (k : KindValue) → same_element k document ≡ false
like_none document = refl
like_none doctype = refl
like_none (text s) = refl
like_none (comment s) = refl
like_none (element name attributes) = refl

pub same_parts : (k l : KindValue)
    → same_element k l ≡ (have_same_name k l && same_attributes (attributes_of k) (attributes_of l))
same_parts document l = refl
same_parts doctype l = refl
same_parts (text s) l = refl
same_parts (comment s) l = refl
same_parts (element name attributes) document = refl
same_parts (element name attributes) doctype = refl
same_parts (element name attributes) (text s) = refl
same_parts (element name attributes) (comment s) = refl
same_parts (element name attributes) (element name' attributes') = refl
