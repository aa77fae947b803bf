-- The stack of open elements as the program holds it.
use Rattle.std.proofs.Common.{◌≡◌, ℕ, suc, ◌+◌, ◌-◌, ◌<◌, ◌≤◌, true, false, List, [], ◌∷◌, ◌++◌, length}
use Rattle.std.proofs.Common.{Some, None, cond, take, drop, get_or, reverse, refl, sym, ap, ◌∙◌, arith, add-one}
use Rattle.std.proofs.lemmas.List.{take_more, reverse-reverse, map-append, reverse-append, append_assoc, take_at}
use Rattle.std.proofs.lemmas.List.{drop_at, length-append, length-drop}
use Rattle.std.proofs.lemmas.List.{length_push, length-map, length-reverse, take-append-drop, drop_more, length-take-le}
use Rattle.std.proofs.lemmas.Bool.{true≢false, ne_eqb}
use Rattle.std.proofs.lemmas.List.Folds.{list_any-append}
use Rattle.std.proofs.lemmas.Bool.Decides.{nat_tests}
use Rattle.std.specs.List.{list_any}
use Rattle.std.specs.Prelude.{◌==◌, remove}
use Rattle.htmd_lexical.proofs.Cases.{test}
use Rattle.htmd_html5_state.specs.OpenElements.{OpenValue, is_empty, is_in, is_open_node, is_node, without}
use Rattle.htmd_html5_state.specs.OpenElements.{outermost, first_open, second_open}
use Rattle.htmd_html5_state.specs.Adoption.{Furthest, furthest_block, is_special_element}
use Rattle.htmd_html5_state.specs.OpenViews.{open_of, all_open_of, stack_of, is_special, IsInnermost, IsFirstSpecial}
use Rattle.htmd_html5_state.specs.declared.open_elements.OpenElement.{OpenElement}
use Rattle.htmd_html5_state.specs.declared.sets.NameSet.{NameSet}

-- ---- what the program puts last is innermost

pub stack_of-append : (xs ys : List OpenElement) → stack_of (xs ++ ys) ≡ stack_of ys ++ stack_of xs
stack_of-append xs ys = ap reverse (map-append open_of xs ys) ∙ reverse-append (all_open_of xs) (all_open_of ys)

pub stack_of-push : (xs : List OpenElement) (e : OpenElement)
    → stack_of (xs ++ e ∷ []) ≡ open_of e ∷ stack_of xs
stack_of-push xs e = stack_of-append xs (e ∷ [])

pub stack_of-around : (xs ys : List OpenElement) (e : OpenElement)
    → stack_of (xs ++ e ∷ ys) ≡ stack_of ys ++ open_of e ∷ stack_of xs
stack_of-around xs ys e =
    ap stack_of (sym (append_assoc xs (e ∷ []) ys))
    ∙ (stack_of-append (xs ++ e ∷ []) ys ∙ ap (λ (t : List OpenValue). stack_of ys ++ t) (stack_of-push xs e))

pub length-stack_of : (xs : List OpenElement) → length (stack_of xs) ≡ length xs
length-stack_of xs = length-reverse (all_open_of xs) ∙ length-map xs open_of

-- ---- an element with those inside it and those around it

pub without-found : (n : ℕ) (xs ys : List OpenValue) (e : OpenValue) → is_open_node n xs ≡ false → e.node ≡ n
    → without n (xs ++ e ∷ ys) ≡ xs ++ ys
without-found n [] ys e lacks is = grind (arith, nat_tests)
without-found n (x ∷ xs) ys e lacks is =
    test (x.node == n) (λ t. grind (arith, nat_tests)) (λ t. rw (t, without-found n xs ys e (rw t at lacks) is) refl)

pub without-none : (n : ℕ) (xs : List OpenValue) → is_open_node n xs ≡ false → without n xs ≡ xs
without-none n [] lacks = refl
without-none n (x ∷ xs) lacks =
    test (x.node == n) (λ t. grind (arith, nat_tests)) (λ t. rw (t, without-none n xs (rw t at lacks)) refl)

pub open_node-found : (n : ℕ) (xs ys : List OpenValue) (e : OpenValue) → e.node ≡ n
    → is_open_node n (xs ++ e ∷ ys) ≡ true
open_node-found n [] ys e is = grind (arith, nat_tests)
open_node-found n (x ∷ xs) ys e is =
    test (x.node == n) (λ t. rw t refl) (λ t. rw (t, open_node-found n xs ys e is) refl)

-- ---- the furthest block

pub furthest-none : (xs : List OpenValue) → list_any is_special_element xs ≡ false → furthest_block xs ≡ None
furthest-none [] lacks = refl
furthest-none (x ∷ xs) lacks =
    test (is_special_element x) (λ t. absurd (true≢false (rw t at lacks)))
    (λ t. rw (furthest-none xs (rw t at lacks), t) refl)

pub furthest-found : (inner between : List OpenValue) (e : OpenValue) → is_special_element e ≡ true
    → list_any is_special_element between ≡ false
    → furthest_block (inner ++ e ∷ between) ≡ Some (record { inner = inner; block = e; between = between })
furthest-found [] between e special lacks = rw (furthest-none between lacks, special) refl
furthest-found (x ∷ inner) between e special lacks = rw (furthest-found inner between e special lacks) refl

-- ---- the outermost elements

first_open-push : (xs : List OpenValue) (e : OpenValue) → first_open (xs ++ e ∷ []) ≡ Some e.node
first_open-push [] e = refl
first_open-push (x ∷ []) e = refl
first_open-push (x ∷ y ∷ xs) e = first_open-push (y ∷ xs) e

second_open-push : (set : NameSet) (xs : List OpenValue) (f e : OpenValue)
    → second_open set (xs ++ f ∷ e ∷ []) ≡ cond (is_in set f) (Some f.node) None
second_open-push set [] f e = refl
second_open-push set (x ∷ []) f e = refl
second_open-push set (x ∷ y ∷ []) f e = refl
second_open-push set (x ∷ y ∷ z ∷ xs) f e = second_open-push set (y ∷ z ∷ xs) f e

pub first_open-at : (xs : List OpenElement) (e : OpenElement) → 1 ≤ length xs → e ≡ get_or xs 0 e
    → first_open (stack_of xs) ≡ Some e.node
first_open-at [] e l is = absurd (omega arith)
first_open-at (x ∷ xs) e l is =
    ap first_open (stack_of-append (x ∷ []) xs)
    ∙ (first_open-push (stack_of xs) (open_of x) ∙ ap (λ (y : OpenElement). Some y.node) (sym is))

pub second_open-at : (set : NameSet) (xs : List OpenElement) (e : OpenElement) → 2 ≤ length xs
    → e ≡ get_or xs 1 e
    → second_open set (stack_of xs) ≡ cond (is_in set (open_of e)) (Some e.node) None
second_open-at set [] e l is = absurd (omega arith)
second_open-at set (x ∷ []) e l is = absurd (omega arith)
second_open-at set (x ∷ y ∷ xs) e l is =
    ap (second_open set) (stack_of-append (x ∷ y ∷ []) xs)
    ∙ (second_open-push set (stack_of xs) (open_of y) (open_of x)
    ∙ ap (λ (z : OpenElement). cond (is_in set (open_of z)) (Some z.node) None) (sym is))

pub second_open-short : (set : NameSet) (xs : List OpenElement) → length xs ≤ 1
    → second_open set (stack_of xs) ≡ None
second_open-short set [] l = refl
second_open-short set (x ∷ []) l = refl
second_open-short set (x ∷ y ∷ xs) l = absurd (omega arith)

-- all but the outermost
pub outermost-drop : (es : List OpenValue) → drop (length es - 1) es ≡ outermost es
outermost-drop [] = refl
outermost-drop (e ∷ []) = refl
outermost-drop (e ∷ f ∷ es) =
    let s : length (e ∷ f ∷ es) - 1 ≡ suc (length (f ∷ es) - 1) = omega arith in
    ap (λ (k : ℕ). drop k (e ∷ f ∷ es)) s ∙ outermost-drop (f ∷ es)

-- ---- elements turned round

map-turned : (xs : List OpenElement) → all_open_of (reverse xs) ≡ reverse (all_open_of xs)
map-turned [] = refl
map-turned (x ∷ xs) =
    ap all_open_of (reverse-append (x ∷ []) xs)
    ∙ (map-append open_of (reverse xs) (x ∷ [])
    ∙ (ap (λ (ys : List OpenValue). ys ++ open_of x ∷ []) (map-turned xs)
    ∙ sym (reverse-append (open_of x ∷ []) (all_open_of xs))))

pub turned-is : (xs : List OpenElement) → all_open_of (reverse xs) ≡ stack_of xs
turned-is xs = map-turned xs

pub turned-back : (xs : List OpenElement) → stack_of (reverse xs) ≡ all_open_of xs
turned-back xs = ap reverse (map-turned xs) ∙ reverse-reverse (all_open_of xs)

-- ---- places in the stack

-- one element further in
pub stack-more : (xs : List OpenElement) (i : ℕ) (x : OpenElement) → i < length xs → x ≡ get_or xs i x
    → stack_of (take (i + 1) xs) ≡ open_of x ∷ stack_of (take i xs)
stack-more xs i x l is =
    ap stack_of (take_more xs i x l)
    ∙ (stack_of-push (take i xs) (get_or xs i x)
    ∙ ap (λ (y : OpenElement). open_of y ∷ stack_of (take i xs)) (sym is))

pub length-stack-take : (xs : List OpenElement) (i : ℕ) → i ≤ length xs → length (stack_of (take i xs)) ≡ i
length-stack-take xs i l = length-stack_of (take i xs) ∙ length-take-le i xs l

empty-length : (es : List OpenValue) → (length es == 0) ≡ is_empty es
empty-length [] = grind (arith, nat_tests)
empty-length (e ∷ es) = grind (arith, nat_tests)

pub empty-stack : (xs : List OpenElement) → (length xs == 0) ≡ is_empty (stack_of xs)
empty-stack xs = ap (λ (n : ℕ). n == 0) (sym (length-stack_of xs)) ∙ empty-length (stack_of xs)

pub stack-take : (xs : List OpenElement) (k : ℕ) → k ≤ length xs
    → drop (length (stack_of xs) - k) (stack_of xs) ≡ stack_of (take k xs)
stack-take xs k l =
    let inner : List OpenValue = stack_of (drop k xs) in
    let len : length inner ≡ length (stack_of xs) - k =
    length-stack_of (drop k xs) ∙ (length-drop k xs ∙ ap (λ (n : ℕ). n - k) (sym (length-stack_of xs))) in
    ap (drop (length (stack_of xs) - k))
    (sym (ap stack_of (take-append-drop k xs)) ∙ stack_of-append (take k xs) (drop k xs))
    ∙ drop_at inner (stack_of (take k xs)) (length (stack_of xs) - k) len

pub stack-around : (xs : List OpenElement) (i : ℕ) (x : OpenElement) → i < length xs → x ≡ get_or xs i x
    → stack_of xs ≡ stack_of (drop (i + 1) xs) ++ open_of x ∷ stack_of (take i xs)
stack-around xs i x l is =
    ap stack_of (sym (take-append-drop i xs)
    ∙ ap (λ (ys : List OpenElement). take i xs ++ ys) (drop_more xs i x l
    ∙ ap (λ (y : OpenElement). y ∷ drop (i + 1) xs) (sym is)))
    ∙ stack_of-around (take i xs) (drop (i + 1) xs) x

pub take-removed : (xs : List OpenElement) (i : ℕ) → i ≤ length xs → take i (remove xs i) ≡ take i xs
take-removed xs i l = take_at (take i xs) (drop (suc i) xs) i (length-take-le i xs l)

pub stack-removed : (xs : List OpenElement) (i : ℕ)
    → stack_of (remove xs i) ≡ stack_of (drop (i + 1) xs) ++ stack_of (take i xs)
stack-removed xs i =
    stack_of-append (take i xs) (drop (suc i) xs)
    ∙ ap (λ (k : ℕ). stack_of (drop k xs) ++ stack_of (take i xs)) (sym (add-one i))

after-cut : (outer inner : List OpenElement) (e : OpenElement)
    → drop (suc (length outer)) (outer ++ e ∷ inner) ≡ inner
after-cut [] inner e = refl
after-cut (x ∷ outer) inner e = after-cut outer inner e

-- what is left without it
module _ (n : ℕ) (xs : List OpenElement) (i : ℕ) (at : IsInnermost n xs i) where
  dropped : drop (suc i) xs ≡ at.inner
  dropped =
      ap (λ (k : ℕ). drop (suc k) xs) at.place
      ∙ (ap (drop (suc (length at.outer))) at.whole ∙ after-cut at.outer at.inner at.element)

  taken : take i xs ≡ at.outer
  taken =
      ap (λ (k : ℕ). take k xs) at.place
      ∙ (ap (take (length at.outer)) at.whole ∙ take_at at.outer (at.element ∷ at.inner) (length at.outer) refl)

  turned : stack_of xs ≡ stack_of at.inner ++ open_of at.element ∷ stack_of at.outer
  turned = ap stack_of at.whole ∙ stack_of-around at.outer at.inner at.element

  pub IsInnermost-without : stack_of (remove xs i) ≡ without n (stack_of xs)
  IsInnermost-without =
      stack_of-append (take i xs) (drop (suc i) xs)
      ∙ (ap (λ (x : List OpenElement). stack_of x ++ stack_of (take i xs)) dropped
      ∙ (ap (λ (x : List OpenElement). stack_of at.inner ++ stack_of x) taken
      ∙ sym (ap (without n) turned
      ∙ without-found n (stack_of at.inner) (stack_of at.outer) (open_of at.element) at.lacks at.has_node)))

module _ (n : ℕ) (xs rest inner : List OpenElement) (parts : xs ≡ rest ++ inner)
    (lacks : is_open_node n (stack_of inner) ≡ false) where
  -- one more that has another node
  pub innermost-more : (outer : List OpenElement) (e : OpenElement) → rest ≡ outer ++ e ∷ []
      → (e.node ≡ n → ⊥)
      → (more : List OpenElement) × (xs ≡ outer ++ more) × (is_open_node n (stack_of more) ≡ false)
  innermost-more outer e split other = (
    e ∷ inner,
    parts ∙ (ap (λ (x : List OpenElement). x ++ inner) split ∙ append_assoc outer (e ∷ []) inner),
    ap (is_open_node n) (stack_of-append (e ∷ []) inner)
        ∙ (list_any-append (is_node n) (stack_of inner) (open_of e ∷ [])
        ∙ rw (lacks, ne_eqb e.node n other) refl),
  )

  -- the one
  pub innermost-found : (outer : List OpenElement) (e : OpenElement) → rest ≡ outer ++ e ∷ [] → e.node ≡ n
      → IsInnermost n xs (length outer)
  innermost-found outer e split is = record {
    outer = outer;
    element = e;
    inner = inner;
    whole = parts ∙ (ap (λ (x : List OpenElement). x ++ inner) split ∙ append_assoc outer (e ∷ []) inner);
    place = refl;
    has_node = is;
    lacks = lacks;
  }

  -- none of all
  pub innermost-none : rest ≡ [] → is_open_node n (stack_of xs) ≡ false
  innermost-none empty = rw (parts, empty) lacks

pub IsInnermost-within : (n : ℕ) (xs : List OpenElement) (i : ℕ) → IsInnermost n xs i → i < length xs
IsInnermost-within n xs i at =
    omega (arith, at.place, ap length at.whole, length-append at.outer (at.element ∷ at.inner))

pub IsInnermost-open : (n : ℕ) (xs : List OpenElement) (i : ℕ) → IsInnermost n xs i
    → is_open_node n (stack_of xs) ≡ true
IsInnermost-open n xs i at =
    rw (at.whole, stack_of-around at.outer at.inner at.element)
    (open_node-found n (stack_of at.inner) (stack_of at.outer) (open_of at.element) at.has_node)

-- ---- the furthest block, as the program finds it

pub none-special : (xs : List OpenElement) → list_any is_special xs ≡ false
    → list_any is_special_element (stack_of xs) ≡ false
none-special [] lacks = refl
none-special (x ∷ xs) lacks =
    test (is_special x) (λ t. absurd (true≢false (rw t at lacks)))
    (λ t. ap (list_any is_special_element) (stack_of-append (x ∷ []) xs)
    ∙ (list_any-append is_special_element (stack_of xs) (open_of x ∷ [])
    ∙ rw (none-special xs (rw t at lacks), t) refl))

pub first-special : (xs : List OpenElement) (i : ℕ) (e : OpenElement) → i < length xs → e ≡ get_or xs i e
    → is_special e ≡ true → list_any is_special (take i xs) ≡ false → IsFirstSpecial xs i
first-special xs i e l read special lacks = record {
  outer = take i xs;
  element = e;
  inner = drop (i + 1) xs;
  whole = sym (take-append-drop i xs)
      ∙ ap (λ (x : List OpenElement). take i xs ++ x) (drop_more xs i e l
      ∙ ap (λ (x : OpenElement). x ∷ drop (i + 1) xs) (sym read));
  place = sym (length-take-le i xs (omega arith));
  special = special;
  lacks = lacks;
}

abbrev furthest_with_parts : List OpenValue → OpenValue → List OpenValue → Furthest
furthest_with_parts inner block between = record { inner = inner; block = block; between = between }

parts_same : (inner xs ys : List OpenValue) (x y : OpenValue) → x ∷ xs ≡ y ∷ ys
    → furthest_with_parts inner x xs ≡ furthest_with_parts inner y ys
parts_same inner xs ys x y e = let h : x ≡ y = cc in let t : xs ≡ ys = cc in cc

pub furthest-split : (xs : List OpenElement) (i : ℕ) (between inner : List OpenElement) (block : OpenElement)
    → IsFirstSpecial xs i → inner ≡ drop (i + 1) xs → between ++ block ∷ [] ≡ take (i + 1) xs
    → furthest_block (stack_of xs)
    ≡ Some (record { inner = stack_of inner; block = open_of block; between = stack_of between })
furthest-split xs i between inner block at tail front =
    ap furthest_block (ap stack_of at.whole ∙ stack_of-around at.outer at.inner at.element)
    ∙ (furthest-found (stack_of at.inner) (stack_of at.outer) (open_of at.element) at.special
    (none-special at.outer at.lacks)
    ∙ ap Some same)
  where
    taken : between ++ block ∷ [] ≡ at.outer ++ at.element ∷ []
    taken =
        front ∙ (ap (take (i + 1)) (at.whole ∙ sym (append_assoc at.outer (at.element ∷ []) at.inner))
        ∙ take_at (at.outer ++ at.element ∷ []) at.inner (i + 1)
        (length_push at.outer at.element ∙ ap (λ k. k + 1) (sym at.place)))

    rest : inner ≡ at.inner
    rest =
        tail ∙ (ap (drop (i + 1)) (at.whole ∙ sym (append_assoc at.outer (at.element ∷ []) at.inner))
        ∙ drop_at (at.outer ++ at.element ∷ []) at.inner (i + 1)
        (length_push at.outer at.element ∙ ap (λ k. k + 1) (sym at.place)))

    turned : open_of block ∷ stack_of between ≡ open_of at.element ∷ stack_of at.outer
    turned = sym (stack_of-push between block) ∙ (ap stack_of taken ∙ stack_of-push at.outer at.element)

    same : furthest_with_parts (stack_of at.inner) (open_of at.element) (stack_of at.outer)
        ≡ furthest_with_parts (stack_of inner) (open_of block) (stack_of between)
    same =
        ap (λ (x : List OpenElement). furthest_with_parts (stack_of x) (open_of at.element) (stack_of at.outer))
        (sym rest)
        ∙ parts_same (stack_of inner) (stack_of at.outer) (stack_of between) (open_of at.element) (open_of block)
        (sym turned)
