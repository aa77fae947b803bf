-- Loops over elements, one after another.
use Rattle.std.proofs.Common.{◌≡◌, ℕ, zero, suc, ◌+◌, ◌-◌, ◌<◌, ◌≤◌, Bool, true, false, ◌||◌, ◌&&◌, List, [], ◌∷◌, length}
use Rattle.std.proofs.Common.{get_or, take, drop, map, refl, sym, ap, ◌∙◌, arith, cond}
use Rattle.std.specs.Prelude.{fold}
use Rattle.std.specs.List.{list_any, list_all, prefix_len}
use Rattle.std.proofs.lemmas.List.{drop_more, take_all, length-drop, drop-map}
use Rattle.htmd_lexical.proofs.Cases.{test}
use Rattle.htmd_flow.proofs.ListsLemmas.{map_at, map_end}

-- ---- all of them

pub all_passed : {A B : Type 0} (p : B → Bool) (f : A → B) (xs : List A) (i : ℕ) (x : A) (whole : Bool)
    → i < length xs → x ≡ get_or xs i x → p (f x) ≡ true → list_all p (map f (drop i xs)) ≡ whole
    → list_all p (map f (drop (i + 1) xs)) ≡ whole
all_passed p f xs i x whole l e holds h =
    sym (ap (list_all p) (map_at f xs i x l e) ∙ ap (λ b. b && list_all p (map f (drop (i + 1) xs))) holds) ∙ h

pub all_failed : {A B : Type 0} (p : B → Bool) (f : A → B) (xs : List A) (i : ℕ) (x : A) (whole : Bool)
    → i < length xs → x ≡ get_or xs i x → p (f x) ≡ false → list_all p (map f (drop i xs)) ≡ whole
    → false ≡ whole
all_failed p f xs i x whole l e fails h =
    sym (ap (list_all p) (map_at f xs i x l e) ∙ ap (λ b. b && list_all p (map f (drop (i + 1) xs))) fails) ∙ h

pub all_done : {A B : Type 0} (p : B → Bool) (f : A → B) (xs : List A) (i : ℕ) (whole : Bool)
    → length xs ≤ i → list_all p (map f (drop i xs)) ≡ whole → true ≡ whole
all_done p f xs i whole l h = sym (ap (list_all p) (map_end f xs i l)) ∙ h

-- ---- one of them

pub any_failed : {A B : Type 0} (p : B → Bool) (f : A → B) (xs : List A) (i : ℕ) (x : A) (whole : Bool)
    → i < length xs → x ≡ get_or xs i x → p (f x) ≡ false → list_any p (map f (drop i xs)) ≡ whole
    → list_any p (map f (drop (i + 1) xs)) ≡ whole
any_failed p f xs i x whole l e fails h =
    sym (ap (list_any p) (map_at f xs i x l e) ∙ ap (λ b. b || list_any p (map f (drop (i + 1) xs))) fails) ∙ h

pub any_passed : {A B : Type 0} (p : B → Bool) (f : A → B) (xs : List A) (i : ℕ) (x : A) (whole : Bool)
    → i < length xs → x ≡ get_or xs i x → p (f x) ≡ true → list_any p (map f (drop i xs)) ≡ whole
    → true ≡ whole
any_passed p f xs i x whole l e holds h =
    sym (ap (list_any p) (map_at f xs i x l e) ∙ ap (λ b. b || list_any p (map f (drop (i + 1) xs))) holds) ∙ h

pub any_done : {A B : Type 0} (p : B → Bool) (f : A → B) (xs : List A) (i : ℕ) (whole : Bool)
    → length xs ≤ i → list_any p (map f (drop i xs)) ≡ whole → false ≡ whole
any_done p f xs i whole l h = sym (ap (list_any p) (map_end f xs i l)) ∙ h

-- ---- how many of them at the beginning

pub prefix_passed : {A B : Type 0} (p : B → Bool) (f : A → B) (xs : List A) (i : ℕ) (x : A) (whole : ℕ)
    → i < length xs → x ≡ get_or xs i x → p (f x) ≡ true → i + prefix_len p (map f (drop i xs)) ≡ whole
    → (i + 1) + prefix_len p (map f (drop (i + 1) xs)) ≡ whole
prefix_passed p f xs i x whole l e holds h =
    let one : prefix_len p (map f (drop i xs)) ≡ 1 + prefix_len p (map f (drop (i + 1) xs)) =
    ap (prefix_len p) (map_at f xs i x l e)
    ∙ ap (λ b. cond b (1 + prefix_len p (map f (drop (i + 1) xs))) 0) holds in
    omega (arith, one, h)

pub prefix_failed : {A B : Type 0} (p : B → Bool) (f : A → B) (xs : List A) (i : ℕ) (x : A) (whole : ℕ)
    → i < length xs → x ≡ get_or xs i x → p (f x) ≡ false → i + prefix_len p (map f (drop i xs)) ≡ whole
    → i ≡ whole
prefix_failed p f xs i x whole l e fails h =
    let one : prefix_len p (map f (drop i xs)) ≡ 0 =
    ap (prefix_len p) (map_at f xs i x l e)
    ∙ ap (λ b. cond b (1 + prefix_len p (map f (drop (i + 1) xs))) 0) fails in
    omega (arith, one, h)

pub prefix_done : {A B : Type 0} (p : B → Bool) (f : A → B) (xs : List A) (i : ℕ) (whole : ℕ)
    → length xs ≤ i → i ≤ length xs → i + prefix_len p (map f (drop i xs)) ≡ whole → length xs ≡ whole
prefix_done p f xs i whole l m h =
    let none : prefix_len p (map f (drop i xs)) ≡ 0 = ap (prefix_len p) (map_end f xs i l) in
    omega (arith, none, h)

pub stopped : {A : Type 0} (p : A → Bool) (x : A) (xs : List A) → p x ≡ false → prefix_len p (x ∷ xs) ≡ 0
stopped p x xs h = ap (λ b. cond b (1 + prefix_len p xs) 0) h

pub passed : {A : Type 0} (p : A → Bool) (x : A) (xs : List A) → p x ≡ true
    → prefix_len p (x ∷ xs) ≡ suc (prefix_len p xs)
passed p x xs h = ap (λ b. cond b (1 + prefix_len p xs) 0) h ∙ next (prefix_len p xs)
  where
    next : (n : ℕ) → 1 + n ≡ suc n
    next n = omega arith

-- ---- how many of them in all

-- ---- all in one value

pub fold_step : {A B C : Type 0} (g : C → B → C) (f : A → B) (xs : List A) (i : ℕ) (x : A) (now next whole : C)
    → i < length xs → x ≡ get_or xs i x → next ≡ g now (f x) → fold g now (map f (drop i xs)) ≡ whole
    → fold g next (map f (drop (i + 1) xs)) ≡ whole
fold_step g f xs i x now next whole l e step h =
    ap (λ c. fold g c (map f (drop (i + 1) xs))) step ∙ sym (ap (fold g now) (map_at f xs i x l e)) ∙ h

pub fold_end : {A B C : Type 0} (g : C → B → C) (f : A → B) (xs : List A) (i : ℕ) (now whole : C)
    → length xs ≤ i → fold g now (map f (drop i xs)) ≡ whole → now ≡ whole
fold_end g f xs i now whole l h = sym (ap (fold g now) (map_end f xs i l)) ∙ h

-- the same by what each is
pub prefix_alike : {A B C : Type 0} (p : B → Bool) (q : C → Bool) (f : A → B) (g : A → C)
    → ((x : A) → p (f x) ≡ q (g x)) → (xs : List A) → prefix_len p (map f xs) ≡ prefix_len q (map g xs)
prefix_alike p q f g same [] = refl
prefix_alike p q f g same (x ∷ xs) =
    ap (λ b. cond b (1 + prefix_len p (map f xs)) 0) (same x)
    ∙ ap (λ n. cond (q (g x)) (1 + n) 0) (prefix_alike p q f g same xs)

-- what comes after the first that pass begins with one that doesn't
pub rest_stops : {A : Type 0} (p : A → Bool) (xs : List A) → prefix_len p (drop (prefix_len p xs) xs) ≡ 0
rest_stops p [] = refl
rest_stops p (x ∷ xs) = test (p x)
    (λ h. ap (λ k. prefix_len p (drop k (x ∷ xs))) (passed p x xs h) ∙ rest_stops p xs)
    (λ h. ap (λ k. prefix_len p (drop k (x ∷ xs))) (stopped p x xs h) ∙ stopped p x xs h)

pub first_stops : {A : Type 0} (p : A → Bool) (x : A) (xs : List A) → prefix_len p (x ∷ xs) ≡ 0
    → p x ≡ false
first_stops p x xs e = test (p x)
    (λ h. let n : suc (prefix_len p xs) ≡ 0 = sym (passed p x xs h) ∙ e in absurd (omega (arith, n)))
    (λ h. h)

pub front_passes : {A : Type 0} (p : A → Bool) (xs : List A) → list_all p (take (prefix_len p xs) xs) ≡ true
front_passes p [] = refl
front_passes p (x ∷ xs) = test (p x)
    (λ h. ap (λ k. list_all p (take k (x ∷ xs))) (passed p x xs h)
    ∙ ap (λ b. b && list_all p (take (prefix_len p xs) xs)) h ∙ front_passes p xs)
    (λ h. ap (λ k. list_all p (take k (x ∷ xs))) (stopped p x xs h))

-- an element of a list doesn't hang on the default
pub at_default : {A : Type 0} (xs : List A) (i : ℕ) (d : A) → i < length xs
    → get_or xs i d ≡ get_or xs i (get_or xs i d)
at_default [] i d h = absurd (omega arith)
at_default (x ∷ xs) zero d h = refl
at_default (x ∷ xs) (suc i) d h = at_default xs i d (omega arith)

-- the end of a slice
pub slice_rest : {A : Type 0} (xs : List A) (k : ℕ) → take (length xs - k) (drop k xs) ≡ drop k xs
slice_rest xs k = take_all (length xs - k) (drop k xs) (omega (arith, length-drop k xs))

pub mapped_rest : {A B : Type 0} (f : A → B) (xs : List A) (k n : ℕ) → k ≡ n
    → map f (take (length xs - k) (drop k xs)) ≡ drop n (map f xs)
mapped_rest f xs k n e = ap (map f) (slice_rest xs k) ∙ sym (drop-map f k xs) ∙ ap (λ m. drop m (map f xs)) e

-- a place in a list
pub at_place : {A : Type 0} (xs : List A) (k : ℕ) (x : A) → k < length xs → x ≡ get_or xs k x
    → drop k xs ≡ x ∷ drop (k + 1) xs
at_place xs k x l e = drop_more xs k x l ∙ ap (λ y. y ∷ drop (k + 1) xs) (sym e)

first_of_both : (a b : Bool) → (a && b) ≡ true → a ≡ true
first_of_both true b h = refl
first_of_both false b h = (cc)

second_of_both : (a b : Bool) → (a && b) ≡ true → b ≡ true
second_of_both true b h = h
second_of_both false b h = (cc)

-- one of those that all pass
pub passes_at : {A B : Type 0} (p : B → Bool) (f : A → B) (xs : List A) (i : ℕ) (x : A)
    → list_all p (map f xs) ≡ true → i < length xs → x ≡ get_or xs i x → p (f x) ≡ true
passes_at p f [] i x h l e = absurd (omega arith)
passes_at p f (y ∷ xs) zero x h l e = ap (λ z. p (f z)) e ∙ first_of_both (p (f y)) (list_all p (map f xs)) h
passes_at p f (y ∷ xs) (suc i) x h l e =
    passes_at p f xs i x (second_of_both (p (f y)) (list_all p (map f xs)) h) (omega arith) e
