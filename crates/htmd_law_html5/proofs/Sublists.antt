-- Lists whose elements stand in another, in the same order.
use Rattle.std.proofs.Common.{◌≡◌, ◌∙◌, ℕ, zero, suc, ◌+◌, ◌≤◌, List, [], ◌∷◌, ◌++◌, length, refl, sym, ap, subst}
use Rattle.std.proofs.Common.{arith, cond, inl, inr, ◌⊎◌}
use Rattle.std.specs.Prelude.{◌==◌}
use Rattle.std.proofs.lemmas.Bool.{eq-eqb}
use Rattle.std.proofs.lemmas.List.{append-nil}

-- ---- sublists

abbrev pub Sub : List ℕ → List ℕ → Type 0
Sub [] ys = Unit {0}
Sub (x ∷ xs) [] = ⊥
Sub (x ∷ xs) (y ∷ ys) = ((x ≡ y) × Sub xs ys) ⊎ Sub (x ∷ xs) ys

pub sub_skip : (xs : List ℕ) (y : ℕ) (ys : List ℕ) → Sub xs ys → Sub xs (y ∷ ys)
sub_skip [] y ys h = tt
sub_skip (x ∷ xs) y ys h = inr h

pub sub_all : (xs : List ℕ) → Sub xs xs
sub_all [] = tt
sub_all (x ∷ xs) = inl (refl, sub_all xs)

-- more in front, or after
pub sub_front : (xs ys zs : List ℕ) → Sub xs zs → Sub xs (ys ++ zs)
sub_front xs [] zs h = h
sub_front xs (y ∷ ys) zs h = sub_skip xs y (ys ++ zs) (sub_front xs ys zs h)

pub sub_both : (xs ys us vs : List ℕ) → Sub xs us → Sub ys vs → Sub (xs ++ ys) (us ++ vs)
sub_both [] ys us vs h g = sub_front ys us vs g
sub_both (x ∷ xs) ys [] vs h g = absurd h
sub_both (x ∷ xs) ys (u ∷ us) vs (inl h) g = inl (h.0, sub_both xs ys us vs h.1 g)
sub_both (x ∷ xs) ys (u ∷ us) vs (inr h) g = inr (sub_both (x ∷ xs) ys us vs h g)

pub sub_after : (xs ys zs : List ℕ) → Sub xs ys → Sub xs (ys ++ zs)
sub_after xs ys zs h = subst (λ (l : List ℕ). Sub l (ys ++ zs)) (append-nil xs) (sub_both xs [] ys zs h tt)

-- ---- with as many of each

abbrev pub many : ℕ → List ℕ → ℕ
many n [] = 0
many n (x ∷ xs) = cond (x == n) 1 0 + many n xs

pub many_append : (n : ℕ) (xs ys : List ℕ) → many n (xs ++ ys) ≡ many n xs + many n ys
many_append n [] ys = omega arith
many_append n (x ∷ xs) ys = let h = many_append n xs ys in omega arith

pub sub_many : (n : ℕ) (xs ys : List ℕ) → Sub xs ys → many n xs ≤ many n ys
sub_many n [] ys h = omega arith
sub_many n (x ∷ xs) [] h = absurd h
sub_many n (x ∷ xs) (y ∷ ys) (inl h) =
    let a = sub_many n xs ys h.1 in
    let e : ◌≡◌ {A = ℕ} (cond (x == n) 1 0) (cond (y == n) 1 0) = ap (λ (z : ℕ). cond (z == n) 1 0) h.0 in
    omega arith
sub_many n (x ∷ xs) (y ∷ ys) (inr h) = let a = sub_many n (x ∷ xs) ys h in omega arith

-- a sublist with as many of each element is the list
pub equal_by_counts : (xs ys : List ℕ) → Sub xs ys → ((n : ℕ) → many n ys ≤ many n xs) → xs ≡ ys
equal_by_counts [] [] h c = refl
equal_by_counts [] (y ∷ ys) h c =
    absurd (let a = c y in let e : ◌≡◌ {A = ℕ} (cond (y == y) 1 0) 1 = rw (eq-eqb y y refl) refl in omega arith)
equal_by_counts (x ∷ xs) [] h c = absurd h
equal_by_counts (x ∷ xs) (y ∷ ys) (inl h) c =
    let rest : xs ≡ ys = equal_by_counts xs ys h.1
    (λ n. let a = c n in
    let e : ◌≡◌ {A = ℕ} (cond (x == n) 1 0) (cond (y == n) 1 0) = ap (λ (z : ℕ). cond (z == n) 1 0) h.0 in
    omega arith) in
    ap (λ (z : ℕ). z ∷ xs) h.0 ∙ ap (λ (l : List ℕ). y ∷ l) rest
equal_by_counts (x ∷ xs) (y ∷ ys) (inr h) c =
    absurd (let a = c y in let b = sub_many y (x ∷ xs) ys h in
    let e : ◌≡◌ {A = ℕ} (cond (y == y) 1 0) 1 = rw (eq-eqb y y refl) refl in omega arith)

-- ---- parts of a list

-- what stands from one place up to another
abbrev pub window : ℕ → ℕ → List ℕ → List ℕ
window zero zero l = []
window zero (suc b) [] = []
window zero (suc b) (x ∷ l) = x ∷ window zero b l
window (suc a) zero l = []
window (suc a) (suc b) [] = []
window (suc a) (suc b) (x ∷ l) = window a b l

pub window_split : (a b c : ℕ) (l : List ℕ) → a ≤ b → b ≤ c → window a c l ≡ window a b l
    ++ window b c l
window_split zero zero c l h g = refl
window_split zero (suc b) zero l h g = absurd (omega arith)
window_split zero (suc b) (suc c) [] h g = refl
window_split zero (suc b) (suc c) (x ∷ l) h g =
    ap (λ (z : List ℕ). x ∷ z) (window_split zero b c l (omega arith) (omega arith))
window_split (suc a) zero c l h g = absurd (omega arith)
window_split (suc a) (suc b) zero l h g = absurd (omega arith)
window_split (suc a) (suc b) (suc c) [] h g = refl
window_split (suc a) (suc b) (suc c) (x ∷ l) h g = window_split a b c l (omega arith) (omega arith)

-- within more of it
pub sub_wider : (xs l : List ℕ) (a b a' b' : ℕ) → a' ≤ a → a ≤ b → b ≤ b' → Sub xs (window a b l)
    → Sub xs (window a' b' l)
sub_wider xs l a b a' b' h g k s =
    subst (Sub xs) (sym (window_split a' a b' l h (omega arith))) (sub_front xs (window a' a l) (window a b' l)
    (subst (Sub xs) (sym (window_split a b b' l g k)) (sub_after xs (window a b l) (window b b' l) s)))

-- one after another
pub sub_joined : (xs ys l : List ℕ) (a b b' c : ℕ) → a ≤ b → b ≤ b' → b' ≤ c → Sub xs (window a b l)
    → Sub ys (window b' c l) → Sub (xs ++ ys) (window a c l)
sub_joined xs ys l a b b' c h g k s t =
    subst (Sub (xs ++ ys)) (sym (window_split a b c l h (omega arith)))
    (sub_both xs ys (window a b l) (window b c l) s (sub_wider ys l b' c b c g k (omega arith) t))

-- where more is put at the end
pub window_grown : (a b : ℕ) (l more : List ℕ) → b ≤ length l → window a b (l ++ more) ≡ window a b l
window_grown zero zero l more h = refl
window_grown (suc a) zero l more h = refl
window_grown zero (suc b) [] more h = absurd (omega arith)
window_grown (suc a) (suc b) [] more h = absurd (omega arith)
window_grown zero (suc b) (x ∷ l) more h = ap (λ (z : List ℕ). x ∷ z) (window_grown zero b l more (omega arith))
window_grown (suc a) (suc b) (x ∷ l) more h = window_grown a b l more (omega arith)

window_whole : (l : List ℕ) → window zero (length l) l ≡ l
window_whole [] = refl
window_whole (x ∷ l) = ap (λ (z : List ℕ). x ∷ z) (window_whole l)

pub window_all : (b : ℕ) (l : List ℕ) → b ≡ length l → window zero b l ≡ l
window_all b l e = ap (λ (x : ℕ). window zero x l) e ∙ window_whole l

pub window_new : (l more : List ℕ) (a b : ℕ) → a ≡ length l → b ≡ length l + length more
    → window a b (l ++ more) ≡ more
window_new [] more zero b e f = window_all b more (omega arith)
window_new [] more (suc a) b e f = absurd (omega arith)
window_new (x ∷ l) more zero b e f = absurd (omega arith)
window_new (x ∷ l) more (suc a) zero e f = absurd (omega arith)
window_new (x ∷ l) more (suc a) (suc b) e f = window_new l more a b (omega arith) (omega arith)
