-- What std's sort gives is what the definition puts in order.
use Rattle.std.proofs.Common.{◌≡◌, ℕ, suc, ◌+◌, ◌<◌, Bool, true, false, cond, List, [], ◌∷◌, get_or}
use Rattle.std.proofs.Common.{refl, sym, ap, ◌∙◌, arith, Bor}
use Rattle.std.specs.Prelude.{sum_by}
use Rattle.std.specs.Cmp.{IsStrictWeakOrder}
use Rattle.std.specs.Cmp.Lexicographic.{slice_cmp}
use Rattle.std.specs.List.Sorted.{IsPermutation, IsSorted}
use Rattle.std.specs.Ordering.{nat_cmp, is_lt, is_eq, ordering_reverse}
use Rattle.std.specs.declared.cmp.Ordering.{Ordering}
use Rattle.std.specs.declared.cmp.Ordering.TheVariants.{Less, Equal, Greater}
use Rattle.std.specs.Str.{bytes_eq}
use Rattle.std.proofs.lemmas.Bool.{false≢true}
use Rattle.std.proofs.lemmas.Cmp.{nat_list_cmp_total}
use Rattle.std.proofs.lemmas.List.Sums.{sum_by-cons}
use Rattle.std.proofs.lemmas.List.Sorted.{ranks_by, IsPermutation-map, sum_by-IsPermutation}
use Rattle.std.proofs.lemmas.Map.Text.{is_eq-slice_cmp}
use Rattle.std.proofs.lemmas.Slice.Eq.{bytes_eq-Decides}
use Rattle.htmd_files.specs.PlaceViews.{texts}
use Rattle.htmd_files.specs.FilePlans.{comes_before, placed, in_order}

order : IsStrictWeakOrder comes_before
order = ranks_by nat_list_cmp_total (λ (x : List ℕ). x)

either : {P : Type 0} (b : Bool) → (b ≡ true → P) → (b ≡ false → P) → P
either true f g = f refl
either false f g = g refl

-- two texts of which neither comes before the other are one
same_rank : (r s : Ordering) → r ≡ ordering_reverse s → is_lt r ≡ false → is_lt s ≡ false
    → is_eq r ≡ true
same_rank Less s e a b = absurd (false≢true (sym a))
same_rank Equal s e a b = refl
same_rank Greater Less e a b = absurd (false≢true (sym b))
same_rank Greater Equal e a b = absurd (cc)
same_rank Greater Greater e a b = absurd (cc)

one_text : (x y : List ℕ) → comes_before x y ≡ false → comes_before y x ≡ false → x ≡ y
one_text x y a b =
    (bytes_eq-Decides x y).0 (sym (is_eq-slice_cmp x y)
    ∙ same_rank (slice_cmp nat_cmp x y) (slice_cmp nat_cmp y x) (nat_list_cmp_total.antisymm x y) a b)

-- none of these comes before it
abbrev Least : List ℕ → List (List ℕ) → Type 0
Least x [] = Unit {0}
Least x (y ∷ ys) = (comes_before y x ≡ false) × Least x ys

abbrev Rising : List (List ℕ) → Type 0
Rising [] = Unit {0}
Rising (x ∷ xs) = Least x xs × Rising xs

least_below : (x y : List ℕ) (ys : List (List ℕ)) → comes_before y x ≡ false → Least y ys → Least x ys
least_below x y [] e h = tt
least_below x y (z ∷ ys) e h = (order.chain z y x h.0 e, least_below x y ys e h.1)

least_placed : (x t : List ℕ) (ts : List (List ℕ)) → comes_before t x ≡ false → Least x ts
    → Least x (placed t ts)
least_placed x t [] e h = (e, tt)
least_placed x t (f ∷ ts) e h =
    either (comes_before f t)
    (λ q. rw q (h.0, least_placed x t ts e h.1))
    (λ q. rw q (e, h))

rising_placed : (t : List ℕ) (ts : List (List ℕ)) → Rising ts → Rising (placed t ts)
rising_placed t [] h = (tt, tt)
rising_placed t (f ∷ ts) h =
    either (comes_before f t)
    (λ q. rw q (least_placed f t ts (order.one_way f t q) h.0, rising_placed t ts h.1))
    (λ q. rw q ((q, least_below t f ts q h.0), h))

rising_in_order : (ts : List (List ℕ)) → Rising (in_order ts)
rising_in_order [] = tt
rising_in_order (t ∷ ts) = rising_placed t (in_order ts) (rising_in_order ts)

-- ---- how often a text is there

abbrev one_if : List ℕ → List ℕ → ℕ
one_if q x = cond (bytes_eq x q) 1 0

abbrev count : List ℕ → List (List ℕ) → ℕ
count q [] = 0
count q (x ∷ xs) = one_if q x + count q xs

count_sum : (q : List ℕ) (xs : List (List ℕ)) → sum_by (one_if q) xs ≡ count q xs
count_sum q [] = refl
count_sum q (x ∷ xs) = sum_by-cons (one_if q) x xs ∙ ap (λ (n : ℕ). one_if q x + n) (count_sum q xs)

count_placed : (q t : List ℕ) (ts : List (List ℕ)) → count q (placed t ts) ≡ one_if q t + count q ts
count_placed q t [] = refl
count_placed q t (f ∷ ts) =
    either (comes_before f t)
    (λ e. rw e (let i = count_placed q t ts in omega arith))
    (λ e. rw e refl)

count_in_order : (q : List ℕ) (ts : List (List ℕ)) → count q (in_order ts) ≡ count q ts
count_in_order q [] = refl
count_in_order q (t ∷ ts) =
    count_placed q t (in_order ts) ∙ ap (λ (n : ℕ). one_if q t + n) (count_in_order q ts)

itself : (x : List ℕ) → comes_before x x ≡ false
itself x = either (comes_before x x) (λ q. order.one_way x x q) (λ q. q)

one_of_itself : (x : List ℕ) → one_if x x ≡ 1
one_of_itself x = ap (λ (b : Bool). cond b 1 0) ((bytes_eq-Decides x x).1 refl)

-- a text that is there comes at or after the least
there : (q x : List ℕ) (xs : List (List ℕ)) → Least x xs → 0 < count q xs → comes_before q x ≡ false
there q x [] h l = absurd (omega arith)
there q x (y ∷ xs) h l =
    either (bytes_eq y q)
    (λ e. ap (λ (z : List ℕ). comes_before z x) (sym ((bytes_eq-Decides y q).0 e)) ∙ h.0)
    (λ e. there q x xs h.1 (let z = rw e at l in omega arith))

there_first : (q x : List ℕ) (xs : List (List ℕ)) → Least x xs → 0 < count q (x ∷ xs)
    → comes_before q x ≡ false
there_first q x xs h l = there q x (x ∷ xs) (itself x, h) l

one_order : (xs ys : List (List ℕ)) → Rising xs → Rising ys → ((q : List ℕ) → count q xs ≡ count q ys)
    → xs ≡ ys
one_order [] [] h k e = refl
one_order [] (y ∷ ys) h k e = absurd (let a = e y in let b = one_of_itself y in omega arith)
one_order (x ∷ xs) [] h k e = absurd (let a = e x in let b = one_of_itself x in omega arith)
one_order (x ∷ xs) (y ∷ ys) h k e =
    let ex = e x in
    let ey = e y in
    let ox = one_of_itself x in
    let oy = one_of_itself y in
    let p : x ≡ y =
    one_text x y (there_first x y ys k.0 (omega arith)) (there_first y x xs h.0 (omega arith)) in
    let tails : (q : List ℕ) → count q xs ≡ count q ys = λ q.
    let a = e q in
    let b : one_if q x ≡ one_if q y = ap (one_if q) p in
    omega arith in
    ap (λ (z : List ℕ). z ∷ xs) p ∙ ap (λ (zs : List (List ℕ)). y ∷ zs) (one_order xs ys h.1 k.1 tails)

-- ---- what a sort ensures

rising_sorted : (ys : List (Bor (List ℕ))) → IsSorted (λ x y. slice_cmp nat_cmp x.now y.now) ys
    → Rising (texts ys)
rising_sorted [] h = tt
rising_sorted (x ∷ []) h = (tt, tt)
rising_sorted (x ∷ y ∷ ys) h =
    let rest : Rising (texts (y ∷ ys)) =
    rising_sorted (y ∷ ys) (λ k d l m.
    let e : suc k + 1 ≡ suc (k + 1) = omega arith in
    ap (λ (n : ℕ). is_lt (slice_cmp nat_cmp (get_or (x ∷ y ∷ ys) n d).now (get_or (y ∷ ys) k d).now)) (sym e)
    ∙ h (suc k) d (omega arith) (omega arith)) in
    let first : comes_before y.now x.now ≡ false = h 0 x (omega arith) (omega arith) in
    ((first, least_below x.now y.now (texts ys) first rest.0), rest)

pub sorted_is : (xs ys : List (Bor (List ℕ))) → IsPermutation xs ys
    → IsSorted (λ x y. slice_cmp nat_cmp x.now y.now) ys → texts ys ≡ in_order (texts xs)
sorted_is xs ys p h =
    one_order (texts ys) (in_order (texts xs)) (rising_sorted ys h) (rising_in_order (texts xs))
    (λ q.
    sym (count_sum q (texts ys))
    ∙ (sum_by-IsPermutation (one_if q) (texts xs) (texts ys)
    (IsPermutation-map (λ (n : Bor (List ℕ)). n.now) xs ys p)
    ∙ (count_sum q (texts xs) ∙ sym (count_in_order q (texts xs)))))
