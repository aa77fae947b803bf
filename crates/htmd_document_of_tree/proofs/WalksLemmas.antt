-- Lists that are gone over with a state, each element changed in place.
use Rattle.std.proofs.Common.{◌≡◌, ℕ, zero, suc, ◌+◌, ◌≤◌, ◌<◌, List, [], ◌∷◌, ◌++◌, length, map, take, drop, get_or}
use Rattle.std.proofs.Common.{refl, sym, ◌∙◌, ap, append_assoc, add-one, arith}
use Rattle.std.proofs.Math.ListN.{set}
use Rattle.std.proofs.lemmas.List.{map-set, take_more_set, append-nil, length-map}

-- each element by f, with the state so far, which goes on by g
abbrev pub walk : {S V : Type 0} → (S → V → V) → (S → V → S) → S → List V → List V
walk f g s [] = []
walk f g s (v ∷ vs) = f s v ∷ walk f g (g s v) vs

abbrev pub gone : {S V : Type 0} → (S → V → S) → S → List V → S
gone g s [] = s
gone g s (v ∷ vs) = gone g (g s v) vs

-- what is left from an element on
pub drop-map : {X V : Type 0} (view : X → V) (xs : List X) (i : ℕ) (d : X) → i < length xs
    → drop i (map view xs) ≡ view (get_or xs i d) ∷ drop (suc i) (map view xs)
drop-map view [] i d h = absurd (omega arith)
drop-map view (y ∷ ys) zero d h = refl
drop-map view (y ∷ ys) (suc i) d h = drop-map view ys i d (omega arith)

-- the same by an element that is there
pub drop-item : {X V : Type 0} (view : X → V) (xs : List X) (i : ℕ) (x : X) → i < length xs
    → x ≡ get_or xs i x
    → drop i (map view xs) ≡ view x ∷ drop (suc i) (map view xs)
drop-item view xs i x h is =
    drop-map view xs i x h ∙ ap (λ y. view y ∷ drop (suc i) (map view xs)) (sym is)

pub drop-end : {X V : Type 0} (view : X → V) (xs : List X) (i : ℕ) → length xs ≤ i
    → drop i (map view xs) ≡ []
drop-end view [] zero h = refl
drop-end view [] (suc i) h = refl
drop-end view (y ∷ ys) zero h = absurd (omega arith)
drop-end view (y ∷ ys) (suc i) h = drop-end view ys i (omega arith)

pub take-end : {X V : Type 0} (view : X → V) (xs : List X) (i : ℕ) → length xs ≤ i
    → take i (map view xs) ≡ map view xs
take-end view [] zero h = refl
take-end view [] (suc i) h = refl
take-end view (y ∷ ys) zero h = absurd (omega arith)
take-end view (y ∷ ys) (suc i) h = ap (λ zs. view y ∷ zs) (take-end view ys i (omega arith))

-- the elements from an index on are those of another list
abbrev pub IsFrom : {X : Type 0} → ℕ → List X → List X → Type 0
IsFrom {X} i xs zs = (length xs ≡ length zs) × ((k : ℕ) (d : X) → i ≤ k → get_or xs k d ≡ get_or zs k d)

-- ---- one more

pub gone-more : {S X V : Type 0} (g : S → V → S) (view : X → V) (xs zs : List X) (i : ℕ) (s r : S) (d : X)
    → i < length zs → IsFrom i xs zs → gone g s (drop i (map view zs)) ≡ r
    → gone g (g s (view (get_or xs i d))) (drop (i + 1) (map view zs)) ≡ r
gone-more g view xs zs i s r d h from e =
    let same : get_or xs i d ≡ get_or zs i d = from.1 i d (omega arith) in
    rw (add-one, same) (sym (ap (λ vs. gone g s vs) (drop-map view zs i d h)) ∙ e)

pub walk-more : {S X V : Type 0} (f : S → V → V) (g : S → V → S) (view : X → V) (xs zs : List X)
    (i : ℕ) (s : S)
    (d y : X) (r : List V) → i < length zs → IsFrom i xs zs → view y ≡ f s (view (get_or xs i d))
    → take i (map view xs) ++ walk f g s (drop i (map view zs)) ≡ r
    → take (i + 1) (map view (set xs i y)) ++ walk f g (g s (view (get_or xs i d))) (drop (i + 1) (map view zs)) ≡ r
walk-more f g view xs zs i s d y r h from made e =
    let within : i < length (map view xs) = rw length-map (omega arith) in
    let rest = walk f g (g s (view (get_or xs i d))) (drop (i + 1) (map view zs)) in
    let put = take_more_set (map view xs) i (view y) within in
    let same : get_or xs i d ≡ get_or zs i d = from.1 i d (omega arith) in
    let next : walk f g s (drop i (map view zs)) ≡ f s (view (get_or xs i d)) ∷ rest =
    ap (λ vs. walk f g s vs) (drop-map view zs i d h) ∙ rw (add-one, same) refl in
    ap (λ vs. take (i + 1) vs ++ rest) (map-set view xs i y)
    ∙ (ap (λ vs. vs ++ rest) put
    ∙ (append_assoc (take i (map view xs)) (view y ∷ []) rest
    ∙ (ap (λ v. take i (map view xs) ++ (v ∷ rest)) made
    ∙ (ap (λ vs. take i (map view xs) ++ vs) (sym next) ∙ e))))

-- ---- at the end

pub gone-end : {S X V : Type 0} (g : S → V → S) (view : X → V) (zs : List X) (i : ℕ) (s r : S)
    → length zs ≤ i
    → gone g s (drop i (map view zs)) ≡ r → s ≡ r
gone-end g view zs i s r h e = sym (ap (λ vs. gone g s vs) (drop-end view zs i h)) ∙ e

pub walk-end : {S X V : Type 0} (f : S → V → V) (g : S → V → S) (view : X → V) (xs zs : List X)
    (i : ℕ) (s : S)
    (r : List V) → length zs ≤ i → length xs ≡ length zs
    → take i (map view xs) ++ walk f g s (drop i (map view zs)) ≡ r → map view xs ≡ r
walk-end f g view xs zs i s r h same e =
    let all : take i (map view xs) ≡ map view xs = take-end view xs i (omega arith) in
    let none : walk f g s (drop i (map view zs)) ≡ [] = ap (λ vs. walk f g s vs) (drop-end view zs i h) in
    sym (ap (λ vs. vs ++ walk f g s (drop i (map view zs))) all
    ∙ (ap (λ vs. map view xs ++ vs) none ∙ append-nil (map view xs)))
    ∙ e

-- ---- a list that is only read

pub read-item : {S X V : Type 0} (g : S → V → S) (view : X → V) (zs : List X) (i : ℕ) (s r : S) (x : X)
    → i < length zs → x ≡ get_or zs i x → gone g s (drop i (map view zs)) ≡ r
    → gone g (g s (view x)) (drop (i + 1) (map view zs)) ≡ r
read-item g view zs i s r x h is e = rw add-one (sym (ap (λ vs. gone g s vs) (drop-item view zs i x h is)) ∙ e)

-- ---- a list as it is

pub drop-at : {X : Type 0} (xs : List X) (i : ℕ) (d : X) → i < length xs
    → drop i xs ≡ get_or xs i d ∷ drop (suc i) xs
drop-at [] i d h = absurd (omega arith)
drop-at (y ∷ ys) zero d h = refl
drop-at (y ∷ ys) (suc i) d h = drop-at ys i d (omega arith)

pub drop-past : {X : Type 0} (xs : List X) (i : ℕ) → length xs ≤ i → drop i xs ≡ []
drop-past [] zero h = refl
drop-past [] (suc i) h = refl
drop-past (y ∷ ys) zero h = absurd (omega arith)
drop-past (y ∷ ys) (suc i) h = drop-past ys i (omega arith)

pub plain-more : {S V : Type 0} (g : S → V → S) (vs : List V) (i : ℕ) (s r : S) (d : V) → i < length vs
    → gone g s (drop i vs) ≡ r → gone g (g s (get_or vs i d)) (drop (i + 1) vs) ≡ r
plain-more g vs i s r d h e = rw add-one (sym (ap (λ ws. gone g s ws) (drop-at vs i d h)) ∙ e)

pub plain-end : {S V : Type 0} (g : S → V → S) (vs : List V) (i : ℕ) (s r : S) → length vs ≤ i
    → gone g s (drop i vs) ≡ r → s ≡ r
plain-end g vs i s r h e = sym (ap (λ ws. gone g s ws) (drop-past vs i h)) ∙ e

-- ---- up to an element

pub gone-append : {S V : Type 0} (g : S → V → S) (s : S) (vs ws : List V)
    → gone g s (vs ++ ws) ≡ gone g (gone g s vs) ws
gone-append g s [] ws = refl
gone-append g s (v ∷ vs) ws = gone-append g (g s v) vs ws

pub take-map : {X V : Type 0} (view : X → V) (zs : List X) (i : ℕ) (d : X) → i < length zs
    → take (suc i) (map view zs) ≡ take i (map view zs) ++ view (get_or zs i d) ∷ []
take-map view [] i d h = absurd (omega arith)
take-map view (z ∷ zs) zero d h = refl
take-map view (z ∷ zs) (suc i) d h = ap (λ vs. view z ∷ vs) (take-map view zs i d (omega arith))

pub take-item : {S X V : Type 0} (g : S → V → S) (view : X → V) (zs : List X) (i : ℕ) (s : S) (x : X)
    → i < length zs
    → x ≡ get_or zs i x
    → gone g s (take (i + 1) (map view zs)) ≡ g (gone g s (take i (map view zs))) (view x)
take-item g view zs i s x h is =
    rw add-one (ap (λ vs. gone g s vs) (take-map view zs i x h)
    ∙ gone-append g s (take i (map view zs)) (view (get_or zs i x) ∷ [])
    ∙ ap (λ y. g (gone g s (take i (map view zs))) (view y)) (sym is))

-- ---- one more at the end

pub pushed : {X V : Type 0} (view : X → V) (xs : List X) (x : X) (v : V) (vs : List V) → view x ≡ v
    → map view (xs ++ x ∷ []) ++ vs ≡ map view xs ++ v ∷ vs
pushed view [] x v vs e = ap (λ w. w ∷ vs) e
pushed view (y ∷ xs) x v vs e = ap (λ ws. view y ∷ ws) (pushed view xs x v vs e)
