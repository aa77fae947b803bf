-- Loops over the children of a node.
use Rattle.std.proofs.Common.{◌≡◌, ℕ, ◌+◌, ◌<◌, ◌≤◌, List, [], ◌∷◌, ◌++◌, length, get_or, take, drop, map, refl, sym}
use Rattle.std.proofs.Common.{ap, ◌∙◌, arith, All, Bool, true, false, cond, ◌||◌, ◌&&◌, subst, filter, fold}
use Rattle.std.specs.List.{list_any, zip}
use Rattle.std.proofs.lemmas.List.{take_more, take_all, drop_more, drop_all, get_or_default, append-nil, map_push}
use Rattle.std.proofs.lemmas.List.{take-append-drop}
use Rattle.std.proofs.lemmas.List.Sums.{fold-append, fold_more}
use Rattle.std.proofs.lemmas.List.Folds.{list_any_at, list_any-append}
use Rattle.std.proofs.lemmas.List.Elements.{All-from_get_or, Contains-get_or, filter_more, filter-append}
use Rattle.htmd_nodes.specs.Items.{Item, children_of, IsTree, IsBelow, child}
use Rattle.htmd_nodes.proofs.ItemsLemmas.{child_read}
use Rattle.std.proofs.lemmas.List.Elements.{All-get_or}
use Rattle.std.proofs.lemmas.Slice.Zip.{length-zip, get_or-zip}
use Rattle.htmd_walk.specs.declared.element_handler.HandlerResult.{HandlerResult}
use Rattle.htmd_walk.specs.Views.{results_view}
use Rattle.htmd_walk.specs.ElementPlans.{are_markdown}

-- ---- whether one of a list passes a test

pub any_here : (p : ℕ → Bool) (xs : List ℕ) (i x : ℕ) → i < length xs → x ≡ get_or xs i x → p x ≡ true
    → list_any p xs ≡ true
any_here p xs i x l e h = list_any_at p xs i x l (ap p (sym e) ∙ h)

pub none_more : (p : ℕ → Bool) (xs : List ℕ) (i x : ℕ) → i < length xs → x ≡ get_or xs i x
    → list_any p (take i xs) ≡ false → p x ≡ false → list_any p (take (i + 1) xs) ≡ false
none_more p xs i x l e h n =
    ap (list_any p) (take_more xs i x l ∙ ap (λ y. take i xs ++ y ∷ []) (sym e))
    ∙ list_any-append p (take i xs) (x ∷ [])
    ∙ ap (λ b. b || (p x || false)) h
    ∙ ap (λ b. b || false) n

pub none_all : (p : ℕ → Bool) (xs : List ℕ) (i : ℕ) → list_any p (take i xs) ≡ false → length xs ≤ i
    → list_any p xs ≡ false
none_all p xs i h l = sym (ap (list_any p) (take_all i xs l)) ∙ h

-- ---- those of a list that pass a test

pub filtered_in : (p : ℕ → Bool) (xs : List ℕ) (i x : ℕ) → i < length xs → x ≡ get_or xs i x
    → p x ≡ true
    → filter p (take (i + 1) xs) ≡ filter p (take i xs) ++ x ∷ []
filtered_in p xs i x l e h =
    filter_more p xs i x l
    ∙ ap (λ y. filter p (take i xs) ++ cond (p y) (y ∷ []) []) (sym e)
    ∙ ap (λ b. filter p (take i xs) ++ cond b (x ∷ []) []) h

pub filtered_out : (p : ℕ → Bool) (xs : List ℕ) (i x : ℕ) → i < length xs → x ≡ get_or xs i x
    → p x ≡ false
    → filter p (take (i + 1) xs) ≡ filter p (take i xs)
filtered_out p xs i x l e h =
    filter_more p xs i x l
    ∙ ap (λ y. filter p (take i xs) ++ cond (p y) (y ∷ []) []) (sym e)
    ∙ ap (λ b. filter p (take i xs) ++ cond b (x ∷ []) []) h
    ∙ append-nil (filter p (take i xs))

pub filtered_all : (p : ℕ → Bool) (xs : List ℕ) (i : ℕ) → length xs ≤ i
    → filter p (take i xs) ≡ filter p xs
filtered_all p xs i l = ap (filter p) (take_all i xs l)

-- the first that passes
pub filtered_first : (p : ℕ → Bool) (xs : List ℕ) (i x : ℕ) → i < length xs → x ≡ get_or xs i x
    → p x ≡ true
    → filter p (take i xs) ≡ [] → filter p xs ≡ x ∷ filter p (drop (i + 1) xs)
filtered_first p xs i x l e h n =
    ap (filter p) (sym (take-append-drop (i + 1) xs))
    ∙ filter-append p (take (i + 1) xs) (drop (i + 1) xs)
    ∙ ap (λ ys. ys ++ filter p (drop (i + 1) xs)) (filtered_in p xs i x l e h ∙ ap (λ ys. ys ++ x ∷ []) n)

pub fold_in : {B : Type 0} (f : B → ℕ → B) (a : B) (p : ℕ → Bool) (xs : List ℕ) (i x : ℕ)
    → i < length xs
    → x ≡ get_or xs i x → p x ≡ true
    → fold f a (filter p (take (i + 1) xs)) ≡ f (fold f a (filter p (take i xs))) x
fold_in f a p xs i x l e h = ap (fold f a) (filtered_in p xs i x l e h)
    ∙ fold-append f a (filter p (take i xs)) (x ∷ [])

pub fold_out : {B : Type 0} (f : B → ℕ → B) (a : B) (p : ℕ → Bool) (xs : List ℕ) (i x : ℕ)
    → i < length xs
    → x ≡ get_or xs i x → p x ≡ false
    → fold f a (filter p (take (i + 1) xs)) ≡ fold f a (filter p (take i xs))
fold_out f a p xs i x l e h = ap (fold f a) (filtered_out p xs i x l e h)

pub fold_next : {B : Type 0} (f : B → ℕ → B) (a : B) (xs : List ℕ) (i x : ℕ) → i < length xs
    → x ≡ get_or xs i x
    → fold f a (take (i + 1) xs) ≡ f (fold f a (take i xs)) x
fold_next f a xs i x l e = fold_more f a xs i x l ∙ ap (f (fold f a (take i xs))) (sym e)

-- ---- the children of a node

pub children_proper : (items : List Item) (node : ℕ)
    → All (λ d. ∥ IsBelow items node d ∥₁) (children_of items node)
children_proper items node = All-from_get_or (λ d. ∥ IsBelow items node d ∥₁) (children_of items node) 0
    (λ i l. ∣ child {d = get_or (children_of items node) i 0} (Contains-get_or (children_of items node) i 0 l)
    ∣₁)

pub children_within : (items : List Item) (node : ℕ) → IsTree items → node < length items
    → All (λ d. d < length items) (children_of items node)
children_within items node t w = All-from_get_or (λ d. d < length items) (children_of items node) 0
    (λ i l. (child_read items node (children_of items node) i (get_or (children_of items node) i 0) t w refl l
    (get_or_default (children_of items node) i 0 (get_or (children_of items node) i 0) l)).1)

-- a child that a loop comes to
pub child_within : (items : List Item) (node : ℕ) (ids : List ℕ) (i x : ℕ) → IsTree items
    → node < length items
    → ids ≡ children_of items node → i < length ids → x ≡ get_or ids i x → x < length items
child_within items node ids i x t w e l h = (child_read items node ids i x t w e l h).1

-- ---- pairs

pub zip-map : {A B C D : Type 0} (f : A × C → D) (g : B → C) (xs : List A) (ys : List B)
    → map f (zip xs (map g ys)) ≡ map (λ (p : A × B). f (p.0, g p.1)) (zip xs ys)
zip-map f g [] ys = refl
zip-map f g (x ∷ xs) [] = refl
zip-map f g (x ∷ xs) (y ∷ ys) = ap (λ zs. f (x, g y) ∷ zs) (zip-map f g xs ys)

-- what holds for all first parts holds for each that comes up
pub zip_first_all : {A B : Type 0} (P : A → Type 0) (xs : List A) (ys : List B) (i : ℕ) (x : A) (y : B) → All P xs
    → i < length (zip xs ys) → (x, y) ≡ get_or (zip xs ys) i (x, y) → P x
zip_first_all P xs ys i x y a l e =
    let m : i < length xs = omega (arith, length-zip xs ys) in
    let n : i < length ys = omega (arith, length-zip xs ys) in
    subst P (sym (ap (λ q. q.0) (e ∙ get_or-zip xs ys i (x, y) m n))) (All-get_or P xs i x m a)

-- ---- whether all results are Markdown

pub markdown_at : (xs : List HandlerResult) (i : ℕ) (x : HandlerResult) → i < length xs → x ≡ get_or xs i x
    → are_markdown (results_view (drop i xs))
    ≡ (x.markdown_translated && are_markdown (results_view (drop (i + 1) xs)))
markdown_at xs i x l e =
    ap (λ ys. are_markdown (results_view ys)) (drop_more xs i x l ∙ ap (λ y. y ∷ drop (i + 1) xs) (sym e))

pub markdown_end : (xs : List HandlerResult) (i : ℕ) → length xs ≤ i
    → are_markdown (results_view (drop i xs)) ≡ true
markdown_end xs i l = ap (λ ys. are_markdown (results_view ys)) (drop_all i xs l)

-- ---- one element more

pub map_next : {A B : Type 0} (f : A → B) (xs : List A) (i : ℕ) (x : A) → i < length xs → x ≡ get_or xs i x
    → map f (take (i + 1) xs) ≡ map f (take i xs) ++ f x ∷ []
map_next f xs i x l e =
    ap (map f) (take_more xs i x l ∙ ap (λ y. take i xs ++ y ∷ []) (sym e)) ∙ map_push f (take i xs) x
