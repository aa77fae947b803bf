-- Parts fed after parts.
use Rattle.std.proofs.Common.{◌≡◌, List, [], ◌∷◌, ◌++◌, refl, sym, ap, ◌∙◌}
use Rattle.std.specs.Prelude.{Option, Some, None, IsSome, Result, Ok, Err, OnOk, IfOk}
use Rattle.std.specs.Option.{option_to_list}
use Rattle.std.proofs.lemmas.List.Sums.{fold-append}
use Rattle.htmd_flow.specs.Contexts.{apart}
use Rattle.htmd_flow.specs.Paragraphs.{Writing, fed, fed_all}
use Rattle.htmd_flow.specs.Parts.{Part, edge}

pub fed-append : (w : Writing) (xs ys : List Part) → fed_all w (xs ++ ys) ≡ fed_all (fed_all w xs) ys
fed-append w xs ys = fold-append fed w xs ys

-- one part more
pub fed_after : (w u v : Writing) (ps : List Part) (p : Part) → u ≡ fed_all w ps → v ≡ fed u p
    → v ≡ fed_all w (ps ++ p ∷ [])
fed_after w u v ps p h e = e ∙ ap (λ x. fed x p) h ∙ sym (fed-append w ps (p ∷ []))

-- parts after parts
pub fed_both : (w u v : Writing) (ps qs : List Part) → u ≡ fed_all w ps → v ≡ fed_all u qs
    → v ≡ fed_all w (ps ++ qs)
fed_both w u v ps qs h e = e ∙ ap (λ x. fed_all x qs) h ∙ sym (fed-append w ps qs)

-- parts between edges
pub fed_apart : (w u v x : Writing) (ps : List Part) → u ≡ fed w edge → v ≡ fed_all u ps → x ≡ fed v edge
    → x ≡ fed_all w (apart ps)
fed_apart w u v x ps e f g = fed_after (fed w edge) v x ps edge (f ∙ ap (λ y. fed_all y ps) e) g

-- what stands before items, and lists, between edges
pub fed_list : (w u v x y z : Writing) (ps qs : List Part) → u ≡ fed w edge → v ≡ fed_all u ps
    → x ≡ fed v edge → y ≡ fed_all x qs → z ≡ fed y edge → z ≡ fed_all w ((edge ∷ ps) ++ apart qs)
fed_list w u v x y z ps qs e f g h i =
    fed_both (fed w edge) v z ps (apart qs) (f ∙ ap (λ a. fed_all a ps) e) (fed_apart v x y z qs g h i)

-- one more was fed
pub fed_step : (w v : Writing) (all part rest : List Part) → v ≡ fed_all w part → all ≡ part ++ rest
    → fed_all v rest ≡ fed_all w all
fed_step w v all part rest h e =
    ap (λ u. fed_all u rest) h ∙ sym (fed-append w part rest) ∙ ap (fed_all w) (sym e)

-- ---- what comes of a call

pub on_ok : {T E : Type 0} (r : Result T E) {A B : Type 0} → OnOk r A → (A → B) → OnOk r B
on_ok (Ok x) a f = f a
on_ok (Err e) a f = tt

pub all_ok : {T E : Type 0} (r : Result T E) {A B C D : Type 0} → OnOk r A → OnOk r B → OnOk r C
    → (A → B → C → D)
    → OnOk r D
all_ok (Ok x) a b c f = f a b c
all_ok (Err e) a b c f = tt

pub any_ok : {T E : Type 0} (r : Result T E) {A : Type 0} → A → OnOk r A
any_ok (Ok x) a = a
any_ok (Err e) a = tt

pub if_ok : {T E : Type 0} (r : Result T E) (P Q : T → Type 0) → IfOk r P → ((x : T) → P x → Q x) → IfOk r Q
if_ok (Ok x) P Q a f = f x a
if_ok (Err e) P Q a f = tt

-- ---- what was put last was taken

same_front : {A : Type 0} (xs ys : List A) (a b : A) → xs ++ a ∷ [] ≡ ys ++ b ∷ [] → ys ≡ xs
same_front [] [] a b e = refl
same_front [] (y ∷ []) a b e = (cc)
same_front [] (y ∷ z ∷ ys) a b e = (cc)
same_front (x ∷ []) [] a b e = (cc)
same_front (x ∷ z ∷ xs) [] a b e = (cc)
same_front (x ∷ xs) (y ∷ ys) a b e =
    let h : x ≡ y = cc in
    let t : xs ++ a ∷ [] ≡ ys ++ b ∷ [] = cc in
    ap (λ zs. y ∷ zs) (same_front xs ys a b t) ∙ ap (λ z. z ∷ xs) (sym h)

pub popped : {A : Type 0} (xs ys : List A) (a : A) (r : Option A) → xs ++ a ∷ [] ≡ ys ++ option_to_list r
    → IsSome r → ys ≡ xs
popped xs ys a None e some = (cc)
popped xs ys a (Some b) e some = same_front xs ys a b e
