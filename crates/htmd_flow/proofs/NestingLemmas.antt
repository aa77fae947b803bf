-- Lemmas on leaves with what stands around them.
use Rattle.std.proofs.Common.{◌≡◌, ℕ, zero, suc, ◌≤◌, Bool, true, false, List, [], ◌∷◌, ◌++◌, length, drop, take}
use Rattle.std.proofs.Common.{refl, sym, ◌∙◌, ap, arith, append_assoc}
use Rattle.htmd_document.specs.Documents.{Inline, text, code, image, line_break, task, link, Inlines, no_inlines}
use Rattle.htmd_document.specs.Documents.{anchor}
use Rattle.htmd_document.specs.Documents.{inline}
use Rattle.htmd_document.specs.Documents as value
use Rattle.htmd_flow.specs.Nesting.{wrapped_by, wrapped, one_inline, is_apart, met, joined, with_content}
use Rattle.htmd_flow.specs.Nesting.{Wrapper, of_format, of_link, in_last, before_link}
use Rattle.htmd_flow.specs.Nesting.{behind, text_or_code}
use Rattle.htmd_flow.specs.NestViews.{Frame, followed, within, frame_after}
use Rattle.htmd_flow.specs.Parts.{Around, formatted, linked}

-- ---- inlines after others

pub followed-none : (xs : Inlines) → followed xs no_inlines ≡ xs
followed-none no_inlines = refl
followed-none (inline x xs) = ap (inline x) (followed-none xs)

pub followed-assoc : (xs ys zs : Inlines) → followed (followed xs ys) zs ≡ followed xs (followed ys zs)
followed-assoc no_inlines ys zs = refl
followed-assoc (inline x xs) ys zs = ap (inline x) (followed-assoc xs ys zs)

met-apart : (x y : Inline) → is_apart y ≡ true → met x y ≡ inline x (one_inline y)
met-apart (text s) (text t) h = cc
met-apart (text s) (code t) h = cc
met-apart (text s) (value.formatted f xs) h = refl
met-apart (text s) (link a t xs) h = refl
met-apart (text s) (image a t d) h = refl
met-apart (text s) (anchor i) h = refl
met-apart (text s) line_break h = refl
met-apart (text s) (task b) h = refl
met-apart (code s) (text t) h = cc
met-apart (code s) (code t) h = cc
met-apart (code s) (value.formatted f xs) h = refl
met-apart (code s) (link a t xs) h = refl
met-apart (code s) (image a t d) h = refl
met-apart (code s) (anchor i) h = refl
met-apart (code s) line_break h = refl
met-apart (code s) (task b) h = refl
met-apart (value.formatted f xs) y h = refl
met-apart (link a t xs) y h = refl
met-apart (image a t d) y h = refl
met-apart (anchor i) y h = refl
met-apart line_break y h = refl
met-apart (task b) y h = refl

pub joined-apart : (xs : Inlines) (y : Inline) → is_apart y ≡ true → joined xs y ≡ followed xs (one_inline y)
joined-apart no_inlines y h = refl
joined-apart (inline x no_inlines) y h = met-apart x y h
joined-apart (inline x (inline x' xs)) y h = ap (inline x) (joined-apart (inline x' xs) y h)

pub apart-wrapped : (a : Around) (xs : Inlines) → is_apart (wrapped_by a xs) ≡ true
apart-wrapped (formatted f) xs = refl
apart-wrapped (linked n address title) xs = refl

-- ---- what stands in the last

pub in_last-followed : (change : Inlines → Inlines) (xs : Inlines) (y : Inline)
    → in_last change (followed xs (one_inline y)) ≡ followed xs (one_inline (with_content change y))
in_last-followed change no_inlines y = refl
in_last-followed change (inline x no_inlines) y = refl
in_last-followed change (inline x (inline x' xs)) y = ap (inline x) (in_last-followed change (inline x' xs) y)

pub with_content-wrapped : (change : Inlines → Inlines) (a : Around) (xs : Inlines)
    → with_content change (wrapped_by a xs) ≡ wrapped_by a (change xs)
with_content-wrapped change (formatted f) xs = refl
with_content-wrapped change (linked n address title) xs = refl

with_content-twice : (f g h : Inlines → Inlines) → ((xs : Inlines) → f (g xs) ≡ h xs)
    → (x : Inline) → with_content f (with_content g x) ≡ with_content h x
with_content-twice f g h same (text s) = refl
with_content-twice f g h same (code s) = refl
with_content-twice f g h same (value.formatted format xs) = ap (value.formatted format) (same xs)
with_content-twice f g h same (link a t xs) = ap (link a t) (same xs)
with_content-twice f g h same (image a t d) = refl
with_content-twice f g h same (anchor i) = refl
with_content-twice f g h same line_break = refl
with_content-twice f g h same (task b) = refl

in_last-twice : (f g h : Inlines → Inlines) → ((xs : Inlines) → f (g xs) ≡ h xs)
    → (xs : Inlines) → in_last f (in_last g xs) ≡ in_last h xs
in_last-twice f g h same no_inlines = refl
in_last-twice f g h same (inline x no_inlines) = ap (λ y. inline y no_inlines) (with_content-twice f g h same x)
in_last-twice f g h same (inline x (inline x' no_inlines)) =
    ap (λ y. inline x (inline y no_inlines)) (with_content-twice f g h same x')
in_last-twice f g h same (inline x (inline x' (inline x'' xs))) =
    ap (inline x) (in_last-twice f g h same (inline x' (inline x'' xs)))

-- ---- frames

pub within-push : (fs : List Frame) (before : Inlines) (a : Around) (xs : Inlines)
    → within (fs ++ frame_after before a ∷ []) xs ≡ within fs (followed before (one_inline (wrapped_by a xs)))
within-push [] before a xs = refl
within-push (f ∷ fs) before a xs =
    ap (λ ys. followed f.before (one_inline (wrapped_by f.around ys))) (within-push fs before a xs)

-- one more frame opens, and a leaf comes in it
pub within-open : (fs : List Frame) (content : Inlines) (a : Around) (y : Inline)
    → within (fs ++ frame_after content a ∷ []) (one_inline y) ≡ within fs
    (joined content (wrapped_by a (one_inline y)))
within-open fs content a y = within-push fs content a (one_inline y)
    ∙ ap (within fs) (sym (joined-apart content (wrapped_by a (one_inline y)) (apart-wrapped a (one_inline y))))

-- a leaf that shares all that is open
pub behind-within : (fs : List Frame) (content : Inlines) (around : List Around) (y : Inline)
    → length fs ≤ length around
    → behind (length fs) (within fs content) around y
    ≡ within fs (joined content (wrapped (drop (length fs) around) y))
behind-within [] content around y h = refl
behind-within (f ∷ fs) content [] y h = absurd (omega arith)
behind-within (f ∷ fs) content (a ∷ around) y h =
    let change : Inlines → Inlines = λ xs. behind (length fs) xs around y in
    in_last-followed change f.before (wrapped_by f.around (within fs content))
    ∙ (ap (λ x. followed f.before (one_inline x)) (with_content-wrapped change f.around (within fs content))
    ∙ ap (λ xs. followed f.before (one_inline (wrapped_by f.around xs)))
    (behind-within fs content around y (omega arith)))

-- ---- texts that meet

met-texts : (x : Inline) (is_code : Bool) (s t : List ℕ)
    → joined (met x (text_or_code is_code s)) (text_or_code is_code t) ≡ met x (text_or_code is_code (s ++ t))
met-texts (text r) false s t = ap (λ u. one_inline (text u)) (append_assoc r s t)
met-texts (text r) true s t = refl
met-texts (code r) false s t = refl
met-texts (code r) true s t = ap (λ u. one_inline (code u)) (append_assoc r s t)
met-texts (value.formatted f xs) false s t = refl
met-texts (value.formatted f xs) true s t = refl
met-texts (link a ti xs) false s t = refl
met-texts (link a ti xs) true s t = refl
met-texts (image a ti d) false s t = refl
met-texts (anchor i) false s t = refl
met-texts (image a ti d) true s t = refl
met-texts (anchor i) true s t = refl
met-texts line_break false s t = refl
met-texts line_break true s t = refl
met-texts (task b) false s t = refl
met-texts (task b) true s t = refl

met-skip : (x y : Inline) (is_code : Bool) (s : List ℕ) (z : Inline)
    → joined (inline x (met y (text_or_code is_code s))) z ≡ inline x (joined (met y (text_or_code is_code s)) z)
met-skip x (text r) false s z = refl
met-skip x (text r) true s z = refl
met-skip x (code r) false s z = refl
met-skip x (code r) true s z = refl
met-skip x (value.formatted f xs) false s z = refl
met-skip x (value.formatted f xs) true s z = refl
met-skip x (link a t xs) false s z = refl
met-skip x (link a t xs) true s z = refl
met-skip x (image a t d) false s z = refl
met-skip x (anchor i) false s z = refl
met-skip x (image a t d) true s z = refl
met-skip x (anchor i) true s z = refl
met-skip x line_break false s z = refl
met-skip x line_break true s z = refl
met-skip x (task b) false s z = refl
met-skip x (task b) true s z = refl

joined-skip : (x x' : Inline) (xs : Inlines) (is_code : Bool) (s : List ℕ) (z : Inline)
    → joined (inline x (joined (inline x' xs) (text_or_code is_code s))) z
    ≡ inline x (joined (joined (inline x' xs) (text_or_code is_code s)) z)
joined-skip x x' no_inlines is_code s z = met-skip x x' is_code s z
joined-skip x x' (inline x'' xs) is_code s z = refl

pub joined-texts : (xs : Inlines) (is_code : Bool) (s t : List ℕ)
    → joined (joined xs (text_or_code is_code s)) (text_or_code is_code t)
    ≡ joined xs (text_or_code is_code (s ++ t))
joined-texts no_inlines false s t = refl
joined-texts no_inlines true s t = refl
joined-texts (inline x no_inlines) is_code s t = met-texts x is_code s t
joined-texts (inline x (inline x' xs)) is_code s t =
    joined-skip x x' xs is_code s (text_or_code is_code t) ∙ ap (inline x) (joined-texts (inline x' xs) is_code s t)

-- a text comes after one that all of its formats were opened for
after-wrapped : (xs : Inlines) (around : List Around) (is_code : Bool) (s t : List ℕ)
    → behind (length around) (joined xs (wrapped around (text_or_code is_code s))) around (text_or_code is_code t)
    ≡ joined xs (wrapped around (text_or_code is_code (s ++ t)))
after-wrapped xs [] is_code s t = joined-texts xs is_code s t
after-wrapped xs (a ∷ around) is_code s t =
    let change : Inlines → Inlines = λ ys. behind (length around) ys around (text_or_code is_code t) in
    let first : Inlines = one_inline (wrapped around (text_or_code is_code s)) in
    let both : Inlines = one_inline (wrapped around (text_or_code is_code (s ++ t))) in
    ap (in_last change) (joined-apart xs (wrapped_by a first) (apart-wrapped a first))
    ∙ (in_last-followed change xs (wrapped_by a first)
    ∙ (ap (λ x. followed xs (one_inline x)) (with_content-wrapped change a first
    ∙ ap (wrapped_by a) (after-wrapped no_inlines around is_code s t))
    ∙ sym (joined-apart xs (wrapped_by a both) (apart-wrapped a both))))

-- a text comes after another with the same around it
pub behind-texts : (n : ℕ) (xs : Inlines) (around : List Around) (is_code : Bool) (s t : List ℕ)
    → n ≤ length around
    → behind (length around) (behind n xs around (text_or_code is_code s)) around (text_or_code is_code t)
    ≡ behind n xs around (text_or_code is_code (s ++ t))
behind-texts zero xs around is_code s t h = after-wrapped xs around is_code s t
behind-texts (suc n) xs [] is_code s t h = absurd (omega arith)
behind-texts (suc n) xs (a ∷ around) is_code s t h = in_last-twice
    (λ ys. behind (length around) ys around (text_or_code is_code t))
    (λ ys. behind n ys around (text_or_code is_code s))
    (λ ys. behind n ys around (text_or_code is_code (s ++ t)))
    (λ ys. behind-texts n ys around is_code s t (omega arith)) xs

-- ---- without the link that is open

pub before-front : (ms : List Wrapper) → (n : ℕ) × (before_link ms ≡ take n ms)
before-front [] = (0, refl)
before-front (of_format f ∷ ms) =
    let rest = before-front ms in (suc rest.0, ap (λ ns. of_format f ∷ ns) rest.1)
before-front (of_link node ∷ ms) = (0, refl)
