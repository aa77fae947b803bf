-- Inlines put after inlines, at the place where a line goes on.
use Rattle.std.proofs.Common.{◌≡◌, ℕ, zero, suc, Bool, true, false, List, [], ◌∷◌, ◌++◌, map, take}
use Rattle.std.proofs.Common.{refl}
use Rattle.std.proofs.Common.{sym, ap, ◌∙◌}
use Rattle.std.proofs.lemmas.List.{append_assoc}
use Rattle.htmd_document.specs.Documents.{Inline, text, code, formatted, link, image, anchor, line_break, task}
use Rattle.htmd_document.specs.Documents.{Inlines, no_inlines, inline}
use Rattle.htmd_document.specs.NormalInlines.{has_none}
use Rattle.htmd_flow.specs.Nesting.{Wrapper, wrapper_of, shared, wrapped, text_or_code, one_inline, met}
use Rattle.htmd_flow.specs.Nesting.{joined, in_last, behind}
use Rattle.htmd_flow.specs.Nesting.{wrapped_by, with_content}
use Rattle.htmd_flow.specs.Parts as part
use Rattle.htmd_flow.specs.Parts.{Around}
use Rattle.htmd_flow.proofs.ParagraphsLemmas.{alike-wrapper}
use Rattle.htmd_law_returning.proofs.StartLemmas.{true-false, false-true}

-- inlines and then others
abbrev pub appended : Inlines → Inlines → Inlines
appended no_inlines ys = ys
appended (inline x xs) ys = inline x (appended xs ys)

pub appended-assoc : (xs ys zs : Inlines) → appended (appended xs ys) zs ≡ appended xs (appended ys zs)
appended-assoc no_inlines ys zs = refl
appended-assoc (inline x xs) ys zs = ap (inline x) (appended-assoc xs ys zs)

pub appended-none : (xs : Inlines) → appended xs no_inlines ≡ xs
appended-none no_inlines = refl
appended-none (inline x xs) = ap (inline x) (appended-none xs)

-- ---- what meets

-- two texts or two codes
abbrev pub is_merging : Inline → Inline → Bool
is_merging (text s) (text t) = true
is_merging (code s) (code t) = true
is_merging x y = false

pub met-apart : (x y : Inline) → is_merging x y ≡ false → met x y ≡ inline x (one_inline y)
met-apart (text s) (text t) h = true-false h
met-apart (text s) (code t) h = refl
met-apart (text s) (formatted f c) h = refl
met-apart (text s) (link a t c) h = refl
met-apart (text s) (image a t d) h = refl
met-apart (text s) (anchor id) h = refl
met-apart (text s) line_break h = refl
met-apart (text s) (task d) h = refl
met-apart (code s) (text t) h = refl
met-apart (code s) (code t) h = true-false h
met-apart (code s) (formatted f c) h = refl
met-apart (code s) (link a t c) h = refl
met-apart (code s) (image a t d) h = refl
met-apart (code s) (anchor id) h = refl
met-apart (code s) line_break h = refl
met-apart (code s) (task d) h = refl
met-apart (formatted f c) y h = refl
met-apart (link a t c) y h = refl
met-apart (image a t d) y h = refl
met-apart (anchor id) y h = refl
met-apart line_break y h = refl
met-apart (task d) y h = refl

pub joined-last : (xs : Inlines) (x y : Inline) → joined (appended xs (one_inline x)) y ≡ appended xs (met x y)
joined-last no_inlines x y = refl
joined-last (inline a no_inlines) x y = refl
joined-last (inline a (inline b xs)) x y = ap (inline a) (joined-last (inline b xs) x y)

pub joined-apart : (xs : Inlines) (x y : Inline) → is_merging x y ≡ false
    → joined (appended xs (one_inline x)) y ≡ appended (appended xs (one_inline x)) (one_inline y)
joined-apart xs x y h =
    joined-last xs x y
    ∙ (ap (appended xs) (met-apart x y h) ∙ sym (appended-assoc xs (one_inline x) (one_inline y)))

joined-some : (xs : Inlines) (y : Inline) → has_none (joined xs y) ≡ false
joined-some no_inlines y = refl
joined-some (inline (text s) no_inlines) (text t) = refl
joined-some (inline (text s) no_inlines) (code t) = refl
joined-some (inline (text s) no_inlines) (formatted f c) = refl
joined-some (inline (text s) no_inlines) (link a t c) = refl
joined-some (inline (text s) no_inlines) (image a t d) = refl
joined-some (inline (text s) no_inlines) (anchor id) = refl
joined-some (inline (text s) no_inlines) line_break = refl
joined-some (inline (text s) no_inlines) (task d) = refl
joined-some (inline (code s) no_inlines) (text t) = refl
joined-some (inline (code s) no_inlines) (code t) = refl
joined-some (inline (code s) no_inlines) (formatted f c) = refl
joined-some (inline (code s) no_inlines) (link a t c) = refl
joined-some (inline (code s) no_inlines) (image a t d) = refl
joined-some (inline (code s) no_inlines) (anchor id) = refl
joined-some (inline (code s) no_inlines) line_break = refl
joined-some (inline (code s) no_inlines) (task d) = refl
joined-some (inline (formatted f c) no_inlines) y = refl
joined-some (inline (link a t c) no_inlines) y = refl
joined-some (inline (image a t d) no_inlines) y = refl
joined-some (inline (anchor id) no_inlines) y = refl
joined-some (inline line_break no_inlines) y = refl
joined-some (inline (task d) no_inlines) y = refl
joined-some (inline x (inline x' xs)) y = refl

pub joined-inner : (x : Inline) (xs : Inlines) (y : Inline) → has_none xs ≡ false
    → joined (inline x xs) y ≡ inline x (joined xs y)
joined-inner x no_inlines y h = true-false h
joined-inner x (inline z xs) y h = refl

pub in-last-inner : (change : Inlines → Inlines) (x : Inline) (xs : Inlines) → has_none xs ≡ false
    → in_last change (inline x xs) ≡ inline x (in_last change xs)
in-last-inner change x no_inlines h = true-false h
in-last-inner change x (inline z xs) h = refl

-- a text in two, and a code in two
met-twice : (k : Bool) (x : Inline) (s t : List ℕ)
    → joined (met x (text_or_code k s)) (text_or_code k t) ≡ met x (text_or_code k (s ++ t))
met-twice true (text u) s t = refl
met-twice true (code u) s t = ap (λ v. one_inline (code v)) (append_assoc u s t)
met-twice true (formatted f c) s t = refl
met-twice true (link a u c) s t = refl
met-twice true (image a u d) s t = refl
met-twice true (anchor id) s t = refl
met-twice true line_break s t = refl
met-twice true (task d) s t = refl
met-twice false (text u) s t = ap (λ v. one_inline (text v)) (append_assoc u s t)
met-twice false (code u) s t = refl
met-twice false (formatted f c) s t = refl
met-twice false (link a u c) s t = refl
met-twice false (image a u d) s t = refl
met-twice false (anchor id) s t = refl
met-twice false line_break s t = refl
met-twice false (task d) s t = refl

pub joined-twice : (k : Bool) (xs : Inlines) (s t : List ℕ)
    → joined (joined xs (text_or_code k s)) (text_or_code k t) ≡ joined xs (text_or_code k (s ++ t))
joined-twice true no_inlines s t = refl
joined-twice false no_inlines s t = refl
joined-twice k (inline x no_inlines) s t = met-twice k x s t
joined-twice k (inline x (inline y xs)) s t =
    joined-inner x (joined (inline y xs) (text_or_code k s)) (text_or_code k t)
    (joined-some (inline y xs) (text_or_code k s))
    ∙ ap (inline x) (joined-twice k (inline y xs) s t)

-- ---- where a line goes on

-- in so many formats, and in as many more
abbrev pub deep : List Around → ℕ → ℕ
deep [] m = m
deep (a ∷ around) m = suc (deep around m)

pub shared-deep : (around : List Around) (ms ns : List Wrapper)
    → shared (map wrapper_of around ++ ms) (map wrapper_of around ++ ns) ≡ deep around (shared ms ns)
shared-deep [] ms ns = refl
shared-deep (a ∷ around) ms ns = rw (alike-wrapper (wrapper_of a)) (ap suc (shared-deep around ms ns))

pub take-deep : (around more : List Around) → take (deep around 0) (around ++ more) ≡ around
take-deep [] more = refl
take-deep (a ∷ around) more = ap (λ x. a ∷ x) (take-deep around more)

-- what comes in around a hole stands in the hole
abbrev pub IsHole : (Inlines → Inlines) → List Around → Type 0
IsHole put around = (m : ℕ) (xs : Inlines) (inner : List Around) (y : Inline)
    → behind (deep around m) (put xs) (around ++ inner) y ≡ put (behind m xs inner y)

pub whole-hole : IsHole (λ xs. xs) []
whole-hole m xs inner y = refl

deep-more : (around : List Around) (a : Around) (m : ℕ) → deep (around ++ a ∷ []) m ≡ deep around (suc m)
deep-more [] a m = refl
deep-more (b ∷ around) a m = ap suc (deep-more around a m)

-- what stands around merges with nothing
pub merging-around : (x : Inline) (a : Around) (c : Inlines) → is_merging x (wrapped_by a c) ≡ false
merging-around (text s) (part.formatted f) c = refl
merging-around (text s) (part.linked n u v) c = refl
merging-around (code s) (part.formatted f) c = refl
merging-around (code s) (part.linked n u v) c = refl
merging-around (formatted f d) a c = refl
merging-around (link u v d) a c = refl
merging-around (image u v d) a c = refl
merging-around (anchor id) a c = refl
merging-around line_break a c = refl
merging-around (task d) a c = refl

content-around : (change : Inlines → Inlines) (a : Around) (c : Inlines)
    → with_content change (wrapped_by a c) ≡ wrapped_by a (change c)
content-around change (part.formatted f) c = refl
content-around change (part.linked n u v) c = refl

in-last-joined : (change : Inlines → Inlines) (xs : Inlines) (a : Around) (c : Inlines)
    → in_last change (joined xs (wrapped_by a c)) ≡ joined xs (wrapped_by a (change c))
in-last-joined change no_inlines a c = ap (λ x. inline x no_inlines) (content-around change a c)
in-last-joined change (inline x no_inlines) a c =
    ap (in_last change) (met-apart x (wrapped_by a c) (merging-around x a c))
    ∙ (ap (λ y. inline x (inline y no_inlines)) (content-around change a c)
    ∙ sym (met-apart x (wrapped_by a (change c)) (merging-around x a (change c))))
in-last-joined change (inline x (inline y xs)) a c =
    in-last-inner change x (joined (inline y xs) (wrapped_by a c)) (joined-some (inline y xs) (wrapped_by a c))
    ∙ ap (inline x) (in-last-joined change (inline y xs) a c)

-- one more format or link
pub around-hole : (put : Inlines → Inlines) (around : List Around) (xs : Inlines) (a : Around) → IsHole put around
    → IsHole (λ c. put (joined xs (wrapped_by a c))) (around ++ a ∷ [])
around-hole put around xs a h m c inner y =
    ap (λ n. behind n (put (joined xs (wrapped_by a c))) ((around ++ a ∷ []) ++ inner) y) (deep-more around a m)
    ∙ (ap (λ all. behind (deep around (suc m)) (put (joined xs (wrapped_by a c))) all y)
    (append_assoc around (a ∷ []) inner)
    ∙ (h (suc m) (joined xs (wrapped_by a c)) (a ∷ inner) y
    ∙ ap put (in-last-joined (λ content. behind m content inner y) xs a c)))

-- ---- after what stands by itself

-- nothing merges with it, and nothing is in it
abbrev pub is_lone : Inline → Bool
is_lone line_break = true
is_lone (anchor id) = true
is_lone x = false

met-lone : (z y : Inline) → is_lone z ≡ true → met z y ≡ inline z (one_inline y)
met-lone (text s) y h = false-true h
met-lone (code s) y h = false-true h
met-lone (formatted f c) y h = false-true h
met-lone (link a t c) y h = false-true h
met-lone (image a t d) y h = false-true h
met-lone (anchor id) y h = refl
met-lone line_break y h = refl
met-lone (task d) y h = false-true h

lone-content : (change : Inlines → Inlines) (z : Inline) → is_lone z ≡ true → with_content change z ≡ z
lone-content change (text s) h = false-true h
lone-content change (code s) h = false-true h
lone-content change (formatted f c) h = false-true h
lone-content change (link a t c) h = false-true h
lone-content change (image a t d) h = false-true h
lone-content change (anchor id) h = refl
lone-content change line_break h = refl
lone-content change (task d) h = false-true h

some-behind : (xs : Inlines) (z : Inline) (ys : Inlines)
    → has_none (appended (appended xs (one_inline z)) ys) ≡ false
some-behind no_inlines z ys = refl
some-behind (inline x xs) z ys = refl

joined-behind : (xs : Inlines) (z : Inline) (ys : Inlines) (y : Inline) → is_lone z ≡ true
    → joined (appended (appended xs (one_inline z)) ys) y ≡ appended (appended xs (one_inline z)) (joined ys y)
joined-behind no_inlines z no_inlines y h = met-lone z y h
joined-behind no_inlines z (inline x ys) y h = refl
joined-behind (inline x xs) z ys y h =
    joined-inner x (appended (appended xs (one_inline z)) ys) y (some-behind xs z ys)
    ∙ ap (inline x) (joined-behind xs z ys y h)

in-last-behind : (change : Inlines → Inlines) (xs : Inlines) (z : Inline) (ys : Inlines) → is_lone z ≡ true
    → in_last change (appended (appended xs (one_inline z)) ys)
    ≡ appended (appended xs (one_inline z)) (in_last change ys)
in-last-behind change no_inlines z no_inlines h = ap one_inline (lone-content change z h)
in-last-behind change no_inlines z (inline x ys) h = refl
in-last-behind change (inline x xs) z ys h =
    in-last-inner change x (appended (appended xs (one_inline z)) ys) (some-behind xs z ys)
    ∙ ap (inline x) (in-last-behind change xs z ys h)

behind-lone : (m : ℕ) (xs : Inlines) (z : Inline) (ys : Inlines) (inner : List Around) (y : Inline)
    → is_lone z ≡ true
    → behind m (appended (appended xs (one_inline z)) ys) inner y
    ≡ appended (appended xs (one_inline z)) (behind m ys inner y)
behind-lone zero xs z ys inner y h = joined-behind xs z ys (wrapped inner y) h
behind-lone (suc m) xs z ys [] y h = joined-behind xs z ys y h
behind-lone (suc m) xs z ys (a ∷ inner) y h = in-last-behind (λ content. behind m content inner y) xs z ys h

-- the line goes on as one of its own
pub lone-hole : (put : Inlines → Inlines) (around : List Around) (xs : Inlines) (z : Inline) → is_lone z ≡ true
    → IsHole put around
    → IsHole (λ ys. put (appended (appended xs (one_inline z)) ys)) around
lone-hole put around xs z e h m ys inner y =
    h m (appended (appended xs (one_inline z)) ys) inner y ∙ ap put (behind-lone m xs z ys inner y e)
