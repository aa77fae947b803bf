-- Inlines of normal documents: a leaf goes in all that it shares with the leaf before.
use Rattle.std.proofs.Common.{◌≡◌, ℕ, suc, Bool, true, false, cond, List, [], ◌∷◌}
use Rattle.std.proofs.Common.{map, take, refl, sym, ap, ◌∙◌, subst, Option, Some, None}
use Rattle.htmd_lexical.proofs.Cases.{test}
use Rattle.htmd_document.specs.Formats.{Format}
use Rattle.htmd_document.specs.Documents.{Inline, code, anchor, Inlines}
use Rattle.htmd_flow.specs.Nesting.{Wrapper, of_format, of_link, wrapper_of, is_same, shared, wrapped_by, wrapped}
use Rattle.htmd_flow.specs.Nesting.{one_inline, joined, in_last, behind}
use Rattle.htmd_flow.specs.NestViews.{followed}
use Rattle.htmd_flow.specs.Paragraphs.{anchored}
use Rattle.htmd_flow.specs.Parts.{Around, formatted, linked}
use Rattle.htmd_flow.proofs.NestingLemmas.{in_last-followed, with_content-wrapped}
use Rattle.htmd_flow.proofs.ParagraphsLemmas.{same-wrapper, alike-wrapper}
use Rattle.htmd_document.specs.NormalInlines.{is_text}
use Rattle.htmd_law_documents.proofs.NormalTextLemmas.{true-false}
use Rattle.htmd_law_documents.proofs.NormalLineLemmas.{ends-other, ends-as, in_link, formats_in}
use Rattle.htmd_law_documents.proofs.NormalLineLemmas.{FitAll, Apart, HeldBy, Held, Open, ShutsAll, IsShut, IsLast}
use Rattle.htmd_law_documents.proofs.NormalLineLemmas.{IsWhole, held-whole, held-last, leaf-shuts, any-shuts}
use Rattle.htmd_law_documents.proofs.NormalLineLemmas.{wrapped-like, NoLinks}
use Rattle.htmd_law_documents.proofs.NormalBeginLemmas.{is_begun, BeginsAs, same-begin, then-begins, behind-begins}
use Rattle.htmd_law_documents.proofs.NormalBeginLemmas.{normal-begun}
use Rattle.htmd_law_documents.proofs.NormalStandLemmas.{Stands, StandsOne, last-stands, last-one, wrapped_by-solid}
use Rattle.htmd_law_documents.proofs.NormalStandLemmas.{wrapped_by-plain}
use Rattle.htmd_law_documents.proofs.NormalLeafLemmas.{IsWord, IsLeaf, IsGap, gapped, gap-put, code-put, AllIds}
use Rattle.htmd_law_documents.proofs.NormalLeafLemmas.{with_ids, wait-put, leaf-shown, IsBetween, gap-between}
use Rattle.htmd_law_documents.proofs.NormalLeafLemmas.{put-stands}

-- ---- a leaf after what stands before it

-- what stands between goes in what both leaves share: a gap, and then anchors
abbrev pub put_gap : ℕ → Inlines → List Around → Option Inline → Inlines
put_gap n xs around None = xs
put_gap n xs around (Some g) = behind n xs (take n around) g

abbrev pub put : ℕ → Inlines → List Around → Option Inline → List (List ℕ) → Inlines
put n xs around g ids = anchored n (put_gap n xs around g) around ids

gap-begins : (n : ℕ) (xs : Inlines) (around : List Around) (g : Option Inline) → is_begun xs ≡ true
    → BeginsAs xs (put_gap n xs around g)
gap-begins n xs around None h = same-begin xs h
gap-begins n xs around (Some g) h = behind-begins n xs (take n around) g h

ids-begin : (n : ℕ) (ids : List (List ℕ)) (xs : Inlines) (around : List Around) → is_begun xs ≡ true
    → BeginsAs xs (anchored n xs around ids)
ids-begin n [] xs around h = same-begin xs h
ids-begin n (id ∷ ids) xs around h =
    let ys : Inlines = behind n xs (take n around) (anchor id) in
    let first : BeginsAs xs ys = behind-begins n xs (take n around) (anchor id) h in
    then-begins xs ys (anchored n ys around ids) first (ids-begin n ids ys around first.begun)

pub put-begins : (n : ℕ) (xs : Inlines) (around : List Around) (g : Option Inline) (ids : List (List ℕ))
    (y : Inline)
    → is_begun xs ≡ true → BeginsAs xs (behind n (put n xs around g ids) around y)
put-begins n xs around g ids y h =
    let ys : Inlines = put_gap n xs around g in
    let zs : Inlines = put n xs around g ids in
    let first : BeginsAs xs ys = gap-begins n xs around g h in
    let next : BeginsAs xs zs = then-begins xs ys zs first (ids-begin n ids ys around first.begun) in
    then-begins xs zs (behind n zs around y) next (behind-begins n zs around y next.begun)

put-zero : (xs : Inlines) (around : List Around) (g : Option Inline) (ids : List (List ℕ)) (y : Inline)
    → behind 0 (put 0 xs around g ids) around y ≡ joined (with_ids (gapped xs g) ids) (wrapped around y)
put-zero xs around None ids y = refl
put-zero xs around (Some g) ids y = refl

-- a change of the content of the last
changed : (change : Inlines → Inlines) (before : Inlines) (a : Around) (content : Inlines)
    → in_last change (followed before (one_inline (wrapped_by a content)))
    ≡ followed before (one_inline (wrapped_by a (change content)))
changed change before a content =
    in_last-followed change before (wrapped_by a content)
    ∙ ap (λ x. followed before (one_inline x)) (with_content-wrapped change a content)

module _ (n : ℕ) (before : Inlines) (b a : Around) (around : List Around) where
  abbrev whole : Inlines → Inlines
  whole content = followed before (one_inline (wrapped_by b content))

  gap-deeper : (content : Inlines) (g : Option Inline)
      → put_gap (suc n) (whole content) (a ∷ around) g ≡ whole (put_gap n content around g)
  gap-deeper content None = refl
  gap-deeper content (Some g) = changed (λ c. behind n c (take n around) g) before b content

  ids-deeper : (ids : List (List ℕ)) (content : Inlines)
      → anchored (suc n) (whole content) (a ∷ around) ids ≡ whole (anchored n content around ids)
  ids-deeper [] content = refl
  ids-deeper (id ∷ ids) content =
      ap (λ zs. anchored (suc n) zs (a ∷ around) ids)
      (changed (λ c. behind n c (take n around) (anchor id)) before b content)
      ∙ ids-deeper ids (behind n content (take n around) (anchor id))

  put-deeper : (content : Inlines) (g : Option Inline) (ids : List (List ℕ)) (y : Inline)
      → behind (suc n) (put (suc n) (whole content) (a ∷ around) g ids) (a ∷ around) y
      ≡ whole (behind n (put n content around g ids) around y)
  put-deeper content g ids y =
      ap (λ zs. behind (suc n) (anchored (suc n) zs (a ∷ around) ids) (a ∷ around) y) (gap-deeper content g)
      ∙ (ap (λ zs. behind (suc n) zs (a ∷ around) y) (ids-deeper ids (put_gap n content around g))
      ∙ changed (λ c. behind n c around y) before b (put n content around g ids))

-- a leaf is put at the place where what stands around it begins to differ
abbrev PutsThere : (B : Bool → List Format → Inline → Type 0) (h : Bool) (g : Option Inline)
    (ids : List (List ℕ))
    (y : Inline) → (Bool → List Wrapper → List Wrapper → Type 0) → Type 0
PutsThere B h g ids y Q =
    (l : Bool) (r : List Format) (ms : List Wrapper) (xs : Inlines) (around : List Around) → HeldBy B l r ms xs
    → FitAll l r around → Q l ms (map wrapper_of around) → Apart ms (map wrapper_of around)
    → Held h l r (map wrapper_of around) (joined (with_ids (gapped xs g) ids) (wrapped around y))

abbrev GoesDeeper : (Bool → List Wrapper → List Wrapper → Type 0) → Type 0
GoesDeeper Q = (l : Bool) (m : Wrapper) (ms ns : List Wrapper) → Q l (m ∷ ms) (m ∷ ns) → Q (in_link l m) ms ns

-- the leaf that was put is held, and anchors stand where they can
pub record IsPut (h l : Bool) (r : List Format) (ms : List Wrapper) (xs ys : Inlines) : Type 0 where
  pub held : Held h l r ms ys
  pub stands : Stands false xs → Stands false ys

module _ (B : Bool → List Format → Inline → Type 0) (shuts : ShutsAll B) (h : Bool) (g : Option Inline)
    (ids : List (List ℕ)) (y : Inline) (between : IsBetween g) (leaf : IsLeaf h y)
    (Q : Bool → List Wrapper → List Wrapper → Type 0) (deeper : GoesDeeper Q) (there : PutsThere B h g ids y Q)
  where
    abbrev Put : ℕ → Bool → List Format → List Around → Inlines → Type 0
    Put n l r around xs = IsPut h l r (map wrapper_of around) xs (behind n (put n xs around g ids) around y)

    at-once : (l : Bool) (r : List Format) (ms : List Wrapper) (xs : Inlines) (around : List Around)
        → HeldBy B l r ms xs → FitAll l r around → Q l ms (map wrapper_of around)
        → Apart ms (map wrapper_of around)
        → Put 0 l r around xs
    at-once l r ms xs around held f q d =
        subst (λ (zs : Inlines). IsPut h l r (map wrapper_of around) xs zs) (sym (put-zero xs around g ids y))
        (record {
          held = there l r ms xs around held f q d;
          stands = put-stands xs around g ids y between (leaf-shown h y leaf);
        })

    -- in place of the last, what stands in it
    replaced-stands : (before : Inlines) (b : Around) (content content' : Inlines)
        → BeginsAs content content' → (Stands false content → Stands false content')
        → Stands false (followed before (one_inline (wrapped_by b content)))
        → Stands false (followed before (one_inline (wrapped_by b content')))
    replaced-stands before b content content' begins inner s =
        last-stands before (wrapped_by b content) (wrapped_by b content') s
        (one b (last-one before (wrapped_by b content) s)) (wrapped_by-plain b content') (wrapped_by-solid b content')
      where
        one : (b : Around) → StandsOne (wrapped_by b content) → StandsOne (wrapped_by b content')
        one (formatted f) o = (begins.anchor ∙ o.0, inner o.1)
        one (linked n address title) o = tt

    one-deeper : (n : ℕ) (l : Bool) (r : List Format) (ms : List Wrapper) (xs : Inlines) (a : Around)
        (around : List Around)
        → (held : HeldBy B l r (wrapper_of a ∷ ms) xs)
        → Put n (in_link l (wrapper_of a)) (formats_in r (wrapper_of a)) around held.1
        → Put (suc n) l r (a ∷ around) xs
    one-deeper n l r ms xs a around held inner =
        let b : Around = held.0 in
        let content : Inlines = held.1 in
        let content' : Inlines = behind n (put n content around g ids) around y in
        let before : Inlines = held.2.before in
        let whole : IsWhole (in_link l (wrapper_of a)) (formats_in r (wrapper_of a)) content =
        held-whole B shuts (in_link l (wrapper_of a)) (formats_in r (wrapper_of a)) ms content held.7 in
        let begins : BeginsAs content content' = put-begins n content around g ids y
        (normal-begun (in_link l (wrapper_of a)) (formats_in r (wrapper_of a)) content whole.normal whole.some) in
        let is : behind (suc n) (put (suc n) xs (a ∷ around) g ids) (a ∷ around) y
        ≡ followed before (one_inline (wrapped_by b content')) =
        ap (λ zs. behind (suc n) (put (suc n) zs (a ∷ around) g ids) (a ∷ around) y) held.2.is
        ∙ put-deeper n before b a around content g ids y in
        record {
          held = (
            b,
            content',
            ends-as l r (behind (suc n) (put (suc n) xs (a ∷ around) g ids) (a ∷ around) y)
                (followed before (one_inline (wrapped_by b content'))) (wrapped_by b content') is
                (ends-other l r xs (wrapped_by b content) (wrapped_by b content') held.2
                (wrapped-like b content content')),
            held.3,
            held.4,
            begins.space ∙ held.5,
            begins.break ∙ held.6,
            inner.held,
          );
          stands = λ s. subst (λ (zs : Inlines). Stands false zs) (sym is)
              (replaced-stands before b content content' begins inner.stands
              (subst (λ (zs : Inlines). Stands false zs) held.2.is s));
        }

    pub put-leaf : (ms : List Wrapper) (l : Bool) (r : List Format) (xs : Inlines) (around : List Around)
        → HeldBy B l r ms xs → FitAll l r around → Q l ms (map wrapper_of around)
        → Put (shared ms (map wrapper_of around)) l r around xs
    put-leaf [] l r xs around held f q = at-once l r [] xs around held f q tt
    put-leaf (m ∷ ms) l r xs [] held f q = at-once l r (m ∷ ms) xs [] held f q tt
    put-leaf (m ∷ ms) l r xs (a ∷ around) held f q =
        let n : ℕ = shared ms (map wrapper_of around) in
        let below : (ys : Inlines) → HeldBy B (in_link l (wrapper_of a)) (formats_in r (wrapper_of a)) ms ys
        → Q (in_link l (wrapper_of a)) ms (map wrapper_of around)
        → Put n (in_link l (wrapper_of a)) (formats_in r (wrapper_of a)) around ys =
        λ ys w p. put-leaf ms (in_link l (wrapper_of a)) (formats_in r (wrapper_of a)) ys around w f.1 p in
        test (is_same m (wrapper_of a))
        (λ e.
        let same : m ≡ wrapper_of a = same-wrapper m (wrapper_of a) e in
        let here : HeldBy B l r (wrapper_of a ∷ ms) xs =
        subst (λ (x : Wrapper). HeldBy B l r (x ∷ ms) xs) same held in
        let rest : Q (in_link l (wrapper_of a)) ms (map wrapper_of around) =
        deeper l (wrapper_of a) ms (map wrapper_of around)
        (subst (λ (x : Wrapper). Q l (x ∷ ms) (wrapper_of a ∷ map wrapper_of around)) same q) in
        subst (λ (b : Bool). Put (cond b (suc n) 0) l r (a ∷ around) xs) (sym e)
        (one-deeper n l r ms xs a around here (below here.1 here.7 rest)))
        (λ e. subst (λ (b : Bool). Put (cond b (suc n) 0) l r (a ∷ around) xs) (sym e)
        (at-once l r (m ∷ ms) xs (a ∷ around) held f q e))

-- ---- the three kinds of gaps

abbrev Any : Bool → List Wrapper → List Wrapper → Type 0
Any l ms ns = Unit {0}

pub leaf-put : (k h l : Bool) (r : List Format) (ms : List Wrapper) (xs : Inlines) (around : List Around)
    (g : Option Inline) (y : Inline) → Held k l r ms xs → FitAll l r around → IsGap g → IsLeaf h y
    → IsPut h l r (map wrapper_of around) xs
    (behind (shared ms (map wrapper_of around)) (put (shared ms (map wrapper_of around)) xs around g []) around y)
leaf-put k h l r ms xs around g y held f gap leaf =
    put-leaf (λ l' r' x. IsLast k x) (leaf-shuts k) h g [] y (gap-between g gap) leaf Any (λ l' m ms' ns q. tt)
    (λ l' r' ms' xs' around' held' f' q d. gap-put k h l' r' ms' xs' around' g y held' f' gap leaf d)
    ms l r xs around held f tt

-- all wrappers are shared
abbrev pub AreAlike : Bool → List Wrapper → List Wrapper → Type 0
AreAlike l [] [] = Unit {0}
AreAlike l (m ∷ ms) (n ∷ ns) = (m ≡ n) × AreAlike (in_link l m) ms ns
AreAlike l _ _ = ⊥

code-there : (s t : List ℕ) → is_text s ≡ true → IsWord t
    → PutsThere (λ l r x. IsLast true x) true (Some (code s)) [] (code t) AreAlike
code-there s t e h l r [] xs [] held f q d = code-put l r xs s t held e h
code-there s t e h l r [] xs (a ∷ around) held f q d = absurd q
code-there s t e h l r (m ∷ ms) xs [] held f q d = absurd q
code-there s t e h l r (m ∷ ms) xs (a ∷ around) held f q d =
    true-false (sym (alike-wrapper (wrapper_of a))
    ∙ subst (λ (x : Wrapper). is_same x (wrapper_of a) ≡ false) q.0 d)

pub code-held : (l : Bool) (r : List Format) (ms : List Wrapper) (xs : Inlines) (around : List Around)
    (s t : List ℕ) → Held true l r ms xs → FitAll l r around → AreAlike l ms (map wrapper_of around)
    → is_text s ≡ true → IsWord t
    → IsPut true l r (map wrapper_of around) xs (behind (shared ms (map wrapper_of around))
    (put (shared ms (map wrapper_of around)) xs around (Some (code s)) []) around (code t))
code-held l r ms xs around s t held f alike e h =
    put-leaf (λ l' r' x. IsLast true x) (leaf-shuts true) true (Some (code s)) [] (code t) (refl, tt) (refl, h)
    AreAlike (λ l' m ms' ns q. q.1) (code-there s t e h) ms l r xs around held f alike

-- no link is shared
abbrev Linkless : Bool → List Wrapper → List Wrapper → Type 0
Linkless l ms ns = (l ≡ false) × NoLinks ms

linkless-deeper : GoesDeeper Linkless
linkless-deeper l (of_format f) ms ns q = q
linkless-deeper l (of_link node) ms ns q = absurd q.1

wait-there : (h : Bool) (g : Option Inline) (id : List ℕ) (ids : List (List ℕ)) (y : Inline) → IsGap g
    → AllIds (id ∷ ids) → IsLeaf h y → PutsThere IsShut h g (id ∷ ids) y Linkless
wait-there h g id ids y gap all leaf true r ms xs around held f q d = true-false q.0
wait-there h g id ids y gap all leaf false r ms xs around held f q d =
    let last = held-last IsShut any-shuts false r ms xs held in
    wait-put r h xs last.0 around g id ids y last.1 last.2 f gap all leaf

pub wait-held : (h : Bool) (ms : List Wrapper) (xs : Inlines) (around : List Around) (g : Option Inline)
    (id : List ℕ) (ids : List (List ℕ)) (y : Inline) → Open false [] ms xs → NoLinks ms
    → FitAll false [] around
    → IsGap g → AllIds (id ∷ ids) → IsLeaf h y
    → IsPut h false [] (map wrapper_of around) xs (behind (shared ms (map wrapper_of around))
    (put (shared ms (map wrapper_of around)) xs around g (id ∷ ids)) around y)
wait-held h ms xs around g id ids y held links f gap all leaf =
    put-leaf IsShut any-shuts h g (id ∷ ids) y (gap-between g gap) leaf Linkless linkless-deeper
    (wait-there h g id ids y gap all leaf) ms false [] xs around held f (refl, links)
