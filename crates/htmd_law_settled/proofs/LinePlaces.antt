-- A leaf that comes after others leaves a line whole.
use Rattle.std.proofs.Common.{◌≡◌, ℕ, zero, suc, Bool, true, false, List, [], ◌∷◌, refl, sym, ap, ◌∙◌, map}
use Rattle.std.proofs.Common.{◌++◌, fold, take, drop, length, subst, arith}
use Rattle.std.proofs.lemmas.Str.{IsUtf8-append}
use Rattle.std.specs.Prelude.{if◌then◌else◌, cond, ◌||◌, Option, Some, None}
use Rattle.std.specs.Str.{IsUtf8}
use Rattle.htmd_lexical.proofs.Cases.{test}
use Rattle.htmd_document.specs.Formats.{is_same_format}
use Rattle.htmd_lexical.specs.Characters.{space}
use Rattle.htmd_document.specs.Documents.{Inline, text, code, formatted, link, image, anchor, line_break, task}
use Rattle.htmd_document.specs.Documents.{Inlines, no_inlines, inline}
use Rattle.htmd_flow.specs.Nesting.{Wrapper, of_format, of_link, wrapper_of, is_same, shared, before_link, wrapped}
use Rattle.htmd_flow.specs.Nesting.{wrapped_by, one_inline, met, joined, with_content, in_last, behind}
use Rattle.htmd_flow.specs.Paragraphs.{anchored}
use Rattle.htmd_flow.specs.Parts.{Around, linked}
use Rattle.htmd_flow.specs.Parts as part
use Rattle.htmd_document.specs.NormalInlines.{is_anchor}
use Rattle.htmd_law_returning.specs.LastingAnchors.{past_gaps, goes_on}
use Rattle.htmd_law_returning.specs.WholeLines.{is_gap, is_same_around}
use Rattle.htmd_law_settled.proofs.LineShapes.{same-format, LastCode, code-shaped, code-twice, end-append, BlackStart}
use Rattle.htmd_law_settled.proofs.LineShapes.{BlackEnd, StartsInline, EndsInline}
use Rattle.htmd_law_settled.proofs.LineShapes.{Starts, Ends, Beside, ShapedInline, Shaped, Whole, Follows, start-touch}
use Rattle.htmd_law_settled.proofs.LineShapes.{IsSeen, LastSeen, ends-touch, one-on, last-follow, anchor-plain}
use Rattle.htmd_law_settled.proofs.LineShapes.{anchor-follow, gap-plain, not-blank}
use Rattle.htmd_law_settled.proofs.LineShapes.{joined-shaped, joined-starts, joined-starts-on, joined-ends}
use Rattle.htmd_law_settled.proofs.LineShapes.{Boxed}
use Rattle.htmd_law_settled.proofs.BoxShapes.{NoTask, fills-start, fills-end, one-boxed, joined-boxed, last-starts}
use Rattle.htmd_law_settled.proofs.BoxShapes.{last-boxed, space-utf8}
use Rattle.htmd_law_settled.proofs.LineShapes.{plain-follow, LastApart, IsGapInline, gap-shaped, gap-follow}

-- ---- changes so deep in the last inlines

abbrev pub deep : ℕ → (Inlines → Inlines) → Inlines → Inlines
deep zero change xs = change xs
deep (suc n) change xs = in_last (deep n change) xs

content-same : (f g : Inlines → Inlines) → ((xs : Inlines) → f xs ≡ g xs) → (x : Inline)
    → with_content f x ≡ with_content g x
content-same f g e (formatted h c) = ap (formatted h) (e c)
content-same f g e (link a t c) = ap (link a t) (e c)
content-same f g e x = refl

last-same : (f g : Inlines → Inlines) → ((xs : Inlines) → f xs ≡ g xs) → (xs : Inlines)
    → in_last f xs ≡ in_last g xs
last-same f g e no_inlines = refl
last-same f g e (inline x no_inlines) = ap one_inline (content-same f g e x)
last-same f g e (inline x (inline y ys)) = ap (inline x) (last-same f g e (inline y ys))

content-twice : (f g : Inlines → Inlines) (x : Inline)
    → with_content f (with_content g x) ≡ with_content (λ c. f (g c)) x
content-twice f g (formatted h c) = refl
content-twice f g (link a t c) = refl
content-twice f g x = refl

last-twice : (f g : Inlines → Inlines) (xs : Inlines) → in_last f (in_last g xs) ≡ in_last (λ c. f (g c)) xs
last-twice f g no_inlines = refl
last-twice f g (inline x no_inlines) = ap one_inline (content-twice f g x)
last-twice f g (inline x (inline y no_inlines)) = ap (inline x) (last-twice f g (inline y no_inlines))
last-twice f g (inline x (inline y (inline z zs))) = ap (inline x) (last-twice f g (inline y (inline z zs)))

pub deep-twice : (n : ℕ) (f g : Inlines → Inlines) (xs : Inlines)
    → deep n f (deep n g xs) ≡ deep n (λ c. f (g c)) xs
deep-twice zero f g xs = refl
deep-twice (suc n) f g xs =
    last-twice (deep n f) (deep n g) xs
    ∙ last-same (λ c. deep n f (deep n g c)) (deep n (λ c. f (g c))) (deep-twice n f g) xs

content-none : (x : Inline) → with_content (λ c. c) x ≡ x
content-none (formatted h c) = refl
content-none (link a t c) = refl
content-none x = refl

last-none : (xs : Inlines) → in_last (λ c. c) xs ≡ xs
last-none no_inlines = refl
last-none (inline x no_inlines) = ap one_inline (content-none x)
last-none (inline x (inline y ys)) = ap (inline x) (last-none (inline y ys))

pub deep-none : (n : ℕ) (xs : Inlines) → deep n (λ c. c) xs ≡ xs
deep-none zero xs = refl
deep-none (suc n) xs = last-same (deep n (λ c. c)) (λ c. c) (deep-none n) xs ∙ last-none xs

-- ---- what is put behind is put so deep

abbrev pub Long : ℕ → List Around → Type 0
Long zero around = Unit {0}
Long (suc n) [] = ⊥
Long (suc n) (a ∷ around) = Long n around

pub behind-deep : (n : ℕ) (around : List Around) (y : Inline) (xs : Inlines) → Long n around
    → behind n xs around y ≡ deep n (λ zs. joined zs (wrapped (drop n around) y)) xs
behind-deep zero around y xs l = refl
behind-deep (suc n) [] y xs l = absurd l
behind-deep (suc n) (a ∷ around) y xs l =
    last-same (λ c. behind n c around y) (deep n (λ zs. joined zs (wrapped (drop n around) y)))
    (λ c. behind-deep n around y c l) xs

pub behind-take : (n : ℕ) (around : List Around) (y : Inline) (xs : Inlines) → Long n around
    → behind n xs (take n around) y ≡ deep n (λ zs. joined zs y) xs
behind-take zero around y xs l = refl
behind-take (suc n) [] y xs l = absurd l
behind-take (suc n) (a ∷ around) y xs l =
    last-same (λ c. behind n c (take n around) y) (deep n (λ zs. joined zs y)) (λ c. behind-take n around y c l) xs

-- anchors one after another
abbrev pub with_anchors : List (List ℕ) → Inlines → Inlines
with_anchors ids zs = fold (λ ys id. joined ys (anchor id)) zs ids

pub anchors-deep : (n : ℕ) (around : List Around) (ids : List (List ℕ)) (xs : Inlines) → Long n around
    → anchored n xs around ids ≡ deep n (with_anchors ids) xs
anchors-deep n around [] xs l = sym (deep-none n xs)
anchors-deep n around (id ∷ ids) xs l =
    anchors-deep n around ids (behind n xs (take n around) (anchor id)) l
    ∙ ap (deep n (with_anchors ids)) (behind-take n around (anchor id) xs l)
    ∙ deep-twice n (with_anchors ids) (λ zs. joined zs (anchor id)) xs

-- ---- the wrappers that the last leaf stands in

-- what the last leaf is: code, or neither a format nor an anchor
abbrev pub EndOf : Bool → Inline → Type 0
EndOf true (code s) = Unit {0}
EndOf true x = ⊥
EndOf false (formatted f content) = ⊥
EndOf false (anchor id) = ⊥
EndOf false x = Unit {0}

abbrev mutual
  -- the last inlines stand in these wrappers, and the next is so
  pub Along : Bool → List Wrapper → Inlines → Type 0
  Along b ms no_inlines = ⊥
  Along b ms (inline x no_inlines) = AlongInline b ms x
  Along b ms (inline x (inline y ys)) = Along b ms (inline y ys)

  pub AlongInline : Bool → List Wrapper → Inline → Type 0
  AlongInline b [] x = EndOf b x
  AlongInline b (of_format g ∷ ms) (formatted f content) = (g ≡ f) × Along b ms content
  AlongInline b (of_link node ∷ ms) (link address title content) = Along b ms content
  AlongInline b (m ∷ ms) x = ⊥

end-weaker : (b : Bool) (x : Inline) → EndOf b x → EndOf false x
end-weaker true (code s) h = tt
end-weaker true x h = absurd h
end-weaker false x h = h

mutual
  -- code is no format
  pub along-weaker : (b : Bool) (xs : Inlines) (ms : List Wrapper) → Along b ms xs → Along false ms xs
  along-weaker b no_inlines ms h = absurd h
  along-weaker b (inline x no_inlines) ms h = inline-weaker b x ms h
  along-weaker b (inline x (inline y ys)) ms h = along-weaker b (inline y ys) ms h

  inline-weaker : (b : Bool) (x : Inline) (ms : List Wrapper) → AlongInline b ms x → AlongInline false ms x
  inline-weaker b x [] h = end-weaker b x h
  inline-weaker b (formatted f content) (of_format g ∷ ms) h = (h.0, along-weaker b content ms h.1)
  inline-weaker b (link address title content) (of_link node ∷ ms) h = along-weaker b content ms h
  inline-weaker b x (of_format g ∷ ms) h = absurd h
  inline-weaker b x (of_link node ∷ ms) h = absurd h

along-none : (x w : Inline) → AlongInline false [] x → is_same_around x w ≡ false
along-none (formatted f content) w h = absurd h
along-none x w h = refl

-- it is to be seen
inline-seen : (x : Inline) (ms : List Wrapper) → EndsInline x → AlongInline false ms x → IsSeen x
inline-seen (text s) ms e k = ap (λ b. b || false) (not-blank s e)
inline-seen line_break ms e k = absurd e
inline-seen (anchor id) [] e k = absurd k
inline-seen (anchor id) (of_format g ∷ ms) e k = absurd k
inline-seen (anchor id) (of_link node ∷ ms) e k = absurd k
inline-seen x ms e k = refl

along-seen : (xs : Inlines) (ms : List Wrapper) → Ends xs → Along false ms xs → LastSeen xs
along-seen no_inlines ms e k = absurd k
along-seen (inline x no_inlines) ms e k = inline-seen x ms e k
along-seen (inline x (inline y ys)) ms e k = along-seen (inline y ys) ms e k

apart-none : (xs : Inlines) (w : Inline) → Along false [] xs → LastApart xs w
apart-none no_inlines w h = absurd h
apart-none (inline x no_inlines) w h = along-none x w h
apart-none (inline x (inline y ys)) w h = apart-none (inline y ys) w h

along-other : (m : Wrapper) (ms : List Wrapper) (a : Around) (x : Inline) (content : Inlines)
    → AlongInline false (m ∷ ms) x
    → is_same m (wrapper_of a) ≡ false → is_same_around x (wrapped_by a content) ≡ false
along-other (of_format g) ms (part.formatted f) (formatted h c) content k e =
    ap (λ i. is_same_format i f) (sym k.0) ∙ e
along-other (of_format g) ms (linked node address title) (formatted h c) content k e = refl
along-other (of_link node) ms a (link address title c) content k e = refl
along-other (of_format g) ms a x content k e = absurd k
along-other (of_link node) ms a x content k e = absurd k

apart-other : (m : Wrapper) (ms : List Wrapper) (a : Around) (xs content : Inlines) → Along false (m ∷ ms) xs
    → is_same m (wrapper_of a) ≡ false → LastApart xs (wrapped_by a content)
apart-other m ms a no_inlines content k e = absurd k
apart-other m ms a (inline x no_inlines) content k e = along-other m ms a x content k e
apart-other m ms a (inline x (inline y ys)) content k e = apart-other m ms a (inline y ys) content k e

apart-plain : (xs : Inlines) (w : Inline) → ((v : Inline) → is_same_around v w ≡ false) → LastApart xs w
apart-plain no_inlines w h = tt
apart-plain (inline x no_inlines) w h = h x
apart-plain (inline x (inline y ys)) w h = apart-plain (inline y ys) w h

-- an anchor closes the link
mutual
  pub along-before : (xs : Inlines) (ms : List Wrapper) → Along false ms xs → Along false (before_link ms) xs
  along-before no_inlines ms h = absurd h
  along-before (inline x no_inlines) ms h = inline-before x ms h
  along-before (inline x (inline y ys)) ms h = along-before (inline y ys) ms h

  inline-before : (x : Inline) (ms : List Wrapper) → AlongInline false ms x → AlongInline false (before_link ms) x
  inline-before x [] h = h
  inline-before (formatted f content) (of_format g ∷ ms) h = (h.0, along-before content ms h.1)
  inline-before (link address title content) (of_link node ∷ ms) h = tt
  inline-before x (of_format g ∷ ms) h = absurd h
  inline-before x (of_link node ∷ ms) h = absurd h

-- ---- a leaf

abbrev pub IsLeaf : Inline → Type 0
IsLeaf (text s) = BlackStart s × BlackEnd s × IsUtf8 s
IsLeaf (code s) = BlackStart s × BlackEnd s × IsUtf8 s
IsLeaf (image address title description) = Unit {0}
IsLeaf x = ⊥

abbrev pub is_code_inline : Inline → Bool
is_code_inline (code s) = true
is_code_inline x = false

leaf-plain : (y : Inline) → IsLeaf y → (v : Inline) → is_same_around v y ≡ false
leaf-plain (text s) h (formatted f c) = refl
leaf-plain (code s) h (formatted f c) = refl
leaf-plain (image a t d) h (formatted f c) = refl
leaf-plain (text s) h v = refl
leaf-plain (code s) h v = refl
leaf-plain (image a t d) h v = refl
leaf-plain y h v = absurd h

leaf-shaped : (y : Inline) → IsLeaf y
    → ShapedInline y × StartsInline y × EndsInline y × EndOf (is_code_inline y) y × NoTask y
leaf-shaped (text s) h = (h.2, h.0, h.1, tt, tt)
leaf-shaped (code s) h = (h, tt, tt, tt, tt)
leaf-shaped (image a t d) h = (tt, tt, tt, tt, tt)
leaf-shaped y h = absurd h

abbrev pub wrappers : List Around → List Wrapper
wrappers around = map wrapper_of around

wrapped-shaped : (around : List Around) (y : Inline) → IsLeaf y
    → ShapedInline (wrapped around y) × StartsInline (wrapped around y) × EndsInline (wrapped around y)
    × AlongInline (is_code_inline y) (wrappers around) (wrapped around y) × NoTask (wrapped around y)
wrapped-shaped [] y h = leaf-shaped y h
wrapped-shaped (part.formatted f ∷ around) y h =
    let r = wrapped-shaped around y h in
    (((r.0, refl, tt, tt), r.1, r.2, one-boxed (wrapped around y) no_inlines r.4), tt, tt, (refl, r.3), tt)
wrapped-shaped (linked node address title ∷ around) y h =
    let r = wrapped-shaped around y h in
    (((r.0, refl, tt, tt), r.1, r.2, one-boxed (wrapped around y) no_inlines r.4), tt, tt, r.3, tt)

-- ---- a leaf behind others

met-along : (b : Bool) (x y : Inline) (ms : List Wrapper) → AlongInline b ms y → Along b ms (met x y)
met-along true (text s) (text t) [] h = absurd h
met-along false (text s) (text t) [] h = tt
met-along b (text s) (text t) (of_format g ∷ ms) h = absurd h
met-along b (text s) (text t) (of_link node ∷ ms) h = absurd h
met-along true (code s) (code t) [] h = tt
met-along false (code s) (code t) [] h = tt
met-along b (code s) (code t) (of_format g ∷ ms) h = absurd h
met-along b (code s) (code t) (of_link node ∷ ms) h = absurd h
met-along b (text s) y ms h = h
met-along b (code s) y ms h = h
met-along b x y ms h = h

along-more : (b : Bool) (x : Inline) (us : Inlines) (ms : List Wrapper) → Along b ms us → Along b ms (inline x us)
along-more b x no_inlines ms h = absurd h
along-more b x (inline y ys) ms h = h

joined-along : (b : Bool) (xs : Inlines) (y : Inline) (ms : List Wrapper) → AlongInline b ms y
    → Along b ms (joined xs y)
joined-along b no_inlines y ms h = h
joined-along b (inline x no_inlines) y ms h = met-along b x y ms h
joined-along b (inline x (inline z zs)) y ms h =
    along-more b x (joined (inline z zs) y) ms (joined-along b (inline z zs) y ms h)

-- what comes before the leaf: a gap, if there is one
abbrev pub with_gap : Option Inline → Inlines → Inlines
with_gap None zs = zs
with_gap (Some g) zs = joined zs g

abbrev pub IsGap : Option Inline → Type 0
IsGap None = Unit {0}
IsGap (Some g) = IsGapInline g

record Ready (zs : Inlines) (v : Inline) : Type 0 where
  shaped : Shaped zs
  starts : Starts zs
  follows : Follows zs v
  boxed : Boxed zs

gap-no-task : (g : Inline) → IsGapInline g → NoTask g
gap-no-task (text s) h = tt
gap-no-task line_break h = tt
gap-no-task g h = absurd h

ready-gap : (o : Option Inline) (ms : List Wrapper) (xs : Inlines) (v : Inline) → IsGap o → Whole xs
    → Along false ms xs
    → LastApart xs v → Ready (with_gap o xs) v
ready-gap None ms xs v i h k a = record {
  shaped = h.0;
  starts = h.1;
  follows = last-follow xs v (along-seen xs ms h.2 k) a;
  boxed = h.3;
}
ready-gap (Some g) ms no_inlines v i h k a = absurd k
ready-gap (Some g) ms (inline x xs) v i h k a = record {
  shaped = joined-shaped (inline x xs) g h.0 (gap-shaped g i) (plain-follow (inline x xs) g (gap-plain g i))
      (ends-touch (inline x xs) g h.2 (along-seen (inline x xs) ms h.2 k));
  starts = joined-starts-on x xs g h.1;
  follows = gap-follow (inline x xs) g v h.0 h.2 (along-seen (inline x xs) ms h.2 k) a i;
  boxed = joined-boxed (inline x xs) g h.3 (fills-end (inline x xs) g h.3 h.2) (gap-no-task g i);
}

ready-anchors : (ids : List (List ℕ)) (zs : Inlines) (v : Inline) → Ready zs v → Ready (with_anchors ids zs) v
ready-anchors [] zs v h = h
ready-anchors (id ∷ ids) zs v h = ready-anchors ids (joined zs (anchor id)) v (record {
  shaped = joined-shaped zs (anchor id) h.shaped tt (plain-follow zs (anchor id) (anchor-plain id))
      (start-touch zs (anchor id) tt);
  starts = joined-starts zs (anchor id) h.starts tt;
  follows = anchor-follow zs id v h.follows;
  boxed = joined-boxed zs (anchor id) h.boxed (fills-start zs (anchor id) tt) tt;
})

-- anchors alone at the end
pub anchors-whole : (ids : List (List ℕ)) (zs : Inlines) → Whole zs → Whole (with_anchors ids zs)
anchors-whole [] zs h = h
anchors-whole (id ∷ ids) zs h = anchors-whole ids (joined zs (anchor id)) (
  joined-shaped zs (anchor id) h.0 tt (plain-follow zs (anchor id) (anchor-plain id)) (start-touch zs (anchor id) tt),
  joined-starts zs (anchor id) h.1 tt,
  joined-ends zs (anchor id) h.0 tt,
  joined-boxed zs (anchor id) h.3 (fills-start zs (anchor id) tt) tt,
)

-- ---- so deep

same-content : (f : Inlines → Inlines) (v x : Inline) → is_same_around v (with_content f x) ≡ is_same_around v x
same-content f (formatted g c) (formatted h d) = refl
same-content f (formatted g c) x = refl
same-content f v x = refl

passed-content : (f : Inlines → Inlines) (x : Inline)
    → (is_gap (with_content f x) || is_anchor (with_content f x)) ≡ (is_gap x || is_anchor x)
passed-content f (formatted g c) = refl
passed-content f (link a t c) = refl
passed-content f x = refl

-- what shows next is the same
last-on : (f : Inlines → Inlines) (v : Inline) (xs : Inlines)
    → goes_on v (past_gaps (in_last f xs)) ≡ goes_on v (past_gaps xs)
last-on f v no_inlines = refl
last-on f v (inline x no_inlines) =
    ap (λ b. goes_on v (cond b no_inlines (one_inline (with_content f x)))) (passed-content f x)
    ∙ by (is_gap x || is_anchor x)
  where
    by : (b : Bool) → goes_on v (cond b no_inlines (one_inline (with_content f x)))
        ≡ goes_on v (cond b no_inlines (one_inline x))
    by true = refl
    by false = same-content f v x
last-on f v (inline x (inline y ys)) = by (is_gap x || is_anchor x) (last-on f v (inline y ys))
  where
    by : (b : Bool) → goes_on v (past_gaps (in_last f (inline y ys))) ≡ goes_on v (past_gaps (inline y ys))
        → goes_on v (cond b (past_gaps (in_last f (inline y ys))) (inline x (in_last f (inline y ys))))
        ≡ goes_on v (cond b (past_gaps (inline y ys)) (inline x (inline y ys)))
    by true e = e
    by false e = refl

content-ends : (f : Inlines → Inlines) (x : Inline) → EndsInline x → EndsInline (with_content f x)
content-ends f (formatted g c) h = tt
content-ends f (link a t c) h = tt
content-ends f x h = h

last-ends : (f : Inlines → Inlines) (xs : Inlines) → Ends xs → Ends (in_last f xs)
last-ends f no_inlines h = h
last-ends f (inline x no_inlines) h = content-ends f x h
last-ends f (inline x (inline y no_inlines)) h = content-ends f y h
last-ends f (inline x (inline y (inline z zs))) h = last-ends f (inline y (inline z zs)) h

module _ (i b : Bool) (m : Wrapper) (ms : List Wrapper) (a : Around) (ns : List Wrapper) (f : Inlines → Inlines)
    (inner : (c : Inlines) → Whole c → Along i ms c → Whole (f c) × Along b ns (f c)) where
  content-shaped : (x : Inline) → ShapedInline x → AlongInline i (m ∷ ms) x → ShapedInline (with_content f x)
  content-shaped x h k = by_wrapper m x h k
    where
      by_wrapper : (m : Wrapper) (x : Inline) → ShapedInline x → AlongInline i (m ∷ ms) x
          → ShapedInline (with_content f x)
      by_wrapper (of_format g) (formatted j c) h k = (inner c h k.1).0
      by_wrapper (of_link node) (link s t c) h k = (inner c h k).0
      by_wrapper (of_format g) x h k = absurd k
      by_wrapper (of_link node) x h k = absurd k

  content-beside : (x y : Inline) → Beside x y → Beside x (with_content f y)
  content-beside (text s) (formatted g c) b = tt
  content-beside (text s) (link u t c) b = tt
  content-beside line_break (formatted g c) b = tt
  content-beside line_break (link u t c) b = tt
  content-beside (anchor id) (formatted g c) b = tt
  content-beside (anchor id) (link u t c) b = tt
  content-beside (text s) y b = b
  content-beside line_break y b = b
  content-beside (anchor id) y b = b
  content-beside x y b = tt

  last-shaped : (xs : Inlines) → Shaped xs → Along i (m ∷ ms) xs → Shaped (in_last f xs)
  last-shaped no_inlines h k = absurd k
  last-shaped (inline x no_inlines) h k = (content-shaped x h.0 k, last-on f (with_content f x) no_inlines, tt, tt)
  last-shaped (inline x (inline y no_inlines)) h k = (
    h.0,
    last-on f x (one_inline y) ∙ h.1,
    last-shaped (inline y no_inlines) h.2 k,
    content-beside x y h.3,
  )
  last-shaped (inline x (inline y (inline z zs))) h k = (
    h.0,
    last-on f x (inline y (inline z zs)) ∙ h.1,
    last-shaped (inline y (inline z zs)) h.2 k,
    h.3,
  )

  content-along : (x : Inline) → ShapedInline x → AlongInline i (m ∷ ms) x → is_same m (wrapper_of a) ≡ true
      → AlongInline b (wrapper_of a ∷ ns) (with_content f x)
  content-along x h k e = by_wrapper m a x h k e
    where
      by_wrapper : (m : Wrapper) (a : Around) (x : Inline) → ShapedInline x → AlongInline i (m ∷ ms) x
          → is_same m (wrapper_of a) ≡ true → AlongInline b (wrapper_of a ∷ ns) (with_content f x)
      by_wrapper (of_format g) (part.formatted l) (formatted j c) h k e =
          (sym (same-format g l e) ∙ k.0, (inner c h k.1).1)
      by_wrapper (of_link node) (linked other s t) (link u v c) h k e = (inner c h k).1
      by_wrapper (of_format g) (linked other s t) x h k e = absurd (cc)
      by_wrapper (of_link node) (part.formatted l) x h k e = absurd (cc)
      by_wrapper (of_format g) (part.formatted l) x h k e = absurd k
      by_wrapper (of_link node) (linked other s t) x h k e = absurd k

  last-along : (xs : Inlines) → Shaped xs → Along i (m ∷ ms) xs → is_same m (wrapper_of a) ≡ true
      → Along b (wrapper_of a ∷ ns) (in_last f xs)
  last-along no_inlines h k e = absurd k
  last-along (inline x no_inlines) h k e = content-along x h.0 k e
  last-along (inline x (inline y ys)) h k e =
      along-more b x (in_last f (inline y ys)) (wrapper_of a ∷ ns) (last-along (inline y ys) h.2 k e)

-- with its space
abbrev pub box : Bool → Inlines
box is_checked = inline (task is_checked) (one_inline (text (space ∷ [])))

module _ (o : Option Inline) (i : IsGap o) (ids : List (List ℕ)) (y : Inline) (l : IsLeaf y) where
  -- a gap, anchors, and the leaf in these
  abbrev pub put : List Around → Inlines → Inlines
  put around zs = joined (with_anchors ids (with_gap o zs)) (wrapped around y)

  put-ready : (around : List Around) (zs : Inlines) → Ready zs (wrapped around y)
      → Whole (joined zs (wrapped around y))
      × Along (is_code_inline y) (wrappers around) (joined zs (wrapped around y))
  put-ready around zs r =
      let w = wrapped-shaped around y l in (
        (
          joined-shaped zs (wrapped around y) r.shaped w.0 r.follows (start-touch zs (wrapped around y) w.1),
          joined-starts zs (wrapped around y) r.starts w.1,
          joined-ends zs (wrapped around y) r.shaped w.2,
          joined-boxed zs (wrapped around y) r.boxed (fills-start zs (wrapped around y) w.1) w.4,
        ),
        joined-along (is_code_inline y) zs (wrapped around y) (wrappers around) w.3,
      )

  pub put-end : (ms : List Wrapper) (around : List Around) (xs : Inlines) → Whole xs → Along false ms xs
      → LastApart xs (wrapped around y)
      → Whole (put around xs) × Along (is_code_inline y) (wrappers around) (put around xs)
  put-end ms around xs h k a =
      put-ready around (with_anchors ids (with_gap o xs))
      (ready-anchors ids (with_gap o xs) (wrapped around y) (ready-gap o ms xs (wrapped around y) i h k a))

  abbrev pub Placed : List Around → ℕ → Inlines → Type 0
  Placed around n xs =
      Whole (deep n (put (drop n around)) xs)
      × Along (is_code_inline y) (wrappers around) (deep n (put (drop n around)) xs)

  placed-more : (m : Wrapper) (ms : List Wrapper) (a : Around) (around : List Around) (xs : Inlines)
      → ((c : Inlines) → Whole c → Along false ms c → Placed around (shared ms (wrappers around)) c)
      → Whole xs
      → Along false (m ∷ ms) xs → (b : Bool) → is_same m (wrapper_of a) ≡ b
      → Placed (a ∷ around) (if b then suc (shared ms (wrappers around)) else 0) xs
  placed-more m ms a around xs inner h k true e =
      let n : ℕ = shared ms (wrappers around) in
      let f : Inlines → Inlines = deep n (put (drop n around)) in (
        (
          last-shaped false (is_code_inline y) m ms a (wrappers around) f inner xs h.0 k,
          last-starts f xs h.1,
          last-ends f xs h.2,
          last-boxed f xs h.3,
        ),
        last-along false (is_code_inline y) m ms a (wrappers around) f inner xs h.0 k e,
      )
  placed-more m ms a around xs inner h k false e = put-end (m ∷ ms) (a ∷ around) xs h k (other a e)
    where
      other : (a : Around) → is_same m (wrapper_of a) ≡ false → LastApart xs (wrapped (a ∷ around) y)
      other a e = apart-other m ms a xs (one_inline (wrapped around y)) k e

  pub placed : (ms : List Wrapper) (around : List Around) (xs : Inlines) → Whole xs → Along false ms xs
      → Placed around (shared ms (wrappers around)) xs
  placed [] around xs h k = put-end [] around xs h k (apart-none xs (wrapped around y) k)
  placed (m ∷ ms) [] xs h k = put-end (m ∷ ms) [] xs h k (apart-plain xs y (leaf-plain y l))
  placed (m ∷ ms) (a ∷ around) xs h k =
      placed-more m ms a around xs (λ c g j. placed ms around c g j) h k (is_same m (wrapper_of a)) refl

  -- where nothing is yet
  pub put-first : (around : List Around) → Whole (joined (with_anchors ids no_inlines) (wrapped around y))
      × Along (is_code_inline y) (wrappers around) (joined (with_anchors ids no_inlines) (wrapped around y))
  put-first around =
      put-ready around (with_anchors ids no_inlines)
      (ready-anchors ids no_inlines (wrapped around y) (record { shaped = tt; starts = tt; follows = tt; boxed = tt }))

  -- where the box of a task is
  pub put-box : (is_checked : Bool) (around : List Around)
      → Whole (joined (with_anchors ids (box is_checked)) (wrapped around y))
      × Along (is_code_inline y) (wrappers around) (joined (with_anchors ids (box is_checked)) (wrapped around y))
  put-box d around =
      put-ready around (with_anchors ids (box d))
      (ready-anchors ids (box d) (wrapped around y) (record {
        shaped = (tt, one-on (task d) (text (space ∷ [])) refl, (space-utf8, refl, tt, tt), tt);
        starts = tt;
        follows = (λ q. refl, (λ q. refl, tt));
        boxed = (refl, tt);
      }))

-- ---- what is shared is so long

pub shared-long : (ms : List Wrapper) (around : List Around) → Long (shared ms (wrappers around)) around
shared-long [] around = tt
shared-long (m ∷ ms) [] = tt
shared-long (m ∷ ms) (a ∷ around) =
    test (is_same m (wrapper_of a)) (λ e. rw e (shared-long ms around)) (λ e. rw e tt)

-- ---- a gap that is code, between codes in the same wrappers

along-code : (xs : Inlines) → Along true [] xs → LastCode xs
along-code no_inlines h = absurd h
along-code (inline (code s) no_inlines) h = tt
along-code (inline x no_inlines) h = absurd h
along-code (inline x (inline y ys)) h = along-code (inline y ys) h

module _ (g u : List ℕ) (utf8 : IsUtf8 g) (black : BlackEnd u) (ok : IsUtf8 u) where
  abbrev pub code_put : Inlines → Inlines
  code_put zs = joined (joined zs (code g)) (code u)

  code-end : (zs : Inlines) → Whole zs → Along true [] zs → Whole (code_put zs) × Along true [] (code_put zs)
  code-end zs h k =
      let l = along-code zs k in
      let v : List ℕ = g ++ u in
      subst (λ us. Whole us × Along true [] us) (sym (code-twice zs g u l)) (
        (
          code-shaped zs v h.0 l (end-append g u utf8 black) (IsUtf8-append g u utf8 ok),
          joined-starts zs (code v) h.1 tt,
          joined-ends zs (code v) h.0 tt,
          joined-boxed zs (code v) h.3 (fills-start zs (code v) tt) tt,
        ),
        joined-along true zs (code v) [] tt,
      )

  abbrev CodePlaced : List Around → ℕ → Inlines → Type 0
  CodePlaced around n xs = Whole (deep n code_put xs) × Along true (wrappers around) (deep n code_put xs)

  code-more : (m : Wrapper) (ms : List Wrapper) (a : Around) (around : List Around) (xs : Inlines)
      → (shared ms (wrappers around) ≡ length ms → shared ms (wrappers around) ≡ length (wrappers around)
      → (c : Inlines) → Whole c → Along true ms c → CodePlaced around (shared ms (wrappers around)) c)
      → Whole xs → Along true (m ∷ ms) xs → (b : Bool) → is_same m (wrapper_of a) ≡ b
      → (if b then suc (shared ms (wrappers around)) else 0) ≡ suc (length ms)
      → (if b then suc (shared ms (wrappers around)) else 0) ≡ suc (length (wrappers around))
      → CodePlaced (a ∷ around) (if b then suc (shared ms (wrappers around)) else 0) xs
  code-more m ms a around xs ih h k true e p q =
      let n : ℕ = shared ms (wrappers around) in
      let f : Inlines → Inlines = deep n code_put in
      let inner = ih (omega (arith, p)) (omega (arith, q)) in (
        (
          last-shaped true true m ms a (wrappers around) f inner xs h.0 k,
          last-starts f xs h.1,
          last-ends f xs h.2,
          last-boxed f xs h.3,
        ),
        last-along true true m ms a (wrappers around) f inner xs h.0 k e,
      )
  code-more m ms a around xs ih h k false e p q = absurd (let z = p in omega arith)

  pub code-placed : (ms : List Wrapper) (around : List Around) → shared ms (wrappers around) ≡ length ms
      → shared ms (wrappers around) ≡ length (wrappers around) → (xs : Inlines) → Whole xs → Along true ms xs
      → CodePlaced around (shared ms (wrappers around)) xs
  code-placed [] [] p q xs h k = code-end xs h k
  code-placed [] (a ∷ around) p q xs h k = absurd (let z = q in omega arith)
  code-placed (m ∷ ms) [] p q xs h k = absurd (let z = p in omega arith)
  code-placed (m ∷ ms) (a ∷ around) p q xs h k =
      code-more m ms a around xs (λ i j c g l. code-placed ms around i j c g l) h k (is_same m (wrapper_of a)) refl p q

-- nothing is left around
pub drop-all : (n : ℕ) (around : List Around) → n ≡ length (wrappers around) → drop n around ≡ []
drop-all zero [] e = refl
drop-all zero (a ∷ around) e = absurd (let z = e in omega arith)
drop-all (suc n) [] e = refl
drop-all (suc n) (a ∷ around) e = drop-all n around (omega (arith, e))
