-- Lines stay whole while parts are written.
use Rattle.std.proofs.Common.{◌≡◌, ℕ, suc, arith, Bool, true, false, List, [], ◌∷◌, refl, sym, ap, ◌∙◌, subst, drop}
use Rattle.std.proofs.Common.{length}
use Rattle.std.proofs.Common.{take}
use Rattle.std.specs.Prelude.{encode_utf8, if◌then◌else◌, ◌&&◌, ◌==◌, Option, Some, None}
use Rattle.std.specs.Str.{IsUtf8}
use Rattle.std.proofs.Math.Utf8.{scalar}
use Rattle.std.proofs.lemmas.Bool.{and_parts, eqb-true}
use Rattle.std.proofs.lemmas.List.{append-nil}
use Rattle.std.proofs.lemmas.Str.{IsUtf8-nil}
use Rattle.htmd_lexical.specs.Characters.{space}
use Rattle.htmd_document.specs.Documents.{Inline, text, code, line_break, task, Inlines, no_inlines}
use Rattle.htmd_flow.specs.Nesting.{Wrapper, shared, wrapped, one_inline, text_or_code, joined, behind}
use Rattle.htmd_flow.specs.Paragraphs.{Writing, is_leaf, is_code_leaf, anchored, white_behind, is_code_gap, gap_before}
use Rattle.htmd_flow.specs.Paragraphs.{gap_behind}
use Rattle.htmd_flow.specs.Paragraphs.{shown_content, whole_content}
use Rattle.htmd_flow.specs.declared.paragraphs.Latest.{Latest}
use Rattle.htmd_flow.specs.declared.paragraphs.Latest.TheVariants.{Nothing, Task, Plain, Code}
use Rattle.htmd_flow.specs.Parts.{Around}
use Rattle.htmd_shown.specs.Spaces.{is_white}
use Rattle.htmd_law_settled.proofs.LineShapes.{Whole, BlackEnd, character-utf8}
use Rattle.htmd_law_settled.proofs.LinePlaces.{deep, deep-twice, deep-none, Long, behind-deep, behind-take}
use Rattle.htmd_law_settled.proofs.LinePlaces.{with_anchors}
use Rattle.htmd_law_settled.proofs.LinePlaces.{anchors-deep, Along, IsLeaf, wrappers, with_gap, IsGap, anchors-whole}
use Rattle.htmd_law_settled.proofs.LinePlaces.{put-box, placed, put-first, shared-long, is_code_inline, code_put}
use Rattle.htmd_law_settled.proofs.LinePlaces.{code-placed, drop-all}

-- what is written of a line, by what showed last in it, and what stands around that
abbrev pub IsWritten : Latest → Inlines → List Wrapper → List (List ℕ) → Type 0
IsWritten Nothing xs ms ids = xs ≡ no_inlines
IsWritten Task xs ms ids = (is_checked : Bool) × (xs ≡ one_inline (task is_checked))
IsWritten Plain xs ms ids = Whole xs × Along false ms xs
IsWritten Code xs ms ids = Whole xs × Along false ms xs × (ids ≡ [] → Along true ms xs)

-- a character that is no white space is a leaf
pub character-leaf : (is_code : Bool) (c : ℕ) → scalar c ≡ true → is_white c ≡ false
    → IsLeaf (text_or_code is_code (encode_utf8 c))
character-leaf true c e w = (
  (c, [], sym (append-nil (encode_utf8 c)), e, w),
  ([], c, refl, IsUtf8-nil, e, w),
  character-utf8 c e,
)
character-leaf false c e w = (
  (c, [], sym (append-nil (encode_utf8 c)), e, w),
  ([], c, refl, IsUtf8-nil, e, w),
  character-utf8 c e,
)

pub code-inline : (is_code : Bool) (s : List ℕ) → is_code ≡ true
    → is_code_inline (text_or_code is_code s) ≡ true
code-inline true s e = refl
code-inline false s e = absurd (cc)

-- a leaf that is code
code-of : (y : Inline) → is_code_inline y ≡ true → IsLeaf y
    → (u : List ℕ) × (y ≡ code u) × BlackEnd u × IsUtf8 u
code-of (code s) e h = (s, refl, h.1, h.2)
code-of y e h = absurd (cc)

no_ids : (ids : List (List ℕ)) → (length ids == 0) ≡ true → ids ≡ []
no_ids [] e = refl
no_ids (id ∷ ids) e = absurd (let q : suc (length ids) ≡ 0 = eqb-true (suc (length ids)) 0 e in omega arith)

module _ (ids : List (List ℕ)) (y : Inline) (l : IsLeaf y) (around : List Around) where
  -- a gap, anchors and the leaf, all so deep
  all-deep : (o : Option Inline) (n : ℕ) (xs zs : Inlines) → Long n around → zs ≡ deep n (with_gap o) xs
      → behind n (anchored n zs around ids) around y
      ≡ deep n (λ us. joined (with_anchors ids (with_gap o us)) (wrapped (drop n around) y)) xs
  all-deep o n xs zs g e =
      let f : Inlines → Inlines = λ us. joined us (wrapped (drop n around) y) in
      behind-deep n around y (anchored n zs around ids) g
      ∙ ap (deep n f) (anchors-deep n around ids zs g ∙ ap (deep n (with_anchors ids)) e
      ∙ deep-twice n (with_anchors ids) (with_gap o) xs)
      ∙ deep-twice n f (λ us. with_anchors ids (with_gap o us)) xs

  abbrev Put : ℕ → Inlines → Type 0
  Put n zs = Whole (behind n (anchored n zs around ids) around y)
      × Along (is_code_inline y) (wrappers around) (behind n (anchored n zs around ids) around y)

  -- behind a leaf
  behind-leaf : (o : Option Inline) (i : IsGap o) (ms : List Wrapper) (xs zs : Inlines) → Whole xs
      → Along false ms xs
      → zs ≡ deep (shared ms (wrappers around)) (with_gap o) xs → Put (shared ms (wrappers around)) zs
  behind-leaf o i ms xs zs h k e =
      subst (λ us. Whole us × Along (is_code_inline y) (wrappers around) us)
      (sym (all-deep o (shared ms (wrappers around)) xs zs (shared-long ms around) e))
      (placed o i ids y l ms around xs h k)

  module _ (w : Writing) (is_code : Bool) (utf8 : IsUtf8 w.gap.white) (same : ids ≡ w.anchors)
      (coded : is_code ≡ true → is_code_inline y ≡ true) where
    abbrev shared_here : ℕ
    shared_here = shared w.around (wrappers around)

    -- between two codes with the same around them
    code-put : (s : List ℕ) → IsUtf8 s → (is_code && is_code_gap w (wrappers around)) ≡ true → Whole w.content
        → (is_code_leaf w.latest ≡ true → ids ≡ [] → Along true w.around w.content)
        → Put shared_here (behind shared_here w.content (take shared_here around) (code s))
    code-put s u e h k =
        let n : ℕ = shared w.around (wrappers around) in
        let a = and_parts is_code (is_code_gap w (wrappers around)) e in
        let b = and_parts (is_code_leaf w.latest && w.gap.is_code && (length w.anchors == 0)
        && (n == length w.around)) (n == length (wrappers around)) a.1 in
        let c = and_parts (is_code_leaf w.latest && w.gap.is_code && (length w.anchors == 0)) (n == length w.around)
        b.0 in
        let d = and_parts (is_code_leaf w.latest && w.gap.is_code) (length w.anchors == 0) c.0 in
        let latest = (and_parts (is_code_leaf w.latest) w.gap.is_code d.0).0 in
        let none_ : ids ≡ [] = same ∙ no_ids w.anchors d.1 in
        let p : n ≡ length w.around = eqb-true n (length w.around) c.1 in
        let q : n ≡ length (wrappers around) = eqb-true n (length (wrappers around)) b.1 in
        let leaf = code-of y (coded a.0) l in
        let placed_ = code-placed s leaf.0 u leaf.2 leaf.3 w.around around p q w.content h (k latest none_) in
        let deep_ : behind n (anchored n (behind n w.content (take n around) (code s)) around ids) around y
        ≡ deep n (code_put s leaf.0 u leaf.2 leaf.3) w.content =
        all-deep (Some (code s)) n w.content (behind n w.content (take n around) (code s)) (shared-long w.around around)
        (behind-take n around (code s) w.content (shared-long w.around around))
        ∙ ap
        (λ ids. deep n (λ us. joined (with_anchors ids (joined us (code s))) (wrapped (drop n around) y)) w.content)
        none_
        ∙ ap (λ (rest : List Around). deep n (λ us. joined (joined us (code s)) (wrapped rest y)) w.content)
        (drop-all n around q)
        ∙ ap (λ z. deep n (λ us. joined (joined us (code s)) z) w.content) leaf.1 in
        subst (λ us. Whole us × Along (is_code_inline y) (wrappers around) us) (sym deep_) (
          placed_.0,
          subst (λ b. Along b (wrappers around) (deep n (code_put s leaf.0 u leaf.2 leaf.3) w.content))
              (sym (coded a.0)) placed_.1,
        )

    white-put : (b : Bool) → (is_code && is_code_gap w (wrappers around)) ≡ b → (s : List ℕ) → IsUtf8 s
        → Whole w.content → Along false w.around w.content
        → (is_code_leaf w.latest ≡ true → ids ≡ [] → Along true w.around w.content)
        → Put shared_here (white_behind shared_here w.content around b s)
    white-put b e [] u h k c =
        behind-leaf None tt w.around w.content w.content h k (sym (deep-none shared_here w.content))
    white-put true e (d ∷ s) u h k c = code-put (d ∷ s) u e h c
    white-put false e (d ∷ s) u h k c =
        behind-leaf (Some (text (d ∷ s))) u w.around w.content _ h k
        (behind-take shared_here around (text (d ∷ s)) w.content (shared-long w.around around))

    either-put : (b : Bool) (m : ℕ) (xs ys : Inlines) → Put m xs → Put m ys → Put m (if b then xs else ys)
    either-put true m xs ys g h = g
    either-put false m xs ys g h = h

    leaf-put : Whole w.content → Along false w.around w.content
        → (is_code_leaf w.latest ≡ true → ids ≡ [] → Along true w.around w.content)
        → Put shared_here (gap_before w around is_code)
    leaf-put h k c =
        let m : ℕ = shared w.around (wrappers around) in
        let b : Bool = is_code && is_code_gap w (wrappers around) in
        either-put w.gap.has_break m (behind m w.content (take m around) line_break)
        (white_behind m w.content around b w.gap.white)
        (behind-leaf (Some line_break) tt w.around w.content (behind m w.content (take m around) line_break) h k
        (behind-take m around line_break w.content (shared-long w.around around)))
        (white-put b refl w.gap.white utf8 h k c)

    pub shown-written : (latest : Latest) → w.latest ≡ latest → IsWritten latest w.content w.around w.anchors
        → Put (if is_leaf latest then shared w.around (wrappers around) else 0) (gap_behind latest w around is_code)
    shown-written Nothing e h =
        subst (λ xs. Put 0 xs) (sym h) (put-first None tt ids y l around)
    shown-written Task e h =
        subst (λ xs. Put 0 (joined xs (text (space ∷ [])))) (sym h.1) (put-box None tt ids y l h.0 around)
    shown-written Plain e h =
        leaf-put h.0 h.1 (λ q i. absurd (let z : is_code_leaf Plain ≡ true = ap is_code_leaf (sym e) ∙ q in cc))
    shown-written Code e h = leaf-put h.0 h.1 (λ q i. h.2 (sym same ∙ i))

pub content-whole : (w : Writing) (latest : Latest) → IsWritten latest w.content w.around w.anchors
    → Whole (if is_leaf latest then w.content else no_inlines)
content-whole w Nothing h = (tt, tt, tt, tt)
content-whole w Task h = (tt, tt, tt, tt)
content-whole w Plain h = h.0
content-whole w Code h = h.0

pub line-whole : (w : Writing) → IsWritten w.latest w.content w.around w.anchors → Whole (whole_content w)
line-whole w h = anchors-whole w.anchors (shown_content w) (content-whole w w.latest h)
