-- The trees of lines are no deeper than what is seen of the lines: along the stack of tags that are open.
use Rattle.std.proofs.Common.{◌≡◌, ℕ, suc, ◌+◌, ◌≤◌, max, true, false, List, [], ◌∷◌, refl, sym, ap, ◌∙◌, codes}
use Rattle.std.proofs.Common.{Some, length, subst, arith}
use Rattle.std.specs.Prelude.{⊤}
use Rattle.std.specs.Str.{bytes_eq}
use Rattle.htmd_lexical.proofs.Cases.{test}
use Rattle.htmd_lexical.specs.AttributePairs.{AttributePair}
use Rattle.htmd_commonmark_reading.specs.Markup.{Inlines, no_inlines, letter, code, formatted, link, image}
use Rattle.htmd_commonmark_reading.specs.Markup.{line_break}
use Rattle.htmd_commonmark_reading.specs.Markup.{task, raw, joined, letters, plain_text}
use Rattle.htmd_commonmark_reading.specs.SeenMarkup.{Pair, format_pair, code_pair, Tag, closing_tag, Role, opens}
use Rattle.htmd_commonmark_reading.specs.SeenMarkup.{closes}
use Rattle.htmd_commonmark_reading.specs.SeenMarkup.{breaks, stays, role, Tags, outside, inside, with_seen, all_seen}
use Rattle.htmd_commonmark_reading.specs.SeenMarkup.{is_text_alone, paired, closed_tag, with_raw, seen, seen_inlines}
use Rattle.htmd_law_rendering.specs.RawTags.{closing, tag_by_role, pairs_of, form_of_break}
use Rattle.htmd_law_rendering.specs.RenderedTrees as trees
use Rattle.htmd_law_rendering.specs.RenderedTrees.{text_before, line_end, element_before, format_name}
use Rattle.htmd_law_rendering.specs.RenderedTrees.{pairs_of_format}
use Rattle.htmd_law_rendering.specs.RenderedTrees.{pairs_of_link, pairs_of_image, pairs_of_box, Behind, Open, onto}
use Rattle.htmd_law_rendering.specs.RenderedTrees.{opened, inlines_open, inlines_trees}
use Rattle.htmd_law_rendering.specs.SpelledTrees.{SpelledForest, text, element, lone, section, none, more, short}
use Rattle.htmd_law_rendering.specs.SpelledTrees.{levels}
use Rattle.htmd_law_rendering.specs.PlainReadings.{unopened}
use Rattle.htmd_law_rendering.proofs.RawLemmas.{names_of}
use Rattle.htmd_law_rendering.proofs.RenderedLemmas.{inlines-open}
use Rattle.htmd_law_rendering.proofs.PairedLemmas.{is_anchor, is_end, pending, total, is_pending, base}
use Rattle.htmd_law_rendering.proofs.PairedLemmas.{with_pending, names, AreFormats, Goes, Ends, stray, seen-formats}
use Rattle.htmd_law_rendering.proofs.PairedLemmas.{seen-left, seen-pending, seen-base, before, lost, closed-formats}
use Rattle.htmd_law_rendering.proofs.PairedLemmas.{pair-none, never-closed, opening-is, anchor-stays, end-stays}
use Rattle.htmd_law_rendering.proofs.PairedLemmas.{tag-of-anchor, tag-of-end, tag-of-role, closes-so, pairs}

-- ---- what is seen

-- how many elements and texts can be in each other
abbrev pub depth : Inlines → ℕ
depth no_inlines = 0
depth (letter c xs) = max 1 (depth xs)
depth (code s xs) = max 2 (depth xs)
depth (formatted f content xs) = max (suc (depth content)) (depth xs)
depth (link a t content xs) = max (suc (depth content)) (depth xs)
depth (image a t content xs) = max 1 (depth xs)
depth (line_break xs) = max 1 (depth xs)
depth (task d xs) = max 1 (depth xs)
depth (raw s xs) = max 1 (depth xs)

-- and within the elements that are open
abbrev depth_in : Tags → ℕ
depth_in (outside items) = depth items
depth_in (inside t items below) = max (length (base (inside t items below)) + depth items) (depth_in below)

joined-depth : (xs ys : Inlines) → depth (joined xs ys) ≡ max (depth xs) (depth ys)
joined-depth no_inlines ys = omega arith
joined-depth (letter c xs) ys = let i = joined-depth xs ys in omega (arith, i)
joined-depth (code s xs) ys = let i = joined-depth xs ys in omega (arith, i)
joined-depth (formatted f content xs) ys = let i = joined-depth xs ys in omega (arith, i)
joined-depth (link a t content xs) ys = let i = joined-depth xs ys in omega (arith, i)
joined-depth (image a t content xs) ys = let i = joined-depth xs ys in omega (arith, i)
joined-depth (line_break xs) ys = let i = joined-depth xs ys in omega (arith, i)
joined-depth (task d xs) ys = let i = joined-depth xs ys in omega (arith, i)
joined-depth (raw s xs) ys = let i = joined-depth xs ys in omega (arith, i)

seen-depth : (b : Tags) (x : Inlines) → depth_in (with_seen b x) ≡ max (depth_in b) (length (base b) + depth x)
seen-depth (outside items) x = let i = joined-depth items x in omega (arith, i)
seen-depth (inside t items below) x = let i = joined-depth items x in omega (arith, i)

text-depth : (xs : Inlines) → is_text_alone xs ≡ true → depth xs ≤ 1
text-depth (letter c no_inlines) e = omega arith
text-depth (letter c (letter d xs)) e = let i = text-depth (letter d xs) e in omega (arith, i)
text-depth (letter c (code s xs)) e = absurd (cc)
text-depth (letter c (formatted f content xs)) e = absurd (cc)
text-depth (letter c (link a t content xs)) e = absurd (cc)
text-depth (letter c (image a t content xs)) e = absurd (cc)
text-depth (letter c (line_break xs)) e = absurd (cc)
text-depth (letter c (task d xs)) e = absurd (cc)
text-depth (letter c (raw s xs)) e = absurd (cc)
text-depth no_inlines e = absurd (cc)
text-depth (code s xs) e = absurd (cc)
text-depth (formatted f content xs) e = absurd (cc)
text-depth (link a t content xs) e = absurd (cc)
text-depth (image a t content xs) e = absurd (cc)
text-depth (line_break xs) e = absurd (cc)
text-depth (task d xs) e = absurd (cc)
text-depth (raw s xs) e = absurd (cc)

-- a pair is deeper than what is in it
pair-depth : (b : Tags) (t : Tag) (pair : Pair) (content xs : Inlines) → is_anchor t.open_tag ≡ false
    → is_end t.open_tag ≡ false → Goes (with_seen b (paired t pair content)) xs
    → suc (depth content) ≤ depth (paired t pair content)
pair-depth b t (format_pair f) content xs a e g = omega arith
pair-depth b t code_pair content xs a e g =
    test (is_text_alone content)
    (λ q. let d = text-depth content q in rw q (omega (arith, d)))
    (λ q.
    let x = raw t.open_tag (joined content (raw (closing_tag t) no_inlines)) in
    let w : Goes (with_seen b x) xs = rw q at g in
    let l = seen-left b x in
    let m = stray (is_pending b) t.open_tag (joined content (raw (closing_tag t) no_inlines)) a e in
    let h = w.0 in
    absurd (omega (arith, l, m, h)))

-- ---- trees

pub text-levels : (s : List ℕ) (ts : SpelledForest) → levels (text_before s ts) ≤ max 1 (levels ts)
text-levels [] ts = omega arith
text-levels (b ∷ s) none = omega arith
text-levels (b ∷ s) (more (text u) ts) = omega arith
text-levels (b ∷ s) (more (element form n attributes content) ts) = omega arith
text-levels (b ∷ s) (more (lone n attributes u) ts) = omega arith
text-levels (b ∷ s) (more (section rows) ts) = omega arith

pub length-named : (bs : List Behind) → length bs ≡ length (names_of bs)
length-named [] = refl
length-named (b ∷ bs) = ap suc (length-named bs)

abbrev pub LowBehind : ℕ → List Behind → Type 0
LowBehind e [] = ⊤
LowBehind e (b ∷ bs) = (length bs + levels b.trees ≤ e) × LowBehind e bs

-- each part within the elements that are still to be opened
abbrev pub LowOpen : ℕ → Open → Type 0
LowOpen e o = (length o.behind + levels o.first ≤ e) × LowBehind e o.behind

pub opened-low : (e : ℕ) (n : List ℕ) (attributes : List AttributePair) (first : SpelledForest)
    (behind : List Behind)
    (m : List ℕ) (ms : List (List ℕ)) → names_of behind ≡ m ∷ ms
    → LowOpen e (record { first = first; behind = behind }) → LowOpen e (opened n attributes first behind)
opened-low e n attributes first [] m ms k h = absurd (cc)
opened-low e n attributes first (b ∷ bs) m ms k h =
    let f = h.0 in let g = h.1.0 in (omega (arith, f, g), h.1.1)

closing-low : (e : ℕ) (n : List ℕ) (o : Open) → suc (length o.behind) ≤ e → LowOpen e o
    → LowOpen e (trees.with_raw (closing n) o)
closing-low e n o l h = (omega (arith, l), (h.0, h.1))

-- ---- the walk

-- nothing is left over in the end, and what is seen is only so deep
abbrev EndsLow : ℕ → Tags → Inlines → Type 0
EndsLow e b xs = Ends b xs × (depth (all_seen (seen b xs) no_inlines) ≤ e)

abbrev IsLow : ℕ → SpelledForest → Tags → Inlines → Type 0
IsLow e rest b xs = (depth_in b ≤ e) × LowOpen e (inlines_open xs rest)

-- behind something that is no tag of an anchor the elements of the stack are still to be opened
behind-length : (rest : SpelledForest) (b : Tags) (x xs : Inlines) → pending (is_pending b) x ≡ false
    → Goes (with_seen b x) xs
    → length (inlines_open xs rest).behind ≡ length (base b)
behind-length rest b x xs f g =
    let behind = (inlines_open xs rest).behind in
    let named = (inlines-open xs rest (names (with_seen b x)) g.1).0 in
    length-named behind
    ∙ ap length (named ∙ (ap (λ p. with_pending p (base (with_seen b x)))
    (seen-pending b x ∙ f) ∙ seen-base b x))

-- before one inline that is no tag
step : (e : ℕ) (rest : SpelledForest) (b : Tags) (x xs : Inlines) (f : SpelledForest → SpelledForest)
    → pending (is_pending b) x ≡ false → ((ts : SpelledForest) → levels (f ts) ≤ max (depth x) (levels ts))
    → Goes (with_seen b x) xs → IsLow e rest (with_seen b x) xs
    → (depth_in b ≤ e) × LowOpen e (onto f (inlines_open xs rest))
step e rest b x xs f p h g i =
    let o = inlines_open xs rest in
    let s = seen-depth b x in
    let k = behind-length rest b x xs p g in
    let l = h o.first in
    let low = i.0 in
    let first = i.1.0 in
    (omega (arith, s, low), (omega (arith, s, k, l, low, first), i.1.1))

module _ (e : ℕ) (s : List ℕ) (xs : Inlines) (rest : SpelledForest)
    (ih : (b : Tags) → AreFormats b → EndsLow e b xs → IsLow e rest b xs) where
  of_anchor : (b : Tags) → AreFormats b → is_anchor s ≡ true → EndsLow e (with_seen b (raw s no_inlines)) xs
      → IsLow e rest b (raw s xs)
  of_anchor b f a h =
      let x = raw s no_inlines in
      let o = inlines_open xs rest in
      let i = ih (with_seen b x) (seen-formats b x f) h in
      let g = pairs xs (with_seen b x) (seen-formats b x f) h.0 in
      let d = seen-depth b x in
      let low = i.0 in
      let left : unopened xs ≡ Some (codes "a" ∷ base b) =
      g.1 ∙ ap Some (ap (λ q. with_pending q (base (with_seen b x))) (seen-pending b x ∙ a)
      ∙ ap (λ ns. codes "a" ∷ ns) (seen-base b x)) in
      let t = tag-of-anchor s a in (
        omega (arith, d, low),
        subst (λ r. LowOpen e (trees.with_raw r o)) (sym t.1)
            (opened-low e (codes "a") t.0 o.first o.behind (codes "a") (base b)
            (inlines-open xs rest (codes "a" ∷ base b) left).0 i.1),
      )

  of_end : (b : Tags) → AreFormats b → is_anchor s ≡ false → is_end s ≡ true
      → EndsLow e (with_seen b (raw s no_inlines)) xs → IsLow e rest b (raw s xs)
  of_end b f a end h =
      let x = raw s no_inlines in
      let o = inlines_open xs rest in
      let i = ih (with_seen b x) (seen-formats b x f) h in
      let g = pairs xs (with_seen b x) (seen-formats b x f) h.0 in
      let d = seen-depth b x in
      let low = i.0 in
      let k = behind-length rest b x xs a g in (
        omega (arith, d, low),
        subst (λ r. LowOpen e (trees.with_raw r o)) (sym (tag-of-end s a end))
            (closing-low e (codes "a") o (omega (arith, d, low, k)) i.1),
      )

  of_opening : (b : Tags) (t : Tag) → AreFormats b → is_anchor s ≡ false → is_end s ≡ false
      → role s ≡ opens t → EndsLow e (inside t no_inlines b) xs → IsLow e rest b (raw s xs)
  of_opening b t f a end r h =
      let k = opening-is s t r in
      let o = inlines_open xs rest in
      let formats : AreFormats (inside t no_inlines b) = (ap is_anchor k ∙ a, ap is_end k ∙ end, f) in
      let i = ih (inside t no_inlines b) formats h in
      let g = pairs xs (inside t no_inlines b) formats h.0 in
      let low = i.0 in (
        omega (arith, low),
        subst (λ u. LowOpen e (trees.with_raw u o)) (sym (tag-of-role s a end ∙ ap (tag_by_role s) r))
            (opened-low e t.name (pairs_of t.pair) o.first o.behind t.name (names b)
            (inlines-open xs rest (t.name ∷ names b) g.1).0 i.1),
      )

  of_closing : (b : Tags) (t : Tag) → AreFormats b → is_anchor s ≡ false → is_end s ≡ false
      → role s ≡ closes t → EndsLow e (closed_tag t b b no_inlines) xs → IsLow e rest b (raw s xs)
  of_closing (outside items) t f a end r h =
      let c = closes-so s xs (λ b g z. pairs xs b g z) t a end r in
      let x = raw (closing_tag t) no_inlines in
      let g = pairs xs (with_seen (outside items) x) tt h.0 in
      let l = seen-left (outside items) x in
      let m = stray (pending false items) (closing_tag t) no_inlines (ap is_anchor (sym c) ∙ a)
      (ap is_end (sym c) ∙ end) in
      let z = g.0 in
      absurd (omega (arith, l, m, z))
  of_closing (inside u items below) t f a end r h =
      test (bytes_eq u.name t.name)
      (λ q.
      let x = paired u u.pair (joined items no_inlines) in
      let w : EndsLow e (with_seen below x) xs = rw q at h in
      let o = inlines_open xs rest in
      let i = ih (with_seen below x) (seen-formats below x f.2) w in
      let g = pairs xs (with_seen below x) (seen-formats below x f.2) w.0 in
      let k = pair-none below u u.pair (joined items no_inlines) xs f.0 f.1 g in
      let deeper = pair-depth below u u.pair (joined items no_inlines) xs f.0 f.1 g in
      let all = joined-depth items no_inlines in
      let d = seen-depth below x in
      let low = i.0 in
      let closed = ap (λ p. length (with_pending p (base below))) k.1 in
      let behind = length-named o.behind ∙ (ap length (inlines-open xs rest (names below) k.4).0 ∙ closed) in (
        omega (arith, deeper, all, d, low, closed),
        subst (λ v. LowOpen e (trees.with_raw v o)) (sym (tag-of-role s a end ∙ ap (tag_by_role s) r))
            (closing-low e t.name o (omega (arith, deeper, d, low, behind)) i.1),
      ))
      (λ q.
      let x = raw u.open_tag (joined items no_inlines) in
      let w : EndsLow e (closed_tag t (inside u items below) below x) xs = rw q at h in
      let c = closes-so s xs (λ b g z. pairs xs b g z) t a end r in
      let g = pairs xs (closed_tag t (inside u items below) below x)
      (closed-formats t (inside u items below) below x f f.2) w.0 in
      let m = lost t (inside u items below) below x (ap is_anchor (sym c) ∙ a) (ap is_end (sym c) ∙ end) f.2
      (λ p. stray p u.open_tag (joined items no_inlines) f.0 f.1) in
      let z = g.0 in
      absurd (omega (arith, m, z)))

  of_role : (b : Tags) (r : Role) → AreFormats b → is_anchor s ≡ false → is_end s ≡ false → role s ≡ r
      → EndsLow e (with_raw b s r) xs → IsLow e rest b (raw s xs)
  of_role b (opens t) f a end r h = of_opening b t f a end r h
  of_role b (closes t) f a end r h = of_closing b t f a end r h
  of_role b breaks f a end r h =
      let x = line_break no_inlines in
      let i = ih (with_seen b x) (seen-formats b x f) h in
      let g = pairs xs (with_seen b x) (seen-formats b x f) h.0 in
      let form = form_of_break s in
      let k = step e rest b x xs (more (element form (codes "br") [] none)) refl (λ ts. omega arith) g i in (
        k.0,
        subst (λ v. LowOpen e (trees.with_raw v (inlines_open xs rest)))
            (sym (tag-of-role s a end ∙ ap (tag_by_role s) r))
            k.1,
      )
  of_role b stays f a end r h =
      let x = raw s no_inlines in
      let g = pairs xs (with_seen b x) (seen-formats b x f) h.0 in
      let l = seen-left b x in
      let m = stray (is_pending b) s no_inlines a end in
      let z = g.0 in
      absurd (omega (arith, l, m, z))

  of_tag : (b : Tags) → AreFormats b → EndsLow e (with_raw b s (role s)) xs → IsLow e rest b (raw s xs)
  of_tag b f h =
      test (is_anchor s)
      (λ a. of_anchor b f a (subst (λ r. EndsLow e (with_raw b s r) xs) (anchor-stays s a) h))
      (λ a. test (is_end s)
      (λ end. of_end b f a end (subst (λ r. EndsLow e (with_raw b s r) xs) (end-stays s end) h))
      (λ end. of_role b (role s) f a end refl h))

low : (e : ℕ) (xs : Inlines) (rest : SpelledForest) (b : Tags) → AreFormats b → levels rest ≤ e
    → EndsLow e b xs
    → IsLow e rest b xs
low e no_inlines rest (outside items) f l h =
    let d = h.1 in let j = joined-depth items no_inlines in (omega (arith, d, j), (omega (arith, l), tt))
low e no_inlines rest (inside t items below) f l h =
    absurd (never-closed below t.open_tag (joined items no_inlines) f.2 f.0 f.1 h.0)
low e (letter c xs) rest b f l h =
    let x = letter c no_inlines in
    let i = low e xs rest (with_seen b x) (seen-formats b x f) l h in
    let g = pairs xs (with_seen b x) (seen-formats b x f) h.0 in
    step e rest b x xs (text_before (c ∷ [])) refl (λ ts. let t = text-levels (c ∷ []) ts in omega (arith, t)) g i
low e (code s xs) rest b f l h =
    let x = code s no_inlines in
    let i = low e xs rest (with_seen b x) (seen-formats b x f) l h in
    let g = pairs xs (with_seen b x) (seen-formats b x f) h.0 in
    let t = text-levels s none in
    step e rest b x xs (element_before (codes "code") [] (text_before s none)) refl (λ ts. omega (arith, t)) g i
low e (formatted m content xs) rest b f l h =
    let inner = all_seen (seen (outside no_inlines) content) no_inlines in
    let x = formatted m inner no_inlines in
    let i = low e xs rest (with_seen b x) (seen-formats b x f) l h in
    let g = pairs xs (with_seen b x) (seen-formats b x f) h.0 in
    let r = before b x xs (total inner) (omega arith) refl g in
    let j = low (depth inner) content none (outside no_inlines) tt (omega arith) (r.1, omega arith) in
    let within = j.1.0 in
    step e rest b x xs
    (element_before (format_name m) (pairs_of_format m) (inlines_open content none).first) refl
    (λ ts. omega (arith, within)) g i
low e (link a t content xs) rest b f l h =
    let inner = all_seen (seen (outside no_inlines) content) no_inlines in
    let x = link a t inner no_inlines in
    let i = low e xs rest (with_seen b x) (seen-formats b x f) l h in
    let g = pairs xs (with_seen b x) (seen-formats b x f) h.0 in
    let r = before b x xs (total inner) (omega arith) refl g in
    let j = low (depth inner) content none (outside no_inlines) tt (omega arith) (r.1, omega arith) in
    let within = j.1.0 in
    step e rest b x xs (element_before (codes "a") (pairs_of_link a t) (inlines_open content none).first) refl
    (λ ts. omega (arith, within)) g i
low e (image a t content xs) rest b f l h =
    let x = image a t (letters (plain_text (all_seen (seen (outside no_inlines) content) no_inlines)) no_inlines)
    no_inlines in
    let i = low e xs rest (with_seen b x) (seen-formats b x f) l h in
    let g = pairs xs (with_seen b x) (seen-formats b x f) h.0 in
    step e rest b x xs (element_before (codes "img") (pairs_of_image a t (plain_text content)) none) refl
    (λ ts. omega arith) g i
low e (line_break xs) rest b f l h =
    let x = line_break no_inlines in
    let i = low e xs rest (with_seen b x) (seen-formats b x f) l h in
    let g = pairs xs (with_seen b x) (seen-formats b x f) h.0 in
    step e rest b x xs (λ ts. element_before (codes "br") [] none (line_end ts)) refl
    (λ ts. let t = text-levels (codes "\n") ts in omega (arith, t)) g i
low e (task d xs) rest b f l h =
    let x = task d no_inlines in
    let i = low e xs rest (with_seen b x) (seen-formats b x f) l h in
    let g = pairs xs (with_seen b x) (seen-formats b x f) h.0 in
    step e rest b x xs
    (λ ts. more (element short (codes "input") (pairs_of_box d) none) (text_before (codes " ") ts)) refl
    (λ ts. let t = text-levels (codes " ") ts in omega (arith, t)) g i
low e (raw s xs) rest b f l h = of_tag e s xs rest (λ c g m. low e xs rest c g l m) b f h

pub inlines-low : (e : ℕ) (xs : Inlines) (rest : SpelledForest) → total (seen_inlines xs) ≡ 0
    → depth (seen_inlines xs) ≤ e → levels rest ≤ e → levels (inlines_trees xs rest) ≤ e
inlines-low e xs rest t d l =
    let i = low e xs rest (outside no_inlines) tt l (t, d) in let k = i.1.0 in omega (arith, k)
