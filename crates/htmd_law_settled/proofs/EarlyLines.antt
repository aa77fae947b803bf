-- A line whose anchors come before all that shows has them at its beginning.
use Rattle.std.proofs.Common.{◌≡◌, ℕ, zero, suc, Bool, true, false, cond, not, ◌&&◌, ◌||◌, List, [], ◌∷◌, refl, sym, ap}
use Rattle.std.proofs.Common.{subst, fold, map, take}
use Rattle.std.specs.Prelude.{nat_le, encode_utf8, length, ◌==◌}
use Rattle.std.specs.List.{list_all}
use Rattle.std.specs.Str.{chars}
use Rattle.std.proofs.lemmas.Bool.{and_from, and_parts, false≢true, true≢false}
use Rattle.htmd_lexical.specs.Characters.{space}
use Rattle.htmd_document.specs.Documents.{Inline, text, code, formatted, link, image, anchor, line_break}
use Rattle.htmd_document.specs.Documents.{Inlines, no_inlines, inline}
use Rattle.htmd_document.specs.NormalInlines.{are_anchors}
use Rattle.htmd_flow.specs.Nesting.{wrapped, one_inline, text_or_code, met, joined, with_content, in_last}
use Rattle.htmd_flow.specs.Nesting.{behind, wrapper_of, shared}
use Rattle.htmd_flow.specs.Nodes.{line_of}
use Rattle.htmd_flow.specs.Paragraphs.{Writing, begun, is_leaf, anchored, shown_content, whole_content, ended, parted}
use Rattle.htmd_flow.specs.Paragraphs.{broken_off, spaced_out, white_behind, is_code_gap, gap_before, gap_behind}
use Rattle.htmd_flow.specs.Paragraphs.{shared_wrappers, put_before, shown, after_leaf, boxed, with_task, tasked}
use Rattle.htmd_flow.specs.Paragraphs.{with_anchor, after_character, fed, fed_all, line_in}
use Rattle.htmd_flow.specs.declared.paragraphs.Latest.{Latest}
use Rattle.htmd_flow.specs.declared.paragraphs.Latest.TheVariants.{Nothing, Task, Plain, Code}
use Rattle.htmd_flow.specs.Parts.{Around, Part, run, picture, break, place, box, edge, whole}
use Rattle.htmd_flow.specs.Parts as part
use Rattle.htmd_shown.specs.Spaces.{is_white}
use Rattle.htmd_law_documents.proofs.NormalFilledLemmas.{is_showing}
use Rattle.htmd_law_returning.specs.LastingAnchors.{heading_keeps}
use Rattle.htmd_law_returning.specs.NoAnchors.{has_no_anchors, have_no_anchors}

-- ---- parts of a line

-- no anchor comes where something was before it
abbrev pub IsEarly : Bool → Part → Type 0
IsEarly shown (run s around is_code) = Unit {0}
IsEarly shown (picture address title description around) = Unit {0}
IsEarly shown break = Unit {0}
IsEarly shown (place id) = shown ≡ false
IsEarly shown (box is_checked) = Unit {0}
IsEarly shown edge = Unit {0}
IsEarly shown (whole b) = Unit {0}

-- before and behind these something showed
abbrev pub Leads : Bool → Bool → List Part → Type 0
Leads b c [] = b ≡ true → c ≡ true
Leads b c (p ∷ ps) = IsEarly b p × Leads (b || is_showing true p) c ps

-- ---- lines without anchors, and with anchors first

none-keeps : (xs : Inlines) → have_no_anchors xs ≡ true → heading_keeps xs ≡ true
none-keeps no_inlines h = refl
none-keeps (inline (anchor id) xs) h = absurd (false≢true h)
none-keeps (inline x xs) h = h

anchors-keep : (xs : Inlines) → are_anchors xs ≡ true → heading_keeps xs ≡ true
anchors-keep no_inlines h = refl
anchors-keep (inline (anchor id) xs) h = anchors-keep xs h
anchors-keep (inline x xs) h = absurd (false≢true h)

one-none : (y : Inline) → has_no_anchors y ≡ true → have_no_anchors (one_inline y) ≡ true
one-none y h = and_from (has_no_anchors y) true h refl

met-none : (x y : Inline) → has_no_anchors x ≡ true → has_no_anchors y ≡ true
    → have_no_anchors (met x y) ≡ true
met-none (text s) (text t) g h = refl
met-none (code s) (code t) g h = refl
met-none (text s) y g h = one-none y h
met-none (code s) y g h = one-none y h
met-none x y g h = and_from (has_no_anchors x) (have_no_anchors (one_inline y)) g (one-none y h)

joined-none : (xs : Inlines) (y : Inline) → have_no_anchors xs ≡ true → has_no_anchors y ≡ true
    → have_no_anchors (joined xs y) ≡ true
joined-none no_inlines y g h = one-none y h
joined-none (inline x no_inlines) y g h = met-none x y (and_parts (has_no_anchors x) true g).0 h
joined-none (inline x (inline z xs)) y g h =
    let p = and_parts (has_no_anchors x) (have_no_anchors (inline z xs)) g in
    and_from (has_no_anchors x) (have_no_anchors (joined (inline z xs) y)) p.0 (joined-none (inline z xs) y p.1 h)

joined-keeps : (xs : Inlines) (y : Inline) → heading_keeps xs ≡ true → has_no_anchors y ≡ true
    → heading_keeps (joined xs y) ≡ true
joined-keeps no_inlines y g h = none-keeps (one_inline y) (one-none y h)
joined-keeps (inline (anchor id) no_inlines) y g h = none-keeps (one_inline y) (one-none y h)
joined-keeps (inline (anchor id) (inline z xs)) y g h = joined-keeps (inline z xs) y g h
joined-keeps (inline x xs) y g h = none-keeps (joined (inline x xs) y) (joined-none (inline x xs) y g h)

joined-anchors : (xs : Inlines) (id : List ℕ) → are_anchors xs ≡ true
    → are_anchors (joined xs (anchor id)) ≡ true
joined-anchors no_inlines id h = refl
joined-anchors (inline (anchor i) no_inlines) id h = refl
joined-anchors (inline (anchor i) (inline z xs)) id h = joined-anchors (inline z xs) id h
joined-anchors (inline x xs) id h = absurd (false≢true h)

wrapped-none : (around : List Around) (y : Inline) → has_no_anchors y ≡ true
    → has_no_anchors (wrapped around y) ≡ true
wrapped-none [] y h = h
wrapped-none (part.formatted f ∷ around) y h = one-none (wrapped around y) (wrapped-none around y h)
wrapped-none (part.linked node address title ∷ around) y h =
    one-none (wrapped around y) (wrapped-none around y h)

abbrev StayNone : (Inlines → Inlines) → Type 0
StayNone change = (xs : Inlines) → have_no_anchors xs ≡ true → have_no_anchors (change xs) ≡ true

content-none : (change : Inlines → Inlines) → StayNone change → (x : Inline) → has_no_anchors x ≡ true
    → has_no_anchors (with_content change x) ≡ true
content-none change f (formatted g content) h = f content h
content-none change f (link address title content) h = f content h
content-none change f x h = h

last-none : (change : Inlines → Inlines) → StayNone change → StayNone (in_last change)
last-none change f no_inlines h = h
last-none change f (inline x no_inlines) h =
    one-none (with_content change x) (content-none change f x (and_parts (has_no_anchors x) true h).0)
last-none change f (inline x (inline z xs)) h =
    let p = and_parts (has_no_anchors x) (have_no_anchors (inline z xs)) h in
    and_from (has_no_anchors x) (have_no_anchors (in_last change (inline z xs))) p.0
    (last-none change f (inline z xs) p.1)

last-keeps : (change : Inlines → Inlines) → StayNone change → (xs : Inlines) → heading_keeps xs ≡ true
    → heading_keeps (in_last change xs) ≡ true
last-keeps change f no_inlines h = refl
last-keeps change f (inline (anchor id) no_inlines) h = refl
last-keeps change f (inline (anchor id) (inline z xs)) h = last-keeps change f (inline z xs) h
last-keeps change f (inline x xs) h =
    none-keeps (in_last change (inline x xs)) (last-none change f (inline x xs) h)

behind-none : (n : ℕ) (around : List Around) (y : Inline) → has_no_anchors y ≡ true
    → StayNone (λ xs. behind n xs around y)
behind-none zero around y h xs g = joined-none xs (wrapped around y) g (wrapped-none around y h)
behind-none (suc n) [] y h xs g = joined-none xs y g h
behind-none (suc n) (a ∷ around) y h xs g =
    last-none (λ content. behind n content around y) (behind-none n around y h) xs g

behind-keeps : (n : ℕ) (around : List Around) (y : Inline) → has_no_anchors y ≡ true → (xs : Inlines)
    → heading_keeps xs ≡ true → heading_keeps (behind n xs around y) ≡ true
behind-keeps zero around y h xs g = joined-keeps xs (wrapped around y) g (wrapped-none around y h)
behind-keeps (suc n) [] y h xs g = joined-keeps xs y g h
behind-keeps (suc n) (a ∷ around) y h xs g =
    last-keeps (λ content. behind n content around y) (behind-none n around y h) xs g

all-anchors : (ids : List (List ℕ)) (xs : Inlines) (around : List Around) → are_anchors xs ≡ true
    → are_anchors (anchored 0 xs around ids) ≡ true
all-anchors [] xs around h = h
all-anchors (id ∷ ids) xs around h = all-anchors ids (joined xs (anchor id)) around (joined-anchors xs id h)

text-none : (b : Bool) (s : List ℕ) → has_no_anchors (text_or_code b s) ≡ true
text-none true s = refl
text-none false s = refl

-- ---- what is begun of a line

-- before something shows, and behind it
abbrev Kept : Bool → Writing → Type 0
Kept false w = (w.is_flat ≡ true) × (w.in_item ≡ false) × (w.latest ≡ Nothing) × (w.content ≡ no_inlines)
Kept true w = (w.is_flat ≡ true) × (w.in_item ≡ false) × (w.anchors ≡ []) × (heading_keeps w.content ≡ true)

either-keeps : (b : Bool) (xs ys : Inlines) → heading_keeps xs ≡ true → heading_keeps ys ≡ true
    → heading_keeps (cond b xs ys) ≡ true
either-keeps true xs ys g h = g
either-keeps false xs ys g h = h

white-keeps : (n : ℕ) (xs : Inlines) (around : List Around) (is_code : Bool) (s : List ℕ)
    → heading_keeps xs ≡ true → heading_keeps (white_behind n xs around is_code s) ≡ true
white-keeps n xs around is_code [] h = h
white-keeps n xs around is_code (b ∷ s) h =
    behind-keeps n (take n around) (text_or_code is_code (b ∷ s)) (text-none is_code (b ∷ s)) xs h

gap-keeps : (w : Writing) (around : List Around) (is_code : Bool) → heading_keeps w.content ≡ true
    → heading_keeps (gap_before w around is_code) ≡ true
gap-keeps w around is_code h =
    let wrappers = map wrapper_of around in
    let n : ℕ = shared w.around wrappers in
    either-keeps w.gap.has_break (behind n w.content (take n around) line_break)
    (white_behind n w.content around (is_code && is_code_gap w wrappers) w.gap.white)
    (behind-keeps n (take n around) line_break refl w.content h)
    (white-keeps n w.content around (is_code && is_code_gap w wrappers) w.gap.white h)

gap-behind-keeps : (l : Latest) (w : Writing) (around : List Around) (is_code : Bool)
    → heading_keeps w.content ≡ true → heading_keeps (gap_behind l w around is_code) ≡ true
gap-behind-keeps Nothing w around is_code h = h
gap-behind-keeps Task w around is_code h = behind-keeps 0 [] (text (space ∷ [])) refl w.content h
gap-behind-keeps Plain w around is_code h = gap-keeps w around is_code h
gap-behind-keeps Code w around is_code h = gap-keeps w around is_code h

module _ (w : Writing) (around : List Around) (is_code : Bool) (leaf : Inline) (h : has_no_anchors leaf ≡ true) where
  -- the first thing that shows, behind its anchors
  first-leaf : (l : Latest) → l ≡ Nothing → w.content ≡ no_inlines
      → heading_keeps (behind (cond (is_leaf l) (shared w.around (map wrapper_of around)) 0)
      (anchored (cond (is_leaf l) (shared w.around (map wrapper_of around)) 0) (gap_behind l w around is_code) around
      w.anchors) around leaf) ≡ true
  first-leaf Nothing e f =
      behind-keeps 0 around leaf h (anchored 0 w.content around w.anchors)
      (anchors-keep (anchored 0 w.content around w.anchors)
      (all-anchors w.anchors w.content around (ap are_anchors f)))
  first-leaf Task e f = absurd (cc)
  first-leaf Plain e f = absurd (cc)
  first-leaf Code e f = absurd (cc)

  -- one behind others
  next-leaf : w.anchors ≡ [] → heading_keeps w.content ≡ true
      → heading_keeps (behind (shared_wrappers w (map wrapper_of around)) (put_before w around is_code) around leaf)
      ≡ true
  next-leaf e f =
      let n : ℕ = shared_wrappers w (map wrapper_of around) in
      behind-keeps n around leaf h (put_before w around is_code)
      (subst (λ (ids : List (List ℕ)). heading_keeps
      (anchored n (gap_behind w.latest w around is_code) around ids) ≡ true) (sym e)
      (gap-behind-keeps w.latest w around is_code f))

  shown-kept : (b : Bool) → Kept b w → Kept true (shown w around is_code leaf)
  shown-kept false k = (k.0, k.1, refl, first-leaf w.latest k.2 k.3)
  shown-kept true k = (k.0, k.1, refl, next-leaf k.2 k.3)

is-flat : (b : Bool) (w : Writing) → Kept b w → w.is_flat ≡ true
is-flat true w k = k.0
is-flat false w k = k.0

no-item : (b : Bool) (w : Writing) → Kept b w → w.in_item ≡ false
no-item true w k = k.1
no-item false w k = k.1

not-parted : (w : Writing) → w.is_flat ≡ true → parted w ≡ w
not-parted w e = ap (λ b. cond (not b && nat_le 2 w.breaks) (ended w) w) e

leaf-kept : (b : Bool) (w : Writing) (around : List Around) (is_code : Bool) (leaf : Inline)
    → has_no_anchors leaf ≡ true → Kept b w → Kept true (after_leaf w around is_code leaf)
leaf-kept b w around is_code leaf h k =
    subst (λ (v : Writing). Kept true (shown v around is_code leaf)) (sym (not-parted w (is-flat b w k)))
    (shown-kept w around is_code leaf h b k)

broken-kept : (b : Bool) (w : Writing) → Kept b w → Kept b (broken_off w)
broken-kept true w k = k
broken-kept false w k = k

spaced-kept : (b : Bool) (w : Writing) (c : ℕ) (is_code : Bool) → Kept b w → Kept b (spaced_out w c is_code)
spaced-kept true w c is_code k = k
spaced-kept false w c is_code k = k

boxed-kept : (b : Bool) (w : Writing) → Kept b w → Kept b (boxed w)
boxed-kept true w k = k
boxed-kept false w k = k

as-shown : (b : Bool) (w : Writing) → Kept true w → Kept (b || true) w
as-shown true w k = k
as-shown false w k = k

as-before : (b : Bool) (w : Writing) → Kept b w → Kept (b || false) w
as-before true w k = k
as-before false w k = k

characters-kept : (around : List Around) (is_code : Bool) (cs : List ℕ) (b : Bool) (w : Writing) → Kept b w
    → Kept (b || not (list_all is_white cs)) (fold (λ v c. after_character v around is_code c) w cs)
characters-kept around is_code [] b w k = as-before b w k
characters-kept around is_code (c ∷ cs) b w k =
    by (is_white c) refl (characters-kept around is_code cs b (spaced_out w c is_code) (spaced-kept b w c is_code k))
    (characters-kept around is_code cs true (after_leaf w around is_code leaf)
    (leaf-kept b w around is_code leaf (text-none is_code (encode_utf8 c)) k))
  where
    leaf : Inline
    leaf = text_or_code is_code (encode_utf8 c)

    all : Writing → Writing
    all v = fold (λ v c. after_character v around is_code c) v cs

    by : (x : Bool) → is_white c ≡ x
        → Kept (b || not (list_all is_white cs)) (fold (λ v c. after_character v around is_code c)
        (spaced_out w c is_code) cs)
        → Kept true (fold (λ v c. after_character v around is_code c) (after_leaf w around is_code leaf) cs)
        → Kept (b || not (x && list_all is_white cs))
        (fold (λ v c. after_character v around is_code c)
        (cond x (spaced_out w c is_code) (after_leaf w around is_code leaf)) cs)
    by true e g h = g
    by false e g h =
        as-shown b (fold (λ v c. after_character v around is_code c) (after_leaf w around is_code leaf) cs) h

flat-edge : (b : Bool) (w v : Writing) → Kept b w → Kept (b || false) (cond w.is_flat (broken_off w) v)
flat-edge b w v k =
    subst (λ (x : Bool). Kept (b || false) (cond x (broken_off w) v)) (sym (is-flat b w k))
    (as-before b (broken_off w) (broken-kept b w k))

part-kept : (b : Bool) (w : Writing) (p : Part) → IsEarly b p → Kept b w → Kept (b || is_showing true p) (fed w p)
part-kept b w (run s around is_code) e k = characters-kept around is_code (chars s) b w k
part-kept b w (picture address title description around) e k =
    as-shown b (after_leaf w around false (image address title description))
    (leaf-kept b w around false (image address title description) refl k)
part-kept b w break e k = as-before b (broken_off w) (broken-kept b w k)
part-kept true w (place id) e k = absurd (true≢false e)
part-kept false w (place id) e k =
    subst (λ (v : Writing). Kept false (with_anchor v id)) (sym (not-parted w k.0)) k
part-kept b w (box is_checked) e k =
    subst (λ (v : Writing). Kept (b || false) (tasked v is_checked)) (sym (not-parted w (is-flat b w k)))
    (as-before b (tasked w is_checked) (no-task (no-item b w k)))
  where
    no-task : w.in_item ≡ false → Kept b (tasked w is_checked)
    no-task f =
        subst (λ (x : Bool). Kept b (cond (x && (length w.done == 0) && w.is_blank)
        (with_task (boxed w) is_checked) (boxed w))) (sym f)
        (boxed-kept b w k)
part-kept b w edge e k = flat-edge b w _ k
part-kept b w (whole x) e k = flat-edge b w _ k

end-kept : (b : Bool) (w : Writing) → Kept b w → heading_keeps (line_in w) ≡ true
end-kept true w k =
    subst (λ (ids : List (List ℕ)). heading_keeps (anchored 0 (shown_content w) [] ids) ≡ true) (sym k.2)
    (either-keeps (is_leaf w.latest) w.content no_inlines k.3 refl)
end-kept false w k =
    anchors-keep (whole_content w)
    (all-anchors w.anchors (shown_content w) []
    (ap (λ l. are_anchors (cond (is_leaf l) w.content no_inlines)) k.2))

parts-kept : (ps : List Part) (b c : Bool) (w : Writing) → Leads b c ps → Kept b w
    → heading_keeps (line_in (fed_all w ps)) ≡ true
parts-kept [] b c w h k = end-kept b w k
parts-kept (p ∷ ps) b c w h k =
    parts-kept ps (b || is_showing true p) c (fed w p) h.1 (part-kept b w p h.0 k)

pub early-line : (c : Bool) (ps : List Part) → Leads false c ps → heading_keeps (line_of ps) ≡ true
early-line c ps h = parts-kept ps false c (begun false true) h (refl, refl, refl, refl)
