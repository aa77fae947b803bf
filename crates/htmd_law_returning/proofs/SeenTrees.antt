-- The trees of a line are those of what is seen of it: along the stack of tags that are open.
use Rattle.std.proofs.Common.{◌≡◌, ℕ, Bool, true, false, ◌||◌, List, [], ◌∷◌, refl, sym, ap}
use Rattle.std.proofs.Common.{◌∙◌}
use Rattle.std.proofs.Common.{codes, Option, Some, None, subst, arith}
use Rattle.std.specs.List.{list_all}
use Rattle.std.specs.Prelude.{⊤}
use Rattle.std.specs.Str.{bytes_eq}
use Rattle.std.proofs.lemmas.Bool.{and_parts}
use Rattle.htmd_lexical.proofs.BytesLemmas.{same_bytes}
use Rattle.htmd_lexical.proofs.Cases.{test}
use Rattle.htmd_lexical.specs.CharacterClasses.{is_among}
use Rattle.htmd_lexical.specs.Characters.{space}
use Rattle.htmd_commonmark_reading.specs.Anchors.{abbreviation_title}
use Rattle.htmd_commonmark_reading.specs.Markup.{Inlines, no_inlines, letter, code, formatted, link, image, line_break}
use Rattle.htmd_commonmark_reading.specs.Markup.{task, raw, joined, letters, plain_text}
use Rattle.htmd_commonmark_reading.specs.SeenMarkup.{Pair, format_pair, code_pair, Tag, tags, closing_tag, abbreviation}
use Rattle.htmd_commonmark_reading.specs.SeenMarkup.{Role, opens, closes, breaks, stays, role_among, role_by_title}
use Rattle.htmd_commonmark_reading.specs.SeenMarkup.{role}
use Rattle.htmd_commonmark_reading.specs.SeenMarkup.{Tags, outside, inside, with_seen, all_seen, is_text_alone, paired}
use Rattle.htmd_commonmark_reading.specs.SeenMarkup.{closed_tag, seen, seen_inlines}
use Rattle.htmd_commonmark_reading.specs.SeenMarkup as markup
use Rattle.htmd_law_rendering.specs.RawTags.{opening, closing, raw_tag, tag_by_role, pairs_of}
use Rattle.htmd_law_rendering.specs.RenderedTrees.{text_before, line_end, element_before, format_name, pairs_of_format}
use Rattle.htmd_law_rendering.specs.RenderedTrees.{pairs_of_link, pairs_of_image, pairs_of_box, Behind, Open, onto}
use Rattle.htmd_law_rendering.specs.RenderedTrees.{with_raw, inlines_open, inlines_trees}
use Rattle.htmd_law_rendering.specs.SpelledTrees.{SpelledForest, element, none, more, short}
use Rattle.htmd_law_rendering.proofs.PairedLemmas.{is_anchor, is_end, pending, left, total, is_pending}
use Rattle.htmd_law_rendering.proofs.PairedLemmas.{AreFormats, Goes, Ends, joined-nil, stray, seen-formats, seen-left}
use Rattle.htmd_law_rendering.proofs.PairedLemmas.{before, lost, closed-formats, pair-none, opening-is, anchor-stays}
use Rattle.htmd_law_rendering.proofs.PairedLemmas.{end-stays, tag-of-anchor, tag-of-end, tag-of-role, closes-so, pairs}
use Rattle.htmd_law_inlines.specs.PlainReadings.{is_untagged}
use Rattle.htmd_law_returning.proofs.PairReadings.{is_of_pair, is_of_anchor, has_pairs_alone}
use Rattle.htmd_law_returning.proofs.TreesLemmas.{description-seen}

-- ---- inlines before what is open

abbrev at : SpelledForest → List Behind → Open
at ts behind = record { first = ts; behind = behind }

abbrev open_onto : Inlines → Open → Open
open_onto no_inlines o = o
open_onto (letter c xs) o = onto (text_before (c ∷ [])) (open_onto xs o)
open_onto (code s xs) o = onto (element_before (codes "code") [] (text_before s none)) (open_onto xs o)
open_onto (formatted f content xs) o =
    onto (element_before (format_name f) (pairs_of_format f) (inlines_open content none).first) (open_onto xs o)
open_onto (link a t content xs) o =
    onto (element_before (codes "a") (pairs_of_link a t) (inlines_open content none).first) (open_onto xs o)
open_onto (image a t content xs) o =
    onto (element_before (codes "img") (pairs_of_image a t (plain_text content)) none) (open_onto xs o)
open_onto (line_break xs) o = onto (λ ts. element_before (codes "br") [] none (line_end ts)) (open_onto xs o)
open_onto (task d xs) o =
    onto (λ ts. more (element short (codes "input") (pairs_of_box d) none) (text_before (space ∷ []) ts))
    (open_onto xs o)
open_onto (raw tag xs) o = with_raw (raw_tag tag) (open_onto xs o)

opens-onto : (xs : Inlines) (rest : SpelledForest) → inlines_open xs rest ≡ open_onto xs (at rest [])
opens-onto no_inlines rest = refl
opens-onto (letter c xs) rest = ap (onto (text_before (c ∷ []))) (opens-onto xs rest)
opens-onto (code s xs) rest =
    ap (onto (element_before (codes "code") [] (text_before s none))) (opens-onto xs rest)
opens-onto (formatted f content xs) rest =
    ap (onto (element_before (format_name f) (pairs_of_format f) (inlines_open content none).first))
    (opens-onto xs rest)
opens-onto (link a t content xs) rest =
    ap (onto (element_before (codes "a") (pairs_of_link a t) (inlines_open content none).first)) (opens-onto xs rest)
opens-onto (image a t content xs) rest =
    ap (onto (element_before (codes "img") (pairs_of_image a t (plain_text content)) none)) (opens-onto xs rest)
opens-onto (line_break xs) rest =
    ap (onto (λ ts. element_before (codes "br") [] none (line_end ts))) (opens-onto xs rest)
opens-onto (task d xs) rest =
    ap (onto (λ ts. more (element short (codes "input") (pairs_of_box d) none) (text_before (space ∷ []) ts)))
    (opens-onto xs rest)
opens-onto (raw tag xs) rest = ap (with_raw (raw_tag tag)) (opens-onto xs rest)

joined-onto : (xs ys : Inlines) (o : Open) → open_onto (joined xs ys) o ≡ open_onto xs (open_onto ys o)
joined-onto no_inlines ys o = refl
joined-onto (letter c xs) ys o = ap (onto (text_before (c ∷ []))) (joined-onto xs ys o)
joined-onto (code s xs) ys o =
    ap (onto (element_before (codes "code") [] (text_before s none))) (joined-onto xs ys o)
joined-onto (formatted f content xs) ys o =
    ap (onto (element_before (format_name f) (pairs_of_format f) (inlines_open content none).first))
    (joined-onto xs ys o)
joined-onto (link a t content xs) ys o =
    ap (onto (element_before (codes "a") (pairs_of_link a t) (inlines_open content none).first)) (joined-onto xs ys o)
joined-onto (image a t content xs) ys o =
    ap (onto (element_before (codes "img") (pairs_of_image a t (plain_text content)) none)) (joined-onto xs ys o)
joined-onto (line_break xs) ys o =
    ap (onto (λ ts. element_before (codes "br") [] none (line_end ts))) (joined-onto xs ys o)
joined-onto (task d xs) ys o =
    ap (onto (λ ts. more (element short (codes "input") (pairs_of_box d) none) (text_before (space ∷ []) ts)))
    (joined-onto xs ys o)
joined-onto (raw tag xs) ys o = ap (with_raw (raw_tag tag)) (joined-onto xs ys o)

abbrev stack_onto : Tags → Open → Open
stack_onto (outside items) o = open_onto items o
stack_onto (inside t items below) o = stack_onto below (with_raw (raw_tag t.open_tag) (open_onto items o))

all-onto : (b : Tags) (ys : Inlines) (o : Open) → open_onto (all_seen b ys) o ≡ stack_onto b (open_onto ys o)
all-onto (outside items) ys o = joined-onto items ys o
all-onto (inside t items below) ys o =
    all-onto below (raw t.open_tag (joined items ys)) o
    ∙ ap (λ p. stack_onto below (with_raw (raw_tag t.open_tag) p)) (joined-onto items ys o)

seen-onto : (b : Tags) (x : Inlines) (o : Open) → stack_onto (with_seen b x) o ≡ stack_onto b (open_onto x o)
seen-onto (outside items) x o = joined-onto items x o
seen-onto (inside t items below) x o =
    ap (λ p. stack_onto below (with_raw (raw_tag t.open_tag) p)) (joined-onto items x o)

-- ---- what leaves nothing over opens nothing behind it

pub first-anchor : (s : List ℕ) (xs : Inlines) → left false (raw s xs) ≡ 0 → (is_anchor s ≡ true)
    × (left true xs ≡ 0)
first-anchor s xs h =
    test (is_anchor s)
    (λ a. let w = rw a at h in (a, omega (arith, w)))
    (λ a. test (is_end s)
    (λ e. let w = rw (a, e) at h in absurd (omega (arith, w)))
    (λ e. let w = rw (a, e) at h in absurd (omega (arith, w))))

pub then-end : (s : List ℕ) (xs : Inlines) → left true (raw s xs) ≡ 0
    → (is_anchor s ≡ false) × (is_end s ≡ true) × (left false xs ≡ 0)
then-end s xs h =
    test (is_anchor s)
    (λ a. let w = rw a at h in absurd (omega (arith, w)))
    (λ a. test (is_end s)
    (λ e. let w = rw (a, e) at h in (a, e, omega (arith, w)))
    (λ e. let w = rw (a, e) at h in absurd (omega (arith, w))))

balanced : (items : Inlines) (ts : SpelledForest) (behind : List Behind) → left false items ≡ 0
    → pending false items ≡ false
    → open_onto items (at ts behind) ≡ at (open_onto items (at ts [])).first behind
balanced no_inlines ts behind h p = refl
balanced (letter c xs) ts behind h p =
    ap (onto (text_before (c ∷ []))) (balanced xs ts behind (omega (arith, h)) p)
balanced (code s xs) ts behind h p =
    ap (onto (element_before (codes "code") [] (text_before s none))) (balanced xs ts behind (omega (arith, h)) p)
balanced (formatted f content xs) ts behind h p =
    ap (onto (element_before (format_name f) (pairs_of_format f) (inlines_open content none).first))
    (balanced xs ts behind (omega (arith, h)) p)
balanced (link a t content xs) ts behind h p =
    ap (onto (element_before (codes "a") (pairs_of_link a t) (inlines_open content none).first))
    (balanced xs ts behind (omega (arith, h)) p)
balanced (image a t content xs) ts behind h p =
    ap (onto (element_before (codes "img") (pairs_of_image a t (plain_text content)) none))
    (balanced xs ts behind (omega (arith, h)) p)
balanced (line_break xs) ts behind h p =
    ap (onto (λ us. element_before (codes "br") [] none (line_end us))) (balanced xs ts behind (omega (arith, h)) p)
balanced (task d xs) ts behind h p =
    ap (onto (λ us. more (element short (codes "input") (pairs_of_box d) none) (text_before (space ∷ []) us)))
    (balanced xs ts behind (omega (arith, h)) p)
balanced (raw s no_inlines) ts behind h p =
    let a = first-anchor s no_inlines h in let w : true ≡ false = sym a.0 ∙ p in absurd (cc)
balanced (raw s (letter c xs)) ts behind h p =
    let l = (first-anchor s (letter c xs) h).1 in absurd (omega (arith, l))
balanced (raw s (code t xs)) ts behind h p =
    let l = (first-anchor s (code t xs) h).1 in absurd (omega (arith, l))
balanced (raw s (formatted f content xs)) ts behind h p =
    let l = (first-anchor s (formatted f content xs) h).1 in absurd (omega (arith, l))
balanced (raw s (link a t content xs)) ts behind h p =
    let l = (first-anchor s (link a t content xs) h).1 in absurd (omega (arith, l))
balanced (raw s (image a t content xs)) ts behind h p =
    let l = (first-anchor s (image a t content xs) h).1 in absurd (omega (arith, l))
balanced (raw s (line_break xs)) ts behind h p =
    let l = (first-anchor s (line_break xs) h).1 in absurd (omega (arith, l))
balanced (raw s (task d xs)) ts behind h p =
    let l = (first-anchor s (task d xs) h).1 in absurd (omega (arith, l))
balanced (raw s (raw end ys)) ts behind h p =
    let a = first-anchor s (raw end ys) h in
    let e = then-end end ys a.1 in
    let q : pending false ys ≡ false = subst (λ b. pending b ys ≡ false) e.0 p in
    let i = balanced ys ts behind e.2 q in
    rw ((tag-of-anchor s a.0).1, tag-of-end end e.0 e.1, i) refl

-- ---- pairs

abbrev name_of : Pair → List ℕ
name_of (format_pair f) = format_name f
name_of code_pair = codes "code"

abbrev is_named : Tag → Bool
is_named t = bytes_eq t.name (name_of t.pair)

text-onto : (xs : Inlines) → is_text_alone xs ≡ true
    → (open_onto xs (at none [])).first ≡ text_before (plain_text xs) none
text-onto (letter c no_inlines) e = refl
text-onto (letter c (letter d xs)) e = ap (text_before (c ∷ [])) (text-onto (letter d xs) e)
text-onto (letter c (code s xs)) e = absurd (cc)
text-onto (letter c (formatted f content xs)) e = absurd (cc)
text-onto (letter c (link a t content xs)) e = absurd (cc)
text-onto (letter c (image a t content xs)) e = absurd (cc)
text-onto (letter c (line_break xs)) e = absurd (cc)
text-onto (letter c (task d xs)) e = absurd (cc)
text-onto (letter c (raw s xs)) e = absurd (cc)
text-onto no_inlines e = absurd (cc)
text-onto (code s xs) e = absurd (cc)
text-onto (formatted f content xs) e = absurd (cc)
text-onto (link a t content xs) e = absurd (cc)
text-onto (image a t content xs) e = absurd (cc)
text-onto (line_break xs) e = absurd (cc)
text-onto (task d xs) e = absurd (cc)
text-onto (raw s xs) e = absurd (cc)

-- what a pair is of is what its tags are of
pair-onto : (b : Tags) (t : Tag) (pair : Pair) (content xs : Inlines) (n : List ℕ) (o : Open)
    → is_anchor t.open_tag ≡ false → is_end t.open_tag ≡ false → left false content ≡ 0
    → pending false content ≡ false → Goes (with_seen b (paired t pair content)) xs
    → open_onto (paired t pair content) o
    ≡ with_raw (opening (name_of pair) (pairs_of pair)) (open_onto content (with_raw (closing n) o))
pair-onto b t (format_pair f) content xs n o a e l p g =
    let behind = record { name = n; trees = o.first } ∷ o.behind in
    ap (λ ts. onto (element_before (format_name f) (pairs_of_format f) ts) o)
    (ap (λ q. q.first) (opens-onto content none))
    ∙ sym (ap (with_raw (opening (format_name f) (pairs_of_format f))) (balanced content none behind l p))
pair-onto b t code_pair content xs n o a e l p g =
    let behind = record { name = n; trees = o.first } ∷ o.behind in
    test (is_text_alone content)
    (λ q. rw q (ap (λ ts. onto (element_before (codes "code") [] ts) o) (sym (text-onto content q))
    ∙ sym (ap (with_raw (opening (codes "code") [])) (balanced content none behind l p))))
    (λ q.
    let x = raw t.open_tag (joined content (raw (closing_tag t) no_inlines)) in
    let w : Goes (with_seen b x) xs = rw q at g in
    let k = seen-left b x in
    let m = stray (is_pending b) t.open_tag (joined content (raw (closing_tag t) no_inlines)) a e in
    let h = w.0 in
    absurd (omega (arith, k, m, h)))

named-among : (ts : List Tag) (s : List ℕ) (t : Tag) → list_all is_named ts ≡ true → role_among ts s ≡ opens t
    → is_named t ≡ true
named-among [] s t h e =
    test (is_among (codes "<br>" ∷ codes "<br/>" ∷ codes "<br />" ∷ []) s)
    (λ q. let w = rw q at e in absurd (cc)) (λ q. let w = rw q at e in absurd (cc))
named-among (u ∷ ts) s t h e =
    let p = and_parts (is_named u) (list_all is_named ts) h in
    test (bytes_eq u.open_tag s)
    (λ q. let w = rw q at e in let x : u ≡ t = cc in ap is_named (sym x) ∙ p.0)
    (λ q. test (bytes_eq (closing_tag u) s)
    (λ r. let w = rw (q, r) at e in absurd (cc))
    (λ r. let w = rw (q, r) at e in named-among ts s t p.1 w))

opening-named : (s : List ℕ) (t : Tag) → role s ≡ opens t → t.name ≡ name_of t.pair
opening-named s t e = same_bytes t.name (name_of t.pair) (by_title (abbreviation_title s) e)
  where
    by_title : (o : Option (List ℕ)) → role_by_title o s ≡ opens t → is_named t ≡ true
    by_title None e =
        test (bytes_eq (closing_tag (abbreviation [])) s)
        (λ q. let w = rw q at e in absurd (cc))
        (λ q. let w = rw q at e in named-among tags s t refl w)
    by_title (Some title) e = let x : abbreviation title ≡ t = cc in ap is_named (sym x)

-- ---- the walk

-- the tags of the stack open these elements
abbrev AreOpen : Tags → Type 0
AreOpen (outside items) = ⊤
AreOpen (inside t items below) =
    (raw_tag t.open_tag ≡ opening (name_of t.pair) (pairs_of t.pair)) × AreOpen below

seen-open : (b : Tags) (x : Inlines) → AreOpen b → AreOpen (with_seen b x)
seen-open (outside items) x h = tt
seen-open (inside t items below) x h = h

pub no-anchor : (s : List ℕ) → is_anchor s ≡ false → is_end s ≡ false → is_of_anchor s ≡ false
no-anchor s a e = rw (a, e) refl

abbrev IsSeen : SpelledForest → Tags → Inlines → Type 0
IsSeen rest b xs =
    open_onto (all_seen (seen b xs) no_inlines) (at rest []) ≡ stack_onto b (open_onto xs (at rest []))

module _ (s : List ℕ) (xs : Inlines) (rest : SpelledForest)
    (ih : (b : Tags) → AreFormats b → AreOpen b → Ends b xs → IsSeen rest b xs) where
  -- the same where a raw tag came before
  abbrev IsSeenSo : Tags → Role → Type 0
  IsSeenSo b r =
      open_onto (all_seen (seen (markup.with_raw b s r) xs) no_inlines) (at rest [])
      ≡ stack_onto b (with_raw (raw_tag s) (open_onto xs (at rest [])))

  of_opening : (b : Tags) (t : Tag) → AreFormats b → AreOpen b → is_anchor s ≡ false → is_end s ≡ false
      → role s ≡ opens t → Ends (inside t no_inlines b) xs → IsSeenSo b (opens t)
  of_opening b t f n a e r h =
      let k = opening-is s t r in
      let formats : AreFormats (inside t no_inlines b) = (ap is_anchor k ∙ a, ap is_end k ∙ e, f) in
      let opened = ap raw_tag k ∙ (tag-of-role s a e ∙ (ap (tag_by_role s) r
      ∙ ap (λ m. opening m (pairs_of t.pair)) (opening-named s t r))) in
      ih (inside t no_inlines b) formats (opened, n) h
      ∙ ap (λ z. stack_onto b (with_raw (raw_tag z) (open_onto xs (at rest [])))) k

  of_closing : (b : Tags) (t : Tag) → AreFormats b → AreOpen b → is_anchor s ≡ false → is_end s ≡ false
      → role s ≡ closes t → Ends (closed_tag t b b no_inlines) xs → IsSeenSo b (closes t)
  of_closing (outside items) t f n a e r h =
      let c = closes-so s xs (λ b g z. pairs xs b g z) t a e r in
      let x = raw (closing_tag t) no_inlines in
      let g = pairs xs (with_seen (outside items) x) tt h in
      let l = seen-left (outside items) x in
      let m = stray (pending false items) (closing_tag t) no_inlines (ap is_anchor (sym c) ∙ a)
      (ap is_end (sym c) ∙ e) in
      let z = g.0 in
      absurd (omega (arith, l, m, z))
  of_closing (inside u items below) t f n a e r h =
      test (bytes_eq u.name t.name)
      (λ q.
      let x = paired u u.pair (joined items no_inlines) in
      let w : Ends (with_seen below x) xs = rw q at h in
      let o = open_onto xs (at rest []) in
      let g = pairs xs (with_seen below x) (seen-formats below x f.2) w in
      let k = pair-none below u u.pair (joined items no_inlines) xs f.0 f.1 g in
      let none_left : left false items ≡ 0 = ap (left false) (sym (joined-nil items)) ∙ k.2 in
      let none_pending : pending false items ≡ false = ap (pending false) (sym (joined-nil items)) ∙ k.3 in
      let same = subst (λ ys. Goes (with_seen below (paired u u.pair ys)) xs) (joined-nil items) g in
      let tags : open_onto (paired u u.pair items) o
      ≡ with_raw (opening (name_of u.pair) (pairs_of u.pair)) (open_onto items (with_raw (closing t.name) o)) =
      pair-onto below u u.pair items xs t.name o f.0 f.1 none_left none_pending same in
      rw q
      (ih (with_seen below x) (seen-formats below x f.2) (seen-open below x n.1) w
      ∙ (seen-onto below x o
      ∙ (ap (λ ys. stack_onto below (open_onto (paired u u.pair ys) o)) (joined-nil items)
      ∙ (ap (stack_onto below) tags
      ∙ (ap (λ m. stack_onto below (with_raw m (open_onto items (with_raw (closing t.name) o)))) (sym n.0)
      ∙ ap (λ m. stack_onto below (with_raw (raw_tag u.open_tag) (open_onto items (with_raw m o))))
      (sym (tag-of-role s a e ∙ ap (tag_by_role s) r))))))))
      (λ q.
      let x = raw u.open_tag (joined items no_inlines) in
      let w : Ends (closed_tag t (inside u items below) below x) xs = rw q at h in
      let c = closes-so s xs (λ b g z. pairs xs b g z) t a e r in
      let g = pairs xs (closed_tag t (inside u items below) below x)
      (closed-formats t (inside u items below) below x f f.2) w in
      let m = lost t (inside u items below) below x (ap is_anchor (sym c) ∙ a) (ap is_end (sym c) ∙ e) f.2
      (λ p. stray p u.open_tag (joined items no_inlines) f.0 f.1) in
      let z = g.0 in
      absurd (omega (arith, m, z)))

  of_role : (b : Tags) (r : Role) → AreFormats b → AreOpen b → is_anchor s ≡ false → is_end s ≡ false
      → is_of_pair r ≡ true → role s ≡ r → Ends (markup.with_raw b s r) xs → IsSeenSo b r
  of_role b (opens t) f n a e p r h = of_opening b t f n a e r h
  of_role b (closes t) f n a e p r h = of_closing b t f n a e r h
  of_role b breaks f n a e p r h = absurd (cc)
  of_role b stays f n a e p r h = absurd (cc)

  of_staying : (b : Tags) (r : Role) → AreFormats b → AreOpen b → r ≡ stays → Ends (markup.with_raw b s r) xs
      → IsSeenSo b r
  of_staying b r f n e h =
      let x = raw s no_inlines in
      subst (IsSeenSo b) (sym e)
      (ih (with_seen b x) (seen-formats b x f) (seen-open b x n) (subst (λ r. Ends (markup.with_raw b s r) xs) e h)
      ∙ seen-onto b x (open_onto xs (at rest [])))

  of_tag : (b : Tags) → AreFormats b → AreOpen b → (is_of_anchor s || is_of_pair (role s)) ≡ true
      → Ends (markup.with_raw b s (role s)) xs → IsSeenSo b (role s)
  of_tag b f n p h =
      test (is_anchor s)
      (λ a. of_staying b (role s) f n (anchor-stays s a) h)
      (λ a. test (is_end s)
      (λ e. of_staying b (role s) f n (end-stays s e) h)
      (λ e. of_role b (role s) f n a e (sym (ap (λ c. c || is_of_pair (role s)) (no-anchor s a e)) ∙ p) refl h))

trees : (xs : Inlines) (rest : SpelledForest) (b : Tags) → AreFormats b → AreOpen b → has_pairs_alone xs ≡ true
    → Ends b xs → IsSeen rest b xs
trees no_inlines rest b f n p h = all-onto b no_inlines (at rest [])
trees (letter c xs) rest b f n p h =
    let x = letter c no_inlines in
    trees xs rest (with_seen b x) (seen-formats b x f)
    (seen-open b x n) p h ∙ seen-onto b x (open_onto xs (at rest []))
trees (code s xs) rest b f n p h =
    let x = code s no_inlines in
    trees xs rest (with_seen b x) (seen-formats b x f)
    (seen-open b x n) p h ∙ seen-onto b x (open_onto xs (at rest []))
trees (formatted m content xs) rest b f n p h =
    let inner = all_seen (seen (outside no_inlines) content) no_inlines in
    let x = formatted m inner no_inlines in
    let q = and_parts (has_pairs_alone content) (has_pairs_alone xs) p in
    let o = open_onto xs (at rest []) in
    let r = before b x xs (total inner) (omega arith) refl (pairs xs (with_seen b x) (seen-formats b x f) h) in
    let same = opens-onto inner none ∙ (trees content none (outside no_inlines) tt tt q.0 r.1
    ∙ sym (opens-onto content none)) in
    trees xs rest (with_seen b x) (seen-formats b x f) (seen-open b x n) q.1 h
    ∙ (seen-onto b x o
    ∙ ap (λ i. stack_onto b (onto (element_before (format_name m) (pairs_of_format m) i.first) o)) same)
trees (link a t content xs) rest b f n p h =
    let inner = all_seen (seen (outside no_inlines) content) no_inlines in
    let x = link a t inner no_inlines in
    let q = and_parts (has_pairs_alone content) (has_pairs_alone xs) p in
    let o = open_onto xs (at rest []) in
    let r = before b x xs (total inner) (omega arith) refl (pairs xs (with_seen b x) (seen-formats b x f) h) in
    let same = opens-onto inner none ∙ (trees content none (outside no_inlines) tt tt q.0 r.1
    ∙ sym (opens-onto content none)) in
    trees xs rest (with_seen b x) (seen-formats b x f) (seen-open b x n) q.1 h
    ∙ (seen-onto b x o
    ∙ ap (λ i. stack_onto b (onto (element_before (codes "a") (pairs_of_link a t) i.first) o)) same)
trees (image a t content xs) rest b f n p h =
    let x = image a t (letters (plain_text (all_seen (seen (outside no_inlines) content) no_inlines)) no_inlines)
    no_inlines in
    let q = and_parts (is_untagged content) (has_pairs_alone xs) p in
    let o = open_onto xs (at rest []) in
    trees xs rest (with_seen b x) (seen-formats b x f) (seen-open b x n) q.1 h
    ∙ (seen-onto b x o
    ∙ ap (λ s. stack_onto b (onto (element_before (codes "img") (pairs_of_image a t s) none) o))
    (description-seen content q.0))
trees (line_break xs) rest b f n p h =
    let x = line_break no_inlines in
    trees xs rest (with_seen b x) (seen-formats b x f)
    (seen-open b x n) p h ∙ seen-onto b x (open_onto xs (at rest []))
trees (task d xs) rest b f n p h =
    let x = task d no_inlines in
    trees xs rest (with_seen b x) (seen-formats b x f)
    (seen-open b x n) p h ∙ seen-onto b x (open_onto xs (at rest []))
trees (raw s xs) rest b f n p h =
    let q = and_parts (is_of_anchor s || is_of_pair (role s)) (has_pairs_alone xs) p in
    of_tag s xs rest (λ c g m e. trees xs rest c g m q.1 e) b f n q.0 h

pub seen-trees : (xs : Inlines) (rest : SpelledForest) → has_pairs_alone xs ≡ true → total (seen_inlines xs) ≡ 0
    → inlines_trees (seen_inlines xs) rest ≡ inlines_trees xs rest
seen-trees xs rest p h =
    ap (λ o. o.first) (opens-onto (seen_inlines xs) rest
    ∙ (trees xs rest (outside no_inlines) tt tt p h ∙ sym (opens-onto xs rest)))
