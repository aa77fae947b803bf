-- Where a document is seen, raw tags pair: what is left over of them is counted.
use Rattle.std.proofs.Common.{◌≡◌, ℕ, ◌+◌, ◌≤◌, Bool, true, false, List, [], ◌∷◌, refl, sym, ap, ◌∙◌, codes}
use Rattle.std.proofs.Common.{Option, Some, None, drop, subst, arith}
use Rattle.std.specs.Prelude.{⊤}
use Rattle.std.specs.Str.{bytes_eq}
use Rattle.htmd_lexical.proofs.BytesLemmas.{same_bytes, bytes_same}
use Rattle.htmd_lexical.specs.AttributePairs.{AttributePair}
use Rattle.htmd_lexical.proofs.Cases.{test}
use Rattle.htmd_lexical.specs.CharacterClasses.{is_among}
use Rattle.htmd_document.specs.Documents as document
use Rattle.htmd_document.specs.Tags.{end_of_anchor, anchor_tag, abbreviation_tag}
use Rattle.htmd_commonmark_reading.specs.Anchors.{value, anchor_id, abbreviation_title}
use Rattle.htmd_commonmark_reading.specs.Markup.{Inlines, no_inlines, letter, code, formatted, link, image, line_break}
use Rattle.htmd_commonmark_reading.specs.Markup.{task, raw, joined, letters, plain_text}
use Rattle.htmd_commonmark_reading.specs.SeenMarkup.{Pair, format_pair, code_pair, Tag, tags, closing_tag, abbreviation}
use Rattle.htmd_commonmark_reading.specs.SeenMarkup.{Role, opens, closes, breaks, stays, role_among, role_by_title}
use Rattle.htmd_commonmark_reading.specs.SeenMarkup.{role}
use Rattle.htmd_commonmark_reading.specs.SeenMarkup.{Tags, outside, inside, with_seen, all_seen, is_text_alone, paired}
use Rattle.htmd_commonmark_reading.specs.SeenMarkup.{closed_tag, with_raw, seen, seen_inlines, with_first, with_letter}
use Rattle.htmd_commonmark_reading.specs.SeenMarkup.{with_content, with_anchor, document_inlines}
use Rattle.htmd_law_rendering.specs.RawTags.{opening, closing, pair, tag_by_role, tag_by_id, raw_tag}
use Rattle.htmd_law_rendering.specs.PlainReadings.{unopened, are_paired}
use Rattle.htmd_law_rendering.proofs.RawLemmas.{IsRaw, raw-is}

-- ---- what is left over

abbrev is_some : Option (List ℕ) → Bool
is_some None = false
is_some (Some s) = true

abbrev pub is_anchor : List ℕ → Bool
is_anchor s = is_some (anchor_id s)

abbrev pub is_end : List ℕ → Bool
is_end s = bytes_eq s end_of_anchor

abbrev pub broken : Bool → ℕ
broken true = 1
broken false = 0

-- of a raw tag, by whether the tag of an anchor is right before it: an anchor's two tags stand side by side
abbrev of_raw : Bool → Bool → Bool → ℕ
of_raw before true end = broken before
of_raw true false true = 0
of_raw false false true = 1
of_raw before false false = 1

-- whether the tag of an anchor comes last
abbrev pub pending : Bool → Inlines → Bool
pending p no_inlines = p
pending p (letter c xs) = pending false xs
pending p (code s xs) = pending false xs
pending p (formatted f content xs) = pending false xs
pending p (link a t content xs) = pending false xs
pending p (image a t content xs) = pending false xs
pending p (line_break xs) = pending false xs
pending p (task d xs) = pending false xs
pending p (raw s xs) = pending (is_anchor s) xs

-- how much is left over so far
abbrev pub left : Bool → Inlines → ℕ
left p no_inlines = 0
left p (letter c xs) = broken p + left false xs
left p (code s xs) = broken p + left false xs
left p (formatted f content xs) = broken p + (left false content + broken (pending false content)) + left false xs
left p (link a t content xs) = broken p + (left false content + broken (pending false content)) + left false xs
left p (image a t content xs) = broken p + left false xs
left p (line_break xs) = broken p + left false xs
left p (task d xs) = broken p + left false xs
left p (raw s xs) = of_raw p (is_anchor s) (is_end s) + left (is_anchor s) xs

-- and in all
abbrev pub total : Inlines → ℕ
total xs = left false xs + broken (pending false xs)

pub none-broken : (b : Bool) → broken b ≡ 0 → b ≡ false
none-broken true e = absurd (omega arith)
none-broken false e = refl

-- ---- a document has nothing left over

letter-some : (c : ℕ) (o : Option document.Inlines) (d : document.Inlines) → with_letter c o ≡ Some d
    → (e : document.Inlines) × (o ≡ Some e)
letter-some c None d e = absurd (cc)
letter-some c (Some xs) d e = (xs, refl)

first-some : (x : document.Inline) (o : Option document.Inlines) (d : document.Inlines) → with_first x o ≡ Some d
    → (e : document.Inlines) × (o ≡ Some e)
first-some x None d e = absurd (cc)
first-some x (Some xs) d e = (xs, refl)

content-some : (make : document.Inlines → document.Inline) (content rest : Option document.Inlines)
    (d : document.Inlines) → with_content make content rest ≡ Some d
    → (c e : document.Inlines) × (content ≡ Some c) × (rest ≡ Some e)
content-some make None rest d e = absurd (cc)
content-some make (Some c) rest d e = let r = first-some (make c) rest d e in (c, r.0, refl, r.1)

anchor-some : (o : Option (List ℕ)) (end : List ℕ) (xs : Option document.Inlines) (d : document.Inlines)
    → with_anchor o end xs ≡ Some d
    → (is_some o ≡ true) × (is_end end ≡ true) × (e : document.Inlines) × (xs ≡ Some e)
anchor-some None end xs d e = absurd (cc)
anchor-some (Some id) end xs d e =
    test (bytes_eq end end_of_anchor)
    (λ t. let w = rw t at e in let r = first-some (document.anchor id) xs d w in (refl, t, r.0, r.1))
    (λ t. let w = rw t at e in absurd (cc))

end-is-no-anchor : (s : List ℕ) → is_end s ≡ true → is_anchor s ≡ false
end-is-no-anchor s e = ap is_anchor (same_bytes s end_of_anchor e)

pub nothing-left : (xs : Inlines) (d : document.Inlines) → document_inlines xs ≡ Some d → total xs ≡ 0
nothing-left no_inlines d e = refl
nothing-left (letter c xs) d e =
    let r = letter-some c (document_inlines xs) d e in
    let i = nothing-left xs r.0 r.1 in omega (arith, i)
nothing-left (code s xs) d e =
    let r = first-some (document.code s) (document_inlines xs) d e in
    let i = nothing-left xs r.0 r.1 in omega (arith, i)
nothing-left (formatted f content xs) d e =
    let r = content-some (document.formatted f) (document_inlines content) (document_inlines xs) d e in
    let i = nothing-left content r.0 r.2 in
    let j = nothing-left xs r.1 r.3 in
    omega (arith, i, j)
nothing-left (link a t content xs) d e =
    let r = content-some (document.link a t) (document_inlines content) (document_inlines xs) d e in
    let i = nothing-left content r.0 r.2 in
    let j = nothing-left xs r.1 r.3 in
    omega (arith, i, j)
nothing-left (image a t content xs) d e =
    let r = first-some (document.image a t (plain_text content)) (document_inlines xs) d e in
    let i = nothing-left xs r.0 r.1 in omega (arith, i)
nothing-left (line_break xs) d e =
    let r = first-some document.line_break (document_inlines xs) d e in
    let i = nothing-left xs r.0 r.1 in omega (arith, i)
nothing-left (task b xs) d e =
    let r = first-some (document.task b) (with_letter 32 (document_inlines xs)) d e in
    let q = letter-some 32 (document_inlines xs) r.0 r.1 in
    let i = nothing-left xs q.0 q.1 in
    omega (arith, i)
nothing-left (raw s no_inlines) d e = absurd (cc)
nothing-left (raw s (letter c xs)) d e = absurd (cc)
nothing-left (raw s (code t xs)) d e = absurd (cc)
nothing-left (raw s (formatted f content xs)) d e = absurd (cc)
nothing-left (raw s (link a t content xs)) d e = absurd (cc)
nothing-left (raw s (image a t content xs)) d e = absurd (cc)
nothing-left (raw s (line_break xs)) d e = absurd (cc)
nothing-left (raw s (task b xs)) d e = absurd (cc)
nothing-left (raw s (raw end xs)) d e =
    let r = anchor-some (anchor_id s) end (document_inlines xs) d e in
    let no = end-is-no-anchor end r.1 in
    let i = nothing-left xs r.2 r.3 in
    rw (r.0, no, r.1) (omega (arith, i))

-- ---- inlines after others

pub joined-nil : (xs : Inlines) → joined xs no_inlines ≡ xs
joined-nil no_inlines = refl
joined-nil (letter c xs) = ap (letter c) (joined-nil xs)
joined-nil (code s xs) = ap (code s) (joined-nil xs)
joined-nil (formatted f content xs) = ap (formatted f content) (joined-nil xs)
joined-nil (link a t content xs) = ap (link a t content) (joined-nil xs)
joined-nil (image a t content xs) = ap (image a t content) (joined-nil xs)
joined-nil (line_break xs) = ap line_break (joined-nil xs)
joined-nil (task d xs) = ap (task d) (joined-nil xs)
joined-nil (raw s xs) = ap (raw s) (joined-nil xs)

pending-joined : (p : Bool) (xs ys : Inlines) → pending p (joined xs ys) ≡ pending (pending p xs) ys
pending-joined p no_inlines ys = refl
pending-joined p (letter c xs) ys = pending-joined false xs ys
pending-joined p (code s xs) ys = pending-joined false xs ys
pending-joined p (formatted f content xs) ys = pending-joined false xs ys
pending-joined p (link a t content xs) ys = pending-joined false xs ys
pending-joined p (image a t content xs) ys = pending-joined false xs ys
pending-joined p (line_break xs) ys = pending-joined false xs ys
pending-joined p (task d xs) ys = pending-joined false xs ys
pending-joined p (raw s xs) ys = pending-joined (is_anchor s) xs ys

left-joined : (p : Bool) (xs ys : Inlines) → left p (joined xs ys) ≡ left p xs + left (pending p xs) ys
left-joined p no_inlines ys = omega arith
left-joined p (letter c xs) ys = let i = left-joined false xs ys in omega (arith, i)
left-joined p (code s xs) ys = let i = left-joined false xs ys in omega (arith, i)
left-joined p (formatted f content xs) ys = let i = left-joined false xs ys in omega (arith, i)
left-joined p (link a t content xs) ys = let i = left-joined false xs ys in omega (arith, i)
left-joined p (image a t content xs) ys = let i = left-joined false xs ys in omega (arith, i)
left-joined p (line_break xs) ys = let i = left-joined false xs ys in omega (arith, i)
left-joined p (task d xs) ys = let i = left-joined false xs ys in omega (arith, i)
left-joined p (raw s xs) ys = let i = left-joined (is_anchor s) xs ys in omega (arith, i)

-- a tag that is neither of an anchor is left over
pub stray : (p : Bool) (s : List ℕ) (xs : Inlines) → is_anchor s ≡ false → is_end s ≡ false
    → 1 ≤ left p (raw s xs)
stray true s xs a e = rw (a, e) (omega arith)
stray false s xs a e = rw (a, e) (omega arith)

-- ---- the stack

abbrev pub is_pending : Tags → Bool
is_pending (outside items) = pending false items
is_pending (inside t items below) = pending false items

-- what is left over in the stack so far
abbrev pub left_in : Tags → ℕ
left_in (outside items) = left false items
left_in (inside t items below) = left false items + (broken (is_pending below) + left_in below)

abbrev pub with_pending : Bool → List (List ℕ) → List (List ℕ)
with_pending true ns = codes "a" ∷ ns
with_pending false ns = ns

-- the names of the elements that are open
abbrev pub base : Tags → List (List ℕ)
base (outside items) = []
base (inside t items below) = t.name ∷ with_pending (is_pending below) (base below)

abbrev pub names : Tags → List (List ℕ)
names b = with_pending (is_pending b) (base b)

-- the tags in the stack are none of anchors
abbrev pub AreFormats : Tags → Type 0
AreFormats (outside items) = ⊤
AreFormats (inside t items below) =
    (is_anchor t.open_tag ≡ false) × (is_end t.open_tag ≡ false) × AreFormats below

pub seen-formats : (b : Tags) (xs : Inlines) → AreFormats b → AreFormats (with_seen b xs)
seen-formats (outside items) xs f = tt
seen-formats (inside t items below) xs f = f

pub seen-left : (b : Tags) (xs : Inlines) → left_in (with_seen b xs) ≡ left_in b + left (is_pending b) xs
seen-left (outside items) xs = left-joined false items xs
seen-left (inside t items below) xs = let i = left-joined false items xs in omega (arith, i)

pub seen-pending : (b : Tags) (xs : Inlines) → is_pending (with_seen b xs) ≡ pending (is_pending b) xs
seen-pending (outside items) xs = pending-joined false items xs
seen-pending (inside t items below) xs = pending-joined false items xs

pub seen-base : (b : Tags) (xs : Inlines) → base (with_seen b xs) ≡ base b
seen-base (outside items) xs = refl
seen-base (inside t items below) xs = refl

-- what is known of a stack and what comes behind it, if nothing is left over in the end
abbrev pub Goes : Tags → Inlines → Type 0
Goes b xs = (left_in b ≡ 0) × (unopened xs ≡ Some (names b))

-- before one inline that is no tag, in which so much is left over
pub before : (b : Tags) (x xs : Inlines) (k : ℕ) → left (is_pending b) x ≡ broken (is_pending b) + k
    → pending (is_pending b) x ≡ false → Goes (with_seen b x) xs
    → (left_in b ≡ 0) × (k ≡ 0) × (unopened xs ≡ Some (names b))
before b x xs k e f g =
    let l = seen-left b x in
    let h = g.0 in
    let no : is_pending b ≡ false = none-broken (is_pending b) (omega (arith, l, e, h)) in (
      omega (arith, l, e, h),
      omega (arith, l, e, h),
      g.1 ∙ ap Some (ap (λ p. with_pending p (base (with_seen b x))) (seen-pending b x ∙ f)
          ∙ (seen-base b x ∙ ap (λ p. with_pending p (base b)) (sym no))),
    )

-- ---- closing tags

-- a text alone has nothing left over
alone : (xs : Inlines) → is_text_alone xs ≡ true → (left false xs ≡ 0) × (pending false xs ≡ false)
alone (letter c no_inlines) e = (omega arith, refl)
alone (letter c (letter d xs)) e = let i = alone (letter d xs) e in (omega (arith, i.0), i.1)
alone (letter c (code s xs)) e = absurd (cc)
alone (letter c (formatted f content xs)) e = absurd (cc)
alone (letter c (link a t content xs)) e = absurd (cc)
alone (letter c (image a t content xs)) e = absurd (cc)
alone (letter c (line_break xs)) e = absurd (cc)
alone (letter c (task d xs)) e = absurd (cc)
alone (letter c (raw s xs)) e = absurd (cc)
alone no_inlines e = absurd (cc)
alone (code s xs) e = absurd (cc)
alone (formatted f content xs) e = absurd (cc)
alone (link a t content xs) e = absurd (cc)
alone (image a t content xs) e = absurd (cc)
alone (line_break xs) e = absurd (cc)
alone (task d xs) e = absurd (cc)
alone (raw s xs) e = absurd (cc)

-- where the tags of an element stand around what has something left over, so has the pair
pair-left : (p : Bool) (t : Tag) (pair : Pair) (content : Inlines) → is_anchor t.open_tag ≡ false
    → is_end t.open_tag ≡ false → 1 ≤ left false content → 1 ≤ left p (paired t pair content)
pair-left p t (format_pair f) content a e l = omega (arith, l)
pair-left p t code_pair content a e l =
    test (is_text_alone content)
    (λ q. let n = (alone content q).0 in absurd (omega (arith, n, l)))
    (λ q. rw q (stray p t.open_tag (joined content (raw (closing_tag t) no_inlines)) a e))

after-more : (items content : Inlines) → ((p : Bool) → 1 ≤ left p content)
    → 1 ≤ left false (joined items content)
after-more items content l =
    let j = left-joined false items content in let m = l (pending false items) in omega (arith, j, m)

-- a closing tag that doesn't close the last open element leaves something over
pub lost : (t : Tag) (whole b : Tags) (content : Inlines) → is_anchor (closing_tag t) ≡ false
    → is_end (closing_tag t) ≡ false → AreFormats b → ((p : Bool) → 1 ≤ left p content)
    → 1 ≤ left_in (closed_tag t whole b content)
lost t whole (outside items) content a e f l =
    let s = seen-left whole (raw (closing_tag t) no_inlines) in
    let m = stray (is_pending whole) (closing_tag t) no_inlines a e in omega (arith, s, m)
lost t whole (inside u items below) content a e f l =
    test (bytes_eq u.name t.name)
    (λ q.
    let s = seen-left below (paired u u.pair (joined items content)) in
    let m = pair-left (is_pending below) u u.pair (joined items content) f.0 f.1 (after-more items content l) in
    rw q (omega (arith, s, m)))
    (λ q. rw q (lost t whole below (raw u.open_tag (joined items content)) a e f.2
    (λ p. stray p u.open_tag (joined items content) f.0 f.1)))

pub closed-formats : (t : Tag) (whole b : Tags) (content : Inlines) → AreFormats whole → AreFormats b
    → AreFormats (closed_tag t whole b content)
closed-formats t whole (outside items) content w f = seen-formats whole (raw (closing_tag t) no_inlines) w
closed-formats t whole (inside u items below) content w f =
    test (bytes_eq u.name t.name)
    (λ q. rw q (seen-formats below (paired u u.pair (joined items content)) f.2))
    (λ q. rw q (closed-formats t whole below (raw u.open_tag (joined items content)) w f.2))

-- what a pair leaves over, and that it ends no anchor
pub pair-none : (b : Tags) (t : Tag) (pair : Pair) (content xs : Inlines) → is_anchor t.open_tag ≡ false
    → is_end t.open_tag ≡ false → Goes (with_seen b (paired t pair content)) xs
    → (left_in b ≡ 0) × (is_pending b ≡ false) × (left false content ≡ 0) × (pending false content ≡ false)
    × (unopened xs ≡ Some (names b))
pair-none b t (format_pair f) content xs a e g =
    let r = before b (formatted f content no_inlines) xs (left false content + broken (pending false content))
    (omega arith) refl g in
    let l = seen-left b (formatted f content no_inlines) in
    let h = g.0 in
    let k = r.1 in (
      r.0,
      none-broken (is_pending b) (omega (arith, l, h)),
      omega (arith, k),
      none-broken (pending false content) (omega (arith, k)),
      r.2,
    )
pair-none b t code_pair content xs a e g =
    test (is_text_alone content)
    (λ q.
    let w : Goes (with_seen b (code (plain_text content) no_inlines)) xs = rw q at g in
    let r = before b (code (plain_text content) no_inlines) xs 0 (omega arith) refl w in
    let l = seen-left b (code (plain_text content) no_inlines) in
    let h = w.0 in
    let n = alone content q in
    (r.0, none-broken (is_pending b) (omega (arith, l, h)), n.0, n.1, r.2))
    (λ q.
    let w : Goes (with_seen b (raw t.open_tag (joined content (raw (closing_tag t) no_inlines)))) xs = rw q at g in
    let l = seen-left b (raw t.open_tag (joined content (raw (closing_tag t) no_inlines))) in
    let m = stray (is_pending b) t.open_tag (joined content (raw (closing_tag t) no_inlines)) a e in
    let h = w.0 in
    absurd (omega (arith, l, m, h)))

-- ---- roles

-- an opening tag is spelled so
opening-among : (ts : List Tag) (s : List ℕ) (t : Tag) → role_among ts s ≡ opens t → t.open_tag ≡ s
opening-among [] s t e =
    test (is_among (codes "<br>" ∷ codes "<br/>" ∷ codes "<br />" ∷ []) s)
    (λ q. let w = rw q at e in absurd (cc)) (λ q. let w = rw q at e in absurd (cc))
opening-among (u ∷ ts) s t e =
    test (bytes_eq u.open_tag s)
    (λ q. let w = rw q at e in let x : u ≡ t = cc in ap (λ v. v.open_tag) (sym x) ∙ same_bytes u.open_tag s q)
    (λ q. test (bytes_eq (closing_tag u) s)
    (λ r. let w = rw (q, r) at e in absurd (cc))
    (λ r. let w = rw (q, r) at e in opening-among ts s t w))

opening-by : (o : Option (List ℕ)) (s : List ℕ) (t : Tag) → abbreviation_title s ≡ o
    → role_by_title o s ≡ opens t → t.open_tag ≡ s
opening-by None s t o e =
    test (bytes_eq (closing_tag (abbreviation [])) s)
    (λ q. let w = rw q at e in absurd (cc))
    (λ q. let w = rw q at e in opening-among tags s t w)
opening-by (Some title) s t o e =
    let x : abbreviation title ≡ t = cc in
    ap (λ v. v.open_tag) (sym x) ∙ found
  where
    found : abbreviation_tag title ≡ s
    found = test (bytes_eq (abbreviation_tag (value (drop 13 s))) s)
        (λ q. let w = rw q at o in let y : value (drop 13 s) ≡ title = cc in
        subst (λ v. abbreviation_tag v ≡ s) y (same_bytes (abbreviation_tag (value (drop 13 s))) s q))
        (λ q. let w = rw q at o in absurd (cc))

pub opening-is : (s : List ℕ) (t : Tag) → role s ≡ opens t → t.open_tag ≡ s
opening-is s t e = opening-by (abbreviation_title s) s t refl e

-- the tags of anchors are none of formats
pub anchor-stays : (s : List ℕ) → is_anchor s ≡ true → role s ≡ stays
anchor-stays s e =
    test (bytes_eq (anchor_tag (value (drop 7 s))) s)
    (λ q. subst (λ v. role v ≡ stays) (same_bytes (anchor_tag (value (drop 7 s))) s q) refl)
    (λ q. let w = rw q at e in absurd (cc))

pub end-stays : (s : List ℕ) → is_end s ≡ true → role s ≡ stays
end-stays s e = ap role (same_bytes s end_of_anchor e)

pub tag-of-anchor : (s : List ℕ) → is_anchor s ≡ true
    → (attributes : List AttributePair) × (raw_tag s ≡ opening (codes "a") attributes)
tag-of-anchor s e = by_id (anchor_id s) e
  where
    by_id : (o : Option (List ℕ)) → is_some o ≡ true
        → (attributes : List AttributePair) × (tag_by_id o s ≡ opening (codes "a") attributes)
    by_id None e = absurd (cc)
    by_id (Some id) e = (pair (codes "id") id ∷ [], refl)

pub tag-of-end : (s : List ℕ) → is_anchor s ≡ false → is_end s ≡ true → raw_tag s ≡ closing (codes "a")
tag-of-end s a e = by_id (anchor_id s) a
  where
    by_id : (o : Option (List ℕ)) → is_some o ≡ false → tag_by_id o s ≡ closing (codes "a")
    by_id None a = rw e refl
    by_id (Some id) a = absurd (cc)

pub tag-of-role : (s : List ℕ) → is_anchor s ≡ false → is_end s ≡ false
    → raw_tag s ≡ tag_by_role s (role s)
tag-of-role s a e = by_id (anchor_id s) a
  where
    by_id : (o : Option (List ℕ)) → is_some o ≡ false → tag_by_id o s ≡ tag_by_role s (role s)
    by_id None a = rw e refl
    by_id (Some id) a = absurd (cc)

-- ---- what is seen has nothing left over only if tags pair

pub never-closed : (b : Tags) (s : List ℕ) (xs : Inlines) → AreFormats b → is_anchor s ≡ false
    → is_end s ≡ false → total (all_seen b (raw s xs)) ≡ 0 → ⊥
never-closed (outside items) s xs f a e h =
    let j = left-joined false items (raw s xs) in
    let m = stray (pending false items) s xs a e in
    absurd (omega (arith, j, m, h))
never-closed (inside u items below) s xs f a e h =
    never-closed below u.open_tag (joined items (raw s xs)) f.2 f.0 f.1 h

abbrev pub Ends : Tags → Inlines → Type 0
Ends b xs = total (all_seen (seen b xs) no_inlines) ≡ 0

module _ (s : List ℕ) (xs : Inlines) (ih : (b : Tags) → AreFormats b → Ends b xs → Goes b xs) where
  of_anchor : (b : Tags) → AreFormats b → is_anchor s ≡ true → Ends (with_seen b (raw s no_inlines)) xs
      → Goes b (raw s xs)
  of_anchor b f a h =
      let g = ih (with_seen b (raw s no_inlines)) (seen-formats b (raw s no_inlines) f) h in
      let l = seen-left b (raw s no_inlines) in
      let k : of_raw (is_pending b) (is_anchor s) (is_end s) ≡ broken (is_pending b) = rw a refl in
      let z = g.0 in
      let no : is_pending b ≡ false = none-broken (is_pending b) (omega (arith, l, k, z)) in
      let left : unopened xs ≡ Some (codes "a" ∷ base b) =
      g.1 ∙ ap Some (ap (λ p. with_pending p (base (with_seen b (raw s no_inlines))))
      (seen-pending b (raw s no_inlines) ∙ a) ∙ ap (λ ns. codes "a" ∷ ns) (seen-base b (raw s no_inlines))) in
      (omega (arith, l, k, z), rw ((tag-of-anchor s a).1, left, no) refl)

  of_end : (b : Tags) → AreFormats b → is_anchor s ≡ false → is_end s ≡ true
      → Ends (with_seen b (raw s no_inlines)) xs → Goes b (raw s xs)
  of_end b f a e h =
      let g = ih (with_seen b (raw s no_inlines)) (seen-formats b (raw s no_inlines) f) h in
      let l = seen-left b (raw s no_inlines) in
      let z = g.0 in
      let left : unopened xs ≡ Some (base b) =
      g.1 ∙ ap Some (ap (λ p. with_pending p (base (with_seen b (raw s no_inlines))))
      (seen-pending b (raw s no_inlines) ∙ a) ∙ seen-base b (raw s no_inlines)) in
      test (is_pending b)
      (λ p. let k : of_raw (is_pending b) (is_anchor s) (is_end s) ≡ 0 = rw (p, a, e) refl in
      (omega (arith, l, k, z), rw (tag-of-end s a e, left, p) refl))
      (λ p. let k : of_raw (is_pending b) (is_anchor s) (is_end s) ≡ 1 = rw (p, a, e) refl in
      absurd (omega (arith, l, k, z)))

  of_opening : (b : Tags) (t : Tag) → AreFormats b → is_anchor s ≡ false → is_end s ≡ false
      → role s ≡ opens t → Ends (inside t no_inlines b) xs → Goes b (raw s xs)
  of_opening b t f a e r h =
      let o = opening-is s t r in
      let g = ih (inside t no_inlines b) (ap is_anchor o ∙ a, ap is_end o ∙ e, f) h in
      let z = g.0 in
      (omega (arith, z), rw (tag-of-role s a e, r, g.1, bytes_same t.name) refl)

  pub closes-so : (t : Tag) → is_anchor s ≡ false → is_end s ≡ false → role s ≡ closes t
      → s ≡ closing_tag t
  closes-so t a e r =
      let k : IsRaw s (closing t.name) =
      subst (IsRaw s) (tag-of-role s a e ∙ ap (tag_by_role s) r) (raw-is s) in k.0

  of_closing : (b : Tags) (t : Tag) → AreFormats b → is_anchor s ≡ false → is_end s ≡ false
      → role s ≡ closes t → Ends (closed_tag t b b no_inlines) xs → Goes b (raw s xs)
  of_closing (outside items) t f a e r h =
      let c = closes-so t a e r in
      let x = raw (closing_tag t) no_inlines in
      let g = ih (with_seen (outside items) x) tt h in
      let l = seen-left (outside items) x in
      let m = stray (pending false items) (closing_tag t) no_inlines (ap is_anchor (sym c) ∙ a)
      (ap is_end (sym c) ∙ e) in
      let z = g.0 in
      absurd (omega (arith, l, m, z))
  of_closing (inside u items below) t f a e r h =
      let c = closes-so t a e r in
      let a' = ap is_anchor (sym c) ∙ a in
      let e' = ap is_end (sym c) ∙ e in
      test (bytes_eq u.name t.name)
      (λ q.
      let w : Ends (with_seen below (paired u u.pair (joined items no_inlines))) xs = rw q at h in
      let x = paired u u.pair (joined items no_inlines) in
      let g = ih (with_seen below x) (seen-formats below x f.2) w in
      let k = pair-none below u u.pair (joined items no_inlines) xs f.0 f.1 g in
      let n : left false items ≡ 0 = ap (left false) (sym (joined-nil items)) ∙ k.2 in
      let p : pending false items ≡ false = ap (pending false) (sym (joined-nil items)) ∙ k.3 in
      let z : broken (is_pending below) ≡ 0 = ap broken k.1 in
      let y = k.0 in (
        omega (arith, n, z, y),
        rw (tag-of-role s a e, r, k.4, p) (ap (λ m. Some (m ∷ names below)) (sym (same_bytes u.name t.name q))),
      ))
      (λ q.
      let w : Ends (closed_tag t (inside u items below) below (raw u.open_tag (joined items no_inlines))) xs =
      rw q at h in
      let x = raw u.open_tag (joined items no_inlines) in
      let g = ih (closed_tag t (inside u items below) below x)
      (closed-formats t (inside u items below) below x f f.2) w in
      let m = lost t (inside u items below) below x a' e' f.2
      (λ p. stray p u.open_tag (joined items no_inlines) f.0 f.1) in
      let z = g.0 in
      absurd (omega (arith, m, z)))

  of_role : (b : Tags) (r : Role) → AreFormats b → is_anchor s ≡ false → is_end s ≡ false → role s ≡ r
      → Ends (with_raw b s r) xs → Goes b (raw s xs)
  of_role b (opens t) f a e r h = of_opening b t f a e r h
  of_role b (closes t) f a e r h = of_closing b t f a e r h
  of_role b breaks f a e r h =
      let x = line_break no_inlines in
      let g = ih (with_seen b x) (seen-formats b x f) h in
      let k = before b x xs 0 (omega arith) refl g in
      (k.0, rw (tag-of-role s a e, r, k.2) refl)
  of_role b stays f a e r h =
      let x = raw s no_inlines in
      let g = ih (with_seen b x) (seen-formats b x f) h in
      let l = seen-left b x in
      let m = stray (is_pending b) s no_inlines a e in
      let z = g.0 in
      absurd (omega (arith, l, m, z))

  of_tag : (b : Tags) → AreFormats b → Ends (with_raw b s (role s)) xs → Goes b (raw s xs)
  of_tag b f h =
      test (is_anchor s)
      (λ a. of_anchor b f a (subst (λ r. Ends (with_raw b s r) xs) (anchor-stays s a) h))
      (λ a. test (is_end s)
      (λ e. of_end b f a e (subst (λ r. Ends (with_raw b s r) xs) (end-stays s e) h))
      (λ e. of_role b (role s) f a e refl h))

pub pairs : (xs : Inlines) (b : Tags) → AreFormats b → Ends b xs → Goes b xs
pairs no_inlines (outside items) f h =
    let w : total items ≡ 0 = subst (λ ys. total ys ≡ 0) (joined-nil items) h in
    let no = none-broken (pending false items) (omega (arith, w)) in
    (omega (arith, w), rw no refl)
pairs no_inlines (inside t items below) f h =
    absurd (never-closed below t.open_tag (joined items no_inlines) f.2 f.0 f.1 h)
pairs (letter c xs) b f h =
    let x = letter c no_inlines in
    let k = before b x xs 0 (omega arith) refl (pairs xs (with_seen b x) (seen-formats b x f) h) in (k.0, k.2)
pairs (code s xs) b f h =
    let x = code s no_inlines in
    let k = before b x xs 0 (omega arith) refl (pairs xs (with_seen b x) (seen-formats b x f) h) in (k.0, k.2)
pairs (formatted g content xs) b f h =
    let inner = all_seen (seen (outside no_inlines) content) no_inlines in
    let x = formatted g inner no_inlines in
    let k = before b x xs (total inner) (omega arith) refl (pairs xs (with_seen b x) (seen-formats b x f) h) in
    let i = pairs content (outside no_inlines) tt k.1 in
    (k.0, rw (i.1, k.2) refl)
pairs (link a t content xs) b f h =
    let inner = all_seen (seen (outside no_inlines) content) no_inlines in
    let x = link a t inner no_inlines in
    let k = before b x xs (total inner) (omega arith) refl (pairs xs (with_seen b x) (seen-formats b x f) h) in
    let i = pairs content (outside no_inlines) tt k.1 in
    (k.0, rw (i.1, k.2) refl)
pairs (image a t content xs) b f h =
    let x = image a t (letters (plain_text (all_seen (seen (outside no_inlines) content) no_inlines)) no_inlines)
    no_inlines in
    let k = before b x xs 0 (omega arith) refl (pairs xs (with_seen b x) (seen-formats b x f) h) in (k.0, k.2)
pairs (line_break xs) b f h =
    let x = line_break no_inlines in
    let k = before b x xs 0 (omega arith) refl (pairs xs (with_seen b x) (seen-formats b x f) h) in (k.0, k.2)
pairs (task d xs) b f h =
    let x = task d no_inlines in
    let k = before b x xs 0 (omega arith) refl (pairs xs (with_seen b x) (seen-formats b x f) h) in (k.0, k.2)
pairs (raw s xs) b f h = of_tag s xs (λ c g e. pairs xs c g e) b f h

pub inlines-pair : (xs : Inlines) → total (seen_inlines xs) ≡ 0 → are_paired xs ≡ true
inlines-pair xs h = let g = pairs xs (outside no_inlines) tt h in rw g.1 refl

pub document-pairs : (xs : Inlines) (d : document.Inlines) → document_inlines (seen_inlines xs) ≡ Some d
    → are_paired xs ≡ true
document-pairs xs d e = inlines-pair xs (nothing-left (seen_inlines xs) d e)
