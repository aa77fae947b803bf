-- Where no link and no anchor stands in a link of what is seen, none does in what is read.
use Rattle.std.proofs.Common.{◌≡◌, ℕ, ◌+◌, Bool, true, false, not, ◌&&◌, List, [], ◌∷◌, refl, sym, ap, ◌∙◌, codes}
use Rattle.std.proofs.Common.{Option, Some, None, subst, arith}
use Rattle.std.specs.List.{list_all}
use Rattle.std.specs.Prelude.{⊤, ◌||◌}
use Rattle.std.specs.Str.{bytes_eq}
use Rattle.std.proofs.Math.Bool.{or-false}
use Rattle.std.proofs.lemmas.Bool.{and_parts, and_from, not-true}
use Rattle.htmd_lexical.proofs.Cases.{test}
use Rattle.htmd_lexical.specs.CharacterClasses.{is_among}
use Rattle.htmd_grammar.specs.Nesting.{is_open}
use Rattle.htmd_commonmark_reading.specs.Anchors.{abbreviation_title}
use Rattle.htmd_commonmark_reading.specs.Markup.{Inlines, no_inlines, letter, code, formatted, link, image, line_break}
use Rattle.htmd_commonmark_reading.specs.Markup.{task, raw, joined, letters, plain_text}
use Rattle.htmd_commonmark_reading.specs.SeenMarkup.{Pair, format_pair, code_pair, Tag, tags, closing_tag, abbreviation}
use Rattle.htmd_commonmark_reading.specs.SeenMarkup.{Role, opens, closes, breaks, stays, role_among, role_by_title, role}
use Rattle.htmd_commonmark_reading.specs.SeenMarkup.{Tags, outside, inside, with_seen, all_seen, is_text_alone, paired}
use Rattle.htmd_commonmark_reading.specs.SeenMarkup.{closed_tag, with_raw, seen, seen_inlines}
use Rattle.htmd_law_rendering.specs.RawTags.{raw_tag}
use Rattle.htmd_law_rendering.specs.PlainReadings.{unopened, in_anchor, raw_is_strict, are_strict}
use Rattle.htmd_law_rendering.proofs.PairedLemmas.{is_anchor, is_end, broken, pending, left, total, is_pending, left_in, with_pending, base}
use Rattle.htmd_law_rendering.proofs.PairedLemmas.{AreFormats, Goes, Ends, none-broken, joined-nil, stray, seen-formats}
use Rattle.htmd_law_rendering.proofs.PairedLemmas.{seen-left, seen-pending, seen-base, before, lost, closed-formats}
use Rattle.htmd_law_rendering.proofs.PairedLemmas.{opening-is, anchor-stays, end-stays, tag-of-anchor, tag-of-end}
use Rattle.htmd_law_rendering.proofs.PairedLemmas.{tag-of-role, closes-so, pairs}

-- no link and no anchor stands in a link
abbrev pub are_unlinked : Bool → Inlines → Bool
are_unlinked k no_inlines = true
are_unlinked k (letter c xs) = are_unlinked k xs
are_unlinked k (code s xs) = are_unlinked k xs
are_unlinked k (formatted f content xs) = are_unlinked k content && are_unlinked k xs
are_unlinked k (link a t content xs) = (not k && are_unlinked true content) && are_unlinked k xs
are_unlinked k (image a t content xs) = are_unlinked k xs
are_unlinked k (line_break xs) = are_unlinked k xs
are_unlinked k (task d xs) = are_unlinked k xs
are_unlinked k (raw s xs) = not (k && is_anchor s) && are_unlinked k xs

abbrev stack_is_unlinked : Bool → Tags → Bool
stack_is_unlinked k (outside items) = are_unlinked k items
stack_is_unlinked k (inside t items below) = are_unlinked k items && stack_is_unlinked k below

joined-parts : (k : Bool) (xs ys : Inlines) → are_unlinked k (joined xs ys) ≡ true
    → (are_unlinked k xs ≡ true) × (are_unlinked k ys ≡ true)
joined-parts k no_inlines ys e = (refl, e)
joined-parts k (letter c xs) ys e = joined-parts k xs ys e
joined-parts k (code s xs) ys e = joined-parts k xs ys e
joined-parts k (formatted f content xs) ys e =
    let p = and_parts (are_unlinked k content) (are_unlinked k (joined xs ys)) e in
    let i = joined-parts k xs ys p.1 in
    (and_from (are_unlinked k content) (are_unlinked k xs) p.0 i.0, i.1)
joined-parts k (link a t content xs) ys e =
    let p = and_parts (not k && are_unlinked true content) (are_unlinked k (joined xs ys)) e in
    let i = joined-parts k xs ys p.1 in
    (and_from (not k && are_unlinked true content) (are_unlinked k xs) p.0 i.0, i.1)
joined-parts k (image a t content xs) ys e = joined-parts k xs ys e
joined-parts k (line_break xs) ys e = joined-parts k xs ys e
joined-parts k (task d xs) ys e = joined-parts k xs ys e
joined-parts k (raw s xs) ys e =
    let p = and_parts (not (k && is_anchor s)) (are_unlinked k (joined xs ys)) e in
    let i = joined-parts k xs ys p.1 in
    (and_from (not (k && is_anchor s)) (are_unlinked k xs) p.0 i.0, i.1)

seen-parts : (k : Bool) (b : Tags) (x : Inlines) → stack_is_unlinked k (with_seen b x) ≡ true
    → (stack_is_unlinked k b ≡ true) × (are_unlinked k x ≡ true)
seen-parts k (outside items) x e = joined-parts k items x e
seen-parts k (inside t items below) x e =
    let p = and_parts (are_unlinked k (joined items x)) (stack_is_unlinked k below) e in
    let i = joined-parts k items x p.0 in
    (and_from (are_unlinked k items) (stack_is_unlinked k below) i.0 p.1, i.1)

text-unlinked : (k : Bool) (xs : Inlines) → is_text_alone xs ≡ true → are_unlinked k xs ≡ true
text-unlinked k (letter c no_inlines) e = refl
text-unlinked k (letter c (letter d xs)) e = text-unlinked k (letter d xs) e
text-unlinked k (letter c (code s xs)) e = absurd (cc)
text-unlinked k (letter c (formatted f content xs)) e = absurd (cc)
text-unlinked k (letter c (link a t content xs)) e = absurd (cc)
text-unlinked k (letter c (image a t content xs)) e = absurd (cc)
text-unlinked k (letter c (line_break xs)) e = absurd (cc)
text-unlinked k (letter c (task d xs)) e = absurd (cc)
text-unlinked k (letter c (raw s xs)) e = absurd (cc)
text-unlinked k no_inlines e = absurd (cc)
text-unlinked k (code s xs) e = absurd (cc)
text-unlinked k (formatted f content xs) e = absurd (cc)
text-unlinked k (link a t content xs) e = absurd (cc)
text-unlinked k (image a t content xs) e = absurd (cc)
text-unlinked k (line_break xs) e = absurd (cc)
text-unlinked k (task d xs) e = absurd (cc)
text-unlinked k (raw s xs) e = absurd (cc)

pair-unlinked : (k : Bool) (t : Tag) (pair : Pair) (content : Inlines)
    → are_unlinked k (paired t pair content) ≡ true → are_unlinked k content ≡ true
pair-unlinked k t (format_pair f) content e = (and_parts (are_unlinked k content) true e).0
pair-unlinked k t code_pair content e =
    test (is_text_alone content) (λ q. text-unlinked k content q)
    (λ q. let w = rw q at e in
    let p = and_parts (not (k && is_anchor t.open_tag))
    (are_unlinked k (joined content (raw (closing_tag t) no_inlines))) w in
    (joined-parts k content (raw (closing_tag t) no_inlines) p.1).0)

-- ---- names

not-a : (ts : List Tag) (s : List ℕ) (t : Tag) → list_all (λ u. not (bytes_eq u.name (codes "a"))) ts ≡ true
    → role_among ts s ≡ opens t → bytes_eq t.name (codes "a") ≡ false
not-a [] s t h e =
    test (is_among (codes "<br>" ∷ codes "<br/>" ∷ codes "<br />" ∷ []) s)
    (λ q. let w = rw q at e in absurd (cc)) (λ q. let w = rw q at e in absurd (cc))
not-a (u ∷ ts) s t h e =
    let p = and_parts (not (bytes_eq u.name (codes "a"))) (list_all (λ v. not (bytes_eq v.name (codes "a"))) ts) h in
    test (bytes_eq u.open_tag s)
    (λ q. let w = rw q at e in let x : u ≡ t = cc in
    ap (λ v. bytes_eq v.name (codes "a")) (sym x) ∙ not-true (bytes_eq u.name (codes "a")) p.0)
    (λ q. test (bytes_eq (closing_tag u) s)
    (λ r. let w = rw (q, r) at e in absurd (cc))
    (λ r. let w = rw (q, r) at e in not-a ts s t p.1 w))

opening-name : (s : List ℕ) (t : Tag) → role s ≡ opens t → bytes_eq t.name (codes "a") ≡ false
opening-name s t e = by_title (abbreviation_title s) e
  where
    by_title : (o : Option (List ℕ)) → role_by_title o s ≡ opens t → bytes_eq t.name (codes "a") ≡ false
    by_title None e =
        test (bytes_eq (closing_tag (abbreviation [])) s)
        (λ q. let w = rw q at e in absurd (cc))
        (λ q. let w = rw q at e in not-a tags s t refl w)
    by_title (Some title) e = let x : abbreviation title ≡ t = cc in ap (λ v. bytes_eq v.name (codes "a")) (sym x)

abbrev HasNoA : Tags → Type 0
HasNoA (outside items) = ⊤
HasNoA (inside t items below) = (bytes_eq t.name (codes "a") ≡ false) × HasNoA below

seen-no_a : (b : Tags) (x : Inlines) → HasNoA b → HasNoA (with_seen b x)
seen-no_a (outside items) x h = tt
seen-no_a (inside t items below) x h = h

closed-no_a : (t : Tag) (whole b : Tags) (content : Inlines) → HasNoA whole → HasNoA b
    → HasNoA (closed_tag t whole b content)
closed-no_a t whole (outside items) content w h = seen-no_a whole (raw (closing_tag t) no_inlines) w
closed-no_a t whole (inside u items below) content w h =
    test (bytes_eq u.name t.name)
    (λ q. rw q (seen-no_a below (paired u u.pair (joined items content)) h.1))
    (λ q. rw q (closed-no_a t whole below (raw u.open_tag (joined items content)) w h.1))

-- nothing left over, so no anchor is open
base-closed : (b : Tags) → HasNoA b → left_in b ≡ 0 → is_open (codes "a" ∷ []) (base b) ≡ false
base-closed (outside items) h e = refl
base-closed (inside t items below) h e =
    let no : is_pending below ≡ false = none-broken (is_pending below) (omega (arith, e)) in
    rw (h.0, no) (base-closed below h.1 (omega (arith, e)))

-- ---- what is seen is strict only if what is read is

all-parts : (k : Bool) (b : Tags) (ys : Inlines) → are_unlinked k (all_seen b ys) ≡ true
    → (stack_is_unlinked k b ≡ true) × (are_unlinked k ys ≡ true)
all-parts k (outside items) ys e = joined-parts k items ys e
all-parts k (inside t items below) ys e =
    let i = all-parts k below (raw t.open_tag (joined items ys)) e in
    let p = and_parts (not (k && is_anchor t.open_tag)) (are_unlinked k (joined items ys)) i.1 in
    let j = joined-parts k items ys p.1 in
    (and_from (are_unlinked k items) (stack_is_unlinked k below) j.0 i.0, j.1)

-- nothing is left over in the end, and no link stands in a link
abbrev EndsStrict : Bool → Tags → Inlines → Type 0
EndsStrict k b xs = Ends b xs × (are_unlinked k (all_seen (seen b xs) no_inlines) ≡ true)

abbrev IsStrict : Bool → Tags → Inlines → Type 0
IsStrict k b xs = (stack_is_unlinked k b ≡ true) × (are_strict k xs ≡ true)

-- before an element no anchor is open
no-anchor : (b : Tags) (x xs : Inlines) (m : ℕ) → HasNoA b → left (is_pending b) x ≡ broken (is_pending b) + m
    → pending (is_pending b) x ≡ false → Goes (with_seen b x) xs → in_anchor (unopened xs) ≡ false
no-anchor b x xs m h e f g =
    let r = before b x xs m e f g in
    let l = seen-left b x in
    let z = g.0 in
    let no : is_pending b ≡ false = none-broken (is_pending b) (omega (arith, l, e, z)) in
    ap in_anchor r.2 ∙ (ap (λ p. is_open (codes "a" ∷ []) (with_pending p (base b))) no ∙ base-closed b h r.0)

not-both : (k : Bool) (s : List ℕ) → is_anchor s ≡ true → are_unlinked k (raw s no_inlines) ≡ true
    → k ≡ false
not-both true s a e = let w = rw a at e in absurd (cc)
not-both false s a e = refl

module _ (k : Bool) (s : List ℕ) (xs : Inlines)
    (ih : (b : Tags) → AreFormats b → HasNoA b → EndsStrict k b xs → IsStrict k b xs) where
  of_anchor : (b : Tags) → AreFormats b → HasNoA b → is_anchor s ≡ true
      → EndsStrict k (with_seen b (raw s no_inlines)) xs → IsStrict k b (raw s xs)
  of_anchor b f n a h =
      let x = raw s no_inlines in
      let i = ih (with_seen b x) (seen-formats b x f) (seen-no_a b x n) h in
      let p = seen-parts k b x i.0 in
      let g = pairs xs (with_seen b x) (seen-formats b x f) h.0 in
      let l = seen-left b x in
      let z = g.0 in
      let left : unopened xs ≡ Some (codes "a" ∷ base b) =
      g.1 ∙ ap Some (ap (λ q. with_pending q (base (with_seen b x))) (seen-pending b x ∙ a)
      ∙ ap (λ ns. codes "a" ∷ ns) (seen-base b x)) in (
        p.0,
        and_from (raw_is_strict k (raw_tag s) (unopened xs)) (are_strict k xs)
            (rw ((tag-of-anchor s a).1, left, not-both k s a p.1, base-closed b n (omega (arith, l, z))) refl) i.1,
      )

  of_end : (b : Tags) → AreFormats b → HasNoA b → is_anchor s ≡ false → is_end s ≡ true
      → EndsStrict k (with_seen b (raw s no_inlines)) xs → IsStrict k b (raw s xs)
  of_end b f n a e h =
      let x = raw s no_inlines in
      let i = ih (with_seen b x) (seen-formats b x f) (seen-no_a b x n) h in (
        (seen-parts k b x i.0).0,
        and_from (raw_is_strict k (raw_tag s) (unopened xs)) (are_strict k xs) (rw (tag-of-end s a e) refl) i.1,
      )

  of_opening : (b : Tags) (t : Tag) → AreFormats b → HasNoA b → is_anchor s ≡ false → is_end s ≡ false
      → role s ≡ opens t → EndsStrict k (inside t no_inlines b) xs → IsStrict k b (raw s xs)
  of_opening b t f n a e r h =
      let o = opening-is s t r in
      let name = opening-name s t r in
      let i = ih (inside t no_inlines b) (ap is_anchor o ∙ a, ap is_end o ∙ e, f) (name, n) h in (
        i.0,
        and_from (raw_is_strict k (raw_tag s) (unopened xs)) (are_strict k xs)
            (rw (tag-of-role s a e, r, name) refl) i.1,
      )

  of_closing : (b : Tags) (t : Tag) → AreFormats b → HasNoA b → is_anchor s ≡ false → is_end s ≡ false
      → role s ≡ closes t → EndsStrict k (closed_tag t b b no_inlines) xs → IsStrict k b (raw s xs)
  of_closing (outside items) t f n a e r h =
      let x = raw (closing_tag t) no_inlines in
      let i = ih (with_seen (outside items) x) tt tt h in (
        (seen-parts k (outside items) x i.0).0,
        and_from (raw_is_strict k (raw_tag s) (unopened xs)) (are_strict k xs) (rw (tag-of-role s a e, r) refl) i.1,
      )
  of_closing (inside u items below) t f n a e r h =
      test (bytes_eq u.name t.name)
      (λ q.
      let w : EndsStrict k (with_seen below (paired u u.pair (joined items no_inlines))) xs = rw q at h in
      let x = paired u u.pair (joined items no_inlines) in
      let i = ih (with_seen below x) (seen-formats below x f.2) (seen-no_a below x n.1) w in
      let p = seen-parts k below x i.0 in
      let y = subst (λ ys. are_unlinked k ys ≡ true) (joined-nil items)
      (pair-unlinked k u u.pair (joined items no_inlines) p.1) in (
        and_from (are_unlinked k items) (stack_is_unlinked k below) y p.0,
        and_from (raw_is_strict k (raw_tag s) (unopened xs)) (are_strict k xs) (rw (tag-of-role s a e, r) refl) i.1,
      ))
      (λ q.
      let x = raw u.open_tag (joined items no_inlines) in
      let w : EndsStrict k (closed_tag t (inside u items below) below x) xs = rw q at h in
      let c = closes-so s xs (λ b g z. pairs xs b g z) t a e r in
      let g = pairs xs (closed_tag t (inside u items below) below x)
      (closed-formats t (inside u items below) below x f f.2) w.0 in
      let m = lost t (inside u items below) below x (ap is_anchor (sym c) ∙ a) (ap is_end (sym c) ∙ e) f.2
      (λ p. stray p u.open_tag (joined items no_inlines) f.0 f.1) in
      let z = g.0 in
      absurd (omega (arith, m, z)))

  of_role : (b : Tags) (r : Role) → AreFormats b → HasNoA b → is_anchor s ≡ false → is_end s ≡ false
      → role s ≡ r → EndsStrict k (with_raw b s r) xs → IsStrict k b (raw s xs)
  of_role b (opens t) f n a e r h = of_opening b t f n a e r h
  of_role b (closes t) f n a e r h = of_closing b t f n a e r h
  of_role b breaks f n a e r h =
      let x = line_break no_inlines in
      let i = ih (with_seen b x) (seen-formats b x f) (seen-no_a b x n) h in (
        (seen-parts k b x i.0).0,
        and_from (raw_is_strict k (raw_tag s) (unopened xs)) (are_strict k xs) (rw (tag-of-role s a e, r) refl) i.1,
      )
  of_role b stays f n a e r h =
      let x = raw s no_inlines in
      let i = ih (with_seen b x) (seen-formats b x f) (seen-no_a b x n) h in (
        (seen-parts k b x i.0).0,
        and_from (raw_is_strict k (raw_tag s) (unopened xs)) (are_strict k xs) (rw (tag-of-role s a e, r) refl) i.1,
      )

  of_tag : (b : Tags) → AreFormats b → HasNoA b → EndsStrict k (with_raw b s (role s)) xs
      → IsStrict k b (raw s xs)
  of_tag b f n h =
      test (is_anchor s)
      (λ a. of_anchor b f n a (subst (λ r. EndsStrict k (with_raw b s r) xs) (anchor-stays s a) h))
      (λ a. test (is_end s)
      (λ e. of_end b f n a e (subst (λ r. EndsStrict k (with_raw b s r) xs) (end-stays s e) h))
      (λ e. of_role b (role s) f n a e refl h))

strict : (k : Bool) (xs : Inlines) (b : Tags) → AreFormats b → HasNoA b → EndsStrict k b xs → IsStrict k b xs
strict k no_inlines b f n h = ((all-parts k b no_inlines h.1).0, refl)
strict k (letter c xs) b f n h =
    let x = letter c no_inlines in
    let i = strict k xs (with_seen b x) (seen-formats b x f) (seen-no_a b x n) h in ((seen-parts k b x i.0).0, i.1)
strict k (code s xs) b f n h =
    let x = code s no_inlines in
    let i = strict k xs (with_seen b x) (seen-formats b x f) (seen-no_a b x n) h in ((seen-parts k b x i.0).0, i.1)
strict k (formatted g content xs) b f n h =
    let inner = all_seen (seen (outside no_inlines) content) no_inlines in
    let x = formatted g inner no_inlines in
    let i = strict k xs (with_seen b x) (seen-formats b x f) (seen-no_a b x n) h in
    let p = seen-parts k b x i.0 in
    let q = and_parts (are_unlinked k inner) true p.1 in
    let goes = pairs xs (with_seen b x) (seen-formats b x f) h.0 in
    let r = before b x xs (total inner) (omega arith) refl goes in
    let j = strict k content (outside no_inlines) tt tt (r.1, q.0) in
    let no = no-anchor b x xs (total inner) n (omega arith) refl goes in (
      p.0,
      and_from (are_strict (k || in_anchor (unopened xs)) content) (are_strict k xs)
          (subst (λ a. are_strict (k || a) content ≡ true) (sym no) (subst (λ a. are_strict a content ≡ true)
          (sym (or-false k)) j.1)) i.1,
    )
strict k (link a t content xs) b f n h =
    let inner = all_seen (seen (outside no_inlines) content) no_inlines in
    let x = link a t inner no_inlines in
    let i = strict k xs (with_seen b x) (seen-formats b x f) (seen-no_a b x n) h in
    let p = seen-parts k b x i.0 in
    let q = and_parts (not k && are_unlinked true inner) true p.1 in
    let v = and_parts (not k) (are_unlinked true inner) q.0 in
    let goes = pairs xs (with_seen b x) (seen-formats b x f) h.0 in
    let r = before b x xs (total inner) (omega arith) refl goes in
    let j = strict true content (outside no_inlines) tt tt (r.1, v.1) in
    let no = no-anchor b x xs (total inner) n (omega arith) refl goes in (
      p.0,
      and_from (not (k || in_anchor (unopened xs)) && are_strict true content) (are_strict k xs)
          (and_from (not (k || in_anchor (unopened xs))) (are_strict true content)
          (subst (λ a. not (k || a) ≡ true) (sym no) (subst (λ a. not a ≡ true) (sym (or-false k)) v.0)) j.1) i.1,
    )
strict k (image a t content xs) b f n h =
    let x = image a t (letters (plain_text (all_seen (seen (outside no_inlines) content) no_inlines)) no_inlines)
    no_inlines in
    let i = strict k xs (with_seen b x) (seen-formats b x f) (seen-no_a b x n) h in ((seen-parts k b x i.0).0, i.1)
strict k (line_break xs) b f n h =
    let x = line_break no_inlines in
    let i = strict k xs (with_seen b x) (seen-formats b x f) (seen-no_a b x n) h in ((seen-parts k b x i.0).0, i.1)
strict k (task d xs) b f n h =
    let x = task d no_inlines in
    let i = strict k xs (with_seen b x) (seen-formats b x f) (seen-no_a b x n) h in ((seen-parts k b x i.0).0, i.1)
strict k (raw s xs) b f n h = of_tag k s xs (λ c g m e. strict k xs c g m e) b f n h

pub inlines-strict : (xs : Inlines) → total (seen_inlines xs) ≡ 0 → are_unlinked false (seen_inlines xs) ≡ true
    → are_strict false xs ≡ true
inlines-strict xs t u = (strict false xs (outside no_inlines) tt tt (t, u)).1
