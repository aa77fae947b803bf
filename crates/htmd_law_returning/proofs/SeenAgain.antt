-- What is seen of a line has no raw tags left but those of anchors, and is seen as itself.
use Rattle.std.proofs.Common.{◌≡◌, ℕ, true, false, List, [], ◌∷◌, refl, sym, ap, ◌∙◌, subst, arith}
use Rattle.std.specs.Prelude.{⊤}
use Rattle.std.specs.Str.{bytes_eq}
use Rattle.std.proofs.lemmas.Bool.{and_parts, and_from}
use Rattle.htmd_lexical.proofs.Cases.{test}
use Rattle.htmd_commonmark_reading.specs.Markup.{Inlines, no_inlines, letter, code, formatted, link, image, line_break}
use Rattle.htmd_commonmark_reading.specs.Markup.{task, raw, joined, letters, plain_text}
use Rattle.htmd_commonmark_reading.specs.SeenMarkup.{Pair, format_pair, code_pair, Tag, closing_tag, Role, opens}
use Rattle.htmd_commonmark_reading.specs.SeenMarkup.{closes}
use Rattle.htmd_commonmark_reading.specs.SeenMarkup.{breaks, stays, role, Tags, outside, inside, with_seen, all_seen}
use Rattle.htmd_commonmark_reading.specs.SeenMarkup.{is_text_alone, paired, closed_tag, with_raw, seen, seen_inlines}
use Rattle.htmd_law_inlines.specs.PlainReadings.{is_untagged}
use Rattle.htmd_law_rendering.proofs.PairedLemmas.{left, pending, total, none-broken, joined-nil}
use Rattle.htmd_law_rendering.proofs.PairedLemmas.{anchor-stays, end-stays}
use Rattle.htmd_law_returning.proofs.RawReadings.{has_no_raw}
use Rattle.htmd_law_returning.proofs.SeenTrees.{first-anchor, then-end}
use Rattle.htmd_law_returning.proofs.TreesLemmas.{one-seen, plain-letters, joined-assoc, untagged-raw, anchor-first}

-- text alone in the descriptions of images
abbrev IsViewed : Inlines → Type 0
IsViewed no_inlines = ⊤
IsViewed (letter c xs) = IsViewed xs
IsViewed (code s xs) = IsViewed xs
IsViewed (formatted f content xs) = IsViewed content × IsViewed xs
IsViewed (link a t content xs) = IsViewed content × IsViewed xs
IsViewed (image a t content xs) = (content ≡ letters (plain_text content) no_inlines) × IsViewed xs
IsViewed (line_break xs) = IsViewed xs
IsViewed (task d xs) = IsViewed xs
IsViewed (raw s xs) = IsViewed xs

abbrev AreViewed : Tags → Type 0
AreViewed (outside items) = IsViewed items
AreViewed (inside t items below) = IsViewed items × AreViewed below

joined-viewed : (xs ys : Inlines) → IsViewed xs → IsViewed ys → IsViewed (joined xs ys)
joined-viewed no_inlines ys h k = k
joined-viewed (letter c xs) ys h k = joined-viewed xs ys h k
joined-viewed (code s xs) ys h k = joined-viewed xs ys h k
joined-viewed (formatted f content xs) ys h k = (h.0, joined-viewed xs ys h.1 k)
joined-viewed (link a t content xs) ys h k = (h.0, joined-viewed xs ys h.1 k)
joined-viewed (image a t content xs) ys h k = (h.0, joined-viewed xs ys h.1 k)
joined-viewed (line_break xs) ys h k = joined-viewed xs ys h k
joined-viewed (task d xs) ys h k = joined-viewed xs ys h k
joined-viewed (raw s xs) ys h k = joined-viewed xs ys h k

letters-viewed : (s : List ℕ) → IsViewed (letters s no_inlines)
letters-viewed [] = tt
letters-viewed (c ∷ s) = letters-viewed s

letters-raw : (s : List ℕ) → is_untagged (letters s no_inlines) ≡ true
letters-raw [] = refl
letters-raw (c ∷ s) = letters-raw s

seen-viewed : (b : Tags) (x : Inlines) → AreViewed b → IsViewed x → AreViewed (with_seen b x)
seen-viewed (outside items) x h k = joined-viewed items x h k
seen-viewed (inside t items below) x h k = (joined-viewed items x h.0 k, h.1)

all-viewed : (b : Tags) (ys : Inlines) → AreViewed b → IsViewed ys → IsViewed (all_seen b ys)
all-viewed (outside items) ys h k = joined-viewed items ys h k
all-viewed (inside t items below) ys h k =
    all-viewed below (raw t.open_tag (joined items ys)) h.1 (joined-viewed items ys h.0 k)

pair-viewed : (t : Tag) (pair : Pair) (content : Inlines) → IsViewed content → IsViewed (paired t pair content)
pair-viewed t (format_pair f) content h = (h, tt)
pair-viewed t code_pair content h =
    test (is_text_alone content) (λ q. rw q tt)
    (λ q. rw q (joined-viewed content (raw (closing_tag t) no_inlines) h tt))

closed-viewed : (t : Tag) (whole b : Tags) (content : Inlines) → AreViewed whole → AreViewed b → IsViewed content
    → AreViewed (closed_tag t whole b content)
closed-viewed t whole (outside items) content w h k = seen-viewed whole (raw (closing_tag t) no_inlines) w tt
closed-viewed t whole (inside u items below) content w h k =
    let all = joined-viewed items content h.0 k in
    test (bytes_eq u.name t.name)
    (λ q. rw q (seen-viewed below (paired u u.pair (joined items content)) h.1
    (pair-viewed u u.pair (joined items content) all)))
    (λ q. rw q (closed-viewed t whole below (raw u.open_tag (joined items content)) w h.1 all))

raw-viewed : (b : Tags) (s : List ℕ) (r : Role) → AreViewed b → AreViewed (with_raw b s r)
raw-viewed b s (opens t) h = (tt, h)
raw-viewed b s (closes t) h = closed-viewed t b b no_inlines h h tt
raw-viewed b s breaks h = seen-viewed b (line_break no_inlines) h tt
raw-viewed b s stays h = seen-viewed b (raw s no_inlines) h tt

viewed : (xs : Inlines) (b : Tags) → AreViewed b → AreViewed (seen b xs)
viewed no_inlines b h = h
viewed (letter c xs) b h = let x = letter c no_inlines in viewed xs (with_seen b x) (seen-viewed b x h tt)
viewed (code s xs) b h = let x = code s no_inlines in viewed xs (with_seen b x) (seen-viewed b x h tt)
viewed (formatted f content xs) b h =
    let inner = seen (outside no_inlines) content in
    let x = formatted f (all_seen inner no_inlines) no_inlines in
    viewed xs (with_seen b x)
    (seen-viewed b x h (all-viewed inner no_inlines (viewed content (outside no_inlines) tt) tt, tt))
viewed (link a t content xs) b h =
    let inner = seen (outside no_inlines) content in
    let x = link a t (all_seen inner no_inlines) no_inlines in
    viewed xs (with_seen b x)
    (seen-viewed b x h (all-viewed inner no_inlines (viewed content (outside no_inlines) tt) tt, tt))
viewed (image a t content xs) b h =
    let s = plain_text (all_seen (seen (outside no_inlines) content) no_inlines) in
    let x = image a t (letters s no_inlines) no_inlines in
    viewed xs (with_seen b x) (seen-viewed b x h (sym (ap (λ u. letters u no_inlines) (plain-letters s)), tt))
viewed (line_break xs) b h =
    let x = line_break no_inlines in viewed xs (with_seen b x) (seen-viewed b x h tt)
viewed (task d xs) b h = let x = task d no_inlines in viewed xs (with_seen b x) (seen-viewed b x h tt)
viewed (raw s xs) b h = viewed xs (with_raw b s (role s)) (raw-viewed b s (role s) h)

-- where nothing is left over, its raw tags are those of anchors
no-raw : (ys : Inlines) → IsViewed ys → left false ys ≡ 0 → pending false ys ≡ false
    → has_no_raw ys ≡ true
no-raw no_inlines v h p = refl
no-raw (letter c xs) v h p = no-raw xs v (omega (arith, h)) p
no-raw (code s xs) v h p = no-raw xs v (omega (arith, h)) p
no-raw (formatted f content xs) v h p =
    and_from (has_no_raw content) (has_no_raw xs)
    (no-raw content v.0 (omega (arith, h)) (none-broken (pending false content) (omega (arith, h))))
    (no-raw xs v.1 (omega (arith, h)) p)
no-raw (link a t content xs) v h p =
    and_from (has_no_raw content) (has_no_raw xs)
    (no-raw content v.0 (omega (arith, h)) (none-broken (pending false content) (omega (arith, h))))
    (no-raw xs v.1 (omega (arith, h)) p)
no-raw (image a t content xs) v h p =
    and_from (is_untagged content) (has_no_raw xs) (ap is_untagged v.0 ∙ letters-raw (plain_text content))
    (no-raw xs v.1 (omega (arith, h)) p)
no-raw (line_break xs) v h p = no-raw xs v (omega (arith, h)) p
no-raw (task d xs) v h p = no-raw xs v (omega (arith, h)) p
no-raw (raw s no_inlines) v h p =
    let a = first-anchor s no_inlines h in let w : true ≡ false = sym a.0 ∙ p in absurd (cc)
no-raw (raw s (letter c xs)) v h p = let l = (first-anchor s (letter c xs) h).1 in absurd (omega (arith, l))
no-raw (raw s (code t xs)) v h p = let l = (first-anchor s (code t xs) h).1 in absurd (omega (arith, l))
no-raw (raw s (formatted f content xs)) v h p =
    let l = (first-anchor s (formatted f content xs) h).1 in absurd (omega (arith, l))
no-raw (raw s (link a t content xs)) v h p =
    let l = (first-anchor s (link a t content xs) h).1 in absurd (omega (arith, l))
no-raw (raw s (image a t content xs)) v h p =
    let l = (first-anchor s (image a t content xs) h).1 in absurd (omega (arith, l))
no-raw (raw s (line_break xs)) v h p = let l = (first-anchor s (line_break xs) h).1 in absurd (omega (arith, l))
no-raw (raw s (task d xs)) v h p = let l = (first-anchor s (task d xs) h).1 in absurd (omega (arith, l))
no-raw (raw s (raw end ys)) v h p =
    let a = first-anchor s (raw end ys) h in
    let e = then-end end ys a.1 in
    let q : pending false ys ≡ false = subst (λ b. pending b ys ≡ false) e.0 p in
    rw (a.0, e.1) (no-raw ys v e.2 q)

-- ---- what is seen is seen as itself

finished : (xs : Inlines) → seen (outside no_inlines) xs ≡ outside (joined no_inlines xs)
    → all_seen (seen (outside no_inlines) xs) no_inlines ≡ xs
finished xs h = ap (λ t. all_seen t no_inlines) h ∙ joined-nil xs

again : (items ys : Inlines) → has_no_raw ys ≡ true → IsViewed ys
    → seen (outside items) ys ≡ outside (joined items ys)
again items no_inlines h v = ap outside (sym (joined-nil items))
again items (letter c xs) h v =
    one-seen items (letter c no_inlines) xs xs (again (joined items (letter c no_inlines)) xs h v)
again items (code s xs) h v =
    one-seen items (code s no_inlines) xs xs (again (joined items (code s no_inlines)) xs h v)
again items (formatted f content xs) h v =
    let p = and_parts (has_no_raw content) (has_no_raw xs) h in
    ap (λ c. seen (outside (joined items (formatted f c no_inlines))) xs)
    (finished content (again no_inlines content p.0 v.0))
    ∙ one-seen items (formatted f content no_inlines) xs xs
    (again (joined items (formatted f content no_inlines)) xs p.1 v.1)
again items (link a t content xs) h v =
    let p = and_parts (has_no_raw content) (has_no_raw xs) h in
    ap (λ c. seen (outside (joined items (link a t c no_inlines))) xs)
    (finished content (again no_inlines content p.0 v.0))
    ∙ one-seen items (link a t content no_inlines) xs xs
    (again (joined items (link a t content no_inlines)) xs p.1 v.1)
again items (image a t content xs) h v =
    let p = and_parts (is_untagged content) (has_no_raw xs) h in
    let inner = subst IsViewed (sym v.0) (letters-viewed (plain_text content)) in
    ap (λ c. seen (outside (joined items (image a t (letters (plain_text c) no_inlines) no_inlines))) xs)
    (finished content (again no_inlines content (untagged-raw content p.0) inner))
    ∙ (ap (λ c. seen (outside (joined items (image a t c no_inlines))) xs) (sym v.0)
    ∙ one-seen items (image a t content no_inlines) xs xs
    (again (joined items (image a t content no_inlines)) xs p.1 v.1))
again items (line_break xs) h v =
    one-seen items (line_break no_inlines) xs xs (again (joined items (line_break no_inlines)) xs h v)
again items (task d xs) h v =
    one-seen items (task d no_inlines) xs xs (again (joined items (task d no_inlines)) xs h v)
again items (raw tag (raw end xs)) h v =
    let k = anchor-first tag end xs h in
    let one : Inlines = raw tag no_inlines in
    let two : Inlines = raw end no_inlines in
    rw (anchor-stays tag k.starts, end-stays end k.ends)
    (one-seen (joined items one) two xs xs (again (joined (joined items one) two) xs k.rest v)
    ∙ ap outside (joined-assoc items one (joined two xs)))
again items (raw tag no_inlines) h v = absurd (cc)
again items (raw tag (letter c xs)) h v = absurd (cc)
again items (raw tag (code s xs)) h v = absurd (cc)
again items (raw tag (formatted f content xs)) h v = absurd (cc)
again items (raw tag (link a t content xs)) h v = absurd (cc)
again items (raw tag (image a t content xs)) h v = absurd (cc)
again items (raw tag (line_break xs)) h v = absurd (cc)
again items (raw tag (task d xs)) h v = absurd (cc)

pub seen-again : (xs : Inlines) → total (seen_inlines xs) ≡ 0
    → (has_no_raw (seen_inlines xs) ≡ true) × (seen_inlines (seen_inlines xs) ≡ seen_inlines xs)
seen-again xs h =
    let v = all-viewed (seen (outside no_inlines) xs) no_inlines (viewed xs (outside no_inlines) tt) tt in
    let r = no-raw (seen_inlines xs) v (omega (arith, h)) (none-broken (pending false (seen_inlines xs))
    (omega (arith, h))) in
    (r, finished (seen_inlines xs) (again no_inlines (seen_inlines xs) r v))
