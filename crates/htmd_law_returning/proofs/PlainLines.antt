-- Where one sees a document, all raw tags are those of formats, code, anchors and breaks, but for those in descriptions
-- of images.
use Rattle.std.proofs.Common.{◌≡◌, ℕ, Bool, true, false, not, ◌&&◌, ◌||◌, List, [], ◌∷◌, refl}
use Rattle.std.proofs.Common.{sym, ap}
use Rattle.std.proofs.Common.{◌∙◌, Option, Some, None}
use Rattle.std.specs.List.{list_all}
use Rattle.std.specs.Str.{bytes_eq}
use Rattle.std.proofs.lemmas.Bool.{and_parts, and_from}
use Rattle.htmd_lexical.proofs.Cases.{test}
use Rattle.htmd_document.specs.Documents as document
use Rattle.htmd_commonmark_reading.specs.Anchors.{anchor_id, abbreviation_title}
use Rattle.htmd_commonmark_reading.specs.Markup.{Inlines, no_inlines, letter, code, formatted, link, image, line_break}
use Rattle.htmd_commonmark_reading.specs.Markup.{task, raw, joined, letters, plain_text, Block, paragraph, heading}
use Rattle.htmd_commonmark_reading.specs.Markup.{code_block, quote, thematic_break, list, table, html_block, Blocks}
use Rattle.htmd_commonmark_reading.specs.Markup.{no_blocks, block, Items, no_items, item}
use Rattle.htmd_commonmark_reading.specs.SeenMarkup.{Pair, format_pair, code_pair, Tag, tags, closing_tag, abbreviation}
use Rattle.htmd_commonmark_reading.specs.SeenMarkup.{role_among, role_by_title, Role, opens, closes}
use Rattle.htmd_commonmark_reading.specs.SeenMarkup.{breaks, stays, role, Tags, outside, inside, with_seen, all_seen}
use Rattle.htmd_commonmark_reading.specs.SeenMarkup.{is_text_alone, paired, closed_tag, with_raw, seen, seen_inlines}
use Rattle.htmd_commonmark_reading.specs.SeenMarkup.{seen_row, seen_rows, has_none, has_no_cell, filled_front}
use Rattle.htmd_commonmark_reading.specs.SeenMarkup.{without_empty_end, seen_block, seen_blocks, seen_items, with_first}
use Rattle.htmd_commonmark_reading.specs.SeenMarkup.{with_letter, with_content, with_anchor, document_inlines}
use Rattle.htmd_commonmark_reading.specs.SeenMarkup.{document_row, document_rows, document_block, document_blocks}
use Rattle.htmd_commonmark_reading.specs.SeenMarkup.{document_items}
use Rattle.htmd_law_rendering.proofs.PairedLemmas.{is_anchor, is_end}
use Rattle.htmd_law_rendering.proofs.PairedBlocks.{both-some, one-some, two-some, no-cells}
use Rattle.htmd_law_inlines.specs.PlainReadings.{is_untagged, is_break_tag, is_read_plainly}
use Rattle.htmd_law_returning.specs.PlainImages.{block_has_plain_images, blocks_have_plain_images}
use Rattle.htmd_law_returning.specs.PlainImages.{items_have_plain_images}
use Rattle.htmd_law_returning.proofs.PairReadings.{is_of_pair, is_of_anchor, has_pairs_alone, cells_have_pairs_alone}
use Rattle.htmd_law_returning.proofs.PairReadings.{rows_have_pairs_alone, block_has_pairs_alone}
use Rattle.htmd_law_returning.proofs.PairReadings.{blocks_have_pairs_alone}
use Rattle.htmd_law_returning.proofs.PairReadings.{items_have_pairs_alone}
use Rattle.htmd_law_returning.proofs.SoftLines.{softened, soft_cells, soft_rows, soft_block, soft_blocks, soft_items}
use Rattle.htmd_law_returning.proofs.SoftLines.{line-seen, soft-plain}
use Rattle.htmd_law_returning.proofs.TreesLemmas.{anchor-has-id, anchor-has-none}

-- ---- tags of breaks

break-among : (ts : List Tag) (s : List ℕ) → role_among ts s ≡ breaks → is_break_tag s ≡ true
break-among [] s e =
    test (is_break_tag s) (λ q. q) (λ q. let w = rw q at e in absurd (cc))
break-among (u ∷ ts) s e =
    test (bytes_eq u.open_tag s)
    (λ q. let w = rw q at e in absurd (cc))
    (λ q. test (bytes_eq (closing_tag u) s)
    (λ r. let w = rw (q, r) at e in absurd (cc))
    (λ r. let w = rw (q, r) at e in break-among ts s w))

break-role : (s : List ℕ) → role s ≡ breaks → is_break_tag s ≡ true
break-role s e = by_title (abbreviation_title s) e
  where
    by_title : (o : Option (List ℕ)) → role_by_title o s ≡ breaks → is_break_tag s ≡ true
    by_title None e =
        test (bytes_eq (closing_tag (abbreviation [])) s)
        (λ q. let w = rw q at e in absurd (cc))
        (λ q. let w = rw q at e in break-among tags s w)
    by_title (Some title) e = absurd (cc)

-- ---- what is seen

-- no raw tags but those of anchors
abbrev has_words : Inlines → Bool
has_words no_inlines = true
has_words (letter c xs) = has_words xs
has_words (code s xs) = has_words xs
has_words (formatted f content xs) = has_words content && has_words xs
has_words (link a t content xs) = has_words content && has_words xs
has_words (image a t content xs) = has_words xs
has_words (line_break xs) = has_words xs
has_words (task d xs) = has_words xs
has_words (raw s xs) = is_of_anchor s && has_words xs

abbrev stack_has : Tags → Bool
stack_has (outside items) = has_words items
stack_has (inside t items below) = has_words items && stack_has below

joined-parts : (xs ys : Inlines) → has_words (joined xs ys) ≡ true
    → (has_words xs ≡ true) × (has_words ys ≡ true)
joined-parts no_inlines ys e = (refl, e)
joined-parts (letter c xs) ys e = joined-parts xs ys e
joined-parts (code s xs) ys e = joined-parts xs ys e
joined-parts (formatted f content xs) ys e =
    let p = and_parts (has_words content) (has_words (joined xs ys)) e in
    let i = joined-parts xs ys p.1 in (and_from (has_words content) (has_words xs) p.0 i.0, i.1)
joined-parts (link a t content xs) ys e =
    let p = and_parts (has_words content) (has_words (joined xs ys)) e in
    let i = joined-parts xs ys p.1 in (and_from (has_words content) (has_words xs) p.0 i.0, i.1)
joined-parts (image a t content xs) ys e = joined-parts xs ys e
joined-parts (line_break xs) ys e = joined-parts xs ys e
joined-parts (task d xs) ys e = joined-parts xs ys e
joined-parts (raw s xs) ys e =
    let p = and_parts (is_of_anchor s) (has_words (joined xs ys)) e in
    let i = joined-parts xs ys p.1 in (and_from (is_of_anchor s) (has_words xs) p.0 i.0, i.1)

seen-parts : (b : Tags) (x : Inlines) → stack_has (with_seen b x) ≡ true
    → (stack_has b ≡ true) × (has_words x ≡ true)
seen-parts (outside items) x e = joined-parts items x e
seen-parts (inside t items below) x e =
    let p = and_parts (has_words (joined items x)) (stack_has below) e in
    let i = joined-parts items x p.0 in (and_from (has_words items) (stack_has below) i.0 p.1, i.1)

all-parts : (b : Tags) (ys : Inlines) → has_words (all_seen b ys) ≡ true
    → (stack_has b ≡ true) × (has_words ys ≡ true)
all-parts (outside items) ys e = joined-parts items ys e
all-parts (inside t items below) ys e =
    let i = all-parts below (raw t.open_tag (joined items ys)) e in
    let j = joined-parts items ys (and_parts (is_of_anchor t.open_tag) (has_words (joined items ys)) i.1).1 in
    (and_from (has_words items) (stack_has below) j.0 i.0, j.1)

text-words : (xs : Inlines) → is_text_alone xs ≡ true → has_words xs ≡ true
text-words (letter c no_inlines) e = refl
text-words (letter c (letter d xs)) e = text-words (letter d xs) e
text-words (letter c (code s xs)) e = absurd (cc)
text-words (letter c (formatted f content xs)) e = absurd (cc)
text-words (letter c (link a t content xs)) e = absurd (cc)
text-words (letter c (image a t content xs)) e = absurd (cc)
text-words (letter c (line_break xs)) e = absurd (cc)
text-words (letter c (task d xs)) e = absurd (cc)
text-words (letter c (raw s xs)) e = absurd (cc)
text-words no_inlines e = absurd (cc)
text-words (code s xs) e = absurd (cc)
text-words (formatted f content xs) e = absurd (cc)
text-words (link a t content xs) e = absurd (cc)
text-words (image a t content xs) e = absurd (cc)
text-words (line_break xs) e = absurd (cc)
text-words (task d xs) e = absurd (cc)
text-words (raw s xs) e = absurd (cc)

pair-words : (t : Tag) (pair : Pair) (content : Inlines) → has_words (paired t pair content) ≡ true
    → has_words content ≡ true
pair-words t (format_pair f) content e = (and_parts (has_words content) true e).0
pair-words t code_pair content e =
    test (is_text_alone content) (λ q. text-words content q)
    (λ q.
    let rest = joined content (raw (closing_tag t) no_inlines) in
    let w : (is_of_anchor t.open_tag && has_words rest) ≡ true = rw q at e in
    (joined-parts content (raw (closing_tag t) no_inlines)
    (and_parts (is_of_anchor t.open_tag) (has_words rest) w).1).0)

closed-words : (t : Tag) (whole b : Tags) (content : Inlines)
    → (stack_has b ≡ true → has_words content ≡ true → stack_has whole ≡ true)
    → stack_has (closed_tag t whole b content) ≡ true → stack_has whole ≡ true
closed-words t whole (outside items) content all h = (seen-parts whole (raw (closing_tag t) no_inlines) h).0
closed-words t whole (inside u items below) content all h =
    test (bytes_eq u.name t.name)
    (λ q.
    let w : stack_has (with_seen below (paired u u.pair (joined items content))) ≡ true = rw q at h in
    let p = seen-parts below (paired u u.pair (joined items content)) w in
    let j = joined-parts items content (pair-words u u.pair (joined items content) p.1) in
    all (and_from (has_words items) (stack_has below) j.0 p.0) j.1)
    (λ q.
    let w : stack_has (closed_tag t whole below (raw u.open_tag (joined items content))) ≡ true = rw q at h in
    closed-words t whole below (raw u.open_tag (joined items content))
    (λ b c.
    let j = joined-parts items content (and_parts (is_of_anchor u.open_tag) (has_words (joined items content)) c).1 in
    all (and_from (has_words items) (stack_has below) j.0 b) j.1) w)

or-left : (a b : Bool) → a ≡ true → (a || b) ≡ true
or-left true b h = refl
or-left false b h = absurd (cc)

or-right : (a b : Bool) → b ≡ true → (a || b) ≡ true
or-right true b h = refl
or-right false b h = h

raw-words : (b : Tags) (s : List ℕ) (r : Role) → role s ≡ r → not (is_break_tag s) ≡ true
    → stack_has (with_raw b s r) ≡ true
    → (stack_has b ≡ true) × ((is_of_anchor s || is_of_pair r) ≡ true)
raw-words b s (opens t) r p h = (h, or-right (is_of_anchor s) true refl)
raw-words b s (closes t) r p h = (closed-words t b b no_inlines (λ p q. p) h, or-right (is_of_anchor s) true refl)
raw-words b s breaks r p h =
    let w : false ≡ true = sym (ap not (break-role s r)) ∙ p in absurd (cc)
raw-words b s stays r p h =
    let i = seen-parts b (raw s no_inlines) h in
    (i.0, or-left (is_of_anchor s) false (and_parts (is_of_anchor s) true i.1).0)

words : (xs : Inlines) (b : Tags) → is_read_plainly false xs ≡ true → stack_has (seen b xs) ≡ true
    → (stack_has b ≡ true) × (has_pairs_alone xs ≡ true)
words no_inlines b p h = (h, refl)
words (letter c xs) b p h =
    let x = letter c no_inlines in
    let i = words xs (with_seen b x) p h in ((seen-parts b x i.0).0, i.1)
words (code s xs) b p h =
    let x = code s no_inlines in
    let i = words xs (with_seen b x) p h in ((seen-parts b x i.0).0, i.1)
words (formatted f content xs) b p h =
    let inner = seen (outside no_inlines) content in
    let x = formatted f (all_seen inner no_inlines) no_inlines in
    let r = and_parts (is_read_plainly false content) (is_read_plainly false xs) p in
    let i = words xs (with_seen b x) r.1 h in
    let k = seen-parts b x i.0 in
    let q = all-parts inner no_inlines (and_parts (has_words (all_seen inner no_inlines)) true k.1).0 in
    let j = words content (outside no_inlines) r.0 q.0 in
    (k.0, and_from (has_pairs_alone content) (has_pairs_alone xs) j.1 i.1)
words (link a t content xs) b p h =
    let inner = seen (outside no_inlines) content in
    let x = link a t (all_seen inner no_inlines) no_inlines in
    let r = and_parts (is_read_plainly false content) (is_read_plainly false xs) p in
    let i = words xs (with_seen b x) r.1 h in
    let k = seen-parts b x i.0 in
    let q = all-parts inner no_inlines (and_parts (has_words (all_seen inner no_inlines)) true k.1).0 in
    let j = words content (outside no_inlines) r.0 q.0 in
    (k.0, and_from (has_pairs_alone content) (has_pairs_alone xs) j.1 i.1)
words (image a t content xs) b p h =
    let x = image a t (letters (plain_text (all_seen (seen (outside no_inlines) content) no_inlines)) no_inlines)
    no_inlines in
    let r = and_parts (is_untagged content) (is_read_plainly false xs) p in
    let i = words xs (with_seen b x) r.1 h in (
      (seen-parts b x i.0).0,
      and_from (is_untagged content) (has_pairs_alone xs) r.0 i.1,
    )
words (line_break xs) b p h =
    let x = line_break no_inlines in
    let i = words xs (with_seen b x) p h in ((seen-parts b x i.0).0, i.1)
words (task d xs) b p h =
    let x = task d no_inlines in
    let i = words xs (with_seen b x) p h in ((seen-parts b x i.0).0, i.1)
words (raw s xs) b p h =
    let r = and_parts (not (is_break_tag s)) (is_read_plainly false xs) p in
    let i = words xs (with_raw b s (role s)) r.1 h in
    let k = raw-words b s (role s) refl r.0 i.0 in
    (k.0, and_from (is_of_anchor s || is_of_pair (role s)) (has_pairs_alone xs) k.1 i.1)

line-pairs : (xs : Inlines) → is_read_plainly false xs ≡ true → has_words (seen_inlines xs) ≡ true
    → has_pairs_alone xs ≡ true
line-pairs xs p h =
    (words xs (outside no_inlines) p (all-parts (seen (outside no_inlines) xs) no_inlines h).0).1

-- ---- documents

abbrev Behind : Option document.Inlines → Type 0
Behind o = (xs : document.Inlines) × (o ≡ Some xs)

letter-words : (c : ℕ) (o : Option document.Inlines) (d : document.Inlines) → with_letter c o ≡ Some d
    → Behind o
letter-words c None d e = absurd (cc)
letter-words c (Some xs) d e = (xs, refl)

first-words : (x : document.Inline) (o : Option document.Inlines) (d : document.Inlines) → with_first x o ≡ Some d
    → Behind o
first-words x None d e = absurd (cc)
first-words x (Some xs) d e = (xs, refl)

content-words : (make : document.Inlines → document.Inline) (content rest : Option document.Inlines)
    (d : document.Inlines) → with_content make content rest ≡ Some d → Behind content × Behind rest
content-words make None rest d e = absurd (cc)
content-words make (Some c) rest d e = ((c, refl), first-words (make c) rest d e)

anchor-words : (s : List ℕ) (end : List ℕ) (xs : Option document.Inlines) (d : document.Inlines)
    → with_anchor (anchor_id s) end xs ≡ Some d → (is_anchor s ≡ true) × (is_end end ≡ true) × Behind xs
anchor-words s end xs d e =
    test (is_anchor s)
    (λ a.
    let k = anchor-has-id s a in
    test (is_end end)
    (λ t. let w = rw (k.1, t) at e in (a, t, first-words (document.anchor k.0) xs d w))
    (λ t. let w = rw (k.1, t) at e in absurd (cc)))
    (λ a. let w = rw (anchor-has-none s a) at e in absurd (cc))

document-words : (xs : Inlines) (d : document.Inlines) → document_inlines xs ≡ Some d → has_words xs ≡ true
document-words no_inlines d e = refl
document-words (letter c xs) d e =
    let b = letter-words c (document_inlines xs) d e in document-words xs b.0 b.1
document-words (code s xs) d e =
    let b = first-words (document.code s) (document_inlines xs) d e in document-words xs b.0 b.1
document-words (formatted f content xs) d e =
    let (c, b) = content-words (document.formatted f) (document_inlines content) (document_inlines xs) d e in
    and_from (has_words content) (has_words xs) (document-words content c.0 c.1) (document-words xs b.0 b.1)
document-words (link a t content xs) d e =
    let (c, b) = content-words (document.link a t) (document_inlines content) (document_inlines xs) d e in
    and_from (has_words content) (has_words xs) (document-words content c.0 c.1) (document-words xs b.0 b.1)
document-words (image a t content xs) d e =
    let b = first-words (document.image a t (plain_text content)) (document_inlines xs) d e in
    document-words xs b.0 b.1
document-words (line_break xs) d e =
    let b = first-words document.line_break (document_inlines xs) d e in document-words xs b.0 b.1
document-words (task t xs) d e =
    let q = first-words (document.task t) (with_letter 32 (document_inlines xs)) d e in
    let b = letter-words 32 (document_inlines xs) q.0 q.1 in document-words xs b.0 b.1
document-words (raw s no_inlines) d e = absurd (cc)
document-words (raw s (letter c xs)) d e = absurd (cc)
document-words (raw s (code t xs)) d e = absurd (cc)
document-words (raw s (formatted f content xs)) d e = absurd (cc)
document-words (raw s (link a t content xs)) d e = absurd (cc)
document-words (raw s (image a t content xs)) d e = absurd (cc)
document-words (raw s (line_break xs)) d e = absurd (cc)
document-words (raw s (task b xs)) d e = absurd (cc)
document-words (raw s (raw end xs)) d e =
    let k = anchor-words s end (document_inlines xs) d e in
    rw (k.0, k.1, document-words xs k.2.0 k.2.1) (ap (λ b. b && true) (or-right (is_anchor end) true refl))

read-pairs : (xs : Inlines) (d : document.Inlines) → is_read_plainly false xs ≡ true
    → document_inlines (seen_inlines xs) ≡ Some d → has_pairs_alone xs ≡ true
read-pairs xs d p e = line-pairs xs p (document-words (seen_inlines xs) d e)

-- with tags of breaks as breaks
soft-pairs : (may : Bool) (xs : Inlines) (d : document.Inlines) → is_read_plainly may xs ≡ true
    → document_inlines (seen_inlines xs) ≡ Some d
    → has_pairs_alone (softened xs) ≡ true
soft-pairs may xs d p e =
    read-pairs (softened xs) d (soft-plain may xs p) (ap document_inlines (line-seen xs) ∙ e)

-- ---- tables

none-pairs : (c xs : Inlines) → is_read_plainly true c ≡ true → seen_inlines c ≡ xs → has_none xs ≡ true
    → has_pairs_alone (softened c) ≡ true
none-pairs c no_inlines p s e = line-pairs (softened c) (soft-plain true c p) (ap has_words (line-seen c ∙ s))
none-pairs c (letter b xs) p s e = absurd (cc)
none-pairs c (code t xs) p s e = absurd (cc)
none-pairs c (formatted f content xs) p s e = absurd (cc)
none-pairs c (link a t content xs) p s e = absurd (cc)
none-pairs c (image a t content xs) p s e = absurd (cc)
none-pairs c (line_break xs) p s e = absurd (cc)
none-pairs c (task b xs) p s e = absurd (cc)
none-pairs c (raw t xs) p s e = absurd (cc)

row-pairs : (r : List Inlines) (d : List document.Inlines) → list_all (is_read_plainly true) r ≡ true
    → document_row (seen_row r) ≡ Some d → cells_have_pairs_alone (soft_cells r) ≡ true
row-pairs [] d p e = refl
row-pairs (c ∷ cs) d p e =
    let u = and_parts (is_read_plainly true c) (list_all (is_read_plainly true) cs) p in
    let k = both-some (document_inlines (seen_inlines c)) (document_row (seen_row cs)) d e in
    and_from (has_pairs_alone (softened c)) (cells_have_pairs_alone (soft_cells cs)) (soft-pairs true c k.0 u.0 k.2)
    (row-pairs cs k.1 u.1 k.3)

filled-pairs : (cs : List Inlines) (d : List document.Inlines) → list_all (is_read_plainly true) cs ≡ true
    → document_row (filled_front (seen_row cs)) ≡ Some d → cells_have_pairs_alone (soft_cells cs) ≡ true
filled-pairs [] d p e = refl
filled-pairs (c ∷ cs) d p e =
    let u = and_parts (is_read_plainly true c) (list_all (is_read_plainly true) cs) p in
    test (has_none (seen_inlines c) && has_no_cell (filled_front (seen_row cs)))
    (λ t.
    let q = and_parts (has_none (seen_inlines c)) (has_no_cell (filled_front (seen_row cs))) t in
    let n = no-cells (filled_front (seen_row cs)) q.1 in
    and_from (has_pairs_alone (softened c)) (cells_have_pairs_alone (soft_cells cs))
    (none-pairs c (seen_inlines c) u.0 refl q.0)
    (filled-pairs cs [] u.1 (ap document_row n)))
    (λ t.
    let w = rw t at e in
    let k = both-some (document_inlines (seen_inlines c)) (document_row (filled_front (seen_row cs))) d w in
    and_from (has_pairs_alone (softened c)) (cells_have_pairs_alone (soft_cells cs)) (soft-pairs true c k.0 u.0 k.2)
    (filled-pairs cs k.1 u.1 k.3))

body_row-pairs : (r : List Inlines) (d : List document.Inlines) → list_all (is_read_plainly true) r ≡ true
    → document_row (without_empty_end (seen_row r)) ≡ Some d
    → cells_have_pairs_alone (soft_cells r) ≡ true
body_row-pairs [] d p e = refl
body_row-pairs (c ∷ cs) d p e =
    let u = and_parts (is_read_plainly true c) (list_all (is_read_plainly true) cs) p in
    let k = both-some (document_inlines (seen_inlines c)) (document_row (filled_front (seen_row cs))) d e in
    and_from (has_pairs_alone (softened c)) (cells_have_pairs_alone (soft_cells cs)) (soft-pairs true c k.0 u.0 k.2)
    (filled-pairs cs k.1 u.1 k.3)

rows-pairs : (rs : List (List Inlines)) (d : List (List document.Inlines))
    → list_all (list_all (is_read_plainly true)) rs ≡ true
    → document_rows (seen_rows rs) ≡ Some d
    → rows_have_pairs_alone (soft_rows rs) ≡ true
rows-pairs [] d p e = refl
rows-pairs (r ∷ rs) d p e =
    let u = and_parts (list_all (is_read_plainly true) r) (list_all (list_all (is_read_plainly true)) rs) p in
    let k = both-some (document_row (without_empty_end (seen_row r))) (document_rows (seen_rows rs)) d e in
    and_from (cells_have_pairs_alone (soft_cells r)) (rows_have_pairs_alone (soft_rows rs))
    (body_row-pairs r k.0 u.0 k.2)
    (rows-pairs rs k.1 u.1 k.3)

-- ---- blocks

mutual
  block-pairs : (b : Block) (d : document.Block) → block_has_plain_images b ≡ true
      → document_block (seen_block b) ≡ Some d
      → block_has_pairs_alone (soft_block b) ≡ true
  block-pairs (paragraph xs) d p e =
      let k = one-some document.paragraph (document_inlines (seen_inlines xs)) d e in
      soft-pairs true xs k.0 p k.1
  block-pairs (heading level xs) d p e =
      let k = one-some (document.heading level) (document_inlines (seen_inlines xs)) d e in
      soft-pairs true xs k.0 p k.1
  block-pairs (code_block language s) d p e = refl
  block-pairs (quote bs) d p e =
      let k = one-some document.quote (document_blocks (seen_blocks bs)) d e in
      blocks-pairs bs k.0 p k.1
  block-pairs thematic_break d p e = refl
  block-pairs (list start tight items) d p e =
      let k = one-some (document.list start tight) (document_items (seen_items items)) d e in
      items-pairs items k.0 p k.1
  block-pairs (table alignments header rows) d p e =
      let u = and_parts (list_all (is_read_plainly true) header) (list_all (list_all (is_read_plainly true)) rows) p in
      let k = two-some (document.table alignments) (document_row (seen_row header)) (document_rows (seen_rows rows))
      d e in
      and_from (cells_have_pairs_alone (soft_cells header)) (rows_have_pairs_alone (soft_rows rows))
      (row-pairs header k.0 u.0 k.2)
      (rows-pairs rows k.1 u.1 k.3)
  block-pairs (html_block s) d p e = refl

  pub blocks-pairs : (bs : Blocks) (d : document.Blocks) → blocks_have_plain_images bs ≡ true
      → document_blocks (seen_blocks bs) ≡ Some d
      → blocks_have_pairs_alone (soft_blocks bs) ≡ true
  blocks-pairs no_blocks d p e = refl
  blocks-pairs (block b bs) d p e =
      let u = and_parts (block_has_plain_images b) (blocks_have_plain_images bs) p in
      let k = two-some document.block (document_block (seen_block b)) (document_blocks (seen_blocks bs)) d e in
      and_from (block_has_pairs_alone (soft_block b)) (blocks_have_pairs_alone (soft_blocks bs))
      (block-pairs b k.0 u.0 k.2)
      (blocks-pairs bs k.1 u.1 k.3)

  items-pairs : (items : Items) (d : document.Items) → items_have_plain_images items ≡ true
      → document_items (seen_items items) ≡ Some d
      → items_have_pairs_alone (soft_items items) ≡ true
  items-pairs no_items d p e = refl
  items-pairs (item bs rest) d p e =
      let u = and_parts (blocks_have_plain_images bs) (items_have_plain_images rest) p in
      let k = two-some document.item (document_blocks (seen_blocks bs)) (document_items (seen_items rest)) d e in
      and_from (blocks_have_pairs_alone (soft_blocks bs)) (items_have_pairs_alone (soft_items rest))
      (blocks-pairs bs k.0 u.0 k.2)
      (items-pairs rest k.1 u.1 k.3)
