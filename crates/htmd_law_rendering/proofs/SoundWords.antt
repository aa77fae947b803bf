-- Letters, codes, descriptions and titles without carriage returns and U+0000: if what is seen has no others, what is
-- read has none.
use Rattle.std.proofs.Common.{◌≡◌, ℕ, Bool, true, false, not, ◌&&◌, List, [], ◌∷◌, ◌++◌, refl, Option, Some, None}
use Rattle.std.specs.Prelude.{◌||◌}
use Rattle.std.specs.Str.{bytes_eq}
use Rattle.std.proofs.lemmas.Bool.{and_parts, and_from}
use Rattle.htmd_lexical.proofs.Cases.{test}
use Rattle.htmd_document.specs.NormalDocuments.{is_code_byte}
use Rattle.htmd_document.specs.Tags.{format_tag}
use Rattle.htmd_commonmark_reading.specs.Markup.{Inlines, no_inlines, letter, code, formatted, link, image, line_break}
use Rattle.htmd_commonmark_reading.specs.Markup.{task, raw, joined, letters, plain_text}
use Rattle.htmd_commonmark_reading.specs.SeenMarkup.{Pair, format_pair, code_pair, Tag, closing_tag, Role, opens}
use Rattle.htmd_commonmark_reading.specs.SeenMarkup.{closes}
use Rattle.htmd_commonmark_reading.specs.SeenMarkup.{breaks, stays, role, Tags, outside, inside, with_seen, all_seen}
use Rattle.htmd_commonmark_reading.specs.SeenMarkup.{is_text_alone, paired, closed_tag, with_raw, seen, seen_inlines}
use Rattle.htmd_law_texts.proofs.PieceTexts.{all_append}
use Rattle.htmd_law_rendering.proofs.SoundTags.{is_sound}
use Rattle.htmd_law_rendering.proofs.SoundRuns.{has_sound_tags}

abbrev pub is_sound_if : Option (List ℕ) → Bool
is_sound_if None = true
is_sound_if (Some s) = is_sound s

-- of titles too, or not
abbrev pub has_sound_words : Bool → Inlines → Bool
has_sound_words k no_inlines = true
has_sound_words k (letter c xs) = is_code_byte c && has_sound_words k xs
has_sound_words k (code s xs) = is_sound s && has_sound_words k xs
has_sound_words k (formatted f content xs) = has_sound_words k content && has_sound_words k xs
has_sound_words k (link a t content xs) =
    ((not k || is_sound_if t) && has_sound_words k content) && has_sound_words k xs
has_sound_words k (image a t content xs) =
    ((not k || is_sound_if t) && has_sound_words false content) && has_sound_words k xs
has_sound_words k (line_break xs) = has_sound_words k xs
has_sound_words k (task d xs) = has_sound_words k xs
has_sound_words k (raw s xs) = has_sound_words k xs

-- ---- plain texts

pub sound-parts : (s t : List ℕ) → is_sound (s ++ t) ≡ true → (is_sound s ≡ true) × (is_sound t ≡ true)
sound-parts [] t h = (refl, h)
sound-parts (b ∷ s) t h =
    let p = and_parts (is_code_byte b) (is_sound (s ++ t)) h in
    let q = sound-parts s t p.1 in (and_from (is_code_byte b) (is_sound s) p.0 q.0, q.1)

-- without titles these are the words of the plain text
pub plain-words : (xs : Inlines) → is_sound (plain_text xs) ≡ true → has_sound_words false xs ≡ true
plain-words no_inlines h = refl
plain-words (letter c xs) h =
    let p = and_parts (is_code_byte c) (is_sound (plain_text xs)) h in
    and_from (is_code_byte c) (has_sound_words false xs) p.0 (plain-words xs p.1)
plain-words (code s xs) h =
    let p = sound-parts s (plain_text xs) h in
    and_from (is_sound s) (has_sound_words false xs) p.0 (plain-words xs p.1)
plain-words (formatted f content xs) h =
    let p = sound-parts (plain_text content) (plain_text xs) h in
    and_from (has_sound_words false content) (has_sound_words false xs) (plain-words content p.0) (plain-words xs p.1)
plain-words (link a t content xs) h =
    let p = sound-parts (plain_text content) (plain_text xs) h in
    and_from (has_sound_words false content) (has_sound_words false xs) (plain-words content p.0) (plain-words xs p.1)
plain-words (image a t content xs) h =
    let p = sound-parts (plain_text content) (plain_text xs) h in
    and_from (has_sound_words false content) (has_sound_words false xs) (plain-words content p.0) (plain-words xs p.1)
plain-words (line_break xs) h = plain-words xs h
plain-words (task d xs) h = plain-words xs h
plain-words (raw s xs) h = plain-words xs (sound-parts s (plain_text xs) h).1

-- and with the raw tags all of it
pub plain-sound : (xs : Inlines) → has_sound_words false xs ≡ true → has_sound_tags xs ≡ true
    → is_sound (plain_text xs) ≡ true
plain-sound no_inlines h k = refl
plain-sound (letter c xs) h k =
    let p = and_parts (is_code_byte c) (has_sound_words false xs) h in
    and_from (is_code_byte c) (is_sound (plain_text xs)) p.0 (plain-sound xs p.1 k)
plain-sound (code s xs) h k =
    let p = and_parts (is_sound s) (has_sound_words false xs) h in
    all_append is_code_byte s (plain_text xs) p.0 (plain-sound xs p.1 k)
plain-sound (formatted f content xs) h k =
    let p = and_parts (has_sound_words false content) (has_sound_words false xs) h in
    let q = and_parts (is_sound (format_tag f) && has_sound_tags content) (has_sound_tags xs) k in
    all_append is_code_byte (plain_text content) (plain_text xs)
    (plain-sound content p.0 (and_parts (is_sound (format_tag f)) (has_sound_tags content) q.0).1)
    (plain-sound xs p.1 q.1)
plain-sound (link a t content xs) h k =
    let p = and_parts (has_sound_words false content) (has_sound_words false xs) h in
    let q = and_parts (has_sound_tags content) (has_sound_tags xs) k in
    all_append is_code_byte (plain_text content) (plain_text xs) (plain-sound content p.0 q.0)
    (plain-sound xs p.1 q.1)
plain-sound (image a t content xs) h k =
    let p = and_parts (has_sound_words false content) (has_sound_words false xs) h in
    let q = and_parts (has_sound_tags content) (has_sound_tags xs) k in
    all_append is_code_byte (plain_text content) (plain_text xs) (plain-sound content p.0 q.0)
    (plain-sound xs p.1 q.1)
plain-sound (line_break xs) h k = plain-sound xs h k
plain-sound (task d xs) h k = plain-sound xs h k
plain-sound (raw s xs) h k =
    let q = and_parts (is_sound s) (has_sound_tags xs) k in
    all_append is_code_byte s (plain_text xs) q.0 (plain-sound xs h q.1)

letters-plain : (s : List ℕ) → has_sound_words false (letters s no_inlines) ≡ true → is_sound s ≡ true
letters-plain [] h = refl
letters-plain (c ∷ s) h =
    let p = and_parts (is_code_byte c) (has_sound_words false (letters s no_inlines)) h in
    and_from (is_code_byte c) (is_sound s) p.0 (letters-plain s p.1)

-- ---- the stack

abbrev stack_has : Bool → Tags → Bool
stack_has k (outside items) = has_sound_words k items
stack_has k (inside t items below) = has_sound_words k items && stack_has k below

joined-parts : (k : Bool) (xs ys : Inlines) → has_sound_words k (joined xs ys) ≡ true
    → (has_sound_words k xs ≡ true) × (has_sound_words k ys ≡ true)
joined-parts k no_inlines ys e = (refl, e)
joined-parts k (letter c xs) ys e =
    let p = and_parts (is_code_byte c) (has_sound_words k (joined xs ys)) e in
    let i = joined-parts k xs ys p.1 in (and_from (is_code_byte c) (has_sound_words k xs) p.0 i.0, i.1)
joined-parts k (code s xs) ys e =
    let p = and_parts (is_sound s) (has_sound_words k (joined xs ys)) e in
    let i = joined-parts k xs ys p.1 in (and_from (is_sound s) (has_sound_words k xs) p.0 i.0, i.1)
joined-parts k (formatted f content xs) ys e =
    let p = and_parts (has_sound_words k content) (has_sound_words k (joined xs ys)) e in
    let i = joined-parts k xs ys p.1 in (and_from (has_sound_words k content) (has_sound_words k xs) p.0 i.0, i.1)
joined-parts k (link a t content xs) ys e =
    let here = (not k || is_sound_if t) && has_sound_words k content in
    let p = and_parts here (has_sound_words k (joined xs ys)) e in
    let i = joined-parts k xs ys p.1 in (and_from here (has_sound_words k xs) p.0 i.0, i.1)
joined-parts k (image a t content xs) ys e =
    let here = (not k || is_sound_if t) && has_sound_words false content in
    let p = and_parts here (has_sound_words k (joined xs ys)) e in
    let i = joined-parts k xs ys p.1 in (and_from here (has_sound_words k xs) p.0 i.0, i.1)
joined-parts k (line_break xs) ys e = joined-parts k xs ys e
joined-parts k (task d xs) ys e = joined-parts k xs ys e
joined-parts k (raw s xs) ys e = joined-parts k xs ys e

seen-parts : (k : Bool) (b : Tags) (x : Inlines) → stack_has k (with_seen b x) ≡ true
    → (stack_has k b ≡ true) × (has_sound_words k x ≡ true)
seen-parts k (outside items) x e = joined-parts k items x e
seen-parts k (inside t items below) x e =
    let p = and_parts (has_sound_words k (joined items x)) (stack_has k below) e in
    let i = joined-parts k items x p.0 in
    (and_from (has_sound_words k items) (stack_has k below) i.0 p.1, i.1)

all-parts : (k : Bool) (b : Tags) (ys : Inlines) → has_sound_words k (all_seen b ys) ≡ true
    → (stack_has k b ≡ true) × (has_sound_words k ys ≡ true)
all-parts k (outside items) ys e = joined-parts k items ys e
all-parts k (inside t items below) ys e =
    let i = all-parts k below (raw t.open_tag (joined items ys)) e in
    let j = joined-parts k items ys i.1 in
    (and_from (has_sound_words k items) (stack_has k below) j.0 i.0, j.1)

text-words : (k : Bool) (xs : Inlines) → is_text_alone xs ≡ true → is_sound (plain_text xs) ≡ true
    → has_sound_words k xs ≡ true
text-words k (letter c no_inlines) e h = h
text-words k (letter c (letter d xs)) e h =
    let p = and_parts (is_code_byte c) (is_sound (plain_text (letter d xs))) h in
    and_from (is_code_byte c) (has_sound_words k (letter d xs)) p.0 (text-words k (letter d xs) e p.1)
text-words k (letter c (code s xs)) e h = absurd (cc)
text-words k (letter c (formatted f content xs)) e h = absurd (cc)
text-words k (letter c (link a t content xs)) e h = absurd (cc)
text-words k (letter c (image a t content xs)) e h = absurd (cc)
text-words k (letter c (line_break xs)) e h = absurd (cc)
text-words k (letter c (task d xs)) e h = absurd (cc)
text-words k (letter c (raw s xs)) e h = absurd (cc)
text-words k no_inlines e h = absurd (cc)
text-words k (code s xs) e h = absurd (cc)
text-words k (formatted f content xs) e h = absurd (cc)
text-words k (link a t content xs) e h = absurd (cc)
text-words k (image a t content xs) e h = absurd (cc)
text-words k (line_break xs) e h = absurd (cc)
text-words k (task d xs) e h = absurd (cc)
text-words k (raw s xs) e h = absurd (cc)

pair-words : (k : Bool) (t : Tag) (pair : Pair) (content : Inlines)
    → has_sound_words k (paired t pair content) ≡ true → has_sound_words k content ≡ true
pair-words k t (format_pair f) content e = (and_parts (has_sound_words k content) true e).0
pair-words k t code_pair content e =
    test (is_text_alone content)
    (λ q. let w = rw q at e in
    text-words k content q (and_parts (is_sound (plain_text content)) true w).0)
    (λ q. let w = rw q at e in (joined-parts k content (raw (closing_tag t) no_inlines) w).0)

-- a closing tag drops no words: not those between it and the tag that it closes either
closed-words : (k : Bool) (t : Tag) (whole b : Tags) (content : Inlines)
    → (stack_has k b ≡ true → has_sound_words k content ≡ true → stack_has k whole ≡ true)
    → stack_has k (closed_tag t whole b content) ≡ true → stack_has k whole ≡ true
closed-words k t whole (outside items) content all h = (seen-parts k whole (raw (closing_tag t) no_inlines) h).0
closed-words k t whole (inside u items below) content all h =
    test (bytes_eq u.name t.name)
    (λ q.
    let w : stack_has k (with_seen below (paired u u.pair (joined items content))) ≡ true = rw q at h in
    let p = seen-parts k below (paired u u.pair (joined items content)) w in
    let j = joined-parts k items content (pair-words k u u.pair (joined items content) p.1) in
    all (and_from (has_sound_words k items) (stack_has k below) j.0 p.0) j.1)
    (λ q.
    let w : stack_has k (closed_tag t whole below (raw u.open_tag (joined items content))) ≡ true = rw q at h in
    closed-words k t whole below (raw u.open_tag (joined items content))
    (λ b c. let j = joined-parts k items content c in
    all (and_from (has_sound_words k items) (stack_has k below) j.0 b) j.1) w)

raw-words : (k : Bool) (b : Tags) (s : List ℕ) (r : Role) → stack_has k (with_raw b s r) ≡ true
    → stack_has k b ≡ true
raw-words k b s (opens t) h = h
raw-words k b s (closes t) h = closed-words k t b b no_inlines (λ p q. p) h
raw-words k b s breaks h = (seen-parts k b (line_break no_inlines) h).0
raw-words k b s stays h = (seen-parts k b (raw s no_inlines) h).0

-- ---- what is read

words : (k : Bool) (xs : Inlines) (b : Tags) → stack_has k (seen b xs) ≡ true
    → (stack_has k b ≡ true) × (has_sound_words k xs ≡ true)
words k no_inlines b h = (h, refl)
words k (letter c xs) b h =
    let x = letter c no_inlines in
    let i = words k xs (with_seen b x) h in
    let p = seen-parts k b x i.0 in
    (p.0, and_from (is_code_byte c) (has_sound_words k xs) (and_parts (is_code_byte c) true p.1).0 i.1)
words k (code s xs) b h =
    let x = code s no_inlines in
    let i = words k xs (with_seen b x) h in
    let p = seen-parts k b x i.0 in
    (p.0, and_from (is_sound s) (has_sound_words k xs) (and_parts (is_sound s) true p.1).0 i.1)
words k (formatted f content xs) b h =
    let inner = seen (outside no_inlines) content in
    let x = formatted f (all_seen inner no_inlines) no_inlines in
    let i = words k xs (with_seen b x) h in
    let p = seen-parts k b x i.0 in
    let q = all-parts k inner no_inlines (and_parts (has_sound_words k (all_seen inner no_inlines)) true p.1).0 in
    let j = words k content (outside no_inlines) q.0 in
    (p.0, and_from (has_sound_words k content) (has_sound_words k xs) j.1 i.1)
words k (link a t content xs) b h =
    let inner = seen (outside no_inlines) content in
    let x = link a t (all_seen inner no_inlines) no_inlines in
    let i = words k xs (with_seen b x) h in
    let p = seen-parts k b x i.0 in
    let titled = not k || is_sound_if t in
    let v = and_parts (titled && has_sound_words k (all_seen inner no_inlines)) true p.1 in
    let u = and_parts titled (has_sound_words k (all_seen inner no_inlines)) v.0 in
    let j = words k content (outside no_inlines) (all-parts k inner no_inlines u.1).0 in (
      p.0,
      and_from (titled && has_sound_words k content) (has_sound_words k xs)
          (and_from titled (has_sound_words k content) u.0 j.1) i.1,
    )
words k (image a t content xs) b h =
    let inner = seen (outside no_inlines) content in
    let s = plain_text (all_seen inner no_inlines) in
    let x = image a t (letters s no_inlines) no_inlines in
    let i = words k xs (with_seen b x) h in
    let p = seen-parts k b x i.0 in
    let titled = not k || is_sound_if t in
    let v = and_parts (titled && has_sound_words false (letters s no_inlines)) true p.1 in
    let u = and_parts titled (has_sound_words false (letters s no_inlines)) v.0 in
    let w = plain-words (all_seen inner no_inlines) (letters-plain s u.1) in
    let j = words false content (outside no_inlines) (all-parts false inner no_inlines w).0 in (
      p.0,
      and_from (titled && has_sound_words false content) (has_sound_words k xs)
          (and_from titled (has_sound_words false content) u.0 j.1) i.1,
    )
words k (line_break xs) b h =
    let x = line_break no_inlines in
    let i = words k xs (with_seen b x) h in ((seen-parts k b x i.0).0, i.1)
words k (task d xs) b h =
    let x = task d no_inlines in
    let i = words k xs (with_seen b x) h in ((seen-parts k b x i.0).0, i.1)
words k (raw s xs) b h =
    let i = words k xs (with_raw b s (role s)) h in (raw-words k b s (role s) i.0, i.1)

pub seen-words : (xs : Inlines) → has_sound_words true (seen_inlines xs) ≡ true → has_sound_words true xs ≡ true
seen-words xs h =
    let s = seen (outside no_inlines) xs in
    (words true xs (outside no_inlines) (all-parts true s no_inlines h).0).1
