-- Where a document in normal form is seen, what is read has no words with carriage returns or U+0000.
use Rattle.std.proofs.Common.{◌≡◌, ℕ, Bool, true, false, not, ◌&&◌, List, [], ◌∷◌, refl, sym, ◌∙◌, Option, Some, None}
use Rattle.std.proofs.Common.{subst}
use Rattle.std.specs.List.{list_all, list_any}
use Rattle.std.specs.Prelude.{◌==◌}
use Rattle.std.specs.Str.{is_utf8}
use Rattle.std.proofs.lemmas.Bool.{and_parts, and_from, eqb-true}
use Rattle.htmd_lexical.proofs.Cases.{test}
use Rattle.htmd_lexical.specs.Characters.{space, carriage_return, null}
use Rattle.htmd_lexical.specs.CharacterClasses.{is_empty}
use Rattle.htmd_document.specs.Documents as document
use Rattle.htmd_document.specs.Formats.{Format}
use Rattle.htmd_document.specs.NormalDocuments.{is_code_byte}
use Rattle.htmd_document.specs.NormalInlines.{is_line_byte, is_line, has_double_space, is_text, is_trimmed, is_kept}
use Rattle.htmd_document.specs.NormalInlines.{is_attribute, is_title, has_none, are_whole, is_barred, has_title}
use Rattle.htmd_document.specs.NormalInlines.{is_normal, are_normal, meets, is_normal_line, is_normal_item}
use Rattle.htmd_document.specs.NormalInlines.{first_passes, last_passes, begins_with_space, ends_with_space, is_break}
use Rattle.htmd_commonmark_reading.specs.Anchors.{anchor_id}
use Rattle.htmd_commonmark_reading.specs.Markup.{Inlines, no_inlines, letter, code, formatted, link, image, line_break}
use Rattle.htmd_commonmark_reading.specs.Markup.{task, raw, plain_text}
use Rattle.htmd_commonmark_reading.specs.SeenMarkup.{with_first, with_letter, with_content, with_anchor}
use Rattle.htmd_commonmark_reading.specs.SeenMarkup.{document_inlines}
use Rattle.htmd_law_rendering.proofs.PairedLemmas.{is_end}
use Rattle.htmd_law_rendering.proofs.SoundTags.{is_sound}
use Rattle.htmd_law_rendering.proofs.SoundWords.{is_sound_if, has_sound_words, plain-words}

-- ---- bytes

pub byte-is : (p : ℕ → Bool) (b : ℕ) → p carriage_return ≡ false → p null ≡ false → p b ≡ true
    → is_code_byte b ≡ true
byte-is p b r n h =
    test (b == carriage_return)
    (λ e. let w : false ≡ true = sym r ∙ subst (λ c. p c ≡ true) (eqb-true b carriage_return e) h in
    absurd (cc))
    (λ e. test (b == null)
    (λ f. let w : false ≡ true = sym n ∙ subst (λ c. p c ≡ true) (eqb-true b null f) h in absurd (cc))
    (λ f. rw (e, f) refl))

pub bytes-are : (p : ℕ → Bool) (s : List ℕ) → p carriage_return ≡ false → p null ≡ false
    → list_all p s ≡ true → is_sound s ≡ true
bytes-are p [] r n h = refl
bytes-are p (b ∷ s) r n h =
    let q = and_parts (p b) (list_all p s) h in
    and_from (is_code_byte b) (is_sound s) (byte-is p b r n q.0) (bytes-are p s r n q.1)

line-sound : (s : List ℕ) → is_line s ≡ true → is_sound s ≡ true
line-sound s h = bytes-are is_line_byte s refl refl (and_parts (is_utf8 s) (list_all is_line_byte s) h).1

text-sound : (s : List ℕ) → is_text s ≡ true → is_sound s ≡ true
text-sound s h =
    let p = and_parts (is_line s && not (is_empty s)) (not (has_double_space s)) h in
    line-sound s (and_parts (is_line s) (not (is_empty s)) p.0).0

title-sound : (t : Option (List ℕ)) → is_title t ≡ true → is_sound_if t ≡ true
title-sound None h = refl
title-sound (Some s) h =
    let p = and_parts (is_attribute s && list_any is_line_byte s) (list_any (λ b. not (b == space)) s) h in
    let q = and_parts (is_attribute s) (list_any is_line_byte s) p.0 in
    bytes-are is_kept s refl refl (and_parts (is_utf8 s) (list_all is_kept s) q.0).1

-- ---- documents

abbrev mutual
  pub one_is_sound : document.Inline → Bool
  one_is_sound (document.text s) = is_sound s
  one_is_sound (document.code s) = is_sound s
  one_is_sound (document.formatted f content) = are_sound content
  one_is_sound (document.link a t content) = is_sound_if t && are_sound content
  one_is_sound (document.image a t description) = is_sound_if t && is_sound description
  one_is_sound (document.anchor id) = true
  one_is_sound document.line_break = true
  one_is_sound (document.task d) = true

  pub are_sound : document.Inlines → Bool
  are_sound document.no_inlines = true
  are_sound (document.inline x rest) = one_is_sound x && are_sound rest

mutual
  one-sound : (k : Bool) (around : List Format) (x : document.Inline) → is_normal k around x ≡ true
      → one_is_sound x ≡ true
  one-sound k around (document.text s) e = text-sound s e
  one-sound k around (document.code s) e = text-sound s (and_parts (is_text s) (is_trimmed s) e).0
  one-sound k around (document.formatted f content) e =
      all-sound k (f ∷ around) content
      (and_parts (not (is_barred around f) && has_title f && not (has_none content) && are_whole content)
      (are_normal k (f ∷ around) content) e).1
  one-sound k around (document.link a t content) e =
      let p = and_parts (not k && is_attribute a && is_title t && not (has_none content))
      (are_normal true around content) e in
      let q = and_parts (not k && is_attribute a && is_title t) (not (has_none content)) p.0 in
      let r = and_parts (not k && is_attribute a) (is_title t) q.0 in
      and_from (is_sound_if t) (are_sound content) (title-sound t r.1) (all-sound true around content p.1)
  one-sound k around (document.image a t description) e =
      let p = and_parts (is_attribute a && is_title t) (is_line description) e in
      and_from (is_sound_if t) (is_sound description)
      (title-sound t (and_parts (is_attribute a) (is_title t) p.0).1) (line-sound description p.1)
  one-sound k around (document.anchor id) e = refl
  one-sound k around document.line_break e = refl
  one-sound k around (document.task d) e = refl

  all-sound : (k : Bool) (around : List Format) (xs : document.Inlines) → are_normal k around xs ≡ true
      → are_sound xs ≡ true
  all-sound k around document.no_inlines e = refl
  all-sound k around (document.inline x rest) e =
      let p = and_parts (is_normal k around x && meets x rest) (are_normal k around rest) e in
      let q = and_parts (is_normal k around x) (meets x rest) p.0 in
      and_from (one_is_sound x) (are_sound rest) (one-sound k around x q.0) (all-sound k around rest p.1)

pub line-words : (xs : document.Inlines) → is_normal_line xs ≡ true → are_sound xs ≡ true
line-words xs e = all-sound false [] xs (and_parts (are_whole xs) (are_normal false [] xs) e).1

pub item-words : (xs : document.Inlines) → is_normal_item xs ≡ true → are_sound xs ≡ true
item-words (document.inline (document.task d) rest) e =
    all-sound false [] rest
    (and_parts (first_passes begins_with_space rest && not (last_passes ends_with_space rest)
    && not (last_passes is_break rest)) (are_normal false [] rest) e).1
item-words document.no_inlines e = refl
item-words (document.inline (document.text s) rest) e = line-words (document.inline (document.text s) rest) e
item-words (document.inline (document.code s) rest) e = line-words (document.inline (document.code s) rest) e
item-words (document.inline (document.formatted f content) rest) e =
    line-words (document.inline (document.formatted f content) rest) e
item-words (document.inline (document.link a t content) rest) e =
    line-words (document.inline (document.link a t content) rest) e
item-words (document.inline (document.image a t description) rest) e =
    line-words (document.inline (document.image a t description) rest) e
item-words (document.inline (document.anchor id) rest) e = line-words (document.inline (document.anchor id) rest) e
item-words (document.inline document.line_break rest) e = line-words (document.inline document.line_break rest) e

-- ---- what is seen

-- what is behind the first one is sound too
abbrev Behind : Option document.Inlines → Type 0
Behind o = (xs : document.Inlines) × (o ≡ Some xs) × (are_sound xs ≡ true)

letter-is : (c : ℕ) (s : List ℕ) (xs d : document.Inlines)
    → are_sound d ≡ true → document.inline (document.text (c ∷ s)) xs ≡ d
    → (is_code_byte c ≡ true) × (is_sound s ≡ true) × (are_sound xs ≡ true)
letter-is c s xs d h e =
    let p = and_parts (is_sound (c ∷ s)) (are_sound xs) (subst (λ y. are_sound y ≡ true) (sym e) h) in
    let q = and_parts (is_code_byte c) (is_sound s) p.0 in (q.0, q.1, p.1)

letter-sound : (c : ℕ) (o : Option document.Inlines) (d : document.Inlines) → with_letter c o ≡ Some d
    → are_sound d ≡ true → (is_code_byte c ≡ true) × Behind o
letter-sound c None d e h = absurd (cc)
letter-sound c (Some (document.inline (document.text s) xs)) d e h =
    let k = letter-is c s xs d h cc in
    (k.0, (document.inline (document.text s) xs, refl, and_from (is_sound s) (are_sound xs) k.1 k.2))
letter-sound c (Some document.no_inlines) d e h =
    let k = letter-is c [] document.no_inlines d h cc in (k.0, (document.no_inlines, refl, refl))
letter-sound c (Some (document.inline (document.code s) xs)) d e h =
    let ys = document.inline (document.code s) xs in
    let k = letter-is c [] ys d h cc in (k.0, (ys, refl, k.2))
letter-sound c (Some (document.inline (document.formatted f content) xs)) d e h =
    let ys = document.inline (document.formatted f content) xs in
    let k = letter-is c [] ys d h cc in (k.0, (ys, refl, k.2))
letter-sound c (Some (document.inline (document.link a t content) xs)) d e h =
    let ys = document.inline (document.link a t content) xs in
    let k = letter-is c [] ys d h cc in (k.0, (ys, refl, k.2))
letter-sound c (Some (document.inline (document.image a t description) xs)) d e h =
    let ys = document.inline (document.image a t description) xs in
    let k = letter-is c [] ys d h cc in (k.0, (ys, refl, k.2))
letter-sound c (Some (document.inline (document.anchor id) xs)) d e h =
    let ys = document.inline (document.anchor id) xs in
    let k = letter-is c [] ys d h cc in (k.0, (ys, refl, k.2))
letter-sound c (Some (document.inline document.line_break xs)) d e h =
    let ys = document.inline document.line_break xs in
    let k = letter-is c [] ys d h cc in (k.0, (ys, refl, k.2))
letter-sound c (Some (document.inline (document.task b) xs)) d e h =
    let ys = document.inline (document.task b) xs in
    let k = letter-is c [] ys d h cc in (k.0, (ys, refl, k.2))

first-sound : (x : document.Inline) (o : Option document.Inlines) (d : document.Inlines) → with_first x o ≡ Some d
    → are_sound d ≡ true → (one_is_sound x ≡ true) × Behind o
first-sound x None d e h = absurd (cc)
first-sound x (Some xs) d e h =
    let y : document.inline x xs ≡ d = cc in
    let p = and_parts (one_is_sound x) (are_sound xs) (subst (λ z. are_sound z ≡ true) (sym y) h) in
    (p.0, (xs, refl, p.1))

content-sound : (make : document.Inlines → document.Inline) (content rest : Option document.Inlines)
    (d : document.Inlines) → with_content make content rest ≡ Some d → are_sound d ≡ true
    → ((c : document.Inlines) × (content ≡ Some c) × (one_is_sound (make c) ≡ true)) × Behind rest
content-sound make None rest d e h = absurd (cc)
content-sound make (Some c) rest d e h = let r = first-sound (make c) rest d e h in ((c, refl, r.0), r.1)

anchor-sound : (o : Option (List ℕ)) (end : List ℕ) (xs : Option document.Inlines) (d : document.Inlines)
    → with_anchor o end xs ≡ Some d → are_sound d ≡ true → Behind xs
anchor-sound None end xs d e h = absurd (cc)
anchor-sound (Some id) end xs d e h =
    test (is_end end)
    (λ t. let w = rw t at e in (first-sound (document.anchor id) xs d w h).1)
    (λ t. let w = rw t at e in absurd (cc))

pub document-words : (xs : Inlines) (d : document.Inlines) → document_inlines xs ≡ Some d → are_sound d ≡ true
    → has_sound_words true xs ≡ true
document-words no_inlines d e h = refl
document-words (letter c xs) d e h =
    let r = letter-sound c (document_inlines xs) d e h in
    let b = r.1 in
    and_from (is_code_byte c) (has_sound_words true xs) r.0 (document-words xs b.0 b.1 b.2)
document-words (code s xs) d e h =
    let r = first-sound (document.code s) (document_inlines xs) d e h in
    let b = r.1 in and_from (is_sound s) (has_sound_words true xs) r.0 (document-words xs b.0 b.1 b.2)
document-words (formatted f content xs) d e h =
    let r = content-sound (document.formatted f) (document_inlines content) (document_inlines xs) d e h in
    let c = r.0 in
    let b = r.1 in
    and_from (has_sound_words true content) (has_sound_words true xs) (document-words content c.0 c.1 c.2)
    (document-words xs b.0 b.1 b.2)
document-words (link a t content xs) d e h =
    let r = content-sound (document.link a t) (document_inlines content) (document_inlines xs) d e h in
    let c = r.0 in
    let b = r.1 in
    let p = and_parts (is_sound_if t) (are_sound c.0) c.2 in
    and_from (is_sound_if t && has_sound_words true content) (has_sound_words true xs)
    (and_from (is_sound_if t) (has_sound_words true content) p.0 (document-words content c.0 c.1 p.1))
    (document-words xs b.0 b.1 b.2)
document-words (image a t content xs) d e h =
    let r = first-sound (document.image a t (plain_text content)) (document_inlines xs) d e h in
    let b = r.1 in
    let p = and_parts (is_sound_if t) (is_sound (plain_text content)) r.0 in
    and_from (is_sound_if t && has_sound_words false content) (has_sound_words true xs)
    (and_from (is_sound_if t) (has_sound_words false content) p.0 (plain-words content p.1))
    (document-words xs b.0 b.1 b.2)
document-words (line_break xs) d e h =
    let b = (first-sound document.line_break (document_inlines xs) d e h).1 in document-words xs b.0 b.1 b.2
document-words (task t xs) d e h =
    let q = (first-sound (document.task t) (with_letter 32 (document_inlines xs)) d e h).1 in
    let b = (letter-sound 32 (document_inlines xs) q.0 q.1 q.2).1 in document-words xs b.0 b.1 b.2
document-words (raw s no_inlines) d e h = absurd (cc)
document-words (raw s (letter c xs)) d e h = absurd (cc)
document-words (raw s (code t xs)) d e h = absurd (cc)
document-words (raw s (formatted f content xs)) d e h = absurd (cc)
document-words (raw s (link a t content xs)) d e h = absurd (cc)
document-words (raw s (image a t content xs)) d e h = absurd (cc)
document-words (raw s (line_break xs)) d e h = absurd (cc)
document-words (raw s (task b xs)) d e h = absurd (cc)
document-words (raw s (raw end xs)) d e h =
    let b = anchor-sound (anchor_id s) end (document_inlines xs) d e h in document-words xs b.0 b.1 b.2
