-- Where a document in normal form is seen, no link and no anchor stands in a link, and headings have six levels.
use Rattle.std.proofs.Common.{◌≡◌, ℕ, Bool, true, false, not, ◌&&◌, List, [], ◌∷◌, refl, sym, Option, Some, None}
use Rattle.std.proofs.Common.{subst}
use Rattle.std.proofs.lemmas.Bool.{and_parts, and_from}
use Rattle.htmd_lexical.proofs.Cases.{test}
use Rattle.htmd_document.specs.Documents as document
use Rattle.htmd_document.specs.Formats.{Format}
use Rattle.htmd_document.specs.NormalInlines.{is_barred, has_title, has_none, are_whole, is_attribute, is_title, is_normal}
use Rattle.htmd_document.specs.NormalInlines.{are_normal, meets, is_normal_line, is_normal_item, first_passes, last_passes}
use Rattle.htmd_document.specs.NormalInlines.{begins_with_space, ends_with_space, is_break}
use Rattle.htmd_document.specs.NormalInlines.{is_text, is_trimmed}
use Rattle.htmd_commonmark_reading.specs.Markup.{Inlines, no_inlines, letter, code, formatted, link, image, line_break}
use Rattle.htmd_commonmark_reading.specs.Markup.{task, raw, plain_text}
use Rattle.htmd_commonmark_reading.specs.SeenMarkup.{seen_inlines, with_first, with_letter, with_content, with_anchor}
use Rattle.htmd_commonmark_reading.specs.SeenMarkup.{document_inlines}
use Rattle.htmd_commonmark_reading.specs.Anchors.{anchor_id}
use Rattle.htmd_law_rendering.specs.PlainReadings.{are_strict}
use Rattle.htmd_law_rendering.proofs.PairedLemmas.{is_anchor, is_end, nothing-left}
use Rattle.htmd_law_rendering.proofs.StrictSeen.{are_unlinked, inlines-strict}

-- ---- documents

abbrev mutual
  -- no link and no anchor in a link
  pub one_is_apart : Bool → document.Inline → Bool
  one_is_apart k (document.text s) = true
  one_is_apart k (document.code s) = true
  one_is_apart k (document.formatted f content) = are_apart k content
  one_is_apart k (document.link a t content) = not k && are_apart true content
  one_is_apart k (document.image a t description) = true
  one_is_apart k (document.anchor id) = not k
  one_is_apart k document.line_break = true
  one_is_apart k (document.task d) = true

  pub are_apart : Bool → document.Inlines → Bool
  are_apart k document.no_inlines = true
  are_apart k (document.inline x rest) = one_is_apart k x && are_apart k rest

mutual
  one-apart : (k : Bool) (around : List Format) (x : document.Inline) → is_normal k around x ≡ true
      → one_is_apart k x ≡ true
  one-apart k around (document.text s) e = refl
  one-apart k around (document.code s) e = refl
  one-apart k around (document.formatted f content) e =
      all-apart k (f ∷ around) content
      (and_parts (not (is_barred around f) && has_title f && not (has_none content) && are_whole content)
      (are_normal k (f ∷ around) content) e).1
  one-apart k around (document.link a t content) e =
      let p = and_parts (not k && is_attribute a && is_title t && not (has_none content))
      (are_normal true around content) e in
      let q = and_parts (not k && is_attribute a && is_title t) (not (has_none content)) p.0 in
      let r = and_parts (not k && is_attribute a) (is_title t) q.0 in
      let v = and_parts (not k) (is_attribute a) r.0 in
      and_from (not k) (are_apart true content) v.0 (all-apart true around content p.1)
  one-apart k around (document.image a t description) e = refl
  one-apart k around (document.anchor id) e =
      let p = and_parts (not k && is_text id) (is_trimmed id) e in (and_parts (not k) (is_text id) p.0).0
  one-apart k around document.line_break e = refl
  one-apart k around (document.task d) e = refl

  all-apart : (k : Bool) (around : List Format) (xs : document.Inlines) → are_normal k around xs ≡ true
      → are_apart k xs ≡ true
  all-apart k around document.no_inlines e = refl
  all-apart k around (document.inline x rest) e =
      let p = and_parts (is_normal k around x && meets x rest) (are_normal k around rest) e in
      let q = and_parts (is_normal k around x) (meets x rest) p.0 in
      and_from (one_is_apart k x) (are_apart k rest) (one-apart k around x q.0) (all-apart k around rest p.1)

pub line-apart : (xs : document.Inlines) → is_normal_line xs ≡ true → are_apart false xs ≡ true
line-apart xs e = all-apart false [] xs (and_parts (are_whole xs) (are_normal false [] xs) e).1

pub item-apart : (xs : document.Inlines) → is_normal_item xs ≡ true → are_apart false xs ≡ true
item-apart (document.inline (document.task d) rest) e =
    all-apart false [] rest
    (and_parts (first_passes begins_with_space rest && not (last_passes ends_with_space rest)
    && not (last_passes is_break rest)) (are_normal false [] rest) e).1
item-apart document.no_inlines e = refl
item-apart (document.inline (document.text s) rest) e = line-apart (document.inline (document.text s) rest) e
item-apart (document.inline (document.code s) rest) e = line-apart (document.inline (document.code s) rest) e
item-apart (document.inline (document.formatted f content) rest) e =
    line-apart (document.inline (document.formatted f content) rest) e
item-apart (document.inline (document.link a t content) rest) e =
    line-apart (document.inline (document.link a t content) rest) e
item-apart (document.inline (document.image a t description) rest) e =
    line-apart (document.inline (document.image a t description) rest) e
item-apart (document.inline (document.anchor id) rest) e = line-apart (document.inline (document.anchor id) rest) e
item-apart (document.inline document.line_break rest) e = line-apart (document.inline document.line_break rest) e

-- ---- what is seen

-- what is behind the first one is apart too
abbrev Behind : Bool → Option document.Inlines → Type 0
Behind k o = (xs : document.Inlines) × (o ≡ Some xs) × (are_apart k xs ≡ true)

letter-apart : (k : Bool) (c : ℕ) (o : Option document.Inlines) (d : document.Inlines) → with_letter c o ≡ Some d
    → are_apart k d ≡ true → Behind k o
letter-apart k c None d e h = absurd (cc)
letter-apart k c (Some (document.inline (document.text s) xs)) d e h =
    let x : document.inline (document.text (c ∷ s)) xs ≡ d = cc in
    (document.inline (document.text s) xs, refl, subst (λ y. are_apart k y ≡ true) (sym x) h)
letter-apart k c (Some document.no_inlines) d e h = (document.no_inlines, refl, refl)
letter-apart k c (Some (document.inline (document.code s) xs)) d e h =
    let y = document.inline (document.code s) xs in
    let x : document.inline (document.text (c ∷ [])) y ≡ d = cc in
    (y, refl, subst (λ z. are_apart k z ≡ true) (sym x) h)
letter-apart k c (Some (document.inline (document.formatted f content) xs)) d e h =
    let y = document.inline (document.formatted f content) xs in
    let x : document.inline (document.text (c ∷ [])) y ≡ d = cc in
    (y, refl, subst (λ z. are_apart k z ≡ true) (sym x) h)
letter-apart k c (Some (document.inline (document.link a t content) xs)) d e h =
    let y = document.inline (document.link a t content) xs in
    let x : document.inline (document.text (c ∷ [])) y ≡ d = cc in
    (y, refl, subst (λ z. are_apart k z ≡ true) (sym x) h)
letter-apart k c (Some (document.inline (document.image a t description) xs)) d e h =
    let y = document.inline (document.image a t description) xs in
    let x : document.inline (document.text (c ∷ [])) y ≡ d = cc in
    (y, refl, subst (λ z. are_apart k z ≡ true) (sym x) h)
letter-apart k c (Some (document.inline (document.anchor id) xs)) d e h =
    let y = document.inline (document.anchor id) xs in
    let x : document.inline (document.text (c ∷ [])) y ≡ d = cc in
    (y, refl, subst (λ z. are_apart k z ≡ true) (sym x) h)
letter-apart k c (Some (document.inline document.line_break xs)) d e h =
    let y = document.inline document.line_break xs in
    let x : document.inline (document.text (c ∷ [])) y ≡ d = cc in
    (y, refl, subst (λ z. are_apart k z ≡ true) (sym x) h)
letter-apart k c (Some (document.inline (document.task b) xs)) d e h =
    let y = document.inline (document.task b) xs in
    let x : document.inline (document.text (c ∷ [])) y ≡ d = cc in
    (y, refl, subst (λ z. are_apart k z ≡ true) (sym x) h)

first-apart : (k : Bool) (x : document.Inline) (o : Option document.Inlines) (d : document.Inlines)
    → with_first x o ≡ Some d → are_apart k d ≡ true → (one_is_apart k x ≡ true) × Behind k o
first-apart k x None d e h = absurd (cc)
first-apart k x (Some xs) d e h =
    let y : document.inline x xs ≡ d = cc in
    let p = and_parts (one_is_apart k x) (are_apart k xs) (subst (λ z. are_apart k z ≡ true) (sym y) h) in
    (p.0, (xs, refl, p.1))

content-apart : (k : Bool) (make : document.Inlines → document.Inline) (content rest : Option document.Inlines)
    (d : document.Inlines) → with_content make content rest ≡ Some d → are_apart k d ≡ true
    → ((c : document.Inlines) × (content ≡ Some c) × (one_is_apart k (make c) ≡ true)) × Behind k rest
content-apart k make None rest d e h = absurd (cc)
content-apart k make (Some c) rest d e h =
    let r = first-apart k (make c) rest d e h in ((c, refl, r.0), r.1)

anchor-apart : (k : Bool) (o : Option (List ℕ)) (end : List ℕ) (xs : Option document.Inlines) (d : document.Inlines)
    → with_anchor o end xs ≡ Some d → are_apart k d ≡ true → (not k ≡ true) × Behind k xs
anchor-apart k None end xs d e h = absurd (cc)
anchor-apart k (Some id) end xs d e h =
    test (is_end end)
    (λ t. let w = rw t at e in first-apart k (document.anchor id) xs d w h)
    (λ t. let w = rw t at e in absurd (cc))

unless : (k b : Bool) → not k ≡ true → not (k && b) ≡ true
unless true b e = absurd (cc)
unless false b e = refl

document-unlinked : (k : Bool) (xs : Inlines) (d : document.Inlines) → document_inlines xs ≡ Some d
    → are_apart k d ≡ true → are_unlinked k xs ≡ true
document-unlinked k no_inlines d e h = refl
document-unlinked k (letter c xs) d e h =
    let r = letter-apart k c (document_inlines xs) d e h in document-unlinked k xs r.0 r.1 r.2
document-unlinked k (code s xs) d e h =
    let r = (first-apart k (document.code s) (document_inlines xs) d e h).1 in document-unlinked k xs r.0 r.1 r.2
document-unlinked k (formatted f content xs) d e h =
    let q = content-apart k (document.formatted f) (document_inlines content) (document_inlines xs) d e h in
    let c = q.0 in
    let r = q.1 in
    and_from (are_unlinked k content) (are_unlinked k xs) (document-unlinked k content c.0 c.1 c.2)
    (document-unlinked k xs r.0 r.1 r.2)
document-unlinked k (link a t content xs) d e h =
    let q = content-apart k (document.link a t) (document_inlines content) (document_inlines xs) d e h in
    let c = q.0 in
    let r = q.1 in
    let p = and_parts (not k) (are_apart true c.0) c.2 in
    and_from (not k && are_unlinked true content) (are_unlinked k xs)
    (and_from (not k) (are_unlinked true content) p.0 (document-unlinked true content c.0 c.1 p.1))
    (document-unlinked k xs r.0 r.1 r.2)
document-unlinked k (image a t content xs) d e h =
    let r = (first-apart k (document.image a t (plain_text content)) (document_inlines xs) d e h).1 in
    document-unlinked k xs r.0 r.1 r.2
document-unlinked k (line_break xs) d e h =
    let r = (first-apart k document.line_break (document_inlines xs) d e h).1 in document-unlinked k xs r.0 r.1 r.2
document-unlinked k (task b xs) d e h =
    let q = (first-apart k (document.task b) (with_letter 32 (document_inlines xs)) d e h).1 in
    let r = letter-apart k 32 (document_inlines xs) q.0 q.1 q.2 in document-unlinked k xs r.0 r.1 r.2
document-unlinked k (raw s no_inlines) d e h = absurd (cc)
document-unlinked k (raw s (letter c xs)) d e h = absurd (cc)
document-unlinked k (raw s (code t xs)) d e h = absurd (cc)
document-unlinked k (raw s (formatted f content xs)) d e h = absurd (cc)
document-unlinked k (raw s (link a t content xs)) d e h = absurd (cc)
document-unlinked k (raw s (image a t content xs)) d e h = absurd (cc)
document-unlinked k (raw s (line_break xs)) d e h = absurd (cc)
document-unlinked k (raw s (task b xs)) d e h = absurd (cc)
document-unlinked k (raw s (raw end xs)) d e h =
    let q = anchor-apart k (anchor_id s) end (document_inlines xs) d e h in
    let r = q.1 in
    and_from (not (k && is_anchor s)) (not (k && is_anchor end) && are_unlinked k xs) (unless k (is_anchor s) q.0)
    (and_from (not (k && is_anchor end)) (are_unlinked k xs) (unless k (is_anchor end) q.0)
    (document-unlinked k xs r.0 r.1 r.2))

pub document-strict : (xs : Inlines) (d : document.Inlines) → document_inlines (seen_inlines xs) ≡ Some d
    → are_apart false d ≡ true → are_strict false xs ≡ true
document-strict xs d e h =
    inlines-strict xs (nothing-left (seen_inlines xs) d e) (document-unlinked false (seen_inlines xs) d e h)
