-- The trees of a line that is read, by the line that one sees in it.
use Rattle.std.proofs.Common.{◌≡◌, ℕ, Bool, true, false, ◌&&◌, [], ◌∷◌, refl, sym, ap, ◌∙◌}
use Rattle.std.proofs.Common.{codes, drop, List, ◌++◌}
use Rattle.std.proofs.Common.{Option, Some, None}
use Rattle.std.specs.Str.{bytes_eq}
use Rattle.std.proofs.lemmas.Bool.{and_parts, and_from}
use Rattle.htmd_lexical.proofs.BytesLemmas.{same_bytes}
use Rattle.htmd_lexical.proofs.Cases.{test}
use Rattle.htmd_lexical.specs.AttributePairs.{AttributePair}
use Rattle.htmd_lexical.specs.Characters.{line_feed, space}
use Rattle.htmd_values.specs.ValueTrees.{ValueForest}
use Rattle.htmd_law_rendering.specs.SpelledTrees.{SpelledForest, value_forest}
use Rattle.htmd_law_rendering.specs.SpelledTrees as value
use Rattle.htmd_document.specs.Documents as documents
use Rattle.htmd_document.specs.Documents.{Inlines as Line}
use Rattle.htmd_document.specs.Tags.{end_of_anchor, anchor_tag}
use Rattle.htmd_commonmark_reading.specs.Anchors.{anchor_id, value as value_of}
use Rattle.htmd_commonmark_reading.specs.Markup.{Inlines, no_inlines, letter, code, formatted, link, image, line_break}
use Rattle.htmd_commonmark_reading.specs.Markup.{task, raw}
use Rattle.htmd_commonmark_reading.specs.Markup.{joined, letters, plain_text}
use Rattle.htmd_commonmark_reading.specs.SeenMarkup.{all_seen, outside, seen, seen_inlines, with_first, with_letter}
use Rattle.htmd_commonmark_reading.specs.SeenMarkup.{document_inlines}
use Rattle.htmd_law_inlines.specs.PlainReadings.{is_untagged}
use Rattle.htmd_law_rendering.proofs.PairedLemmas.{is_anchor, is_end, anchor-stays, end-stays}
use Rattle.htmd_law_returning.proofs.RawReadings.{has_no_raw}
use Rattle.htmd_law_rendering.specs.RenderedTrees.{text_before, line_end, format_name, pairs_of_format, pairs_of_image}
use Rattle.htmd_law_rendering.specs.RenderedTrees.{inlines_trees, pair}
use Rattle.htmd_law_rendering.specs.RenderedTrees.{pairs_of_link, pairs_of_box}
use Rattle.htmd_law_returning.proofs.StartLemmas.{false-true}

-- ---- what is seen without raw tags

-- the same, with text alone in the descriptions of images
abbrev pub described : Inlines → Inlines
described no_inlines = no_inlines
described (letter c xs) = letter c (described xs)
described (code s xs) = code s (described xs)
described (formatted f content xs) = formatted f (described content) (described xs)
described (link a t content xs) = link a t (described content) (described xs)
described (image a t content xs) =
    image a t (letters (plain_text (all_seen (seen (outside no_inlines) content) no_inlines)) no_inlines) (described xs)
described (line_break xs) = line_break (described xs)
described (task d xs) = task d (described xs)
described (raw tag xs) = raw tag (described xs)

joined-none : (xs : Inlines) → joined xs no_inlines ≡ xs
joined-none no_inlines = refl
joined-none (letter c xs) = ap (letter c) (joined-none xs)
joined-none (code s xs) = ap (code s) (joined-none xs)
joined-none (formatted f content xs) = ap (formatted f content) (joined-none xs)
joined-none (link a t content xs) = ap (link a t content) (joined-none xs)
joined-none (image a t content xs) = ap (image a t content) (joined-none xs)
joined-none (line_break xs) = ap line_break (joined-none xs)
joined-none (task d xs) = ap (task d) (joined-none xs)
joined-none (raw tag xs) = ap (raw tag) (joined-none xs)

pub joined-assoc : (xs ys zs : Inlines) → joined (joined xs ys) zs ≡ joined xs (joined ys zs)
joined-assoc no_inlines ys zs = refl
joined-assoc (letter c xs) ys zs = ap (letter c) (joined-assoc xs ys zs)
joined-assoc (code s xs) ys zs = ap (code s) (joined-assoc xs ys zs)
joined-assoc (formatted f content xs) ys zs = ap (formatted f content) (joined-assoc xs ys zs)
joined-assoc (link a t content xs) ys zs = ap (link a t content) (joined-assoc xs ys zs)
joined-assoc (image a t content xs) ys zs = ap (image a t content) (joined-assoc xs ys zs)
joined-assoc (line_break xs) ys zs = ap line_break (joined-assoc xs ys zs)
joined-assoc (task d xs) ys zs = ap (task d) (joined-assoc xs ys zs)
joined-assoc (raw tag xs) ys zs = ap (raw tag) (joined-assoc xs ys zs)

-- one more is seen
pub one-seen : (items x xs ys : Inlines) → seen (outside (joined items x)) xs ≡ outside (joined (joined items x) ys)
    → seen (outside (joined items x)) xs ≡ outside (joined items (joined x ys))
one-seen items x xs ys h = h ∙ ap outside (joined-assoc items x ys)

finished : (xs : Inlines) → seen (outside no_inlines) xs ≡ outside (joined no_inlines (described xs))
    → all_seen (seen (outside no_inlines) xs) no_inlines ≡ described xs
finished xs h = ap (λ t. all_seen t no_inlines) h ∙ joined-none (described xs)

pub untagged-raw : (xs : Inlines) → is_untagged xs ≡ true → has_no_raw xs ≡ true
untagged-raw no_inlines h = refl
untagged-raw (letter c xs) h = untagged-raw xs h
untagged-raw (code s xs) h = untagged-raw xs h
untagged-raw (formatted f content xs) h =
    let parts = and_parts (is_untagged content) (is_untagged xs) h in
    and_from (has_no_raw content) (has_no_raw xs) (untagged-raw content parts.0) (untagged-raw xs parts.1)
untagged-raw (link a t content xs) h =
    let parts = and_parts (is_untagged content) (is_untagged xs) h in
    and_from (has_no_raw content) (has_no_raw xs) (untagged-raw content parts.0) (untagged-raw xs parts.1)
untagged-raw (image a t content xs) h =
    let parts = and_parts (is_untagged content) (is_untagged xs) h in
    and_from (is_untagged content) (has_no_raw xs) parts.0 (untagged-raw xs parts.1)
untagged-raw (line_break xs) h = untagged-raw xs h
untagged-raw (task d xs) h = untagged-raw xs h
untagged-raw (raw tag xs) h = false-true h

-- the two tags of an anchor
pub record IsAnchorFirst (tag end : List ℕ) (xs : Inlines) : Type 0 where
  pub starts : is_anchor tag ≡ true
  pub ends : is_end end ≡ true
  pub id : List ℕ
  pub is : anchor_id tag ≡ Some id
  pub none : anchor_id end ≡ None
  pub rest : has_no_raw xs ≡ true

pub anchor-has-id : (tag : List ℕ) → is_anchor tag ≡ true → (id : List ℕ) × (anchor_id tag ≡ Some id)
anchor-has-id tag h =
    let id : List ℕ = value_of (drop 7 tag) in
    test (bytes_eq (anchor_tag id) tag) (λ q. (id, rw q refl)) (λ q. let w = rw q at h in absurd (cc))

pub anchor-has-none : (tag : List ℕ) → is_anchor tag ≡ false → anchor_id tag ≡ None
anchor-has-none tag h =
    let id : List ℕ = value_of (drop 7 tag) in
    test (bytes_eq (anchor_tag id) tag) (λ q. let w = rw q at h in absurd (cc)) (λ q. rw q refl)

pub anchor-first : (tag end : List ℕ) (xs : Inlines) → has_no_raw (raw tag (raw end xs)) ≡ true
    → IsAnchorFirst tag end xs
anchor-first tag end xs h =
    let parts = and_parts (is_anchor tag && is_end end) (has_no_raw xs) h in
    let own = and_parts (is_anchor tag) (is_end end) parts.0 in
    let found = anchor-has-id tag own.0 in
    record {
      starts = own.0;
      ends = own.1;
      id = found.0;
      is = found.1;
      none = ap anchor_id (same_bytes end end_of_anchor own.1);
      rest = parts.1;
    }

seen-described : (items xs : Inlines) → has_no_raw xs ≡ true
    → seen (outside items) xs ≡ outside (joined items (described xs))
seen-described items no_inlines h = ap outside (sym (joined-none items))
seen-described items (letter c xs) h =
    one-seen items (letter c no_inlines) xs (described xs)
    (seen-described (joined items (letter c no_inlines)) xs h)
seen-described items (code s xs) h =
    one-seen items (code s no_inlines) xs (described xs) (seen-described (joined items (code s no_inlines)) xs h)
seen-described items (formatted f content xs) h =
    let parts = and_parts (has_no_raw content) (has_no_raw xs) h in
    ap (λ c. seen (outside (joined items (formatted f c no_inlines))) xs)
    (finished content (seen-described no_inlines content parts.0))
    ∙ one-seen items (formatted f (described content) no_inlines) xs (described xs)
    (seen-described (joined items (formatted f (described content) no_inlines)) xs parts.1)
seen-described items (link a t content xs) h =
    let parts = and_parts (has_no_raw content) (has_no_raw xs) h in
    ap (λ c. seen (outside (joined items (link a t c no_inlines))) xs)
    (finished content (seen-described no_inlines content parts.0))
    ∙ one-seen items (link a t (described content) no_inlines) xs (described xs)
    (seen-described (joined items (link a t (described content) no_inlines)) xs parts.1)
seen-described items (image a t content xs) h =
    let shown : Inlines = image a t
    (letters (plain_text (all_seen (seen (outside no_inlines) content) no_inlines)) no_inlines) no_inlines in
    one-seen items shown xs (described xs)
    (seen-described (joined items shown) xs (and_parts (is_untagged content) (has_no_raw xs) h).1)
seen-described items (line_break xs) h =
    one-seen items (line_break no_inlines) xs (described xs)
    (seen-described (joined items (line_break no_inlines)) xs h)
seen-described items (task d xs) h =
    one-seen items (task d no_inlines) xs (described xs) (seen-described (joined items (task d no_inlines)) xs h)
seen-described items (raw tag (raw end xs)) h =
    let k = anchor-first tag end xs h in
    let one : Inlines = raw tag no_inlines in
    let two : Inlines = raw end no_inlines in
    rw (anchor-stays tag k.starts, end-stays end k.ends)
    (seen-described (joined (joined items one) two) xs k.rest
    ∙ ap outside (joined-assoc (joined items one) two (described xs)
    ∙ joined-assoc items one (joined two (described xs))))
seen-described items (raw tag no_inlines) h = false-true h
seen-described items (raw tag (letter c xs)) h = false-true h
seen-described items (raw tag (code s xs)) h = false-true h
seen-described items (raw tag (formatted f content xs)) h = false-true h
seen-described items (raw tag (link a t content xs)) h = false-true h
seen-described items (raw tag (image a t content xs)) h = false-true h
seen-described items (raw tag (line_break xs)) h = false-true h
seen-described items (raw tag (task d xs)) h = false-true h

pub whole-described : (xs : Inlines) → has_no_raw xs ≡ true
    → all_seen (seen (outside no_inlines) xs) no_inlines ≡ described xs
whole-described xs h = finished xs (seen-described no_inlines xs h)

-- ---- descriptions

pub plain-letters : (s : List ℕ) → plain_text (letters s no_inlines) ≡ s
plain-letters [] = refl
plain-letters (c ∷ s) = ap (λ t. c ∷ t) (plain-letters s)

plain-described : (xs : Inlines) → is_untagged xs ≡ true → plain_text (described xs) ≡ plain_text xs
plain-described no_inlines h = refl
plain-described (letter c xs) h = ap (λ t. c ∷ t) (plain-described xs h)
plain-described (code s xs) h = ap (λ t. s ++ t) (plain-described xs h)
plain-described (formatted f content xs) h =
    let parts = and_parts (is_untagged content) (is_untagged xs) h in
    rw (plain-described content parts.0, plain-described xs parts.1) refl
plain-described (link a t content xs) h =
    let parts = and_parts (is_untagged content) (is_untagged xs) h in
    rw (plain-described content parts.0, plain-described xs parts.1) refl
plain-described (image a t content xs) h =
    let parts = and_parts (is_untagged content) (is_untagged xs) h in
    rw (
      plain-letters (plain_text (all_seen (seen (outside no_inlines) content) no_inlines)),
      whole-described content (untagged-raw content parts.0),
      plain-described content parts.0,
      plain-described xs parts.1,
    ) refl
plain-described (line_break xs) h = ap (λ t. space ∷ t) (plain-described xs h)
plain-described (task d xs) h = plain-described xs h
plain-described (raw tag xs) h = false-true h

-- what is seen of a description
pub description-seen : (content : Inlines) → is_untagged content ≡ true
    → plain_text (letters (plain_text (all_seen (seen (outside no_inlines) content) no_inlines)) no_inlines)
    ≡ plain_text content
description-seen content h =
    plain-letters (plain_text (all_seen (seen (outside no_inlines) content) no_inlines))
    ∙ (ap plain_text (whole-described content (untagged-raw content h)) ∙ plain-described content h)

-- ---- the line that is seen

abbrev pub add_letter : ℕ → Line → Line
add_letter c (documents.inline (documents.text s) xs) = documents.inline (documents.text (c ∷ s)) xs
add_letter c xs = documents.inline (documents.text (c ∷ [])) xs

-- what begins an anchor is one, and what ends it is nothing
abbrev pub with_tag : Option (List ℕ) → Line → Line
with_tag None xs = xs
with_tag (Some id) xs = documents.inline (documents.anchor id) xs

abbrev pub line_of : Inlines → Line
line_of no_inlines = documents.no_inlines
line_of (letter c xs) = add_letter c (line_of xs)
line_of (code s xs) = documents.inline (documents.code s) (line_of xs)
line_of (formatted f content xs) = documents.inline (documents.formatted f (line_of content)) (line_of xs)
line_of (link a t content xs) = documents.inline (documents.link a t (line_of content)) (line_of xs)
line_of (image a t content xs) = documents.inline (documents.image a t (plain_text content)) (line_of xs)
line_of (line_break xs) = documents.inline documents.line_break (line_of xs)
line_of (task d xs) = documents.inline (documents.task d) (add_letter space (line_of xs))
line_of (raw tag xs) = with_tag (anchor_id tag) (line_of xs)

letter-added : (c : ℕ) (xs : Line) → with_letter c (Some xs) ≡ Some (add_letter c xs)
letter-added c documents.no_inlines = refl
letter-added c (documents.inline (documents.text s) xs) = refl
letter-added c (documents.inline (documents.code s) xs) = refl
letter-added c (documents.inline (documents.formatted f d) xs) = refl
letter-added c (documents.inline (documents.link a t d) xs) = refl
letter-added c (documents.inline (documents.image a t d) xs) = refl
letter-added c (documents.inline (documents.anchor id) xs) = refl
letter-added c (documents.inline documents.line_break xs) = refl
letter-added c (documents.inline (documents.task d) xs) = refl

described-line : (xs : Inlines) → has_no_raw xs ≡ true → document_inlines (described xs) ≡ Some (line_of xs)
described-line no_inlines h = refl
described-line (letter c xs) h = ap (with_letter c) (described-line xs h) ∙ letter-added c (line_of xs)
described-line (code s xs) h = ap (with_first (documents.code s)) (described-line xs h)
described-line (formatted f content xs) h =
    let parts = and_parts (has_no_raw content) (has_no_raw xs) h in
    rw (described-line content parts.0, described-line xs parts.1) refl
described-line (link a t content xs) h =
    let parts = and_parts (has_no_raw content) (has_no_raw xs) h in
    rw (described-line content parts.0, described-line xs parts.1) refl
described-line (image a t content xs) h =
    let parts = and_parts (is_untagged content) (has_no_raw xs) h in
    rw (described-line xs parts.1)
    (ap (λ d. Some (documents.inline (documents.image a t d) (line_of xs))) (description-seen content parts.0))
described-line (line_break xs) h = ap (with_first documents.line_break) (described-line xs h)
described-line (task d xs) h =
    ap (λ o. with_first (documents.task d) (with_letter space o)) (described-line xs h)
    ∙ ap (with_first (documents.task d)) (letter-added space (line_of xs))
described-line (raw tag (raw end xs)) h =
    let k = anchor-first tag end xs h in
    rw (described-line xs k.rest, k.is, k.none, k.ends) refl
described-line (raw tag no_inlines) h = false-true h
described-line (raw tag (letter c xs)) h = false-true h
described-line (raw tag (code s xs)) h = false-true h
described-line (raw tag (formatted f content xs)) h = false-true h
described-line (raw tag (link a t content xs)) h = false-true h
described-line (raw tag (image a t content xs)) h = false-true h
described-line (raw tag (line_break xs)) h = false-true h
described-line (raw tag (task d xs)) h = false-true h

pub line-seen : (xs : Inlines) → has_no_raw xs ≡ true → document_inlines (seen_inlines xs) ≡ Some (line_of xs)
line-seen xs h = ap document_inlines (whole-described xs h) ∙ described-line xs h

-- ---- the trees of a line

abbrev pub pairs_of_anchor : List ℕ → List AttributePair
pairs_of_anchor id = pair (codes "id") id ∷ []

abbrev pub spelled_line : Line → SpelledForest
spelled_line documents.no_inlines = value.none
spelled_line (documents.inline (documents.text s) xs) = value.more (value.text s) (spelled_line xs)
spelled_line (documents.inline (documents.code s) xs) =
    value.more (value.element value.spaced (codes "code") [] (text_before s value.none)) (spelled_line xs)
spelled_line (documents.inline (documents.formatted f content) xs) =
    value.more (value.element value.spaced (format_name f) (pairs_of_format f) (spelled_line content)) (spelled_line xs)
spelled_line (documents.inline (documents.link a t content) xs) =
    value.more (value.element value.spaced (codes "a") (pairs_of_link a t) (spelled_line content)) (spelled_line xs)
spelled_line (documents.inline (documents.image a t d) xs) =
    value.more (value.element value.spaced (codes "img") (pairs_of_image a t d) value.none) (spelled_line xs)
spelled_line (documents.inline documents.line_break xs) =
    value.more (value.element value.spaced (codes "br") [] value.none) (line_end (spelled_line xs))
spelled_line (documents.inline (documents.task d) xs) =
    value.more (value.element value.short (codes "input") (pairs_of_box d) value.none) (spelled_line xs)
spelled_line (documents.inline (documents.anchor id) xs) =
    value.more (value.element value.spaced (codes "a") (pairs_of_anchor id) value.none) (spelled_line xs)

-- no text is first
abbrev pub begins_apart : Line → Bool
begins_apart (documents.inline (documents.text s) xs) = false
begins_apart xs = true

-- a line's end before such a line is a text of its own
pub line-end-apart : (xs : Line) → begins_apart xs ≡ true
    → line_end (spelled_line xs) ≡ value.more (value.text (line_feed ∷ [])) (spelled_line xs)
line-end-apart documents.no_inlines a = refl
line-end-apart (documents.inline (documents.text s) xs) a = false-true a
line-end-apart (documents.inline (documents.code s) xs) a = refl
line-end-apart (documents.inline (documents.formatted f d) xs) a = refl
line-end-apart (documents.inline (documents.link a t d) xs) b = refl
line-end-apart (documents.inline (documents.image a t d) xs) b = refl
line-end-apart (documents.inline (documents.anchor id) xs) a = refl
line-end-apart (documents.inline documents.line_break xs) a = refl
line-end-apart (documents.inline (documents.task d) xs) a = refl

-- the trees of a line
abbrev pub line_trees : Line → ValueForest
line_trees xs = value_forest (spelled_line xs)

letter-trees : (c : ℕ) (xs : Line) → text_before (c ∷ []) (spelled_line xs) ≡ spelled_line (add_letter c xs)
letter-trees c documents.no_inlines = refl
letter-trees c (documents.inline (documents.text s) xs) = refl
letter-trees c (documents.inline (documents.code s) xs) = refl
letter-trees c (documents.inline (documents.formatted f d) xs) = refl
letter-trees c (documents.inline (documents.link a t d) xs) = refl
letter-trees c (documents.inline (documents.image a t d) xs) = refl
letter-trees c (documents.inline (documents.anchor id) xs) = refl
letter-trees c (documents.inline documents.line_break xs) = refl
letter-trees c (documents.inline (documents.task d) xs) = refl

pub line-trees : (xs : Inlines) → has_no_raw xs ≡ true → inlines_trees xs value.none ≡ spelled_line (line_of xs)
line-trees no_inlines h = refl
line-trees (letter c xs) h = ap (text_before (c ∷ [])) (line-trees xs h) ∙ letter-trees c (line_of xs)
line-trees (code t xs) h =
    ap (value.more (value.element value.spaced (codes "code") [] (text_before t value.none))) (line-trees xs h)
line-trees (formatted f content xs) h =
    let parts = and_parts (has_no_raw content) (has_no_raw xs) h in
    rw (line-trees content parts.0, line-trees xs parts.1) refl
line-trees (link a t content xs) h =
    let parts = and_parts (has_no_raw content) (has_no_raw xs) h in
    rw (line-trees content parts.0, line-trees xs parts.1) refl
line-trees (image a t content xs) h =
    ap (value.more (value.element value.spaced (codes "img") (pairs_of_image a t (plain_text content)) value.none))
    (line-trees xs (and_parts (is_untagged content) (has_no_raw xs) h).1)
line-trees (line_break xs) h =
    ap (λ ts. value.more (value.element value.spaced (codes "br") [] value.none) (line_end ts)) (line-trees xs h)
line-trees (task d xs) h =
    ap (value.more (value.element value.short (codes "input") (pairs_of_box d) value.none))
    (ap (text_before (space ∷ [])) (line-trees xs h) ∙ letter-trees space (line_of xs))
line-trees (raw tag (raw end xs)) h =
    let k = anchor-first tag end xs h in
    rw (k.is, k.none, k.ends)
    (ap (value.more (value.element value.spaced (codes "a") (pairs_of_anchor k.id) value.none)) (line-trees xs k.rest))
line-trees (raw tag no_inlines) h = false-true h
line-trees (raw tag (letter c xs)) h = false-true h
line-trees (raw tag (code s xs)) h = false-true h
line-trees (raw tag (formatted f content xs)) h = false-true h
line-trees (raw tag (link a t content xs)) h = false-true h
line-trees (raw tag (image a t content xs)) h = false-true h
line-trees (raw tag (line_break xs)) h = false-true h
line-trees (raw tag (task d xs)) h = false-true h
