-- Anchors as they are written and read: two tags.
use Rattle.std.proofs.Common.{◌≡◌, ◌∙◌, refl, ap, sym, ℕ, Bool, true, List, [], ◌∷◌, ◌++◌, Some, codes, subst}
use Rattle.std.specs.Prelude.{not, ◌==◌, nat_lt}
use Rattle.std.specs.List.{list_all}
use Rattle.std.specs.Str.{IsUtf8}
use Rattle.std.proofs.lemmas.Bool.{and_parts, not-true, ltb-true}
use Rattle.std.proofs.lemmas.Grind.{flat_map-append}
use Rattle.std.proofs.lemmas.List.{append_assoc, append-nil}
use Rattle.std.proofs.lemmas.Str.{IsUtf8-append}
use Rattle.htmd_document.specs.Tags.{in_value, in_value_char, escaped_value, anchor_tag, end_of_anchor}
use Rattle.htmd_document.specs.Tags.{abbreviation_tag}
use Rattle.htmd_document.specs.Tags as html
use Rattle.htmd_document.proofs.TagsLemmas.{encoded}
use Rattle.htmd_commonmark_reading.specs.Characters.{one_more}
use Rattle.htmd_commonmark_reading.specs.Markup.{no_inlines, raw}
use Rattle.htmd_commonmark_reading.specs.Brackets.{References}
use Rattle.htmd_commonmark_reading.specs.InlineTokens.{angle}
use Rattle.htmd_commonmark_reading.specs.RawTags.{tag_rest, in_quotes}
use Rattle.htmd_law_inlines.proofs.Pieces.{IsRead, both_read, pushed}
use Rattle.htmd_law_inlines.proofs.OpenRuns.{RowFormat}
use Rattle.htmd_law_inlines.proofs.Nested.{anywhere}
use Rattle.htmd_law_inlines.proofs.LeafPieces.{IsShown}
use Rattle.htmd_law_inlines.proofs.PlainPieces.{tag_plain}
use Rattle.htmd_law_inlines.proofs.SoundPieces.{EndsIn, then_end}
use Rattle.htmd_law_inlines.proofs.SeenPieces.{anchor_seen}
use Rattle.htmd_law_inlines.proofs.TagPieces.{IsTag, tag_read}
use Rattle.htmd_law_inlines.proofs.AnchorValues.{unquoted}
use Rattle.htmd_law_inlines.proofs.TextPieces.{test}
use Rattle.htmd_law_inlines.proofs.WalkPieces.{ascii_utf8}
use lib.Utf8.{encode, encodes, scalar, scalars}

-- ---- the tags are read

pub quoted : (v ks : List ℕ) → list_all (λ c. not (c == 34)) v ≡ true
    → tag_rest (in_quotes 34) (v ++ (34 ∷ 62 ∷ ks)) ≡ Some (v ++ (34 ∷ 62 ∷ []))
quoted [] ks h = refl
quoted (c ∷ v) ks h =
    let p = and_parts (not (c == 34)) (list_all (λ c. not (c == 34)) v) h in
    rw (not-true (c == 34) p.0) (ap (one_more c) (quoted v ks p.1))

-- a tag without its `<`
abbrev rest_of_tag : List ℕ → List ℕ
rest_of_tag id = (codes "a id=\"" ++ escaped_value id) ++ codes "\">"

is_tag : (id : List ℕ) → IsTag (rest_of_tag id)
is_tag id ks =
    let v = escaped_value id in
    let e : rest_of_tag id ++ ks ≡ codes "a id=\"" ++ (v ++ (34 ∷ 62 ∷ ks)) =
    append_assoc (codes "a id=\"" ++ v) (codes "\">") ks in
    ap angle e ∙ rw (quoted v ks (unquoted id)) refl

opens_anchor : (refs : References) (in_link : Bool) (before id ks : List ℕ)
    → IsRead refs in_link before (anchor_tag id) ks (raw (anchor_tag id) no_inlines)
opens_anchor refs in_link before id ks = tag_read refs in_link before (rest_of_tag id) ks (is_tag id)

closes_anchor : (refs : References) (in_link : Bool) (before ks : List ℕ)
    → IsRead refs in_link before end_of_anchor ks (raw end_of_anchor no_inlines)
closes_anchor refs in_link before ks = tag_read refs in_link before (codes "/a>") ks (λ ks. refl)

pub anchor_shown : (may : Bool) (around : List RowFormat) (refs : References) (in_link : Bool) (before ks id : List ℕ)
    → IsShown may around refs in_link before (html.anchor id) ks (raw (anchor_tag id) (raw end_of_anchor no_inlines))
anchor_shown may around refs in_link before ks id = record {
  raw_inlines = raw (anchor_tag id) (raw end_of_anchor no_inlines);
  reads = anywhere around refs in_link before (html.anchor id) ks (raw (anchor_tag id) (raw end_of_anchor no_inlines))
      (both_read refs in_link before (anchor_tag id) end_of_anchor ks (raw (anchor_tag id) no_inlines)
      (raw end_of_anchor no_inlines) (opens_anchor refs in_link before id (end_of_anchor ++ ks))
      (closes_anchor refs in_link (pushed (anchor_tag id) before) ks));
  shows = anchor_seen id;
  plain = tag_plain may (anchor_tag id) (raw end_of_anchor no_inlines) refl
      (tag_plain may end_of_anchor no_inlines refl refl);
}

-- ---- their text

pub anchor_end : (id : List ℕ) → EndsIn 62 (html.anchor id)
anchor_end id = then_end 62 (anchor_tag id) end_of_anchor (codes "</a", refl)

references_utf8 : (IsUtf8 (codes "&amp;")) × (IsUtf8 (codes "&lt;")) × (IsUtf8 (codes "&gt;"))
    × (IsUtf8 (codes "&quot;")) × (IsUtf8 (codes "&#124;")) × (IsUtf8 (codes "&#93;"))
unfolding encode
references_utf8 = (
  (codes "&amp;", (refl, refl)),
  (codes "&lt;", (refl, refl)),
  (codes "&gt;", (refl, refl)),
  (codes "&quot;", (refl, refl)),
  (codes "&#124;", (refl, refl)),
  (codes "&#93;", (refl, refl)),
)

tags_utf8 : (IsUtf8 (codes "<a id=\"")) × (IsUtf8 (codes "\">")) × (IsUtf8 end_of_anchor)
unfolding encode
tags_utf8 = ((codes "<a id=\"", (refl, refl)), (codes "\">", (refl, refl)), (end_of_anchor, (refl, refl)))

char_utf8 : (c : ℕ) → scalar c ≡ true → IsUtf8 (in_value_char c)
char_utf8 c h =
    test (nat_lt c 128)
    (λ l. rw l (test (c == 38) (λ e. rw e references_utf8.0)
    (λ n1. test (c == 60) (λ e. rw (n1, e) references_utf8.1)
    (λ n2. test (c == 62) (λ e. rw (n1, n2, e) references_utf8.2)
    (λ n3. test (c == 34) (λ e. rw (n1, n2, n3, e) references_utf8.3)
    (λ n4. test (c == 124) (λ e. rw (n1, n2, n3, n4, e) references_utf8.4)
    (λ n5. test (c == 93) (λ e. rw (n1, n2, n3, n4, n5, e) references_utf8.5)
    (λ n6. rw (n1, n2, n3, n4, n5, n6) (ascii_utf8 c (ltb-true c 128 l) h)))))))))
    (λ l. rw l (c ∷ [], (rw h refl, append-nil (encode c))))

value_utf8 : (cs : List ℕ) → scalars cs ≡ true → IsUtf8 (escaped_value (encodes cs))
value_utf8 [] h = ([], (refl, refl))
value_utf8 (c ∷ cs) h =
    let p = and_parts (scalar c) (scalars cs) h in
    let rest = escaped_value (encodes cs) in
    let e : escaped_value (encodes (c ∷ cs)) ≡ in_value_char c ++ rest =
    flat_map-append in_value (encode c) (encodes cs) ∙ ap (λ l. l ++ rest) (encoded c) in
    subst IsUtf8 (sym e) (IsUtf8-append (in_value_char c) rest (char_utf8 c p.0) (value_utf8 cs p.1))

pub anchor_utf8 : (id : List ℕ) → IsUtf8 id → IsUtf8 (html.anchor id)
anchor_utf8 id (cs, (h, e)) =
    let v : IsUtf8 (escaped_value id) = subst (λ x. IsUtf8 (escaped_value x)) e (value_utf8 cs h) in
    IsUtf8-append (anchor_tag id) end_of_anchor
    (IsUtf8-append (codes "<a id=\"" ++ escaped_value id) (codes "\">")
    (IsUtf8-append (codes "<a id=\"") (escaped_value id) tags_utf8.0 v) tags_utf8.1) tags_utf8.2

title_tags_utf8 : (IsUtf8 (codes "<abbr title=\"")) × (IsUtf8 (codes "\">"))
unfolding encode
title_tags_utf8 = ((codes "<abbr title=\"", (refl, refl)), (codes "\">", (refl, refl)))

-- the tag of an abbreviation up to the quotation mark behind its title
pub front_utf8 : (title : List ℕ) → IsUtf8 title → IsUtf8 (codes "<abbr title=\"" ++ escaped_value title)
front_utf8 title (cs, (h, e)) =
    IsUtf8-append (codes "<abbr title=\"") (escaped_value title) title_tags_utf8.0
    (subst (λ x. IsUtf8 (escaped_value x)) e (value_utf8 cs h))

pub abbreviation_utf8 : (title : List ℕ) → IsUtf8 title → IsUtf8 (abbreviation_tag title)
abbreviation_utf8 title h =
    IsUtf8-append (codes "<abbr title=\"" ++ escaped_value title) (codes "\">") (front_utf8 title h) title_tags_utf8.1
