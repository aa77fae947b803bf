-- Each line of a paragraph that is written of normal inlines goes on with the paragraph.
use Rattle.std.proofs.Common.{◌≡◌, ◌∙◌, refl, ap, sym, subst, ℕ, Bool, true, false, List, [], ◌∷◌, ◌++◌, Option, Some}
use Rattle.std.proofs.Common.{None, codes, append_assoc}
use Rattle.std.specs.Prelude.{◌==◌, ◌&&◌, ◌||◌, if◌then◌else◌, not, is_none}
use Rattle.std.specs.List.{list_all}
use Rattle.std.specs.List as lists
use Rattle.std.specs.Str.{IsUtf8, is_utf8}
use Rattle.std.proofs.lemmas.Bool.{and_parts, or_parts, eqb-true, not-true}
use Rattle.std.proofs.lemmas.Str.{IsUtf8-append}
use Rattle.std.proofs.lemmas.List.Splits.{slice_split-cons_yes, slice_split-cons_no}
use Rattle.htmd_lexical.specs.Characters.{is_one_of}
use Rattle.htmd_text.specs.Trims.{is_line_feed}
use Rattle.htmd_document.specs.Formats.{Format}
use Rattle.htmd_document.specs.Formats.{Deleted}
use Rattle.htmd_document.specs.Documents.{Inline, text, code, formatted, link, image, line_break, task}
use Rattle.htmd_document.specs.Documents.{Inlines}
use Rattle.htmd_law_texts.proofs.InlineStarts.{anchor_line}
use Rattle.htmd_document.specs.Tags as html
use Rattle.htmd_document.specs.Documents.{anchor}
use Rattle.htmd_commonmark.specs.declared.line.Line.{Line}
use Rattle.htmd_commonmark.specs.declared.inline_ends.Following.{Following}
use Rattle.htmd_commonmark.specs.Addresses.{is_autolink}
use Rattle.htmd_commonmark.specs.BlockMarkdown.{is_or_has_break}
use Rattle.htmd_commonmark.specs.InlineMarkdown.{sides_of, place_of, written_code, needs_tags, is_autolinked}
use Rattle.htmd_commonmark.specs.InlineMarkdown.{is_text_alone, prefers_autolinks, in_link}
use Rattle.htmd_commonmark.specs.TextEscapes.{escaped}
use Rattle.htmd_commonmark.specs.WrittenText as written_text
use Rattle.htmd_commonmark.specs.WrittenText.{Written, wrote, is_cell, begins_line}
use Rattle.htmd_law_blocks.specs.LineTexts.{IsFirstLine, IsFurtherLine, AreFurtherLines, is_line_character, lines_of}
use Rattle.htmd_document.specs.NormalInlines.{is_normal, are_normal, has_none, is_around, is_barred, first_passes, is_break}
use Rattle.htmd_document.specs.NormalInlines.{begins_with_space, is_text, is_attribute, is_title, is_kept}
use Rattle.htmd_law_inlines.proofs.TextPieces.{test}
use Rattle.htmd_law_texts.proofs.WrittenPieces.{pieces, piece, text_piece, row_sign, row_signs, row_format, opener}
use Rattle.htmd_law_texts.proofs.WrittenPieces.{closer, format_title, mark_cases}
use Rattle.htmd_law_texts.proofs.PieceTexts.{is_allowed, all_append, all_by, kept_allowed, piece_in, row_all}
use Rattle.htmd_law_texts.proofs.PieceTexts.{opener_all, text_plain}
use Rattle.htmd_law_texts.proofs.PieceUtf8.{row_utf8, opener_utf8}
use Rattle.htmd_law_texts.proofs.LineStarts.{Both}
use Rattle.htmd_law_texts.proofs.TextStarts.{IsNext, heads}
use Rattle.htmd_law_texts.proofs.TextFirst.{text_line}
use Rattle.htmd_law_texts.proofs.InlineStarts.{solid, is_row_sign, solid_first, span_line, row_line, opener_further}
use Rattle.htmd_law_texts.proofs.InlineStarts.{opener_first, code_tag_further, bracket_line, image_line, autolink_line}
use Rattle.htmd_law_texts.proofs.PieceFirsts.{IsParagraph, fits_first, row_before, opener_before, no_text, format_parts}
use Rattle.htmd_law_texts.proofs.PieceFirsts.{trimmed_first, solid_pieces, no_tilde_pieces}

-- ---- lines

abbrev pub first_line : List ℕ → List ℕ
first_line [] = []
first_line (c ∷ s) = if c == 10 then [] else c ∷ first_line s

-- each line after the first goes on with a paragraph
abbrev pub AllBegun : List ℕ → Type 0
AllBegun [] = Unit {0}
AllBegun (c ∷ s) = ((c == 10) ≡ true → IsFurtherLine (first_line s)) × AllBegun s

-- and the first too, if it is one
abbrev pub Starts : Bool → List ℕ → Type 0
Starts b s = (b ≡ true → IsFurtherLine (first_line s)) × AllBegun s

abbrev pub IsClean : List ℕ → Type 0
IsClean s = list_all (is_allowed false) s ≡ true

clean_parts : (c : ℕ) (s : List ℕ) → IsClean (c ∷ s) → ((c == 10) ≡ false) × IsClean s
clean_parts c s h =
    let p = and_parts (is_allowed false c) (list_all (is_allowed false) s) h in (
      test (c == 10)
          (λ e. let x : false ≡ true = rw e at (and_parts _ (not (c == 10) || false) p.0).1 in absurd (cc))
          (λ e. e),
      p.1,
    )

pub line_append : (t k : List ℕ) → IsClean t → first_line (t ++ k) ≡ t ++ first_line k
line_append [] k h = refl
line_append (c ∷ t) k h = let p = clean_parts c t h in rw p.0 (ap (λ l. c ∷ l) (line_append t k p.1))

pub begun_append : (t k : List ℕ) → IsClean t → AllBegun k → AllBegun (t ++ k)
begun_append [] k h a = a
begun_append (c ∷ t) k h a =
    let p = clean_parts c t h in
    (λ e. let x : true ≡ false = sym e ∙ p.0 in absurd (cc), begun_append t k p.1 a)

pub starts_append : (t k : List ℕ) → IsClean t → AllBegun k → Starts false (t ++ k)
starts_append t k h a = (λ e. absurd (cc), begun_append t k h a)

pub lines_are : (s : List ℕ) → AllBegun s
    → (ls : List (List ℕ)) × ((lines_of s ≡ first_line s ∷ ls) × AreFurtherLines ls)
lines_are [] a = ([], (refl, tt))
lines_are (c ∷ s) a =
    let i = lines_are s a.1 in
    test (c == 10)
    (λ e. (
      first_line s ∷ i.0,
      (
        slice_split-cons_yes is_line_feed c s e ∙ ap (λ l. [] ∷ l) i.1.0 ∙ rw e refl,
        (a.0 e, i.1.1),
      ),
    ))
    (λ e. (
      i.0,
      (slice_split-cons_no is_line_feed c s e ∙ ap (lists.onto_first c) i.1.0 ∙ rw e refl, i.1.1),
    ))

-- a text without ends of lines is plain and one line
pub plain_of_clean : (s : List ℕ) → IsClean s → list_all is_line_character s ≡ true
plain_of_clean s h = all_by (is_allowed false) is_line_character (λ c a. (and_parts (is_line_character c) _ a).0) s h

pub clean_line : (s : List ℕ) → IsClean s → lines_of s ≡ s ∷ []
clean_line [] h = refl
clean_line (c ∷ s) h =
    let p = clean_parts c s h in
    slice_split-cons_no is_line_feed c s p.0 ∙ ap (lists.onto_first c) (clean_line s p.1)

-- ---- what may follow in the line

next_line : (after : Option ℕ) (k : List ℕ) → IsNext after k → IsNext after (first_line k)
next_line None k n = ap first_line n
next_line (Some g) [] n = absurd n
next_line (Some g) (h ∷ k) n =
    let no : (h == 10) ≡ false =
    test (h == 10)
    (λ e. let is = eqb-true h 10 e in
    test (g == 10)
    (λ x. let y : false ≡ true = ap (is_one_of (codes "\\ ")) (sym is) ∙ n.1 x in absurd (cc))
    (λ x. let y : false ≡ true = ap (is_one_of (codes "`*_~<[]!\\")) (sym is) ∙ n.2 x in absurd (cc)))
    (λ e. e) in
    let w : h ∷ first_line k ≡ first_line (h ∷ k) = rw no refl in
    subst (IsNext (Some g)) w n

-- ---- an inline at the beginning of a line

-- a format begins with a break
abbrev pub leads_with_break : Inline → Bool
leads_with_break (formatted g content) = first_passes is_break content
leads_with_break _ = false

-- a line of a paragraph, and the first one if this holds
abbrev Begins : Bool → List ℕ → Type 0
Begins b l = IsFurtherLine l × (b ≡ false → IsFirstLine l)

both_begin : (b : Bool) (l : List ℕ) → Both l → Begins b l
both_begin b l h = (h.1, λ e. h.0)

none_is : (o : Option ℕ) → is_none o ≡ true → o ≡ None
none_is None h = refl
none_is (Some c) h = absurd (cc)

solid_line : (s : List ℕ) → solid s ≡ true → solid (first_line s) ≡ true
solid_line [] h = h
solid_line (c ∷ s) h =
    test (c == 10)
    (λ e. let x : solid (10 ∷ s) ≡ true = ap (λ d. solid (d ∷ s)) (sym (eqb-true c 10 e)) ∙ h in absurd (cc))
    (λ e. rw e (test (is_row_sign c) (λ x. rw x (solid_line s (rw x at h))) (λ x. rw x (rw x at h))))

no_tilde_line : (s : List ℕ) → heads (λ c. c == 126) s ≡ false → heads (λ c. c == 126) (first_line s)
    ≡ false
no_tilde_line [] h = refl
no_tilde_line (c ∷ s) h = test (c == 10) (λ e. rw e refl) (λ e. rw e h)

pub text_begins : (line : Line) → IsParagraph line → (w : Written) (f : Following) (s k : List ℕ)
    → begins_line w.text ≡ true → is_text s ≡ true → begins_with_space (text s) ≡ false → IsNext f.after k
    → Begins false (text_piece line w.text f s ++ first_line k)
text_begins line p w f [] k b h n x = absurd (no_text h)
text_begins line p w f (c ∷ t) k b h n x =
    let place = place_of line w.text f.after in
    let is : text_piece line w.text f (c ∷ t) ≡ escaped place (c ∷ t) = rw p.no_heading refl in
    subst (λ l. Begins false (l ++ first_line k)) (sym is)
    (both_begin false (escaped place (c ∷ t) ++ first_line k)
    (text_line place c t (first_line k) (record {
      begins = rw (b, p.no_one_line) refl;
      before = none_is (written_text.character_before w.text) b;
      plain = text_plain (c ∷ t) h;
      no_space = n;
      next = next_line f.after k x;
    })))

pub code_begins : (line : Line) → IsParagraph line → (s k : List ℕ) → is_text s ≡ true
    → Begins line.in_link (written_code line s ++ k)
code_begins line p [] k h = absurd (no_text h)
code_begins line p (c ∷ s) k h =
    test (needs_tags line (c ∷ s))
    (λ e. let x : line.in_link ≡ true =
    test line.in_link (λ y. y) (λ y. let z : false ≡ true = rw (p.no_cell, y) at e in absurd (cc)) in
    rw e (code_tag_further _, λ y. let z : true ≡ false = sym x ∙ y in absurd (cc)))
    (λ e. rw e (both_begin line.in_link _ (span_line c s k)))

autolinked : (line : Line) (a : List ℕ) (t : Option (List ℕ)) (content : Inlines)
    → is_autolinked line a t content ≡ true → is_autolink a ≡ true
autolinked line a t content h =
    let x0 = prefers_autolinks line.link_style && is_none t && is_text_alone a content in
    (and_parts x0 (is_autolink a) (and_parts (x0 && is_autolink a) (not (is_cell line.kind)) h).0).1

pub address_clean : (a : List ℕ) → is_attribute a ≡ true → IsClean (codes "<" ++ (a ++ codes ">"))
address_clean a h =
    all_append (is_allowed false) a (codes ">")
    (all_by is_kept (is_allowed false) (kept_allowed false) a (and_parts (is_utf8 a) (list_all is_kept a) h).1) refl

-- the parts of a link's normal form
pub link_parts : (in_link : Bool) (around : List Format) (a : List ℕ) (t : Option (List ℕ)) (content : Inlines)
    → is_normal in_link around (link a t content) ≡ true
    → (in_link ≡ false) × (is_attribute a ≡ true) × (is_title t ≡ true) × (has_none content ≡ false)
    × (are_normal true around content ≡ true)
link_parts in_link around a t content h =
    let x0 = not in_link in
    let x1 = is_attribute a in
    let x2 = is_title t in
    let x3 = not (has_none content) in
    let p = and_parts (x0 && x1 && x2 && x3) (are_normal true around content) h in
    let q = and_parts (x0 && x1 && x2) x3 p.0 in
    let r = and_parts (x0 && x1) x2 q.0 in
    let v = and_parts x0 x1 r.0 in
    (not-true in_link v.0, v.1, r.1, not-true (has_none content) q.1, p.1)

weaker : (a b : Bool) (l : List ℕ) → Begins a l → Begins (a || b) l
weaker a b l h = (h.0, λ e. h.1 (or_parts a b e).0)

pub clean_piece : (line : Line) → IsParagraph line
    → (w : Written) (f : Following) (around : List Format) (x : Inline)
    → is_normal line.in_link around x ≡ true → is_or_has_break x ≡ false → IsClean (piece line w f x)
clean_piece line p w f around x h n = piece_in false line w f around x h (rw (p.no_one_line, n) refl)

-- what is written of an inline, and after it
pub inline_begins : (line : Line) → IsParagraph line
    → (w : Written) (f : Following) (around : List Format) (x : Inline)
    (k : List ℕ) → IsUtf8 w.text → begins_line w.text ≡ true → is_break x ≡ false → begins_with_space x
    ≡ false
    → is_normal line.in_link around x ≡ true → ((s : List ℕ) → x ≡ text s → IsNext f.after k)
    → Begins (line.in_link || leads_with_break x) (first_line (piece line w f x ++ k))
inline_begins line p w f around (text s) k u b n sp h x =
    let t = piece line w f (text s) in
    subst (Begins (line.in_link || false)) (sym (line_append t k (clean_piece line p w f around (text s) h refl)))
    (let y = text_begins line p w f s k b h sp (x s refl) in (y.0, λ e. y.1 refl))
inline_begins line p w f around (code s) k u b n sp h x =
    let t = piece line w f (code s) in
    subst (Begins (line.in_link || false)) (sym (line_append t k (clean_piece line p w f around (code s) h refl)))
    (weaker line.in_link false (t ++ first_line k)
    (code_begins line p s (first_line k) (and_parts (is_text s) _ h).0))
inline_begins line p w f around (formatted g content) k u b n sp h x =
    let q = format_parts line.in_link around g content h in
    let y = first_passes is_break content in
    mark_cases (λ g' m. is_barred around g' ≡ false → are_normal line.in_link (g' ∷ around) content ≡ true
    → Begins (line.in_link || y)
    (first_line ((m.opener ++ (pieces line (wrote w m.opener) (Some m.sign) content ++ m.closer)) ++ k)))
    g (sides_of line w.text f content)
    (λ r e a j. let o = row_signs r in
    let t = pieces line (wrote w o) (Some (row_sign r)) content in
    let u' = IsUtf8-append w.text o u (row_utf8 r) in
    let first = fits_first line p (row_sign r) w.text f content e in
    let all = t ++ (o ++ k) in
    let is : first_line ((o ++ (t ++ o)) ++ k) ≡ o ++ first_line all =
    ap first_line (append_assoc o (t ++ o) k ∙ ap (λ l. o ++ l) (append_assoc t o k))
    ∙ line_append o all (row_all false r)
    in
    let solid_all = solid_pieces line p (wrote w o) (Some (row_sign r)) (row_format r ∷ around) content (o ++ k) u'
    (row_before w.text r u) q.1 first (trimmed_first content q.2) j in
    subst (Begins (line.in_link || y)) (sym is)
    (both_begin (line.in_link || y) (o ++ first_line all)
    (row_line r (first_line all) (solid_line all solid_all)
    (λ z. no_tilde_line all
    (no_tilde_pieces line p (wrote w o) (Some (row_sign r)) (row_format r ∷ around) content (o ++ k)
    (ap (λ r. is_around (row_format r ∷ around) Deleted) z) q.1 first j)))))
    (λ r i a j. let o = opener r in
    let titled = i (format_title line.in_link around g content h) in
    let t = pieces line (wrote w o) (Some 60) content in
    let u' = IsUtf8-append w.text o u (opener_utf8 r titled) in
    let all = t ++ (closer r ++ k) in
    let is : first_line ((o ++ (t ++ closer r)) ++ k) ≡ o ++ first_line all =
    ap first_line (append_assoc o (t ++ closer r) k ∙ ap (λ l. o ++ l) (append_assoc t (closer r) k))
    ∙ line_append o all (opener_all false r titled) in
    subst (Begins (line.in_link || y)) (sym is) (
      opener_further r (first_line all),
      λ e. opener_first r (first_line all) (solid_first (first_line all) (solid_line all
          (solid_pieces line p (wrote w o) (Some 60) (g ∷ around) content (closer r ++ k) u'
          (opener_before w.text r u titled) q.1 (or_parts line.in_link y e).1 (trimmed_first content q.2) q.3))),
    ))
    q.0 q.3
inline_begins line p w f around (link a t content) k u b n sp h x =
    test (is_autolinked line a t content)
    (λ e. let q = link_parts line.in_link around a t content h in
    let y : first_line ((a ++ (62 ∷ [])) ++ k) ≡ a ++ (62 ∷ first_line k) =
    line_append (a ++ (62 ∷ [])) k (address_clean a q.1) ∙ append_assoc a (62 ∷ []) (first_line k) in
    rw e (subst (λ l. Begins (line.in_link || false) (60 ∷ l)) (sym y)
    (both_begin (line.in_link || false) (60 ∷ (a ++ (62 ∷ first_line k)))
    (autolink_line a (first_line k) (autolinked line a t content e)))))
    (λ e. rw e (both_begin (line.in_link || false) _ (bracket_line _)))
inline_begins line p w f around (image a t d) k u b n sp h x =
    both_begin (line.in_link || false) _ (image_line _)
inline_begins line p w f around (anchor id) k u b n sp h x =
    let t = html.anchor id in
    subst (Begins (line.in_link || false)) (sym (line_append t k (clean_piece line p w f around (anchor id) h refl)))
    (both_begin (line.in_link || false) (t ++ first_line k) (anchor_line id (first_line k)))
inline_begins line p w f around line_break k u b n sp h x = absurd (cc)
inline_begins line p w f around (task m) k u b n sp h x = absurd (cc)
