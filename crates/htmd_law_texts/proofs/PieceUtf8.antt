-- What is written of normal inlines is UTF-8, and the last character of what was written is what stands before.
use Rattle.std.proofs.Common.{◌≡◌, ◌∙◌, refl, ap, sym, subst, ℕ, suc, ◌<◌, Bool, true, false, List, [], ◌∷◌, ◌++◌}
use Rattle.std.proofs.Common.{Option, Some, None, codes, arith}
use Rattle.std.specs.Prelude.{length, nat_lt, replicate, not, ◌&&◌}
use Rattle.std.specs.List.{list_all}
use Rattle.std.specs.Str.{IsUtf8, is_utf8}
use Rattle.std.specs.Char.{is_ascii_digit}
use Rattle.std.specs.Fmt.{decimal}
use Rattle.std.proofs.lemmas.Bool.{and_parts, ltb-true}
use Rattle.std.proofs.lemmas.Bool.Decides.{nat_tests}
use Rattle.std.proofs.lemmas.List.{append-nil}
use Rattle.std.proofs.lemmas.Str.{IsUtf8-append, IsUtf8-from_is_utf8, IsUtf8-nil, encodes-append, encode_ascii}
use Rattle.htmd_text.specs.EscapedPlaces.{with_backslashes}
use Rattle.htmd_document.specs.Formats.{Format}
use Rattle.htmd_document.specs.Documents.{Inline, text, code, formatted, link, image, line_break, task}
use Rattle.htmd_document.specs.Documents.{Inlines, no_inlines, inline}
use Rattle.htmd_markdown.specs.declared.link.LinkStyle.{LinkStyle}
use Rattle.htmd_markdown.specs.declared.link.LinkStyle.TheVariants.{Inlined, InlinedPreferAutolinks, Referenced}
use Rattle.htmd_markdown.specs.declared.line_break.BrStyle.{BrStyle}
use Rattle.htmd_markdown.specs.declared.line_break.BrStyle.TheVariants.{TwoSpaces, Backslash}
use Rattle.htmd_markdown.specs.LineBreaks as breaks
use Rattle.htmd_markdown.specs.CodeSpans.{meets_delimiter, smallest_unused_len, space_if}
use Rattle.htmd_law_inlines.proofs.AnchorPieces.{anchor_utf8, abbreviation_utf8}
use Rattle.htmd_document.specs.Documents.{anchor}
use Rattle.htmd_commonmark.specs.declared.line.Line.{Line}
use Rattle.htmd_commonmark.specs.declared.inline_ends.Following.{Following}
use Rattle.htmd_commonmark.specs.declared.text_escape.Place.{Place}
use Rattle.htmd_commonmark.specs.CharacterKinds as writer
use Rattle.htmd_commonmark.specs.CodeSpans.{code_span}
use Rattle.htmd_commonmark.specs.InlineEnds.{follows}
use Rattle.htmd_commonmark.specs.InlineMarkdown.{written, with_inline, sides_of, written_code, needs_tags}
use Rattle.htmd_commonmark.specs.InlineMarkdown.{place_in_tags, written_break, written_resource, place_of_description}
use Rattle.htmd_commonmark.specs.InlineMarkdown.{is_autolinked, in_link, place_of}
use Rattle.htmd_commonmark.specs.TextEscapes.{escaped, is_marked}
use Rattle.htmd_commonmark.specs.WrittenText.{Written, wrote, is_one_line, is_heading, character_before, in_line}
use Rattle.htmd_document.specs.NormalInlines.{is_normal, are_normal, is_text, is_trimmed, is_line, is_attribute, is_title, is_kept}
use Rattle.htmd_law_inlines.proofs.TextPieces.{test}
use Rattle.htmd_law_inlines.proofs.TextRead.{escapes_of}
use Rattle.htmd_law_inlines.proofs.TextMarks.{marks_all, are_due}
use Rattle.htmd_law_inlines.proofs.ReferencePieces.{AreEscapes}
use Rattle.htmd_law_inlines.proofs.HeadPieces.{scalars_one_more}
use Rattle.htmd_law_inlines.proofs.RowsRead.{last_of_encodes}
use Rattle.htmd_law_inlines.proofs.WalkPieces.{ascii_utf8, escaped_utf8}
use Rattle.htmd_law_inlines.proofs.Utf8Pieces.{resource_utf8}
use Rattle.htmd_law_texts.proofs.WrittenPieces.{pieces, piece, text_piece, link_end, Row, row_sign, row_signs, star}
use Rattle.htmd_law_texts.proofs.WrittenPieces.{stars, score, scores, tildes, Tag, em_tag, strong_tag, del_tag, sup_tag}
use Rattle.htmd_law_texts.proofs.WrittenPieces.{sub_tag, ins_tag, u_tag, mark_tag, small_tag, kbd_tag, abbr_tag, opener}
use Rattle.htmd_law_texts.proofs.WrittenPieces.{closer, is_titled, format_title, mark_cases}
use Rattle.htmd_law_texts.proofs.PieceTexts.{all_by, all_replicate, decimal_digits}
use lib.Utf8.{encode, encodes, scalar, low_scalar}

-- ---- ASCII

abbrev pub is_small : ℕ → Bool
is_small c = nat_lt c 128

small_scalar : (c : ℕ) → c < 128 → scalar c ≡ true
small_scalar c h = low_scalar c (omega arith)

pub small_utf8 : (s : List ℕ) → list_all is_small s ≡ true → IsUtf8 s
small_utf8 [] h = IsUtf8-nil
small_utf8 (c ∷ s) h =
    let p = and_parts (is_small c) (list_all is_small s) h in
    let l = ltb-true c 128 p.0 in
    IsUtf8-append (c ∷ []) s (ascii_utf8 c l (small_scalar c l)) (small_utf8 s p.1)

digit_small : (c : ℕ) → is_ascii_digit c ≡ true → is_small c ≡ true
digit_small c h = grind (arith, nat_tests)

-- ---- the last character

-- what ends in a character of ASCII
pub before_ascii : (s : List ℕ) (c : ℕ) → IsUtf8 s → c < 128 → character_before (s ++ (c ∷ []))
    ≡ in_line (Some c)
before_ascii s c (cs, (h, e)) l =
    let is : encodes (cs ++ (c ∷ [])) ≡ s ++ (c ∷ []) =
    encodes-append cs (c ∷ []) ∙ ap (λ x. x ++ (encode c ++ [])) e
    ∙ ap (λ x. s ++ x) (append-nil (encode c) ∙ encode_ascii c l) in
    ap (λ x. in_line (writer.last_character x)) (sym is)
    ∙ ap in_line (last_of_encodes cs c (scalars_one_more cs c h (small_scalar c l)))

-- ---- pieces

pub escapes_in : (place : Place) (s : List ℕ) → AreEscapes (is_marked place s) 0 s
escapes_in place s =
    escapes_of place (is_marked place s) 0 s (are_due place s (is_marked place s) (marks_all place s) [] s 0 refl refl)

text_utf8 : (place : Place) (s : List ℕ) → IsUtf8 s → IsUtf8 (escaped place s)
text_utf8 place s (cs, (h, e)) =
    subst (λ x. IsUtf8 (with_backslashes (is_marked place s) 0 x)) e
    (escaped_utf8 (is_marked place s) 0 cs h (subst (AreEscapes (is_marked place s) 0) (sym e) (escapes_in place s)))

pub text_is_utf8 : (s : List ℕ) → is_text s ≡ true → IsUtf8 s
text_is_utf8 s h =
    IsUtf8-from_is_utf8 s (and_parts (is_utf8 s) _ (and_parts (is_line s) _ (and_parts _ _ h).0).0).0

piece_utf8 : (line : Line) (so_far : List ℕ) (f : Following) (s : List ℕ) → is_heading line.kind ≡ false
    → IsUtf8 s
    → IsUtf8 (text_piece line so_far f s)
piece_utf8 line so_far f s h u = rw h (text_utf8 (place_of line so_far f.after) s u)

pad_utf8 : (x : Bool) → IsUtf8 (space_if x)
pad_utf8 true = small_utf8 (codes " ") refl
pad_utf8 false = IsUtf8-nil

span_utf8 : (s : List ℕ) → IsUtf8 s → IsUtf8 (code_span s)
span_utf8 s u =
    let n = smallest_unused_len s in
    let x = space_if (meets_delimiter s) in
    let g = replicate n 96 in
    let gs = small_utf8 g (all_replicate is_small n 96 refl) in
    let xs = pad_utf8 (meets_delimiter s) in
    IsUtf8-append (((g ++ x) ++ s) ++ x) g
    (IsUtf8-append ((g ++ x) ++ s) x (IsUtf8-append (g ++ x) s (IsUtf8-append g x gs xs) u) xs) gs

code_utf8 : (line : Line) (s : List ℕ) → IsUtf8 s → IsUtf8 (written_code line s)
code_utf8 line s u =
    let e = escaped (place_in_tags line) s in
    test (needs_tags line s)
    (λ t. rw t (IsUtf8-append (codes "<code>" ++ e) (codes "</code>")
    (IsUtf8-append (codes "<code>") e (small_utf8 (codes "<code>") refl) (text_utf8 (place_in_tags line) s u))
    (small_utf8 (codes "</code>") refl)))
    (λ t. rw t (span_utf8 s u))

abbrev value : List ℕ → Option (List ℕ) → List ℕ
value x None = x
value x (Some s) = s

title_utf8 : (t : Option (List ℕ)) → is_title t ≡ true → (s : List ℕ) → t ≡ Some s → IsUtf8 s
title_utf8 None h s e = absurd (cc)
title_utf8 (Some x) h s e =
    subst IsUtf8 (ap (value x) e)
    (IsUtf8-from_is_utf8 x (and_parts (is_utf8 x) _ (and_parts (is_attribute x) _ (and_parts _ _ h).0).0).0)

end_utf8 : (style : LinkStyle) (n : ℕ) (a : List ℕ) (t : Option (List ℕ)) → IsUtf8 a → is_title t ≡ true
    → IsUtf8 (link_end style n a t)
end_utf8 Referenced n a t u h =
    IsUtf8-append (codes "][" ++ decimal (suc n)) (codes "]")
    (IsUtf8-append (codes "][") (decimal (suc n)) (small_utf8 (codes "][") refl)
    (small_utf8 (decimal (suc n)) (all_by is_ascii_digit is_small digit_small (decimal (suc n))
    (decimal_digits (suc n)))))
    (small_utf8 (codes "]") refl)
end_utf8 Inlined n a t u h = resource_utf8 a t u (title_utf8 t h)
end_utf8 InlinedPreferAutolinks n a t u h = resource_utf8 a t u (title_utf8 t h)

style_utf8 : (style : BrStyle) → IsUtf8 (breaks.line_break style)
style_utf8 TwoSpaces = small_utf8 (codes "  \n") refl
style_utf8 Backslash = small_utf8 (codes "\\\n") refl

break_utf8 : (line : Line) → IsUtf8 (written_break line)
break_utf8 line =
    test (is_one_line line.kind) (λ e. rw e (small_utf8 (codes "<br>") refl)) (λ e. rw e (style_utf8 line.br_style))

pub row_utf8 : (r : Row) → IsUtf8 (row_signs r)
row_utf8 star = small_utf8 (codes "*") refl
row_utf8 stars = small_utf8 (codes "**") refl
row_utf8 score = small_utf8 (codes "_") refl
row_utf8 scores = small_utf8 (codes "__") refl
row_utf8 tildes = small_utf8 (codes "~~") refl

pub opener_utf8 : (t : Tag) → is_titled t ≡ true → IsUtf8 (opener t)
opener_utf8 em_tag h = small_utf8 (codes "<em>") refl
opener_utf8 strong_tag h = small_utf8 (codes "<strong>") refl
opener_utf8 del_tag h = small_utf8 (codes "<del>") refl
opener_utf8 sup_tag h = small_utf8 (codes "<sup>") refl
opener_utf8 sub_tag h = small_utf8 (codes "<sub>") refl
opener_utf8 ins_tag h = small_utf8 (codes "<ins>") refl
opener_utf8 u_tag h = small_utf8 (codes "<u>") refl
opener_utf8 mark_tag h = small_utf8 (codes "<mark>") refl
opener_utf8 small_tag h = small_utf8 (codes "<small>") refl
opener_utf8 kbd_tag h = small_utf8 (codes "<kbd>") refl
opener_utf8 (abbr_tag title) h =
    abbreviation_utf8 title (text_is_utf8 title (and_parts (is_text title) (is_trimmed title) h).0)

closer_utf8 : (t : Tag) → IsUtf8 (closer t)
closer_utf8 em_tag = small_utf8 (codes "</em>") refl
closer_utf8 strong_tag = small_utf8 (codes "</strong>") refl
closer_utf8 del_tag = small_utf8 (codes "</del>") refl
closer_utf8 sup_tag = small_utf8 (codes "</sup>") refl
closer_utf8 sub_tag = small_utf8 (codes "</sub>") refl
closer_utf8 ins_tag = small_utf8 (codes "</ins>") refl
closer_utf8 u_tag = small_utf8 (codes "</u>") refl
closer_utf8 mark_tag = small_utf8 (codes "</mark>") refl
closer_utf8 small_tag = small_utf8 (codes "</small>") refl
closer_utf8 kbd_tag = small_utf8 (codes "</kbd>") refl
closer_utf8 (abbr_tag title) = small_utf8 (codes "</abbr>") refl

-- ---- all inlines

mutual
  pub pieces_utf8 : (line : Line) (w : Written) (closing : Option ℕ) (around : List Format) (xs : Inlines)
      → is_heading line.kind ≡ false → are_normal line.in_link around xs ≡ true
      → IsUtf8 (pieces line w closing xs)
  pieces_utf8 line w closing around no_inlines k h = IsUtf8-nil
  pieces_utf8 line w closing around (inline x rest) k h =
      let f = follows line.kind closing rest in
      let p = and_parts _ (are_normal line.in_link around rest) h in
      IsUtf8-append (piece line w f x) (pieces line (with_inline line w f x) closing rest)
      (inline_utf8 line w f around x k (and_parts (is_normal line.in_link around x) _ p.0).0)
      (pieces_utf8 line (with_inline line w f x) closing around rest k p.1)

  pub inline_utf8 : (line : Line) (w : Written) (f : Following) (around : List Format) (x : Inline)
      → is_heading line.kind ≡ false → is_normal line.in_link around x ≡ true → IsUtf8 (piece line w f x)
  inline_utf8 line w f around (text s) k h = piece_utf8 line w.text f s k (text_is_utf8 s h)
  inline_utf8 line w f around (code s) k h = code_utf8 line s (text_is_utf8 s (and_parts _ _ h).0)
  inline_utf8 line w f around (formatted format content) k h =
      let p = (and_parts _ (are_normal line.in_link (format ∷ around) content) h).1 in
      mark_cases (λ g m. IsUtf8 (m.opener ++ (pieces line (wrote w m.opener) (Some m.sign) content ++ m.closer)))
      format (sides_of line w.text f content)
      (λ r e. let o = row_signs r in
      let t = pieces line (wrote w o) (Some (row_sign r)) content in
      IsUtf8-append o (t ++ o) (row_utf8 r)
      (IsUtf8-append t o (pieces_utf8 line (wrote w o) (Some (row_sign r)) (format ∷ around) content k p)
      (row_utf8 r)))
      (λ r i. let o = opener r in
      let t = pieces line (wrote w o) (Some 60) content in
      IsUtf8-append o (t ++ closer r) (opener_utf8 r (i (format_title line.in_link around format content h)))
      (IsUtf8-append t (closer r) (pieces_utf8 line (wrote w o) (Some 60) (format ∷ around) content k p)
      (closer_utf8 r)))
  inline_utf8 line w f around (link address name content) k h =
      let p = and_parts _ (are_normal true around content) h in
      let q = and_parts _ (is_title name) (and_parts _ _ p.0).0 in
      let u = IsUtf8-from_is_utf8 address (and_parts (is_utf8 address) (list_all is_kept address)
      (and_parts _ _ q.0).1).0
      in
      let v = wrote w (codes "[") in
      let n = length (written (in_link line) v (Some 93) content).definitions in
      let t = pieces (in_link line) v (Some 93) content in
      test (is_autolinked line address name content)
      (λ e. rw e (IsUtf8-append (codes "<" ++ address) (codes ">")
      (IsUtf8-append (codes "<") address (small_utf8 (codes "<") refl) u) (small_utf8 (codes ">") refl)))
      (λ e. rw e (IsUtf8-append (codes "[") (t ++ link_end line.link_style n address name)
      (small_utf8 (codes "[") refl)
      (IsUtf8-append t (link_end line.link_style n address name)
      (pieces_utf8 (in_link line) v (Some 93) around content k p.1) (end_utf8 line.link_style n address name u q.1))))
  inline_utf8 line w f around (image address name description) k h =
      let p = and_parts _ (is_line description) h in
      let q = and_parts (is_attribute address) (is_title name) p.0 in
      let d = escaped place_of_description description in
      IsUtf8-append (codes "![" ++ d) (written_resource address name)
      (IsUtf8-append (codes "![") d (small_utf8 (codes "![") refl)
      (text_utf8 place_of_description description
      (IsUtf8-from_is_utf8 description (and_parts (is_utf8 description) _ p.1).0)))
      (resource_utf8 address name
      (IsUtf8-from_is_utf8 address (and_parts (is_utf8 address) (list_all is_kept address) q.0).0)
      (title_utf8 name q.1))
  inline_utf8 line w f around (anchor id) k h =
      let p = and_parts (not line.in_link && is_text id) _ h in
      anchor_utf8 id (text_is_utf8 id (and_parts (not line.in_link) (is_text id) p.0).1)
  inline_utf8 line w f around line_break k h = break_utf8 line
  inline_utf8 line w f around (task is_checked) k h = absurd (cc)
