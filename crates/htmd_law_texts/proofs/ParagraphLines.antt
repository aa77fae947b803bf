-- All lines of a paragraph that is written of normal inlines.
use Rattle.std.proofs.Common.{◌≡◌, ◌∙◌, refl, ap, sym, subst, ℕ, Bool, true, false, List, ◌∷◌, ◌++◌, Option, Some}
use Rattle.std.proofs.Common.{codes, append_assoc}
use Rattle.std.specs.Prelude.{length, ◌&&◌, not}
use Rattle.std.specs.List.{list_all}
use Rattle.std.specs.Str.{IsUtf8, is_utf8}
use Rattle.std.proofs.lemmas.Bool.{and_parts, not-true}
use Rattle.std.proofs.lemmas.Str.{IsUtf8-append}
use Rattle.htmd_document.specs.Formats.{Format}
use Rattle.htmd_document.specs.Documents.{Inline, text, code, formatted, link, image, line_break, task}
use Rattle.htmd_document.specs.Documents.{anchor}
use Rattle.htmd_document.specs.Documents.{Inlines, no_inlines, inline}
use Rattle.htmd_markdown.specs.declared.line_break.BrStyle.{BrStyle}
use Rattle.htmd_markdown.specs.declared.line_break.BrStyle.TheVariants.{TwoSpaces, Backslash}
use Rattle.htmd_markdown.specs.declared.link.LinkStyle.{LinkStyle}
use Rattle.htmd_markdown.specs.declared.link.LinkStyle.TheVariants.{Inlined, InlinedPreferAutolinks, Referenced}
use Rattle.htmd_markdown.specs.LineBreaks as breaks
use Rattle.htmd_commonmark.specs.declared.line.Line.{Line}
use Rattle.htmd_commonmark.specs.declared.inline_ends.Following.{Following}
use Rattle.htmd_commonmark.specs.InlineEnds.{follows}
use Rattle.htmd_commonmark.specs.InlineMarkdown.{written, with_inline, sides_of, written_break, is_autolinked, in_link}
use Rattle.htmd_commonmark.specs.WrittenText.{Written, wrote, begins_line}
use Rattle.htmd_law_blocks.specs.LineTexts.{IsFurtherLine}
use Rattle.htmd_document.specs.NormalInlines as normal
use Rattle.htmd_document.specs.NormalInlines.{is_normal, are_normal, first_passes, is_break}
use Rattle.htmd_document.specs.NormalInlines.{begins_with_space, sort, is_same_sort, is_code, meets}
use Rattle.htmd_document.specs.NormalInlines.{may_meet, is_kept}
use Rattle.htmd_law_inlines.proofs.TextPieces.{test}
use Rattle.htmd_law_texts.proofs.WrittenPieces.{pieces, piece, link_end, one_text, Row, row_sign, row_signs, star}
use Rattle.htmd_law_texts.proofs.WrittenPieces.{stars, score, scores, tildes, Tag, opener, closer, em_tag, strong_tag}
use Rattle.htmd_law_texts.proofs.WrittenPieces.{del_tag, sup_tag, sub_tag, ins_tag, u_tag, mark_tag, small_tag, kbd_tag}
use Rattle.htmd_law_texts.proofs.WrittenPieces.{abbr_tag, format_title, mark_cases}
use Rattle.htmd_law_texts.proofs.PieceTexts.{row_all, opener_all, closer_all, end_all}
use Rattle.htmd_law_texts.proofs.PieceUtf8.{small_utf8, row_utf8, opener_utf8, inline_utf8}
use Rattle.htmd_law_texts.proofs.TextStarts.{IsNext}
use Rattle.htmd_law_texts.proofs.InlineStarts.{closer_further, closing_line}
use Rattle.htmd_law_texts.proofs.PieceFirsts.{IsParagraph, fits_last, ends_at, break_begins, next_is, format_parts}
use Rattle.htmd_law_texts.proofs.WrittenLines.{first_line, AllBegun, Starts, IsClean, line_append, begun_append}
use Rattle.htmd_law_texts.proofs.WrittenLines.{starts_append, link_parts, clean_piece, inline_begins, address_clean}

-- ---- what closes

pub row_next : (r : Row) (k : List ℕ) → IsNext (Some (row_sign r)) (row_signs r ++ k)
row_next star k = (refl, λ e. absurd (cc), λ e. refl)
row_next stars k = (refl, λ e. absurd (cc), λ e. refl)
row_next score k = (refl, λ e. absurd (cc), λ e. refl)
row_next scores k = (refl, λ e. absurd (cc), λ e. refl)
row_next tildes k = (refl, λ e. absurd (cc), λ e. refl)

pub closer_next : (t : Tag) (k : List ℕ) → IsNext (Some 60) (closer t ++ k)
closer_next em_tag k = (refl, λ e. absurd (cc), λ e. refl)
closer_next strong_tag k = (refl, λ e. absurd (cc), λ e. refl)
closer_next del_tag k = (refl, λ e. absurd (cc), λ e. refl)
closer_next sup_tag k = (refl, λ e. absurd (cc), λ e. refl)
closer_next sub_tag k = (refl, λ e. absurd (cc), λ e. refl)
closer_next ins_tag k = (refl, λ e. absurd (cc), λ e. refl)
closer_next u_tag k = (refl, λ e. absurd (cc), λ e. refl)
closer_next mark_tag k = (refl, λ e. absurd (cc), λ e. refl)
closer_next small_tag k = (refl, λ e. absurd (cc), λ e. refl)
closer_next kbd_tag k = (refl, λ e. absurd (cc), λ e. refl)
closer_next (abbr_tag title) k = (refl, λ e. absurd (cc), λ e. refl)

-- what ends a link begins with a bracket
pub end_is : (style : LinkStyle) (n : ℕ) (a : List ℕ) (t : Option (List ℕ))
    → (u : List ℕ) × (link_end style n a t ≡ 93 ∷ u)
end_is Referenced n a t = (_, refl)
end_is Inlined n a t = (_, refl)
end_is InlinedPreferAutolinks n a t = (_, refl)

pub end_next : (u k : List ℕ) → IsNext (Some 93) ((93 ∷ u) ++ k)
end_next u k = (refl, λ e. absurd (cc), λ e. refl)

closer_starts : (b : Bool) (t : Tag) (k : List ℕ) → AllBegun k → Starts b (closer t ++ k)
closer_starts b t k a =
    let c = closer_all false t in (
      λ e. subst IsFurtherLine (sym (line_append (closer t) k c)) (closer_further t (first_line k)),
      begun_append
          (closer t) k c a,
    )

end_starts : (b : Bool) (u k : List ℕ) → IsClean (93 ∷ u) → AllBegun k → Starts b ((93 ∷ u) ++ k)
end_starts b u k c a = (λ e. (closing_line (first_line (u ++ k))).1, begun_append (93 ∷ u) k c a)

break_starts : (line : Line) → IsParagraph line → (b : Bool) (k : List ℕ) → b ≡ false → Starts true k
    → Starts b (written_break line ++ k)
break_starts line p b k n s =
    rw p.no_one_line (λ e. let x : true ≡ false = sym e ∙ n in absurd (cc), styled line.br_style)
  where
    styled : (style : BrStyle) → AllBegun (breaks.line_break style ++ k)
    styled TwoSpaces = (λ e. absurd (cc), (λ e. absurd (cc), (λ e. s.0 refl, s.1)))
    styled Backslash = (λ e. absurd (cc), (λ e. s.0 refl, s.1))

-- after a break stand no break and no space
after_break : (rest : Inlines) → meets line_break rest ≡ true
    → (first_passes is_break rest ≡ false) × (first_passes begins_with_space rest ≡ false)
after_break no_inlines m = (refl, refl)
after_break (inline x rest) m =
    let x0 = not (is_same_sort normal.breaks (sort x) && not (false && not (is_code x)) && not
    (is_code x && not false)) in
    let x1 = not (false && is_break x) in
    let p = and_parts (x0 && x1) (not (true && begins_with_space x)) m in
    (no_break x m, not-true (begins_with_space x) p.1)
  where
    no_break : (x : Inline) → may_meet line_break x ≡ true → is_break x ≡ false
    no_break (text s) h = refl
    no_break (code s) h = refl
    no_break (formatted g content) h = refl
    no_break (link a t content) h = refl
    no_break (image a t d) h = refl
    no_break (anchor i) h = refl
    no_break line_break h = absurd (cc)
    no_break (task c) h = refl

-- a line that a text begins has its backslash, and no break and no white space begins it
abbrev pub Ready : Bool → Written → Inlines → Type 0
Ready b w xs =
    b ≡ true
    → (begins_line w.text ≡ true) × (first_passes is_break xs ≡ false) ×
    (first_passes begins_with_space xs ≡ false)

ready_after : (line : Line) → IsParagraph line → (w : Written) (f : Following) (x : Inline) (rest : Inlines)
    → IsUtf8 w.text → meets x rest ≡ true → Ready (is_break x) (with_inline line w f x) rest
ready_after line p w f line_break rest u m e =
    let n = after_break rest m in
    let y : written_break line ≡ breaks.line_break line.br_style = rw p.no_one_line refl in
    (ap (λ t. begins_line (w.text ++ t)) y ∙ break_begins w.text line.br_style u, n.0, n.1)
ready_after line p w f (text s) rest u m e = absurd (cc)
ready_after line p w f (code s) rest u m e = absurd (cc)
ready_after line p w f (formatted g content) rest u m e = absurd (cc)
ready_after line p w f (link a t content) rest u m e = absurd (cc)
ready_after line p w f (image a t d) rest u m e = absurd (cc)
ready_after line p w f (anchor i) rest u m e = absurd (cc)
ready_after line p w f (task c) rest u m e = absurd (cc)

-- ---- all inlines

mutual
  pub starts_pieces : (line : Line) → IsParagraph line → (w : Written) (closing : Option ℕ) (around : List Format)
      (xs : Inlines) (k : List ℕ) (b : Bool) → IsUtf8 w.text → Ready b w xs
      → are_normal line.in_link around xs ≡ true
      → IsNext closing k → Starts (ends_at b xs) k → Starts b (pieces line w closing xs ++ k)
  starts_pieces line p w closing around no_inlines k b u r h n s = s
  starts_pieces line p w closing around (inline x rest) k b u r h n s =
      let f = follows line.kind closing rest in
      let w' = with_inline line w f x in
      let more = pieces line w' closing rest in
      let q = and_parts (is_normal line.in_link around x && meets x rest) (are_normal line.in_link around rest) h in
      let q' = and_parts (is_normal line.in_link around x) (meets x rest) q.0 in
      let u' = subst IsUtf8 (sym (one_text line w f x))
      (IsUtf8-append w.text (piece line w f x) u (inline_utf8 line w f around x p.no_heading q'.0)) in
      let i = starts_pieces line p w' closing around rest k (is_break x) u' (ready_after line p w f x rest u q'.1) q.1
      n s in
      subst (Starts b) (sym (append_assoc (piece line w f x) more k)) (
        λ e. let y = r e in
            (inline_begins line p w f around x (more ++ k) u y.0 y.1 y.2 q'.0
            (λ t e. next_is line p w' closing around t k rest (ap (λ y. meets y rest) (sym e) ∙ q'.1) q.1 n)).0,
        begun_piece line p w f around x (more ++ k) u q'.0 i,
      )

  begun_piece : (line : Line) → IsParagraph line → (w : Written) (f : Following) (around : List Format) (x : Inline)
      (k : List ℕ) → IsUtf8 w.text → is_normal line.in_link around x ≡ true → Starts (is_break x) k
      → AllBegun (piece line w f x ++ k)
  begun_piece line p w f around (text t) k u h s =
      begun_append (piece line w f (text t)) k (clean_piece line p w f around (text t) h refl) s.1
  begun_piece line p w f around (code t) k u h s =
      begun_append (piece line w f (code t)) k (clean_piece line p w f around (code t) h refl) s.1
  begun_piece line p w f around (formatted g content) k u h s =
      let q = format_parts line.in_link around g content h in
      mark_cases (λ g' m. AllBegun ((m.opener ++ (pieces line (wrote w m.opener) (Some m.sign) content ++ m.closer))
      ++ k))
      g (sides_of line w.text f content)
      (λ r e. let o = row_signs r in
      let t = pieces line (wrote w o) (Some (row_sign r)) content in
      subst AllBegun (sym (append_assoc o (t ++ o) k ∙ ap (λ l. o ++ l) (append_assoc t o k)))
      (begun_append o (t ++ (o ++ k)) (row_all false r)
      (starts_pieces line p (wrote w o) (Some (row_sign r)) (g ∷ around) content (o ++ k) false
      (IsUtf8-append w.text o u (row_utf8 r)) (λ e. absurd (cc)) q.3 (row_next r k)
      (subst (λ b. Starts b (o ++ k)) (sym (fits_last line (row_sign r) w.text f content e))
      (starts_append o k (row_all false r) s.1))).1))
      (λ r i. let o = opener r in
      let titled = i (format_title line.in_link around g content h) in
      let t = pieces line (wrote w o) (Some 60) content in
      subst AllBegun (sym (append_assoc o (t ++ closer r) k ∙ ap (λ l. o ++ l) (append_assoc t (closer r) k)))
      (begun_append o (t ++ (closer r ++ k)) (opener_all false r titled)
      (starts_pieces line p (wrote w o) (Some 60) (g ∷ around) content (closer r ++ k) false
      (IsUtf8-append w.text o u (opener_utf8 r titled)) (λ e. absurd (cc)) q.3 (closer_next r k)
      (closer_starts (ends_at false content) r k s.1)).1))
  begun_piece line p w f around (link a name content) k u h s =
      let q = link_parts line.in_link around a name content h in
      let v = wrote w (codes "[") in
      let n = length (written (in_link line) v (Some 93) content).definitions in
      let t = pieces (in_link line) v (Some 93) content in
      let e = link_end line.link_style n a name in
      let d = end_is line.link_style n a name in
      let c = end_all false line.link_style n a name (and_parts (is_utf8 a) (list_all is_kept a) q.1).1 q.2 in
      let p' : IsParagraph (in_link line) =
      record { no_one_line = p.no_one_line; no_heading = p.no_heading; no_cell = p.no_cell } in
      test (is_autolinked line a name content)
      (λ y. rw y (begun_append (codes "<" ++ (a ++ codes ">")) k (address_clean a q.1) s.1))
      (λ y. rw y (
        λ z. absurd (cc),
        subst AllBegun (sym (append_assoc t e k))
            (starts_pieces (in_link line) p' v (Some 93) around content (e ++ k) false
            (IsUtf8-append w.text (codes "[") u (small_utf8 (codes "[") refl)) (λ e. absurd (cc)) q.4
            (subst (λ l. IsNext (Some 93) (l ++ k)) (sym d.1) (end_next d.0 k))
            (subst (λ l. Starts (ends_at false content) (l ++ k)) (sym d.1)
            (end_starts (ends_at false content) d.0 k (subst IsClean d.1 c) s.1))).1,
      ))
  begun_piece line p w f around (image a t d) k u h s =
      begun_append (piece line w f (image a t d)) k (clean_piece line p w f around (image a t d) h refl) s.1
  begun_piece line p w f around (anchor id) k u h s =
      begun_append (piece line w f (anchor id)) k (clean_piece line p w f around (anchor id) h refl) s.1
  begun_piece line p w f around line_break k u h s = (break_starts line p false k refl s).1
  begun_piece line p w f around (task c) k u h s = absurd (cc)
