-- No link reference definition begins a paragraph that is written of normal inlines.
use Rattle.std.proofs.Common.{◌≡◌, ◌∙◌, refl, ap, sym, subst, ℕ, zero, suc, ◌-◌, Bool, true, false, List, [], ◌∷◌, ◌++◌}
use Rattle.std.proofs.Common.{Option, Some, None, codes, append_assoc, arith}
use Rattle.std.specs.Prelude.{length, ◌==◌, ◌&&◌, not, slice_get, replicate}
use Rattle.std.specs.List.{list_all}
use Rattle.std.specs.Option.{option_or}
use Rattle.std.specs.Char.{is_ascii_punctuation}
use Rattle.std.proofs.lemmas.Bool.{and_parts, and_from, or_parts, eqb-true, not-true}
use Rattle.std.proofs.lemmas.List.Folds.{list_all-append}
use Rattle.htmd_document.specs.Tags as html
use Rattle.htmd_law_inlines.proofs.AnchorValues.{plain_byte}
use Rattle.htmd_lexical.specs.Characters.{grave_accent, is_one_of}
use Rattle.htmd_lexical.specs.CharacterClasses.{first_is}
use Rattle.htmd_text.specs.EscapedPlaces.{with_backslashes}
use Rattle.htmd_document.specs.Formats.{Format}
use Rattle.htmd_document.specs.Documents.{Inline, text, code, formatted, link, image, line_break, task}
use Rattle.htmd_document.specs.Documents.{anchor}
use Rattle.htmd_document.specs.Documents.{Inlines, no_inlines, inline}
use Rattle.htmd_markdown.specs.declared.line_break.BrStyle.{BrStyle}
use Rattle.htmd_markdown.specs.declared.line_break.BrStyle.TheVariants.{TwoSpaces, Backslash}
use Rattle.htmd_markdown.specs.LineBreaks as breaks
use Rattle.htmd_markdown.specs.CodeSpans.{meets_delimiter, smallest_unused_len, space_if}
use Rattle.htmd_markdown.specs.declared.link.LinkStyle.{LinkStyle}
use Rattle.htmd_markdown.specs.declared.link.LinkStyle.TheVariants.{Inlined, InlinedPreferAutolinks, Referenced}
use Rattle.htmd_commonmark.specs.declared.line.Line.{Line}
use Rattle.htmd_commonmark.specs.declared.inline_ends.Following.{Following}
use Rattle.htmd_commonmark.specs.declared.text_escape.Place.{Place}
use Rattle.htmd_commonmark.specs.CodeSpans.{code_span}
use Rattle.htmd_commonmark.specs.InlineEnds.{follows}
use Rattle.htmd_commonmark.specs.InlineMarkdown.{written, with_inline, sides_of, place_of, written_code, needs_tags}
use Rattle.htmd_commonmark.specs.InlineMarkdown.{place_in_tags, written_break, is_autolinked, in_link, holds}
use Rattle.htmd_commonmark.specs.TextEscapes.{escaped, is_marked, may_be_escaped}
use Rattle.htmd_commonmark.specs.WrittenText.{Written, wrote}
use Rattle.htmd_commonmark_reading.specs.Characters.{Front, before_in_front}
use Rattle.htmd_commonmark_reading.specs.LinkDefinitions.{until_sign, definition, after_label, Definitions}
use Rattle.htmd_commonmark_reading.specs.LinkDefinitions.{definitions_behind, and_then, no_more}
use Rattle.htmd_law_blocks.specs.LineTexts.{IsWhole}
use Rattle.htmd_document.specs.NormalInlines.{is_normal, are_normal, meets, is_text, is_break}
use Rattle.htmd_law_inlines.proofs.TextPieces.{test, differs}
use Rattle.htmd_law_inlines.proofs.TextMarks.{mark_at, marks_all, length_one}
use Rattle.htmd_law_texts.proofs.WrittenPieces.{pieces, piece, text_piece, link_end, Row, row_sign, row_signs, star}
use Rattle.htmd_law_texts.proofs.WrittenPieces.{stars, score, scores, tildes, Tag, opener, closer, em_tag, strong_tag}
use Rattle.htmd_law_texts.proofs.WrittenPieces.{del_tag, sup_tag, sub_tag, ins_tag, u_tag, mark_tag, small_tag, kbd_tag}
use Rattle.htmd_law_texts.proofs.WrittenPieces.{abbr_tag, mark_cases}
use Rattle.htmd_law_texts.proofs.TextStarts.{IsNext, next_escapes}
use Rattle.htmd_law_texts.proofs.PieceFirsts.{IsParagraph, next_is, format_parts, text_first, code_first, row_first}
use Rattle.htmd_law_texts.proofs.PieceFirsts.{tag_first, no_text}
use Rattle.htmd_law_texts.proofs.WrittenLines.{link_parts}
use Rattle.htmd_law_texts.proofs.ParagraphLines.{row_next, closer_next, end_is, end_next}
use Rattle.htmd_law_texts.proofs.PieceEnds.{EndsInk, strip_ink}

-- ---- a label that no colon follows

abbrev pub no_colon : Option Front → Bool
no_colon None = true
no_colon (Some f) = not (first_is 58 f.rest)

-- up to its bracket, the text is no label of a definition; the flag: its first character is escaped
abbrev IsFine : Bool → List ℕ → Type 0
IsFine e s = no_colon (until_sign 93 91 e s) ≡ true

abbrev pub Fine : List ℕ → Type 0
Fine s = IsFine false s

keeps : (c : ℕ) (o : Option Front) → no_colon (before_in_front c o) ≡ no_colon o
keeps c None = refl
keeps c (Some f) = refl

fine_escaped : (c : ℕ) (s : List ℕ) → IsFine false s → IsFine true (c ∷ s)
fine_escaped c s h = keeps c (until_sign 93 91 false s) ∙ h

-- a character that is no bracket
fine_other : (c : ℕ) (s : List ℕ) → (c == 93) ≡ false → (c == 91) ≡ false → IsFine (c == 92) s
    → IsFine false (c ∷ s)
fine_other c s n o h =
    let e : until_sign 93 91 false (c ∷ s) ≡ before_in_front c (until_sign 93 91 (c == 92) s) = rw (n, o) refl in
    ap no_colon e ∙ keeps c (until_sign 93 91 (c == 92) s) ∙ h

fine_opening : (s : List ℕ) → Fine (91 ∷ s)
fine_opening s = refl

-- a backslash and what it escapes
fine_pair : (c : ℕ) (s : List ℕ) → Fine s → Fine (92 ∷ c ∷ s)
fine_pair c s h = fine_other 92 (c ∷ s) refl refl (fine_escaped c s h)

abbrev is_quiet : ℕ → Bool
is_quiet c = not (is_one_of (codes "[]\\") c)

quiet_parts : (c : ℕ) → is_quiet c ≡ true → ((c == 91) ≡ false) × ((c == 93) ≡ false) ×
    ((c == 92) ≡ false)
quiet_parts c h =
    (differs is_quiet c 91 h refl, differs is_quiet c 93 h refl, differs is_quiet c 92 h refl)

fine_quiet : (t k : List ℕ) → list_all is_quiet t ≡ true → Fine k → Fine (t ++ k)
fine_quiet [] k h f = f
fine_quiet (c ∷ t) k h f =
    let p = and_parts (is_quiet c) (list_all is_quiet t) h in
    let q = quiet_parts c p.0 in
    fine_other c (t ++ k) q.1 q.0 (subst (λ e. IsFine e (t ++ k)) (sym q.2) (fine_quiet t k p.1 f))

-- ---- texts

-- a text in brackets
fine_text : (place : Place) (whole k : List ℕ) → place.in_brackets ≡ true → may_be_escaped place.after
    ≡ true → Fine k
    → (pre t : List ℕ) (i : ℕ) → whole ≡ pre ++ t → length pre ≡ i
    → (Fine (with_backslashes (is_marked place whole) i t ++ k))
    × (may_be_escaped (option_or (slice_get t 0) place.after) ≡ false
    → IsFine true (with_backslashes (is_marked place whole) i t ++ k))
fine_text place whole k b a f pre [] i e l = (f, λ h. let x : true ≡ false = sym a ∙ h in absurd (cc))
fine_text place whole k b a f pre (c ∷ t) i e l =
    let marked = is_marked place whole in
    let u = with_backslashes marked (suc i) t ++ k in
    let next = fine_text place whole k b a f (pre ++ (c ∷ [])) t (suc i) (e ∙ sym (append_assoc pre (c ∷ []) t))
    (let y = length_one pre c in omega arith) in
    let yes : (marked i ≡ true) → with_backslashes marked i (c ∷ t) ++ k ≡ 92 ∷ c ∷ u = λ x. rw x refl in
    let no : (marked i ≡ false) → with_backslashes marked i (c ∷ t) ++ k ≡ c ∷ u = λ x. rw x refl in
    let all = marks_all place whole in
    test (marked i)
    (λ x. (
      subst Fine (sym (yes x)) (fine_pair c u next.0),
      λ h. let p = all.punctuation pre t c e (ap marked l ∙ x) in
          let q = (or_parts (c == 10) (is_ascii_punctuation c) h).1 in
          let z : true ≡ false = sym p ∙ q in absurd (cc),
    ))
    (λ x. let m = all.none_left pre t c e (ap marked l ∙ x) in
    let not_it : (d : ℕ) → mark_at place pre d t ≡ true → (c == d) ≡ false =
    λ d y. test (c == d)
    (λ z. let v : true ≡ false = sym y ∙ ap (λ c. mark_at place pre c t) (sym (eqb-true c d z))
    ∙ m in absurd (cc))
    (λ z. z) in (
      subst Fine (sym (no x))
          (fine_other c u (not_it 93 (rw b refl)) (not_it 91 refl)
          (test (c == 92)
          (λ z. let w : mark_at place pre 92 t ≡ false = ap (λ d. mark_at place pre d t) (sym (eqb-true c 92 z))
          ∙ m in
          let g : may_be_escaped (option_or (slice_get t 0) place.after) ≡ false =
          test (may_be_escaped (option_or (slice_get t 0) place.after))
          (λ y. let v : true ≡ false = rw y at w in absurd (cc)) (λ y. y) in
          subst (λ q. IsFine q u) (sym z) (next.1 g))
          (λ z. subst (λ q. IsFine q u) (sym z) next.0))),
      λ h. subst (IsFine true) (sym (no x)) (fine_escaped c u next.0),
    ))

fine_words : (place : Place) (s k : List ℕ) → place.in_brackets ≡ true → may_be_escaped place.after ≡ true
    → Fine k
    → Fine (escaped place s ++ k)
fine_words place s k b a f = (fine_text place s k b a f [] s 0 refl refl).0

-- ---- codes

-- a code without a bracket before a colon, up to what begins with none
fine_code : (s k : List ℕ) → holds (codes "]:") s ≡ false → first_is 58 k ≡ false → Fine k → IsFine true k
    → (e : Bool) → IsFine e (s ++ k)
fine_code [] k h n f g true = g
fine_code [] k h n f g false = f
fine_code (c ∷ s) k h n f g true =
    fine_escaped c (s ++ k) (fine_code s k (or_parts _ (holds (codes "]:") s) h).1 n f g false)
fine_code (c ∷ s) k h n f g false =
    test (c == 93)
    (λ e. subst (λ d. Fine (d ∷ (s ++ k))) (sym (eqb-true c 93 e))
    (ap not (after_bracket s (ap (λ d. holds (codes "]:") (d ∷ s)) (sym (eqb-true c 93 e)) ∙ h))))
    (λ x. test (c == 91)
    (λ e. subst (λ d. Fine (d ∷ (s ++ k))) (sym (eqb-true c 91 e)) (fine_opening (s ++ k)))
    (λ y. fine_other c (s ++ k) x y (fine_code s k (or_parts _ (holds (codes "]:") s) h).1 n f g (c == 92))))
  where
    after_bracket : (s : List ℕ) → holds (codes "]:") (93 ∷ s) ≡ false → first_is 58 (s ++ k) ≡ false
    after_bracket [] h = n
    after_bracket (d ∷ s) h =
        test (d == 58)
        (λ e. let x : true ≡ false = ap (λ y. holds (codes "]:") (93 ∷ y ∷ s)) (sym (eqb-true d 58 e))
        ∙ h in absurd (cc))
        (λ e. e)

fine_true : (c : ℕ) (t k : List ℕ) → list_all is_quiet t ≡ true → Fine k → IsFine true (c ∷ (t ++ k))
fine_true c t k h f = fine_escaped c (t ++ k) (fine_quiet t k h f)

quiet_run : (n : ℕ) → list_all is_quiet (replicate n grave_accent) ≡ true
quiet_run zero = refl
quiet_run (suc n) = quiet_run n

quiet_pad : (p : Bool) (n : ℕ) → list_all is_quiet (space_if p ++ replicate n grave_accent) ≡ true
quiet_pad true n = quiet_run n
quiet_pad false n = quiet_run n

lead_quiet : (p : Bool) (n : ℕ) → list_all is_quiet (replicate n grave_accent ++ space_if p) ≡ true
lead_quiet true zero = refl
lead_quiet false zero = refl
lead_quiet true (suc n) = lead_quiet true n
lead_quiet false (suc n) = lead_quiet false n

span_inner : (s k g x : List ℕ) → ((((g ++ x) ++ s) ++ x) ++ g) ++ k ≡ (g ++ x) ++ (s ++ ((x ++ g) ++ k))
span_inner s k g x =
    append_assoc (((g ++ x) ++ s) ++ x) g k ∙ append_assoc ((g ++ x) ++ s) x (g ++ k)
    ∙ append_assoc (g ++ x) s (x ++ (g ++ k)) ∙ ap (λ l. (g ++ x) ++ (s ++ l)) (sym (append_assoc x g k))

-- what ends a code, a space or none and grave accents
pad_ends : (p : Bool) (j : ℕ) (k : List ℕ) → Fine k
    → (first_is 58 ((space_if p ++ replicate (suc j) grave_accent) ++ k) ≡ false)
    × IsFine true ((space_if p ++ replicate (suc j) grave_accent) ++ k)
pad_ends true j k f = (refl, fine_true 32 (replicate (suc j) grave_accent) k (quiet_run (suc j)) f)
pad_ends false j k f = (refl, fine_true 96 (replicate j grave_accent) k (quiet_run j) f)

fine_span : (s k : List ℕ) → holds (codes "]:") s ≡ false → Fine k → Fine (code_span s ++ k)
fine_span s k h f =
    let p = meets_delimiter s in
    let n = smallest_unused_len s in
    let e : n ≡ suc (n - 1) = omega arith in
    let x = space_if p in
    let g = replicate n grave_accent in
    let d = subst (λ i. (first_is 58 ((x ++ replicate i grave_accent) ++ k) ≡ false)
    × IsFine true ((x ++ replicate i grave_accent) ++ k)) (sym e) (pad_ends p (n - 1) k f) in
    subst Fine (sym (span_inner s k g x))
    (fine_quiet (g ++ x) (s ++ ((x ++ g) ++ k)) (lead_quiet p n)
    (fine_code s ((x ++ g) ++ k) h d.0 (fine_quiet (x ++ g) k (quiet_pad p n) f) d.1 false))

fine_tags : (line : Line) (s k : List ℕ) → line.in_link ≡ true → Fine k
    → Fine ((codes "<code>" ++ (escaped (place_in_tags line) s ++ codes "</code>")) ++ k)
fine_tags line s k b f =
    let t = escaped (place_in_tags line) s in
    subst (λ l. Fine (codes "<code>" ++ l)) (sym (append_assoc t (codes "</code>") k))
    (fine_quiet (codes "<code>") (t ++ (codes "</code>" ++ k)) refl
    (fine_words (place_in_tags line) s (codes "</code>" ++ k) b refl (fine_quiet (codes "</code>") k refl f)))

fine_written : (line : Line) → IsParagraph line → (s k : List ℕ) → line.in_link ≡ true → Fine k
    → Fine (written_code line s ++ k)
fine_written line p s k b f =
    test (needs_tags line s) (λ e. rw e (fine_tags line s k b f))
    (λ e. let h : holds (codes "]:") s ≡ false = rw (p.no_cell, b) at e in rw e (fine_span s k h f))

-- ---- all inlines in a link

fine_row : (r : Row) (k : List ℕ) → Fine k → Fine (row_signs r ++ k)
fine_row star k f = fine_quiet (codes "*") k refl f
fine_row stars k f = fine_quiet (codes "**") k refl f
fine_row score k f = fine_quiet (codes "_") k refl f
fine_row scores k f = fine_quiet (codes "__") k refl f
fine_row tildes k f = fine_quiet (codes "~~") k refl f

-- a value without a closing bracket, up to the quotation mark that ends it
fine_value : (s k : List ℕ) → list_all (λ c. not (c == 93)) s ≡ true → Fine k
    → (e : Bool) → IsFine e (s ++ (34 ∷ 62 ∷ k))
fine_value [] k h f true = fine_escaped 34 (62 ∷ k) (fine_quiet (62 ∷ []) k refl f)
fine_value [] k h f false = fine_quiet (34 ∷ 62 ∷ []) k refl f
fine_value (c ∷ s) k h f true =
    let p = and_parts (not (c == 93)) (list_all (λ c. not (c == 93)) s) h in
    fine_escaped c (s ++ (34 ∷ 62 ∷ k)) (fine_value s k p.1 f false)
fine_value (c ∷ s) k h f false =
    let p = and_parts (not (c == 93)) (list_all (λ c. not (c == 93)) s) h in
    let u = s ++ (34 ∷ 62 ∷ k) in
    test (c == 91)
    (λ e. subst (λ d. Fine (d ∷ u)) (sym (eqb-true c 91 e)) (fine_opening u))
    (λ y. fine_other c u (not-true (c == 93) p.0) y (fine_value s k p.1 f (c == 92)))

byte_unclosed : (b : ℕ) → list_all (λ c. not (c == 93)) (html.in_value b) ≡ true
byte_unclosed b =
    test (b == 38) (λ e. rw e refl)
    (λ n1. test (b == 60) (λ e. rw (n1, e) refl)
    (λ n2. test (b == 62) (λ e. rw (n1, n2, e) refl)
    (λ n3. test (b == 34) (λ e. rw (n1, n2, n3, e) refl)
    (λ n4. test (b == 124) (λ e. rw (n1, n2, n3, n4, e) refl)
    (λ n5. test (b == 93) (λ e. rw (n1, n2, n3, n4, n5, e) refl)
    (λ n6. ap (list_all (λ c. not (c == 93))) (plain_byte b n1 n2 n3 n4 n5 n6) ∙ rw n6 refl))))))

unclosed : (s : List ℕ) → list_all (λ c. not (c == 93)) (html.escaped_value s) ≡ true
unclosed [] = refl
unclosed (b ∷ s) =
    list_all-append (λ c. not (c == 93)) (html.in_value b) (html.escaped_value s)
    ∙ and_from (list_all (λ c. not (c == 93)) (html.in_value b))
    (list_all (λ c. not (c == 93)) (html.escaped_value s))
    (byte_unclosed b) (unclosed s)

fine_opener : (t : Tag) (k : List ℕ) → Fine k → Fine (opener t ++ k)
fine_opener em_tag k f = fine_quiet (codes "<em>") k refl f
fine_opener strong_tag k f = fine_quiet (codes "<strong>") k refl f
fine_opener del_tag k f = fine_quiet (codes "<del>") k refl f
fine_opener sup_tag k f = fine_quiet (codes "<sup>") k refl f
fine_opener sub_tag k f = fine_quiet (codes "<sub>") k refl f
fine_opener ins_tag k f = fine_quiet (codes "<ins>") k refl f
fine_opener u_tag k f = fine_quiet (codes "<u>") k refl f
fine_opener mark_tag k f = fine_quiet (codes "<mark>") k refl f
fine_opener small_tag k f = fine_quiet (codes "<small>") k refl f
fine_opener kbd_tag k f = fine_quiet (codes "<kbd>") k refl f
fine_opener (abbr_tag title) k f =
    let v = html.escaped_value title in
    let is : html.abbreviation_tag title ++ k ≡ codes "<abbr title=\"" ++ (v ++ (34 ∷ 62 ∷ k)) =
    append_assoc (codes "<abbr title=\"" ++ v) (codes "\">") k
    ∙ append_assoc (codes "<abbr title=\"") v (34 ∷ 62 ∷ k) in
    subst Fine (sym is) (fine_begun (v ++ (34 ∷ 62 ∷ k)) (fine_value v k (unclosed title) f false))
  where
    fine_begun : (s : List ℕ) → Fine s → Fine (codes "<abbr title=\"" ++ s)
    fine_begun s f = fine_quiet (codes "<abbr title=\"") s refl f

fine_closer : (t : Tag) (k : List ℕ) → Fine k → Fine (closer t ++ k)
fine_closer em_tag k f = fine_quiet (codes "</em>") k refl f
fine_closer strong_tag k f = fine_quiet (codes "</strong>") k refl f
fine_closer del_tag k f = fine_quiet (codes "</del>") k refl f
fine_closer sup_tag k f = fine_quiet (codes "</sup>") k refl f
fine_closer sub_tag k f = fine_quiet (codes "</sub>") k refl f
fine_closer ins_tag k f = fine_quiet (codes "</ins>") k refl f
fine_closer u_tag k f = fine_quiet (codes "</u>") k refl f
fine_closer mark_tag k f = fine_quiet (codes "</mark>") k refl f
fine_closer small_tag k f = fine_quiet (codes "</small>") k refl f
fine_closer kbd_tag k f = fine_quiet (codes "</kbd>") k refl f
fine_closer (abbr_tag title) k f = fine_quiet (codes "</abbr>") k refl f

fine_break : (line : Line) → IsParagraph line → (k : List ℕ) → Fine k → Fine (written_break line ++ k)
fine_break line p k f = rw p.no_one_line (styled line.br_style)
  where
    styled : (style : BrStyle) → Fine (breaks.line_break style ++ k)
    styled TwoSpaces = fine_quiet (codes "  \n") k refl f
    styled Backslash = fine_pair 10 k f

mutual
  pub fine_pieces : (line : Line) → IsParagraph line → (w : Written) (closing : Option ℕ) (around : List Format)
      (xs : Inlines) (k : List ℕ) → line.in_link ≡ true → are_normal line.in_link around xs ≡ true
      → IsNext closing k
      → Fine k → Fine (pieces line w closing xs ++ k)
  fine_pieces line p w closing around no_inlines k b h n f = f
  fine_pieces line p w closing around (inline x rest) k b h n f =
      let g = follows line.kind closing rest in
      let w' = with_inline line w g x in
      let more = pieces line w' closing rest in
      let q = and_parts (is_normal line.in_link around x && meets x rest) (are_normal line.in_link around rest) h in
      let q' = and_parts (is_normal line.in_link around x) (meets x rest) q.0 in
      subst Fine (sym (append_assoc (piece line w g x) more k))
      (fine_piece line p w g around x (more ++ k) b q'.0
      (λ t e. next_is line p w' closing around t k rest (ap (λ y. meets y rest) (sym e) ∙ q'.1) q.1 n)
      (fine_pieces line p w' closing around rest k b q.1 n f))

  fine_piece : (line : Line) → IsParagraph line → (w : Written) (g : Following) (around : List Format) (x : Inline)
      (k : List ℕ) → line.in_link ≡ true → is_normal line.in_link around x ≡ true
      → ((s : List ℕ) → x ≡ text s → IsNext g.after k) → Fine k → Fine (piece line w g x ++ k)
  fine_piece line p w g around (text s) k b h n f =
      let is : text_piece line w.text g s ≡ escaped (place_of line w.text g.after) s = rw p.no_heading refl in
      subst (λ l. Fine (l ++ k)) (sym is)
      (fine_words (place_of line w.text g.after) s k b (next_escapes g.after k (n s refl)) f)
  fine_piece line p w g around (code s) k b h n f = fine_written line p s k b f
  fine_piece line p w g around (formatted format content) k b h n f =
      let q = format_parts line.in_link around format content h in
      mark_cases (λ g' m. Fine ((m.opener ++ (pieces line (wrote w m.opener) (Some m.sign) content ++ m.closer)) ++ k))
      format (sides_of line w.text g content)
      (λ r e. let o = row_signs r in
      let t = pieces line (wrote w o) (Some (row_sign r)) content in
      subst Fine (sym (append_assoc o (t ++ o) k ∙ ap (λ l. o ++ l) (append_assoc t o k)))
      (fine_row r (t ++ (o ++ k))
      (fine_pieces line p (wrote w o) (Some (row_sign r)) (format ∷ around) content (o ++ k) b q.3 (row_next r k)
      (fine_row r k f))))
      (λ r i. let o = opener r in
      let t = pieces line (wrote w o) (Some 60) content in
      subst Fine (sym (append_assoc o (t ++ closer r) k ∙ ap (λ l. o ++ l) (append_assoc t (closer r) k)))
      (fine_opener r (t ++ (closer r ++ k))
      (fine_pieces line p (wrote w o) (Some 60) (format ∷ around) content (closer r ++ k) b q.3 (closer_next r k)
      (fine_closer r k f))))
  fine_piece line p w g around (link a t content) k b h n f =
      let q = (link_parts line.in_link around a t content h).0 in
      let x : true ≡ false = sym b ∙ q in absurd (cc)
  fine_piece line p w g around (image a t d) k b h n f = refl
  fine_piece line p w g around (anchor id) k b h n f =
      let q = (and_parts (not line.in_link) (is_text id) (and_parts (not line.in_link && is_text id) _ h).0).0 in
      let x : true ≡ false = sym b ∙ not-true line.in_link q in absurd (cc)
  fine_piece line p w g around line_break k b h n f = fine_break line p k f
  fine_piece line p w g around (task c) k b h n f = absurd (cc)

-- ---- the beginning of a paragraph

fine_end : (style : LinkStyle) (n : ℕ) (a : List ℕ) (t : Option (List ℕ)) (k : List ℕ)
    → Fine (link_end style n a t ++ k)
fine_end Referenced n a t k = refl
fine_end Inlined n a t k = refl
fine_end InlinedPreferAutolinks n a t k = refl

no_defined : (o : Option Front) → no_colon o ≡ true → after_label o ≡ None
no_defined None h = refl
no_defined (Some f) h = rw (not-true (first_is 58 f.rest) h) refl

abbrev Undefined : List ℕ → Type 0
Undefined s = definition s ≡ None

pub fine_undefined : (s : List ℕ) → Fine s → Undefined (91 ∷ s)
fine_undefined s f = no_defined (until_sign 93 91 false s) f

pub undefined_first : (line : Line) → IsParagraph line → (w : Written) (g : Following) (around : List Format)
    (x : Inline) (k : List ℕ) → is_break x ≡ false → is_normal line.in_link around x ≡ true
    → Undefined (piece line w g x ++ k)
undefined_first line p w g around (text []) k b h = absurd (no_text h)
undefined_first line p w g around (text (c ∷ t)) k b h =
    text_first line p w.text g c t k Undefined (λ u. refl)
    (λ m u. let n : (c == 91) ≡ false =
    test (c == 91)
    (λ z. let v : true ≡ false =
    ap (λ d. mark_at (place_of line w.text g.after) [] d t) (sym (eqb-true c 91 z)) ∙ m in absurd (cc))
    (λ z. z) in
    rw n refl)
undefined_first line p w g around (code s) k b h =
    code_first line s k Undefined (and_parts (is_text s) _ h).0 (λ u. refl) (λ u. refl)
undefined_first line p w g around (formatted format content) k b h =
    mark_cases (λ g' m. Undefined ((m.opener ++ (pieces line (wrote w m.opener) (Some m.sign) content ++ m.closer))
    ++ k))
    format (sides_of line w.text g content)
    (λ r e. let y = pieces line (wrote w (row_signs r)) (Some (row_sign r)) content ++ row_signs r in
    subst Undefined (sym (append_assoc (row_signs r) y k))
    (row_first r (y ++ k) Undefined (λ u. refl) (λ u. refl) (λ u z. refl)))
    (λ r i. let y = pieces line (wrote w (opener r)) (Some 60) content ++ closer r in
    subst Undefined (sym (append_assoc (opener r) y k)) (tag_first r (y ++ k) Undefined (λ u. refl)))
undefined_first line p w g around (link a name content) k b h =
    let q = link_parts line.in_link around a name content h in
    let v = wrote w (codes "[") in
    let n = length (written (in_link line) v (Some 93) content).definitions in
    let t = pieces (in_link line) v (Some 93) content in
    let e = link_end line.link_style n a name in
    let d = end_is line.link_style n a name in
    let p' : IsParagraph (in_link line) =
    record { no_one_line = p.no_one_line; no_heading = p.no_heading; no_cell = p.no_cell } in
    test (is_autolinked line a name content) (λ y. rw y refl)
    (λ y. rw y (subst (λ l. Undefined (91 ∷ l)) (sym (append_assoc t e k))
    (fine_undefined (t ++ (e ++ k))
    (fine_pieces (in_link line) p' v (Some 93) around content (e ++ k) refl q.4
    (subst (λ l. IsNext (Some 93) (l ++ k)) (sym d.1) (end_next d.0 k)) (fine_end line.link_style n a name k)))))
undefined_first line p w g around (image a t d) k b h = refl
undefined_first line p w g around (anchor i) k b h = refl
undefined_first line p w g around line_break k b h = absurd (cc)
undefined_first line p w g around (task c) k b h = absurd (cc)

-- a text that no definition begins and no white space ends is whole
pub whole_by : (s : List ℕ) → EndsInk s → Undefined s → IsWhole s
whole_by [] e u = absurd e
whole_by (c ∷ s) e u =
    ap (λ o. elim o as (λ x. Definitions) [
      | None ↦ no_more (c ∷ s)
      | Some d ↦ and_then d.definition (definitions_behind (length s - length d.rest) s)
    ]) u
    ∙ ap (λ t. record { found = []; rest = t }) (strip_ink (c ∷ s) e)
