-- What is written of normal inlines has no white space at its ends, and a heading's text nothing that a reader cuts.
use Rattle.std.proofs.Common.{◌≡◌, ◌∙◌, refl, ap, sym, subst, ℕ, suc, ◌+◌, ◌-◌, Bool, true, false, List, [], ◌∷◌, ◌++◌}
use Rattle.std.proofs.Common.{Option, Some, None, codes, append_assoc, arith}
use Rattle.std.specs.Prelude.{length, ◌==◌, ◌&&◌, not, nat_lt, reverse, take, slice_index}
use Rattle.std.specs.List.{list_all, prefix_len, suffix_len}
use Rattle.std.proofs.lemmas.Bool.{and_parts, lt-ltb, or_parts, eqb-true, eq-eqb, not-true}
use Rattle.std.proofs.lemmas.List.{reverse-append, reverse-reverse, length-append}
use Rattle.htmd_lexical.specs.CharacterClasses.{behind_run}
use Rattle.htmd_text.specs.EscapedPlaces.{with_backslashes}
use Rattle.htmd_document.specs.Formats.{Format}
use Rattle.htmd_document.specs.Documents.{Inline, text, code, formatted, link, image, line_break, task}
use Rattle.htmd_document.specs.Documents.{anchor}
use Rattle.htmd_document.specs.Documents.{Inlines, no_inlines, inline}
use Rattle.htmd_commonmark.specs.declared.line.Line.{Line}
use Rattle.htmd_commonmark.specs.declared.inline_ends.Following.{Following}
use Rattle.htmd_commonmark.specs.InlineEnds.{follows}
use Rattle.htmd_commonmark.specs.InlineMarkdown.{with_inline, sides_of, place_of, written_code, needs_tags}
use Rattle.htmd_commonmark.specs.InlineMarkdown.{is_autolinked, is_end_of_heading, ends_in_closing_signs}
use Rattle.htmd_commonmark.specs.InlineMarkdown.{with_last_escaped, is_number_sign}
use Rattle.htmd_commonmark.specs.TextEscapes.{escaped, is_marked}
use Rattle.htmd_commonmark.specs.WrittenText.{Written, wrote, is_heading}
use Rattle.htmd_commonmark_reading.specs.Characters.{is_space_or_tab, is_white, stripped_end}
use Rattle.htmd_commonmark_reading.specs.BlockStarts as starts
use Rattle.htmd_commonmark_reading.specs.BlockStarts.{is_empty_or_blank, without_closing, heading_text}
use Rattle.htmd_law_blocks.specs.LineTexts.{IsBlack}
use Rattle.htmd_law_blocks.proofs.LinesLemmas.{black_past}
use Rattle.htmd_document.specs.NormalInlines as normal
use Rattle.htmd_document.specs.NormalInlines.{is_normal, are_normal, has_none, first_passes, last_passes, is_break}
use Rattle.htmd_document.specs.NormalInlines.{begins_with_space, ends_with_space, ends_in_space, is_text}
use Rattle.htmd_law_inlines.proofs.TextPieces.{test, differs}
use Rattle.htmd_law_inlines.proofs.TextMarks.{index_at}
use Rattle.htmd_law_texts.proofs.WrittenPieces.{pieces, piece, text_piece, Row, row_sign, row_signs, star, stars, score}
use Rattle.htmd_law_texts.proofs.WrittenPieces.{scores, tildes, Tag, opener, closer, em_tag, strong_tag, del_tag}
use Rattle.htmd_law_texts.proofs.WrittenPieces.{sup_tag, sub_tag, ins_tag, u_tag, mark_tag, small_tag, kbd_tag}
use Rattle.htmd_law_texts.proofs.WrittenPieces.{abbr_tag, mark_cases}
use Rattle.htmd_law_texts.proofs.PieceTexts.{text_plain}
use Rattle.htmd_law_texts.proofs.PieceFirsts.{no_text, span_head}
use Rattle.std.proofs.lemmas.List.{length-reverse}
use Rattle.htmd_law_inlines.proofs.ReferencePieces.{one_of}
use Rattle.htmd_law_texts.proofs.PieceTexts.{escaped_all}
use Rattle.htmd_law_texts.proofs.PieceEnds.{EndsInk, ink_append, strip_blank, text_ink, marks_ink, IsOfEnds, pieces_end}
use Rattle.htmd_law_texts.proofs.PieceEnds.{last_ink}
use mathlib.Core.List.{reverse-cons}

-- ---- ink at the end

ink_of_ends : IsOfEnds EndsInk
ink_of_ends = record {
  append = ink_append;
  closers = λ c h. not-true (is_white c) (one_of (λ d. not (is_white d)) (codes "`>*_~)]") c h refl);
}

text_ends : (line : Line) (so_far : List ℕ) (f : Following) (s : List ℕ) → is_text s ≡ true
    → ends_in_space s ≡ false
    → EndsInk (text_piece line so_far f s)
text_ends line so_far f s h e =
    let t = escaped (place_of line so_far f.after) s in
    test (is_end_of_heading line f && ends_in_closing_signs t)
    (λ x. rw x (ink_append (take (length t - 1) t) (codes "\\#") refl))
    (λ x. rw x (marks_ink (is_marked (place_of line so_far f.after) s) 0 s (text_ink s h e)))

pub ends_ink : (line : Line) (w : Written) (closing : Option ℕ) (around : List Format) (xs : Inlines)
    → has_none xs ≡ false → last_passes is_break xs ≡ false → last_passes ends_with_space xs ≡ false
    → are_normal line.in_link around xs ≡ true → EndsInk (pieces line w closing xs)
ends_ink line w closing around xs n b e h =
    pieces_end EndsInk ink_of_ends line w closing around xs n b e h
    (λ so_far s x y. text_ends line so_far (record { after = closing; is_last = true }) s x y)

-- ---- number signs at the end of a heading

-- whatever stands before it, no number signs end the text after white space or alone
abbrev pub Shut : List ℕ → Type 0
Shut t = (a : List ℕ) → is_empty_or_blank (behind_run starts.is_number_sign (reverse (a ++ t))) ≡ false

last_shuts : (c : ℕ) → (c == 35) ≡ false → is_space_or_tab c ≡ false → Shut (c ∷ [])
last_shuts c n b a =
    ap (λ l. is_empty_or_blank (behind_run starts.is_number_sign l)) (reverse-append a (c ∷ [])) ∙ rw n b

shut_of_ends : IsOfEnds Shut
shut_of_ends = record {
  append = λ s t h a.
      ap (λ l. is_empty_or_blank (behind_run starts.is_number_sign (reverse l))) (sym (append_assoc a s t))
      ∙ h (a ++ s);
  closers = λ c h.
      last_shuts c (not-true (c == 35) (one_of (λ d. not (d == 35)) (codes "`>*_~)]") c h refl))
      (not-true (is_space_or_tab c) (one_of (λ d. not (is_space_or_tab d)) (codes "`>*_~)]") c h refl));
}

-- the first character of a list after those that pass
record Behind (p : ℕ → Bool) (r : List ℕ) : Type 0 where
  front : List ℕ
  sign : ℕ
  rest : List ℕ
  is : r ≡ front ++ (sign ∷ rest)
  len : length front ≡ prefix_len p r
  no : p sign ≡ false
  behind : (x : List ℕ) → behind_run p (r ++ x) ≡ sign ∷ (rest ++ x)

behind_of : (p : ℕ → Bool) (r : List ℕ) → (prefix_len p r == length r) ≡ false → Behind p r
behind_of p [] h = absurd (cc)
behind_of p (c ∷ r) h =
    test (p c)
    (λ e. let x : prefix_len p (c ∷ r) ≡ suc (prefix_len p r) =
    rw e (let z : 1 + prefix_len p r ≡ suc (prefix_len p r) = omega arith in z) in
    let y : (suc (prefix_len p r) == suc (length r)) ≡ false = ap (λ n. n == suc (length r)) (sym x) ∙ h in
    more c r e x (behind_of p r (suc_test (prefix_len p r) (length r) y)))
    (λ e. record {
      front = [];
      sign = c;
      rest = r;
      is = refl;
      len = rw e refl;
      no = e;
      behind = λ x. rw e refl;
    })
  where
    suc_test : (m n : ℕ) → (suc m == suc n) ≡ false → (m == n) ≡ false
    suc_test m n h = test (m == n) (λ e. let x = eq-eqb (suc m) (suc n) (ap suc (eqb-true m n e)) in absurd (cc))
        (λ e. e)

    more : (c : ℕ) (r : List ℕ) → p c ≡ true → prefix_len p (c ∷ r) ≡ suc (prefix_len p r)
        → Behind p r → Behind p (c ∷ r)
    more c r e x i = record {
      front = c ∷ i.front;
      sign = i.sign;
      rest = i.rest;
      is = ap (λ l. c ∷ l) i.is;
      len = ap suc i.len ∙ sym x;
      no = i.no;
      behind = λ y. rw e (i.behind y);
    }

all_at : (p : ℕ → Bool) (u v : List ℕ) (c : ℕ) → list_all p (u ++ (c ∷ v)) ≡ true → p c ≡ true
all_at p [] v c h = (and_parts (p c) (list_all p v) h).0
all_at p (d ∷ u) v c h = all_at p u v c (and_parts (p d) (list_all p (u ++ (c ∷ v))) h).1

-- a text whose number signs at the end stand after a character that isn't white
signs_shut : (t : List ℕ) → list_all normal.is_line_byte t ≡ true → EndsInk t → ends_in_closing_signs t
    ≡ false → Shut t
signs_shut t p e h a =
    let l = last_ink t e in
    let turned : reverse t ≡ l.last ∷ reverse l.front = ap reverse l.is
    ∙ reverse-append l.front (l.last ∷ []) in
    let whole : reverse (a ++ t) ≡ reverse t ++ reverse a = reverse-append a t in
    test (l.last == 35)
    (λ x. let n = suffix_len is_number_sign t in
    let some : nat_lt 0 n ≡ true =
    ap (λ r. nat_lt 0 (prefix_len is_number_sign r)) turned
    ∙ rw x (lt-ltb 0 (1 + prefix_len is_number_sign (reverse l.front)) (omega arith)) in
    let q = or_parts (n == length t) (slice_index t (length t - n - 1) == 32) (rw some at h) in
    let len = length-reverse t in
    let b = behind_of is_number_sign (reverse t) (ap (λ j. n == j) len ∙ q.0) in
    let parts : t ≡ reverse b.rest ++ (b.sign ∷ reverse b.front) =
    sym (reverse-reverse t) ∙ ap reverse b.is ∙ reverse-append b.front (b.sign ∷ b.rest)
    ∙ ap (λ y. y ++ reverse b.front) (reverse-cons b.sign b.rest)
    ∙ append_assoc (reverse b.rest) (b.sign ∷ []) (reverse b.front) in
    let plain : normal.is_line_byte b.sign ≡ true =
    all_at normal.is_line_byte (reverse b.rest) (reverse b.front) b.sign
    (ap (list_all normal.is_line_byte) (sym parts) ∙ p) in
    let l1 = ap length parts in
    let l2 = length-append (reverse b.rest) (b.sign ∷ reverse b.front) in
    let l3 = length-reverse b.front in
    let l4 = b.len in
    let place : length t - n - 1 ≡ length (reverse b.rest) = omega arith in
    let black : (b.sign == 32) ≡ false =
    ap (λ c. c == 32) (sym (index_at (reverse b.rest) (reverse b.front) b.sign))
    ∙ ap (λ y. slice_index y (length (reverse b.rest)) == 32) (sym parts)
    ∙ ap (λ j. slice_index t j == 32) (sym place) ∙ q.1 in
    ap (λ r. is_empty_or_blank (behind_run starts.is_number_sign r)) whole
    ∙ ap is_empty_or_blank (b.behind (reverse a))
    ∙ rw (black, differs normal.is_line_byte b.sign 9 plain refl) refl)
    (λ x. ap (λ r. is_empty_or_blank (behind_run starts.is_number_sign r))
    (whole ∙ ap (λ r. r ++ reverse a) turned)
    ∙ rw x (or_parts (is_space_or_tab l.last) (l.last == 10) l.ink).0)

escaped_sign : (s : List ℕ) → Shut (with_last_escaped s)
escaped_sign s a =
    let u = take (length s - 1) s in
    ap (λ l. is_empty_or_blank (behind_run starts.is_number_sign (reverse l))) (sym (append_assoc a u (codes "\\#")))
    ∙ ap (λ l. is_empty_or_blank (behind_run starts.is_number_sign l)) (reverse-append (a ++ u) (codes "\\#"))

pub heading_shut : (line : Line) (w : Written) (around : List Format) (xs : Inlines) → is_heading line.kind ≡ true
    → has_none xs ≡ false → last_passes is_break xs ≡ false → last_passes ends_with_space xs ≡ false
    → are_normal line.in_link around xs ≡ true → Shut (pieces line w None xs)
heading_shut line w around xs k n b e h =
    pieces_end Shut shut_of_ends line w None around xs n b e h (λ so_far s x y. text_shut so_far s x y)
  where
    text_shut : (so_far s : List ℕ) → is_text s ≡ true → ends_in_space s ≡ false
        → Shut (text_piece line so_far (record { after = None; is_last = true }) s)
    text_shut so_far s x y =
        let t = escaped (place_of line so_far None) s in
        test (ends_in_closing_signs t)
        (λ z. rw (k, z) (escaped_sign t))
        (λ z. rw (k, z) (signs_shut t
        (escaped_all normal.is_line_byte (is_marked (place_of line so_far None) s) 0 s refl (text_plain s x))
        (marks_ink (is_marked (place_of line so_far None) s) 0 s (text_ink s x y)) z))

-- a text with ink at its ends that shuts is a heading's as it stands
pub heading_whole : (s : List ℕ) → IsBlack s → EndsInk s → Shut s → heading_text s ≡ s
heading_whole s b e h =
    ap (λ l. reverse (without_closing (reverse l)))
    (ap (stripped_end is_space_or_tab) (black_past s b) ∙ strip_blank s e)
    ∙ ap reverse (open_end (h [])) ∙ reverse-reverse s
  where
    open_end : is_empty_or_blank (behind_run starts.is_number_sign (reverse s)) ≡ false
        → without_closing (reverse s) ≡ reverse s
    open_end x = rw x refl

-- ---- ink at the beginning

black_append : (s t : List ℕ) → IsBlack s → IsBlack (s ++ t)
black_append [] t h = absurd h
black_append (c ∷ s) t h = h

last_escaped_black : (s : List ℕ) → IsBlack s → IsBlack (with_last_escaped s)
last_escaped_black [] h = absurd h
last_escaped_black (c ∷ []) h = refl
last_escaped_black (c ∷ d ∷ s) h =
    let e : length (c ∷ d ∷ s) - 1 ≡ suc (length s) = omega arith in
    subst (λ n. IsBlack (take n (c ∷ d ∷ s) ++ codes "\\#")) (sym e) h

marks_black : (marked : ℕ → Bool) (b : ℕ) (t : List ℕ) → is_space_or_tab b ≡ false
    → IsBlack (with_backslashes marked 0 (b ∷ t))
marks_black marked b t h = test (marked 0) (λ e. rw e refl) (λ e. rw e h)

text_black : (line : Line) (so_far : List ℕ) (f : Following) (s : List ℕ) → is_text s ≡ true
    → begins_with_space (text s) ≡ false → IsBlack (text_piece line so_far f s)
text_black line so_far f [] h n = absurd (no_text h)
text_black line so_far f (c ∷ s) h n =
    let t = escaped (place_of line so_far f.after) (c ∷ s) in
    let p = (and_parts (normal.is_line_byte c) (list_all normal.is_line_byte s) (text_plain (c ∷ s) h)).0 in
    let b : IsBlack t =
    marks_black (is_marked (place_of line so_far f.after) (c ∷ s)) c s
    (rw (n, differs normal.is_line_byte c 9 p refl) refl) in
    test (is_end_of_heading line f && ends_in_closing_signs t)
    (λ x. rw x (last_escaped_black t b)) (λ x. rw x b)

code_black : (line : Line) (s : List ℕ) → is_text s ≡ true → IsBlack (written_code line s)
code_black line [] h = absurd (no_text h)
code_black line (c ∷ s) h =
    let w = span_head c s in
    test (needs_tags line (c ∷ s)) (λ e. rw e refl) (λ e. rw e (subst IsBlack (sym w.1) refl))

row_black : (r : Row) (k : List ℕ) → IsBlack (row_signs r ++ k)
row_black star k = refl
row_black stars k = refl
row_black score k = refl
row_black scores k = refl
row_black tildes k = refl

opener_black : (t : Tag) (k : List ℕ) → IsBlack (opener t ++ k)
opener_black em_tag k = refl
opener_black strong_tag k = refl
opener_black del_tag k = refl
opener_black sup_tag k = refl
opener_black sub_tag k = refl
opener_black ins_tag k = refl
opener_black u_tag k = refl
opener_black mark_tag k = refl
opener_black small_tag k = refl
opener_black kbd_tag k = refl
opener_black (abbr_tag title) k = refl

pub begins_black : (line : Line) (w : Written) (closing : Option ℕ) (around : List Format) (xs : Inlines)
    → has_none xs ≡ false → first_passes is_break xs ≡ false → first_passes begins_with_space xs ≡ false
    → are_normal line.in_link around xs ≡ true → IsBlack (pieces line w closing xs)
begins_black line w closing around no_inlines n b e h = absurd (cc)
begins_black line w closing around (inline x rest) n b e h =
    let f = follows line.kind closing rest in
    black_append (piece line w f x) (pieces line (with_inline line w f x) closing rest)
    (one f x b e (and_parts (is_normal line.in_link around x) _
    (and_parts _ (are_normal line.in_link around rest) h).0).0)
  where
    one : (f : Following) (x : Inline) → is_break x ≡ false → begins_with_space x ≡ false
        → is_normal line.in_link around x ≡ true → IsBlack (piece line w f x)
    one f (text s) b e h = text_black line w.text f s h e
    one f (code s) b e h = code_black line s (and_parts (is_text s) _ h).0
    one f (formatted g content) b e h =
        mark_cases (λ g' m. IsBlack (m.opener ++ (pieces line (wrote w m.opener) (Some m.sign) content ++ m.closer)))
        g (sides_of line w.text f content)
        (λ r e. row_black r (pieces line (wrote w (row_signs r)) (Some (row_sign r)) content ++ row_signs r))
        (λ r i. opener_black r (pieces line (wrote w (opener r)) (Some 60) content ++ closer r))
    one f (link a t content) b e h = test (is_autolinked line a t content) (λ y. rw y refl) (λ y. rw y refl)
    one f (image a t d) b e h = refl
    one f (anchor i) b e h = refl
    one f line_break b e h = absurd (cc)
    one f (task c) b e h = absurd (cc)
