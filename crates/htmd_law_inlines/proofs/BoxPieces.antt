-- No line that begins with no task is taken for one: what is written of it doesn't begin with a box.
use Rattle.std.proofs.Common.{◌≡◌, ◌∙◌, refl, ap, sym, ℕ, suc, Bool, true, false, List, [], ◌∷◌, ◌++◌, Option, Some}
use Rattle.std.proofs.Common.{None, codes, subst, arith}
use Rattle.std.specs.Prelude.{not, ◌&&◌, ◌==◌, replicate}
use Rattle.std.specs.List.{position_or_len, range_with_len}
use Rattle.std.proofs.lemmas.Bool.{eqb-true, and_parts, not-true}
use Rattle.std.proofs.lemmas.List.{append_assoc, append-nil}
use Rattle.htmd_lexical.specs.Characters.{is_one_of}
use Rattle.htmd_lexical.specs.CharacterClasses.{first_is, is_empty}
use Rattle.htmd_text.specs.EscapedPlaces.{with_backslashes}
use Rattle.htmd_markdown.specs.Runs.{longest_run, has_run}
use Rattle.htmd_markdown.specs.CodeSpans.{delimited_text, meets_delimiter, smallest_unused_len, space_if}
use Rattle.htmd_markdown.specs.declared.link.LinkStyle.{LinkStyle}
use Rattle.htmd_markdown.specs.declared.link.LinkStyle.TheVariants.{Inlined, InlinedPreferAutolinks, Referenced}
use Rattle.htmd_markdown.specs.declared.line_break.BrStyle.{BrStyle}
use Rattle.htmd_markdown.specs.declared.line_break.BrStyle.TheVariants.{TwoSpaces, Backslash}
use Rattle.htmd_markdown.specs.LineBreaks as breaks
use Rattle.htmd_document.specs.Formats.{Format}
use Rattle.htmd_document.specs.Documents.{Inline, text, code, formatted, link, image, line_break, task}
use Rattle.htmd_document.specs.Documents.{anchor}
use Rattle.htmd_document.specs.Documents.{Inlines, no_inlines, inline}
use Rattle.htmd_commonmark.specs.declared.line.Line.{Line}
use Rattle.htmd_commonmark.specs.declared.inline_ends.Following.{Following}
use Rattle.htmd_commonmark.specs.declared.text_escape.Place.{Place}
use Rattle.htmd_commonmark.specs.WrittenText.{Written, wrote, is_one_line}
use Rattle.htmd_commonmark.specs.Marks.{Mark, mark_for}
use Rattle.htmd_commonmark.specs.InlineEnds.{follows}
use Rattle.htmd_commonmark.specs.InlineMarkdown.{written, written_line, with_inline, needs_tags, written_break}
use Rattle.htmd_commonmark.specs.InlineMarkdown.{with_address, is_autolinked, autolink, in_link, sides_of, place_of}
use Rattle.htmd_commonmark_reading.specs.Lists.{is_task, begins_with_blank}
use Rattle.htmd_commonmark_reading.specs.Brackets.{kind}
use Rattle.htmd_document.specs.NormalInlines.{is_normal, are_normal, meets, has_none, is_attribute, is_title, is_break}
use Rattle.htmd_document.specs.NormalInlines.{first_passes}
use Rattle.htmd_law_inlines.proofs.TextPieces.{test}
use Rattle.htmd_law_inlines.proofs.ReferencePieces.{one_of}
use Rattle.htmd_law_inlines.proofs.TextRead.{AreDue, needs_none}
use Rattle.htmd_law_inlines.proofs.TextMarks.{are_due}
use Rattle.htmd_law_inlines.proofs.TextWritten.{text_written}
use Rattle.htmd_law_inlines.proofs.WrittenPieces.{is_words, no_two_texts, textual}
use Rattle.htmd_law_inlines.proofs.NextPieces.{always_marked}
use Rattle.htmd_law_inlines.proofs.SoundPieces.{never}
use Rattle.htmd_law_inlines.proofs.ItemPieces.{no_both}
use Rattle.htmd_law_inlines.proofs.AlikePieces.{alike_all, mark_head}

-- ---- what is written comes behind what was written

-- more text behind what was written
record IsMore (w after : Written) : Type 0 where
  piece : List ℕ
  is : after.text ≡ w.text ++ piece

more_of : (line : Line) (w : Written) (closing : Option ℕ) (xs : Inlines) → IsMore w (written line w closing xs)
more_of line w closing xs =
    let a = alike_all line w w closing xs (λ u. (refl, refl)) refl in record { piece = a.piece; is = a.is }

-- the text behind begins with a sign
record IsSigned (is_link : Bool) (w after : Written) : Type 0 where
  head : ℕ
  rest : List ℕ
  is : after.text ≡ w.text ++ (head ∷ rest)
  is_sign : is_one_of (codes "`*_~<[!\\") head ≡ true
  no_bracket : is_link ≡ false → (head == 91) ≡ false

abbrev is_linked : Inline → Bool
is_linked (link a t content) = true
is_linked _ = false

address_more : (style : LinkStyle) (w : Written) (a : List ℕ) (t : Option (List ℕ))
    → (r : List ℕ) × (((with_address style w a t).text ≡ w.text ++ (93 ∷ r)) × ((u : List ℕ)
    → begins_with_blank (r ++ u) ≡ false))
address_more Inlined w a t = (_, (refl, λ u. refl))
address_more InlinedPreferAutolinks w a t = (_, (refl, λ u. refl))
address_more Referenced w a t = (_, (refl, λ u. refl))

span_sign : (w : Written) (padded : Bool) (n k : ℕ) (s : List ℕ) → n ≡ suc k
    → IsSigned false w (wrote w (delimited_text padded n s))
span_sign w padded n k s e = record {
  head = 96;
  rest = (((replicate k 96 ++ space_if padded) ++ s) ++ space_if padded) ++ replicate (suc k) 96;
  is = ap (λ m. w.text ++ delimited_text padded m s) e;
  is_sign = refl;
  no_bracket = λ q. refl;
}

mark_sign : (line : Line) (w : Written) (m : Mark) (content : Inlines) (h : ℕ) (u : List ℕ) → m.opener ≡ h ∷ u
    → is_one_of (codes "`*_~<[!\\") h ≡ true → (h == 91) ≡ false
    → IsSigned false w (wrote (written line (wrote w m.opener) (Some m.sign) content) m.closer)
mark_sign line w m content h u e i k =
    let c = more_of line (wrote w m.opener) (Some m.sign) content in
    record {
      head = h;
      rest = u ++ (c.piece ++ m.closer);
      is = ap (λ l. l ++ m.closer) c.is ∙ append_assoc (w.text ++ m.opener) c.piece m.closer
          ∙ append_assoc w.text m.opener (c.piece ++ m.closer)
          ∙ ap (λ l. w.text ++ (l ++ (c.piece ++ m.closer))) e;
      is_sign = i;
      no_bracket = λ q. k;
    }

-- what is neither a text nor a break begins with a sign
signed : (line : Line) (around : List Format) (w : Written) (f : Following) (y : Inline) → is_words y ≡ false
    → is_break y ≡ false → is_normal line.in_link around y ≡ true
    → IsSigned (is_linked y) w (with_inline line w f y)
signed line around w f (text s) i j k = absurd (cc)
signed line around w f (code s) i j k =
    test (needs_tags line s)
    (λ e. rw e (record { head = 60; rest = _; is = refl; is_sign = refl; no_bracket = λ q. refl }))
    (λ e. let k = position_or_len (λ n. not (has_run 96 n s)) (range_with_len 1 (longest_run 96 s)) in
    let n : smallest_unused_len s ≡ suc k = omega arith in
    rw e (span_sign w (meets_delimiter s) (smallest_unused_len s) k s n))
signed line around w f (formatted g content) i j k =
    let s = sides_of line w.text f content in
    let h = mark_head g s in
    mark_sign line w (mark_for g s) content h.0 h.1.0 h.1.1.0 h.1.1.1 h.1.1.2
signed line around w f (link b t content) i j k =
    let after = written (in_link line) (wrote w (codes "[")) (Some 93) content in
    let c = more_of (in_link line) (wrote w (codes "[")) (Some 93) content in
    let a = address_more line.link_style after b t in
    test (is_autolinked line b t content)
    (λ e. rw e (record {
      head = 60;
      rest = b ++ codes ">";
      is = refl;
      is_sign = refl;
      no_bracket = λ q. refl;
    }))
    (λ e. rw e (record {
      head = 91;
      rest = c.piece ++ (93 ∷ a.0);
      is = a.1.0 ∙ ap (λ l. l ++ (93 ∷ a.0)) c.is ∙ append_assoc (w.text ++ codes "[") c.piece (93 ∷ a.0)
          ∙ append_assoc w.text (codes "[") (c.piece ++ (93 ∷ a.0));
      is_sign = refl;
      no_bracket = λ q. absurd (cc);
    }))
signed line around w f (image b t s) i j k = record
    { head = 33; rest = _; is = refl; is_sign = refl; no_bracket = λ q. refl }
signed line around w f (anchor id) i j k = record
    { head = 60; rest = _; is = refl; is_sign = refl; no_bracket = λ q. refl }
signed line around w f line_break i j k = absurd (cc)
signed line around w f (task d) i j k = absurd (cc)

-- ---- the text of a link

-- a box without its first bracket
abbrev is_box_end : List ℕ → Bool
is_box_end (b ∷ c ∷ s) = is_one_of (codes " xX") b && (c == 93) && begins_with_blank s
is_box_end _ = false

-- the text of a link, behind which this stands, isn't what is in a box
record IsNoBox (w after : Written) : Type 0 where
  piece : List ℕ
  is : after.text ≡ w.text ++ piece
  no_box : (r : List ℕ) → begins_with_blank r ≡ false → is_box_end (piece ++ (93 ∷ r)) ≡ false

other_first : (h : ℕ) (s : List ℕ) → is_one_of (codes " xX") h ≡ false → is_box_end (h ∷ s) ≡ false
other_first h [] n = refl
other_first h (c ∷ s) n = ap (λ b. b && (c == 93) && begins_with_blank s) n

other_second : (h c : ℕ) (s : List ℕ) → (c == 93) ≡ false → is_box_end (h ∷ c ∷ s) ≡ false
other_second h c s n =
    ap (λ b. is_one_of (codes " xX") h && b && begins_with_blank s) n ∙ no_both (is_one_of (codes " xX") h) _

no_blank_after : (h : ℕ) (s : List ℕ) → begins_with_blank s ≡ false → is_box_end (h ∷ 93 ∷ s) ≡ false
no_blank_after h s n =
    ap (λ b. is_one_of (codes " xX") h && true && b) n ∙ never (is_one_of (codes " xX") h && true)

sign_first : (h : ℕ) → is_one_of (codes "`*_~<[!\\") h ≡ true → is_one_of (codes " xX") h ≡ false
sign_first h i =
    not-true (is_one_of (codes " xX") h)
    (one_of (λ c. not (is_one_of (codes " xX") c)) (codes "`*_~<[!\\") h i refl)

signed_no_box : (b : Bool) (w next after : Written) → IsSigned b w next → IsMore next after → IsNoBox w after
signed_no_box b w next after s m = record {
  piece = s.head ∷ (s.rest ++ m.piece);
  is = m.is ∙ ap (λ l. l ++ m.piece) s.is ∙ append_assoc w.text (s.head ∷ s.rest) m.piece;
  no_box = λ r e. other_first s.head ((s.rest ++ m.piece) ++ (93 ∷ r)) (sign_first s.head s.is_sign);
}

break_no_box : (w : Written) (style : BrStyle) (after : Written) → IsMore (wrote w (breaks.line_break style)) after
    → IsNoBox w after
break_no_box w TwoSpaces after m = record {
  piece = codes "  \n" ++ m.piece;
  is = m.is ∙ append_assoc w.text (codes "  \n") m.piece;
  no_box = λ r b. other_second 32 32 (10 ∷ (m.piece ++ (93 ∷ r))) refl;
}
break_no_box w Backslash after m = record {
  piece = codes "\\\n" ++ m.piece;
  is = m.is ∙ append_assoc w.text (codes "\\\n") m.piece;
  no_box = λ r b. refl;
}

-- the first character of a text that stands as it is, before this
bare_no_box : (place : Place) (marked : ℕ → Bool) (x : ℕ) (s u : List ℕ) → place.in_brackets ≡ true
    → AreDue place marked 1 s → ((s ≡ []) → is_box_end (x ∷ u) ≡ false)
    → is_box_end (x ∷ (with_backslashes marked 1 s ++ u)) ≡ false
bare_no_box place marked x [] u i a e = e refl
bare_no_box place marked x (c ∷ s) u i a e =
    test (marked 1)
    (λ m. rw m (other_second x 92 (c ∷ (with_backslashes marked 2 s ++ u)) refl))
    (λ m. rw m (other_second x c (with_backslashes marked 2 s ++ u) (test (c == 93)
    (λ q. let is = eqb-true c 93 q in
    let n : needs_none (kind 93) place s ≡ true =
    subst (λ d. needs_none (kind d) place s ≡ true) is (a.1 (ap (λ d. d == 95) is) m) in
    let z : not true ≡ true = ap not (sym i) ∙ n in absurd (cc))
    (λ q. q))))

first_normal : (line : Line) (around : List Format) (y : Inline) (rest : Inlines)
    → are_normal line.in_link around (inline y rest) ≡ true → is_normal line.in_link around y ≡ true
first_normal line around y rest n =
    (and_parts (is_normal line.in_link around y) (meets y rest)
    (and_parts (is_normal line.in_link around y && meets y rest) (are_normal line.in_link around rest) n).0).0

-- what comes after the text of one character
abbrev EndsBox : List ℕ → Type 0
EndsBox piece = (r : List ℕ) → begins_with_blank r ≡ false → (h : ℕ)
    → is_box_end (h ∷ (piece ++ (93 ∷ r))) ≡ false

text_no_box : (line : Line) (w : Written) (f : Following) (s : List ℕ) (after : Written) → line.in_link ≡ true
    → is_empty s ≡ false → (m : IsMore (with_inline line w f (text s)) after) → EndsBox m.piece
    → IsNoBox w after
text_no_box line w f [] after i n m e = absurd (cc)
text_no_box line w f (x ∷ s) after i n m e =
    let v = text_written line w f (x ∷ s) n in
    let place = place_of line w.text f.after in
    let a = are_due place (x ∷ s) v.marked v.marks [] (x ∷ s) 0 refl refl in
    let start = with_backslashes v.marked 0 (x ∷ s) in
    record {
      piece = start ++ m.piece;
      is = m.is ∙ ap (λ (q : Written). q.text ++ m.piece) v.is ∙ append_assoc w.text start m.piece;
      no_box = λ r b.
          ap is_box_end (append_assoc start m.piece (93 ∷ r))
          ∙ test (v.marked 0)
          (λ k. rw k (other_first 92 (x ∷ (with_backslashes v.marked 1 s ++ (m.piece ++ (93 ∷ r)))) refl))
          (λ k. rw k (bare_no_box place v.marked x s (m.piece ++ (93 ∷ r)) i a.2 (λ q. e r b x)));
    }

-- a break begins so
break_begun : (line : Line) (w : Written) → (h : ℕ) × ((t : List ℕ) × (((wrote w (written_break line)).text
    ≡ w.text ++ (h ∷ t)) × ((h == 93) ≡ false)))
break_begun line w =
    test (is_one_line line.kind)
    (λ e. (60, (codes "br>", (rw e refl, refl))))
    (λ e. let v = styled line.br_style in (v.0, (v.1.0, (rw e (ap (λ l. w.text ++ l) v.1.1.0), v.1.1.1))))
  where
    styled : (style : BrStyle) → (h : ℕ) × ((t : List ℕ) ×
        ((breaks.line_break style ≡ h ∷ t) × ((h == 93) ≡ false)))
    styled TwoSpaces = (32, (codes " \n", (refl, refl)))
    styled Backslash = (92, (codes "\n", (refl, refl)))

-- what comes after a text begins with no closing bracket
record IsOther (w after : Written) : Type 0 where
  more : IsMore w after
  ends : EndsBox more.piece

other_than : (w next after : Written) (h : ℕ) (t : List ℕ) → next.text ≡ w.text ++ (h ∷ t) → (h == 93)
    ≡ false
    → IsMore next after → IsOther w after
other_than w next after h t e n m = record {
  more = record {
    piece = h ∷ (t ++ m.piece);
    is = m.is ∙ ap (λ l. l ++ m.piece) e ∙ append_assoc w.text (h ∷ t) m.piece;
  };
  ends = λ r b x. other_second x h ((t ++ m.piece) ++ (93 ∷ r)) n;
}

other_after : (line : Line) (around : List Format) (w : Written) (z : Inline) (rest : Inlines) → is_words z ≡ false
    → is_normal line.in_link around z ≡ true → IsOther w (written line w (Some 93) (inline z rest))
other_after line around w z rest i n =
    let next = with_inline line w (follows line.kind (Some 93) rest) z in
    let m = more_of line next (Some 93) rest in
    test (is_break z)
    (λ b. let v = begun z b in
    other_than w next (written line next (Some 93) rest) v.0 v.1.0 v.1.1.0 v.1.1.1 m)
    (λ b. let s = signed line around w (follows line.kind (Some 93) rest) z i b n in
    other_than w next (written line next (Some 93) rest) s.head s.rest s.is
    (not-true (s.head == 93) (one_of (λ c. not (c == 93)) (codes "`*_~<[!\\") s.head s.is_sign refl)) m)
  where
    begun : (z : Inline) → is_break z ≡ true → (h : ℕ) × ((t : List ℕ)
        × (((with_inline line w (follows line.kind (Some 93) rest) z).text ≡ w.text ++ (h ∷ t)) ×
        ((h == 93) ≡ false)))
    begun (text s) b = absurd (cc)
    begun (code s) b = absurd (cc)
    begun (formatted f content) b = absurd (cc)
    begun (link a t content) b = absurd (cc)
    begun (image a t s) b = absurd (cc)
    begun (anchor i) b = absurd (cc)
    begun line_break b = break_begun line w
    begun (task d) b = absurd (cc)

-- no link begins with what is in a box
other_content : (line : Line) (around : List Format) (w : Written) (y : Inline) (rest : Inlines) → is_words y
    ≡ false
    → is_break y ≡ false → is_normal line.in_link around y ≡ true
    → IsNoBox w (written line w (Some 93) (inline y rest))
other_content line around w y rest i b n =
    let f = follows line.kind (Some 93) rest in
    let next = with_inline line w f y in
    signed_no_box (is_linked y) w next (written line next (Some 93) rest) (signed line around w f y i b n)
    (more_of line next (Some 93) rest)

break_content : (line : Line) (w : Written) (rest : Inlines)
    → IsNoBox w (written line w (Some 93) (inline line_break rest))
break_content line w rest =
    let next = wrote w (written_break line) in
    let m = more_of line next (Some 93) rest in
    test (is_one_line line.kind)
    (λ e. signed_no_box false w next (written line next (Some 93) rest)
    (record { head = 60; rest = codes "br>"; is = rw e refl; is_sign = refl; no_bracket = λ q. refl }) m)
    (λ e. let is : next ≡ wrote w (breaks.line_break line.br_style) = rw e refl in
    break_no_box w line.br_style (written line next (Some 93) rest)
    (subst (λ (q : Written). IsMore q (written line next (Some 93) rest)) is m))

-- the text of a link isn't what is in a box
content_no_box : (line : Line) (around : List Format) (w : Written) (xs : Inlines) → line.in_link ≡ true
    → has_none xs ≡ false → are_normal line.in_link around xs ≡ true → IsNoBox w (written line w (Some 93) xs)
content_no_box line around w no_inlines i h n = absurd (cc)
content_no_box line around w (inline (text s) no_inlines) i h n =
    let f = follows line.kind (Some 93) no_inlines in
    let next = with_inline line w f (text s) in
    let p = and_parts (is_normal line.in_link around (text s) && meets (text s) no_inlines) true n in
    let t = textual s (and_parts (is_normal line.in_link around (text s)) (meets (text s) no_inlines) p.0).0 in
    text_no_box line w f s next i t.full (record { piece = []; is = sym (append-nil next.text) })
    (λ r b x. no_blank_after x r b)
content_no_box line around w (inline (text s) (inline z rest)) i h n =
    let xs = inline z rest in
    let f = follows line.kind (Some 93) xs in
    let next = with_inline line w f (text s) in
    let p = and_parts (is_normal line.in_link around (text s) && meets (text s) xs)
    (are_normal line.in_link around xs) n in
    let q = and_parts (is_normal line.in_link around (text s)) (meets (text s) xs) p.0 in
    let t = textual s q.0 in
    let z_normal = (and_parts (is_normal line.in_link around z) (meets z rest)
    (and_parts (is_normal line.in_link around z && meets z rest) (are_normal line.in_link around rest) p.1).0).0 in
    let o = other_after line around next z rest (no_two_texts s z q.1) z_normal in
    text_no_box line w f s (written line next (Some 93) xs) i t.full o.more o.ends
content_no_box line around w (inline line_break rest) i h n = break_content line w rest
content_no_box line around w (inline (code s) rest) i h n =
    other_content line around w (code s) rest refl refl (first_normal line around (code s) rest n)
content_no_box line around w (inline (formatted f content) rest) i h n =
    other_content line around w (formatted f content) rest refl refl
    (first_normal line around (formatted f content) rest n)
content_no_box line around w (inline (link a t content) rest) i h n =
    other_content line around w (link a t content) rest refl refl (first_normal line around (link a t content) rest n)
content_no_box line around w (inline (image a t s) rest) i h n =
    other_content line around w (image a t s) rest refl refl (first_normal line around (image a t s) rest n)
content_no_box line around w (inline (anchor id) rest) i h n =
    other_content line around w (anchor id) rest refl refl (first_normal line around (anchor id) rest n)
content_no_box line around w (inline (task d) rest) i h n =
    let x = first_normal line around (task d) rest n in absurd (cc)

-- ---- a line

other_line : (s : List ℕ) → first_is 91 s ≡ false → is_task s ≡ false
other_line [] h = refl
other_line (a ∷ []) h = refl
other_line (a ∷ b ∷ []) h = refl
other_line (a ∷ b ∷ c ∷ s) h =
    ap (λ q. q && is_one_of (codes " xX") b && (c == 93) && begins_with_blank s) h

box_line : (s : List ℕ) → is_box_end s ≡ false → is_task (91 ∷ s) ≡ false
box_line [] h = refl
box_line (b ∷ []) h = refl
box_line (b ∷ c ∷ s) h = h

-- a text has a backslash before a bracket
text_line : (line : Line) (w : Written) (f : Following) (s : List ℕ) (rest : Written) → w.text ≡ []
    → is_empty s ≡ false → IsMore (with_inline line w f (text s)) rest → is_task rest.text ≡ false
text_line line w f [] rest e n m = absurd (cc)
text_line line w f (x ∷ s) rest e n m =
    let v = text_written line w f (x ∷ s) n in
    let place = place_of line w.text f.after in
    let a = are_due place (x ∷ s) v.marked v.marks [] (x ∷ s) 0 refl refl in
    let whole : rest.text ≡ with_backslashes v.marked 0 (x ∷ s) ++ m.piece =
    m.is ∙ ap (λ (q : Written). q.text ++ m.piece) v.is
    ∙ ap (λ l. (l ++ with_backslashes v.marked 0 (x ∷ s)) ++ m.piece) e in
    ap is_task whole
    ∙ other_line (with_backslashes v.marked 0 (x ∷ s) ++ m.piece)
    (test (v.marked 0) (λ k. rw k refl)
    (λ k. rw k (always_marked place v.marked x 91 s a refl refl k)))

signed_line : (w next rest : Written) → w.text ≡ [] → IsSigned false w next → IsMore next rest
    → is_task rest.text ≡ false
signed_line w next rest e s m =
    let whole : rest.text ≡ s.head ∷ (s.rest ++ m.piece) =
    m.is ∙ ap (λ l. l ++ m.piece) (s.is ∙ ap (λ l. l ++ (s.head ∷ s.rest)) e) in
    ap is_task whole ∙ other_line (s.head ∷ (s.rest ++ m.piece)) (s.no_bracket refl)

link_line : (line : Line) (around : List Format) (w : Written) (f : Following) (a : List ℕ) (t : Option (List ℕ))
    (content : Inlines) (rest : Written) → w.text ≡ [] → is_normal line.in_link around (link a t content) ≡ true
    → IsMore (with_inline line w f (link a t content)) rest → is_task rest.text ≡ false
link_line line around w f a t content rest e n m =
    let start = wrote w (codes "[") in
    let n1 = and_parts (not line.in_link && is_attribute a && is_title t && not (has_none content))
    (are_normal true around content) n in
    let n2 = and_parts (not line.in_link && is_attribute a && is_title t) (not (has_none content)) n1.0 in
    let after = written (in_link line) start (Some 93) content in
    let c = content_no_box (in_link line) around start content refl (not-true (has_none content) n2.1) n1.1 in
    let v = address_more line.link_style after a t in
    test (is_autolinked line a t content)
    (λ q. let m' : IsMore (wrote w (autolink a)) rest = rw q at m in
    ap is_task (m'.is ∙ ap (λ l. (l ++ autolink a) ++ m'.piece) e)
    ∙ other_line ((60 ∷ (a ++ codes ">")) ++ m'.piece) refl)
    (λ q. let m' : IsMore (with_address line.link_style after a t) rest = rw q at m in
    let whole : rest.text ≡ 91 ∷ (c.piece ++ (93 ∷ (v.0 ++ m'.piece))) =
    m'.is ∙ ap (λ l. l ++ m'.piece) (v.1.0 ∙ ap (λ l. l ++ (93 ∷ v.0)) (c.is
    ∙ ap (λ l. (l ++ codes "[") ++ c.piece) e))
    ∙ append_assoc (91 ∷ c.piece) (93 ∷ v.0) m'.piece in
    ap is_task whole
    ∙ box_line (c.piece ++ (93 ∷ (v.0 ++ m'.piece))) (c.no_box (v.0 ++ m'.piece) (v.1.1 m'.piece)))

other_task : (line : Line) (before : List (List ℕ)) (y : Inline) (rest : Inlines) → is_words y ≡ false
    → is_break y ≡ false → is_linked y ≡ false → are_normal line.in_link [] (inline y rest) ≡ true
    → is_task (written_line line before (inline y rest)).text ≡ false
other_task line before y rest i b l n =
    let w : Written = record { text = []; definitions = before } in
    let f = follows line.kind None rest in
    let next = with_inline line w f y in
    signed_line w next (written_line line before (inline y rest)) refl
    (subst (λ q. IsSigned q w next) l (signed line [] w f y i b (first_normal line [] y rest n)))
    (more_of line next None rest)

-- what is written of a line is no task
pub line_no_task : (line : Line) (before : List (List ℕ)) (xs : Inlines) → are_normal line.in_link [] xs ≡ true
    → first_passes is_break xs ≡ false → is_task (written_line line before xs).text ≡ false
line_no_task line before no_inlines n b = refl
line_no_task line before (inline (text s) rest) n b =
    let w : Written = record { text = []; definitions = before } in
    let f = follows line.kind None rest in
    let t = textual s (first_normal line [] (text s) rest n) in
    text_line line w f s (written_line line before (inline (text s) rest)) refl t.full
    (more_of line (with_inline line w f (text s)) None rest)
line_no_task line before (inline (code s) rest) n b =
    other_task line before (code s) rest refl refl refl n
line_no_task line before (inline (formatted g content) rest) n b =
    other_task line before (formatted g content) rest refl refl refl n
line_no_task line before (inline (link a t content) rest) n b =
    let w : Written = record { text = []; definitions = before } in
    let f = follows line.kind None rest in
    link_line line [] w f a t content (written_line line before (inline (link a t content) rest)) refl
    (first_normal line [] (link a t content) rest n) (more_of line (with_inline line w f (link a t content)) None rest)
line_no_task line before (inline (image a t s) rest) n b =
    other_task line before (image a t s) rest refl refl refl n
line_no_task line before (inline (anchor id) rest) n b =
    other_task line before (anchor id) rest refl refl refl n
line_no_task line before (inline line_break rest) n b = absurd (cc)
line_no_task line before (inline (task d) rest) n b =
    let x = first_normal line [] (task d) rest n in absurd (cc)
