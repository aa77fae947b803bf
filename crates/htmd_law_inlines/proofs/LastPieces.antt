-- The last character of what is written of inlines is, to a mark that closes them, as the writer takes it to be.
use Rattle.std.proofs.Common.{◌≡◌, ◌∙◌, refl, ap, sym, ℕ, suc, Bool, true, false, List, [], ◌∷◌, ◌++◌, Option, Some}
use Rattle.std.proofs.Common.{None, codes, subst, length, arith}
use Rattle.std.specs.Prelude.{not, ◌&&◌, ◌||◌, ◌==◌, if◌then◌else◌, slice_get, reverse}
use Rattle.std.specs.Fmt.{decimal}
use Rattle.std.specs.Str.{IsUtf8}
use Rattle.std.specs.Char.{is_ascii_punctuation}
use Rattle.std.proofs.lemmas.Bool.{eqb-true, and_parts, not-true, or_parts, agree_below_at}
use Rattle.std.proofs.lemmas.List.{append-nil}
use Rattle.std.proofs.lemmas.Str.{encodes-append, encode_ascii, chars-nil}
use Rattle.htmd_lexical.specs.Characters.{asterisk, greater_than_sign, is_one_of}
use Rattle.htmd_text.specs.EscapedPlaces.{with_backslashes}
use Rattle.htmd_markdown.specs.declared.link.LinkStyle.{LinkStyle}
use Rattle.htmd_markdown.specs.declared.link.LinkStyle.TheVariants.{Inlined, InlinedPreferAutolinks, Referenced}
use Rattle.htmd_markdown.specs.declared.line_break.BrStyle.{BrStyle}
use Rattle.htmd_markdown.specs.declared.line_break.BrStyle.TheVariants.{TwoSpaces, Backslash}
use Rattle.htmd_markdown.specs.LineBreaks as breaks
use Rattle.htmd_document.specs.Formats.{Format}
use Rattle.htmd_document.specs.Documents.{Inline, text, code, formatted, link, image, anchor, line_break, task}
use Rattle.htmd_document.specs.Tags as html
use Rattle.htmd_law_inlines.proofs.AnchorPieces.{anchor_end}
use Rattle.htmd_document.specs.Documents.{Inlines, no_inlines, inline}
use Rattle.htmd_commonmark.specs.declared.line.Line.{Line}
use Rattle.htmd_commonmark.specs.declared.inline_ends.Following.{Following}
use Rattle.htmd_commonmark.specs.declared.marks.Sides.{Sides}
use Rattle.htmd_commonmark.specs.declared.text_escape.Place.{Place}
use Rattle.htmd_commonmark.specs.CharacterKinds as writer
use Rattle.htmd_commonmark.specs.WrittenText.{Written, wrote, is_one_line}
use Rattle.htmd_commonmark.specs.TextEscapes.{escaped}
use Rattle.htmd_commonmark.specs.Marks.{Mark, is_always_tag, fits, meets_equal, can_stand, is_disputed, is_in_word}
use Rattle.htmd_commonmark.specs.Marks.{is_character, is_sign_there}
use Rattle.htmd_commonmark.specs.InlineEnds.{last_of, last_of_all, last_of_format, follows}
use Rattle.htmd_commonmark.specs.InlineMarkdown.{written, with_inline, written_break, written_code, written_image}
use Rattle.htmd_commonmark.specs.InlineMarkdown.{written_resource, place_of_description, is_autolinked, autolink}
use Rattle.htmd_commonmark.specs.InlineMarkdown.{with_address, in_link, sides_of, place_of, reference_number}
use Rattle.htmd_document.specs.NormalInlines.{is_normal, are_normal, meets, is_text, is_trimmed}
use Rattle.htmd_commonmark_reading.specs.Characters.{last_character}
use Rattle.htmd_law_inlines.proofs.Pieces.{pushed, pushed_append}
use Rattle.htmd_law_inlines.proofs.TextPieces.{in_some, test, differs}
use Rattle.htmd_law_inlines.proofs.ReferencePieces.{one_of, is_small, AreEscapes}
use Rattle.htmd_law_inlines.proofs.CharacterPieces.{plain_encode, last_is_character}
use Rattle.htmd_law_inlines.proofs.Nested.{beside_before, row_text}
use Rattle.htmd_law_inlines.proofs.Flanking.{IsInner, inner_same, inner_punctuation}
use Rattle.htmd_law_inlines.proofs.Beside.{seen_before}
use Rattle.htmd_law_inlines.proofs.TextRead.{AreDue, escapes_of}
use Rattle.htmd_law_inlines.proofs.TextMarks.{MarksAll, are_due}
use Rattle.htmd_law_inlines.proofs.RowsRead.{beyond, beyond_length, marks_append, plain_written, snoc, scalars_last}
use Rattle.htmd_law_inlines.proofs.RowsRead.{last_of_encodes}
use Rattle.htmd_law_inlines.proofs.MarkPieces.{in_tag, mark_cases}
use Rattle.htmd_law_inlines.proofs.TextWritten.{text_written}
use Rattle.htmd_law_inlines.proofs.SoundPieces.{EndsIn, one_end, then_end, code_closed}
use Rattle.htmd_law_inlines.proofs.WrittenPieces.{is_words, textual, row_end, tag_end, resource_end}
use lib.Utf8.{encode, encodes, scalar, scalars}

-- ---- a mark that fits

pub record IsFitting (sign : ℕ) (s : Sides) : Type 0 where
  pub no_equal_before : (is_character sign s.before && not s.is_escaped) ≡ false
  pub no_equal_after : (s.is_last && is_character sign s.after) ≡ false
  pub opens : can_stand s.first s.before ≡ true
  pub closes : can_stand s.last s.after ≡ true
  pub undisputed : is_disputed sign s ≡ false
  pub no_word : is_in_word sign s ≡ false

pub fitting : (sign : ℕ) (s : Sides) → fits sign s ≡ true → IsFitting sign s
fitting sign s h =
    let stands = can_stand s.first s.before && can_stand s.last s.after in
    let a = and_parts (not (meets_equal sign s) && stands && not (is_disputed sign s)) (not (is_in_word sign s)) h in
    let b = and_parts (not (meets_equal sign s) && stands) (not (is_disputed sign s)) a.0 in
    let c = and_parts (not (meets_equal sign s)) stands b.0 in
    let d = and_parts (can_stand s.first s.before) (can_stand s.last s.after) c.1 in
    let e = or_parts (is_character sign s.before && not s.is_escaped) (s.is_last && is_character sign s.after)
    (not-true (meets_equal sign s) c.0) in
    record {
      no_equal_before = e.0;
      no_equal_after = e.1;
      opens = d.0;
      closes = d.1;
      undisputed = not-true (is_disputed sign s) b.1;
      no_word = not-true (is_in_word sign s) a.1;
    }

-- ---- texts that end in punctuation

pub mark_scalar : (d : ℕ) → is_ascii_punctuation d ≡ true → scalar d ≡ true
mark_scalar d h = agree_below_at scalar (λ x. true) 128 d refl (is_small d h)

pub ends_beside : (sign d : ℕ) (s : List ℕ) → EndsIn d s → is_ascii_punctuation d ≡ true → (d == 126)
    ≡ false
    → beside_before sign (pushed s []) ≡ Some d
ends_beside sign d s (front, e) h n =
    ap (λ l. beside_before sign (pushed l [])) e ∙ ap (beside_before sign) (pushed_append front (d ∷ []) [])
    ∙ ap (λ l. beside_before sign (pushed l (pushed front []))) (sym (encode_ascii d (is_small d h)))
    ∙ seen_before sign d (pushed front []) (mark_scalar d h) (λ x. n)

mark_inner : (sign g d : ℕ) (s : List ℕ) → is_ascii_punctuation g ≡ true → EndsIn d s
    → is_one_of (codes "`>)]*_") d ≡ true → IsInner g (beside_before sign (pushed s []))
mark_inner sign g d s h e i =
    let p = one_of is_ascii_punctuation (codes "`>)]*_") d i refl in
    subst (IsInner g) (sym (ends_beside sign d s e p (differs (is_one_of (codes "`>)]*_")) d 126 i refl)))
    (inner_punctuation g d h p)

-- a line feed isn't beside a mark
line_inner : (o : Option ℕ) → IsInner 10 o
line_inner o = record { no_space = λ x. absurd (cc); no_punctuation = λ x. absurd (cc) }

-- ---- texts

-- the last character as it is written
last_written : (marked : ℕ → Bool) (k c : ℕ) → AreEscapes marked k (encode c)
    → (x : List ℕ) × (with_backslashes marked k (encode c) ≡ x ++ encode c)
last_written marked k c a =
    test (is_ascii_punctuation c)
    (λ p. let e = encode_ascii c (is_small c p) in
    test (marked k) (λ m. (92 ∷ [], rw (e, m) refl)) (λ m. ([], rw (e, m) refl)))
    (λ p. ([], plain_written marked (encode c) k a (plain_encode c p)))

-- a tilde has a backslash, past which other signs don't look
tilde_before : (sign : ℕ) (x : List ℕ) → (sign == 126) ≡ false → beside_before sign (126 ∷ 92 ∷ x)
    ≡ Some 92
tilde_before sign x n =
    rw n (ap (λ l. last_character (pushed l x)) (sym (encode_ascii 92 (omega arith))) ∙ last_is_character 92 x refl)

text_last : (place : Place) (marked : ℕ → Bool) (so_far s : List ℕ) (sign g : ℕ) → IsUtf8 s
    → MarksAll place s marked
    → writer.last_character s ≡ Some g
    → IsInner g (beside_before sign (pushed (so_far ++ with_backslashes marked 0 s) []))
text_last place marked so_far s sign g ([], (sc, e)) m l =
    let x : None ≡ Some g = ap (λ p. slice_get (reverse p) 0) (sym chars-nil) ∙ ap writer.last_character e ∙ l in
    absurd (cc)
text_last place marked so_far s sign g (d ∷ ds, (sc, e)) m l =
    let v = snoc d ds in
    let c = v.last in
    let front = encodes v.front in
    let sc' : scalars (v.front ++ (c ∷ [])) ≡ true = ap scalars (sym v.is) ∙ sc in
    let scalar_c = scalars_last v.front c sc' in
    let is : s ≡ front ++ encode c =
    sym e ∙ ap encodes v.is ∙ encodes-append v.front (c ∷ []) ∙ ap (λ l. front ++ l) (append-nil (encode c)) in
    let last : Some c ≡ Some g =
    sym (ap writer.last_character (sym e ∙ ap encodes v.is) ∙ last_of_encodes v.front c sc') ∙ l in
    let k = beyond front 0 in
    let due : AreDue place marked k (encode c) =
    are_due place s marked m front (encode c) k is (let b = beyond_length front 0 in omega arith) in
    let w = last_written marked k c (escapes_of place marked k (encode c) due) in
    let start = pushed w.0 (pushed (with_backslashes marked 0 front) (pushed so_far [])) in
    let seen : pushed (so_far ++ with_backslashes marked 0 s) [] ≡ pushed (encode c) start =
    pushed_append so_far (with_backslashes marked 0 s) []
    ∙ ap (λ u. pushed (with_backslashes marked 0 u) (pushed so_far [])) is
    ∙ ap (λ u. pushed u (pushed so_far [])) (marks_append marked front (encode c) 0)
    ∙ pushed_append (with_backslashes marked 0 front) (with_backslashes marked k (encode c)) (pushed so_far [])
    ∙ ap (λ u. pushed u (pushed (with_backslashes marked 0 front) (pushed so_far []))) w.1
    ∙ pushed_append w.0 (encode c) (pushed (with_backslashes marked 0 front) (pushed so_far [])) in
    subst (λ (o : Option ℕ). IsInner (in_some o)
    (beside_before sign (pushed (so_far ++ with_backslashes marked 0 s) [])))
    last
    (test ((c == 126) && not (sign == 126))
    (λ t. let p = and_parts (c == 126) (not (sign == 126)) t in
    let is_tilde = eqb-true c 126 p.0 in
    let due' : AreDue place marked k (126 ∷ []) =
    subst (λ u. AreDue place marked k u) (ap encode is_tilde ∙ encode_ascii 126 (omega arith)) due in
    let before = pushed (with_backslashes marked 0 front) (pushed so_far []) in
    test (marked k)
    (λ n. let ends : pushed (so_far ++ with_backslashes marked 0 s) [] ≡ 126 ∷ 92 ∷ before =
    pushed_append so_far (with_backslashes marked 0 s) []
    ∙ ap (λ u. pushed (with_backslashes marked 0 u) (pushed so_far [])) is
    ∙ ap (λ u. pushed u (pushed so_far [])) (marks_append marked front (encode c) 0)
    ∙ pushed_append (with_backslashes marked 0 front) (with_backslashes marked k (encode c)) (pushed so_far [])
    ∙ ap (λ u. pushed (with_backslashes marked k u) before) (ap encode is_tilde ∙ encode_ascii 126 (omega arith))
    ∙ ap (λ u. pushed u before) (slash_tilde k n) in
    subst (IsInner c) (sym (ap (beside_before sign) ends ∙ tilde_before sign before (not-true (sign == 126) p.1)))
    (inner_punctuation c 92 (ap is_ascii_punctuation is_tilde) refl))
    (λ n. let x = due'.1 refl n in absurd (cc)))
    (λ t. subst (IsInner c) (sym (ap (beside_before sign) seen
    ∙ seen_before sign c start scalar_c (λ n. no_tilde_there c t n))) (inner_same c)))
  where
    slash_tilde : (k : ℕ) → marked k ≡ true → with_backslashes marked k (126 ∷ []) ≡ 92 ∷ 126 ∷ []
    slash_tilde k n = rw n refl

    no_tilde_there : (c : ℕ) → ((c == 126) && not (sign == 126)) ≡ false → (sign == 126) ≡ false
        → (c == 126) ≡ false
    no_tilde_there c t n =
        test (c == 126)
        (λ x. let y : (true && not false) ≡ false =
        ap (λ b. true && not b) (sym n) ∙ ap (λ b. b && not (sign == 126)) (sym x) ∙ t in absurd (cc))
        (λ x. x)

-- ---- an inline before what closes it

pub format_last : (h : Format) (g : ℕ) → Some (last_of_format h) ≡ Some g → is_ascii_punctuation g ≡ true
format_last h g e = some_mark (Some g) e
  where
    by_tag : (t : Bool) → is_ascii_punctuation (if t then greater_than_sign else asterisk) ≡ true
    by_tag true = refl
    by_tag false = refl

    some_mark : (o : Option ℕ) → Some (last_of_format h) ≡ o → is_ascii_punctuation (in_some o) ≡ true
    some_mark o q = ap (λ o. is_ascii_punctuation (in_some o)) (sym q) ∙ by_tag (is_always_tag h)

guess_is : (c g : ℕ) → Some c ≡ Some g → is_ascii_punctuation c ≡ true → is_ascii_punctuation g ≡ true
guess_is c g e h = ap (λ o. is_ascii_punctuation (in_some o)) (sym e) ∙ h

address_inner : (style : LinkStyle) (w : Written) (a : List ℕ) (t : Option (List ℕ)) (sign g : ℕ)
    → is_ascii_punctuation g ≡ true → IsInner g (beside_before sign (pushed (with_address style w a t).text []))
address_inner Inlined w a t sign g h =
    mark_inner sign g 41 (w.text ++ written_resource a t) h
    (then_end 41 w.text (written_resource a t) (resource_end a t)) refl
address_inner InlinedPreferAutolinks w a t sign g h =
    mark_inner sign g 41 (w.text ++ written_resource a t) h
    (then_end 41 w.text (written_resource a t) (resource_end a t)) refl
address_inner Referenced w a t sign g h =
    let n = suc (length w.definitions) in
    mark_inner sign g 93 (w.text ++ reference_number n) h
    (then_end 93 w.text (reference_number n) (then_end 93 (codes "][" ++ decimal n) (codes "]") (one_end 93))) refl

-- beside the sign that closes them no row is one of tildes
row_there : (sign : ℕ) (s : Sides) (own : ℕ) → is_one_of (codes "*_~") sign ≡ true → s.after ≡ Some sign
    → is_one_of (codes "*_~") own ≡ true → IsFitting own s → is_one_of (codes "`>)]*_") own ≡ true
row_there sign s own i a o f =
    test (own == 126)
    (λ e. let d : (is_sign_there s.before || is_sign_there s.after) ≡ false = rw e at f.undisputed in
    let x = (or_parts (is_sign_there s.before) (is_sign_there s.after) d).1 in
    let y : is_one_of (codes "*_~") sign ≡ false = ap is_sign_there (sym a) ∙ x in absurd (cc))
    (λ e. let v = one_of (λ c. (c == 126) || is_one_of (codes "`>)]*_") c) (codes "*_~") own o refl in
    subst (λ (b : Bool). (b || is_one_of (codes "`>)]*_") own) ≡ true) e v)

last_one : (line : Line) (around : List Format) (w : Written) (f : Following) (x : Inline) (sign g : ℕ)
    → is_normal line.in_link around x ≡ true → is_one_of (codes "*_~") sign ≡ true → f.after ≡ Some sign
    → last_of x ≡ Some g → IsInner g (beside_before sign (pushed (with_inline line w f x).text []))
last_one line around w f (text s) sign g n i a l =
    let t = textual s n in
    let v = text_written line w f s t.full in
    subst (λ (x : Written). IsInner g (beside_before sign (pushed x.text []))) (sym v.is)
    (text_last (place_of line w.text f.after) v.marked w.text s sign g t.utf8 v.marks l)
last_one line around w f (code s) sign g n i a l =
    let t = textual s (and_parts (is_text s) (is_trimmed s) n).0 in
    let v = code_closed line s t.utf8 in
    mark_inner sign g v.last (w.text ++ written_code line s) (guess_is 96 g l refl)
    (then_end v.last w.text (written_code line s) v.ends)
    (one_of (is_one_of (codes "`>)]*_")) (codes "`>)]") v.last v.is_mark refl)
last_one line around w f (formatted h content) sign g n i a l =
    let s = sides_of line w.text f content in
    mark_cases h s
    (λ r. subst (λ (m : Mark). IsInner g (beside_before sign
    (pushed (wrote (written line (wrote w m.opener) (Some m.sign) content) m.closer).text [])))
    (sym r.is)
    (mark_inner sign g r.sign
    ((written line (wrote w (row_text r.row r.sign)) (Some r.sign) content).text ++ row_text r.row r.sign)
    (format_last h g l)
    (then_end r.sign (written line (wrote w (row_text r.row r.sign)) (Some r.sign) content).text
    (row_text r.row r.sign) (row_end r.row r.sign))
    (row_there sign s r.sign i a r.is_sign (fitting r.sign s r.fitting))))
    (λ t. subst (λ (m : Mark). IsInner g (beside_before sign
    (pushed (wrote (written line (wrote w m.opener) (Some m.sign) content) m.closer).text [])))
    (sym t.is)
    (mark_inner sign g 62
    ((written line (wrote w (in_tag t.opening)) (Some 60) content).text ++ in_tag t.closing) (format_last h g l)
    (then_end 62 (written line (wrote w (in_tag t.opening)) (Some 60) content).text (in_tag t.closing)
    (tag_end t.closing)) refl))
last_one line around w f (link b t content) sign g n i a l =
    let after = written (in_link line) (wrote w (codes "[")) (Some 93) content in
    test (is_autolinked line b t content)
    (λ e. rw e (mark_inner sign g 62 (w.text ++ autolink b) (guess_is 41 g l refl)
    (then_end 62 w.text (autolink b) (then_end 62 (codes "<" ++ b) (codes ">") (one_end 62))) refl))
    (λ e. rw e (address_inner line.link_style after b t sign g (guess_is 41 g l refl)))
last_one line around w f (image b t s) sign g n i a l =
    mark_inner sign g 41 (w.text ++ written_image b t s) (guess_is 41 g l refl)
    (then_end 41 w.text (written_image b t s)
    (then_end 41 (codes "![" ++ escaped place_of_description s) (written_resource b t) (resource_end b t))) refl
last_one line around w f (anchor id) sign g n i a l =
    mark_inner sign g 62 (w.text ++ html.anchor id) (guess_is 62 g l refl)
    (then_end 62 w.text (html.anchor id) (anchor_end id)) refl
last_one line around w f line_break sign g n i a l =
    subst (λ (o : Option ℕ). IsInner (in_some o)
    (beside_before sign (pushed (with_inline line w f line_break).text [])))
    l (line_inner _)
last_one line around w f (task d) sign g n i a l = absurd (cc)

-- the last of inlines before the sign that closes them
pub last_inner : (line : Line) (around : List Format) (w : Written) (sign : ℕ) (xs : Inlines) (g : ℕ)
    → are_normal line.in_link around xs ≡ true → is_one_of (codes "*_~") sign ≡ true → last_of_all xs
    ≡ Some g
    → IsInner g (beside_before sign (pushed (written line w (Some sign) xs).text []))
last_inner line around w sign no_inlines g n i l = absurd (cc)
last_inner line around w sign (inline x no_inlines) g n i l =
    let p = and_parts (is_normal line.in_link around x && meets x no_inlines) true n in
    let q = and_parts (is_normal line.in_link around x) (meets x no_inlines) p.0 in
    last_one line around w (record { after = Some sign; is_last = true }) x sign g q.0 i refl l
last_inner line around w sign (inline x (inline y rest)) g n i l =
    let p = and_parts (is_normal line.in_link around x && meets x (inline y rest))
    (are_normal line.in_link around (inline y rest)) n in
    last_inner line around (with_inline line w (follows line.kind (Some sign) (inline y rest)) x) sign (inline y rest) g
    p.1 i l

address_end : (style : LinkStyle) (w : Written) (a : List ℕ) (t : Option (List ℕ))
    → (d : ℕ) × EndsIn d (with_address style w a t).text
address_end Inlined w a t = (41, then_end 41 w.text (written_resource a t) (resource_end a t))
address_end InlinedPreferAutolinks w a t = (41, then_end 41 w.text (written_resource a t) (resource_end a t))
address_end Referenced w a t =
    let n = suc (length w.definitions) in
    (93, then_end 93 w.text (reference_number n) (then_end 93 (codes "][" ++ decimal n) (codes "]") (one_end 93)))

styled_end : (style : BrStyle) → EndsIn 10 (breaks.line_break style)
styled_end TwoSpaces = (codes "  ", refl)
styled_end Backslash = (codes "\\", refl)

break_end : (line : Line) → (d : ℕ) × EndsIn d (written_break line)
break_end line =
    test (is_one_line line.kind) (λ e. (62, rw e (codes "<br", refl))) (λ e. (10, rw e (styled_end line.br_style)))

-- an inline that is no text ends in some character
pub ends_one : (line : Line) (around : List Format) (w : Written) (f : Following) (x : Inline)
    → is_normal line.in_link around x ≡ true → is_words x ≡ false
    → (d : ℕ) × EndsIn d (with_inline line w f x).text
ends_one line around w f (text s) n i = absurd (cc)
ends_one line around w f (code s) n i =
    let t = textual s (and_parts (is_text s) (is_trimmed s) n).0 in
    let v = code_closed line s t.utf8 in
    (v.last, then_end v.last w.text (written_code line s) v.ends)
ends_one line around w f (formatted h content) n i =
    mark_cases h (sides_of line w.text f content)
    (λ r. (
      r.sign,
      subst (λ (m : Mark). EndsIn r.sign (wrote (written line (wrote w m.opener) (Some m.sign) content) m.closer).text)
          (sym r.is)
          (then_end r.sign (written line (wrote w (row_text r.row r.sign)) (Some r.sign) content).text
          (row_text r.row r.sign) (row_end r.row r.sign)),
    ))
    (λ t. (
      62,
      subst (λ (m : Mark). EndsIn 62 (wrote (written line (wrote w m.opener) (Some m.sign) content) m.closer).text)
          (sym t.is)
          (then_end 62 (written line (wrote w (in_tag t.opening)) (Some 60) content).text (in_tag t.closing)
          (tag_end t.closing)),
    ))
ends_one line around w f (link b t content) n i =
    let after = written (in_link line) (wrote w (codes "[")) (Some 93) content in
    test (is_autolinked line b t content)
    (λ e. (62, rw e (then_end 62 w.text (autolink b) (then_end 62 (codes "<" ++ b) (codes ">") (one_end 62)))))
    (λ e. let v = address_end line.link_style after b t in (v.0, rw e v.1))
ends_one line around w f (image b t s) n i = (
  41,
  then_end 41 w.text (written_image b t s)
      (then_end 41 (codes "![" ++ escaped place_of_description s) (written_resource b t) (resource_end b t)),
)
ends_one line around w f (anchor id) n i = (62, then_end 62 w.text (html.anchor id) (anchor_end id))
ends_one line around w f line_break n i = let v = break_end line in (v.0, then_end v.0 w.text (written_break line) v.1)
ends_one line around w f (task d) n i = absurd (cc)
