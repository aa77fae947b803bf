-- What is written of inlines leaves the text sound, and definitions behind others.
use Rattle.std.proofs.Common.{◌≡◌, refl, sym, ℕ, suc, Bool, true, false, List, [], ◌∷◌, ◌++◌, Option, Some, None, codes}
use Rattle.std.proofs.Common.{subst, length, arith}
use Rattle.std.specs.Prelude.{not, ◌&&◌, ◌||◌, ◌==◌, if◌then◌else◌}
use Rattle.std.specs.Fmt.{decimal}
use Rattle.std.specs.List.{list_all, list_any}
use Rattle.std.specs.Str.{IsUtf8, is_utf8}
use Rattle.std.proofs.lemmas.Bool.{eqb-true, and_parts, not-true}
use Rattle.std.proofs.lemmas.Str.{IsUtf8-append, IsUtf8-from_is_utf8}
use Rattle.htmd_lexical.specs.Characters.{asterisk, less_than_sign, is_one_of}
use Rattle.htmd_lexical.specs.CharacterClasses.{is_empty}
use Rattle.htmd_markdown.specs.declared.link.LinkStyle.{LinkStyle}
use Rattle.htmd_markdown.specs.declared.link.LinkStyle.TheVariants.{Inlined, InlinedPreferAutolinks, Referenced}
use Rattle.htmd_markdown.specs.declared.line_break.BrStyle.{BrStyle}
use Rattle.htmd_markdown.specs.declared.line_break.BrStyle.TheVariants.{TwoSpaces, Backslash}
use Rattle.htmd_markdown.specs.LineBreaks as breaks
use Rattle.htmd_document.specs.Formats.{Format}
use Rattle.htmd_document.specs.Documents.{Inline, text, code, formatted, link, image, line_break, task}
use Rattle.htmd_document.specs.Documents.{anchor}
use Rattle.htmd_document.specs.Documents.{Inlines, no_inlines, inline}
use Rattle.htmd_document.specs.Tags as html
use Rattle.htmd_law_inlines.proofs.AnchorPieces.{anchor_end, anchor_utf8}
use Rattle.htmd_commonmark.specs.declared.line.Line.{Line}
use Rattle.htmd_commonmark.specs.declared.line.LineKind.{LineKind}
use Rattle.htmd_commonmark.specs.declared.inline_ends.Following.{Following}
use Rattle.htmd_commonmark.specs.WrittenText.{Written, wrote, is_one_line}
use Rattle.htmd_commonmark.specs.TextEscapes.{escaped, may_be_escaped}
use Rattle.htmd_commonmark.specs.Marks.{Mark, is_always_tag}
use Rattle.htmd_commonmark.specs.Addresses as address
use Rattle.htmd_commonmark.specs.InlineEnds.{first_of, follows}
use Rattle.htmd_commonmark.specs.InlineMarkdown.{written, with_inline, written_image, written_resource, written_code}
use Rattle.htmd_commonmark.specs.InlineMarkdown.{place_of_description, is_autolinked, autolink, with_address, in_link}
use Rattle.htmd_commonmark.specs.InlineMarkdown.{sides_of, reference_number}
use Rattle.htmd_document.specs.NormalInlines.{is_normal, are_normal, meets, may_meet, is_barred, has_none, are_whole}
use Rattle.htmd_document.specs.NormalInlines.{is_text, is_line, is_line_byte, has_double_space, is_trimmed}
use Rattle.htmd_document.specs.NormalInlines.{is_attribute, is_title, is_kept, has_title}
use Rattle.htmd_law_inlines.proofs.TextPieces.{test, differs}
use Rattle.htmd_law_inlines.proofs.ReferencePieces.{one_of}
use Rattle.htmd_law_inlines.proofs.OpenRuns.{RowFormat, one, two, tildes}
use Rattle.htmd_law_inlines.proofs.Nested.{row_text}
use Rattle.htmd_law_inlines.proofs.NumberPieces.{decimal_utf8}
use Rattle.htmd_law_inlines.proofs.Utf8Pieces.{resource_utf8}
use Rattle.htmd_law_inlines.proofs.WalkPieces.{ascii_utf8}
use Rattle.htmd_law_inlines.proofs.MarkPieces.{in_tag, mark_cases}
use Rattle.htmd_law_inlines.proofs.TextWritten.{text_written}
use Rattle.htmd_law_inlines.proofs.SoundPieces.{EndsIn, one_end, then_end, IsSound, sound_end, sound_text, code_closed}
use Rattle.htmd_law_inlines.proofs.SoundPieces.{escaped_is_utf8}
use lib.Utf8.{encode}

-- ---- texts that are normal

pub record IsTextual (s : List ℕ) : Type 0 where
  pub utf8 : IsUtf8 s
  pub plain : list_all is_line_byte s ≡ true
  pub single : has_double_space s ≡ false
  pub full : is_empty s ≡ false

pub textual : (s : List ℕ) → is_text s ≡ true → IsTextual s
textual s h =
    let a = and_parts (is_line s && not (is_empty s)) (not (has_double_space s)) h in
    let b = and_parts (is_line s) (not (is_empty s)) a.0 in
    let c = and_parts (is_utf8 s) (list_all is_line_byte s) b.0 in
    record {
      utf8 = IsUtf8-from_is_utf8 s c.0;
      plain = c.1;
      single = not-true (has_double_space s) a.1;
      full = not-true (is_empty s) b.1;
    }

abbrev title_text : Option (List ℕ) → List ℕ
title_text None = []
title_text (Some s) = s

-- a title of a link or an image is UTF-8
title_utf8 : (t : Option (List ℕ)) → is_title t ≡ true → (s : List ℕ) → t ≡ Some s → IsUtf8 s
title_utf8 None h s e = absurd (cc)
title_utf8 (Some t) h s e =
    let p = and_parts (is_attribute t && list_any is_line_byte t) _ h in
    let q = and_parts (is_attribute t) (list_any is_line_byte t) p.0 in
    let u : IsUtf8 t = IsUtf8-from_is_utf8 t (and_parts (is_utf8 t) (list_all is_kept t) q.0).0 in
    subst (λ (o : Option (List ℕ)). IsUtf8 (title_text o)) e u

-- ---- what is beside a text

abbrev pub is_words : Inline → Bool
is_words (text s) = true
is_words _ = false

pub no_two_texts : (s : List ℕ) (y : Inline) → may_meet (text s) y ≡ true → is_words y ≡ false
no_two_texts s (text t) h = absurd (cc)
no_two_texts s (code t) h = refl
no_two_texts s (formatted f content) h = refl
no_two_texts s (link a t content) h = refl
no_two_texts s (image a t d) h = refl
no_two_texts s (anchor i) h = refl
no_two_texts s line_break h = refl
no_two_texts s (task d) h = refl

format_mark : (kind : LineKind) (f : Format) (content : Inlines)
    → may_be_escaped (first_of kind (formatted f content)) ≡ true
format_mark kind f content = by_tag (is_always_tag f)
  where
    by_tag : (t : Bool) → may_be_escaped (Some (if t then less_than_sign else asterisk)) ≡ true
    by_tag true = refl
    by_tag false = refl

pub mark_first : (kind : LineKind) (y : Inline) → is_words y ≡ false → may_be_escaped (first_of kind y) ≡ true
mark_first kind (text t) h = absurd (cc)
mark_first kind (code t) h = refl
mark_first kind (formatted f content) h = format_mark kind f content
mark_first kind (link a t content) h = refl
mark_first kind (image a t d) h = refl
mark_first kind (anchor i) h = refl
mark_first kind line_break h = test (is_one_line kind) (λ e. rw e refl) (λ e. rw e refl)
mark_first kind (task d) h = refl

pub mark_follows : (kind : LineKind) (closing : Option ℕ) (x : Inline) (rest : Inlines) → meets x rest ≡ true
    → may_be_escaped closing ≡ true → is_words x ≡ true
    → may_be_escaped (follows kind closing rest).after ≡ true
mark_follows kind closing x no_inlines m c i = c
mark_follows kind closing (text s) (inline y rest) m c i = mark_first kind y (no_two_texts s y m)
mark_follows kind closing (code s) (inline y rest) m c i = absurd (cc)
mark_follows kind closing (formatted f content) (inline y rest) m c i = absurd (cc)
mark_follows kind closing (link a t content) (inline y rest) m c i = absurd (cc)
mark_follows kind closing (image a t d) (inline y rest) m c i = absurd (cc)
mark_follows kind closing (anchor id) (inline y rest) m c i = absurd (cc)
mark_follows kind closing line_break (inline y rest) m c i = absurd (cc)
mark_follows kind closing (task d) (inline y rest) m c i = absurd (cc)

-- ---- rows and tags

sign_utf8 : (sign : ℕ) → is_one_of (codes "*_~") sign ≡ true → IsUtf8 (sign ∷ [])
sign_utf8 sign h =
    test (sign == 42) (λ e. subst (λ c. IsUtf8 (c ∷ [])) (sym (eqb-true sign 42 e))
    (ascii_utf8 42 (omega arith) refl))
    (λ n. test (sign == 95) (λ e. subst (λ c. IsUtf8 (c ∷ []))
    (sym (eqb-true sign 95 e))
    (ascii_utf8 95 (omega arith) refl))
    (λ m. let k : (sign == 126) || false ≡ true = rw (n, m) at h in
    let e : (sign == 126) ≡ true = test (sign == 126) (λ x. x)
    (λ x. let z : false ≡ true = rw x at k in absurd (cc)) in
    subst (λ c. IsUtf8 (c ∷ [])) (sym (eqb-true sign 126 e))
    (ascii_utf8 126 (omega arith) refl)))

pub row_utf8 : (r : RowFormat) (sign : ℕ) → is_one_of (codes "*_~") sign ≡ true → IsUtf8 (row_text r sign)
row_utf8 one sign h = sign_utf8 sign h
row_utf8 two sign h = IsUtf8-append (sign ∷ []) (sign ∷ []) (sign_utf8 sign h) (sign_utf8 sign h)
row_utf8 tildes sign h = IsUtf8-append (sign ∷ []) (sign ∷ []) (sign_utf8 sign h) (sign_utf8 sign h)

pub row_end : (r : RowFormat) (sign : ℕ) → EndsIn sign (row_text r sign)
row_end one sign = one_end sign
row_end two sign = (sign ∷ [], refl)
row_end tildes sign = (sign ∷ [], refl)

pub tag_end : (name : List ℕ) → EndsIn 62 (in_tag name)
tag_end name = then_end 62 (60 ∷ name) (codes ">") (one_end 62)

pub sound_row : (s : List ℕ) (r : RowFormat) (sign : ℕ) → is_one_of (codes "*_~") sign ≡ true → IsSound s
    → IsSound (s ++ row_text r sign)
sound_row s r sign h k =
    sound_end s (row_text r sign) sign k (row_utf8 r sign h) (row_end r sign)
    (differs (is_one_of (codes "*_~")) sign 92 h refl)

pub sound_tag : (s name : List ℕ) → IsUtf8 (in_tag name) → IsSound s → IsSound (s ++ in_tag name)
sound_tag s name u k = sound_end s (in_tag name) 62 k u (tag_end name) refl

pub sign_mark : (sign : ℕ) → is_one_of (codes "*_~") sign ≡ true → may_be_escaped (Some sign) ≡ true
sign_mark sign h = one_of (λ c. may_be_escaped (Some c)) (codes "*_~") sign h refl

-- ---- links

short_utf8 : (IsUtf8 (codes "[")) × (IsUtf8 (codes "<")) × (IsUtf8 (codes ">")) × (IsUtf8 (codes "]["))
    × (IsUtf8 (codes "]")) × (IsUtf8 (codes "![")) × (IsUtf8 (codes "<br>"))
unfolding encode
short_utf8 = (
  (codes "[", (refl, refl)),
  (codes "<", (refl, refl)),
  (codes ">", (refl, refl)),
  (codes "][", (refl, refl)),
  (codes "]", (refl, refl)),
  (codes "![", (refl, refl)),
  (codes "<br>", (refl, refl)),
)

pub sound_bracket : (s : List ℕ) → IsSound s → IsSound (s ++ codes "[")
sound_bracket s h = sound_end s (codes "[") 91 h short_utf8.0 (one_end 91) refl

break_utf8 : (style : BrStyle) → (IsUtf8 (breaks.line_break style)) × (EndsIn 10 (breaks.line_break style))
unfolding encode
break_utf8 TwoSpaces = ((codes "  \n", (refl, refl)), (codes "  ", refl))
break_utf8 Backslash = ((codes "\\\n", (refl, refl)), (codes "\\", refl))

pub resource_end : (a : List ℕ) (t : Option (List ℕ)) → EndsIn 41 (written_resource a t)
resource_end a t =
    then_end 41 (codes "](" ++ address.destination a
    ++ address.title t) (codes ")") (one_end 41)

sound_resource : (s a : List ℕ) (t : Option (List ℕ)) → is_attribute a ≡ true → is_title t ≡ true
    → IsSound s
    → IsSound (s ++ written_resource a t)
sound_resource s a t h k i =
    sound_end s (written_resource a t) 41 i
    (resource_utf8 a t (IsUtf8-from_is_utf8 a (and_parts (is_utf8 a) (list_all is_kept a) h).0) (title_utf8 t k))
    (resource_end a t) refl

sound_address : (style : LinkStyle) (w : Written) (a : List ℕ) (t : Option (List ℕ)) → is_attribute a ≡ true
    → is_title t ≡ true → IsSound w.text → IsSound (with_address style w a t).text
sound_address Inlined w a t h k i = sound_resource w.text a t h k i
sound_address InlinedPreferAutolinks w a t h k i = sound_resource w.text a t h k i
sound_address Referenced w a t h k i =
    let n = suc (length w.definitions) in
    sound_end w.text (reference_number n) 93 i
    (IsUtf8-append (codes "][" ++ decimal n) (codes "]")
    (IsUtf8-append (codes "][") (decimal n) short_utf8.3 (decimal_utf8 n)) short_utf8.4)
    (then_end 93 (codes "][" ++ decimal n) (codes "]") (one_end 93)) refl

sound_autolink : (s a : List ℕ) → is_attribute a ≡ true → IsSound s → IsSound (s ++ autolink a)
sound_autolink s a h i =
    sound_end s (autolink a) 62 i
    (IsUtf8-append (codes "<" ++ a) (codes ">")
    (IsUtf8-append (codes "<") a short_utf8.1
    (IsUtf8-from_is_utf8 a (and_parts (is_utf8 a) (list_all is_kept a) h).0)) short_utf8.2)
    (then_end 62 (codes "<" ++ a) (codes ">") (one_end 62)) refl

-- ---- all of it

mutual
  pub sound_all : (line : Line) (around : List Format) (w : Written) (closing : Option ℕ) (xs : Inlines)
      → are_normal line.in_link around xs ≡ true → may_be_escaped closing ≡ true → IsSound w.text
      → IsSound (written line w closing xs).text
  sound_all line around w closing no_inlines n c h = h
  sound_all line around w closing (inline x rest) n c h =
      let p = and_parts (is_normal line.in_link around x && meets x rest) (are_normal line.in_link around rest) n in
      let q = and_parts (is_normal line.in_link around x) (meets x rest) p.0 in
      let f = follows line.kind closing rest in
      sound_all line around (with_inline line w f x) closing rest p.1 c
      (sound_one line around w f x q.0 (mark_follows line.kind closing x rest q.1 c) h)

  pub sound_one : (line : Line) (around : List Format) (w : Written) (f : Following) (x : Inline)
      → is_normal line.in_link around x ≡ true → (is_words x ≡ true → may_be_escaped f.after ≡ true)
      → IsSound w.text → IsSound (with_inline line w f x).text
  sound_one line around w f (text s) n c h =
      let t = textual s n in
      let v = text_written line w f s t.full in
      subst (λ (x : Written). IsSound x.text) (sym v.is)
      (sound_text _ v.marked w.text s h t.utf8 v.marks (c refl))
  sound_one line around w f (code s) n c h =
      let t = textual s (and_parts (is_text s) (is_trimmed s) n).0 in
      let v = code_closed line s t.utf8 in
      sound_end w.text (written_code line s) v.last h v.utf8 v.ends
      (differs (is_one_of (codes "`>)]")) v.last 92 v.is_mark refl)
  sound_one line around w f (formatted g content) n c h =
      let p = and_parts (not (is_barred around g) && has_title g && not (has_none content) && are_whole content)
      (are_normal line.in_link (g ∷ around) content) n in
      let q = and_parts (not (is_barred around g) && has_title g && not (has_none content)) (are_whole content) p.0 in
      let r = and_parts (not (is_barred around g) && has_title g) (not (has_none content)) q.0 in
      let title = (and_parts (not (is_barred around g)) (has_title g) r.0).1 in
      let s = sides_of line w.text f content in
      mark_cases g s
      (λ r. subst (λ (m : Mark). IsSound (wrote (written line (wrote w m.opener) (Some m.sign) content)
      m.closer).text)
      (sym r.is)
      (sound_row (written line (wrote w (row_text r.row r.sign)) (Some r.sign) content).text r.row r.sign r.is_sign
      (sound_all line (g ∷ around) (wrote w (row_text r.row r.sign)) (Some r.sign) content p.1
      (sign_mark r.sign r.is_sign) (sound_row w.text r.row r.sign r.is_sign h))))
      (λ t. subst (λ (m : Mark). IsSound (wrote (written line (wrote w m.opener) (Some m.sign) content)
      m.closer).text)
      (sym t.is)
      (sound_tag (written line (wrote w (in_tag t.opening)) (Some 60) content).text t.closing t.closing_utf8
      (sound_all line (g ∷ around) (wrote w (in_tag t.opening)) (Some 60) content p.1 refl
      (sound_tag w.text t.opening (t.opening_utf8 title) h))))
  sound_one line around w f (link a t content) n c h =
      let p = and_parts (not line.in_link && is_attribute a && is_title t && not (has_none content))
      (are_normal true around content) n in
      let q = and_parts (not line.in_link && is_attribute a && is_title t) (not (has_none content)) p.0 in
      let r = and_parts (not line.in_link && is_attribute a) (is_title t) q.0 in
      let b = (and_parts (not line.in_link) (is_attribute a) r.0).1 in
      let after = written (in_link line) (wrote w (codes "[")) (Some 93) content in
      let inner = sound_all (in_link line) around (wrote w (codes "[")) (Some 93) content p.1 refl
      (sound_bracket w.text h) in
      test (is_autolinked line a t content)
      (λ e. rw e (sound_autolink w.text a b h))
      (λ e. rw e (sound_address line.link_style after a t b r.1 inner))
  sound_one line around w f (image a t s) n c h =
      let p = and_parts (is_attribute a && is_title t) (is_line s) n in
      let q = and_parts (is_attribute a) (is_title t) p.0 in
      let u = IsUtf8-from_is_utf8 s (and_parts (is_utf8 s) (list_all is_line_byte s) p.1).0 in
      sound_end w.text (written_image a t s) 41 h
      (IsUtf8-append (codes "![" ++ escaped place_of_description s) (written_resource a t)
      (IsUtf8-append (codes "![") (escaped place_of_description s) short_utf8.5
      (escaped_is_utf8 place_of_description s u))
      (resource_utf8 a t (IsUtf8-from_is_utf8 a (and_parts (is_utf8 a) (list_all is_kept a) q.0).0)
      (title_utf8 t q.1)))
      (then_end 41 (codes "![" ++ escaped place_of_description s) (written_resource a t) (resource_end a t)) refl
  sound_one line around w f (anchor id) n c h =
      let p = and_parts (not line.in_link && is_text id) (is_trimmed id) n in
      let t = textual id (and_parts (not line.in_link) (is_text id) p.0).1 in
      sound_end w.text (html.anchor id) 62 h (anchor_utf8 id t.utf8) (anchor_end id) refl
  sound_one line around w f line_break n c h =
      test (is_one_line line.kind)
      (λ e. rw e (sound_end w.text (codes "<br>") 62 h short_utf8.6 (codes "<br", refl) refl))
      (λ e. let b = break_utf8 line.br_style in
      rw e (sound_end w.text (breaks.line_break line.br_style) 10 h b.0 b.1 refl))
  sound_one line around w f (task d) n c h = absurd (cc)
