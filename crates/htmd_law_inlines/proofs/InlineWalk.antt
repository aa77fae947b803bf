-- The walk over inlines: what is written of each is read as it, before what is written of those after it.
use Rattle.std.proofs.Common.{◌≡◌, ◌∙◌, refl, ap, sym, ℕ, suc, true, false, List, [], ◌∷◌, ◌++◌, Option, Some, None}
use Rattle.std.proofs.Common.{codes, subst, length}
use Rattle.std.specs.Prelude.{not, ◌&&◌, ◌==◌, is_none}
use Rattle.std.specs.Fmt.{decimal}
use Rattle.std.specs.List.{list_all}
use Rattle.std.specs.Str.{is_utf8}
use Rattle.std.proofs.lemmas.Bool.{and_parts, not-true}
use Rattle.std.proofs.lemmas.List.{append_assoc, append-nil}
use Rattle.std.proofs.lemmas.Str.{IsUtf8-from_is_utf8}
use Rattle.htmd_lexical.specs.Characters.{is_one_of}
use Rattle.htmd_lexical.specs.CharacterClasses.{first_is}
use Rattle.htmd_text.specs.EscapedPlaces.{with_backslashes}
use Rattle.htmd_markdown.specs.declared.link.LinkStyle.{LinkStyle}
use Rattle.htmd_markdown.specs.declared.link.LinkStyle.TheVariants.{Inlined, InlinedPreferAutolinks, Referenced}
use Rattle.htmd_document.specs.Formats.{Format}
use Rattle.htmd_document.specs.Documents.{Inline, text, code, formatted, link, image, line_break, task}
use Rattle.htmd_document.specs.Documents.{anchor}
use Rattle.htmd_document.specs.Documents.{Inlines, no_inlines, inline}
use Rattle.htmd_document.specs.Tags as html
use Rattle.htmd_commonmark.specs.declared.line.Line.{Line}
use Rattle.htmd_commonmark.specs.declared.inline_ends.Following.{Following}
use Rattle.htmd_commonmark.specs.WrittenText.{is_one_line, Written, wrote}
use Rattle.htmd_commonmark.specs.TextEscapes.{may_be_escaped}
use Rattle.htmd_commonmark.specs.Marks.{Mark, mark_for}
use Rattle.htmd_commonmark.specs.InlineEnds.{first_of_all, follows}
use Rattle.htmd_commonmark.specs.Addresses.{is_autolink}
use Rattle.htmd_commonmark.specs.Addresses as address
use Rattle.htmd_commonmark.specs.InlineMarkdown.{written, with_inline, written_code, written_image, written_break}
use Rattle.htmd_commonmark.specs.InlineMarkdown.{written_resource, place_of, is_autolinked, is_text_alone, autolink}
use Rattle.htmd_commonmark.specs.InlineMarkdown.{with_address, in_link, sides_of, definition, prefers_autolinks}
use Rattle.htmd_commonmark.specs.WrittenText.{is_cell}
use Rattle.htmd_commonmark_reading.specs.Markup as markup
use Rattle.htmd_commonmark_reading.specs.LinkDefinitions.{label_key}
use Rattle.htmd_commonmark_reading.specs.Brackets.{References, Brackets, bracket, scanned, and_tokens, without_links}
use Rattle.htmd_commonmark_reading.specs.Brackets.{target_of}
use Rattle.htmd_commonmark_reading.specs.DelimiterRuns.{Token, finished, processed, may_open, may_close}
use Rattle.htmd_document.specs.NormalInlines.{is_normal, are_normal, meets, is_barred, has_none, are_whole, is_text}
use Rattle.htmd_document.specs.NormalInlines.{is_line, is_line_byte, is_trimmed, is_attribute, is_title, is_kept}
use Rattle.htmd_document.specs.NormalInlines.{last_passes, ends_in_space, has_title}
use Rattle.htmd_law_inlines.proofs.Pieces.{pushed, pushed_append}
use Rattle.htmd_law_inlines.proofs.TextPieces.{test}
use Rattle.htmd_law_inlines.proofs.RowsRead.{text_read}
use Rattle.htmd_law_inlines.proofs.OpenRuns.{RowFormat, row_format, IsNoneOf}
use Rattle.htmd_law_inlines.proofs.Nested.{IsReadIn, anywhere, nothing_in, both_in, link_with, row_in, row_text}
use Rattle.htmd_law_inlines.proofs.Nested.{beside_before, beside_after}
use Rattle.htmd_law_inlines.proofs.ResourcePieces.{closes_link}
use Rattle.htmd_law_inlines.proofs.NumberPieces.{bytes_same, closes_by_number, decimal_digits, label_of_number}
use Rattle.htmd_law_inlines.proofs.SpanPieces.{autolink_read}
use Rattle.htmd_law_inlines.proofs.SeenPieces.{AreSeen, none_seen, both_seen, letters_seen, format_seen, link_seen}
use Rattle.htmd_law_inlines.proofs.SeenPieces.{meant, meant_inline}
use Rattle.htmd_law_inlines.specs.PlainReadings.{is_read_plainly}
use Rattle.htmd_law_inlines.proofs.PlainPieces.{joined_plain, letters_plain, content_plain, tag_plain}
use Rattle.htmd_law_inlines.proofs.LeafPieces.{IsShown, spaced_before, code_shown, break_shown, image_shown}
use Rattle.htmd_law_inlines.proofs.WalkPieces.{before_known}
use Rattle.htmd_law_inlines.proofs.MarkPieces.{IsRowMark, AreTagMarks, in_tag, mark_cases}
use Rattle.htmd_law_inlines.proofs.TextWritten.{text_written}
use Rattle.htmd_law_inlines.proofs.SoundPieces.{IsSound}
use Rattle.htmd_law_inlines.proofs.WrittenPieces.{textual, sound_all, sound_one, sound_row, sound_tag, sound_bracket}
use Rattle.htmd_law_inlines.proofs.WrittenPieces.{sign_mark, mark_follows}
use Rattle.htmd_law_inlines.proofs.NextPieces.{Begins, text_begins, Ends, sign_ends, Needs, last_needs, next_needs}
use Rattle.htmd_law_inlines.proofs.NextPieces.{is_format}
use Rattle.htmd_law_inlines.proofs.Flanking.{IsInner}
use Rattle.htmd_law_inlines.proofs.LastPieces.{fitting, last_inner}
use Rattle.htmd_law_inlines.proofs.HeadPieces.{code_begins, image_begins, link_begins, autolink_begins, break_begins}
use Rattle.htmd_law_inlines.proofs.HeadPieces.{tags_begin, row_begins, row_opens, row_closes, row_is_before, beside_is}
use Rattle.htmd_law_inlines.proofs.AnchorPieces.{anchor_shown}
use Rattle.htmd_law_inlines.proofs.HeadPieces.{anchor_begins, row_barred}
use Rattle.htmd_law_inlines.proofs.HeadPieces.{AreAround, more_around, row_around, none_around, sign_is, row_ends}

-- ---- what is read of inlines

abbrev BeginAll : Line → List ℕ → Inlines → List ℕ → Type 0
BeginAll line so_far no_inlines ks = Unit {0}
BeginAll line so_far (inline y rest) ks = Begins line so_far y ks

-- what is written of inlines is read as them, before this text
pub record AreShown
    (rows : List RowFormat) (refs : References) (line : Line) (w after : Written) (xs : Inlines) (ks : List ℕ)
    : Type 0
  where
    pub text : List ℕ
    pub is : after.text ≡ w.text ++ text
    pub shown : IsShown (is_one_line line.kind) rows refs line.in_link (pushed w.text []) text ks (meant xs)
    pub begins : BeginAll line w.text xs (text ++ ks)

abbrev pub none_shown : (rows : List RowFormat) (refs : References) (line : Line) (w : Written) (ks : List ℕ)
    → AreShown rows refs line w w no_inlines ks
none_shown rows refs line w ks = record {
  text = [];
  is = sym (append-nil w.text);
  shown = record {
    raw_inlines = markup.no_inlines;
    reads = nothing_in rows refs line.in_link (pushed w.text []) ks;
    shows = none_seen;
    plain = refl;
  };
  begins = tt;
}

pub letters_joined : (s : List ℕ) (ys : markup.Inlines) → markup.joined (markup.letters s markup.no_inlines) ys
    ≡ markup.letters s ys
letters_joined [] ys = refl
letters_joined (c ∷ s) ys = ap (markup.letter c) (letters_joined s ys)

meant_first : (x : Inline) (ys : markup.Inlines) → markup.joined (meant_inline x markup.no_inlines) ys
    ≡ meant_inline x ys
meant_first (text s) ys = letters_joined s ys
meant_first (code s) ys = refl
meant_first (formatted f content) ys = refl
meant_first (link a t content) ys = refl
meant_first (image a t d) ys = refl
meant_first (anchor i) ys = refl
meant_first line_break ys = refl
meant_first (task d) ys = refl

both_shown : (rows : List RowFormat) (refs : References) (line : Line) (w next after : Written) (x : Inline)
    (rest : Inlines) (ks : List ℕ) → (r : AreShown rows refs line next after rest ks)
    → AreShown rows refs line w next (inline x no_inlines) (r.text ++ ks)
    → AreShown rows refs line w after (inline x rest) ks
both_shown rows refs line w next after x rest ks r p =
    let before = pushed w.text [] in
    record {
      text = p.text ++ r.text;
      is = r.is ∙ ap (λ l. l ++ r.text) p.is ∙ append_assoc w.text p.text r.text;
      shown = record {
        raw_inlines = markup.joined p.shown.raw_inlines r.shown.raw_inlines;
        reads = both_in rows refs line.in_link before p.text r.text ks p.shown.raw_inlines r.shown.raw_inlines
            p.shown.reads
            (subst (λ u. IsReadIn rows refs line.in_link u r.text ks r.shown.raw_inlines)
            (ap (λ l. pushed l []) p.is ∙ pushed_append w.text p.text []) r.shown.reads);
        shows = subst (AreSeen (markup.joined p.shown.raw_inlines r.shown.raw_inlines)) (meant_first x (meant rest))
            (both_seen p.shown.raw_inlines (meant_inline x markup.no_inlines) r.shown.raw_inlines (meant rest)
            p.shown.shows r.shown.shows);
        plain = joined_plain (is_one_line line.kind) p.shown.raw_inlines r.shown.raw_inlines p.shown.plain
            r.shown.plain;
      };
      begins = subst (Begins line w.text x) (sym (append_assoc p.text r.text ks)) p.begins;
    }

-- ---- definitions

abbrev pub IsPrefix : List (List ℕ) → List (List ℕ) → Type 0
IsPrefix ds all = (more : List (List ℕ)) × (all ≡ ds ++ more)

-- each definition of these lines is found by its number
abbrev pub Finds : References → List (List ℕ) → Type 0
Finds refs all = (front back : List (List ℕ)) (a : List ℕ) (t : Option (List ℕ)) → is_attribute a ≡ true
    → is_title t ≡ true → all ≡ front ++ (definition (suc (length front)) a t ∷ back) → (ks : List ℕ)
    → target_of refs (label_key (decimal (suc (length front)))) ks
    ≡ Some (record { address = a; title = t; rest = ks })

prefix_prefix : (a b c : List (List ℕ)) → IsPrefix a b → IsPrefix b c → IsPrefix a c
prefix_prefix a b c (m, e) (n, g) = (m ++ n, g ∙ ap (λ l. l ++ n) e ∙ append_assoc a m n)

pub same_prefix : (a : List (List ℕ)) → IsPrefix a a
same_prefix a = ([], sym (append-nil a))

address_grows : (style : LinkStyle) (w : Written) (a : List ℕ) (t : Option (List ℕ))
    → IsPrefix w.definitions (with_address style w a t).definitions
address_grows Inlined w a t = same_prefix w.definitions
address_grows InlinedPreferAutolinks w a t = same_prefix w.definitions
address_grows Referenced w a t = (definition (suc (length w.definitions)) a t ∷ [], refl)

mutual
  grows : (line : Line) (w : Written) (closing : Option ℕ) (xs : Inlines)
      → IsPrefix w.definitions (written line w closing xs).definitions
  grows line w closing no_inlines = same_prefix w.definitions
  grows line w closing (inline x rest) =
      let next = with_inline line w (follows line.kind closing rest) x in
      prefix_prefix w.definitions next.definitions (written line next closing rest).definitions
      (grows_one line w (follows line.kind closing rest) x) (grows line next closing rest)

  grows_one : (line : Line) (w : Written) (f : Following) (x : Inline)
      → IsPrefix w.definitions (with_inline line w f x).definitions
  grows_one line w f (text s) = same_prefix w.definitions
  grows_one line w f (code s) = same_prefix w.definitions
  grows_one line w f (formatted g content) =
      let m = mark_for g (sides_of line w.text f content) in
      grows line (wrote w m.opener) (Some m.sign) content
  grows_one line w f (link a t content) =
      let after = written (in_link line) (wrote w (codes "[")) (Some 93) content in
      test (is_autolinked line a t content)
      (λ e. rw e (same_prefix w.definitions))
      (λ e. rw e (prefix_prefix w.definitions after.definitions (with_address line.link_style after a t).definitions
      (grows (in_link line) (wrote w (codes "[")) (Some 93) content) (address_grows line.link_style after a t)))
  grows_one line w f (image a t s) = same_prefix w.definitions
  grows_one line w f (anchor id) = same_prefix w.definitions
  grows_one line w f line_break = same_prefix w.definitions
  grows_one line w f (task d) = same_prefix w.definitions

-- ---- what closes a link's text

record IsTail (refs : References) (style : LinkStyle) (w : Written) (a : List ℕ) (t : Option (List ℕ))
    (ks : List ℕ)
    : Type 0
  where
    rest : List ℕ
    is : (with_address style w a t).text ≡ w.text ++ (93 ∷ rest)
    closes : (front text : List ℕ) (ts : List Token) (below : Brackets)
        → scanned refs ((93 ∷ rest) ++ ks) 0 front (bracket false true text ts below)
        ≡ scanned refs ks 0 (pushed (93 ∷ rest) front)
        (and_tokens (without_links below) (finished (markup.link a t (processed ts) markup.no_inlines) ∷ []))

resource_tail : (refs : References) (style : LinkStyle) (w : Written) (a : List ℕ) (t : Option (List ℕ))
    (ks : List ℕ) → with_address style w a t ≡ wrote w (written_resource a t) → list_all is_kept a ≡ true
    → IsTail refs style w a t ks
resource_tail refs style w a t ks e k = record {
  rest = codes "(" ++ address.destination a
      ++ address.title t ++ codes ")";
  is = ap (λ (x : Written). x.text) e;
  closes = λ front text ts below. closes_link refs a t ks front text ts below k;
}

link_tail : (refs : References) (all : List (List ℕ)) → Finds refs all
    → (style : LinkStyle) (w : Written) (a : List ℕ) (t : Option (List ℕ)) (ks : List ℕ)
    → is_attribute a ≡ true → is_title t ≡ true → IsPrefix (with_address style w a t).definitions all
    → IsTail refs style w a t ks
link_tail refs all finds Inlined w a t ks h k p =
    resource_tail refs Inlined w a t ks refl (and_parts (is_utf8 a) (list_all is_kept a) h).1
link_tail refs all finds InlinedPreferAutolinks w a t ks h k p =
    resource_tail refs InlinedPreferAutolinks w a t ks refl (and_parts (is_utf8 a) (list_all is_kept a) h).1
link_tail refs all finds Referenced w a t ks h k (more, e) =
    let n = suc (length w.definitions) in
    record {
      rest = codes "[" ++ decimal n ++ codes "]";
      is = refl;
      closes = λ front text ts below.
          closes_by_number refs n a t ks front text ts below (decimal_digits n) (label_of_number n)
          (finds w.definitions more a t h k
          (e ∙ append_assoc w.definitions (definition n a t ∷ []) more) ks);
    }

-- ---- each inline

-- an inline after what was written so far, where the writer knows what comes next
abbrev ReadsOne : List RowFormat → References → Line → Written → Written → Inline → List ℕ → Type 0
ReadsOne rows refs line w after x ks = AreShown rows refs line w after (inline x no_inlines) ks

text_shown : (rows : List RowFormat) (refs : References) (line : Line) (w : Written) (f : Following) (s ks : List ℕ)
    → is_text s ≡ true → IsSound w.text → Needs f (text s) (with_inline line w f (text s)).text ks
    → ReadsOne rows refs line w (with_inline line w f (text s)) (text s) ks
text_shown rows refs line w f s ks n h d =
    let t = textual s n in
    let v = text_written line w f s t.full in
    let place = place_of line w.text f.after in
    let next = d.follows refl in
    let before = pushed w.text [] in
    record {
      text = with_backslashes v.marked 0 s;
      is = ap (λ (x : Written). x.text) v.is;
      shown = record {
        raw_inlines = markup.letters s markup.no_inlines;
        reads = anywhere rows refs line.in_link before (with_backslashes v.marked 0 s) ks
            (markup.letters s markup.no_inlines)
            (text_read refs place s v.marked before ks v.marks t.utf8 (spaced_before s ks t.plain d.no_end) next
            (before_known w.text h.utf8));
        shows = letters_seen s;
        plain = letters_plain (is_one_line line.kind) s;
      };
      begins = text_begins line w.text f.after s ks v.marked v.marks t next.ends;
    }

code_is_shown : (rows : List RowFormat) (refs : References) (line : Line) (w : Written) (f : Following)
    (s ks : List ℕ) → (is_text s && is_trimmed s) ≡ true → first_is 96 ks ≡ false
    → ReadsOne rows refs line w (with_inline line w f (code s)) (code s) ks
code_is_shown rows refs line w f [] ks n g =
    let t = textual [] (and_parts (is_text []) (is_trimmed []) n).0 in let x = t.full in absurd (cc)
code_is_shown rows refs line w f (x ∷ r) ks n g =
    let s = x ∷ r in
    let p = and_parts (is_text s) (is_trimmed s) n in
    let t = textual s p.0 in
    let q = and_parts (not (first_is 32 s)) (not (ends_in_space s)) p.1 in
    record {
      text = written_code line s;
      is = refl;
      shown = code_shown rows line refs (pushed w.text []) ks x r t.utf8 t.plain (not-true (x == 32) q.0) g;
      begins = code_begins line w.text s ks;
    }

-- ---- formats

abbrev mark_of : Format → Line → Written → Following → Inlines → Mark
mark_of g line w f content = mark_for g (sides_of line w.text f content)

row_shown : (rows : List RowFormat) (refs : References) (line : Line) (w : Written) (f : Following) (g : Format)
    (content : Inlines) (ks : List ℕ) (r : IsRowMark g (sides_of line w.text f content) (mark_of g line w f content))
    → IsSound w.text → IsNoneOf r.row rows
    → (c : AreShown (r.row ∷ rows) refs line (wrote w (row_text r.row r.sign))
    (written line (wrote w (row_text r.row r.sign)) (Some r.sign) content) content (row_text r.row r.sign ++ ks))
    → first_is r.sign (c.text ++ (row_text r.row r.sign ++ ks)) ≡ false
    → first_is r.sign ks ≡ false
    → may_open r.sign (beside_before r.sign (pushed w.text []))
    (beside_after r.sign (c.text ++ (row_text r.row r.sign ++ ks))) ≡ true
    → may_close r.sign
    (beside_before r.sign (pushed (written line (wrote w (row_text r.row r.sign)) (Some r.sign) content).text []))
    (beside_after r.sign ks) ≡ true
    → ReadsOne rows refs line w
    (wrote (written line (wrote w (row_text r.row r.sign)) (Some r.sign) content) (row_text r.row r.sign))
    (formatted g content) ks
row_shown rows refs line w f g content ks r h a c u v o e =
    let row = row_text r.row r.sign in
    let before = pushed w.text [] in
    let inside : pushed (w.text ++ row) [] ≡ pushed row before = pushed_append w.text row [] in
    let end = ap (λ l. pushed l []) c.is ∙ pushed_append (w.text ++ row) c.text [] ∙ ap (pushed c.text) inside in
    record {
      text = row ++ (c.text ++ row);
      is = ap (λ l. l ++ row) c.is ∙ append_assoc (w.text ++ row) c.text row
          ∙ append_assoc w.text row (c.text ++ row);
      shown = record {
        raw_inlines = markup.formatted (row_format r.row) c.shown.raw_inlines markup.no_inlines;
        reads = row_in rows refs line.in_link r.row r.sign before c.text ks c.shown.raw_inlines
            (sign_is r.sign r.is_sign) r.has_sign a u v o
            (ap (λ l. may_close r.sign (beside_before r.sign l) (beside_after r.sign ks)) (sym end) ∙ e)
            (subst (λ l. IsReadIn (r.row ∷ rows) refs line.in_link l c.text (row ++ ks) c.shown.raw_inlines) inside
            c.shown.reads);
        shows = subst (λ q. AreSeen (markup.formatted (row_format r.row) c.shown.raw_inlines markup.no_inlines)
            (markup.formatted q (meant content) markup.no_inlines)) r.means
            (format_seen (row_format r.row) c.shown.raw_inlines (meant content) c.shown.shows);
        plain = content_plain (is_read_plainly (is_one_line line.kind) c.shown.raw_inlines) true c.shown.plain refl;
      };
      begins = subst (Begins line w.text (formatted g content)) (sym (append_assoc row (c.text ++ row) ks))
          (row_begins line w f g content r.row r.sign ((c.text ++ row) ++ ks) r.is_sign
          (fitting r.sign (sides_of line w.text f content) r.fitting));
    }

tags_shown : (rows : List RowFormat) (refs : References) (line : Line) (w : Written) (g : Format) (m : Mark)
    (content : Inlines) (ks : List ℕ) (t : AreTagMarks g m)
    → AreShown rows refs line (wrote w (in_tag t.opening))
    (written line (wrote w (in_tag t.opening)) (Some 60) content) content (in_tag t.closing ++ ks)
    → ReadsOne rows refs line w
    (wrote (written line (wrote w (in_tag t.opening)) (Some 60) content) (in_tag t.closing)) (formatted g content) ks
tags_shown rows refs line w g m content ks t c =
    let start = in_tag t.opening in
    let stop = in_tag t.closing in
    let before = pushed w.text [] in
    let inside : pushed (w.text ++ start) [] ≡ pushed start before = pushed_append w.text start [] in
    let content_raw = c.shown.raw_inlines in
    let stop_raw = markup.raw stop markup.no_inlines in
    record {
      text = start ++ (c.text ++ stop);
      is = ap (λ l. l ++ stop) c.is ∙ append_assoc (w.text ++ start) c.text stop
          ∙ append_assoc w.text start (c.text ++ stop);
      shown = record {
        raw_inlines = markup.raw start (markup.joined content_raw stop_raw);
        reads = both_in rows refs line.in_link before start (c.text ++ stop) ks (markup.raw start markup.no_inlines)
            (markup.joined content_raw stop_raw)
            (anywhere rows refs line.in_link before start ((c.text ++ stop) ++ ks) (markup.raw start markup.no_inlines)
            (t.opens refs line.in_link before ((c.text ++ stop) ++ ks)))
            (both_in rows refs line.in_link (pushed start before) c.text stop ks content_raw stop_raw
            (subst (λ l. IsReadIn rows refs line.in_link l c.text (stop ++ ks) content_raw) inside c.shown.reads)
            (anywhere rows refs line.in_link (pushed c.text (pushed start before)) stop ks stop_raw
            (t.closes refs line.in_link (pushed c.text (pushed start before)) ks)));
        shows = t.sees content_raw (meant content) c.shown.shows;
        plain = tag_plain (is_one_line line.kind) start (markup.joined content_raw stop_raw) t.opening_stays
            (joined_plain (is_one_line line.kind) content_raw stop_raw c.shown.plain
            (tag_plain (is_one_line line.kind) stop markup.no_inlines t.closing_stays refl));
      };
      begins = tags_begin line w.text g content (((t.opening ++ codes ">") ++ (c.text ++ stop)) ++ ks);
    }

-- ---- links

text_alone : (a : List ℕ) (content : Inlines) → is_text_alone a content ≡ true → content
    ≡ inline (text a) no_inlines
text_alone a no_inlines h = absurd (cc)
text_alone a (inline (text s) no_inlines) h = ap (λ l. inline (text l) no_inlines) (bytes_same s a h)
text_alone a (inline (code s) no_inlines) h = absurd (cc)
text_alone a (inline (formatted f content) no_inlines) h = absurd (cc)
text_alone a (inline (link b t content) no_inlines) h = absurd (cc)
text_alone a (inline (image b t d) no_inlines) h = absurd (cc)
text_alone a (inline (anchor i) no_inlines) h = absurd (cc)
text_alone a (inline line_break no_inlines) h = absurd (cc)
text_alone a (inline (task d) no_inlines) h = absurd (cc)
text_alone a (inline x (inline y rest)) h = absurd (cc)

-- an autolink has no title
no_title : (line : Line) (a : List ℕ) (t : Option (List ℕ)) (content : Inlines) → is_autolinked line a t content
    ≡ true
    → is_none t ≡ true
no_title line a t content h =
    let start = prefers_autolinks line.link_style && is_none t in
    let p = and_parts (start && is_text_alone a content && is_autolink a) (not (is_cell line.kind)) h in
    let q = and_parts (start && is_text_alone a content) (is_autolink a) p.0 in
    (and_parts (prefers_autolinks line.link_style) (is_none t) (and_parts start (is_text_alone a content) q.0).0).1

autolink_shown : (rows : List RowFormat) (refs : References) (line : Line) (w : Written) (a : List ℕ)
    (t : Option (List ℕ)) (content : Inlines) (ks : List ℕ) → is_autolinked line a t content ≡ true
    → ReadsOne rows refs line w (wrote w (autolink a)) (link a t content) ks
autolink_shown rows refs line w a (Some t) content ks h =
    let untitled = no_title line a (Some t) content h in absurd (cc)
autolink_shown rows refs line w a None content ks h =
    let p = and_parts (prefers_autolinks line.link_style && true && is_text_alone a content && is_autolink a)
    (not (is_cell line.kind)) h in
    let q = and_parts (prefers_autolinks line.link_style && true && is_text_alone a content) (is_autolink a) p.0 in
    let alone = text_alone a content
    (and_parts (prefers_autolinks line.link_style && true) (is_text_alone a content) q.0).1 in
    let before = pushed w.text [] in
    let letters = markup.letters a markup.no_inlines in
    record {
      text = autolink a;
      is = refl;
      shown = record {
        raw_inlines = markup.link a None letters markup.no_inlines;
        reads = anywhere rows refs line.in_link before (autolink a) ks (markup.link a None letters markup.no_inlines)
            (autolink_read refs line.in_link before a ks q.1);
        shows = subst (λ xs. AreSeen (markup.link a None letters markup.no_inlines)
            (markup.link a None (meant xs) markup.no_inlines)) (sym alone)
            (link_seen a None letters letters (letters_seen a));
        plain = content_plain (is_read_plainly (is_one_line line.kind) letters) true
            (letters_plain (is_one_line line.kind) a) refl;
      };
      begins = autolink_begins line w.text a None content ((a ++ codes ">") ++ ks);
    }

link_shown : (rows : List RowFormat) (refs : References) (line : Line) (w : Written) (a : List ℕ)
    (t : Option (List ℕ)) (content : Inlines) (ks : List ℕ) → line.in_link ≡ false
    → (v : IsTail refs line.link_style (written (in_link line) (wrote w (codes "[")) (Some 93) content) a t ks)
    → AreShown [] refs (in_link line) (wrote w (codes "["))
    (written (in_link line) (wrote w (codes "[")) (Some 93) content) content ((93 ∷ v.rest) ++ ks)
    → ReadsOne rows refs line w
    (with_address line.link_style (written (in_link line) (wrote w (codes "[")) (Some 93) content) a t)
    (link a t content) ks
link_shown rows refs line w a t content ks l v c =
    let before = pushed w.text [] in
    let tail = 93 ∷ v.rest in
    record {
      text = 91 ∷ (c.text ++ tail);
      is = v.is ∙ ap (λ u. u ++ tail) c.is ∙ append_assoc (w.text ++ codes "[") c.text tail
          ∙ append_assoc w.text (codes "[") (c.text ++ tail);
      shown = record {
        raw_inlines = markup.link a t c.shown.raw_inlines markup.no_inlines;
        reads = subst (λ b. IsReadIn rows refs b before (91 ∷ (c.text ++ tail)) ks
            (markup.link a t c.shown.raw_inlines markup.no_inlines)) (sym l)
            (link_with rows refs before c.text tail ks a t c.shown.raw_inlines v.closes
            (subst (λ u. IsReadIn [] refs true u c.text (tail ++ ks) c.shown.raw_inlines)
            (pushed_append w.text (codes "[") []) c.shown.reads));
        shows = link_seen a t c.shown.raw_inlines (meant content) c.shown.shows;
        plain = content_plain (is_read_plainly (is_one_line line.kind) c.shown.raw_inlines) true c.shown.plain refl;
      };
      begins = link_begins line w.text a t content ((c.text ++ tail) ++ ks);
    }

-- ---- all of it

-- what a row's content begins with
row_inside : (line : Line) (so_far : List ℕ) (row : RowFormat) (sign : ℕ) (content : Inlines) (ks : List ℕ)
    → has_none content ≡ false → is_one_of (codes "*_~") sign ≡ true → IsSound so_far
    → BeginAll line (so_far ++ row_text row sign) content ks
    → (first_is sign ks ≡ false)
    × ((g : ℕ) → first_of_all line.kind content ≡ Some g → IsInner g (beside_after sign ks))
row_inside line so_far row sign no_inlines ks n i h b = absurd (cc)
row_inside line so_far row sign (inline y rest) ks n i h b =
    let r = row_is_before so_far row sign i h in (
      b.no_sign sign i r.0 r.1,
      λ g e. subst (IsInner g) (sym (beside_is sign ks (b.no_tilde sign i r.0))) (b.inner g e),
    )

mutual
  pub walk : (rows : List RowFormat) (formats : List Format) (refs : References) (all : List (List ℕ))
      → Finds refs all
      → (line : Line) (w : Written) (closing : Option ℕ) (xs : Inlines) (ks : List ℕ)
      → are_normal line.in_link formats xs ≡ true → AreAround rows formats
      → IsSound w.text → IsPrefix (written line w closing xs).definitions all → may_be_escaped closing ≡ true
      → Ends closing (last_passes is_format xs) ks
      → AreShown rows refs line w (written line w closing xs) xs ks
  walk rows formats refs all finds line w closing no_inlines ks n a h p m e = none_shown rows refs line w ks
  walk rows formats refs all finds line w closing (inline x no_inlines) ks n a h p m e =
      let q = and_parts (is_normal line.in_link formats x && meets x no_inlines) true n in
      let r = and_parts (is_normal line.in_link formats x) (meets x no_inlines) q.0 in
      let f = follows line.kind closing no_inlines in
      walk_one rows formats refs all finds line w f x ks r.0 a h p
      (last_needs line.kind closing x (with_inline line w f x).text ks e)
  walk rows formats refs all finds line w closing (inline x (inline y rest)) ks n a h p m e =
      let xs = inline y rest in
      let q = and_parts (is_normal line.in_link formats x && meets x xs) (are_normal line.in_link formats xs) n in
      let r = and_parts (is_normal line.in_link formats x) (meets x xs) q.0 in
      let f = follows line.kind closing xs in
      let next = with_inline line w f x in
      let after = written line next closing xs in
      let s = sound_one line formats w f x r.0 (mark_follows line.kind closing x xs r.1 m) h in
      let later = walk rows formats refs all finds line next closing (inline y rest) ks q.1 a s p m e in
      both_shown rows refs line w next after x xs ks later
      (walk_one rows formats refs all finds line w f x (later.text ++ ks) r.0 a h
      (prefix_prefix next.definitions after.definitions all (grows line next closing xs) p)
      (next_needs line closing x y rest next.text (later.text ++ ks) r.1 later.begins))

  walk_one : (rows : List RowFormat) (formats : List Format) (refs : References) (all : List (List ℕ))
      → Finds refs all
      → (line : Line) (w : Written) (f : Following) (x : Inline) (ks : List ℕ)
      → is_normal line.in_link formats x ≡ true → AreAround rows formats
      → IsSound w.text
      → IsPrefix (with_inline line w f x).definitions all → Needs f x (with_inline line w f x).text ks
      → ReadsOne rows refs line w (with_inline line w f x) x ks
  walk_one rows formats refs all finds line w f (text s) ks n a h p d = text_shown rows refs line w f s ks n h d
  walk_one rows formats refs all finds line w f (code s) ks n a h p d =
      code_is_shown rows refs line w f s ks n (d.no_grave refl)
  walk_one rows formats refs all finds line w f (formatted g content) ks n a h p d =
      let shape = λ (m : Mark). wrote (written line (wrote w m.opener) (Some m.sign) content) m.closer in
      let x = formatted g content in
      let s = sides_of line w.text f content in
      let n1 = and_parts (not (is_barred formats g) && has_title g && not (has_none content) && are_whole content)
      (are_normal line.in_link (g ∷ formats) content) n in
      let n2 = and_parts (not (is_barred formats g) && has_title g && not (has_none content)) (are_whole content)
      n1.0 in
      let n3 = and_parts (not (is_barred formats g) && has_title g) (not (has_none content)) n2.0 in
      let n4 = and_parts (not (is_barred formats g)) (has_title g) n3.0 in
      mark_cases g s
      (λ r. let row = row_text r.row r.sign in
      let start = wrote w row in
      let after = written line start (Some r.sign) content in
      let fit = fitting r.sign s r.fitting in
      let sound = sound_row w.text r.row r.sign r.is_sign h in
      let sound_after =
      sound_all line (g ∷ formats) start (Some r.sign) content n1.1 (sign_mark r.sign r.is_sign) sound in
      let d' : Needs f x (after.text ++ row) ks = subst (λ (m : Mark). Needs f x (shape m).text ks) r.is d in
      let p' : IsPrefix after.definitions all = subst (λ (m : Mark). IsPrefix (shape m).definitions all) r.is p in
      let before = row_is_before after.text r.row r.sign r.is_sign sound_after in
      let beside = d'.beside refl r.sign r.is_sign before.0 before.1 fit.no_equal_after in
      let c = walk (r.row ∷ rows) (g ∷ formats) refs all finds line start (Some r.sign) content (row ++ ks) n1.1
      (subst (λ q. AreAround (r.row ∷ rows) (q ∷ formats)) r.means (row_around r.row rows formats a)) sound p'
      (sign_mark r.sign r.is_sign)
      (row_ends line w f content r.row r.sign ks r.is_sign r.has_sign fit beside.0 beside.1) in
      let inside = row_inside line w.text r.row r.sign content (c.text ++ (row ++ ks))
      (not-true (has_none content) n3.1) r.is_sign h c.begins in
      subst (λ (m : Mark). ReadsOne rows refs line w (shape m) x ks) (sym r.is)
      (row_shown rows refs line w f g content ks r h
      (none_around rows formats r.row a (sym (row_barred formats r.row) ∙ ap (is_barred formats) r.means
      ∙ not-true (is_barred formats g) n4.0)) c
      inside.0 beside.0
      (row_opens r.sign line w f content (beside_after r.sign (c.text ++ (row ++ ks))) h fit inside.1)
      (row_closes r.sign line w f content (beside_before r.sign (pushed after.text [])) (beside_after r.sign ks) fit
      beside.1 (λ l e. last_inner line (g ∷ formats) start r.sign content l n1.1 r.is_sign e))))
      (λ t. let start = wrote w (in_tag t.opening) in
      let after = written line start (Some 60) content in
      let p' : IsPrefix after.definitions all = subst (λ (m : Mark). IsPrefix (shape m).definitions all) t.is p in
      subst (λ (m : Mark). ReadsOne rows refs line w (shape m) x ks) (sym t.is)
      (tags_shown rows refs line w g (mark_for g s) content ks t
      (walk rows (g ∷ formats) refs all finds line start (Some 60) content (in_tag t.closing ++ ks) n1.1
      (more_around rows formats g a) (sound_tag w.text t.opening (t.opening_utf8 n4.1) h) p' refl
      (sign_ends 60 (last_passes is_format content) ((t.closing ++ codes ">") ++ ks) refl refl))))
  walk_one rows formats refs all finds line w f (link b t content) ks n a h p d =
      let n1 = and_parts (not line.in_link && is_attribute b && is_title t && not (has_none content))
      (are_normal true formats content) n in
      let n2 = and_parts (not line.in_link && is_attribute b && is_title t) (not (has_none content)) n1.0 in
      let n3 = and_parts (not line.in_link && is_attribute b) (is_title t) n2.0 in
      let n4 = and_parts (not line.in_link) (is_attribute b) n3.0 in
      let start = wrote w (codes "[") in
      let after = written (in_link line) start (Some 93) content in
      test (is_autolinked line b t content)
      (λ e. rw e (autolink_shown rows refs line w b t content ks e))
      (λ e. let p' : IsPrefix (with_address line.link_style after b t).definitions all = rw e at p in
      let v = link_tail refs all finds line.link_style after b t ks n4.1 n3.1 p' in
      let c = walk [] formats refs all finds (in_link line) start (Some 93) content ((93 ∷ v.rest) ++ ks) n1.1 tt
      (sound_bracket w.text h)
      (prefix_prefix after.definitions (with_address line.link_style after b t).definitions all
      (address_grows line.link_style after b t) p')
      refl (sign_ends 93 (last_passes is_format content) (v.rest ++ ks) refl refl) in
      rw e (link_shown rows refs line w b t content ks (not-true line.in_link n4.0) v c))
  walk_one rows formats refs all finds line w f (image b t s) ks n a h p d = record {
    text = written_image b t s;
    is = refl;
    shown =
        let q = and_parts (is_attribute b && is_title t) (is_line s) n in
        let r = and_parts (is_attribute b) (is_title t) q.0 in
        let l = and_parts (is_utf8 s) (list_all is_line_byte s) q.1 in
        image_shown (is_one_line line.kind) rows refs line.in_link (pushed w.text []) ks b t s
        (and_parts (is_utf8 b) (list_all is_kept b) r.0).1 (IsUtf8-from_is_utf8 s l.0) l.1;
    begins = image_begins line w.text b t s _;
  }
  walk_one rows formats refs all finds line w f (anchor id) ks n a h p d = record {
    text = html.anchor id;
    is = refl;
    shown = anchor_shown (is_one_line line.kind) rows refs line.in_link (pushed w.text []) ks id;
    begins = anchor_begins line w.text id _;
  }
  walk_one rows formats refs all finds line w f line_break ks n a h p d = record {
    text = written_break line;
    is = refl;
    shown = break_shown rows line refs (pushed w.text []) ks (d.well refl);
    begins = break_begins line w.text ks;
  }
  walk_one rows formats refs all finds line w f (task c) ks n a h p d = absurd (cc)
