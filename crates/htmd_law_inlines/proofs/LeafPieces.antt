-- Texts, codes, images and breaks as the writer makes them: what each is read as, and how that is seen.
use Rattle.std.proofs.Common.{◌≡◌, ◌∙◌, sym, refl, ap, ℕ, Bool, true, false, List, [], ◌∷◌, ◌++◌, Option, Some, codes}
use Rattle.std.specs.Prelude.{reverse, not, ◌||◌, ◌==◌}
use Rattle.std.specs.List.{list_all}
use Rattle.std.specs.Str.{IsUtf8}
use Rattle.std.proofs.lemmas.Bool.{and_parts, and_from, or_right}
use Rattle.std.proofs.lemmas.List.{reverse-append}
use Rattle.htmd_lexical.specs.CharacterClasses.{first_is}
use Rattle.htmd_markdown.specs.declared.line_break.BrStyle.{BrStyle}
use Rattle.htmd_markdown.specs.declared.line_break.BrStyle.TheVariants.{TwoSpaces, Backslash}
use Rattle.htmd_markdown.specs.LineBreaks as breaks
use Rattle.htmd_commonmark.specs.declared.line.Line.{Line}
use Rattle.htmd_commonmark.specs.TextEscapes.{escaped}
use Rattle.htmd_commonmark.specs.WrittenText.{is_one_line}
use Rattle.htmd_commonmark.specs.InlineMarkdown.{written_code, needs_tags, place_in_tags, written_break, written_image}
use Rattle.htmd_commonmark.specs.InlineMarkdown.{written_resource, place_of_description}
use Rattle.htmd_commonmark_reading.specs.Characters.{past_blanks}
use Rattle.htmd_commonmark_reading.specs.Markup.{Inlines, no_inlines, letters, code, image, line_break, raw, joined}
use Rattle.htmd_commonmark_reading.specs.Brackets.{References}
use Rattle.htmd_document.specs.NormalInlines.{is_line_byte, is_kept, ends_in_space}
use Rattle.htmd_law_inlines.proofs.Pieces.{IsRead, both_read, pushed}
use Rattle.std.specs.Char.{is_ascii_punctuation}
use Rattle.htmd_law_inlines.proofs.CharacterPieces.{no_punctuation}
use Rattle.htmd_law_inlines.proofs.TextPieces.{test, differs}
use Rattle.htmd_law_inlines.proofs.TextRead.{is_spaced, no_blank_next}
use Rattle.htmd_law_inlines.proofs.RowsRead.{KnowsBefore, escaped_text_read, snoc}
use Rattle.htmd_law_inlines.proofs.SpanPieces.{code_read}
use Rattle.htmd_law_inlines.proofs.TagPieces.{opens_code, closes_code, breaks_tag, breaks_slash, breaks_spaces}
use Rattle.htmd_law_inlines.proofs.TagPieces.{begins_well}
use Rattle.htmd_law_inlines.proofs.OpenRuns.{RowFormat}
use Rattle.htmd_law_inlines.proofs.Nested.{IsReadIn, anywhere, image_in}
use Rattle.htmd_law_inlines.proofs.SeenPieces.{AreSeen, code_seen, code_tags_seen, break_seen, break_tag_seen}
use Rattle.htmd_law_inlines.proofs.SeenPieces.{image_seen}
use Rattle.htmd_law_inlines.proofs.WalkPieces.{guess_follows}
use Rattle.htmd_law_inlines.specs.PlainReadings.{is_untagged, is_read_plainly}
use Rattle.htmd_law_inlines.proofs.PlainPieces.{joined_plain, letters_plain, letters_untagged, content_plain, tag_plain}

-- what a piece is read as, and how that is seen
pub record IsShown
    (may : Bool) (around : List RowFormat) (refs : References) (in_link : Bool) (before s ks : List ℕ) (zs : Inlines)
    : Type 0
  where
    pub raw_inlines : Inlines
    pub reads : IsReadIn around refs in_link before s ks raw_inlines
    pub shows : AreSeen raw_inlines zs
    pub plain : is_read_plainly may raw_inlines ≡ true

-- a text of one line, before what isn't white space up to a line's end unless no space ends the text
pub last_space : (c d : ℕ) (s : List ℕ) → ends_in_space (c ∷ d ∷ s) ≡ ends_in_space (d ∷ s)
last_space c d s =
    let v = snoc d s in
    ap (first_is 32) (ap (λ l. reverse (c ∷ l)) v.is ∙ reverse-append (c ∷ v.front) (v.last ∷ []))
    ∙ sym (ap (first_is 32) (ap reverse v.is ∙ reverse-append v.front (v.last ∷ [])))

no_line_after : (d : ℕ) (s ks : List ℕ) → list_all is_line_byte (d ∷ s) ≡ true
    → (ends_in_space (d ∷ s) ≡ true → first_is 10 (past_blanks ks) ≡ false)
    → first_is 10 (past_blanks ((d ∷ s) ++ ks)) ≡ false
no_line_after d [] ks h n =
    let p = (and_parts (is_line_byte d) true h).0 in
    test (d == 32) (λ e. rw e (n (rw e refl)))
    (λ e. rw (e, differs is_line_byte d 9 p refl) (differs is_line_byte d 10 p refl))
no_line_after d (c ∷ s) ks h n =
    let p = and_parts (is_line_byte d) (list_all is_line_byte (c ∷ s)) h in
    test (d == 32)
    (λ e. rw e (no_line_after c s ks p.1 (λ x. n (last_space d c s ∙ x))))
    (λ e. rw (e, differs is_line_byte d 9 p.0 refl) (differs is_line_byte d 10 p.0 refl))

pub spaced_before : (s ks : List ℕ) → list_all is_line_byte s ≡ true
    → (ends_in_space s ≡ true → first_is 10 (past_blanks ks) ≡ false) → is_spaced s ks ≡ true
spaced_before [] ks h n = refl
spaced_before (c ∷ []) ks h n =
    and_from (is_line_byte c) _ ((and_parts (is_line_byte c) true h).0)
    (test (c == 32) (λ e. rw (e, n (rw e refl)) refl) (λ e. rw e refl))
spaced_before (c ∷ d ∷ s) ks h n =
    let p = and_parts (is_line_byte c) (list_all is_line_byte (d ∷ s)) h in
    let m : ends_in_space (d ∷ s) ≡ true → first_is 10 (past_blanks ks)
    ≡ false = λ x. n (last_space c d s ∙ x) in
    and_from (is_line_byte c) _ p.0
    (and_from (not (c == 32) || no_blank_next (d ∷ s) ks) (is_spaced (d ∷ s) ks)
    (or_right (not (c == 32)) (no_blank_next (d ∷ s) ks) (ap not (no_line_after d s ks p.1 m)))
    (spaced_before (d ∷ s) ks p.1 m))

-- punctuation is no word's character
no_word_mark : (c : ℕ) → is_ascii_punctuation c ≡ true → (before : List ℕ) → KnowsBefore (Some c) before
no_word_mark c h before e = let x = no_punctuation c e in absurd (cc)

-- ---- codes

tagged_read : (line : Line) (refs : References) (before ks s : List ℕ) → IsUtf8 s → list_all is_line_byte s
    ≡ true
    → IsRead refs line.in_link before (codes "<code>" ++ (escaped (place_in_tags line) s ++ codes "</code>")) ks
    (joined (raw (codes "<code>") no_inlines) (joined (letters s no_inlines) (raw (codes "</code>") no_inlines)))
tagged_read line refs before ks s u p =
    let inner = escaped (place_in_tags line) s in
    let start = codes "<code>" in
    let stop = codes "</code>" in
    both_read refs line.in_link before start (inner ++ stop) ks (raw start no_inlines)
    (joined (letters s no_inlines) (raw stop no_inlines))
    (opens_code refs line.in_link before ((inner ++ stop) ++ ks))
    (both_read refs line.in_link (pushed start before) inner stop ks (letters s no_inlines) (raw stop no_inlines)
    (escaped_text_read refs (place_in_tags line) s (pushed start before) (stop ++ ks) u
    (spaced_before s (stop ++ ks) p (λ e. refl))
    (guess_follows 60 60 (codes "/code>" ++ ks) (refl, refl, λ e. absurd (cc), λ e. absurd (cc)))
    (no_word_mark 62 refl (pushed start before)))
    (closes_code refs line.in_link (pushed inner (pushed start before)) ks))

pub code_shown : (around : List RowFormat) (line : Line) (refs : References) (before ks : List ℕ) (x : ℕ)
    (s : List ℕ)
    → IsUtf8 (x ∷ s) → list_all is_line_byte (x ∷ s) ≡ true → (x == 32) ≡ false
    → first_is 96 ks ≡ false
    → IsShown (is_one_line line.kind) around refs line.in_link before (written_code line (x ∷ s)) ks
    (code (x ∷ s) no_inlines)
code_shown around line refs before ks x s u p sp g =
    test (needs_tags line (x ∷ s))
    (λ e. rw e (record {
      raw_inlines = joined (raw (codes "<code>") no_inlines)
          (joined (letters (x ∷ s) no_inlines) (raw (codes "</code>") no_inlines));
      reads = anywhere around refs line.in_link before _ ks _ (tagged_read line refs before ks (x ∷ s) u p);
      shows = code_tags_seen x s;
      plain = tag_plain (is_one_line line.kind) (codes "<code>") (joined (letters (x ∷ s) no_inlines)
          (raw (codes "</code>") no_inlines)) refl (joined_plain (is_one_line line.kind)
          (letters (x ∷ s) no_inlines) (raw (codes "</code>") no_inlines)
          (letters_plain (is_one_line line.kind) (x ∷ s))
          (tag_plain (is_one_line line.kind) (codes "</code>") no_inlines refl refl));
    }))
    (λ e. rw e (record {
      raw_inlines = code (x ∷ s) no_inlines;
      reads = anywhere around refs line.in_link before _ ks _ (code_read refs line.in_link before ks x s p sp g);
      shows = code_seen (x ∷ s);
      plain = refl;
    }))

-- ---- breaks

styled_break : (refs : References) (in_link : Bool) (before ks : List ℕ) (style : BrStyle) → begins_well ks ≡ true
    → IsRead refs in_link before (breaks.line_break style) ks (line_break no_inlines)
styled_break refs in_link before ks TwoSpaces h = breaks_spaces refs in_link before ks h
styled_break refs in_link before ks Backslash h = breaks_slash refs in_link before ks h

pub break_shown : (around : List RowFormat) (line : Line) (refs : References) (before ks : List ℕ)
    → begins_well ks ≡ true
    → IsShown (is_one_line line.kind) around refs line.in_link before (written_break line) ks (line_break no_inlines)
break_shown around line refs before ks h =
    test (is_one_line line.kind)
    (λ e. rw e (record {
      raw_inlines = raw (codes "<br>") no_inlines;
      reads = anywhere around refs line.in_link before (codes "<br>") ks _ (breaks_tag refs line.in_link before ks);
      shows = break_tag_seen;
      plain = refl;
    }))
    (λ e. rw e (record {
      raw_inlines = line_break no_inlines;
      reads = anywhere around refs line.in_link before _ ks _
          (styled_break refs line.in_link before ks line.br_style h);
      shows = break_seen;
      plain = refl;
    }))

-- ---- images

pub image_shown : (may : Bool) (around : List RowFormat) (refs : References) (in_link : Bool) (before ks a : List ℕ)
    (t : Option (List ℕ)) (s : List ℕ) → list_all is_kept a ≡ true → IsUtf8 s → list_all is_line_byte s
    ≡ true
    → IsShown may around refs in_link before (written_image a t s) ks (image a t (letters s no_inlines) no_inlines)
image_shown may around refs in_link before ks a t s h u p =
    let inner = escaped place_of_description s in
    record {
      raw_inlines = image a t (letters s no_inlines) no_inlines;
      reads = image_in around refs in_link before inner ks a t (letters s no_inlines) h
          (anywhere [] refs true (91 ∷ 33 ∷ before) inner (written_resource a t ++ ks) (letters s no_inlines)
          (escaped_text_read refs place_of_description s (91 ∷ 33 ∷ before) (written_resource a t ++ ks) u
          (spaced_before s (written_resource a t ++ ks) p (λ e. refl))
          (guess_follows 93 93 _ (refl, refl, λ e. absurd (cc), λ e. absurd (cc)))
          (no_word_mark 91 refl (91 ∷ 33 ∷ before))));
      shows = image_seen a t s;
      plain = content_plain (is_untagged (letters s no_inlines)) true (letters_untagged s) refl;
    }
