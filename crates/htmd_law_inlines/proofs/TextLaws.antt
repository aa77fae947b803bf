-- A text alone is read back.
use Rattle.std.proofs.Common.{◌≡◌, ◌∙◌, refl, ap, sym, ℕ, true, false, List, [], ◌∷◌, Option, Some, None, subst}
use Rattle.std.specs.Prelude.{not, ◌&&◌}
use Rattle.std.specs.List.{list_all}
use Rattle.std.specs.Str.{IsUtf8, is_utf8}
use Rattle.std.proofs.lemmas.Bool.{and_parts, not-true}
use Rattle.std.proofs.lemmas.List.{append-nil}
use Rattle.std.proofs.lemmas.Str.{chars-nil, IsUtf8-from_is_utf8}
use Rattle.htmd_lexical.specs.CharacterClasses.{is_empty}
use Rattle.htmd_document.specs.Documents as document
use Rattle.htmd_text.specs.EscapedPlaces.{with_backslashes}
use Rattle.htmd_commonmark.specs.declared.line.Line.{Line}
use Rattle.htmd_commonmark.specs.TextEscapes.{is_of_word}
use Rattle.htmd_commonmark.specs.InlineMarkdown.{place_of, written_line}
use Rattle.htmd_commonmark.specs.WrittenText.{Written}
use Rattle.htmd_commonmark.specs.declared.inline_ends.Following.{Following}
use Rattle.htmd_law_inlines.proofs.TextWritten.{text_written}
use Rattle.htmd_law_inlines.proofs.LeafPieces.{spaced_before}
use Rattle.htmd_commonmark_reading.specs.Markup.{Inlines, no_inlines, letter, letters, joined}
use Rattle.htmd_commonmark_reading.specs.DelimiterRuns.{base, unstacked, processed}
use Rattle.htmd_commonmark_reading.specs.Brackets.{References, outermost, scanned, all_tokens, inlines}
use Rattle.htmd_commonmark_reading.specs.SeenMarkup.{seen_inlines, document_inlines, seen, all_seen, outside}
use Rattle.htmd_commonmark_reading.specs.SeenMarkup.{with_letter}
use Rattle.htmd_document.specs.NormalInlines.{are_whole, are_normal, is_line_byte, is_text, has_double_space, is_line}
use Rattle.htmd_law_inlines.specs.ReadBack.{TextsReadBack}
use Rattle.htmd_law_inlines.proofs.Pieces.{joined_none, joined_joined}
use Rattle.htmd_law_inlines.proofs.OpenRuns.{no_openers}
use Rattle.htmd_law_inlines.proofs.Nested.{IsReadIn, anywhere}
use Rattle.htmd_law_inlines.proofs.TextRead.{Follows, is_spaced}
use Rattle.htmd_law_inlines.proofs.RowsRead.{KnowsBefore, text_read}

-- ---- a whole line

-- what is read of a whole line are its inlines
pub reads_whole : (refs : References) (s : List ℕ) (xs : Inlines) → IsReadIn [] refs false [] s [] xs
    → inlines refs s ≡ xs
reads_whole refs s xs p =
    ap (λ l. processed (all_tokens (scanned refs l 0 [] (outermost [])))) (sym (append-nil s))
    ∙ ap (λ b. processed (all_tokens b)) (p.scans (outermost []) tt)
    ∙ ap (λ st. unstacked st no_inlines) (p.means (base no_inlines) no_openers) ∙ joined_none xs

-- ---- letters as they are seen

seen_letters : (s : List ℕ) (items : Inlines)
    → all_seen (seen (outside items) (letters s no_inlines)) no_inlines ≡ joined items (letters s no_inlines)
seen_letters [] items = refl
seen_letters (c ∷ s) items =
    seen_letters s (joined items (letter c no_inlines))
    ∙ joined_joined items (letter c no_inlines) (letters s no_inlines)

text_of : (c : ℕ) (s : List ℕ)
    → document_inlines (letters (c ∷ s) no_inlines)
    ≡ Some (document.inline (document.text (c ∷ s)) document.no_inlines)
text_of c [] = refl
text_of c (d ∷ s) = ap (with_letter c) (text_of d s)

-- ---- the text

nothing_follows : Follows None []
nothing_follows = record { ends = refl; escapes = refl; in_tag = λ h. refl; bracket = λ h. refl }

nothing_before : (line : Line) (after : Option ℕ) → KnowsBefore (place_of line [] after).before []
nothing_before line after h =
    let e : is_of_word (place_of line [] after).before ≡ false = rw chars-nil refl in absurd (cc)

text_inlines : (line : Line) (before : List (List ℕ)) (refs : References) (s : List ℕ) → line.in_link
    ≡ false
    → IsUtf8 s → is_spaced s [] ≡ true → is_empty s ≡ false
    → inlines refs (written_line line before (document.inline (document.text s) document.no_inlines)).text
    ≡ letters s no_inlines
text_inlines line before refs s l u p n =
    let start : Written = record { text = []; definitions = before } in
    let end : Following = record { after = None; is_last = true } in
    let t = text_written line start end s n in
    let written = with_backslashes t.marked 0 s in
    ap (λ (x : Written). inlines refs x.text) t.is
    ∙ reads_whole refs written (letters s no_inlines)
    (subst (λ b. IsReadIn [] refs b [] written [] (letters s no_inlines)) l
    (anywhere [] refs line.in_link [] written [] (letters s no_inlines)
    (text_read refs (place_of line [] None) s t.marked [] [] t.marks u p nothing_follows (nothing_before line None))))

seen_text : (s : List ℕ) → is_empty s ≡ false
    → document_inlines (seen_inlines (letters s no_inlines))
    ≡ Some (document.inline (document.text s) document.no_inlines)
seen_text [] h = absurd (cc)
seen_text (c ∷ s) h = ap document_inlines (seen_letters (c ∷ s) no_inlines) ∙ text_of c s

-- a text alone is read back, in each place
pub texts_read_back : TextsReadBack
texts_read_back line before refs s l n =
    let xs = document.inline (document.text s) document.no_inlines in
    let a = (and_parts (is_text s && true) true (and_parts (are_whole xs) (are_normal false [] xs) n).1).0 in
    let b = (and_parts (is_text s) true a).0 in
    let d = and_parts (is_line s && not (is_empty s)) (not (has_double_space s)) b in
    let e = and_parts (is_line s) (not (is_empty s)) d.0 in
    let f = and_parts (is_utf8 s) (list_all is_line_byte s) e.0 in
    let full = not-true (is_empty s) e.1 in
    ap (λ x. document_inlines (seen_inlines x))
    (text_inlines line before refs s l (IsUtf8-from_is_utf8 s f.0) (spaced_before s [] f.1 (λ e. refl))
    full)
    ∙ seen_text s full
