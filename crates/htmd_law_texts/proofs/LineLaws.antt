-- What is written of normal inlines is the text of a paragraph, of a heading or of a cell.
use Rattle.std.proofs.Common.{◌≡◌, ◌∙◌, refl, ap, sym, subst, ℕ, Bool, true, false, List, [], ◌∷◌, ◌++◌, None, codes}
use Rattle.std.proofs.Common.{◌⊎◌, inl, inr}
use Rattle.std.specs.Prelude.{◌==◌, ◌&&◌, if◌then◌else◌, not, is_none, slice_get, reverse}
use Rattle.std.specs.List.{list_all}
use Rattle.std.specs.Str.{IsUtf8}
use Rattle.std.proofs.lemmas.Bool.{and_parts, eqb-true, not-true}
use Rattle.std.proofs.lemmas.List.{append-nil}
use Rattle.std.proofs.lemmas.Str.{chars-nil, IsUtf8-nil}
use Rattle.htmd_lexical.specs.CharacterClasses.{first_is}
use Rattle.htmd_document.specs.Documents.{Inline, text, code, formatted, link, image, line_break, task}
use Rattle.htmd_document.specs.Documents.{anchor}
use Rattle.htmd_document.specs.Documents.{Inlines, no_inlines, inline}
use Rattle.htmd_law_texts.proofs.NormalForm.{paragraph_parts, heading_parts}
use Rattle.htmd_commonmark.specs.declared.line.LineKind.{LineKind}
use Rattle.htmd_commonmark.specs.declared.line.LineKind.TheVariants.{Paragraph, Heading, Cell}
use Rattle.htmd_commonmark.specs.declared.options.DocumentOptions.{DocumentOptions}
use Rattle.htmd_commonmark.specs.BlockMarkdown.{line_of, is_underlined, has_break}
use Rattle.htmd_commonmark.specs.InlineEnds.{follows}
use Rattle.htmd_commonmark.specs.InlineMarkdown.{with_inline, written_line, written_task}
use Rattle.htmd_commonmark.specs.WrittenText.{Written, wrote, begins_line, in_line}
use Rattle.htmd_commonmark_reading.specs.LinkDefinitions.{definition}
use Rattle.htmd_law_blocks.specs.LineTexts.{is_line_character, lines_of, AreTextLines, IsFirstLine, IsLineText}
use Rattle.htmd_law_blocks.specs.LineTexts.{IsHeadingText, IsUnderlinedText, IsCellText}
use Rattle.htmd_law_blocks.specs.DocumentParts.{paragraph_text, heading_text}
use Rattle.htmd_law_blocks.specs.DocumentTexts.{IsHeading}
use Rattle.htmd_document.specs.NormalDocuments.{is_normal_paragraph, is_normal_heading}
use Rattle.htmd_document.specs.NormalInlines.{is_normal, are_normal, is_normal_line, is_normal_item, are_whole}
use Rattle.htmd_document.specs.NormalInlines.{are_trimmed, first_passes, last_passes, is_break}
use Rattle.htmd_document.specs.NormalInlines.{begins_with_space, ends_with_space, meets}
use Rattle.htmd_law_inlines.proofs.TextPieces.{test}
use Rattle.htmd_law_texts.proofs.WrittenPieces.{pieces, text_is}
use Rattle.htmd_law_texts.proofs.PieceTexts.{is_allowed, all_append, all_by, pieces_all}
use Rattle.htmd_law_texts.proofs.PieceUtf8.{small_utf8}
use Rattle.htmd_law_texts.proofs.TextStarts.{IsNext}
use Rattle.htmd_law_texts.proofs.InlineStarts.{bracket_line}
use Rattle.htmd_law_texts.proofs.PieceFirsts.{IsParagraph, ends_at, next_is, text_first, format_parts}
use Rattle.htmd_law_texts.proofs.WrittenLines.{first_line, AllBegun, Starts, begun_append, lines_are, line_append}
use Rattle.htmd_law_texts.proofs.WrittenLines.{plain_of_clean, clean_line, leads_with_break, inline_begins}
use Rattle.htmd_law_texts.proofs.ParagraphLines.{starts_pieces}
use Rattle.htmd_law_texts.proofs.PieceEnds.{EndsInk, ink_append, trimmed_by}
use Rattle.htmd_law_texts.proofs.TrimmedPieces.{ends_ink, heading_shut, heading_whole, begins_black}
use Rattle.htmd_law_texts.proofs.NoDefinition.{fine_undefined, undefined_first, whole_by}

-- ---- normal lines

-- the normal form's parts
pub record IsLine (xs : Inlines) : Type 0 where
  pub no_space : first_passes begins_with_space xs ≡ false
  pub no_space_end : last_passes ends_with_space xs ≡ false
  pub no_break : first_passes is_break xs ≡ false
  pub no_break_end : last_passes is_break xs ≡ false
  pub all : are_normal false [] xs ≡ true

pub line_parts : (xs : Inlines) → is_normal_line xs ≡ true → IsLine xs
line_parts xs h =
    let p = and_parts (are_whole xs) (are_normal false [] xs) h in
    let x1 = not (first_passes is_break xs) in
    let q = and_parts (are_trimmed xs && x1) (not (last_passes is_break xs)) p.0 in
    let r = and_parts (are_trimmed xs) x1 q.0 in
    let t = and_parts (not (first_passes begins_with_space xs)) (not (last_passes ends_with_space xs)) r.0 in
    record {
      no_space = not-true (first_passes begins_with_space xs) t.0;
      no_space_end = not-true (last_passes ends_with_space xs) t.1;
      no_break = not-true (first_passes is_break xs) r.1;
      no_break_end = not-true (last_passes is_break xs) q.1;
      all = p.1;
    }

-- nothing, but for definitions
abbrev at_first : List (List ℕ) → Written
at_first definitions = record { text = []; definitions = definitions }

line_is : (options : DocumentOptions) (definitions : List (List ℕ)) (kind : LineKind) (xs : Inlines)
    → (written_line (line_of options kind) definitions xs).text
    ≡ pieces (line_of options kind) (at_first definitions) None xs
line_is options definitions kind xs = text_is (line_of options kind) (at_first definitions) None xs

pub is_paragraph : (options : DocumentOptions) → IsParagraph (line_of options Paragraph)
is_paragraph options = record { no_one_line = refl; no_heading = refl; no_cell = refl }

ends_no_break : (b : Bool) (x : Inline) (rest : Inlines) → last_passes is_break (inline x rest) ≡ false
    → ends_at b (inline x rest) ≡ false
ends_no_break b x no_inlines h = h
ends_no_break b x (inline y rest) h = ends_no_break (is_break x) y rest h

begins_at_first : begins_line [] ≡ true
begins_at_first = ap (λ l. is_none (in_line (slice_get (reverse l) 0))) chars-nil

-- all lines but the first
all_begun : (options : DocumentOptions) (w : Written) (b : Bool) (x : Inline) (rest : Inlines) → IsUtf8 w.text
    → last_passes is_break (inline x rest) ≡ false → are_normal false [] (inline x rest) ≡ true
    → AllBegun (pieces (line_of options Paragraph) w None (inline x rest))
all_begun options w b x rest u e h =
    let line = line_of options Paragraph in
    let n = ends_no_break false x rest e in
    subst AllBegun (append-nil (pieces line w None (inline x rest)))
    (starts_pieces line (is_paragraph options) w None [] (inline x rest) [] false u (λ y. absurd (cc)) h refl
    (subst (λ b. Starts b []) (sym n) (λ y. absurd (cc), tt))).1

-- a normal format begins with no break
no_lead : (x : Inline) → is_normal false [] x ≡ true → leads_with_break x ≡ false
no_lead (text s) h = refl
no_lead (code s) h = refl
no_lead (formatted g content) h = (format_parts false [] g content h).4
no_lead (link a t content) h = refl
no_lead (image a t d) h = refl
no_lead (anchor i) h = refl
no_lead line_break h = refl
no_lead (task c) h = refl

first_of_line : (options : DocumentOptions) (w : Written) (x : Inline) (rest : Inlines) → w.text ≡ []
    → IsLine (inline x rest)
    → IsFirstLine (first_line (pieces (line_of options Paragraph) w None (inline x rest)))
first_of_line options w x rest e l =
    let line = line_of options Paragraph in
    let p = is_paragraph options in
    let f = follows line.kind None rest in
    let w' = with_inline line w f x in
    let more = pieces line w' None rest in
    let q = and_parts (is_normal false [] x && meets x rest) (are_normal false [] rest) l.all in
    let q' = and_parts (is_normal false [] x) (meets x rest) q.0 in
    (inline_begins line p w f [] x more (subst IsUtf8 (sym e) IsUtf8-nil)
    (ap begins_line e ∙ begins_at_first) l.no_break l.no_space q'.0
    (λ s y. subst (IsNext f.after) (append-nil more)
    (next_is line p w' None [] s [] rest (ap (λ z. meets z rest) (sym y) ∙ q'.1) q.1 refl))).1
    (no_lead x q'.0)

-- what begins a paragraph is no definition
undefined_line : (options : DocumentOptions) (w : Written) (x : Inline) (rest : Inlines) → IsLine (inline x rest)
    → definition (pieces (line_of options Paragraph) w None (inline x rest)) ≡ None
undefined_line options w x rest l =
    let line = line_of options Paragraph in
    let f = follows line.kind None rest in
    let q = and_parts (is_normal false [] x && meets x rest) (are_normal false [] rest) l.all in
    undefined_first line (is_paragraph options) w f [] x (pieces line (with_inline line w f x) None rest) l.no_break
    (and_parts (is_normal false [] x) (meets x rest) q.0).0

text_lines : (s : List ℕ) → AllBegun s → IsFirstLine (first_line s) → AreTextLines (lines_of s)
text_lines s a f = let i = lines_are s a in subst AreTextLines (sym i.1.0) (f, i.1.1)

allowed_plain : (s : List ℕ) → list_all (is_allowed true) s ≡ true → list_all is_line_character s ≡ true
allowed_plain s h = all_by (is_allowed true) is_line_character (λ c a. (and_parts (is_line_character c) _ a).0) s h

normal_text : (options : DocumentOptions) (definitions : List (List ℕ)) (x : Inline) (rest : Inlines)
    → is_normal_line (inline x rest) ≡ true
    → IsLineText (pieces (line_of options Paragraph) (at_first definitions) None (inline x rest))
normal_text options definitions x rest h =
    let line = line_of options Paragraph in
    let w = at_first definitions in
    let l = line_parts (inline x rest) h in
    let s = pieces line w None (inline x rest) in
    record {
      plain = allowed_plain s (pieces_all true line w None [] (inline x rest) l.all refl);
      lines = text_lines s (all_begun options w false x rest IsUtf8-nil l.no_break_end l.all)
          (first_of_line options w x rest refl l);
      whole = whole_by s (ends_ink line w None [] (inline x rest) refl l.no_break_end l.no_space_end l.all)
          (undefined_line options w x rest l);
    }

-- ---- tasks

-- what follows a task begins with a space, or its backslash
after_task : (options : DocumentOptions) (w : Written) (xs : Inlines) → first_passes begins_with_space xs ≡ true
    → first_is 58 (pieces (line_of options Paragraph) w None xs) ≡ false
after_task options w no_inlines h = absurd (cc)
after_task options w (inline (text []) rest) h = absurd (cc)
after_task options w (inline (text (c ∷ t)) rest) h =
    let line = line_of options Paragraph in
    let f = follows line.kind None rest in
    text_first line (is_paragraph options) w.text f c t
    (pieces line (with_inline line w f (text (c ∷ t))) None rest) (λ s. first_is 58 s ≡ false) (λ u. refl)
    (λ m u. ap (λ d. d == 58) (eqb-true c 32 h))
after_task options w (inline (code s) rest) h = absurd (cc)
after_task options w (inline (formatted g content) rest) h = absurd (cc)
after_task options w (inline (link a t content) rest) h = absurd (cc)
after_task options w (inline (image a t d) rest) h = absurd (cc)
after_task options w (inline (anchor i) rest) h = absurd (cc)
after_task options w (inline line_break rest) h = absurd (cc)
after_task options w (inline (task c) rest) h = absurd (cc)

-- a text after a task
task_text : (c : Bool) (s : List ℕ) → list_all (is_allowed true) s ≡ true → AllBegun s → EndsInk s
    → first_is 58 s ≡ false → IsLineText (written_task c ++ s)
task_text true s p a e f = record {
  plain = allowed_plain (codes "[x]" ++ s) (all_append (is_allowed true) (codes "[x]") s refl p);
  lines = text_lines (codes "[x]" ++ s) (begun_append (codes "[x]") s refl a)
      (bracket_line (first_line (codes "x]" ++ s))).0;
  whole = whole_by (codes "[x]" ++ s) (ink_append (codes "[x]") s e) (fine_undefined (codes "x]" ++ s) (ap not f));
}
task_text false s p a e f = record {
  plain = allowed_plain (codes "[ ]" ++ s) (all_append (is_allowed true) (codes "[ ]") s refl p);
  lines = text_lines (codes "[ ]" ++ s) (begun_append (codes "[ ]") s refl a)
      (bracket_line (first_line (codes " ]" ++ s))).0;
  whole = whole_by (codes "[ ]" ++ s) (ink_append (codes "[ ]") s e) (fine_undefined (codes " ]" ++ s) (ap not f));
}

task_utf8 : (c : Bool) → IsUtf8 (written_task c)
task_utf8 true = small_utf8 (codes "[x]") refl
task_utf8 false = small_utf8 (codes "[ ]") refl

item_text : (options : DocumentOptions) (definitions : List (List ℕ)) (c : Bool) (rest : Inlines)
    → is_normal_item (inline (task c) rest) ≡ true
    → IsLineText (pieces (line_of options Paragraph) (at_first definitions) None (inline (task c) rest))
item_text options definitions c no_inlines h = absurd (cc)
item_text options definitions c (inline x rest) h =
    let line = line_of options Paragraph in
    let w = wrote (at_first definitions) (written_task c) in
    let xs = inline x rest in
    let x0 = first_passes begins_with_space xs in
    let x1 = not (last_passes ends_with_space xs) in
    let x2 = not (last_passes is_break xs) in
    let p = and_parts (x0 && x1 && x2) (are_normal false [] xs) h in
    let q = and_parts (x0 && x1) x2 p.0 in
    let r = and_parts x0 x1 q.0 in
    let e = not-true (last_passes is_break xs) q.1 in
    task_text c (pieces line w None xs) (pieces_all true line w None [] xs p.1 refl)
    (all_begun options w false x rest (task_utf8 c) e p.1)
    (ends_ink line w None [] xs refl e (not-true (last_passes ends_with_space xs) r.1) p.1)
    (after_task options w xs r.0)

-- ---- paragraphs

is_item : (x : Inline) (rest : Inlines) → is_normal_item (inline x rest) ≡ true
    → ((c : Bool) × (x ≡ task c)) ⊎ (is_normal_line (inline x rest) ≡ true)
is_item (task c) rest h = inl (c, refl)
is_item (text s) rest h = inr h
is_item (code s) rest h = inr h
is_item (formatted g content) rest h = inr h
is_item (link a t content) rest h = inr h
is_item (image a t d) rest h = inr h
is_item (anchor id) rest h = inr h
is_item line_break rest h = inr h

some_text : (options : DocumentOptions) (definitions : List (List ℕ)) (begins_item : Bool) (x : Inline)
    (rest : Inlines)
    → (if begins_item then is_normal_item (inline x rest) else is_normal_line (inline x rest)) ≡ true
    → IsLineText (pieces (line_of options Paragraph) (at_first definitions) None (inline x rest))
some_text options definitions false x rest h = normal_text options definitions x rest h
some_text options definitions true x rest h =
    elim (is_item x rest h) as (λ y.
    IsLineText (pieces (line_of options Paragraph) (at_first definitions) None (inline x rest))) [
      | inl y ↦
          subst (λ z. IsLineText (pieces (line_of options Paragraph) (at_first definitions) None (inline z rest)))
          (sym y.1)
          (item_text options definitions y.0 rest (ap (λ z. is_normal_item (inline z rest)) (sym y.1) ∙ h))
      | inr y ↦ normal_text options definitions x rest y
    ]

-- what is written of a paragraph
pub paragraph_is_text : (options : DocumentOptions) (definitions : List (List ℕ)) (begins_item : Bool)
    (xs : Inlines) → is_normal_paragraph begins_item xs ≡ true
    → IsLineText (paragraph_text options definitions xs)
paragraph_is_text options definitions b no_inlines h = absurd (cc)
paragraph_is_text options definitions b (inline x rest) h =
    subst IsLineText (sym (line_is options definitions Paragraph (inline x rest)))
    (some_text options definitions b x rest (paragraph_parts b (inline x rest) h))

-- ---- headings

underlined_text : (options : DocumentOptions) (definitions : List (List ℕ)) (x : Inline) (rest : Inlines)
    → is_normal_line (inline x rest) ≡ true → has_break (inline x rest) ≡ false
    → IsUnderlinedText (pieces (line_of options Paragraph) (at_first definitions) None (inline x rest))
underlined_text options definitions x rest h n =
    let line = line_of options Paragraph in
    let w = at_first definitions in
    let l = line_parts (inline x rest) h in
    let s = pieces line w None (inline x rest) in
    let c = pieces_all false line w None [] (inline x rest) l.all (rw n refl) in
    let t = normal_text options definitions x rest h in
    let same : first_line s ≡ s = ap first_line (sym (append-nil s)) ∙ line_append s [] c ∙ append-nil s in
    record {
      plain = t.plain;
      one_line = clean_line s c;
      line = subst IsFirstLine same (first_of_line options w x rest refl l);
      whole = t.whole;
    }

marked_text : (options : DocumentOptions) (definitions : List (List ℕ)) (x : Inline) (rest : Inlines)
    → is_normal_line (inline x rest) ≡ true
    → IsHeadingText (pieces (line_of options Heading) (at_first definitions) None (inline x rest))
marked_text options definitions x rest h =
    let line = line_of options Heading in
    let w = at_first definitions in
    let l = line_parts (inline x rest) h in
    let s = pieces line w None (inline x rest) in
    let c = pieces_all false line w None [] (inline x rest) l.all refl in
    record {
      plain = plain_of_clean s c;
      one_line = clean_line s c;
      whole = heading_whole s (begins_black line w None [] (inline x rest) refl l.no_break l.no_space l.all)
          (ends_ink line w None [] (inline x rest) refl l.no_break_end l.no_space_end l.all)
          (heading_shut line w [] (inline x rest) refl refl l.no_break_end l.no_space_end l.all);
    }

-- what is written of a heading
pub heading_is_text : (options : DocumentOptions) (definitions : List (List ℕ)) (level : ℕ) (xs : Inlines)
    → is_normal_heading level xs ≡ true
    → IsHeading (is_underlined options level xs) (heading_text options definitions level xs)
heading_is_text options definitions level no_inlines h =
    let x : true ≡ false = (heading_parts level no_inlines h).1 in absurd (cc)
heading_is_text options definitions level (inline x rest) h =
    let xs = inline x rest in
    let p = (heading_parts level xs h).2 in
    test (is_underlined options level xs)
    (λ e. rw e (subst IsUnderlinedText (sym (line_is options definitions Paragraph xs))
    (underlined_text options definitions x rest p
    (not-true (has_break xs) (and_parts _ (not (has_break xs)) e).1))))
    (λ e. rw e (subst IsHeadingText (sym (line_is options definitions Heading xs))
    (marked_text options definitions x rest p)))

-- ---- cells

cell_text : (options : DocumentOptions) (definitions : List (List ℕ)) (xs : Inlines) → is_normal_line xs ≡ true
    → IsCellText (pieces (line_of options Cell) (at_first definitions) None xs)
cell_text options definitions no_inlines h = record { plain = refl; one_line = refl; trimmed = tt }
cell_text options definitions (inline x rest) h =
    let line = line_of options Cell in
    let w = at_first definitions in
    let l = line_parts (inline x rest) h in
    let s = pieces line w None (inline x rest) in
    let c = pieces_all false line w None [] (inline x rest) l.all refl in
    record {
      plain = plain_of_clean s c;
      one_line = clean_line s c;
      trimmed = trimmed_by s (begins_black line w None [] (inline x rest) refl l.no_break l.no_space l.all)
          (ends_ink line w None [] (inline x rest) refl l.no_break_end l.no_space_end l.all);
    }

-- what is written of a cell
pub cell_is_text : (options : DocumentOptions) (definitions : List (List ℕ)) (xs : Inlines) → is_normal_line xs
    ≡ true
    → IsCellText (written_line (line_of options Cell) definitions xs).text
cell_is_text options definitions xs h =
    subst IsCellText (sym (line_is options definitions Cell xs)) (cell_text options definitions xs h)
