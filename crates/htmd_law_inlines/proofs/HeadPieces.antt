-- How what is written of an inline begins, and marks that are rows.
use Rattle.std.proofs.Common.{◌≡◌, ◌∙◌, refl, ap, sym, ℕ, suc, Bool, true, false, List, [], ◌∷◌, ◌++◌, Option, Some}
use Rattle.std.proofs.Common.{None, codes, subst, arith}
use Rattle.std.specs.Prelude.{not, ◌&&◌, ◌||◌, ◌==◌, if◌then◌else◌, replicate}
use Rattle.std.specs.List.{position_or_len, range_with_len}
use Rattle.std.specs.Char.{is_ascii_punctuation}
use Rattle.std.proofs.lemmas.Bool.{not-false, eqb-true, eq-eqb, and_parts, and_from, not-true, or_parts, or_right}
use Rattle.std.proofs.lemmas.List.{append_assoc, append-nil}
use Rattle.std.specs.Str.{IsUtf8}
use Rattle.std.proofs.lemmas.Str.{IsUtf8-append, encodes-append, encode_ascii}
use Rattle.htmd_law_inlines.proofs.RowsRead.{last_of_encodes}
use Rattle.htmd_lexical.specs.Characters.{asterisk, less_than_sign, is_one_of}
use Rattle.htmd_lexical.specs.CharacterClasses.{first_is}
use Rattle.htmd_markdown.specs.Runs.{longest_run, has_run}
use Rattle.htmd_markdown.specs.CodeSpans.{delimited_text, meets_delimiter, smallest_unused_len, space_if}
use Rattle.htmd_markdown.specs.declared.line_break.BrStyle.{BrStyle}
use Rattle.htmd_markdown.specs.declared.line_break.BrStyle.TheVariants.{TwoSpaces, Backslash}
use Rattle.htmd_markdown.specs.LineBreaks as breaks
use Rattle.htmd_document.specs.Formats.{Format}
use Rattle.htmd_document.specs.Documents.{Inline, text, code, formatted, link, image, line_break, task}
use Rattle.htmd_document.specs.Documents.{anchor}
use Rattle.htmd_document.specs.Documents.{Inlines, no_inlines, inline}
use Rattle.htmd_commonmark.specs.declared.line.Line.{Line}
use Rattle.htmd_commonmark.specs.declared.marks.Sides.{Sides}
use Rattle.htmd_commonmark.specs.declared.inline_ends.Following.{Following}
use Rattle.htmd_commonmark.specs.WrittenText.{Written, in_line, is_one_line, character_before, is_last_escaped}
use Rattle.htmd_commonmark.specs.declared.line.LineKind.{LineKind}
use Rattle.htmd_commonmark.specs.CharacterKinds as writer
use Rattle.htmd_commonmark.specs.CharacterKinds.{is_space, is_word}
use Rattle.htmd_commonmark_reading.specs.Characters.{first_character}
use Rattle.htmd_law_inlines.proofs.CharacterPieces.{no_punctuation, no_tildes}
use Rattle.htmd_commonmark.specs.Marks.{can_stand, is_always_tag, is_apart_there, is_character, is_sign_there}
use Rattle.htmd_commonmark.specs.InlineEnds.{first_of, last_of_all}
use Rattle.htmd_commonmark.specs.InlineMarkdown.{written_code, written_break, needs_tags, sides_of}
use Rattle.htmd_commonmark_reading.specs.DelimiterRuns.{may_open, may_close}
use Rattle.htmd_commonmark_reading.specs.Brackets.{kind, Kind}
use Rattle.htmd_document.specs.Formats.{is_same_kind}
use Rattle.htmd_document.proofs.FormatsLemmas.{same-kind}
use Rattle.htmd_document.specs.NormalInlines.{is_code, is_break, is_around, is_barred, last_passes}
use Rattle.htmd_law_inlines.proofs.Pieces.{pushed, pushed_append}
use Rattle.htmd_law_inlines.proofs.TextPieces.{test, differs}
use Rattle.htmd_law_inlines.proofs.ReferencePieces.{one_of, is_small}
use Rattle.htmd_law_inlines.proofs.OpenRuns.{RowFormat, row_format, IsNoneOf, IsSignOf, one, two, tildes}
use Rattle.htmd_law_inlines.proofs.Nested.{row_text, beside_before, beside_after}
use Rattle.htmd_law_inlines.proofs.Flanking.{IsOuter, IsInner, mark_opens}
use Rattle.htmd_law_inlines.proofs.Beside.{outer_before}
use Rattle.htmd_law_inlines.proofs.WalkPieces.{IsGuessed}
use Rattle.htmd_law_inlines.proofs.SoundPieces.{IsSound, last_escaped, is_odd}
use Rattle.htmd_law_inlines.proofs.WrittenPieces.{row_utf8}
use Rattle.htmd_law_inlines.proofs.NextPieces.{is_format, Begins, IsHead, head_begins, Ends, sign_ends, tildes_end}
use Rattle.htmd_law_inlines.proofs.LastPieces.{format_last, IsFitting, mark_scalar}
use lib.Utf8.{encode, encodes, scalar, scalars}

-- ---- heads

other_sign : (h sign : ℕ) → is_one_of (codes "`<[!\\ ") h ≡ true → is_one_of (codes "*_~") sign ≡ true
    → (h == sign) ≡ false
other_sign h sign i j =
    let p = is_one_of (codes "`<[!\\ ") in
    differs p h sign i (not-true (p sign) (one_of (λ c. not (p c)) (codes "*_~") sign j refl))

plain_head : (line : Line) (so_far : List ℕ) (y : Inline) (g h : ℕ) → first_of line.kind y ≡ Some g
    → IsGuessed g h
    → is_one_of (codes "`<[!\\ ") h ≡ true → ((h == 32) ≡ true → (g == 10) ≡ true)
    → (is_break y ≡ false → (g == 10) ≡ false) → (is_code y ≡ false → (h == 96) ≡ false)
    → IsHead line so_far y g h
plain_head line so_far y g h e k i b l n = record {
  guess = e;
  guessed = k;
  blank = b;
  no_line = l;
  no_grave = n;
  no_sign = λ sign j c x. other_sign h sign i j;
  no_tilde = λ sign j c. other_sign h 126 i refl;
}

span_head : (padded : Bool) (n k : ℕ) (s ks : List ℕ) → n ≡ suc k
    → (t : List ℕ) × (delimited_text padded n s ++ ks ≡ 96 ∷ t)
span_head padded n k s ks e = (
  ((((replicate k 96 ++ space_if padded) ++ s) ++ space_if padded) ++ replicate (suc k) 96) ++ ks,
  ap (λ m. delimited_text padded m s ++ ks) e,
)

pub code_begins : (line : Line) (so_far s ks : List ℕ) → Begins line so_far (code s) (written_code line s ++ ks)
code_begins line so_far s ks =
    test (needs_tags line s)
    (λ e. rw e (head_begins line so_far (code s) 96 60 _ refl
    (plain_head line so_far (code s) 96 60 refl (refl, refl, λ x. absurd (cc), λ x. absurd (cc)) refl
    (λ x. absurd (cc)) (λ x. refl) (λ x. refl))))
    (λ e. let k = position_or_len (λ n. not (has_run 96 n s)) (range_with_len 1 (longest_run 96 s)) in
    let n : smallest_unused_len s ≡ suc k = omega arith in
    let v = span_head (meets_delimiter s) (smallest_unused_len s) k s ks n in
    rw e (subst (Begins line so_far (code s)) (sym v.1) (head_begins line so_far (code s) 96 96 v.0 refl
    (plain_head line so_far (code s) 96 96 refl (refl, refl, λ x. absurd (cc), λ x. absurd (cc)) refl
    (λ x. absurd (cc)) (λ x. refl) (λ x. absurd (cc))))))

pub image_begins : (line : Line) (so_far a : List ℕ) (t : Option (List ℕ)) (s rest : List ℕ)
    → Begins line so_far (image a t s) (33 ∷ rest)
image_begins line so_far a t s rest =
    head_begins line so_far (image a t s) 33 33 rest refl
    (plain_head line so_far (image a t s) 33 33 refl (refl, refl, λ x. absurd (cc), λ x. absurd (cc)) refl
    (λ x. absurd (cc)) (λ x. refl) (λ x. refl))

pub anchor_begins : (line : Line) (so_far id rest : List ℕ) → Begins line so_far (anchor id) (60 ∷ rest)
anchor_begins line so_far id rest =
    head_begins line so_far (anchor id) 60 60 rest refl
    (plain_head line so_far (anchor id) 60 60 refl (refl, refl, λ x. absurd (cc), λ x. absurd (cc)) refl
    (λ x. absurd (cc)) (λ x. refl) (λ x. refl))

pub link_begins : (line : Line) (so_far a : List ℕ) (t : Option (List ℕ)) (content : Inlines) (rest : List ℕ)
    → Begins line so_far (link a t content) (91 ∷ rest)
link_begins line so_far a t content rest =
    head_begins line so_far (link a t content) 91 91 rest refl
    (plain_head line so_far (link a t content) 91 91 refl (refl, refl, λ x. absurd (cc), λ x. refl) refl
    (λ x. absurd (cc)) (λ x. refl) (λ x. refl))

pub autolink_begins : (line : Line) (so_far a : List ℕ) (t : Option (List ℕ)) (content : Inlines) (rest : List ℕ)
    → Begins line so_far (link a t content) (60 ∷ rest)
autolink_begins line so_far a t content rest =
    head_begins line so_far (link a t content) 91 60 rest refl
    (plain_head line so_far (link a t content) 91 60 refl (refl, refl, λ x. absurd (cc), λ x. absurd (cc)) refl
    (λ x. absurd (cc)) (λ x. refl) (λ x. refl))

line_begins : (line : Line) (so_far ks : List ℕ) (style : BrStyle) → first_of line.kind line_break ≡ Some 10
    → Begins line so_far line_break (breaks.line_break style ++ ks)
line_begins line so_far ks TwoSpaces e =
    head_begins line so_far line_break 10 32 (32 ∷ 10 ∷ ks) refl
    (plain_head line so_far line_break 10 32 e (refl, refl, λ x. refl, λ x. absurd (cc)) refl
    (λ x. refl) (λ x. absurd (cc)) (λ x. refl))
line_begins line so_far ks Backslash e =
    head_begins line so_far line_break 10 92 (10 ∷ ks) refl
    (plain_head line so_far line_break 10 92 e (refl, refl, λ x. refl, λ x. absurd (cc)) refl
    (λ x. refl) (λ x. absurd (cc)) (λ x. refl))

pub break_begins : (line : Line) (so_far ks : List ℕ) → Begins line so_far line_break (written_break line ++ ks)
break_begins line so_far ks =
    test (is_one_line line.kind)
    (λ e. rw e (head_begins line so_far line_break 60 60 (codes "br>" ++ ks) refl
    (plain_head line so_far line_break 60 60 (rw e refl) (refl, refl, λ x. absurd (cc), λ x. absurd (cc)) refl
    (λ x. absurd (cc)) (λ x. refl) (λ x. refl))))
    (λ e. rw e (line_begins line so_far ks line.br_style (rw e refl)))

-- ---- formats

format_guess : (kind : LineKind) (g : Format) (content : Inlines) → (c : ℕ)
    × ((first_of kind (formatted g content) ≡ Some c) × (is_one_of (codes "*<") c ≡ true))
format_guess kind g content = by_tag (is_always_tag g)
  where
    by_tag : (t : Bool) → (c : ℕ)
        × ((Some (if t then less_than_sign else asterisk) ≡ Some c) × (is_one_of (codes "*<") c ≡ true))
    by_tag true = (60, (refl, refl))
    by_tag false = (42, (refl, refl))

pub tags_begin : (line : Line) (so_far : List ℕ) (g : Format) (content : Inlines) (rest : List ℕ)
    → Begins line so_far (formatted g content) (60 ∷ rest)
tags_begin line so_far g content rest =
    let v = format_guess line.kind g content in
    let n : (v.0 == 10) ≡ false = differs (is_one_of (codes "*<")) v.0 10 v.1.1 refl in
    head_begins line so_far (formatted g content) v.0 60 rest refl
    (plain_head line so_far (formatted g content) v.0 60 v.1.0
    (one_of (is_one_of (codes "`*[]!<\n")) (codes "*<") v.0 v.1.1 refl, refl, λ x. absurd (cc), λ x. absurd (cc)) refl
    (λ x. absurd (cc)) (λ x. n) (λ x. refl))

row_head : (row : RowFormat) (sign : ℕ) (rest : List ℕ)
    → (t : List ℕ) × (row_text row sign ++ rest ≡ sign ∷ t)
row_head one sign rest = (rest, refl)
row_head two sign rest = (sign ∷ rest, refl)
row_head tildes sign rest = (sign ∷ rest, refl)

-- no equal sign stands before a row, nor any other before tildes
pub row_begins : (line : Line) (w : Written) (f : Following) (g : Format) (content : Inlines) (row : RowFormat)
    (sign : ℕ) (rest : List ℕ) → is_one_of (codes "*_~") sign ≡ true
    → IsFitting sign (sides_of line w.text f content)
    → Begins line w.text (formatted g content) (row_text row sign ++ rest)
row_begins line w f g content row sign rest i fit =
    let v = format_guess line.kind g content in
    let t = row_head row sign rest in
    let d = is_one_of (codes "*_~") in
    let n : (v.0 == 10) ≡ false = differs (is_one_of (codes "*<")) v.0 10 v.1.1 refl in
    subst (Begins line w.text (formatted g content)) (sym t.1)
    (head_begins line w.text (formatted g content) v.0 sign t.0 refl (record {
      guess = v.1.0;
      guessed = (
        one_of (is_one_of (codes "`*[]!<\n")) (codes "*<") v.0 v.1.1 refl,
        one_of (is_one_of (codes "`*_~<[]!\\ ")) (codes "*_~") sign i refl,
        λ x. absurd (cc),
        λ x. let y = differs d sign 91 i refl in absurd (cc),
      );
      blank = λ x. let y = differs d sign 32 i refl in absurd (cc);
      no_line = λ x. n;
      no_grave = λ x. differs d sign 96 i refl;
      no_sign = λ own j c x.
          let e : ((own == sign) && not false) ≡ false =
          ap (λ b. (own == sign) && not b) (sym x)
          ∙ ap (λ o. is_character sign o && not (is_last_escaped w.text)) (sym c) ∙ fit.no_equal_before in
          test (sign == own)
          (λ q. let z : ((own == own) && true) ≡ false =
          ap (λ s. (own == s) && true) (sym (eqb-true sign own q)) ∙ e in
          let u = eq-eqb own own refl in
          let y : (true && true) ≡ false = ap (λ b. b && true) (sym u) ∙ z in absurd (cc))
          (λ q. q);
      no_tilde = λ own j c.
          test (sign == 126)
          (λ q. let u : (is_sign_there (character_before w.text) || is_sign_there f.after) ≡ false =
          rw q at fit.undisputed in
          let x = (or_parts (is_sign_there (character_before w.text)) (is_sign_there f.after) u).0 in
          let y : is_one_of (codes "*_~") own ≡ false = ap is_sign_there (sym c) ∙ x in absurd (cc))
          (λ q. q);
    }))

-- ---- rows open and close

-- beside a row are no tildes that it looks past
pub beside_is : (sign : ℕ) (ks : List ℕ) → first_is 126 ks ≡ false → beside_after sign ks
    ≡ first_character ks
beside_is sign ks n = test (sign == 126) (λ q. rw q refl) (λ q. rw q (ap first_character (no_tildes ks n)))

pub sign_is : (sign : ℕ) → is_one_of (codes "*_~") sign ≡ true → kind sign ≡ Kind.sign
sign_is sign i =
    test (sign == 42) (λ e. ap kind (eqb-true sign 42 e))
    (λ n. test (sign == 95) (λ e. ap kind (eqb-true sign 95 e))
    (λ m. let k : ((sign == 126) || false) ≡ true = rw (n, m) at i in
    test (sign == 126) (λ e. ap kind (eqb-true sign 126 e))
    (λ e. let z : false ≡ true = rw e at k in absurd (cc))))

apart_before : (sign : ℕ) (s : Sides) → IsFitting sign s → (sign == 95) ≡ true
    → (is_apart_there s.before ≡ true) × (is_apart_there s.after ≡ true)
apart_before sign s fit e =
    let x : (true && not (is_apart_there s.before && is_apart_there s.after)) ≡ false =
    ap (λ b. b && not (is_apart_there s.before && is_apart_there s.after)) (sym e) ∙ fit.no_word in
    and_parts (is_apart_there s.before) (is_apart_there s.after)
    (not-false (is_apart_there s.before && is_apart_there s.after) x)

pub stands : (o outer : Option ℕ) → can_stand o outer ≡ true → (g : ℕ) × (o ≡ Some g)
stands None outer h = absurd (cc)
stands (Some g) outer h = (g, refl)

pub row_opens : (sign : ℕ) (line : Line) (w : Written) (f : Following) (content : Inlines) (inner : Option ℕ)
    → IsSound w.text → IsFitting sign (sides_of line w.text f content)
    → ((g : ℕ) → (sides_of line w.text f content).first ≡ Some g → IsInner g inner)
    → may_open sign (beside_before sign (pushed w.text [])) inner ≡ true
row_opens sign line w f content inner h fit i =
    let s = sides_of line w.text f content in
    let v = stands s.first s.before fit.opens in
    mark_opens sign v.0 s.before (beside_before sign (pushed w.text [])) inner
    (outer_before sign w.text h.utf8 (λ n.
    let x : is_character 126 (character_before w.text) ≡ false = rw n at fit.undisputed in x))
    (i v.0 v.1)
    (ap (λ o. can_stand o s.before) (sym v.1) ∙ fit.opens)
    (λ e. (apart_before sign s fit e).0)

pub row_closes : (sign : ℕ) (line : Line) (w : Written) (f : Following) (content : Inlines) (inner outer : Option ℕ)
    → IsFitting sign (sides_of line w.text f content) → IsOuter f.after outer
    → ((g : ℕ) → (sides_of line w.text f content).last ≡ Some g → IsInner g inner)
    → may_close sign inner outer ≡ true
row_closes sign line w f content inner outer fit o i =
    let s = sides_of line w.text f content in
    let v = stands s.last s.after fit.closes in
    mark_opens sign v.0 s.after outer inner o (i v.0 v.1)
    (ap (λ o. can_stand o s.after) (sym v.1) ∙ fit.closes)
    (λ e. (apart_before sign s fit e).1)

-- ---- what a row closes

last_format : (xs : Inlines) (g : ℕ) → last_passes is_format xs ≡ true → last_of_all xs ≡ Some g
    → is_ascii_punctuation g ≡ true
last_format no_inlines g h e = absurd (cc)
last_format (inline (text s) no_inlines) g h e = absurd (cc)
last_format (inline (code s) no_inlines) g h e = absurd (cc)
last_format (inline (formatted f content) no_inlines) g h e = format_last f g e
last_format (inline (link a t content) no_inlines) g h e = absurd (cc)
last_format (inline (image a t d) no_inlines) g h e = absurd (cc)
last_format (inline (anchor i) no_inlines) g h e = absurd (cc)
last_format (inline line_break no_inlines) g h e = absurd (cc)
last_format (inline (task d) no_inlines) g h e = absurd (cc)
last_format (inline x (inline y rest)) g h e = last_format (inline y rest) g h e

-- where a format is the last in tildes, what follows them stands apart
apart_after : (o after : Option ℕ) → can_stand o after ≡ true
    → ((g : ℕ) → o ≡ Some g → is_ascii_punctuation g ≡ true)
    → is_apart_there after ≡ true
apart_after None after h k = absurd (cc)
apart_after (Some g) after h k =
    let p = (and_parts (not (is_space g)) (is_word g || is_apart_there after) h).1 in
    let n : is_word g ≡ false =
    test (is_word g) (λ w. let x = no_punctuation g w in let y = k g refl in absurd (cc)) (λ w. w) in
    subst (λ (b : Bool). (b || is_apart_there after) ≡ true) n p

pub row_ends : (line : Line) (w : Written) (f : Following) (content : Inlines) (row : RowFormat) (sign : ℕ)
    (ks : List ℕ) → is_one_of (codes "*_~") sign ≡ true → IsSignOf row sign
    → IsFitting sign (sides_of line w.text f content) → first_is sign ks ≡ false
    → IsOuter f.after (beside_after sign ks)
    → Ends (Some sign) (last_passes is_format content) (row_text row sign ++ ks)
row_ends line w f content one sign ks i s fit n o =
    sign_ends sign (last_passes is_format content) ks (one_of (is_one_of (codes "*_~<]")) (codes "*_~") sign i refl) s
row_ends line w f content two sign ks i s fit n o =
    sign_ends sign (last_passes is_format content) (sign ∷ ks)
    (one_of (is_one_of (codes "*_~<]")) (codes "*_~") sign i refl) s
row_ends line w f content tildes sign ks i s fit n o =
    subst (λ c. Ends (Some c) (last_passes is_format content) (c ∷ c ∷ ks)) (sym s)
    (tildes_end (last_passes is_format content) ks (ap (λ c. first_is c ks) (sym s) ∙ n)
    (λ l. let o' : IsOuter f.after (first_character ks) = subst (λ c. IsOuter f.after (beside_after c ks)) s o in
    o'.apart (apart_after (last_of_all content) f.after fit.closes (λ g e. last_format content g l e))))

-- ---- the text after a row

pub scalars_one_more : (cs : List ℕ) (c : ℕ) → scalars cs ≡ true → scalar c ≡ true
    → scalars (cs ++ (c ∷ [])) ≡ true
scalars_one_more [] c h k = rw k refl
scalars_one_more (d ∷ cs) c h k =
    let p = and_parts (scalar d) (scalars cs) h in
    and_from (scalar d) (scalars (cs ++ (c ∷ []))) p.0 (scalars_one_more cs c p.1 k)

sign_before : (s : List ℕ) (sign : ℕ) → is_one_of (codes "*_~") sign ≡ true → IsUtf8 s
    → character_before (s ++ (sign ∷ [])) ≡ Some sign
sign_before s sign i (cs, (sc, e)) =
    let p = one_of is_ascii_punctuation (codes "*_~") sign i refl in
    let is : encodes (cs ++ (sign ∷ [])) ≡ s ++ (sign ∷ []) =
    encodes-append cs (sign ∷ []) ∙ ap (λ l. l ++ encodes (sign ∷ [])) e
    ∙ ap (λ l. s ++ l) (append-nil (encode sign) ∙ encode_ascii sign (is_small sign p)) in
    ap (λ l. in_line (writer.last_character l)) (sym is)
    ∙ ap in_line (last_of_encodes cs sign (scalars_one_more cs sign sc (mark_scalar sign p)))
    ∙ rw (differs (is_one_of (codes "*_~")) sign 10 i refl) refl

two_before : (s : List ℕ) (sign : ℕ) → is_one_of (codes "*_~") sign ≡ true → IsSound s
    → (character_before (s ++ (sign ∷ sign ∷ [])) ≡ Some sign) ×
    (is_last_escaped (s ++ (sign ∷ sign ∷ [])) ≡ false)
two_before s sign i h =
    let more = append_assoc s (sign ∷ []) (sign ∷ []) in (
      ap character_before (sym more)
          ∙ sign_before (s ++ (sign ∷ [])) sign i (IsUtf8-append s (sign ∷ []) h.utf8 (row_utf8 one sign i)),
      ap is_last_escaped (sym more) ∙ last_escaped (s ++ (sign ∷ [])) sign
          ∙ ap is_odd (pushed_append s (sign ∷ []) [])
          ∙ rw (differs (is_one_of (codes "*_~")) sign 92 i refl) refl,
    )

-- a row's sign stands before what comes next, and no backslash before it
pub row_is_before : (so_far : List ℕ) (row : RowFormat) (sign : ℕ) → is_one_of (codes "*_~") sign ≡ true
    → IsSound so_far
    → (character_before (so_far ++ row_text row sign) ≡ Some sign)
    × (is_last_escaped (so_far ++ row_text row sign) ≡ false)
row_is_before so_far one sign i h = (sign_before so_far sign i h.utf8, last_escaped so_far sign ∙ h.even)
row_is_before so_far two sign i h = two_before so_far sign i h
row_is_before so_far tildes sign i h = two_before so_far sign i h

-- ---- formats around

-- the formats whose marks are rows are among these
abbrev pub AreAround : List RowFormat → List Format → Type 0
AreAround [] formats = Unit {0}
AreAround (r ∷ rows) formats = (is_around formats (row_format r) ≡ true) × AreAround rows formats

pub more_around : (rows : List RowFormat) (formats : List Format) (g : Format) → AreAround rows formats
    → AreAround rows (g ∷ formats)
more_around [] formats g h = tt
more_around (r ∷ rows) formats g h = (
  or_right (is_same_kind g (row_format r)) (is_around formats (row_format r)) h.0,
  more_around rows formats g h.1,
)

pub row_around : (r : RowFormat) (rows : List RowFormat) (formats : List Format) → AreAround rows formats
    → AreAround (r ∷ rows) (row_format r ∷ formats)
row_around r rows formats h = (
  ap (λ b. b || is_around formats (row_format r)) (same-kind (row_format r)),
  more_around rows formats (row_format r) h,
)

pub none_around : (rows : List RowFormat) (formats : List Format) (r : RowFormat) → AreAround rows formats
    → is_around formats (row_format r) ≡ false → IsNoneOf r rows
none_around [] formats r h n = tt
none_around (g ∷ rows) formats r h n = (
  λ e. let x : is_around formats (row_format r) ≡ true = ap (λ q. is_around formats (row_format q)) (sym e)
      ∙ h.0 in
      absurd (cc),
  none_around rows formats r h.1 n,
)

-- a format of rows can't stand in itself alone
pub row_barred : (formats : List Format) (r : RowFormat) → is_barred formats (row_format r)
    ≡ is_around formats (row_format r)
row_barred formats one = refl
row_barred formats two = refl
row_barred formats tildes = refl
