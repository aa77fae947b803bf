-- The first characters of what is written of inlines in a paragraph.
use Rattle.std.proofs.Common.{◌≡◌, ◌∙◌, refl, ap, sym, subst, ℕ, suc, ◌<◌, Bool, true, false, List, [], ◌∷◌, ◌++◌}
use Rattle.std.proofs.Common.{Option, Some, None, codes, append_assoc, arith}
use Rattle.std.specs.Prelude.{◌==◌, ◌&&◌, ◌-◌, not, if◌then◌else◌, slice_get, replicate, reverse, is_none}
use Rattle.std.specs.List.{list_all}
use Rattle.std.specs.Option.{option_or}
use Rattle.std.specs.Str.{IsUtf8}
use Rattle.std.proofs.lemmas.Bool.{and_parts, eqb-true, not-true}
use Rattle.std.proofs.lemmas.Str.{chars-nil, IsUtf8-append}
use Rattle.htmd_lexical.specs.Characters.{asterisk, less_than_sign, is_one_of}
use Rattle.htmd_lexical.specs.CharacterClasses.{is_empty}
use Rattle.htmd_text.specs.EscapedPlaces.{with_backslashes}
use Rattle.htmd_document.specs.Formats.{Format}
use Rattle.htmd_document.specs.Formats.{Deleted}
use Rattle.htmd_document.specs.Documents.{Inline, text, code, formatted, link, image, line_break, task}
use Rattle.htmd_document.specs.Documents.{anchor}
use Rattle.htmd_document.specs.Documents.{Inlines, no_inlines, inline}
use Rattle.htmd_markdown.specs.declared.line_break.BrStyle.{BrStyle}
use Rattle.htmd_markdown.specs.declared.line_break.BrStyle.TheVariants.{TwoSpaces, Backslash}
use Rattle.htmd_markdown.specs.LineBreaks as breaks
use Rattle.htmd_markdown.specs.CodeSpans.{meets_delimiter, smallest_unused_len, space_if}
use Rattle.htmd_commonmark.specs.declared.line.Line.{Line}
use Rattle.htmd_commonmark.specs.declared.inline_ends.Following.{Following}
use Rattle.htmd_commonmark.specs.declared.marks.Sides.{Sides}
use Rattle.htmd_commonmark.specs.declared.text_escape.Place.{Place}
use Rattle.std.specs.Char.{is_ascii_punctuation}
use Rattle.htmd_commonmark.specs.CharacterKinds.{is_word}
use Rattle.htmd_commonmark.specs.CodeSpans.{code_span}
use Rattle.htmd_commonmark.specs.InlineEnds.{follows, last_of, last_after, last_of_all, first_of_format, first_of_break}
use Rattle.htmd_commonmark.specs.InlineMarkdown.{with_inline, sides_of, place_of, written_code, needs_tags}
use Rattle.htmd_commonmark.specs.InlineMarkdown.{written_break, is_autolinked, in_link}
use Rattle.htmd_commonmark.specs.Marks.{is_always_tag, fits, can_stand, meets_equal, is_disputed, is_in_word}
use Rattle.htmd_commonmark.specs.TextEscapes.{is_marked, is_of_word, character_before}
use Rattle.htmd_commonmark.specs.WrittenText as written_text
use Rattle.htmd_commonmark.specs.WrittenText.{Written, wrote, is_one_line, is_heading, is_cell, in_line}
use Rattle.htmd_document.specs.NormalInlines as normal
use Rattle.htmd_document.specs.NormalInlines.{are_whole, last_passes, is_normal, are_normal, is_around, is_barred, are_trimmed}
use Rattle.htmd_document.specs.NormalInlines.{has_none, first_passes, is_break, begins_with_space, meets, may_meet}
use Rattle.htmd_document.specs.NormalInlines.{is_text, is_trimmed, has_title}
use Rattle.htmd_document.specs.Tags as html
use Rattle.htmd_law_inlines.proofs.AnchorPieces.{front_utf8}
use Rattle.htmd_law_inlines.proofs.CharacterPieces.{no_punctuation}
use Rattle.htmd_law_inlines.proofs.TextPieces.{test, differs}
use Rattle.htmd_law_inlines.proofs.TextMarks.{mark_at, marks_all}
use Rattle.htmd_law_texts.proofs.WrittenPieces.{pieces, piece, text_piece, Row, row_sign, row_signs, row_format, star}
use Rattle.htmd_law_texts.proofs.WrittenPieces.{stars, score, scores, tildes, Tag, opener, closer, em_tag, strong_tag}
use Rattle.htmd_law_texts.proofs.WrittenPieces.{del_tag, sup_tag, sub_tag, ins_tag, u_tag, mark_tag, small_tag, kbd_tag}
use Rattle.htmd_law_texts.proofs.WrittenPieces.{abbr_tag, is_titled, mark_cases}
use Rattle.htmd_law_texts.proofs.PieceTexts.{text_plain}
use Rattle.htmd_law_texts.proofs.PieceUtf8.{is_small, small_utf8, before_ascii, row_utf8, text_is_utf8}
use Rattle.htmd_law_texts.proofs.TextStarts.{IsNext, heads}
use Rattle.htmd_law_texts.proofs.InlineStarts.{solid}

-- a paragraph's line
pub record IsParagraph (line : Line) : Type 0 where
  pub no_one_line : is_one_line line.kind ≡ false
  pub no_heading : is_heading line.kind ≡ false
  pub no_cell : is_cell line.kind ≡ false

-- ---- what the writer knows of the ends of a format

pub fits_stand : (sign : ℕ) (s : Sides) → fits sign s ≡ true
    → (can_stand s.first s.before ≡ true) × (can_stand s.last s.after ≡ true)
fits_stand sign s h =
    let x0 = not (meets_equal sign s) in
    let x1 = can_stand s.first s.before && can_stand s.last s.after in
    let x2 = not (is_disputed sign s) in
    let x3 = not (is_in_word sign s) in
    let p = and_parts x0 x1 (and_parts (x0 && x1) x2 (and_parts (x0 && x1 && x2) x3 h).0).0 in
    and_parts (can_stand s.first s.before) (can_stand s.last s.after) p.1

pub fits_first : (line : Line) → IsParagraph line
    → (sign : ℕ) (so_far : List ℕ) (f : Following) (content : Inlines)
    → fits sign (sides_of line so_far f content) ≡ true → first_passes is_break content ≡ false
fits_first line k sign so_far f no_inlines h = refl
fits_first line k sign so_far f (inline line_break rest) h =
    let x = (fits_stand sign (sides_of line so_far f (inline line_break rest)) h).0 in
    let y : false ≡ true = rw k.no_one_line at x in absurd (cc)
fits_first line k sign so_far f (inline (text s) rest) h = refl
fits_first line k sign so_far f (inline (code s) rest) h = refl
fits_first line k sign so_far f (inline (formatted g content) rest) h = refl
fits_first line k sign so_far f (inline (link a t content) rest) h = refl
fits_first line k sign so_far f (inline (image a t d) rest) h = refl
fits_first line k sign so_far f (inline (anchor i) rest) h = refl
fits_first line k sign so_far f (inline (task c) rest) h = refl

-- a break is the last of the inlines, or of those before where there are none
abbrev pub ends_at : Bool → Inlines → Bool
ends_at b no_inlines = b
ends_at b (inline x rest) = ends_at (is_break x) rest

break_last : (x : Inline) → is_break x ≡ true → last_of x ≡ Some 10
break_last line_break h = refl
break_last (text s) h = absurd (cc)
break_last (code s) h = absurd (cc)
break_last (formatted g content) h = absurd (cc)
break_last (link a t content) h = absurd (cc)
break_last (image a t d) h = absurd (cc)
break_last (anchor i) h = absurd (cc)
break_last (task c) h = absurd (cc)

ends_last : (so_far : Option ℕ) (b : Bool) (xs : Inlines) → (b ≡ true → so_far ≡ Some 10) → ends_at b xs
    ≡ true
    → last_after so_far xs ≡ Some 10
ends_last so_far b no_inlines h e = h e
ends_last so_far b (inline x rest) h e = ends_last (last_of x) (is_break x) rest (break_last x) e

pub fits_last : (line : Line) (sign : ℕ) (so_far : List ℕ) (f : Following) (content : Inlines)
    → fits sign (sides_of line so_far f content) ≡ true → ends_at false content ≡ false
fits_last line sign so_far f content h =
    test (ends_at false content)
    (λ e. let x = (fits_stand sign (sides_of line so_far f content) h).1 in
    let l : last_of_all content ≡ Some 10 = ends_last None false content (λ y. absurd (cc)) e in
    let y : can_stand (Some 10) f.after ≡ true = ap (λ o. can_stand o f.after) (sym l) ∙ x in
    absurd (cc))
    (λ e. e)

-- ---- what stands before

before_by : (s u : List ℕ) (c : ℕ) → IsUtf8 s → list_all is_small u ≡ true → c < 128
    → written_text.character_before (s ++ (u ++ (c ∷ []))) ≡ in_line (Some c)
before_by s u c i h l =
    ap written_text.character_before (sym (append_assoc s u (c ∷ [])))
    ∙ before_ascii (s ++ u) c (IsUtf8-append s u i (small_utf8 u h)) l

mark_no_word : (c : ℕ) → is_ascii_punctuation c ≡ true → is_word c ≡ false
mark_no_word c h = test (is_word c) (λ e. let x = no_punctuation c e in absurd (cc)) (λ e. e)

pub row_before : (s : List ℕ) (r : Row) → IsUtf8 s
    → is_of_word (written_text.character_before (s ++ row_signs r)) ≡ false
row_before s star i = ap is_of_word (before_by s [] 42 i refl (omega arith)) ∙ mark_no_word 42 refl
row_before s stars i = ap is_of_word (before_by s (codes "*") 42 i refl (omega arith)) ∙ mark_no_word 42 refl
row_before s score i = ap is_of_word (before_by s [] 95 i refl (omega arith)) ∙ mark_no_word 95 refl
row_before s scores i = ap is_of_word (before_by s (codes "_") 95 i refl (omega arith)) ∙ mark_no_word 95 refl
row_before s tildes i = ap is_of_word (before_by s (codes "~") 126 i refl (omega arith)) ∙ mark_no_word 126 refl

before_titled : (s u : List ℕ) → IsUtf8 s → IsUtf8 u
    → written_text.character_before (s ++ (u ++ codes "\">")) ≡ in_line (Some 62)
before_titled s u i h =
    let e : s ++ (u ++ codes "\">") ≡ (s ++ (u ++ codes "\"")) ++ (62 ∷ []) =
    ap (λ l. s ++ l) (sym (append_assoc u (codes "\"") (62 ∷ [])))
    ∙ sym (append_assoc s (u ++ codes "\"") (62 ∷ [])) in
    ap written_text.character_before e
    ∙ before_ascii (s ++ (u ++ codes "\"")) 62
    (IsUtf8-append s (u ++ codes "\"") i (IsUtf8-append u (codes "\"") h (small_utf8 (codes "\"") refl))) (omega arith)

pub opener_before : (s : List ℕ) (t : Tag) → IsUtf8 s → is_titled t ≡ true
    → is_of_word (written_text.character_before (s ++ opener t)) ≡ false
opener_before s em_tag i h = ap is_of_word (before_by s (codes "<em") 62 i refl (omega arith)) ∙ mark_no_word 62 refl
opener_before s strong_tag i h = ap is_of_word (before_by s (codes "<strong") 62 i refl (omega arith))
    ∙ mark_no_word 62 refl
opener_before s del_tag i h = ap is_of_word (before_by s (codes "<del") 62 i refl (omega arith))
    ∙ mark_no_word 62 refl
opener_before s sup_tag i h = ap is_of_word (before_by s (codes "<sup") 62 i refl (omega arith))
    ∙ mark_no_word 62 refl
opener_before s sub_tag i h = ap is_of_word (before_by s (codes "<sub") 62 i refl (omega arith))
    ∙ mark_no_word 62 refl
opener_before s ins_tag i h = ap is_of_word (before_by s (codes "<ins") 62 i refl (omega arith))
    ∙ mark_no_word 62 refl
opener_before s u_tag i h = ap is_of_word (before_by s (codes "<u") 62 i refl (omega arith)) ∙ mark_no_word 62 refl
opener_before s mark_tag i h = ap is_of_word (before_by s (codes "<mark") 62 i refl (omega arith))
    ∙ mark_no_word 62 refl
opener_before s small_tag i h = ap is_of_word (before_by s (codes "<small") 62 i refl (omega arith))
    ∙ mark_no_word 62 refl
opener_before s kbd_tag i h = ap is_of_word (before_by s (codes "<kbd") 62 i refl (omega arith))
    ∙ mark_no_word 62 refl
opener_before s (abbr_tag title) i h =
    ap is_of_word (before_titled s (codes "<abbr title=\"" ++ html.escaped_value title) i
    (front_utf8 title (text_is_utf8 title (and_parts (is_text title) (is_trimmed title) h).0)))
    ∙ mark_no_word 62 refl

pub break_begins : (s : List ℕ) (style : BrStyle) → IsUtf8 s
    → written_text.begins_line (s ++ breaks.line_break style) ≡ true
break_begins s TwoSpaces i = ap is_none (before_by s (codes "  ") 10 i refl (omega arith))
break_begins s Backslash i = ap is_none (before_by s (codes "\\") 10 i refl (omega arith))

-- ---- codes

pub span_head : (x : ℕ) (s : List ℕ) → (u : List ℕ) × (code_span (x ∷ s) ≡ 96 ∷ u)
span_head x s =
    let n = smallest_unused_len (x ∷ s) in
    let p = space_if (meets_delimiter (x ∷ s)) in
    let e : n ≡ suc (n - 1) = omega arith in (
      (((replicate (n - 1) 96 ++ p) ++ (x ∷ s)) ++ p) ++ replicate n 96,
      ap (λ i. (((replicate i 96 ++ p) ++ (x ∷ s)) ++ p) ++ replicate n 96) e,
    )

-- ---- the first character of each inline

-- a text's first character has a backslash, or is no mark
pub text_first : (line : Line) → IsParagraph line
    → (so_far : List ℕ) (f : Following) (b : ℕ) (t k : List ℕ) (P : List ℕ → Type 0)
    → ((u : List ℕ) → P (92 ∷ u))
    → (mark_at (place_of line so_far f.after) [] b t ≡ false → (u : List ℕ) → P (b ∷ u))
    → P (text_piece line so_far f (b ∷ t) ++ k)
text_first line p so_far f b t k P x y =
    let place = place_of line so_far f.after in
    let marked = is_marked place (b ∷ t) in
    let u = with_backslashes marked 1 t in
    let is : text_piece line so_far f (b ∷ t) ≡ with_backslashes marked 0 (b ∷ t) = rw p.no_heading refl in
    subst (λ l. P (l ++ k)) (sym is)
    (test (marked 0)
    (λ e. let w : with_backslashes marked 0 (b ∷ t) ≡ 92 ∷ b ∷ u = rw e refl in
    subst (λ l. P (l ++ k)) (sym w) (x ((b ∷ u) ++ k)))
    (λ e. let w : with_backslashes marked 0 (b ∷ t) ≡ b ∷ u = rw e refl in
    subst (λ l. P (l ++ k)) (sym w) (y ((marks_all place (b ∷ t)).none_left [] t b refl e) (u ++ k))))

pub no_text : is_text [] ≡ true → ⊥
no_text h = let x = (and_parts _ (not (is_empty [])) (and_parts _ _ h).0).1 in absurd (cc)

-- a code begins with a grave accent or a tag
pub code_first : (line : Line) (s k : List ℕ) (P : List ℕ → Type 0) → is_text s ≡ true
    → ((u : List ℕ) → P (96 ∷ u)) → ((u : List ℕ) → P (60 ∷ u)) → P (written_code line s ++ k)
code_first line [] k P h x y = absurd (no_text h)
code_first line (c ∷ s) k P h x y =
    let w = span_head c s in
    test (needs_tags line (c ∷ s)) (λ e. rw e (y _))
    (λ e. rw e (subst (λ l. P (l ++ k)) (sym w.1) (x (w.0 ++ k))))

pub row_first : (r : Row) (k : List ℕ) (P : List ℕ → Type 0) → ((u : List ℕ) → P (42 ∷ u))
    → ((u : List ℕ) → P (95 ∷ u))
    → ((u : List ℕ) → r ≡ tildes → P (126 ∷ u)) → P (row_signs r ++ k)
row_first star k P x y z = x k
row_first stars k P x y z = x (42 ∷ k)
row_first score k P x y z = y k
row_first scores k P x y z = y (95 ∷ k)
row_first tildes k P x y z = z (126 ∷ k) refl

pub tag_first : (t : Tag) (k : List ℕ) (P : List ℕ → Type 0) → ((u : List ℕ) → P (60 ∷ u))
    → P (opener t ++ k)
tag_first em_tag k P x = x (codes "em>" ++ k)
tag_first strong_tag k P x = x (codes "strong>" ++ k)
tag_first del_tag k P x = x (codes "del>" ++ k)
tag_first sup_tag k P x = x (codes "sup>" ++ k)
tag_first sub_tag k P x = x (codes "sub>" ++ k)
tag_first ins_tag k P x = x (codes "ins>" ++ k)
tag_first u_tag k P x = x (codes "u>" ++ k)
tag_first mark_tag k P x = x (codes "mark>" ++ k)
tag_first small_tag k P x = x (codes "small>" ++ k)
tag_first kbd_tag k P x = x (codes "kbd>" ++ k)
tag_first (abbr_tag title) k P x = x (((codes "abbr title=\"" ++ html.escaped_value title) ++ codes "\">") ++ k)

pub link_first : (line : Line) (w : Written) (f : Following) (a : List ℕ) (t : Option (List ℕ)) (content : Inlines)
    (k : List ℕ) (P : List ℕ → Type 0) → ((u : List ℕ) → P (60 ∷ u)) → ((u : List ℕ) → P (91 ∷ u))
    → P (piece line w f (link a t content) ++ k)
link_first line w f a t content k P x y = test (is_autolinked line a t content) (λ e. rw e (x _)) (λ e. rw e (y _))

-- ---- after a text

abbrev Guessed : ℕ → List ℕ → Type 0
Guessed g s = IsNext (Some g) s

guessed : (g h : ℕ) (u : List ℕ) → is_one_of (codes "`*[]!<_~\n") g ≡ true → (g == 10) ≡ false
    → is_one_of (codes "`*_~<[]!\\") h ≡ true → Guessed g (h ∷ u)
guessed g h u a b c = (a, λ e. let x : true ≡ false = sym e ∙ b in absurd (cc), λ e. c)

guess_format : (g : Format) → (is_one_of (codes "`*[]!<_~\n") (first_of_format g) ≡ true)
    × ((first_of_format g == 10) ≡ false)
guess_format g = by_tag (is_always_tag g)
  where
    by_tag : (t : Bool) → (is_one_of (codes "`*[]!<_~\n") (if t then less_than_sign else asterisk) ≡ true)
        × (((if t then less_than_sign else asterisk) == 10) ≡ false)
    by_tag true = (refl, refl)
    by_tag false = (refl, refl)

break_next : (line : Line) → IsParagraph line → (k : List ℕ) → Guessed 10 (written_break line ++ k)
break_next line p k = rw p.no_one_line (styled line.br_style)
  where
    styled : (style : BrStyle) → Guessed 10 (breaks.line_break style ++ k)
    styled TwoSpaces = (refl, λ e. refl, λ e. absurd (cc))
    styled Backslash = (refl, λ e. refl, λ e. absurd (cc))

-- what is written after a text is what the writer takes it for
pub next_is : (line : Line) → IsParagraph line → (w : Written) (closing : Option ℕ) (around : List Format)
    (s k : List ℕ)
    (rest : Inlines) → meets (text s) rest ≡ true → are_normal line.in_link around rest ≡ true
    → IsNext closing k
    → IsNext (follows line.kind closing rest).after (pieces line w closing rest ++ k)
next_is line p w closing around s k no_inlines m h n = n
next_is line p w closing around s k (inline x rest) m h n =
    subst (IsNext (follows line.kind closing (inline x rest)).after)
    (sym (append_assoc (piece line w (follows line.kind closing rest) x)
    (pieces line (with_inline line w (follows line.kind closing rest) x) closing rest) k))
    (first x (pieces line (with_inline line w (follows line.kind closing rest) x) closing rest ++ k) m
    (and_parts (is_normal line.in_link around x) _ (and_parts _ _ h).0).0)
  where
    f : Following
    f = follows line.kind closing rest

    first : (x : Inline) (k' : List ℕ) → may_meet (text s) x ≡ true → is_normal line.in_link around x ≡ true
        → IsNext (follows line.kind closing (inline x rest)).after
        (piece line w (follows line.kind closing rest) x ++ k')
    first (text t) k' m h = absurd (cc)
    first (code t) k' m h =
        code_first line t k' (Guessed 96) (and_parts (is_text t) _ h).0 (λ u. guessed 96 96 u refl refl refl)
        (λ u. guessed 96 60 u refl refl refl)
    first (formatted g content) k' m h =
        let q = guess_format g in
        let P = λ (s : List ℕ). Guessed (first_of_format g) s in
        mark_cases (λ g' m. P ((m.opener ++ (pieces line (wrote w m.opener) (Some m.sign) content ++ m.closer)) ++ k'))
        g (sides_of line w.text f content)
        (λ r e. let o = row_signs r in
        let y = pieces line (wrote w o) (Some (row_sign r)) content ++ o in
        subst P (sym (append_assoc o y k'))
        (row_first r (y ++ k') P (λ u. guessed (first_of_format g) 42 u q.0 q.1 refl)
        (λ u. guessed (first_of_format g) 95 u q.0 q.1 refl)
        (λ u z. guessed (first_of_format g) 126 u q.0 q.1 refl)))
        (λ r i. let o = opener r in
        let y = pieces line (wrote w o) (Some 60) content ++ closer r in
        subst P (sym (append_assoc o y k'))
        (tag_first r (y ++ k') P (λ u. guessed (first_of_format g) 60 u q.0 q.1 refl)))
    first (link a t content) k' m h =
        link_first line w f a t content k' (Guessed 91) (λ u. guessed 91 60 u refl refl refl)
        (λ u. guessed 91 91 u refl refl refl)
    first (image a t d) k' m h = (refl, λ e. absurd (cc), λ e. refl)
    first (anchor id) k' m h = (refl, λ e. absurd (cc), λ e. refl)
    first line_break k' m h =
        let e : 10 ≡ first_of_break line.kind = rw p.no_one_line refl in
        subst (λ g. Guessed g (written_break line ++ k')) e (break_next line p k')
    first (task c) k' m h = absurd (cc)

-- ---- content of a row of signs

-- a character that is no mark and no white space
solid_text : (place : Place) (b : ℕ) (t u : List ℕ) → is_of_word place.before ≡ false → normal.is_line_byte b
    ≡ true
    → (b == 32) ≡ false → mark_at place [] b t ≡ false → solid (b ∷ u) ≡ true
solid_text place b t u k p n h =
    let not_it : (d : ℕ) → mark_at place [] d t ≡ true → (b == d) ≡ false =
    λ d y. test (b == d)
    (λ z. let v : true ≡ false = sym y ∙ ap (λ c. mark_at place [] c t) (sym (eqb-true b d z))
    ∙ h in absurd (cc))
    (λ z. z) in
    let none : is_of_word (character_before place []) ≡ false =
    ap (λ l. is_of_word (option_or (slice_get (reverse l) 0) place.before)) chars-nil ∙ k in
    rw (
      not_it 42 refl,
      not_it 95 (rw none refl),
      not_it 126 refl,
      n,
      differs normal.is_line_byte b 9 p refl,
      differs normal.is_line_byte b 10 p refl,
    ) refl

abbrev IsSolid : List ℕ → Type 0
IsSolid s = solid s ≡ true

solid_row : (r : Row) (u : List ℕ) → IsSolid u → IsSolid (row_signs r ++ u)
solid_row star u h = h
solid_row stars u h = h
solid_row score u h = h
solid_row scores u h = h
solid_row tildes u h = h

pub trimmed_first : (xs : Inlines) → are_trimmed xs ≡ true → first_passes begins_with_space xs ≡ false
trimmed_first xs h = not-true (first_passes begins_with_space xs)
    (and_parts (not (first_passes begins_with_space xs)) _ h).0

pub format_parts : (in_link : Bool) (around : List Format) (g : Format) (content : Inlines)
    → is_normal in_link around (formatted g content) ≡ true
    → (is_barred around g ≡ false) × (has_none content ≡ false) × (are_trimmed content ≡ true)
    × (are_normal in_link (g ∷ around) content ≡ true) × (first_passes is_break content ≡ false)
format_parts in_link around g content h =
    let x0 = not (is_barred around g) in
    let x1 = not (has_none content) in
    let x2 = not (first_passes is_break content) in
    let p = and_parts (x0 && has_title g && x1 && are_whole content) (are_normal in_link (g ∷ around) content) h in
    let q = and_parts (x0 && has_title g && x1) (are_whole content) p.0 in
    let r = and_parts (x0 && has_title g) x1 q.0 in
    let s = (and_parts (are_trimmed content && x2) (not (last_passes is_break content)) q.1).0 in
    let t = and_parts (are_trimmed content) x2 s in (
      not-true (is_barred around g) (and_parts x0 (has_title g) r.0).0,
      not-true (has_none content) r.1,
      t.0,
      p.1,
      not-true (first_passes is_break content) t.1,
    )

mutual
  pub solid_pieces : (line : Line) → IsParagraph line → (w : Written) (closing : Option ℕ) (around : List Format)
      (xs : Inlines) (k : List ℕ) → IsUtf8 w.text → is_of_word (written_text.character_before w.text) ≡ false
      → has_none xs ≡ false → first_passes is_break xs ≡ false → first_passes begins_with_space xs ≡ false
      → are_normal line.in_link around xs ≡ true → IsSolid (pieces line w closing xs ++ k)
  solid_pieces line p w closing around no_inlines k u b n f s h = absurd (cc)
  solid_pieces line p w closing around (inline x rest) k u b n f s h =
      let g = follows line.kind closing rest in
      let more = pieces line (with_inline line w g x) closing rest in
      subst IsSolid (sym (append_assoc (piece line w g x) more k))
      (solid_piece line p w g around x (more ++ k) u b f s
      (and_parts (is_normal line.in_link around x) _ (and_parts _ (are_normal line.in_link around rest) h).0).0)

  solid_piece : (line : Line) → IsParagraph line → (w : Written) (f : Following) (around : List Format) (x : Inline)
      (k : List ℕ) → IsUtf8 w.text → is_of_word (written_text.character_before w.text) ≡ false
      → is_break x ≡ false → begins_with_space x ≡ false → is_normal line.in_link around x ≡ true
      → IsSolid (piece line w f x ++ k)
  solid_piece line p w f around (text []) k u b n s h = absurd (no_text h)
  solid_piece line p w f around (text (c ∷ t)) k u b n s h =
      text_first line p w.text f c t k IsSolid (λ u. refl)
      (λ m u. solid_text (place_of line w.text f.after) c t u b
      (and_parts (normal.is_line_byte c) (list_all normal.is_line_byte t) (text_plain (c ∷ t) h)).0 s m)
  solid_piece line p w f around (code t) k u b n s h =
      code_first line t k IsSolid (and_parts (is_text t) _ h).0 (λ u. refl) (λ u. refl)
  solid_piece line p w f around (formatted g content) k u b n s h =
      let q = format_parts line.in_link around g content h in
      mark_cases (λ g' m. IsSolid ((m.opener ++ (pieces line (wrote w m.opener) (Some m.sign) content ++ m.closer))
      ++ k))
      g (sides_of line w.text f content)
      (λ r e. let o = row_signs r in
      let y = pieces line (wrote w o) (Some (row_sign r)) content in
      subst IsSolid (sym (append_assoc o (y ++ o) k))
      (solid_row r ((y ++ o) ++ k)
      (subst IsSolid (sym (append_assoc y o k))
      (solid_pieces line p (wrote w o) (Some (row_sign r)) (g ∷ around) content (o ++ k)
      (IsUtf8-append w.text o u (row_utf8 r)) (row_before w.text r u) q.1
      (fits_first line p (row_sign r) w.text f content e) (trimmed_first content q.2) q.3))))
      (λ r i. let o = opener r in
      let y = pieces line (wrote w o) (Some 60) content ++ closer r in
      subst IsSolid (sym (append_assoc o y k)) (tag_first r (y ++ k) IsSolid (λ u. refl)))
  solid_piece line p w f around (link a t content) k u b n s h =
      link_first line w f a t content k IsSolid (λ u. refl) (λ u. refl)
  solid_piece line p w f around (image a t d) k u b n s h = refl
  solid_piece line p w f around (anchor i) k u b n s h = refl
  solid_piece line p w f around line_break k u b n s h = absurd (cc)
  solid_piece line p w f around (task c) k u b n s h = absurd (cc)

-- ---- content of tildes

abbrev NoTilde : List ℕ → Type 0
NoTilde s = heads (λ c. c == 126) s ≡ false

text_no_tilde : (place : Place) (b : ℕ) (t u : List ℕ) → mark_at place [] b t ≡ false → NoTilde (b ∷ u)
text_no_tilde place b t u h =
    test (b == 126)
    (λ z. let v : true ≡ false = ap (λ c. mark_at place [] c t) (sym (eqb-true b 126 z)) ∙ h in absurd (cc))
    (λ z. z)

pub no_tilde_pieces : (line : Line) → IsParagraph line → (w : Written) (closing : Option ℕ) (around : List Format)
    (xs : Inlines) (k : List ℕ) → is_around around Deleted ≡ true → has_none xs ≡ false
    → first_passes is_break xs ≡ false
    → are_normal line.in_link around xs ≡ true → NoTilde (pieces line w closing xs ++ k)
no_tilde_pieces line p w closing around no_inlines k d n f h = absurd (cc)
no_tilde_pieces line p w closing around (inline x rest) k d n f h =
    let g = follows line.kind closing rest in
    let more = pieces line (with_inline line w g x) closing rest in
    subst NoTilde (sym (append_assoc (piece line w g x) more k))
    (one g x (more ++ k) f
    (and_parts (is_normal line.in_link around x) _ (and_parts _ (are_normal line.in_link around rest) h).0).0)
  where
    one : (f : Following) (x : Inline) (k : List ℕ) → is_break x ≡ false → is_normal line.in_link around x
        ≡ true → NoTilde (piece line w f x ++ k)
    one f (text []) k n h = absurd (no_text h)
    one f (text (c ∷ t)) k n h =
        text_first line p w.text f c t k NoTilde (λ u. refl)
        (λ m u. text_no_tilde (place_of line w.text f.after) c t u m)
    one f (code t) k n h =
        code_first line t k NoTilde (and_parts (is_text t) _ h).0 (λ u. refl) (λ u. refl)
    one f (formatted g content) k n h =
        mark_cases (λ g' m. is_barred around g' ≡ false
        → NoTilde ((m.opener ++ (pieces line (wrote w m.opener) (Some m.sign) content ++ m.closer)) ++ k))
        g (sides_of line w.text f content)
        (λ r e a. let o = row_signs r in
        let y = pieces line (wrote w o) (Some (row_sign r)) content ++ o in
        subst NoTilde (sym (append_assoc o y k))
        (row_first r (y ++ k) NoTilde (λ u. refl) (λ u. refl)
        (λ u z. let v : true ≡ false = sym d ∙ ap (λ r. is_barred around (row_format r)) (sym z)
        ∙ a in absurd (cc))))
        (λ r i a. let o = opener r in
        let y = pieces line (wrote w o) (Some 60) content ++ closer r in
        subst NoTilde (sym (append_assoc o y k)) (tag_first r (y ++ k) NoTilde (λ u. refl)))
        (format_parts line.in_link around g content h).0
    one f (link a t content) k n h = link_first line w f a t content k NoTilde (λ u. refl) (λ u. refl)
    one f (image a t d) k n h = refl
    one f (anchor i) k n h = refl
    one f line_break k n h = absurd (cc)
    one f (task c) k n h = absurd (cc)
