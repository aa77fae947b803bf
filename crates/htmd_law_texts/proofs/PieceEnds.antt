-- The last character of what is written of inlines, and the first one in any line.
use Rattle.std.proofs.Common.{◌≡◌, ◌∙◌, refl, ap, sym, subst, ℕ, zero, suc, ◌-◌, Bool, true, false, List, [], ◌∷◌, ◌++◌}
use Rattle.std.proofs.Common.{Option, Some, codes, arith}
use Rattle.std.specs.Prelude.{length, ◌==◌, reverse, replicate}
use Rattle.std.specs.List.{list_all}
use Rattle.std.specs.Fmt.{decimal}
use Rattle.std.proofs.lemmas.Bool.{and_parts, or_parts}
use Rattle.std.proofs.lemmas.List.{append-nil}
use Rattle.htmd_lexical.specs.Characters.{grave_accent, is_one_of}
use Rattle.htmd_lexical.specs.CharacterClasses.{first_is}
use Rattle.htmd_text.specs.EscapedPlaces.{with_backslashes}
use Rattle.htmd_document.specs.Formats.{Format}
use Rattle.htmd_document.specs.Documents.{Inline, text, code, formatted, link, image, line_break, task}
use Rattle.htmd_document.specs.Documents.{Inlines, no_inlines, inline}
use Rattle.htmd_markdown.specs.CodeSpans.{meets_delimiter, smallest_unused_len, space_if}
use Rattle.htmd_markdown.specs.declared.link.LinkStyle.{LinkStyle}
use Rattle.htmd_markdown.specs.declared.link.LinkStyle.TheVariants.{Inlined, InlinedPreferAutolinks, Referenced}
use Rattle.htmd_document.specs.Tags as html
use Rattle.htmd_document.specs.Documents.{anchor}
use Rattle.htmd_commonmark.specs.declared.line.Line.{Line}
use Rattle.htmd_commonmark.specs.declared.inline_ends.Following.{Following}
use Rattle.htmd_commonmark.specs.Addresses.{destination, title}
use Rattle.htmd_commonmark.specs.InlineEnds.{follows}
use Rattle.htmd_commonmark.specs.InlineMarkdown.{written, with_inline, sides_of, written_code, needs_tags}
use Rattle.htmd_commonmark.specs.InlineMarkdown.{place_in_tags, place_of_description, written_resource, is_autolinked}
use Rattle.htmd_commonmark.specs.InlineMarkdown.{in_link}
use Rattle.htmd_commonmark.specs.TextEscapes.{escaped}
use Rattle.htmd_commonmark.specs.WrittenText.{Written, wrote}
use Rattle.htmd_commonmark_reading.specs.Characters.{is_space_or_tab, is_white, stripped_end}
use Rattle.htmd_law_blocks.specs.LineTexts.{IsBlack, EndsBlack, IsTrimmed}
use Rattle.htmd_document.specs.NormalInlines as normal
use Rattle.htmd_document.specs.NormalInlines.{is_normal, are_normal, has_none, last_passes, is_break}
use Rattle.htmd_document.specs.NormalInlines.{ends_with_space, ends_in_space, is_text}
use Rattle.htmd_law_inlines.proofs.TextPieces.{test, differs}
use Rattle.htmd_law_texts.proofs.WrittenPieces.{pieces, piece, text_piece, link_end, Row, row_signs, star, stars, score}
use Rattle.htmd_law_texts.proofs.WrittenPieces.{scores, tildes, Tag, opener, closer, em_tag, strong_tag, del_tag}
use Rattle.htmd_law_texts.proofs.WrittenPieces.{sup_tag, sub_tag, ins_tag, u_tag, mark_tag, small_tag, kbd_tag}
use Rattle.htmd_law_texts.proofs.WrittenPieces.{abbr_tag, mark_cases}
use Rattle.htmd_law_texts.proofs.PieceTexts.{text_plain}
use Rattle.htmd_law_texts.proofs.LineStarts.{strip_at}
use Rattle.htmd_law_texts.proofs.PieceFirsts.{no_text}
use mathlib.Core.List.{reverse-cons}

-- ---- ink at the end

-- the last character is no white space
abbrev pub EndsInk : List ℕ → Type 0
EndsInk [] = ⊥
EndsInk (c ∷ []) = is_white c ≡ false
EndsInk (c ∷ d ∷ s) = EndsInk (d ∷ s)

ink_cons : (c : ℕ) (s : List ℕ) → EndsInk s → EndsInk (c ∷ s)
ink_cons c [] h = absurd h
ink_cons c (d ∷ s) h = h

pub ink_append : (s t : List ℕ) → EndsInk t → EndsInk (s ++ t)
ink_append [] t h = h
ink_append (c ∷ s) t h = ink_cons c (s ++ t) (ink_append s t h)

-- the last character, and what stands before it
pub record Last (s : List ℕ) : Type 0 where
  pub front : List ℕ
  pub last : ℕ
  pub is : s ≡ front ++ (last ∷ [])
  pub ink : is_white last ≡ false

pub last_ink : (s : List ℕ) → EndsInk s → Last s
last_ink [] h = absurd h
last_ink (c ∷ []) h = record { front = []; last = c; is = refl; ink = h }
last_ink (c ∷ d ∷ s) h =
    let i = last_ink (d ∷ s) h in record {
      front = c ∷ i.front;
      last = i.last;
      is = ap (λ l. c ∷ l) i.is;
      ink =
          i.ink;
    }

pub strip_ink : (s : List ℕ) → EndsInk s → stripped_end is_white s ≡ s
strip_ink s h =
    let i = last_ink s h in
    ap (stripped_end is_white) i.is ∙ strip_at is_white i.front [] i.last i.ink ∙ sym i.is

ink_blank : (c : ℕ) → is_white c ≡ false → is_space_or_tab c ≡ false
ink_blank c h = (or_parts (is_space_or_tab c) (c == 10) h).0

pub strip_blank : (s : List ℕ) → EndsInk s → stripped_end is_space_or_tab s ≡ s
strip_blank s h =
    let i = last_ink s h in
    ap (stripped_end is_space_or_tab) i.is ∙ strip_at is_space_or_tab i.front [] i.last (ink_blank i.last i.ink)
    ∙ sym i.is

pub ends_black : (s : List ℕ) → EndsInk s → EndsBlack s
ends_black [] h = absurd h
ends_black (c ∷ []) h = ink_blank c h
ends_black (c ∷ d ∷ s) h = ends_black (d ∷ s) h

pub trimmed_by : (s : List ℕ) → IsBlack s → EndsInk s → IsTrimmed s
trimmed_by [] b e = absurd b
trimmed_by (c ∷ s) b e = (b, ends_black (c ∷ s) e)

-- ---- a text's last character

first_of_turned : (d c : ℕ) (r : List ℕ) → first_is 32 ((r ++ (d ∷ [])) ++ (c ∷ []))
    ≡ first_is 32 (r ++ (d ∷ []))
first_of_turned d c [] = refl
first_of_turned d c (x ∷ r) = refl

plain_ink : (c : ℕ) → normal.is_line_byte c ≡ true → (c == 32) ≡ false → is_white c ≡ false
plain_ink c p h = rw (h, differs normal.is_line_byte c 9 p refl, differs normal.is_line_byte c 10 p refl) refl

words_ink : (c : ℕ) (s : List ℕ) → list_all normal.is_line_byte (c ∷ s) ≡ true
    → first_is 32 (reverse (c ∷ s)) ≡ false
    → EndsInk (c ∷ s)
words_ink c [] p h = plain_ink c (and_parts (normal.is_line_byte c) true p).0 h
words_ink c (d ∷ s) p h =
    let e : first_is 32 (reverse (c ∷ d ∷ s)) ≡ first_is 32 (reverse (d ∷ s)) =
    ap (first_is 32) (reverse-cons c (d ∷ s) ∙ ap (λ l. l ++ (c ∷ [])) (reverse-cons d s))
    ∙ first_of_turned d c (reverse s) ∙ ap (first_is 32) (sym (reverse-cons d s)) in
    words_ink d s (and_parts (normal.is_line_byte c) (list_all normal.is_line_byte (d ∷ s)) p).1 (sym e ∙ h)

pub text_ink : (s : List ℕ) → is_text s ≡ true → ends_in_space s ≡ false → EndsInk s
text_ink [] h e = absurd (no_text h)
text_ink (c ∷ s) h e = words_ink c s (text_plain (c ∷ s) h) e

pub marks_ink : (marked : ℕ → Bool) (k : ℕ) (s : List ℕ) → EndsInk s → EndsInk (with_backslashes marked k s)
marks_ink marked k [] h = absurd h
marks_ink marked k (c ∷ []) h = test (marked k) (λ e. rw e h) (λ e. rw e h)
marks_ink marked k (c ∷ d ∷ s) h =
    let i = marks_ink marked (suc k) (d ∷ s) h in
    let t = with_backslashes marked (suc k) (d ∷ s) in
    test (marked k) (λ e. rw e (ink_cons 92 (c ∷ t) (ink_cons c t i))) (λ e. rw e (ink_cons c t i))

-- ---- the last inline

-- what a text's end alone makes true
pub record IsOfEnds (P : List ℕ → Type 0) : Type 1 where
  pub append : (s t : List ℕ) → P t → P (s ++ t)
  pub closers : (c : ℕ) → is_one_of (codes "`>*_~)]") c ≡ true → P (c ∷ [])

row_ends : (P : List ℕ → Type 0) → IsOfEnds P → (r : Row) → P (row_signs r)
row_ends P o star = o.closers 42 refl
row_ends P o stars = o.append (codes "*") (codes "*") (o.closers 42 refl)
row_ends P o score = o.closers 95 refl
row_ends P o scores = o.append (codes "_") (codes "_") (o.closers 95 refl)
row_ends P o tildes = o.append (codes "~") (codes "~") (o.closers 126 refl)

closer_ends : (P : List ℕ → Type 0) → IsOfEnds P → (t : Tag) → P (closer t)
closer_ends P o em_tag = o.append (codes "</em") (codes ">") (o.closers 62 refl)
closer_ends P o strong_tag = o.append (codes "</strong") (codes ">") (o.closers 62 refl)
closer_ends P o del_tag = o.append (codes "</del") (codes ">") (o.closers 62 refl)
closer_ends P o sup_tag = o.append (codes "</sup") (codes ">") (o.closers 62 refl)
closer_ends P o sub_tag = o.append (codes "</sub") (codes ">") (o.closers 62 refl)
closer_ends P o ins_tag = o.append (codes "</ins") (codes ">") (o.closers 62 refl)
closer_ends P o u_tag = o.append (codes "</u") (codes ">") (o.closers 62 refl)
closer_ends P o mark_tag = o.append (codes "</mark") (codes ">") (o.closers 62 refl)
closer_ends P o small_tag = o.append (codes "</small") (codes ">") (o.closers 62 refl)
closer_ends P o kbd_tag = o.append (codes "</kbd") (codes ">") (o.closers 62 refl)
closer_ends P o (abbr_tag title) = o.append (codes "</abbr") (codes ">") (o.closers 62 refl)

end_ends : (P : List ℕ → Type 0) → IsOfEnds P
    → (style : LinkStyle) (n : ℕ) (a : List ℕ) (t : Option (List ℕ))
    → P (link_end style n a t)
end_ends P o Referenced n a t = o.append (codes "][" ++ decimal (suc n)) (codes "]") (o.closers 93 refl)
end_ends P o Inlined n a t = o.append ((codes "](" ++ destination a) ++ title t) (codes ")") (o.closers 41 refl)
end_ends P o InlinedPreferAutolinks n a t =
    o.append ((codes "](" ++ destination a) ++ title t) (codes ")") (o.closers 41 refl)

run_turn : (j : ℕ) → replicate (suc j) grave_accent ≡ replicate j grave_accent ++ (grave_accent ∷ [])
run_turn zero = refl
run_turn (suc j) = ap (λ l. grave_accent ∷ l) (run_turn j)

code_ends : (P : List ℕ → Type 0) → IsOfEnds P → (line : Line) (s : List ℕ) → P (written_code line s)
code_ends P o line s =
    let n = smallest_unused_len s in
    let p = space_if (meets_delimiter s) in
    let x : n ≡ suc (n - 1) = omega arith in
    test (needs_tags line s)
    (λ e. rw e (o.append (codes "<code>" ++ escaped (place_in_tags line) s) (codes "</code>")
    (o.append (codes "</code") (codes ">") (o.closers 62 refl))))
    (λ e. rw e (o.append (((replicate n 96 ++ p) ++ s) ++ p) (replicate n 96)
    (subst P (sym (ap (λ i. replicate i grave_accent) x ∙ run_turn (n - 1)))
    (o.append (replicate (n - 1) 96) (codes "`") (o.closers 96 refl)))))

piece_ends : (P : List ℕ → Type 0) → IsOfEnds P
    → (line : Line) (w : Written) (f : Following) (around : List Format)
    (x : Inline) → is_normal line.in_link around x ≡ true → is_break x ≡ false
    → ((s : List ℕ) → x ≡ text s → P (text_piece line w.text f s)) → P (piece line w f x)
piece_ends P o line w f around (text s) h n t = t s refl
piece_ends P o line w f around (code s) h n t = code_ends P o line s
piece_ends P o line w f around (formatted g content) h n t =
    mark_cases (λ g' m. P (m.opener ++ (pieces line (wrote w m.opener) (Some m.sign) content ++ m.closer)))
    g (sides_of line w.text f content)
    (λ r e. o.append (row_signs r) _ (o.append _ (row_signs r) (row_ends P o r)))
    (λ r i. o.append (opener r) _ (o.append _ (closer r) (closer_ends P o r)))
piece_ends P o line w f around (link a name content) h n t =
    let v = wrote w (codes "[") in
    let i = length (written (in_link line) v (Some 93) content).definitions in
    test (is_autolinked line a name content)
    (λ e. rw e (o.append (codes "<" ++ a) (codes ">") (o.closers 62 refl)))
    (λ e. rw e (o.append (91 ∷ pieces (in_link line) v (Some 93) content) (link_end line.link_style i a name)
    (end_ends P o line.link_style i a name)))
piece_ends P o line w f around (image a name d) h n t =
    o.append (codes "![" ++ escaped place_of_description d) (written_resource a name)
    (o.append ((codes "](" ++ destination a) ++ title name) (codes ")") (o.closers 41 refl))
piece_ends P o line w f around (anchor id) h n t =
    o.append (html.anchor_tag id) html.end_of_anchor (o.append (codes "</a") (codes ">") (o.closers 62 refl))
piece_ends P o line w f around line_break h n t = absurd (cc)
piece_ends P o line w f around (task c) h n t = absurd (cc)

-- the end of all, by the last of them
pub pieces_end : (P : List ℕ → Type 0) → IsOfEnds P → (line : Line) (w : Written) (closing : Option ℕ)
    (around : List Format) (xs : Inlines) → has_none xs ≡ false → last_passes is_break xs ≡ false
    → last_passes ends_with_space xs ≡ false → are_normal line.in_link around xs ≡ true
    → ((so_far s : List ℕ) → is_text s ≡ true → ends_in_space s ≡ false
    → P (text_piece line so_far (record { after = closing; is_last = true }) s))
    → P (pieces line w closing xs)
pieces_end P o line w closing around no_inlines n b e h t = absurd (cc)
pieces_end P o line w closing around (inline x no_inlines) n b e h t =
    let q = (and_parts (is_normal line.in_link around x) _ (and_parts _ true h).0).0 in
    subst P (sym (append-nil (piece line w (follows line.kind closing no_inlines) x)))
    (piece_ends P o line w (follows line.kind closing no_inlines) around x q b
    (λ s z. t w.text s (ap (is_normal line.in_link around) (sym z) ∙ q) (ap ends_with_space (sym z) ∙ e)))
pieces_end P o line w closing around (inline x (inline y rest)) n b e h t =
    let f = follows line.kind closing (inline y rest) in
    let w' = with_inline line w f x in
    o.append (piece line w f x) (pieces line w' closing (inline y rest))
    (pieces_end P o line w' closing around (inline y rest) refl b e
    (and_parts _ (are_normal line.in_link around (inline y rest)) h).1 t)
