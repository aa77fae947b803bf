-- What is written depends on what was written before only by its end.
use Rattle.std.proofs.Common.{◌≡◌, ◌∙◌, refl, ap, sym, ℕ, suc, Bool, true, false, List, [], ◌∷◌, ◌++◌, Option, Some}
use Rattle.std.proofs.Common.{None, codes, subst, length}
use Rattle.std.specs.Prelude.{not, ◌&&◌, ◌||◌, ◌==◌, if◌then◌else◌, is_none}
use Rattle.std.proofs.lemmas.List.{append_assoc, append-nil}
use Rattle.htmd_lexical.specs.Characters.{is_one_of}
use Rattle.htmd_markdown.specs.declared.link.LinkStyle.{LinkStyle}
use Rattle.htmd_markdown.specs.declared.link.LinkStyle.TheVariants.{Inlined, InlinedPreferAutolinks, Referenced}
use Rattle.htmd_document.specs.Formats.{Format}
use Rattle.htmd_document.specs.Formats.{Emphasis, Strong, Deleted, Superscript, Subscript, Inserted, Underlined, Marked}
use Rattle.htmd_document.specs.Formats.{Small, Keyboard, Abbreviation}
use Rattle.htmd_document.specs.Tags.{escaped_value}
use Rattle.htmd_document.specs.Documents.{Inline, text, code, formatted, link, image, anchor, line_break, task}
use Rattle.htmd_document.specs.Tags as html
use Rattle.htmd_document.specs.Documents.{Inlines, no_inlines, inline}
use Rattle.htmd_commonmark.specs.declared.line.Line.{Line}
use Rattle.htmd_commonmark.specs.declared.inline_ends.Following.{Following}
use Rattle.htmd_commonmark.specs.declared.marks.Sides.{Sides}
use Rattle.htmd_commonmark.specs.CharacterKinds.{is_space, is_word}
use Rattle.htmd_commonmark.specs.WrittenText.{is_one_line, Written, wrote, character_before, is_last_escaped}
use Rattle.htmd_commonmark.specs.TextEscapes.{escaped}
use Rattle.htmd_commonmark.specs.Marks.{Mark, fits, mark_for, can_stand, is_apart_there, is_character, is_sign_there}
use Rattle.htmd_commonmark.specs.Marks.{row, tags}
use Rattle.htmd_commonmark.specs.InlineEnds.{follows}
use Rattle.htmd_commonmark.specs.InlineMarkdown.{written, with_inline, with_text, with_address, is_autolinked, autolink}
use Rattle.htmd_commonmark.specs.InlineMarkdown.{in_link, sides_of, written_code, written_image, written_break}
use Rattle.htmd_commonmark.specs.InlineMarkdown.{written_task, written_resource, reference_number, definition}
use Rattle.htmd_commonmark.specs.InlineMarkdown.{is_end_of_heading, ends_in_closing_signs, with_last_escaped}
use Rattle.htmd_law_inlines.proofs.TextPieces.{test}
use Rattle.htmd_law_inlines.proofs.WrittenPieces.{is_words}

-- ---- ends

-- the same stands before what comes next, whatever was written since
abbrev pub IsSame : List ℕ → List ℕ → Type 0
IsSame s t = (u : List ℕ) → (character_before (s ++ u) ≡ character_before (t ++ u))
    × (is_last_escaped (s ++ u) ≡ is_last_escaped (t ++ u))

pub same_more : (s t u : List ℕ) → IsSame s t → IsSame (s ++ u) (t ++ u)
same_more s t u h v = (
  ap character_before (append_assoc s u v) ∙ (h (u ++ v)).0 ∙ ap character_before (sym (append_assoc t u v)),
  ap is_last_escaped (append_assoc s u v) ∙ (h (u ++ v)).1 ∙ ap is_last_escaped (sym (append_assoc t u v)),
)

-- what stands before marks is the same to them, and it is the same after any sign
pub record AreAlike (s t : List ℕ) : Type 0 where
  pub apart : is_apart_there (character_before s) ≡ is_apart_there (character_before t)
  pub signs : (c : ℕ) → is_one_of (codes "*_~") c ≡ true
      → is_character c (character_before s) ≡ is_character c (character_before t)
  pub bare : (c : ℕ) → is_one_of (codes "*_~") c ≡ true
      → (is_character c (character_before s) && not (is_last_escaped s))
      ≡ (is_character c (character_before t) && not (is_last_escaped t))
  pub more : (h : ℕ) (u : List ℕ) → is_one_of (codes "`*_~<[!\\") h ≡ true
      → IsSame (s ++ (h ∷ u)) (t ++ (h ∷ u))

pub same_alike : (s t : List ℕ) → IsSame s t → AreAlike s t
same_alike s t h =
    let b : character_before s ≡ character_before t =
    ap character_before (sym (append-nil s)) ∙ (h []).0 ∙ ap character_before (append-nil t) in
    let e : is_last_escaped s ≡ is_last_escaped t =
    ap is_last_escaped (sym (append-nil s)) ∙ (h []).1 ∙ ap is_last_escaped (append-nil t) in
    record {
      apart = ap is_apart_there b;
      signs = λ c i. ap (is_character c) b;
      bare = λ c i. ap (λ o. is_character c o && not (is_last_escaped s)) b
          ∙ ap (λ q. is_character c (character_before t) && not q) e;
      more = λ c u i. same_more s t (c ∷ u) h;
    }

-- ---- marks

abbrev stands_by : Option ℕ → Bool → Bool
stands_by None apart = false
stands_by (Some c) apart = not (is_space c) && (is_word c || apart)

stands_so : (inner outer : Option ℕ) → can_stand inner outer ≡ stands_by inner (is_apart_there outer)
stands_so None outer = refl
stands_so (Some c) outer = refl

-- a mark fits by what stands before it, as far as it asks
abbrev fits_by : ℕ → Sides → Bool → Bool → Bool → Bool → Bool
fits_by sign s equal apart there tilde =
    not (equal || s.is_last && is_character sign s.after)
    && (stands_by s.first apart && can_stand s.last s.after)
    && not (if sign == 126 then there || is_sign_there s.after else tilde)
    && not ((sign == 95) && not (apart && is_apart_there s.after))

fits_so : (sign : ℕ) (s : Sides)
    → fits sign s
    ≡ fits_by sign s (is_character sign s.before && not s.is_escaped) (is_apart_there s.before)
    (is_sign_there s.before)
    (is_character 126 s.before)
fits_so sign s =
    ap (λ b. not ((is_character sign s.before && not s.is_escaped) || s.is_last && is_character sign s.after)
    && (b && can_stand s.last s.after)
    && not (if sign == 126 then is_sign_there s.before || is_sign_there s.after else is_character 126 s.before)
    && not ((sign == 95) && not (is_apart_there s.before && is_apart_there s.after))) (stands_so s.first s.before)

there_so : (o : Option ℕ)
    → is_sign_there o ≡ (is_character 42 o || (is_character 95 o || (is_character 126 o || false)))
there_so None = refl
there_so (Some c) = refl

fits_alike : (line : Line) (s t : List ℕ) (f : Following) (content : Inlines) (sign : ℕ)
    → is_one_of (codes "*_~") sign ≡ true → AreAlike s t
    → fits sign (sides_of line s f content) ≡ fits sign (sides_of line t f content)
fits_alike line s t f content sign i a =
    let x = sides_of line s f content in
    let y = sides_of line t f content in
    let equal = is_character sign x.before && not x.is_escaped in
    let there : is_sign_there x.before ≡ is_sign_there y.before =
    there_so x.before
    ∙ ap (λ b. b || (is_character 95 x.before || (is_character 126 x.before || false))) (a.signs 42 refl)
    ∙ ap (λ b. is_character 42 y.before || (b || (is_character 126 x.before || false))) (a.signs 95 refl)
    ∙ ap (λ b. is_character 42 y.before || (is_character 95 y.before || (b || false))) (a.signs 126 refl)
    ∙ sym (there_so y.before) in
    fits_so sign x
    ∙ ap (λ b. fits_by sign y b (is_apart_there x.before) (is_sign_there x.before) (is_character 126 x.before))
    (a.bare sign i)
    ∙ ap (λ b. fits_by sign y (is_character sign y.before && not y.is_escaped) b (is_sign_there x.before)
    (is_character 126 x.before)) a.apart
    ∙ ap (λ b. fits_by sign y (is_character sign y.before && not y.is_escaped) (is_apart_there y.before) b
    (is_character 126 x.before)) there
    ∙ ap (λ b. fits_by sign y (is_character sign y.before && not y.is_escaped) (is_apart_there y.before)
    (is_sign_there y.before) b) (a.signs 126 refl)
    ∙ sym (fits_so sign y)

abbrev either_mark : Bool → Bool → Mark → Mark → Mark → Mark
either_mark first second a b c = if first then a else if second then b else c

mark_alike : (line : Line) (s t : List ℕ) (f : Following) (content : Inlines) (g : Format) → AreAlike s t
    → mark_for g (sides_of line s f content) ≡ mark_for g (sides_of line t f content)
mark_alike line s t f content Emphasis a =
    let last = tags (codes "<em>") (codes "</em>") in
    ap (λ b. either_mark b (fits 95 (sides_of line s f content)) (row 42 (codes "*")) (row 95 (codes "_")) last)
    (fits_alike line s t f content 42 refl a)
    ∙ ap (λ b. either_mark (fits 42 (sides_of line t f content)) b (row 42 (codes "*")) (row 95 (codes "_")) last)
    (fits_alike line s t f content 95 refl a)
mark_alike line s t f content Strong a =
    let last = tags (codes "<strong>") (codes "</strong>") in
    ap (λ b. either_mark b (fits 95 (sides_of line s f content)) (row 42 (codes "**")) (row 95 (codes "__")) last)
    (fits_alike line s t f content 42 refl a)
    ∙ ap (λ b. either_mark (fits 42 (sides_of line t f content)) b (row 42 (codes "**")) (row 95 (codes "__")) last)
    (fits_alike line s t f content 95 refl a)
mark_alike line s t f content Deleted a =
    ap (λ b. if b then row 126 (codes "~~") else tags (codes "<del>") (codes "</del>"))
    (fits_alike line s t f content 126 refl a)
mark_alike line s t f content Superscript a = refl
mark_alike line s t f content Subscript a = refl
mark_alike line s t f content Inserted a = refl
mark_alike line s t f content Underlined a = refl
mark_alike line s t f content Marked a = refl
mark_alike line s t f content Small a = refl
mark_alike line s t f content Keyboard a = refl
mark_alike line s t f content (Abbreviation title) a = refl

-- ---- inlines

-- the same is written after two texts
pub record IsAlikeWritten (w v after other : Written) : Type 0 where
  pub piece : List ℕ
  pub is : after.text ≡ w.text ++ piece
  pub same : other.text ≡ v.text ++ piece
  pub definitions : after.definitions ≡ other.definitions

nothing_alike : (w v : Written) → w.definitions ≡ v.definitions → IsAlikeWritten w v w v
nothing_alike w v e = record {
  piece = [];
  is = sym (append-nil w.text);
  same = sym (append-nil v.text);
  definitions =
      e;
}

piece_alike : (w v : Written) (s : List ℕ) → w.definitions ≡ v.definitions
    → IsAlikeWritten w v (wrote w s) (wrote v s)
piece_alike w v s e = record { piece = s; is = refl; same = refl; definitions = e }

pub then_alike : (w v next other after last : Written) → (p : IsAlikeWritten w v next other)
    → IsAlikeWritten next other after last → IsAlikeWritten w v after last
then_alike w v next other after last p q = record {
  piece = p.piece ++ q.piece;
  is = q.is ∙ ap (λ l. l ++ q.piece) p.is ∙ append_assoc w.text p.piece q.piece;
  same = q.same ∙ ap (λ l. l ++ q.piece) p.same ∙ append_assoc v.text p.piece q.piece;
  definitions = q.definitions;
}

same_after : (w v next other : Written) → (p : IsAlikeWritten w v next other) → IsSame w.text v.text
    → IsSame next.text other.text
same_after w v next other p h =
    subst (λ l. IsSame l other.text) (sym p.is)
    (subst (IsSame (w.text ++ p.piece)) (sym p.same) (same_more w.text v.text p.piece h))

text_alike : (line : Line) (w v : Written) (f : Following) (s : List ℕ)
    → character_before w.text ≡ character_before v.text → w.definitions ≡ v.definitions
    → IsAlikeWritten w v (with_text line w f s) (with_text line v f s)
text_alike line w v f s b e =
    let out = λ (before : Option ℕ). escaped (record {
      begins_line = is_none before && not (is_one_line line.kind);
      in_brackets = line.in_link;
      before = before;
      after = f.after;
    }) s in
    let end = λ (l : List ℕ). if is_end_of_heading line f && ends_in_closing_signs l then with_last_escaped l else
    l in
    record {
      piece = end (out (character_before w.text));
      is = refl;
      same = ap (λ o. v.text ++ end (out o)) (sym b);
      definitions = e;
    }

address_alike : (style : LinkStyle) (w v : Written) (a : List ℕ) (t : Option (List ℕ)) → w.definitions
    ≡ v.definitions
    → IsAlikeWritten w v (with_address style w a t) (with_address style v a t)
address_alike Inlined w v a t e = piece_alike w v (written_resource a t) e
address_alike InlinedPreferAutolinks w v a t e = piece_alike w v (written_resource a t) e
address_alike Referenced w v a t e = record {
  piece = reference_number (suc (length w.definitions));
  is = refl;
  same = ap (λ l. v.text ++ reference_number (suc (length l))) (sym e);
  definitions = ap (λ l. l ++ (definition (suc (length l)) a t ∷ [])) e;
}

-- how a mark begins
pub mark_head : (g : Format) (s : Sides) → (h : ℕ) × ((u : List ℕ) × (((mark_for g s).opener ≡ h ∷ u)
    × (is_one_of (codes "`*_~<[!\\") h ≡ true) × ((h == 91) ≡ false)))
mark_head Emphasis s =
    test (fits 42 s) (λ e. (42, ([], (rw e refl, refl, refl))))
    (λ e. test (fits 95 s) (λ k. (95, ([], (rw (e, k) refl, refl, refl))))
    (λ k. (60, (codes "em>", (rw (e, k) refl, refl, refl)))))
mark_head Strong s =
    test (fits 42 s) (λ e. (42, (codes "*", (rw e refl, refl, refl))))
    (λ e. test (fits 95 s) (λ k. (95, (codes "_", (rw (e, k) refl, refl, refl))))
    (λ k. (60, (codes "strong>", (rw (e, k) refl, refl, refl)))))
mark_head Deleted s =
    test (fits 126 s) (λ e. (126, (codes "~", (rw e refl, refl, refl))))
    (λ e. (60, (codes "del>", (rw e refl, refl, refl))))
mark_head Superscript s = (60, (codes "sup>", (refl, refl, refl)))
mark_head Subscript s = (60, (codes "sub>", (refl, refl, refl)))
mark_head Inserted s = (60, (codes "ins>", (refl, refl, refl)))
mark_head Underlined s = (60, (codes "u>", (refl, refl, refl)))
mark_head Marked s = (60, (codes "mark>", (refl, refl, refl)))
mark_head Small s = (60, (codes "small>", (refl, refl, refl)))
mark_head Keyboard s = (60, (codes "kbd>", (refl, refl, refl)))
mark_head (Abbreviation title) s =
    (60, (codes "abbr title=\"" ++ escaped_value title ++ codes "\">", (refl, refl, refl)))

mutual
  pub alike_all : (line : Line) (w v : Written) (closing : Option ℕ) (xs : Inlines) → IsSame w.text v.text
      → w.definitions ≡ v.definitions → IsAlikeWritten w v (written line w closing xs) (written line v closing xs)
  alike_all line w v closing no_inlines h e = nothing_alike w v e
  alike_all line w v closing (inline x rest) h e =
      let f = follows line.kind closing rest in
      let next = with_inline line w f x in
      let other = with_inline line v f x in
      let b : character_before w.text ≡ character_before v.text =
      ap character_before (sym (append-nil w.text)) ∙ (h []).0 ∙ ap character_before (append-nil v.text) in
      let p = alike_one line w v f x (same_alike w.text v.text h) (λ i. b) e in
      then_alike w v next other (written line next closing rest) (written line other closing rest) p
      (alike_all line next other closing rest (same_after w v next other p h) p.definitions)

  pub alike_one : (line : Line) (w v : Written) (f : Following) (x : Inline) → AreAlike w.text v.text
      → (is_words x ≡ true → character_before w.text ≡ character_before v.text) → w.definitions
      ≡ v.definitions
      → IsAlikeWritten w v (with_inline line w f x) (with_inline line v f x)
  alike_one line w v f (text s) a b e = text_alike line w v f s (b refl) e
  alike_one line w v f (code s) a b e = piece_alike w v (written_code line s) e
  alike_one line w v f (formatted g content) a b e =
      let x = sides_of line w.text f content in
      let m = mark_for g x in
      let h = mark_head g x in
      let next = wrote w m.opener in
      let other = wrote v m.opener in
      let same : IsSame next.text other.text =
      subst (λ l. IsSame (w.text ++ l) (v.text ++ l)) (sym h.1.1.0) (a.more h.0 h.1.0 h.1.1.1) in
      let inner = alike_all line next other (Some m.sign) content same e in
      let after = written line next (Some m.sign) content in
      let last = written line other (Some m.sign) content in
      subst (λ (n : Mark). IsAlikeWritten w v (wrote after m.closer)
      (wrote (written line (wrote v n.opener) (Some n.sign) content) n.closer))
      (mark_alike line w.text v.text f content g a)
      (then_alike w v after last (wrote after m.closer) (wrote last m.closer)
      (then_alike w v next other after last (piece_alike w v m.opener e) inner)
      (piece_alike after last m.closer inner.definitions))
  alike_one line w v f (link b t content) a c e =
      let next = wrote w (codes "[") in
      let other = wrote v (codes "[") in
      let inner = alike_all (in_link line) next other (Some 93) content (a.more 91 [] refl) e in
      let after = written (in_link line) next (Some 93) content in
      let last = written (in_link line) other (Some 93) content in
      test (is_autolinked line b t content)
      (λ q. rw q (piece_alike w v (autolink b) e))
      (λ q. rw q (then_alike w v after last (with_address line.link_style after b t)
      (with_address line.link_style last b t)
      (then_alike w v next other after last (piece_alike w v (codes "[") e) inner)
      (address_alike line.link_style after last b t inner.definitions)))
  alike_one line w v f (image b t s) a c e = piece_alike w v (written_image b t s) e
  alike_one line w v f (anchor id) a c e = piece_alike w v (html.anchor id) e
  alike_one line w v f line_break a c e = piece_alike w v (written_break line) e
  alike_one line w v f (task d) a c e = piece_alike w v (written_task d) e
