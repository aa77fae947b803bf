-- What is written of inlines, as a text that stands after what was written before.
use Rattle.std.proofs.Common.{◌≡◌, ◌∙◌, refl, ap, sym, ℕ, suc, Bool, true, not, List, [], ◌∷◌, ◌++◌, Option, Some, codes}
use Rattle.std.proofs.Common.{append_assoc}
use Rattle.std.specs.Prelude.{length, ◌&&◌, if◌then◌else◌}
use Rattle.std.proofs.lemmas.Bool.{and_parts}
use Rattle.std.proofs.lemmas.List.{append-nil}
use Rattle.htmd_document.specs.Formats.{Format}
use Rattle.htmd_document.specs.Formats.{Emphasis, Strong, Deleted, Superscript, Subscript, Inserted, Underlined, Marked}
use Rattle.htmd_document.specs.Formats.{Small, Keyboard, Abbreviation}
use Rattle.htmd_document.specs.Documents.{Inline, text, code, formatted, link, image, line_break, task}
use Rattle.htmd_document.specs.Documents.{anchor}
use Rattle.htmd_document.specs.Documents.{Inlines, no_inlines, inline}
use Rattle.htmd_markdown.specs.declared.link.LinkStyle.{LinkStyle}
use Rattle.htmd_markdown.specs.declared.link.LinkStyle.TheVariants.{Inlined, InlinedPreferAutolinks, Referenced}
use Rattle.htmd_document.specs.Tags as html
use Rattle.htmd_document.specs.NormalInlines.{is_normal, are_normal, is_text, is_trimmed, has_title, has_none, is_barred}
use Rattle.htmd_document.specs.NormalInlines.{are_whole}
use Rattle.htmd_commonmark.specs.declared.line.Line.{Line}
use Rattle.htmd_commonmark.specs.declared.inline_ends.Following.{Following}
use Rattle.htmd_commonmark.specs.declared.marks.Sides.{Sides}
use Rattle.htmd_commonmark.specs.InlineEnds.{follows}
use Rattle.htmd_commonmark.specs.Marks.{Mark, mark_for, row, tags, fits}
use Rattle.htmd_commonmark.specs.TextEscapes.{escaped}
use Rattle.htmd_commonmark.specs.WrittenText.{Written, wrote}
use Rattle.htmd_commonmark.specs.InlineMarkdown.{written, with_inline, with_address, sides_of, place_of}
use Rattle.htmd_commonmark.specs.InlineMarkdown.{is_end_of_heading, ends_in_closing_signs, with_last_escaped}
use Rattle.htmd_commonmark.specs.InlineMarkdown.{written_code, written_break, written_task, written_image}
use Rattle.htmd_commonmark.specs.InlineMarkdown.{written_resource, reference_number, is_autolinked, autolink, in_link}
use Rattle.htmd_law_inlines.proofs.TextPieces.{test}

-- ---- the text of each inline

abbrev pub text_piece : Line → List ℕ → Following → List ℕ → List ℕ
text_piece line so_far f s =
    let t = escaped (place_of line so_far f.after) s in
    if is_end_of_heading line f && ends_in_closing_signs t then with_last_escaped t else t

-- what ends a link, of which so many definitions were written
abbrev pub link_end : LinkStyle → ℕ → List ℕ → Option (List ℕ) → List ℕ
link_end Referenced n address name = reference_number (suc n)
link_end Inlined n address name = written_resource address name
link_end InlinedPreferAutolinks n address name = written_resource address name

abbrev mutual
  pub pieces : Line → Written → Option ℕ → Inlines → List ℕ
  pieces line w closing no_inlines = []
  pieces line w closing (inline x rest) =
      let f = follows line.kind closing rest in
      piece line w f x ++ pieces line (with_inline line w f x) closing rest

  pub piece : Line → Written → Following → Inline → List ℕ
  piece line w f (text s) = text_piece line w.text f s
  piece line w f (code s) = written_code line s
  piece line w f (formatted format content) =
      let m = mark_for format (sides_of line w.text f content) in
      m.opener ++ (pieces line (wrote w m.opener) (Some m.sign) content ++ m.closer)
  piece line w f (link address name content) =
      if is_autolinked line address name content
      then autolink address
      else 91 ∷ (pieces (in_link line) (wrote w (codes "[")) (Some 93) content
      ++ link_end line.link_style (length (written (in_link line) (wrote w (codes "[")) (Some 93) content).definitions)
      address name)
  piece line w f (image address name description) = written_image address name description
  piece line w f (anchor id) = html.anchor id
  piece line w f line_break = written_break line
  piece line w f (task is_checked) = written_task is_checked

-- ---- it is what is written

address_text : (style : LinkStyle) (w : Written) (address : List ℕ) (name : Option (List ℕ))
    → (with_address style w address name).text ≡ w.text ++ link_end style (length w.definitions) address name
address_text Referenced w address name = refl
address_text Inlined w address name = refl
address_text InlinedPreferAutolinks w address name = refl

mutual
  pub text_is : (line : Line) (w : Written) (closing : Option ℕ) (xs : Inlines)
      → (written line w closing xs).text ≡ w.text ++ pieces line w closing xs
  text_is line w closing no_inlines = sym (append-nil w.text)
  text_is line w closing (inline x rest) =
      let f = follows line.kind closing rest in
      let more = pieces line (with_inline line w f x) closing rest in
      text_is line (with_inline line w f x) closing rest ∙ ap (λ l. l ++ more) (one_text line w f x)
      ∙ append_assoc w.text (piece line w f x) more

  pub one_text : (line : Line) (w : Written) (f : Following) (x : Inline)
      → (with_inline line w f x).text ≡ w.text ++ piece line w f x
  one_text line w f (text s) = refl
  one_text line w f (code s) = refl
  one_text line w f (formatted format content) =
      let m = mark_for format (sides_of line w.text f content) in
      let t = pieces line (wrote w m.opener) (Some m.sign) content in
      ap (λ l. l ++ m.closer) (text_is line (wrote w m.opener) (Some m.sign) content)
      ∙ append_assoc (w.text ++ m.opener) t m.closer ∙ append_assoc w.text m.opener (t ++ m.closer)
  one_text line w f (link address name content) =
      let after = written (in_link line) (wrote w (codes "[")) (Some 93) content in
      let t = pieces (in_link line) (wrote w (codes "[")) (Some 93) content in
      let e = link_end line.link_style (length after.definitions) address name in
      test (is_autolinked line address name content)
      (λ b. rw b refl)
      (λ b. rw b (address_text line.link_style after address name
      ∙ ap (λ l. l ++ e) (text_is (in_link line) (wrote w (codes "[")) (Some 93) content)
      ∙ append_assoc (w.text ++ codes "[") t e ∙ append_assoc w.text (codes "[") (t ++ e)))
  one_text line w f (image address name description) = refl
  one_text line w f (anchor i) = refl
  one_text line w f line_break = refl
  one_text line w f (task is_checked) = refl

-- ---- the marks of formats

-- the rows of signs that are marks
pub data Row : Type 0 where
  star : Row
  stars : Row
  score : Row
  scores : Row
  tildes : Row

abbrev pub row_sign : Row → ℕ
row_sign star = 42
row_sign stars = 42
row_sign score = 95
row_sign scores = 95
row_sign tildes = 126

abbrev pub row_signs : Row → List ℕ
row_signs star = codes "*"
row_signs stars = codes "**"
row_signs score = codes "_"
row_signs scores = codes "__"
row_signs tildes = codes "~~"

abbrev pub row_format : Row → Format
row_format star = Emphasis
row_format stars = Strong
row_format score = Emphasis
row_format scores = Strong
row_format tildes = Deleted

-- the tags that are marks
pub data Tag : Type 0 where
  em_tag : Tag
  strong_tag : Tag
  del_tag : Tag
  sup_tag : Tag
  sub_tag : Tag
  ins_tag : Tag
  u_tag : Tag
  mark_tag : Tag
  small_tag : Tag
  kbd_tag : Tag
  abbr_tag : (title : List ℕ) → Tag

abbrev pub opener : Tag → List ℕ
opener em_tag = codes "<em>"
opener strong_tag = codes "<strong>"
opener del_tag = codes "<del>"
opener sup_tag = codes "<sup>"
opener sub_tag = codes "<sub>"
opener ins_tag = codes "<ins>"
opener u_tag = codes "<u>"
opener mark_tag = codes "<mark>"
opener small_tag = codes "<small>"
opener kbd_tag = codes "<kbd>"
opener (abbr_tag title) = html.abbreviation_tag title

abbrev pub closer : Tag → List ℕ
closer em_tag = codes "</em>"
closer strong_tag = codes "</strong>"
closer del_tag = codes "</del>"
closer sup_tag = codes "</sup>"
closer sub_tag = codes "</sub>"
closer ins_tag = codes "</ins>"
closer u_tag = codes "</u>"
closer mark_tag = codes "</mark>"
closer small_tag = codes "</small>"
closer kbd_tag = codes "</kbd>"
closer (abbr_tag title) = codes "</abbr>"

-- the title of a tag is normal
abbrev pub is_titled : Tag → Bool
is_titled (abbr_tag title) = is_text title && is_trimmed title
is_titled t = true

pub format_title : (in_link : Bool) (around : List Format) (f : Format) (content : Inlines)
    → is_normal in_link around (formatted f content) ≡ true → has_title f ≡ true
format_title in_link around f content h =
    let x = not (is_barred around f) in
    let n = not (has_none content) in
    let p = and_parts (x && has_title f && n && are_whole content) (are_normal in_link (f ∷ around) content) h in
    let q = and_parts (x && has_title f && n) (are_whole content) p.0 in
    (and_parts x (has_title f) (and_parts (x && has_title f) n q.0).0).1

pub mark_cases : (P : Format → Mark → Type 0) (f : Format) (s : Sides)
    → ((r : Row) → fits (row_sign r) s ≡ true → P (row_format r) (row (row_sign r) (row_signs r)))
    → ((t : Tag) → (has_title f ≡ true → is_titled t ≡ true) → P f (tags (opener t) (closer t)))
    → P f (mark_for f s)
mark_cases P Emphasis s x y =
    test (fits 42 s) (λ e. rw e (x star e))
    (λ n. test (fits 95 s) (λ e. rw (n, e) (x score e)) (λ e. rw (n, e) (y em_tag (λ h. refl))))
mark_cases P Strong s x y =
    test (fits 42 s) (λ e. rw e (x stars e))
    (λ n. test (fits 95 s) (λ e. rw (n, e) (x scores e)) (λ e. rw (n, e) (y strong_tag (λ h. refl))))
mark_cases P Deleted s x y = test (fits 126 s) (λ e. rw e (x tildes e)) (λ e. rw e (y del_tag (λ h. refl)))
mark_cases P Superscript s x y = y sup_tag (λ h. refl)
mark_cases P Subscript s x y = y sub_tag (λ h. refl)
mark_cases P Inserted s x y = y ins_tag (λ h. refl)
mark_cases P Underlined s x y = y u_tag (λ h. refl)
mark_cases P Marked s x y = y mark_tag (λ h. refl)
mark_cases P Small s x y = y small_tag (λ h. refl)
mark_cases P Keyboard s x y = y kbd_tag (λ h. refl)
mark_cases P (Abbreviation title) s x y = y (abbr_tag title) (λ h. h)
