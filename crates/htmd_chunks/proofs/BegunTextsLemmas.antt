-- What is written of normal inlines begins with a line that isn't empty.
use Rattle.std.proofs.Common.{◌≡◌, ℕ, zero, suc, ◌<◌, Bool, true, false, not, cond, List, [], ◌∷◌, ◌++◌}
use Rattle.std.proofs.Common.{refl, sym, ap, ◌∙◌, arith, Option, Some, None, codes, eqb-true}
use Rattle.std.specs.Prelude.{◌==◌, ◌&&◌, replicate}
use Rattle.std.specs.List.{list_all}
use Rattle.std.specs.Str.{is_utf8}
use Rattle.std.proofs.lemmas.Bool.{and_parts, not-true}
use Rattle.htmd_lexical.specs.Characters.{right_square_bracket, asterisk, underscore, tilde}
use Rattle.htmd_lexical.specs.CharacterClasses.{is_empty}
use Rattle.htmd_text.specs.EscapedPlaces.{with_backslashes}
use Rattle.htmd_text.specs.Trims.{is_line_feed}
use Rattle.htmd_markdown.specs.CodeSpans.{meets_delimiter, smallest_unused_len, delimited_text, space_if}
use Rattle.htmd_document.specs.Documents.{Inline, text, code, formatted, link, image, anchor, line_break, task}
use Rattle.htmd_document.specs.Documents.{Inlines, no_inlines, inline}
use Rattle.htmd_document.specs.Formats.{Format, Emphasis, Strong, Deleted, Superscript, Subscript, Inserted}
use Rattle.htmd_document.specs.Formats.{Underlined, Marked, Small, Keyboard, Abbreviation}
use Rattle.htmd_document.specs.NormalInlines.{is_line_byte, is_line, is_text, has_double_space, has_none}
use Rattle.htmd_document.specs.NormalInlines.{meets, last_passes, is_break}
use Rattle.htmd_document.specs.NormalInlines.{are_trimmed, are_whole, is_normal, are_normal}
use Rattle.htmd_document.specs.NormalInlines.{is_normal_line, is_normal_item}
use Rattle.htmd_markdown.specs.declared.link.LinkStyle.TheVariants.{Inlined}
use Rattle.htmd_markdown.specs.declared.line_break.BrStyle.{BrStyle}
use Rattle.htmd_commonmark.specs.declared.inline_ends.Following.{Following}
use Rattle.htmd_commonmark.specs.declared.line.Line.{Line}
use Rattle.htmd_commonmark.specs.declared.line.LineKind.{LineKind}
use Rattle.htmd_commonmark.specs.declared.line.LineKind.TheVariants.{Paragraph}
use Rattle.htmd_commonmark.specs.declared.marks.Sides.{Sides}
use Rattle.htmd_commonmark.specs.InlineEnds.{follows}
use Rattle.htmd_commonmark.specs.InlineMarkdown.{written, with_inline, sides_of, place_of, written_code, needs_tags}
use Rattle.htmd_commonmark.specs.InlineMarkdown.{place_in_tags}
use Rattle.htmd_commonmark.specs.InlineMarkdown.{written_resource, written_task}
use Rattle.htmd_commonmark.specs.Marks.{Mark, mark_for, fits, row, tags_of}
use Rattle.htmd_commonmark.specs.TextEscapes.{is_marked, escaped}
use Rattle.htmd_commonmark.specs.WrittenText.{Written, wrote}
use Rattle.htmd_chunks.proofs.SizesLemmas.{begins_well}

-- ---- links are inline, so definitions stay

abbrev pub line_in : LineKind → BrStyle → Bool → Line
line_in kind style in_link = record { kind = kind; br_style = style; link_style = Inlined; in_link = in_link }

abbrev pub at : List ℕ → List (List ℕ) → Written
at t definitions = record { text = t; definitions = definitions }

mutual
  pub inlines-apart : (kind : LineKind) (style : BrStyle) (in_link : Bool) (t : List ℕ) (ds : List (List ℕ))
      (closing : Option ℕ) (xs : Inlines)
      → written (line_in kind style in_link) (at t ds) closing xs
      ≡ at (written (line_in kind style in_link) (at t []) closing xs).text ds
  inlines-apart kind style in_link t ds closing no_inlines = refl
  inlines-apart kind style in_link t ds closing (inline x rest) =
      let line = line_in kind style in_link in
      let f = follows kind closing rest in
      let now = (with_inline line (at t []) f x).text in
      ap (λ (w : Written). written line w closing rest) (inline-apart kind style in_link t ds f x)
      ∙ inlines-apart kind style in_link now ds closing rest
      ∙ ap (λ (w : Written). at (written line w closing rest).text ds)
      (sym (inline-apart kind style in_link t [] f x))

  pub inline-apart : (kind : LineKind) (style : BrStyle) (in_link : Bool) (t : List ℕ) (ds : List (List ℕ))
      (f : Following) (x : Inline)
      → with_inline (line_in kind style in_link) (at t ds) f x
      ≡ at (with_inline (line_in kind style in_link) (at t []) f x).text ds
  inline-apart kind style in_link t ds f (text s) = refl
  inline-apart kind style in_link t ds f (code s) = refl
  inline-apart kind style in_link t ds f (formatted format content) =
      let mark = mark_for format (sides_of (line_in kind style in_link) t f content) in
      ap (λ w. wrote w mark.closer)
      (inlines-apart kind style in_link (t ++ mark.opener) ds (Some mark.sign) content)
  inline-apart kind style in_link t ds f (link address name content) =
      ap (λ w. wrote w (written_resource address name))
      (inlines-apart kind style true (t ++ codes "[") ds (Some right_square_bracket) content)
  inline-apart kind style in_link t ds f (image address name description) = refl
  inline-apart kind style in_link t ds f (anchor id) = refl
  inline-apart kind style in_link t ds f line_break = refl
  inline-apart kind style in_link t ds f (task is_checked) = refl

-- ---- what is begun stays begun

pub begins-append : (s t : List ℕ) → begins_well s ≡ true → begins_well (s ++ t) ≡ true
begins-append [] t well = absurd (cc)
begins-append (b ∷ s) t well = well

mutual
  pub inlines-kept : (kind : LineKind) (style : BrStyle) (in_link : Bool) (w : Written) (closing : Option ℕ)
      (xs : Inlines) → begins_well w.text ≡ true
      → begins_well (written (line_in kind style in_link) w closing xs).text ≡ true
  inlines-kept kind style in_link w closing no_inlines well = well
  inlines-kept kind style in_link w closing (inline x rest) well =
      let line = line_in kind style in_link in
      let f = follows kind closing rest in
      inlines-kept kind style in_link (with_inline line w f x) closing rest
      (inline-kept kind style in_link w f x well)

  inline-kept : (kind : LineKind) (style : BrStyle) (in_link : Bool) (w : Written) (f : Following) (x : Inline)
      → begins_well w.text ≡ true
      → begins_well (with_inline (line_in kind style in_link) w f x).text ≡ true
  inline-kept kind style in_link w f (text s) well = begins-append w.text _ well
  inline-kept kind style in_link w f (code s) well = begins-append w.text _ well
  inline-kept kind style in_link w f (formatted format content) well =
      let mark = mark_for format (sides_of (line_in kind style in_link) w.text f content) in
      begins-append (written (line_in kind style in_link) (wrote w mark.opener) (Some mark.sign) content).text
      mark.closer
      (inlines-kept kind style in_link (wrote w mark.opener) (Some mark.sign) content
      (begins-append w.text mark.opener well))
  inline-kept kind style in_link w f (link address name content) well =
      begins-append
      (written (line_in kind style true) (wrote w (codes "[")) (Some right_square_bracket) content).text
      (written_resource address name)
      (inlines-kept kind style true (wrote w (codes "[")) (Some right_square_bracket) content
      (begins-append w.text (codes "[") well))
  inline-kept kind style in_link w f (image address name description) well = begins-append w.text _ well
  inline-kept kind style in_link w f (anchor id) well = begins-append w.text _ well
  inline-kept kind style in_link w f line_break well = begins-append w.text _ well
  inline-kept kind style in_link w f (task is_checked) well = begins-append w.text _ well

-- ---- texts and codes

line-byte : (b : ℕ) → is_line_byte b ≡ true → not (is_line_feed b) ≡ true
line-byte b e =
    elim (is_line_feed b) as (λ e. is_line_feed b ≡ e → not e ≡ true) [
      | true ↦ λ is. absurd (let bad : is_line_byte b ≡ false = newline b is in let x : true ≡ false = sym e
          ∙ bad in cc)
      | false ↦ λ is. refl
    ] refl
  where
    newline : (b : ℕ) → (b == 10) ≡ true → is_line_byte b ≡ false
    newline b is = ap is_line_byte (eqb-true b 10 is)

-- a text of a normal document
text-begins : (s : List ℕ) → is_text s ≡ true → begins_well s ≡ true
text-begins [] h =
    let some = (and_parts (is_line [] && not (is_empty [])) (not (has_double_space [])) h).0 in
    absurd (let none : false ≡ true = (and_parts (is_line []) (not (is_empty [])) some).1 in cc)
text-begins (b ∷ s) h =
    let line = (and_parts (is_line (b ∷ s)) (not (is_empty (b ∷ s)))
    (and_parts (is_line (b ∷ s) && not (is_empty (b ∷ s))) (not (has_double_space (b ∷ s))) h).0).0 in
    let bytes = (and_parts (is_utf8 (b ∷ s)) (list_all is_line_byte (b ∷ s)) line).1 in
    line-byte b (and_parts (is_line_byte b) (list_all is_line_byte s) bytes).0

pub escaped-begins : (marked : ℕ → Bool) (s : List ℕ) → begins_well s ≡ true
    → begins_well (with_backslashes marked 0 s) ≡ true
escaped-begins marked [] well = absurd (cc)
escaped-begins marked (b ∷ s) well =
    elim (marked 0)
    as (λ e. begins_well (cond e (92 ∷ b ∷ with_backslashes marked 1 s) (b ∷ with_backslashes marked 1 s))
    ≡ true) [
      | true ↦ refl
      | false ↦ well
    ]

pub replicate-begins : (n b : ℕ) → 0 < n → not (is_line_feed b) ≡ true → begins_well (replicate n b) ≡ true
replicate-begins zero b some well = absurd (omega arith)
replicate-begins (suc n) b some well = well

code-begins : (line : Line) (s : List ℕ) → begins_well (written_code line s) ≡ true
code-begins line s =
    let n = smallest_unused_len s in
    let padded = meets_delimiter s in
    elim (needs_tags line s)
    as (λ e. begins_well (cond e (codes "<code>" ++ escaped (place_in_tags line) s ++ codes "</code>")
    (delimited_text padded n s)) ≡ true) [
      | true ↦ refl
      | false ↦
          begins-append (((replicate n 96 ++ space_if padded) ++ s) ++ space_if padded) (replicate n 96)
          (begins-append ((replicate n 96 ++ space_if padded) ++ s) (space_if padded)
          (begins-append (replicate n 96 ++ space_if padded) s
          (begins-append (replicate n 96) (space_if padded)
          (replicate-begins n 96 (omega arith) refl))))
    ]

-- ---- formats

two : (e : Bool) (a b : Mark) → begins_well a.opener ≡ true → begins_well b.opener ≡ true
    → begins_well (cond e a b).opener ≡ true
two true a b first second = first
two false a b first second = second

mark-begins : (format : Format) (s : Sides) → begins_well (mark_for format s).opener ≡ true
mark-begins Emphasis s =
    two (fits asterisk s) (row asterisk (codes "*"))
    (cond (fits underscore s) (row underscore (codes "_")) (tags_of Emphasis)) refl
    (two (fits underscore s) (row underscore (codes "_")) (tags_of Emphasis) refl refl)
mark-begins Strong s =
    two (fits asterisk s) (row asterisk (codes "**"))
    (cond (fits underscore s) (row underscore (codes "__")) (tags_of Strong)) refl
    (two (fits underscore s) (row underscore (codes "__")) (tags_of Strong) refl refl)
mark-begins Deleted s = two (fits tilde s) (row tilde (codes "~~")) (tags_of Deleted) refl refl
mark-begins Superscript s = refl
mark-begins Subscript s = refl
mark-begins Inserted s = refl
mark-begins Underlined s = refl
mark-begins Marked s = refl
mark-begins Small s = refl
mark-begins Keyboard s = refl
mark-begins (Abbreviation title) s = refl

-- ---- the first inline

task-begins : (is_checked : Bool) → begins_well (written_task is_checked) ≡ true
task-begins true = refl
task-begins false = refl

pub first-begins : (style : BrStyle) (f : Following) (x : Inline) → is_break x ≡ false
    → is_normal false [] x ≡ true
    → begins_well (with_inline (line_in Paragraph style false) (at [] []) f x).text ≡ true
first-begins style f (text s) other normal =
    escaped-begins (is_marked (place_of (line_in Paragraph style false) [] f.after) s) s (text-begins s normal)
first-begins style f (code s) other normal = code-begins (line_in Paragraph style false) s
first-begins style f (formatted format content) other normal =
    let line = line_in Paragraph style false in
    let mark = mark_for format (sides_of line [] f content) in
    begins-append (written line (at mark.opener []) (Some mark.sign) content).text mark.closer
    (inlines-kept Paragraph style false (at mark.opener []) (Some mark.sign) content
    (mark-begins format (sides_of line [] f content)))
first-begins style f (link address name content) other normal =
    begins-append (written (line_in Paragraph style true) (at (codes "[") []) (Some right_square_bracket) content).text
    (written_resource address name)
    (inlines-kept Paragraph style true (at (codes "[") []) (Some right_square_bracket) content refl)
first-begins style f (image address name description) other normal = refl
first-begins style f (anchor id) other normal = refl
first-begins style f line_break other normal = absurd (cc)
first-begins style f (task is_checked) other normal = absurd (cc)

-- a line of normal inlines
pub normal-begins : (style : BrStyle) (xs : Inlines) → has_none xs ≡ false → is_normal_line xs ≡ true
    → begins_well (written (line_in Paragraph style false) (at [] []) None xs).text ≡ true
normal-begins style no_inlines some normal = absurd (cc)
normal-begins style (inline x rest) some normal =
    let all = inline x rest in
    let line = line_in Paragraph style false in
    let f = follows Paragraph None rest in
    let p = and_parts (are_whole all) (are_normal false [] all) normal in
    let whole = (and_parts (are_trimmed all && not (is_break x)) (not (last_passes is_break all)) p.0).0 in
    let other = not-true (is_break x) (and_parts (are_trimmed all) (not (is_break x)) whole).1 in
    let first = (and_parts (is_normal false [] x) (meets x rest)
    (and_parts (is_normal false [] x && meets x rest) (are_normal false [] rest) p.1).0).0 in
    inlines-kept Paragraph style false (with_inline line (at [] []) f x) None rest
    (first-begins style f x other first)

-- or of an item
pub item-begins : (style : BrStyle) (xs : Inlines) → has_none xs ≡ false → is_normal_item xs ≡ true
    → begins_well (written (line_in Paragraph style false) (at [] []) None xs).text ≡ true
item-begins style no_inlines some normal = absurd (cc)
item-begins style (inline (task is_checked) rest) some normal =
    inlines-kept Paragraph style false (at (written_task is_checked) []) None rest (task-begins is_checked)
item-begins style (inline (text s) rest) some normal = normal-begins style (inline (text s) rest) some normal
item-begins style (inline (code s) rest) some normal = normal-begins style (inline (code s) rest) some normal
item-begins style (inline (formatted format content) rest) some normal =
    normal-begins style (inline (formatted format content) rest) some normal
item-begins style (inline (link address name content) rest) some normal =
    normal-begins style (inline (link address name content) rest) some normal
item-begins style (inline (image address name description) rest) some normal =
    normal-begins style (inline (image address name description) rest) some normal
item-begins style (inline (anchor id) rest) some normal =
    normal-begins style (inline (anchor id) rest) some normal
item-begins style (inline line_break rest) some normal =
    normal-begins style (inline line_break rest) some normal
