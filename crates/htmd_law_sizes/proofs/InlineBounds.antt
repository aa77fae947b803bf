-- How much what is written of inlines adds to what was written before.
use Rattle.std.proofs.Common.{◌≡◌, refl, ℕ, suc, ◌+◌, ◌*◌, ◌≤◌, Bool, true, false, List, [], ◌∷◌, ◌++◌, length, arith}
use Rattle.std.proofs.lemmas.List.{length-append}
use Rattle.std.specs.Prelude.{◌&&◌, if◌then◌else◌, codes, Option, Some, None}
use Rattle.htmd_lexical.specs.Characters.{asterisk, tilde, underscore, right_square_bracket}
use Rattle.htmd_markdown.specs.declared.link.LinkStyle.{LinkStyle}
use Rattle.htmd_markdown.specs.declared.link.LinkStyle.TheVariants.{Inlined, InlinedPreferAutolinks, Referenced}
use Rattle.htmd_document.specs.Formats.{Format}
use Rattle.htmd_document.specs.Formats.{Emphasis, Strong, Deleted, Superscript, Subscript, Inserted, Underlined, Marked}
use Rattle.htmd_document.specs.Formats.{Small, Keyboard, Abbreviation, title_of}
use Rattle.htmd_document.specs.Documents.{Inline, Inlines, text, code, formatted, link, image, line_break, task}
use Rattle.htmd_document.specs.Documents.{no_inlines, inline}
use Rattle.htmd_commonmark.specs.declared.inline_ends.Following.{Following}
use Rattle.htmd_document.specs.Documents.{anchor}
use Rattle.htmd_document.specs.Tags as html
use Rattle.htmd_commonmark.specs.declared.line.Line.{Line}
use Rattle.htmd_commonmark.specs.declared.marks.Sides.{Sides}
use Rattle.htmd_commonmark.specs.InlineEnds.{follows}
use Rattle.htmd_commonmark.specs.InlineMarkdown.{ends_in_closing_signs, is_end_of_heading, place_of, written_code}
use Rattle.htmd_commonmark.specs.InlineMarkdown.{written_break, written_task, written_image, is_autolinked, autolink}
use Rattle.htmd_commonmark.specs.InlineMarkdown.{definition, reference_number, with_address, in_link, sides_of, written}
use Rattle.htmd_commonmark.specs.InlineMarkdown.{with_inline, written_line}
use Rattle.htmd_commonmark.specs.Marks.{Mark, fits, row, tags, mark_for}
use Rattle.htmd_commonmark.specs.TextEscapes.{escaped}
use Rattle.htmd_commonmark.specs.WrittenText.{Written, wrote}
use Rattle.htmd_law_sizes.specs.DocumentSizes.{size_of_option, size_of_inline, size_of_inlines}
use Rattle.htmd_law_sizes.proofs.CountsLemmas.{tally, is_break, Cost, tally_append, fixed, within}
use Rattle.htmd_law_sizes.proofs.PieceBounds.{escaped_cost, ended_cost, code_cost, break_cost, task_cost, resource_cost}
use Rattle.htmd_law_sizes.proofs.PieceBounds.{anchor_cost, abbreviation_cost, image_cost, autolink_cost, reference_cost, definition_cost}

-- ---- what was written, and more of it

-- the bytes of lines, and two more for each
abbrev pub lines_size : List (List ℕ) → ℕ
lines_size [] = 0
lines_size (l ∷ ls) = 2 + length l + lines_size ls

pub lines_size_append : (ls ms : List (List ℕ)) → lines_size (ls ++ ms) ≡ lines_size ls + lines_size ms
lines_size_append [] ms = omega arith
lines_size_append (l ∷ ls) ms = omega (arith, lines_size_append ls ms)

-- so many bytes more, and breaks, and bytes of definitions
pub record Grown (w v : Written) (a n d : ℕ) : Type 0 where
  pub long : length v.text ≤ length w.text + a
  pub broken : tally is_break v.text ≤ tally is_break w.text + n
  pub defined : lines_size v.definitions ≤ lines_size w.definitions + d

same : (w : Written) → Grown w w 0 0 0
same w = record { long = omega arith; broken = omega arith; defined = omega arith }

followed : {u v w : Written} {a b n m d e : ℕ} → Grown u v a n d → Grown v w b m e
    → Grown u w (a + b) (n + m) (d + e)
followed {u} {v} {w} g h = record {
  long = omega (arith, g.long, h.long);
  broken = omega (arith, g.broken, h.broken);
  defined = omega (arith, g.defined, h.defined);
}

up_to : {v w : Written} {a b n m d e : ℕ} → Grown v w a n d → a ≤ b → n ≤ m → d ≤ e → Grown v w b m e
up_to g h i j = record {
  long = omega (arith, g.long, h);
  broken = omega (arith, g.broken, i);
  defined = omega (arith, g.defined, j);
}

wrote_grown : (w : Written) (s : List ℕ) {a n : ℕ} → Cost is_break s a n → Grown w (wrote w s) a n 0
wrote_grown w s g = record {
  long = omega (arith, length-append w.text s, g.long);
  broken = omega (arith, tally_append is_break w.text s, g.passing);
  defined = omega arith;
}

-- ---- marks

-- with a title of so many bytes
abbrev IsShort : ℕ → Mark → Type 0
IsShort n m = Cost is_break m.opener (15 + 6 * n) n × Cost is_break m.closer 9 0

choose : (t : Bool) (x y : Mark) → IsShort 0 x → IsShort 0 y → IsShort 0 (if t then x else y)
choose true x y g h = g
choose false x y g h = h

short : (m : Mark) (j k : ℕ) → Cost is_break m.opener j 0 → Cost is_break m.closer k 0 → j ≤ 8 → k ≤ 9
    → IsShort 0 m
short m j k g h i l = (within g (omega (arith, i)) (omega arith), within h l (omega arith))

one_sign : (sign : ℕ) (s : List ℕ) (k : ℕ) → Cost is_break s k 0 → k ≤ 8 → IsShort 0 (row sign s)
one_sign sign s k g h = short (row sign s) k k g g h (omega arith)

mark_short : (format : Format) (s : Sides) → IsShort (length (title_of format)) (mark_for format s)
mark_short Emphasis s =
    choose (fits asterisk s) (row asterisk (codes "*"))
    (if fits underscore s then row underscore (codes "_") else tags (codes "<em>") (codes "</em>"))
    (one_sign asterisk (codes "*") 1 (fixed is_break (codes "*") 1 refl refl) (omega arith))
    (choose (fits underscore s) (row underscore (codes "_")) (tags (codes "<em>") (codes "</em>"))
    (one_sign underscore (codes "_") 1 (fixed is_break (codes "_") 1 refl refl) (omega arith))
    (short (tags (codes "<em>") (codes "</em>")) 4 5 (fixed is_break (codes "<em>") 4 refl refl)
    (fixed is_break (codes "</em>") 5 refl refl) (omega arith) (omega arith)))
mark_short Strong s =
    choose (fits asterisk s) (row asterisk (codes "**"))
    (if fits underscore s then row underscore (codes "__") else tags (codes "<strong>") (codes "</strong>"))
    (one_sign asterisk (codes "**") 2 (fixed is_break (codes "**") 2 refl refl) (omega arith))
    (choose (fits underscore s) (row underscore (codes "__")) (tags (codes "<strong>") (codes "</strong>"))
    (one_sign underscore (codes "__") 2 (fixed is_break (codes "__") 2 refl refl) (omega arith))
    (short (tags (codes "<strong>") (codes "</strong>")) 8 9 (fixed is_break (codes "<strong>") 8 refl refl)
    (fixed is_break (codes "</strong>") 9 refl refl) (omega arith) (omega arith)))
mark_short Deleted s =
    choose (fits tilde s) (row tilde (codes "~~")) (tags (codes "<del>") (codes "</del>"))
    (one_sign tilde (codes "~~") 2 (fixed is_break (codes "~~") 2 refl refl) (omega arith))
    (short (tags (codes "<del>") (codes "</del>")) 5 6 (fixed is_break (codes "<del>") 5 refl refl)
    (fixed is_break (codes "</del>") 6 refl refl) (omega arith) (omega arith))
mark_short Superscript s =
    short (tags (codes "<sup>") (codes "</sup>")) 5 6 (fixed is_break (codes "<sup>") 5 refl refl)
    (fixed is_break (codes "</sup>") 6 refl refl) (omega arith) (omega arith)
mark_short Subscript s =
    short (tags (codes "<sub>") (codes "</sub>")) 5 6 (fixed is_break (codes "<sub>") 5 refl refl)
    (fixed is_break (codes "</sub>") 6 refl refl) (omega arith) (omega arith)
mark_short Inserted s =
    short (tags (codes "<ins>") (codes "</ins>")) 5 6 (fixed is_break (codes "<ins>") 5 refl refl)
    (fixed is_break (codes "</ins>") 6 refl refl) (omega arith) (omega arith)
mark_short Underlined s =
    short (tags (codes "<u>") (codes "</u>")) 3 4 (fixed is_break (codes "<u>") 3 refl refl)
    (fixed is_break (codes "</u>") 4 refl refl) (omega arith) (omega arith)
mark_short Marked s =
    short (tags (codes "<mark>") (codes "</mark>")) 6 7 (fixed is_break (codes "<mark>") 6 refl refl)
    (fixed is_break (codes "</mark>") 7 refl refl) (omega arith) (omega arith)
mark_short Small s =
    short (tags (codes "<small>") (codes "</small>")) 7 8 (fixed is_break (codes "<small>") 7 refl refl)
    (fixed is_break (codes "</small>") 8 refl refl) (omega arith) (omega arith)
mark_short Keyboard s =
    short (tags (codes "<kbd>") (codes "</kbd>")) 5 6 (fixed is_break (codes "<kbd>") 5 refl refl)
    (fixed is_break (codes "</kbd>") 6 refl refl) (omega arith) (omega arith)
mark_short (Abbreviation title) s =
    (abbreviation_cost title, within (fixed is_break (codes "</abbr>") 7 refl refl) (omega arith) (omega arith))

-- ---- links

referred : (w : Written) (address : List ℕ) (name : Option (List ℕ))
    → Grown w (with_address Referenced w address name) 67 0 (75 + 5 * length address + 5 * size_of_option name)
referred w address name =
    let n = suc (length w.definitions) in
    let g = wrote_grown w (reference_number n) (reference_cost n) in
    let d = definition_cost n address name in
    record {
      long = g.long;
      broken = g.broken;
      defined = omega (arith, lines_size_append w.definitions (definition n address name ∷ []), d.long);
    }

addressed : (style : LinkStyle) (w : Written) (address : List ℕ) (name : Option (List ℕ))
    → Grown w (with_address style w address name) (67 + 5 * length address + 5 * size_of_option name)
    (length address + size_of_option name) (75 + 5 * length address + 5 * size_of_option name)
addressed Inlined w address name =
    up_to (wrote_grown w _ (resource_cost address name)) (omega arith) (omega arith) (omega arith)
addressed InlinedPreferAutolinks w address name =
    up_to (wrote_grown w _ (resource_cost address name)) (omega arith) (omega arith) (omega arith)
addressed Referenced w address name = up_to (referred w address name) (omega arith) (omega arith) (omega arith)

-- a link after its text, or an autolink in its place
ended : (t : Bool) (style : LinkStyle) (w v : Written) (address : List ℕ) (name : Option (List ℕ)) {a n d : ℕ}
    → Grown w v a n d
    → Grown w (if t then wrote w (autolink address) else with_address style v address name)
    (a + 67 + 5 * length address + 5 * size_of_option name) (n + length address + size_of_option name)
    (d + 75 + 5 * length address + 5 * size_of_option name)
ended true style w v address name g =
    up_to (wrote_grown w (autolink address) (autolink_cost address)) (omega arith) (omega arith) (omega arith)
ended false style w v address name g =
    up_to (followed g (addressed style v address name)) (omega arith) (omega arith) (omega arith)

-- ---- all of it

mutual
  pub inlines_grown : (line : Line) (w : Written) (closing : Option ℕ) (xs : Inlines)
      → Grown w (written line w closing xs) (68 * size_of_inlines xs) (size_of_inlines xs) (75 * size_of_inlines xs)
  inlines_grown line w closing no_inlines = up_to (same w) (omega arith) (omega arith) (omega arith)
  inlines_grown line w closing (inline x rest) =
      let f = follows line.kind closing rest in
      up_to (followed (inline_grown line w f x) (inlines_grown line (with_inline line w f x) closing rest))
      (omega arith)
      (omega arith) (omega arith)

  inline_grown : (line : Line) (w : Written) (f : Following) (x : Inline)
      → Grown w (with_inline line w f x) (68 * size_of_inline x) (size_of_inline x) (75 * size_of_inline x)
  inline_grown line w f (text s) =
      let t = escaped (place_of line w.text f.after) s in
      up_to
      (wrote_grown w _
      (ended_cost (is_end_of_heading line f && ends_in_closing_signs t)
      (escaped_cost (place_of line w.text f.after) s)))
      (omega arith) (omega arith) (omega arith)
  inline_grown line w f (code s) =
      up_to (wrote_grown w (written_code line s) (code_cost line s)) (omega arith) (omega arith) (omega arith)
  inline_grown line w f (formatted format content) =
      let mark = mark_for format (sides_of line w.text f content) in
      let m = mark_short format (sides_of line w.text f content) in
      let before = wrote w mark.opener in
      let v = written line before (Some mark.sign) content in
      up_to
      (followed (followed (wrote_grown w mark.opener m.0) (inlines_grown line before (Some mark.sign) content))
      (wrote_grown v mark.closer m.1))
      (omega arith) (omega arith) (omega arith)
  inline_grown line w f (link address name content) =
      let before = wrote w (codes "[") in
      let v = written (in_link line) before (Some right_square_bracket) content in
      up_to
      (ended (is_autolinked line address name content) line.link_style w v address name
      (followed (wrote_grown w (codes "[") (fixed is_break (codes "[") 1 refl refl))
      (inlines_grown (in_link line) before (Some right_square_bracket) content)))
      (omega arith) (omega arith) (omega arith)
  inline_grown line w f (image address name description) =
      up_to (wrote_grown w (written_image address name description) (image_cost address name description))
      (omega arith) (omega arith) (omega arith)
  inline_grown line w f (anchor id) =
      up_to (wrote_grown w (html.anchor id) (anchor_cost id)) (omega arith) (omega arith) (omega arith)
  inline_grown line w f line_break =
      up_to (wrote_grown w (written_break line) (break_cost line)) (omega arith) (omega arith) (omega arith)
  inline_grown line w f (task t) =
      up_to (wrote_grown w (written_task t) (task_cost t)) (omega arith) (omega arith) (omega arith)

-- a paragraph, a heading's text or a cell
pub record LineCost (definitions : List (List ℕ)) (w : Written) (n : ℕ) : Type 0 where
  pub cost : Cost is_break w.text (68 * n) n
  pub defined : lines_size w.definitions ≤ lines_size definitions + 75 * n

pub line_cost : (line : Line) (definitions : List (List ℕ)) (xs : Inlines)
    → LineCost definitions (written_line line definitions xs) (size_of_inlines xs)
line_cost line definitions xs =
    let g = inlines_grown line (record { text = []; definitions = definitions }) None xs in
    record {
      cost = record { long = omega (arith, g.long); passing = omega (arith, g.broken) };
      defined = omega (arith, g.defined);
    }
