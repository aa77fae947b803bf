-- What is written of inlines, from left to right (CommonMark 0.31.2, 6).
use Rattle.std.specs.Prelude.{ℕ, suc, ◌-◌, Bool, false, true, not, ◌&&◌, ◌||◌, ◌==◌, nat_eq, nat_lt, if◌then◌else◌}
use Rattle.std.specs.Prelude.{List}
use Rattle.std.specs.Prelude.{[], ◌∷◌, ◌++◌, length, take, slice_index, Option, Some, None, is_none, codes}
use Rattle.std.specs.Fmt.{decimal}
use Rattle.std.specs.List.{starts_with, suffix_len}
use Rattle.std.specs.Str.{bytes_eq}
use Rattle.htmd_lexical.specs.Characters.{space, number_sign, less_than_sign, greater_than_sign, left_square_bracket}
use Rattle.htmd_lexical.specs.Characters.{right_square_bracket}
use Rattle.htmd_markdown.specs.declared.link.LinkStyle.{LinkStyle}
use Rattle.htmd_markdown.specs.declared.link.LinkStyle.TheVariants.{InlinedPreferAutolinks, Referenced}
use Rattle.htmd_markdown.specs.LineBreaks as breaks
use Rattle.htmd_document.specs.Documents.{Inline, text, code, formatted, link, image, anchor}
use Rattle.htmd_document.specs.Documents.{line_break, task}
use Rattle.htmd_document.specs.Documents.{Inlines, no_inlines, inline}
use Rattle.htmd_document.specs.Tags as tags
use Rattle.htmd_commonmark.specs.declared.line.Line.{Line}
use Rattle.htmd_commonmark.specs.declared.inline_ends.Following.{Following}
use Rattle.htmd_commonmark.specs.declared.marks.Sides.{Sides}
use Rattle.htmd_commonmark.specs.Addresses.{destination, title, is_autolink}
use Rattle.htmd_commonmark.specs.CodeSpans.{code_span}
use Rattle.htmd_commonmark.specs.InlineEnds.{first_of_all, last_of_all, follows}
use Rattle.htmd_commonmark.specs.Marks.{Mark, mark_for}
use Rattle.htmd_commonmark.specs.TextEscapes.{Place, escaped}
use Rattle.htmd_commonmark.specs.WrittenText.{Written, wrote, is_one_line, is_heading, is_cell, character_before}
use Rattle.htmd_commonmark.specs.WrittenText.{begins_line, is_last_escaped}

-- ---- texts

abbrev pub is_number_sign : ℕ → Bool
is_number_sign b = b == number_sign

-- number signs end the text, after a space or alone: a reader cuts them off the end of a heading (4.2)
abbrev pub ends_in_closing_signs : List ℕ → Bool
ends_in_closing_signs s =
    let signs = suffix_len is_number_sign s in
    nat_lt 0 signs && ((signs == length s) || (slice_index s (length s - signs - 1) == space))

-- with a backslash before the last sign
abbrev pub with_last_escaped : List ℕ → List ℕ
with_last_escaped s = take (length s - 1) s ++ codes "\\#"

-- the end of a heading
abbrev pub is_end_of_heading : Line → Following → Bool
is_end_of_heading line f = is_heading line.kind && f.is_last && is_none f.after

-- where a text stands
abbrev pub place_of : Line → List ℕ → Option ℕ → Place
place_of line so_far after = record {
  begins_line = begins_line so_far && not (is_one_line line.kind);
  in_brackets = line.in_link;
  before = character_before so_far;
  after = after;
}

abbrev pub with_text : Line → Written → Following → List ℕ → Written
with_text line w f s =
    let written = escaped (place_of line w.text f.after) s in
    wrote w (if is_end_of_heading line f && ends_in_closing_signs written then with_last_escaped written else written)

-- ---- code

-- these signs stand in the text
abbrev pub holds : List ℕ → List ℕ → Bool
holds signs [] = false
holds signs (b ∷ s) = starts_with nat_eq (b ∷ s) signs || holds signs s

-- in a cell `\|` would end the cell, and in a link `]:` could make the paragraph a definition
abbrev pub needs_tags : Line → List ℕ → Bool
needs_tags line s = is_cell line.kind && holds (codes "\\|") s || line.in_link && holds (codes "]:") s

-- between tags a code is a text
abbrev pub place_in_tags : Line → Place
place_in_tags line = record {
  begins_line = false;
  in_brackets = line.in_link;
  before = Some greater_than_sign;
  after = Some less_than_sign;
}

abbrev pub written_code : Line → List ℕ → List ℕ
written_code line s =
    if needs_tags line s then codes "<code>" ++ escaped (place_in_tags line) s ++ codes "</code>" else code_span s

-- ---- breaks, tasks, images

abbrev pub written_break : Line → List ℕ
written_break line = if is_one_line line.kind then codes "<br>" else breaks.line_break line.br_style

abbrev pub written_task : Bool → List ℕ
written_task is_checked = if is_checked then codes "[x]" else codes "[ ]"

-- an address and a title in parentheses, after a bracket
abbrev pub written_resource : List ℕ → Option (List ℕ) → List ℕ
written_resource address name = codes "](" ++ destination address ++ title name ++ codes ")"

abbrev pub place_of_description : Place
place_of_description = record {
  begins_line = false;
  in_brackets = true;
  before = Some left_square_bracket;
  after = Some right_square_bracket;
}

abbrev pub written_image : List ℕ → Option (List ℕ) → List ℕ → List ℕ
written_image address name description =
    codes "![" ++ escaped place_of_description description ++ written_resource address name

-- ---- links

-- the text of the link is its address
abbrev pub is_text : List ℕ → Inline → Bool
is_text address (text s) = bytes_eq s address
is_text address _ = false

abbrev pub is_text_alone : List ℕ → Inlines → Bool
is_text_alone address (inline x no_inlines) = is_text address x
is_text_alone address _ = false

abbrev pub prefers_autolinks : LinkStyle → Bool
prefers_autolinks InlinedPreferAutolinks = true
prefers_autolinks _ = false

-- the link is written as an autolink, which has no title (6.5)
abbrev pub is_autolinked : Line → List ℕ → Option (List ℕ) → Inlines → Bool
is_autolinked line address name content =
    prefers_autolinks line.link_style && is_none name && is_text_alone address content && is_autolink address
    && not (is_cell line.kind)

abbrev pub autolink : List ℕ → List ℕ
autolink address = codes "<" ++ address ++ codes ">"

-- the line that defines the address and the title of the reference with this number (4.7)
abbrev pub definition : ℕ → List ℕ → Option (List ℕ) → List ℕ
definition number address name =
    codes "[" ++ decimal number ++ codes "]: " ++ destination address ++ title name

abbrev pub reference_number : ℕ → List ℕ
reference_number number = codes "][" ++ decimal number ++ codes "]"

-- a reference to the next definition
abbrev pub with_reference : Written → List ℕ → Option (List ℕ) → Written
with_reference w address name =
    let number = suc (length w.definitions) in
    record {
      text = w.text ++ reference_number number;
      definitions = w.definitions ++ (definition number address name ∷ []);
    }

-- the end of a link
abbrev pub with_address : LinkStyle → Written → List ℕ → Option (List ℕ) → Written
with_address Referenced w address name = with_reference w address name
with_address _ w address name = wrote w (written_resource address name)

-- a link after what was written so far, or after its text
abbrev pub ended_link : Line → Written → Written → List ℕ → Option (List ℕ) → Inlines → Written
ended_link line w after address name content =
    if is_autolinked line address name content then wrote w (autolink address)
    else with_address line.link_style after address name

abbrev pub in_link : Line → Line
in_link line = record line { in_link = true }

-- ---- formats

-- what stands beside a format, and at the ends of its content
abbrev pub sides_of : Line → List ℕ → Following → Inlines → Sides
sides_of line so_far f content = record {
  before = character_before so_far;
  is_escaped = is_last_escaped so_far;
  first = first_of_all line.kind content;
  last = last_of_all content;
  after = f.after;
  is_last = f.is_last;
}

-- ---- all of it

-- `w`: what was written so far; `closing`: the first character of what closes the inlines, none at the end of a block
abbrev mutual
  pub written : Line → Written → Option ℕ → Inlines → Written
  written line w closing no_inlines = w
  written line w closing (inline x rest) =
      written line (with_inline line w (follows line.kind closing rest) x) closing rest

  pub with_inline : Line → Written → Following → Inline → Written
  with_inline line w f (text s) = with_text line w f s
  with_inline line w f (code s) = wrote w (written_code line s)
  with_inline line w f (formatted format content) =
      let mark = mark_for format (sides_of line w.text f content) in
      wrote (written line (wrote w mark.opener) (Some mark.sign) content) mark.closer
  with_inline line w f (link address name content) =
      ended_link line w (written (in_link line) (wrote w (codes "[")) (Some right_square_bracket) content)
      address name content
  with_inline line w f (image address name description) = wrote w (written_image address name description)
  with_inline line w f (anchor id) = wrote w (tags.anchor id)
  with_inline line w f line_break = wrote w (written_break line)
  with_inline line w f (task is_checked) = wrote w (written_task is_checked)

-- what stands between two marks or tags
abbrev pub between : Line → Written → Mark → Inlines → Written
between line w mark content = wrote (written line (wrote w mark.opener) (Some mark.sign) content) mark.closer

abbrev pub with_link : Line → Written → List ℕ → Option (List ℕ) → Inlines → Written
with_link line w address name content =
    ended_link line w (written (in_link line) (wrote w (codes "[")) (Some right_square_bracket) content)
    address name content

-- a paragraph, a heading's text or a cell, after these definitions
abbrev pub written_line : Line → List (List ℕ) → Inlines → Written
written_line line definitions xs = written line (record { text = []; definitions = definitions }) None xs
