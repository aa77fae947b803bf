-- Worked rows of what is written of links in autolinks' place. Each holds by computing.
use Rattle.std.proofs.Common.{◌≡◌, true, false, [], refl, codes, Some, None}
use Rattle.std.specs.Str.{chars}
use Rattle.htmd_document.specs.Documents.{text, Inlines, no_inlines, inline}
use Rattle.htmd_markdown.specs.declared.link.LinkStyle.TheVariants.{InlinedPreferAutolinks}
use Rattle.htmd_markdown.specs.declared.line_break.BrStyle.TheVariants.{TwoSpaces}
use Rattle.htmd_commonmark.specs.declared.line.Line.{Line}
use Rattle.htmd_commonmark.specs.declared.line.LineKind.TheVariants.{Paragraph}
use Rattle.htmd_commonmark.specs.InlineMarkdown.{is_autolinked}
use Rattle.htmd_commonmark_reading.specs.Brackets.{inlines}
use Rattle.htmd_law_inlines.specs.PlainReadings.{is_read_plainly}

abbrev with_autolinks : Line
with_autolinks = record { kind = Paragraph; br_style = TwoSpaces; link_style = InlinedPreferAutolinks; in_link = false }

abbrev own_text : Inlines
own_text = inline (text (codes "http:a")) no_inlines

-- an autolink would lose the title
pub titled : is_autolinked with_autolinks (codes "http:a") (Some (codes "b")) own_text ≡ false
titled = refl

pub untitled : is_autolinked with_autolinks (codes "http:a") None own_text ≡ true
untitled = refl

-- ---- what is read plainly

a_break_by_a_tag : is_read_plainly true (inlines [] (codes "a<br>b")) ≡ true
a_break_by_a_tag = refl

not_in_a_paragraph : is_read_plainly false (inlines [] (codes "a<br>b")) ≡ false
not_in_a_paragraph = refl

other_tags : is_read_plainly false (inlines [] (codes "a<u>b</u>")) ≡ true
other_tags = refl

a_tag_in_a_description : is_read_plainly true (inlines [] (codes "![a<u>](b)")) ≡ false
unfolding chars
a_tag_in_a_description = refl
