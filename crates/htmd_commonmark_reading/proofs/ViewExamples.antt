-- Worked rows of texts as one sees them, and as documents. Each holds by computing.
use Rattle.std.proofs.Common.{◌≡◌, ℕ, refl, true, List, [], ◌∷◌, codes, None, Some}
use Rattle.std.specs.Str.{chars}
use Rattle.htmd_document.specs.declared.document.Alignment.{Alignment}
use Rattle.htmd_document.specs.Documents as document
use Rattle.htmd_document.specs.declared.document.AttributeName.TheVariants.{Open, ColumnSpan, Align}
use Rattle.htmd_document.specs.declared.document.BlockElement.TheVariants.{Details, Summary, Table, Row, Cell}
use Rattle.htmd_document.specs.Formats.{Emphasis, Strong, Superscript, Subscript, Keyboard, Abbreviation}
use Rattle.htmd_commonmark_reading.specs.Markup.{Inlines, no_inlines, letters, joined, formatted, code, link, image}
use Rattle.htmd_commonmark_reading.specs.Markup.{line_break, raw}
use Rattle.htmd_commonmark_reading.specs.Brackets.{inlines}
use Rattle.htmd_commonmark_reading.specs.SeenMarkup.{seen_inlines}
use Rattle.htmd_commonmark_reading.specs.Reading as reading
use Rattle.htmd_commonmark_reading.proofs.ExampleTexts.{plain}

abbrev seen : List ℕ → Inlines
seen s = seen_inlines (inlines [] s)

pub formats : seen (codes "<em>a<sub>b</sub></em><br><code>c \\<</code>")
    ≡ formatted Emphasis (letters (codes "a") (formatted Subscript (plain (codes "b")) no_inlines))
    (line_break (code (codes "c <") no_inlines))
unfolding chars
formats = refl

-- a closing tag matches the last open one of its name; what matches nothing stays
pub unmatched : seen (codes "<sup>a<em>b</sup>c</em> **<b>d</em>**")
    ≡ formatted Superscript (letters (codes "a") (raw (codes "<em>") (plain (codes "b")))) (letters (codes "c")
    (raw (codes "</em>") (letters (codes " ")
    (formatted Strong (raw (codes "<b>") (letters (codes "d") (raw (codes "</em>") no_inlines))) no_inlines))))
unfolding chars
unmatched = refl

-- inlines that stand between tags of code which stay raw
abbrev in_raw_code : Inlines → Inlines
in_raw_code xs = raw (codes "<code>") (joined xs (raw (codes "</code>") no_inlines))

-- a line's end is a space of the text
pub code_of_text : seen (codes "<sup><code>a\nb</code></sup>")
    ≡ formatted Superscript (code (codes "a b") no_inlines) no_inlines
unfolding chars
code_of_text = refl

pub code_with_a_tag : seen (codes "<code>a<b>c</code>")
    ≡ in_raw_code (letters (codes "a") (raw (codes "<b>") (plain (codes "c"))))
unfolding chars
code_with_a_tag = refl

pub code_with_a_link : seen (codes "<code>[a](b)</code>")
    ≡ in_raw_code (link (codes "b") None (plain (codes "a")) no_inlines)
unfolding chars
code_with_a_link = refl

pub code_with_formats : seen (codes "<code>a *b*</code><code><sup>c</sup></code>")
    ≡ joined (in_raw_code (letters (codes "a ") (formatted Emphasis (plain (codes "b")) no_inlines)))
    (in_raw_code (formatted Superscript (plain (codes "c")) no_inlines))
unfolding chars
code_with_formats = refl

pub code_with_breaks : seen (codes "<code>a<br>b  \nc</code>")
    ≡ in_raw_code (letters (codes "a") (line_break (letters (codes "b") (line_break (plain (codes "c"))))))
unfolding chars
code_with_breaks = refl

pub code_in_code : seen (codes "<code>a<code>b</code></code><code>`c`</code>")
    ≡ joined (in_raw_code (letters (codes "a") (code (codes "b") no_inlines)))
    (in_raw_code (code (codes "c") no_inlines))
unfolding chars
code_in_code = refl

pub code_of_nothing : seen (codes "<code></code>") ≡ in_raw_code no_inlines
unfolding chars
code_of_nothing = refl

pub description : seen (codes "![a <em>b</em> *c*](d)") ≡ image (codes "d") None (plain (codes "a b c")) no_inlines
unfolding chars
description = refl

abbrev one_text : List ℕ → document.Inlines
one_text s = document.inline (document.text s) document.no_inlines

pub document_of_text : reading.document (codes "*a* b<sup>c</sup>\n\n---\n")
    ≡ Some (document.block (document.paragraph
    (document.inline (document.formatted Emphasis (document.inline (document.text (codes "a")) document.no_inlines))
    (document.inline (document.text (codes " b"))
    (document.inline (document.formatted Superscript (document.inline (document.text (codes "c")) document.no_inlines))
    document.no_inlines)))) (document.block document.thematic_break document.no_blocks))
unfolding chars
document_of_text = refl

pub document_of_task : reading.document (codes "- [x] a\n") ≡ Some (document.block (document.list None true
    (document.item (document.block (document.paragraph (document.inline (document.task true)
    (document.inline (document.text (codes " a")) document.no_inlines))) document.no_blocks) document.no_items))
    document.no_blocks)
document_of_task = refl

pub document_of_code : reading.document (codes "<code>a\\*b</code>\n") ≡ Some (document.block
    (document.paragraph (document.inline (document.code (codes "a*b")) document.no_inlines)) document.no_blocks)
unfolding chars
document_of_code = refl

-- raised in raised; anchors, whose ids have character references
pub raised_in_raised : seen (codes "<sup>a<sup>b</sup><sub>c</sub></sup>")
    ≡ formatted Superscript (letters (codes "a") (formatted Superscript (plain (codes "b"))
    (formatted Subscript (plain (codes "c")) no_inlines))) no_inlines
unfolding chars
raised_in_raised = refl

pub document_of_anchor : reading.document (codes "<a id=\"x\"></a><a id=\"&lt;y&amp;#93;&#93;\"></a>b\n") ≡ Some
    (document.block (document.paragraph (document.inline (document.anchor (codes "x"))
    (document.inline (document.anchor (codes "<y&#93;]"))
    (document.inline (document.text (codes "b")) document.no_inlines))))
    document.no_blocks)
unfolding chars
document_of_anchor = refl

pub no_document_of_link : reading.document (codes "<a href=\"x\"></a>\n") ≡ None
unfolding chars
no_document_of_link = refl

pub no_document_of_text : reading.document (codes "<a id=\"x\">b</a>\n") ≡ None
unfolding chars
no_document_of_text = refl

pub no_document_of_sign : reading.document (codes "<a id=\"x|y\"></a>\n") ≡ None
unfolding chars
no_document_of_sign = refl

-- rows without the empty cells at their end
pub document_of_table : reading.document (codes "|a||c|\n|-|-|-|\n|b|\n||d||\n|||\n") ≡ Some (document.block
    (document.table (Alignment.None ∷ Alignment.None ∷ Alignment.None ∷ [])
    (one_text (codes "a") ∷ document.no_inlines ∷ one_text (codes "c") ∷ [])
    ((one_text (codes "b") ∷ []) ∷ (document.no_inlines ∷ one_text (codes "d") ∷ [])
    ∷ (document.no_inlines ∷ []) ∷ []))
    document.no_blocks)
unfolding chars
document_of_table = refl

pub no_document : reading.document (codes "a <b>\n") ≡ None
no_document = refl

pub no_document_of_code : reading.document (codes "<code>a<b>c</code>\n") ≡ None
unfolding chars
no_document_of_code = refl

-- ---- elements

pub abbreviations : seen (codes "<abbr title=\"x &quot;y&quot;\">a</abbr><abbr>b</abbr>")
    ≡ formatted (Abbreviation (codes "x \"y\"")) (plain (codes "a"))
    (raw (codes "<abbr>") (letters (codes "b") (raw (codes "</abbr>") no_inlines)))
unfolding chars
abbreviations = refl

abbrev one_paragraph : document.Inlines → document.Blocks
one_paragraph xs = document.block (document.paragraph xs) document.no_blocks

pub document_of_details :
    reading.document (codes "<details open=\"\">\n<summary>a &lt; \"b\"</summary>\n\n*   <kbd>c</kbd>\n\n</details>\n")
    ≡ Some (document.block (document.element Details (record { name = Open; value = [] } ∷ [])
    (document.block (document.element Summary [] (one_paragraph (one_text (codes "a < \"b\""))))
    (document.block (document.list None true (document.item (one_paragraph
    (document.inline (document.formatted Keyboard (one_text (codes "c"))) document.no_inlines)) document.no_items))
    document.no_blocks)))
    document.no_blocks)
unfolding chars
document_of_details = refl

pub document_of_rich_table :
    reading.document (codes
    "> <table>\n> <tr>\n> <td colspan=\"2\" align=\"left\">open</td>\n> <td></td>\n> </tr>\n> </table>\n")
    ≡ Some (document.block (document.quote (document.block (document.element Table [] (document.block
    (document.element Row [] (document.block (document.element Cell
    (record { name = ColumnSpan; value = codes "2" } ∷ record { name = Align; value = codes "left" } ∷ [])
    (one_paragraph (one_text (codes "open")))) (document.block (document.element Cell [] document.no_blocks)
    document.no_blocks))) document.no_blocks)) document.no_blocks)) document.no_blocks)
unfolding chars
document_of_rich_table = refl

-- tags that don't pair, or are no tags of elements
pub no_document_of_open_tag : reading.document (codes "<dl>\n<dt>a</dt>\n") ≡ None
unfolding chars
no_document_of_open_tag = refl

pub no_document_of_other_tag : reading.document (codes "<tr>\n</td>\n") ≡ None
unfolding chars
no_document_of_other_tag = refl

pub no_document_of_attribute : reading.document (codes "<td class=\"a\">b</td>\n") ≡ None
unfolding chars
no_document_of_attribute = refl
