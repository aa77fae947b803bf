-- Worked rows: the trees of what is read, and what they are spelled as. Each holds by computing.
use Rattle.std.proofs.Common.{arith, ◌≡◌, true, false, List, [], ◌∷◌, ℕ, refl, codes}
use Rattle.std.specs.Fmt.{digits}
use Rattle.std.specs.Str.{chars}
use Rattle.htmd_values.specs.Serialisation.{is_void}
use Rattle.htmd_values.specs.ValueTrees.{ValueForest, none, more, text, element}
use Rattle.htmd_document.specs.Documents as document
use Rattle.htmd_document.specs.declared.document.BlockElement.TheVariants as an
use Rattle.htmd_grammar.specs.HtmlDocuments.{below_body}
use Rattle.htmd_commonmark_reading.specs.Reading.{read}
use Rattle.htmd_commonmark_reading.specs.Rendering.{html_of}
use Rattle.htmd_law_rendering.specs.RenderedTrees.{spelled_of, trees_of, pair}
use Rattle.htmd_law_rendering.specs.SpelledTrees.{all_spelled, levels}
use Rattle.htmd_law_rendering.specs.PlainReadings.{blocks_are_paired, blocks_are_strict, elements_fit, IsPlain}
use lib.Utf8.{encode}

abbrev holding : List ℕ → ValueForest → ValueForest → ValueForest
holding name content rest = more (element name [] content) rest

abbrev words : List ℕ → ValueForest
words s = more (text s) none

abbrev line : ValueForest
line = words (codes "\n")

-- text after a break is one with its line's end
pub in_lines : trees_of (read (codes "# *a*b\n\n\"c\"  \n`d`"))
    ≡ holding (codes "h1") (holding (codes "em") (words (codes "a")) (words (codes "b")))
    (more (text (codes "\n")) (holding (codes "p")
    (more (text (codes "\"c\"")) (holding (codes "br") none
    (more (text (codes "\n")) (holding (codes "code") (words (codes "d")) none)))) line))
unfolding digits chars
in_lines = refl

-- in a tight item the text before a list has the end of its line
pub tight_items : trees_of (read (codes "- a\n  - [x] b"))
    ≡ holding (codes "ul") (more (text (codes "\n")) (holding (codes "li")
    (more (text (codes "a\n")) (holding (codes "ul") (more (text (codes "\n")) (holding (codes "li")
    (more (element (codes "input") (pair (codes "checked") [] ∷ pair (codes "disabled") []
    ∷ pair (codes "type") (codes "checkbox") ∷ []) none) (words (codes " b"))) line)) line)) line)) line
unfolding chars
tight_items = refl

pub links : trees_of (read (codes "[a](/b\"c&d 'e\"f')"))
    ≡ holding (codes "p")
    (more (element (codes "a") (pair (codes "href") (codes "/b%22c&d") ∷ pair (codes "title") (codes "e\"f") ∷ [])
    (words (codes "a"))) none) line
unfolding chars
links = refl

pub links_are_spelled : all_spelled (spelled_of (read (codes "[a](/b\"c&d 'e\"f')")))
    ≡ codes "<p><a href=\"/b%22c&amp;d\" title=\"e&quot;f\">a</a></p>\n"
unfolding chars is_void
links_are_spelled = refl

pub breaks_are_spelled : all_spelled (spelled_of (read (codes "1. [ ] a\\\nb\n\n---")))
    ≡ codes "<ol>\n<li><input disabled=\"\" type=\"checkbox\"> a<br />\nb</li>\n</ol>\n<hr />\n"
unfolding chars is_void
breaks_are_spelled = refl

-- ---- raw tags

-- tags pair in one list of inlines; a break by a tag has no line's end behind it
pub raw_tags : trees_of (read (codes "<u>a*b*</u><br>c"))
    ≡ holding (codes "p")
    (holding (codes "u") (more (text (codes "a")) (holding (codes "em") (words (codes "b")) none))
    (holding (codes "br") none (words (codes "c")))) line
unfolding chars
raw_tags = refl

pub raw_tags_are_spelled : all_spelled (spelled_of (read (codes "<u>a*b*</u><br>c")))
    ≡ codes "<p><u>a<em>b</em></u><br>c</p>\n"
unfolding is_void chars
raw_tags_are_spelled = refl

-- an anchor, as documents write it
pub an_anchor : trees_of (read (codes "<a id=\"b&#124;\"></a>c"))
    ≡ holding (codes "p")
    (more (element (codes "a") (pair (codes "id") (codes "b|") ∷ []) none) (words (codes "c"))) line
an_anchor = refl

pub a_tag_alone : blocks_are_paired (read (codes "a<b>")) ≡ false
a_tag_alone = refl

pub tags_across : blocks_are_paired (read (codes "*a<u>b*</u>")) ≡ false
unfolding chars
tags_across = refl

-- in a description it is text
pub described : blocks_are_paired (read (codes "![a<b>](c)")) ≡ true
unfolding chars
described = refl

-- ---- lines of tags

-- tags in lines of their own are of elements around the blocks between them
pub tags_around : trees_of (read (codes "<details open=\"\">\n<summary>a &lt; b</summary>\n\nc\n\n</details>"))
    ≡ more (element (codes "details") (pair (codes "open") [] ∷ [])
    (more (text (codes "\n")) (holding (codes "summary") (words (codes "a < b"))
    (more (text (codes "\n")) (holding (codes "p") (words (codes "c")) line))))) line
unfolding chars
tags_around = refl

pub tags_are_spelled : all_spelled (spelled_of (read (codes
    "<details open=\"\">\n<summary>a &lt; b</summary>\n\nc\n\n</details>")))
    ≡ codes "<details open=\"\">\n<summary>a &lt; b</summary>\n<p>c</p>\n</details>\n"
unfolding is_void chars
tags_are_spelled = refl

-- rows are in a section, whose tags HTML implies, and captions before it
pub rows_of_a_table : trees_of (read (codes "<table>\n<caption>a</caption>\n<tr>\n<td>b</td>\n</tr>\n</table>"))
    ≡ holding (codes "table") (more (text (codes "\n")) (holding (codes "caption") (words (codes "a"))
    (more (text (codes "\n")) (holding (codes "tbody")
    (holding (codes "tr") (more (text (codes "\n")) (holding (codes "td") (words (codes "b")) line)) line)
    none)))) line
unfolding chars
rows_of_a_table = refl

-- and between rows one ends their section
pub rows_around_a_caption : trees_of (read (codes
    "<table>\n<tr>\n<td>a</td>\n</tr>\n<caption>b</caption>\n<tr>\n<td>c</td>\n</tr>\n</table>"))
    ≡ holding (codes "table") (more (text (codes "\n")) (holding (codes "tbody")
    (holding (codes "tr") (more (text (codes "\n")) (holding (codes "td") (words (codes "a")) line)) line)
    (holding (codes "caption") (words (codes "b")) (more (text (codes "\n")) (holding (codes "tbody")
    (holding (codes "tr") (more (text (codes "\n")) (holding (codes "td") (words (codes "c")) line)) line)
    none))))) line
unfolding chars
rows_around_a_caption = refl

pub rows_are_spelled : all_spelled (spelled_of (read (codes
    "<table>\n<caption>a</caption>\n<tr>\n<td>b</td>\n</tr>\n</table>")))
    ≡ codes "<table>\n<caption>a</caption>\n<tr>\n<td>b</td>\n</tr>\n</table>\n"
unfolding is_void chars
rows_are_spelled = refl

pub a_line_alone : blocks_are_paired (read (codes "<dl>\n\na")) ≡ false
unfolding chars
a_line_alone = refl

-- each list of blocks has its own
pub lines_across : blocks_are_paired (read (codes "<dl>\n\n> </dl>")) ≡ false
unfolding chars
lines_across = refl

-- ---- what is plain

pub a_plain_reading : IsPlain (read (codes "- a <u>b</u>"))
unfolding chars digits is_void
a_plain_reading = record {
  paired = refl;
  strict = refl;
  no_returns = refl;
  shallow = omega arith;
}

-- a table's cell is the fourth element from outside, and its text the fifth
pub a_table : levels (spelled_of (read (codes "|a|\n|-|\n"))) ≡ 5
a_table = refl

pub a_table_is_strict : blocks_are_strict below_body (read (codes "|a|\n|-|\n")) ≡ true
a_table_is_strict = refl

-- an address in a link is one in it, which HTML doesn't allow; nor an anchor
pub a_link_in_a_link : blocks_are_strict below_body (read (codes "[<aa:b>](c)")) ≡ false
unfolding chars
a_link_in_a_link = refl

pub an_anchor_in_a_link : blocks_are_strict below_body (read (codes "[<a id=\"b\"></a>](c)")) ≡ false
unfolding chars
an_anchor_in_a_link = refl

pub an_anchor_in_a_format : blocks_are_strict below_body (read (codes "*<a id=\"b\"></a>c*[d](e)")) ≡ true
unfolding chars
an_anchor_in_a_format = refl

-- a term stands in another one only through a list of terms
pub a_term_in_a_term : blocks_are_strict below_body (read (codes "<dt>\n<dt>a</dt>\n</dt>")) ≡ false
unfolding chars
a_term_in_a_term = refl

pub terms_in_a_term : blocks_are_strict below_body (read (codes "<dt>\n<dl>\n<dt>a</dt>\n</dl>\n</dt>")) ≡ true
unfolding chars
terms_in_a_term = refl

pub terms_fit : elements_fit (document.block (document.element an.Terms []
    (document.block (document.element an.Term [] document.no_blocks) document.no_blocks)) document.no_blocks) ≡ true
terms_fit = refl

abbrev one_block : document.Block → document.Blocks
one_block b = document.block b document.no_blocks

abbrev a_row : document.Block
a_row = document.element an.Row [] (one_block (document.element an.Cell [] document.no_blocks))

abbrev a_caption : document.Block
a_caption = document.element an.Caption [] (one_block document.thematic_break)

-- in a table captions stand before rows and behind
pub a_table_fits : elements_fit (one_block (document.element an.Table [] (document.block a_caption (one_block a_row))))
    ≡ true
a_table_fits = refl

pub a_caption_behind : elements_fit (one_block (document.element an.Table [] (document.block a_row
    (one_block a_caption)))) ≡ true
a_caption_behind = refl

pub a_row_in_a_row : elements_fit (one_block (document.element an.Table [] (one_block
    (document.element an.Row [] (one_block a_row))))) ≡ false
a_row_in_a_row = refl

-- a row outside a table is none to HTML
pub a_row_alone : elements_fit (document.block (document.element an.Row [] document.no_blocks) document.no_blocks)
    ≡ false
a_row_alone = refl

-- by its number a carriage return is a character of Markdown, and its HTML has it as it is
pub a_carriage_return : html_of (read (codes "&#13;")) ≡ codes "<p>\r</p>\n"
unfolding chars encode
a_carriage_return = refl
