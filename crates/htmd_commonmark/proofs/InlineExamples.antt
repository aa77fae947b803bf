-- Worked rows of inlines. Each holds by computing.
use Rattle.std.proofs.Common.{◌≡◌, ℕ, true, false, List, [], ◌∷◌, refl, codes}
use Rattle.std.specs.Prelude.{Option, Some, None}
use Rattle.std.specs.Fmt.{digits}
use Rattle.std.specs.Str.{chars}
use Rattle.unicode.proofs.CategoryComputing.{ucd_category}
use Rattle.htmd_markdown.specs.declared.line_break.BrStyle.TheVariants.{TwoSpaces}
use Rattle.htmd_markdown.specs.declared.link.LinkStyle.{LinkStyle}
use Rattle.htmd_markdown.specs.declared.link.LinkStyle.TheVariants.{Inlined, InlinedPreferAutolinks, Referenced}
use Rattle.htmd_document.specs.Formats.{Format}
use Rattle.htmd_document.specs.Formats.{Emphasis, Strong, Deleted, Superscript, Subscript}
use Rattle.htmd_document.specs.Documents.{Inline, text, code, formatted, link, image, anchor, line_break, task}
use Rattle.htmd_document.specs.Documents.{inlines_of}
use Rattle.htmd_commonmark.specs.declared.line.Line.{Line}
use Rattle.htmd_commonmark.specs.declared.line.LineKind.{LineKind}
use Rattle.htmd_commonmark.specs.declared.line.LineKind.TheVariants.{Paragraph, Heading, Cell}
use Rattle.htmd_commonmark.specs.InlineMarkdown.{written_line}
use lib.Utf8.{encode}

abbrev in_format : Format → List Inline → Inline
in_format format xs = formatted format (inlines_of xs)

abbrev link_of : List ℕ → Option (List ℕ) → List Inline → Inline
link_of address title xs = link address title (inlines_of xs)

-- a line with breaks of two spaces
abbrev line_of : LineKind → LinkStyle → Line
line_of kind link_style = record { kind = kind; br_style = TwoSpaces; link_style = link_style; in_link = false }

abbrev text_of : Line → List Inline → List ℕ
text_of line xs = (written_line line [] (inlines_of xs)).text

abbrev paragraph : List Inline → List ℕ
paragraph = text_of (line_of Paragraph Inlined)

abbrev heading : List Inline → List ℕ
heading = text_of (line_of Heading Inlined)

abbrev cell : List Inline → List ℕ
cell = text_of (line_of Cell Inlined)

abbrev autolinks : List Inline → List ℕ
autolinks = text_of (line_of Paragraph InlinedPreferAutolinks)

pub marks :
    paragraph
    (in_format Emphasis (text (codes "ab c") ∷ []) ∷ text (codes " ") ∷ in_format Strong (text (codes "d") ∷ [])
    ∷ text (codes " ") ∷ in_format Deleted (text (codes "e f") ∷ []) ∷ [])
    ≡ codes "*ab c* **d** ~~e f~~"
unfolding chars encode ucd_category
marks = refl

pub always_tags :
    paragraph
    (text (codes "x") ∷ in_format Superscript (text (codes "2") ∷ []) ∷ text (codes " H")
    ∷ in_format Subscript (text (codes "2") ∷ []) ∷ text (codes "O") ∷ [])
    ≡ codes "x<sup>2</sup> H<sub>2</sub>O"
unfolding chars encode ucd_category
always_tags = refl

pub raised_in_raised :
    paragraph
    (text (codes "x") ∷ in_format Superscript
    (text (codes "y") ∷ in_format Superscript (text (codes "2") ∷ [])
    ∷ in_format Subscript (text (codes "i") ∷ []) ∷ []) ∷ [])
    ≡ codes "x<sup>y<sup>2</sup><sub>i</sub></sup>"
unfolding chars encode ucd_category
raised_in_raised = refl

-- the value of an anchor's tag has character references, for the bar of a cell too
pub anchors :
    cell (anchor (codes "a|b") ∷ anchor (codes "<\"]&") ∷ text (codes "c") ∷ [])
    ≡ codes "<a id=\"a&#124;b\"></a><a id=\"&lt;&quot;&#93;&amp;\"></a>c"
unfolding chars encode ucd_category
anchors = refl

-- an anchor beside emphasis is as a tag
pub anchor_before_emphasis :
    paragraph (anchor (codes "x") ∷ in_format Emphasis (text (codes "a") ∷ []) ∷ [])
    ≡ codes "<a id=\"x\"></a>*a*"
unfolding chars encode ucd_category
anchor_before_emphasis = refl

pub strong_in_emphasis :
    paragraph
    (in_format Emphasis (text (codes "a ") ∷ in_format Strong (text (codes "b") ∷ []) ∷ []) ∷ [])
    ≡ codes "*a __b__*"
unfolding chars encode ucd_category
strong_in_emphasis = refl

pub emphasis_in_strong :
    paragraph
    (in_format Strong (in_format Emphasis (text (codes "a") ∷ []) ∷ []) ∷ [])
    ≡ codes "**_a_**"
unfolding chars encode ucd_category
emphasis_in_strong = refl

pub formats_side_by_side :
    paragraph
    (in_format Emphasis (text (codes "a") ∷ []) ∷ in_format Strong (text (codes "b") ∷ []) ∷ [])
    ≡ codes "*a*__b__"
unfolding chars encode ucd_category
formats_side_by_side = refl

pub three_formats :
    paragraph
    (in_format Strong (text (codes "a") ∷ []) ∷ in_format Emphasis (text (codes "b") ∷ [])
    ∷ in_format Strong (text (codes "c") ∷ []) ∷ [])
    ≡ codes "**a**_b_**c**"
unfolding chars encode ucd_category
three_formats = refl

pub in_a_word :
    paragraph
    (text (codes "f") ∷ in_format Strong (text (codes "o") ∷ []) ∷ text (codes "o") ∷ [])
    ≡ codes "f**o**o"
unfolding chars encode ucd_category
in_a_word = refl

pub parenthesis_in_a_word :
    paragraph
    (text (codes "f") ∷ in_format Strong (text (codes "(o)") ∷ []) ∷ text (codes "o") ∷ [])
    ≡ codes "f<strong>(o)</strong>o"
unfolding chars encode ucd_category
parenthesis_in_a_word = refl

pub stop_before_a_space :
    paragraph
    (in_format Strong (text (codes "a.") ∷ []) ∷ text (codes " b") ∷ [])
    ≡ codes "**a.** b"
unfolding chars encode ucd_category
stop_before_a_space = refl

pub tildes_beside_asterisks :
    paragraph
    (in_format Deleted (text (codes "a") ∷ []) ∷ in_format Strong (text (codes "b") ∷ []) ∷ [])
    ≡ codes "<del>a</del>**b**"
unfolding chars encode ucd_category
tildes_beside_asterisks = refl

pub asterisks_as_text :
    paragraph
    (in_format Emphasis (text (codes "*a*") ∷ []) ∷ [])
    ≡ codes "*\\*a\\**"
unfolding chars encode ucd_category
asterisks_as_text = refl

pub link_in_strong :
    paragraph
    (in_format Strong (link_of (codes "/x") None (text (codes "a") ∷ []) ∷ []) ∷ text (codes "s") ∷ [])
    ≡ codes "<strong>[a](/x)</strong>s"
unfolding chars encode ucd_category
link_in_strong = refl

pub link_around_code :
    paragraph
    (code (codes "a") ∷ text (codes " ") ∷ link_of (codes "/x") None (code (codes "b") ∷ [])
    ∷ text (codes " ") ∷ code (codes "c") ∷ [])
    ≡ codes "`a` [`b`](/x) `c`"
unfolding chars encode ucd_category
link_around_code = refl

pub bracket_in_a_link :
    paragraph
    (link_of (codes "/x") None (text (codes "a]b") ∷ []) ∷ [])
    ≡ codes "[a\\]b](/x)"
unfolding chars encode ucd_category
bracket_in_a_link = refl

pub mark_before_a_link :
    paragraph
    (text (codes "wow!") ∷ link_of (codes "/x") None (text (codes "a") ∷ []) ∷ [])
    ≡ codes "wow\\![a](/x)"
unfolding chars encode ucd_category
mark_before_a_link = refl

pub title_of_a_link :
    paragraph
    (link_of (codes "/x") (Some (codes "a \"b\" c")) (text (codes "d") ∷ []) ∷ [])
    ≡ codes "[d](/x \"a \\\"b\\\" c\")"
unfolding chars encode ucd_category
title_of_a_link = refl

pub image_in_a_link :
    paragraph
    (link_of (codes "/x") None (image (codes "/i.png") None (codes "a") ∷ []) ∷ [])
    ≡ codes "[![a](/i.png)](/x)"
unfolding chars encode ucd_category
image_in_a_link = refl

pub description :
    paragraph
    (image (codes "/i.png") (Some (codes "t")) (codes "a [b] *c*") ∷ [])
    ≡ codes "![a \\[b\\] \\*c\\*](/i.png \"t\")"
unfolding chars encode ucd_category
description = refl

pub nothing_of_an_image :
    paragraph
    (image [] None [] ∷ [])
    ≡ codes "![](<>)"
unfolding chars encode ucd_category
nothing_of_an_image = refl

pub breaks :
    paragraph
    (text (codes "a") ∷ line_break ∷ text (codes "- b") ∷ line_break ∷ text (codes "---") ∷ line_break
    ∷ text (codes "===") ∷ line_break ∷ text (codes "1. c") ∷ [])
    ≡ codes "a  \n\\- b  \n\\---  \n\\===  \n1\\. c"
unfolding chars encode ucd_category
breaks = refl

pub break_in_a_cell :
    cell
    (text (codes "a") ∷ line_break ∷ text (codes "- b") ∷ [])
    ≡ codes "a<br>- b"
unfolding chars encode ucd_category
break_in_a_cell = refl

pub code_that_ends_a_cell :
    cell
    (code (codes "a\\|b") ∷ [])
    ≡ codes "<code>a\\\\|b</code>"
unfolding chars encode ucd_category
code_that_ends_a_cell = refl

pub code_like_a_definition :
    paragraph
    (link_of (codes "/x") None (code (codes "]: a") ∷ []) ∷ [])
    ≡ codes "[<code>\\]: a</code>](/x)"
unfolding chars encode ucd_category
code_like_a_definition = refl

pub task_first :
    paragraph
    (task true ∷ text (codes " a") ∷ [])
    ≡ codes "[x] a"
unfolding chars encode ucd_category
task_first = refl

pub end_of_a_heading :
    heading
    (text (codes "a ##") ∷ [])
    ≡ codes "a #\\#"
unfolding chars encode ucd_category
end_of_a_heading = refl

pub signs_in_a_word_of_a_heading :
    heading
    (text (codes "a#") ∷ [])
    ≡ codes "a#"
unfolding chars encode ucd_category
signs_in_a_word_of_a_heading = refl

pub autolink_and_links :
    autolinks
    (link_of (codes "http://a.b/c_d") None (text (codes "http://a.b/c_d") ∷ []) ∷ text (codes " ")
    ∷ link_of (codes "/x") None (text (codes "/x") ∷ []) ∷ text (codes " ")
    ∷ link_of (codes "http://a.b/c") None (text (codes "d") ∷ []) ∷ [])
    ≡ codes "<http://a.b/c_d> [/x](/x) [d](http://a.b/c)"
unfolding chars encode ucd_category
autolink_and_links = refl

-- a link as a reference, and its definition
pub references :
    written_line (line_of Paragraph Referenced) (codes "[1]: /x" ∷ [])
    (inlines_of (link_of (codes "/y") (Some (codes "t")) (text (codes "a") ∷ []) ∷ []))
    ≡ record { text = codes "[a][2]"; definitions = codes "[1]: /x" ∷ codes "[2]: /y \"t\"" ∷ [] }
unfolding chars encode ucd_category digits
references = refl
