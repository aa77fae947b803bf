-- Worked rows of leaf blocks (CommonMark 0.31.2, 4.1 to 4.6 and 4.8). Each holds by computing.
use Rattle.std.proofs.Common.{◌≡◌, refl, codes, None, Some}
use Rattle.htmd_commonmark_reading.specs.Markup.{no_inlines, paragraph, heading, code_block, thematic_break, html_block}
use Rattle.htmd_commonmark_reading.specs.Markup.{block, letters, raw}
use Rattle.htmd_commonmark_reading.specs.Reading.{read}
use Rattle.htmd_commonmark_reading.proofs.ExampleTexts.{plain, text, one, two}

pub rules : read (codes "* * *\n _____\n--\n") ≡ block thematic_break (two thematic_break (text (codes "--")))
rules = refl

pub headings : read (codes "## a b ##\n#\tc\n")
    ≡ two (heading 2 (plain (codes "a b"))) (heading 1 (plain (codes "c")))
headings = refl

pub no_heading : read (codes "#a\n####### b\n") ≡ one (text (codes "#a ####### b"))
no_heading = refl

-- the closing sequence stands behind white space, or alone
pub closing_sequence : read (codes "# a#\n# b \\#\n# #\n")
    ≡ block (heading 1 (plain (codes "a#"))) (two (heading 1 (plain (codes "b #"))) (heading 1 no_inlines))
closing_sequence = refl

pub underline : read (codes "a\nb\n===\n") ≡ one (heading 1 (plain (codes "a b")))
underline = refl

pub underline_or_rule : read (codes "a\n---\n\n---\n") ≡ two (heading 2 (plain (codes "a"))) thematic_break
underline_or_rule = refl

-- blank lines between two of its lines belong to code, those around it don't
pub indented_code : read (codes "    a\n\n      b\n\nc\n")
    ≡ two (code_block None (codes "a\n\n  b")) (text (codes "c"))
indented_code = refl

pub not_under_text : read (codes "a\n    b\n") ≡ one (text (codes "a b"))
not_under_text = refl

pub fence : read (codes "~~~ x\\& y\na\n ~~~~\nb\n")
    ≡ two (code_block (Some (codes "x&")) (codes "a")) (text (codes "b"))
fence = refl

-- a fence of fewer signs closes nothing, and the end of the text does
pub open_fence : read (codes "````\n```\n~~~~\n") ≡ one (code_block None (codes "```\n~~~~"))
open_fence = refl

pub fence_indentation : read (codes "  ```\n   a\nb\n  ```\n") ≡ one (code_block None (codes " a\nb"))
fence_indentation = refl

pub no_fence : read (codes "``` a`\n") ≡ one (text (codes "``` a`"))
no_fence = refl

-- the content of a text element goes on over blank lines
pub html_to_its_end : read (codes "<Pre>\na\n\nb</STYLE> c\nd\n")
    ≡ two (html_block (codes "<Pre>\na\n\nb</STYLE> c")) (text (codes "d"))
html_to_its_end = refl

pub html_comment : read (codes "  <!-- a -->\nb\n") ≡ two (html_block (codes "  <!-- a -->")) (text (codes "b"))
html_comment = refl

pub html_instruction : read (codes "<?a\n\n?> b\n<!c>\n<![CDATA[\n]]>")
    ≡ block (html_block (codes "<?a\n\n?> b")) (two (html_block (codes "<!c>")) (html_block (codes "<![CDATA[\n]]>")))
html_instruction = refl

pub html_to_blank_line : read (codes "a\n</div\n*b*\n\nc\n")
    ≡ block (text (codes "a")) (two (html_block (codes "</div\n*b*")) (text (codes "c")))
html_to_blank_line = refl

-- a lone tag of another element begins a block, but not under a paragraph
pub html_lone_tag : read (codes "<x y='z>'> \na\n\nb\n</x>\n")
    ≡ two (html_block (codes "<x y='z>'> \na")) (paragraph (letters (codes "b ") (raw (codes "</x>") no_inlines)))
html_lone_tag = refl

-- so does an end tag of an element whose content is text
pub html_end_tag : read (codes "</pre>\n*a*\n") ≡ one (html_block (codes "</pre>\n*a*"))
html_end_tag = refl
