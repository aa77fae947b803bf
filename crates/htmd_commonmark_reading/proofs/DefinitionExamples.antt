-- Worked rows of link reference definitions (CommonMark 0.31.2, 4.7). Each holds by computing.
use Rattle.std.proofs.Common.{◌≡◌, refl, codes, None, Some}
use Rattle.std.specs.Str.{chars}
use Rattle.htmd_commonmark_reading.specs.Markup.{Block, paragraph, heading, quote, no_blocks, no_inlines, link}
use Rattle.htmd_commonmark_reading.specs.Reading.{read}
use Rattle.htmd_commonmark_reading.proofs.ExampleTexts.{plain, text, one, two}

-- the text `a` as a link to `/b`
abbrev linked : Block
linked = paragraph (link (codes "/b") None (plain (codes "a")) no_inlines)

pub definition : read (codes "[a]: /b\n\n[a]\n") ≡ one linked
unfolding chars
definition = refl

-- a label is compared without case, and white space is one space
pub label : read (codes "[ C\n d]:\n</b\\>>\n'e'\n\n[c D]\n")
    ≡ one (paragraph (link (codes "/b>") (Some (codes "e")) (plain (codes "c D")) no_inlines))
unfolding chars
label = refl

-- what would be a title isn't one if something follows it in its line
pub no_title : read (codes "[a]: /b\n\"c\" d\n\n[a]\n") ≡ two (text (codes "\"c\" d")) linked
unfolding chars
no_title = refl

pub first_counts : read (codes "[a]\n\n[A]: /b\n[a]: /c\n") ≡ one linked
unfolding chars
first_counts = refl

pub not_under_text : read (codes "c\n[a]: /b\n\n[a]\n") ≡ two (text (codes "c [a]: /b")) (text (codes "[a]"))
unfolding chars
not_under_text = refl

pub in_quote : read (codes "> [a]: /b\n\n[a]\n") ≡ two (quote no_blocks) linked
unfolding chars
in_quote = refl

-- an underline belongs to what the definitions leave
pub before_heading : read (codes "[a]: /b\nc\n===\n[a]: /d\n===\n")
    ≡ two (heading 1 (plain (codes "c"))) (text (codes "==="))
unfolding chars
before_heading = refl

pub no_label : read (codes "[ ]: /b\n") ≡ one (text (codes "[ ]: /b"))
unfolding chars
no_label = refl
