-- Worked rows of code spans, autolinks, raw HTML and line breaks (CommonMark 0.31.2, 6.1 and 6.5 to 6.9). Each holds by
-- computing.
use Rattle.std.proofs.Common.{◌≡◌, refl, [], codes, None}
use Rattle.htmd_commonmark_reading.specs.Markup.{no_inlines, letters, code, link, raw, line_break}
use Rattle.htmd_commonmark_reading.specs.Brackets.{inlines}
use Rattle.htmd_commonmark_reading.proofs.ExampleTexts.{plain}
use lib.Utf8.{encode}

-- a space at either end goes, if there is something else
pub code_spans : inlines [] (codes "`` a`b `` `  ` `c\nd` ` e`")
    ≡ code (codes "a`b") (letters (codes " ") (code (codes "  ") (letters (codes " ") (code (codes "c d")
    (letters (codes " ") (code (codes " e") no_inlines))))))
code_spans = refl

pub no_code : inlines [] (codes "``a` \\`b`") ≡ letters (codes "``a") (code (codes " \\") (plain (codes "b`")))
no_code = refl

pub autolinks : inlines [] (codes "<ab+c:d\\&#42;> <a.b@c-d.e>")
    ≡ link (codes "ab+c:d\\*") None (plain (codes "ab+c:d\\*")) (letters (codes " ")
    (link (codes "mailto:a.b@c-d.e") None (plain (codes "a.b@c-d.e")) no_inlines))
unfolding encode
autolinks = refl

pub no_autolinks : inlines [] (codes "<a:b> <ab:c d> <a@-b> < ab:c>") ≡ plain (codes "<a:b> <ab:c d> <a@-b> < ab:c>")
no_autolinks = refl

pub tags : inlines [] (codes "<a b=c d = \"e>\" f/></a ><g\nh='*i*'>")
    ≡ raw (codes "<a b=c d = \"e>\" f/>") (raw (codes "</a >") (raw (codes "<g\nh='*i*'>") no_inlines))
tags = refl

pub no_tags : inlines [] (codes "<1> <a b='c'd> <a =b> </a b> <a b=`c`")
    ≡ letters (codes "<1> <a b='c'd> <a =b> </a b> <a b=") (code (codes "c") no_inlines)
no_tags = refl

pub other_html : inlines [] (codes "<!--> <!-- a--b --> <?c?> <!d e> <![CDATA[>]]>")
    ≡ raw (codes "<!-->") (letters (codes " ") (raw (codes "<!-- a--b -->") (letters (codes " ") (raw (codes "<?c?>")
    (letters (codes " ") (raw (codes "<!d e>") (letters (codes " ") (raw (codes "<![CDATA[>]]>") no_inlines))))))))
other_html = refl

pub line_breaks : inlines [] (codes "a  \nb\\\n  c \nd\t\n e")
    ≡ letters (codes "a") (line_break (letters (codes "b") (line_break (plain (codes "c d e")))))
line_breaks = refl
