-- Worked rows of links and images (CommonMark 0.31.2, 6.3 and 6.4). Each holds by computing.
use Rattle.std.proofs.Common.{◌≡◌, ℕ, refl, List, [], ◌∷◌, codes, None, Some}
use Rattle.std.specs.Str.{chars}
use Rattle.htmd_document.specs.Formats.{Emphasis}
use Rattle.htmd_commonmark_reading.specs.LinkDefinitions.{Definition}
use Rattle.htmd_commonmark_reading.specs.Markup.{Inlines, no_inlines, letters, formatted, link, image}
use Rattle.htmd_commonmark_reading.specs.Brackets.{inlines}
use Rattle.htmd_commonmark_reading.proofs.ExampleTexts.{plain}
use lib.Utf8.{encode}

-- `a` as a link to an address
abbrev to : List ℕ → Inlines → Inlines
to address rest = link address None (plain (codes "a")) rest

-- `[a]: /b`
abbrev references : List Definition
references = record { key = codes "a"; address = codes "/b"; title = None } ∷ []

pub destinations : inlines [] (codes "[a](b(c)d)[a](<b )>)[a]( )[a](\\(&#38;)")
    ≡ to (codes "b(c)d") (to (codes "b )") (to [] (to (codes "(&") no_inlines)))
unfolding chars encode
destinations = refl

pub titles : inlines [] (codes "[a](b 'c\\'')![a](<>\n(d))")
    ≡ link (codes "b") (Some (codes "c'")) (plain (codes "a"))
    (image [] (Some (codes "d")) (plain (codes "a")) no_inlines)
unfolding chars
titles = refl

pub no_links : inlines [] (codes "[a] (b) [a](b c) [a](<b\n1>) [a](b\"c\" d)")
    ≡ plain (codes "[a] (b) [a](b c) [a](<b 1>) [a](b\"c\" d)")
unfolding chars
no_links = refl

pub references_of_links : inlines references (codes "[A] [a][] [c][a] [a][c] [a](b c)")
    ≡ link (codes "/b") None (plain (codes "A")) (letters (codes " ") (to (codes "/b") (letters (codes " ")
    (link (codes "/b") None (plain (codes "c")) (letters (codes " [a][c] ")
    (to (codes "/b") (plain (codes "(b c)"))))))))
unfolding chars
references_of_links = refl

-- no link in a link, but an image may be
pub link_in_link : inlines [] (codes "[c [a](b)](d) [![a](b)](c)")
    ≡ letters (codes "[c ") (to (codes "b") (letters (codes "](d) ")
    (link (codes "c") None (image (codes "b") None (plain (codes "a")) no_inlines) no_inlines)))
unfolding chars
link_in_link = refl

-- brackets bind tighter than emphasis
pub brackets_first : inlines [] (codes "*c [d*](e) [*a](f)*")
    ≡ formatted Emphasis (letters (codes "c ") (link (codes "e") None (plain (codes "d*")) (letters (codes " ")
    (link (codes "f") None (plain (codes "*a")) no_inlines)))) no_inlines
unfolding chars
brackets_first = refl

pub description : inlines [] (codes "!![c *d*](e)")
    ≡ letters (codes "!") (image (codes "e") None (letters (codes "c ")
    (formatted Emphasis (plain (codes "d")) no_inlines)) no_inlines)
unfolding chars
description = refl
