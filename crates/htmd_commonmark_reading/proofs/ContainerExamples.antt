-- Worked rows of block quotes and list items (CommonMark 0.31.2, 5.1 and 5.2). Each holds by computing.
use Rattle.std.proofs.Common.{◌≡◌, refl, true, false, [], codes, None, Some}
use Rattle.std.specs.Str.{chars}
use Rattle.htmd_commonmark_reading.specs.Markup.{code_block, quote, thematic_break, list, no_blocks, block, no_items}
use Rattle.htmd_commonmark_reading.specs.Reading.{read}
use Rattle.htmd_commonmark_reading.proofs.ExampleTexts.{text, one, two, and_item, one_item}

pub quotes : read (codes ">a\n> b\n\n   > c\n")
    ≡ two (quote (one (text (codes "a b")))) (quote (one (text (codes "c"))))
quotes = refl

pub lazy_line : read (codes "> > a\nb\n> c\n") ≡ one (quote (one (quote (one (text (codes "a b c"))))))
lazy_line = refl

-- a line that starts a block isn't lazy, nor is one after what is no paragraph
pub no_lazy_line : read (codes "> a\n***\n> ```\nb\n")
    ≡ block (quote (one (text (codes "a"))))
    (block thematic_break (two (quote (one (code_block None []))) (text (codes "b"))))
no_lazy_line = refl

-- content begins where the text behind the marker does
pub content_of_item : read (codes " 7)  a\n\n     b\n\n    c\n")
    ≡ two (list (Some 7) false (one_item (two (text (codes "a")) (text (codes "b")))))
    (code_block None (codes "c"))
content_of_item = refl

-- five columns behind a marker are one, and code
pub code_in_item : read (codes "-     a\n") ≡ one (list None true (one_item (one (code_block None (codes "a")))))
code_in_item = refl

pub empty_item : read (codes "-\n  a\n\n+\n\n  b\n")
    ≡ block (list None true (and_item (text (codes "a")) no_items))
    (two (list None true (one_item no_blocks)) (text (codes "b")))
empty_item = refl

pub numbers : read (codes "012. a\n1234567890. b\n")
    ≡ one (list (Some 12) true (one_item (one (text (codes "a 1234567890. b")))))
numbers = refl

-- under a paragraph an item has text, and its number is 1
pub under_text : read (codes "a\n2. b\n*\n1. c\n")
    ≡ two (text (codes "a 2. b *")) (list (Some 1) true (and_item (text (codes "c")) no_items))
unfolding chars
under_text = refl

-- but not where that paragraph would take it lazily
pub under_lazy_text : read (codes "> a\n2. b\n")
    ≡ two (quote (one (text (codes "a")))) (list (Some 2) true (and_item (text (codes "b")) no_items))
under_lazy_text = refl

pub nested : read (codes "- 1. > a\n    b\n")
    ≡ one (list None true (and_item (list (Some 1) true (and_item (quote (one (text (codes "a b")))) no_items))
    no_items))
nested = refl
