-- Worked rows of lists (CommonMark 0.31.2, 5.3) and tasks (GFM 0.29, 5.3). Each holds by computing.
use Rattle.std.proofs.Common.{◌≡◌, refl, true, false, codes, None, Some}
use Rattle.std.specs.Str.{chars}
use Rattle.htmd_document.specs.Formats.{Emphasis}
use Rattle.htmd_commonmark_reading.specs.Markup.{no_inlines, paragraph, thematic_break, list, block, item, no_items}
use Rattle.htmd_commonmark_reading.specs.Markup.{task, formatted}
use Rattle.htmd_commonmark_reading.specs.Reading.{read}
use Rattle.htmd_commonmark_reading.proofs.ExampleTexts.{plain, text, one, two, and_item, one_item}

pub other_sign : read (codes "- a\n+ b\n1. c\n1) d\n- e\n")
    ≡ block (list None true (and_item (text (codes "a")) no_items))
    (block (list None true (and_item (text (codes "b")) no_items))
    (block (list (Some 1) true (and_item (text (codes "c")) no_items))
    (two (list (Some 1) true (and_item (text (codes "d")) no_items))
    (list None true (and_item (text (codes "e")) no_items)))))
other_sign = refl

pub rule_in_list : read (codes "* a\n* * *\n* b\n")
    ≡ block (list None true (and_item (text (codes "a")) no_items))
    (two thematic_break (list None true (and_item (text (codes "b")) no_items)))
rule_in_list = refl

pub loose_by_items : read (codes "- a\n\n- b\n- c\n")
    ≡ one (list None false (and_item (text (codes "a")) (and_item (text (codes "b")) (and_item (text (codes "c"))
    no_items))))
loose_by_items = refl

-- a blank line in an inner list makes that loose alone
pub loose_within : read (codes "- a\n  - b\n\n    c\n- d\n")
    ≡ one (list None true (item (two (text (codes "a"))
    (list None false (one_item (two (text (codes "b")) (text (codes "c")))))) (and_item (text (codes "d")) no_items)))
loose_within = refl

-- a blank line at the end of an item stands between it and the next
pub loose_by_end : read (codes "- a\n  - b\n\n- c\n")
    ≡ one (list None false (item (two (text (codes "a")) (list None true (and_item (text (codes "b")) no_items)))
    (and_item (text (codes "c")) no_items)))
loose_by_end = refl

pub tight_at_end : read (codes "- a\n\nb\n")
    ≡ two (list None true (and_item (text (codes "a")) no_items)) (text (codes "b"))
tight_at_end = refl

pub tasks : read (codes "- [ ] a\n- [x] *b*\n- [x]\n- [y] c\n")
    ≡ one (list None true (and_item (paragraph (task false (plain (codes "a"))))
    (and_item (paragraph (task true (formatted Emphasis (plain (codes "b")) no_inlines)))
    (and_item (text (codes "[x]")) (and_item (text (codes "[y] c")) no_items)))))
unfolding chars
tasks = refl
