-- Worked rows of documents as they are written, and of normal elements. Each holds by computing.
use Rattle.std.proofs.Common.{◌≡◌, refl, true, false, ℕ, List, [], ◌∷◌, codes, None}
use Rattle.std.specs.Str.{is_utf8, chars}
use Rattle.htmd_document.specs.declared.document.AttributeName.TheVariants.{Open, ColumnSpan}
use Rattle.htmd_document.specs.declared.document.BlockElement.TheVariants.{Details, Summary, Table, Row, Cell}
use Rattle.htmd_document.specs.Documents.{text, Inlines, no_inlines, inline, formatted, Block, paragraph, list, element}
use Rattle.htmd_document.specs.Documents.{tags, Blocks, no_blocks, block, no_items, item}
use Rattle.htmd_document.specs.FlatDocuments.{flattened}
use Rattle.htmd_document.specs.Formats.{Abbreviation, Keyboard}
use Rattle.htmd_document.specs.NormalDocuments.{is_normal_document, are_flat_blocks, is_tag_line}
use Rattle.htmd_document.specs.NormalInlines.{is_normal_line}
use lib.Utf8.{encode}

abbrev words : List ℕ → Inlines
words s = inline (text s) no_inlines

abbrev one : Block → Blocks
one b = block b no_blocks

-- a table with a list in one cell, a text in the other
abbrev rich : Blocks
rich = one (element Table [] (one (element Row []
    (block (element Cell (record { name = ColumnSpan; value = codes "2" } ∷ [])
    (one (list None true (item (one (paragraph (words (codes "a")))) no_items))))
    (one (element Cell [] (one (paragraph (words (codes "b < c"))))))))))

abbrev flat : Blocks
flat = block (tags (codes "<table>\n<tr>\n<td colspan=\"2\">"))
    (block (list None true (item (one (paragraph (words (codes "a")))) no_items))
    (one (tags (codes "</td>\n<td>b &lt; c</td>\n</tr>\n</table>"))))

pub tags_in_lines : flattened rich ≡ flat
tags_in_lines = refl

pub rich_is_normal : is_normal_document rich ≡ true
unfolding is_utf8 chars encode
rich_is_normal = refl

pub flat_is_not : is_normal_document flat ≡ false
flat_is_not = refl

pub flat_is_flat : are_flat_blocks false flat ≡ true
unfolding is_utf8 chars encode
flat_is_flat = refl

pub rich_is_not : are_flat_blocks false rich ≡ false
rich_is_not = refl

-- a cell may be empty, details not; a value is in one line
pub empty_cell : is_normal_document (one (element Cell [] no_blocks)) ≡ true
empty_cell = refl

pub empty_details : is_normal_document (one (element Details [] no_blocks)) ≡ false
empty_details = refl

pub value_of_lines : is_normal_document (one (element Cell (record { name = Open; value = codes "a\nb" } ∷ [])
    no_blocks))
    ≡ false
unfolding is_utf8 chars encode
value_of_lines = refl

pub tag_line : is_tag_line (codes "<summary>a</summary>") ≡ true
tag_line = refl

pub other_line : is_tag_line (codes "<summaries>") ≡ false
other_line = refl

-- ---- abbreviations

abbrev short : List ℕ → Inlines → Inlines
short title content = inline (formatted (Abbreviation title) content) no_inlines

pub with_title : is_normal_line (short (codes "b c") (words (codes "a"))) ≡ true
unfolding is_utf8 chars encode
with_title = refl

pub without_title : is_normal_line (short [] (words (codes "a"))) ≡ false
unfolding is_utf8 chars encode
without_title = refl

-- not in itself, whatever the titles are; beside another one
pub in_itself : is_normal_line (short (codes "b") (short (codes "c") (words (codes "a")))) ≡ false
unfolding is_utf8 chars encode
in_itself = refl

pub beside : is_normal_line (inline (formatted (Abbreviation (codes "b")) (words (codes "a")))
    (short (codes "c") (words (codes "a"))))
    ≡ true
unfolding is_utf8 chars encode
beside = refl

pub beside_equal : is_normal_line (inline (formatted Keyboard (words (codes "a")))
    (inline (formatted Keyboard (words (codes "b"))) no_inlines))
    ≡ false
unfolding is_utf8 chars encode
beside_equal = refl
