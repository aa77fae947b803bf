-- Worked rows of sizes and margins. Each holds by computing.
use Rattle.std.proofs.Common.{◌≡◌, ℕ, ◌+◌, true, refl, codes, List, [], ◌∷◌, None, Some}
use Rattle.std.specs.Fmt.{digits}
use Rattle.htmd_markdown.specs.declared.fence.CodeBlockFence.TheVariants.{Backticks}
use Rattle.htmd_markdown.specs.declared.heading.HeadingStyle.TheVariants.{Atx}
use Rattle.htmd_markdown.specs.declared.line_break.BrStyle.TheVariants.{TwoSpaces}
use Rattle.htmd_markdown.specs.declared.link.LinkStyle.TheVariants.{Inlined}
use Rattle.htmd_markdown.specs.declared.list.BulletListMarker.TheVariants.{Dash}
use Rattle.htmd_markdown.specs.declared.thematic_break.HrStyle.TheVariants.{Dashes}
use Rattle.htmd_document.specs.Documents.{Inlines, Block, Blocks, text, link, inline, no_inlines, paragraph, heading}
use Rattle.htmd_document.specs.Documents.{code_block, quote, thematic_break, list, table, no_blocks, block, no_items}
use Rattle.htmd_document.specs.Documents.{item, formatted, element as element_block}
use Rattle.htmd_document.specs.Formats.{Abbreviation}
use Rattle.htmd_document.specs.declared.document.AttributeName.TheVariants.{ColumnSpan}
use Rattle.htmd_document.specs.declared.document.BlockElement.TheVariants.{Cell}
use Rattle.htmd_commonmark.specs.declared.options.DocumentOptions.{DocumentOptions}
use Rattle.htmd_commonmark.specs.DocumentMarkdown.{markdown_of}
use Rattle.htmd_nodes.specs.NumberedTrees.{text as text_node, comment, element, none, more}
use Rattle.htmd_shown.specs.Facts.{made}
use Rattle.htmd_shown.specs.SimpleTrees as simple
use Rattle.htmd_shown.specs.declared.role.Role.TheVariants as role
use Rattle.htmd_law_sizes.specs.DocumentSizes.{size_of, lean, repeated, margin_of}
use Rattle.htmd_law_sizes.specs.SimpleSizes.{size_of_simple}
use Rattle.htmd_law_sizes.specs.TreeSizes.{size_of_tree}

abbrev options : DocumentOptions
options = record {
  heading_style = Atx;
  hr_style = Dashes;
  br_style = TwoSpaces;
  link_style = Inlined;
  code_block_fence = Backticks;
  bullet_list_marker = Dash;
  ul_bullet_spacing = 1;
  ol_number_spacing = 1;
}

abbrev letters : List ℕ → Inlines
letters s = inline (text s) no_inlines

abbrev one : Block → Blocks
one b = block b no_blocks

abbrev words : List ℕ → Blocks
words s = one (paragraph (letters s))

-- ---- sizes

-- a paragraph, a text, and its bytes
pub of_words : size_of (words (codes "ab")) ≡ 1 + 1 + 2
of_words = refl

-- a paragraph, a link, its address and title, and its text
pub of_link :
    size_of (one (paragraph (inline (link (codes "/x") (Some (codes "t")) (letters (codes "a"))) no_inlines)))
    ≡ 1 + 1 + 2 + 1 + 2
of_link = refl

-- a heading, its level, and its text
pub of_heading : size_of (one (heading 3 (letters (codes "a")))) ≡ 1 + 3 + 2
of_heading = refl

-- a code block, its language, and its bytes
pub of_code : size_of (one (code_block (Some (codes "c")) (codes "x\ny"))) ≡ 1 + 1 + 3
of_code = refl

-- a list, two items, a paragraph in the first, and a rule in a quote in the second
pub of_list :
    size_of (one (list None true (item (words (codes "a")) (item (one (quote (one thematic_break))) no_items))))
    ≡ 1 + (1 + 3) + (1 + 2)
of_list = refl

-- a table, a header of one cell, and a row of two
pub of_table :
    size_of (one (table [] (letters (codes "a") ∷ []) ((no_inlines ∷ letters (codes "b") ∷ []) ∷ [])))
    ≡ 1 + (1 + 3) + (1 + 1 + 3)
of_table = refl

-- a cell with its two tags, the text in one line with them as it is written, a paragraph, and the text
pub of_cell :
    size_of (one (element_block Cell (record { name = ColumnSpan; value = codes "2" } ∷ []) (words (codes "a<"))))
    ≡ (1 + 16) + (1 + 5) + 5 + (1 + 1 + 2)
of_cell = refl

-- ---- what is repeated

-- a link's address and title
pub of_address :
    repeated (one (paragraph (inline (link (codes "/x") (Some (codes "t")) (letters (codes "a"))) no_inlines)))
    ≡ 2 + 1
of_address = refl

-- a paragraph, a link, and its text
pub of_rest :
    lean (one (paragraph (inline (link (codes "/x") (Some (codes "t")) (letters (codes "a"))) no_inlines)))
    ≡ 1 + 1 + 2
of_rest = refl

-- the title of an abbreviation
pub of_abbreviation :
    repeated (one (paragraph (inline (formatted (Abbreviation (codes "t")) (letters (codes "a"))) no_inlines))) ≡ 1
of_abbreviation = refl

-- the language of code
pub of_language : repeated (one (code_block (Some (codes "c")) (codes "x"))) ≡ 1
of_language = refl

-- ---- margins

-- nothing stands before the lines of a paragraph
pub of_paragraph : margin_of (words (codes "a")) ≡ 0
of_paragraph = refl

-- a quote in a quote
pub of_quotes : margin_of (one (quote (one (quote (words (codes "a")))))) ≡ 2 + 2
of_quotes = refl

-- a quote in the second item of a list from 9: `10.`, four spaces and `> `
pub of_items :
    margin_of
    (one (list (Some 9) true (item (words (codes "a")) (item (one (quote (words (codes "b")))) no_items))))
    ≡ 3 + 4 + 2
unfolding digits
of_items = refl

-- ---- trees

-- an element, the bytes of its attribute's value, a text and its bytes, and a comment
pub of_tree :
    size_of_tree
    (element 1 (codes "a") (record { name = codes "href"; value = codes "/x" } ∷ [])
    (more (text_node 2 (codes "abc")) (more (comment 3 (codes "d")) none)))
    ≡ 1 + 2 + (1 + 3) + 1
of_tree = refl

-- a heading, its level, its id, and a text
pub of_simple :
    size_of_simple
    (made 1 (role.Heading 3) (record { name = codes "id"; value = codes "x" } ∷ [])
    (simple.more (simple.text (codes "ab")) simple.none))
    ≡ 1 + 3 + 1 + (1 + 2)
of_simple = refl

-- ---- what is written

-- an empty code block, whose three lines stand in an item
pub code_in_item :
    markdown_of options (one (list (Some 1) true (item (one (code_block None [])) no_items)))
    ≡ codes "1. ```\n\n   ```"
unfolding digits
code_in_item = refl
