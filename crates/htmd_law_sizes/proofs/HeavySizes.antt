-- The size without what is repeated, where each byte of a text counts six: alone in an element it is written in one
-- line with the tags, at most five bytes for one.
use Rattle.std.proofs.Common.{ℕ, suc, ◌+◌, ◌*◌, ◌≤◌, Bool, true, false, List, [], ◌∷◌, length, arith}
use Rattle.std.proofs.lemmas.List.{length-append}
use Rattle.std.specs.Prelude.{◌==◌, if◌then◌else◌, codes}
use Rattle.htmd_lexical.specs.Characters.{ampersand, less_than_sign}
use Rattle.htmd_document.specs.declared.document.BlockElement.{BlockElement}
use Rattle.htmd_document.specs.Documents.{Inline, Inlines, text, code, formatted, link, image, anchor, line_break, task}
use Rattle.htmd_document.specs.Documents.{no_inlines, inline, Block, Blocks, Items, paragraph, heading, code_block}
use Rattle.htmd_document.specs.Documents.{quote, thematic_break, list, table, element, tags, no_blocks, block, no_items}
use Rattle.htmd_document.specs.Documents.{item, BlockAttribute}
use Rattle.htmd_document.specs.FlatDocuments.{text_in_line}
use Rattle.htmd_document.specs.Tags.{in_text, escaped_text, element_tag, end_of_element}
use Rattle.htmd_law_sizes.specs.DocumentSizes.{size_of_option, size_in_line, lean_inlines, lean_inline, lean_cells}
use Rattle.htmd_law_sizes.specs.DocumentSizes.{lean_rows, lean, lean_block, lean_items}

abbrev mutual
  pub heavy_inlines : Inlines → ℕ
  heavy_inlines no_inlines = 0
  heavy_inlines (inline x rest) = heavy_inline x + heavy_inlines rest

  pub heavy_inline : Inline → ℕ
  heavy_inline (text s) = suc (6 * length s)
  heavy_inline (code s) = suc (length s)
  heavy_inline (formatted format content) = suc (heavy_inlines content)
  heavy_inline (link address title content) = suc (heavy_inlines content)
  heavy_inline (image address title description) = suc (length address + size_of_option title + length description)
  heavy_inline (anchor id) = suc (length id)
  heavy_inline line_break = 1
  heavy_inline (task is_checked) = 1

abbrev pub heavy_cells : List Inlines → ℕ
heavy_cells [] = 0
heavy_cells (content ∷ cells) = suc (heavy_inlines content) + heavy_cells cells

abbrev pub heavy_rows : List (List Inlines) → ℕ
heavy_rows [] = 0
heavy_rows (cells ∷ rows) = suc (heavy_cells cells) + heavy_rows rows

-- the two tags of an element
abbrev pub both_tags : BlockElement → List BlockAttribute → ℕ
both_tags name attributes = suc (length (element_tag name attributes)) + suc (length (end_of_element name))

abbrev mutual
  pub heavy : Blocks → ℕ
  heavy no_blocks = 0
  heavy (block first rest) = heavy_block first + heavy rest

  pub heavy_block : Block → ℕ
  heavy_block (paragraph content) = suc (heavy_inlines content)
  heavy_block (heading level content) = suc (level + heavy_inlines content)
  heavy_block (code_block language s) = suc (length s)
  heavy_block (quote content) = suc (heavy content)
  heavy_block thematic_break = 1
  heavy_block (list start is_tight items) = suc (heavy_items items)
  heavy_block (table alignments header rows) = suc (heavy_rows (header ∷ rows))
  heavy_block (element name attributes content) = both_tags name attributes + heavy content
  heavy_block (tags s) = suc (length s)

  pub heavy_items : Items → ℕ
  heavy_items no_items = 0
  heavy_items (item first rest) = suc (heavy first) + heavy_items rest

-- ---- at least the size

mutual
  inlines_le : (xs : Inlines) → lean_inlines xs ≤ heavy_inlines xs
  inlines_le no_inlines = omega arith
  inlines_le (inline x rest) = omega (arith, inline_le x, inlines_le rest)

  inline_le : (x : Inline) → lean_inline x ≤ heavy_inline x
  inline_le (text s) = omega arith
  inline_le (code s) = omega arith
  inline_le (formatted format content) = omega (arith, inlines_le content)
  inline_le (link address title content) = omega (arith, inlines_le content)
  inline_le (image address title description) = omega arith
  inline_le (anchor id) = omega arith
  inline_le line_break = omega arith
  inline_le (task is_checked) = omega arith

cells_le : (cells : List Inlines) → lean_cells cells ≤ heavy_cells cells
cells_le [] = omega arith
cells_le (content ∷ cells) = omega (arith, inlines_le content, cells_le cells)

rows_le : (rows : List (List Inlines)) → lean_rows rows ≤ heavy_rows rows
rows_le [] = omega arith
rows_le (cells ∷ rows) = omega (arith, cells_le cells, rows_le rows)

in_text_le : (b : ℕ) → length (in_text b) ≤ 5
in_text_le b = go (b == ampersand) (b == less_than_sign)
  where
    go : (x y : Bool)
        → length (if x then codes "&amp;" else (if y then codes "&lt;" else b ∷ [])) ≤ 5
    go true y = omega arith
    go false true = omega arith
    go false false = omega arith

escaped_le : (s : List ℕ) → length (escaped_text s) ≤ 5 * length s
escaped_le [] = omega arith
escaped_le (b ∷ s) = omega (arith, escaped_le s, in_text_le b, length-append (in_text b) (escaped_text s))

-- with the text that stands in one line with tags
in_line_le : (bs : Blocks) → lean bs ≤ heavy bs → size_in_line (text_in_line bs) + lean bs ≤ heavy bs
in_line_le no_blocks h = omega arith
in_line_le (block (paragraph no_inlines) no_blocks) h = omega (arith, h)
in_line_le (block (paragraph (inline (text s) no_inlines)) no_blocks) h = omega (arith, escaped_le s)
in_line_le (block (paragraph (inline (code s) no_inlines)) no_blocks) h = omega (arith, h)
in_line_le (block (paragraph (inline (formatted format content) no_inlines)) no_blocks) h = omega (arith, h)
in_line_le (block (paragraph (inline (link address title content) no_inlines)) no_blocks) h = omega (arith, h)
in_line_le (block (paragraph (inline (image address title description) no_inlines)) no_blocks) h = omega (arith, h)
in_line_le (block (paragraph (inline (anchor id) no_inlines)) no_blocks) h = omega (arith, h)
in_line_le (block (paragraph (inline line_break no_inlines)) no_blocks) h = omega (arith, h)
in_line_le (block (paragraph (inline (task is_checked) no_inlines)) no_blocks) h = omega (arith, h)
in_line_le (block (paragraph (inline x (inline y ys))) no_blocks) h = omega (arith, h)
in_line_le (block (heading level content) no_blocks) h = omega (arith, h)
in_line_le (block (code_block language s) no_blocks) h = omega (arith, h)
in_line_le (block (quote content) no_blocks) h = omega (arith, h)
in_line_le (block thematic_break no_blocks) h = omega (arith, h)
in_line_le (block (list start is_tight items) no_blocks) h = omega (arith, h)
in_line_le (block (table alignments header rows) no_blocks) h = omega (arith, h)
in_line_le (block (element name attributes content) no_blocks) h = omega (arith, h)
in_line_le (block (tags s) no_blocks) h = omega (arith, h)
in_line_le (block b (block c bs)) h = omega (arith, h)

mutual
  pub lean_le : (bs : Blocks) → lean bs ≤ heavy bs
  lean_le no_blocks = omega arith
  lean_le (block first rest) = omega (arith, block_le first, lean_le rest)

  block_le : (b : Block) → lean_block b ≤ heavy_block b
  block_le (paragraph content) = omega (arith, inlines_le content)
  block_le (heading level content) = omega (arith, inlines_le content)
  block_le (code_block language s) = omega arith
  block_le (quote content) = omega (arith, lean_le content)
  block_le thematic_break = omega arith
  block_le (list start is_tight items) = omega (arith, items_le items)
  block_le (table alignments header rows) = omega (arith, rows_le (header ∷ rows))
  block_le (element name attributes content) = omega (arith, in_line_le content (lean_le content))
  block_le (tags s) = omega arith

  items_le : (items : Items) → lean_items items ≤ heavy_items items
  items_le no_items = omega arith
  items_le (item first rest) = omega (arith, lean_le first, items_le rest)
