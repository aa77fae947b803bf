-- What is repeated in a document, in characters.
use Rattle.std.proofs.Common.{ℕ, zero, suc, ◌+◌, ◌-◌, ◌*◌, ◌≤◌, Bool, true, false, List, [], ◌∷◌, length, arith}
use Rattle.std.specs.Prelude.{nat_lt, cond, Option, Some, None}
use Rattle.std.specs.Option.{unwrap_or}
use Rattle.std.specs.Str.{chars, chars_after, continuation_len, lead_bits}
use Rattle.htmd_document.specs.Documents.{Inline, Inlines, text, code, formatted, link, image, anchor, line_break, task}
use Rattle.htmd_document.specs.Documents.{no_inlines, inline, Block, Blocks, Items, paragraph, heading, code_block}
use Rattle.htmd_document.specs.Documents.{quote, thematic_break, list, table, element, tags, no_blocks, block, no_items}
use Rattle.htmd_document.specs.Documents.{item}
use Rattle.htmd_document.specs.Formats.{title_of}
use Rattle.htmd_law_sizes.specs.DocumentSizes.{size_of_option, lean_inlines, lean_inline, lean_cells, lean_rows, lean}
use Rattle.htmd_law_sizes.specs.DocumentSizes.{lean_block, lean_items, repeated_inlines, repeated_inline}
use Rattle.htmd_law_sizes.specs.DocumentSizes.{repeated_cells, repeated_rows, repeated, repeated_block, repeated_items}

-- the characters of a link's address and title
abbrev pub link_size : List ℕ → Option (List ℕ) → ℕ
link_size address title = length (chars address) + length (chars (unwrap_or title []))

abbrev mutual
  pub debt_inlines : Inlines → ℕ
  debt_inlines no_inlines = 0
  debt_inlines (inline x rest) = debt_inline x + debt_inlines rest

  pub debt_inline : Inline → ℕ
  debt_inline (text s) = 0
  debt_inline (code s) = 0
  debt_inline (formatted format content) = length (chars (title_of format)) + debt_inlines content
  debt_inline (link address title content) = link_size address title + debt_inlines content
  debt_inline (image address title description) = 0
  debt_inline (anchor id) = 0
  debt_inline line_break = 0
  debt_inline (task is_checked) = 0

abbrev pub debt_cells : List Inlines → ℕ
debt_cells [] = 0
debt_cells (content ∷ cells) = debt_inlines content + debt_cells cells

abbrev pub debt_rows : List (List Inlines) → ℕ
debt_rows [] = 0
debt_rows (cells ∷ rows) = debt_cells cells + debt_rows rows

abbrev mutual
  pub debt : Blocks → ℕ
  debt no_blocks = 0
  debt (block first rest) = debt_block first + debt rest

  pub debt_block : Block → ℕ
  debt_block (paragraph content) = debt_inlines content
  debt_block (heading level content) = debt_inlines content
  debt_block (code_block language s) = size_of_option language
  debt_block (quote content) = debt content
  debt_block thematic_break = 0
  debt_block (list start is_tight items) = debt_items items
  debt_block (table alignments header rows) = debt_rows (header ∷ rows)
  debt_block (element name attributes content) = debt content
  debt_block (tags s) = 0

  pub debt_items : Items → ℕ
  debt_items no_items = 0
  debt_items (item first rest) = debt first + debt_items rest

-- ---- bytes and characters

continues_le : (b : ℕ) → continuation_len b ≤ 3
continues_le b = go (nat_lt b 128) (nat_lt b 224) (nat_lt b 240)
  where
    go : (x y z : Bool) → cond x 0 (cond y 1 (cond z 2 3)) ≤ 3
    go true y z = omega arith
    go false true z = omega arith
    go false false true = omega arith
    go false false false = omega arith

-- n more bytes belong to the character
after_le : (n c : ℕ) (s : List ℕ) → n ≤ 3 → length s + 1 ≤ 4 * length (chars_after n c s) + n
after_le zero c [] h = omega arith
after_le zero c (b ∷ s) h =
    omega (arith, after_le (continuation_len b) (lead_bits b) s (continues_le b), continues_le b)
after_le (suc n) c [] h = omega arith
after_le (suc n) c (b ∷ s) h = omega (arith, after_le n (c * 64 + (b - 128)) s (omega (arith, h)))

pub bytes_le : (s : List ℕ) → length s ≤ 4 * length (chars s) + 3
unfolding chars
bytes_le [] = omega arith
bytes_le (b ∷ s) = omega (arith, after_le (continuation_len b) (lead_bits b) s (continues_le b), continues_le b)

title_le : (title : Option (List ℕ)) → size_of_option title ≤ 4 * length (chars (unwrap_or title [])) + 3
title_le None = omega arith
title_le (Some s) = bytes_le s

-- ---- of a document

mutual
  inlines_le : (xs : Inlines) → repeated_inlines xs ≤ 4 * debt_inlines xs + 6 * lean_inlines xs
  inlines_le no_inlines = omega arith
  inlines_le (inline x rest) = omega (arith, inline_le x, inlines_le rest)

  inline_le : (x : Inline) → repeated_inline x ≤ 4 * debt_inline x + 6 * lean_inline x
  inline_le (text s) = omega arith
  inline_le (code s) = omega arith
  inline_le (formatted format content) = omega (arith, inlines_le content, bytes_le (title_of format))
  inline_le (link address title content) = omega (arith, inlines_le content, bytes_le address, title_le title)
  inline_le (image address title description) = omega arith
  inline_le (anchor id) = omega arith
  inline_le line_break = omega arith
  inline_le (task is_checked) = omega arith

cells_le : (cells : List Inlines) → repeated_cells cells ≤ 4 * debt_cells cells + 6 * lean_cells cells
cells_le [] = omega arith
cells_le (content ∷ cells) = omega (arith, inlines_le content, cells_le cells)

rows_le : (rows : List (List Inlines)) → repeated_rows rows ≤ 4 * debt_rows rows + 6 * lean_rows rows
rows_le [] = omega arith
rows_le (cells ∷ rows) = omega (arith, cells_le cells, rows_le rows)

mutual
  pub repeated_le : (bs : Blocks) → repeated bs ≤ 4 * debt bs + 6 * lean bs
  repeated_le no_blocks = omega arith
  repeated_le (block first rest) = omega (arith, block_le first, repeated_le rest)

  block_le : (b : Block) → repeated_block b ≤ 4 * debt_block b + 6 * lean_block b
  block_le (paragraph content) = omega (arith, inlines_le content)
  block_le (heading level content) = omega (arith, inlines_le content)
  block_le (code_block language s) = omega arith
  block_le (quote content) = omega (arith, repeated_le content)
  block_le thematic_break = omega arith
  block_le (list start is_tight items) = omega (arith, items_le items)
  block_le (table alignments header rows) = omega (arith, rows_le (header ∷ rows))
  block_le (element name attributes content) = omega (arith, repeated_le content)
  block_le (tags s) = omega arith

  items_le : (items : Items) → repeated_items items ≤ 4 * debt_items items + 6 * lean_items items
  items_le no_items = omega arith
  items_le (item first rest) = omega (arith, repeated_le first, items_le rest)
