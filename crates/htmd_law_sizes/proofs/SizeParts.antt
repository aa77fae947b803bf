-- The size of a document is what is repeated, and the rest.
use Rattle.std.proofs.Common.{◌≡◌, refl, ◌+◌, List, [], ◌∷◌, arith}
use Rattle.htmd_document.specs.Documents.{Inline, Inlines, text, code, formatted, link, image, anchor, line_break, task}
use Rattle.htmd_document.specs.Documents.{no_inlines, inline, Block, Blocks, Items, paragraph, heading, code_block}
use Rattle.htmd_document.specs.Documents.{quote, thematic_break, list, table, element, tags, no_blocks, block, no_items, item}
use Rattle.htmd_law_sizes.specs.DocumentSizes.{size_of_inlines, size_of_inline, size_of_cells, size_of_rows, size_of}
use Rattle.htmd_law_sizes.specs.DocumentSizes.{size_of_block, size_of_items, lean_inlines, lean_inline, lean_cells}
use Rattle.htmd_law_sizes.specs.DocumentSizes.{lean_rows, lean, lean_block, lean_items, repeated_inlines}
use Rattle.htmd_law_sizes.specs.DocumentSizes.{repeated_inline, repeated_cells, repeated_rows, repeated, repeated_block}
use Rattle.htmd_law_sizes.specs.DocumentSizes.{repeated_items}

mutual
  inlines_parts : (xs : Inlines) → size_of_inlines xs ≡ lean_inlines xs + repeated_inlines xs
  inlines_parts no_inlines = refl
  inlines_parts (inline x rest) = omega (arith, inline_parts x, inlines_parts rest)

  inline_parts : (x : Inline) → size_of_inline x ≡ lean_inline x + repeated_inline x
  inline_parts (text s) = omega arith
  inline_parts (code s) = omega arith
  inline_parts (formatted format content) = omega (arith, inlines_parts content)
  inline_parts (link address title content) = omega (arith, inlines_parts content)
  inline_parts (image address title description) = omega arith
  inline_parts (anchor id) = omega arith
  inline_parts line_break = refl
  inline_parts (task is_checked) = refl

cells_parts : (cells : List Inlines) → size_of_cells cells ≡ lean_cells cells + repeated_cells cells
cells_parts [] = refl
cells_parts (content ∷ cells) = omega (arith, inlines_parts content, cells_parts cells)

rows_parts : (rows : List (List Inlines)) → size_of_rows rows ≡ lean_rows rows + repeated_rows rows
rows_parts [] = refl
rows_parts (cells ∷ rows) = omega (arith, cells_parts cells, rows_parts rows)

mutual
  pub size_parts : (bs : Blocks) → size_of bs ≡ lean bs + repeated bs
  size_parts no_blocks = refl
  size_parts (block first rest) = omega (arith, block_parts first, size_parts rest)

  block_parts : (b : Block) → size_of_block b ≡ lean_block b + repeated_block b
  block_parts (paragraph content) = omega (arith, inlines_parts content)
  block_parts (heading level content) = omega (arith, inlines_parts content)
  block_parts (code_block language s) = omega arith
  block_parts (quote content) = omega (arith, size_parts content)
  block_parts thematic_break = refl
  block_parts (list start is_tight items) = omega (arith, items_parts items)
  block_parts (table alignments header rows) = omega (arith, rows_parts (header ∷ rows))
  block_parts (element name attributes content) = omega (arith, size_parts content)
  block_parts (tags s) = omega arith

  items_parts : (items : Items) → size_of_items items ≡ lean_items items + repeated_items items
  items_parts no_items = refl
  items_parts (item first rest) = omega (arith, size_parts first, items_parts rest)
