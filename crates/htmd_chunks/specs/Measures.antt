-- The sizes of blocks. Those of containers are sums, so that parts of them take no more.
use Rattle.std.specs.Prelude.{ℕ, zero, suc, ◌+◌, ◌-◌, Bool, false, Option, Some, None, List}
use Rattle.std.specs.List.{sum_by}
use Rattle.htmd_text.specs.Digits.{digits}
use Rattle.htmd_markdown.specs.ListItems.{aligned_spaces}
use Rattle.htmd_document.specs.Documents.{Block, paragraph, heading, code_block, quote, thematic_break, list, table}
use Rattle.htmd_document.specs.Documents.{element, tags, Blocks, no_blocks, block, Items, no_items, item}
use Rattle.htmd_commonmark.specs.BlockMarkdown.{bounded, item_count}
use Rattle.htmd_commonmark.specs.DocumentMarkdown.{markdown_of}
use Rattle.htmd_commonmark.specs.declared.options.DocumentOptions.{DocumentOptions}
use Rattle.htmd_chunks.specs.Sizes.{nothing, plus, text_size, gap_size, quoted_size, indented_size, cost}
use Rattle.htmd_chunks.specs.declared.bounds.ListShape.{ListShape}
use Rattle.htmd_chunks.specs.declared.size.Margin.{Margin}
use Rattle.htmd_chunks.specs.declared.size.Size.{Size}

-- ---- items

-- the marker of the item at this place of a list with this start or none
abbrev pub marker_len : Option ℕ → ℕ → ℕ
marker_len None k = 1
marker_len (Some start) k = digits (start + k) + 1

-- the marker with the spaces behind it, as in the whole list
abbrev pub spaces_len : DocumentOptions → Option ℕ → ℕ → ℕ → ℕ
spaces_len options None count k = bounded options.ul_bullet_spacing
spaces_len options (Some start) count k =
    bounded (aligned_spaces options.ol_number_spacing (start + count - 1) (start + k))

abbrev pub item_width : DocumentOptions → ListShape → ℕ → ℕ
item_width options l k = marker_len l.start k + spaces_len options l.start l.count k

abbrev pub empty_item_size : ListShape → ℕ → Size
empty_item_size l k = record { bytes = marker_len l.start k; full = 1; empty = 0 }

-- ---- blocks

-- a block that stands alone
abbrev pub written_size : DocumentOptions → Block → Size
written_size options b = text_size (markdown_of options (block b no_blocks))

abbrev mutual
  pub block_size : DocumentOptions → Block → Size
  block_size options (quote content) = quoted_size (blocks_size options false content)
  block_size options (list start is_tight items) =
      items_size options (record { start = start; is_tight = is_tight; count = item_count items }) 0 items
  block_size options (paragraph content) = written_size options (paragraph content)
  block_size options (heading level content) = written_size options (heading level content)
  block_size options (code_block language s) = written_size options (code_block language s)
  block_size options thematic_break = written_size options thematic_break
  block_size options (table alignments header rows) = written_size options (table alignments header rows)
  block_size options (element name attributes content) = written_size options (element name attributes content)
  block_size options (tags s) = written_size options (tags s)

  -- the first one and then the others
  pub blocks_size : DocumentOptions → Bool → Blocks → Size
  blocks_size options is_tight no_blocks = nothing
  blocks_size options is_tight (block first rest) =
      plus (block_size options first) (further_size options is_tight rest)

  -- each block with the gap before it
  pub further_size : DocumentOptions → Bool → Blocks → Size
  further_size options is_tight no_blocks = nothing
  further_size options is_tight (block first rest) =
      plus (plus (gap_size is_tight) (block_size options first)) (further_size options is_tight rest)

  -- the item at this place
  pub item_size : DocumentOptions → ListShape → ℕ → Blocks → Size
  item_size options l k no_blocks = empty_item_size l k
  item_size options l k (block first rest) =
      indented_size (item_width options l k)
      (plus (block_size options first) (further_size options l.is_tight rest))

  -- items from this place on
  pub items_size : DocumentOptions → ListShape → ℕ → Items → Size
  items_size options l k no_items = nothing
  items_size options l k (item first rest) =
      plus (item_size options l k first) (further_items_size options l (suc k) rest)

  pub further_items_size : DocumentOptions → ListShape → ℕ → Items → Size
  further_items_size options l k no_items = nothing
  further_items_size options l k (item first rest) =
      plus (plus (gap_size l.is_tight) (item_size options l k first)) (further_items_size options l (suc k) rest)

-- ---- behind a margin

abbrev pub gap : Margin → Bool → ℕ
gap m is_tight = cost m (gap_size is_tight)

abbrev pub block_cost : DocumentOptions → Margin → Block → ℕ
block_cost options m b = cost m (block_size options b)

-- blocks, each with a gap behind it
abbrev pub heads_cost : DocumentOptions → Margin → Bool → List Block → ℕ
heads_cost options m is_tight heads = sum_by (λ h. block_cost options m h + gap m is_tight) heads

-- empty items from this place on, each with a gap
abbrev pub empties_cost : Margin → ListShape → ℕ → ℕ → ℕ
empties_cost m l k zero = 0
empties_cost m l k (suc n) = (cost m (empty_item_size l k) + gap m l.is_tight) + empties_cost m l (suc k) n
