-- The least of a block that can stand in a piece: all of it, or the least that can be cut off.
use Rattle.std.specs.Prelude.{ℕ, suc, ◌+◌, Bool, true, false, not, ◌&&◌, nat_le, nat_lt, if◌then◌else◌}
use Rattle.htmd_document.specs.Documents.{Block, paragraph, heading, code_block, quote, thematic_break, list, table}
use Rattle.htmd_document.specs.Documents.{element, tags, Blocks, no_blocks, block, Items, no_items, item}
use Rattle.htmd_document.specs.NormalInlines.{are_anchors}
use Rattle.htmd_document.specs.TightItems.{is_filled}
use Rattle.htmd_commonmark.specs.BlockMarkdown.{item_count}
use Rattle.htmd_chunks.specs.CodeLines.{least_lines}
use Rattle.htmd_chunks.specs.Measures.{gap, block_cost, item_size, item_width, empty_item_size, empties_cost}
use Rattle.htmd_chunks.specs.Rows.{least_rows}
use Rattle.htmd_chunks.specs.Sizes.{cost, in_quote, in_item}
use Rattle.htmd_chunks.specs.Words.{least_words}
use Rattle.htmd_chunks.specs.declared.bounds.Bounds.{Bounds}
use Rattle.htmd_chunks.specs.declared.bounds.ListShape.{ListShape}
use Rattle.htmd_chunks.specs.declared.size.Margin.{Margin}

-- a heading, or anchors alone, which stay with the block behind
abbrev pub is_heading : Block → Bool
is_heading (heading level content) = true
is_heading (paragraph content) = are_anchors content
is_heading _ = false

abbrev pub is_rule : Block → Bool
is_rule thematic_break = true
is_rule _ = false

-- behind headings of this cost the block doesn't fit in a piece, and can be cut
abbrev pub is_too_large : Bounds → Margin → ℕ → Block → Bool
is_too_large c m heads b = not (is_rule b) && nat_lt c.most (heads + block_cost c.options m b)

-- how many empty items stand first
abbrev pub empties_before : Items → ℕ
empties_before (item no_blocks rest) = suc (empties_before rest)
empties_before items = 0

-- an item that isn't empty, with so many empty ones behind it; `heads`: what those before it take
abbrev pub group_cost : Bounds → Margin → ListShape → ℕ → ℕ → Blocks → ℕ → ℕ
group_cost c m l k heads content after =
    heads + cost m (item_size c.options l k content) + empties_cost m l (suc k) after

-- `heads`: the cost of what stays before it, with the gaps
abbrev mutual
  pub least : Bounds → Margin → Block → ℕ
  least c m (quote content) = least_among c (in_quote m) false 0 content
  least c m (list start is_tight items) =
      least_item c m (record { start = start; is_tight = is_tight; count = item_count items }) 0 0 items
  least c m (table alignments header rows) = least_rows c m alignments header rows
  least c m (code_block language s) = least_lines c m language s
  least c m (paragraph content) = least_words c m content
  least c m (heading level content) = block_cost c.options m (heading level content)
  least c m thematic_break = block_cost c.options m thematic_break
  least c m (element name attributes content) = block_cost c.options m (element name attributes content)
  least c m (tags s) = block_cost c.options m (tags s)

  -- headings, and the block behind them or the least of it
  pub least_among : Bounds → Margin → Bool → ℕ → Blocks → ℕ
  least_among c m is_tight heads no_blocks = heads
  least_among c m is_tight heads (block first rest) =
      let whole = heads + block_cost c.options m first in
      if is_heading first
      then (if is_filled rest then least_among c m is_tight (whole + gap m is_tight) rest else whole)
      else (if is_too_large c m heads first then heads + least c m first else whole)

  -- the first item that isn't empty, with the empty ones beside it or the least of it
  pub least_item : Bounds → Margin → ListShape → ℕ → ℕ → Items → ℕ
  least_item c m l k heads no_items = heads
  least_item c m l k heads (item no_blocks rest) =
      least_item c m l (suc k) (heads + (cost m (empty_item_size l k) + gap m l.is_tight)) rest
  least_item c m l k heads (item (block first others) rest) =
      let whole = group_cost c m l k heads (block first others) (empties_before rest) in
      if nat_le whole c.most then whole
      else heads + least_among c (in_item (item_width c.options l k) m) l.is_tight 0 (block first others)
