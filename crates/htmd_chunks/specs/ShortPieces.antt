-- Which pieces may be longer than asked: what can't be cut, and what ends in an empty item.
use Rattle.std.specs.Prelude.{ℕ, suc, Bool, true, false, not, ◌&&◌, ◌||◌, nat_le, List, length}
use Rattle.std.specs.List.{count_by, slice_split}
use Rattle.htmd_text.specs.Trims.{is_line_feed}
use Rattle.htmd_document.specs.Documents.{Block, paragraph, heading, code_block, quote, thematic_break, list, table}
use Rattle.htmd_document.specs.Documents.{element, tags, Blocks, no_blocks, block, Items, no_items, item}
use Rattle.htmd_document.specs.TightItems.{is_filled}
use Rattle.htmd_chunks.specs.CodeLines.{is_blank}
use Rattle.htmd_chunks.specs.Least.{is_heading, is_rule}
use Rattle.htmd_chunks.specs.Words.{words_of}

-- headings, and behind them nothing or a thematic break
abbrev pub are_headings : Blocks → Bool
are_headings no_blocks = true
are_headings (block b rest) = is_heading b && are_headings rest || is_rule b && not (is_filled rest)

-- how many items aren't empty
abbrev pub filled_count : Items → ℕ
filled_count no_items = 0
filled_count (item no_blocks rest) = filled_count rest
filled_count (item (block b bs) rest) = suc (filled_count rest)

-- how many lines aren't blank
abbrev pub line_count : List ℕ → ℕ
line_count s = count_by (λ line. not (is_blank line)) (slice_split is_line_feed s)

abbrev mutual
  -- headings alone or before a thematic break, or one block that can't be cut
  pub are_least : Blocks → Bool
  are_least no_blocks = true
  are_least (block b rest) = are_headings (block b rest) || is_least b && not (is_filled rest)

  -- cut down to one item, row, line or word, or never cut
  pub is_least : Block → Bool
  is_least (quote content) = are_least content
  is_least (list start is_tight items) = are_least_items items
  is_least (table alignments header rows) = nat_le (length rows) 1
  is_least (code_block language s) = nat_le (line_count s) 1
  is_least (paragraph content) = nat_le (length (words_of content)) 1
  is_least (heading level content) = true
  is_least thematic_break = true
  is_least (element name attributes content) = true
  is_least (tags s) = true

  -- one item, of which what stands in it can't be cut or before which empty ones stand
  pub are_least_items : Items → Bool
  are_least_items no_items = true
  are_least_items (item no_blocks rest) = nat_le (filled_count rest) 1
  are_least_items (item (block b bs) rest) = are_least (block b bs) && nat_le (filled_count rest) 0

abbrev mutual
  -- the last item of what stands last is empty
  pub end_empty : Blocks → Bool
  end_empty no_blocks = false
  end_empty (block b no_blocks) = ends_empty b
  end_empty (block b (block c bs)) = end_empty (block c bs)

  pub ends_empty : Block → Bool
  ends_empty (quote content) = end_empty content
  ends_empty (list start is_tight items) = items_end_empty items
  ends_empty (paragraph content) = false
  ends_empty (heading level content) = false
  ends_empty (code_block language s) = false
  ends_empty thematic_break = false
  ends_empty (table alignments header rows) = false
  ends_empty (element name attributes content) = false
  ends_empty (tags s) = false

  pub items_end_empty : Items → Bool
  items_end_empty no_items = false
  items_end_empty (item content no_items) = not (is_filled content) || end_empty content
  items_end_empty (item content (item next rest)) = items_end_empty (item next rest)

abbrev pub may_be_longer : Blocks → Bool
may_be_longer bs = are_least bs || end_empty bs
