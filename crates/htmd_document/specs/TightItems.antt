-- Which items may be in a tight list.
use Rattle.std.specs.Prelude.{ℕ, ◌==◌, Bool, true, false, not, ◌&&◌, Option, Some, None}
use Rattle.htmd_document.specs.Documents.{Block, paragraph, list, table, tags, Blocks, no_blocks, block, Items}
use Rattle.htmd_document.specs.Documents.{no_items, item}

abbrev pub is_filled : Blocks → Bool
is_filled no_blocks = false
is_filled (block b bs) = true

abbrev pub is_paragraph : Block → Bool
is_paragraph (paragraph content) = true
is_paragraph _ = false

abbrev pub is_table : Block → Bool
is_table (table alignments header rows) = true
is_table _ = false

abbrev pub are_tags : Block → Bool
are_tags (tags s) = true
are_tags _ = false

abbrev pub begins_with_blocks : Items → Bool
begins_with_blocks no_items = false
begins_with_blocks (item bs rest) = is_filled bs

abbrev pub is_one_or_none : Option ℕ → Bool
is_one_or_none None = true
is_one_or_none (Some n) = n == 1

-- a list that can follow a paragraph without a blank line (CommonMark 0.31.2, 5.3)
abbrev pub goes_on_a_paragraph : Block → Bool
goes_on_a_paragraph (list start is_tight items) = is_one_or_none start && begins_with_blocks items
goes_on_a_paragraph _ = false

-- Of an item as it is written: nothing, one block that is no table and no tags, or a paragraph and a list.
abbrev pub is_tight_item : Blocks → Bool
is_tight_item no_blocks = true
is_tight_item (block b no_blocks) = not (is_table b) && not (are_tags b)
is_tight_item (block b (block c no_blocks)) = is_paragraph b && goes_on_a_paragraph c
is_tight_item (block b (block c (block d bs))) = false

-- one block at most
abbrev pub is_short : Blocks → Bool
is_short no_blocks = true
is_short (block b no_blocks) = true
is_short (block b (block c bs)) = false
