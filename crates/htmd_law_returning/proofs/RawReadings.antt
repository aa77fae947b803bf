-- What is read without raw tags in its lines but those of anchors.
use Rattle.std.specs.Prelude.{Bool, true, false, ◌&&◌, List, [], ◌∷◌}
use Rattle.htmd_commonmark_reading.specs.Markup.{Inlines, no_inlines, letter, code, formatted, link, image, line_break}
use Rattle.htmd_commonmark_reading.specs.Markup.{task, raw, Block, paragraph, heading, code_block, quote}
use Rattle.htmd_commonmark_reading.specs.Markup.{thematic_break, list, table, html_block, Blocks, no_blocks, block}
use Rattle.htmd_commonmark_reading.specs.Markup.{Items, no_items, item}
use Rattle.htmd_law_rendering.proofs.PairedLemmas.{is_anchor, is_end}
use Rattle.htmd_law_inlines.specs.PlainReadings.{is_untagged}

-- no raw tag stands in it but the two of an anchor
abbrev pub has_no_raw : Inlines → Bool
has_no_raw no_inlines = true
has_no_raw (letter c xs) = has_no_raw xs
has_no_raw (code s xs) = has_no_raw xs
has_no_raw (formatted f content xs) = has_no_raw content && has_no_raw xs
has_no_raw (link a t content xs) = has_no_raw content && has_no_raw xs
has_no_raw (image a t content xs) = is_untagged content && has_no_raw xs
has_no_raw (line_break xs) = has_no_raw xs
has_no_raw (task d xs) = has_no_raw xs
has_no_raw (raw tag (raw end xs)) = is_anchor tag && is_end end && has_no_raw xs
has_no_raw (raw tag xs) = false

abbrev pub cells_have_no_raw : List Inlines → Bool
cells_have_no_raw [] = true
cells_have_no_raw (c ∷ cs) = has_no_raw c && cells_have_no_raw cs

abbrev pub rows_have_no_raw : List (List Inlines) → Bool
rows_have_no_raw [] = true
rows_have_no_raw (r ∷ rs) = cells_have_no_raw r && rows_have_no_raw rs

abbrev mutual
  pub block_has_no_raw : Block → Bool
  block_has_no_raw (paragraph xs) = has_no_raw xs
  block_has_no_raw (heading level xs) = has_no_raw xs
  block_has_no_raw (code_block language s) = true
  block_has_no_raw (quote bs) = blocks_have_no_raw bs
  block_has_no_raw thematic_break = true
  block_has_no_raw (list start tight items) = items_have_no_raw items
  block_has_no_raw (table alignments header rows) = cells_have_no_raw header && rows_have_no_raw rows
  block_has_no_raw (html_block s) = true

  pub blocks_have_no_raw : Blocks → Bool
  blocks_have_no_raw no_blocks = true
  blocks_have_no_raw (block b bs) = block_has_no_raw b && blocks_have_no_raw bs

  pub items_have_no_raw : Items → Bool
  items_have_no_raw no_items = true
  items_have_no_raw (item bs rest) = blocks_have_no_raw bs && items_have_no_raw rest
