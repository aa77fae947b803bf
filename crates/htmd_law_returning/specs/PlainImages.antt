-- What is read with no raw tag in the description of an image.
use Rattle.std.specs.Prelude.{Bool, true, ◌&&◌}
use Rattle.std.specs.List.{list_all}
use Rattle.htmd_commonmark_reading.specs.Markup.{Block, paragraph, heading, code_block, quote, thematic_break, list}
use Rattle.htmd_commonmark_reading.specs.Markup.{table, html_block, Blocks, no_blocks, block, Items, no_items, item}
use Rattle.htmd_law_inlines.specs.PlainReadings.{is_read_plainly}

abbrev mutual
  pub block_has_plain_images : Block → Bool
  block_has_plain_images (paragraph xs) = is_read_plainly true xs
  block_has_plain_images (heading level xs) = is_read_plainly true xs
  block_has_plain_images (code_block language s) = true
  block_has_plain_images (quote bs) = blocks_have_plain_images bs
  block_has_plain_images thematic_break = true
  block_has_plain_images (list start tight items) = items_have_plain_images items
  block_has_plain_images (table alignments header rows) =
      list_all (is_read_plainly true) header && list_all (list_all (is_read_plainly true)) rows
  block_has_plain_images (html_block s) = true

  pub blocks_have_plain_images : Blocks → Bool
  blocks_have_plain_images no_blocks = true
  blocks_have_plain_images (block b bs) = block_has_plain_images b && blocks_have_plain_images bs

  pub items_have_plain_images : Items → Bool
  items_have_plain_images no_items = true
  items_have_plain_images (item bs rest) = blocks_have_plain_images bs && items_have_plain_images rest
