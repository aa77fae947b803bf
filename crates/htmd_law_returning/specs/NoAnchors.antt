-- Documents without anchors.
use Rattle.std.specs.Prelude.{Bool, true, false, ◌&&◌}
use Rattle.std.specs.List.{list_all}
use Rattle.htmd_document.specs.Documents.{Inline, text, code, formatted, link, image, anchor, line_break, task}
use Rattle.htmd_document.specs.Documents.{Inlines, no_inlines, inline, Block, paragraph, heading, code_block, quote}
use Rattle.htmd_document.specs.Documents.{thematic_break, list, table, element, tags, Blocks, no_blocks, block}
use Rattle.htmd_document.specs.Documents.{Items, no_items, item}

abbrev mutual
  pub has_no_anchors : Inline → Bool
  has_no_anchors (text s) = true
  has_no_anchors (code s) = true
  has_no_anchors (formatted f content) = have_no_anchors content
  has_no_anchors (link a t content) = have_no_anchors content
  has_no_anchors (image a t description) = true
  has_no_anchors (anchor id) = false
  has_no_anchors line_break = true
  has_no_anchors (task d) = true

  pub have_no_anchors : Inlines → Bool
  have_no_anchors no_inlines = true
  have_no_anchors (inline x rest) = has_no_anchors x && have_no_anchors rest

abbrev mutual
  pub block_has_no_anchors : Block → Bool
  block_has_no_anchors (paragraph content) = have_no_anchors content
  block_has_no_anchors (heading level content) = have_no_anchors content
  block_has_no_anchors (code_block language s) = true
  block_has_no_anchors (quote content) = blocks_have_no_anchors content
  block_has_no_anchors thematic_break = true
  block_has_no_anchors (list start is_tight items) = items_have_no_anchors items
  block_has_no_anchors (table alignments header rows) =
      list_all have_no_anchors header && list_all (list_all have_no_anchors) rows
  block_has_no_anchors (element name attributes content) = blocks_have_no_anchors content
  block_has_no_anchors (tags s) = true

  pub blocks_have_no_anchors : Blocks → Bool
  blocks_have_no_anchors no_blocks = true
  blocks_have_no_anchors (block b bs) = block_has_no_anchors b && blocks_have_no_anchors bs

  pub items_have_no_anchors : Items → Bool
  items_have_no_anchors no_items = true
  items_have_no_anchors (item bs rest) = blocks_have_no_anchors bs && items_have_no_anchors rest
