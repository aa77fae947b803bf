-- A flat document with what a reader takes its texts for in the place of its inlines.
use Rattle.std.specs.Prelude.{ℕ, Bool, List, [], Option, None}
use Rattle.htmd_document.specs.Documents as documents
use Rattle.htmd_commonmark.specs.declared.blocks.Place.{Place}
use Rattle.htmd_commonmark.specs.declared.markers.Sign.{Sign}
use Rattle.htmd_commonmark.specs.declared.markers.Markers.{Markers}
use Rattle.htmd_commonmark.specs.declared.options.DocumentOptions.{DocumentOptions}
use Rattle.htmd_commonmark.specs.BlockMarkdown.{item_count, markers_of, place_in_item, place_in_quote, behind_first}
use Rattle.htmd_commonmark.specs.BlockMarkdown.{sign_of, written_blocks, written_block}
use Rattle.htmd_commonmark.specs.DocumentMarkdown.{outermost}
use Rattle.htmd_commonmark_reading.specs.Brackets.{References, inlines}
use Rattle.htmd_commonmark_reading.specs.Lists.{item_text, cell_inlines, row_inlines}
use Rattle.htmd_commonmark_reading.specs.Markup.{Inlines, Block, Blocks, Items, paragraph, heading, code_block, quote}
use Rattle.htmd_commonmark_reading.specs.Markup.{thematic_break, list, table, html_block, no_blocks, block, no_items, item}
use Rattle.htmd_law_blocks.specs.DocumentParts.{paragraph_text, heading_text, cell_texts, table_rows}

-- `refs`: the definitions that a reader knows; `reads`: what it takes the first paragraph's text for, which in an item
-- may begin with a task
abbrev mutual
  pub first_read : References → (List ℕ → Inlines) → DocumentOptions → Place → List (List ℕ)
      → documents.Blocks → Blocks
  first_read refs reads options place definitions documents.no_blocks = no_blocks
  first_read refs reads options place definitions (documents.block first rest) =
      block (block_read refs reads options place None definitions first)
      (further_read refs options (behind_first place) (sign_of options None place.outer first)
      (written_block options place None definitions first).definitions rest)

  pub further_read : References → DocumentOptions → Place → Option Sign → List (List ℕ)
      → documents.Blocks → Blocks
  further_read refs options place before definitions documents.no_blocks = no_blocks
  further_read refs options place before definitions (documents.block first rest) =
      block (block_read refs (inlines refs) options place before definitions first)
      (further_read refs options place (sign_of options before place.outer first)
      (written_block options place before definitions first).definitions rest)

  pub block_read : References → (List ℕ → Inlines) → DocumentOptions → Place → Option Sign → List
      (List ℕ)
      → documents.Block → Block
  block_read refs reads options place before definitions (documents.paragraph content) =
      paragraph (reads (paragraph_text options definitions content))
  block_read refs reads options place before definitions (documents.heading level content) =
      heading level (inlines refs (heading_text options definitions level content))
  block_read refs reads options place before definitions (documents.code_block language s) = code_block language s
  block_read refs reads options place before definitions (documents.quote content) =
      quote (first_read refs (inlines refs) options (place_in_quote place.in_item) definitions content)
  block_read refs reads options place before definitions documents.thematic_break = thematic_break
  block_read refs reads options place before definitions (documents.element name attributes content) = html_block []
  block_read refs reads options place before definitions (documents.tags s) = html_block s
  block_read refs reads options place before definitions (documents.list start is_tight items) =
      list start is_tight
      (items_read refs options (markers_of options before place.outer start (item_count items)) is_tight definitions
      items)
  block_read refs reads options place before definitions (documents.table alignments header rows) =
      table alignments (cell_inlines refs (cell_texts options definitions header))
      (row_inlines refs (table_rows options definitions header rows))

  pub items_read : References → DocumentOptions → Markers → Bool → List (List ℕ) → documents.Items → Items
  items_read refs options markers is_tight definitions documents.no_items = no_items
  items_read refs options markers is_tight definitions (documents.item first rest) =
      item (first_read refs (item_text refs) options (place_in_item markers is_tight) definitions first)
      (items_read refs options markers is_tight
      (written_blocks options (place_in_item markers is_tight) definitions first).definitions rest)

abbrev pub document_read : References → DocumentOptions → documents.Blocks → Blocks
document_read refs options document = first_read refs (inlines refs) options outermost [] document
