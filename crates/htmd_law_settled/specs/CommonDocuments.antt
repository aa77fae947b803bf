-- What is left to ask of a page's document so that it comes back: all else that this takes holds of each.
use Rattle.std.specs.Prelude.{None, Bool, true, ◌&&◌, nat_le, List, []}
use Rattle.htmd_document.specs.Documents.{Block, heading, quote, list, element, Blocks, no_blocks, block}
use Rattle.htmd_document.specs.Documents.{Items, no_items, item, BlockAttribute}
use Rattle.htmd_document.specs.declared.document.BlockElement.{BlockElement}
use Rattle.htmd_document.specs.declared.document.BlockElement.TheVariants as an
use Rattle.htmd_document_of_tree.specs.declared.anchors.Anchors.{Anchors}
use Rattle.htmd_document_of_tree.specs.declared.anchors.Anchors.TheVariants as which
use Rattle.htmd_law_rendering.specs.PlainReadings.{trees_depth}
use Rattle.htmd_law_returning.specs.LastingAnchors.{lines_in, are_led_to}
use Rattle.htmd_law_returning.specs.NoAnchors.{blocks_have_no_anchors}
use Rattle.htmd_law_returning.specs.SettledDocuments.{are_away, is_light}
use Rattle.htmd_law_returning.specs.SettledDocuments.{blocks_are_away}
use Rattle.htmd_law_returning.specs.SettledTables.{rows_are_read, end_at_captions, rows_in}

-- what is left to ask of an element: no link in a title is for its own place
abbrev pub is_common_element : BlockElement → List BlockAttribute → Blocks → Bool
is_common_element an.Details attributes content = true
is_common_element an.Summary attributes content = blocks_are_away content
is_common_element an.Terms attributes content = true
is_common_element an.Term attributes content = blocks_are_away content
is_common_element an.Meaning attributes content = true
is_common_element an.Figure attributes content = true
is_common_element an.FigureCaption attributes content = blocks_are_away content
-- no cell takes rows past the last or past a caption
is_common_element an.Table attributes content = end_at_captions (rows_in None content)
is_common_element an.Caption attributes content = blocks_are_away content
is_common_element an.Row attributes content = true
-- HTML has no cell of more than 65,534 rows
is_common_element an.Cell attributes content = rows_are_read attributes
is_common_element an.HeaderCell attributes content = rows_are_read attributes

abbrev mutual
  pub is_common_block : Block → Bool
  -- there a link that is a sign alone stands for its own place
  is_common_block (heading level content) = are_away content
  is_common_block (quote content) = are_common_blocks content
  is_common_block (list start is_tight items) = are_common_items items
  is_common_block (element name attributes content) =
      is_common_element name attributes content && are_common_blocks content
  is_common_block b = true

  pub are_common_blocks : Blocks → Bool
  are_common_blocks no_blocks = true
  are_common_blocks (block b bs) = is_common_block b && are_common_blocks bs

  pub are_common_items : Items → Bool
  are_common_items no_items = true
  are_common_items (item bs rest) = are_common_blocks bs && are_common_items rest

-- by Linked a link leads to each anchor
abbrev pub has_common_anchors : Anchors → Blocks → Bool
has_common_anchors which.Linked d = are_led_to [] (lines_in d)
has_common_anchors which d = true

-- by which choice of anchors its page has them again: by that of its page, by All, or by another that keeps them
abbrev pub keeps_by : (own again : Anchors) → Blocks → Bool
keeps_by which.None again d = true
keeps_by own which.None d = blocks_have_no_anchors d
keeps_by which.All which.Linked d = are_led_to [] (lines_in d)
keeps_by own again d = true

-- elements, quotes and lists are in each other only as deep as a tree goes, as quotes and lists alone always are
abbrev pub is_shallow : Blocks → Bool
is_shallow d = nat_le (trees_depth d) 998

-- Past a budget, which grows with what a page says and with each pair of address and title once, its links are their
-- content.
abbrev pub is_common : Anchors → Blocks → Bool
is_common which d = are_common_blocks d && has_common_anchors which d && is_shallow d && is_light d
