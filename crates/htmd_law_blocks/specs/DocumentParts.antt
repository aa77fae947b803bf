-- The closed blocks that a flat document is: the same tree, with what is written of its inlines in their place.
use Rattle.std.specs.Prelude.{ℕ, suc, ◌+◌, Bool, false, not, if◌then◌else◌, List, [], ◌∷◌, length, map, Option, Some, None}
use Rattle.htmd_document.specs.Documents.{Inlines, Block, Blocks, Items, paragraph, heading, code_block, quote}
use Rattle.htmd_document.specs.Documents.{thematic_break, list, table, element, tags, no_blocks, block, no_items, item}
use Rattle.htmd_commonmark.specs.declared.blocks.Place.{Place}
use Rattle.htmd_commonmark.specs.declared.line.LineKind.TheVariants.{Paragraph, Heading, Cell}
use Rattle.htmd_commonmark.specs.declared.markers.Sign.{Sign}
use Rattle.htmd_commonmark.specs.declared.markers.Markers.{Markers}
use Rattle.htmd_commonmark.specs.declared.markers.Markers.TheVariants.{Bullets, Numbers}
use Rattle.htmd_commonmark.specs.declared.options.DocumentOptions.{DocumentOptions}
use Rattle.htmd_commonmark.specs.InlineMarkdown.{written_line}
use Rattle.htmd_commonmark.specs.BlockMarkdown.{line_of, is_underlined, marker, spaces, item_count, markers_of}
use Rattle.htmd_commonmark.specs.BlockMarkdown.{place_in_item, place_in_quote, behind_first, sign_of, written_blocks}
use Rattle.htmd_commonmark.specs.BlockMarkdown.{written_block}
use Rattle.htmd_commonmark.specs.DocumentMarkdown.{outermost}
use Rattle.htmd_commonmark_reading.specs.Tables.{fitted}
use Rattle.htmd_commonmark_reading.specs.Boxes.{quoting, listing, text, headed, code, rule, html, grid, boxed, ClosedBlocks}
use Rattle.htmd_commonmark_reading.specs.Boxes.{no_closed_blocks, closed_block}

-- ---- texts

-- the text of a paragraph's inlines
abbrev pub paragraph_text : DocumentOptions → List (List ℕ) → Inlines → List ℕ
paragraph_text options definitions content = (written_line (line_of options Paragraph) definitions content).text

-- the text of a heading's inlines, which a line under it changes
abbrev pub heading_text : DocumentOptions → List (List ℕ) → ℕ → Inlines → List ℕ
heading_text options definitions level content =
    if is_underlined options level content
    then paragraph_text options definitions content
    else (written_line (line_of options Heading) definitions content).text

-- the texts of a row's cells, and of rows, each with the definitions before it
abbrev pub cell_texts : DocumentOptions → List (List ℕ) → List Inlines → List (List ℕ)
cell_texts options definitions [] = []
cell_texts options definitions (content ∷ rest) =
    let w = written_line (line_of options Cell) definitions content in
    w.text ∷ cell_texts options w.definitions rest

abbrev pub after_cells : DocumentOptions → List (List ℕ) → List Inlines → List (List ℕ)
after_cells options definitions [] = definitions
after_cells options definitions (content ∷ rest) =
    after_cells options (written_line (line_of options Cell) definitions content).definitions rest

abbrev pub row_texts : DocumentOptions → List (List ℕ) → List (List Inlines) → List (List (List ℕ))
row_texts options definitions [] = []
row_texts options definitions (row ∷ rest) =
    cell_texts options definitions row ∷ row_texts options (after_cells options definitions row) rest

-- rows as a reader takes them: each with as many cells as the header, the last ones empty
abbrev pub filled_rows : ℕ → List (List (List ℕ)) → List (List (List ℕ))
filled_rows columns rows = map (fitted columns) rows

-- the rows of a table under its header
abbrev pub table_rows : DocumentOptions → List (List ℕ) → List Inlines → List (List Inlines)
    → List (List (List ℕ))
table_rows options definitions header rows =
    filled_rows (length (cell_texts options definitions header))
    (row_texts options (after_cells options definitions header) rows)

-- ---- items

abbrev pub sign_byte : Sign → ℕ
sign_byte Sign.Asterisk = 42
sign_byte Sign.Hyphen = 45
sign_byte Sign.FullStop = 46
sign_byte Sign.Parenthesis = 41

-- the sign of a list's items, and the number of the one at this place
abbrev pub item_sign : Markers → ℕ
item_sign (Bullets bullet spacing) = sign_byte bullet
item_sign (Numbers start highest delimiter spacing) = sign_byte delimiter

abbrev pub item_number : Markers → ℕ → Option ℕ
item_number (Bullets bullet spacing) k = None
item_number (Numbers start highest delimiter spacing) k = Some (start + k)

-- the columns before an item's content: its marker's, and the spaces after that, or one where nothing follows
abbrev pub item_columns : Markers → ℕ → Blocks → ℕ
item_columns markers k no_blocks = length (marker markers k) + 1
item_columns markers k (block first rest) = length (marker markers k) + spaces markers k

-- ---- blocks

-- `definitions`: those of the links before, as they are written; a blank line stands before each block but the first,
-- except in a tight item
abbrev mutual
  pub first_parts : DocumentOptions → Place → List (List ℕ) → Blocks → ClosedBlocks
  first_parts options place definitions no_blocks = no_closed_blocks
  first_parts options place definitions (block first rest) =
      block_parts options place None definitions false first
      (further_parts options (behind_first place) (sign_of options None place.outer first)
      (written_block options place None definitions first).definitions rest)

  pub further_parts : DocumentOptions → Place → Option Sign → List (List ℕ) → Blocks → ClosedBlocks
  further_parts options place before definitions no_blocks = no_closed_blocks
  further_parts options place before definitions (block first rest) =
      block_parts options place before definitions (not place.tight) first
      (further_parts options place (sign_of options before place.outer first)
      (written_block options place before definitions first).definitions rest)

  -- a block, before which a blank line stands or not, and the parts after it
  pub block_parts : DocumentOptions → Place → Option Sign → List (List ℕ) → Bool → Block → ClosedBlocks
      → ClosedBlocks
  block_parts options place before definitions gap (paragraph content) rest =
      closed_block gap (text (paragraph_text options definitions content)) rest
  block_parts options place before definitions gap (heading level content) rest =
      closed_block gap (headed level (heading_text options definitions level content)) rest
  block_parts options place before definitions gap (code_block language s) rest = closed_block gap (code language s)
      rest
  block_parts options place before definitions gap (quote content) rest =
      closed_block gap (boxed quoting (first_parts options (place_in_quote place.in_item) definitions content)) rest
  block_parts options place before definitions gap thematic_break rest = closed_block gap rule rest
  block_parts options place before definitions gap (element name attributes content) rest =
      closed_block gap (html []) rest
  block_parts options place before definitions gap (tags s) rest = closed_block gap (html s) rest
  block_parts options place before definitions gap (list start is_tight items) rest =
      item_parts options (markers_of options before place.outer start (item_count items)) is_tight 0 definitions gap
      items
      rest
  block_parts options place before definitions gap (table alignments header rows) rest =
      closed_block gap
      (grid alignments (cell_texts options definitions header)
      (table_rows options definitions header rows)) rest

  -- items, the first at this place
  pub item_parts : DocumentOptions → Markers → Bool → ℕ → List (List ℕ) → Bool → Items → ClosedBlocks
      →
      ClosedBlocks
  item_parts options markers is_tight k definitions gap no_items rest = rest
  item_parts options markers is_tight k definitions gap (item first others) rest =
      closed_block gap
      (boxed (listing (item_sign markers) (item_number markers k) (item_columns markers k first))
      (first_parts options (place_in_item markers is_tight) definitions first))
      (item_parts options markers is_tight (suc k)
      (written_blocks options (place_in_item markers is_tight) definitions first).definitions (not is_tight) others
      rest)

-- the closed blocks of a document
abbrev pub document_parts : DocumentOptions → Blocks → ClosedBlocks
document_parts options document = first_parts options outermost [] document
