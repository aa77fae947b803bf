-- All texts of a flat document are lines of texts, and the lines of its definitions are read as those.
use Rattle.std.proofs.Common.{◌≡◌, ℕ, Bool, true, false, List, [], ◌∷◌, Option, None}
use Rattle.std.specs.List.{list_all}
use Rattle.std.proofs.lemmas.Bool.{and_parts}
use Rattle.htmd_document.specs.Documents.{Inlines, Block, Blocks, Items, paragraph, heading, code_block, quote}
use Rattle.htmd_document.specs.Documents.{thematic_break, list, table, element, tags, no_blocks, block, no_items, item}
use Rattle.htmd_commonmark.specs.declared.blocks.Place.{Place}
use Rattle.htmd_commonmark.specs.declared.line.LineKind.TheVariants.{Cell}
use Rattle.htmd_commonmark.specs.declared.markers.Sign.{Sign}
use Rattle.htmd_commonmark.specs.declared.markers.Markers.{Markers}
use Rattle.htmd_commonmark.specs.declared.options.DocumentOptions.{DocumentOptions}
use Rattle.htmd_commonmark.specs.BlockMarkdown.{line_of, item_count, markers_of, place_in_item, place_in_quote}
use Rattle.htmd_commonmark.specs.BlockMarkdown.{behind_first, sign_of, written_blocks, written_block}
use Rattle.htmd_commonmark.specs.DocumentMarkdown.{outermost}
use Rattle.htmd_commonmark.specs.InlineMarkdown.{written_line}
use Rattle.htmd_law_blocks.specs.DocumentParts.{cell_texts, after_cells, row_texts}
use Rattle.htmd_law_blocks.specs.DocumentTexts.{AreCellTexts, AreRowTexts, FirstTexts, FurtherTexts, BlockTexts}
use Rattle.htmd_law_blocks.specs.DocumentTexts.{ItemTexts}
use Rattle.htmd_law_blocks.specs.BlockLaws.{definition_lines}
use Rattle.htmd_law_blocks.proofs.DefinitionsLemmas as laws
use Rattle.htmd_document.specs.NormalInlines.{is_normal_line}
use Rattle.htmd_document.specs.NormalDocuments.{are_flat_blocks, is_flat_block, are_flat_items}
use Rattle.htmd_law_texts.specs.TextLaws.{TextsAreLines, DefinitionsAreRead, FlatBlocksReadBack, FlatListsReadBack}
use Rattle.htmd_law_texts.specs.TextLaws.{definitions_of}
use Rattle.htmd_law_texts.proofs.NormalForm.{quote_parts, list_parts, table_parts, blocks_are_normal}
use Rattle.htmd_law_texts.proofs.DefinitionLines.{definitions_are}
use Rattle.htmd_law_texts.proofs.Growth.{are_defined, grown_numbered, blocks_grown}
use Rattle.htmd_law_texts.proofs.LineLaws.{paragraph_is_text, heading_is_text, cell_is_text}

-- ---- texts

are_cells : (options : DocumentOptions) (definitions : List (List ℕ)) (cells : List Inlines)
    → list_all is_normal_line cells ≡ true → AreCellTexts (cell_texts options definitions cells)
are_cells options definitions [] h = tt
are_cells options definitions (xs ∷ cells) h =
    let p = and_parts (is_normal_line xs) (list_all is_normal_line cells) h in (
      cell_is_text options definitions xs p.0,
      are_cells options (written_line (line_of options Cell) definitions xs).definitions cells p.1,
    )

are_rows : (options : DocumentOptions) (definitions : List (List ℕ)) (rows : List (List Inlines))
    → list_all (list_all is_normal_line) rows ≡ true → AreRowTexts (row_texts options definitions rows)
are_rows options definitions [] h = tt
are_rows options definitions (cells ∷ rows) h =
    let p = and_parts (list_all is_normal_line cells) (list_all (list_all is_normal_line) rows) h in
    (are_cells options definitions cells p.0, are_rows options (after_cells options definitions cells) rows p.1)

mutual
  pub first_texts : (options : DocumentOptions) (place : Place) (definitions : List (List ℕ)) (b : Bool) (bs : Blocks)
      → are_flat_blocks b bs ≡ true → FirstTexts options place definitions bs
  first_texts options place definitions b no_blocks h = tt
  first_texts options place definitions b (block first rest) h =
      let p = and_parts (is_flat_block b first) (are_flat_blocks false rest) h in (
        block_texts options place None definitions b first p.0,
        further_texts options (behind_first place) (sign_of options None place.outer first)
            (written_block options place None definitions first).definitions rest p.1,
      )

  further_texts : (options : DocumentOptions) (place : Place) (before : Option Sign) (definitions : List (List ℕ))
      (bs : Blocks) → are_flat_blocks false bs ≡ true → FurtherTexts options place before definitions bs
  further_texts options place before definitions no_blocks h = tt
  further_texts options place before definitions (block first rest) h =
      let p = and_parts (is_flat_block false first) (are_flat_blocks false rest) h in (
        block_texts options place before definitions false first p.0,
        further_texts options place (sign_of options before place.outer first)
            (written_block options place before definitions first).definitions rest p.1,
      )

  block_texts : (options : DocumentOptions) (place : Place) (before : Option Sign) (definitions : List (List ℕ))
      (b : Bool) (x : Block) → is_flat_block b x ≡ true → BlockTexts options place before definitions x
  block_texts options place before definitions b (paragraph content) h =
      paragraph_is_text options definitions b content h
  block_texts options place before definitions b (heading level content) h =
      heading_is_text options definitions level content h
  block_texts options place before definitions b (code_block language s) h = tt
  block_texts options place before definitions b (quote content) h =
      first_texts options (place_in_quote place.in_item) definitions false content (quote_parts b content h).1
  block_texts options place before definitions b thematic_break h = tt
  block_texts options place before definitions b (element name attributes content) h = tt
  block_texts options place before definitions b (tags s) h = tt
  block_texts options place before definitions b (list start is_tight items) h =
      item_texts options (markers_of options before place.outer start (item_count items)) is_tight definitions items
      (list_parts b start is_tight items h).1
  block_texts options place before definitions b (table alignments header rows) h =
      let p = table_parts alignments header rows h in
      (are_cells options definitions header p.0, are_rows options (after_cells options definitions header) rows p.1)

  item_texts : (options : DocumentOptions) (markers : Markers) (is_tight : Bool) (definitions : List (List ℕ))
      (items : Items) → are_flat_items items ≡ true → ItemTexts options markers is_tight definitions items
  item_texts options markers is_tight definitions no_items h = tt
  item_texts options markers is_tight definitions (item first rest) h =
      let p = and_parts (are_flat_blocks true first) (are_flat_items rest) h in (
        first_texts options (place_in_item markers is_tight) definitions true first p.0,
        item_texts options markers is_tight
            (written_blocks options (place_in_item markers is_tight) definitions first).definitions rest p.1,
      )

-- ---- the laws

pub texts_are_lines : TextsAreLines
texts_are_lines options document h = first_texts options outermost [] false document h

pub definitions_are_read : DefinitionsAreRead
definitions_are_read options document h =
    let lines = definition_lines options document in
    let grown = blocks_grown options outermost [] false document h in
    definitions_are lines (are_defined 1 lines (grown_numbered [] lines grown tt))

pub blocks_read_back : FlatBlocksReadBack
blocks_read_back options document h =
    laws.blocks_read_back options document (definitions_of options document) (blocks_are_normal document h)
    (texts_are_lines options document h) (definitions_are_read options document h)

pub lists_read_back : FlatListsReadBack
lists_read_back options document h =
    laws.lists_read_back options document (definitions_of options document) (blocks_are_normal document h)
    (texts_are_lines options document h) (definitions_are_read options document h)
