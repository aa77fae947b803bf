-- What the texts that are written of a document have to be, so that its blocks are read back: the premise that the
-- inlines' half has to show.
use Rattle.std.specs.Prelude.{◌≡◌, ℕ, Bool, true, false, List, [], ◌∷◌, Option, None}
use Rattle.std.specs.List.{list_all}
use Rattle.htmd_document.specs.Documents.{Block, Blocks, Items, paragraph, heading, code_block, quote}
use Rattle.htmd_document.specs.Documents.{thematic_break, list, table, element, tags, no_blocks, block, no_items, item}
use Rattle.htmd_commonmark.specs.declared.blocks.Place.{Place}
use Rattle.htmd_commonmark.specs.declared.markers.Sign.{Sign}
use Rattle.htmd_commonmark.specs.declared.markers.Markers.{Markers}
use Rattle.htmd_commonmark.specs.declared.options.DocumentOptions.{DocumentOptions}
use Rattle.htmd_commonmark.specs.BlockMarkdown.{is_underlined, item_count, markers_of, place_in_item, place_in_quote}
use Rattle.htmd_commonmark.specs.BlockMarkdown.{behind_first, sign_of, written_blocks, written_block}
use Rattle.htmd_commonmark.specs.DocumentMarkdown.{outermost}
use Rattle.htmd_commonmark_reading.specs.LinkDefinitions.{Definition, definitions}
use Rattle.htmd_commonmark_reading.specs.Boxes.{joined_lines}
use Rattle.htmd_law_blocks.specs.LineTexts.{is_line_character, lines_of, AreTextLines, IsLineText, IsHeadingText}
use Rattle.htmd_law_blocks.specs.LineTexts.{IsUnderlinedText, IsCellText}
use Rattle.htmd_law_blocks.specs.DocumentParts.{paragraph_text, heading_text, cell_texts, after_cells, row_texts}

abbrev pub IsHeading : Bool → List ℕ → Type 0
IsHeading true s = IsUnderlinedText s
IsHeading false s = IsHeadingText s

abbrev pub AreCellTexts : List (List ℕ) → Type 0
AreCellTexts [] = Unit {0}
AreCellTexts (t ∷ ts) = IsCellText t × AreCellTexts ts

abbrev pub AreRowTexts : List (List (List ℕ)) → Type 0
AreRowTexts [] = Unit {0}
AreRowTexts (row ∷ rows) = AreCellTexts row × AreRowTexts rows

-- ---- all blocks

abbrev mutual
  pub FirstTexts : DocumentOptions → Place → List (List ℕ) → Blocks → Type 0
  FirstTexts options place definitions no_blocks = Unit {0}
  FirstTexts options place definitions (block first rest) =
      BlockTexts options place None definitions first
      × FurtherTexts options (behind_first place) (sign_of options None place.outer first)
      (written_block options place None definitions first).definitions rest

  pub FurtherTexts : DocumentOptions → Place → Option Sign → List (List ℕ) → Blocks → Type 0
  FurtherTexts options place before definitions no_blocks = Unit {0}
  FurtherTexts options place before definitions (block first rest) =
      BlockTexts options place before definitions first
      × FurtherTexts options place (sign_of options before place.outer first)
      (written_block options place before definitions first).definitions rest

  pub BlockTexts : DocumentOptions → Place → Option Sign → List (List ℕ) → Block → Type 0
  BlockTexts options place before definitions (paragraph content) =
      IsLineText (paragraph_text options definitions content)
  BlockTexts options place before definitions (heading level content) =
      IsHeading (is_underlined options level content) (heading_text options definitions level content)
  BlockTexts options place before definitions (code_block language s) = Unit {0}
  BlockTexts options place before definitions (quote content) =
      FirstTexts options (place_in_quote place.in_item) definitions content
  BlockTexts options place before definitions thematic_break = Unit {0}
  BlockTexts options place before definitions (element name attributes content) = Unit {0}
  BlockTexts options place before definitions (tags s) = Unit {0}
  BlockTexts options place before definitions (list start is_tight items) =
      ItemTexts options (markers_of options before place.outer start (item_count items)) is_tight definitions items
  BlockTexts options place before definitions (table alignments header rows) =
      AreCellTexts (cell_texts options definitions header)
      × AreRowTexts (row_texts options (after_cells options definitions header) rows)

  pub ItemTexts : DocumentOptions → Markers → Bool → List (List ℕ) → Items → Type 0
  ItemTexts options markers is_tight definitions no_items = Unit {0}
  ItemTexts options markers is_tight definitions (item first rest) =
      FirstTexts options (place_in_item markers is_tight) definitions first
      × ItemTexts options markers is_tight
      (written_blocks options (place_in_item markers is_tight) definitions first).definitions rest

-- the texts of a document
abbrev pub DocumentTexts : DocumentOptions → Blocks → Type 0
DocumentTexts options document = FirstTexts options outermost [] document

-- texts in one line each
abbrev pub AreOneLine : List (List ℕ) → Type 0
AreOneLine [] = Unit {0}
AreOneLine (l ∷ ls) = (list_all is_line_character l ≡ true) × (lines_of l ≡ l ∷ []) × AreOneLine ls

-- the lines of link definitions: a reader finds these in them, and nothing else (CommonMark 0.31.2, 4.7)
pub record AreDefinitions (first : List ℕ) (rest : List (List ℕ)) (found : List Definition) : Type 0 where
  pub one_line : AreOneLine (first ∷ rest)
  pub lines : AreTextLines (first ∷ rest)
  pub all : definitions (joined_lines (first ∷ rest)) ≡ record { found = found; rest = [] }
  pub some : found ≡ [] → ⊥

abbrev pub DefinitionTexts : List (List ℕ) → List Definition → Type 0
DefinitionTexts [] found = found ≡ []
DefinitionTexts (first ∷ rest) found = AreDefinitions first rest found
