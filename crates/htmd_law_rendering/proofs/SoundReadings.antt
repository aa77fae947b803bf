-- What is read of the Markdown of a flat document has no raw tags with carriage returns or U+0000: its lines have none.
use Rattle.std.proofs.Common.{◌≡◌, ℕ, zero, suc, Bool, true, false, List, [], ◌∷◌, refl, sym, subst, Option, None}
use Rattle.std.specs.Prelude.{⊤}
use Rattle.htmd_document.specs.Documents as documents
use Rattle.htmd_document.specs.NormalDocuments.{IsFlat}
use Rattle.htmd_commonmark.specs.declared.blocks.Place.{Place}
use Rattle.htmd_commonmark.specs.declared.markers.Markers.{Markers}
use Rattle.htmd_commonmark.specs.declared.markers.Sign.{Sign}
use Rattle.htmd_commonmark.specs.declared.options.DocumentOptions.{DocumentOptions}
use Rattle.htmd_commonmark.specs.BlockMarkdown.{behind_first, is_underlined, item_count, markers_of, place_in_item}
use Rattle.htmd_commonmark.specs.BlockMarkdown.{place_in_quote, sign_of, written_block, written_blocks}
use Rattle.htmd_commonmark.specs.DocumentMarkdown.{flat_markdown, outermost}
use Rattle.htmd_commonmark_reading.specs.Brackets.{References, inlines}
use Rattle.htmd_commonmark_reading.specs.Lists.{cell_inlines, item_text, row_inlines}
use Rattle.htmd_commonmark_reading.specs.Markup.{Inlines, Block, paragraph, heading, code_block, quote, thematic_break}
use Rattle.htmd_commonmark_reading.specs.Markup.{list, table, html_block, Blocks, no_blocks, block, Items, no_items}
use Rattle.htmd_commonmark_reading.specs.Markup.{item}
use Rattle.htmd_commonmark_reading.specs.Reading.{read}
use Rattle.htmd_commonmark_reading.specs.Tables.{fitted}
use Rattle.htmd_law_blocks.specs.DocumentBlocks.{first_read, further_read, block_read, items_read}
use Rattle.htmd_law_blocks.specs.DocumentParts.{after_cells, cell_texts, filled_rows, heading_text, paragraph_text}
use Rattle.htmd_law_blocks.specs.DocumentParts.{row_texts}
use Rattle.htmd_law_blocks.specs.DocumentTexts.{AreCellTexts, AreRowTexts, BlockTexts, FirstTexts, FurtherTexts}
use Rattle.htmd_law_blocks.specs.DocumentTexts.{IsHeading, ItemTexts}
use Rattle.htmd_law_texts.specs.TextLaws.{definitions_of}
use Rattle.htmd_law_texts.proofs.DocumentLaws.{lists_read_back, texts_are_lines}
use Rattle.htmd_law_rendering.proofs.SoundTags.{is_sound}
use Rattle.htmd_law_rendering.proofs.SoundRuns.{has_sound_tags}
use Rattle.htmd_law_rendering.proofs.SoundLines.{inlines-sound, item-sound}

abbrev pub CellTags : List Inlines → Type 0
CellTags [] = ⊤
CellTags (c ∷ cs) = (has_sound_tags c ≡ true) × CellTags cs

abbrev pub RowTags : List (List Inlines) → Type 0
RowTags [] = ⊤
RowTags (r ∷ rs) = CellTags r × RowTags rs

abbrev mutual
  pub BlockTags : Block → Type 0
  BlockTags (paragraph xs) = has_sound_tags xs ≡ true
  BlockTags (heading level xs) = has_sound_tags xs ≡ true
  BlockTags (code_block language s) = ⊤
  BlockTags (quote bs) = BlocksTags bs
  BlockTags thematic_break = ⊤
  BlockTags (list start tight items) = ItemsTags items
  BlockTags (table alignments header rows) = CellTags header × RowTags rows
  BlockTags (html_block s) = ⊤

  pub BlocksTags : Blocks → Type 0
  BlocksTags no_blocks = ⊤
  BlocksTags (block b bs) = BlockTags b × BlocksTags bs

  pub ItemsTags : Items → Type 0
  ItemsTags no_items = ⊤
  ItemsTags (item bs rest) = BlocksTags bs × ItemsTags rest

heading-plain : (b : Bool) (s : List ℕ) → IsHeading b s → is_sound s ≡ true
heading-plain true s h = h.plain
heading-plain false s h = h.plain

cells-sound : (refs : References) (ts : List (List ℕ)) → AreCellTexts ts → CellTags (cell_inlines refs ts)
cells-sound refs [] h = tt
cells-sound refs (t ∷ ts) h = (inlines-sound refs t h.0.plain, cells-sound refs ts h.1)

fitted-sound : (refs : References) (n : ℕ) (ts : List (List ℕ)) → AreCellTexts ts
    → CellTags (cell_inlines refs (fitted n ts))
fitted-sound refs zero ts h = tt
fitted-sound refs (suc n) [] h = (inlines-sound refs [] refl, fitted-sound refs n [] tt)
fitted-sound refs (suc n) (t ∷ ts) h = (inlines-sound refs t h.0.plain, fitted-sound refs n ts h.1)

rows-sound : (refs : References) (n : ℕ) (rows : List (List (List ℕ))) → AreRowTexts rows
    → RowTags (row_inlines refs (filled_rows n rows))
rows-sound refs n [] h = tt
rows-sound refs n (r ∷ rows) h = (fitted-sound refs n r h.0, rows-sound refs n rows h.1)

module _ (refs : References) (options : DocumentOptions) where
  mutual
    first-sound : (reads : List ℕ → Inlines) (place : Place) (ds : List (List ℕ)) (bs : documents.Blocks)
        → ((s : List ℕ) → is_sound s ≡ true → has_sound_tags (reads s) ≡ true)
        → FirstTexts options place ds bs
        → BlocksTags (first_read refs reads options place ds bs)
    first-sound reads place ds documents.no_blocks r h = tt
    first-sound reads place ds (documents.block first rest) r h = (
      block-sound reads place None ds first r h.0,
      further-sound (behind_first place) (sign_of options None place.outer first)
          (written_block options place None ds first).definitions rest h.1,
    )

    further-sound : (place : Place) (before : Option Sign) (ds : List (List ℕ)) (bs : documents.Blocks)
        → FurtherTexts options place before ds bs → BlocksTags (further_read refs options place before ds bs)
    further-sound place before ds documents.no_blocks h = tt
    further-sound place before ds (documents.block first rest) h = (
      block-sound (inlines refs) place before ds first (inlines-sound refs) h.0,
      further-sound place (sign_of options before place.outer first)
          (written_block options place before ds first).definitions rest h.1,
    )

    block-sound : (reads : List ℕ → Inlines) (place : Place) (before : Option Sign) (ds : List (List ℕ))
        (b : documents.Block) → ((s : List ℕ) → is_sound s ≡ true → has_sound_tags (reads s) ≡ true)
        → BlockTexts options place before ds b → BlockTags (block_read refs reads options place before ds b)
    block-sound reads place before ds (documents.paragraph content) r h =
        r (paragraph_text options ds content) h.plain
    block-sound reads place before ds (documents.heading level content) r h =
        let s = heading_text options ds level content in
        inlines-sound refs s (heading-plain (is_underlined options level content) s h)
    block-sound reads place before ds (documents.code_block language s) r h = tt
    block-sound reads place before ds (documents.quote content) r h =
        first-sound (inlines refs) (place_in_quote place.in_item) ds content (inlines-sound refs) h
    block-sound reads place before ds documents.thematic_break r h = tt
    block-sound reads place before ds (documents.element name attributes content) r h = tt
    block-sound reads place before ds (documents.tags s) r h = tt
    block-sound reads place before ds (documents.list start is_tight items) r h =
        items-sound (markers_of options before place.outer start (item_count items)) is_tight ds items h
    block-sound reads place before ds (documents.table alignments header rows) r h = (
      cells-sound refs (cell_texts options ds header) h.0,
      rows-sound refs _ (row_texts options (after_cells options ds header) rows) h.1,
    )

    items-sound : (markers : Markers) (is_tight : Bool) (ds : List (List ℕ)) (items : documents.Items)
        → ItemTexts options markers is_tight ds items
        → ItemsTags (items_read refs options markers is_tight ds items)
    items-sound markers is_tight ds documents.no_items h = tt
    items-sound markers is_tight ds (documents.item first rest) h = (
      first-sound (item_text refs) (place_in_item markers is_tight) ds first (item-sound refs) h.0,
      items-sound markers is_tight (written_blocks options (place_in_item markers is_tight) ds first).definitions
          rest h.1,
    )

pub flat-sound : (options : DocumentOptions) (flat : documents.Blocks) → IsFlat flat
    → BlocksTags (read (flat_markdown options flat))
flat-sound options flat h =
    let refs = definitions_of options flat in
    subst BlocksTags (sym (lists_read_back options flat h))
    (first-sound refs options (inlines refs) outermost [] flat (inlines-sound refs) (texts_are_lines options flat h))
