-- What the documents of the source stand for.
use Rattle.std.specs.Prelude.{ℕ, List, map, Option, option_map, String, string_bytes}
use Rattle.std.specs.declared.alloc.Global.{Global}
use Rattle.htmd_document.specs.Formats.{of_format, of_element, Abbreviation}
use Rattle.htmd_document.specs.Documents as value
use Rattle.htmd_document.specs.declared.document.Inline.{Inline, fold-Inline}
use Rattle.htmd_document.specs.declared.document.Inline.TheOpen.{Inline-F}
use Rattle.htmd_document.specs.declared.document.Block.{Block, fold-Block}
use Rattle.htmd_document.specs.declared.document.Block.TheOpen.{Block-F}
use Rattle.htmd_document.specs.declared.document.Document.{Document}
use Rattle.htmd_document.specs.declared.document.BlockAttribute.{BlockAttribute}

abbrev pub bytes_of_title : Option (String Global) → Option (List ℕ)
bytes_of_title title = option_map string_bytes title

-- one level, with the inlines in it already seen
abbrev pub inline_step : Inline-F value.Inline → value.Inline
inline_step (Inline-F.Text s) = value.text (string_bytes s)
inline_step (Inline-F.Code s) = value.code (string_bytes s)
inline_step (Inline-F.Formatted format xs) = value.formatted (of_format format) (value.inlines_of xs.items)
inline_step (Inline-F.Element element xs) = value.formatted (of_element element) (value.inlines_of xs.items)
inline_step (Inline-F.Abbreviation title xs) =
    value.formatted (Abbreviation (string_bytes title)) (value.inlines_of xs.items)
inline_step (Inline-F.Anchor id) = value.anchor (string_bytes id)
inline_step (Inline-F.Link address title xs) =
    value.link (string_bytes address) (bytes_of_title title) (value.inlines_of xs.items)
inline_step (Inline-F.Image address title description) =
    value.image (string_bytes address) (bytes_of_title title) (string_bytes description)
inline_step Inline-F.LineBreak = value.line_break
inline_step (Inline-F.Task is_checked) = value.task is_checked

abbrev pub inline_of : Inline → value.Inline
inline_of = fold-Inline value.Inline inline_step

abbrev pub inlines_of : List Inline → value.Inlines
inlines_of xs = value.inlines_of (map inline_of xs)

abbrev pub attribute_of : BlockAttribute → value.BlockAttribute
attribute_of a = record { name = a.name; value = string_bytes a.value }

abbrev pub block_step : Block-F value.Block → value.Block
block_step (Block-F.Paragraph xs) = value.paragraph (inlines_of xs.items)
block_step (Block-F.Heading level xs) = value.heading level (inlines_of xs.items)
block_step (Block-F.CodeBlock language s) = value.code_block (bytes_of_title language) (string_bytes s)
block_step (Block-F.Quote bs) = value.quote (value.blocks_of bs.items)
block_step Block-F.ThematicBreak = value.thematic_break
block_step (Block-F.List start is_tight items) =
    value.list start is_tight (value.items_of (map (λ bs. value.blocks_of bs.items) items.items))
block_step (Block-F.Table alignments header rows) =
    value.table alignments.items (map (λ cell. inlines_of cell.items) header.items)
    (map (λ row. map (λ cell. inlines_of cell.items) row.items) rows.items)
block_step (Block-F.Element name attributes bs) =
    value.element name (map attribute_of attributes.items) (value.blocks_of bs.items)

abbrev pub block_of : Block → value.Block
block_of = fold-Block value.Block block_step

abbrev pub blocks_of : List Block → value.Blocks
blocks_of bs = value.blocks_of (map block_of bs)

abbrev pub document_of : Document → value.Blocks
document_of d = blocks_of d.blocks.items
