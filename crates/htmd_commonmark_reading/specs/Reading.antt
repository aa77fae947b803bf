-- A reader of CommonMark 0.31.2 with GitHub's tables, strikethrough and task list items (GFM 0.29).
use Rattle.std.specs.Prelude.{ℕ, List, Option, Some, None}
use Rattle.htmd_document.specs.Documents as documents
use Rattle.htmd_commonmark_reading.specs.Lines.{lines}
use Rattle.htmd_commonmark_reading.specs.Boxes.{ClosedBlocks}
use Rattle.htmd_commonmark_reading.specs.Containers.{parsed}
use Rattle.htmd_commonmark_reading.specs.Markup.{Blocks}
use Rattle.htmd_commonmark_reading.specs.Lists.{collected, plain, gapped}
use Rattle.htmd_commonmark_reading.specs.SeenMarkup.{seen_blocks, document_blocks}
use Rattle.htmd_commonmark_reading.specs.Elements.{nested_document}

-- the closed blocks of a text (appendix, phase 1)
abbrev pub parts : List ℕ → ClosedBlocks
parts s = parsed (lines s)

-- closed blocks with their inlines read (appendix, phase 2)
abbrev pub finished : ClosedBlocks → Blocks
finished ps = plain (gapped (collected ps) ps)

-- what a text says
abbrev pub read : List ℕ → Blocks
read s = finished (parts s)

-- the same as one sees it
abbrev pub view : List ℕ → Blocks
view s = seen_blocks (read s)

-- the flat document that a text is, with lines of tags; none if other raw HTML is left in its lines
abbrev pub flat_document : List ℕ → Option documents.Blocks
flat_document s = document_blocks (view s)

abbrev pub nested_of : Option documents.Blocks → Option documents.Blocks
nested_of None = None
nested_of (Some flat) = nested_document flat

-- the document that a text is; none if tags are left that no element has
abbrev pub document : List ℕ → Option documents.Blocks
document s = nested_of (flat_document s)
