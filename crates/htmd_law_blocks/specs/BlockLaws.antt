-- The blocks of a flat document are read back.
use Rattle.std.specs.Prelude.{◌≡◌, ℕ, true, List, []}
use Rattle.htmd_document.specs.Documents as documents
use Rattle.htmd_commonmark.specs.declared.options.DocumentOptions.{DocumentOptions}
use Rattle.htmd_commonmark.specs.BlockMarkdown.{written_blocks}
use Rattle.htmd_commonmark.specs.DocumentMarkdown.{outermost, flat_markdown}
use Rattle.htmd_commonmark_reading.specs.LinkDefinitions.{Definition}
use Rattle.htmd_commonmark_reading.specs.Boxes.{ClosedBlocks, no_closed_blocks, joined, definition_parts}
use Rattle.htmd_commonmark_reading.specs.Reading.{parts, read}
use Rattle.htmd_law_blocks.specs.DocumentParts.{document_parts}
use Rattle.htmd_law_blocks.specs.NormalBlocks.{AreNormalBlocks}
use Rattle.htmd_law_blocks.specs.DocumentTexts.{DocumentTexts, DefinitionTexts}
use Rattle.htmd_law_blocks.specs.DocumentBlocks.{document_read}

-- the lines of link definitions that are written after a document's blocks
abbrev pub definition_lines : DocumentOptions → documents.Blocks → List (List ℕ)
definition_lines options document = (written_blocks options outermost [] document).definitions

-- the closed blocks of a document, and after them the definitions of its links
abbrev pub parts_with : DocumentOptions → documents.Blocks → List Definition → ClosedBlocks
parts_with options document found = joined (document_parts options document)
    (definition_parts true found no_closed_blocks)

-- For all options, what is written of a normal document has its blocks, with the texts that were written of its
-- inlines: the closed blocks are the document's, and then come the definitions of its links.
abbrev pub BlocksReadBack : Type 0
BlocksReadBack =
    (options : DocumentOptions) (document : documents.Blocks) (found : List Definition)
    → AreNormalBlocks document → DocumentTexts options document
    → DefinitionTexts (definition_lines options document) found
    → parts (flat_markdown options document) ≡ parts_with options document found

-- And what is read is the document, with what a reader who knows those definitions takes those texts for in the place
-- of its inlines: lists have their items, starts and tightness.
abbrev pub ListsReadBack : Type 0
ListsReadBack =
    (options : DocumentOptions) (document : documents.Blocks) (found : List Definition)
    → AreNormalBlocks document → DocumentTexts options document
    → DefinitionTexts (definition_lines options document) found
    → read (flat_markdown options document) ≡ document_read found options document
