-- What is written of a flat document's texts are lines of texts, and so its blocks are read back.
use Rattle.std.specs.Prelude.{◌≡◌, List, Some}
use Rattle.htmd_document.specs.Documents as documents
use Rattle.htmd_commonmark.specs.declared.options.DocumentOptions.{DocumentOptions}
use Rattle.htmd_commonmark.specs.DocumentMarkdown.{flat_markdown}
use Rattle.htmd_commonmark_reading.specs.LinkDefinitions.{Definition}
use Rattle.htmd_commonmark_reading.specs.Reading.{parts, read}
use Rattle.htmd_law_blocks.specs.DocumentTexts.{DocumentTexts, DefinitionTexts}
use Rattle.htmd_law_blocks.specs.DocumentBlocks.{document_read}
use Rattle.htmd_law_blocks.specs.BlockLaws.{definition_lines, parts_with}
use Rattle.htmd_document.specs.FlatDocuments.{flattened}
use Rattle.htmd_document.specs.NormalDocuments.{IsNormal, IsFlat}
use Rattle.htmd_commonmark_reading.specs.Elements.{nested_document}
use Rattle.htmd_law_inlines.specs.ReadBack.{references}

-- For all options, what is written of the inlines of a flat document is nothing but lines of paragraphs, headings and
-- cells to a reader.
abbrev pub TextsAreLines : Type 0
TextsAreLines =
    (options : DocumentOptions) (document : documents.Blocks) → IsFlat document
    → DocumentTexts options document

-- the definitions of the links of a document, as they are written
abbrev pub definitions_of : DocumentOptions → documents.Blocks → List Definition
definitions_of options document = references (definition_lines options document)

-- The lines of its link definitions are read as those, and as nothing else.
abbrev pub DefinitionsAreRead : Type 0
DefinitionsAreRead =
    (options : DocumentOptions) (document : documents.Blocks) → IsFlat document
    → DefinitionTexts (definition_lines options document) (definitions_of options document)

-- For all options, what is written of a flat document has its blocks, with the texts that were written of its
-- inlines, and then the definitions of its links.
abbrev pub FlatBlocksReadBack : Type 0
FlatBlocksReadBack =
    (options : DocumentOptions) (document : documents.Blocks) → IsFlat document
    → parts (flat_markdown options document) ≡ parts_with options document (definitions_of options document)

-- And what is read is the document, with what a reader who knows those definitions takes its texts for in the place of
-- its inlines.
abbrev pub FlatListsReadBack : Type 0
FlatListsReadBack =
    (options : DocumentOptions) (document : documents.Blocks) → IsFlat document
    → read (flat_markdown options document) ≡ document_read (definitions_of options document) options document

-- What a document's elements are written as is a flat document.
abbrev pub ElementsAreFlat : Type 0
ElementsAreFlat = (document : documents.Blocks) → IsNormal document → IsFlat (flattened document)

-- And pairing its lines of tags gives the elements back.
abbrev pub ElementsAreNested : Type 0
ElementsAreNested =
    (document : documents.Blocks) → IsNormal document → nested_document (flattened document) ≡ Some document
