-- The law: the halves of reading back together, and the tags of elements.
use Rattle.std.proofs.Common.{◌≡◌, ◌∙◌, ap, [], false, Some}
use Rattle.std.proofs.lemmas.List.{append-nil}
use Rattle.htmd_document.specs.Documents.{Blocks}
use Rattle.htmd_document.specs.FlatDocuments.{flattened}
use Rattle.htmd_document.specs.NormalDocuments.{IsFlat}
use Rattle.htmd_commonmark.specs.declared.options.DocumentOptions.{DocumentOptions}
use Rattle.htmd_commonmark.specs.DocumentMarkdown.{outermost, flat_markdown}
use Rattle.htmd_commonmark_reading.specs.Reading.{flat_document, nested_of}
use Rattle.htmd_commonmark_reading.specs.SeenMarkup.{seen_blocks, document_blocks}
use Rattle.htmd_law_blocks.specs.BlockLaws.{definition_lines}
use Rattle.htmd_law_inlines.specs.ReadBack.{AreFew}
use Rattle.htmd_law_texts.proofs.DocumentLaws.{lists_read_back}
use Rattle.htmd_law_texts.proofs.FlatForm.{normal_is_flat}
use Rattle.htmd_law_texts.proofs.NestedBlocks.{nested_is}
use Rattle.htmd_law_reading.specs.ReadingLaws.{ReadsBack}
use Rattle.htmd_law_reading.proofs.WholeDocuments.{first_blocks}

-- the blocks that are read, with the inlines that are read of their texts
flat_reads_back : (options : DocumentOptions) (d : Blocks) → IsFlat d → AreFew (definition_lines options d)
    → flat_document (flat_markdown options d) ≡ Some d
flat_reads_back options d n few =
    let lines = definition_lines options d in
    ap (λ bs. document_blocks (seen_blocks bs)) (lists_read_back options d n)
    ∙ first_blocks options outermost false lines [] [] d few tt n (append-nil lines)

pub reads_back : ReadsBack
reads_back options d n few =
    ap nested_of (flat_reads_back options (flattened d) (normal_is_flat d n) few) ∙ nested_is d n
