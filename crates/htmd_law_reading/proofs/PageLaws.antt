-- The laws of pages: their documents are normal, and have their texts and marks.
use Rattle.std.proofs.Common.{sym, subst}
use Rattle.htmd_nodes.specs.NumberedTrees.{tree_of}
use Rattle.htmd_document_of_tree.specs.TreeDocuments.{document_of_tree}
use Rattle.htmd_law_documents.proofs.NormalMain.{documents_are_normal}
use Rattle.htmd_law_documents.proofs.StoredTextsLemmas.{tree-text}
use Rattle.htmd_law_documents.proofs.Main.{text_of_tree}
use Rattle.htmd_law_documents.proofs.WrapperMain.{wrappers_of_tree}
use Rattle.htmd_law_reading.specs.ReadingLaws.{PagesReadBack, Shows, PagesAreSeen, AnswersAreSeen}
use Rattle.htmd_law_reading.proofs.ReadingMain.{reads_back}
use Rattle.htmd_law_reading.proofs.DefinitionLines.{few_answered}
use Rattle.htmd_law_reading.proofs.LineEnds.{files_read_back}

pub pages_read_back : PagesReadBack
pages_read_back which sight tree options text few =
    let d = document_of_tree which sight tree in
    reads_back options d (documents_are_normal which sight tree text) few

pub pages_are_seen : PagesAreSeen
pages_are_seen which sight items options h few =
    let tree = tree_of items 0 in
    let text = tree-text items 0 h in
    let d = document_of_tree which sight tree in
    let read = files_read_back options d (documents_are_normal which sight tree text) few in (
      read,
      subst (Shows which sight tree) (sym read)
          (text_of_tree which sight tree text, wrappers_of_tree which sight items h),
    )

pub answers_are_seen : AnswersAreSeen
answers_are_seen which sight items options h fits =
    pages_are_seen which sight items options h
    (few_answered options (document_of_tree which sight (tree_of items 0)) fits)
