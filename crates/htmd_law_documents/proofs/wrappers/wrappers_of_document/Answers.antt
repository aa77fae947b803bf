use Rattle.htmd_law_documents.proofs.WrapperMain.{wrappers_of_document}
use Rattle.htmd_law_documents.proofs.wrappers.wrappers_of_document.Goals as goal

pub returns : goal.returns
returns c = wrappers_of_document
