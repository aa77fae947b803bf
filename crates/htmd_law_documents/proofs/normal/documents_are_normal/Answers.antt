use Rattle.htmd_law_documents.proofs.NormalMain.{documents_are_normal}
use Rattle.htmd_law_documents.proofs.normal.documents_are_normal.Goals as goal

pub returns : goal.returns
returns c = documents_are_normal
