use Rattle.htmd_law_documents.proofs.NormalMain.{tables_have_right_length}
use Rattle.htmd_law_documents.proofs.normal.tables_have_right_length.Goals as goal

pub returns : goal.returns
returns c = tables_have_right_length
