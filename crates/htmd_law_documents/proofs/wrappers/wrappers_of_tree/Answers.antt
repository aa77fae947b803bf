use Rattle.htmd_law_documents.proofs.WrapperMain.{wrappers_of_tree}
use Rattle.htmd_law_documents.proofs.wrappers.wrappers_of_tree.Goals as goal

pub returns : goal.returns
returns c = wrappers_of_tree
