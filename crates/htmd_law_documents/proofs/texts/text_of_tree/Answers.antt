use Rattle.htmd_law_documents.proofs.Main.{text_of_tree}
use Rattle.htmd_law_documents.proofs.texts.text_of_tree.Goals as goal

pub returns : goal.returns
returns c = text_of_tree
