-- What is left to prove of `layout_denotes`.
use Rattle.htmd_nodes.proofs.LayoutLemmas.{document_items-denotes}
use Rattle.htmd_nodes.proofs.laws.layout_denotes.Goals as goal

pub returns : goal.returns
returns c = document_items-denotes
