use Rattle.htmd_chunks.proofs.FlatSizesLemmas.{document-fits}
use Rattle.htmd_chunks.proofs.laws.documents_fit.Goals as goal

pub returns : goal.returns
returns c = document-fits
