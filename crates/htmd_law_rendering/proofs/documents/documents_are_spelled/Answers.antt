use Rattle.htmd_law_rendering.proofs.DocumentLemmas.{documents-spelled}
use Rattle.htmd_law_rendering.proofs.documents.documents_are_spelled.Goals as goal

pub returns : goal.returns
returns c = documents-spelled
