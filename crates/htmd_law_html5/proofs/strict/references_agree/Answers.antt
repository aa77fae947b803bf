use Rattle.htmd_law_html5.proofs.StrictReferencesLemmas.{references_same}
use Rattle.htmd_law_html5.proofs.strict.references_agree.Goals as goal

pub returns : goal.returns
returns c = references_same
