use Rattle.htmd_law_documents.proofs.PageTextLemmas.{shows_all}
use Rattle.htmd_law_documents.proofs.texts.shows_all.Goals as goal

pub returns : goal.returns
returns c = shows_all
