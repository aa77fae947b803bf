use Rattle.htmd_law_html5.proofs.StrictImplied.{texts_agree}
use Rattle.htmd_law_html5.proofs.strict.plain_texts_agree.Goals as goal

pub returns : goal.returns
returns c = texts_agree
