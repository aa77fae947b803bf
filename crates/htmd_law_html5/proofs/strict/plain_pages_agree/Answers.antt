use Rattle.htmd_law_html5.proofs.StrictPages.{pages_agree}
use Rattle.htmd_law_html5.proofs.strict.plain_pages_agree.Goals as goal

pub returns : goal.returns
returns c = pages_agree
