use Rattle.htmd_law_html5.proofs.StrictPages.{pages_agree}
use Rattle.htmd_law_html5.proofs.StrictImplied.{texts_agree}
use Rattle.htmd_law_rendering.proofs.DocumentLemmas.{documents-parsed}
use Rattle.htmd_law_returning.proofs.ComingBackLemmas.{come-back}
use Rattle.htmd_law_settled.proofs.PageLemmas as page
use Rattle.htmd_law_settled.proofs.pages.pages_come_back.Goals as goal

pub returns : goal.returns
returns c = page.come-back (come-back (documents-parsed pages_agree texts_agree))
