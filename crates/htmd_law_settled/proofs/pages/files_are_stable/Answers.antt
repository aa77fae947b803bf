use Rattle.htmd_law_html5.proofs.StrictPages.{pages_agree}
use Rattle.htmd_law_html5.proofs.StrictImplied.{texts_agree}
use Rattle.htmd_law_rendering.proofs.DocumentLemmas.{documents-parsed}
use Rattle.htmd_law_returning.proofs.ComingBackLemmas.{come-back}
use Rattle.htmd_law_settled.proofs.PageLemmas as page
use Rattle.htmd_law_settled.proofs.pages.files_are_stable.Goals as goal

pub returns : goal.returns
returns c = page.stable-files (page.come-back (come-back (documents-parsed pages_agree texts_agree)))
