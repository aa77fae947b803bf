use Rattle.htmd_law_html5.proofs.StrictPages.{pages_agree}
use Rattle.htmd_law_html5.proofs.StrictImplied.{texts_agree}
use Rattle.htmd_law_rendering.proofs.DocumentLemmas.{documents-parsed}
use Rattle.htmd_law_settled.proofs.PageLemmas.{all-parsed}
use Rattle.htmd_law_settled.proofs.pages.pages_are_parsed.Goals as goal

pub returns : goal.returns
returns c = all-parsed (documents-parsed pages_agree texts_agree)
