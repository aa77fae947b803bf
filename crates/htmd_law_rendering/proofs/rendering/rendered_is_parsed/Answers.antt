use Rattle.htmd_law_html5.proofs.StrictPages.{pages_agree}
use Rattle.htmd_law_html5.proofs.StrictImplied.{texts_agree}
use Rattle.htmd_law_rendering.proofs.ParsedLemmas.{parsed}
use Rattle.htmd_law_rendering.proofs.rendering.rendered_is_parsed.Goals as goal

pub returns : goal.returns
returns c = parsed pages_agree texts_agree
