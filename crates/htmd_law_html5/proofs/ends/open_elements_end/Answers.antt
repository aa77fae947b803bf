use Rattle.htmd_law_html5.proofs.EndedPages.{elements_ended}
use Rattle.htmd_law_html5.proofs.ends.open_elements_end.Goals as goal

pub returns : goal.returns
returns c = elements_ended
