use Rattle.htmd_law_html5.proofs.EndedTurns.{markup_done}
use Rattle.htmd_law_html5.proofs.ends.markup_is_done.Goals as goal

pub returns : goal.returns
returns c = markup_done
