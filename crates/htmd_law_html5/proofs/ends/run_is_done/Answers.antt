use Rattle.htmd_law_html5.proofs.EndedTurns.{run_done}
use Rattle.htmd_law_html5.proofs.ends.run_is_done.Goals as goal

pub returns : goal.returns
returns c = run_done
