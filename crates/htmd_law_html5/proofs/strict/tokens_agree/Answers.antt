use Rattle.htmd_law_html5.proofs.StrictRuns.{tokens_same}
use Rattle.htmd_law_html5.proofs.strict.tokens_agree.Goals as goal

pub returns : goal.returns
returns c = tokens_same
