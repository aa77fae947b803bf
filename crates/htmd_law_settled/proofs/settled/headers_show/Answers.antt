use Rattle.htmd_law_settled.proofs.HeadedPages.{headers-show}
use Rattle.htmd_law_settled.proofs.settled.headers_show.Goals as goal

pub returns : goal.returns
returns c = headers-show
