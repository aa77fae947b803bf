use Rattle.htmd_law_settled.proofs.PageLemmas.{addresses-stay}
use Rattle.htmd_law_settled.proofs.pages.addresses_stay.Goals as goal

pub returns : goal.returns
returns c = addresses-stay
