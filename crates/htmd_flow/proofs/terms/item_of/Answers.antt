use Rattle.std.proofs.Common.{ap, false, None}
use Rattle.htmd_flow.specs.Lists.{ListItem}
use Rattle.htmd_flow.proofs.terms.item_of.Goals as goal

pub returns : goal.returns
returns c = ap {B = ListItem} (λ bs. record { value = None; has_paragraph = false; blocks = bs })
    c.in_ok-blocks.ensures
