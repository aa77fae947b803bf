use Rattle.htmd_law_settled.proofs.PlainFormats.{no-element}
use Rattle.htmd_law_settled.proofs.settled.no_block_is_element.Goals as goal

pub returns : goal.returns
returns c = no-element
