use Rattle.std.proofs.Common.{arith}
use Rattle.htmd_flow.proofs.LeavesLemmas.{at_most_more}
use Rattle.htmd_flow.proofs.blocks.is_paragraph_at_most.Goals as goal

pub returns-in_default : goal.returns-in_default
returns-in_default c = at_most_more c.args.blocks.now (omega arith)
