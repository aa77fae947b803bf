use Rattle.htmd_flow.proofs.ListBlocksLemmas.{block-list}
use Rattle.htmd_flow.proofs.list.list_block.Goals as goal

pub returns : goal.returns
returns c = block-list c.args.start c.args.tight c.args.items
