use Rattle.std.proofs.Common.{sym}
use Rattle.htmd_article.proofs.NamesLemmas.{block-none}
use Rattle.htmd_article.proofs.names.is_other_block.Goals as goal

pub returns-in-None : goal.returns-in-None
returns-in-None c = sym (block-none c.args.name.now c.in-None.ensures.none)
