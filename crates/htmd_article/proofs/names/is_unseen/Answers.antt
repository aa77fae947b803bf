use Rattle.std.proofs.Common.{sym}
use Rattle.htmd_article.proofs.NamesLemmas.{unseen-none}
use Rattle.htmd_article.proofs.names.is_unseen.Goals as goal

pub returns-in-None : goal.returns-in-None
returns-in-None c = sym (unseen-none c.args.name.now c.in-None.ensures.none)
