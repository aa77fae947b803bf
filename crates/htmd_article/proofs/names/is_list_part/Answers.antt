use Rattle.std.proofs.Common.{sym}
use Rattle.htmd_article.proofs.NamesLemmas.{list-none}
use Rattle.htmd_article.proofs.names.is_list_part.Goals as goal

pub returns-in-None : goal.returns-in-None
returns-in-None c = sym (list-none c.args.name.now c.in-None.ensures.none)
