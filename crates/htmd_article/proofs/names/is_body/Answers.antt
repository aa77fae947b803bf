use Rattle.std.proofs.Common.{sym}
use Rattle.htmd_article.proofs.NamesLemmas.{body-none}
use Rattle.htmd_article.proofs.names.is_body.Goals as goal

pub returns-in-None : goal.returns-in-None
returns-in-None c = sym (body-none c.args.name.now c.in-None.ensures.none)
