use Rattle.std.proofs.Common.{sym}
use Rattle.htmd_article.proofs.NamesLemmas.{section-none}
use Rattle.htmd_article.proofs.names.is_section.Goals as goal

pub returns-in-None : goal.returns-in-None
returns-in-None c = sym (section-none c.args.name.now c.in-None.ensures.none)
