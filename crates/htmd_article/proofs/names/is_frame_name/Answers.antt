use Rattle.std.proofs.Common.{sym}
use Rattle.htmd_article.proofs.NamesLemmas.{frame-none}
use Rattle.htmd_article.proofs.names.is_frame_name.Goals as goal

pub returns-in-None : goal.returns-in-None
returns-in-None c = sym (frame-none c.args.name.now c.in-None.ensures.none)
