use Rattle.std.proofs.Common.{sym}
use Rattle.htmd_shown.proofs.RolesLemmas.{shown_name}
use Rattle.htmd_shown.proofs.role.is_never_shown.Goals as goal

pub returns-in-None : goal.returns-in-None
returns-in-None c = sym (shown_name c.args.name.now c.in-None.ensures.none)
