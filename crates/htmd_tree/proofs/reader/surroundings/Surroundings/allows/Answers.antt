-- What is left to prove of `allows`.
use Rattle.std.proofs.Common.{ap, ◌∙◌}
use Rattle.htmd_tree.specs.Surroundings.{flags_allow}
use Rattle.htmd_tree.proofs.SurroundingsLemmas.{flags_allow-is}
use Rattle.htmd_tree.proofs.reader.surroundings.Surroundings.allows.Goals as goal

pub returns : goal.returns
returns c = λ n scripting above k e.
    c.fits.ensures ∙ (ap (flags_allow c.args.self) k
    ∙ flags_allow-is scripting above c.args.self n e)
