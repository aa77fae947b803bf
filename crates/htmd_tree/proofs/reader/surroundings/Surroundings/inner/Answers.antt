-- What is left to prove of `inner`.
use Rattle.std.proofs.Common.{ap, ◌∙◌}
use Rattle.htmd_tree.specs.Surroundings.{flags_inside}
use Rattle.htmd_tree.specs.declared.reader.names.KnownName.{KnownName}
use Rattle.htmd_tree.proofs.SurroundingsLemmas.{flags_inside-is}
use Rattle.htmd_tree.proofs.reader.surroundings.Surroundings.inner.Goals as goal

pub returns : goal.returns
returns c = λ n above known e.
    c.inside.ensures ∙ (ap (λ (k : KnownName). flags_inside c.args.scripting k c.args.self) known
    ∙ flags_inside-is c.args.scripting above c.args.self n e)
