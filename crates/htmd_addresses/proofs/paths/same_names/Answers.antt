use Rattle.std.proofs.Common.{◌∙◌, sym, arith}
use Rattle.htmd_addresses.proofs.PathsLemmas.{same-at_end}
use Rattle.htmd_addresses.proofs.paths.same_names.Goals as goal

pub returns-else-same-to-clause-value : goal.returns-else-same-to-clause-value
returns-else-same-to-clause-value c =
    sym (same-at_end c.args.from.now c.args.to.now c.loop-same.same (omega arith)) ∙ c.loop-same.invariant.passed
