use Rattle.std.proofs.Common.{rules}
use Rattle.htmd_selectors.proofs.TypesLemmas.{seen-once}
use Rattle.htmd_selectors.proofs.types.see.Goals as goal

pub returns-clause-seen : goal.returns-clause-seen
returns-clause-seen c =
    seen-once c.args.seen.now c.insert.new.self c.args.name c.saturating_add.result (search rules)
    c.in_ok-insert.ensures.updates
