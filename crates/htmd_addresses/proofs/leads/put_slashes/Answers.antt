use Rattle.std.proofs.Common.{◌∙◌, ◌++◌, ap, arith, drop, map, rules}
use Rattle.std.proofs.lemmas.List.{append-nil, drop_all, take_all}
use Rattle.std.proofs.lemmas.List.Edits.{map_over_more}
use Rattle.htmd_addresses.specs.Leads.{with_slash}
use Rattle.htmd_addresses.proofs.leads.put_slashes.Goals as goal

pub loop-b-preserved : goal.loop-b-preserved
loop-b-preserved c = rw c.with_slash.ensures (search (rules, map_over_more with_slash))

pub returns : goal.returns
returns c =
    c.loop-b.invariant
    ∙ (ap (λ l. map with_slash l ++ drop c.loop-b.b-index c.args.path.now)
    (take_all c.loop-b.b-index c.args.path.now (omega arith))
    ∙ (ap (λ l. map with_slash c.args.path.now ++ l) (drop_all c.loop-b.b-index c.args.path.now (omega arith))
    ∙ append-nil (map with_slash c.args.path.now)))
