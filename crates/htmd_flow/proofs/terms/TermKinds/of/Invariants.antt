use Rattle.std.proofs.Common.{◌≡◌, drop}
use Rattle.htmd_shown.specs.SimpleViews.{simples_of}
use Rattle.htmd_flow.specs.Flows.{terms_of}
use Rattle.htmd_flow.specs.TermViews.{with_parts, kinds_of}
use Rattle.htmd_flow.proofs.terms.TermKinds.of.Given as goal

abbrev pub invariant-loop-node : goal.invariant-loop-node
invariant-loop-node l =
    with_parts l.kinds (terms_of (simples_of (drop l.node-index l.content)))
    ≡ kinds_of (terms_of (simples_of l.content))
