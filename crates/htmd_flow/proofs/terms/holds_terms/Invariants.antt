use Rattle.std.proofs.Common.{◌≡◌, drop, map}
use Rattle.std.specs.List.{list_any}
use Rattle.htmd_flow.specs.Terms.{is_term_or_meaning}
use Rattle.htmd_shown.specs.SimpleViews.{simple_of}
use Rattle.htmd_flow.proofs.terms.holds_terms.Given as goal

abbrev pub invariant-loop-node : goal.invariant-loop-node
invariant-loop-node l =
    list_any is_term_or_meaning (map simple_of (drop l.node-index l.content))
    ≡ list_any is_term_or_meaning (map simple_of l.content)
