-- All that were met are there.
use Rattle.std.proofs.Common.{◌≡◌, drop}
use Rattle.std.specs.List.{list_all}
use Rattle.htmd_lexical.specs.Attributes.{pairs_of}
use Rattle.htmd_html5_state.specs.Nodes.{has_pair}
use Rattle.htmd_html5_state.proofs.attributes.has_all.Given as goal

abbrev pub invariant-loop-attribute : goal.invariant-loop-attribute
invariant-loop-attribute l =
    list_all (has_pair (pairs_of l.attributes)) (pairs_of (drop l.attribute-index l.wanted))
    ≡ list_all (has_pair (pairs_of l.attributes)) (pairs_of l.wanted)
