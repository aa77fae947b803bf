-- The attribute was not met so far.
use Rattle.std.proofs.Common.{◌≡◌, drop}
use Rattle.htmd_lexical.specs.Attributes.{pair_of, pairs_of}
use Rattle.htmd_html5_state.specs.Nodes.{has_pair}
use Rattle.htmd_html5_state.proofs.attributes.has_pair.Given as goal

abbrev pub invariant-loop-attribute : goal.invariant-loop-attribute
invariant-loop-attribute l =
    has_pair (pairs_of (drop l.attribute-index l.attributes)) (pair_of l.wanted)
    ≡ has_pair (pairs_of l.attributes) (pair_of l.wanted)
