-- The name was not met so far.
use Rattle.std.proofs.Common.{◌≡◌, drop}
use Rattle.htmd_lexical.specs.Attributes.{pairs_of}
use Rattle.htmd_html5_state.specs.Nodes.{has_attribute}
use Rattle.htmd_html5_state.proofs.attributes.has_attribute.Given as goal

abbrev pub invariant-loop-attribute : goal.invariant-loop-attribute
invariant-loop-attribute l =
    has_attribute l.name (pairs_of (drop l.attribute-index l.attributes))
    ≡ has_attribute l.name (pairs_of l.attributes)
