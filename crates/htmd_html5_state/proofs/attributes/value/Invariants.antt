-- The name was not met so far.
use Rattle.std.proofs.Common.{◌≡◌, drop}
use Rattle.htmd_lexical.specs.Attributes.{pairs_of}
use Rattle.htmd_html5_state.specs.Nodes.{value_of}
use Rattle.htmd_html5_state.proofs.attributes.value.Given as goal

abbrev pub invariant-loop-attribute : goal.invariant-loop-attribute
invariant-loop-attribute l =
    value_of l.name (pairs_of (drop l.attribute-index l.attributes)) ≡ value_of l.name (pairs_of l.attributes)
