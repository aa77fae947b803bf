use Rattle.std.proofs.Common.{◌≡◌, drop}
use Rattle.htmd_lexical.specs.Attributes.{pairs_of}
use Rattle.htmd_nodes.specs.AttributeValues.{value_of}
use Rattle.htmd_nodes.proofs.attributes.value_of.Given as goal

abbrev pub invariant-loop-attribute : goal.invariant-loop-attribute
invariant-loop-attribute l =
    value_of l.name (pairs_of (drop l.attribute-index l.attrs)) ≡ value_of l.name (pairs_of l.attrs)
