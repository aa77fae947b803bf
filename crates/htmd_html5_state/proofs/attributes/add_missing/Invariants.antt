-- What is left is still to be done with.
use Rattle.std.proofs.Common.{◌≡◌}
use Rattle.std.specs.Vec.Iter.{into_iter_items}
use Rattle.htmd_lexical.specs.Attributes.{pairs_of}
use Rattle.htmd_html5_state.specs.Nodes.{with_missing}
use Rattle.htmd_html5_state.proofs.attributes.add_missing.Given as goal

abbrev pub invariant-loop-attribute : goal.invariant-loop-attribute
invariant-loop-attribute l =
    with_missing (pairs_of l.attributes.items) (pairs_of (into_iter_items l.attribute-iterator))
    ≡ with_missing (pairs_of l.fn.attributes.items) (pairs_of l.fn.more.items)
