-- Those so far, and what is left.
use Rattle.std.proofs.Common.{◌≡◌, ◌++◌, map}
use Rattle.std.specs.Vec.Iter.{into_iter_items}
use Rattle.htmd_lexical.specs.Attributes.{pairs_of}
use Rattle.htmd_html5_state.specs.Foreign.{foreign_attributes}
use Rattle.htmd_html5_state.proofs.foreign.foreign_attributes.Given as goal

abbrev pub invariant-loop-name : goal.invariant-loop-name
invariant-loop-name l =
    pairs_of l.capitals.items ++ foreign_attributes l.fn.namespace (pairs_of (into_iter_items l.name-iterator))
    ≡ foreign_attributes l.fn.namespace (pairs_of l.fn.attributes.items)
