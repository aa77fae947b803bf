-- The marked attributes so far, and those that are left.
use Rattle.std.proofs.Common.{◌≡◌, ◌++◌}
use Rattle.std.specs.Vec.Iter.{into_iter_items}
use Rattle.htmd_lexical.specs.Attributes.{pairs_of}
use Rattle.htmd_html5_tokens.specs.Firsts.{those_marked}
use Rattle.htmd_html5_tokens.proofs.tags.marked.Given as goal

abbrev pub invariant-loop-attribute : goal.invariant-loop-attribute
invariant-loop-attribute l =
    pairs_of l.kept.items ++ those_marked (pairs_of (into_iter_items l.attribute-iterator)) l.rest
    ≡ those_marked (pairs_of l.fn.attributes.items) l.marks
