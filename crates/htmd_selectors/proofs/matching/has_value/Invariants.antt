use Rattle.std.proofs.Common.{◌≡◌, drop}
use Rattle.htmd_lexical.specs.Attributes.{pairs_of}
use Rattle.htmd_selectors.specs.Matching.{has_such, is_such}
use Rattle.htmd_selectors.proofs.matching.has_value.Given as goal

abbrev pub invariant-loop-attribute : goal.invariant-loop-attribute
invariant-loop-attribute l =
    has_such l.name (is_such l.comparison l.wanted) (pairs_of (drop l.attribute-index l.attrs))
    ≡ has_such l.name (is_such l.comparison l.wanted) (pairs_of l.attrs)
