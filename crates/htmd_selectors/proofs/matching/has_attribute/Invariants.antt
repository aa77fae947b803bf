use Rattle.std.proofs.Common.{◌≡◌, drop, true}
use Rattle.htmd_lexical.specs.Attributes.{pairs_of}
use Rattle.htmd_selectors.specs.Matching.{has_such}
use Rattle.htmd_selectors.proofs.matching.has_attribute.Given as goal

abbrev pub invariant-loop-attribute : goal.invariant-loop-attribute
invariant-loop-attribute l =
    has_such l.name (λ value. true) (pairs_of (drop l.attribute-index l.attrs))
    ≡ has_such l.name (λ value. true) (pairs_of l.attrs)
