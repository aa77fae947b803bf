-- Each attribute so far has one of the names.
use Rattle.std.proofs.Common.{◌≡◌, map, drop}
use Rattle.htmd_lexical.specs.Attributes.{pairs_of}
use Rattle.htmd_walk.specs.LinkAttributes.{has_others}
use Rattle.htmd_walk.proofs.element_handler.link_attributes.has_others.Given as goal

abbrev pub invariant-loop-attribute : goal.invariant-loop-attribute
invariant-loop-attribute l =
    has_others (map (λ n. n.now) l.names) (pairs_of (drop l.attribute-index l.attrs))
    ≡ has_others (map (λ n. n.now) l.names) (pairs_of l.attrs)
