-- The attributes so far, and those that follow.
use Rattle.std.proofs.Common.{◌≡◌, ◌++◌, drop}
use Rattle.htmd_lexical.specs.Attributes.{pairs_of}
use Rattle.htmd_addresses.specs.AddressAttributes.{attributes_with}
use Rattle.htmd_addresses.proofs.attributes.attributes_of.Given as goal

abbrev pub invariant-loop-attribute : goal.invariant-loop-attribute
invariant-loop-attribute g l =
    pairs_of l.copies.items
    ++ attributes_with (g.R.Resolve.to l.resolve) l.element (pairs_of (drop l.attribute-index l.attrs))
    ≡ attributes_with (g.R.Resolve.to l.resolve) l.element (pairs_of l.attrs)
