-- The value of the last attribute so far that has one of the names.
use Rattle.std.proofs.Common.{◌≡◌, map, take}
use Rattle.std.specs.Option.{option_copied}
use Rattle.htmd_lexical.specs.Attributes.{pairs_of}
use Rattle.htmd_walk.specs.LinkAttributes.{last_value}
use Rattle.htmd_walk.proofs.element_handler.link_attributes.last_value.Given as goal

abbrev pub invariant-loop-attribute : goal.invariant-loop-attribute
invariant-loop-attribute l =
    option_copied l.last ≡ last_value (map (λ n. n.now) l.names) (pairs_of (take l.attribute-index l.attrs))
