-- Those that were copied so far.
use Rattle.std.proofs.Common.{◌≡◌, take}
use Rattle.htmd_lexical.specs.Attributes.{pairs_of}
use Rattle.htmd_html5_state.proofs.attributes.copy_all.Given as goal

abbrev pub invariant-loop-attribute : goal.invariant-loop-attribute
invariant-loop-attribute l = pairs_of l.copies.items ≡ pairs_of (take l.attribute-index l.attributes)
