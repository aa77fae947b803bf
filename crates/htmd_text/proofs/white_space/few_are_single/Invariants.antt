-- What the loop of `few_are_single` keeps.
use Rattle.std.proofs.Common.{◌≡◌, drop}
use Rattle.htmd_text.specs.Replacement.{is_squeezed}
use Rattle.htmd_text.proofs.white_space.few_are_single.Given as goal

abbrev pub invariant-loop-b : goal.invariant-loop-b
invariant-loop-b l = is_squeezed l.after_white (drop l.b-index l.bytes) ≡ is_squeezed l.is_behind_white l.bytes
