-- What the loop of `push_squeezed` keeps.
use Rattle.std.specs.String.{string_bytes}
use Rattle.htmd_text.proofs.WhiteSpaceLemmas.{Squeezing}
use Rattle.htmd_text.proofs.white_space.push_squeezed.Given as goal

abbrev pub invariant-loop-i : goal.invariant-loop-i
invariant-loop-i l = Squeezing (string_bytes l.fn.out) l.text (string_bytes l.out) l.from l.i
