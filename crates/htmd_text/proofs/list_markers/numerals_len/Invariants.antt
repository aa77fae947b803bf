-- What the loop of `numerals_len` keeps.
use Rattle.std.proofs.Common.{length}
use Rattle.std.specs.Str.{chars}
use Rattle.htmd_text.proofs.ListMarkersLemmas.{NumericTo}
use Rattle.htmd_text.proofs.list_markers.numerals_len.Given as goal

abbrev pub invariant-loop-c : goal.invariant-loop-c
invariant-loop-c l = NumericTo (chars l.text) (length l.yielded) l.len
