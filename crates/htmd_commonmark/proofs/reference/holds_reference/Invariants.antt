-- Nothing so far looks like a character reference.
use Rattle.std.proofs.Common.{◌≡◌, drop}
use Rattle.htmd_commonmark.specs.References.{holds_reference}
use Rattle.htmd_commonmark.proofs.reference.holds_reference.Given as goal

abbrev pub invariant-loop-i : goal.invariant-loop-i
invariant-loop-i l = holds_reference (drop l.i l.text) ≡ holds_reference l.text
