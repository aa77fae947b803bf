use Rattle.std.proofs.Common.{◌≡◌, ◌≤◌, take}
use Rattle.std.specs.Prelude.{pos}
use Rattle.htmd_shown.specs.Attributes as spec
use Rattle.htmd_shown.proofs.attributes.number_of_digits.Given as goal

abbrev pub invariant-loop-digit : goal.invariant-loop-digit
invariant-loop-digit l = record {
  value : l.number ≡ pos (spec.number_of_digits (take l.digit-index l.digits));
  bound : spec.number_of_digits (take l.digit-index l.digits) ≤ spec.greatest_number;
}
