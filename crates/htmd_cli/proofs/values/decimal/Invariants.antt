-- The number so far, with the digits that are left, is the number.
use Rattle.std.proofs.Common.{◌≡◌, ◌<◌, ◌^◌, drop, Some}
use Rattle.htmd_cli.specs.Options as spec
use Rattle.htmd_cli.proofs.values.decimal.Given as goal

abbrev pub invariant-loop-byte : goal.invariant-loop-byte
invariant-loop-byte l = record {
  fits : l.number < 2 ^ 64;
  so_far : spec.below (2 ^ 64) (spec.number_behind (Some l.number) (drop l.byte-index l.text))
      ≡ spec.below (2 ^ 64) (spec.decimal l.text);
}
