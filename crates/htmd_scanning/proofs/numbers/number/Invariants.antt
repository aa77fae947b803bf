-- What the loop of `number` keeps.
use Rattle.std.proofs.Common.{◌≡◌, ◌≤◌, drop, min}
use Rattle.htmd_lexical.specs.Numbers.{number}
use Rattle.htmd_scanning.proofs.numbers.number.Given as goal

abbrev pub invariant-loop-digit : goal.invariant-loop-digit
invariant-loop-digit l = record {
  small : l.sum ≤ 0x11_0000;
  capped : min (number l.base l.sum (drop l.digit-index l.digits)) 0x11_0000
      ≡ min (number l.base 0 l.digits) 0x11_0000;
}
