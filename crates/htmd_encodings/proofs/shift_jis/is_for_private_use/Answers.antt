-- The first of the two tests holds.
use Rattle.std.proofs.Common.{◌≡◌, true, nat_le, refl, arith}
use Rattle.std.proofs.lemmas.Bool.Decides.{nat_tests}
use Rattle.htmd_encodings.proofs.shift_jis.is_for_private_use.Goals as goal

pub returns-then-pointer-ge8836-clause-value : goal.returns-then-pointer-ge8836-clause-value
returns-then-pointer-ge8836-clause-value c =
    let low : nat_le 8836 c.args.pointer ≡ true = grind (arith, nat_tests) in rw low refl
