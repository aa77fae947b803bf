-- The first of the two tests holds.
use Rattle.std.proofs.Common.{◌≡◌, true, nat_le, refl, arith}
use Rattle.std.proofs.lemmas.Bool.Decides.{nat_tests}
use Rattle.htmd_encodings.proofs.sequences.is_between.Goals as goal

pub returns-then-low-byte-clause-value : goal.returns-then-low-byte-clause-value
returns-then-low-byte-clause-value c =
    let low : nat_le c.args.low c.args.byte ≡ true = grind (arith, nat_tests) in rw low refl
