-- What is left to prove of `read`.
use Rattle.std.proofs.Common.{◌≡◌, ℕ, ◌<◌, List, [], ◌∷◌, length, take, slice_set, refl, arith, rules}
use Rattle.htmd_test_program.proofs.doubles.DrippingSource.read.Goals as goal

-- the front of a buffer whose first byte was written
first_byte : (buffer : List ℕ) (byte : ℕ) → 0 < length buffer → take 1 (slice_set buffer 0 byte) ≡ byte ∷ []
first_byte [] byte some = absurd (omega arith)
first_byte (x ∷ xs) byte some = refl

pub returns-clause-bytes : goal.returns-clause-bytes
returns-clause-bytes c =
    let front = first_byte c.args.buffer.now c.in-Some.first.now (search rules) in
    (rw front (search rules), λ one _. absurd (omega arith))
