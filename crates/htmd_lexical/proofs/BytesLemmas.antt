-- Texts that are compared byte by byte.
use Rattle.std.proofs.Common.{List, refl, true, ℕ, ◌≡◌}
use Rattle.std.proofs.lemmas.Slice.Eq.{bytes_eq-Decides}
use Rattle.std.specs.Str.{bytes_eq}

pub same_bytes : (n m : List ℕ) → bytes_eq n m ≡ true → n ≡ m
same_bytes n m e = (bytes_eq-Decides n m).0 e

pub bytes_same : (n : List ℕ) → bytes_eq n n ≡ true
bytes_same n = (bytes_eq-Decides n n).1 refl
