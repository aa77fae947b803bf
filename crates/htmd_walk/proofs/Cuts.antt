-- Where a text may be cut: beside ASCII characters at its start and at its end.
use Rattle.std.proofs.Common.{◌≡◌, ◌≤◌, ◌-◌, ◌+◌, ℕ, zero, suc, Bool, List, get_or, arith, subst}
use Rattle.std.specs.List.{prefix_len}
use Rattle.std.specs.Str.{IsCharBoundary, IsUtf8}
use Rattle.std.proofs.lemmas.Bool.Decides.{nat_tests}
use Rattle.std.proofs.lemmas.List.Sums.{prefix_len_passes, prefix_len-le-length}
use Rattle.std.proofs.lemmas.Str.{IsCharBoundary-start, IsCharBoundary-after_ascii}
use Rattle.htmd_text.proofs.TrimsLemmas.{OfAscii}
use Rattle.htmd_text.specs.Trims.{is_space}

pub space_of_ascii : OfAscii is_space
space_of_ascii b e = grind (arith, nat_tests)

-- between or after such characters at the start
pub cut_in_leading : (passes : ℕ → Bool) (s : List ℕ) (k : ℕ) → IsUtf8 s → OfAscii passes
    → k ≤ prefix_len passes s
    → IsCharBoundary s k
cut_in_leading passes s zero text ascii l = IsCharBoundary-start s text
cut_in_leading passes s (suc k) text ascii l =
    let passed = prefix_len_passes passes s k 0 (omega arith) in
    let step : k + 1 ≡ suc k = omega arith in
    subst (λ (n : ℕ). IsCharBoundary s n) step
    (IsCharBoundary-after_ascii s k text (omega (arith, prefix_len-le-length passes s))
    (ascii (get_or s k 0) passed))
