-- A text without CR stays.
use Rattle.std.proofs.Common.{◌≡◌, ℕ, true, false, not, Bool, List, [], ◌∷◌, refl, ap}
use Rattle.std.proofs.lemmas.Bool.{and_parts}
use Rattle.std.specs.List.{list_all}
use Rattle.std.specs.Prelude.{◌==◌}
use Rattle.htmd_lexical.specs.LineEnds.{normalized}
use Rattle.htmd_html5_tokens.specs.Preprocessing.{is_not_return}

no : (x : Bool) → not x ≡ true → x ≡ false
no true e = cc
no false e = refl

pub without_returns : (s : List ℕ) → list_all is_not_return s ≡ true → normalized s ≡ s
without_returns [] e = refl
without_returns (b ∷ s) e =
    let both = and_parts (is_not_return b) (list_all is_not_return s) e in
    rw (no (b == 13) both.0) (ap (λ x. b ∷ x) (without_returns s both.1))
