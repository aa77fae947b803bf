-- What is written in parts.
use Rattle.std.proofs.Common.{◌≡◌, ℕ, List, ◌++◌, ap, ◌∙◌, append_assoc, Result, OnOk, cond}
use Rattle.std.specs.Result.{is_ok}
use Rattle.htmd_lexical.proofs.Cases.{pushed}

-- a part between two others, the last of which is pushed last
pub in-three : {T E : Type 0} (r : Result T E) (out first second new a b z : List ℕ)
    → first ≡ out ++ a → second ≡ first ++ b → new ≡ cond (is_ok r) (second ++ z) second
    → OnOk r (new ≡ out ++ ((a ++ b) ++ z))
in-three r out first second new a b z p q e = pushed r new (second ++ z) second e
    (ap (λ l. l ++ z) (q ∙ (ap (λ l. l ++ b) p ∙ append_assoc out a b)) ∙ append_assoc out (a ++ b) z)
